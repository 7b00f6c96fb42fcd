-- A reader passes over a text: words and marks by computation, numbers digit by digit, names by what they are.
use Rattle.std.proofs.Common.{◌≡◌, ℕ, ◌+◌, ◌-◌, ◌*◌, ◌/◌, ◌%◌, ◌^◌, ◌<◌, ◌≤◌, true, false, ltb, List, [], ◌∷◌, ◌++◌, length, Some, None, codes, decimal, ap, ◌∙◌, append_assoc, arith, lit<}
use Rattle.std.proofs.lemmas.Fmt.{decimal_by_steps}
use Rattle.std.proofs.lemmas.Bool.{lt-ltb}
use Rattle.std.proofs.lemmas.Bool.Decides.{nat_tests}
use Rattle.syntax.specs.declared.places.Slot.{Slot}
use Rattle.syntax.specs.declared.places.Slot.TheVariants.{StepKind, NeverKind, Other, Window, Lateness}
use Rattle.syntax.specs.declared.places.Place.{Place}
use Rattle.syntax.specs.declared.places.Stand.{Stand}
use Rattle.syntax.specs.declared.places.Stand.TheVariants.{At, Digits}
use Rattle.syntax.specs.declared.moves.Move.{Move}
use Rattle.syntax.specs.Words.{white, digit}
use Rattle.syntax.specs.Rules.{slot_of, limit, numbered, begins}
use Rattle.syntax.specs.Reading.{Built, State, refused, moved, settled, ready, next, wanted, by_some, runs}

abbrev pub st : Stand → Built → State
st s w = record { stand = s; built = w }

-- from one state to another, whatever stands behind
pub record Passes (s : State) (xs : List ℕ) (t : State) : Type 0 where
  pub on : (at : ℕ) (rest : List ℕ) → (n : ℕ) × (runs at s (xs ++ rest) ≡ runs n t rest)

pub then : {s t u : State} (xs ys : List ℕ) → Passes s xs t → Passes t ys u → Passes s (xs ++ ys) u
then {s} xs ys p q =
    record { on = λ at rest. let a = p.on at (ys ++ rest) in let b = q.on a.0 rest in (b.0, ap (runs at s) (append_assoc xs ys rest) ∙ a.1 ∙ b.1) }

-- a byte that goes on
pub runs_on : (b : ℕ) (s t : State) (at : ℕ) → next b (ready b s) ≡ Some t → (rest : List ℕ) → runs at s (b ∷ rest) ≡ runs (at + 1) t rest
unfolding runs
runs_on b s t at e rest = ap (λ o. by_some o (refused at (wanted (settled (ready b s)))) (λ u. runs (at + 1) u rest)) e

-- a byte that does not go on is refused, whatever follows
pub runs_stuck : (b : ℕ) (s : State) (at : ℕ) (rest : List ℕ) → next b (ready b s) ≡ None → runs at s (b ∷ rest) ≡ refused at (wanted (settled (ready b s)))
unfolding runs
runs_stuck b s at rest e = ap (λ o. by_some o (refused at (wanted (settled (ready b s)))) (λ u. runs (at + 1) u rest)) e

-- one byte
pub pass_byte : (b : ℕ) (s t : State) → next b (ready b s) ≡ Some t → Passes s (b ∷ []) t
pass_byte b s t e = record { on = λ at rest. (at + 1, runs_on b s t at e rest) }

-- the first byte of a name, a word or a mark
pub pass_begin : (b : ℕ) (p : Place) (w : Built) (m : Move) → digit b ≡ false → white b ≡ false → begins p w.names (length w.nevers) (length w.tests) b ≡ Some m → Passes (st (At p) w) (b ∷ []) (moved w m)
pass_begin b p w m d v e = pass_byte b (st (At p) w) (moved w m) (rw (d, d, v, e))

-- NUMBERS

module _ (p : Place) (n : Slot) (w : Built) (here : slot_of p (length w.names) ≡ Some n) where
  first_digit : (v : ℕ) → v < 10 → v < limit n → Passes (st (At p) w) ((48 + v) ∷ []) (st (Digits n v) w)
  first_digit v l m =
      let d : digit (48 + v) ≡ true = grind (arith, nat_tests) in
      let e : 0 * 10 + (48 + v - 48) ≡ v = omega arith in
      let b : ltb v (limit n) ≡ true = lt-ltb _ _ m in
      pass_byte (48 + v) _ _ (rw (d, d, here, e, b))

  -- any number may begin with a zero
  pub zero_digit : 0 < limit n → Passes (st (At p) w) (codes "0") (st (Digits n 0) w)
  zero_digit m = first_digit 0 (lit< tt) m

more_digits : (n : Slot) (w : Built) (v : ℕ) → v < limit n → Passes (st (Digits n (v / 10)) w) ((48 + v % 10) ∷ []) (st (Digits n v) w)
more_digits n w v m =
    let d : digit (48 + v % 10) ≡ true = grind (arith, nat_tests) in
    let e : v / 10 * 10 + (48 + v % 10 - 48) ≡ v = omega arith in
    let b : ltb v (limit n) ≡ true = lt-ltb _ _ m in
    pass_byte (48 + v % 10) _ _ (rw (d, d, e, b))

pub pass_number : (p : Place) (n : Slot) (w : Built) → slot_of p (length w.names) ≡ Some n → (v : ℕ) → v < limit n → limit n ≤ 2 ^ 64 → Passes (st (At p) w) (decimal v) (st (Digits n v) w)
pass_number p n w here v l m =
    decimal_by_steps (λ v ds. v < limit n → Passes (st (At p) w) ds (st (Digits n v) w)) (λ v l m. first_digit p n w here v l m)
    (λ v ds g rec m. then ds ((48 + v % 10) ∷ []) (rec (omega arith)) (more_digits n w v m)) v (omega arith) l

-- a number ends before a byte that is no digit
pub pass_end : (n : Slot) (v b at : ℕ) (w : Built) (rest : List ℕ) → digit b ≡ false → runs at (st (Digits n v) w) (b ∷ rest) ≡ runs at (moved w (numbered n v)) (b ∷ rest)
unfolding runs
pass_end StepKind v b at w rest d = rw d
pass_end NeverKind v b at w rest d = rw d
pass_end (Other h f s) v b at w rest d = rw d
pass_end Window v b at w rest d = rw d
pass_end (Lateness t) v b at w rest d = rw d
