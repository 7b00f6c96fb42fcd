-- A test that is written is read as itself.
use Rattle.std.proofs.Common.{◌≡◌, ℕ, zero, suc, ◌+◌, ◌<◌, ◌≤◌, true, false, ◌&&◌, eqb, ltb, List, [], ◌∷◌, ◌++◌, length, Some, codes, refl, ap, ◌∙◌, subst, append_assoc, arith}
use Rattle.std.proofs.lemmas.Bool.{and_parts, eq-eqb, eqb-true, ltb-true}
use Rattle.timeline.specs.Lists.{pick, every, none_of, run}
use Rattle.patterns.specs.declared.fields.Field.{Field}
use Rattle.patterns.specs.declared.fields.Field.TheVariants.{Who, Value, Time}
use Rattle.patterns.specs.declared.fields.Sign.{Sign}
use Rattle.patterns.specs.declared.fields.Sign.TheVariants.{Equal, Below, NotBelow}
use Rattle.patterns.specs.Codes.{field_number, field_numbered, sign_number, sign_numbered}
use Rattle.patterns.specs.Patterns.{Test}
use Rattle.patterns.specs.Limits.{a_test}
use Rattle.syntax.specs.declared.words.Word.TheVariants.{Of}
use Rattle.syntax.specs.declared.places.Head.{Head}
use Rattle.syntax.specs.declared.places.Slot.TheVariants.{Other}
use Rattle.syntax.specs.declared.places.Part.TheVariants.{Own, OwnDot, What, How, Against, OtherDot, OtherField}
use Rattle.syntax.specs.declared.places.Place.TheVariants.{Testing, Tested}
use Rattle.syntax.specs.declared.places.Stand.TheVariants.{At}
use Rattle.syntax.specs.Words.{digit, spelling}
use Rattle.syntax.specs.Names.{step_named}
use Rattle.syntax.specs.Rules.{goes}
use Rattle.syntax.specs.Reading.{Built, State, runs}
use Rattle.syntax.specs.Typed.{step_letter, sign_text, typed_other, typed_test}
use Rattle.syntax.proofs.Letters.{Lettered, lettered, found}
use Rattle.syntax.proofs.Passing.{st, Passes, then, pass_begin, pass_number, pass_end}

-- from one state to another, if a byte stands behind that is no digit
pub record Before (s : State) (xs : List ℕ) (t : State) : Type 0 where
  pub on : (at b : ℕ) (rest : List ℕ) → digit b ≡ false → (n : ℕ) × (runs at s (xs ++ (b ∷ rest)) ≡ runs n t (b ∷ rest))

pub before : {s t : State} {xs : List ℕ} → Passes s xs t → Before s xs t
before p = record { on = λ at b rest d. p.on at (b ∷ rest) }

pub then_before : {s t u : State} (xs ys : List ℕ) → Passes s xs t → Before t ys u → Before s (xs ++ ys) u
then_before {s} xs ys p q =
    record { on = λ at b rest d. let x = p.on at (ys ++ (b ∷ rest)) in let y = q.on x.0 b rest d in (y.0, ap (runs at s) (append_assoc xs ys (b ∷ rest)) ∙ x.1 ∙ y.1) }

-- one test more
abbrev pub with_test : Built → Test → Built
with_test w t = record { steps = w.steps; names = w.names; nevers = w.nevers; tests = w.tests ++ (t ∷ []) }

field_coded : (n : ℕ) → ltb n 3 ≡ true → field_number (field_numbered n) ≡ n
field_coded zero e = refl
field_coded (suc zero) e = refl
field_coded (suc (suc zero)) e = refl
field_coded (suc (suc (suc n))) e = let l = ltb-true _ _ e in absurd (omega arith)

sign_coded : (n : ℕ) → ltb n 3 ≡ true → sign_number (sign_numbered n) ≡ n
sign_coded zero e = refl
sign_coded (suc zero) e = refl
sign_coded (suc (suc zero)) e = refl
sign_coded (suc (suc (suc n))) e = let l = ltb-true _ _ e in absurd (omega arith)

module _ (w : Built) (h : Head) where
  -- marks and words
  pub own_dot : Passes (st (At (Testing h OwnDot)) w) (codes ".") (st (At (Testing h What)) w)
  unfolding runs
  own_dot = record { on = λ at rest. (at + 1, refl) }

  pub own_field : (f : Field) → Passes (st (At (Testing h What)) w) (spelling (Of f)) (st (At (Testing h (How f))) w)
  unfolding runs
  own_field Who = record { on = λ at rest. (at + 1 + 1 + 1, refl) }
  own_field Value = record { on = λ at rest. (at + 1 + 1 + 1 + 1 + 1, refl) }
  own_field Time = record { on = λ at rest. (at + 1 + 1 + 1 + 1, refl) }

  pub own_sign : (f : Field) (s : Sign) → Passes (st (At (Testing h (How f))) w) (sign_text s) (st (At (Testing h (Against f s))) w)
  unfolding runs
  own_sign f Equal = record { on = λ at rest. (at + 1 + 1 + 1, refl) }
  own_sign f Below = record { on = λ at rest. (at + 1 + 1 + 1, refl) }
  own_sign f NotBelow = record { on = λ at rest. (at + 1 + 1 + 1 + 1, refl) }

  module _ (f : Field) (s : Sign) where
    pub other_dot : (i : ℕ) → Passes (st (At (Testing h (OtherDot f s i))) w) (codes ".") (st (At (Testing h (OtherField f s i))) w)
    unfolding runs
    other_dot i = record { on = λ at rest. (at + 1, refl) }

    pub other_field : (i : ℕ) (g : Field) → Passes (st (At (Testing h (OtherField f s i))) w) (spelling (Of g)) (st (At (Tested h)) (with_test w (record { what = field_number f; sign = sign_number s; step = i ∷ []; other = field_number g })))
    unfolding runs
    other_field i Who = record { on = λ at rest. (at + 1 + 1 + 1, refl) }
    other_field i Value = record { on = λ at rest. (at + 1 + 1 + 1 + 1 + 1, refl) }
    other_field i Time = record { on = λ at rest. (at + 1 + 1 + 1 + 1, refl) }

    -- what a field is compared with: a number, or a field of the step of a letter
    number_before : (v : ℕ) → v < 4611686018427387904
        → Before (st (At (Testing h (Against f s))) w) (typed_other [] v) (st (At (Tested h)) (with_test w (record { what = field_number f; sign = sign_number s; step = []; other = v })))
    number_before v l =
        record {
          on =
              λ at b rest d.
              let x = (pass_number (Testing h (Against f s)) (Other h f s) w refl v l (omega arith)).on at (b ∷ rest) in
              (x.0, x.1 ∙ pass_end (Other h f s) v b x.0 w rest d);
        }

    step_pass : (n i : ℕ) (g : Field) → w.names ≡ run 97 n → i < n → n ≤ 6
        → Passes (st (At (Testing h (Against f s))) w) ((97 + i) ∷ (codes "." ++ spelling (Of g))) (st (At (Tested h)) (with_test w (record { what = field_number f; sign = sign_number s; step = i ∷ []; other = field_number g })))
    step_pass n i g e l m =
        let letter = lettered (97 + i) (omega arith) (omega arith) in
        let zero-add : 0 + i ≡ i = omega arith in
        let there : step_named (97 + i) w.names ≡ Some i = rw e (found 0 97 n i l ∙ ap Some zero-add) in
        then ((97 + i) ∷ []) (codes "." ++ spelling (Of g))
        (pass_begin (97 + i) (Testing h (Against f s)) w (goes (At (Testing h (OtherDot f s i)))) letter.digit letter.white (rw there))
        (then (codes ".") (spelling (Of g)) (other_dot i) (other_field i g))

    other_before : (n : ℕ) (is : List ℕ) (x : ℕ) → w.names ≡ run 97 n → n ≤ 6
        → pick (none_of is) (ltb x 4611686018427387904) (eqb (length is) 1 && (every (λ i. ltb i n) is && ltb x 3)) ≡ true
        → Before (st (At (Testing h (Against f s))) w) (typed_other is x) (st (At (Tested h)) (with_test w (record { what = field_number f; sign = sign_number s; step = is; other = x })))
    unfolding none_of every
    other_before n [] x e m k = number_before x (ltb-true _ _ k)
    other_before n (i ∷ []) x e m k =
        let parts = and_parts (ltb i n && true) (ltb x 3) (and_parts (eqb 1 1) _ k).1 in
        let l = ltb-true i n (and_parts (ltb i n) true parts.0).0 in
        let same = field_coded x parts.1 in
        subst (λ y. Before (st (At (Testing h (Against f s))) w) (typed_other (i ∷ []) x) (st (At (Tested h)) (with_test w (record { what = field_number f; sign = sign_number s; step = i ∷ []; other = y })))) same
        (let letter : step_letter i ≡ 97 + i = omega arith in rw letter (before (step_pass n i (field_numbered x) e l m)))
    other_before n (i ∷ j ∷ is) x e m k = let l = eqb-true (length (i ∷ j ∷ is)) 1 (and_parts (eqb (length (i ∷ j ∷ is)) 1) _ k).0 in absurd (omega arith)

-- a whole test, of the step or never that has a letter
pub test_before : (w : Built) (h : Head) (n : ℕ) (t : Test) → Lettered h.name → w.names ≡ run 97 n → n ≤ 6 → a_test n t ≡ true
    → Before (st (At (Testing h Own)) w) (typed_test h.name t) (st (At (Tested h)) (with_test w t))
test_before w h n t own e m k =
    let f = field_numbered t.what in
    let s = sign_numbered t.sign in
    let parts = and_parts (ltb t.what 3 && ltb t.sign 3) (pick (none_of t.step) (ltb t.other 4611686018427387904) (eqb (length t.step) 1 && (every (λ i. ltb i n) t.step && ltb t.other 3))) k in
    let codes-of = and_parts (ltb t.what 3) (ltb t.sign 3) parts.0 in
    let what = field_coded t.what codes-of.0 in
    let sign = sign_coded t.sign codes-of.1 in
    let same : ◌≡◌ {A = Test} (record { what = field_number f; sign = sign_number s; step = t.step; other = t.other }) t =
    ap (λ x. record { what = x; sign = sign_number s; step = t.step; other = t.other }) what ∙ ap (λ x. record { what = t.what; sign = x; step = t.step; other = t.other }) sign in
    let it : eqb h.name h.name ≡ true = eq-eqb _ _ refl in
    subst (λ u. Before (st (At (Testing h Own)) w) (typed_test h.name t) (st (At (Tested h)) (with_test w u))) same
    (
    then_before (h.name ∷ []) _ (pass_begin h.name (Testing h Own) w (goes (At (Testing h OwnDot))) own.digit own.white (rw it))
    (then_before (codes ".") _ (own_dot w h) (then_before (spelling (Of f)) _ (own_field w h f) (then_before (sign_text s) (typed_other t.step t.other) (own_sign w h f s) (other_before w h f s n t.step t.other e m parts.1))))
    )
