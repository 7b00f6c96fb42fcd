-- Wherever a reader stands, some text goes on to a pattern.
use Rattle.std.proofs.Common.{◌≡◌, ℕ, zero, suc, ◌+◌, ◌-◌, ◌<◌, Bool, true, false, eqb, ltb, [], ◌∷◌, length, get_or, drop, Some, None, codes, refl, ap, ◌∙◌, add-one, arith, lit<, drop_of_length-le, drop-cons}
use Rattle.std.proofs.lemmas.Bool.{lt-ltb, le-ltb, ltb-true, ltb-false, eq-eqb}
use Rattle.timeline.specs.Lists.{pick}
use Rattle.patterns.specs.declared.fields.Field.{Field}
use Rattle.patterns.specs.declared.fields.Field.TheVariants.{Who}
use Rattle.patterns.specs.declared.fields.Sign.{Sign}
use Rattle.patterns.specs.declared.fields.Sign.TheVariants.{Equal}
use Rattle.syntax.specs.declared.words.Word.{Word}
use Rattle.syntax.specs.declared.places.Head.{Head}
use Rattle.syntax.specs.declared.places.Slot.{Slot}
use Rattle.syntax.specs.declared.places.Slot.TheVariants.{StepKind, NeverKind, Other, Window, Lateness}
use Rattle.syntax.specs.declared.places.Part.{Part}
use Rattle.syntax.specs.declared.places.Part.TheVariants.{Own, OwnDot, What, How, Against, OtherDot, OtherField}
use Rattle.syntax.specs.declared.places.Place.{Place}
use Rattle.syntax.specs.declared.places.Place.TheVariants.{Item, Number, StepName, NeverName, Named, Testing, Tested, LateWord, Whole}
use Rattle.syntax.specs.declared.places.Stand.{Stand}
use Rattle.syntax.specs.declared.places.Stand.TheVariants.{At, Rest, Digits}
use Rattle.patterns.specs.declared.comparing.Comparison.{Comparison}
use Rattle.syntax.specs.declared.moves.Act.TheVariants.{Test}
use Rattle.syntax.specs.Words.{letter, digit, spelling}
use Rattle.syntax.specs.Rules.{goes, ended, spelled}
use Rattle.syntax.specs.Reading.{Built, with_never, with_act, ready, next, runs}
use Rattle.syntax.specs.Typed.{sign_text}
use Rattle.syntax.specs.Sound.{FineHead, FineSlot, FinePlace, FineStand}
use Rattle.syntax.proofs.Moving.{head_kept}
use Rattle.syntax.proofs.Letters.{lettered_by}
use Rattle.syntax.proofs.Passing.{st, Passes, then, pass_byte, pass_begin, zero_digit}
use Rattle.syntax.proofs.TypedTests.{own_dot, own_field, own_sign, other_dot, other_field}
use Rattle.syntax.proofs.Endings.{Live, live_by, live_whole, live_late_digits, live_lateness, live_late_word, live_window_digits, live_window, live_some, named_end, tested_end, live_step_name, live_step_digits, live_new, live_ended, never_end, never_digits_end}

-- TESTS

module _ (h : Head) (w : Built) (f : Field) (s : Sign) where
  other_end : (v : ℕ) → Passes (st (Digits (Other h f s) v) w) (codes ";") (st (At Item) (with_act (with_act w (Test (record { what = f; sign = s; step = None; other = v }))) (ended h)))
  unfolding runs
  other_end v = record { on = λ at rest. (at + 1, refl) }

module _ (h : Head) (w : Built) (fine : FineHead h w) where
  live_tested : Live (st (At (Tested h)) w)
  live_tested = live_by (codes ";") (tested_end h w) (live_ended h w fine)

  live_other_digits : (f : Field) (s : Sign) (v : ℕ) → Live (st (Digits (Other h f s) v) w)
  live_other_digits f s v =
      let t : Comparison = record { what = f; sign = s; step = None; other = v } in
      live_by (codes ";") (other_end h w f s v) (live_ended h (with_act w (Test t)) (head_kept w h t fine))

  live_against : (f : Field) (s : Sign) → Live (st (At (Testing h (Against f s))) w)
  live_against f s = live_by (codes "0") (zero_digit (Testing h (Against f s)) (Other h f s) w refl (lit< tt)) (live_other_digits f s 0)

  live_how : (f : Field) → Live (st (At (Testing h (How f))) w)
  live_how f = live_by (sign_text Equal) (own_sign w h f Equal) (live_against f Equal)

  live_what : Live (st (At (Testing h What)) w)
  live_what = live_by (codes "who") (own_field w h Who) (live_how Who)

  live_own_dot : Live (st (At (Testing h OwnDot)) w)
  live_own_dot = live_by (codes ".") (own_dot w h) live_what

  live_own : letter h.name ≡ true → Live (st (At (Testing h Own)) w)
  live_own e =
      let is = lettered_by h.name e in
      let it : eqb h.name h.name ≡ true = eq-eqb _ _ refl in
      live_by (h.name ∷ []) (pass_begin h.name (Testing h Own) w (goes (At (Testing h OwnDot))) is.digit is.white (rw it)) live_own_dot

module _ (h : Head) (w : Built) (fine : FineHead h w) (f : Field) (s : Sign) (i : ℕ) where
  live_other_field : Live (st (At (Testing h (OtherField f s i))) w)
  live_other_field =
      let t : Comparison = record { what = f; sign = s; step = Some i; other = 0 } in
      live_by (codes "who") (other_field w h f s i Who) (live_tested h (with_act w (Test t)) (head_kept w h t fine))

  live_other_dot : Live (st (At (Testing h (OtherDot f s i))) w)
  live_other_dot = live_by (codes ".") (other_dot w h f s i) live_other_field

live_part : (h : Head) (p : Part) (w : Built) → FineHead h w → letter h.name ≡ true → Live (st (At (Testing h p)) w)
live_part h Own w f e = live_own h w f e
live_part h OwnDot w f e = live_own_dot h w f
live_part h What w f e = live_what h w f
live_part h (How g) w f e = live_how h w f g
live_part h (Against g s) w f e = live_against h w f g s
live_part h (OtherDot g s i) w f e = live_other_dot h w f g s i
live_part h (OtherField g s i) w f e = live_other_field h w f g s i

-- EVERY PLACE

live_slot : (n : Slot) (w : Built) → FineSlot n w → Live (st (At (Number n)) w)
live_slot StepKind w h = live_by (codes "0") (zero_digit (Number StepKind) StepKind w refl (lit< tt)) (live_step_digits w h.0 0)
live_slot NeverKind w h =
    live_by (codes "0") (zero_digit (Number NeverKind) NeverKind w refl (lit< tt)) (live_by (codes ";") (never_digits_end 0 w) (live_new (with_never w 0) h.0))
live_slot (Other g f s) w h = live_by (codes "0") (zero_digit (Number (Other g f s)) (Other g f s) w refl (lit< tt)) (live_other_digits g w h.0 f s 0)
live_slot Window w h = live_window w
live_slot (Lateness t) w h = live_lateness w t

live_digits : (n : Slot) (v : ℕ) (w : Built) → FineSlot n w → Live (st (Digits n v) w)
live_digits StepKind v w h = live_step_digits w h.0 v
live_digits NeverKind v w h = live_by (codes ";") (never_digits_end v w) (live_new (with_never w v) h.0)
live_digits (Other g f s) v w h = live_other_digits g w h.0 f s v
live_digits Window v w h = live_window_digits w v
live_digits (Lateness t) v w h = live_late_digits w t v

live_item : (w : Built) → FinePlace Item w → Live (st (At Item) w)
live_item w h = by (ltb (length w.names) 6) refl
  where
    by : (t : Bool) → ltb (length w.names) 6 ≡ t → Live (st (At Item) w)
    by true e = live_new w (ltb-true _ _ e)
    by false e = let l = ltb-false (length w.names) 6 e in live_some w (omega arith) (h.1 l)

live_place : (p : Place) (w : Built) → FinePlace p w → Live (st (At p) w)
live_place Item w h = live_item w h
live_place (Number n) w h = live_slot n w h
live_place (StepName k) w h = live_step_name w h.1 k
live_place (NeverName k) w h = live_by (codes ";") (never_end k w) (live_new (with_never w k) h.1)
live_place (Named g) w h = live_by (codes ";") (named_end g w) (live_ended g w h.0)
live_place (Testing g p) w h = live_part g p w h.0 h.1
live_place (Tested g) w h = live_tested g w h.0
live_place (LateWord t) w h = live_late_word w t
live_place (Whole t l) w h = live_whole w t l

-- WORDS

same_pick : {A : Type 0} (t : Bool) (a : A) → pick t a a ≡ a
same_pick true a = refl
same_pick false a = refl

-- the rest of a word, of which so many bytes are left
word_pass : (x : Word) (p : Place) (w : Built) (k i : ℕ) → i + k ≡ length (spelling x) → Passes (st (spelled x i p) w) (drop i (spelling x)) (st (At p) w)
word_pass x p w zero i e =
    let l : ltb i (length (spelling x)) ≡ false = le-ltb _ _ (omega arith) in
    let none : drop i (spelling x) ≡ [] = drop_of_length-le (spelling x) (omega arith) in
    rw (l, none) (record { on = λ at rest. (at, refl) })
word_pass x p w (suc k) i e =
    let m : i < length (spelling x) = omega arith in
    let l : ltb i (length (spelling x)) ≡ true = lt-ltb _ _ m in
    let b = get_or (spelling x) i 0 in
    let it : eqb b b ≡ true = eq-eqb _ _ refl in
    let s = st (Rest x i p) w in
    let same : ready b s ≡ s = same_pick (digit b) s in
    let step : next b s ≡ Some (st (spelled x (i + 1) p) w) = rw (l, it) in
    rw l (rw (drop-cons (spelling x) i 0, ← add-one i) (then (b ∷ []) _ (pass_byte b s (st (spelled x (i + 1) p) w) (ap (next b) same ∙ step)) (word_pass x p w k (i + 1) (omega arith))))

pub live : (s : Stand) (w : Built) → FineStand s w → Live (st s w)
live (At p) w h = live_place p w h
live (Rest x i p) w h =
    let l : ltb i (length (spelling x)) ≡ true = lt-ltb _ _ h.1 in
    let pass = word_pass x p w (length (spelling x) - i) i (omega (arith, h.1)) in
    live_by (drop i (spelling x)) (rw l at pass) (live_place p w h.0)
live (Digits n v) w h = live_digits n v w h.0
