-- Moves of a reader that are fine by what is tested, and numbers.
use Rattle.std.proofs.Common.{◌≡◌, ℕ, ◌+◌, ◌-◌, ◌*◌, ◌<◌, ◌==◌, Bool, true, false, ltb, List, length, Some, None, Option, refl, ◌∙◌, lit<}
use Rattle.std.specs.Option.{option_map}
use Rattle.std.proofs.lemmas.Bool.{and_from, lt-ltb, ltb-true}
use Rattle.std.proofs.lemmas.List.Quantifiers.{position-Some}
use Rattle.std.proofs.lemmas.Iterator.Adapters.{position_from-zero}
use Rattle.timeline.specs.Lists.{pick, none_of}
use Rattle.patterns.specs.declared.fields.Field.{Field}
use Rattle.patterns.specs.declared.fields.Field.TheVariants.{Who, Value, Time}
use Rattle.patterns.specs.declared.fields.Sign.{Sign}
use Rattle.patterns.specs.declared.fields.Sign.TheVariants.{Equal, Below, NotBelow}
use Rattle.patterns.specs.Codes.{field_number, sign_number}
use Rattle.syntax.specs.declared.words.Word.TheVariants.{Of}
use Rattle.syntax.specs.declared.places.Head.{Head}
use Rattle.syntax.specs.declared.places.Slot.{Slot}
use Rattle.syntax.specs.declared.places.Slot.TheVariants.{StepKind, NeverKind, Other, Window, Lateness}
use Rattle.syntax.specs.declared.places.Part.TheVariants.{Own, OwnDot, What, How, Against, OtherDot, OtherField}
use Rattle.syntax.specs.declared.places.Place.{Place}
use Rattle.syntax.specs.declared.places.Place.TheVariants.{Item, Number, StepName, NeverName, Named, Testing, Tested, LateWord, Whole}
use Rattle.syntax.specs.declared.places.Stand.{Stand}
use Rattle.syntax.specs.declared.places.Stand.TheVariants.{At, Rest, Digits}
use Rattle.patterns.specs.declared.comparing.Comparison.{Comparison}
use Rattle.syntax.specs.declared.moves.Act.TheVariants.{Test}
use Rattle.syntax.specs.declared.moves.Move.{Move}
use Rattle.syntax.specs.Words.{spelling}
use Rattle.syntax.specs.Names.{step_named}
use Rattle.syntax.specs.Rules.{goes, only_if, slot_of, limit, counted, counts, numbered, settle}
use Rattle.syntax.specs.Reading.{Built, with_act}
use Rattle.syntax.specs.Sound.{FineHead, FineSlot, FinePlace, FineStand, FineMove, Fits}

-- MOVES BY TESTS

module _ (w : Built) where
  pub fits_if : (b : Bool) (m : Move) → (b ≡ true → FineMove w m) → Fits w (only_if b m)
  fits_if true m f = f refl
  fits_if false m f = tt

  pub fits_pick : (b : Bool) (x y : Option Move) → (b ≡ true → Fits w x) → Fits w y → Fits w (pick b x y)
  fits_pick true x y f g = f refl
  fits_pick false x y f g = g

  pub fits_mapped : {A : Type 0} (o : Option A) (f : A → Move) → ((a : A) → o ≡ Some a → FineMove w (f a)) → Fits w (option_map f o)
  fits_mapped None f g = tt
  fits_mapped (Some a) f g = g a refl

  -- nothing is added
  pub going : (s : Stand) → FineStand s w → FineMove w (goes s)
  going s h = record { act = tt; stand = h }

-- NAMES AND CODES

pub named_below : (b i : ℕ) (xs : List ℕ) → step_named b xs ≡ Some i → i < length xs
named_below b i xs e = (position-Some (λ x. x == b) xs i 0 (position_from-zero (λ x. x == b) xs ∙ e)).0

pub field_few : (f : Field) → ltb (field_number f) 3 ≡ true
field_few Who = refl
field_few Value = refl
field_few Time = refl

pub sign_few : (s : Sign) → ltb (sign_number s) 3 ≡ true
sign_few Equal = refl
sign_few Below = refl
sign_few NotBelow = refl

pub field_long : (f : Field) → 1 < length (spelling (Of f))
field_long Who = lit< tt
field_long Value = lit< tt
field_long Time = lit< tt

-- NUMBERS

pub fits_counted : (w : Built) (n : Slot) (v b : ℕ) → FineSlot n w → Fits w (counted n v b)
fits_counted w n v b h = fits_if w _ _ (λ e. going w (Digits n (v * 10 + (b - 48))) (h, ltb-true _ _ e))

pub fits_digit : (w : Built) (p : Place) (b : ℕ) → FinePlace p w → Fits w (counts (slot_of p (length w.names)) b)
fits_digit w Item b h = by (ltb (length w.names) 6) refl
  where
    by : (t : Bool) → ltb (length w.names) 6 ≡ t → Fits w (counts (pick t (Some StepKind) None) b)
    by true e = fits_counted w StepKind 0 b (ltb-true _ _ e, h.0)
    by false e = tt
fits_digit w (Number n) b h = fits_counted w n 0 b h
fits_digit w (StepName k) b h = tt
fits_digit w (NeverName k) b h = tt
fits_digit w (Named g) b h = tt
fits_digit w (Testing g Own) b h = tt
fits_digit w (Testing g OwnDot) b h = tt
fits_digit w (Testing g What) b h = tt
fits_digit w (Testing g (How f)) b h = tt
fits_digit w (Testing g (Against f s)) b h = fits_counted w (Other g f s) 0 b (h.0, h.1, h.2)
fits_digit w (Testing g (OtherDot f s i)) b h = tt
fits_digit w (Testing g (OtherField f s i)) b h = tt
fits_digit w (Tested g) b h = tt
fits_digit w (LateWord t) b h = tt
fits_digit w (Whole t l) b h = tt

-- what was said of a head holds with one more test
pub head_kept : (w : Built) (h : Head) (t : Comparison) → FineHead h w → FineHead h (with_act w (Test t))
head_kept w h t f = record { kind = f.kind; steps = f.steps; nevers = f.nevers }

numbered_fine : (w : Built) (n : Slot) (v : ℕ) → FineSlot n w → v < limit n → FineMove w (numbered n v)
unfolding none_of
numbered_fine w StepKind v h l = going w (At (StepName v)) (l, h.0, h.1)
numbered_fine w NeverKind v h l = going w (At (NeverName v)) (l, h.0, h.1, h.2)
numbered_fine w (Other g f s) v h l =
    record {
      act = (h.2, and_from _ _ (and_from _ _ (field_few f) (sign_few s)) (lt-ltb _ _ l));
      stand = (head_kept w g (record { what = f; sign = s; step = None; other = v }) h.0, h.1);
    }
numbered_fine w Window v h l = going w (At (LateWord v)) (l, h)
numbered_fine w (Lateness t) v h l = going w (At (Whole t v)) (h.0, l, h.1)

pub settle_fine : (w : Built) (s : Stand) → FineStand s w → FineMove w (settle s)
settle_fine w (At p) h = going w (At p) h
settle_fine w (Rest x i p) h = going w (Rest x i p) h
settle_fine w (Digits n v) h = numbered_fine w n v h.0 h.1
