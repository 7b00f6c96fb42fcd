-- Every move of a reader is fine where it stands.
use Rattle.std.proofs.Common.{◌≡◌, ℕ, ◌+◌, ◌<◌, Bool, true, false, eqb, ltb, length, Some, refl, arith, lit<}
use Rattle.std.proofs.lemmas.Bool.{and_parts, and_from, lt-ltb, ltb-true}
use Rattle.timeline.specs.Lists.{pick, every, none_of}
use Rattle.patterns.specs.declared.fields.Field.{Field}
use Rattle.patterns.specs.declared.fields.Sign.{Sign}
use Rattle.patterns.specs.declared.fields.Sign.TheVariants.{Equal, Below, NotBelow}
use Rattle.patterns.specs.Codes.{field_number}
use Rattle.syntax.specs.declared.words.Word.{Word}
use Rattle.syntax.specs.declared.words.Word.TheVariants.{Not, Where, And, Within, Late, Of, AtLeast}
use Rattle.syntax.specs.declared.places.Role.{Role}
use Rattle.syntax.specs.declared.places.Role.TheVariants.{Step, Never}
use Rattle.syntax.specs.declared.places.Head.{Head}
use Rattle.syntax.specs.declared.moves.Act.TheVariants.{EndNever}
use Rattle.syntax.specs.declared.places.Slot.TheVariants.{NeverKind, Window, Lateness}
use Rattle.syntax.specs.declared.places.Part.{Part}
use Rattle.syntax.specs.declared.places.Part.TheVariants.{Own, OwnDot, What, How, Against, OtherDot, OtherField}
use Rattle.syntax.specs.declared.places.Place.{Place}
use Rattle.syntax.specs.declared.places.Place.TheVariants.{Item, Number, StepName, NeverName, Named, Testing, Tested, LateWord, Whole}
use Rattle.syntax.specs.declared.places.Stand.{Stand}
use Rattle.syntax.specs.declared.places.Stand.TheVariants.{At, Rest, Digits}
use Rattle.syntax.specs.Words.{white, digit, spelling, field_begun}
use Rattle.syntax.specs.Names.{step_named}
use Rattle.syntax.specs.Rules.{adds, ends, ended_as, ended, begins_item, begins_name, begins_sign, begins_part, begins, spelled, steps_on}
use Rattle.syntax.specs.Reading.{Built}
use Rattle.syntax.specs.Sound.{Fine, FineRole, FineHead, FinePlace, FineStand, FineMove, Fits}
use Rattle.syntax.proofs.Moving.{fits_if, fits_pick, fits_mapped, going, named_below, field_few, sign_few, field_long, head_kept, fits_counted, fits_digit}

-- NAMES, WORDS AND MARKS

module _ (w : Built) (b : ℕ) where
  fits_item : FinePlace Item w → Fits w (begins_item (length w.names) (length w.nevers) b)
  fits_item h =
      fits_pick w (eqb b 110) _ _
      (λ _. fits_if w _ _ (λ e. let t = and_parts _ _ e in going w (Rest Not 1 (Number NeverKind)) ((ltb-true _ _ t.0, ltb-true _ _ t.1, h.0), lit< tt)))
      (
      fits_pick w (eqb b 119) _ _
      (λ _. fits_if w _ _ (λ e. let t = and_parts _ _ e in going w (Rest Within 1 (Number Window)) (ltb-true _ _ t.0, lit< tt))) tt
      )

  fits_name : (role : Role) (k : ℕ) → k < 65536 → length w.names < 6 → FineRole role (length w.nevers) → length w.tests ≡ 0 → Fits w (begins_name role k w.names b)
  fits_name role k l m n e = fits_if w _ _ (λ t. going w (At (Named (record { role = role; kind = k; name = b }))) (record { kind = l; steps = m; nevers = n }, (and_parts _ _ t).0, e))

  ending_never : (k : ℕ) → k < 65536 → length w.names < 6 → length w.nevers < 2 → FineMove w (ends (EndNever k))
  ending_never k l m n = record { act = (l, m, n); stand = (refl, λ few. absurd (omega arith)) }

  ending : (h : Head) → FineHead h w → FineMove w (ends (ended h))
  ending h f = by h.role f.nevers
    where
      by : (r : Role) → FineRole r (length w.nevers) → FineMove w (ends (ended_as r h.kind h.name))
      by Step n = record { act = (f.kind, f.steps); stand = (refl, λ _. refl) }
      by Never n = ending_never h.kind f.kind f.steps n

  fits_sign : (h : Head) (f : Field) → FinePlace (Testing h Own) w → Fits w (begins_sign h f b)
  fits_sign h f g =
      fits_pick w (eqb b 61) _ _ (λ _. going w (At (Testing h (Against f Equal))) g)
      (
      fits_pick w (eqb b 60) _ _ (λ _. going w (At (Testing h (Against f Below))) g)
      (fits_pick w (eqb b 62) _ _ (λ _. going w (Rest AtLeast 1 (Testing h (Against f NotBelow))) (g, lit< tt)) tt)
      )

  -- a test with a field of an earlier step
  back_fine : (h : Head) (f : Field) (s : Sign) (i : ℕ) (g : Field) → Fine w → FinePlace (Testing h Own) w → i < length w.names
      → FineMove w (adds (record { what = f; sign = s; step = Some i; other = field_number g }) (Rest (Of g) 1 (Tested h)))
  unfolding none_of every
  back_fine h f s i g fine p m =
      let below : ltb i (length w.steps) ≡ true = lt-ltb _ _ (rw (← fine.names) m) in
      record {
        act = (p.2, and_from _ _ (and_from _ _ (field_few f) (sign_few s)) (and_from _ _ (and_from _ _ below refl) (field_few g)));
        stand = ((head_kept w h (record { what = f; sign = s; step = Some i; other = field_number g }) p.0, p.1), field_long g);
      }

  fits_part : (h : Head) (p : Part) → Fine w → FinePlace (Testing h p) w → Fits w (begins_part h p w.names b)
  fits_part h Own fine g = fits_if w _ _ (λ _. going w (At (Testing h OwnDot)) (g.0, g.1, g.2, tt))
  fits_part h OwnDot fine g = fits_if w _ _ (λ _. going w (At (Testing h What)) (g.0, g.1, g.2, tt))
  fits_part h What fine g = fits_mapped w (field_begun b) _ (λ f _. going w (Rest (Of f) 1 (Testing h (How f))) ((g.0, g.1, g.2, tt), field_long f))
  fits_part h (How f) fine g = fits_sign h f (g.0, g.1, g.2, tt)
  fits_part h (Against f s) fine g =
      fits_mapped w (step_named b w.names) _ (λ i e. going w (At (Testing h (OtherDot f s i))) (g.0, g.1, g.2, named_below b i w.names e))
  fits_part h (OtherDot f s i) fine g = fits_if w _ _ (λ _. going w (At (Testing h (OtherField f s i))) g)
  fits_part h (OtherField f s i) fine g = fits_mapped w (field_begun b) _ (λ x _. back_fine h f s i x fine (g.0, g.1, g.2, tt) g.3)

  fits_begins : (p : Place) → Fine w → FinePlace p w → Fits w (begins p w.names (length w.nevers) (length w.tests) b)
  fits_begins Item fine h = fits_item h
  fits_begins (Number n) fine h = tt
  fits_begins (StepName k) fine h = fits_name Step k h.0 h.1 tt h.2
  fits_begins (NeverName k) fine h =
      fits_pick w (eqb b 59) _ _ (λ _. ending_never k h.0 h.1 h.2)
      (fits_name Never k h.0 h.1 h.2 h.3)
  fits_begins (Named g) fine h =
      fits_pick w (eqb b 59) _ _ (λ _. ending g h.0) (fits_if w _ _ (λ _. going w (Rest Where 1 (Testing g Own)) ((h.0, h.1, omega (arith, h.2), tt), lit< tt)))
  fits_begins (Testing g p) fine h = fits_part g p fine h
  fits_begins (Tested g) fine h =
      fits_pick w (eqb b 59) _ _ (λ _. ending g h.0)
      (fits_if w _ _ (λ e. going w (Rest And 1 (Testing g Own)) ((h.0, h.1, ltb-true _ _ (and_parts _ _ e).1, tt), lit< tt)))
  fits_begins (LateWord t) fine h = fits_if w _ _ (λ _. going w (Rest Late 1 (Number (Lateness t))) (h, lit< tt))
  fits_begins (Whole t l) fine h = tt

  -- A BYTE

  fits_spelled : (x : Word) (i : ℕ) (p : Place) → FinePlace p w → FineStand (spelled x i p) w
  fits_spelled x i p h = by (ltb i (length (spelling x))) refl
    where
      by : (t : Bool) → ltb i (length (spelling x)) ≡ t → FineStand (pick t (Rest x i p) (At p)) w
      by true e = (h, ltb-true _ _ e)
      by false e = h

  pub fits_step : (s : Stand) → Fine w → FineStand s w → Fits w (steps_on s w.names (length w.nevers) (length w.tests) b)
  fits_step (At p) fine h =
      fits_pick w (digit b) _ _ (λ _. fits_digit w p b h) (fits_pick w (white b) _ _ (λ _. going w (At p) h) (fits_begins p fine h))
  fits_step (Rest x i p) fine h = fits_if w _ _ (λ _. going w (spelled x (i + 1) p) (fits_spelled x (i + 1) p h.0))
  fits_step (Digits n v) fine h = fits_pick w (digit b) _ _ (λ _. fits_counted w n v b h.0) tt
