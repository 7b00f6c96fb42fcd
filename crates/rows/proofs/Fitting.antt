-- What a step asks of a position, in the order in which it is asked.
use Rattle.std.proofs.Common.{◌≡◌, ℕ, ◌+◌, ◌-◌, ◌<◌, true, false, not, ◌&&◌, eqb, leb, List, length, get_or, take, drop, sym, refl, ap, ◌∙◌, add-one, arith, length-take, length-drop, get_or-take, get_or-drop}
use Rattle.timeline.specs.declared.events.Event.{Event}
use Rattle.timeline.specs.Lists.{pick, each}
use Rattle.timeline.specs.Order.{nothing, nth}
use Rattle.timeline.proofs.Order.{nth_is}
use Rattle.patterns.specs.Patterns.{Step, fits_step}
use Rattle.rows.specs.Finding.{fits}
use Rattle.rows.proofs.Positions.{nth_each}
use Rattle.rows.proofs.Passing.{none_of_is}
use Rattle.rows.proofs.Nevers.{broken}

-- the position before the next one
abbrev pub last_place : List ℕ → ℕ
last_place places = get_or places (length places - 1) 0

-- the last of m that are taken behind the first
pub taken_last : (at : List ℕ) (m : ℕ) → 0 < m → get_or (take m (drop 1 at)) (m - 1) 0 ≡ get_or at m 0
taken_last at m k =
    let q : 1 + (m - 1) ≡ m = omega arith in
    get_or-take m (drop 1 at) (m - 1) 0 (omega arith) ∙ get_or-drop 1 at (m - 1) 0 ∙ ap (λ j. get_or at j 0) q

-- of the steps before one
pub place_before : (at : List ℕ) (m : ℕ) → 0 < m → m < length at → last_place (take m (drop 1 at)) ≡ get_or at m 0
place_before at m k l =
    let n : length (take m (drop 1 at)) ≡ m = omega (arith, length-take m (drop 1 at), length-drop 1 at) in
    ap (λ j. get_or (take m (drop 1 at)) (j - 1) 0) n ∙ taken_last at m k

module _ (h : List Event) (w : ℕ) (s : Step) (places : List ℕ) (earlier : List Event) (p : ℕ) (e : Event) (st : earlier ≡ each (nth h) places) (is : e ≡ nth h p) where
  fits_is : fits h w s places p
      ≡ (fits_step earlier e s.kind s.tests
      && pick (eqb (length places) 0) true (leb e.time ((nth h (get_or places 0 0)).time + w) && not (broken h earlier s (last_place places + 1) p)))
  unfolding fits
  fits_is = rw (none_of_is places, st, is, add-one (last_place places)) refl

  -- it does not fit by itself
  pub fits_not : fits_step earlier e s.kind s.tests ≡ false → false ≡ fits h w s places p
  fits_not a = sym (fits_is ∙ rw a refl)

  module _ (a : fits_step earlier e s.kind s.tests ≡ true) where
    -- it is the first
    pub fits_first : eqb (length places) 0 ≡ true → true ≡ fits h w s places p
    fits_first b = sym (fits_is ∙ rw (a, b) refl)

    module _ (b : eqb (length places) 0 ≡ false) (some : 0 < length places) where
      first_time : (get_or earlier 0 nothing).time ≡ (nth h (get_or places 0 0)).time
      first_time = ap (λ x. x.time) (sym (nth_is earlier 0) ∙ ap (λ es. nth es 0) st ∙ nth_each h places 0 some)

      -- it is out of the window
      pub fits_late : leb e.time ((get_or earlier 0 nothing).time + w) ≡ false → false ≡ fits h w s places p
      fits_late t = let t₁ = rw first_time at t in sym (fits_is ∙ rw (a, b, t₁) refl)

      -- it is all up to what is between
      pub fits_else : leb e.time ((get_or earlier 0 nothing).time + w) ≡ true → not (broken h earlier s (last_place places + 1) p) ≡ fits h w s places p
      fits_else t = let t₁ = rw first_time at t in sym (fits_is ∙ rw (a, b, t₁) refl)
