-- What a step asks of the position chosen at a depth, where m events stand at the steps before, in the order in which it is asked.
use Rattle.std.proofs.Common.{◌≡◌, ℕ, ◌+◌, ◌-◌, ◌<◌, ◌≤◌, true, false, not, leb, List, length, get_or, take, drop, sym, ap, ◌∙◌, arith, length-take, length-drop}
use Rattle.std.proofs.lemmas.Bool.{eq-eqb, ne_eqb}
use Rattle.timeline.specs.declared.events.Event.{Event}
use Rattle.timeline.specs.Lists.{each}
use Rattle.timeline.specs.Order.{nothing, nth}
use Rattle.patterns.specs.Patterns.{Step, fits_step}
use Rattle.rows.specs.Held.{Along}
use Rattle.rows.specs.Finding.{fits}
use Rattle.rows.proofs.Nevers.{broken}
use Rattle.rows.proofs.Fitting.{place_before, fits_not, fits_first, fits_late, fits_else}
use Rattle.rows.proofs.LevelOk.{earlier_stand}

module _ (h : List Event) (w : ℕ) (s : Step) (at : List ℕ) (row : List Event) (d m i : ℕ) (la : length at ≡ 6) (lr : length row ≡ 6) (a : Along h at row (d + 1)) (here : i ≤ d) (before : m ≤ d) (few : d < 6) where
  abbrev places : List ℕ
  places = take m (drop 1 at)

  abbrev earlier : List Event
  earlier = take (m + 1 - 1) (drop 1 row)

  abbrev e : Event
  e = get_or row i nothing

  stand : earlier ≡ each (nth h) places
  stand = earlier_stand h at row d m la lr a before few

  is : e ≡ nth h (get_or at i 0)
  is = a.are i (omega arith)

  long : length places ≡ m
  long = omega (arith, length-take m (drop 1 at), length-drop 1 at)

  pub tried_not : fits_step earlier e s.kind s.tests ≡ false → false ≡ fits h w s places (get_or at i 0)
  tried_not t = fits_not h w s places earlier (get_or at i 0) e stand is t

  module _ (t : fits_step earlier e s.kind s.tests ≡ true) where
    pub tried_first : m ≡ 0 → true ≡ fits h w s places (get_or at i 0)
    tried_first z = fits_first h w s places earlier (get_or at i 0) e stand is t (eq-eqb (length places) 0 (omega (arith, long)))

    module _ (z : m ≡ 0 → ⊥) where
      some : 0 < length places
      some = omega (arith, long)

      pub tried_late : leb e.time ((get_or earlier 0 nothing).time + w) ≡ false → false ≡ fits h w s places (get_or at i 0)
      tried_late l = fits_late h w s places earlier (get_or at i 0) e stand is t (ne_eqb (length places) 0 (λ q. omega (arith, some))) some l

      pub tried_else : leb e.time ((get_or earlier 0 nothing).time + w) ≡ true → not (broken h earlier s (get_or at m 0 + 1) (get_or at i 0)) ≡ fits h w s places (get_or at i 0)
      tried_else l =
          let p = place_before at m (omega arith) (omega arith) in
          ap (λ b. not (broken h earlier s (b + 1) (get_or at i 0))) (sym p)
          ∙ fits_else h w s places earlier (get_or at i 0) e stand is t (ne_eqb (length places) 0 (λ q. omega (arith, some))) some l
