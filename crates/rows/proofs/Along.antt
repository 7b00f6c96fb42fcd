-- The rows that are found, place by place: at each step stands one of all events that may come next behind those before it.
use Rattle.std.proofs.Common.{◌≡◌, ℕ, zero, suc, ◌<◌, true, List, [], ◌∷◌, ◌++◌, length, take, sym, refl, ap, ◌∙◌, inl, append_assoc, append-nil, not-suc-le-zero, arith}
use Rattle.timeline.specs.declared.events.Event.{Event}
use Rattle.timeline.specs.Lists.{those}
use Rattle.timeline.specs.Order.{nth}
use Rattle.timeline.proofs.Lists.{All, all_map, all_flat, all_those}
use Rattle.patterns.specs.Patterns.{Step}
use Rattle.rows.specs.Rows.{goes_on, rows}
use Rattle.rows.specs.Finding.{step_of}
use Rattle.rows.specs.Fitting.{Among}
use Rattle.rows.proofs.Among.{among_all, all_among, among_those, among_flat}

module _ (all : List Event) (w : ℕ) where
  -- a row that began as es goes on by these events
  Goes : List Event → List Step → List Event → Type 0
  Goes es [] [] = Unit
  Goes es [] (e ∷ t) = ⊥
  Goes es (s ∷ ss) [] = ⊥
  Goes es (s ∷ ss) (e ∷ t) = Among e all × (goes_on all w es s e ≡ true) × Goes (es ++ e ∷ []) ss t

  abbrev Grown : List Event → List Step → List Event → Type 0
  Grown es ss r = (t : List Event) × (r ≡ es ++ t) × Goes es ss t

  grown_all : (ss : List Step) (es : List Event) → All (Grown es ss) (rows all w ss es)
  unfolding rows Goes
  grown_all [] es = (([], sym (append-nil es), tt), tt)
  grown_all (s ∷ ss) es =
      all_flat (λ e. Among e all × (goes_on all w es s e ≡ true)) (Grown es (s ∷ ss)) (λ e. rows all w ss (es ++ e ∷ []))
      (λ e h. all_map (Grown (es ++ e ∷ []) ss) (Grown es (s ∷ ss))
      (λ r g. (e ∷ g.0, g.1 ∙ append_assoc es (e ∷ []) g.0, (h.0, h.1, g.2))) (rows all w ss (es ++ e ∷ [])) (grown_all ss (es ++ e ∷ [])))
      (those (goes_on all w es s) all) (all_those (λ e. Among e all) (goes_on all w es s) all (all_among all))

  grown_found : (ss : List Step) (es t : List Event) → Goes es ss t → Among (es ++ t) (rows all w ss es)
  unfolding rows Goes Among
  grown_found [] es [] g = inl (append-nil es)
  grown_found [] es (e ∷ t) g = absurd g
  grown_found (s ∷ ss) es [] g = absurd g
  grown_found (s ∷ ss) es (e ∷ t) g =
      rw (← append_assoc es (e ∷ []) t) (among_flat (λ x. rows all w ss (es ++ x ∷ [])) e (those (goes_on all w es s) all) ((es ++ e ∷ []) ++ t)
      (among_those (goes_on all w es s) e all g.0 g.1) (grown_found ss (es ++ e ∷ []) t g.2))

  -- the same, by places
  abbrev pub StepByStep : List Event → List Step → List Event → Type 0
  StepByStep es ss t =
      (length t ≡ length ss) × ((i : ℕ) → i < length t → Among (nth t i) all × (goes_on all w (es ++ take i t) (step_of ss i) (nth t i) ≡ true))

  goes_places : (ss : List Step) (es t : List Event) → Goes es ss t → StepByStep es ss t
  unfolding Goes nth step_of
  goes_places [] es [] g = (refl, λ i h. absurd (not-suc-le-zero h))
  goes_places [] es (e ∷ t) g = absurd g
  goes_places (s ∷ ss) es [] g = absurd g
  goes_places (s ∷ ss) es (e ∷ t) g = let ih = goes_places ss (es ++ e ∷ []) t g.2 in (ap suc ih.0, at ih.1)
    where
      at : ((i : ℕ) → i < length t → Among (nth t i) all × (goes_on all w ((es ++ e ∷ []) ++ take i t) (step_of ss i) (nth t i) ≡ true))
          → (i : ℕ) → i < length (e ∷ t) → Among (nth (e ∷ t) i) all × (goes_on all w (es ++ take i (e ∷ t)) (step_of (s ∷ ss) i) (nth (e ∷ t) i) ≡ true)
      at ih zero h = (g.0, rw (append-nil es) g.1)
      at ih (suc i) h = let k = ih i (omega arith) in (k.0, rw append_assoc at k.1)

  places_go : (ss : List Step) (es t : List Event) → StepByStep es ss t → Goes es ss t
  unfolding Goes nth step_of
  places_go [] es [] g = tt
  places_go [] es (e ∷ t) g = absurd (not-suc-le-zero {n = length t} (omega arith))
  places_go (s ∷ ss) es [] g = absurd (not-suc-le-zero {n = length ss} (omega arith))
  places_go (s ∷ ss) es (e ∷ t) g =
      let k = g.1 0 (omega arith) in
      (k.0, rw append-nil at k.1, places_go ss (es ++ e ∷ []) t (omega arith, λ i h. let m = g.1 (suc i) (omega arith) in (m.0, rw (append_assoc es (e ∷ []) (take i t)) m.1)))

pub found_steps : (all : List Event) (w : ℕ) (ss : List Step) (r : List Event) → Among r (rows all w ss []) → StepByStep all w [] ss r
found_steps all w ss r m =
    let g = among_all (Grown all w [] ss) r (rows all w ss []) m (grown_all all w ss []) in
    rw g.1 (goes_places all w ss [] g.0 g.2)

pub steps_found : (all : List Event) (w : ℕ) (ss : List Step) (r : List Event) → StepByStep all w [] ss r → Among r (rows all w ss [])
steps_found all w ss r g = grown_found all w ss [] r (places_go all w ss [] r g)
