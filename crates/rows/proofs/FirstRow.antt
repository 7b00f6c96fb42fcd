-- The search as the code makes it: each need of its loop, by the state it is in.
use Rattle.std.proofs.Common.{◌≡◌, ℕ, ◌+◌, ◌-◌, ◌<◌, ◌≤◌, true, false, List, length, get_or, set, Some, None, sym, refl, ap, ◌∙◌, ap₂, arith}
use Rattle.std.proofs.lemmas.List.{length-set}
use Rattle.timeline.specs.declared.events.Event.{Event}
use Rattle.timeline.specs.Order.{nothing, nth}
use Rattle.patterns.specs.Patterns.{Pattern}
use Rattle.patterns.specs.Kept.{kept_count, kept_pattern}
use Rattle.patterns.proofs.Steps.{steps_long}
use Rattle.rows.specs.Held.{Along, six_of}
use Rattle.rows.specs.Search.{chosen}
use Rattle.rows.specs.Finding.{row_ok, row_hi, to_come, behind, found_first, placed, next_found}
use Rattle.rows.specs.declared.search.Cursor.{Cursor}
use Rattle.rows.specs.declared.search.Found.{Found}
use Rattle.rows.proofs.Chosen.{Placed, placed_parts}
use Rattle.rows.proofs.LevelOk.{hi_deep, hi_small}
use Rattle.rows.proofs.Pruning.{Starts}
use Rattle.rows.proofs.Searching.{Going, going, moves_left, begins, moves_back, moves_over, moves_far, under_end, looks, moves_on, moves_down, moves_found}

module _ (h : List Event) (words : List ℕ) (upto : ℕ) (cur : Cursor)
    (can : placed (length h) upto (length (kept_pattern words).steps) cur ≡ true) (steps : ℕ) (many : steps ≡ kept_count words) where
  abbrev p : Pattern
  p = kept_pattern words

  w : Placed (length h) upto (length p.steps) cur
  w = placed_parts (length h) upto (length p.steps) cur can

  n : steps ≡ length p.steps
  n = many ∙ sym (steps_long words)

  pub events_ready : (cur.depth ≤ 6) × ((j : ℕ) → j < cur.depth → get_or cur.at j 0 < length h)
  events_ready = (omega (arith, w.deep, w.few), λ j l. omega (arith, w.before j l, w.short))

  pub start : (at : List ℕ) (row : List Event) (d : ℕ) → at ≡ cur.at → d ≡ cur.depth → length cur.at ≡ 6 → length row ≡ 6 → ((j : ℕ) → j < cur.depth → get_or row j nothing ≡ nth h (get_or cur.at j 0))
      → Going steps h p upto cur at row d
  start at row d e f l k a = rw (e, f) (going steps h p upto cur cur.at row cur.depth n w.few (begins h p upto (length h) cur row w l k a))

  -- at the head of the loop
  module _ (at : List ℕ) (row : List Event) (d : ℕ) (g : Going steps h p upto cur at row d) (end : ℕ) (is-end : end ≡ row_hi upto (chosen at d)) where
    pub over : d ≡ 0 → end ≤ get_or at d 0 → None ≡ found_first h p cur (to_come h p upto cur)
    over z l = moves_over h p upto cur w.few w.short at row d g.4 z (omega arith)

    -- a state that comes next, and fewer moves are left
    abbrev Next : List ℕ → List Event → ℕ → Type 0
    Next at₁ row₁ d₁ = Going steps h p upto cur at₁ row₁ d₁ × (moves_left p upto at₁ d₁ < moves_left p upto at d)

    pub goes_back : (d ≡ 0 → ⊥) → end ≤ get_or at d 0 → Next (set at (d - 1) (get_or at (d - 1) 0 + 1)) row (d - 1)
    goes_back z l =
        let s = moves_back h p upto cur w.few w.short at row d g.4 (d - 1) (omega arith) (omega arith) in
        (going steps h p upto cur (set at (d - 1) (get_or at (d - 1) 0 + 1)) row (d - 1) n w.few s.0, s.1)

    top : end ≤ upto
    top = omega (arith, hi_small upto at d (omega (arith, g.0, g.1, g.2)) g.4.came.before)

    pub candidate_ready : get_or at d 0 < end → (d < kept_count words) × (get_or at d 0 ≤ end) × (end ≤ length h) × Along h at row d
    candidate_ready l = (
      omega (arith, g.0),
      omega arith,
      omega (arith, top, w.short),
      record { inside = λ j k. omega (arith, g.4.came.before j k, w.short); are = g.4.are },
    )

    -- the next candidate is v
    module _ (v : ℕ) (bounds : (get_or at d 0 ≤ v) × (v ≤ end)) (passed : (i : ℕ) → i < v → get_or at d 0 ≤ i → row_ok h p.within p.steps (chosen at d) i ≡ false) where
      in_level : v ≤ row_hi upto (chosen at d)
      in_level = omega (arith, bounds.1)

      pub goes_far : get_or at d 0 < end → end ≤ v → Next (set at d v) row d
      goes_far l k =
          let s = moves_far h p upto cur w.few w.short at row d g.4 v bounds.0 in_level passed (omega arith) in
          (going steps h p upto cur (set at d v) row d n w.few s.0, s.1)

      pub get_ready : v < end → v < length h
      get_ready l = omega (arith, top, w.short)

      -- its event is e
      module _ (l : v < end) (e : Event) (is : e ≡ nth h v) where
        under : v < row_hi upto (chosen at d)
        under = omega arith

        along : Along h (set at d v) (set row d e) (d + 1)
        along = looks h p upto cur w.few w.short at row d g.4 v bounds.0 in_level passed under e is

        pub stand_ready : (d < kept_count words) × Along h (set at d v) (set row d e) (d + 1)
        stand_ready = (omega (arith, g.0), along)

        pub goes_on : false ≡ row_ok h p.within p.steps (chosen (set at d v) d) (get_or (set at d v) d 0) → Next (set (set at d v) d (get_or (set at d v) d 0 + 1)) (set row d e) d
        goes_on t =
            let s = moves_on h p upto cur w.few w.short at row d g.4 v bounds.0 in_level passed under e is (sym t) in
            (going steps h p upto cur (set (set at d v) d (get_or (set at d v) d 0 + 1)) (set row d e) d n w.few s.0, s.1)

        module _ (ok : true ≡ row_ok h p.within p.steps (chosen (set at d v) d) (get_or (set at d v) d 0)) where
          pub tells : (f : Found) → d + 1 ≡ steps → f ≡ record { numbers = six_of (set row d e) steps; next = behind steps (set at d v) } → Some f ≡ found_first h p cur (to_come h p upto cur)
          tells f q t =
              ap Some (t ∙ ap (λ k. record { numbers = six_of (set row d e) k; next = behind k (set at d v) }) n)
              ∙ moves_found h p upto cur w.few w.short at row d g.4 v bounds.0 in_level passed under e is (sym ok) (omega (arith, n))

          pub start_ready : (d + 1 ≡ steps → ⊥)
              → (1 ≤ d + 1) × (d + 1 < kept_count words) × (get_or (set row d e) 0 nothing ≡ nth h (get_or (set at d v) 0 0))
              × (get_or (set at d v) 0 0 ≤ length h) × (1 < d + 1 → get_or (set at d v) (d + 1 - 1) 0 < get_or (set at d v) 0 0)
          start_ready q =
              let i = under_end h p upto cur w.few w.short at row d g.4 v bounds.0 in_level passed under e is in (
                omega arith,
                omega (arith, g.0),
                along.are 0 (omega arith),
                omega (arith, along.inside 0 (omega arith)),
                λ o.
                    let z : d + 1 - 1 ≡ d = omega arith in
                    let last = hi_deep upto (set at d v) d (λ x. omega arith) (omega (arith, length-set at d v, g.0, g.1, g.2)) in
                    rw z (omega arith),
              )

          pub goes_down : (d + 1 ≡ steps → ⊥) → (u : ℕ) → Starts h p (set at d v) (d + 1) u → Next (set (set at d v) (d + 1) u) (set row d e) (d + 1)
          goes_down q u s =
              let t = moves_down h p upto cur w.few w.short at row d g.4 v bounds.0 in_level passed under e is (sym ok) u (omega (arith, g.0, n)) s in
              (going steps h p upto cur (set (set at d v) (d + 1) u) (set row d e) (d + 1) n w.few t.0, t.1)

-- WHERE A SEARCH CAN BE, as the code tests it
pub placed_is : (h : List Event) (words : List ℕ) (upto : ℕ) (cur : Cursor) (count steps : ℕ) → count ≡ length h → steps ≡ kept_count words
    → placed count upto steps cur ≡ placed (length h) upto (length (kept_pattern words).steps) cur
placed_is h words upto cur count steps a b = ap₂ (λ n k. placed n upto k cur) a (b ∙ sym (steps_long words))

pub next_none : (h : List Event) (p : Pattern) (upto : ℕ) (cur : Cursor) → placed (length h) upto (length p.steps) cur ≡ false → None ≡ next_found h p upto cur
unfolding next_found
next_none h p upto cur e = rw e refl

pub next_some : (h : List Event) (p : Pattern) (upto : ℕ) (cur : Cursor) → placed (length h) upto (length p.steps) cur ≡ true → found_first h p cur (to_come h p upto cur) ≡ next_found h p upto cur
unfolding next_found
next_some h p upto cur e = rw e refl
