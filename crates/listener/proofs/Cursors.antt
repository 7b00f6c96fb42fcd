-- The places of a search behind a row that was told: small if those before were, and the bound of the last events is.
use Rattle.std.proofs.Common.{◌≡◌, ℕ, ◌+◌, ◌-◌, ◌≤◌, Bool, true, false, ◌≢◌, List, [], ◌∷◌, ◌++◌, length, get_or, drop, Some, None, Option, sym, ap, ◌∙◌, inl, inr, arith}
use Rattle.std.proofs.ByRecursion.{All-from_get_or}
use Rattle.std.proofs.lemmas.List.{get_or-set_other, get_or-append_right, get_or-drop}
use Rattle.std.proofs.lemmas.Bool.{cases_order}
use Rattle.timeline.specs.declared.events.Event.{Event}
use Rattle.timeline.specs.Lists.{pick}
use Rattle.patterns.specs.Patterns.{Pattern}
use Rattle.rows.specs.Search.{forward}
use Rattle.rows.specs.Finding.{to_come, placed, behind, found_first, next_found}
use Rattle.rows.specs.SearchLaws.{GoesOn}
use Rattle.rows.specs.declared.search.Cursor.{Cursor}
use Rattle.rows.specs.declared.search.Found.{Found}
use Rattle.rows.proofs.Chosen.{length_forward, Placed, placed_parts}
use Rattle.rows.proofs.Resuming.{goes_on_proof}
use Rattle.listener.proofs.Small.{Small, Smalls, small_at}

module _ (h : List Event) (p : Pattern) (upto : ℕ) (c : Cursor) (f : Found) (found : next_found h p upto c ≡ Some f) where
  abbrev array : List ℕ → List ℕ
  array path = forward path ++ drop (length path) c.at

  abbrev Behind : List ℕ → Type 0
  Behind path = f.next ≡ behind (length p.steps) (array path)

  -- it goes on behind the first way of those to come
  first_behind :
      (b : Bool) (path : List ℕ) (more paths : List (List ℕ)) → paths ≡ path ∷ more → pick b (found_first h p c paths) None ≡ Some f → Behind path
  unfolding found_first
  first_behind false path more paths q e = let z : ◌≡◌ {A = ℕ} 0 1 = cc in absurd (omega arith)
  first_behind true path more [] q e = let z : ◌≡◌ {A = ℕ} 0 1 = cc in absurd (omega arith)
  first_behind true path more (path₁ ∷ paths) q e =
      let same : path₁ ≡ path = cc in
      ap (λ (o : Option Found). next_of o) (sym e) ∙ ap (λ (x : List ℕ). behind (length p.steps) (array x)) same
    where
      next_of : Option Found → Cursor
      next_of None = c
      next_of (Some g) = g.next

  next_is : (path : List ℕ) (more : List (List ℕ)) → to_come h p upto c ≡ path ∷ more → Behind path
  unfolding next_found
  next_is path more q = first_behind (placed (length h) upto (length p.steps) c) path more (to_come h p upto c) q found

  -- so the search is at the deepest level
  pub next_depth : f.next.depth ≡ length p.steps - 1
  unfolding GoesOn
  next_depth =
      let g = goes_on_proof h p upto c f found in
      ap (λ (x : Cursor). x.depth) (next_is g.0 (to_come h p upto f.next) g.1)

  -- behind the levels the places are as they were
  place_behind :
      (path : List ℕ) → length path ≡ length p.steps → 1 ≤ length path → Behind path
      → (i : ℕ) → length path ≤ i → get_or f.next.at i 0 ≡ get_or c.at i 0
  place_behind path long some is i l =
      let k : ℕ = length p.steps - 1 in
      let other : i ≢ k = omega arith in
      let back : length path + (i - length path) ≡ i = omega arith in
      ap (λ (x : Cursor). get_or x.at i 0) is
      ∙ get_or-set_other (array path) k i (get_or (array path) k 0 + 1) 0 other
      ∙ get_or-append_right (forward path) (drop (length path) c.at) (length path) i 0 (length_forward path) l
      ∙ get_or-drop (length path) c.at (i - length path) 0
      ∙ ap (λ (j : ℕ). get_or c.at j 0) back

  -- those of the levels are not above the bound
  place_small :
      (path : List ℕ) → length path ≡ length p.steps → Behind path → Placed (length h) upto (length p.steps) f.next → Small upto → Smalls c.at
      → (i : ℕ) → Small (get_or f.next.at i 0)
  place_small path long is w u a i =
      let deepest = next_depth in
      elim (cases_order i f.next.depth) [
        | inl e ↦ (let l = w.here in rw e (omega arith))
        | inr (inl l) ↦ omega (arith, w.before i l)
        | inr (inr l) ↦ (let e = place_behind path long (omega (arith, w.some)) is i (omega (arith, w.some)) in rw e (small_at c.at i a))
      ]

  pub places_small : Small upto → Smalls c.at → Smalls f.next.at
  unfolding GoesOn
  places_small u a =
      let g = goes_on_proof h p upto c f found in
      let w = placed_parts (length h) upto (length p.steps) f.next g.5 in
      All-from_get_or Small f.next.at 0 (λ i l. place_small g.0 g.3 (next_is g.0 (to_come h p upto f.next) g.1) w u a i)
