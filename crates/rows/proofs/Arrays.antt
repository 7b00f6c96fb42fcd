-- Levels in an array: each move of the search as it is made there, and that what is to come stays what it was.
use Rattle.std.proofs.Common.{◌≡◌, ℕ, suc, ◌+◌, ◌-◌, ◌<◌, ◌≤◌, true, false, ◌≢◌, List, [], ◌∷◌, ◌++◌, length, get_or, drop, set, sym, ap, ◌∙◌, subst, add-one, arith, take-append-drop, below_more}
use Rattle.std.proofs.lemmas.List.{drop-set-lt, get_or-set_same, get_or-set_other, length-set}
use Rattle.timeline.proofs.Lists.{clash}
use Rattle.rows.specs.Search.{Space, Barren, rest, chosen, forward}
use Rattle.rows.proofs.Moves.{over, back, jump, down, found, left, left_back, left_past, left_jump, left_down}
use Rattle.rows.proofs.Chosen.{chosen_set, chosen_forward, length_chosen}

-- what is to come at a place of the array, and how many moves are left
abbrev pub yet : Space → ℕ → List ℕ → ℕ → List (List ℕ)
yet S k at d = rest S (k - 1 - d) (chosen at d) (get_or at d 0)

abbrev pub to_do : ℕ → ℕ → List ℕ → ℕ → ℕ
to_do b k at d = left b (k - 1 - d) (chosen at d) (get_or at d 0)

-- a place of a search of k levels that began at another, with all positions below b: what is to come is the same
pub record Came (S : Space) (k b : ℕ) (start : List ℕ) (from : ℕ) (at : List ℕ) (d : ℕ) : Type 0 where
  pub deep : d < k
  pub long : length at ≡ 6
  pub before : (j : ℕ) → j < d → get_or at j 0 < b
  pub here : get_or at d 0 ≤ b
  pub rest_of : drop k at ≡ drop k start
  pub same : yet S k at d ≡ yet S k start from

module _ (S : Space) (k b : ℕ) (small : k ≤ 6) (start : List ℕ) (from : ℕ) (at : List ℕ) where
  -- one position set, at its level or one before
  came_set : (d j v : ℕ) → Came S k b start from at j → d ≤ j → v ≤ b → yet S k (set at d v) d ≡ yet S k at j → Came S k b start from (set at d v) d
  came_set d j v i l m e =
      record {
        deep = omega (arith, i.deep);
        long = length-set at d v ∙ i.long;
        before = λ j₁ h. (let ne : j₁ ≢ d = omega arith in rw (get_or-set_other at d j₁ v 0 ne) (i.before j₁ (omega arith)));
        here = (let h : d < length at = omega (arith, i.deep, i.long) in rw (get_or-set_same at d v 0 h) m);
        rest_of = drop-set-lt k at d v (omega (arith, i.deep)) ∙ i.rest_of;
        same = e ∙ i.same;
      }

  -- the level before, one further
  pub went_back : (d e : ℕ) → suc d ≡ e → Came S k b start from at e → S.hi (chosen at e) ≤ get_or at e 0
      → Came S k b start from (set at d (get_or at d 0 + 1)) d × (to_do b k (set at d (get_or at d 0 + 1)) d < to_do b k at e)
  unfolding chosen
  went_back d e q i h =
      let P : ℕ → Type 0 = λ x. S.hi (chosen at x) ≤ get_or at x 0 in
      let r : S.hi (get_or at d 0 ∷ chosen at d) ≤ get_or at (suc d) 0 = subst P (sym q) h in
      let n : k - 1 - d ≡ suc (k - 1 - suc d) = omega (arith, i.deep) in
      let l : d < length at = omega (arith, i.deep, i.long) in
      let v = get_or at d 0 + 1 in
      let o = chosen_set at d d v (omega arith) in
      let w = get_or-set_same at d v 0 l in
      let a : yet S k (set at d v) d ≡ yet S k at e = rw (← q, o, n, w, add-one (get_or at d 0)) (back S (k - 1 - suc d) (get_or at d 0) (chosen at d) (get_or at (suc d) 0) r) in
      let m : to_do b k (set at d v) d < to_do b k at e = rw (← q, o, n, w, add-one (get_or at d 0)) (left_back b (k - 1 - suc d) (get_or at d 0) (chosen at d) (get_or at (suc d) 0)) in
      let u : get_or at d 0 < b = i.before d (omega arith) in
      (came_set d e v i (omega arith) (omega arith) a, m)

  -- a position further on, over none that leads anywhere
  pub went_to : (d p : ℕ) → Came S k b start from at d → get_or at d 0 ≤ p → p ≤ S.hi (chosen at d) → S.hi (chosen at d) ≤ b
      → ((i : ℕ) → get_or at d 0 ≤ i → i < p → Barren S (k - 1 - d) (chosen at d) i)
      → Came S k b start from (set at d p) d × (to_do b k (set at d p) d ≤ to_do b k at d) × (get_or at d 0 < p → to_do b k (set at d p) d < to_do b k at d)
  went_to d p i l m n h =
      let u : d < length at = omega (arith, i.deep, i.long) in
      let o = chosen_set at d d p (omega arith) in
      let w = get_or-set_same at d p 0 u in
      let c = get_or at d 0 in
      let e : c + (p - c) ≡ p = omega arith in
      let a : yet S k (set at d p) d ≡ yet S k at d =
      rw (o, w) (ap (rest S (k - 1 - d) (chosen at d)) (sym e) ∙ jump S (k - 1 - d) (chosen at d) (p - c) c (omega arith) (λ j x y. h j x (omega arith))) in
      let z : left b (k - 1 - d) (chosen at d) p ≤ left b (k - 1 - d) (chosen at d) c =
      subst (λ (x : ℕ). left b (k - 1 - d) (chosen at d) x ≤ left b (k - 1 - d) (chosen at d) c) e (left_jump b (k - 1 - d) (chosen at d) (p - c) c (omega arith)) in
      let y : c < p → left b (k - 1 - d) (chosen at d) p < left b (k - 1 - d) (chosen at d) c = λ q.
      (let f : suc c + (p - suc c) ≡ p = omega arith in
      let g = subst (λ (x : ℕ). left b (k - 1 - d) (chosen at d) x ≤ left b (k - 1 - d) (chosen at d) (suc c)) f (left_jump b (k - 1 - d) (chosen at d) (p - suc c) (suc c) (omega arith)) in
      omega (arith, g, left_past b (k - 1 - d) (chosen at d) c (omega arith))) in
      (came_set d d p i (omega arith) (omega arith) a, rw (o, w) z, λ q. rw (o, w) (y q))

  -- the next position
  pub went_on : (d : ℕ) → Came S k b start from at d → get_or at d 0 < S.hi (chosen at d) → S.hi (chosen at d) ≤ b → S.ok (chosen at d) (get_or at d 0) ≡ false
      → Came S k b start from (set at d (get_or at d 0 + 1)) d × (to_do b k (set at d (get_or at d 0 + 1)) d < to_do b k at d)
  went_on d i l m e =
      let g = went_to d (get_or at d 0 + 1) i (omega arith) (omega arith) m (λ j x y t. (let q : j ≡ get_or at d 0 = omega arith in let z = rw q at t in clash z e)) in
      (g.0, g.2 (omega arith))

  -- the next level, from its beginning or behind positions that lead nowhere
  pub went_down : (d e v : ℕ) → suc d ≡ e → e < k → S.lo (chosen at e) ≤ v → v ≤ S.hi (chosen at e) → S.hi (chosen at e) ≤ b
      → ((i : ℕ) → S.lo (chosen at e) ≤ i → i < v → Barren S (k - 1 - e) (chosen at e) i)
      → Came S k b start from at d → get_or at d 0 < S.hi (chosen at d) → S.hi (chosen at d) ≤ b → S.ok (chosen at d) (get_or at d 0) ≡ true
      → Came S k b start from (set at e v) e × (to_do b k (set at e v) e < to_do b k at d)
  unfolding chosen
  went_down d e v q z lo hi top bar i l m t =
      let n : k - 1 - d ≡ suc (k - 1 - e) = omega arith in
      let h : e < length at = omega (arith, i.long) in
      let ch : chosen at e ≡ get_or at d 0 ∷ chosen at d = ap (chosen at) (sym q) in
      let o : chosen (set at e v) e ≡ chosen at e = chosen_set at e e v (omega arith) in
      let w = get_or-set_same at e v 0 h in
      let first = S.lo (chosen at e) in
      let x : first + (v - first) ≡ v = omega arith in
      let there : rest S (k - 1 - e) (chosen at e) v ≡ rest S (k - 1 - e) (chosen at e) first =
      ap (rest S (k - 1 - e) (chosen at e)) (sym x) ∙ jump S (k - 1 - e) (chosen at e) (v - first) first (omega arith) (λ j a c. bar j a (omega arith)) in
      let step : rest S (k - 1 - e) (chosen at e) first ≡ yet S k at d = rw (ch, n) (down S (k - 1 - e) (chosen at d) (get_or at d 0) l t) in
      let a : yet S k (set at e v) e ≡ yet S k at d = rw (o, w) (there ∙ step) in
      let y : to_do b k (set at e v) e < to_do b k at d = rw (o, w, ch, n) (left_down b (k - 1 - e) (chosen at d) (get_or at d 0) v (omega arith)) in
      let below : (j : ℕ) → j < e → get_or at j 0 < b = λ j s. below_more (λ j. get_or at j 0 < b) d i.before (omega arith) j (omega arith) in (
        record {
          deep = z;
          long = length-set at e v ∙ i.long;
          before = λ j s. (let ne : j ≢ e = omega arith in rw (get_or-set_other at e j v 0 ne) (below j s));
          here = rw w (omega arith);
          rest_of = drop-set-lt k at e v z ∙ i.rest_of;
          same = a ∙ i.same;
        },
        y,
      )

  -- a way, and what the array is then
  pub way_found : (d : ℕ) → suc d ≡ k → Came S k b start from at d → get_or at d 0 < S.hi (chosen at d) → S.ok (chosen at d) (get_or at d 0) ≡ true
      → (yet S k start from ≡ chosen at k ∷ rest S 0 (chosen at d) (suc (get_or at d 0))) × (at ≡ forward (chosen at k) ++ drop (length (chosen at k)) start)
  unfolding chosen
  way_found d h i l e =
      let n : k - 1 - d ≡ 0 = omega arith in
      let ch : chosen at k ≡ get_or at d 0 ∷ chosen at d = ap (chosen at) (sym h) in
      let f : yet S k at d ≡ chosen at k ∷ rest S 0 (chosen at d) (suc (get_or at d 0)) = rw (n, ch) (found S (chosen at d) (get_or at d 0) l e) in (
        sym i.same ∙ f,
        sym (rw (length_chosen at k, chosen_forward at k (omega (arith, i.long)), sym i.rest_of) (take-append-drop k at)),
      )

  -- no way
  pub none_left : (d : ℕ) → d ≡ 0 → Came S k b start from at d → S.hi (chosen at d) ≤ get_or at d 0 → yet S k start from ≡ []
  unfolding chosen
  none_left d z i e =
      let P : ℕ → Type 0 = λ x. S.hi (chosen at x) ≤ get_or at x 0 in
      let r : S.hi [] ≤ get_or at 0 0 = subst P z e in
      sym i.same ∙ rw z (over S (k - 1 - 0) (get_or at 0 0) r)
