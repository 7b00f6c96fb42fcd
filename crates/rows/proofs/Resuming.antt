-- A search told one row after the other: where it goes on behind a row, the others are to come.
use Rattle.std.proofs.Common.{◌≡◌, ℕ, suc, ◌+◌, ◌-◌, ◌<◌, ◌≤◌, Bool, true, false, ◌≢◌, List, [], ◌∷◌, ◌++◌, length, get_or, drop, set, Some, None, sym, refl, ap, ◌∙◌, subst, add-one, arith, length-append, length-drop}
use Rattle.std.proofs.lemmas.List.{get_or-set_same, get_or-set_other, length-set}
use Rattle.timeline.specs.declared.events.Event.{Event}
use Rattle.timeline.specs.Lists.{pick}
use Rattle.timeline.proofs.Lists.{All}
use Rattle.patterns.specs.Patterns.{Pattern}
use Rattle.rows.specs.Known.{numbers}
use Rattle.rows.specs.Search.{rest, chosen, forward}
use Rattle.rows.specs.Finding.{space, to_come, row_of, six, behind, found_first, placed, next_found}
use Rattle.rows.specs.SearchLaws.{GoesOn, IsOver}
use Rattle.rows.specs.declared.search.Cursor.{Cursor}
use Rattle.rows.specs.declared.search.Found.{Found}
use Rattle.rows.proofs.Following.{AllBelow, rest_follows, rest_long}
use Rattle.rows.proofs.Chosen.{chosen_set, length_chosen, length_forward, chosen_back, below_chosen, chosen_below, Placed, placed_parts, parts_placed, hi_bound}

-- an array that holds a way of suc k positions, and the cursor behind it
module _ (h : List Event) (p : Pattern) (upto k : ℕ) (steps : length p.steps ≡ suc k) (a path : List ℕ) (is : chosen a (suc k) ≡ path) (long : k < length a) where
  abbrev raised : List ℕ
  raised = set a k (get_or a k 0 + 1)

  -- what comes after that cursor is what comes behind the way
  behind_rest : rest (space h p upto) 0 (drop 1 path) (suc (get_or path 0 0)) ≡ to_come h p upto (record { depth = k; at = raised })
  unfolding to_come chosen
  behind_rest =
      let n : length p.steps - 1 - k ≡ 0 = omega arith in
      let o = chosen_set a k k (get_or a k 0 + 1) (omega arith) in
      let g = get_or-set_same a k (get_or a k 0 + 1) 0 long in
      rw (← is, n, o, g, add-one (get_or a k 0)) refl

  -- a search can be there
  behind_placed : (n : ℕ) → suc k ≤ 6 → upto ≤ n → AllBelow upto path → Placed n upto (length p.steps) (record { depth = k; at = raised })
  behind_placed n few short below =
      let all = chosen_below upto a (suc k) (subst (AllBelow upto) (sym is) below) in
      record {
        some = omega arith;
        few = omega arith;
        short = short;
        deep = omega arith;
        here = rw (get_or-set_same a k (get_or a k 0 + 1) 0 long) (omega (arith, all k (omega arith)));
        before = λ j l. (let ne : j ≢ k = omega arith in rw (get_or-set_other a k j (get_or a k 0 + 1) 0 ne) (all j (omega arith)));
      }

-- the same after a way that was written into an array
module _ (h : List Event) (p : Pattern) (upto k : ℕ) (steps : length p.steps ≡ suc k) (at path : List ℕ) (len : length path ≡ suc k) where
  abbrev array : List ℕ
  array = forward path ++ drop (length path) at

  abbrev next : Cursor
  next = behind (length p.steps) array

  reads_back : chosen array (suc k) ≡ path
  reads_back = ap (chosen array) (sym len) ∙ chosen_back path (drop (length path) at)

  array_long : k < length array
  array_long = omega (arith, length-append (forward path) (drop (length path) at), length_forward path)

  next_is : next ≡ record { depth = k; at = set array k (get_or array k 0 + 1) }
  next_is = let e : length p.steps - 1 ≡ k = omega arith in rw e refl

  next_rest : rest (space h p upto) 0 (drop 1 path) (suc (get_or path 0 0)) ≡ to_come h p upto next
  next_rest = behind_rest h p upto k steps array path reads_back array_long ∙ ap (to_come h p upto) (sym next_is)

  next_placed : (n : ℕ) → suc k ≤ 6 → upto ≤ n → AllBelow upto path → placed n upto (length p.steps) next ≡ true
  next_placed n few short below =
      ap (placed n upto (length p.steps)) next_is
      ∙ parts_placed n upto (length p.steps) (record { depth = k; at = set array k (get_or array k 0 + 1) }) (behind_placed h p upto k steps array path reads_back array_long n few short below)

  next_long : suc k ≤ 6 → length at ≡ 6 → length next.at ≡ 6
  next_long few l =
      length-set array (length p.steps - 1) (get_or array (length p.steps - 1) 0 + 1)
      ∙ omega (arith, length-append (forward path) (drop (length path) at), length_forward path, length-drop (length path) at)

abbrev Said : List Event → Pattern → ℕ → Cursor → Found → Type 0
Said h p upto c f =
    (path : List ℕ)
    × (to_come h p upto c ≡ path ∷ to_come h p upto f.next)
    × (f.numbers ≡ six (numbers (row_of h path)))
    × (length path ≡ length p.steps)
    × (length c.at ≡ 6 → length f.next.at ≡ 6)
    × (placed (length h) upto (length p.steps) f.next ≡ true)

-- what is told of a way
abbrev made : List Event → Pattern → Cursor → List ℕ → Found
made h p c path = record { numbers = six (numbers (row_of h path)); next = behind (length p.steps) (forward path ++ drop (length path) c.at) }

-- the first way of some, when they are what is to come
first_said : (h : List Event) (p : Pattern) (upto : ℕ) (c : Cursor) → Placed (length h) upto (length p.steps) c → (path : List ℕ) (more : List (List ℕ)) → to_come h p upto c ≡ path ∷ more
    → Said h p upto c (made h p c path)
unfolding to_come
first_said h p upto c w path more q =
    let k : ℕ = length p.steps - 1 in
    let steps : length p.steps ≡ suc k = omega (arith, w.some) in
    let pre = chosen c.at c.depth in
    let lens : All (λ r. length r ≡ length p.steps) (path ∷ more) =
    subst (λ (xs : List (List ℕ)). All (λ r. length r ≡ length p.steps) xs) q
    (rest_long (space h p upto) (length p.steps - 1 - c.depth) pre (get_or c.at c.depth 0) (length p.steps) (omega (arith, length_chosen c.at c.depth, w.deep))) in
    let len : length path ≡ suc k = lens.0 ∙ steps in
    let f = rest_follows (space h p upto) upto (hi_bound upto) (length p.steps - 1 - c.depth) pre (get_or c.at c.depth 0) (below_chosen upto c.at c.depth w.before) path more q in (
      path,
      q ∙ ap (λ xs. path ∷ xs) (f.1 ∙ next_rest h p upto k steps c.at path len),
      refl,
      lens.0,
      next_long h p upto k steps c.at path len (omega (arith, w.few)),
      next_placed h p upto k steps c.at path len (length h) (omega (arith, w.few)) w.short f.0,
    )

pub goes_on_proof : GoesOn
unfolding GoesOn next_found found_first
goes_on_proof h p upto c f e = go (placed (length h) upto (length p.steps) c) refl e
  where
    first : Placed (length h) upto (length p.steps) c → (rs : List (List ℕ)) → to_come h p upto c ≡ rs → found_first h p c rs ≡ Some f → Said h p upto c f
    first w [] q e = let z : ◌≡◌ {A = ℕ} 0 1 = cc in absurd (omega arith)
    first w (path ∷ more) q e = let s : made h p c path ≡ f = cc in subst (Said h p upto c) s (first_said h p upto c w path more q)

    go : (b : Bool) → placed (length h) upto (length p.steps) c ≡ b → pick b (found_first h p c (to_come h p upto c)) None ≡ Some f → Said h p upto c f
    go true w e = first (placed_parts (length h) upto (length p.steps) c w) (to_come h p upto c) refl e
    go false w e = let z : ◌≡◌ {A = ℕ} 0 1 = cc in absurd (omega arith)

pub is_over_proof : IsOver
unfolding IsOver next_found found_first
is_over_proof h p upto c w e = go (to_come h p upto c) (rw w at e)
  where
    go : (rs : List (List ℕ)) → found_first h p c rs ≡ None → rs ≡ []
    go [] e = refl
    go (path ∷ more) e = let z : ◌≡◌ {A = ℕ} 0 1 = cc in absurd (omega arith)
