-- The state of the search: an array of positions, the events of those that are chosen, and a depth. Each move leads to such a state again.
use Rattle.std.proofs.Common.{◌≡◌, ℕ, suc, ◌+◌, ◌<◌, ◌≤◌, true, false, ◌≢◌, List, length, get_or, set, Some, None, sym, refl, ap, ◌∙◌, subst, ap₂, add-one, arith, below_more}
use Rattle.std.proofs.lemmas.List.{get_or-set_same, get_or-set_other, length-set}
use Rattle.timeline.specs.declared.events.Event.{Event}
use Rattle.timeline.specs.Order.{nothing, nth}
use Rattle.timeline.proofs.Lists.{clash}
use Rattle.patterns.specs.Patterns.{Pattern}
use Rattle.rows.specs.Held.{Along, six_of}
use Rattle.rows.specs.Search.{Space, chosen}
use Rattle.rows.specs.Finding.{row_ok, row_hi, space, to_come, behind, found_first}
use Rattle.rows.specs.declared.search.Cursor.{Cursor}
use Rattle.rows.proofs.Chosen.{chosen_set, Placed}
use Rattle.rows.proofs.Arrays.{Came, to_do, went_back, went_to, went_on, went_down, way_found, none_left}
use Rattle.rows.proofs.LevelOk.{hi_deep, hi_small}
use Rattle.rows.proofs.Numbers.{six_is}
use Rattle.rows.proofs.Pruning.{Starts}

pub record State (h : List Event) (p : Pattern) (upto : ℕ) (cur : Cursor) (at : List ℕ) (row : List Event) (d : ℕ) : Type 0 where
  pub came : Came (space h p upto) (length p.steps) upto cur.at cur.depth at d
  pub wide : length row ≡ 6
  pub are : (j : ℕ) → j < d → get_or row j nothing ≡ nth h (get_or at j 0)

-- the same with what the code's bounds need, by its own count of steps
abbrev pub Going : ℕ → List Event → Pattern → ℕ → Cursor → List ℕ → List Event → ℕ → Type 0
Going steps h p upto cur at row d = (d < steps) × (steps ≤ 6) × (length at ≡ 6) × (length row ≡ 6) × State h p upto cur at row d

pub going : (steps : ℕ) (h : List Event) (p : Pattern) (upto : ℕ) (cur : Cursor) (at : List ℕ) (row : List Event) (d : ℕ) → steps ≡ length p.steps → length p.steps ≤ 6
    → State h p upto cur at row d → Going steps h p upto cur at row d
going steps h p upto cur at row d e f s = (omega (arith, s.came.deep), omega arith, s.came.long, s.wide, s)

-- how many moves are left
abbrev pub moves_left : Pattern → ℕ → List ℕ → ℕ → ℕ
moves_left p upto at d = to_do upto (length p.steps) at d

pub begins : (h : List Event) (p : Pattern) (upto n : ℕ) (cur : Cursor) (row : List Event) → Placed n upto (length p.steps) cur → length cur.at ≡ 6 → length row ≡ 6
    → ((j : ℕ) → j < cur.depth → get_or row j nothing ≡ nth h (get_or cur.at j 0)) → State h p upto cur cur.at row cur.depth
begins h p upto n cur row w l k a =
    record { came = record { deep = w.deep; long = l; before = w.before; here = w.here; rest_of = refl; same = refl }; wide = k; are = a }

module _ (h : List Event) (p : Pattern) (upto : ℕ) (cur : Cursor) (few : length p.steps ≤ 6) (short : upto ≤ length h) where
  abbrev S : Space
  S = space h p upto

  abbrev k : ℕ
  k = length p.steps

  module _ (at : List ℕ) (row : List Event) (d : ℕ) (st : State h p upto cur at row d) where
    -- no level goes beyond the bound
    top : row_hi upto (chosen at d) ≤ upto
    top = hi_small upto at d (omega (arith, st.came.deep, st.came.long)) st.came.before

    -- the events of levels before one that is set
    are_set : (e v : ℕ) → e ≤ d → (j : ℕ) → j < e → get_or row j nothing ≡ nth h (get_or (set at e v) j 0)
    are_set e v l j q = let ne : j ≢ e = omega arith in rw (get_or-set_other at e j v 0 ne) (st.are j (omega arith))

    -- no more at this level: back
    pub moves_back : (e : ℕ) → suc e ≡ d → row_hi upto (chosen at d) ≤ get_or at d 0
        → State h p upto cur (set at e (get_or at e 0 + 1)) row e × (moves_left p upto (set at e (get_or at e 0 + 1)) e < moves_left p upto at d)
    moves_back e q l =
        let g = went_back S k upto few cur.at cur.depth at e d q st.came l in
        (record { came = g.0; wide = st.wide; are = are_set e (get_or at e 0 + 1) (omega arith) }, g.1)

    -- no more at all
    pub moves_over : d ≡ 0 → row_hi upto (chosen at d) ≤ get_or at d 0 → None ≡ found_first h p cur (to_come h p upto cur)
    unfolding found_first to_come
    moves_over z l = let e = none_left S k upto few cur.at cur.depth at d z st.came l in rw e refl

    -- further on to v, over positions that may not be chosen
    module _ (v : ℕ) (from : get_or at d 0 ≤ v) (to : v ≤ row_hi upto (chosen at d))
        (passed : (i : ℕ) → i < v → get_or at d 0 ≤ i → row_ok h p.within p.steps (chosen at d) i ≡ false) where
      abbrev at₁ : List ℕ
      at₁ = set at d v

      jump_all : Came S k upto cur.at cur.depth at₁ d × (to_do upto k at₁ d ≤ to_do upto k at d) × (get_or at d 0 < v → to_do upto k at₁ d < to_do upto k at d)
      jump_all = went_to S k upto few cur.at cur.depth at d v st.came from to top (λ i a b t. clash t (passed i b a))

      pub moves_far : get_or at d 0 < v → State h p upto cur at₁ row d × (moves_left p upto at₁ d < moves_left p upto at d)
      moves_far l = let g = jump_all in (record { came = g.0; wide = st.wide; are = are_set d v (omega arith) }, g.2 l)

      -- the event there is looked at
      module _ (in-range : v < row_hi upto (chosen at d)) (e : Event) (is : e ≡ nth h v) where
        abbrev row₁ : List Event
        row₁ = set row d e

        there : get_or at₁ d 0 ≡ v
        there = let l : d < length at = omega (arith, st.came.deep, st.came.long) in get_or-set_same at d v 0 l

        same_end : row_hi upto (chosen at₁ d) ≡ row_hi upto (chosen at d)
        same_end = ap (row_hi upto) (chosen_set at d d v (omega arith))

        pub under_end : get_or at₁ d 0 < row_hi upto (chosen at₁ d)
        under_end = rw (there, same_end) in-range

        same_top : row_hi upto (chosen at₁ d) ≤ upto
        same_top = rw same_end top

        are₁ : (j : ℕ) → j < d + 1 → get_or row₁ j nothing ≡ nth h (get_or at₁ j 0)
        are₁ =
            let l : d < length row = omega (arith, st.came.deep, st.wide) in
            below_more (λ j. get_or row₁ j nothing ≡ nth h (get_or at₁ j 0)) d
            (λ j q. (let ne : j ≢ d = omega arith in rw (get_or-set_other row d j e nothing ne) (are_set d v (omega arith) j q)))
            (rw (there, get_or-set_same row d e nothing l) is)

        below : (j : ℕ) → j < d + 1 → get_or at₁ j 0 < upto
        below = below_more (λ j. get_or at₁ j 0 < upto) d jump_all.0.before (omega (arith, under_end, same_top))

        pub looks : Along h at₁ row₁ (d + 1)
        looks = record { inside = λ j l. omega (arith, below j l); are = are₁ }

        wide₁ : length row₁ ≡ 6
        wide₁ = length-set row d e ∙ st.wide

        -- it may not be chosen
        pub moves_on : row_ok h p.within p.steps (chosen at₁ d) (get_or at₁ d 0) ≡ false
            → State h p upto cur (set at₁ d (get_or at₁ d 0 + 1)) row₁ d × (moves_left p upto (set at₁ d (get_or at₁ d 0 + 1)) d < moves_left p upto at d)
        moves_on t =
            let g = jump_all in
            let o = went_on S k upto few cur.at cur.depth at₁ d g.0 under_end same_top t in (
              record {
                came = o.0;
                wide = wide₁;
                are = λ j l. (let ne : j ≢ d = omega arith in rw (get_or-set_other at₁ d j (get_or at₁ d 0 + 1) 0 ne) (are₁ j (omega arith)));
              },
              omega (arith, o.1, g.1),
            )

        module _ (ok : row_ok h p.within p.steps (chosen at₁ d) (get_or at₁ d 0) ≡ true) where
          -- it may, and there are more levels
          pub moves_down : (u : ℕ) → d + 1 < k → Starts h p at₁ (d + 1) u → State h p upto cur (set at₁ (d + 1) u) row₁ (d + 1) × (moves_left p upto (set at₁ (d + 1) u) (d + 1) < moves_left p upto at d)
          moves_down u l s =
              let g = jump_all in
              let last : get_or at₁ 0 0 ≡ row_hi upto (chosen at₁ (d + 1)) = hi_deep upto at₁ (d + 1) (λ z. omega arith) (omega (arith, g.0.long)) in
              let first = below 0 (omega arith) in
              let o = went_down S k upto few cur.at cur.depth at₁ d (d + 1) u (sym (add-one d)) l s.0.0 (omega (arith, s.0.1)) (omega arith) (s.1 upto) g.0 under_end same_top ok in (
                record {
                  came = o.0;
                  wide = wide₁;
                  are = λ j l. (let ne : j ≢ d + 1 = omega arith in rw (get_or-set_other at₁ (d + 1) j u 0 ne) (are₁ j l));
                },
                omega (arith, o.1, g.1),
              )

          -- it may, and the row is whole
          pub moves_found : suc d ≡ k → Some (record { numbers = six_of row₁ k; next = behind k at₁ }) ≡ found_first h p cur (to_come h p upto cur)
          unfolding found_first to_come
          moves_found q =
              let g = jump_all in
              let f = way_found S k upto few cur.at cur.depth at₁ d q g.0 under_end ok in
              let a : Along h at₁ row₁ k = subst (Along h at₁ row₁) (add-one d ∙ q) looks in
              let n = six_is h at₁ row₁ k g.0.long (omega arith) few a in
              rw f.0 (ap₂ (λ ns xs. Some (record { numbers = ns; next = behind k xs })) n f.1)
