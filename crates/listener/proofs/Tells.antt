-- A telling, row by row: from a cursor the listener tells all rows that are still to come, one an act, and then settles.
use Rattle.std.proofs.Common.{◌≡◌, ℕ, suc, ◌-◌, ◌≤◌, true, List, [], ◌∷◌, ◌++◌, length, take, drop, Some, None, Option, sym, refl, ap, ◌∙◌, subst, ap₂, arith}
use Rattle.std.proofs.lemmas.List.{length-append, length-take, length-drop, take-take, take_at}
use Rattle.timeline.specs.declared.events.Event.{Event}
use Rattle.timeline.specs.Lists.{each}
use Rattle.timeline.specs.Order.{nth}
use Rattle.timeline.specs.Ring.{events}
use Rattle.patterns.specs.Patterns.{Pattern}
use Rattle.patterns.specs.Kept.{kept_pattern, kept_count}
use Rattle.rows.specs.Known.{numbers}
use Rattle.rows.specs.Search.{forward}
use Rattle.rows.specs.Finding.{six, row_of, to_come, placed, next_found}
use Rattle.rows.specs.SearchLaws.{GoesOn, IsOver}
use Rattle.rows.proofs.Chosen.{length_forward}
use Rattle.rows.proofs.Resuming.{goes_on_proof, is_over_proof}
use Rattle.rows.specs.declared.search.Cursor.{Cursor}
use Rattle.rows.specs.declared.search.Found.{Found}
use Rattle.listener.specs.declared.head.Phase.{Phase}
use Rattle.listener.specs.declared.head.Head.{Head}
use Rattle.listener.specs.Engine.{next, tells, Stepped}
use Rattle.listener.specs.Machine.{no_places, memory_of, with_places, cursor_of, act_after, settled, told_or_settled, tell_from, own}
use Rattle.listener.proofs.Runs.{Telling}
use Rattle.listener.proofs.Steps.{Sound}
use Rattle.listener.proofs.Cursors.{next_depth}

-- the words of a pattern
pub record KeptAs (cells : List ℕ) (p : Pattern) : Type 0 where
  pub wide : length cells ≡ 405
  pub means : kept_pattern cells ≡ p
  pub count : kept_count cells ≡ length p.steps
  pub some : 1 ≤ length p.steps
  pub few : length p.steps ≤ 6

length_each : {A B : Type 0} (f : A → B) (xs : List A) → length (each f xs) ≡ length xs
unfolding each
length_each f [] = refl
length_each f (x ∷ xs) = ap suc (length_each f xs)

length_row : (h : List Event) (path : List ℕ) → length (numbers (row_of h path)) ≡ length path
length_row h path =
    length_each (λ e. e.heard) (row_of h path)
    ∙ length-append (each (nth h) (drop 1 (forward path))) (each (nth h) (take 1 (forward path)))
    ∙ omega (arith, length_each (nth h) (drop 1 (forward path)), length_each (nth h) (take 1 (forward path)), length-drop 1 (forward path), length-take 1 (forward path), length_forward path)

take_six : (xs : List ℕ) → length xs ≤ 6 → take (length xs) (six xs) ≡ xs
take_six xs l = take-take (length xs) 6 (xs ++ no_places) l ∙ take_at xs no_places (length xs) refl

-- the rows of paths, by numbers
abbrev pub told : List Event → List (List ℕ) → List (List ℕ)
told h paths = each (λ path. numbers (row_of h path)) paths

module _ (p : Pattern) (cells ring : List ℕ) (kept : KeptAs cells p) (ph : Phase)
    (next_is : (h : Head) → Sound h cells ring → own.step (memory_of ph h cells ring) next ≡ tell_from ph h cells ring (cursor_of cells h)) where
  abbrev Tells : (List ℕ → Type 0) → List (List ℕ) → Head → Cursor → Type 0
  Tells D rs h c =
      Sound h cells ring → length c.at ≡ 6 → to_come (events ring h.start h.len) p h.upto c ≡ rs
      → placed (length (events ring h.start h.len)) h.upto (length p.steps) c ≡ true
      → D (settled ph h cells ring).memory
      → Telling own D (act_after ph) (tell_from ph h cells ring c) (told (events ring h.start h.len) rs)

  -- one row told, and the rest by going on
  one_more :
      (D : List ℕ → Type 0) (r : List ℕ) (rs : List (List ℕ)) (h : Head) (c : Cursor) (f : Found)
      → ((h₁ : Head) (c₁ : Cursor) → Tells D rs h₁ c₁)
      → Sound h cells ring → length c.at ≡ 6 → to_come (events ring h.start h.len) p h.upto c ≡ r ∷ rs
      → next_found (events ring h.start h.len) p h.upto c ≡ Some f
      → D (settled ph h cells ring).memory
      → Telling own D (act_after ph) (told_or_settled ph h cells ring (Some f)) (told (events ring h.start h.len) (r ∷ rs))
  unfolding each GoesOn IsOver
  one_more D r rs h c f ih s six-long coming e d =
      let H : List Event = events ring h.start h.len in
      let g = goes_on_proof H p h.upto c f e in
      let is-r : g.0 ≡ r = cc in
      let is-rs : to_come H p h.upto f.next ≡ rs = cc in
      let long : length (numbers (row_of H r)) ≡ kept_count cells = length_row H r ∙ ap length (sym is-r) ∙ g.3 ∙ sym kept.count in
      let row : take (kept_count cells) f.numbers ≡ numbers (row_of H r) =
      ap₂ take (sym long) (g.2 ∙ ap (λ (x : List ℕ). six (numbers (row_of H x))) is-r) ∙ take_six (numbers (row_of H r)) (omega (arith, kept.few, kept.count)) in
      let h₁ : Head = with_places h f.next.at in
      let s₁ : Sound h₁ cells ring = record { places = g.4 six-long; ok = s.ok; wide = s.wide; long = s.long } in
      let same : cursor_of cells h₁ ≡ f.next =
      ap (λ (n : ℕ). cursor_at n f.next.at) (ap (λ (n : ℕ). n - 1) kept.count ∙ sym (next_depth H p h.upto c f e)) in
      let rest = ih h₁ f.next s₁ (g.4 six-long) is-rs g.5 d in
      (ap tells row, subst (λ (st : Stepped). Telling own D (act_after ph) st (told H rs)) (ap (tell_from ph h₁ cells ring) (sym same) ∙ sym (next_is h₁ s₁)) rest)
    where
      cursor_at : ℕ → List ℕ → Cursor
      cursor_at n at = record { depth = n; at = at }

  by_found :
      (D : List ℕ → Type 0) (rs : List (List ℕ)) (h : Head) (c : Cursor) (o : Option Found)
      → ((r : List ℕ) (rest : List (List ℕ)) → rs ≡ r ∷ rest → (h₁ : Head) (c₁ : Cursor) → Tells D rest h₁ c₁)
      → Sound h cells ring → length c.at ≡ 6 → to_come (events ring h.start h.len) p h.upto c ≡ rs
      → placed (length (events ring h.start h.len)) h.upto (length p.steps) c ≡ true
      → next_found (events ring h.start h.len) p h.upto c ≡ o
      → D (settled ph h cells ring).memory
      → Telling own D (act_after ph) (told_or_settled ph h cells ring o) (told (events ring h.start h.len) rs)
  unfolding each GoesOn IsOver
  by_found D [] h c None ih s z coming at_place e d = (refl, d)
  by_found D (r ∷ rs) h c None ih s z coming at_place e d =
      let none = is_over_proof (events ring h.start h.len) p h.upto c at_place e in
      let q : ◌≡◌ {A = ℕ} 0 1 = cc in
      absurd (omega arith)
  by_found D [] h c (Some f) ih s z coming at_place e d =
      let g = goes_on_proof (events ring h.start h.len) p h.upto c f e in
      let g₁ = g.1 in
      let q : ◌≡◌ {A = ℕ} 0 1 = cc in
      absurd (omega arith)
  by_found D (r ∷ rs) h c (Some f) ih s z coming at_place e d = one_more D r rs h c f (ih r rs refl) s z coming e d

  pub tells_all : (D : List ℕ → Type 0) (rs : List (List ℕ)) (h : Head) (c : Cursor) → Tells D rs h c
  unfolding tell_from
  tells_all D [] h c s z coming at_place d =
      by_found D [] h c (next_found (events ring h.start h.len) (kept_pattern cells) h.upto c)
      (λ r rest q. let o : ◌≡◌ {A = ℕ} 0 1 = cc in absurd (omega arith)) s z coming at_place
      (ap (λ (x : Pattern). next_found (events ring h.start h.len) x h.upto c) (sym kept.means)) d
  tells_all D (r ∷ rs) h c s z coming at_place d =
      by_found D (r ∷ rs) h c (next_found (events ring h.start h.len) (kept_pattern cells) h.upto c)
      (λ r₁ rest q. subst (λ (x : List (List ℕ)). (h₁ : Head) (c₁ : Cursor) → Tells D x h₁ c₁) (tail_of q) (tells_all D rs)) s z coming at_place
      (ap (λ (x : Pattern). next_found (events ring h.start h.len) x h.upto c) (sym kept.means)) d
    where
      tail_of : {x y : List ℕ} {xs ys : List (List ℕ)} → x ∷ xs ≡ y ∷ ys → xs ≡ ys
      tail_of q = cc
