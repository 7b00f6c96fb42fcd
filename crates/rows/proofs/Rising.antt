-- Events that rise, by their positions: what goes on behind a row of positions, and that longer rows end later.
use Rattle.std.proofs.Common.{◌≡◌, ℕ, zero, suc, ◌-◌, ◌<◌, ◌≤◌, Bool, true, false, ◌&&◌, List, [], ◌∷◌, ◌++◌, length, get_or, refl, inl, inr, eq-or-lt_of_le, arith, length-append}
use Rattle.std.proofs.Math.Bool.{and-false}
use Rattle.std.proofs.lemmas.List.{length_push, get_or_push}
use Rattle.timeline.specs.declared.events.Event.{Event}
use Rattle.timeline.specs.Lists.{any, those, each, none_of, run}
use Rattle.timeline.specs.Order.{nth, before, first_of, last_of}
use Rattle.timeline.proofs.Lists.{All, all_map, all_flat, all_any, all_those}
use Rattle.timeline.proofs.Each.{each_append}
use Rattle.timeline.proofs.Order.{before_asym, before_cross, before_irr, all_nth}
use Rattle.patterns.specs.Patterns.{Step, fits_step}
use Rattle.rows.specs.Rows.{between, goes_on, rows}
use Rattle.rows.specs.Finding.{forbidden, fits}
use Rattle.rows.specs.SearchLaws.{Ahead, Rises}
use Rattle.rows.proofs.Positions.{nth_each, any_between}
use Rattle.rows.proofs.Reach.{some_snoc, last_snoc}

pub ahead_all : (x : Event) (h : List Event) → Ahead x h → All (λ e. before x e ≡ true) h
ahead_all x [] a = tt
ahead_all x (f ∷ h) a = (a.0, ahead_all x h a.1)

pub nth_before : (h : List Event) → Rises h → (i j : ℕ) → i < j → j < length h → before (nth h i) (nth h j) ≡ true
unfolding nth
nth_before [] r i j k l = absurd (omega arith)
nth_before (e ∷ h) r i zero k l = absurd (omega arith)
nth_before (e ∷ h) r zero (suc j) k l = all_nth (λ f. before e f ≡ true) h (ahead_all e h r.0) j (omega arith)
nth_before (e ∷ h) r (suc i) (suc j) k l = nth_before h r.1 i j (omega arith) (omega arith)

pub not_before : (h : List Event) → Rises h → (i j : ℕ) → j ≤ i → i < length h → before (nth h i) (nth h j) ≡ false
not_before h r i j k l = elim (eq-or-lt_of_le k) [ inl e ↦ rw e (before_irr (nth h i)) | inr m ↦ before_asym (nth h j) (nth h i) (nth_before h r j i m l) ]

module _ (h : List Event) where
  pub snoc_each : (ps : List ℕ) (q : ℕ) → each (nth h) (ps ++ q ∷ []) ≡ each (nth h) ps ++ nth h q ∷ []
  unfolding each
  snoc_each ps q = each_append (nth h) ps (q ∷ [])

  pub last_each : (ps : List ℕ) (q : ℕ) → last_of (each (nth h) (ps ++ q ∷ [])) ≡ nth h q
  last_each ps q = rw (snoc_each ps q) (last_snoc (each (nth h) ps) (nth h q))

  first_each : (ps : List ℕ) (q : ℕ) → first_of (each (nth h) (ps ++ q ∷ [])) ≡ nth h (get_or (ps ++ q ∷ []) 0 0)
  first_each ps q = nth_each h (ps ++ q ∷ []) 0 (omega (arith, length-append ps (q ∷ [])))

  none_each : (ps : List ℕ) (q : ℕ) → none_of (each (nth h) (ps ++ q ∷ [])) ≡ false
  none_each ps q = rw (snoc_each ps q) (some_snoc (each (nth h) ps) (nth h q))

module _ (h : List Event) (rise : Rises h) (w : ℕ) where
  -- with nothing before it, an event goes on if it fits
  pub goes_first : (s : Step) (i : ℕ) → goes_on h w (each (nth h) []) s (nth h i) ≡ fits h w s [] i
  unfolding fits each none_of
  goes_first s i = refl

  -- what is between two events in time stands between them
  between_any : (f : Event → Bool) (q i : ℕ) → q < i → i < length h → any (λ e. between (nth h q) (nth h i) e && f e) h ≡ any (λ j. f (nth h j)) (run (suc q) (i - suc q))
  between_any f q i k l =
      any_between (λ e. between (nth h q) (nth h i) e && f e) (λ j. f (nth h j)) h (suc q) i (omega arith) (omega arith)
      (λ j x y. rw (not_before h rise q j (omega arith) (omega arith)) refl)
      (λ j x y. rw (nth_before h rise q j (omega arith) (omega arith), nth_before h rise j i (omega arith) (omega arith)) refl)
      (λ j x y. rw (not_before h rise j i (omega arith) (omega arith), and-false (before (nth h q) (nth h j))) refl)

  -- behind a row of positions that ends with q
  pub goes_next : (ps : List ℕ) (q : ℕ) (s : Step) (i : ℕ) → q < i → i < length h → goes_on h w (each (nth h) (ps ++ q ∷ [])) s (nth h i) ≡ fits h w s (ps ++ q ∷ []) i
  unfolding fits
  goes_next ps q s i k l =
      let es = each (nth h) (ps ++ q ∷ []) in
      let a : none_of es ≡ false = none_each h ps q in
      let b : none_of (ps ++ q ∷ []) ≡ false = some_snoc ps q in
      let d : last_of es ≡ nth h q = last_each h ps q in
      let f : first_of es ≡ nth h (get_or (ps ++ q ∷ []) 0 0) = first_each h ps q in
      let g : get_or (ps ++ q ∷ []) (length (ps ++ q ∷ []) - 1) 0 ≡ q = get_or_push ps q 0 (length (ps ++ q ∷ []) - 1) (omega (arith, length_push ps q)) in
      let m : before (nth h q) (nth h i) ≡ true = nth_before h rise q i k l in
      let n = between_any (forbidden es s) q i k l in
      rw (a, b, d, f, g, m, n) refl

  pub goes_not : (ps : List ℕ) (q : ℕ) (s : Step) (i : ℕ) → i ≤ q → q < length h → goes_on h w (each (nth h) (ps ++ q ∷ [])) s (nth h i) ≡ false
  goes_not ps q s i k l =
      let es = each (nth h) (ps ++ q ∷ []) in
      let a : none_of es ≡ false = none_each h ps q in
      let d : last_of es ≡ nth h q = last_each h ps q in
      let m : before (nth h q) (nth h i) ≡ false = not_before h rise q i k l in
      rw (a, d, m) (and-false (fits_step es (nth h i) s.kind s.tests))

  goes_later : (es : List Event) (x : Event) (s : Step) (e : Event) → goes_on h w (es ++ x ∷ []) s e ≡ true → before x e ≡ true
  goes_later es x s e g = let a = last_snoc es x in let b = some_snoc es x in let g₁ = rw (b, a) at g in grind arith

  -- what holds of the rows behind every later event holds of all rows
  behind_all : (s : Step) (ss : List Step) (es : List Event) (x : Event) (Q : List Event → Type 0)
      → ((e : Event) → before x e ≡ true → All Q (rows h w ss ((es ++ x ∷ []) ++ e ∷ []))) → All Q (rows h w (s ∷ ss) (es ++ x ∷ []))
  unfolding rows
  behind_all s ss es x Q f =
      all_flat (λ e. Unit × (goes_on h w (es ++ x ∷ []) s e ≡ true)) Q (λ e. rows h w ss ((es ++ x ∷ []) ++ e ∷ [])) (λ e g. f e (goes_later es x s e g.1))
      (those (goes_on h w (es ++ x ∷ []) s) h) (all_those (λ e. Unit) (goes_on h w (es ++ x ∷ []) s) h (all_any (λ e. Unit) (λ e. tt) h))

  -- rows with a step more end later
  pub ends_later : (s : Step) (ss : List Step) (es : List Event) (x : Event) → All (λ r. before x (last_of r) ≡ true) (rows h w (s ∷ ss) (es ++ x ∷ []))
  unfolding rows
  ends_later s [] es x = behind_all s [] es x (λ r. before x (last_of r) ≡ true) (λ e b. (rw (last_snoc (es ++ x ∷ []) e) b, tt))
  ends_later s (t ∷ ss) es x =
      behind_all s (t ∷ ss) es x (λ r. before x (last_of r) ≡ true)
      (λ e b. all_map (λ r. before e (last_of r) ≡ true) (λ r. before x (last_of r) ≡ true) (λ r k. before_cross x e (last_of r) b (before_asym e (last_of r) k))
      (rows h w (t ∷ ss) ((es ++ x ∷ []) ++ e ∷ [])) (ends_later t ss (es ++ x ∷ []) e))
