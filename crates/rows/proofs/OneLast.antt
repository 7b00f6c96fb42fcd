-- The rows of one last event: those that the search finds are those of the definition.
use Rattle.std.proofs.Common.{◌≡◌, ℕ, suc, ◌+◌, ◌-◌, ◌<◌, ◌≤◌, Bool, true, false, not, ◌&&◌, eqb, List, [], ◌∷◌, ◌++◌, length, sym, refl, ap, ◌∙◌, ap₂, append_assoc, append-nil, arith, length-append}
use Rattle.std.proofs.Math.Bool.{and-true}
use Rattle.std.proofs.lemmas.Bool.Decides.{nat_tests}
use Rattle.timeline.specs.declared.events.Event.{Event}
use Rattle.timeline.specs.Lists.{pick, those, flat, each, run}
use Rattle.timeline.specs.Order.{nth, before, last_of}
use Rattle.timeline.proofs.Lists.{all_map, those_flat, those_none}
use Rattle.timeline.proofs.Each.{each_append, each_flat, flat_each}
use Rattle.timeline.proofs.Order.{before_irr}
use Rattle.patterns.specs.Patterns.{Step, Pattern}
use Rattle.rows.specs.Rows.{goes_on, rows}
use Rattle.rows.specs.Search.{paths, forward}
use Rattle.rows.specs.Finding.{fits, step_of, row_ok, row_lo, row_hi, space, row_of}
use Rattle.rows.specs.SearchLaws.{same, Rises, RowsOfOne}
use Rattle.rows.proofs.Positions.{flat_pick, flat_none, flat_same, flat_narrow, each_pick, each_nth}
use Rattle.rows.proofs.Picks.{those_pick, pick_none, pick_and}
use Rattle.rows.proofs.Steps.{step_mid, step_last}
use Rattle.rows.proofs.Rising.{nth_before, not_before, goes_first, goes_next, goes_not, ends_later, snoc_each, last_each}

before_co : (a b c : Event) → before a b ≡ true → before a c ≡ false → before c b ≡ true
before_co a b c h k = grind (arith, nat_tests)

module _ (h : List Event) (rise : Rises h) (p : Pattern) (upto l : ℕ) (in-range : l < length h) where
  abbrev w : ℕ
  w = p.within

  abbrev ends_so : List Event → Bool
  ends_so r = same (nth h l) (last_of r)

  -- the definition's rows that end with l, behind positions; and what the search finds behind a path
  abbrev Defined : List Step → List ℕ → List (List Event)
  Defined ts ps = those ends_so (rows h w ts (each (nth h) ps))

  abbrev Searched : ℕ → List ℕ → List (List Event)
  Searched n pre = each (row_of h) (paths (space h p upto) n pre)

  defined_step : (s : Step) (ts : List Step) (ps : List ℕ) → Defined (s ∷ ts) ps ≡ flat (λ i. pick (goes_on h w (each (nth h) ps) s (nth h i)) (Defined ts (ps ++ i ∷ [])) []) (run 0 (length h))
  unfolding rows
  defined_step s ts ps =
      let es = each (nth h) ps in
      let on = λ (e : Event). pick (goes_on h w es s e) (rows h w ts (es ++ e ∷ [])) [] in
      ap (those ends_so) (flat_pick (λ e. rows h w ts (es ++ e ∷ [])) (goes_on h w es s) h ∙ ap (flat on) (sym (each_nth h)) ∙ flat_each on (nth h) (run 0 (length h)))
      ∙ those_flat ends_so (λ i. on (nth h i)) (run 0 (length h))
      ∙ flat_same (λ i. those ends_so (on (nth h i))) (λ i. pick (goes_on h w es s (nth h i)) (Defined ts (ps ++ i ∷ [])) []) 0 (length h)
      (λ i x y. those_pick ends_so (goes_on h w es s (nth h i)) (rows h w ts (es ++ nth h i ∷ [])) ∙ rw (snoc_each h ps i) refl)

  -- a path of the search: x chosen last, the positions ps of the steps, the next from lo on
  record Place (x : ℕ) (pre ps : List ℕ) (lo : ℕ) : Type 0 where
    fw : forward (x ∷ pre) ≡ l ∷ ps
    len : length pre ≡ length ps
    lo_is : row_lo (x ∷ pre) ≡ lo
    low : lo ≤ l
    goes : (s : Step) (i : ℕ) → lo ≤ i → i < length h → goes_on h w (each (nth h) ps) s (nth h i) ≡ fits h w s ps i
    stops : (s : Step) (i : ℕ) → i < lo → goes_on h w (each (nth h) ps) s (nth h i) ≡ false

  place_first : Place l [] [] 0
  unfolding forward row_lo
  place_first = record { fw = refl; len = refl; lo_is = refl; low = omega arith; goes = λ s i a b. goes_first h rise w s i; stops = λ s i a. absurd (omega arith) }

  place_next : (x : ℕ) (pre ps : List ℕ) (lo : ℕ) → Place x pre ps lo → (i : ℕ) → i < l → Place i (x ∷ pre) (ps ++ i ∷ []) (suc i)
  unfolding forward row_lo
  place_next x pre ps lo o i k =
      record {
        fw = rw o.fw refl;
        len = omega (arith, o.len, length-append ps (i ∷ []));
        lo_is = refl;
        low = omega arith;
        goes = λ s j a b. goes_next h rise w ps i s j (omega arith) b;
        stops = λ s j a. goes_not h rise w ps i s j (omega arith) (omega arith);
      }

  alone : (i : ℕ) (ps : List ℕ) → Defined [] (ps ++ i ∷ []) ≡ pick (same (nth h l) (nth h i)) (each (nth h) (ps ++ i ∷ []) ∷ []) []
  unfolding rows those
  alone i ps = rw (last_each h ps i) refl

  -- one step more: only l itself
  defined_one : (x : ℕ) (pre ps : List ℕ) (lo : ℕ) → Place x pre ps lo → (s : Step) → Defined (s ∷ []) ps ≡ pick (fits h w s ps l) (each (nth h) (ps ++ l ∷ []) ∷ []) []
  unfolding run flat
  defined_one x pre ps lo o s =
      let on = λ (i : ℕ). goes_on h w (each (nth h) ps) s (nth h i) in
      let end = pick (fits h w s ps l) (each (nth h) (ps ++ l ∷ []) ∷ []) [] in
      let e : suc l - l ≡ 1 = omega arith in
      defined_step s [] ps
      ∙ flat_narrow (λ i. pick (on i) (Defined [] (ps ++ i ∷ [])) []) (λ i. end) l (suc l) (length h) (omega arith) (omega arith)
      (λ i a b. pick_none (on i) (Defined [] (ps ++ i ∷ [])) (alone i ps ∙ rw (nth_before h rise i l (omega arith) in-range) (out (before (nth h l) (nth h i)) (each (nth h) (ps ++ i ∷ [])))))
      (λ i a b. let e : i ≡ l = omega arith in rw e (rw (alone l ps, before_irr (nth h l), o.goes s l o.low in-range) refl))
      (λ i a b. pick_none (on i) (Defined [] (ps ++ i ∷ [])) (alone i ps ∙ rw (nth_before h rise l i (omega arith) (omega arith)) refl))
      ∙ rw e (append-nil end)
    where
      out : (b : Bool) (r : List Event) → pick (not b && false) (r ∷ []) [] ≡ []
      out true r = refl
      out false r = refl

  -- none behind an event that is not before l
  defined_late : (t : Step) (ts : List Step) (ps : List ℕ) (i : ℕ) → l ≤ i → i < length h → Defined (t ∷ ts) (ps ++ i ∷ []) ≡ []
  defined_late t ts ps i a b =
      those_none ends_so (rows h w (t ∷ ts) (each (nth h) (ps ++ i ∷ [])))
      (rw (snoc_each h ps i)
      (all_map (λ r. before (nth h i) (last_of r) ≡ true) (λ r. ends_so r ≡ false)
      (λ r k. let z = before_co (nth h i) (last_of r) (nth h l) k (not_before h rise i l a b) in rw z refl)
      (rows h w (t ∷ ts) (each (nth h) ps ++ nth h i ∷ [])) (ends_later h rise w t ts (each (nth h) ps) (nth h i))))

  -- more steps: only positions behind the one before and before l
  defined_more : (x : ℕ) (pre ps : List ℕ) (lo : ℕ) → Place x pre ps lo → (s t : Step) (ts : List Step)
      → Defined (s ∷ t ∷ ts) ps ≡ flat (λ i. pick (fits h w s ps i) (Defined (t ∷ ts) (ps ++ i ∷ [])) []) (run lo (l - lo))
  defined_more x pre ps lo o s t ts =
      let on = λ (i : ℕ). goes_on h w (each (nth h) ps) s (nth h i) in
      defined_step s (t ∷ ts) ps
      ∙ flat_narrow (λ i. pick (on i) (Defined (t ∷ ts) (ps ++ i ∷ [])) []) (λ i. pick (fits h w s ps i) (Defined (t ∷ ts) (ps ++ i ∷ [])) []) lo l (length h) o.low (omega arith)
      (λ i a b. rw (o.stops s i b) refl)
      (λ i a b. rw (o.goes s i a (omega arith)) refl)
      (λ i a b. pick_none (on i) (Defined (t ∷ ts) (ps ++ i ∷ [])) (defined_late t ts ps i a b))

  searched_step : (n x : ℕ) (pre ps : List ℕ) (lo : ℕ) → Place x pre ps lo
      → Searched (suc n) (x ∷ pre) ≡ flat (λ i. pick (row_ok h w p.steps (x ∷ pre) i) (Searched n (i ∷ x ∷ pre)) []) (run lo (l - lo))
  unfolding paths row_hi
  searched_step n x pre ps lo o =
      let ok = row_ok h w p.steps (x ∷ pre) in
      let more = λ (i : ℕ). paths (space h p upto) n (i ∷ x ∷ pre) in
      let e : row_hi upto (x ∷ pre) ≡ l = rw o.fw refl in
      let places = run (row_lo (x ∷ pre)) (row_hi upto (x ∷ pre) - row_lo (x ∷ pre)) in
      ap (each (row_of h)) (flat_pick more ok places) ∙ each_flat (row_of h) (λ i. pick (ok i) (more i) []) places
      ∙ ap₂ (λ a b. flat (λ i. each (row_of h) (pick (ok i) (more i) [])) (run a (b - a))) o.lo_is e
      ∙ flat_same (λ i. each (row_of h) (pick (ok i) (more i) [])) (λ i. pick (ok i) (Searched n (i ∷ x ∷ pre)) []) lo (l - lo) (λ i a b. each_pick (row_of h) (ok i) (more i))

  ok_is : (i x : ℕ) (pre ps : List ℕ) (lo : ℕ) → Place x pre ps lo → row_ok h w p.steps (x ∷ pre) i
      ≡ (fits h w (step_of p.steps (length ps)) ps i
      && pick (eqb (length ps + 2) (length p.steps)) (fits h w (step_of p.steps (length p.steps - 1)) (ps ++ i ∷ []) l) true)
  unfolding row_ok forward
  ok_is i x pre ps lo o = let f : forward pre ++ x ∷ [] ≡ l ∷ ps = o.fw in rw (f, o.len) refl

  row_is : (i x : ℕ) (pre ps : List ℕ) (lo : ℕ) → Place x pre ps lo → row_of h (i ∷ x ∷ pre) ≡ each (nth h) ((ps ++ i ∷ []) ++ l ∷ [])
  unfolding forward each
  row_is i x pre ps lo o = let f : forward pre ++ x ∷ [] ≡ l ∷ ps = o.fw in rw f (sym (each_append (nth h) (ps ++ i ∷ []) (l ∷ [])))

  -- step by step, of two steps or more: ss are behind us
  agree : (ss : List Step) (s t : Step) (ts : List Step) (x : ℕ) (pre ps : List ℕ) (lo : ℕ) → Place x pre ps lo → p.steps ≡ ss ++ s ∷ t ∷ ts → length ss ≡ length ps
      → Searched (suc (length ts)) (x ∷ pre) ≡ Defined (s ∷ t ∷ ts) ps
  unfolding paths each
  agree ss s t [] x pre ps lo o e n =
      searched_step 0 x pre ps lo o
      ∙ flat_same (λ i. pick (row_ok h w p.steps (x ∷ pre) i) (Searched 0 (i ∷ x ∷ pre)) []) (λ i. pick (fits h w s ps i) (Defined (t ∷ []) (ps ++ i ∷ [])) []) lo (l - lo)
      (λ i a b.
      let k : i < l = omega (arith, o.low) in
      let y : length p.steps ≡ length ps + 2 = ap length e ∙ length-append ss (s ∷ t ∷ []) ∙ omega arith in
      let z : eqb (length ps + 2) (length p.steps) ≡ true = rw y (grind (arith, nat_tests)) in
      let u : step_of p.steps (length ps) ≡ s = rw (e, ← n) (step_mid ss s (t ∷ [])) in
      let v : step_of p.steps (length p.steps - 1) ≡ t = rw e (step_last ss s t) in
      ap₂ (λ c r. pick c (r ∷ []) []) (ok_is i x pre ps lo o ∙ rw (z, u, v) refl) (row_is i x pre ps lo o)
      ∙ pick_and (fits h w s ps i) (fits h w t (ps ++ i ∷ []) l) (each (nth h) ((ps ++ i ∷ []) ++ l ∷ []) ∷ [])
      ∙ ap (λ r. pick (fits h w s ps i) r []) (sym (defined_one i (x ∷ pre) (ps ++ i ∷ []) (suc i) (place_next x pre ps lo o i k) t)))
      ∙ sym (defined_more x pre ps lo o s t [])
  agree ss s t (u ∷ ts) x pre ps lo o e n =
      searched_step (suc (length ts)) x pre ps lo o
      ∙ flat_same (λ i. pick (row_ok h w p.steps (x ∷ pre) i) (Searched (suc (length ts)) (i ∷ x ∷ pre)) []) (λ i. pick (fits h w s ps i) (Defined (t ∷ u ∷ ts) (ps ++ i ∷ [])) []) lo (l - lo)
      (λ i a b.
      let k : i < l = omega (arith, o.low) in
      let y : length p.steps ≡ length ps + (3 + length ts) = ap length e ∙ length-append ss (s ∷ t ∷ u ∷ ts) ∙ omega arith in
      let z : eqb (length ps + 2) (length p.steps) ≡ false = rw y (grind (arith, nat_tests)) in
      let v : step_of p.steps (length ps) ≡ s = rw (e, ← n) (step_mid ss s (t ∷ u ∷ ts)) in
      ap₂ (λ c r. pick c r []) (ok_is i x pre ps lo o ∙ rw (z, v) (and-true (fits h w s ps i)))
      (agree (ss ++ s ∷ []) t u ts i (x ∷ pre) (ps ++ i ∷ []) (suc i) (place_next x pre ps lo o i k) (e ∙ sym (append_assoc ss (s ∷ []) (t ∷ u ∷ ts)))
      (omega (arith, length-append ss (s ∷ []), length-append ps (i ∷ [])))))
      ∙ sym (defined_more x pre ps lo o s t (u ∷ ts))

  -- where the last event isn't of the last step's kind, there are none
  of_kind : (s : Step) (ts : List Step) → eqb (nth h l).kind (step_of (s ∷ ts) (length ts)).kind ≡ false → (x : ℕ) (pre ps : List ℕ) (lo : ℕ) → Place x pre ps lo → Defined (s ∷ ts) ps ≡ []
  unfolding step_of fits
  of_kind s [] e x pre ps lo o = defined_one x pre ps lo o s ∙ rw e refl
  of_kind s (t ∷ ts) e x pre ps lo o =
      defined_more x pre ps lo o s t ts
      ∙ flat_none (λ i. pick (fits h w s ps i) (Defined (t ∷ ts) (ps ++ i ∷ [])) []) lo (l - lo)
      (λ i a b.
      let k : i < l = omega (arith, o.low) in
      pick_none (fits h w s ps i) (Defined (t ∷ ts) (ps ++ i ∷ [])) (of_kind t ts e i (x ∷ pre) (ps ++ i ∷ []) (suc i) (place_next x pre ps lo o i k)))

  one_step : (s : Step) → p.steps ≡ s ∷ [] → each (row_of h) (pick (row_ok h w p.steps [] l) (paths (space h p upto) 0 (l ∷ [])) []) ≡ Defined (s ∷ []) []
  unfolding row_ok step_of each paths forward
  one_step s e = each_pick (row_of h) (row_ok h w p.steps [] l) (paths (space h p upto) 0 (l ∷ [])) ∙ rw e refl ∙ sym (defined_one l [] [] 0 place_first s)

  more_steps : (s t : Step) (ts : List Step) → p.steps ≡ s ∷ t ∷ ts
      → each (row_of h) (pick (row_ok h w p.steps [] l) (paths (space h p upto) (suc (length ts)) (l ∷ [])) []) ≡ Defined (s ∷ t ∷ ts) []
  unfolding row_ok step_of each
  more_steps s t ts e = each_pick (row_of h) (row_ok h w p.steps [] l) (paths (space h p upto) (suc (length ts)) (l ∷ [])) ∙ go (eqb (nth h l).kind (step_of (s ∷ t ∷ ts) (length (t ∷ ts))).kind) refl
    where
      ok_kind : row_ok h w p.steps [] l ≡ eqb (nth h l).kind (step_of (s ∷ t ∷ ts) (length (t ∷ ts))).kind
      ok_kind =
          let a : eqb (length (s ∷ t ∷ ts)) 1 ≡ false = grind (arith, nat_tests) in
          let b : length (s ∷ t ∷ ts) - 1 ≡ length (t ∷ ts) = omega arith in
          rw (e, a, b) refl

      go : (b : Bool) → eqb (nth h l).kind (step_of (s ∷ t ∷ ts) (length (t ∷ ts))).kind ≡ b → pick (row_ok h w p.steps [] l) (Searched (suc (length ts)) (l ∷ [])) [] ≡ Defined (s ∷ t ∷ ts) []
      go true q = rw (ok_kind, q) (agree [] s t ts l [] [] 0 place_first e refl)
      go false q = rw (ok_kind, q) (sym (of_kind s (t ∷ ts) q l [] [] 0 place_first))

pub rows_of_one_proof : RowsOfOne
unfolding RowsOfOne each
rows_of_one_proof p h l upto r k m = go p.steps refl k
  where
    go : (ss : List Step) → p.steps ≡ ss → 1 ≤ length ss
        → each (row_of h) (pick (row_ok h p.within p.steps [] l) (paths (space h p upto) (length ss - 1) (l ∷ [])) []) ≡ those (λ r. same (nth h l) (last_of r)) (rows h p.within ss [])
    go [] e k = absurd (omega arith)
    go (s ∷ []) e k = let z : length (s ∷ []) - 1 ≡ 0 = omega arith in rw z (one_step h r p upto l m s e)
    go (s ∷ t ∷ ts) e k = let z : length (s ∷ t ∷ ts) - 1 ≡ suc (length ts) = omega arith in rw z (more_steps h r p upto l m s t ts e)
