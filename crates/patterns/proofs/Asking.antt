-- What tests of who ask for, and of which kinds nevers are.
use Rattle.std.proofs.Common.{◌≡◌, ℕ, ◌+◌, ◌<◌, ◌≤◌, Bool, true, false, ◌&&◌, eqb, List, [], ◌∷◌, length, get_or, Some, None, Option, sym, refl, ap, ◌∙◌, arith}
use Rattle.std.proofs.lemmas.Bool.{eqb-true, and_parts}
use Rattle.std.specs.Prelude.{slice_get}
use Rattle.std.specs.Option.{IfSome, option_to_list}
use Rattle.timeline.specs.declared.events.Event.{Event}
use Rattle.timeline.specs.Lists.{pick, or, every, any, each, none_of}
use Rattle.timeline.specs.Order.{nth}
use Rattle.patterns.specs.declared.comparing.Comparison.{Comparison}
use Rattle.patterns.specs.Patterns.{Test, Never, other_side, holds, fits_step}
use Rattle.patterns.specs.Codes.{test_of, comparison}
use Rattle.patterns.specs.Kept.{kept_never, kept_nevers, step_place, kept_step}
use Rattle.patterns.specs.Asked.{first_of, of_some, of_who, asked_who, is_step, with_who_of, asks_same, first_kind, other_kind, free_kind}
use Rattle.patterns.proofs.Chains.{side_same}
use Rattle.patterns.proofs.Chunks.{few_nevers}

and_no : (b : Bool) → (b && false) ≡ false
and_no true = refl
and_no false = refl

or_yes : (b : Bool) → or b true ≡ true
or_yes true = refl
or_yes false = refl

-- TESTS OF WHO

who_holds : (es : List Event) (e : Event) (t : Test) → of_who t ≡ true → holds es e t ≡ eqb e.who (other_side es t.step t.other)
who_holds es e t w = let p = and_parts (eqb t.what 0) (eqb t.sign 0) w in rw (eqb-true t.what 0 p.0, eqb-true t.sign 0 p.1) refl

-- an event whose who is another fails them
who_fails : (es : List Event) (e : Event) (ts : List Test) (t : Test) → first_of of_who ts ≡ Some t → eqb e.who (other_side es t.step t.other) ≡ false → every (holds es e) ts ≡ false
unfolding first_of every
who_fails es e [] t f n = cc
who_fails es e (x ∷ xs) t f n = go (λ h. who_fails es e xs t h n) (of_who x) refl f
  where
    go : (first_of of_who xs ≡ Some t → every (holds es e) xs ≡ false) → (b : Bool) → of_who x ≡ b → pick b (Some x) (first_of of_who xs) ≡ Some t
        → (holds es e x && every (holds es e) xs) ≡ false
    go later true w g =
        let s : x ≡ t = cc in
        let h : holds es e x ≡ false = who_holds es e x w ∙ ap (λ (u : Test). eqb e.who (other_side es u.step u.other)) s ∙ n in
        rw h refl
    go later false w g = rw (later g) (and_no (holds es e x))

pub asked_needed : (es : List Event) (k : ℕ) (ts : List Test) → IfSome (asked_who es ts) (λ w. (e : Event) → eqb e.who w ≡ false → fits_step es e k ts ≡ false)
asked_needed es k ts = go (first_of of_who ts) refl
  where
    go : (o : Option Test) → first_of of_who ts ≡ o → IfSome (of_some (λ t. other_side es t.step t.other) o) (λ w. (e : Event) → eqb e.who w ≡ false → fits_step es e k ts ≡ false)
    go None f = tt
    go (Some t) f = λ e n. rw (who_fails es e ts t f n) (and_no (eqb e.kind k))

side_who : (es : List Event) (is : List ℕ) (o j : ℕ) → is_step j is ≡ true → o ≡ 0 → other_side es is o ≡ (nth es j).who
unfolding is_step other_side
side_who es [] o j a z = cc
side_who es (i ∷ is) o j a z = rw (eqb-true i j a, z) refl

pub same_needed : (j k : ℕ) (ts : List Test) → asks_same j ts ≡ true → (es : List Event) (e : Event) → eqb e.who (nth es j).who ≡ false → fits_step es e k ts ≡ false
same_needed j k ts a es e n = go (first_of of_who ts) refl a
  where
    go : (o : Option Test) → first_of of_who ts ≡ o → with_who_of j o ≡ true → fits_step es e k ts ≡ false
    go None f b = cc
    go (Some t) f b =
        let p = and_parts (is_step j t.step) (eqb t.other 0) b in
        let s = side_who es t.step t.other j p.0 (eqb-true t.other 0 p.1) in
        rw (who_fails es e ts t f (rw s n)) (and_no (eqb e.kind k))

-- what a test, as it is held, is compared with
pub asked_none : (es : List Event) (o : Option Test) → None ≡ of_some comparison o → None ≡ of_some (λ (t : Test). other_side es t.step t.other) o
asked_none es None e = refl
asked_none es (Some t) e = cc

pub asked_some : (es : List Event) (o : Option Test) (c : Comparison) → Some c ≡ of_some comparison o → Some (other_side es (test_of c).step c.other) ≡ of_some (λ (t : Test). other_side es t.step t.other) o
asked_some es None c e = cc
asked_some es (Some t) c e = let s : c ≡ comparison t = cc in rw s (ap Some (side_same es t))

pub with_none : (j : ℕ) (o : Option Test) → None ≡ of_some comparison o → false ≡ with_who_of j o
with_none j None e = refl
with_none j (Some t) e = cc

with_same : (j : ℕ) (t : Test) → with_who_of j (Some (test_of (comparison t))) ≡ with_who_of j (Some t)
unfolding is_step
with_same j t = go t.step
  where
    go : (is : List ℕ) → (is_step j (option_to_list (slice_get is 0)) && eqb t.other 0) ≡ (is_step j is && eqb t.other 0)
    go [] = refl
    go (i ∷ is) = refl

pub with_some : (j : ℕ) (o : Option Test) (c : Comparison) → Some c ≡ of_some comparison o → with_who_of j (Some (test_of c)) ≡ with_who_of j o
with_some j None c e = cc
with_some j (Some t) c e = let s : c ≡ comparison t = cc in rw s (with_same j t)

-- NEVERS
no_tests_hold : (es : List Event) (e : Event) (ts : List Test) → none_of ts ≡ true → every (holds es e) ts ≡ true
unfolding none_of every
no_tests_hold es e [] n = refl
no_tests_hold es e (t ∷ ts) n = cc

-- the kinds of none, of one and of two, and that an event of another kind hits none of them
module _ (ns : List (List ℕ)) (vs : List Never) (same : each (λ ws. kept_never ws 0) ns ≡ vs) where
  abbrev Kinds : ℕ → ℕ → Type 0
  Kinds a b = (a ≡ first_kind vs) × (b ≡ other_kind vs)

  pub no_kinds : length ns < 1 → Kinds 0 0
  unfolding each first_kind other_kind
  no_kinds l = rw (← same) (go ns l)
    where
      go : (ns : List (List ℕ)) → length ns < 1 → (0 ≡ first_kind (each (λ ws. kept_never ws 0) ns)) × (0 ≡ other_kind (each (λ ws. kept_never ws 0) ns))
      go [] l = (refl, refl)
      go (n ∷ ns) l = absurd (omega arith)

  pub one_kind : 1 ≤ length ns → length ns < 2 → let k = get_or (get_or ns 0 []) 0 0 in Kinds k k
  unfolding each first_kind other_kind
  one_kind l m = rw (← same) (go ns l m)
    where
      go : (ns : List (List ℕ)) → 1 ≤ length ns → length ns < 2
          → let k = get_or (get_or ns 0 []) 0 0 in (k ≡ first_kind (each (λ ws. kept_never ws 0) ns)) × (k ≡ other_kind (each (λ ws. kept_never ws 0) ns))
      go [] l m = absurd (omega arith)
      go (n ∷ []) l m = (refl, refl)
      go (n ∷ o ∷ ns) l m = absurd (omega arith)

  pub two_kinds : 2 ≤ length ns → Kinds (get_or (get_or ns 0 []) 0 0) (get_or (get_or ns 1 []) 0 0)
  unfolding each first_kind other_kind
  two_kinds l = rw (← same) (go ns l)
    where
      go : (ns : List (List ℕ)) → 2 ≤ length ns
          → (get_or (get_or ns 0 []) 0 0 ≡ first_kind (each (λ ws. kept_never ws 0) ns)) × (get_or (get_or ns 1 []) 0 0 ≡ other_kind (each (λ ws. kept_never ws 0) ns))
      go [] l = absurd (omega arith)
      go (n ∷ []) l = absurd (omega arith)
      go (n ∷ o ∷ ns) l = (refl, refl)

other_kinds : (vs : List Never) → length vs ≤ 2 → (es : List Event) (e : Event) → eqb e.kind (first_kind vs) ≡ false → eqb e.kind (other_kind vs) ≡ false
    → any (λ v. fits_step es e v.kind v.tests) vs ≡ false
unfolding any first_kind other_kind
other_kinds [] l es e a b = refl
other_kinds (v ∷ []) l es e a b = rw a refl
other_kinds (v ∷ w ∷ []) l es e a b = rw (a, b) refl
other_kinds (v ∷ w ∷ u ∷ vs) l es e a b = absurd (omega arith)

pub kinds_needed : (c : List ℕ) (s a b : ℕ) → let vs = (kept_step c s).never in (a ≡ first_kind vs) × (b ≡ other_kind vs)
    → (es : List Event) (e : Event) → eqb e.kind a ≡ false → eqb e.kind b ≡ false → any (λ v. fits_step es e v.kind v.tests) vs ≡ false
kinds_needed c s a b k es e x y = other_kinds (kept_nevers c (step_place s + 22)) (few_nevers c (step_place s + 22)) es e (ap (eqb e.kind) (sym k.0) ∙ x) (ap (eqb e.kind) (sym k.1) ∙ y)

pub free_needed : (vs : List Never) (k : ℕ) → free_kind vs ≡ Some k → (es : List Event) (e : Event) → eqb e.kind k ≡ true → any (λ v. fits_step es e v.kind v.tests) vs ≡ true
unfolding first_of any
free_needed [] k f es e t = cc
free_needed (v ∷ vs) k f es e t = go (λ h. free_needed vs k h es e t) (none_of v.tests) refl f
  where
    go : (free_kind vs ≡ Some k → any (λ u. fits_step es e u.kind u.tests) vs ≡ true) → (b : Bool) → none_of v.tests ≡ b
        → of_some (λ u. u.kind) (pick b (Some v) (first_of (λ u. none_of u.tests) vs)) ≡ Some k → or (fits_step es e v.kind v.tests) (any (λ u. fits_step es e u.kind u.tests) vs) ≡ true
    go later true n g = let s : v.kind ≡ k = cc in let h : fits_step es e v.kind v.tests ≡ true = rw (s, t) (no_tests_hold es e v.tests n) in rw h refl
    go later false n g = rw (later g) (or_yes (fits_step es e v.kind v.tests))
