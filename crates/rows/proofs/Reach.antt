-- How far a row reaches: its first and last event as it grows, and that it stays within the window.
use Rattle.std.proofs.Common.{◌≡◌, ℕ, ◌+◌, ◌-◌, ◌≤◌, Bool, true, false, ◌&&◌, leb, List, [], ◌∷◌, ◌++◌, length, sym, refl, ◌∙◌, subst, true≢false, arith}
use Rattle.std.proofs.lemmas.Bool.Decides.{nat_tests}
use Rattle.std.proofs.lemmas.Bool.{and_parts}
use Rattle.std.proofs.lemmas.List.{length_push, get_or_push}
use Rattle.timeline.specs.declared.events.Event.{Event}
use Rattle.timeline.specs.Lists.{or, those, none_of}
use Rattle.timeline.specs.Order.{nothing, before, nth, first_of, last_of}
use Rattle.timeline.proofs.Lists.{All, all_map, all_flat, all_any, all_those}
use Rattle.timeline.proofs.Order.{before_irr, nth_is}
use Rattle.patterns.specs.Patterns.{Step, fits_step}
use Rattle.rows.specs.Rows.{clear, goes_on, rows}

pub last_snoc : (es : List Event) (e : Event) → last_of (es ++ e ∷ []) ≡ e
last_snoc es e = nth_is (es ++ e ∷ []) (length (es ++ e ∷ []) - 1) ∙ get_or_push es e nothing (length (es ++ e ∷ []) - 1) (omega (arith, length_push es e))

pub some_snoc : {A : Type 0} (es : List A) (e : A) → none_of (es ++ e ∷ []) ≡ false
unfolding none_of
some_snoc [] e = refl
some_snoc (a ∷ es) e = refl

pub first_snoc : (es : List Event) (e : Event) → none_of es ≡ false → first_of (es ++ e ∷ []) ≡ first_of es
unfolding none_of nth
first_snoc [] e h = absurd (true≢false h)
first_snoc (a ∷ es) e h = refl

pub before_time : (a b : Event) → before a b ≡ true → a.time ≤ b.time
before_time a b h = grind (arith, nat_tests)

-- what is not before b is not before what b is behind
pub before_down : (a b c : Event) → before a b ≡ true → before c b ≡ false → before c a ≡ false
before_down a b c h k = grind (arith, nat_tests)

-- an event is behind the last of a row so far and within the window of the first
abbrev pub near : ℕ → List Event → Event → Bool
near w es e = or (none_of es) (before (last_of es) e && leb e.time ((first_of es).time + w))

pub near_of : (all : List Event) (w : ℕ) (es : List Event) (s : Step) (e : Event) → goes_on all w es s e ≡ true → near w es e ≡ true
near_of all w es s e h =
    (and_parts (near w es e) (clear all es e s) (and_parts (fits_step es e s.kind s.tests) (near w es e && clear all es e s) h).1).0

pub fits_of : (all : List Event) (w : ℕ) (es : List Event) (s : Step) (e : Event) → goes_on all w es s e ≡ true → fits_step es e s.kind s.tests ≡ true
fits_of all w es s e h = (and_parts (fits_step es e s.kind s.tests) (near w es e && clear all es e s) h).0

-- from its first event to its last a row goes up, by no more than the window
pub record Short (w : ℕ) (es : List Event) : Type 0 where
  pub up : (first_of es).time ≤ (last_of es).time
  pub short : (last_of es).time ≤ (first_of es).time + w

pub short_none : (w : ℕ) → Short w []
unfolding nth
short_none w = record { up = omega arith; short = omega arith }

pub short_snoc : (w : ℕ) (es : List Event) (e : Event) → near w es e ≡ true → Short w es → Short w (es ++ e ∷ [])
unfolding none_of nth
short_snoc w [] e h f = grind (arith, nat_tests)
short_snoc w (a ∷ es) e h f = let t = last_snoc (a ∷ es) e in grind (arith, nat_tests)

-- a row that began as es: it has the same first event, and its last is not before the last of es
pub record Reach (w : ℕ) (es r : List Event) : Type 0 where
  pub is_short : Short w r
  pub start : none_of es ≡ false → first_of r ≡ first_of es
  pub behind : none_of es ≡ false → before (last_of r) (last_of es) ≡ false

reach_snoc : (w : ℕ) (es : List Event) (e : Event) → near w es e ≡ true → (r : List Event) → Reach w (es ++ e ∷ []) r → Reach w es r
reach_snoc w es e h r q = record { is_short = q.is_short; start = λ n. q.start (some_snoc es e) ∙ first_snoc es e n; behind = back }
  where
    back : none_of es ≡ false → before (last_of r) (last_of es) ≡ false
    back n =
        let p = and_parts (before (last_of es) e) (leb e.time ((first_of es).time + w)) (rw n at h) in
        before_down (last_of es) e (last_of r) p.0 (rw last_snoc at (q.behind (some_snoc es e)))

pub rows_reach : (all : List Event) (w : ℕ) (ss : List Step) (es : List Event) → Short w es → All (Reach w es) (rows all w ss es)
unfolding rows
rows_reach all w [] es f = (record { is_short = f; start = λ n. refl; behind = λ n. before_irr (last_of es) }, tt)
rows_reach all w (s ∷ ss) es f =
    all_flat (λ e. Unit × (goes_on all w es s e ≡ true)) (Reach w es) (λ e. rows all w ss (es ++ e ∷ []))
    (λ e h. let n = near_of all w es s e h.1 in
    all_map (Reach w (es ++ e ∷ [])) (Reach w es) (reach_snoc w es e n) (rows all w ss (es ++ e ∷ []))
    (rows_reach all w ss (es ++ e ∷ []) (short_snoc w es e n f)))
    (those (goes_on all w es s) all) (all_those (λ e. Unit) (goes_on all w es s) all (all_any (λ e. Unit) (λ e. tt) all))

pub some_cons : (s : Step) (ss : List Step) (X : Type 0) → none_of (s ∷ ss) ≡ true → X
unfolding none_of
some_cons s ss X n = absurd (true≢false (sym n))

-- the last of a row is one of all
pub rows_last : (M : Event → Type 0) (all : List Event) (w : ℕ) → All M all → (ss : List Step) (es : List Event) → (none_of ss ≡ true → M (last_of es))
    → All (λ r. M (last_of r)) (rows all w ss es)
unfolding rows none_of
rows_last M all w m [] es h = (h refl, tt)
rows_last M all w m (s ∷ ss) es h =
    all_flat (λ e. M e × (goes_on all w es s e ≡ true)) (λ r. M (last_of r)) (λ e. rows all w ss (es ++ e ∷ []))
    (λ e q. rows_last M all w m ss (es ++ e ∷ []) (λ _. subst M (sym (last_snoc es e)) q.0))
    (those (goes_on all w es s) all) (all_those M (goes_on all w es s) all m)
