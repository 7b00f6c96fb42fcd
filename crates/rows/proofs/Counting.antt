-- Which events count, one after the other.
use Rattle.std.proofs.Common.{◌≡◌, ℕ, suc, ◌+◌, ◌-◌, ◌<◌, ◌≤◌, max, Bool, true, false, List, [], ◌∷◌, ◌++◌, length, get_or, drop, sym, ap, ◌∙◌, add-one, arith}
use Rattle.std.proofs.lemmas.List.{drop_more, drop_all}
use Rattle.std.proofs.lemmas.Bool.{lt-ltb, le-ltb}
use Rattle.std.proofs.lemmas.Bool.Decides.{nat_tests}
use Rattle.timeline.specs.declared.events.Event.{Event}
use Rattle.timeline.specs.Lists.{pick}
use Rattle.timeline.specs.Order.{latest}
use Rattle.timeline.proofs.Order.{latest_snoc}
use Rattle.patterns.specs.Patterns.{Pattern}
use Rattle.rows.specs.Known.{too_late, with_number, counted_after, counted}

pub latest_push : (es : List Event) (e : Event) → latest (es ++ e ∷ []) ≡ max (latest es) e.time
latest_push es e = let h = latest_snoc es e in grind (arith, nat_tests)

module _ (fs : List Event) (i : ℕ) (es : List Event) (p : Pattern) where
  -- what counts after those that have counted is what counts of all
  abbrev pub GoesTo : Type 0
  GoesTo = counted_after p i es (drop i fs) ≡ counted p fs

  module _ (d : Event) (l : i < length fs) (g : GoesTo) where
    -- one event more
    next : (b : Bool) → too_late p es (get_or fs i d) ≡ b → counted_after p (i + 1) (pick b es (es ++ with_number i (get_or fs i d) ∷ [])) (drop (i + 1) fs) ≡ counted p fs
    unfolding counted_after
    next b t =
        ap (λ n. counted_after p n (pick b es (es ++ with_number i (get_or fs i d) ∷ [])) (drop (i + 1) fs)) (add-one i)
        ∙ sym (ap (counted_after p i es) (drop_more fs i d l) ∙ ap (λ c. counted_after p (suc i) (pick c es (es ++ with_number i (get_or fs i d) ∷ [])) (drop (i + 1) fs)) t)
        ∙ g

    pub count_taken : latest es - p.late ≤ (get_or fs i d).time → counted_after p (i + 1) (es ++ with_number i (get_or fs i d) ∷ []) (drop (i + 1) fs) ≡ counted p fs
    count_taken h = next false (le-ltb (get_or fs i d).time (latest es - p.late) h)

    pub count_late : (get_or fs i d).time < latest es - p.late → counted_after p (i + 1) es (drop (i + 1) fs) ≡ counted p fs
    count_late h = next true (lt-ltb (get_or fs i d).time (latest es - p.late) h)

  pub count_over : length fs ≤ i → GoesTo → es ≡ counted p fs
  unfolding counted_after
  count_over l g = sym (ap (counted_after p i es) (drop_all i fs l)) ∙ g
