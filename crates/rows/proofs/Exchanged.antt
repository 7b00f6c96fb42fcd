-- Two neighbours of different times, heard of the other way round.
use Rattle.std.proofs.Common.{◌≡◌, ℕ, ◌<◌, true, List, [], ◌∷◌, ◌++◌, sym, refl, ap, ◌∙◌, ap₂, arith}
use Rattle.std.proofs.lemmas.Bool.Decides.{nat_tests}
use Rattle.timeline.specs.declared.events.Event.{Event}
use Rattle.timeline.specs.Lists.{each}
use Rattle.timeline.specs.Order.{before, put, sorted, each_heard}
use Rattle.timeline.proofs.Lists.{All, all_map, all_append, pairs_cross, pairs_back}
use Rattle.timeline.proofs.Each.{each_append, each_self}
use Rattle.timeline.proofs.Sorting.{Apart}
use Rattle.timeline.proofs.Order.{heard_pairs, put_comm}
use Rattle.rows.specs.Rows.{rows, in_order}
use Rattle.rows.specs.Known.{with_number}
use Rattle.rows.specs.Sorted.{renumbered, exchanged, Renumbered, Neighbours}
use Rattle.rows.proofs.Among.{among_all}
use Rattle.rows.proofs.Renumbered.{renumbered_rows}

sorted_swap : (es : List Event) (a b : Event) (fs : List Event) → Apart before a b → sorted (es ++ a ∷ b ∷ fs) ≡ sorted (es ++ b ∷ a ∷ fs)
unfolding sorted
sorted_swap [] a b fs h = put_comm a b (sorted fs) h
sorted_swap (e ∷ es) a b fs h = ap (put e) (sorted_swap es a b fs h)

time_apart : (a b : Event) → (a.time ≡ b.time → ⊥) → Apart before a b
time_apart a b h = grind (arith, nat_tests)

-- two numbers exchanged: each for the other, others as they are, and in order but for these two
exchanged_first : (m n : ℕ) → exchanged m n m ≡ n
exchanged_first m n = grind (arith, nat_tests)

exchanged_second : (m n : ℕ) → exchanged m n n ≡ m
exchanged_second m n = grind (arith, nat_tests)

exchanged_below : (m n k : ℕ) → m < n → k < m → exchanged m n k ≡ k
exchanged_below m n k h l = grind (arith, nat_tests)

exchanged_above : (m n k : ℕ) → m < n → n < k → exchanged m n k ≡ k
exchanged_above m n k h l = grind (arith, nat_tests)

exchanged_rises : (m n i j : ℕ) → m < n → i < j → (i ≡ m → j ≡ n → ⊥) → (m < i → i < n → ⊥) → (m < j → j < n → ⊥) → exchanged m n i < exchanged m n j
exchanged_rises m n i j h l c p q = grind (arith, nat_tests)

module _ (es : List Event) (a b : Event) (fs : List Event) (h : each_heard 0 (es ++ a ∷ b ∷ fs) ≡ true) where
  abbrev number : ℕ → ℕ
  number = exchanged a.heard b.heard

  later : All (λ x. All (λ y. x.heard < y.heard) (a ∷ b ∷ fs)) es
  later = pairs_cross (λ x y. x.heard < y.heard) es (a ∷ b ∷ fs) (heard_pairs 0 (es ++ a ∷ b ∷ fs) h)

  first_part : All (λ x. x.heard < a.heard) es
  first_part = all_map (λ x. All (λ y. x.heard < y.heard) (a ∷ b ∷ fs)) (λ x. x.heard < a.heard) (λ x k. k.0) es later

  a_first : a.heard < b.heard
  a_first = (pairs_back (λ x y. x.heard < y.heard) es (a ∷ b ∷ fs) (heard_pairs 0 (es ++ a ∷ b ∷ fs) h)).0.0

  last_part : All (λ x. b.heard < x.heard) fs
  last_part = (pairs_back (λ x y. x.heard < y.heard) es (a ∷ b ∷ fs) (heard_pairs 0 (es ++ a ∷ b ∷ fs) h)).1.0

  -- an event that has one of the two numbers is of that one's time, and none has a number in between
  record Beside (x : Event) : Type 0 where
    as_a : x.heard ≡ a.heard → x.time ≡ a.time
    as_b : x.heard ≡ b.heard → x.time ≡ b.time
    outside : a.heard < x.heard → x.heard < b.heard → ⊥

  all_beside : All Beside (es ++ a ∷ b ∷ fs)
  all_beside =
      let l = a_first in
      all_append Beside es (a ∷ b ∷ fs)
      (all_map (λ x. x.heard < a.heard) Beside (λ x k. record { as_a = λ q. absurd (omega arith); as_b = λ q. absurd (omega arith); outside = λ q r. omega arith }) es first_part) (
        record { as_a = λ q. refl; as_b = λ q. absurd (omega arith); outside = λ q r. omega arith },
        (
          record { as_a = λ q. absurd (omega arith); as_b = λ q. refl; outside = λ q r. omega arith },
          all_map (λ x. b.heard < x.heard) Beside (λ x k. record { as_a = λ q. absurd (omega arith); as_b = λ q. absurd (omega arith); outside = λ q r. omega arith }) fs last_part,
        ),
      )

  keeps_order : (a.time ≡ b.time → ⊥) → (x y : Event) → Beside x → Beside y → x.time ≡ y.time → x.heard < y.heard → number x.heard < number y.heard
  keeps_order d x y p q t l =
      exchanged_rises a.heard b.heard x.heard y.heard a_first l (λ u v. d (sym (p.as_a u) ∙ t ∙ q.as_b v)) p.outside q.outside

  renumbers : each (renumbered number) (es ++ a ∷ b ∷ fs) ≡ es ++ with_number b.heard a ∷ with_number a.heard b ∷ fs
  unfolding each
  renumbers =
      each_append (renumbered number) es (a ∷ b ∷ fs)
      ∙ ap₂ ◌++◌ (each_self (renumbered number) es (all_map (λ x. x.heard < a.heard) (λ x. renumbered number x ≡ x)
      (λ x k. ap (λ (n : ℕ). with_number n x) (exchanged_below a.heard b.heard x.heard a_first k)) es first_part))
      (ap₂ ◌∷◌ (ap (λ (n : ℕ). with_number n a) (exchanged_first a.heard b.heard))
      (ap₂ ◌∷◌ (ap (λ (n : ℕ). with_number n b) (exchanged_second a.heard b.heard))
      (each_self (renumbered number) fs (all_map (λ x. b.heard < x.heard) (λ x. renumbered number x ≡ x)
      (λ x k. ap (λ (n : ℕ). with_number n x) (exchanged_above a.heard b.heard x.heard a_first k)) fs last_part))))

pub neighbours : Neighbours
unfolding Neighbours Renumbered
neighbours p es a b fs h d =
    ap (λ (x : List Event). in_order (rows x p.within p.steps []))
    (sym (sorted_swap es (with_number b.heard a) (with_number a.heard b) fs (time_apart (with_number b.heard a) (with_number a.heard b) d)))
    ∙ ap (λ (x : List Event). in_order (rows (sorted x) p.within p.steps [])) (sym (renumbers es a b fs h))
    ∙ renumbered_rows p (es ++ a ∷ b ∷ fs) (exchanged a.heard b.heard)
    (λ x y m n. keeps_order es a b fs h d x y (among_all (Beside es a b fs h) x (es ++ a ∷ b ∷ fs) m (all_beside es a b fs h)) (among_all (Beside es a b fs h) y (es ++ a ∷ b ∷ fs) n (all_beside es a b fs h)))
