-- What the listener is told, case by case: each check hands on its value, or it is refused and nothing is changed.
use Rattle.std.proofs.Common.{◌≡◌, ℕ, ◌+◌, ◌≤◌, true, false, List, length, take, drop, Some, None, Ok, Err, Result, sym, refl, ap, ◌∙◌, arith, rules}
use Rattle.std.proofs.lemmas.List.{same_lists, places}
use Rattle.std.proofs.lemmas.Slice.{between-put_mid, drop-put_mid}
use borrow.Rule.Slice.PartMut.{put_mid}
use Rattle.timeline.specs.declared.events.Event.{Event}
use Rattle.timeline.specs.Ring.{events}
use Rattle.patterns.specs.Patterns.{Pattern}
use Rattle.patterns.specs.Limits.{a_pattern, an_event}
use Rattle.patterns.specs.Kept.{kept_pattern, pattern_cells}
use Rattle.patterns.specs.Numbers.{pattern_in}
use Rattle.patterns.specs.Reading.{Keeps}
use Rattle.patterns.specs.declared.keeping.Refusal.{Refusal as NotKept}
use Rattle.patterns.specs.declared.keeping.Refusal.TheVariants.{NoPattern as IsNone, NotAsLong}
use Rattle.rows.specs.SearchLaws.{begin_at}
use Rattle.listener.specs.declared.head.Phase.TheVariants.{New, Waiting, Telling, Ending, Over}
use Rattle.listener.specs.declared.head.Head.{Head}
use Rattle.listener.specs.declared.head.Turn.{Turn}
use Rattle.listener.specs.declared.head.Turn.TheVariants.{Late, Full}
use Rattle.listener.specs.declared.acts.Told.{Told}
use Rattle.listener.specs.declared.acts.Refusal.{Refusal}
use Rattle.listener.specs.declared.acts.Told.TheVariants.{Waits, Late as TooLate}
use Rattle.listener.specs.declared.acts.Refusal.TheVariants.{NoPattern, OutOfTurn, NoRoom}
use Rattle.listener.specs.Engine.{refused}
use Rattle.listener.specs.Machine.{memory_long, memory_of, cells_of, ring_of, head_at, stepped, blank, tell_from, begun, hear, counted_head, turned, heard, event_of, came, ending_head, ended, resumed, gone_on}
use Rattle.listener.specs.Entry.{refusal_number, ActTold, Did}

-- a refusal leaves all as it was
refuses : (e : Refusal) (m out : List ℕ) → Did (stepped m (refused (refusal_number e))) (Err e) m out out
unfolding ActTold
refuses e m out = record { memory = refl; told = (refl, refl) }

module _ (m out : List ℕ) (p : Pattern) where
  pub begun_out : None ≡ head_at New m → Did (begun m p) (Err OutOfTurn) m out out
  unfolding begun
  begun_out e = rw (sym e) (refuses OutOfTurn m out)

  pub begun_none : (h : Head) (m₁ : List ℕ) → Some h ≡ head_at New m → a_pattern p ≡ false → m₁ ≡ m → Did (begun m p) (Err NoPattern) m₁ out out
  unfolding begun
  begun_none h m₁ e bad same = rw (sym e, bad, same) (refuses NoPattern m out)

  pub begun_some :
      (h : Head) (m₁ : List ℕ) → Some h ≡ head_at New m → a_pattern p ≡ true → m₁ ≡ memory_of Waiting blank (pattern_cells p) (ring_of m) → Did (begun m p) (Ok Waits) m₁ out out
  unfolding begun ActTold
  begun_some h m₁ e ok is = rw (sym e, ok) (record { memory = is; told = (refl, refl) })

-- the pattern's words lent, and given back
pub cells_given : (a k : ℕ) (m r : List ℕ) → a + k ≤ length m → r ≡ take k (drop a m) → put_mid a k m r ≡ m
cells_given a k m r l e = rw e (same_lists _ _ (search (rules, places)) (λ i d h. grind (arith, places)))

pub cells_new : (m r : List ℕ) → length m ≡ memory_long → length r ≡ 405 → cells_of (put_mid 14 405 m r) ≡ r
cells_new m r l k = between-put_mid 14 405 m r 419 (omega arith) k

pub ring_as_was : (m r : List ℕ) → length m ≡ memory_long → length r ≡ 405 → ring_of (put_mid 14 405 m r) ≡ ring_of m
ring_as_was m r l k = drop-put_mid 14 405 m r 419 (omega arith) (omega arith) k

module _ (m out : List ℕ) where
  pub ended_out : None ≡ head_at Waiting m → Did (ended m) (Err OutOfTurn) m out out
  unfolding ended
  ended_out e = rw (sym e) (refuses OutOfTurn m out)

  pub ended_told :
      (h : Head) (a : Result Told Refusal) (m₁ out₁ : List ℕ) → Some h ≡ head_at Waiting m → Did (tell_from Ending (ending_head h) (cells_of m) (ring_of m) (begin_at h.known)) a m₁ out out₁
      → Did (ended m) a m₁ out out₁
  unfolding ended
  ended_told h a m₁ out₁ e d = rw (sym e) d

  pub gone_out : None ≡ head_at Telling m → None ≡ head_at Ending m → Did (gone_on m) (Err OutOfTurn) m out out
  unfolding gone_on
  gone_out p q = rw (sym p, sym q) (refuses OutOfTurn m out)

  pub gone_telling : (h : Head) (a : Result Told Refusal) (m₁ out₁ : List ℕ) → Some h ≡ head_at Telling m → Did (resumed Telling m h) a m₁ out out₁ → Did (gone_on m) a m₁ out out₁
  unfolding gone_on
  gone_telling h a m₁ out₁ p d = rw (sym p) d

  pub gone_ending :
      (h : Head) (a : Result Told Refusal) (m₁ out₁ : List ℕ) → None ≡ head_at Telling m → Some h ≡ head_at Ending m → Did (resumed Ending m h) a m₁ out out₁ → Did (gone_on m) a m₁ out out₁
  unfolding gone_on
  gone_ending h a m₁ out₁ p q d = rw (sym p, sym q) d

-- what was not kept is no pattern, since there was room
pub not_kept : (e : NotKept) (row before after : List ℕ) → length before ≡ 405 → Keeps row before after (Err e) → (a_pattern (pattern_in row) ≡ false) × (after ≡ before)
not_kept IsNone row before after l k = (k.1, k.2)
not_kept NotAsLong row before after l k = absurd (k.0 l)

-- an event comes
module _ (m out : List ℕ) (t k w v : ℕ) where
  pub no_turn : None ≡ head_at Waiting m → Did (came m t k w v) (Err OutOfTurn) m out out
  unfolding came
  no_turn e = rw (sym e) (refuses OutOfTurn m out)

  module _ (h : Head) (e : Event) (is : e ≡ event_of h.count t k w v) (at : Some h ≡ head_at Waiting m) where
    pub told_misfit : an_event e ≡ false → Did (came m t k w v) (Err OutOfTurn) m out out
    unfolding came
    told_misfit bad = rw (sym at, ap an_event (sym is) ∙ bad) (refuses OutOfTurn m out)

    pub told_heard :
        (x : Turn) (a : Result Told Refusal) (m₁ out₁ : List ℕ) → an_event e ≡ true → x ≡ hear (kept_pattern (cells_of m)) h (events (ring_of m) h.start h.len) e
        → Did (turned h (cells_of m) (ring_of m) e x) a m₁ out out₁ → Did (came m t k w v) a m₁ out out₁
    unfolding came heard
    told_heard x a m₁ out₁ ok q d = rw (sym at, ap an_event (sym is) ∙ ok, sym is, sym q) d

module _ (m out m₁ : List ℕ) (h : Head) (e : Event) where
  pub late_done : m₁ ≡ memory_of Waiting (counted_head h) (cells_of m) (ring_of m) → Did (turned h (cells_of m) (ring_of m) e Late) (Ok TooLate) m₁ out out
  unfolding ActTold
  late_done q = record { memory = q; told = (refl, refl) }

  pub full_done : m₁ ≡ memory_of Over h (cells_of m) (ring_of m) → Did (turned h (cells_of m) (ring_of m) e Full) (Err NoRoom) m₁ out out
  unfolding ActTold
  full_done q = record { memory = q; told = (refl, refl) }
