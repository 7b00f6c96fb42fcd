-- What the code does is what the machine does, case by case, over plain variables.
use Rattle.std.proofs.Common.{◌≡◌, ℕ, ◌+◌, ◌-◌, ◌%◌, ◌<◌, ◌≤◌, Bool, true, false, ltb, max, List, ◌++◌, length, take, drop, Some, None, Option, Ok, Result, sym, refl, subst, arith, le-ltb, lt-ltb}
use Rattle.std.proofs.lemmas.List.{length-take-le}
use Rattle.std.proofs.lemmas.Bool.Decides.{nat_tests as by_tests}
use mir.Val.{bool_byte}
use Rattle.timeline.specs.declared.events.Event.{Event}
use Rattle.timeline.specs.Lists.{pick}
use Rattle.timeline.specs.Ring.{capacity, events, with_put, with_forgotten}
use Rattle.patterns.specs.Patterns.{Pattern, named}
use Rattle.patterns.specs.Kept.{kept_pattern, kept_count}
use Rattle.patterns.proofs.Steps.{steps_six}
use Rattle.rows.specs.declared.search.Cursor.{Cursor}
use Rattle.rows.specs.declared.search.Found.{Found}
use Rattle.rows.specs.Finding.{next_found}
use Rattle.listener.specs.declared.head.Phase.{Phase}
use Rattle.listener.specs.declared.head.Phase.TheVariants.{New, Waiting, Telling, Ending, Over as Done}
use Rattle.listener.specs.declared.head.Head.{Head}
use Rattle.listener.specs.declared.head.Turn.TheVariants.{Late, Full, Counts}
use Rattle.listener.specs.declared.acts.Told.{Told}
use Rattle.listener.specs.declared.acts.Refusal.{Refusal}
use Rattle.listener.specs.declared.acts.Told.TheVariants.{Row, Waits, Over as ToldOver}
use Rattle.listener.specs.Engine.{Act, tells, waits}
use Rattle.listener.specs.Machine.{memory_long, no_places, memory_of, cells_of, ring_of, room, stale_with, counting, hear, settled, phase_after, act_after, with_places, tell_from, newly_told, turned}
use Rattle.listener.specs.Entry.{ActTold, Did}
use Rattle.listener.proofs.Words.{cells_stay, ring_there}

-- HEARING
pub greater : (a b : ℕ) → max a b ≡ pick (ltb a b) b a
greater a b = grind (arith, by_tests)

pub one_if : (b : Bool) → bool_byte b ≡ pick b 1 0
one_if true = refl
one_if false = refl

module _ (p : Pattern) (h : Head) (es : List Event) (e : Event) where
  pub hears_late : e.time < h.latest - p.late → Late ≡ hear p h es e
  unfolding hear
  hears_late l = sym (rw (lt-ltb e.time (h.latest - p.late) l))

  pub hears_full : h.latest - p.late ≤ e.time → room < h.len - stale_with p h es e + pick (named p e) 1 0 → Full ≡ hear p h es e
  unfolding hear
  hears_full l k = sym (rw (le-ltb e.time (h.latest - p.late) l) (rw (lt-ltb room (h.len - stale_with p h es e + pick (named p e) 1 0) k)))

  pub hears_counts :
      h.latest - p.late ≤ e.time → h.len - stale_with p h es e + pick (named p e) 1 0 ≤ room → Counts (counting p h es e) (named p e) ≡ hear p h es e
  unfolding hear
  hears_counts l k = sym (rw (le-ltb e.time (h.latest - p.late) l) (rw (le-ltb room (h.len - stale_with p h es e + pick (named p e) 1 0) k)))

-- SETTLING
pub rest_waits : (ph : Phase) → (ph ≡ Ending → ⊥) → (phase_after ph ≡ Waiting) × (act_after ph ≡ waits)
rest_waits New n = (refl, refl)
rest_waits Waiting n = (refl, refl)
rest_waits Telling n = (refl, refl)
rest_waits Ending n = absurd (n refl)
rest_waits Done n = (refl, refl)

-- what it does next, and says, once all rows are told
abbrev pub After : Phase → Phase × Told → Type 0
After ph next = (next.0 ≡ phase_after ph) × ((out : List ℕ) → ActTold (act_after ph) (Ok next.1) out out)

pub after_ending : (ph : Phase) (next : Phase × Told) → ph ≡ Ending → next ≡ (Done, ToldOver) → After ph next
unfolding ActTold
after_ending ph next is what = rw (is, what) (refl, λ out. (refl, refl))

pub after_others : (ph : Phase) (next : Phase × Told) → (ph ≡ Ending → ⊥) → next ≡ (Waiting, Waits) → After ph next
unfolding ActTold
after_others ph next n what =
    let rest = rest_waits ph n in
    rw what (sym rest.0, λ out. subst (λ (act : Act). ActTold act (Ok Waits) out out) (sym rest.1) (refl, refl))

abbrev pub settled_to : Head → ℕ → ℕ → ℕ → Head
settled_to h start len known =
    record { count = h.count; latest = h.latest; start = start; len = len; known = known; upto = 0; stale = 0; at = no_places }

pub settled_does :
    (m m₁ m₂ out : List ℕ) (h : Head) (ph : Phase) (next : Phase × Told) (start len known : ℕ) → After ph next → length m ≡ memory_long
    → m₁ ≡ take 419 m ++ with_forgotten (ring_of m) h.start h.stale → start ≡ (h.start + h.stale) % capacity → len ≡ h.len - h.stale → known ≡ h.upto - h.stale
    → m₂ ≡ memory_of next.0 (settled_to h start len known) (cells_of m₁) (ring_of m₁) → Did (settled ph h (cells_of m) (ring_of m)) (Ok next.1) m₂ out out
settled_does m m₁ m₂ out h ph next start len known after long e a b k stored =
    let r : List ℕ = with_forgotten (ring_of m) h.start h.stale in
    record { memory = rw (stored, after.0, e, a, b, k, cells_stay m r long, ring_there m r long) refl; told = after.1 out }

-- TELLING
module _ (ph : Phase) (h : Head) (cells ring : List ℕ) (c : Cursor) where
  abbrev found : Option Found
  found = next_found (events ring h.start h.len) (kept_pattern cells) h.upto c

  pub tells_none :
      (t : Result Told Refusal) (m₁ out out₁ : List ℕ) → None ≡ found → Did (settled ph h cells ring) t m₁ out out₁ → Did (tell_from ph h cells ring c) t m₁ out out₁
  unfolding tell_from
  tells_none t m₁ out out₁ e d = rw (sym e) d

  row_told :
      (xs out out₁ : List ℕ) (k n : ℕ) → n ≡ k → k ≤ 6 → length xs ≡ 6 → out₁ ≡ take n xs ++ drop n out → ActTold (tells (take k xs)) (Ok (Row n)) out out₁
  unfolding ActTold
  row_told xs out out₁ k n e l s w =
      let long : length (take k xs) ≡ k = length-take-le k xs (omega arith) in
      rw (w, e, long) (refl, l, refl)

  pub tells_row :
      (f : Found) (n : ℕ) (m₁ out out₁ : List ℕ) → Some f ≡ found → n ≡ kept_count cells → length f.numbers ≡ 6
      → m₁ ≡ memory_of ph (with_places h f.next.at) cells ring → out₁ ≡ take n f.numbers ++ drop n out → Did (tell_from ph h cells ring c) (Ok (Row n)) m₁ out out₁
  unfolding tell_from
  tells_row f n m₁ out out₁ e k s m w = rw (sym e) (record { memory = m; told = row_told f.numbers out out₁ (kept_count cells) n k (steps_six cells) s w })

-- AN EVENT THAT COUNTS
abbrev with_len : Head → ℕ → Head
with_len h len =
    record { count = h.count; latest = h.latest; start = h.start; len = len; known = h.known; upto = h.upto; stale = h.stale; at = h.at }

-- an event that was put into the ring
pub holding_is :
    (m m₁ : List ℕ) (h : Head) (e : Event) → length m ≡ memory_long → m₁ ≡ take 419 m ++ with_put (ring_of m) h.start h.len e
    → newly_told (with_len h (h.len + 1)) (cells_of m₁) (ring_of m₁) ≡ turned h (cells_of m) (ring_of m) e (Counts h true)
holding_is m m₁ h e long wrote =
    let ring : List ℕ = with_put (ring_of m) h.start h.len e in
    rw (wrote, cells_stay m ring long, ring_there m ring long) refl
