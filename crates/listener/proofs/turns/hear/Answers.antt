use Rattle.std.proofs.Common.{◌≡◌, ℕ, ◌+◌, ◌-◌, Bool, max, List, refl, ap, ◌∙◌, ap₂, zero-add, arith}
use mir.Val.{bool_byte}
use Rattle.timeline.specs.declared.events.Event.{Event}
use Rattle.timeline.specs.Lists.{pick}
use Rattle.timeline.specs.Ring.{events}
use Rattle.patterns.specs.Patterns.{Pattern, named}
use Rattle.patterns.specs.Kept.{kept_pattern}
use Rattle.listener.specs.declared.head.Head.{Head}
use Rattle.listener.specs.declared.head.Turn.TheVariants.{Counts}
use Rattle.listener.specs.Machine.{cells_of, ring_of, below_run, latest_with, stale_with, counting}
use Rattle.listener.proofs.Doing.{greater, one_if, hears_late, hears_full, hears_counts}
use Rattle.listener.proofs.turns.hear.Goals as goal

-- what the calls answered, in the model's words: the latest time, how many are stale, whether the event is named, and the room that it takes
calls_are :
    (m : List ℕ) (h : Head) (e : Event) {words : List ℕ} {late latest mark within oldest run one : ℕ} {b : Bool} → words ≡ cells_of m → late ≡ (kept_pattern words).late
    → latest ≡ max h.latest e.time → mark ≡ latest - late → within ≡ (kept_pattern words).within → oldest ≡ mark - within
    → run ≡ 0 + below_run oldest (events (ring_of m) h.start h.len) → b ≡ named (kept_pattern words) e → one ≡ bool_byte b
    → (latest ≡ latest_with h e) × (run ≡ stale_with (kept_pattern (cells_of m)) h (events (ring_of m) h.start h.len) e) × (b ≡ named (kept_pattern (cells_of m)) e)
    × (h.len - run + one ≡ h.len - stale_with (kept_pattern (cells_of m)) h (events (ring_of m) h.start h.len) e + pick (named (kept_pattern (cells_of m)) e) 1 0)
calls_are m h e {words} {late} {latest} {mark} {within} {oldest} {run} {one} {b} is is-late is-latest is-mark is-within is-oldest is-run is-named is-one =
    rw (is-one, is-run, is-oldest, is-mark, is-latest, is-late, is-within, is-named, is, greater h.latest e.time, one_if (named (kept_pattern (cells_of m)) e))
    (refl, zero-add _, refl, omega arith)

counts_from : (p : Pattern) (h : Head) (es : List Event) (e : Event) (latest run : ℕ) (b : Bool) → latest ≡ latest_with h e → run ≡ stale_with p h es e → b ≡ named p e
    → Counts (record { count = h.count + 1; latest = latest; start = h.start; len = h.len; known = h.known; upto = h.upto; stale = run; at = h.at }) b ≡ Counts (counting p h es e) (named p e)
counts_from p h es e latest run b a d f =
    ap₂ (λ (x y : ℕ). Counts (record { count = h.count + 1; latest = x; start = h.start; len = h.len; known = h.known; upto = h.upto; stale = y; at = h.at }) b) a d
    ∙ ap (Counts (counting p h es e)) f

pub returns-then-e-saturating_sub-clause-value : goal.returns-then-e-saturating_sub-clause-value
returns-then-e-saturating_sub-clause-value c =
    let m = c.args.memory.now in
    let h = c.args.head in
    let is-late = c.late-late.ensures ∙ ap (λ (w : List ℕ). (kept_pattern w).late) c.pattern_in-pattern.ensures in
    hears_late (kept_pattern (cells_of m)) h (events (ring_of m) h.start h.len) c.args.e (omega (arith, is-late, c.saturating_sub.ensures, c.if-e-saturating_sub.true))

pub returns-then-head-stale-gt-ROOM-clause-value : goal.returns-then-head-stale-gt-ROOM-clause-value
returns-then-head-stale-gt-ROOM-clause-value c =
    let m = c.args.memory.now in
    let h = c.args.head in
    let e = c.args.e in
    let p = kept_pattern (cells_of m) in
    let es = events (ring_of m) h.start h.len in
    let is-late = c.late-late.ensures ∙ ap (λ (w : List ℕ). (kept_pattern w).late) c.pattern_in-pattern.ensures in
    let are =
    calls_are m h e c.pattern_in-pattern.ensures c.late-late.ensures c.max-latest.ensures c.saturating_sub-2.ensures c.within.ensures c.saturating_sub-oldest.ensures
    c.run_below-stale.ensures.value c.is_named-named.ensures c.from.ensures in
    hears_full p h es e (omega (arith, is-late, c.saturating_sub.ensures, c.if-e-saturating_sub.false)) (omega (arith, are.3, c.if-head-stale-gt-ROOM.true))

pub returns-clause-value : goal.returns-clause-value
returns-clause-value c =
    let m = c.args.memory.now in
    let h = c.args.head in
    let e = c.args.e in
    let p = kept_pattern (cells_of m) in
    let es = events (ring_of m) h.start h.len in
    let is-late = c.late-late.ensures ∙ ap (λ (w : List ℕ). (kept_pattern w).late) c.pattern_in-pattern.ensures in
    let are =
    calls_are m h e c.pattern_in-pattern.ensures c.late-late.ensures c.max-latest.ensures c.saturating_sub-2.ensures c.within.ensures c.saturating_sub-oldest.ensures
    c.run_below-stale.ensures.value c.is_named-named.ensures c.from.ensures in
    counts_from p h es e c.max-latest.result c.run_below-stale.result c.is_named-named.result are.0 are.1 are.2
    ∙ hears_counts p h es e (omega (arith, is-late, c.saturating_sub.ensures, c.if-e-saturating_sub.false)) (omega (arith, are.3, c.if-head-stale-gt-ROOM.false))
