use Rattle.std.proofs.Common.{◌≡◌, ℕ, ◌+◌, ◌-◌, ◌<◌, ◌≤◌, List, [], length, get_or, false, ◌==◌, subst, inl, inr, rules, arith}
use Rattle.std.proofs.iter.runs.Made.{chains}
use Rattle.std.proofs.lemmas.Bool.{cases_lt}
use Rattle.timeline.specs.declared.events.Event.{Event}
use Rattle.timeline.specs.Order.{nth}
use Rattle.rows.specs.Parts.{event_of}
use Rattle.rows.proofs.held.Held.last_of_kind.Goals as goal

-- what is known of an event of a part, known of the held event there
here : (P : Event → Type 0) (held : List Event) (part : List (List ℕ)) (from : ℕ) → ((i : ℕ) → i < length part → event_of (get_or part i []) ≡ nth held (from + i))
    → (i : ℕ) → i < from + length part → from < i + 1 → P (event_of (get_or part (i - from) [])) → P (nth held i)
here P held part from reads i l g p =
    let e : from + (i - from) ≡ i = omega arith in
    subst (λ (k : ℕ). P (nth held k)) e (subst P (reads (i - from) (omega arith)) p)

pub returns-in-Some-clause-last : goal.returns-in-Some-clause-last
returns-in-Some-clause-last c = λ i l k.
    let back = c.between.result.1.now in
    let m = length c.between.result.0.now in
    let passed : (j : ℕ) → c.in-Some.i < j → j < length back → (event_of (get_or back j [])).kind == c.args.kind ≡ false = search (rules, chains) in
    here (λ e. e.kind == c.args.kind ≡ false) _ back (c.args.from + m) c.between.ensures.back i
    (omega (arith, k, c.between.ensures.many, c.requires.order)) (omega (arith, l))
    (passed (i - (c.args.from + m)) (omega (arith, l)) (omega (arith, l, k, c.between.ensures.many, c.requires.order)))

pub returns-clause-last : goal.returns-clause-last
returns-clause-last c = λ i l k.
    let front = c.between.result.0.now in
    let back = c.between.result.1.now in
    let from = c.args.from in
    let m = length front in
    let behind : (j : ℕ) → j < length back → (event_of (get_or back j [])).kind == c.args.kind ≡ false = search (rules, chains) in
    let passed : (j : ℕ) → c.map_or.result < from + j → j < m → (event_of (get_or front j [])).kind == c.args.kind ≡ false = search (rules, chains) in
    let least : from ≤ c.map_or.result = search (rules, chains) in
    elim (cases_lt i (from + m)) [
      | inl a ↦ here (λ e. e.kind == c.args.kind ≡ false) _ front from c.between.ensures.front i a (omega (arith, l, least)) (passed (i - from) (omega (arith, l, least)) (omega (arith, a, l, least)))
      | inr b ↦ here (λ e. e.kind == c.args.kind ≡ false) _ back (from + m) c.between.ensures.back i
          (omega (arith, k, c.between.ensures.many, c.requires.order)) (omega (arith, b))
          (behind (i - (from + m)) (omega (arith, b, k, c.between.ensures.many, c.requires.order)))
    ]
