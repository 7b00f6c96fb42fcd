-- The whole promise: from the first zeros on, every pattern is listened for rightly, and what is none is refused.
use Rattle.std.proofs.Common.{◌≡◌, ℕ, ◌≤◌, true, false, ◌&&◌, leb, List, [], length, replicate, Some, sym, refl, ap, ◌∙◌, arith}
use Rattle.std.proofs.lemmas.List.{length-replicate, drop-replicate}
use Rattle.std.proofs.lemmas.Bool.{and_parts, leb-true}
use Rattle.timeline.specs.declared.events.Event.{Event}
use Rattle.timeline.specs.Lists.{pick, every, those}
use Rattle.timeline.specs.Order.{sorted, latest, each_heard}
use Rattle.timeline.specs.Ring.{laid}
use Rattle.patterns.specs.Patterns.{Pattern}
use Rattle.patterns.specs.Limits.{a_pattern, an_event}
use Rattle.patterns.specs.Kept.{pattern_cells}
use Rattle.patterns.proofs.Back.{reads_back}
use Rattle.patterns.proofs.Steps.{steps_long}
use Rattle.patterns.proofs.Words.{pattern_cells_long}
use Rattle.listener.specs.declared.head.Phase.TheVariants.{New, Waiting}
use Rattle.listener.specs.Engine.{begins, waits, refused, Stepped, runs}
use Rattle.listener.specs.Promise.{Right, Whole}
use Rattle.listener.specs.Machine.{memory_long, memory_of, head_at, blank, stepped, ring_of, below_run, begun, machine, own}
use Rattle.listener.specs.Holding.{held_list, waiting_memory}
use Rattle.listener.proofs.Runs.{Telling, tell_all, right, most}
use Rattle.listener.proofs.Steps.{own_is}
use Rattle.listener.proofs.Tells.{KeptAs}
use Rattle.listener.proofs.Waiting.{Waits, good}
use Rattle.listener.proofs.Steadily.{steady_proof}

pub kept_as : (p : Pattern) → a_pattern p ≡ true → KeptAs (pattern_cells p) p
kept_as p ok =
    let n : ℕ = length p.steps in
    let means = reads_back p ok in
    let limits = and_parts (leb 1 n) (leb n 6) (and_parts (leb 1 n && leb n 6) _ ok).0 in
    record {
      wide = pattern_cells_long p;
      means = means;
      count = sym (steps_long (pattern_cells p)) ∙ ap (λ (q : Pattern). length q.steps) means;
      some = leb-true 1 n limits.0;
      few = leb-true n 6 limits.1;
    }

abbrev zeros : List ℕ
zeros = replicate memory_long 0

new_head : head_at New zeros ≡ Some blank
unfolding head_at
new_head = refl

begins_is : (p : Pattern) → own.step own.start (begins p) ≡ pick (a_pattern p) (stepped (memory_of Waiting blank (pattern_cells p) (ring_of zeros)) waits) (stepped zeros (refused 1))
unfolding own machine begun
begins_is p = own_is zeros (begins p) (length-replicate {A = ℕ} memory_long 0) ∙ rw new_head

-- the memory of a pattern of which nothing has come
begun_memory : (p : Pattern) → memory_of Waiting blank (pattern_cells p) (ring_of zeros) ≡ waiting_memory p 0 [] 0
unfolding held_list those sorted latest laid below_run
begun_memory p = ap (memory_of Waiting blank (pattern_cells p)) (drop-replicate 419 memory_long 0)

pub first_waits : (p : Pattern) → a_pattern p ≡ true → Telling own (λ m. Waits p m 0 []) waits (own.step own.start (begins p)) []
unfolding each_heard latest held_list those sorted
first_waits p ok =
    let step : own.step own.start (begins p) ≡ stepped (memory_of Waiting blank (pattern_cells p) (ring_of zeros)) waits = begins_is p ∙ rw ok in (
      ap (λ (st : Stepped). st.act) step,
      record {
        slot = 0;
        round = omega arith;
        numbered = (refl, tt);
        early = omega arith;
        few = omega arith;
        whole = ap (λ (st : Stepped). st.memory) step ∙ begun_memory p;
      },
    )

refuses : (p : Pattern) → a_pattern p ≡ false → Telling own (λ m. Unit) (refused 1) (own.step own.start (begins p)) []
refuses p bad =
    let step : own.step own.start (begins p) ≡ stepped zeros (refused 1) = begins_is p ∙ rw bad in
    (ap (λ (st : Stepped). st.act) step, tt)

listens :
    (p : Pattern) (fs : List Event) → a_pattern p ≡ true → every an_event fs ≡ true → length fs ≤ most
    → (k : ℕ) × ((runs k own own.start (begins p) []).end ≡ 0) × ((runs k own own.start (begins p) []).rows_told ≡ [])
    × Right own p (runs k own own.start (begins p) []).memory 0 [] fs
listens p fs ok es l =
    let t = tell_all own (λ m. Waits p m 0 []) waits tt [] own.start (begins p) [] (first_waits p ok) in
    (1, t.0, t.1, right own p (Waits p) (good p (kept_as p ok)) fs (runs 1 own own.start (begins p) []).memory 0 [] es (omega arith) t.2)

pub whole_proof : Whole own
unfolding Whole
whole_proof = (
  steady_proof,
  listens,
  λ p bad. let t = tell_all own (λ m. Unit) (refused 1) tt [] own.start (begins p) [] (refuses p bad) in (1, t.0, t.1),
)
