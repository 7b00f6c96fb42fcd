use Rattle.std.proofs.Common.{ℕ, List, length, take, drop, ap, ◌∙◌, ap₂, arith}
use Rattle.patterns.specs.Numbers.{pattern_in}
use Rattle.patterns.proofs.Words.{pattern_cells_long}
use Rattle.listener.specs.declared.head.Phase.TheVariants.{Waiting}
use Rattle.listener.specs.Machine.{memory_of, blank}
use Rattle.listener.proofs.Saying.{begun_out, begun_none, begun_some, cells_given, cells_new, ring_as_was, not_kept}
use Rattle.listener.proofs.Words.{cells_length}
use Rattle.listener.proofs.entry.begin.Goals as goal

pub returns-in_default : goal.returns-in_default
returns-in_default c = begun_out c.args.memory.now c.args.out.now (pattern_in c.args.row.now) c.in_default.ensures.value

pub returns-in_default-keep : goal.returns-in_default-keep
returns-in_default-keep c =
    let m = c.args.memory.now in
    let row = c.args.row.now in
    let bad = not_kept c.in_default-keep.field-0 row (take 405 (drop 14 m)) c.keep.new.kept (cells_length m c.told-memory) c.in_default-keep.ensures in
    begun_none m c.args.out.now (pattern_in row) c.in-Some.field-0 _ c.in-Some.ensures.value bad.0 (cells_given 14 405 m c.keep.new.kept (omega (arith, c.told-memory)) bad.1)

pub returns : goal.returns
returns c =
    let m = c.args.memory.now in
    let p = pattern_in c.args.row.now in
    let kept = c.in-Ok.ensures in
    let r = c.keep.new.kept in
    let long = ap length kept.2 ∙ pattern_cells_long p in
    begun_some m c.args.out.now p c.in-Some.field-0 _ c.in-Some.ensures.value kept.1
    (c.store.ensures ∙ ap₂ (λ (x y : List ℕ). memory_of Waiting blank x y) (cells_new m r c.told-memory long ∙ kept.2) (ring_as_was m r c.told-memory long))
