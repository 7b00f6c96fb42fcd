use Rattle.std.proofs.Common.{◌+◌, drop, sym, ap, ◌∙◌, arith}
use Rattle.files.specs.Lines.{line_behind}
use Rattle.files.proofs.ByByte.{line_next, line_over}
use Rattle.files.proofs.lines.Line.last_of.Goals as goal

pub loop-i-preserved : goal.loop-i-preserved
loop-i-preserved c =
    let bytes = c.args.bytes.now in
    let i = c.loop-i.i in (
      ap (λ l. line_behind l (i + 1) (drop (i + 1) bytes)) c.past-line.ensures.value
          ∙ sym (line_next c.loop-i.line bytes i c.loop-i-test.true)
          ∙ c.loop-i.invariant.0,
      omega (arith, c.past-line.ensures.bound.0),
      c.past-line.ensures.bound.1,
    )

pub returns : goal.returns
returns c =
    record {
      value = sym (line_over c.loop-i.line c.args.bytes.now c.loop-i.i c.loop-i-test.false) ∙ c.loop-i.invariant.0;
      bound = omega (arith, c.loop-i.invariant.2, c.loop-i.auto.i-end);
    }
