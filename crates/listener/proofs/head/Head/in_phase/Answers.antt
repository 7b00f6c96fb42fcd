use Rattle.std.proofs.Common.{◌≡◌, Bool, ◌&&◌, eqb, get_or, Option, sym, ap, ◌∙◌, subst}
use Rattle.std.proofs.lemmas.Bool.{ne_eqb, eq-eqb, and_left}
use Rattle.std.specs.Option.{IfSome}
use Rattle.listener.specs.declared.head.Head.{Head}
use Rattle.listener.specs.Machine.{head_of, a_head, phase_number, Bounded}
use Rattle.listener.proofs.SmallHeads.{handed_on}
use Rattle.listener.proofs.head.Head.in_phase.Goals as goal
use Rattle.listener.proofs.head.Head.in_phase.Goals.{then-memory-from, else-memory-from}

pub returns : goal.returns
returns c =
    let m = c.args.memory.now in
    let n = phase_number c.args.phase in
    let tested : c.if-memory-from.then_some ≡ (eqb (get_or m 0 0) n && a_head (head_of m)) =
    elim c.if-memory-from.branch [
      | then-memory-from w ↦ w.then_some-is ∙ w.holds.ensures ∙ ap a_head c.load-head.ensures ∙ ap (λ (b : Bool). b && a_head (head_of m)) (sym (eq-eqb _ _ (w.if-memory-from.true ∙ c.from.ensures)))
      | else-memory-from w ↦ let differ = ne_eqb _ _ w.if-memory-from.false in w.then_some-is ∙ differ ∙ sym (and_left (eqb (get_or m 0 0) n) (a_head (head_of m)) (ap (eqb (get_or m 0 0)) (sym c.from.ensures) ∙ differ))
    ] in
    let done = handed_on c.args.phase m c.if-memory-from.then_some c.load-head.result tested c.load-head.ensures in
    record { value = c.then_some.ensures ∙ done.0; bound = subst (λ (o : Option Head). IfSome o Bounded) (sym c.then_some.ensures) done.1 }
