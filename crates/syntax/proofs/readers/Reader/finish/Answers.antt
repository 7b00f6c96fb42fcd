use Rattle.std.proofs.Common.{◌≡◌, [], ◌∷◌, ◌++◌, length, sym, ap, ◌∙◌, arith, lit<}
use Rattle.syntax.specs.Reading.{settled, refused, whole}
use Rattle.syntax.proofs.Room.{roomy_sound}
use Rattle.syntax.proofs.Staying.{sound_settled, stands_wanted, ended_whole, ended_not}
use Rattle.syntax.proofs.readers.Reader.finish.Goals as goal

pub returns-in_default : goal.returns-in_default
returns-in_default c =
    λ s h k at.
    let stands = c.settle.ensures s h in
    ended_not at (settled s) (ap whole (sym stands.stand) ∙ sym c.whole.ensures ∙ c.in_default.is)
    ∙ ap (refused at) (sym (stands_wanted c.settle.new.self (settled s) stands c.expected.result c.expected.ensures))

pub put-requires-2 : goal.put-requires-2
put-requires-2 c =
    let room = roomy_sound _ _ c.settle.new.self.sound in
    let front : length c.put.new.row.items ≡ 3 =
    ap length (c.put.ensures ∙ ap (λ xs. xs ++ (c.in-Some.within ∷ c.in-Some.late ∷ c.len.result ∷ [])) c.new-row.ensures) in
    let steps : length c.as_slice.result.now ≡ length c.settle.new.self.draft.steps.items = ap length c.as_slice.ensures.value in
    (lit< tt, omega (arith, room.steps))

pub returns : goal.returns
returns c =
    λ s h k at.
    let end = settled s in
    let stands = c.settle.ensures s h in
    let within = c.in-Some.within in
    let late = c.in-Some.late in
    let count : c.len.result ≡ length end.built.steps =
    c.len.ensures.value ∙ ap length stands.draft.names ∙ (sound_settled s k).built.names in
    let front = c.put.ensures ∙ ap (λ xs. xs ++ (within ∷ late ∷ c.len.result ∷ [])) c.new-row.ensures ∙ ap (λ n. within ∷ late ∷ n ∷ []) count in (
      record { steps = end.built.steps; within = within; late = late },
      ended_whole at end within late (ap whole (sym stands.stand) ∙ sym c.whole.ensures ∙ c.in-Some.is),
      c.put-2.ensures ∙ ap (λ xs. xs ++ c.as_slice.result.now) front
          ∙ ap (λ xs. within ∷ late ∷ length end.built.steps ∷ xs) (c.as_slice.ensures.value ∙ stands.draft.steps),
    )
