use Rattle.std.proofs.Common.{◌≡◌, ◌+◌, ◌-◌, ◌++◌, length, take, drop, string_bytes, refl, ap, ◌∙◌, arith, length-drop}
use Rattle.std.proofs.lemmas.List.{take_all}
use Rattle.files.specs.Complaints.{expected_text, mark_of, headline, marked, complaint_at}
use Rattle.files.proofs.Marks.{complaint_is}
use Rattle.files.proofs.complaining.complaint.Goals as goal

pub returns : goal.returns
returns c =
    let text = c.args.text.now in
    let front = c.split_at.result.0.now in
    let back = c.split_at.result.1.now in
    let start = c.last_of-number.result.start in
    let begun = take (length front - start) (drop start front) in
    let rest = take c.line_rest.result back in
    let cause = c.cause.result.now in
    let wanted = expected_text c.args.expected in
    let whole : begun ≡ drop start front = take_all (length front - start) (drop start front) (omega (arith, length-drop start front)) in
    let said = c.in_ok-put_marked.ensures ∙ ap (λ xs. xs ++ marked begun rest) (c.in_ok-said.ensures.items ∙ c.as_bytes.ensures.value) in
    complaint_is text front back begun rest cause wanted (string_bytes c.in_ok-head.head) _ c.mark.result c.line_rest.result c.last_of-number.result c.split_at.ensures.front
    c.split_at.ensures.back c.mark.ensures.bound c.last_of-number.ensures.value whole c.line_rest.ensures.value refl c.in_ok-head.ensures said
    ∙ ap (λ m. complaint_at text m cause wanted) c.mark.ensures.value
    ∙ ap (λ k. complaint_at text (mark_of text c.args.at) k wanted) c.cause.ensures
