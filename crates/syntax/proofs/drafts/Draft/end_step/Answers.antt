use Rattle.std.proofs.Common.{[], ◌∷◌, ◌++◌, length, sym, ap, ◌∙◌}
use Rattle.std.specs.List.{flat_map}
use Rattle.timeline.specs.Lists.{each, flat}
use Rattle.patterns.specs.Kept.{test_cells}
use Rattle.syntax.specs.Rows.{never_row, step_row}
use Rattle.syntax.proofs.Growing.{flattened, rows_flat, length_each, step_grows}
use Rattle.syntax.proofs.drafts.Draft.end_step.Goals as goal

pub returns : goal.returns
unfolding each
returns c =
    λ w h.
    let d = c.args.self.now in
    let k = c.args.kind in
    let tests-count = c.len.ensures.value ∙ ap length h.tests ∙ length_each test_cells w.tests in
    let nevers-count = c.len-2.ensures.value ∙ sym (length_each (λ v. v.items) d.nevers.items) ∙ ap length h.nevers ∙ length_each never_row w.nevers in
    let tests = c.as_flattened.ensures.value ∙ ap (flat_map (λ x. x)) (c.as_slice.ensures.value ∙ h.tests) ∙ flattened test_cells w.tests in
    let nevers = ap (flat_map (λ v. v.items)) c.as_slice-2.ensures.value ∙ rows_flat (λ v. v.items) never_row d.nevers.items w.nevers h.nevers in
    let one = c.put.ensures ∙ ap (λ xs. xs ++ (k ∷ c.len.result ∷ [])) h.steps ∙ ap (λ n. flat step_row w.steps ++ (k ∷ n ∷ [])) tests-count in
    let two = c.put-2.ensures ∙ ap (λ xs. xs ++ c.as_flattened.result.now) one ∙ ap (λ xs. (flat step_row w.steps ++ (k ∷ length w.tests ∷ [])) ++ xs) tests in
    let three = c.put-3.ensures ∙ ap (λ xs. xs ++ (c.len-2.result ∷ [])) two ∙ ap (λ n. ((flat step_row w.steps ++ (k ∷ length w.tests ∷ [])) ++ flat test_cells w.tests) ++ (n ∷ [])) nevers-count in
    let four =
    c.put_nevers.ensures ∙ ap (λ xs. xs ++ flat_map (λ v. v.items) c.as_slice-2.result.now) three
    ∙ ap (λ xs. (((flat step_row w.steps ++ (k ∷ length w.tests ∷ [])) ++ flat test_cells w.tests) ++ (length w.nevers ∷ [])) ++ xs) nevers in
    record {
      steps = four ∙ step_grows w.steps k w.tests w.nevers;
      names = c.push.ensures.items ∙ ap (λ xs. xs ++ (c.args.name ∷ [])) h.names;
      nevers = ap (each (λ v. v.items)) c.clear.ensures;
      tests = c.clear-2.ensures;
    }
