use Rattle.std.proofs.Common.{[], ◌∷◌, ◌++◌, length, sym, ap, ◌∙◌}
use Rattle.std.specs.List.{flat_map}
use Rattle.timeline.specs.Lists.{each}
use Rattle.timeline.proofs.Each.{each_append}
use Rattle.patterns.specs.Kept.{test_cells}
use Rattle.syntax.specs.Rows.{never_row}
use Rattle.syntax.proofs.Growing.{flattened, length_each}
use Rattle.syntax.proofs.drafts.Draft.end_never.Goals as goal

pub returns : goal.returns
unfolding each
returns c =
    λ w h.
    let d = c.args.self.now in
    let k = c.args.kind in
    let count = c.len.ensures.value ∙ ap length h.tests ∙ length_each test_cells w.tests in
    let tests = c.as_flattened.ensures.value ∙ ap (flat_map (λ x. x)) (c.as_slice.ensures.value ∙ h.tests) ∙ flattened test_cells w.tests in
    let never =
    c.put-2.ensures ∙ ap (λ xs. xs ++ c.as_flattened.result.now) (c.put.ensures ∙ ap (λ xs. xs ++ (k ∷ c.len.result ∷ [])) c.new-never.ensures)
    ∙ ap (λ n. k ∷ n ∷ c.as_flattened.result.now) count ∙ ap (λ xs. k ∷ length w.tests ∷ xs) tests in
    record {
      steps = h.steps;
      names = h.names;
      nevers =
          ap (each (λ v. v.items)) c.push.ensures.items ∙ each_append (λ v. v.items) d.nevers.items (c.put-2.new.row ∷ []) ∙ ap (λ xs. xs ++ (c.put-2.new.row.items ∷ [])) h.nevers
          ∙ ap (λ row. each never_row w.nevers ++ (row ∷ [])) never ∙ sym (each_append never_row w.nevers (record { kind = k; tests = w.tests } ∷ []));
      tests = c.clear.ensures;
    }
