use Rattle.std.proofs.Common.{[], ◌∷◌, ◌++◌, sym, ap, ◌∙◌}
use Rattle.timeline.specs.Lists.{each}
use Rattle.patterns.specs.Kept.{test_cells}
use Rattle.patterns.specs.Codes.{test_of}
use Rattle.timeline.proofs.Each.{each_append}
use Rattle.syntax.proofs.drafts.Draft.add_test.Goals as goal

pub returns : goal.returns
unfolding each
returns c =
    λ w h. record {
      steps = h.steps;
      names = h.names;
      nevers = h.nevers;
      tests =
          c.push.ensures.items ∙ ap (λ ts. ts ++ (c.from.result ∷ [])) h.tests ∙ ap (λ t. each test_cells w.tests ++ (t ∷ [])) c.from.ensures
          ∙ sym (each_append test_cells w.tests (test_of c.args.test ∷ []));
    }
