use Rattle.std.proofs.Common.{◌≤◌, length, get_or, sym, arith}
use Rattle.std.proofs.lemmas.List.{length-take-le}
use Rattle.patterns.proofs.Chunks.{behind_count, most_chunks}
use Rattle.patterns.proofs.views.counted.Goals as goal

pub slice_bounds-result-end : goal.slice_bounds-result-end
slice_bounds-result-end g c =
    let few = most_chunks g.row.N c.args.most (get_or c.args.words.now 0 0) c.args.words.now c.requires.some c.requires.room in
    let room : c.at_most.result ≤ length c.as_chunks.result.0.now = omega (arith, few, c.at_most.ensures, c.as_chunks.ensures.front_len) in
    sym (length-take-le c.at_most.result c.as_chunks.result.0.now room)

pub returns : goal.returns
returns g c =
    let words = c.args.words.now in
    rw (c.at_most.ensures, c.as_chunks.ensures.front) (behind_count g.row.N c.args.most (get_or words 0 0) words c.requires.some c.requires.room)
