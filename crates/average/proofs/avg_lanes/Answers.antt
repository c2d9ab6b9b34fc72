-- `average::avg_lanes`: a local row, copied to its place. Assumes nothing.
use Rattle.std.proofs.Common.{◌∙◌, ◌+◌, refl, arith}
use Rattle.std.proofs.lemmas.List.{length-replicate}
use Rattle.average.proofs.Runs.{means, part, of_parts}
use Rattle.average.proofs.avg_lanes.Goals as goal

pub returns : goal.returns
returns g c =
    let x = c.args in
    let n = g.row.N in
    part x.dst.now x.i (means x.a.now x.b.now x.i) refl
    (c.copy_from_slice.ensures.after ∙ c.mean_lanes.ensures ∙ of_parts x.a.now x.b.now x.i (x.i + n) (x.i + n) _ n (omega arith) (omega arith) (length-replicate n 0)) (omega arith)
