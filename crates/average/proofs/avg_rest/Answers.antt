-- `average::avg_rest`: the averages of what is left of both rows. Assumes nothing.
use Rattle.std.proofs.Common.{◌∙◌, ◌-◌, length, refl, arith, length-drop}
use Rattle.std.proofs.lemmas.List.{length-take-le}
use Rattle.average.proofs.Runs.{means, part, of_parts}
use Rattle.average.proofs.avg_rest.Goals as goal

pub returns : goal.returns
returns c =
    let x = c.args in
    part x.dst.now x.i (means x.a.now x.b.now x.i) refl
    (c.mean_lanes.ensures
    ∙ of_parts x.a.now x.b.now x.i (length x.a.now) (length x.b.now) _ (length x.dst.now - x.i) (omega arith) (omega arith)
    (length-take-le _ _ (omega (arith, length-drop x.i x.dst.now))))
    refl
