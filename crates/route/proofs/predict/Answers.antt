-- Full samples, or the window of a phase.
use Rattle.std.proofs.Common.{◌∙◌, arith}
use Rattle.route.proofs.Inside.{full}
use Rattle.route.proofs.predict.Goals as goal

pub returns-then-aim-eq0 : goal.returns-then-aim-eq0
returns-then-aim-eq0 g c =
    let a = c.args.area in
    let m = c.args.aim in
    c.predict_full.ensures ∙ full _ c.args.out.now a.samples.now a.at a.stride a.w a.h _ m.x m.y m.fx m.fy m.w m.h _ g.met.C.Component.full (omega arith)
