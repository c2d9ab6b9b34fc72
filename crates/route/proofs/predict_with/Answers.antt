-- Each way to read gives the samples nearest to the windows' places.
use Rattle.std.proofs.Common.{◌+◌, ◌-◌, ◌∙◌, arith}
use Rattle.route.proofs.Inside.{room_of, full, placed}
use Rattle.route.proofs.predict_with.Goals as goal

pub block-requires : goal.block-requires
block-requires g c =
    let room = room_of c.in-Some.ensures (c.args.aim.h - 1 + g.C.Component.AROUND) (omega arith) in
    (omega arith, (g.met.C.Component.between c.args.aim.fx c.args.aim.fy (omega arith), omega (arith, room), omega arith))

pub returns-then-aim-eq0 : goal.returns-then-aim-eq0
returns-then-aim-eq0 g c =
    let a = c.args.area in
    let m = c.args.aim in
    c.predict_full.ensures ∙ full _ c.args.out.now a.samples.now a.at a.stride a.w a.h _ m.x m.y m.fx m.fy m.w m.h _ g.met.C.Component.full (omega arith)

pub returns-in-Some : goal.returns-in-Some
returns-in-Some g c =
    let a = c.args.area in
    let m = c.args.aim in
    c.block.ensures ∙ placed _ c.args.out.now a.samples.now a.at a.stride a.w a.h _ m.x m.y m.fx m.fy m.w m.h _ g.met.C.Component.reads c.in-Some.ensures
