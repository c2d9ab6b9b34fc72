-- Each way to read gives the samples nearest to the windows' places.
use mathlib.Core.Logic.{⊎_elim}
use Rattle.std.proofs.Common.{◌+◌, ◌-◌, ◌∙◌, arith}
use Rattle.std.proofs.lemmas.Option.{MatchOption-at_some}
use Rattle.route.proofs.Inside.{room_of, placed}
use Rattle.route.proofs.predict_from.Goals as goal

pub block-requires : goal.block-requires
block-requires g c =
    let room = room_of (MatchOption-at_some _ _ _ c.in-Some.is c.requires.2) (c.args.aim.h - 1 + g.C.Component.AROUND) (omega arith) in
    let takes = ⊎_elim (g.met.C.Component.between c.args.aim.fx c.args.aim.fy) (λ t. t) c.requires.0 in
    (omega arith, (takes, omega (arith, room), omega arith))

pub returns-in-Some : goal.returns-in-Some
returns-in-Some g c =
    let a = c.args.area in
    let m = c.args.aim in
    c.block.ensures
    ∙ placed _ c.args.out.now a.samples.now a.at a.stride a.w a.h _ m.x m.y m.fx m.fy m.w m.h _ g.met.C.Component.reads (MatchOption-at_some _ _ _ c.in-Some.is c.requires.2)

pub returns-in-None : goal.returns-in-None
returns-in-None g c = c.by_tile.ensures
