-- Each coordinate has a place and a phase of its own, and so has each side its length.
use Rattle.std.proofs.Common.{refl, rules, to_z-of_z}
use mir.Val.{SFits}
use mir.Syntax.{w32}
use Rattle.place.proofs.area.Aim.of.Goals as goal

pub returns : goal.returns
returns g c =
    let across : SFits w32 c.args.block.mv.x = search rules in
    let down : SFits w32 c.args.block.mv.y = search rules in (
      simp (to_z-of_z across) at c.at.ensures.0,
      simp (to_z-of_z down) at c.at-2.ensures.0,
      simp (to_z-of_z across) at c.phase.ensures.0,
      simp (to_z-of_z down) at c.phase-2.ensures.0,
      refl,
      refl,
    )
