-- Where STEPS divides 2^31, the remainder of the number that far up is the phase.
use Rattle.std.proofs.Common.{◌^◌, to_z-of_z, mod-lt}
use Rattle.place.proofs.CoordLaws.{phase_on}
use Rattle.place.proofs.coords.phase.Goals as goal

pub returns : goal.returns
returns g c =
    (rw (simp (to_z-of_z c.ranges.mv) at c.lift.ensures) (phase_on (2 ^ 31) g.row.STEPS c.args.mv c.requires.0 c.requires.1 c.ranges.mv.sfits), mod-lt _ c.requires.0)
