-- `average::avg2`: the sum fits 16 bits, and is that of the definition. Assumes nothing.
use Rattle.std.proofs.Common.{◌+◌, ◌/◌, ℕ}
use mathlib.Core.Path.{ap₂}
use Rattle.samples.specs.Tap.{mean}
use Rattle.average.proofs.avg2.Goals as goal

pub returns : goal.returns
unfolding mean
returns c = ap₂ (λ (p q : ℕ). (p + q + 1) / 2) c.wide.ensures.0 c.wide-2.ensures.0
