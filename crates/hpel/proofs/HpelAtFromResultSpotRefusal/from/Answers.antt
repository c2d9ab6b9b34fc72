-- `hpel::HpelAt`: a refusal has its number and zeros. Assumes nothing.
use Rattle.std.proofs.Common.{refl}
use Rattle.hpel.proofs.HpelAtFromResultSpotRefusal.from.Goals as goal

pub returns-in-Err : goal.returns-in-Err
returns-in-Err c = rw (c.number-in-Err.ensures, c.in-Err.is) refl
