-- A quarter phase is not served.
use Rattle.served.specs.Served.{ref_refusal}
use Rattle.served.proofs.Laws.{same_lookup}
use Rattle.served.proofs.check_ref.Goals as goal

pub returns : goal.returns
unfolding ref_refusal
returns c = same_lookup _ _ _ _ _ _ _ c.check_lookup.ensures c.quarter.ensures
