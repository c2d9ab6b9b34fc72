-- Words of the replay: its calls by number, as the list has them. No public contract rests on them. Assumes nothing.
use Rattle.std.specs.Prelude.{◌≡◌, ℕ, Result, MatchResult, ◌<◌, ◌≤◌}
use Rattle.calls.specs.declared.call.Call.{Call}
use Rattle.calls.specs.declared.call.Call.TheVariants.{Median3, PredictMv, PredictPartitionMv, InterPartitions, EdgeCount, McLuma, McChroma, AvgRowInto, ExpandPlane, McLumaPadded, McLumaPaddedPre, McChromaPadded, McChromaPaddedPair, PadPlane, BuildHpelPlanes, HpelRefAt, HpelQpelRefsAt, HpelRef, HpelQpelRefs, HpelBlock}
use Rattle.calls.specs.declared.call.UnknownCall.{UnknownCall}

-- as the list numbers them
abbrev pub number_of : Call → ℕ
number_of Median3 = 1
number_of PredictMv = 2
number_of PredictPartitionMv = 3
number_of InterPartitions = 4
number_of EdgeCount = 5
number_of McLuma = 6
number_of McChroma = 7
number_of AvgRowInto = 8
number_of ExpandPlane = 9
number_of McLumaPadded = 10
number_of McLumaPaddedPre = 11
number_of McChromaPadded = 12
number_of McChromaPaddedPair = 13
number_of PadPlane = 14
number_of BuildHpelPlanes = 15
number_of HpelRefAt = 16
number_of HpelQpelRefsAt = 17
number_of HpelRef = 18
number_of HpelQpelRefs = 19
number_of HpelBlock = 20

-- the call with this number, or the number itself, which none has
abbrev pub Numbers : ℕ → Result Call UnknownCall → Type 0
Numbers number r = MatchResult r (λ call. number_of call ≡ number) (λ e. (e.0 ≡ number) × (1 ≤ number → 20 < number))
