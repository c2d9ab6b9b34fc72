-- A lookup's answer as C has it, document 01: the number of the refusal and zeros, or 0, the plane by its number, the offset and the stride. Assumes nothing.
use Rattle.std.specs.Prelude.{Result, Ok, Err}
use Rattle.terms.specs.declared.refusal.Refusal.{Refusal}
use Rattle.terms.specs.Refusal.{number_of}
use Rattle.samples.specs.Phase.{plane_number}
use Rattle.hpel.specs.declared.Spot.{Spot}
use Rattle.hpel.specs.declared.Pair.{Pair}
use Rattle.hpel.specs.declared.HpelAt.{HpelAt}
use Rattle.hpel.specs.declared.HpelPair.{HpelPair}

abbrev pub at_answer : Result Spot Refusal → HpelAt
at_answer (Ok s) = record { refusal = 0; plane = plane_number s.plane; offset = s.offset; stride = s.stride }
at_answer (Err e) = record { refusal = number_of e; plane = 0; offset = 0; stride = 0 }

abbrev pub pair_answer : Result Pair Refusal → HpelPair
pair_answer (Ok k) =
    record {
      refusal = 0;
      plane_a = plane_number k.plane_a;
      plane_b = plane_number k.plane_b;
      offset_a = k.offset_a;
      offset_b = k.offset_b;
      stride = k.stride;
    }
pair_answer (Err e) = record { refusal = number_of e; plane_a = 0; plane_b = 0; offset_a = 0; offset_b = 0; stride = 0 }
