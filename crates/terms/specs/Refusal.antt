-- Document 01, "Numbers that bound a call": the number of each refusal, and 0 where a call is done. Assumes nothing.
use Rattle.std.specs.Prelude.{ℕ, Result, Ok, Err}
use Rattle.terms.specs.declared.refusal.Refusal.{Refusal}
use Rattle.terms.specs.declared.refusal.Refusal.TheVariants.{BadSide, ShortSource, BadBlock, BadPosition, ShortOutput, NotServed, BadReference}

abbrev pub number_of : Refusal → ℕ
number_of BadSide = 1
number_of ShortSource = 2
number_of BadBlock = 3
number_of BadPosition = 4
number_of ShortOutput = 5
number_of NotServed = 6
number_of BadReference = 7

abbrev pub answered : {T : Type 0} → Result T Refusal → ℕ
answered (Ok x) = 0
answered (Err e) = number_of e
