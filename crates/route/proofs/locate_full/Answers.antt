-- A width that is copied.
use Rattle.std.proofs.Common.{sym, ◌∙◌}
use Rattle.std.proofs.lemmas.Option.{IfSome_then}
use native.Mathlib.Numerals.{unary_clauses}
use Rattle.route.proofs.locate_full.Goals as goal

pub returns-then-is_copied : goal.returns-then-is_copied
returns-then-is_copied g c = IfSome_then c.spot_in.result c.spot_in.ensures (λ at l. (sym c.is_copied.ensures ∙ c.if-is_copied.true, simp unary_clauses at l))
