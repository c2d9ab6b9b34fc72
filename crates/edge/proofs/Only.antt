-- Nothing else satisfies the contract of `edge_count`: two answers for which it holds, of the same arguments, are equal.
-- `Post` is the contract as Rattle reads it from the source, so a clause that says less breaks this file. Assumes nothing.
use mathlib.Core.Path.{◌≡◌, sym, ◌∙◌}
use Prim.Native.Nat.{ℕ}
use Rattle.std.specs.Prelude.{Result}
use Rattle.terms.specs.declared.block.Block.{Block}
use Rattle.terms.specs.declared.refusal.Refusal.{Refusal}
use Rattle.edge.proofs.Count.{one_edges}
use Rattle.edge.proofs.edge_count.Reads as reads

pub edge_count_only : (x : ℕ × (ℕ × (Block × Unit {0}))) (r t : Result ℕ Refusal) → reads.Post tt x r x → reads.Post tt x t x → r ≡ t
edge_count_only x r t p q = one_edges r t (p ∙ sym q)
