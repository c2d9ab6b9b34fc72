-- Nothing else satisfies the contracts of `mc_luma` and `avg_row_into`: two outcomes for which one holds, of the same arguments, have one answer
-- and the same bytes in `out`. `Post` is the contract as Rattle reads it from the source, so a clause that says less breaks this file. Assumes nothing.
use mathlib.Core.Path.{◌≡◌}
use mathlib.Core.List.{List}
use Prim.Native.Nat.{ℕ}
use Rattle.std.specs.Prelude.{Result}
use denote.Ref.{Bor, MutBor}
use contract.Lifetimes.{Lfts}
use Rattle.terms.specs.declared.block.Block.{Block}
use Rattle.terms.specs.declared.plane.Plane.{Plane}
use Rattle.terms.specs.declared.refusal.Refusal.{Refusal}
use Rattle.terms.proofs.Number.{one_answer}
use Rattle.luma.proofs.mc_luma.Reads as mc-luma-reads
use Rattle.luma.proofs.avg_row_into.Reads as avg-row-into-reads

-- what is passed, and what is there at the return: only `out` can have changed
abbrev Drawn : Type 0
Drawn = Plane × (Block × (MutBor (List ℕ) × Unit {0}))

pub mc_luma_only : (κs : Lfts 2) (x s t : Drawn) (p q : Result (Unit {0}) Refusal) → mc-luma-reads.Post κs x p s → mc-luma-reads.Post κs x q t
    → (p ≡ q) × (s.1.1.0.now ≡ t.1.1.0.now)
mc_luma_only κs x s t p q a b = (one_answer p q cc, cc)

abbrev Row : Type 0
Row = Bor (List ℕ) × (Bor (List ℕ) × (ℕ × (MutBor (List ℕ) × Unit {0})))

pub avg_row_into_only : (κs : Lfts 3) (x s t : Row) (p q : Result (Unit {0}) Refusal) → avg-row-into-reads.Post κs x p s → avg-row-into-reads.Post κs x q t
    → (p ≡ q) × (s.1.1.1.0.now ≡ t.1.1.1.0.now)
avg_row_into_only κs x s t p q a b = (one_answer p q cc, cc)
