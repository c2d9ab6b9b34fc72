-- Nothing else satisfies the contract of `mc_chroma`: two outcomes for which it holds, of the same arguments, have one answer
-- and the same bytes in `out`. `Post` is the contract as Rattle reads it from the source, so a clause that says less breaks this file. Assumes nothing.
use mathlib.Core.Path.{◌≡◌}
use mathlib.Core.List.{List}
use Prim.Native.Nat.{ℕ}
use Rattle.std.specs.Prelude.{Result}
use denote.Ref.{MutBor}
use contract.Lifetimes.{Lfts}
use Rattle.terms.specs.declared.block.Block.{Block}
use Rattle.terms.specs.declared.plane.Plane.{Plane}
use Rattle.terms.specs.declared.refusal.Refusal.{Refusal}
use Rattle.terms.proofs.Number.{one_answer}
use Rattle.chroma.proofs.mc_chroma.Reads as mc-chroma-reads

-- what is passed, and what is there at the return: only `out` can have changed
abbrev Drawn : Type 0
Drawn = Plane × (Block × (MutBor (List ℕ) × Unit {0}))

pub mc_chroma_only : (κs : Lfts 2) (x s t : Drawn) (p q : Result (Unit {0}) Refusal) → mc-chroma-reads.Post κs x p s → mc-chroma-reads.Post κs x q t
    → (p ≡ q) × (s.1.1.0.now ≡ t.1.1.0.now)
mc_chroma_only κs x s t p q a b = (one_answer p q cc, cc)
