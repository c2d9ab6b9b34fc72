-- Nothing else satisfies the contract of `inter_mc_luma_padded_pre`, as Rattle reads it from the source: two outcomes for which it holds, of the same
-- arguments, have one answer and the same bytes in `out`. The other calls' theorems are in crates/promises/proofs/Determined.antt. Assumes nothing.
use mathlib.Core.Path.{◌≡◌}
use mathlib.Core.List.{List}
use Prim.Native.Nat.{ℕ}
use lib.IntN.{ℤ}
use denote.Ref.{Bor, MutBor}
use contract.Lifetimes.{Lfts}
use Rattle.lent.specs.declared.McScratch.{McScratch}
use Rattle.inter.proofs.inter_mc_luma_padded_pre.Reads as reads

-- what is passed, and what is there at the return: the scratch, the plane, its geometry, the place, the sides, the vector and `out`
abbrev Passed : Type 0
Passed = MutBor McScratch × (Bor (List ℕ) × (ℕ × (ℕ × (ℕ × (ℕ × (ℕ × (ℕ × (ℕ × (ℕ × (ℤ × (ℤ × (MutBor (List ℕ) × Unit {0}))))))))))))

pub inter_mc_luma_padded_pre_only : (κs : Lfts 3) (x s t : Passed) (p q : ℕ) → reads.Post κs x p s → reads.Post κs x q t
    → (p ≡ q) × (s.1.1.1.1.1.1.1.1.1.1.1.1.0.now ≡ t.1.1.1.1.1.1.1.1.1.1.1.1.0.now)
inter_mc_luma_padded_pre_only κs x s t p q a b = (cc, cc)
