-- Nothing else satisfies the contract of `mc_luma_padded_pre`: two outcomes for which it holds, of the same arguments, have one answer and the same
-- bytes in `out`; after a refusal the scratch is as it was, and after 0 it is free. It stands on `Predicted`, which is the whole of its contract, and on
-- the contract as Rattle reads it from the source, so that a clause that says less breaks this file. Assumes nothing.
use mathlib.Core.Path.{◌≡◌, ap, ◌∙◌}
use mathlib.Core.List.{List}
use Prim.Native.Nat.{ℕ, suc}
use lib.IntN.{ℤ}
use denote.Ref.{Bor, MutBor}
use contract.Lifetimes.{Lfts}
use Rattle.std.specs.Prelude.{Result}
use Rattle.terms.specs.declared.block.Block.{Block}
use Rattle.terms.specs.declared.plane.Geometry.{Geometry}
use Rattle.terms.specs.declared.refusal.Refusal.{Refusal}
use Rattle.terms.specs.Refusal.{answered}
use Rattle.terms.proofs.Number.{one_answer}
use Rattle.place.specs.Outcome.{after}
use Rattle.lent.specs.Lent.{Predicted}
use Rattle.lent.specs.declared.McScratch.{McScratch}
use Rattle.lent.proofs.mc_luma_padded_pre.Reads as reads

module _ (t a b padded : List ℕ) (stride pad pw ph x0 y0 bw bh : ℕ) (mvx mvy : ℤ) (out : List ℕ) where
  pub mc_luma_padded_pre_only : (t₁ a₁ b₁ out₁ t₂ a₂ b₂ out₂ : List ℕ) (p q : ℕ)
      → Predicted t a b padded stride pad pw ph x0 y0 bw bh mvx mvy out t₁ a₁ b₁ out₁ p
      → Predicted t a b padded stride pad pw ph x0 y0 bw bh mvx mvy out t₂ a₂ b₂ out₂ q → (p ≡ q) × (out₁ ≡ out₂)
  mc_luma_padded_pre_only t₁ a₁ b₁ out₁ t₂ a₂ b₂ out₂ p q c d = (cc, cc)

  pub scratch_kept : (t₁ a₁ b₁ out₁ : List ℕ) (p n : ℕ)
      → Predicted t a b padded stride pad pw ph x0 y0 bw bh mvx mvy out t₁ a₁ b₁ out₁ p → p ≡ suc n → (t₁ ≡ t) × (a₁ ≡ a) × (b₁ ≡ b)
  scratch_kept t₁ a₁ b₁ out₁ p n c e =
      (c.tile ∙ ap (λ (r : ℕ). after r t t₁) e, c.first ∙ ap (λ (r : ℕ). after r a a₁) e, c.second ∙ ap (λ (r : ℕ). after r b b₁) e)

-- what is passed, and what is there at the return: the scratch, the plane, its geometry, the block and `out`
abbrev Passed : Type 0
Passed = MutBor McScratch × (Bor (List ℕ) × (Geometry × (Block × (MutBor (List ℕ) × Unit {0}))))

abbrev Answer : Type 0
Answer = Result (Unit {0}) Refusal

pub mc_luma_padded_pre_reads_only : (κs : Lfts 3) (x s t : Passed) (p q : Answer) → reads.Post κs x p s → reads.Post κs x q t
    → (p ≡ q) × (s.1.1.1.1.0.now ≡ t.1.1.1.1.0.now)
mc_luma_padded_pre_reads_only κs x s t p q a b = (one_answer p q cc, cc)

pub scratch_reads_kept : (κs : Lfts 3) (x s : Passed) (p : Answer) (n : ℕ) → reads.Post κs x p s → answered p ≡ suc n
    → (s.0.now.tile ≡ x.0.now.tile) × (s.0.now.a ≡ x.0.now.a) × (s.0.now.b ≡ x.0.now.b)
scratch_reads_kept κs x s p n c e =
    let g = x.1.1.0 in
    let b = x.1.1.1.0 in
    scratch_kept x.0.now.tile x.0.now.a x.0.now.b x.1.0.now g.stride g.pad g.pw g.ph b.x b.y b.w b.h b.mv.x b.mv.y x.1.1.1.1.0.now
    s.0.now.tile s.0.now.a s.0.now.b s.1.1.1.1.0.now (answered p) n c e
