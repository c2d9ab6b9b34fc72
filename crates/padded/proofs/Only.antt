-- Nothing else satisfies the four contracts: two outcomes for which one holds, of the same arguments, have one answer and the same bytes in each output.
-- `Post` is the contract as Rattle reads it from the source, so a clause that says less breaks this file. Assumes nothing.
use mathlib.Core.Path.{◌≡◌, ap, ◌∙◌}
use mathlib.Core.List.{List}
use Prim.Native.Nat.{ℕ, suc}
use Rattle.std.specs.Prelude.{Result}
use denote.Ref.{Bor, MutBor}
use contract.Lifetimes.{Lfts}
use Rattle.place.specs.Outcome.{after}
use Rattle.terms.specs.declared.block.Block.{Block}
use Rattle.terms.specs.declared.plane.Geometry.{Geometry}
use Rattle.terms.specs.declared.refusal.Refusal.{Refusal}
use Rattle.terms.specs.Refusal.{answered}
use Rattle.terms.proofs.Number.{one_answer}
use Rattle.padded.proofs.mc_luma_padded.Reads as luma
use Rattle.padded.proofs.mc_luma_padded_slices.Reads as slices
use Rattle.padded.proofs.mc_chroma_padded.Reads as chroma
use Rattle.padded.proofs.mc_chroma_padded_pair.Reads as pair

-- what is passed, and what is there at the return: the geometry, the block and what is written, then the planes, then the scratch
abbrev pub Placed : Type 0 → Type 0
Placed Out = Geometry × (Block × Out)

abbrev pub Drawn : Type 0
Drawn = Bor (List ℕ) × Placed (MutBor (List ℕ) × Unit {0})

abbrev pub Lent : Type 0
Lent = MutBor (List ℕ) × (MutBor (List ℕ) × (MutBor (List ℕ) × Drawn))

abbrev pub Two : Type 0
Two = Bor (List ℕ) × (Bor (List ℕ) × Placed (MutBor (List ℕ) × (MutBor (List ℕ) × Unit {0})))

abbrev pub Answer : Type 0
Answer = Result (Unit {0}) Refusal

abbrev pub out : Drawn → List ℕ
out x = x.1.1.1.0.now

abbrev pub outu : Two → List ℕ
outu x = x.1.1.1.1.0.now

abbrev pub outv : Two → List ℕ
outv x = x.1.1.1.1.1.0.now

pub mc_luma_padded_only : (κs : Lfts 2) (x s t : Drawn) (p q : Answer) → luma.Post κs x p s → luma.Post κs x q t → (p ≡ q) × (out s ≡ out t)
mc_luma_padded_only κs x s t p q a b = (one_answer p q cc, cc)

pub mc_chroma_padded_only : (κs : Lfts 2) (x s t : Drawn) (p q : Answer) → chroma.Post κs x p s → chroma.Post κs x q t → (p ≡ q) × (out s ≡ out t)
mc_chroma_padded_only κs x s t p q a b = (one_answer p q cc, cc)

pub mc_chroma_padded_pair_only : (κs : Lfts 4) (x s t : Two) (p q : Answer) → pair.Post κs x p s → pair.Post κs x q t → (p ≡ q) × (outu s ≡ outu t) × (outv s ≡ outv t)
mc_chroma_padded_pair_only κs x s t p q a b = (one_answer p q cc, cc, cc)

pub mc_luma_padded_slices_only : (κs : Lfts 5) (x s t : Lent) (p q : Answer) → slices.Post κs x p s → slices.Post κs x q t → (p ≡ q) × (out s.1.1.1 ≡ out t.1.1.1)
mc_luma_padded_slices_only κs x s t p q a b = (one_answer p q cc, cc)

-- the scratch is as it was after a refusal; after 0 it is free
pub scratch_kept : (κs : Lfts 5) (x s : Lent) (p : Answer) (n : ℕ) → slices.Post κs x p s → answered p ≡ suc n
    → (s.0.now ≡ x.0.now) × (s.1.0.now ≡ x.1.0.now) × (s.1.1.0.now ≡ x.1.1.0.now)
scratch_kept κs x s p n a e = (old a.2, old a.3, old a.4)
  where
    old : {was is : List ℕ} → is ≡ after (answered p) was is → is ≡ was
    old {was} {is} f = f ∙ ap (λ (k : ℕ). after k was is) e
