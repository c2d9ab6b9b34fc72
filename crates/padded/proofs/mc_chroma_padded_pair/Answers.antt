-- `padded::mc_chroma_padded_pair` meets its contract: the shorter lengths decide, a refusal keeps both outputs, and no refusal is what `chroma_pair` requires. Assumes nothing.
use Rattle.std.proofs.Common.{◌≡◌, ℕ, refl, ap₂, ◌∙◌, arith}
use Rattle.place.specs.Refusal.{padded_block_refusal}
use Rattle.place.proofs.Refused.{padded_block_ok, handed, untouched}
use Rattle.padded.proofs.mc_chroma_padded_pair.Goals as goal

-- the answer by the lengths that were found
by_lengths : {k source target m n : ℕ} (pw ph pad stride x y w h : ℕ) → k ≡ padded_block_refusal 8 source pw ph pad stride x y w h target → source ≡ m → target ≡ n
    → k ≡ padded_block_refusal 8 m pw ph pad stride x y w h n
by_lengths pw ph pad stride x y w h e p q = e ∙ ap₂ (λ (i j : ℕ). padded_block_refusal 8 i pw ph pad stride x y w h j) p q

pub returns-in_err-check_padded_block : goal.returns-in_err-check_padded_block
returns-in_err-check_padded_block c =
    let e = c.in_err-check_padded_block.field-0.0 in
    rw (handed _ e c.from_residual.ensures.1)
    (by_lengths _ _ _ _ _ _ _ _ c.in_err-check_padded_block.ensures c.min-source.ensures c.min-target.ensures, untouched e _ _, untouched e _ _)

pub invariant_of-u : goal.invariant_of-u
invariant_of-u c =
    let ok = padded_block_ok _ _ _ _ _ _ _ _ _ _ _ c.in_ok-check_padded_block.ensures in
    record { wide = omega (arith, ok); high = omega (arith, ok); margin = omega (arith, ok); rows = omega (arith, ok); whole = omega (arith, ok, c.min-source.ensures) }

pub invariant_of-v : goal.invariant_of-v
invariant_of-v c =
    let ok = padded_block_ok _ _ _ _ _ _ _ _ _ _ _ c.in_ok-check_padded_block.ensures in
    record { wide = omega (arith, ok); high = omega (arith, ok); margin = omega (arith, ok); rows = omega (arith, ok); whole = omega (arith, ok, c.min-source.ensures) }

pub chroma_pair-requires : goal.chroma_pair-requires
chroma_pair-requires c =
    let ok = (padded_block_ok _ _ _ _ _ _ _ _ _ _ _ c.in_ok-check_padded_block.ensures).1 in
    (refl, ok.x2, ok.y2, ok.bw1, ok.bw2, ok.bh1, ok.bh2, omega (arith, ok.dst, c.min-target.ensures), omega (arith, ok.dst, c.min-target.ensures))

pub returns : goal.returns
returns c = (by_lengths _ _ _ _ _ _ _ _ c.in_ok-check_padded_block.ensures c.min-source.ensures c.min-target.ensures, c.chroma_pair.ensures.0, c.chroma_pair.ensures.1)
