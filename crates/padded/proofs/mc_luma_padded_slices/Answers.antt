-- `padded::mc_luma_padded_slices` meets its contract: a refusal keeps all, and no refusal is what `luma_block_with` requires. Assumes nothing.
use Rattle.std.proofs.Common.{◌≡◌, ℕ, ◌≤◌, [], ◌∷◌, ◌++◌, refl, arith, ltb-false}
use Rattle.place.specs.Refusal.{short, padded_tests, block_tests, padded_block_refusal}
use Rattle.place.proofs.Refused.{PaddedOk, BlockOk, padded_block_ok, split_zero, passed, handed, untouched}
use Rattle.window.specs.Padded.{slices_refusal}
use Rattle.padded.proofs.mc_luma_padded_slices.Goals as goal

-- THE LAW OF 0, with scratch
slices_ok : (tile a b len w h pad stride x0 y0 bw bh out : ℕ) → 0 ≡ slices_refusal tile a b len w h pad stride x0 y0 bw bh out
    → (PaddedOk len w h pad stride × BlockOk 16 x0 y0 bw bh out) × (441 ≤ tile) × (256 ≤ a) × (256 ≤ b)
unfolding slices_refusal padded_block_refusal
slices_ok tile a b len w h pad stride x0 y0 bw bh out e =
    let p = split_zero (padded_tests len w h pad stride ++ block_tests 16 x0 y0 bw bh out) ((5, short tile 441) ∷ (5, short a 256) ∷ (5, short b 256) ∷ []) tt e in
    let t = passed _ _ _ p.1 in
    let u = passed _ _ _ t.1 in
    let v = passed _ _ _ u.1 in
    (padded_block_ok 16 len w h pad stride x0 y0 bw bh out p.0, ltb-false _ _ t.0, ltb-false _ _ u.0, ltb-false _ _ v.0)

pub returns-in_err-check_lent : goal.returns-in_err-check_lent
returns-in_err-check_lent c =
    let e = c.in_err-check_lent.field-0.0 in
    rw (handed _ e c.from_residual.ensures.1) (c.in_err-check_lent.ensures, untouched e _ _, untouched e _ _, untouched e _ _, untouched e _ _)

pub invariant_of-plane : goal.invariant_of-plane
invariant_of-plane c =
    let ok = slices_ok _ _ _ _ _ _ _ _ _ _ _ _ _ c.in_ok-check_lent.ensures in
    record { wide = omega (arith, ok); high = omega (arith, ok); margin = omega (arith, ok); rows = omega (arith, ok); whole = omega (arith, ok) }

pub luma_block_with-requires : goal.luma_block_with-requires
luma_block_with-requires c = omega (arith, slices_ok _ _ _ _ _ _ _ _ _ _ _ _ _ c.in_ok-check_lent.ensures)

pub returns : goal.returns
returns c = (c.in_ok-check_lent.ensures, c.luma_block_with.ensures, refl, refl, refl)
