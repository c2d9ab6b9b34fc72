-- Words of the workshop: what luma and chroma have in common: each phase but (0, 0) is among those whose blocks are made, a sample reads its window alone, one of phase (0, 0) is the sample at its place, and a block's window fits its tile. No public contract rests on them. Assumes nothing.
use Rattle.std.proofs.Common.{◌≡◌, ℕ, ◌+◌, ◌*◌, ◌-◌, ◌≤◌, ◌<◌, ap₂, ◌∙◌, arith}
use Rattle.place.proofs.Refused.{area}
use Rattle.samples.specs.Phase.{luma_sample}
use Rattle.samples.specs.Bilinear.{chroma_sample}
use Rattle.samples.proofs.Reach.{luma_six, luma_full, chroma_four, chroma_full}

-- the sample of a phase out of those around it
abbrev pub Sample : Type 0
Sample = ℕ → ℕ → (ℕ → ℕ → ℕ) → ℕ

-- a set of phases that holds each but (0, 0)
pub record Phases : Type 1 where
  pub Takes : (fx fy : ℕ) → Type 0
  pub between : (fx fy : ℕ) → 1 ≤ fx + fy → Takes fx fy

-- these alone
abbrev pub but_full : Phases
but_full = record { Takes = λ fx fy. 1 ≤ fx + fy; between = λ fx fy moved. moved }

-- (0, 0) too
abbrev pub every : Phases
every = record { Takes = λ fx fy. Unit {0}; between = λ fx fy moved. tt }

-- it reads `around` samples more than one on each axis
abbrev pub ReadsWithin : Sample → ℕ → Type 0
ReadsWithin sample around = (fx fy : ℕ) (f g : ℕ → ℕ → ℕ) → ((i j : ℕ) → i < around + 1 → j < around + 1 → f i j ≡ g i j) → sample fx fy f ≡ sample fx fy g

-- of phase (0, 0) it is the one after `before` samples on each axis
abbrev pub AtFull : Sample → ℕ → Type 0
AtFull sample before = (fx fy : ℕ) (f : ℕ → ℕ → ℕ) → fx + fy ≡ 0 → sample fx fy f ≡ f before before

-- the window of a block of at most 64 steps a side, and the lanes that are read from its last row on, fit a tile
abbrev pub TileHolds : (steps around lanes tile : ℕ) → Type 0
TileHolds steps around lanes tile =
    (w h : ℕ) → 1 ≤ h → w * steps ≤ 64 → h * steps ≤ 64 → ((w + around) * (h + around) ≤ tile) × ((h - 1 + around) * (w + around) + lanes ≤ tile)

pub luma_reads : ReadsWithin (luma_sample 255) 5
luma_reads fx fy f g e = luma_six 255 f g e fx fy

pub luma_at_full : AtFull (luma_sample 255) 2
luma_at_full fx fy f e =
    let ex : fx ≡ 0 = omega arith in
    let ey : fy ≡ 0 = omega arith in
    ap₂ (λ (u v : ℕ). luma_sample 255 u v f) ex ey ∙ luma_full 255 f

pub chroma_reads : ReadsWithin chroma_sample 1
chroma_reads fx fy f g e = chroma_four fx fy f g e

pub chroma_at_full : AtFull chroma_sample 0
chroma_at_full fx fy f e =
    let ex : fx ≡ 0 = omega arith in
    let ey : fy ≡ 0 = omega arith in
    ap₂ (λ (u v : ℕ). chroma_sample u v f) ex ey ∙ chroma_full f

pub luma_fits : TileHolds 4 5 21 441
luma_fits w h a b c = omega (arith, area 21 (w + 5) (h + 5) 21 (omega arith) (omega arith), area 20 (h - 1 + 5) (w + 5) 21 (omega arith) (omega arith))

pub chroma_fits : TileHolds 8 1 9 81
chroma_fits w h a b c = omega (arith, area 9 (w + 1) (h + 1) 9 (omega arith) (omega arith), area 8 (h - 1 + 1) (w + 1) 9 (omega arith) (omega arith))
