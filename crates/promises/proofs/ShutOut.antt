-- Programs that the contracts shut out: one fixed grey, one that only refuses, one that writes nothing, and one that fills in a missing sample. Assumes nothing.
use mathlib.Core.Path.{◌≡◌, refl, ap, ◌∙◌}
use mathlib.Core.List.{List, [], ◌∷◌}
use Prim.Native.Nat.{ℕ, ◌+◌, ◌*◌, ◌≤◌, min}
use native.Mathlib.Omega.{arith}
use lib.IntN.{pos}
use lib.ListN.{length}
use denote.Ref.{Bor, MutBor}
use contract.Lifetimes.{Lfts}
use Rattle.grid.specs.Block.{sample, by_rows, tab, block, drawn}
use Rattle.place.specs.Picture.{sample_at, window}
use Rattle.place.specs.Place.{luma_place}
use Rattle.place.specs.Refusal.{lowest, plain_block_refusal}
use Rattle.place.proofs.Refused.{plain_block_ok, padded_block_ok, above_zero}
use Rattle.std.specs.Prelude.{Ok, Err}
use Rattle.terms.specs.declared.block.Block as asked
use Rattle.terms.specs.declared.plane.Plane as given
use Rattle.terms.specs.declared.refusal.Refusal.{Refusal}
use Rattle.terms.specs.Refusal.{number_of}
use Rattle.samples.specs.declared.phases.Kind.{Kind}
use Rattle.samples.specs.declared.phases.Kind.TheVariants.{Full, Across, Down, Centre}
use Rattle.samples.specs.Tap.{six_tap, clip, mean}
use Rattle.samples.specs.Phase.{phases, phase_of, anchor, luma_sample}
use Rattle.luma.specs.Luma.{predicted_luma}
use Rattle.luma.proofs.mc_luma.Reads as mc-luma
use Rattle.chroma.proofs.mc_chroma.Reads as mc-chroma
use Rattle.padded.proofs.Only.{Drawn, Two}
use Rattle.padded.proofs.mc_luma_padded.Reads as mc-luma-padded
use Rattle.padded.proofs.mc_chroma_padded.Reads as mc-chroma-padded
use Rattle.padded.proofs.mc_chroma_padded_pair.Reads as mc-chroma-padded-pair
use Rattle.promises.specs.Exact.{exact_of, exact}
use Rattle.promises.specs.Bound.{NearMean}

-- ---- one fixed grey

-- the exact anchors of a window of one value are that value, where it is 0 or 255
black : (kind : Kind) (dx dy : ℕ) → exact_of 255 (λ _ _. 0) kind dx dy ≡ 0
unfolding six_tap clip
black Full dx dy = refl
black Across dx dy = refl
black Down dx dy = refl
black Centre dx dy = refl

white : (kind : Kind) (dx dy : ℕ) → exact_of 255 (λ _ _. 255) kind dx dy ≡ 261120
unfolding six_tap clip
white Full dx dy = refl
white Across dx dy = refl
white Down dx dy = refl
white Centre dx dy = refl

-- no byte is near the mean on planes of 0 and on planes of 255
pub no_fixed_grey : (fx fy P : ℕ) → NearMean 255 fx fy (λ _ _. 0) P → NearMean 255 fx fy (λ _ _. 255) P → ⊥
unfolding NearMean exact
no_fixed_grey fx fy P a b =
    let p = (phase_of fx fy).p in
    let q = (phase_of fx fy).q in
    let b0 = black p.kind p.dx p.dy in
    let b1 = black q.kind q.dx q.dy in
    let w0 = white p.kind p.dx p.dy in
    let w1 = white q.kind q.dx q.dy in
    omega (arith, a.1, b.0)

-- ---- one that only refuses, and one that writes nothing

-- a picture of the one sample 77, and an output of the one byte 0
abbrev Passed : Type 0
Passed = given.Plane × (asked.Block × (MutBor (List ℕ) × Unit {0}))

abbrev one : (pic : Bor (List ℕ)) (out : MutBor (List ℕ)) → Passed
one pic out =
    (record { samples = pic; w = 1; h = 1 }, (record { x = 0; y = 0; w = 1; h = 1; mv = record { x = pos 0; y = pos 0 } }, (out, tt)))

module _ (κs : Lfts 2) (pic : Bor (List ℕ)) (out : MutBor (List ℕ)) (a : pic.now ≡ 77 ∷ []) (b : out.now ≡ 0 ∷ []) (s : Passed) where
  pub must_serve : (e : Refusal) → mc-luma.Post κs (one pic out) (Err e) s → ⊥
  unfolding plain_block_refusal lowest
  must_serve r c =
      let e : number_of r ≡ 0 = c.0 ∙ ap (λ (l : List ℕ). plain_block_refusal 16 (length l) 1 1 0 0 1 1 (length out.now)) a ∙ ap (λ (l : List ℕ). plain_block_refusal 16 1 1 1 0 0 1 1 (length l)) b in
      above_zero r e

  pub must_write : mc-luma.Post κs (one pic out) (Ok tt) s → s.1.1.0.now ≡ 77 ∷ []
  unfolding drawn block tab by_rows predicted_luma luma_sample phases anchor mean window sample_at sample luma_place
  must_write c =
      c.1 ∙ ap (λ (l : List ℕ). drawn l 1 1 (predicted_luma pic.now 1 1 0 0 (pos 0) (pos 0))) b
      ∙ ap (λ (l : List ℕ). drawn (0 ∷ []) 1 1 (predicted_luma l 1 1 0 0 (pos 0) (pos 0))) a

-- ---- one that fills in a missing sample: where a call answers 0, each plane that it reads from has every sample

pub mc_luma_has_all : (κs : Lfts 2) (x s : Passed) → mc-luma.Post κs x (Ok tt) s → let p = x.0 in p.w * p.h ≤ length p.samples.now
mc_luma_has_all κs x s c = (plain_block_ok 16 _ _ _ _ _ _ _ _ c.0).0.src

pub mc_chroma_has_all : (κs : Lfts 2) (x s : Passed) → mc-chroma.Post κs x (Ok tt) s → let p = x.0 in p.w * p.h ≤ length p.samples.now
mc_chroma_has_all κs x s c = (plain_block_ok 8 _ _ _ _ _ _ _ _ c.0).0.src

pub mc_luma_padded_has_all : (κs : Lfts 2) (x s : Drawn) → mc-luma-padded.Post κs x (Ok tt) s → let g = x.1.0 in g.stride * (g.ph + 2 * g.pad) ≤ length x.0.now
mc_luma_padded_has_all κs x s c = (padded_block_ok 16 _ _ _ _ _ _ _ _ _ _ c.0).0.src

pub mc_chroma_padded_has_all : (κs : Lfts 2) (x s : Drawn) → mc-chroma-padded.Post κs x (Ok tt) s → let g = x.1.0 in g.stride * (g.ph + 2 * g.pad) ≤ length x.0.now
mc_chroma_padded_has_all κs x s c = (padded_block_ok 8 _ _ _ _ _ _ _ _ _ _ c.0).0.src

pub mc_chroma_padded_pair_has_all : (κs : Lfts 4) (x s : Two) → mc-chroma-padded-pair.Post κs x (Ok tt) s
    → let g = x.1.1.0 in g.stride * (g.ph + 2 * g.pad) ≤ min (length x.0.now) (length x.1.0.now)
mc_chroma_padded_pair_has_all κs x s c = (padded_block_ok 8 _ _ _ _ _ _ _ _ _ _ c.0).0.src
