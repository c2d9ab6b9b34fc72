-- Reach: what `mc_luma` gives depends on the picture's clamped window alone, and its refusal on lengths and numbers only. Assumes nothing.
use mathlib.Core.Path.{◌≡◌, sym, ap, ◌∙◌}
use mathlib.Core.List.{List}
use Prim.Native.Nat.{ℕ, ◌+◌, ◌<◌}
use native.Mathlib.Omega.{arith}
use lib.IntN.{ℤ, pos, ◌+ℤ◌, ◌-ℤ◌}
use lib.ListN.{length}
use denote.Ref.{Bor, MutBor}
use contract.Lifetimes.{Lfts}
use Rattle.std.specs.Prelude.{Result}
use Rattle.terms.specs.declared.block.Block.{Block}
use Rattle.terms.specs.declared.plane.Plane.{Plane}
use Rattle.terms.specs.declared.refusal.Refusal.{Refusal}
use Rattle.terms.specs.Refusal.{answered}
use Rattle.terms.proofs.Number.{one_answer}
use Rattle.place.specs.Place.{floor_z, luma_place, phase}
use Rattle.place.specs.Picture.{sample_at, window}
use Rattle.place.specs.Refusal.{plain_block_refusal}
use Rattle.place.proofs.Reach.{part_agrees, written}
use Rattle.samples.proofs.Reach.{luma_six}
use Rattle.luma.specs.Luma.{predicted_luma}
use Rattle.luma.proofs.mc_luma.Reads as reads

-- two pictures of w by h agree on the clamped bw + 5 by bh + 5 window of a block
abbrev pub Agree : (pic pic' : List ℕ) (w h x0 y0 bw bh : ℕ) (mvx mvy : ℤ) → Type 0
Agree pic pic' w h x0 y0 bw bh mvx mvy =
    (i j : ℕ) → i < bw + 5 → j < bh + 5
    → window pic w h (luma_place x0 mvx 0) (luma_place y0 mvy 0) i j ≡ window pic' w h (luma_place x0 mvx 0) (luma_place y0 mvy 0) i j

pub luma_reach : (pic pic' : List ℕ) (w h x0 y0 bw bh : ℕ) (mvx mvy : ℤ) → Agree pic pic' w h x0 y0 bw bh mvx mvy
    → (c r : ℕ) → c < bw → r < bh → predicted_luma pic w h x0 y0 mvx mvy c r ≡ predicted_luma pic' w h x0 y0 mvx mvy c r
unfolding predicted_luma window luma_place
luma_reach pic pic' w h x0 y0 bw bh mvx mvy e c r a b =
    luma_six 255 _ _ (λ i j k l.
    part_agrees (λ x y. sample_at pic w h (x -ℤ pos 2) (y -ℤ pos 2)) (λ x y. sample_at pic' w h (x -ℤ pos 2) (y -ℤ pos 2)) (pos x0 +ℤ floor_z mvx 4) (pos y0 +ℤ floor_z mvy 4) (bw + 5) (bh + 5) e c r i j (omega arith) (omega arith)) (phase mvx 4) (phase mvy 4)

-- OF THE CALL: the same arguments but for the picture, of one length: one answer, and the same bytes where the windows agree
abbrev Drawn : Type 0
Drawn = Plane × (Block × (MutBor (List ℕ) × Unit {0}))

module _ (κs : Lfts 2) (pic pic' : Bor (List ℕ)) (w h : ℕ) (block : Block) (out : MutBor (List ℕ)) (same : length pic.now ≡ length pic'.now) where
  abbrev passed : Bor (List ℕ) → Drawn
  passed samples = (record { samples = samples; w = w; h = h }, (block, (out, tt)))

  pub mc_luma_refusal : (p q : Result (Unit {0}) Refusal) (s t : Drawn) → reads.Post κs (passed pic) p s → reads.Post κs (passed pic') q t → p ≡ q
  mc_luma_refusal p q s t a b =
      one_answer p q (a.0 ∙ ap (λ (n : ℕ). plain_block_refusal 16 n w h block.x block.y block.w block.h (length out.now)) same ∙ sym b.0)

  pub mc_luma_reach : Agree pic.now pic'.now w h block.x block.y block.w block.h block.mv.x block.mv.y
      → (p q : Result (Unit {0}) Refusal) (s t : Drawn) → reads.Post κs (passed pic) p s → reads.Post κs (passed pic') q t
      → s.1.1.0.now ≡ t.1.1.0.now
  mc_luma_reach e p q s t a b =
      written out.now block.w block.h _ _ (ap answered (mc_luma_refusal p q s t a b))
      (luma_reach pic.now pic'.now w h block.x block.y block.w block.h block.mv.x block.mv.y e) a.1 b.1
