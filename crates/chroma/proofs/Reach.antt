-- Reach: what `mc_chroma` gives depends on the picture's clamped window alone, and its refusal on lengths and numbers only. Assumes nothing.
use mathlib.Core.Path.{◌≡◌, sym, ap, ◌∙◌}
use mathlib.Core.List.{List}
use Prim.Native.Nat.{ℕ, ◌+◌, ◌<◌}
use native.Mathlib.Omega.{arith}
use lib.IntN.{ℤ, pos, ◌+ℤ◌}
use lib.ListN.{length}
use denote.Ref.{Bor, MutBor}
use contract.Lifetimes.{Lfts}
use Rattle.std.specs.Prelude.{Result}
use Rattle.terms.specs.declared.block.Block.{Block}
use Rattle.terms.specs.declared.plane.Plane.{Plane}
use Rattle.terms.specs.declared.refusal.Refusal.{Refusal}
use Rattle.terms.specs.Refusal.{answered}
use Rattle.terms.proofs.Number.{one_answer}
use Rattle.place.specs.Place.{floor_z, chroma_place, phase}
use Rattle.place.specs.Picture.{sample_at, corner}
use Rattle.place.specs.Refusal.{plain_block_refusal}
use Rattle.place.proofs.Reach.{part_agrees, written}
use Rattle.samples.proofs.Reach.{chroma_four}
use Rattle.chroma.specs.Chroma.{predicted_chroma}
use Rattle.chroma.proofs.mc_chroma.Reads as reads

-- two pictures of w by h agree on the clamped bw + 1 by bh + 1 window of a block
abbrev pub Agree : (pic pic' : List ℕ) (w h x0 y0 bw bh : ℕ) (mvx mvy : ℤ) → Type 0
Agree pic pic' w h x0 y0 bw bh mvx mvy =
    (i j : ℕ) → i < bw + 1 → j < bh + 1
    → corner pic w h (chroma_place x0 mvx 0) (chroma_place y0 mvy 0) i j ≡ corner pic' w h (chroma_place x0 mvx 0) (chroma_place y0 mvy 0) i j

pub chroma_reach : (pic pic' : List ℕ) (w h x0 y0 bw bh : ℕ) (mvx mvy : ℤ) → Agree pic pic' w h x0 y0 bw bh mvx mvy
    → (c r : ℕ) → c < bw → r < bh → predicted_chroma pic w h x0 y0 mvx mvy c r ≡ predicted_chroma pic' w h x0 y0 mvx mvy c r
unfolding predicted_chroma corner chroma_place
chroma_reach pic pic' w h x0 y0 bw bh mvx mvy e c r a b =
    chroma_four (phase mvx 8) (phase mvy 8) _ _ (λ i j k l.
    part_agrees (λ x y. sample_at pic w h x y) (λ x y. sample_at pic' w h x y) (pos x0 +ℤ floor_z mvx 8) (pos y0 +ℤ floor_z mvy 8) (bw + 1) (bh + 1) e c r i j (omega arith) (omega arith))

-- OF THE CALL: the same arguments but for the picture, of one length: one answer, and the same bytes where the windows agree
abbrev Drawn : Type 0
Drawn = Plane × (Block × (MutBor (List ℕ) × Unit {0}))

module _ (κs : Lfts 2) (pic pic' : Bor (List ℕ)) (w h : ℕ) (block : Block) (out : MutBor (List ℕ)) (same : length pic.now ≡ length pic'.now) where
  abbrev passed : Bor (List ℕ) → Drawn
  passed samples = (record { samples = samples; w = w; h = h }, (block, (out, tt)))

  pub mc_chroma_refusal : (p q : Result (Unit {0}) Refusal) (s t : Drawn) → reads.Post κs (passed pic) p s → reads.Post κs (passed pic') q t → p ≡ q
  mc_chroma_refusal p q s t a b =
      one_answer p q (a.0 ∙ ap (λ (n : ℕ). plain_block_refusal 8 n w h block.x block.y block.w block.h (length out.now)) same ∙ sym b.0)

  pub mc_chroma_reach : Agree pic.now pic'.now w h block.x block.y block.w block.h block.mv.x block.mv.y
      → (p q : Result (Unit {0}) Refusal) (s t : Drawn) → reads.Post κs (passed pic) p s → reads.Post κs (passed pic') q t
      → s.1.1.0.now ≡ t.1.1.0.now
  mc_chroma_reach e p q s t a b =
      written out.now block.w block.h _ _ (ap answered (mc_chroma_refusal p q s t a b))
      (chroma_reach pic.now pic'.now w h block.x block.y block.w block.h block.mv.x block.mv.y e) a.1 b.1
