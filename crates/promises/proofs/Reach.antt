-- Reach with demand 3's premise: two pictures of one size that agree on a block's clamped window give equal blocks, by whatever routes, and equal views. Assumes nothing.
use mathlib.Core.Path.{◌≡◌, sym, ◌∙◌}
use mathlib.Core.List.{List}
use Prim.Native.Nat.{ℕ, ◌*◌, ◌<◌}
use lib.IntN.{ℤ}
use lib.ListN.{take}
use denote.Ref.{Bor}
use Rattle.grid.proofs.Fill.{block_ext}
use Rattle.luma.proofs.Reach.{Agree, luma_reach}
use Rattle.promises.proofs.Agree.{Answered, standard}
use Rattle.promises.proofs.Views.{Viewed, views_standard}

module _ (pic pic' : Bor (List ℕ)) (w ht x0 y0 bw bh : ℕ) (mvx mvy : ℤ) (e : Agree pic.now pic'.now w ht x0 y0 bw bh mvx mvy) where
  pub routes_reach : (l m : List ℕ) → Answered pic w ht x0 y0 bw bh mvx mvy l → Answered pic' w ht x0 y0 bw bh mvx mvy m → take (bw * bh) l ≡ take (bw * bh) m
  routes_reach l m a b =
      standard pic w ht x0 y0 bw bh mvx mvy l a
      ∙ block_ext bw bh _ _ (luma_reach pic.now pic'.now w ht x0 y0 bw bh mvx mvy e)
      ∙ sym (standard pic' w ht x0 y0 bw bh mvx mvy m b)

  pub views_reach : (g k : ℕ → ℕ → ℕ) → Viewed pic w ht x0 y0 bw bh mvx mvy g → Viewed pic' w ht x0 y0 bw bh mvx mvy k → (x y : ℕ) → x < bw → y < bh → g x y ≡ k x y
  views_reach g k a b x y i j =
      views_standard pic w ht x0 y0 bw bh mvx mvy g a x y i j
      ∙ luma_reach pic.now pic'.now w ht x0 y0 bw bh mvx mvy e x y i j
      ∙ sym (views_standard pic' w ht x0 y0 bw bh mvx mvy k b x y i j)
