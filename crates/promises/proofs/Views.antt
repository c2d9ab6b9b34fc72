-- The hpel views with demand 3's premise: read with the stride they give the bytes that the luma routes write, bounded alike. Assumes nothing.
use mathlib.Core.Path.{◌≡◌, sym, ap, subst, ◌∙◌}
use mathlib.Core.List.{List, []}
use Prim.Native.Nat.{ℕ, ◌<◌}
use lib.IntN.{ℤ}
use lib.ListN.{get_or}
use denote.Ref.{Bor}
use contract.Lifetimes.{Lfts}
use Rattle.grid.specs.Block.{sample}
use Rattle.grid.proofs.Fill.{drawn_sample}
use Rattle.place.specs.Place.{phase}
use Rattle.samples.specs.Tap.{mean}
use Rattle.luma.specs.Luma.{predicted_luma}
use Rattle.std.specs.Prelude.{Ok}
use Rattle.hpel.specs.declared.Spot.{Spot}
use Rattle.hpel.specs.declared.Pair.{Pair}
use Rattle.hpel.specs.Reading.{contents}
use Rattle.hpel.proofs.Only.{Read}
use Rattle.hpel.proofs.hpel_ref_at.Reads as ref-at
use Rattle.hpel.proofs.hpel_ref.Reads as ref
use Rattle.hpel.proofs.hpel_qpel_refs_at.Reads as qpel-at
use Rattle.hpel.proofs.hpel_qpel_refs.Reads as qpel
use Rattle.promises.specs.Bound.{Within, NearMean}
use Rattle.promises.specs.Made.{Derived}
use Rattle.promises.proofs.Bounds.{within, near_mean}
use Rattle.promises.proofs.BoundedCalls.{plain_window}
use Rattle.promises.proofs.Routes.{asked_for, hpel_ref_reads, hpel_qpel_refs_reads}
use Rattle.promises.proofs.Agree.{Answered, drew}

module _ (pic : Bor (List ℕ)) (w ht x0 y0 bw bh : ℕ) (mvx mvy : ℤ) where
  abbrev lent : (pad : ℕ) (f h v c : Bor (List ℕ)) → Read
  lent pad f h v c = (f, (h, (v, (c, (w, (ht, (pad, (asked_for x0 y0 bw bh mvx mvy, tt))))))))

  -- A VIEW, on planes derived from the picture, of a block whose lookup found them, gives these samples by column and row:
  -- the tail, read with the lookup's stride, and the mean of two tails
  pub data Viewed : (ℕ → ℕ → ℕ) → Type 0 where
    by_tail : (pad : ℕ) (f h v c : Bor (List ℕ)) → Derived pic.now w ht pad f.now h.now v.now c.now
        → (κs : Lfts 1) (λs : Lfts 1) (k : Spot) (t : Bor (List ℕ)) (s s' : Read) → ref-at.Post κs (lent pad f h v c) (Ok k) s
        → ref.Post λs (lent pad f h v c) t s' → Viewed (sample t.now k.stride)
    by_tails : (pad : ℕ) (f h v c : Bor (List ℕ)) → Derived pic.now w ht pad f.now h.now v.now c.now
        → (κs : Lfts 1) (λs : Lfts 1) (k : Pair) (t : List (Bor (List ℕ))) (s s' : Read) → qpel-at.Post κs (lent pad f h v c) (Ok k) s
        → qpel.Post λs (lent pad f h v c) t s'
        → Viewed (λ x y. mean (sample (get_or (contents t) 0 []) k.stride x y) (sample (get_or (contents t) 1 []) k.stride x y))

  -- THE STANDARD'S
  pub views_standard : (g : ℕ → ℕ → ℕ) → Viewed g → (x y : ℕ) → x < bw → y < bh → g x y ≡ predicted_luma pic.now w ht x0 y0 mvx mvy x y
  views_standard g (by_tail pad f h v c d κs λs k t s s' a b) = hpel_ref_reads x0 y0 bw bh mvx mvy pic.now f h v c w ht pad d κs λs k t s s' a b
  views_standard g (by_tails pad f h v c d κs λs k t s s' a b) = hpel_qpel_refs_reads x0 y0 bw bh mvx mvy pic.now f h v c w ht pad d κs λs k t s s' a b

  -- THE SAME BYTES as each route that answers for the block
  pub views_agree : (g : ℕ → ℕ → ℕ) (l : List ℕ) → Viewed g → Answered pic w ht x0 y0 bw bh mvx mvy l → (x y : ℕ) → x < bw → y < bh → g x y ≡ sample l bw x y
  views_agree g l a b x y i j =
      let d = drew pic w ht x0 y0 bw bh mvx mvy l b in
      views_standard g a x y i j ∙ sym (ap (λ (t : List ℕ). sample t bw x y) d.1 ∙ drawn_sample d.0 bw bh _ x y i j)

  -- THE BOUND
  pub views_bounded : (g : ℕ → ℕ → ℕ) → Viewed g → (x y : ℕ) → x < bw → y < bh
      → let W = plain_window x0 y0 bw bh mvx mvy pic.now w ht x y in Within 255 (phase mvx 4) (phase mvy 4) W (g x y) × NearMean 255 (phase mvx 4) (phase mvy 4) W (g x y)
  unfolding predicted_luma
  views_bounded g a x y i j =
      let W = plain_window x0 y0 bw bh mvx mvy pic.now w ht x y in
      subst (λ (P : ℕ). Within 255 (phase mvx 4) (phase mvy 4) W P × NearMean 255 (phase mvx 4) (phase mvy 4) W P) (sym (views_standard g a x y i j))
      (within 255 _ _ W, near_mean 255 _ _ W)
