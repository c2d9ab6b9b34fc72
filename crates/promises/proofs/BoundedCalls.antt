-- The error bound of every byte that a luma route writes: after the answer 0 each byte of the block is bounded, by the window as the route's rule reads it. Assumes nothing.
use mathlib.Core.Path.{◌≡◌, sym, ap, subst, ◌∙◌}
use mathlib.Core.List.{List}
use Prim.Native.Nat.{ℕ, ◌+◌, ◌*◌}
use lib.IntN.{ℤ, pos, ◌+ℤ◌, ◌-ℤ◌}
use lib.ListN.{get_or}
use denote.Ref.{Bor, MutBor}
use contract.Lifetimes.{Lfts}
use Rattle.grid.specs.Block.{drawn}
use Rattle.grid.proofs.Fill.{drawn_at}
use Rattle.place.specs.Place.{luma_place, phase}
use Rattle.place.specs.Picture.{window}
use Rattle.samples.specs.Phase.{Window, luma_sample}
use Rattle.std.specs.Prelude.{Ok}
use Rattle.terms.specs.declared.plane.Geometry.{Geometry}
use Rattle.terms.specs.declared.block.Block as asked
use Rattle.luma.specs.Luma.{predicted_luma}
use Rattle.luma.proofs.mc_luma.Reads as plain
use Rattle.window.specs.Padded.{luma_direct, read_at, padded_luma}
use Rattle.padded.proofs.mc_luma_padded.Reads as padded
use Rattle.padded.proofs.mc_luma_padded_slices.Reads as slices
use Rattle.padded.proofs.Only.{Drawn, Lent, out}
use Rattle.lent.specs.Lent.{Predicted}
use Rattle.promises.specs.Bound.{Within, NearMean, Bounded}
use Rattle.promises.proofs.Bounds.{within, near_mean}

-- OF ANY ROUTE: a block that was drawn by the rule is bounded
pub drawn_bounded : (top fx fy bw bh : ℕ) (W : ℕ → ℕ → Window) (old l : List ℕ) → l ≡ drawn old bw bh (λ c r. luma_sample top fx fy (W c r))
    → Bounded top fx fy bw bh W l
unfolding Bounded
drawn_bounded top fx fy bw bh W old l e = λ c r a b.
    subst (λ (P : ℕ). Within top fx fy (W c r) P × NearMean top fx fy (W c r) P)
    (sym (ap (λ (t : List ℕ). get_or t (r * bw + c) 0) e ∙ drawn_at old bw bh _ c r a b)) (within top fx fy (W c r), near_mean top fx fy (W c r))

module _ (x0 y0 bw bh : ℕ) (mvx mvy : ℤ) where
  abbrev asked_for : asked.Block
  asked_for = record { x = x0; y = y0; w = bw; h = bh; mv = record { x = mvx; y = mvy } }

  -- of a block of this place and vector
  abbrev pub BoundedBlock : (ℕ → ℕ → Window) → List ℕ → Type 0
  BoundedBlock = Bounded 255 (phase mvx 4) (phase mvy 4) bw bh

  abbrev pub plain_window : (pic : List ℕ) (w h c r : ℕ) → Window
  plain_window pic w h c r = window pic w h (luma_place x0 mvx c) (luma_place y0 mvy r)

  abbrev pub padded_window : (buf : List ℕ) (stride pad w h c r : ℕ) → Window
  padded_window buf stride pad w h c r i j =
      read_at (luma_direct w h pad x0 y0 bw bh mvx mvy) buf stride pad w h (luma_place x0 mvx c +ℤ pos i -ℤ pos 2) (luma_place y0 mvy r +ℤ pos j -ℤ pos 2)

  pub mc_luma_bounded : (κs : Lfts 2) (pic : Bor (List ℕ)) (o : MutBor (List ℕ)) (w h : ℕ) (s : _) → plain.Post κs (record { samples = pic; w = w; h = h }, (asked_for, (o, tt))) (Ok tt) s
      → BoundedBlock (plain_window pic.now w h) s.1.1.0.now
  unfolding predicted_luma
  mc_luma_bounded κs pic o w h s a = drawn_bounded 255 _ _ bw bh _ o.now _ a.1

  -- by a plane with margins: with its own scratch, with lent slices, and with a lent record
  module _ (g : Geometry) (buf : Bor (List ℕ)) (o : MutBor (List ℕ)) where
    abbrev block : Drawn
    block = (buf, (g, (asked_for, (o, tt))))

    abbrev reads : ℕ → ℕ → Window
    reads = padded_window buf.now g.stride g.pad g.pw g.ph

    pub mc_luma_padded_bounded : (κs : Lfts 2) (s : Drawn) → padded.Post κs block (Ok tt) s → BoundedBlock reads (out s)
    unfolding padded_luma
    mc_luma_padded_bounded κs s a = drawn_bounded 255 _ _ bw bh _ o.now _ a.1

    pub mc_luma_padded_slices_bounded : (κs : Lfts 5) (tile ga gb : MutBor (List ℕ)) (s : Lent) → slices.Post κs (tile, (ga, (gb, block))) (Ok tt) s
        → BoundedBlock reads (out s.1.1.1)
    unfolding padded_luma
    mc_luma_padded_slices_bounded κs tile ga gb s a = drawn_bounded 255 _ _ bw bh _ o.now _ a.1

  pub mc_luma_padded_pre_bounded : (t a b buf : List ℕ) (stride pad w h : ℕ) (o t' a' b' o' : List ℕ)
      → Predicted t a b buf stride pad w h x0 y0 bw bh mvx mvy o t' a' b' o' 0 → BoundedBlock (padded_window buf stride pad w h) o'
  unfolding padded_luma
  mc_luma_padded_pre_bounded t a b buf stride pad w h o t' a' b' o' p = drawn_bounded 255 _ _ bw bh _ o _ p.block
