-- Reach: what the padded routes give depends on the block's window, read by the rule, alone, and their refusals on lengths and numbers only. Assumes nothing.
use mathlib.Core.Path.{◌≡◌, ap}
use mathlib.Core.List.{List}
use Prim.Native.Nat.{ℕ, ◌+◌, ◌<◌}
use native.Mathlib.Omega.{arith}
use lib.IntN.{ℤ, pos, ◌+ℤ◌, ◌-ℤ◌}
use lib.ListN.{length}
use denote.Ref.{Bor, MutBor}
use contract.Lifetimes.{Lfts}
use Rattle.terms.specs.declared.block.Block.{Block}
use Rattle.terms.specs.declared.plane.Geometry.{Geometry}
use Rattle.terms.specs.Refusal.{answered}
use Rattle.terms.proofs.Number.{one_answer}
use Rattle.place.specs.Place.{floor_z, luma_place, chroma_place, phase}
use Rattle.place.proofs.Reach.{part_agrees, written}
use Rattle.samples.proofs.Reach.{luma_six, chroma_four}
use Rattle.window.specs.Padded.{luma_direct, chroma_direct, read_at, padded_luma, padded_chroma}
use Rattle.padded.proofs.mc_luma_padded.Reads as luma
use Rattle.padded.proofs.mc_luma_padded_slices.Reads as slices
use Rattle.padded.proofs.mc_chroma_padded.Reads as chroma
use Rattle.padded.proofs.mc_chroma_padded_pair.Reads as pair
use Rattle.padded.proofs.Only.{Placed, Drawn, Lent, Two, Answer, out, outu, outv}

module _ (g : Geometry) (x0 y0 bw bh : ℕ) (mvx mvy : ℤ) where
  -- the sample of the block's window in column i and row j, read by the rule
  abbrev pub luma_read : (buf : List ℕ) (i j : ℕ) → ℕ
  luma_read buf i j =
      read_at (luma_direct g.pw g.ph g.pad x0 y0 bw bh mvx mvy) buf g.stride g.pad g.pw g.ph
      (luma_place x0 mvx 0 +ℤ pos i -ℤ pos 2) (luma_place y0 mvy 0 +ℤ pos j -ℤ pos 2)

  abbrev pub chroma_read : (buf : List ℕ) (i j : ℕ) → ℕ
  chroma_read buf i j =
      read_at (chroma_direct g.pw g.ph g.pad x0 y0 bw bh mvx mvy) buf g.stride g.pad g.pw g.ph (chroma_place x0 mvx 0 +ℤ pos i) (chroma_place y0 mvy 0 +ℤ pos j)

  abbrev luma_at : (buf : List ℕ) (c r : ℕ) → ℕ
  luma_at buf = padded_luma buf g.stride g.pad g.pw g.ph x0 y0 bw bh mvx mvy

  abbrev chroma_at : (buf : List ℕ) (c r : ℕ) → ℕ
  chroma_at buf = padded_chroma buf g.stride g.pad g.pw g.ph x0 y0 bw bh mvx mvy

  -- two buffers agree on the block's window
  abbrev pub LumaAgree : (buf buf' : List ℕ) → Type 0
  LumaAgree buf buf' = (i j : ℕ) → i < bw + 5 → j < bh + 5 → luma_read buf i j ≡ luma_read buf' i j

  abbrev pub ChromaAgree : (buf buf' : List ℕ) → Type 0
  ChromaAgree buf buf' = (i j : ℕ) → i < bw + 1 → j < bh + 1 → chroma_read buf i j ≡ chroma_read buf' i j

  luma_reach : (buf buf' : List ℕ) → LumaAgree buf buf' → (c r : ℕ) → c < bw → r < bh → luma_at buf c r ≡ luma_at buf' c r
  unfolding padded_luma luma_place
  luma_reach buf buf' e c r a b =
      let read : List ℕ → ℤ → ℤ → ℕ = λ t x y. read_at (luma_direct g.pw g.ph g.pad x0 y0 bw bh mvx mvy) t g.stride g.pad g.pw g.ph (x -ℤ pos 2) (y -ℤ pos 2) in
      luma_six 255 _ _ (λ i j k l. part_agrees (read buf) (read buf') (pos x0 +ℤ floor_z mvx 4) (pos y0 +ℤ floor_z mvy 4) (bw + 5) (bh + 5) e c r i j (omega arith) (omega arith)) (phase mvx 4) (phase mvy 4)

  chroma_reach : (buf buf' : List ℕ) → ChromaAgree buf buf' → (c r : ℕ) → c < bw → r < bh → chroma_at buf c r ≡ chroma_at buf' c r
  unfolding padded_chroma chroma_place
  chroma_reach buf buf' e c r a b =
      let read : List ℕ → ℤ → ℤ → ℕ = λ t. read_at (chroma_direct g.pw g.ph g.pad x0 y0 bw bh mvx mvy) t g.stride g.pad g.pw g.ph in
      chroma_four (phase mvx 8) (phase mvy 8) _ _ (λ i j k l. part_agrees (read buf) (read buf') (pos x0 +ℤ floor_z mvx 8) (pos y0 +ℤ floor_z mvy 8) (bw + 1) (bh + 1) e c r i j (omega arith) (omega arith))

-- OF THE CALLS: the same arguments but for the planes, of one length each: one answer, and the same bytes where the windows agree
module _ (g : Geometry) (b : Block) (buf buf' : Bor (List ℕ)) (o : MutBor (List ℕ)) (same : length buf.now ≡ length buf'.now) where
  abbrev with : {Out : Type 0} → Out → Placed Out
  with w = (g, (b, w))

  abbrev passed : Bor (List ℕ) → Drawn
  passed t = (t, with (o, tt))

  pub mc_luma_padded_reach : (κs : Lfts 2) (p q : Answer) (s t : Drawn) → luma.Post κs (passed buf) p s → luma.Post κs (passed buf') q t
      → (p ≡ q) × (LumaAgree g b.x b.y b.w b.h b.mv.x b.mv.y buf.now buf'.now → out s ≡ out t)
  mc_luma_padded_reach κs p q s t c d =
      let e : p ≡ q = one_answer p q cc in (e, λ k. written o.now b.w b.h _ _ (ap answered e) (luma_reach g b.x b.y b.w b.h b.mv.x b.mv.y buf.now buf'.now k) c.1 d.1)

  pub mc_luma_padded_slices_reach : (κs : Lfts 5) (tile ga gb : MutBor (List ℕ)) (p q : Answer) (s t : Lent)
      → slices.Post κs (tile, (ga, (gb, passed buf))) p s → slices.Post κs (tile, (ga, (gb, passed buf'))) q t
      → (p ≡ q) × (LumaAgree g b.x b.y b.w b.h b.mv.x b.mv.y buf.now buf'.now → out s.1.1.1 ≡ out t.1.1.1)
  mc_luma_padded_slices_reach κs tile ga gb p q s t c d =
      let e : p ≡ q = one_answer p q cc in (e, λ k. written o.now b.w b.h _ _ (ap answered e) (luma_reach g b.x b.y b.w b.h b.mv.x b.mv.y buf.now buf'.now k) c.1 d.1)

  pub mc_chroma_padded_reach : (κs : Lfts 2) (p q : Answer) (s t : Drawn) → chroma.Post κs (passed buf) p s → chroma.Post κs (passed buf') q t
      → (p ≡ q) × (ChromaAgree g b.x b.y b.w b.h b.mv.x b.mv.y buf.now buf'.now → out s ≡ out t)
  mc_chroma_padded_reach κs p q s t c d =
      let e : p ≡ q = one_answer p q cc in (e, λ k. written o.now b.w b.h _ _ (ap answered e) (chroma_reach g b.x b.y b.w b.h b.mv.x b.mv.y buf.now buf'.now k) c.1 d.1)

  pub mc_chroma_padded_pair_reach : (κs : Lfts 4) (pv pv' : Bor (List ℕ)) (ov : MutBor (List ℕ)) → length pv.now ≡ length pv'.now → (p q : Answer) (s t : Two)
      → pair.Post κs (buf, (pv, with (o, (ov, tt)))) p s → pair.Post κs (buf', (pv', with (o, (ov, tt)))) q t
      → (p ≡ q) × (ChromaAgree g b.x b.y b.w b.h b.mv.x b.mv.y buf.now buf'.now → outu s ≡ outu t)
      × (ChromaAgree g b.x b.y b.w b.h b.mv.x b.mv.y pv.now pv'.now → outv s ≡ outv t)
  mc_chroma_padded_pair_reach κs pv pv' ov same-v p q s t c d =
      let e : p ≡ q = one_answer p q cc in (
        e,
        λ k. written o.now b.w b.h _ _ (ap answered e) (chroma_reach g b.x b.y b.w b.h b.mv.x b.mv.y buf.now buf'.now k) c.1 d.1,
        λ k. written ov.now b.w b.h _ _ (ap answered e) (chroma_reach g b.x b.y b.w b.h b.mv.x b.mv.y pv.now pv'.now k) c.2 d.2,
      )
