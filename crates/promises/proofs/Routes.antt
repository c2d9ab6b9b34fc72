-- Demand 3's premise gives the standard's block: after the answer 0 each luma route's output is the old one with the block of the plain rule drawn into it. Assumes nothing.
use mathlib.Core.Path.{◌≡◌, sym, ap, ap₂, ◌∙◌}
use mathlib.Core.List.{List, [], ◌++◌}
use Prim.Native.Nat.{ℕ, ◌+◌, ◌*◌, ◌≤◌, ◌<◌}
use lib.IntN.{ℤ, pos, ◌+ℤ◌, ◌-ℤ◌}
use lib.ListN.{length, get_or}
use denote.Ref.{Bor, MutBor}
use contract.Lifetimes.{Lfts}
use Rattle.grid.specs.Block.{sample, drawn}
use Rattle.grid.proofs.Fill.{drawn_ext}
use Rattle.place.specs.Place.{clamp_z, luma_place, phase}
use Rattle.place.specs.Picture.{sample_at, window}
use Rattle.place.specs.Refusal.{padded_tests, block_tests, padded_block_refusal}
use Rattle.place.proofs.Refused.{PaddedOk, padded_block_ok, split_zero}
use Rattle.samples.specs.Tap.{mean}
use Rattle.samples.proofs.Reach.{luma_six}
use Rattle.std.specs.Prelude.{Ok}
use Rattle.terms.specs.declared.plane.Geometry.{Geometry}
use Rattle.terms.specs.declared.block.Block as asked
use Rattle.luma.specs.Luma.{predicted_luma}
use Rattle.luma.proofs.mc_luma.Reads as plain
use Rattle.window.specs.Padded.{padded_luma, slices_refusal}
use Rattle.window.proofs.Standard.{luma_standard}
use Rattle.padded.proofs.mc_luma_padded.Reads as padded
use Rattle.padded.proofs.mc_luma_padded_slices.Reads as slices
use Rattle.padded.proofs.Only.{Drawn, Lent, out}
use Rattle.lent.specs.Lent.{Predicted}
use Rattle.planes.proofs.Laws.{clamped}
use Rattle.hpel.specs.declared.HpelAt.{HpelAt}
use Rattle.hpel.specs.declared.HpelPair.{HpelPair}
use Rattle.hpel.specs.declared.Spot.{Spot}
use Rattle.hpel.specs.declared.Pair.{Pair}
use Rattle.hpel.specs.Reading.{contents, hpel_sample}
use Rattle.hpel.proofs.Standard.{Serves, ref_served, qpel_served, block_served, hpel_standard}
use Rattle.hpel.proofs.Views.{ref_done, qpel_done, ref_view, qpel_view}
use Rattle.hpel.proofs.Only.{Passed, Read, Written}
use Rattle.hpel.proofs.Only as calls
use Rattle.hpel.proofs.hpel_block.Reads as hpel
use Rattle.hpel.proofs.hpel_ref_at.Reads as ref-at
use Rattle.hpel.proofs.hpel_ref.Reads as ref
use Rattle.hpel.proofs.hpel_qpel_refs_at.Reads as qpel-at
use Rattle.hpel.proofs.hpel_qpel_refs.Reads as qpel
use Rattle.promises.specs.Made.{Holds, Margins, Derived}

module _ (x0 y0 bw bh : ℕ) (mvx mvy : ℤ) where
  -- the block that is asked for
  abbrev pub asked_for : asked.Block
  asked_for = record { x = x0; y = y0; w = bw; h = bh; mv = record { x = mvx; y = mvy } }

  -- the block of the plain rule, drawn into a buffer
  abbrev pub Draws : (pic : List ℕ) (w ht : ℕ) (old new : List ℕ) → Type 0
  Draws pic w ht old new = new ≡ drawn old bw bh (predicted_luma pic w ht x0 y0 mvx mvy)

  pub mc_luma_draws : (κs : Lfts 2) (pic : Bor (List ℕ)) (o : MutBor (List ℕ)) (w ht : ℕ) (s : _) → plain.Post κs (record { samples = pic; w = w; h = ht }, (asked_for, (o, tt))) (Ok tt) s
      → Draws pic.now w ht o.now s.1.1.0.now
  mc_luma_draws κs pic o w ht s a = a.1

  -- a plane with margins
  module _ (pic : List ℕ) (w ht pad stride : ℕ) where
    margin_sample : (buf : List ℕ) → Margins pic w ht pad stride buf → w + 2 * pad ≤ stride → 1 ≤ w → 1 ≤ ht → (c r : ℕ) → c < bw → r < bh
        → padded_luma buf stride pad w ht x0 y0 bw bh mvx mvy c r ≡ predicted_luma pic w ht x0 y0 mvx mvy c r
    unfolding predicted_luma window sample_at Holds
    margin_sample buf m wide w1 h1 c r a b =
        ap (λ (l : List ℕ). padded_luma l stride pad w ht x0 y0 bw bh mvx mvy c r) m.filled
        ∙ luma_standard m.was stride pad w ht bw bh wide w1 h1 x0 y0 mvx mvy c r a b
        ∙ luma_six 255 _ _ (λ i j _ _.
        let u = luma_place x0 mvx c +ℤ pos i -ℤ pos 2 in
        let v = luma_place y0 mvy r +ℤ pos j -ℤ pos 2 in
        m.held (clamp_z u w) (clamp_z v ht) (clamped u w w1) (clamped v ht h1)) (phase mvx 4) (phase mvy 4)

    margin_draws : (buf old new : List ℕ) (n : ℕ) → Margins pic w ht pad stride buf → PaddedOk n w ht pad stride
        → new ≡ drawn old bw bh (padded_luma buf stride pad w ht x0 y0 bw bh mvx mvy) → Draws pic w ht old new
    margin_draws buf old new n m ok e = e ∙ drawn_ext old bw bh _ _ (margin_sample buf m ok.stride1 ok.w1 ok.h1)

  -- with its own scratch, with lent slices, and with a lent record
  module _ (pic : List ℕ) (g : Geometry) (buf : Bor (List ℕ)) (o : MutBor (List ℕ)) (m : Margins pic g.pw g.ph g.pad g.stride buf.now) where
    abbrev block : Drawn
    block = (buf, (g, (asked_for, (o, tt))))

    pub mc_luma_padded_draws : (κs : Lfts 2) (s : Drawn) → padded.Post κs block (Ok tt) s → Draws pic g.pw g.ph o.now (out s)
    mc_luma_padded_draws κs s a = margin_draws pic _ _ _ _ buf.now _ _ _ m (padded_block_ok 16 _ _ _ _ _ _ _ _ _ _ a.0).0 a.1

    pub mc_luma_padded_slices_draws : (κs : Lfts 5) (tile ga gb : MutBor (List ℕ)) (s : Lent) → slices.Post κs (tile, (ga, (gb, block))) (Ok tt) s
        → Draws pic g.pw g.ph o.now (out s.1.1.1)
    unfolding slices_refusal padded_block_refusal
    mc_luma_padded_slices_draws κs tile ga gb s a =
        let e = split_zero (padded_tests (length buf.now) g.pw g.ph g.pad g.stride ++ block_tests 16 x0 y0 bw bh (length o.now)) _ tt a.0 in
        margin_draws pic _ _ _ _ buf.now _ _ _ m (padded_block_ok 16 _ _ _ _ _ x0 y0 bw bh (length o.now) e.0).0 a.1

  pub mc_luma_padded_pre_draws : (pic t a b buf : List ℕ) (stride pad w ht : ℕ) (o t' a' b' o' : List ℕ) → Margins pic w ht pad stride buf
      → Predicted t a b buf stride pad w ht x0 y0 bw bh mvx mvy o t' a' b' o' 0 → Draws pic w ht o o'
  mc_luma_padded_pre_draws pic t a b buf stride pad w ht o t' a' b' o' m p =
      margin_draws pic w ht pad stride buf o o' _ m (padded_block_ok 16 _ _ _ _ _ _ _ _ _ _ p.answer).0 p.block

  -- half-sample planes
  module _ (pic : List ℕ) (f h v c : Bor (List ℕ)) (w ht pad : ℕ) (d : Derived pic w ht pad f.now h.now v.now c.now) where
    abbrev lent : {Out : Type 0} → Out → Passed Out
    lent o = (f, (h, (v, (c, (w, (ht, (pad, (asked_for, o))))))))

    derived_sample : Serves w ht pad x0 y0 bw bh mvx mvy → (x y : ℕ) → x < bw → y < bh
        → hpel_sample f.now h.now v.now c.now w pad x0 y0 mvx mvy x y ≡ predicted_luma pic w ht x0 y0 mvx mvy x y
    unfolding predicted_luma
    derived_sample =
        hpel_standard pic w ht pad f.now h.now v.now c.now d.f_was d.h_was d.v_was d.c_was d.full d.across d.down d.centre x0 y0 bw bh mvx mvy

    pub hpel_block_draws : (κs : Lfts 2) (o : MutBor (List ℕ)) (s : Written) → hpel.Post κs (lent (o, tt)) (Ok tt) s → Draws pic w ht o.now (calls.out s)
    hpel_block_draws κs o s a = a.1 ∙ drawn_ext o.now bw bh _ _ (derived_sample (block_served _ _ _ _ w ht pad x0 y0 bw bh mvx mvy _ a.0))

    -- the views, read with the stride of the lookup that did not refuse
    pub hpel_ref_reads : (κs : Lfts 1) (λs : Lfts 1) (k : Spot) (t : Bor (List ℕ)) (s s' : Read) → ref-at.Post κs (lent tt) (Ok k) s
        → ref.Post λs (lent tt) t s' → (x y : ℕ) → x < bw → y < bh → sample t.now k.stride x y ≡ predicted_luma pic w ht x0 y0 mvx mvy x y
    hpel_ref_reads κs λs k t s s' a b x y i j =
        let o = sym (ap (λ (u : HpelAt). u.refusal) a) in
        let n = ref_done _ _ _ _ w ht pad x0 y0 bw bh mvx mvy o in
        ap₂ (λ (l : List ℕ) (m : ℕ). sample l m x y) b (ap (λ (u : HpelAt). u.stride) a ∙ n.1)
        ∙ ref_view f.now h.now v.now c.now w ht pad x0 y0 bw bh mvx mvy x y o
        ∙ derived_sample (ref_served _ _ _ _ w ht pad x0 y0 bw bh mvx mvy n.0) x y i j

    pub hpel_qpel_refs_reads : (κs : Lfts 1) (λs : Lfts 1) (k : Pair) (t : List (Bor (List ℕ))) (s s' : Read) → qpel-at.Post κs (lent tt) (Ok k) s
        → qpel.Post λs (lent tt) t s' → (x y : ℕ) → x < bw → y < bh
        → mean (sample (get_or (contents t) 0 []) k.stride x y) (sample (get_or (contents t) 1 []) k.stride x y) ≡ predicted_luma pic w ht x0 y0 mvx mvy x y
    hpel_qpel_refs_reads κs λs k t s s' a b x y i j =
        let o = sym (ap (λ (u : HpelPair). u.refusal) a) in
        let n = qpel_done _ _ _ _ w ht pad x0 y0 bw bh mvx mvy o in
        ap₂ (λ (l : List (List ℕ)) (m : ℕ). mean (sample (get_or l 0 []) m x y) (sample (get_or l 1 []) m x y)) b (ap (λ (u : HpelPair). u.stride) a ∙ n.1)
        ∙ qpel_view f.now h.now v.now c.now w ht pad x0 y0 bw bh mvx mvy x y o
        ∙ derived_sample (qpel_served _ _ _ _ w ht pad x0 y0 bw bh mvx mvy n.0) x y i j
