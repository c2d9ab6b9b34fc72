-- Half-sample planes as built give the standard's luma samples: at each place of a block that they serve, at every phase. Assumes nothing.
use mathlib.Core.Path.{◌≡◌, refl, sym, ap, ap₂, ◌∙◌}
use mathlib.Core.Bool.{Bool, true, false, ◌&&◌}
use mathlib.Core.List.{List, [], ◌∷◌}
use Prim.Native.Nat.{ℕ, zero, suc, ◌+◌, ◌*◌, ◌≤◌, ◌<◌}
use native.Mathlib.Omega.{arith}
use lib.Dec.{eqb}
use lib.IntN.{ℤ, pos, negsuc, neg_ℤ, ◌+ℤ◌, ◌-ℤ◌, +ℤ_assoc, +ℤ-neg_ℤ_cancel}
use lib.ListN.{get_or}
use lib.Signed.{mag}
use borrow.Author.Tests.{eqb-true, ltb-false}
use Rattle.grid.specs.Block.{sample, drawn}
use Rattle.grid.proofs.Fill.{drawn_sample}
use Rattle.place.specs.Place.{floor_z, luma_place, phase}
use Rattle.place.specs.Picture.{sample_at, window}
use Rattle.place.proofs.Refused.{passed, both_inside}
use Rattle.planes.specs.Planes.{wide, padded_at, across_at, down_at, centre_at, padded_plane}
use Rattle.planes.proofs.Standard.{swap, full_standard, across_standard, down_standard, centre_standard}
use Rattle.samples.specs.declared.phases.Kind.{Kind}
use Rattle.samples.specs.declared.phases.Kind.TheVariants.{Full, Across, Down, Centre}
use Rattle.samples.specs.declared.phases.Anchor.{Anchor}
use Rattle.samples.specs.declared.phases.Phase.{Phase}
use Rattle.samples.specs.Tap.{half, centre, mean}
use Rattle.samples.specs.Phase.{Window, plane_number, at, anchor_of, anchor, pair, phases, phase_of, luma_sample}
use Rattle.samples.proofs.Reach.{both, Near, phase_near}
use Rattle.served.specs.Served.{before, beyond, lent_tests, place_tests, ref_refusal, qpel_refusal, block_refusal}
use Rattle.hpel.specs.Lookup.{first_at}
use Rattle.hpel.specs.Reading.{plane_of, anchor_at, hpel_sample}
use Rattle.served.proofs.Laws.{Passes, ref_passes, qpel_passes, block_passes}

-- ---- places of a block that is served

-- on one axis: the block and a spare sample lie inside a plane of n samples
pub record Fits (p : ℤ) (b n : ℕ) : Type 0 where
  pub from : p ≡ pos (mag p)
  pub to : mag p + b + 1 ≤ n

fits : (p : ℤ) (b n : ℕ) → before p ≡ false → beyond p b n ≡ false → Fits p b n
unfolding before beyond
fits (pos k) b n l r = record { from = refl; to = omega (arith, ltb-false n (k + (b + 1)) r) }
fits (negsuc k) b n l r = absurd (mathlib.Core.Bool.false≢true (sym l))

-- and both sides of the picture have a sample
pub record Serves (w ht pad x0 y0 bw bh : ℕ) (mvx mvy : ℤ) : Type 0 where
  pub w1 : 1 ≤ w
  pub h1 : 1 ≤ ht
  pub columns : Fits (luma_place x0 mvx pad) bw (wide w pad)
  pub rows : Fits (luma_place y0 mvy pad) bh (wide ht pad)

-- so it is where no test held
module _ (f h v c w ht pad x0 y0 bw bh : ℕ) (mvx mvy : ℤ) where
  served : (unserved : Bool) → Passes f h v c w ht pad x0 y0 bw bh mvx mvy unserved → Serves w ht pad x0 y0 bw bh mvx mvy
  unfolding lent_tests place_tests
  served unserved e =
      let s = both_inside 1 8192 w ht (passed _ _ _ e.0).0 in
      let p1 = passed _ _ _ e.1 in
      let p2 = passed _ _ _ p1.1 in
      let p3 = passed _ _ _ p2.1 in
      let p4 = passed _ _ _ p3.1 in
      let p5 = passed _ _ _ p4.1 in
      record { w1 = s.0; h1 = s.2; columns = fits _ bw _ p2.0 p4.0; rows = fits _ bh _ p3.0 p5.0 }

  pub ref_served : 0 ≡ ref_refusal f h v c w ht pad x0 y0 bw bh mvx mvy → Serves w ht pad x0 y0 bw bh mvx mvy
  ref_served e = served _ (ref_passes f h v c w ht pad x0 y0 bw bh mvx mvy e)

  pub qpel_served : 0 ≡ qpel_refusal f h v c w ht pad x0 y0 bw bh mvx mvy → Serves w ht pad x0 y0 bw bh mvx mvy
  qpel_served e = served _ (qpel_passes f h v c w ht pad x0 y0 bw bh mvx mvy e)

  pub block_served : (out : ℕ) → 0 ≡ block_refusal f h v c w ht pad x0 y0 bw bh mvx mvy out → Serves w ht pad x0 y0 bw bh mvx mvy
  block_served out e = served _ (block_passes f h v c w ht pad x0 y0 bw bh mvx mvy out e).0

-- a sample's place in the plane, and in the picture, pad less
shift : (x0 pad x d k : ℕ) (mv : ℤ) → luma_place x0 mv pad ≡ pos k → pos (k + (x + d)) -ℤ pos pad ≡ luma_place x0 mv x +ℤ pos d
unfolding luma_place
shift x0 pad x d k mv e =
    let u = pos x0 +ℤ floor_z mv 4 in
    swap (pos k) (pos (x + d)) (neg_ℤ (pos pad))
    ∙ ap (λ (z : ℤ). z +ℤ pos (x + d)) (ap (λ (z : ℤ). z -ℤ pos pad) (sym e) ∙ +ℤ-neg_ℤ_cancel u (pos pad))
    ∙ sym (+ℤ_assoc u (pos x) (pos d))

-- i samples on from a place that is d on; and the same where d is 0
along : (z u : ℤ) (d i : ℕ) → z ≡ u +ℤ pos d → z +ℤ pos i ≡ u +ℤ pos (i + d)
along z u d i e = ap (λ (t : ℤ). t +ℤ pos i) e ∙ swap u (pos d) (pos i) ∙ +ℤ_assoc u (pos i) (pos d)

still : (z u : ℤ) (d i : ℕ) → z ≡ u +ℤ pos d → d ≡ 0 → z +ℤ pos i ≡ u +ℤ pos i
still z u d i e n = along z u d i e ∙ ap (λ (k : ℕ). u +ℤ pos k) (omega arith)

-- ---- the table: a half sample across is never shifted right, one down never down, the centre never at all

abbrev own : (kind : Kind) (dx dy : ℕ) → Bool
own Full dx dy = true
own Across dx dy = eqb dx 0
own Down dx dy = eqb dy 0
own Centre dx dy = eqb dx 0 && eqb dy 0

abbrev own_a : Anchor → Bool
own_a a = own a.kind a.dx a.dy

abbrev all_own : List Phase → Bool
all_own [] = true
all_own (f ∷ rest) = own_a f.p && (own_a f.q && all_own rest)

entry_own : (l : List Phase) → all_own l ≡ true → (n : ℕ) → let f = get_or l n (pair (at Full 0 0) (at Full 0 0)) in (own_a f.p ≡ true) × (own_a f.q ≡ true)
entry_own [] e n = (refl, refl)
entry_own (f ∷ rest) e zero = let t = both (own_a f.p) _ e in (t.0, (both (own_a f.q) _ t.1).0)
entry_own (f ∷ rest) e (suc n) = entry_own rest (both (own_a f.q) _ (both (own_a f.p) _ e).1).1 n

table_own : all_own phases ≡ true
unfolding phases
table_own = refl

-- ---- planes as built

module _ (pic : List ℕ) (w ht pad : ℕ) where
  -- what a plane holds, by its kind
  abbrev built : (kind : Kind) (x y : ℕ) → ℕ
  built Full = padded_at pic w ht pad
  built Across = across_at (padded_plane pic w ht pad) (wide w pad) (wide ht pad)
  built Down = down_at (padded_plane pic w ht pad) (wide w pad) (wide ht pad)
  built Centre = centre_at (padded_plane pic w ht pad) (wide w pad) (wide ht pad)

  -- at (x, y), which is (u, v) of the picture and the anchor's shift on: the anchor's sample of (u, v)
  module _ (w1 : 1 ≤ w) (h1 : 1 ≤ ht) (x y dx dy : ℕ) (u v : ℤ) (p : pos x -ℤ pos pad ≡ u +ℤ pos dx) (q : pos y -ℤ pos pad ≡ v +ℤ pos dy) where
    abbrev W : Window
    W = window pic w ht u v

    reads : (i j k l : ℕ) → pos x -ℤ pos pad +ℤ pos i ≡ u +ℤ pos k → pos y -ℤ pos pad +ℤ pos j ≡ v +ℤ pos l
        → window pic w ht (pos x -ℤ pos pad) (pos y -ℤ pos pad) i j ≡ W k l
    unfolding window
    reads i j k l a b = ap₂ (λ (s t : ℤ). sample_at pic w ht (s -ℤ pos 2) (t -ℤ pos 2)) a b

    is_anchor : (kind : Kind) → own kind dx dy ≡ true → built kind x y ≡ anchor_of 255 W kind dx dy
    is_anchor Full e = full_standard pic w ht pad w1 h1 x y ∙ reads 2 2 (2 + dx) (2 + dy) (along _ u dx 2 p) (along _ v dy 2 q)
    is_anchor Across e =
        let n : dx ≡ 0 = eqb-true _ _ e in
        across_standard pic w ht pad w1 h1 x y ∙ (λ t. half 255 (λ k. reads k 2 k (2 + dy) (still _ u dx k p n) (along _ v dy 2 q) t))
    is_anchor Down e =
        let n : dy ≡ 0 = eqb-true _ _ e in
        down_standard pic w ht pad w1 h1 x y ∙ (λ t. half 255 (λ k. reads 2 k (2 + dx) k (along _ u dx 2 p) (still _ v dy k q n) t))
    is_anchor Centre e =
        let b = both (eqb dx 0) (eqb dy 0) e in
        let m : dx ≡ 0 = eqb-true _ _ b.0 in
        let n : dy ≡ 0 = eqb-true _ _ b.1 in
        centre_standard pic w ht pad w1 h1 x y ∙ (λ t. centre 255 (λ i j. reads i j i j (still _ u dx i p m) (still _ v dy j q n) t))

-- THE LAW: f, h, v and c, drawn as built into buffers that held anything, give the standard's sample in each column x and row y of a block that they serve
module _ (pic : List ℕ) (w ht pad : ℕ) (f h v c f₀ h₀ v₀ c₀ : List ℕ)
    (ef : f ≡ drawn f₀ (wide w pad) (wide ht pad) (padded_at pic w ht pad))
    (eh : h ≡ drawn h₀ (wide w pad) (wide ht pad) (across_at (padded_plane pic w ht pad) (wide w pad) (wide ht pad)))
    (ev : v ≡ drawn v₀ (wide w pad) (wide ht pad) (down_at (padded_plane pic w ht pad) (wide w pad) (wide ht pad)))
    (ec : c ≡ drawn c₀ (wide w pad) (wide ht pad) (centre_at (padded_plane pic w ht pad) (wide w pad) (wide ht pad))) where
  holds : (kind : Kind) (x y : ℕ) → x < wide w pad → y < wide ht pad → sample (plane_of f h v c (plane_number kind)) (wide w pad) x y ≡ built pic w ht pad kind x y
  holds Full x y a b = ap (λ (l : List ℕ). sample l (wide w pad) x y) ef ∙ drawn_sample f₀ _ _ _ x y a b
  holds Across x y a b = ap (λ (l : List ℕ). sample l (wide w pad) x y) eh ∙ drawn_sample h₀ _ _ _ x y a b
  holds Down x y a b = ap (λ (l : List ℕ). sample l (wide w pad) x y) ev ∙ drawn_sample v₀ _ _ _ x y a b
  holds Centre x y a b = ap (λ (l : List ℕ). sample l (wide w pad) x y) ec ∙ drawn_sample c₀ _ _ _ x y a b

  module _ (x0 y0 bw bh : ℕ) (mvx mvy : ℤ) (s : Serves w ht pad x0 y0 bw bh mvx mvy) (x y : ℕ) (a : x < bw) (b : y < bh) where
    abbrev px : ℤ
    px = luma_place x0 mvx pad

    abbrev py : ℤ
    py = luma_place y0 mvy pad

    anchor_standard : (k : Anchor) → Near k → own_a k ≡ true
        → anchor_at f h v c (wide w pad) px py k x y ≡ anchor 255 (window pic w ht (luma_place x0 mvx x) (luma_place y0 mvy y)) k
    unfolding anchor_at anchor first_at sample
    anchor_standard k n o =
        let i : first_at k (wide w pad) px py + y * wide w pad + x ≡ (mag py + (y + k.dy)) * wide w pad + (mag px + (x + k.dx)) = omega arith in
        ap (λ (m : ℕ). get_or (plane_of f h v c (plane_number k.kind)) m 0) i
        ∙ holds k.kind (mag px + (x + k.dx)) (mag py + (y + k.dy)) (omega (arith, s.columns.to, n.0)) (omega (arith, s.rows.to, n.1))
        ∙ is_anchor pic w ht pad s.w1 s.h1 _ _ k.dx k.dy _ _ (shift x0 pad x k.dx (mag px) mvx s.columns.from)
        (shift y0 pad y k.dy (mag py) mvy s.rows.from) k.kind o

    pub hpel_standard : hpel_sample f h v c w pad x0 y0 mvx mvy x y
        ≡ luma_sample 255 (phase mvx 4) (phase mvy 4) (window pic w ht (luma_place x0 mvx x) (luma_place y0 mvy y))
    unfolding hpel_sample luma_sample
    hpel_standard =
        let k = phase_of (phase mvx 4) (phase mvy 4) in
        let n = phase_near (phase mvx 4) (phase mvy 4) in
        let o = entry_own phases table_own (phase mvy 4 * 4 + phase mvx 4) in
        ap₂ mean (anchor_standard k.p n.0 o.0) (anchor_standard k.q n.1 o.1)
