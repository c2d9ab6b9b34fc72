-- Laws of the phases: every anchor is near, an anchor named twice is itself, and a sample depends on its window alone. Assumes nothing.
use mathlib.Core.Path.{◌≡◌, refl, sym, ap, ap₂, ◌∙◌}
use mathlib.Core.Bool.{Bool, true, false, ◌&&◌}
use mathlib.Core.List.{List, [], ◌∷◌}
use Prim.Native.Nat.{ℕ, zero, suc, ◌+◌, ◌*◌, ◌<◌, ◌≤◌}
use native.Mathlib.Omega.{arith}
use lib.Dec.{leb, eqb}
use lib.IntN.{ℤ, pos, ◌+ℤ◌}
use lib.ListN.{get_or}
use lib.Signed.{shr_z}
use borrow.Author.Tests.{leb-true, eqb-true}
use Rattle.samples.specs.declared.phases.Kind.{Kind}
use Rattle.samples.specs.declared.phases.Kind.TheVariants.{Full, Across, Down, Centre}
use Rattle.samples.specs.declared.phases.Anchor.{Anchor}
use Rattle.samples.specs.declared.phases.Phase.{Phase}
use Rattle.samples.specs.Tap.{six_tap, clip, half, centre, mean}
use Rattle.samples.specs.Phase.{Window, plane_number, at, anchor_of, anchor, pair, phases, phase_of, luma_sample}
use Rattle.samples.specs.Bilinear.{chroma_sample}

pub both : (a b : Bool) → a && b ≡ true → (a ≡ true) × (b ≡ true)
both true b e = (refl, e)
both false b e = absurd (mathlib.Core.Bool.false≢true e)

-- at most one column right and one row down
abbrev pub Near : Anchor → Type 0
Near a = (a.dx ≤ 1) × (a.dy ≤ 1)

abbrev near : Anchor → Bool
near a = leb a.dx 1 && leb a.dy 1

abbrev all_near : List Phase → Bool
all_near [] = true
all_near (x ∷ rest) = near x.p && near x.q && all_near rest

is_near : (a : Anchor) → near a ≡ true → Near a
is_near a e = let t = both (leb a.dx 1) (leb a.dy 1) e in (leb-true _ _ t.0, leb-true _ _ t.1)

entry_near : (l : List Phase) → all_near l ≡ true → (n : ℕ) → let f = get_or l n (pair (at Full 0 0) (at Full 0 0)) in Near f.p × Near f.q
entry_near [] e n = ((omega arith, omega arith), (omega arith, omega arith))
entry_near (x ∷ rest) e zero =
    let t = both (near x.p) (near x.q) (both (near x.p && near x.q) (all_near rest) e).0 in (is_near x.p t.0, is_near x.q t.1)
entry_near (x ∷ rest) e (suc n) = entry_near rest (both (near x.p && near x.q) (all_near rest) e).1 n

table_near : all_near phases ≡ true
unfolding phases
table_near = refl

pub phase_near : (fx fy : ℕ) → Near (phase_of fx fy).p × Near (phase_of fx fy).q
phase_near fx fy = entry_near phases table_near (fy * 4 + fx)

-- a number tells which kind it is
abbrev pub kind_of : ℕ → Kind
kind_of zero = Full
kind_of (suc zero) = Across
kind_of (suc (suc zero)) = Down
kind_of (suc (suc (suc n))) = Centre

pub is_kind : (k : Kind) → kind_of (plane_number k) ≡ k
is_kind Full = refl
is_kind Across = refl
is_kind Down = refl
is_kind Centre = refl

pub one_kind : (k l : Kind) → plane_number k ≡ plane_number l → k ≡ l
one_kind k l e = sym (is_kind k) ∙ ap kind_of e ∙ is_kind l

-- anchors of one kind and one shift are one
pub one : (x y : Anchor) → eqb (plane_number x.kind) (plane_number y.kind) && eqb x.dx y.dx && eqb x.dy y.dy ≡ true → x ≡ y
one x y e =
    let t = both (eqb (plane_number x.kind) (plane_number y.kind) && eqb x.dx y.dx) (eqb x.dy y.dy) e in
    let u = both (eqb (plane_number x.kind) (plane_number y.kind)) (eqb x.dx y.dx) t.0 in
    let e₁ : x.kind ≡ y.kind = one_kind _ _ (eqb-true _ _ u.0) in
    let e₂ : x.dx ≡ y.dx = eqb-true _ _ u.1 in
    let e₃ : x.dy ≡ y.dy = eqb-true _ _ t.1 in
    let r : ◌≡◌ {A = Anchor} (record { kind = x.kind; dx = x.dx; dy = x.dy }) (record { kind = y.kind; dx = y.dx; dy = y.dy }) = cc in
    r

pub mean_same : (x : ℕ) → mean x x ≡ x
unfolding mean
mean_same x = omega arith

-- REACH: six values, six by six samples, two by two samples
six : (s u : ℕ → ℤ) → ((k : ℕ) → k < 6 → s k ≡ u k) → six_tap s ≡ six_tap u
unfolding six_tap
six s u e = cc (e 0 (omega arith), e 1 (omega arith), e 2 (omega arith), e 3 (omega arith), e 4 (omega arith), e 5 (omega arith))

half_six : (top : ℕ) (s u : ℕ → ℕ) → ((k : ℕ) → k < 6 → s k ≡ u k) → half top s ≡ half top u
unfolding half
half_six top s u e = ap (λ (z : ℤ). clip top (shr_z (z +ℤ pos 16) 32)) (six _ _ (λ k l. ap pos (e k l)))

module _ (top : ℕ) (W U : Window) (e : (i j : ℕ) → i < 6 → j < 6 → W i j ≡ U i j) where
  centre_six : centre top W ≡ centre top U
  unfolding centre
  centre_six = ap (λ (z : ℤ). clip top (shr_z (z +ℤ pos 512) 1024)) (six _ _ (λ i l. six _ _ (λ k m. ap pos (e i k l m))))

  by_kind : (kind : Kind) (dx dy : ℕ) → dx ≤ 1 → dy ≤ 1 → anchor_of top W kind dx dy ≡ anchor_of top U kind dx dy
  by_kind Full dx dy a b = e (2 + dx) (2 + dy) (omega arith) (omega arith)
  by_kind Across dx dy a b = half_six top _ _ (λ k l. e k (2 + dy) l (omega arith))
  by_kind Down dx dy a b = half_six top _ _ (λ k l. e (2 + dx) k (omega arith) l)
  by_kind Centre dx dy a b = centre_six

  anchor_six : (k : Anchor) → Near k → anchor top W k ≡ anchor top U k
  unfolding anchor
  anchor_six k n = by_kind k.kind k.dx k.dy n.0 n.1

  pub luma_six : (fx fy : ℕ) → luma_sample top fx fy W ≡ luma_sample top fx fy U
  unfolding luma_sample
  luma_six fx fy =
      let n = phase_near fx fy in ap₂ mean (anchor_six (phase_of fx fy).p n.0) (anchor_six (phase_of fx fy).q n.1)

pub chroma_four : (fx fy : ℕ) (W U : ℕ → ℕ → ℕ) → ((i j : ℕ) → i < 2 → j < 2 → W i j ≡ U i j) → chroma_sample fx fy W ≡ chroma_sample fx fy U
unfolding chroma_sample
chroma_four fx fy W U e =
    cc (e 0 0 (omega arith) (omega arith), e 1 0 (omega arith) (omega arith), e 0 1 (omega arith) (omega arith), e 1 1 (omega arith) (omega arith))

-- an anchor's sample, by its kind
module _ (top : ℕ) (W : Window) (k : Anchor) where
  pub at_full_lem : k.kind ≡ Full → anchor top W k ≡ W (2 + k.dx) (2 + k.dy)
  unfolding anchor
  at_full_lem e = ap (λ (n : Kind). anchor_of top W n k.dx k.dy) e

  pub at_across : k.kind ≡ Across → anchor top W k ≡ half top (λ i. W i (2 + k.dy))
  unfolding anchor
  at_across e = ap (λ (n : Kind). anchor_of top W n k.dx k.dy) e

  pub at_down : k.kind ≡ Down → anchor top W k ≡ half top (λ j. W (2 + k.dx) j)
  unfolding anchor
  at_down e = ap (λ (n : Kind). anchor_of top W n k.dx k.dy) e

  pub at_centre : k.kind ≡ Centre → anchor top W k ≡ centre top W
  unfolding anchor
  at_centre e = ap (λ (n : Kind). anchor_of top W n k.dx k.dy) e

-- the rule of a phase, of its anchors
module _ (top fx fy : ℕ) (W : Window) (f : Phase) (e : f ≡ phase_of fx fy) where
  pub luma_two : mean (anchor top W f.p) (anchor top W f.q) ≡ luma_sample top fx fy W
  unfolding luma_sample
  luma_two = ap (λ (g : Phase). mean (anchor top W g.p) (anchor top W g.q)) e

  pub luma_one : f.p ≡ f.q → anchor top W f.p ≡ luma_sample top fx fy W
  luma_one s = sym (mean_same _) ∙ ap (λ (k : Anchor). mean (anchor top W f.p) (anchor top W k)) s ∙ luma_two

-- at a full phase the sample is the place's own
pub luma_full : (top : ℕ) (W : Window) → luma_sample top 0 0 W ≡ W 2 2
unfolding luma_sample phases anchor
luma_full top W = mean_same (W 2 2)

pub chroma_full : (W : ℕ → ℕ → ℕ) → chroma_sample 0 0 W ≡ W 0 0
unfolding chroma_sample
chroma_full W = omega arith
