-- The table of phases and the kernels: what the anchors of a phase other than (0, 0) can be, and where their samples stand. Assumes nothing.
use mathlib.Core.Path.{◌≡◌, refl, sym, ap, ap₂, subst, ◌∙◌}
use mathlib.Core.Bool.{Bool, true, ◌&&◌}
use mathlib.Core.List.{List, [], ◌∷◌}
use Prim.Native.Nat.{ℕ, zero, suc, ◌+◌, ◌*◌, ◌-◌, ◌≤◌, ◌<◌}
use native.Mathlib.Nat.{mul-le-mul, mul-le-mul_right}
use native.Mathlib.Omega.{arith}
use lib.Dec.{leb, eqb}
use lib.ListN.{get_or, length}
use borrow.Author.Rules.{rules}
use borrow.Author.Tests.{leb-true, eqb-true}
use denote.Enum.Bare.{sameb, same_true}
use Rattle.samples.specs.contracts.phases.Kind.{the_type}
use Rattle.grid.specs.Block.{drawn}
use Rattle.grid.specs.Run.{from}
use Rattle.grid.proofs.Fill.{drawn_at}
use Rattle.grid.proofs.Loop.{last_row}
use Rattle.samples.specs.declared.phases.Kind.{Kind}
use Rattle.samples.specs.declared.phases.Kind.TheVariants.{Full, Across, Down, Centre}
use Rattle.samples.specs.declared.phases.Anchor.{Anchor}
use Rattle.samples.specs.declared.phases.Phase.{Phase}
use Rattle.samples.specs.Tap.{half, mean}
use Rattle.samples.specs.Phase.{plane_number, at, anchor, pair, phases, phase_of}
use Rattle.samples.specs.Kernel.{window_at}
use Rattle.samples.proofs.Reach.{both, Near, phase_near, at_across, at_down}
use Rattle.samples.proofs.Tap.{half_cong}

-- ---- the table

-- the second anchor is not full, nor a centre beside a full one; a centre is not shifted
pub record Fit (f : Phase) : Type 0 where
  pub not_full : f.q.kind ≡ Full → ⊥
  pub beside : f.p.kind ≡ Full → (f.q.kind ≡ Centre → ⊥)
  pub still : (f.p.kind ≡ Centre → (f.p.dx ≡ 0) × (f.p.dy ≡ 0)) × (f.q.kind ≡ Centre → (f.q.dx ≡ 0) × (f.q.dy ≡ 0))

-- the same by their numbers: a shift stays below what is left to the centre's number
abbrev bounded : Anchor → Bool
bounded a = leb (a.dx + a.dy) (2 * (3 - plane_number a.kind))

abbrev fit : Phase → Bool
fit f = leb 1 (plane_number f.q.kind) && leb (plane_number f.q.kind) (2 + plane_number f.p.kind) && bounded f.p && bounded f.q

is_still : (a : Anchor) → bounded a ≡ true → a.kind ≡ Centre → (a.dx ≡ 0) × (a.dy ≡ 0)
is_still a e k =
    let n : plane_number a.kind ≡ 3 = ap plane_number k in
    let l : a.dx + a.dy ≤ 2 * (3 - plane_number a.kind) = leb-true _ _ e in
    (omega arith, omega arith)

is_fit : (f : Phase) → fit f ≡ true → Fit f
is_fit f e =
    let a = both (leb 1 (plane_number f.q.kind) && leb (plane_number f.q.kind) (2 + plane_number f.p.kind) && bounded f.p) _ e in
    let b = both (leb 1 (plane_number f.q.kind) && leb (plane_number f.q.kind) (2 + plane_number f.p.kind)) _ a.0 in
    let c = both (leb 1 (plane_number f.q.kind)) _ b.0 in
    let l : 1 ≤ plane_number f.q.kind = leb-true _ _ c.0 in
    let m : plane_number f.q.kind ≤ 2 + plane_number f.p.kind = leb-true _ _ c.1 in
    record {
      not_full = λ k. let n : plane_number f.q.kind ≡ 0 = ap plane_number k in omega arith;
      beside = λ k j. let n : plane_number f.p.kind ≡ 0 = ap plane_number k in let o : plane_number f.q.kind ≡ 3 = ap plane_number j in omega arith;
      still = (is_still f.p b.1, is_still f.q a.1);
    }

abbrev all_fit : List Phase → Bool
all_fit [] = true
all_fit (x ∷ rest) = fit x && all_fit rest

abbrev later_fit : List Phase → Bool
later_fit [] = true
later_fit (x ∷ rest) = all_fit rest

abbrev none : Phase
none = pair (at Full 0 0) (at Full 0 0)

entry_fit : (l : List Phase) → all_fit l ≡ true → (n : ℕ) → n < length l → Fit (get_or l n none)
entry_fit [] e n b = absurd (omega arith)
entry_fit (x ∷ rest) e zero b = is_fit x (both (fit x) (all_fit rest) e).0
entry_fit (x ∷ rest) e (suc n) b = entry_fit rest (both (fit x) (all_fit rest) e).1 n (omega arith)

later_fit_lem : (l : List Phase) → later_fit l ≡ true → (n : ℕ) → 1 ≤ n → n < length l → Fit (get_or l n none)
later_fit_lem [] e n a b = absurd (omega arith)
later_fit_lem (x ∷ rest) e zero a b = absurd (omega arith)
later_fit_lem (x ∷ rest) e (suc n) a b = entry_fit rest e n (omega arith)

table_fit : later_fit phases ≡ true
unfolding phases
table_fit = refl

sixteen : length phases ≡ 16
unfolding phases
sixteen = refl

pub phase_fit : (fx fy : ℕ) → 1 ≤ fx + fy → fx < 4 → fy < 4 → Fit (phase_of fx fy)
phase_fit fx fy a b c = later_fit_lem phases table_fit (fy * 4 + fx) (omega arith) (omega (arith, sixteen))

-- an entry that was looked up
pub near_of : (f : Phase) (fx fy : ℕ) → f ≡ phase_of fx fy → Near f.p × Near f.q
near_of f fx fy e = rw e (phase_near fx fy)

pub fit_of : (f : Phase) (fx fy : ℕ) → f ≡ phase_of fx fy → 1 ≤ fx + fy → fx < 4 → fy < 4 → Fit f
fit_of f fx fy e a b c = subst Fit (sym e) (phase_fit fx fy a b c)

-- what the derived test of two anchors tells
abbrev alike : (x y : Anchor) → Bool
alike x y = sameb the_type x.kind y.kind && (eqb x.dx y.dx && eqb x.dy y.dy)

-- anchors that it finds equal are one
pub same_anchor : (x y : Anchor) → alike x y ≡ true → x ≡ y
same_anchor x y e =
    let t = both (sameb the_type x.kind y.kind) (eqb x.dx y.dx && eqb x.dy y.dy) e in
    let u = both (eqb x.dx y.dx) (eqb x.dy y.dy) t.1 in
    let e₁ : x.kind ≡ y.kind = same_true the_type (search rules) _ _ t.0 in
    let e₂ : x.dx ≡ y.dx = eqb-true _ _ u.0 in
    let e₃ : x.dy ≡ y.dy = eqb-true _ _ u.1 in
    let r : ◌≡◌ {A = Anchor} (record { kind = x.kind; dx = x.dx; dy = x.dy }) (record { kind = y.kind; dx = y.dx; dy = y.dy }) = cc in
    r

-- two centres are one anchor
pub centres : (f : Phase) → Fit f → f.p.kind ≡ Centre → f.q.kind ≡ Centre → alike f.p f.q ≡ true
centres f t e g =
    let x = t.still.0 e in
    let y = t.still.1 g in
    rw (e, g, x.0, x.1, y.0, y.1) refl

pub mean_swap : (x y : ℕ) → mean x y ≡ mean y x
unfolding mean
mean_swap x y = omega arith

-- ---- where samples stand, of column c and row r of a block whose first window starts at t[p]

pub full_at : (t : List ℕ) (p ts q i j : ℕ) → q ≡ p + j * ts + i → (c r : ℕ) → get_or t (q + r * ts + c) 0 ≡ window_at t p ts c r i j
unfolding window_at
full_at t p ts q i j e c r = let f : q + r * ts + c ≡ p + (r + j) * ts + (c + i) = omega arith in ap (λ (k : ℕ). get_or t k 0) f

-- what `taps_of` tells
abbrev pub Taps : (k : Anchor) (p ts at apart : ℕ) → Type 0
Taps k p ts at apart = (k.kind ≡ Across → (at ≡ p + (2 + k.dy) * ts) × (apart ≡ 1)) × ((k.kind ≡ Across → ⊥) → (at ≡ p + 2 + k.dx) × (apart ≡ ts))

module _ (k : Anchor) (p ts q s : ℕ) (taps : Taps k p ts q s) (a : k.kind ≡ Full → ⊥) (b : k.kind ≡ Centre → ⊥) where
  -- across, or down
  by_kind : (P : Type 0) → (k.kind ≡ Across → P) → (k.kind ≡ Down → P) → P
  by_kind P f g = split k.kind refl
    where
      split : (n : Kind) → k.kind ≡ n → P
      split Full e = absurd (a e)
      split Across e = f e
      split Down e = g e
      split Centre e = absurd (b e)

  down_not : k.kind ≡ Down → (k.kind ≡ Across → ⊥)
  down_not e f = let n : ◌≡◌ {A = ℕ} 2 1 = ap plane_number (sym e ∙ f) in omega arith

  pub half_at : (t : List ℕ) (c r : ℕ) → half 255 (from t (q + r * ts + c) s) ≡ anchor 255 (window_at t p ts c r) k
  unfolding from window_at
  half_at t c r =
      by_kind _
      (λ e. let h = taps.0 e in
      half_cong 255 _ _ (λ i. let f : q + r * ts + c + i * s ≡ p + (r + (2 + k.dy)) * ts + (c + i) = omega (arith, h.0, ap (λ (n : ℕ). i * n) h.1) in ap (λ (x : ℕ). get_or t x 0) f)
      ∙ sym (at_across 255 (window_at t p ts c r) k e))
      (λ e. let h = taps.1 (down_not e) in
      half_cong 255 _ _ (λ i. let f : q + r * ts + c + i * s ≡ p + (r + i) * ts + (c + (2 + k.dx)) = omega (arith, h.0, ap (λ (n : ℕ). i * n) h.1) in ap (λ (x : ℕ). get_or t x 0) f)
      ∙ sym (at_down 255 (window_at t p ts c r) k e))

  -- the same out of another list and stride that are these
  pub half_there : (t u : List ℕ) (us : ℕ) → u ≡ t → us ≡ ts → (c r : ℕ) → half 255 (from u (q + r * us + c) s) ≡ anchor 255 (window_at t p ts c r) k
  half_there t u us e f c r = ap₂ (λ (l : List ℕ) (n : ℕ). half 255 (from l (q + r * n + c) s)) e f ∙ half_at t c r

  -- the last row's taps lie within the window
  pub half_in : (h : ℕ) → 1 ≤ h → k.dx ≤ 1 → k.dy ≤ 1 → q + (h - 1) * ts + 16 + 5 * s ≤ p + (h + 4) * ts + 21
  half_in h l dx dy =
      let m : (h - 1) * ts + ts ≡ ts * h = last_row ts h l in
      by_kind _ (λ e. let t = taps.0 e in omega (arith, t, m, mul-le-mul_right ts dy)) (λ e. let t = taps.1 (down_not e) in omega (arith, t, m))

-- the last row of full samples lies within the window
pub full_in : (p ts h n dx dy : ℕ) → dx ≤ 1 → dy ≤ 1 → 1 ≤ h → p + (h + 4) * ts + 21 ≤ n
    → ((2 + dy) * ts + p + 2 + dx + (h - 1) * ts + 16 ≤ n)
full_in p ts h n dx dy a b c d = omega (arith, mul-le-mul_right ts b, last_row ts h c)

-- ---- the local block: it has room, and sixteen lanes from its last row on; what was drawn into it is read back

pub local_fits : (k h : ℕ) → k ≤ 16 → 1 ≤ h → h ≤ 16 → (k * h ≤ 256) × ((h - 1) * k + 16 ≤ 256)
local_fits k h a b c =
    let d : h - 1 ≤ 15 = omega arith in (omega (arith, mul-le-mul a c), omega (arith, mul-le-mul d a))

pub local_at : {a : List ℕ} (a₀ : List ℕ) (k h : ℕ) (f : ℕ → ℕ → ℕ) → a ≡ drawn a₀ k h f → (c r : ℕ) → c < k → r < h → get_or a (0 + r * k + c) 0 ≡ f c r
local_at {a} a₀ k h f e c r x y =
    let g : 0 + r * k + c ≡ r * k + c = omega arith in
    ap (λ (i : ℕ). get_or a i 0) g ∙ ap (λ (l : List ℕ). get_or l (r * k + c) 0) e ∙ drawn_at a₀ k h f c r x y
