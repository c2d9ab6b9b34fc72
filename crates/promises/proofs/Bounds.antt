-- The error bound: a rounded anchor is off by at most half a level, the mean of two adds at most half a level, so d lies between the ends of its phase. Assumes nothing.
use mathlib.Core.Path.{◌≡◌, refl, sym, ap, ap₂, subst, ◌∙◌}
use mathlib.Core.Bool.{Bool, true, false, cond, ◌&&◌}
use mathlib.Core.List.{List, map}
use Prim.Native.Nat.{ℕ, zero, suc, ◌+◌, ◌*◌, ◌<◌, ◌≤◌, min, max}
use native.Mathlib.Nat.{min-zero, div-eq_of_lt}
use native.Mathlib.Omega.{arith}
use lib.Dec.{eqb, lt→ltb, le→leb}
use lib.IntN.{ℤ, pos, negsuc, neg_ℤ, ◌+ℤ◌, ◌-ℤ◌, ◌*ℤ◌}
use lib.ListN.{get_or, get_or-map}
use lib.Signed.{shr_z, ◌<ℤ◌}
use Rattle.signed.proofs.Diff.{sub_ind}
use Rattle.signed.proofs.Linear.{diff, diff_pos, diff_same, linear}
use Rattle.samples.specs.declared.phases.Kind.{Kind}
use Rattle.samples.specs.declared.phases.Kind.TheVariants.{Full, Across, Down, Centre}
use Rattle.samples.specs.declared.phases.Anchor.{Anchor}
use Rattle.samples.specs.declared.phases.Phase.{Phase}
use Rattle.samples.specs.Tap.{six_tap, clip, half, centre, mean}
use Rattle.samples.specs.Phase.{Window, plane_number, at, anchor_of, anchor, pair, phases, phase_of, luma_sample}
use Rattle.samples.proofs.Tap.{clip_diff}
use Rattle.samples.proofs.Word.{to_diff}
use Rattle.samples.proofs.Reach.{one}
use Rattle.promises.specs.Exact.{exact_of, exact, exact_a, exact_b, over, excess}
use Rattle.promises.specs.Bound.{Ends, Between, ends, ends_of, Within, NearMean}

-- ---- one anchor: its sample p against its exact value x, in 1024ths

-- at most l below and h above
abbrev Off : (l h p x : ℕ) → Type 0
Off l h p x = (x ≤ 1024 * p + l) × (1024 * p ≤ x + h)

-- a sum below zero gives zero
below : (top m h n : ℕ) → h < m → clip top (shr_z (negsuc n +ℤ pos h) m) ≡ 0
unfolding diff
below top m h n l = clip_diff top m h (suc n) ∙ ap (min top) (div-eq_of_lt (omega arith)) ∙ min-zero top

minus : (top n : ℕ) → clip top (neg_ℤ (pos n)) ≡ 0
unfolding clip
minus top zero = min-zero top
minus top (suc n) = refl

half_off : (top : ℕ) (z : ℤ) → Off 480 512 (clip top (shr_z (z +ℤ pos 16) 32)) (clip (1024 * top) (z *ℤ pos 32))
unfolding clip
half_off top (pos n) = (omega arith, omega arith)
half_off top (negsuc n) = let a = below top 32 16 n (omega arith) in let b = minus (1024 * top) (suc n * 32) in (omega arith, omega arith)

centre_off : (top : ℕ) (z : ℤ) → Off 511 512 (clip top (shr_z (z +ℤ pos 512) 1024)) (clip (1024 * top) z)
unfolding clip
centre_off top (pos n) = (omega arith, omega arith)
centre_off top (negsuc n) = let a = below top 1024 512 n (omega arith) in (omega arith, omega arith)

-- by the anchor's kind: a full sample is exact, a half sum is a multiple of 32, a centre sum is any number
abbrev pub low : Kind → ℕ
low Full = 0
low Across = 480
low Down = 480
low Centre = 511

abbrev pub high : Kind → ℕ
high Full = 0
high Across = 512
high Down = 512
high Centre = 512

kind_off : (top : ℕ) (W : Window) (kind : Kind) (dx dy : ℕ) → Off (low kind) (high kind) (anchor_of top W kind dx dy) (exact_of top W kind dx dy)
unfolding half centre
kind_off top W Full dx dy = (omega arith, omega arith)
kind_off top W Across dx dy = half_off top (six_tap (λ k. pos (W k (2 + dy))))
kind_off top W Down dx dy = half_off top (six_tap (λ k. pos (W (2 + dx) k)))
kind_off top W Centre dx dy = centre_off top (six_tap (λ i. six_tap (λ k. pos (W i k))))

anchor_off : (top : ℕ) (W : Window) (a : Anchor) → Off (low a.kind) (high a.kind) (anchor top W a) (exact top W a)
unfolding anchor exact
anchor_off top W a = kind_off top W a.kind a.dx a.dy

-- ---- two anchors: their mean P against their exact values x and y

abbrev pub same : Anchor → Anchor → Bool
same x y = eqb (plane_number x.kind) (plane_number y.kind) && eqb x.dx y.dx && eqb x.dy y.dy

-- what the mean adds to d: up to half a level, nothing where both anchors are one
abbrev pub added : Anchor → Anchor → ℕ
added x y = cond (same x y) 0 1024

mean_off : (top : ℕ) (W : Window) (x y : Anchor) → let p = anchor top W x in let q = anchor top W y in
    (p + q ≤ 2 * mean p q) × (2048 * mean p q ≤ 1024 * (p + q) + added x y)
unfolding mean
mean_off top W x y = go (same x y) refl
  where
    go : (b : Bool) → same x y ≡ b → let p = anchor top W x in let q = anchor top W y in
        (p + q ≤ 2 * mean p q) × (2048 * mean p q ≤ 1024 * (p + q) + cond b 0 1024)
    go true e = let k = ap (anchor top W) (one x y e) in (omega arith, omega arith)
    go false e = (omega arith, omega arith)

-- -less < 2048 P - x - y ≤ most, over the naturals
abbrev In : Ends → (P x y : ℕ) → Type 0
In e P x y = (x + y < 2048 * P + e.0) × (2048 * P ≤ x + y + e.1)

-- the closest ends, by the anchors' kinds
abbrev pub closest : Phase → Ends
closest f = (1 + low f.p.kind + low f.q.kind, high f.p.kind + high f.q.kind + added f.p f.q)

phase_in : (top : ℕ) (W : Window) (f : Phase) → In (closest f) (mean (anchor top W f.p) (anchor top W f.q)) (exact top W f.p) (exact top W f.q)
phase_in top W f =
    let a = anchor_off top W f.p in
    let b = anchor_off top W f.q in
    let m = mean_off top W f.p f.q in
    (omega arith, omega arith)

-- the document's ends: to half a level below for each rounded anchor, not reached; for none d = 0
abbrev rule : Phase → Ends
rule f = (max 1 (high f.p.kind + high f.q.kind), (closest f).1)

low_high : (k : Kind) → (low k < max 1 (high k)) × (high k ≤ 512)
low_high Full = (omega arith, omega arith)
low_high Across = (omega arith, omega arith)
low_high Down = (omega arith, omega arith)
low_high Centre = (omega arith, omega arith)

added_most : (b : Bool) → cond b 0 1024 ≤ 1024
added_most true = omega arith
added_most false = omega arith

-- wider ends: the document's, and the tender's
wider : (f : Phase) (P x y : ℕ) → In (closest f) P x y → In (rule f) P x y × In (1024, 2048) P x y
wider f P x y h =
    let a = low_high f.p.kind in
    let b = low_high f.q.kind in
    let m = added_most (same f.p f.q) in
    ((omega arith, omega arith), (omega arith, omega arith))

-- a table that is a rule of each phase
pub table_is : (g : Phase → Ends) (l : List Ends) → map g phases ≡ l → (fx fy : ℕ)
    → let G = at Full 0 0 in get_or l (fy * 4 + fx) (g (pair G G)) ≡ g (phase_of fx fy)
table_is g l e fx fy =
    let G = at Full 0 0 in
    ap (λ (t : List Ends). get_or t (fy * 4 + fx) (g (pair G G))) (sym e) ∙ get_or-map g phases (fy * 4 + fx) (pair G G)

by_kinds : map rule phases ≡ ends
unfolding phases ends
by_kinds = refl

-- ---- from the naturals to the integers

three : (n x y : ℕ) → pos n -ℤ pos x -ℤ pos y ≡ diff n (x + y)
three n x y = ap₂ (λ (a b : ℤ). a -ℤ b) (to_diff n x) (diff_pos y) ∙ simp linear (diff_same _ _ _ _ (omega arith))

above : (less n : ℕ) → 0 < n + less → neg_ℤ (pos less) <ℤ pos n
above zero n h = record { lt = lt→ltb 0 n (omega arith) }
above (suc k) n h = record { lt = tt }

above_minus : (less n : ℕ) → suc n < less → neg_ℤ (pos less) <ℤ negsuc n
above_minus zero n h = absurd (omega arith)
above_minus (suc k) n h = record { lt = lt→ltb n k (omega arith) }

between : (e : Ends) (P x y : ℕ) → In e P x y → Between e (pos (2048 * P) -ℤ pos x -ℤ pos y)
unfolding diff
between e P x y h =
    subst (Between e) (sym (three (2048 * P) x y))
    (sub_ind (Between e) (2048 * P) (x + y)
    (λ n k. (above e.0 n (omega arith), record { le = le→leb n e.1 (omega arith) }))
    (λ n k. (above_minus e.0 n (omega arith), record { le = tt })))

-- ---- THE BOUND, of the byte that the rule gives: for every largest sample, phase and window
module _ (top fx fy : ℕ) (W : Window) where
  abbrev In-by : Ends → Type 0
  In-by e = In e (luma_sample top fx fy W) (exact_a top fx fy W) (exact_b top fx fy W)

  in_closest : In-by (closest (phase_of fx fy))
  unfolding luma_sample
  in_closest = phase_in top W (phase_of fx fy)

  in_wider : In-by (rule (phase_of fx fy)) × In-by (1024, 2048)
  in_wider = wider (phase_of fx fy) (luma_sample top fx fy W) (exact_a top fx fy W) (exact_b top fx fy W) in_closest

  to_excess : (e : Ends) → In-by e → Between e (excess top fx fy W)
  unfolding excess over
  to_excess e h = between e (luma_sample top fx fy W) (exact_a top fx fy W) (exact_b top fx fy W) h

  pub bounded : Between (ends_of fx fy) (excess top fx fy W)
  bounded = rw (table_is rule ends by_kinds fx fy) (to_excess (rule (phase_of fx fy)) in_wider.0)

  pub within : Within top fx fy W (luma_sample top fx fy W)
  unfolding excess Within
  within = bounded

  -- THE TENDER'S SENTENCE
  pub near_mean : NearMean top fx fy W (luma_sample top fx fy W)
  unfolding NearMean
  near_mean = let h = in_wider.1 in (omega arith, omega arith)

  -- and the closest ends that hold
  pub closely : Between (closest (phase_of fx fy)) (excess top fx fy W)
  closely = to_excess (closest (phase_of fx fy)) in_closest

-- AT A FULL PHASE the byte is exact
exactly : (P x y : ℕ) → In (1, 0) P x y → pos (2048 * P) -ℤ pos x -ℤ pos y ≡ pos 0
exactly P x y h = three (2048 * P) x y ∙ diff_same (2048 * P) (x + y) 0 0 (omega arith) ∙ sym (diff_pos 0)

pub full_exact : (top : ℕ) (W : Window) → excess top 0 0 W ≡ pos 0
unfolding excess over phases
full_exact top W = exactly (luma_sample top 0 0 W) (exact_a top 0 0 W) (exact_b top 0 0 W) (in_closest top 0 0 W)
