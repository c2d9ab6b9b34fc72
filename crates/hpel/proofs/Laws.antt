-- Lookups and blocks of half-sample planes: where they lie, and what they are. Assumes nothing.
use mathlib.Core.Path.{◌≡◌, refl, sym, ap, ap₂, ◌∙◌}
use mathlib.Core.Bool.{Bool, true, false, false≢true, cond, not, ◌||◌, ◌&&◌}
use mathlib.Core.List.{List, [], ◌∷◌}
use Prim.Native.Nat.{ℕ, zero, suc, ◌+◌, ◌*◌, ◌-◌, ◌/◌, ◌%◌, ◌^◌, ◌≤◌, ◌<◌}
use native.Mathlib.Nat.{add_assoc, mul-le-mul_right}
use native.Mathlib.Omega.{arith}
use lib.Dec.{eqb, ltb}
use lib.IntN.{ℤ, sub_ℕ}
use lib.ListN.{length, take, drop, get_or, length-drop}
use lib.Seq.{take_all, get_or-drop}
use lib.Signed.{mag}
use denote.Ref.{Bor}
use Rattle.signed.specs.Lift.{up}
use Rattle.signed.proofs.Diff.{is_pos}
use Rattle.grid.specs.Block.{drawn}
use Rattle.grid.specs.Run.{narrow}
use Rattle.grid.proofs.Fill.{drawn_ext}
use Rattle.place.specs.Outcome.{after}
use Rattle.place.specs.Place.{luma_place, phase}
use Rattle.place.proofs.Refused.{kept}
use Rattle.planes.specs.Planes.{wide}
use Rattle.samples.specs.declared.phases.Kind.{Kind}
use Rattle.samples.specs.declared.phases.Kind.TheVariants.{Full, Across, Down, Centre}
use Rattle.samples.specs.declared.phases.Anchor.{Anchor}
use Rattle.samples.specs.declared.phases.Phase.{Phase}
use Rattle.samples.specs.Phase.{plane_number, pair, phases, phase_of}
use Rattle.samples.specs.Tap.{mean}
use Rattle.samples.proofs.Reach.{Near, mean_same}
use Rattle.hpel.specs.declared.HpelAt.{HpelAt}
use Rattle.hpel.specs.declared.HpelPair.{HpelPair}
use Rattle.served.proofs.Laws.{Ok, place_is}
use Rattle.served.specs.Served.{at_quarter, bad_width}
use Rattle.hpel.specs.Lookup.{first_at, in_order, one_at, two_at, ref_at, qpel_at}
use Rattle.hpel.specs.Reading.{plane_of, ref_tail, qpel_tails, anchor_at, hpel_sample}

-- a row and a place as the code has them
pub record Cornered (w pad x0 y0 : ℕ) (mvx mvy : ℤ) (pw x y : ℕ) : Type 0 where
  pub row : pw ≡ wide w pad
  pub across : x ≡ x0 + up (2 ^ 31) mvx / 4 + pad
  pub down : y ≡ y0 + up (2 ^ 31) mvy / 4 + pad

pub cornered : (w pad x0 y0 : ℕ) (mvx mvy : ℤ) {pw x y : ℕ} → (pw ≡ wide w pad) × (x ≡ x0 + up (2 ^ 31) mvx / 4 + pad) × (y ≡ y0 + up (2 ^ 31) mvy / 4 + pad)
    → Cornered w pad x0 y0 mvx mvy pw x y
cornered w pad x0 y0 mvx mvy e = record { row = e.0; across = e.1; down = e.2 }

module _ {w pad x0 y0 pw x y : ℕ} {mvx mvy : ℤ} (k : Cornered w pad x0 y0 mvx mvy pw x y) where
  pub first_asks : (f h v c ht bw bh : ℕ) → Ok f h v c w ht pad x0 y0 bw bh mvx mvy → (a : Anchor) → Near a
      → (2 ^ 29 ≤ x) × (2 ^ 29 ≤ y) × (x ≤ 2 ^ 31) × (y ≤ 2 ^ 31) × (pw ≤ 8448) × (a.dx ≤ 1) × (a.dy ≤ 1)
  first_asks f h v c ht bw bh ok a near = omega (arith, k, ok, near)

  pub place_across : mag mvx < 2 ^ 31 → sub_ℕ x (2 ^ 29) ≡ luma_place x0 mvx pad
  place_across p = ap (λ (n : ℕ). sub_ℕ n (2 ^ 29)) k.across ∙ place_is x0 mvx pad p refl

  pub place_down : mag mvy < 2 ^ 31 → sub_ℕ y (2 ^ 29) ≡ luma_place y0 mvy pad
  place_down p = ap (λ (n : ℕ). sub_ℕ n (2 ^ 29)) k.down ∙ place_is y0 mvy pad p refl

-- ---- the widths of a quarter phase

one_of_three : (a b c : Bool) → not (a || b || c) ≡ false → (b || a) || c ≡ true
one_of_three true true c e = refl
one_of_three true false c e = refl
one_of_three false true c e = refl
one_of_three false false true e = refl
one_of_three false false false e = absurd (false≢true (sym e))

pub averaged_width : (bw : ℕ) {q : Bool} → q ≡ true → q && bad_width bw ≡ false → narrow bw || eqb bw 16 ≡ true
averaged_width bw e g = one_of_three (eqb bw 4) (eqb bw 8) (eqb bw 16) (ap (λ (t : Bool). t && bad_width bw) (sym e) ∙ g)

-- ---- planes, and where a block lies in them

-- the plane of a kind, by its place in an array
pub picked : (f h v c d : Bor (List ℕ)) (k : Kind) {n : ℕ} → n ≡ plane_number k
    → (get_or (f ∷ h ∷ v ∷ c ∷ []) n d).now ≡ plane_of f.now h.now v.now c.now (plane_number k)
picked f h v c d k e = ap (λ (n : ℕ). (get_or (f ∷ h ∷ v ∷ c ∷ []) n d).now) e ∙ by_kind k
  where
    by_kind : (k : Kind) → (get_or (f ∷ h ∷ v ∷ c ∷ []) (plane_number k) d).now ≡ plane_of f.now h.now v.now c.now (plane_number k)
    by_kind Full = refl
    by_kind Across = refl
    by_kind Down = refl
    by_kind Centre = refl

-- what has room in each has room in the one that is named
plane_room : (f h v c : List ℕ) (m n : ℕ) → m ≤ length f → m ≤ length h → m ≤ length v → m ≤ length c → m ≤ length (plane_of f h v c n)
plane_room f h v c m zero a b d e = a
plane_room f h v c m (suc zero) a b d e = b
plane_room f h v c m (suc (suc zero)) a b d e = d
plane_room f h v c m (suc (suc (suc n))) a b d e = e

-- what is left from `at` on, to its end
pub tail_in : (l : List ℕ) (at : ℕ) → take (length l - at) (drop at l) ≡ drop at l
tail_in l at = take_all (length l - at) (drop at l) (rw length-drop (omega arith))

-- where an anchor's samples begin, of a place that is 2^29 up
pub first_up : (a : Anchor) (pw x y : ℕ) → 2 ^ 29 ≤ x → 2 ^ 29 ≤ y
    → (y - 2 ^ 29 + a.dy) * pw + (x - 2 ^ 29 + a.dx) ≡ first_at a pw (sub_ℕ x (2 ^ 29)) (sub_ℕ y (2 ^ 29))
unfolding first_at
first_up a pw x y l m =
    ap₂ (λ (p q : ℤ). (mag q + a.dy) * pw + (mag p + a.dx)) (sym (is_pos (x - 2 ^ 29) x (2 ^ 29) (omega arith))) (sym (is_pos (y - 2 ^ 29) y (2 ^ 29) (omega arith)))

-- the last row of a block that ends within pw by ph samples
last_in : (pw ph bw n px py : ℕ) → px + bw ≤ pw → py + n + 1 ≤ ph → py * pw + px + n * pw + bw ≤ pw * ph
last_in pw ph bw n px py a b = omega (arith, mul-le-mul_right pw b)

-- anchors in order are near as well
pub order_near : (k : Phase) → Near k.p × Near k.q → Near (in_order k).p × Near (in_order k).q
unfolding in_order
order_near k n = go (ltb (plane_number k.q.kind) (plane_number k.p.kind))
  where
    go : (b : Bool) → let o = cond b (pair k.q k.p) k in Near o.p × Near o.q
    go true = (n.1, n.0)
    go false = n

-- ---- one call

-- an anchor's rows lie within its plane
rows_in : (f h v c w ht pad x0 y0 bw bh : ℕ) (mvx mvy : ℤ) → mag mvx < 2 ^ 31 → mag mvy < 2 ^ 31 → (a : Anchor) → Near a
    → Ok f h v c w ht pad x0 y0 bw bh mvx mvy
    → first_at a (wide w pad) (luma_place x0 mvx pad) (luma_place y0 mvy pad) + (bh - 1) * wide w pad + bw ≤ wide w pad * wide ht pad
rows_in f h v c w ht pad x0 y0 bw bh mvx mvy p q a near k =
    let x = x0 + up (2 ^ 31) mvx / 4 + pad in
    let y = y0 + up (2 ^ 31) mvy / 4 + pad in
    let e : first_at a (wide w pad) (luma_place x0 mvx pad) (luma_place y0 mvy pad) ≡ (y - 2 ^ 29 + a.dy) * wide w pad + (x - 2 ^ 29 + a.dx) =
    sym (first_up a (wide w pad) x y k.1.left k.1.above ∙ ap₂ (first_at a (wide w pad)) (place_is x0 mvx pad p refl) (place_is y0 mvy pad q refl)) in
    rw e (last_in (wide w pad) (wide ht pad) bw (bh - 1) (x - 2 ^ 29 + a.dx) (y - 2 ^ 29 + a.dy) (omega (arith, k)) (omega (arith, k)))

-- ---- lookups

pub one_refused : (n m : ℕ) (a : Anchor) (pw : ℕ) (px py : ℤ) → m ≡ n → (m ≡ 0 → ⊥)
    → ◌≡◌ {A = HpelAt} (record { refusal = m; plane = 0; offset = 0; stride = 0 }) (one_at n a pw px py)
one_refused n zero a pw px py e h = absurd (h refl)
one_refused n (suc m) a pw px py e h = ap (λ (k : ℕ). one_at k a pw px py) e

pub two_refused : (n m : ℕ) (k : Phase) (pw : ℕ) (px py : ℤ) → m ≡ n → (m ≡ 0 → ⊥)
    → ◌≡◌ {A = HpelPair} (record { refusal = m; plane_a = 0; plane_b = 0; offset_a = 0; offset_b = 0; stride = 0 }) (two_at n k pw px py)
two_refused n zero k pw px py e h = absurd (h refl)
two_refused n (suc m) k pw px py e h = ap (λ (r : ℕ). two_at r k pw px py) e

-- w is the code's row, and u and v its place
module _ (n : ℕ) {w pw : ℕ} {u v px py : ℤ} (e : 0 ≡ n) (ew : w ≡ pw) (ex : u ≡ px) (ey : v ≡ py) where
  pub one_served : {a b : Anchor} {d i : ℕ} → a ≡ b → d ≡ plane_number a.kind → i ≡ first_at a w u v
      → ◌≡◌ {A = HpelAt} (record { refusal = 0; plane = d; offset = i; stride = w }) (one_at n b pw px py)
  one_served {a} {b} g c o =
      ap₂ (λ (d i : ℕ). record { refusal = 0; plane = d; offset = i; stride = w }) c o
      ∙ (λ t. one_at 0 (g t) (ew t) (ex t) (ey t)) ∙ ap (λ (r : ℕ). one_at r b pw px py) e

  pub two_served : {k l : Phase} {c d i j : ℕ} → k ≡ l → c ≡ plane_number k.p.kind → d ≡ plane_number k.q.kind → i ≡ first_at k.p w u v → j ≡ first_at k.q w u v
      → ◌≡◌ {A = HpelPair} (record { refusal = 0; plane_a = c; plane_b = d; offset_a = i; offset_b = j; stride = w }) (two_at n l pw px py)
  two_served {k} {l} {i = i} {j = j} g p q o m =
      ap₂ (λ (c d : ℕ). record { refusal = 0; plane_a = c; plane_b = d; offset_a = i; offset_b = j; stride = w }) p q
      ∙ ap₂ (λ (i j : ℕ). record { refusal = 0; plane_a = plane_number k.p.kind; plane_b = plane_number k.q.kind; offset_a = i; offset_b = j; stride = w }) o m
      ∙ (λ t. two_at 0 (g t) (ew t) (ex t) (ey t)) ∙ ap (λ (r : ℕ). two_at r l pw px py) e

-- ---- tails

module _ (f h v c : List ℕ) where
  -- the tail that a lookup names
  abbrev tail_at : (refusal plane offset : ℕ) → List ℕ
  tail_at n p o = after n [] (drop o (plane_of f h v c p))

  tail_is : (n p o : ℕ) {t l : List ℕ} → n ≡ 0 → t ≡ drop o l → l ≡ plane_of f h v c p → t ≡ tail_at n p o
  tail_is n p o z e g = e ∙ ap (drop o) g ∙ ap (λ (k : ℕ). tail_at k p o) (sym z)

  module _ (w ht pad x0 y0 bw bh : ℕ) (mvx mvy : ℤ) where
    module _ {k : HpelAt} (e : k ≡ ref_at (length f) (length h) (length v) (length c) w ht pad x0 y0 bw bh mvx mvy) where
      abbrev one : HpelAt → List ℕ
      one l = tail_at l.refusal l.plane l.offset

      pub no_tail : (k.refusal ≡ 0 → ⊥) → [] ≡ ref_tail f h v c w ht pad x0 y0 bw bh mvx mvy
      unfolding ref_tail
      no_tail z = kept k.refusal [] _ z ∙ ap one e

      pub the_tail : {t l : List ℕ} → k.refusal ≡ 0 → t ≡ drop k.offset l → l ≡ plane_of f h v c k.plane → t ≡ ref_tail f h v c w ht pad x0 y0 bw bh mvx mvy
      unfolding ref_tail
      the_tail z p q = tail_is k.refusal k.plane k.offset z p q ∙ ap one e

    module _ {k : HpelPair} (e : k ≡ qpel_at (length f) (length h) (length v) (length c) w ht pad x0 y0 bw bh mvx mvy) where
      abbrev two : HpelPair → List (List ℕ)
      two l = tail_at l.refusal l.plane_a l.offset_a ∷ tail_at l.refusal l.plane_b l.offset_b ∷ []

      pub no_tails : (k.refusal ≡ 0 → ⊥) → [] ∷ [] ∷ [] ≡ qpel_tails f h v c w ht pad x0 y0 bw bh mvx mvy
      unfolding qpel_tails
      no_tails z = (λ i. kept k.refusal [] (drop k.offset_a (plane_of f h v c k.plane_a)) z i ∷ kept k.refusal [] (drop k.offset_b (plane_of f h v c k.plane_b)) z i ∷ []) ∙ ap two e

      pub the_tails : {t l s m : List ℕ} → k.refusal ≡ 0 → t ≡ drop k.offset_a l → l ≡ plane_of f h v c k.plane_a
          → s ≡ drop k.offset_b m → m ≡ plane_of f h v c k.plane_b → t ∷ s ∷ [] ≡ qpel_tails f h v c w ht pad x0 y0 bw bh mvx mvy
      unfolding qpel_tails
      the_tails z p q r o =
          (λ i. tail_is k.refusal k.plane_a k.offset_a z p q i ∷ tail_is k.refusal k.plane_b k.offset_b z r o i ∷ []) ∙ ap two e

-- ---- blocks

-- an even component is 0 or 2
even : (P : ℕ → Type 0) (n : ℕ) → n < 4 → eqb (n % 2) 1 ≡ false → P 0 → P 2 → P n
even P zero b e p q = p
even P (suc zero) b e p q = absurd (false≢true (sym e))
even P (suc (suc zero)) b e p q = q
even P (suc (suc (suc zero))) b e p q = absurd (false≢true (sym e))
even P (suc (suc (suc (suc n)))) b e p q = absurd (omega arith)

neither : (a b : Bool) → a || b ≡ false → (a ≡ false) × (b ≡ false)
neither true b e = absurd (false≢true (sym e))
neither false b e = (refl, e)

-- full and half phases name one anchor twice
pub one_anchor : (fx fy : ℕ) → fx < 4 → fy < 4 → at_quarter fx fy ≡ false → (phase_of fx fy).p ≡ (phase_of fx fy).q
unfolding phases
one_anchor fx fy a b e =
    let s = neither (eqb (fx % 2) 1) (eqb (fy % 2) 1) e in
    even (λ i. (phase_of i fy).p ≡ (phase_of i fy).q) fx a s.0
    (even (λ j. (phase_of 0 j).p ≡ (phase_of 0 j).q) fy b s.1 refl refl)
    (even (λ j. (phase_of 2 j).p ≡ (phase_of 2 j).q) fy b s.1 refl refl)

module _ (f h v c : List ℕ) (w pad x0 y0 : ℕ) (mvx mvy : ℤ) {px py : ℤ} (ex : px ≡ luma_place x0 mvx pad) (ey : py ≡ luma_place y0 mvy pad) where
  -- an anchor as it was looked up: its plane t, and where its samples begin
  abbrev Looked : Anchor → List ℕ → ℕ → Type 0
  Looked a t i = (t ≡ plane_of f h v c (plane_number a.kind)) × (i ≡ first_at a (wide w pad) px py)

  abbrev read : Anchor → ℕ → ℕ → ℕ
  read = anchor_at f h v c (wide w pad) (luma_place x0 mvx pad) (luma_place y0 mvy pad)

  reads : (a : Anchor) {t : List ℕ} {i : ℕ} (x y : ℕ) → Looked a t i → get_or t (i + y * wide w pad + x) 0 ≡ read a x y
  unfolding anchor_at
  reads a x y l = ap₂ (λ (t : List ℕ) (n : ℕ). get_or t (n + y * wide w pad + x) 0) l.0 (l.1 ∙ ap₂ (first_at a (wide w pad)) ex ey)

  -- its rows are there
  pub rows_room : (ht bw bh : ℕ) → mag mvx < 2 ^ 31 → mag mvy < 2 ^ 31 → Ok (length f) (length h) (length v) (length c) w ht pad x0 y0 bw bh mvx mvy
      → (a : Anchor) → Near a → {t : List ℕ} {i : ℕ} → Looked a t i → i + (bh - 1) * wide w pad + bw ≤ length t
  rows_room ht bw bh m n ok a near l =
      let k = ok.0 in
      omega (
        arith,
        ap length l.0,
        l.1 ∙ ap₂ (first_at a (wide w pad)) ex ey,
        rows_in (length f) (length h) (length v) (length c) w ht pad x0 y0 bw bh mvx mvy m n a near ok,
        plane_room f h v c (wide w pad * wide ht pad) (plane_number a.kind) k.f_room k.h_room k.v_room k.c_room,
      )

  -- and so they are in its view
  view_room : (ht bw bh : ℕ) → mag mvx < 2 ^ 31 → mag mvy < 2 ^ 31 → Ok (length f) (length h) (length v) (length c) w ht pad x0 y0 bw bh mvx mvy
      → (a : Anchor) → Near a → {s t : List ℕ} {i : ℕ} → Looked a t i → s ≡ drop i t → (bh - 1) * wide w pad + bw ≤ length s
  view_room ht bw bh m n ok a near {t = t} {i = i} l e = omega (arith, ap length e ∙ length-drop i t, rows_room ht bw bh m n ok a near l)

  -- what was averaged, and what was copied, is the block
  module _ (out : List ℕ) (bw bh : ℕ) (k : Phase) (e : k ≡ phase_of (phase mvx 4) (phase mvy 4)) where
    averaged : {d s t : List ℕ} {i j : ℕ} → Looked k.p s i → Looked k.q t j
        → d ≡ drawn out bw bh (λ x y. mean (get_or s (i + y * wide w pad + x) 0) (get_or t (j + y * wide w pad + x) 0)) → d ≡ drawn out bw bh (hpel_sample f h v c w pad x0 y0 mvx mvy)
    unfolding hpel_sample
    averaged l m g =
        g ∙ drawn_ext out bw bh _ _ (λ x y _ _. ap₂ mean (reads k.p x y l) (reads k.q x y m) ∙ (λ t. mean (read (e t).p x y) (read (e t).q x y)))

    -- the same of views
    averaged_views : {d s t a b : List ℕ} {i j : ℕ} → Looked k.p s i → Looked k.q t j → a ≡ drop i s → b ≡ drop j t
        → d ≡ drawn out bw bh (λ x y. mean (get_or a (y * wide w pad + x) 0) (get_or b (y * wide w pad + x) 0)) → d ≡ drawn out bw bh (hpel_sample f h v c w pad x0 y0 mvx mvy)
    averaged_views {s = s} {t = t} {i = i} {j = j} l m p q g = averaged l m (g ∙ drawn_ext out bw bh _ _ (λ x y _ _. ap₂ mean (viewed s i p x y) (viewed t j q x y)))
      where
        viewed : {a : List ℕ} (s : List ℕ) (i : ℕ) → a ≡ drop i s → (x y : ℕ) → get_or a (y * wide w pad + x) 0 ≡ get_or s (i + y * wide w pad + x) 0
        viewed s i e x y =
            ap (λ (l : List ℕ). get_or l (y * wide w pad + x) 0) e ∙ get_or-drop i s (y * wide w pad + x) 0 ∙ ap (λ (n : ℕ). get_or s n 0) (sym (add_assoc i (y * wide w pad) x))

    copied : {d s : List ℕ} {i : ℕ} → Looked k.p s i → k.p ≡ k.q
        → d ≡ drawn out bw bh (λ x y. get_or s (i + y * wide w pad + x) 0) → d ≡ drawn out bw bh (hpel_sample f h v c w pad x0 y0 mvx mvy)
    copied l same g =
        averaged l (l.0 ∙ ap (λ (a : Anchor). plane_of f h v c (plane_number a.kind)) same, l.1 ∙ ap (λ (a : Anchor). first_at a (wide w pad) px py) same)
        (g ∙ drawn_ext out bw bh _ _ (λ x y _ _. sym (mean_same _)))

-- the same with the row and the place as the code has them
module _ (f h v c : List ℕ) (w pad x0 y0 : ℕ) (mvx mvy : ℤ) {pw x y : ℕ} (k : Cornered w pad x0 y0 mvx mvy pw x y) (m : mag mvx < 2 ^ 31) (n : mag mvy < 2 ^ 31) where
  abbrev pub Found : Anchor → List ℕ → ℕ → Type 0
  Found a t i = (t ≡ plane_of f h v c (plane_number a.kind)) × (i ≡ first_at a pw (sub_ℕ x (2 ^ 29)) (sub_ℕ y (2 ^ 29)))

  found : (a : Anchor) {t : List ℕ} {i : ℕ} → Found a t i → (t ≡ plane_of f h v c (plane_number a.kind)) × (i ≡ first_at a (wide w pad) (sub_ℕ x (2 ^ 29)) (sub_ℕ y (2 ^ 29)))
  found a l = (l.0, l.1 ∙ ap (λ (r : ℕ). first_at a r (sub_ℕ x (2 ^ 29)) (sub_ℕ y (2 ^ 29))) k.row)

  module _ (ht bw bh : ℕ) (ok : Ok (length f) (length h) (length v) (length c) w ht pad x0 y0 bw bh mvx mvy) (a : Anchor) (near : Near a) {t : List ℕ} {i : ℕ} (l : Found a t i) where
    pub found_rows : i + (bh - 1) * pw + bw ≤ length t
    found_rows = rw k.row (rows_room f h v c w pad x0 y0 mvx mvy (place_across k m) (place_down k n) ht bw bh m n ok a near (found a l))

    pub found_view : {s : List ℕ} → s ≡ drop i t → (bh - 1) * pw + bw ≤ length s
    found_view e = rw k.row (view_room f h v c w pad x0 y0 mvx mvy (place_across k m) (place_down k n) ht bw bh m n ok a near (found a l) e)

  module _ (out : List ℕ) (bw bh : ℕ) (o : Phase) (e : o ≡ phase_of (phase mvx 4) (phase mvy 4)) where
    pub found_averaged : {d s t a b : List ℕ} {i j : ℕ} → Found o.p s i → Found o.q t j → a ≡ drop i s → b ≡ drop j t
        → d ≡ drawn out bw bh (λ x y. mean (get_or a (y * pw + x) 0) (get_or b (y * pw + x) 0)) → d ≡ drawn out bw bh (hpel_sample f h v c w pad x0 y0 mvx mvy)
    found_averaged {a = a} {b = b} l r p q g =
        averaged_views f h v c w pad x0 y0 mvx mvy (place_across k m) (place_down k n) out bw bh o e (found o.p l) (found o.q r) p q
        (g ∙ ap (λ (r : ℕ). drawn out bw bh (λ x y. mean (get_or a (y * r + x) 0) (get_or b (y * r + x) 0))) k.row)

    pub found_copied : {d s : List ℕ} {i : ℕ} → Found o.p s i → o.p ≡ o.q
        → d ≡ drawn out bw bh (λ x y. get_or s (i + y * pw + x) 0) → d ≡ drawn out bw bh (hpel_sample f h v c w pad x0 y0 mvx mvy)
    found_copied {s = s} {i = i} l same g =
        copied f h v c w pad x0 y0 mvx mvy (place_across k m) (place_down k n) out bw bh o e (found o.p l) same
        (g ∙ ap (λ (r : ℕ). drawn out bw bh (λ x y. get_or s (i + y * r + x) 0)) k.row)
