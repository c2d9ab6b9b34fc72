-- The tests of the half-sample planes in the code's unsigned places: each test, and what an answer of 0 tells. Assumes nothing.
use Rattle.std.proofs.Common.{◌≡◌, ℕ, ◌+◌, ◌-◌, ◌*◌, ◌/◌, ◌%◌, ◌^◌, ◌<◌, ◌≤◌, Bool, true, false, not, ◌||◌, ◌&&◌, ltb, ◌⊎◌, List, [], ◌∷◌, ◌++◌, ℤ, pos, ◌+ℤ◌, sym, refl, ap, ◌∙◌, ap₂, inl, inr, ⊎_elim, arith, ltb-false, le-ltb, lt-ltb}
use mathlib.Core.Bool.{false≢true}
use lib.IntN.{sub_ℕ}
use lib.Signed.{mag, lt_z}
use Rattle.signed.specs.Lift.{up}
use Rattle.signed.proofs.Diff.{lt_or_le, sub_ind}
use Rattle.signed.proofs.Linear.{diff, linear, diff_same}
use Rattle.place.specs.Place.{luma_place, phase}
use Rattle.place.specs.Refusal.{bad_sides, bad_block, bad_position, short, lowest}
use Rattle.place.proofs.CoordLaws.{luma_up}
use Rattle.place.proofs.Refused.{hit, miss, first, none, second, split_zero, passed, both_inside, both_below}
use Rattle.place.proofs.Wraps.{wrapped}
use Rattle.planes.specs.Planes.{wide, needed}
use Rattle.served.specs.Served.{at_full, at_quarter, bad_width, before, beyond, lent_tests, place_tests, ref_refusal, qpel_refusal, block_refusal}

-- ---- the tests of a place that is b up

before_is : (x b : ℕ) → before (diff x b) ≡ ltb x b
unfolding before diff
before_is x b =
    sub_ind (λ z. lt_z z (pos 0) ≡ ltb x b) x b (λ k e. le-ltb k 0 (omega arith) ∙ sym (le-ltb x b (omega arith))) (λ k e. sym (lt-ltb x b (omega arith)))

over : (n x b : ℕ) → lt_z (pos n) (diff x b) ≡ ltb (n + b) x
unfolding diff
over n x b =
    sub_ind (λ z. lt_z (pos n) z ≡ ltb (n + b) x) x b
    (λ k e.
    ⊎_elim (λ (h : n < k). lt-ltb n k h ∙ sym (lt-ltb (n + b) x (omega arith))) (λ (h : k ≤ n). le-ltb n k h ∙ sym (le-ltb (n + b) x (omega arith))) (lt_or_le n k))
    (λ k e. sym (le-ltb (n + b) x (omega arith)))

beyond_is : (x b bw n : ℕ) → beyond (diff x b) bw n ≡ ltb (n + b) (x + bw + 1)
unfolding beyond
beyond_is x b bw n =
    let e : diff x b +ℤ pos (bw + 1) ≡ diff (x + bw + 1) b = simp linear (diff_same _ _ _ _ (omega arith)) in ap (lt_z (pos n)) e ∙ over n (x + bw + 1) b

-- THE BRIDGE: the code's place is the definition's, 2^29 up
pub place_is : (x0 : ℕ) (mv : ℤ) (pad : ℕ) {x : ℕ} → mag mv < 2 ^ 31 → x ≡ x0 + up (2 ^ 31) mv / 4 → sub_ℕ (x + pad) (2 ^ 29) ≡ luma_place x0 mv pad
unfolding diff
place_is x0 mv pad h e = ap (λ (k : ℕ). sub_ℕ (k + pad) (2 ^ 29)) e ∙ sym (luma_up x0 mv pad h)

-- the tests of 6, as the code makes them
abbrev pub up_tests : (unserved : Bool) (pw ph bw bh x y : ℕ) → List (ℕ × Bool)
up_tests unserved pw ph bw bh x y =
    (6, unserved) ∷ (6, ltb x (2 ^ 29)) ∷ (6, ltb y (2 ^ 29)) ∷ (6, ltb (pw + 2 ^ 29) (x + bw + 1)) ∷ (6, ltb (ph + 2 ^ 29) (y + bh + 1)) ∷ []

up_tests_lem : (unserved : Bool) (pw ph bw bh x0 y0 pad : ℕ) (mvx mvy : ℤ) {x y : ℕ} → mag mvx < 2 ^ 31 → mag mvy < 2 ^ 31
    → x ≡ x0 + up (2 ^ 31) mvx / 4 → y ≡ y0 + up (2 ^ 31) mvy / 4
    → up_tests unserved pw ph bw bh (x + pad) (y + pad) ≡ place_tests unserved pw ph bw bh (luma_place x0 mvx pad) (luma_place y0 mvy pad)
unfolding place_tests diff
up_tests_lem u pw ph bw bh x0 y0 pad mvx mvy {x} {y} p q ex ey =
    let s = x + pad in
    let t = y + pad in
    sym (λ i. (6, u) ∷ (6, before_is s (2 ^ 29) i) ∷ (6, before_is t (2 ^ 29) i) ∷ (6, beyond_is s (2 ^ 29) bw pw i) ∷ (6, beyond_is t (2 ^ 29) bh ph i) ∷ [])
    ∙ ap₂ (place_tests u pw ph bw bh) (place_is x0 mvx pad p ex) (place_is y0 mvy pad q ey)

-- ---- one comparison tests an axis at both ends: r is x less 2^29, modulo 2^64

module _ (n b x r : ℕ) (h : r < 2 ^ 64) (e : (r + 2 ^ 29) % 2 ^ 64 ≡ x) where
  out_of : n - b ≤ r → (x < 2 ^ 29) ⊎ (n + 2 ^ 29 < x + b + 1)
  out_of k = ⊎_elim (λ (l : r + 2 ^ 29 ≡ x). inr (omega arith)) (λ (l : r + 2 ^ 29 ≡ x + 2 ^ 64). inl (omega arith)) (wrapped (2 ^ 29) x r (omega arith) h e)

  within : n < 2 ^ 63 → r < n - b → (ltb x (2 ^ 29) ≡ false) × (ltb (n + 2 ^ 29) (x + b + 1) ≡ false)
  within s k = (le-ltb x (2 ^ 29) (omega arith), le-ltb (n + 2 ^ 29) (x + b + 1) (omega arith))

-- a test of the same number, whether it held or not
also : (n : ℕ) (t : Bool) (rest : List (ℕ × Bool)) → n ≡ lowest rest → n ≡ lowest ((n, t) ∷ rest)
unfolding lowest
also n true rest e = refl
also n false rest e = e

module _ (u : Bool) (pw ph bw bh x y rx ry : ℕ) (hx : rx < 2 ^ 64) (hy : ry < 2 ^ 64) (ex : (rx + 2 ^ 29) % 2 ^ 64 ≡ x) (ey : (ry + 2 ^ 29) % 2 ^ 64 ≡ y) where
  out_across : pw - bw ≤ rx → 6 ≡ lowest (up_tests u pw ph bw bh x y)
  out_across k =
      also _ _ _ (⊎_elim (λ (l : x < 2 ^ 29). hit _ (lt-ltb _ _ l)) (λ (l : pw + 2 ^ 29 < x + bw + 1). also _ _ _ (also _ _ _ (hit _ (lt-ltb _ _ l)))) (out_of pw bw x rx hx ex k))

  out_down : ph - bh ≤ ry → 6 ≡ lowest (up_tests u pw ph bw bh x y)
  out_down k =
      also _ _ _ (also _ _ _ (⊎_elim (λ (l : y < 2 ^ 29). hit _ (lt-ltb _ _ l)) (λ (l : ph + 2 ^ 29 < y + bh + 1). also _ _ _ (also _ _ _ (hit _ (lt-ltb _ _ l)))) (out_of ph bh y ry hy ey k)))

  none_out : pw < 2 ^ 63 → ph < 2 ^ 63 → u ≡ false → rx < pw - bw → ry < ph - bh → 0 ≡ lowest (up_tests u pw ph bw bh x y)
  none_out s t o k l =
      let a = within pw bw x rx hx ex s k in
      let b = within ph bh y ry hy ey t l in
      miss 6 _ o (miss 6 _ a.0 (miss 6 _ b.0 (miss 6 _ a.1 (miss 6 _ b.1 none))))

-- the same of the definition's tests: x and y as the code has them before pad is added
module _ (u : Bool) (pw ph bw bh x0 y0 pad : ℕ) (mvx mvy : ℤ) (p : mag mvx < 2 ^ 31) (q : mag mvy < 2 ^ 31) {x y rx ry : ℕ}
    (fx : x ≡ x0 + up (2 ^ 31) mvx / 4) (fy : y ≡ y0 + up (2 ^ 31) mvy / 4)
    (hx : rx < 2 ^ 64) (hy : ry < 2 ^ 64) (ex : (rx + 2 ^ 29) % 2 ^ 64 ≡ x + pad) (ey : (ry + 2 ^ 29) % 2 ^ 64 ≡ y + pad) where
  answers : {m : ℕ} → m ≡ lowest (up_tests u pw ph bw bh (x + pad) (y + pad)) → m ≡ lowest (place_tests u pw ph bw bh (luma_place x0 mvx pad) (luma_place y0 mvy pad))
  answers e = e ∙ ap lowest (up_tests_lem u pw ph bw bh x0 y0 pad mvx mvy p q fx fy)

  pub is_across : pw - bw ≤ rx → 6 ≡ lowest (place_tests u pw ph bw bh (luma_place x0 mvx pad) (luma_place y0 mvy pad))
  is_across k = answers (out_across u pw ph bw bh _ _ rx ry hx hy ex ey k)

  pub is_down : ph - bh ≤ ry → 6 ≡ lowest (place_tests u pw ph bw bh (luma_place x0 mvx pad) (luma_place y0 mvy pad))
  is_down k = answers (out_down u pw ph bw bh _ _ rx ry hx hy ex ey k)

  pub is_none : u ≡ false → pw < 2 ^ 63 → ph < 2 ^ 63 → rx < pw - bw → ry < ph - bh
      → 0 ≡ lowest (place_tests u pw ph bw bh (luma_place x0 mvx pad) (luma_place y0 mvy pad))
  is_none o s t k l = answers (none_out u pw ph bw bh _ _ rx ry hx hy ex ey s t o k l)

-- the phase's test by another name
pub same_test : {m : ℕ} {s t : Bool} (pw ph bw bh : ℕ) (px py : ℤ) → m ≡ lowest (place_tests s pw ph bw bh px py) → s ≡ t → m ≡ lowest (place_tests t pw ph bw bh px py)
same_test pw ph bw bh px py e g = e ∙ ap (λ (b : Bool). lowest (place_tests b pw ph bw bh px py)) g

-- ---- the tests of what is lent, as the code makes them

-- four tests of one number, made as one
one_short : (a b c d : Bool) (rest : List (ℕ × Bool)) → ((a || b) || c) || d ≡ true → 2 ≡ lowest ((2, a) ∷ (2, b) ∷ (2, c) ∷ (2, d) ∷ rest)
unfolding lowest
one_short true b c d rest t = refl
one_short false true c d rest t = refl
one_short false false true d rest t = refl
one_short false false false d rest t = hit rest t

none_short : (a b c d : Bool) (rest : List (ℕ × Bool)) {m : ℕ} → ((a || b) || c) || d ≡ false → m ≡ lowest rest
    → m ≡ lowest ((2, a) ∷ (2, b) ∷ (2, c) ∷ (2, d) ∷ rest)
unfolding lowest
none_short true b c d rest t e = absurd (false≢true (sym t))
none_short false true c d rest t e = absurd (false≢true (sym t))
none_short false false true d rest t e = absurd (false≢true (sym t))
none_short false false false d rest t e = miss 2 rest t e

module _ (f h v c w ht pad x0 y0 bw bh : ℕ) where
  abbrev pub all : ℕ
  all = lowest (lent_tests f h v c w ht pad x0 y0 bw bh)

  abbrev pub a_short : Bool
  a_short = ((short f (needed w ht pad) || short h (needed w ht pad)) || short v (needed w ht pad)) || short c (needed w ht pad)

  pub sides_refused : bad_sides w ht ≡ true → 1 ≡ all
  unfolding lent_tests
  sides_refused t = hit _ t

  module _ (s : bad_sides w ht ≡ false) where
    pub pad_refused : 128 < pad → 1 ≡ all
    unfolding lent_tests
    pad_refused t = miss 1 _ s (hit _ (lt-ltb _ _ t))

    module _ (p : pad ≤ 128) where
      pub short_refused : a_short ≡ true → 2 ≡ all
      unfolding lent_tests
      short_refused t = miss 1 _ s (miss 1 _ (le-ltb _ _ p) (one_short (short f (needed w ht pad)) (short h (needed w ht pad)) (short v (needed w ht pad)) (short c (needed w ht pad)) _ t))

      module _ (l : a_short ≡ false) where
        later : (m : ℕ) → m ≡ lowest ((3, bad_block 16 bw bh) ∷ (4, bad_position x0 y0) ∷ []) → m ≡ all
        unfolding lent_tests
        later m e =
            miss 1 _ s (miss 1 _ (le-ltb _ _ p) (none_short (short f (needed w ht pad)) (short h (needed w ht pad)) (short v (needed w ht pad)) (short c (needed w ht pad)) _ l e))

        pub block_refused : bad_block 16 bw bh ≡ true → 3 ≡ all
        block_refused t = later 3 (hit _ t)

        pub position_refused : bad_block 16 bw bh ≡ false → bad_position x0 y0 ≡ true → 4 ≡ all
        position_refused b t = later 4 (miss 3 _ b (hit _ t))

        pub none_refused : bad_block 16 bw bh ≡ false → bad_position x0 y0 ≡ false → 0 ≡ all
        none_refused b t = later 0 (miss 3 _ b (miss 4 _ t none))

-- and so in the tests of a lookup
pub same_lookup : {m : ℕ} {s t : Bool} (lent : List (ℕ × Bool)) (pw ph bw bh : ℕ) (px py : ℤ) → m ≡ lowest (lent ++ place_tests s pw ph bw bh px py) → s ≡ t
    → m ≡ lowest (lent ++ place_tests t pw ph bw bh px py)
same_lookup lent pw ph bw bh px py e g = e ∙ ap (λ (b : Bool). lowest (lent ++ place_tests b pw ph bw bh px py)) g

-- ---- THE LAWS OF 0

module _ (f h v c w ht pad x0 y0 bw bh : ℕ) where
  pub record LentOk : Type 0 where
    pub w1 : 1 ≤ w
    pub w2 : w ≤ 8192
    pub h1 : 1 ≤ ht
    pub h2 : ht ≤ 8192
    pub pad2 : pad ≤ 128
    pub f_room : (w + 2 * pad) * (ht + 2 * pad) ≤ f
    pub h_room : (w + 2 * pad) * (ht + 2 * pad) ≤ h
    pub v_room : (w + 2 * pad) * (ht + 2 * pad) ≤ v
    pub c_room : (w + 2 * pad) * (ht + 2 * pad) ≤ c
    pub bw1 : 1 ≤ bw
    pub bw2 : bw ≤ 16
    pub bh1 : 1 ≤ bh
    pub bh2 : bh ≤ 16
    pub x2 : x0 ≤ 65535
    pub y2 : y0 ≤ 65535

  pub lent_ok : 0 ≡ lowest (lent_tests f h v c w ht pad x0 y0 bw bh) → LentOk
  unfolding lent_tests
  lent_ok e =
      let p1 = passed _ _ _ e in
      let p2 = passed _ _ _ p1.1 in
      let p3 = passed _ _ _ p2.1 in
      let p4 = passed _ _ _ p3.1 in
      let p5 = passed _ _ _ p4.1 in
      let p6 = passed _ _ _ p5.1 in
      let p7 = passed _ _ _ p6.1 in
      let p8 = passed _ _ _ p7.1 in
      let a = both_inside 1 8192 w ht p1.0 in
      let b = both_inside 1 16 bw bh p7.0 in
      let x = both_below 65535 x0 y0 p8.0 in
      record {
        w1 = a.0;
        w2 = a.1;
        h1 = a.2;
        h2 = a.3;
        pad2 = ltb-false _ _ p2.0;
        f_room = ltb-false _ _ p3.0;
        h_room = ltb-false _ _ p4.0;
        v_room = ltb-false _ _ p5.0;
        c_room = ltb-false _ _ p6.0;
        bw1 = b.0;
        bw2 = b.1;
        bh1 = b.2;
        bh2 = b.3;
        x2 = x.0;
        y2 = x.1;
      }

-- of a place that is 2^29 up
pub record PlaceOk (pw ph bw bh x y : ℕ) : Type 0 where
  pub left : 2 ^ 29 ≤ x
  pub above : 2 ^ 29 ≤ y
  pub right : x + bw + 1 ≤ pw + 2 ^ 29
  pub below : y + bh + 1 ≤ ph + 2 ^ 29

place_ok : (unserved : Bool) (pw ph bw bh x y : ℕ) → 0 ≡ lowest (up_tests unserved pw ph bw bh x y) → PlaceOk pw ph bw bh x y
place_ok u pw ph bw bh x y e =
    let p1 = passed _ _ _ e in
    let p2 = passed _ _ _ p1.1 in
    let p3 = passed _ _ _ p2.1 in
    let p4 = passed _ _ _ p3.1 in
    let p5 = passed _ _ _ p4.1 in
    record { left = ltb-false _ _ p2.0; above = ltb-false _ _ p3.0; right = ltb-false _ _ p4.0; below = ltb-false _ _ p5.0 }

module _ (f h v c w ht pad x0 y0 bw bh : ℕ) where
  abbrev lent : List (ℕ × Bool)
  lent = lent_tests f h v c w ht pad x0 y0 bw bh

  -- tests that follow those of 1 to 4, and those of 5
  pub lent_then : (m : ℕ) (rest : List (ℕ × Bool)) → 0 ≡ lowest lent → m ≡ lowest rest → m ≡ lowest (lent ++ rest)
  unfolding lent_tests
  lent_then m rest = second lent rest m tt

  abbrev roomy : (out : ℕ) → List (ℕ × Bool)
  roomy out = lent ++ ((5, short out (bw * bh)) ∷ [])

  pub room_then : (out m : ℕ) (rest : List (ℕ × Bool)) → 0 ≡ lowest lent → bw * bh ≤ out → m ≡ lowest rest → m ≡ lowest (roomy out ++ rest)
  unfolding lent_tests
  room_then out m rest e b = second (roomy out) rest m tt (lent_then 0 _ e (miss 5 [] (le-ltb out (bw * bh) b) none))

  module _ (mvx mvy : ℤ) where
    abbrev at : Bool → List (ℕ × Bool)
    at unserved = place_tests unserved (wide w pad) (wide ht pad) bw bh (luma_place x0 mvx pad) (luma_place y0 mvy pad)

    pub place_then : (out : ℕ) (unserved : Bool) (m : ℕ) (rest : List (ℕ × Bool)) → 0 ≡ lowest lent → bw * bh ≤ out → 0 ≡ lowest (at unserved) → m ≡ lowest rest
        → m ≡ lowest (roomy out ++ at unserved ++ rest)
    unfolding lent_tests place_tests
    place_then out u m rest e b p = second (roomy out ++ at u) rest m tt (room_then out 0 (at u) e b p)

    -- an answer of those before the place's
    pub sooner : (out : ℕ) (unserved : Bool) (m : ℕ) (rest : List (ℕ × Bool)) → m ≡ lowest (roomy out) → (m ≡ 0 → ⊥) → m ≡ lowest (roomy out ++ at unserved ++ rest)
    sooner out u m rest e n = first (roomy out ++ at u) rest m (first (roomy out) (at u) m e n) n

    -- an answer of 0 says that no test of 1 to 4, nor of 6 by the place, held
    abbrev pub Passes : (unserved : Bool) → Type 0
    Passes unserved = (0 ≡ lowest lent) × (0 ≡ lowest (at unserved))

    pub ref_passes : 0 ≡ ref_refusal f h v c w ht pad x0 y0 bw bh mvx mvy → Passes (at_quarter (phase mvx 4) (phase mvy 4))
    unfolding ref_refusal lent_tests
    ref_passes e = split_zero lent (at (at_quarter (phase mvx 4) (phase mvy 4))) tt e

    pub qpel_passes : 0 ≡ qpel_refusal f h v c w ht pad x0 y0 bw bh mvx mvy → Passes (not (at_quarter (phase mvx 4) (phase mvy 4)))
    unfolding qpel_refusal lent_tests
    qpel_passes e = split_zero lent (at (not (at_quarter (phase mvx 4) (phase mvy 4)))) tt e

    pub block_passes : (out : ℕ) → 0 ≡ block_refusal f h v c w ht pad x0 y0 bw bh mvx mvy out → Passes (at_full (phase mvx 4) (phase mvy 4)) × (bw * bh ≤ out)
    unfolding block_refusal lent_tests place_tests
    block_passes out e =
        let u = at_full (phase mvx 4) (phase mvy 4) in
        let s = split_zero (roomy out ++ at u) ((6, at_quarter (phase mvx 4) (phase mvy 4) && bad_width bw) ∷ []) tt e in
        let t = split_zero (roomy out) (at u) tt s.0 in
        let r = split_zero lent ((5, short out (bw * bh)) ∷ []) tt t.0 in
        ((r.0, t.1), ltb-false _ _ (passed _ _ _ r.1).0)

    pub block_width : (out : ℕ) → 0 ≡ block_refusal f h v c w ht pad x0 y0 bw bh mvx mvy out → at_quarter (phase mvx 4) (phase mvy 4) && bad_width bw ≡ false
    unfolding block_refusal lent_tests place_tests
    block_width out e =
        (passed _ _ _ (split_zero (roomy out ++ at (at_full (phase mvx 4) (phase mvy 4))) ((6, at_quarter (phase mvx 4) (phase mvy 4) && bad_width bw) ∷ []) tt e).1).0

    abbrev pub Ok : Type 0
    Ok = LentOk f h v c w ht pad x0 y0 bw bh
        × PlaceOk (wide w pad) (wide ht pad) bw bh (x0 + up (2 ^ 31) mvx / 4 + pad) (y0 + up (2 ^ 31) mvy / 4 + pad)

    module _ (p : mag mvx < 2 ^ 31) (q : mag mvy < 2 ^ 31) where
      ok : (unserved : Bool) → Passes unserved → Ok
      ok u a =
          let t = up_tests_lem u (wide w pad) (wide ht pad) bw bh x0 y0 pad mvx mvy p q refl refl in
          (lent_ok f h v c w ht pad x0 y0 bw bh a.0, place_ok u (wide w pad) (wide ht pad) bw bh _ _ (a.1 ∙ ap lowest (sym t)))

      pub ref_ok : 0 ≡ ref_refusal f h v c w ht pad x0 y0 bw bh mvx mvy → Ok
      ref_ok e = ok _ (ref_passes e)

      pub qpel_ok : 0 ≡ qpel_refusal f h v c w ht pad x0 y0 bw bh mvx mvy → Ok
      qpel_ok e = ok _ (qpel_passes e)

      pub block_ok : (out : ℕ) → 0 ≡ block_refusal f h v c w ht pad x0 y0 bw bh mvx mvy out → Ok × (bw * bh ≤ out)
      block_ok out e = let s = block_passes out e in (ok _ s.0, s.1)
