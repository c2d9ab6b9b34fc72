-- What a call may rely on once nothing was refused; a plane's windows and the padded picture, in the code's unsigned places. Assumes nothing.
use mathlib.Core.Path.{◌≡◌, refl, sym, subst, ap, ap₂, ◌∙◌}
use mathlib.Core.Bool.{Bool, true, false, false≢true, ◌||◌}
use mathlib.Core.List.{List, [], ◌∷◌}
use Prim.Native.Nat.{ℕ, ◌+◌, ◌*◌, ◌/◌, ◌^◌, ◌≤◌, ◌<◌}
use native.Mathlib.Omega.{arith}
use lib.IntN.{ℤ, pos, negsuc, ◌+ℤ◌, ◌-ℤ◌}
use borrow.Author.Tests.{ltb-false}
use Rattle.signed.proofs.Linear.{diff, diff_same}
use Rattle.grid.specs.Block.{block, drawn, sample}
use Rattle.grid.specs.Run.{put}
use Rattle.grid.proofs.Fill.{put_ext, block_at, drawn_at, drawn_ext}
use Rattle.grid.proofs.Loop.{Filled, filled_done}
use Rattle.place.specs.Picture.{sample_at, window}
use Rattle.place.specs.Place.{clamp_z}
use Rattle.place.specs.Near.{near_area}
use Rattle.place.specs.Refusal.{bad_sides, bad_pad, short, lowest}
use Rattle.place.proofs.Refused.{hit, miss, none, passed, both_inside, first, second, split_zero}
use Rattle.place.proofs.Windows.{sample_is}
use Rattle.samples.specs.Tap.{half, centre}
use Rattle.samples.specs.Phase.{Window, phases, anchor, luma_sample}
use Rattle.samples.proofs.Reach.{mean_same, luma_six}
use Rattle.samples.proofs.Rows.{filled_by}
use Rattle.samples.proofs.Word.{to_diff}
use Rattle.terms.specs.declared.refusal.Refusal.{Refusal}
use Rattle.terms.specs.declared.refusal.Refusal.TheVariants.{BadSide, ShortSource, BadBlock, BadPosition, ShortOutput, NotServed, BadReference}
use Rattle.terms.specs.Refusal.{number_of}
use Rattle.planes.specs.Planes.{needed, padded_at, across_at, down_at, centre_at, pad_refusal, build_refusal}

-- ---- refusals

-- a refusal's number is not the answer of a call that is done
pub above_zero : (e : Refusal) → number_of e ≡ 0 → ⊥
above_zero BadSide h = omega arith
above_zero ShortSource h = omega arith
above_zero BadBlock h = omega arith
above_zero BadPosition h = omega arith
above_zero ShortOutput h = omega arith
above_zero NotServed h = omega arith
above_zero BadReference h = omega arith

-- the tests of the padded plane, and of the other three
abbrev pad_tests : (len w h pad out : ℕ) → List (ℕ × Bool)
pad_tests len w h pad out = (1, bad_sides w h) ∷ (1, bad_pad pad) ∷ (2, short len (w * h)) ∷ (5, short out (needed w h pad)) ∷ []

abbrev pub others : (n across down middle : ℕ) → List (ℕ × Bool)
others n across down middle = (5, short across n) ∷ (5, short down n) ∷ (5, short middle n) ∷ []

-- THE LAWS OF 0
pub record PadOk (len w h pad out : ℕ) : Type 0 where
  pub w1 : 1 ≤ w
  pub w2 : w ≤ 8192
  pub h1 : 1 ≤ h
  pub h2 : h ≤ 8192
  pub pad2 : pad ≤ 128
  pub src : w * h ≤ len
  pub dst : (w + 2 * pad) * (h + 2 * pad) ≤ out

pub pad_ok : (len w h pad out : ℕ) → 0 ≡ pad_refusal len w h pad out → PadOk len w h pad out
unfolding pad_refusal
pad_ok len w h pad out e =
    let p1 = passed _ _ _ e in
    let p2 = passed _ _ _ p1.1 in
    let p3 = passed _ _ _ p2.1 in
    let p4 = passed _ _ _ p3.1 in
    let a = both_inside 1 8192 w h p1.0 in
    record { w1 = a.0; w2 = a.1; h1 = a.2; h2 = a.3; pad2 = ltb-false _ _ p2.0; src = ltb-false _ _ p3.0; dst = ltb-false _ _ p4.0 }

module _ (len w h pad f across down middle : ℕ) where
  pub record BuildOk : Type 0 where
    pub plane : PadOk len w h pad f
    pub h_room : (w + 2 * pad) * (h + 2 * pad) ≤ across
    pub v_room : (w + 2 * pad) * (h + 2 * pad) ≤ down
    pub c_room : (w + 2 * pad) * (h + 2 * pad) ≤ middle

  -- the answer is the first group's, and else the second's
  pub build_first : (e : Refusal) → number_of e ≡ pad_refusal len w h pad f → number_of e ≡ build_refusal len w h pad f across down middle
  unfolding pad_refusal build_refusal
  build_first e g = first (pad_tests len w h pad f) (others (needed w h pad) across down middle) (number_of e) g (above_zero e)

  build_second : (r : ℕ) → 0 ≡ pad_refusal len w h pad f → r ≡ lowest (others (needed w h pad) across down middle) → r ≡ build_refusal len w h pad f across down middle
  unfolding pad_refusal build_refusal
  build_second r = second (pad_tests len w h pad f) (others (needed w h pad) across down middle) r tt

  -- the other three, tested as one
  pub one_short : 0 ≡ pad_refusal len w h pad f → (short across (needed w h pad) || short down (needed w h pad)) || short middle (needed w h pad) ≡ true
      → 5 ≡ build_refusal len w h pad f across down middle
  unfolding lowest
  one_short e t = build_second 5 e (go (short across (needed w h pad)) (short down (needed w h pad)) (short middle (needed w h pad)) t)
    where
      go : (a b c : Bool) → (a || b) || c ≡ true → 5 ≡ lowest ((5, a) ∷ (5, b) ∷ (5, c) ∷ [])
      go true b c t = refl
      go false true c t = refl
      go false false c t = hit [] t

  pub none_short : 0 ≡ pad_refusal len w h pad f → (short across (needed w h pad) || short down (needed w h pad)) || short middle (needed w h pad) ≡ false
      → 0 ≡ build_refusal len w h pad f across down middle
  unfolding lowest
  none_short e t = build_second 0 e (go (short across (needed w h pad)) (short down (needed w h pad)) (short middle (needed w h pad)) t)
    where
      go : (a b c : Bool) → (a || b) || c ≡ false → 0 ≡ lowest ((5, a) ∷ (5, b) ∷ (5, c) ∷ [])
      go true b c t = absurd (false≢true (sym t))
      go false true c t = absurd (false≢true (sym t))
      go false false c t = miss 5 [] t none

  pub build_ok : 0 ≡ build_refusal len w h pad f across down middle → BuildOk
  unfolding pad_refusal build_refusal
  build_ok e =
      let p = split_zero (pad_tests len w h pad f) (others (needed w h pad) across down middle) tt e in
      let q1 = passed _ _ _ p.1 in
      let q2 = passed _ _ _ q1.1 in
      let q3 = passed _ _ _ q2.1 in
      record { plane = pad_ok len w h pad f p.0; h_room = ltb-false _ _ q1.0; v_room = ltb-false _ _ q2.0; c_room = ltb-false _ _ q3.0 }

-- ---- places

-- a difference, named by other numbers
moved : (x k y b : ℕ) → x + b ≡ y + k → pos x -ℤ pos k ≡ diff y b
moved x k y b e = to_diff x k ∙ diff_same x k y b e

-- the padded picture, by places that are pad up
pub padded_is : (pic : List ℕ) (w h pad x y : ℕ) → near_area pic 0 w w h pad (0 + x) (0 + y) ≡ padded_at pic w h pad x y
unfolding padded_at
padded_is pic w h pad x y =
    sym (ap₂ (sample_at pic w h) (moved x pad (0 + x) pad (omega arith)) (moved y pad (0 + y) pad (omega arith)) ∙ sample_is pic w h pad (0 + x) (0 + y))

-- the window of a plane at (x, y), by places that are 2^29 up
plane_window : (f : List ℕ) (pw ph x y i j : ℕ)
    → window f pw ph (pos x) (pos y) i j ≡ near_area f 0 pw pw ph (2 ^ 29 + 2) (x + 2 ^ 29 + i) (y + 2 ^ 29 + j)
unfolding window
plane_window f pw ph x y i j =
    ap₂ (sample_at f pw ph) (moved (x + i) 2 _ (2 ^ 29 + 2) (omega arith)) (moved (y + j) 2 _ (2 ^ 29 + 2) (omega arith))
    ∙ sample_is f pw ph (2 ^ 29 + 2) (x + 2 ^ 29 + i) (y + 2 ^ 29 + j)

-- ---- samples of equal windows

module _ (W U : Window) (e : (i j : ℕ) → i < 6 → j < 6 → W i j ≡ U i j) where
  across_same : half 255 (λ k. W k 2) ≡ half 255 (λ k. U k 2)
  unfolding luma_sample phases anchor
  across_same = sym (mean_same _) ∙ luma_six 255 W U e 2 0 ∙ mean_same _

  down_same : half 255 (λ k. W 2 k) ≡ half 255 (λ k. U 2 k)
  unfolding luma_sample phases anchor
  down_same = sym (mean_same _) ∙ luma_six 255 W U e 0 2 ∙ mean_same _

  centre_same : centre 255 W ≡ centre 255 U
  unfolding luma_sample phases anchor
  centre_same = sym (mean_same _) ∙ luma_six 255 W U e 2 2 ∙ mean_same _

-- n samples from column x of row y on, of windows that read as the plane's, wherever they were read
module _ (f : List ℕ) (pw ph x y n : ℕ) (W : ℕ → Window)
    (e : (c i j : ℕ) → c < n → i < 6 → j < 6 → W c i j ≡ near_area f 0 pw pw ph (2 ^ 29 + 2) (x + 2 ^ 29 + c + i) (y + 2 ^ 29 + 0 + j)) where
  reads : (c : ℕ) → c < n → (i j : ℕ) → i < 6 → j < 6 → W c i j ≡ window f pw ph (pos (x + c)) (pos y) i j
  reads c b i j p q =
      let g : x + 2 ^ 29 + c + i ≡ x + c + 2 ^ 29 + i = omega arith in
      let k : y + 2 ^ 29 + 0 + j ≡ y + 2 ^ 29 + j = omega arith in
      e c i j b p q ∙ ap₂ (near_area f 0 pw pw ph (2 ^ 29 + 2)) g k ∙ sym (plane_window f pw ph (x + c) y i j)

  pub part : {h v m : List ℕ} (h₀ v₀ m₀ : List ℕ) (o : ℕ)
      → (h ≡ put h₀ o n (λ c. half 255 (λ k. W c k 2))) × (v ≡ put v₀ o n (λ c. half 255 (λ k. W c 2 k))) × (m ≡ put m₀ o n (λ c. centre 255 (W c)))
      → (h ≡ put h₀ o n (λ c. across_at f pw ph (x + c) y)) × (v ≡ put v₀ o n (λ c. down_at f pw ph (x + c) y)) × (m ≡ put m₀ o n (λ c. centre_at f pw ph (x + c) y))
  unfolding across_at down_at centre_at
  part h₀ v₀ m₀ o p = (
    p.0 ∙ put_ext h₀ o n _ _ (λ c b. across_same (W c) (window f pw ph (pos (x + c)) (pos y)) (reads c b)),
    p.1 ∙ put_ext v₀ o n _ _ (λ c b. down_same (W c) (window f pw ph (pos (x + c)) (pos y)) (reads c b)),
    p.2 ∙ put_ext m₀ o n _ _ (λ c b. centre_same (W c) (window f pw ph (pos (x + c)) (pos y)) (reads c b)),
  )

-- ---- a row, written sixteen samples at a time

module _ {d₀ d e : List ℕ} {o n : ℕ} {g : ℕ → ℕ} where
  pub next_part : {k : ℕ} {h : ℕ → ℕ} (i : ℕ) → Filled d₀ o n g (16 * i) d → i < n / 16 → e ≡ put d k 16 h → k ≡ o + 16 * i
      → ((j : ℕ) → j < 16 → g (16 * i + j) ≡ h j) → Filled d₀ o n g (16 * (i + 1)) e
  next_part i f b p q s =
      let t : 16 * i + 16 ≡ 16 * (i + 1) = omega arith in
      subst (λ (m : ℕ). Filled d₀ o n g m e) t (filled_by f (omega arith) p q s)

  -- m more from x on end it
  pub last_part : {k : ℕ} {h : ℕ → ℕ} (i x m : ℕ) → Filled d₀ o n g (16 * i) d → 16 * i ≡ x → x + m ≡ n → e ≡ put d k m h → k ≡ o + x
      → ((j : ℕ) → j < m → g (x + j) ≡ h j) → e ≡ put d₀ o n g
  last_part i x m f t b p q s = filled_done (filled_by (subst (λ (l : ℕ). Filled d₀ o n g l d) t f) (omega arith) p q s) (omega arith)

-- ---- a buffer that a plane was drawn into reads as the plane alone

pub clamped : (z : ℤ) (n : ℕ) → 0 < n → clamp_z z n < n
clamped (pos k) n b = omega arith
clamped (negsuc k) n b = omega arith

module _ (d : List ℕ) (w h : ℕ) (g : ℕ → ℕ → ℕ) (a : 0 < w) (b : 0 < h) where
  alone : (x y : ℤ) (i j : ℕ) → window (drawn d w h g) w h x y i j ≡ window (block w h g) w h x y i j
  unfolding window sample_at sample
  alone x y i j =
      let p = clamped (x +ℤ pos i -ℤ pos 2) w a in
      let q = clamped (y +ℤ pos j -ℤ pos 2) h b in
      drawn_at d w h g (clamp_z (x +ℤ pos i -ℤ pos 2) w) (clamp_z (y +ℤ pos j -ℤ pos 2) h) p q
      ∙ sym (block_at w h g (clamp_z (x +ℤ pos i -ℤ pos 2) w) (clamp_z (y +ℤ pos j -ℤ pos 2) h) p q)

  pub across_alone : (x y : ℕ) → across_at (drawn d w h g) w h x y ≡ across_at (block w h g) w h x y
  unfolding across_at
  across_alone x y = λ v. half 255 (λ k. alone (pos x) (pos y) k 2 v)

  pub down_alone : (x y : ℕ) → down_at (drawn d w h g) w h x y ≡ down_at (block w h g) w h x y
  unfolding down_at
  down_alone x y = λ v. half 255 (λ k. alone (pos x) (pos y) 2 k v)

  pub centre_alone : (x y : ℕ) → centre_at (drawn d w h g) w h x y ≡ centre_at (block w h g) w h x y
  unfolding centre_at
  centre_alone x y = λ v. centre 255 (λ i j. alone (pos x) (pos y) i j v)

-- a plane d of P that was built from such a buffer f
pub built : (P : List ℕ → ℕ → ℕ → ℕ → ℕ → ℕ) (d₀ f₀ : List ℕ) (w h : ℕ) (g : ℕ → ℕ → ℕ) {d f : List ℕ}
    → d ≡ drawn d₀ w h (P f w h) → f ≡ drawn f₀ w h g → ((x y : ℕ) → P (drawn f₀ w h g) w h x y ≡ P (block w h g) w h x y)
    → d ≡ drawn d₀ w h (P (block w h g) w h)
built P d₀ f₀ w h g p q e = p ∙ ap (λ (l : List ℕ). drawn d₀ w h (P l w h)) q ∙ drawn_ext d₀ w h _ _ (λ x y _ _. e x y)
