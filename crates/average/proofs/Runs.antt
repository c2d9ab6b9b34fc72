-- Runs of averages: of parts of rows, and written to a part of a buffer. Assumes nothing.
use mathlib.Core.Path.{◌≡◌, refl, sym, ap, ap₂, ◌∙◌}
use mathlib.Core.List.{List, ◌++◌, append_assoc, append-nil}
use Prim.Native.Nat.{ℕ, ◌+◌, ◌*◌, ◌-◌, ◌≤◌, ◌<◌}
use native.Mathlib.Nat.{zero-add}
use native.Mathlib.Omega.{arith}
use lib.ListN.{length, get_or, take, drop}
use lib.Seq.{drop-drop}
use borrow.Rule.Slice.PartMut.{put_mid}
use Rattle.std.specs.List.{between}
use Rattle.std.proofs.lemmas.List.{drop_all}
use Rattle.std.proofs.lemmas.List.Edits.{get_or-between}
use Rattle.grid.specs.Block.{tab, by_rows, drawn}
use Rattle.grid.specs.Run.{put}
use Rattle.grid.proofs.Fill.{tab_ext, put_ext, put_put, put_length, put_long, by_rows_at, drawn_put}
use Rattle.grid.proofs.Loop.{Filled, filled_done}
use Rattle.samples.specs.Tap.{mean}

-- the averages of two rows
abbrev pub averaged : (a b : List ℕ) → ℕ → ℕ
averaged a b = λ i. mean (get_or a i 0) (get_or b i 0)

-- the same from index i on
abbrev pub means : (a b : List ℕ) (i : ℕ) → ℕ → ℕ
means a b i = λ j. mean (get_or a (i + j) 0) (get_or b (i + j) 0)

-- a run that fills the buffer
pub put_all : (d : List ℕ) (n : ℕ) (g : ℕ → ℕ) → length d ≤ n → put d 0 n g ≡ tab n g
unfolding put
put_all d n g h = ap (λ (l : List ℕ). tab n g ++ l) (drop_all (0 + n) d (omega arith)) ∙ append-nil (tab n g)

-- a run written to a part of the buffer
pub part : {x ys : List ℕ} {n k : ℕ} (d : List ℕ) (i : ℕ) (g : ℕ → ℕ) → x ≡ put_mid i k d ys → ys ≡ tab n g → k ≡ n → x ≡ put d i n g
unfolding put
part {x} {ys} {n} {k} d i g p q e =
    let s : i + k ≡ i + n = omega arith in
    p ∙ ap (λ (l : List ℕ). take i d ++ (l ++ drop k (drop i d))) q
    ∙ sym (append_assoc (take i d) (tab n g) (drop k (drop i d)))
    ∙ ap (λ (l : List ℕ). (take i d ++ tab n g) ++ l) (drop-drop k i d ∙ ap (λ (m : ℕ). drop m d) s)

-- the averages of two parts are those of the rows
pub of_parts : (a b : List ℕ) (i e f k n : ℕ) → i + n ≤ e → i + n ≤ f → k ≡ n
    → tab k (λ j. mean (get_or (between i e a) j 0) (get_or (between i f b) j 0)) ≡ tab n (means a b i)
of_parts a b i e f k n p q s =
    ap (λ (m : ℕ). tab m (λ j. mean (get_or (between i e a) j 0) (get_or (between i f b) j 0))) s
    ∙ tab_ext n _ _ (λ j c. ap₂ mean (get_or-between a i e j 0 (omega arith)) (get_or-between b i f j 0 (omega arith)))

-- a run written to the first w places is a block of one row
pub row_drawn : {x ys : List ℕ} {w k : ℕ} (d : List ℕ) (g : ℕ → ℕ) (f : ℕ → ℕ → ℕ) → x ≡ put_mid 0 k d ys → ys ≡ tab w g → k ≡ w
    → ((c : ℕ) → c < w → g c ≡ f c 0) → x ≡ drawn d w 1 f
row_drawn {x} {ys} {w} {k} d g f p q e s =
    let m : w ≡ w * 1 = omega arith in
    part d 0 g p q e
    ∙ put_ext d 0 w g (by_rows w f) (λ c h. s c h ∙ sym (by_rows_at w f c 0 h) ∙ ap (λ (z : ℕ). by_rows w f (z + c)) (omega arith) ∙ ap (by_rows w f) (zero-add c))
    ∙ ap (λ (z : ℕ). put d 0 z (by_rows w f)) m
    ∙ sym (drawn_put d w 1 f)

-- what stands after m more averages from index i on
pub more : {d e : List ℕ} {n i k : ℕ} (d₀ a b : List ℕ) → Filled d₀ 0 n (averaged a b) i d → i ≤ k → k ≤ n
    → e ≡ put d i (k - i) (means a b i) → Filled d₀ 0 n (averaged a b) k e
more {d} {e} {n} {i} {k} d₀ a b inv u v p =
    let s : i + (k - i) ≡ k = omega arith in
    record {
      upto = v;
      room = inv.room;
      len = ap length p ∙ put_length d i (k - i) (means a b i) (omega (arith, inv.len, inv.room)) ∙ inv.len;
      is = p
          ∙ ap₂ (λ (l : List ℕ) (z : ℕ). put l z (k - i) (means a b i)) inv.is (sym (zero-add i))
          ∙ put_put d₀ 0 i (k - i) (averaged a b) (means a b i) (omega (arith, inv.room)) (λ j h. refl)
          ∙ ap (λ (z : ℕ). put d₀ 0 z (averaged a b)) s;
    }

-- the same, as a call promises it
pub after_once : {d e : List ℕ} {i k : ℕ} (d₀ a b : List ℕ) → Filled d₀ 0 (length d₀) (averaged a b) i d
    → (i ≤ k) × (k ≤ length d) × (e ≡ put d i (k - i) (means a b i)) → Filled d₀ 0 (length d₀) (averaged a b) k e
after_once d₀ a b inv h = more d₀ a b inv h.0 (omega (arith, h.1, inv.len)) h.2

pub moved : {d : List ℕ} {n i k : ℕ} {g : ℕ → ℕ} (d₀ : List ℕ) → Filled d₀ 0 n g i d → i ≡ k → Filled d₀ 0 n g k d
moved {d} {n} {i} {k} {g} d₀ inv e = record { upto = omega (arith, inv.upto); room = inv.room; len = inv.len; is = inv.is ∙ ap (λ (z : ℕ). put d₀ 0 z g) e }

-- after all that is left
pub after_rest : {d e : List ℕ} {i : ℕ} (d₀ a b : List ℕ) → Filled d₀ 0 (length d₀) (averaged a b) i d → e ≡ put d i (length d - i) (means a b i)
    → e ≡ tab (length d₀) (averaged a b)
after_rest {d} {e} {i} d₀ a b inv p =
    let s : length d₀ - i ≡ length d - i = omega (arith, inv.len) in
    filled_done (more d₀ a b inv inv.upto (omega arith) (put_long d i (means a b i) p s)) (omega arith) ∙ put_all d₀ (length d₀) (averaged a b) (omega arith)
