-- Laws of `count` and of the test of a place. Assumes nothing.
use mathlib.Core.Path.{◌≡◌, refl, sym, ap, ap₂, ◌∙◌}
use mathlib.Core.Bool.{Bool, true, false, cond, ◌||◌}
use Prim.Native.Nat.{ℕ, zero, suc, ◌+◌, ◌*◌, ◌/◌, ◌%◌, ◌^◌, ◌≤◌, ◌<◌}
use native.Mathlib.Numerals.{add-one}
use native.Mathlib.Omega.{arith}
use lib.Dec.{leb, ltb}
use lib.IntN.{ℤ, pos, sub_ℕ}
use lib.Signed.{le_z, lt_z}
use borrow.Author.Tests.{lt-ltb, le-ltb, le-leb, lt-leb}
use mathlib.Core.Logic.{⊎_elim}
use Rattle.signed.proofs.Diff.{sub_ind, lt_or_le}
use lib.Signed.{mag}
use Rattle.signed.specs.Lift.{up}
use Rattle.signed.proofs.Linear.{diff}
use Rattle.place.proofs.CoordLaws.{luma_up}
use Rattle.std.specs.Prelude.{Result, Ok, Err, IsErrAnd}
use Rattle.std.proofs.lemmas.Result.{err_from_is_err_and}
use Rattle.terms.specs.declared.refusal.Refusal.{Refusal}
use Rattle.terms.specs.Refusal.{number_of}
use Rattle.terms.proofs.Number.{one_refusal}
use Rattle.place.proofs.Refused.{passed, both_inside, both_below, area, above_zero}
use Rattle.edge.specs.Edge.{count, off, answer, edges, edge_refusal, outside_count}
use Rattle.edge.specs.declared.Edges.{Edges}

-- a turn of the loop
pub count_yes : (n m : ℕ) (f : ℕ → Bool) → m ≡ count n f → f n ≡ true → m + 1 ≡ count (n + 1) f
unfolding count
count_yes n m f e t = omega (arith, e) ∙ sym (ap (λ (b : Bool). cond b (suc (count n f)) (count n f)) t) ∙ ap (λ (k : ℕ). count k f) (sym (add-one n))

pub count_no : (n m : ℕ) (f : ℕ → Bool) → m ≡ count n f → f n ≡ false → m ≡ count (n + 1) f
unfolding count
count_no n m f e t = e ∙ sym (ap (λ (b : Bool). cond b (suc (count n f)) (count n f)) t) ∙ ap (λ (k : ℕ). count k f) (sym (add-one n))

pub count_done : (m n k : ℕ) (f : ℕ → Bool) → m ≡ count k f → k ≡ n → m ≡ count n f
count_done m n k f e p = e ∙ ap (λ (i : ℕ). count i f) p

pub count_none : (f : ℕ → Bool) → 0 ≡ count 0 f
unfolding count
count_none f = refl

pub count_ext : (n : ℕ) (f g : ℕ → Bool) → ((k : ℕ) → f k ≡ g k) → count n f ≡ count n g
unfolding count
count_ext zero f g e = refl
count_ext (suc n) f g e = ap₂ (λ (b : Bool) (m : ℕ). cond b (suc m) m) (e n) (count_ext n f g e)

-- the test of a place, o up
pub off_is : (a o n : ℕ) → off (sub_ℕ a o) n ≡ ltb a o || leb (n + o) a
unfolding off
off_is a o n =
    sub_ind (λ z. lt_z z (pos 0) || le_z (pos n) z ≡ ltb a o || leb (n + o) a) a o
    (λ k e. ap₂ (λ (s t : Bool). s || t) (le-ltb k 0 (omega arith) ∙ sym (le-ltb a o (omega arith)))
    (⊎_elim (λ (h : k < n). lt-leb n k h ∙ sym (lt-leb (n + o) a (omega arith))) (λ (h : n ≤ k). le-leb n k h ∙ sym (le-leb (n + o) a (omega arith))) (lt_or_le k n)))
    (λ k e. sym (ap (λ (b : Bool). b || leb (n + o) a) (lt-ltb a o (omega arith))))

pub refused : (m n : ℕ) → (m ≡ 0 → ⊥) → ◌≡◌ {A = Edges} (record { refusal = m; count = 0 }) (answer m n)
refused zero n h = absurd (h refl)
refused (suc m) n h = refl

-- the code's count, of places that are 2^29 up, is the definition's
pub count_is : (w h x0 y0 bw bh : ℕ) (mvx mvy : ℤ) → mag mvx < 2 ^ 31 → mag mvy < 2 ^ 31 → (X Y m : ℕ)
    → X ≡ x0 + up (2 ^ 31) mvx / 4 → Y ≡ y0 + up (2 ^ 31) mvy / 4
    → m ≡ count (bw * bh) (λ k. off (sub_ℕ (X + k % bw) (2 ^ 29)) w || off (sub_ℕ (Y + k / bw) (2 ^ 29)) h) → m ≡ outside_count w h x0 y0 bw bh mvx mvy
unfolding outside_count diff
count_is w h x0 y0 bw bh mvx mvy p q X Y m ex ey e =
    e ∙ count_ext (bw * bh) _ _ (λ k. ap₂ (λ (u v : ℤ). off u w || off v h)
    (ap (λ (z : ℕ). sub_ℕ (z + k % bw) (2 ^ 29)) ex ∙ sym (luma_up x0 mvx (k % bw) p))
    (ap (λ (z : ℕ). sub_ℕ (z + k / bw) (2 ^ 29)) ey ∙ sym (luma_up y0 mvy (k / bw) q)))

-- what an answer of 0 tells
pub record EdgeOk (w h x0 y0 bw bh : ℕ) : Type 0 where
  pub w2 : w ≤ 8192
  pub h2 : h ≤ 8192
  pub bw1 : 1 ≤ bw
  pub bw2 : bw ≤ 16
  pub bh2 : bh ≤ 16
  pub x2 : x0 ≤ 65535
  pub y2 : y0 ≤ 65535
  pub few : bw * bh ≤ 256

pub edge_ok : (w h x0 y0 bw bh : ℕ) → 0 ≡ edge_refusal w h x0 y0 bw bh → EdgeOk w h x0 y0 bw bh
unfolding edge_refusal
edge_ok w h x0 y0 bw bh e =
    let p1 = passed _ _ _ e in
    let p3 = passed _ _ _ p1.1 in
    let p4 = passed _ _ _ p3.1 in
    let a = both_inside 1 8192 w h p1.0 in
    let b = both_inside 1 16 bw bh p3.0 in
    let x = both_below 65535 x0 y0 p4.0 in
    record { w2 = a.1; h2 = a.3; bw1 = b.0; bw2 = b.1; bh2 = b.3; x2 = x.0; y2 = x.1; few = area 16 bw bh 16 b.1 b.3 }

pub done : (n m k : ℕ) → 0 ≡ n → m ≡ k → ◌≡◌ {A = Edges} (record { refusal = 0; count = m }) (answer n k)
done zero m k e p = ap (λ (i : ℕ). record { refusal = 0; count = i }) p
done (suc n) m k e p = absurd (omega arith)

pub refuses : (n m k : ℕ) → m ≡ n → (m ≡ 0 → ⊥) → ◌≡◌ {A = Edges} (record { refusal = m; count = 0 }) (answer n k)
refuses n m k e h = refused m k h ∙ ap (λ (i : ℕ). answer i k) e

-- a refusal that `?` hands on
pub handed_edges : (r : Result ℕ Refusal) (e : Refusal) (n k : ℕ) → IsErrAnd r (λ x. x ≡ e) → number_of e ≡ n → edges r ≡ answer n k
handed_edges r e n k h q = let p = err_from_is_err_and r h in rw (p.1, p.2) (refuses n (number_of e) k q (above_zero e))

-- the record tells which answer it is
pub one_edges : (p q : Result ℕ Refusal) → edges p ≡ edges q → p ≡ q
one_edges (Ok m) (Ok n) e = ap Ok (ap (λ (x : Edges). x.count) e)
one_edges (Ok m) (Err b) e = absurd (above_zero b (sym (ap (λ (x : Edges). x.refusal) e)))
one_edges (Err a) (Ok n) e = absurd (above_zero a (ap (λ (x : Edges). x.refusal) e))
one_edges (Err a) (Err b) e = ap Err (one_refusal a b (ap (λ (x : Edges). x.refusal) e))
