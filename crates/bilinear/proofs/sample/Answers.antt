-- `bilinear::sample`: the weights sum to 64, so every sum fits, and each tap is a sample of the window. Assumes nothing.
use Rattle.std.proofs.Common.{◌≡◌, ◌+◌, ◌*◌, ◌-◌, ◌∙◌, ◌<◌, ℕ, List, get_or, ap, arith}
use Rattle.samples.specs.Bilinear.{chroma_sample}
use Rattle.samples.specs.Kernel.{window_at}
use Rattle.bilinear.proofs.Weights.{Weighed, weighed}
use Rattle.bilinear.proofs.sample.Goals as goal

sum : (x y a b c d : ℕ) → x < 8 → y < 8 → a < 256 → b < 256 → c < 256 → d < 256 → Weighed x y (8 - x) (8 - y) a b c d
sum x y a b c d p q r s t u = weighed _ _ _ _ _ _ _ _ (omega arith) (omega arith) r s t u

pub overflow_add-result-2 : goal.overflow_add-result-2
overflow_add-result-2 c =
    let f = c.args.f in
    omega (arith, sum f.x f.y c.wide-a.result c.wide-b.result c.wide-c.result c.wide-d.result (omega arith) (omega arith) (omega arith) (omega arith) (omega arith) (omega arith))

pub overflow_add-result-3 : goal.overflow_add-result-3
overflow_add-result-3 c =
    let f = c.args.f in
    omega (arith, sum f.x f.y c.wide-a.result c.wide-b.result c.wide-c.result c.wide-d.result (omega arith) (omega arith) (omega arith) (omega arith) (omega arith) (omega arith))

pub overflow_add-result-4 : goal.overflow_add-result-4
overflow_add-result-4 c =
    let f = c.args.f in
    omega (arith, sum f.x f.y c.wide-a.result c.wide-b.result c.wide-c.result c.wide-d.result (omega arith) (omega arith) (omega arith) (omega arith) (omega arith) (omega arith))

pub overflow_cast-result : goal.overflow_cast-result
overflow_cast-result c =
    let f = c.args.f in
    omega (arith, sum f.x f.y c.wide-a.result c.wide-b.result c.wide-c.result c.wide-d.result (omega arith) (omega arith) (omega arith) (omega arith) (omega arith) (omega arith))

-- the sample at k, by its column and row
at : (t : List ℕ) (p ts x y k i j : ℕ) → k ≡ p + (y + j) * ts + (x + i) → get_or t k 0 ≡ window_at t p ts x y i j
unfolding window_at
at t p ts x y k i j e = ap (λ (m : ℕ). get_or t m 0) e

pub returns : goal.returns
unfolding chroma_sample
returns c =
    let x = c.args.x in
    let y = c.args.y in
    let v = c.args.v in
    let s = v.samples.now in
    let p = v.at + y * v.stride + x in
    let q = p + v.stride in
    let here : c.wide-a.result ≡ window_at s v.at v.stride x y 0 0 = c.wide-a.ensures.0 ∙ at s v.at v.stride x y p 0 0 (omega arith) in
    let right : c.wide-b.result ≡ window_at s v.at v.stride x y 1 0 = c.wide-b.ensures.0 ∙ at s v.at v.stride x y (p + 1) 1 0 (omega arith) in
    let below : c.wide-c.result ≡ window_at s v.at v.stride x y 0 1 = c.wide-c.ensures.0 ∙ at s v.at v.stride x y q 0 1 (omega arith) in
    let across : c.wide-d.result ≡ window_at s v.at v.stride x y 1 1 = c.wide-d.ensures.0 ∙ at s v.at v.stride x y (q + 1) 1 1 (omega arith) in
    cc (here, right, below, across)
