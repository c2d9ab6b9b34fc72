-- An answer in C's form tells which answer of a lookup it is. Assumes nothing.
use mathlib.Core.Path.{◌≡◌, sym, ap}
use Rattle.std.specs.Prelude.{Result, Ok, Err}
use Rattle.terms.specs.declared.refusal.Refusal.{Refusal}
use Rattle.terms.proofs.Number.{one_refusal}
use Rattle.planes.proofs.Laws.{above_zero}
use Rattle.samples.proofs.Reach.{one_kind}
use Rattle.hpel.specs.declared.Spot.{Spot}
use Rattle.hpel.specs.declared.Pair.{Pair}
use Rattle.hpel.specs.declared.HpelAt.{HpelAt}
use Rattle.hpel.specs.declared.HpelPair.{HpelPair}
use Rattle.hpel.specs.Answer.{at_answer, pair_answer}

pub one_at : (p q : Result Spot Refusal) → at_answer p ≡ at_answer q → p ≡ q
one_at (Ok s) (Ok t) e =
    let p = one_kind s.plane t.plane (ap (λ (k : HpelAt). k.plane) e) in
    let o = ap (λ (k : HpelAt). k.offset) e in
    let r = ap (λ (k : HpelAt). k.stride) e in
    λ i. Ok (record { plane = p i; offset = o i; stride = r i })
one_at (Ok s) (Err f) e = absurd (above_zero f (sym (ap (λ (k : HpelAt). k.refusal) e)))
one_at (Err d) (Ok t) e = absurd (above_zero d (ap (λ (k : HpelAt). k.refusal) e))
one_at (Err d) (Err f) e = ap Err (one_refusal d f (ap (λ (k : HpelAt). k.refusal) e))

pub one_pair : (p q : Result Pair Refusal) → pair_answer p ≡ pair_answer q → p ≡ q
one_pair (Ok s) (Ok t) e =
    let a = one_kind s.plane_a t.plane_a (ap (λ (k : HpelPair). k.plane_a) e) in
    let b = one_kind s.plane_b t.plane_b (ap (λ (k : HpelPair). k.plane_b) e) in
    let m = ap (λ (k : HpelPair). k.offset_a) e in
    let n = ap (λ (k : HpelPair). k.offset_b) e in
    let r = ap (λ (k : HpelPair). k.stride) e in
    λ i. Ok (record { plane_a = a i; plane_b = b i; offset_a = m i; offset_b = n i; stride = r i })
one_pair (Ok s) (Err f) e = absurd (above_zero f (sym (ap (λ (k : HpelPair). k.refusal) e)))
one_pair (Err d) (Ok t) e = absurd (above_zero d (ap (λ (k : HpelPair). k.refusal) e))
one_pair (Err d) (Err f) e = ap Err (one_refusal d f (ap (λ (k : HpelPair). k.refusal) e))
