-- Nothing else satisfies a public contract: two results for which it holds, of the same arguments, are equal.
-- `Post` is the contract as Rattle reads it from the source, so a clause that says less breaks this file.
-- Assumes nothing.
use Rattle.std.proofs.Common.{◌≡◌, ℕ, ℤ, sym, ◌∙◌, ap}
use Rattle.std.specs.Prelude.{Result, Ok, Err}
use Rattle.terms.specs.declared.block.Mv.{Mv}
use Rattle.terms.specs.declared.refusal.Refusal.{Refusal}
use Rattle.terms.specs.declared.refusal.Refusal.TheVariants.{BadSide, ShortSource, BadBlock, BadPosition, ShortOutput, NotServed, BadReference}
use Rattle.terms.proofs.Number.{one_refusal}
use Rattle.terms.specs.Refusal.{number_of}
use Rattle.vectors.specs.declared.MvAnswer.{MvAnswer}
use Rattle.vectors.specs.declared.Neighbors.{Neighbors}
use Rattle.vectors.specs.declared.Partitions.{Partitions}
use Rattle.vectors.specs.Predict.{mv_answer}
use Rattle.vectors.proofs.median3.Reads as median3-reads
use Rattle.vectors.proofs.predict_mv.Reads as predict-mv-reads
use Rattle.vectors.proofs.predict_partition_mv.Reads as predict-partition-mv-reads
use Rattle.vectors.proofs.inter_partitions.Reads as inter-partitions-reads

apart : (m : Mv) (e : Refusal) → mv_answer (Ok m) ≡ mv_answer (Err e) → ⊥
apart m e h = named e (ap (λ (a : MvAnswer). a.refusal) h)
  where
    named : (e : Refusal) → 0 ≡ number_of e → ⊥
    named BadSide h = cc
    named ShortSource h = cc
    named BadBlock h = cc
    named BadPosition h = cc
    named ShortOutput h = cc
    named NotServed h = cc
    named BadReference h = cc

pub one_mv_answer : (p q : Result Mv Refusal) → mv_answer p ≡ mv_answer q → p ≡ q
one_mv_answer (Ok m) (Ok n) h = ap Ok (ap (λ (a : MvAnswer). a.mv) h)
one_mv_answer (Ok m) (Err e) h = absurd (apart m e h)
one_mv_answer (Err e) (Ok n) h = absurd (apart n e (sym h))
one_mv_answer (Err e) (Err f) h = ap Err (one_refusal e f (ap (λ (a : MvAnswer). a.refusal) h))

pub median3_only : (x : ℤ × (ℤ × (ℤ × Unit {0}))) (r t : ℤ) → median3-reads.Post tt x r x → median3-reads.Post tt x t x → r ≡ t
median3_only x r t p q = p ∙ sym q

pub predict_mv_only : (x : Neighbors × (ℤ × Unit {0})) (r t : Result Mv Refusal) → predict-mv-reads.Post tt x r x → predict-mv-reads.Post tt x t x → r ≡ t
predict_mv_only x r t p q = one_mv_answer r t (p ∙ sym q)

pub predict_partition_mv_only : (x : ℕ × (ℕ × (Neighbors × (ℤ × Unit {0})))) (r t : Result Mv Refusal) → predict-partition-mv-reads.Post tt x r x → predict-partition-mv-reads.Post tt x t x → r ≡ t
predict_partition_mv_only x r t p q = one_mv_answer r t (p ∙ sym q)

pub inter_partitions_only : (x : ℕ × Unit {0}) (r t : Partitions) → inter-partitions-reads.Post tt x r x → inter-partitions-reads.Post tt x t x → r ≡ t
inter_partitions_only x r t p q = p ∙ sym q
