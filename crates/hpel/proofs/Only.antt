-- Nothing else satisfies the five contracts: two outcomes for which one holds, of the same arguments, are equal; views have the same contents,
-- and the block has the same bytes. `Post` is the contract as Rattle reads it from the source, so a clause that says less breaks this file. Assumes nothing.
use mathlib.Core.Path.{◌≡◌, sym, ◌∙◌}
use mathlib.Core.List.{List}
use Prim.Native.Nat.{ℕ}
use denote.Ref.{Bor, MutBor}
use contract.Lifetimes.{Lfts}
use Rattle.std.specs.Prelude.{Result}
use Rattle.terms.specs.declared.block.Block.{Block}
use Rattle.terms.specs.declared.refusal.Refusal.{Refusal}
use Rattle.terms.proofs.Number.{one_answer}
use Rattle.hpel.specs.declared.Spot.{Spot}
use Rattle.hpel.specs.declared.Pair.{Pair}
use Rattle.hpel.specs.Reading.{contents}
use Rattle.hpel.proofs.Answer.{one_at, one_pair}
use Rattle.hpel.proofs.hpel_ref_at.Reads as ref-at
use Rattle.hpel.proofs.hpel_qpel_refs_at.Reads as qpel-refs-at
use Rattle.hpel.proofs.hpel_ref.Reads as ref
use Rattle.hpel.proofs.hpel_qpel_refs.Reads as qpel-refs
use Rattle.hpel.proofs.hpel_block.Reads as block

-- what is passed, and what is there at the return: four planes, the picture's sides and the pad, the block, and what is written
abbrev pub Passed : Type 0 → Type 0
Passed Out = Bor (List ℕ) × (Bor (List ℕ) × (Bor (List ℕ) × (Bor (List ℕ) × (ℕ × (ℕ × (ℕ × (Block × Out)))))))

abbrev pub Read : Type 0
Read = Passed (Unit {0})

abbrev pub Written : Type 0
Written = Passed (MutBor (List ℕ) × Unit {0})

abbrev pub out : Written → List ℕ
out x = x.1.1.1.1.1.1.1.1.0.now

pub hpel_ref_at_only : (κs : Lfts 1) (x s t : Read) (p q : Result Spot Refusal) → ref-at.Post κs x p s → ref-at.Post κs x q t → p ≡ q
hpel_ref_at_only κs x s t p q a b = one_at p q (a ∙ sym b)

pub hpel_qpel_refs_at_only : (κs : Lfts 1) (x s t : Read) (p q : Result Pair Refusal) → qpel-refs-at.Post κs x p s → qpel-refs-at.Post κs x q t → p ≡ q
hpel_qpel_refs_at_only κs x s t p q a b = one_pair p q (a ∙ sym b)

pub hpel_ref_only : (κs : Lfts 1) (x s t : Read) (p q : Bor (List ℕ)) → ref.Post κs x p s → ref.Post κs x q t → p.now ≡ q.now
hpel_ref_only κs x s t p q a b = a ∙ sym b

pub hpel_qpel_refs_only : (κs : Lfts 1) (x s t : Read) (p q : List (Bor (List ℕ))) → qpel-refs.Post κs x p s → qpel-refs.Post κs x q t → contents p ≡ contents q
hpel_qpel_refs_only κs x s t p q a b = a ∙ sym b

pub hpel_block_only : (κs : Lfts 2) (x s t : Written) (p q : Result (Unit {0}) Refusal) → block.Post κs x p s → block.Post κs x q t → (p ≡ q) × (out s ≡ out t)
hpel_block_only κs x s t p q a b = (one_answer p q (a.0 ∙ sym b.0), cc)
