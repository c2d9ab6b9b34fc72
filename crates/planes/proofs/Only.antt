-- Nothing else satisfies the contracts of `pad_plane` and `build_hpel_planes`: two outcomes for which one holds, of the same arguments, have one answer
-- and the same bytes in every lent plane. `Post` is the contract as Rattle reads it from the source, so a clause that says less breaks this file. Assumes nothing.
use mathlib.Core.Path.{◌≡◌, sym, ◌∙◌}
use mathlib.Core.List.{List}
use Prim.Native.Nat.{ℕ}
use denote.Ref.{MutBor}
use contract.Lifetimes.{Lfts}
use Rattle.std.specs.Prelude.{Result}
use Rattle.terms.specs.declared.plane.Plane.{Plane}
use Rattle.terms.specs.declared.refusal.Refusal.{Refusal}
use Rattle.terms.proofs.Number.{one_answer}
use Rattle.planes.proofs.pad_plane.Reads as pad-plane-reads
use Rattle.planes.proofs.build_hpel_planes.Reads as build-hpel-planes-reads

abbrev Answer : Type 0
Answer = Result (Unit {0}) Refusal

-- what is passed, and what is there at the return: only `out` can have changed
abbrev Padded : Type 0
Padded = Plane × (ℕ × (MutBor (List ℕ) × Unit {0}))

pub pad_plane_only : (κs : Lfts 2) (x s t : Padded) (p q : Answer) → pad-plane-reads.Post κs x p s → pad-plane-reads.Post κs x q t
    → (p ≡ q) × (s.1.1.0.now ≡ t.1.1.0.now)
pad_plane_only κs x s t p q a b = (one_answer p q (a.0 ∙ sym b.0), cc)

-- the same with the four planes f, h, v and c
abbrev Built : Type 0
Built = Plane × (ℕ × (MutBor (List ℕ) × (MutBor (List ℕ) × (MutBor (List ℕ) × (MutBor (List ℕ) × Unit {0})))))

pub build_hpel_planes_only : (κs : Lfts 5) (x s t : Built) (p q : Answer) → build-hpel-planes-reads.Post κs x p s → build-hpel-planes-reads.Post κs x q t
    → (p ≡ q) × (s.1.1.0.now ≡ t.1.1.0.now) × (s.1.1.1.0.now ≡ t.1.1.1.0.now)
    × (s.1.1.1.1.0.now ≡ t.1.1.1.1.0.now) × (s.1.1.1.1.1.0.now ≡ t.1.1.1.1.1.0.now)
build_hpel_planes_only κs x s t p q a b = (one_answer p q (a.0 ∙ sym b.0), cc, cc, cc, cc)
