-- Vector prediction, document 01, "Vectors" (Rec. ITU-T H.264, clause 8.4.1.3), over the integers.
-- Assumes nothing.
use Rattle.std.specs.Prelude.{Bool, true, false, not, ◌&&◌, ◌||◌, ℤ, pos, negsuc, int_lt, Result, Ok, Err}
use Rattle.signed.specs.Order.{eq_z}
use Rattle.std.specs.Int.Signed.{le_z}
use Rattle.terms.specs.declared.block.Mv.{Mv}
use Rattle.terms.specs.declared.refusal.Refusal.{Refusal}
use Rattle.terms.specs.Refusal.{number_of}
use Rattle.vectors.specs.declared.MvNeighbor.{MvNeighbor}
use Rattle.vectors.specs.declared.Resolved.{Resolved}
use Rattle.vectors.specs.declared.MvAnswer.{MvAnswer}
use Rattle.vectors.specs.Median.{median}

-- the first where the test passes, else the second
abbrev pub pick : {X : Type 0} → Bool → X → X → X
pick true a b = a
pick false a b = b

abbrev pub zero_mv : Mv
zero_mv = record { x = pos 0; y = pos 0 }

-- a neighbour that is unavailable or has a negative reference counts as vector (0,0), reference -1
unfoldable pub resolved : MvNeighbor → Resolved
resolved n =
    pick (n.available && le_z (pos 0) n.ref_idx) (record { mv = n.mv; ref_idx = n.ref_idx })
    (record { mv = zero_mv; ref_idx = negsuc 0 })

unfoldable pub median_mv : Mv → Mv → Mv → Mv
median_mv a b c = record { x = median a.x b.x c.x; y = median a.y b.y c.y }

-- exactly one of three tests passes: its vector; else the median
abbrev pub by_match : Bool → Bool → Bool → Mv → Mv → Mv → Mv
by_match true true r a b c = median_mv a b c
by_match true false true a b c = median_mv a b c
by_match true false false a b c = a
by_match false true true a b c = median_mv a b c
by_match false true false a b c = b
by_match false false true a b c = c
by_match false false false a b c = median_mv a b c

unfoldable pub chosen_mv : Resolved → Resolved → Resolved → ℤ → Mv
chosen_mv a b c cur =
    by_match (eq_z a.ref_idx cur) (eq_z b.ref_idx cur) (eq_z c.ref_idx cur) a.mv b.mv c.mv

-- where only A is available, B and C take what A counts as
unfoldable pub predicted : MvNeighbor → MvNeighbor → MvNeighbor → ℤ → Mv
predicted a b c cur =
    pick (a.available && (not b.available && not c.available))
    (chosen_mv (resolved a) (resolved a) (resolved a) cur)
    (chosen_mv (resolved a) (resolved b) (resolved c) cur)

-- 7: the current reference is outside 0..31
unfoldable pub bad_reference : ℤ → Bool
bad_reference cur = int_lt cur (pos 0) || int_lt (pos 31) cur

abbrev pub no_reference : MvAnswer
no_reference = record { refusal = 7; mv = zero_mv }

unfoldable pub predict_answer : MvNeighbor → MvNeighbor → MvNeighbor → ℤ → MvAnswer
predict_answer a b c cur = pick (bad_reference cur) no_reference (record { refusal = 0; mv = predicted a b c cur })

-- an answer as C has it: 0 and the vector, or the refusal's number and (0,0)
abbrev pub mv_answer : Result Mv Refusal → MvAnswer
mv_answer (Ok m) = record { refusal = 0; mv = m }
mv_answer (Err e) = record { refusal = number_of e; mv = zero_mv }
