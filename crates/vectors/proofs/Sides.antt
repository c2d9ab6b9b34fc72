-- The code's modes and sides are the definition's numbers.
-- Assumes nothing.
use Rattle.std.proofs.Common.{◌≡◌, ℕ, zero, suc, ℤ, true, false, refl, sym, ap, ◌∙◌, arith, ne_eqb}
use Rattle.std.specs.Prelude.{Option, Some, None}
use Rattle.vectors.specs.declared.MvNeighbor.{MvNeighbor}
use Rattle.vectors.specs.declared.Mode.{Mode}
use Rattle.vectors.specs.declared.Side.{Side}
use Rattle.vectors.specs.declared.Side.TheVariants.{A, B, C}
use Rattle.vectors.specs.Predict.{bad_reference, predicted, predict_answer}
use Rattle.vectors.specs.Partition.{mode_number, mode_of, side_number, at_side, side_of, served, direct_answer, partition_answer}

-- a number that is no mode has the sides of the whole
same_sides : (n part : ℕ) → side_of (mode_number (mode_of n)) part ≡ side_of n part
unfolding side_of
same_sides zero part = refl
same_sides (suc zero) part = refl
same_sides (suc (suc zero)) part = refl
same_sides (suc (suc (suc zero))) part = refl
same_sides (suc (suc (suc (suc n)))) part = simp (ne_eqb (suc (suc (suc (suc n)))) 1 (λ e. omega arith), ne_eqb (suc (suc (suc (suc n)))) 2 (λ e. omega arith), ne_eqb (suc (suc (suc (suc n)))) 3 (λ e. omega arith))

module _ (mode part : ℕ) {m : Mode} (a b c : MvNeighbor) (cur : ℤ) (good : bad_reference cur ≡ false) (is : m ≡ mode_of mode) where
  by_number : (s : Option Side) → side_number s ≡ side_of (mode_number m) part → side_number s ≡ side_of mode part
  by_number s e = e ∙ ap (λ (x : Mode). side_of (mode_number x) part) is ∙ same_sides mode part

  by_side : (s : Side) → side_number (Some s) ≡ side_of mode part → partition_answer mode part a b c cur ≡ direct_answer (at_side s a b c) a b c cur
  unfolding partition_answer
  by_side A e = simp (good, ← e)
  by_side B e = simp (good, ← e)
  by_side C e = simp (good, ← e)

  -- its neighbour serves
  pub taken : (s : Side) (n : MvNeighbor) → side_number (Some s) ≡ side_of (mode_number m) part → n ≡ at_side s a b c → served n cur ≡ true → record { refusal = 0; mv = n.mv } ≡ partition_answer mode part a b c cur
  unfolding direct_answer
  taken s n e q t = sym (by_side s (by_number (Some s) e) ∙ simp (← q, t))

  -- it does not
  pub passed : (s : Side) (n : MvNeighbor) → side_number (Some s) ≡ side_of (mode_number m) part → n ≡ at_side s a b c → served n cur ≡ false → record { refusal = 0; mv = predicted a b c cur } ≡ partition_answer mode part a b c cur
  unfolding direct_answer predict_answer
  passed s n e q t = sym (by_side s (by_number (Some s) e) ∙ simp (← q, t, good))

  -- the part takes none
  pub none_taken : 0 ≡ side_of (mode_number m) part → record { refusal = 0; mv = predicted a b c cur } ≡ partition_answer mode part a b c cur
  unfolding partition_answer predict_answer
  none_taken e = simp (good, ← by_number None e)
