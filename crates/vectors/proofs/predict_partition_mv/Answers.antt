-- Which neighbour the part takes, by the definition's numbers.
-- Assumes nothing.
use Rattle.std.proofs.Common.{◌≡◌, false, sym, ◌∙◌, to_z-of_z}
use Rattle.vectors.specs.Predict.{bad_reference}
use Rattle.vectors.proofs.Sides.{taken, passed, none_taken}
use Rattle.vectors.proofs.predict_partition_mv.Goals as goal
use Rattle.vectors.proofs.predict_partition_mv.Goals.{in-Some+else-serves, in_default}

pub returns-then-serves : goal.returns-then-serves
returns-then-serves c =
    let good : bad_reference c.args.cur_ref ≡ false = sym (simp (to_z-of_z c.ranges.cur_ref) at c.bad_reference.ensures) ∙ c.if-bad_reference.false in
    let t = sym (simp (to_z-of_z c.ranges.cur_ref) at c.serves.ensures) ∙ c.if-serves.true in
    taken _ _ _ _ _ _ good c.from.ensures _ _ c.in-Some.ensures c.at-n.ensures t

pub returns : goal.returns
returns c =
    let good : bad_reference c.args.cur_ref ≡ false = sym (simp (to_z-of_z c.ranges.cur_ref) at c.bad_reference.ensures) ∙ c.if-bad_reference.false in
    rw (simp (to_z-of_z c.ranges.cur_ref) at c.predicted.ensures) (elim c.match-side.branch [
      | in-Some+else-serves w ↦ passed _ _ _ _ _ _ good c.from.ensures _ _ w.in-Some.ensures w.at-n.ensures (sym (simp (to_z-of_z c.ranges.cur_ref) at w.serves.ensures) ∙ w.if-serves.false)
      | in_default w ↦ none_taken _ _ _ _ _ _ good c.from.ensures w.in_default.ensures
    ])
