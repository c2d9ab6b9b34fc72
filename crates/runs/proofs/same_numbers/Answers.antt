-- `runs::same_numbers`: lists of one length that are equal at each place are equal.
use Rattle.std.proofs.Common.{◌≡◌, get_or, ap, arith, Decides}
use Rattle.std.proofs.lemmas.Grind.{same_number_lists}
use Rattle.std.proofs.lemmas.Bool.Decides.{Decides-eqb}
use Rattle.std.proofs.lemmas.Slice.Eq.{slice_eq-Decides}
use Rattle.runs.proofs.same_numbers.Goals as goal

pub returns : goal.returns
returns c =
    let d : Decides c.eq.result (c.args.a.now ≡ c.args.b.now) = slice_eq-Decides Decides-eqb _ _ _ c.eq.ensures in
    (λ e k _. ap (λ xs. get_or xs k 0) (d.0 e), λ each. d.1 (same_number_lists _ _ (omega arith) (λ k below. each k (omega arith))))
