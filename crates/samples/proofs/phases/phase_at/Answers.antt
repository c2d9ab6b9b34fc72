-- `samples::phases::phase_at` meets its contract: the bytes of the code's table, taken apart, are the paper's table, by computing. Assumes nothing.
use mathlib.Core.Path.{◌≡◌, sym, ap, ap₂, ◌∙◌}
use mathlib.Core.List.{List, [], ◌∷◌}
use Prim.Native.Nat.{ℕ, ◌+◌, ◌*◌, ◌/◌, ◌%◌}
use lib.ListN.{get_or, get_or-map}
use Rattle.samples.specs.declared.phases.Kind.{Kind}
use Rattle.samples.specs.declared.phases.Phase.{Phase}
use Rattle.samples.specs.Phase.{plane_number, at, pair, phases}
use Rattle.samples.proofs.Reach.{kind_of, is_kind}
use Rattle.samples.proofs.phases.phase_at.Goals as goal

-- the anchors of a byte whose kinds are read, and of a byte
abbrev shifted : ℕ → Kind → Kind → Phase
shifted k p q = pair (at p (k / 4 % 2) (k / 8 % 2)) (at q (k / 64 % 2) (k / 128))

abbrev apart : ℕ → Phase
apart k = shifted k (kind_of (k % 4)) (kind_of (k / 16 % 4))

abbrev bytes : List ℕ
bytes = 0 ∷ 16 ∷ 17 ∷ 20 ∷ 32 ∷ 33 ∷ 49 ∷ 97 ∷ 34 ∷ 50 ∷ 51 ∷ 99 ∷ 40 ∷ 146 ∷ 147 ∷ 150 ∷ []

-- the kind that has a number
found : {k : Kind} {n : ℕ} → plane_number k ≡ n → k ≡ kind_of n
found {k} e = sym (is_kind k) ∙ ap kind_of e

pub returns : goal.returns
unfolding phases
returns c =
    ap₂ (shifted (get_or bytes (c.args.fy * 4 + c.args.fx) 0)) (found c.kind_of.ensures) (found c.kind_of-2.ensures)
    ∙ sym (get_or-map apart bytes (c.args.fy * 4 + c.args.fx) 0)
