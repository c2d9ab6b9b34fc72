-- `kernels::full::is_copied` meets its contract: the word's bits are the widths, by computing each of them up to 16. Assumes nothing.
use mathlib.Core.Path.{◌≡◌, refl}
use Prim.Native.Nat.{ℕ, ◌/◌, ◌%◌, ◌^◌}
use native.Mathlib.Omega.{arith}
use lib.Dec.{eqb}
use Rattle.grid.proofs.Each.{Each, pick}
use Rattle.kernels.specs.Width.{copied}
use Rattle.kernels.proofs.full.is_copied.Statement.{statement}
use Rattle.kernels.proofs.full.is_copied.Tie as tie

abbrev Same : ℕ → Type 0
Same n = eqb (65812 / 2 ^ n % 2) 1 ≡ copied n

all : Each Same 17
all = (refl, (refl, (refl, (refl, (refl, (refl, (refl, (refl, (refl, (refl, (refl, (refl, (refl, (refl, (refl, (refl, (refl, tt)))))))))))))))))

pub is_copied_spec : {M : Type 1} → statement M
is_copied_spec = tie.close (tie.spec (λ c. omega arith) (λ c. pick Same 17 c.args.bw all (omega (arith, c.requires))))
