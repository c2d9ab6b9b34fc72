-- `served::bad_width` meets its contract: the word's bits are the widths of a quarter phase, by computing each of them up to 16. Assumes nothing.
use Rattle.std.proofs.Common.{◌≡◌, ℕ, ◌/◌, ◌%◌, ◌^◌, eqb, refl, arith}
use Rattle.grid.proofs.Each.{Each, pick}
use Rattle.served.specs.Served.{bad_width}
use Rattle.served.proofs.bad_width.Statement.{statement}
use Rattle.served.proofs.bad_width.Tie as tie

abbrev Same : ℕ → Type 0
Same n = eqb (65808 / 2 ^ n % 2) 0 ≡ bad_width n

all : Each Same 17
all = (refl, (refl, (refl, (refl, (refl, (refl, (refl, (refl, (refl, (refl, (refl, (refl, (refl, (refl, (refl, (refl, (refl, tt)))))))))))))))))

pub bad_width_spec : {M : Type 1} → statement M
bad_width_spec = tie.close (tie.spec (λ c. omega (arith, c.requires)) (λ c. omega (arith, c.requires)) (λ c. pick Same 17 c.args.bw all (omega (arith, c.requires))))
