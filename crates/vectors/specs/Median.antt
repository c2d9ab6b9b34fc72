-- Median( x, y, z ) = x + y + z − Min( x, Min( y, z ) ) − Max( x, Max( y, z ) ) (Rec. ITU-T H.264, clause 5.7), over the integers.
-- Assumes nothing.
use Rattle.std.specs.Prelude.{ℤ, ◌+ℤ◌, ◌-ℤ◌}
use Rattle.signed.specs.Order.{min_z, max_z}

unfoldable pub median : ℤ → ℤ → ℤ → ℤ
median x y z = x +ℤ y +ℤ z -ℤ min_z x (min_z y z) -ℤ max_z x (max_z y z)
