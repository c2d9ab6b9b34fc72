-- Document 01, "Planes with margins": what `expand_plane` leaves. Assumes nothing.
use Rattle.std.specs.Prelude.{cond, List, ℕ, ◌+◌, ◌*◌, ◌-◌, min, ltb}
use Rattle.grid.specs.Block.{sample, drawn}

-- the column and the row of the buffer whose byte stands in column x and row y once the margins are filled:
-- the picture's nearest; a gap, past w + 2 * pad, is its own column
unfoldable pub from_col : (pad w x : ℕ) → ℕ
from_col pad w x = cond (ltb x (w + 2 * pad)) (pad + min (x - pad) (w - 1)) x

abbrev pub from_row : (pad h y : ℕ) → ℕ
from_row pad h y = pad + min (y - pad) (h - 1)

-- the buffer with its margins filled; bytes past its rows are kept
unfoldable pub expanded : (buf : List ℕ) (stride pad w h : ℕ) → List ℕ
expanded buf stride pad w h = drawn buf stride (h + 2 * pad) (λ x y. sample buf stride (from_col pad w x) (from_row pad h y))

-- the picture's sample in column i and row j, which stands pad columns and pad rows on
unfoldable pub interior : (buf : List ℕ) (stride pad i j : ℕ) → ℕ
interior buf stride pad i j = sample buf stride (pad + i) (pad + j)
