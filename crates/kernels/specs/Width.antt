-- Words of the workshop: widths that have code of their own. No public contract rests on them. Assumes nothing.
use Rattle.std.specs.Prelude.{Bool, ◌||◌, ℕ, eqb}

-- the widths of blocks that are copied by rows of one move
abbrev pub copied : ℕ → Bool
copied bw = (eqb bw 16 || eqb bw 8) || (eqb bw 4 || eqb bw 2)
