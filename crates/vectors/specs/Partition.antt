-- Partitions and their vectors, document 01, "Vectors" (Rec. ITU-T H.264, clause 8.4.1.3), over the integers.
-- Assumes nothing.
use Rattle.std.specs.Prelude.{ℕ, Bool, ◌&&◌, [], ◌∷◌, ℤ, ◌==◌, Option, Some, None}
use Rattle.signed.specs.Order.{eq_z}
use Rattle.vectors.specs.declared.MvNeighbor.{MvNeighbor}
use Rattle.vectors.specs.declared.MvAnswer.{MvAnswer}
use Rattle.vectors.specs.declared.Rect.{Rect}
use Rattle.vectors.specs.declared.Partitions.{Partitions}
use Rattle.vectors.specs.declared.Mode.{Mode}
use Rattle.vectors.specs.declared.Mode.TheVariants.{Whole, Rows, Columns, Quarters}
use Rattle.vectors.specs.declared.Side.{Side}
use Rattle.vectors.specs.declared.Side.TheVariants.{A, B, C}
use Rattle.vectors.specs.Predict.{pick, bad_reference, no_reference, predict_answer}

-- which neighbour a part of a mode takes directly: 0 none, 1 A, 2 B, 3 C
unfoldable pub side_of : ℕ → ℕ → ℕ
side_of mode part =
    pick (mode == 1) (pick (part == 0) 2 (pick (part == 1) 1 0))
    (pick (mode == 2) (pick (part == 0) 1 (pick (part == 1) 3 0)) 0)

-- a mode of the code, by its number; any other number is the whole
abbrev pub mode_number : Mode → ℕ
mode_number Whole = 0
mode_number Rows = 1
mode_number Columns = 2
mode_number Quarters = 3

abbrev pub mode_of : ℕ → Mode
mode_of n = pick (n == 1) Rows (pick (n == 2) Columns (pick (n == 3) Quarters Whole))

-- a side of the code, by its number
abbrev pub side_number : Option Side → ℕ
side_number None = 0
side_number (Some A) = 1
side_number (Some B) = 2
side_number (Some C) = 3

abbrev pub at_side : Side → MvNeighbor → MvNeighbor → MvNeighbor → MvNeighbor
at_side A a b c = a
at_side B a b c = b
at_side C a b c = c

-- available with the current reference
unfoldable pub served : MvNeighbor → ℤ → Bool
served n cur = n.available && eq_z n.ref_idx cur

unfoldable pub direct_answer : MvNeighbor → MvNeighbor → MvNeighbor → MvNeighbor → ℤ → MvAnswer
direct_answer n a b c cur = pick (served n cur) (record { refusal = 0; mv = n.mv }) (predict_answer a b c cur)

unfoldable pub partition_answer : ℕ → ℕ → MvNeighbor → MvNeighbor → MvNeighbor → ℤ → MvAnswer
partition_answer mode part a b c cur =
    pick (bad_reference cur) no_reference
    (pick (side_of mode part == 1) (direct_answer a a b c cur)
    (pick (side_of mode part == 2) (direct_answer b a b c cur)
    (pick (side_of mode part == 3) (direct_answer c a b c cur) (predict_answer a b c cur))))

abbrev pub rect_of : ℕ → ℕ → ℕ → ℕ → Rect
rect_of x y w h = record { x = x; y = y; w = w; h = h }

abbrev pub none : Rect
none = rect_of 0 0 0 0

-- places past the count hold zeros
abbrev pub partitions_of : ℕ → Partitions
partitions_of mode =
    pick (mode == 1) (record { count = 2; parts = rect_of 0 0 16 8 ∷ rect_of 0 8 16 8 ∷ none ∷ none ∷ [] })
    (pick (mode == 2) (record { count = 2; parts = rect_of 0 0 8 16 ∷ rect_of 8 0 8 16 ∷ none ∷ none ∷ [] })
    (pick (mode == 3) (record { count = 4; parts = rect_of 0 0 8 8 ∷ rect_of 8 0 8 8 ∷ rect_of 0 8 8 8 ∷ rect_of 8 8 8 8 ∷ [] })
    (record { count = 1; parts = rect_of 0 0 16 16 ∷ none ∷ none ∷ none ∷ [] })))
