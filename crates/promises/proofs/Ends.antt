-- How close d comes to the document's ends: each upper end is attained; the least d is -960 at a half, -1022 at the centre, -480 at a full sample with
-- a half, -960 at two halves and -991 at a half with the centre. These are proved to be ends, and windows attain each at each phase. Assumes nothing.
use mathlib.Core.Path.{◌≡◌, refl}
use mathlib.Core.List.{List, [], ◌∷◌, map}
use Prim.Native.Nat.{ℕ, ◌+◌, ◌*◌, ◌-◌}
use lib.IntN.{ℤ, pos, ◌-ℤ◌}
use lib.ListN.{get_or}
use Rattle.samples.specs.Tap.{six_tap, clip, half, centre, mean}
use Rattle.samples.specs.Phase.{Window, anchor, phases, luma_sample}
use Rattle.promises.specs.Exact.{exact, over, excess}
use Rattle.promises.specs.Bound.{Ends, Between}
use Rattle.promises.proofs.Bounds.{closest, closely, table_is}

-- the closest ends, read as the document's: -less < d ≤ most
unfoldable pub sharp : List Ends
sharp =
    let full : Ends = (1, 0) in
    let mixed : Ends = (481, 1536) in
    let one : Ends = (961, 1024) in
    let core : Ends = (1023, 1024) in
    let two : Ends = (961, 2048) in
    let skew : Ends = (992, 2048) in
    full ∷ mixed ∷ one ∷ mixed
    ∷ mixed ∷ two ∷ skew ∷ two
    ∷ one ∷ skew ∷ core ∷ skew
    ∷ mixed ∷ two ∷ skew ∷ two ∷ []

by_kinds : map closest phases ≡ sharp
unfolding phases sharp
by_kinds = refl

pub sharply : (top fx fy : ℕ) (W : Window) → Between (get_or sharp (fy * 4 + fx) (1, 0)) (excess top fx fy W)
sharply top fx fy W = rw (table_is closest sharp by_kinds fx fy) (closely top fx fy W)

-- ---- windows that attain them

-- a window by its rows; what is not written is 0
abbrev rows : List (List ℕ) → Window
rows l i j = get_or (get_or l j []) i 0

-- turned about the diagonal; mirrored left to right; top to bottom
abbrev turn : Window → Window
turn W i j = W j i

abbrev left : Window → Window
left W i j = W (5 - i) j

abbrev up : Window → Window
up W i j = W i (5 - j)

-- d at each phase: `line` serves a half with or without a full sample, `cross` two halves, `skew` a half with the centre
abbrev each_phase : (line cross skew core : Window) → List ℤ
each_phase line cross skew core =
    let d : ℕ → ℕ → Window → ℤ = λ fx fy W. excess 255 fx fy W in
    d 0 0 line ∷ d 1 0 line ∷ d 2 0 line ∷ d 3 0 (left line)
    ∷ d 0 1 (turn line) ∷ d 1 1 cross ∷ d 2 1 skew ∷ d 3 1 (left cross)
    ∷ d 0 2 (turn line) ∷ d 1 2 (turn skew) ∷ d 2 2 core ∷ d 3 2 (left (turn skew))
    ∷ d 0 3 (up (turn line)) ∷ d 1 3 (up cross) ∷ d 2 3 (up skew) ∷ d 3 3 (left (up cross)) ∷ []

-- sums of 16, which round up, and of 15, which do not
abbrev tie : List ℕ
tie = 0 ∷ 0 ∷ 0 ∷ 1 ∷ 1 ∷ 1 ∷ []

abbrev under : List ℕ
under = 0 ∷ 0 ∷ 0 ∷ 1 ∷ 1 ∷ 0 ∷ []

unfoldable pub most : List ℤ
most =
    each_phase (rows ([] ∷ [] ∷ tie ∷ []))
    (rows ((0 ∷ 0 ∷ 8 ∷ []) ∷ [] ∷ tie ∷ (0 ∷ 0 ∷ 2 ∷ []) ∷ []))
    (rows ((16 ∷ 0 ∷ 60 ∷ []) ∷ [] ∷ tie ∷ []))
    (rows ((12 ∷ []) ∷ [] ∷ (25 ∷ []) ∷ []))

unfoldable pub least : List ℤ
least =
    each_phase (rows ([] ∷ [] ∷ under ∷ []))
    (rows ([] ∷ [] ∷ under ∷ (0 ∷ 0 ∷ 1 ∷ []) ∷ (0 ∷ 0 ∷ 1 ∷ []) ∷ []))
    (rows ((11 ∷ 0 ∷ 10 ∷ []) ∷ [] ∷ under ∷ []))
    (rows ((11 ∷ []) ∷ [] ∷ (25 ∷ []) ∷ []))

pub most_attained : most ≡ map (λ (e : Ends). pos e.1) sharp
unfolding most sharp excess over exact luma_sample phases anchor mean half centre six_tap clip
most_attained = refl

pub least_attained : least ≡ map (λ (e : Ends). pos 1 -ℤ pos e.0) sharp
unfolding least sharp excess over exact luma_sample phases anchor mean half centre six_tap clip
least_attained = refl
