-- The cases marked P in document 01, "Sums worked by hand", as one computed table: on the left the definitions, on the right the document. Assumes nothing.
use mathlib.Core.Path.{◌≡◌, refl}
use mathlib.Core.Bool.{true}
use mathlib.Core.List.{List, [], ◌∷◌, map}
use Prim.Native.Nat.{ℕ}
use lib.IntN.{ℤ, pos, negsuc}
use Rattle.vectors.specs.declared.MvNeighbor.{MvNeighbor}
use Rattle.vectors.specs.Median.{median}
use Rattle.vectors.specs.Predict.{resolved, median_mv, chosen_mv, predicted, bad_reference, predict_answer}
use Rattle.grid.specs.Block.{sample}
use Rattle.samples.specs.Tap.{six_tap, clip, half, centre, mean}
use Rattle.samples.specs.Phase.{anchor, phases, luma_sample}
use Rattle.samples.specs.Bilinear.{chroma_sample}
use Rattle.place.specs.Place.{luma_place, chroma_place}
use Rattle.place.specs.Picture.{sample_at, window, corner}
use Rattle.luma.specs.Luma.{predicted_luma}
use Rattle.chroma.specs.Chroma.{predicted_chroma}
use Rattle.promises.specs.Exact.{exact, over, excess}

-- a row of six samples, and a block of one sample at column x of it, moved by (v, 0)
abbrev in_row : List ℕ → ℕ → ℤ → List ℤ
in_row pic x v = pos (predicted_luma pic 6 1 x 0 v (pos 0) 0 0) ∷ []

abbrev R : List ℕ
R = 10 ∷ 20 ∷ 30 ∷ 40 ∷ 50 ∷ 60 ∷ []

abbrev rise : List ℕ
rise = 0 ∷ 0 ∷ 0 ∷ 1 ∷ 1 ∷ 1 ∷ []

-- six by six zeros with 1 at (2, 2), the block there moved by (u, v)
abbrev one : List ℕ
one =
    0 ∷ 0 ∷ 0 ∷ 0 ∷ 0 ∷ 0
    ∷ 0 ∷ 0 ∷ 0 ∷ 0 ∷ 0 ∷ 0
    ∷ 0 ∷ 0 ∷ 1 ∷ 0 ∷ 0 ∷ 0
    ∷ 0 ∷ 0 ∷ 0 ∷ 0 ∷ 0 ∷ 0
    ∷ 0 ∷ 0 ∷ 0 ∷ 0 ∷ 0 ∷ 0
    ∷ 0 ∷ 0 ∷ 0 ∷ 0 ∷ 0 ∷ 0 ∷ []

abbrev dot : ℤ → ℤ → List ℤ
dot u v = pos (predicted_luma one 6 6 2 2 u v 0 0) ∷ []

-- 0 64 over 128 192, moved by (u, v)
abbrev four : ℤ → ℤ → List ℤ
four u v = pos (predicted_chroma (0 ∷ 64 ∷ 128 ∷ 192 ∷ []) 2 2 0 0 u v 0 0) ∷ []

abbrev neighbour : ℤ → ℤ → ℤ → MvNeighbor
neighbour x y r = record { available = true; mv = record { x = x; y = y }; ref_idx = r }

-- A (4,8) ref 0, B (0,0) ref 1, C (12,-4) ref 1: refusal and vector for a current reference
abbrev predicts : ℤ → List ℤ
predicts cur =
    let a = predict_answer (neighbour (pos 4) (pos 8) (pos 0)) (neighbour (pos 0) (pos 0) (pos 1)) (neighbour (pos 12) (negsuc 3) (pos 1)) cur in
    pos a.refusal ∷ a.mv.x ∷ a.mv.y ∷ []

unfoldable pub table : List (List ℤ × List ℤ)
table =
    (in_row R 2 (pos 2), pos 35 ∷ [])
    ∷ (in_row R 2 (pos 1), pos 33 ∷ [])
    ∷ (in_row R 2 (pos 3), pos 38 ∷ [])
    ∷ (in_row R 2 (negsuc 0), pos 28 ∷ [])
    ∷ (in_row R 0 (pos 2), pos 14 ∷ [])
    ∷ (in_row R 5 (pos 2), pos 61 ∷ [])
    ∷ (in_row (0 ∷ 0 ∷ 255 ∷ 255 ∷ 0 ∷ 0 ∷ []) 2 (pos 2), pos 255 ∷ [])
    ∷ (in_row (0 ∷ 255 ∷ 0 ∷ 0 ∷ 255 ∷ 0 ∷ []) 2 (pos 2), pos 0 ∷ [])
    ∷ (in_row rise 2 (pos 2), pos 1 ∷ [])
    ∷ (in_row rise 2 (pos 1), pos 1 ∷ [])
    ∷ (excess 255 1 0 (window rise 6 1 (luma_place 2 (pos 1) 0) (luma_place 0 (pos 0) 0)) ∷ [], pos 1536 ∷ [])
    ∷ (dot (pos 2) (pos 0), pos 1 ∷ [])
    ∷ (dot (pos 2) (pos 2), pos 0 ∷ [])
    ∷ (dot (pos 2) (pos 1), pos 1 ∷ [])
    ∷ (four (pos 4) (pos 4), pos 96 ∷ [])
    ∷ (four (pos 1) (pos 0), pos 8 ∷ [])
    ∷ (median (pos 2147483647) (pos 2147483647) (pos 2147483646) ∷ [], pos 2147483647 ∷ [])
    ∷ (predicts (pos 0), pos 0 ∷ pos 4 ∷ pos 8 ∷ [])
    ∷ (predicts (pos 1), pos 0 ∷ pos 4 ∷ pos 0 ∷ [])
    ∷ []

pub worked : map (λ r. r.0) table ≡ map (λ r. r.1) table
unfolding table predicted_luma luma_sample phases anchor mean half centre six_tap clip window sample_at sample luma_place excess over exact predicted_chroma chroma_sample corner chroma_place median resolved median_mv chosen_mv predicted bad_reference predict_answer
worked = refl
