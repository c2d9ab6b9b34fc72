-- Document 01, "Edge count": how many positions of a block lie outside the picture. Assumes nothing.
use Rattle.std.specs.Prelude.{Bool, cond, ◌||◌, [], ◌∷◌, ℕ, zero, suc, ◌*◌, ◌/◌, ◌%◌, ℤ, pos, Result, Ok, Err}
use Rattle.std.specs.Int.Signed.{le_z, lt_z}
use Rattle.terms.specs.declared.refusal.Refusal.{Refusal}
use Rattle.terms.specs.Refusal.{number_of}
use Rattle.place.specs.Place.{luma_place}
use Rattle.place.specs.Refusal.{lowest, bad_sides, bad_block, bad_position}
use Rattle.edge.specs.declared.Edges.{Edges}

-- how many of 0 .. n - 1 pass a test
unfoldable pub count : ℕ → (ℕ → Bool) → ℕ
count zero f = 0
count (suc n) f = cond (f n) (suc (count n f)) (count n f)

-- a place is not one of 0 .. n - 1
unfoldable pub off : ℤ → ℕ → Bool
off z n = lt_z z (pos 0) || le_z (pos n) z

unfoldable pub edge_refusal : (w h x0 y0 bw bh : ℕ) → ℕ
edge_refusal w h x0 y0 bw bh = lowest ((1, bad_sides w h) ∷ (3, bad_block 16 bw bh) ∷ (4, bad_position x0 y0) ∷ [])

-- the block's positions, by rows
unfoldable pub outside_count : (w h x0 y0 bw bh : ℕ) (mvx mvy : ℤ) → ℕ
outside_count w h x0 y0 bw bh mvx mvy = count (bw * bh) (λ k. off (luma_place x0 mvx (k % bw)) w || off (luma_place y0 mvy (k / bw)) h)

abbrev pub answer : ℕ → ℕ → Edges
answer zero n = record { refusal = 0; count = n }
answer (suc m) n = record { refusal = suc m; count = 0 }

-- the answer of the call as the record of C
abbrev pub edges : Result ℕ Refusal → Edges
edges (Ok n) = record { refusal = 0; count = n }
edges (Err e) = record { refusal = number_of e; count = 0 }
