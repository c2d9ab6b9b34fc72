-- Document 01, "Exact value for demand 3": the ends of d = 2048 P - A - B at each phase, and demand 3's own sentence. Assumes nothing.
use Rattle.std.specs.Prelude.{List, [], ◌∷◌, ℕ, ◌+◌, ◌*◌, ◌<◌, ◌≤◌, ℤ, pos, neg_ℤ, get_or, ◌<ℤ◌, ◌≤ℤ◌}
use Rattle.samples.specs.Phase.{Window}
use Rattle.promises.specs.Exact.{exact_a, exact_b, over}

-- the ends (less, most) say -less < d ≤ most
abbrev pub Ends : Type 0
Ends = ℕ × ℕ

abbrev pub Between : Ends → ℤ → Type 0
Between e d = (neg_ℤ (pos e.0) <ℤ d) × (d ≤ℤ pos e.1)

-- THE TABLE, by fy * 4 + fx as that of the phases: full, which is d = 0; one half or centre; one full and one half; two halves or centres
unfoldable pub ends : List Ends
ends =
    let full : Ends = (1, 0) in
    let half : Ends = (1024, 1024) in
    let mixed : Ends = (512, 1536) in
    let two : Ends = (1024, 2048) in
    full ∷ mixed ∷ half ∷ mixed
    ∷ mixed ∷ two ∷ two ∷ two
    ∷ half ∷ two ∷ half ∷ two
    ∷ mixed ∷ two ∷ two ∷ two ∷ []

abbrev pub ends_of : ℕ → ℕ → Ends
ends_of fx fy = get_or ends (fy * 4 + fx) (1, 0)

-- THE BOUND of a byte P, of a phase and the window around its place
unfoldable pub Within : (top fx fy : ℕ) → Window → (P : ℕ) → Type 0
Within top fx fy W P = Between (ends_of fx fy) (over top fx fy W P)

-- THE TENDER'S SENTENCE: P is less than half a grey level below, and at most one level above, the mean of A and B
unfoldable pub NearMean : (top fx fy : ℕ) → Window → (P : ℕ) → Type 0
NearMean top fx fy W P =
    (exact_a top fx fy W + exact_b top fx fy W < 2048 * P + 1024) × (2048 * P ≤ exact_a top fx fy W + exact_b top fx fy W + 2048)

-- OF A BLOCK: both, of each byte out[r * bw + c] of bw by bh, by the window of its place
unfoldable pub Bounded : (top fx fy bw bh : ℕ) (W : ℕ → ℕ → Window) (out : List ℕ) → Type 0
Bounded top fx fy bw bh W out =
    (c r : ℕ) → c < bw → r < bh → Within top fx fy (W c r) (get_or out (r * bw + c) 0) × NearMean top fx fy (W c r) (get_or out (r * bw + c) 0)
