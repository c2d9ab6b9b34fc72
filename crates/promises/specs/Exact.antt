-- Document 01, "Exact value for demand 3": the anchors of a phase before rounding, in 1024ths, limited to 0 .. 1024 * top. Assumes nothing.
use Rattle.std.specs.Prelude.{ℕ, ◌+◌, ◌*◌, ℤ, pos, ◌-ℤ◌, ◌*ℤ◌}
use Rattle.samples.specs.declared.phases.Kind.{Kind}
use Rattle.samples.specs.declared.phases.Kind.TheVariants.{Full, Across, Down, Centre}
use Rattle.samples.specs.declared.phases.Anchor.{Anchor}
use Rattle.samples.specs.Tap.{six_tap, clip}
use Rattle.samples.specs.Phase.{Window, phase_of, luma_sample}

-- a full sample times 1024; a half sum times 32; a centre sum
abbrev pub exact_of : (top : ℕ) → Window → (kind : Kind) (dx dy : ℕ) → ℕ
exact_of top W Full dx dy = 1024 * W (2 + dx) (2 + dy)
exact_of top W Across dx dy = clip (1024 * top) (six_tap (λ k. pos (W k (2 + dy))) *ℤ pos 32)
exact_of top W Down dx dy = clip (1024 * top) (six_tap (λ k. pos (W (2 + dx) k)) *ℤ pos 32)
exact_of top W Centre dx dy = clip (1024 * top) (six_tap (λ i. six_tap (λ k. pos (W i k))))

unfoldable pub exact : (top : ℕ) → Window → Anchor → ℕ
exact top W a = exact_of top W a.kind a.dx a.dy

-- A and B: the exact anchors of a phase
abbrev pub exact_a : (top fx fy : ℕ) → Window → ℕ
exact_a top fx fy W = exact top W (phase_of fx fy).p

abbrev pub exact_b : (top fx fy : ℕ) → Window → ℕ
exact_b top fx fy W = exact top W (phase_of fx fy).q

-- d = 2048 P - A - B: twice 1024 times what the byte P has over the mean of A and B
unfoldable pub over : (top fx fy : ℕ) → Window → (P : ℕ) → ℤ
over top fx fy W P = pos (2048 * P) -ℤ pos (exact_a top fx fy W) -ℤ pos (exact_b top fx fy W)

-- d of the byte that the rule gives
unfoldable pub excess : (top fx fy : ℕ) → Window → ℤ
excess top fx fy W = over top fx fy W (luma_sample top fx fy W)
