-- `centre::round_lanes` meets its contract: each turn stores one rounded sum. Assumes nothing.
use mathlib.Core.Path.{◌≡◌, sym, ap, ◌∙◌}
use mathlib.Core.List.{List}
use mathlib.Core.Logic.{⊎_elim}
use Prim.Native.Nat.{ℕ, ◌+◌, ◌<◌, ◌-◌, ◌/◌}
use Prim.Native.Nat as nat
use native.Mathlib.Nat.{eq-or-lt_of_le}
use native.Mathlib.Omega.{arith}
use lib.ListN.{length, get_or, set, length-set}
use lib.Seq.{get_or-set_same, get_or-set_other}
use Rattle.centre.proofs.round_lanes.Goals as goal

-- the lanes before i, and a store at i
lane_more : (z : List ℕ) (g : ℕ → ℕ) {n i v : ℕ} → (length z ≡ n) × ((k : ℕ) → k < i → get_or z k 0 ≡ g k) → i < n → v ≡ g i
    → (length (set z i v) ≡ n) × ((k : ℕ) → k < i + 1 → get_or (set z i v) k 0 ≡ g k)
lane_more z g {n} {i} {v} h b e = (
  length-set z i v ∙ h.0,
  λ k a.
      ⊎_elim (λ (s : k ≡ i). ap (λ (x : ℕ). get_or (set z i v) x 0) s ∙ get_or-set_same z i v 0 (omega (arith, h.0)) ∙ e ∙ ap g (sym s))
      (λ (s : k < i). get_or-set_other z i k v 0 (λ t. omega arith) ∙ h.1 k s) (eq-or-lt_of_le (omega arith)),
)

pub loop-i-preserved : goal.loop-i-preserved
loop-i-preserved c =
    lane_more c.loop-i.z (λ k. nat.min 255 ((get_or c.args.w.now (k + 2) 0 + 16 - 2550) / 32)) c.loop-i.invariant (omega arith) c.round5.ensures
