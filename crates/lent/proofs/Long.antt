-- A scratch that is long enough refuses nothing. Assumes nothing.
use mathlib.Core.Path.{◌≡◌, refl, sym}
use mathlib.Core.Bool.{Bool, true, false}
use mathlib.Core.List.{List, [], ◌∷◌, ◌++◌}
use Prim.Native.Nat.{ℕ, zero, suc, ◌≤◌}
use lib.Dec.{T}
use borrow.Author.Tests.{le-ltb}
use Rattle.place.specs.Refusal.{lowest, padded_block_refusal}
use Rattle.place.proofs.Refused.{numbered, miss, none}
use Rattle.window.specs.Padded.{slices_refusal}

-- tests of which none holds change no answer
idle : (a b : List (ℕ × Bool)) → T (numbered a) → 0 ≡ lowest b → lowest (a ++ b) ≡ lowest a
unfolding lowest
idle [] b o e = sym e
idle ((zero, t) ∷ a) b o e = absurd o
idle ((suc n, true) ∷ a) b o e = refl
idle ((suc n, false) ∷ a) b o e = idle a b o e

pub long_scratch : (tile a b len w h pad stride x0 y0 bw bh out : ℕ) → 441 ≤ tile → 256 ≤ a → 256 ≤ b
    → slices_refusal tile a b len w h pad stride x0 y0 bw bh out ≡ padded_block_refusal 16 len w h pad stride x0 y0 bw bh out
unfolding slices_refusal padded_block_refusal
long_scratch tile a b len w h pad stride x0 y0 bw bh out p q r =
    idle _ _ tt (miss 5 _ (le-ltb tile 441 p) (miss 5 _ (le-ltb a 256 q) (miss 5 _ (le-ltb b 256 r) none)))
