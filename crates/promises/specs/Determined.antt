-- A contract that determines its outcome: any two outcomes that it allows, of the same arguments, have one answer and the same bytes in every buffer lent for writing. Assumes nothing.
use Rattle.std.specs.Prelude.{◌≡◌, List, ℕ}

-- x is what is passed; p and q are answers; s and t are what is there at the return, of which `bytes` are the buffers
abbrev pub Determined : {X R : Type 0} (Post : X → R → X → Type 0) (bytes : X → List (List ℕ)) → Type 0
Determined {X} {R} Post bytes = (x s t : X) (p q : R) → Post x p s → Post x q t → (p ≡ q) × (bytes s ≡ bytes t)

-- of a call that gives back views, which are seen by what they hold
abbrev pub Shown : {X R S : Type 0} (Post : X → R → X → Type 0) (held : R → S) → Type 0
Shown {X} {R} Post held = (x s t : X) (p q : R) → Post x p s → Post x q t → held p ≡ held q
