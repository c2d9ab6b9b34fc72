-- What a text's first bytes leave is a tail of it, and so is a tail of a tail; none is longer than the text.
use Rattle.std.proofs.Common.{◌≡◌, ℕ, ◌+◌, ◌≤◌, ◌∙◌, Bool, true, false, MatchBool, List, length, drop, ap, arith, length-drop}
use Rattle.std.proofs.lemmas.List.{drop-drop}
use Rattle.lists.specs.Tail.{IsTail}

pub tail_dropped : (n : ℕ) {text left : List ℕ} → left ≡ drop n text → IsTail text left
tail_dropped n e = record { dropped = n; is = e }

pub tail_after : {text mid left : List ℕ} → IsTail text mid → IsTail mid left → IsTail text left
tail_after {text} {mid} {left} first then = record {
  dropped = first.dropped + then.dropped;
  is = then.is ∙ ap (drop then.dropped) first.is ∙ drop-drop then.dropped first.dropped text;
}

-- a byte taken, or none
pub tail_taken : {text left : List ℕ} (found : Bool) → MatchBool found (left ≡ drop 1 text) (left ≡ text) → IsTail text left
tail_taken true e = tail_dropped 1 e
tail_taken false e = tail_dropped 0 e

pub tail_no_longer : {text left : List ℕ} → IsTail text left → length left ≤ length text
tail_no_longer {text} {left} t = omega (arith, ap length t.is, length-drop t.dropped text)
