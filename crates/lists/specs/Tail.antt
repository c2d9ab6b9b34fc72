-- A word of the replay: what a reading leaves of its text. No public contract rests on it. Assumes nothing.
use Rattle.std.specs.Prelude.{◌≡◌, List, ℕ, drop}

-- `left` is `text` without its first so many bytes
pub record IsTail (text left : List ℕ) : Type 0 where
  pub dropped : ℕ
  pub is : left ≡ drop dropped text
