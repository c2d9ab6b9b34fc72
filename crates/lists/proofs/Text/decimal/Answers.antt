-- `lists::Text::decimal`: a digit is read only where the text has a byte, so that it gets shorter.
use Rattle.std.proofs.Common.{◌≡◌, ℕ, ◌<◌, Option, None, Some, List, [], ◌∷◌, length, slice_get, ap, arith, length-drop}
use Rattle.lists.proofs.Tails.{tail_after, tail_dropped, tail_no_longer}
use Rattle.lists.proofs.Text.decimal.Goals as goal

has_first : (text : List ℕ) (first digit : Option ℕ) (d : ℕ) → first ≡ slice_get text 0 → (first ≡ None → digit ≡ None) → digit ≡ Some d → 0 < length text
has_first [] first digit d is none some = let empty = none is in cc
has_first (x ∷ xs) first digit d is none some = omega arith

pub loop-preserved : goal.loop-preserved
loop-preserved c =
    let text = c.loop.self.rest.now in
    let none : c.first.result ≡ None → c.and_then.result ≡ None = λ (e : c.first.result ≡ None). rw e at c.and_then.ensures in
    record {
      shorter = omega (arith, has_first text c.first.result c.and_then.result c.in-Some.digit c.first.ensures none c.in-Some.is, tail_no_longer c.loop.invariant.left, ap length c.skip.ensures, length-drop 1 text);
      left = tail_after c.loop.invariant.left (tail_dropped 1 c.skip.ensures);
    }
