-- `lists::Text::bytes` ends: each byte is taken from the text, of which a tail is left, a shorter one once there is a byte.
use Rattle.std.proofs.Common.{◌<◌, ◌≤◌, length}
use Rattle.lists.specs.Tail.{IsTail}
use Rattle.lists.proofs.Text.bytes.Given as goal

abbrev pub invariant-loop-byte : goal.invariant-loop-byte
invariant-loop-byte l = record {
  within : l.filled ≤ length l.room;
  shorter : 0 < l.filled → length l.self.rest.now < length l.initial.self.rest.now;
  left : IsTail l.initial.self.rest.now l.self.rest.now;
}

abbrev pub decreases-loop-byte : goal.decreases-loop-byte
decreases-loop-byte l = length l.self.rest.now
