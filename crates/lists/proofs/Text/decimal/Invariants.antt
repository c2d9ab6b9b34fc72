-- `lists::Text::decimal`: what is left is a tail of the text, and shorter once there is a value.
use Rattle.std.proofs.Common.{◌<◌, length, IfSome}
use Rattle.lists.specs.Tail.{IsTail}
use Rattle.lists.proofs.Text.decimal.Given as goal

abbrev pub invariant-loop : goal.invariant-loop
invariant-loop l = record {
  shorter : IfSome l.value (λ _. length l.self.rest.now < length l.initial.self.rest.now);
  left : IsTail l.initial.self.rest.now l.self.rest.now;
}
