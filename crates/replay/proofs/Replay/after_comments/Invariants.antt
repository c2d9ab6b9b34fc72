-- `replay::Replay::after_comments` ends: each comment is taken from the text.
use Rattle.std.proofs.Common.{length}
use Rattle.replay.proofs.Replay.after_comments.Given as goal

abbrev pub decreases-loop-line : goal.decreases-loop-line
decreases-loop-line l = length l.text.rest.now
