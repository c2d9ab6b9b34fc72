-- The loop's invariant: n counts the first k positions.
use Rattle.std.proofs.Common.{ℕ, ◌+◌, ◌/◌, ◌%◌, ◌^◌, ◌≤◌, ◌≡◌, Bool, ◌||◌}
use lib.IntN.{sub_ℕ}
use Rattle.edge.specs.Edge.{count, off}
use Rattle.edge.proofs.count_off.Given as goal

-- the test at position k
abbrev pub test : (x y w h bw k : ℕ) → Bool
test x y w h bw k = off (sub_ℕ (x + k % bw) (2 ^ 29)) w || off (sub_ℕ (y + k / bw) (2 ^ 29)) h

abbrev pub invariant-loop-k : goal.invariant-loop-k
invariant-loop-k l = record {
  upto : l.k ≤ l.total;
  few : l.n ≤ l.k;
  is : l.n ≡ count l.k (test l.x l.y l.w l.h l.bw);
}
