-- `luma::avg_row_into` meets its contract: the tests stand in the order of their numbers, and the averages are a row. Assumes nothing.
use mathlib.Core.Path.{ap₂}
use Rattle.std.proofs.Common.{ℕ, ◌<◌, ◌≤◌, length, get_or, take, refl, ap, ◌∙◌, lt-ltb, le-ltb}
use Rattle.std.proofs.lemmas.List.{length-take-le, get_or-take}
use Rattle.grid.specs.Block.{tab}
use Rattle.samples.specs.Tap.{mean}
use Rattle.place.proofs.Refused.{hit, miss, none}
use Rattle.average.proofs.Runs.{row_drawn}
use Rattle.luma.specs.Average.{row_refusal, row_mean}
use Rattle.luma.proofs.avg_row_into.Goals as goal

pub returns-then-a-w : goal.returns-then-a-w
unfolding row_refusal
returns-then-a-w c = (hit _ (lt-ltb _ _ c.if-a-w.true), refl)

pub returns-then-b-w : goal.returns-then-b-w
unfolding row_refusal
returns-then-b-w c = (miss 2 _ (le-ltb _ _ c.if-a-w.false) (hit _ (lt-ltb _ _ c.if-b-w.true)), refl)

pub returns-then-out-w : goal.returns-then-out-w
unfolding row_refusal
returns-then-out-w c =
    let short : length c.args.out.now < c.args.w = c.if-out-w.true in
    (miss 2 _ (le-ltb _ _ c.if-a-w.false) (miss 2 _ (le-ltb _ _ c.if-b-w.false) (hit _ (lt-ltb _ _ short))), refl)

pub returns : goal.returns
unfolding row_refusal row_mean
returns c =
    let a = c.args.a.now in
    let b = c.args.b.now in
    let w = c.args.w in
    let long : w ≤ length c.args.out.now = c.if-out-w.false in
    let firsts : ℕ → ℕ = λ i. mean (get_or (take w a) i 0) (get_or (take w b) i 0) in (
      miss 2 _ (le-ltb _ _ c.if-a-w.false) (miss 2 _ (le-ltb _ _ c.if-b-w.false) (miss 5 _ (le-ltb _ _ long) none)),
      row_drawn c.args.out.now firsts (row_mean a b) refl (c.avg_run.ensures ∙ ap (λ (n : ℕ). tab n firsts) (length-take-le w c.args.out.now long)) refl
          (λ i h. ap₂ mean (get_or-take w a i 0 h) (get_or-take w b i 0 h)),
    )
