-- The law of the test.
use Rattle.std.proofs.Common.{ℕ, ◌+◌, ◌&&◌, leb, sym, ap, ◌∙◌}
use Rattle.window.proofs.Tests.{in_reach_is}
use Rattle.window.proofs.in_reach.Goals as goal

pub returns : goal.returns
returns g c =
    let a = c.args in
    ap (λ (o : ℕ). leb (o + a.before) (a.at + a.pad) && leb (a.at + a.b + a.behind) (a.n + a.pad + o)) c.base-base.ensures
    ∙ sym (in_reach_is a.before a.behind a.at _ a.b a.n a.pad)
