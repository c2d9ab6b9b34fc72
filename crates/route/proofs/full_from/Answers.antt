-- The block is read in place, or its clamped samples are written.
use Rattle.std.proofs.Common.{sym, ◌∙◌, arith}
use Rattle.std.proofs.lemmas.Option.{MatchOption-at_some}
use native.Mathlib.Numerals.{unary_clauses}
use Rattle.grid.proofs.Fill.{drawn_ext}
use Rattle.route.proofs.Inside.{in_place}
use Rattle.route.proofs.full_from.Goals as goal

pub full_block-requires : goal.full_block-requires
full_block-requires g c = let l = MatchOption-at_some _ _ _ c.in-Some.is c.requires.1 in (l.0, omega (arith, l.1.room), omega arith)

pub returns-in-Some : goal.returns-in-Some
returns-in-Some g c =
    let l = MatchOption-at_some _ _ _ c.in-Some.is c.requires.1 in
    c.full_block.ensures ∙ drawn_ext c.args.out.now c.args.aim.w c.args.aim.h _ _ (λ x y i j. sym (in_place c.args.area.samples.now l.1 x y i j))

pub returns-in-None : goal.returns-in-None
returns-in-None g c = simp unary_clauses at c.tile_into.ensures
