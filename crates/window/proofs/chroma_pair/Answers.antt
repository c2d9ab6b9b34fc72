-- What is located by the shorter buffer lies in both, and the area that is read of each gives the definition.
use Rattle.std.proofs.Common.{◌≡◌, ◌+◌, ◌^◌, ◌≤◌, ℕ, List, length, ap, refl, ◌∙◌, w32, arith, rules}
use mir.Val.{SFits}
use Rattle.std.proofs.lemmas.List.{length-take}
use Rattle.samples.specs.Bilinear.{chroma_sample}
use Rattle.route.specs.Laws.{chroma_at_full}
use Rattle.route.proofs.Inside.{full}
use Rattle.window.proofs.Bridge.{block_in, chroma_seen}
use Rattle.window.proofs.chroma_pair.Goals as goal

pub locate_known-spot-requires : goal.locate_known-spot-requires
locate_known-spot-requires c =
    let g = c.args.u.g in
    let m = c.of-aim.result in
    let k = c.look-seen.ensures.block in
    (omega arith, (λ e. omega (arith, k, block_in 0 1 (2 ^ 28) m.x m.y m.w m.h g.pw g.ph g.pad g.stride c.reaches-inside.ensures c.look-seen.ensures.place e)))

-- the shorter buffer is no longer than the other
pub invariant_of-in_v-clause-inside : goal.invariant_of-in_v-clause-inside
invariant_of-in_v-clause-inside c =
    let seen = c.look-seen.ensures.source in
    let longer : length c.look-seen.result.area.samples.now ≤ length c.args.v.samples.now =
    omega (arith, ap (λ (l : List ℕ). length l) seen.0, length-take c.min-len.result c.args.u.samples.now, c.min-len.ensures) in
    omega (arith, longer, c.look-seen.result.area.inside)

pub returns-then-aim-eq0 : goal.returns-then-aim-eq0
returns-then-aim-eq0 c =
    let g = c.args.u.g in
    let b = c.args.block in
    let across : SFits w32 b.mv.x = search rules in
    let down : SFits w32 b.mv.y = search rules in
    let s = c.look-seen.result in
    let seen = c.look-seen.ensures in
    let none : s.aim.fx + s.aim.fy ≡ 0 = omega (arith, seen.block, c.if-aim-eq0.true) in (
      c.full_from.ensures
          ∙ full chroma_sample c.args.outu.now c.args.u.samples.now s.area.at s.area.stride s.area.w s.area.h (2 ^ 28) s.aim.x s.aim.y s.aim.fx s.aim.fy s.aim.w s.aim.h 0 chroma_at_full none
          ∙ chroma_seen c.args.outu.now c.args.u.samples.now g.stride g.pad g.pw g.ph b.x b.y b.w b.h b.mv.x b.mv.y across.sfits down.sfits
          c.of-aim.ensures c.reaches-inside.ensures seen.place (refl, seen.source.1) seen.block,
      c.full_from-then-aim-eq0.ensures
          ∙ full chroma_sample c.args.outv.now c.args.v.samples.now s.area.at s.area.stride s.area.w s.area.h (2 ^ 28) s.aim.x s.aim.y s.aim.fx s.aim.fy s.aim.w s.aim.h 0 chroma_at_full none
          ∙ chroma_seen c.args.outv.now c.args.v.samples.now g.stride g.pad g.pw g.ph b.x b.y b.w b.h b.mv.x b.mv.y across.sfits down.sfits
          c.of-aim.ensures c.reaches-inside.ensures seen.place (refl, seen.source.1) seen.block,
    )

pub returns : goal.returns
returns c =
    let g = c.args.u.g in
    let b = c.args.block in
    let across : SFits w32 b.mv.x = search rules in
    let down : SFits w32 b.mv.y = search rules in
    let seen = c.look-seen.ensures in (
      c.predict_from.ensures
          ∙ chroma_seen c.args.outu.now c.args.u.samples.now g.stride g.pad g.pw g.ph b.x b.y b.w b.h b.mv.x b.mv.y across.sfits down.sfits
          c.of-aim.ensures c.reaches-inside.ensures seen.place (refl, seen.source.1) seen.block,
      c.predict_from-2.ensures
          ∙ chroma_seen c.args.outv.now c.args.v.samples.now g.stride g.pad g.pw g.ph b.x b.y b.w b.h b.mv.x b.mv.y across.sfits down.sfits
          c.of-aim.ensures c.reaches-inside.ensures seen.place (refl, seen.source.1) seen.block,
    )
