use Rattle.std.proofs.Common.{◌≡◌, ◌≤◌, ℕ, length, subst, arith}
use Rattle.ix_lut.proofs.Masking.{HasFirst, has_none, has_next, has_only, has_every}
use Rattle.ix_lut.proofs.masks.bel_mask.Goals as goal

pub loop-j-init : goal.loop-j-init
loop-j-init c = has_none c.args.bel.now.lines

pub loop-j-preserved : goal.loop-j-preserved
loop-j-preserved c =
    let small = c.requires.on_lines c.loop-j.j c.loop-j-test.true in
    has_next c.args.bel.now.lines c.loop-j.j c.loop-j.mask (omega (arith, small)) c.loop-j.invariant

pub returns : goal.returns
returns c =
    let bel = c.args.bel.now in
    let long : length bel.lines ≡ 6 = omega arith in
    let room : bel.inputs ≤ length bel.lines = omega (arith, long, c.requires.few) in
    let done : c.loop-j.j ≡ bel.inputs = omega (arith, c.loop-j-test.false, c.loop-j.auto.j-end) in
    let has = subst (λ (n : ℕ). HasFirst bel.lines n c.loop-j.mask) done c.loop-j.invariant in
    record {
      only = has_only bel.lines bel.inputs c.loop-j.mask room has;
      every = has_every bel.lines bel.inputs c.loop-j.mask has;
    }
