use Rattle.std.proofs.Common.{◌≡◌, arith, length, subst, sym, inl, inr, refl}
use Rattle.std.proofs.lemmas.Bool.{cases_lt, false≢true, true≢false}
use Rattle.std.proofs.Common.{◌∙◌}
use Rattle.ix_lut.specs.Shapes.{held_by}
use Rattle.ix_fill_tables.specs.Bits.{AgreesAt}
use Rattle.ix_fill_tables.proofs.Valued.{all_agree, each_agrees}
use Rattle.ix_fill_tables.proofs.forcing.agrees.Goals as goal

pub loop-j-init : goal.loop-j-init
loop-j-init c i less = absurd (omega (arith, less))

pub returns-then-not-agrees_at : goal.returns-then-not-agrees_at
returns-then-not-agrees_at c =
    let long : length c.args.bel.now.lines ≡ 6 = omega arith in (
      λ e. absurd (false≢true e),
      λ agrees. absurd (true≢false (sym (c.agrees_at.ensures.1
          (each_agrees c.args.bel.now c.args.used.now (held_by c.args.ties.now) c.args.values long
          c.requires.bel.few agrees c.loop-j.j c.loop-j-test.true)) ∙ c.if-not-agrees_at.true)),
    )

pub loop-j-preserved : goal.loop-j-preserved
loop-j-preserved c i less = elim (cases_lt i c.loop-j.j) [
  | inl before ↦ c.loop-j.invariant i before
  | inr past ↦
      let same : c.loop-j.j ≡ i = omega (arith, less, past) in
      subst (AgreesAt c.args.bel.now.lines c.args.used.now (held_by c.args.ties.now)
      c.args.values) same (c.agrees_at.ensures.0 c.if-not-agrees_at.false)
]

pub returns : goal.returns
returns c =
    let long : length c.args.bel.now.lines ≡ 6 = omega arith in (
      λ e. all_agree c.args.bel.now c.args.used.now (held_by c.args.ties.now) c.args.values long
          c.requires.bel.few c.requires.values (λ j below. c.loop-j.invariant j
          (let past = c.loop-j-test.false in omega (arith, below, past))),
      λ agrees. refl,
    )
