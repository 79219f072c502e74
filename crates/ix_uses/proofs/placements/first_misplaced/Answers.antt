use Rattle.std.proofs.Common.{◌∙◌, sym, arith}
use Rattle.std.proofs.lemmas.Bool.{false≢true}
use Rattle.ix_walk.specs.Listed.{all_fit}
use Rattle.ix_uses.specs.Fitting.{PlacementFitsAt}
use Rattle.ix_uses.proofs.Fitted.{one_more_placed, fits_so, AreTrue}
use Rattle.ix_uses.proofs.placements.first_misplaced.Goals as goal
use Rattle.ix_uses.proofs.placements.first_misplaced.Goals.{then-alone, else-alone}
use Rattle.ix_uses.proofs.placements.first_misplaced.Goals.{then-is_admitted, else-is_admitted}

pub loop-i-preserved : goal.loop-i-preserved
loop-i-preserved c = elim c.if-is_admitted.branch [
  | then-is_admitted v ↦ elim c.if-alone.branch [
    | then-alone w ↦ one_more_placed c.args.device.now c.args.phys.now _ c.loop-i.i
        c.at-placement.result.now c.args.sites.now c.loop-i.cells c.is_alone.new.cells
        c.loop-i.bels c.is_alone.new.bels c.in_ok-alone.alone c.at-placement.ensures
        c.loop-i.invariant c.requires.marked c.in_ok-alone.ensures.alone w.if-alone.true
        (sym w.is_admitted.ensures ∙ sym w.value-is ∙ v.if-is_admitted.true)
        (sym v.has.ensures ∙ sym v.value-is ∙ c.if-not-has.false)
        c.is_alone.ensures.cells c.is_alone.ensures.count c.in_ok-alone.ensures.bels
    | else-alone w ↦ absurd (false≢true (sym w.if-alone.false ∙ sym w.value-is
        ∙ v.if-is_admitted.true))
  ]
  | else-is_admitted v ↦ absurd (false≢true (sym v.if-is_admitted.false ∙ sym v.value-is
      ∙ c.if-not-has.false))
]

pub returns-clause-told : goal.returns-clause-told
returns-clause-told c = all_fit (PlacementFitsAt c.args.device.now c.args.phys.now)
    c.args.phys.now.placements c.loop-i.i (omega arith) c.loop-i.invariant.fit

pub returns-then-not-has-clause-told : goal.returns-then-not-has-clause-told
returns-then-not-has-clause-told c = record {
  item = c.at-placement.result.now;
  item_is = c.at-placement.ensures;
  misfits = λ fits.
      let so : AreTrue c.args.device.now c.at-placement.result.now c.args.sites.now
      c.in_ok-alone.alone = fits_so c.args.device.now c.args.phys.now _ c.loop-i.i
      c.at-placement.result.now c.args.sites.now c.loop-i.cells c.loop-i.bels
      c.in_ok-alone.alone c.loop-i.invariant c.requires.marked c.in_ok-alone.ensures.alone fits
      in elim c.if-is_admitted.branch [
        | then-is_admitted v ↦ false≢true (sym c.if-not-has.true ∙ v.value-is ∙ v.has.ensures
            ∙ so.is_used)
        | else-is_admitted v ↦ elim c.if-alone.branch [
          | then-alone w ↦ false≢true (sym v.if-is_admitted.false ∙ w.value-is
              ∙ w.is_admitted.ensures ∙ so.is_admitted)
          | else-alone w ↦ false≢true (sym w.if-alone.false ∙ so.is_alone)
        ]
      ];
  before = c.loop-i.invariant.fit;
}
