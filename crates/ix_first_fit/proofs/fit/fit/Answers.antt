use Rattle.std.proofs.Common.{ap, sym, subst, ◌∙◌, slice_get}
use Rattle.ix_first_fit.specs.ByTypes.{of_type}
use Rattle.ix_first_fit.specs.Taken.{IsFirstSpot}
use Rattle.ix_first_fit.proofs.Fitting.{fits_step}
use Rattle.ix_first_fit.proofs.fit.fit.Goals as goal

pub returns-in-None-clause-err : goal.returns-in-None-clause-err
returns-in-None-clause-err c = record {
  enough = c.requires;
  places = c.loop-i.places;
  fit = c.loop-i.invariant.fit;
  count = c.loop-i.invariant.count ∙ sym c.in_ok-number_of-in-None.ensures;
  cell = c.at.result.now;
  at = ap (slice_get c.args.cells.now) c.in_ok-number_of-in-None.ensures ∙ c.at.ensures;
  full = subst (λ o. IsFirstSpot c.args.device.now c.loop-i.places c.at.result.now.ty o) c.in-None.is c.in_ok-next_spot.ensures;
}

pub loop-i-preserved : goal.loop-i-preserved
loop-i-preserved c =
    fits_step c.args.device.now c.args.cells.now c.loop-i.i c.loop-i.places c.in_ok-places-in-Some.places (λ q. of_type c.loop-i.last q) (λ q. of_type c.set.new.self q) c.at.result.now c.in-Some.spot c.at.ensures c.loop-i.invariant
    (subst (λ o. IsFirstSpot c.args.device.now c.loop-i.places c.at.result.now.ty o) c.in-Some.is c.in_ok-next_spot.ensures)
    c.in_ok-places-in-Some.ensures
    c.in_ok-set-in-Some.ensures
