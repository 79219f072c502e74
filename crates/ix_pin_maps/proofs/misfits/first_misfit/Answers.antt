use Rattle.std.proofs.Common.{◌∙◌, length, arith, ap}
use Rattle.ix_pin_maps.proofs.Walk.{admits_there, all_kept, marked}
use Rattle.ix_pin_maps.proofs.misfits.first_misfit.Goals as goal

pub fits-requires-clause-placed : goal.fits-requires-clause-placed
fits-requires-clause-placed c =
    admits_there c.args.device.now c.args.phys.now c.loop-i.i c.at.result.now c.at.ensures
    c.requires.placed

pub fits-requires-clause-named : goal.fits-requires-clause-named
fits-requires-clause-named c =
    marked c.args.names.now c.args.phys.now c.requires.sound.named c.loop-i.i c.at.result.now
    c.at.ensures (length c.deref_mut.result.now)
    (ap length c.deref_mut.ensures.value ∙ c.loop-i.invariant.many)

pub returns : goal.returns
returns c = record {
  told = all_kept c.args.device.now c.args.phys.now c.loop-i.i
      (omega (arith, c.loop-i-test.false, c.len-i-end.ensures)) c.loop-i.invariant.kept;
}
