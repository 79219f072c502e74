use Rattle.std.proofs.Common.{sym, subst, length}
use Rattle.ix_placed_luts.proofs.Holding.{have_one_holder}
use Rattle.ix_extract.specs.Taken.{AreRanks}
use Rattle.ix_extract.proofs.whole.with_luts.Goals as goal

pub with_nets-requires-clause-ready : goal.with_nets-requires-clause-ready
with_nets-requires-clause-ready c =
    let phys = c.args.of.now.phys.now in record {
      ends = c.requires.ends;
      holders = c.requires.holders;
      ranks_are = subst (AreRanks phys.nets (length phys.nets)) (sym c.as_slice.ensures.value)
          c.in_ok-nets.ensures.ranks_are;
      one_holder = have_one_holder c.args.of.now.level c.args.of.now.device.now phys
          c.requires.unshared c.holders_are_one.ensures.law;
    }
