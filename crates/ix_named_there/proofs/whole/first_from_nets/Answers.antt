use Rattle.std.proofs.Common.{subst}
use Rattle.ix_legal.specs.Names.{KeyIsNamed}
use Rattle.ix_walk.specs.Firsts.{TellsMisfit}
use Rattle.ix_named_there.proofs.Told.{net_told, property_told, all_told}
use Rattle.ix_named_there.proofs.whole.first_from_nets.Goals as goal

pub returns-in-Some : goal.returns-in-Some
returns-in-Some c = record {
  told = net_told c.args.names.now c.args.device.now c.args.phys.now c.in-Some.spot
      c.requires.instances c.requires.placements
      (c.in-Some.ensures c.args.device.now c.args.phys.now c.in_ok-net.ensures c.requires.ends);
}

pub returns-in-Some-2 : goal.returns-in-Some-2
returns-in-Some-2 c = record {
  told = property_told c.args.names.now c.args.device.now c.args.phys.now c.in-Some-2.i
      c.requires.instances c.requires.placements
      (c.in-None.ensures c.args.device.now c.args.phys.now c.in_ok-net.ensures c.requires.ends)
      (subst (TellsMisfit (KeyIsNamed c.args.names.now c.args.device.now c.args.phys.now)
      c.args.phys.now.properties) c.in-Some-2.is c.in_ok-i-in-None.ensures);
}

pub returns-in-None-2 : goal.returns-in-None-2
returns-in-None-2 c = record {
  told = all_told c.args.names.now c.args.device.now c.args.phys.now
      c.requires.instances c.requires.placements
      (c.in-None.ensures c.args.device.now c.args.phys.now c.in_ok-net.ensures c.requires.ends)
      (subst (TellsMisfit (KeyIsNamed c.args.names.now c.args.device.now c.args.phys.now)
      c.args.phys.now.properties) c.in-None-2.is c.in_ok-i-in-None.ensures);
}
