use Rattle.std.proofs.Common.{◌<◌, ◌^◌, length, rules}
use Rattle.ix_device.proofs.Valid.{types_differ}
use Rattle.ix_device.proofs.tables.tables_of.Goals as goal

pub listings-requires-clause-differ : goal.listings-requires-clause-differ
listings-requires-clause-differ c = types_differ c.args.rec.now c.requires.valid

pub listings-requires-clause-find : goal.listings-requires-clause-find
listings-requires-clause-find c = record {
  same_length = c.in_ok-types.ensures.count;
  pins = λ k t x at_type at_tables bel name. (c.in_ok-types.ensures.each k t x at_type at_tables).bel_pins bel name;
}

pub returns : goal.returns
returns c =
    let few : length c.in_ok-entries.entries < 2 ^ 32 = search rules in
    record {
      tiles = c.in_ok-tiles.ensures;
      site_types = c.in_ok-site_types.ensures;
      entries = c.in_ok-entries.ensures;
      few = few;
      sites = c.in_ok-sites.ensures;
      wires = c.in_ok-wires.ensures;
      types = c.in_ok-types.ensures;
      lut_types = c.in_ok-lut_types.ensures;
      elements = c.in_ok-elements.ensures;
      listings = c.in_ok-listings.ensures;
      gnd = c.in_ok-has_gnd.ensures;
      vcc = c.in_ok-has_vcc.ensures;
    }
