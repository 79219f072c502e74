use Rattle.std.proofs.Common.{refl}
use Rattle.std.proofs.lemmas.Option.{slice_get_within}
use Rattle.ix_extract.proofs.flat.with_tables.Goals as goal

pub returns : goal.returns
returns c = let phys = c.args.on.now.phys.now in record {
  cells = c.in_ok-cells.ensures;
  ports = refl;
  nets = c.requires.nets;
  pins = λ cell pin net. (
    c.in_ok-pins.ensures.are_on cell pin net,
    λ on. c.in_ok-pins.ensures.all cell pin net
        (slice_get_within phys.placements cell on.placement on.placement_is) on,
  );
  tables = λ cell table. (
    λ has. ((c.requires.tables.each cell table).0 has).1,
    λ is. (c.requires.tables.each cell table).1
        (slice_get_within phys.placements cell is.placement is.placement_is, is),
  );
  fixed = λ cell site. (
    λ has. ((c.in_ok-fixed.ensures cell site).0 has).1,
    λ is. (c.in_ok-fixed.ensures cell site).1
        (slice_get_within phys.placements cell is.placement is.placement_is, is),
  );
  functions = λ cell placement lut at lut_is. c.requires.tables.all cell placement lut
      (slice_get_within phys.placements cell placement at) at lut_is;
}
