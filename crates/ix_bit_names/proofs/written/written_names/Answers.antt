use Rattle.std.proofs.Common.{◌<◌, arith, length}
use Rattle.ix_rec.specs.declared.netlist.Port.{Port}
use Rattle.ix_bit_names.specs.Bits.{ArePortsNamed}
use Rattle.ix_bit_names.proofs.Within.{rows_within}
use Rattle.ix_bit_names.proofs.Growing.{names_more, grows_on, ports_kept, all_at}
use Rattle.ix_bit_names.proofs.written.written_names.Goals as goal

pub bit_name-requires-clause-within : goal.bit_name-requires-clause-within
bit_name-requires-clause-within c =
    rows_within (length c.args.names.now) c.args.rec.now c.args.rows.now c.requires.fits c.requires.rows c.loop-place.place c.at-row.result c.at-row.ensures

pub bit_name-requires-clause-named : goal.bit_name-requires-clause-named
bit_name-requires-clause-named c =
    ports_kept c.args.names.now c.loop-place.names c.args.rec.now c.loop-place.invariant.grows.keeps
    (λ k port is. all_at (λ (p : Port). p.name < length c.args.names.now) c.args.rec.now.port_list k port c.requires.fits.ports is)

pub loop-place-preserved : goal.loop-place-preserved
loop-place-preserved c =
    let named : ArePortsNamed c.loop-place.names c.args.rec.now =
    ports_kept c.args.names.now c.loop-place.names c.args.rec.now c.loop-place.invariant.grows.keeps
    (λ k port is. all_at (λ (p : Port). p.name < length c.args.names.now) c.args.rec.now.port_list k port c.requires.fits.ports is) in
    record {
      many = omega (arith, c.in_ok-push.ensures.len, c.loop-place.invariant.many);
      each = names_more c.loop-place.names c.bit_name.new.names c.args.rec.now c.args.rows.now.rows c.loop-place.written.items c.push.new.self.items
          c.loop-place.place c.at-row.result c.in_ok-bit_name.field-0 c.in_ok-bit_name.ensures.grows.keeps named c.loop-place.invariant.many c.at-row.ensures
          c.in_ok-bit_name.ensures.name c.in_ok-push.ensures.items c.loop-place.invariant.each;
      table = c.in_ok-bit_name.ensures.table;
      grows = grows_on c.args.names.now c.loop-place.names c.bit_name.new.names c.args.left.now c.loop-place.left c.bit_name.new.left
          c.loop-place.invariant.grows c.in_ok-bit_name.ensures.grows;
    }
