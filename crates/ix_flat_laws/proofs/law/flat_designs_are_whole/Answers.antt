use Rattle.std.proofs.Common.{◌∙◌, sym}
use Rattle.std.proofs.lemmas.Option.{none-some}
use Rattle.ix_flat_laws.proofs.Cells.{cells_differ}
use Rattle.ix_flat_laws.proofs.Nets.{nets_differ}
use Rattle.ix_flat_laws.proofs.Pins.{driven}
use Rattle.ix_flat_laws.proofs.Luts.{has_its_table, is_port_type}
use Rattle.ix_flat_laws.proofs.Ranges.{all_named, in_range}
use Rattle.ix_flat_laws.proofs.law.flat_designs_are_whole.Goals as goal

pub returns : goal.returns
returns c = record {
  law = λ names rec design flat differ fits inputs flattened joined apart.
      let is = flattened.is in
      let keeps_n6 = flattened.keeps.0.1 in
      let keeps_n5 = flattened.keeps.0.0.0.0.1 in record {
        range = in_range names rec design flat is;
        named = all_named names rec design flat is;
        whole = record {
          cells_differ = cells_differ names rec design is.leaves flat.cells is.are_leaves keeps_n5
              is.cells;
          nets_differ = nets_differ names rec design flat is keeps_n5;
          driven = driven names rec design flat is differ apart;
          tables = has_its_table names rec design flat is differ fits inputs keeps_n6 joined;
          port_types = is_port_type names rec design flat is;
          fixed = λ q site has. absurd (none-some site (sym (is.none_fixed q) ∙ has));
        };
      };
}
