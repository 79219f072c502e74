use Rattle.std.proofs.Common.{◌≡◌, take, map, Ok}
use Rattle.std.specs.List.{flat_map}
use Rattle.ix_device_rules.specs.Rules
use Rattle.ix_device_rules.specs.Named.{site_key}
use Rattle.ix_device_rules.specs.Tables.{SameKeys}
use Rattle.ix_device_rules.specs.Walks.{Walks}
use Rattle.ix_device_rules.specs.Named.{tile_key}
use Rattle.ix_device_rules.proofs.names_differ.tiles_differ.Given as goal

abbrev pub invariant-loop-i : goal.invariant-loop-i
invariant-loop-i l =
    record {
      walked : Walks {X = Unit {0}} (Rules.each_by_earlier Rules.tile_names (take l.i l.tiles)) l.fn.walk (Ok tt) l.walk;
      names_are : l.names ≡ map tile_key (take l.i l.tiles);
      sites_are : SameKeys l.site_names (map site_key (flat_map (λ t. t.sites) (take l.i l.tiles)));
    }
