-- What holds of each device that was checked.
use Rattle.std.specs.Prelude.{◌≡◌, None}
use Rattle.ix_rec.specs.declared.device.DeviceRec.{DeviceRec}
use Rattle.ix_rec.specs.Ranges.{IndexesFit}
use Rattle.ix_device_rules.specs.Rules.{first_broken}
use Rattle.ix_device.specs.declared.tables.Tables.{Tables}
use Rattle.ix_device.specs.AllTables.{AreTables}

-- its indexes are in their lists, it breaks no rule, and its tables are those of its record
pub record IsChecked (rec : DeviceRec) (tables : Tables) : Type 0 where
  pub fits : IndexesFit rec
  pub valid : first_broken rec ≡ None
  pub tables_are : AreTables rec tables
