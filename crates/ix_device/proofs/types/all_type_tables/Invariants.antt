use Rattle.std.proofs.Common.{◌≡◌, ℕ, length, slice_get, Some}
use Rattle.ix_rec.specs.declared.device.SiteType.{SiteType}
use Rattle.ix_device.specs.declared.types.TypeTables.{TypeTables}
use Rattle.ix_device.specs.TypeTables.{AreTypeTables}
use Rattle.ix_device.proofs.types.all_type_tables.Given as goal

abbrev pub invariant-loop-i : goal.invariant-loop-i
invariant-loop-i l = (length l.all ≡ l.i) × ((i : ℕ) (t : SiteType) (tables : TypeTables) → slice_get l.rec.site_type_list i ≡ Some t → slice_get l.all i ≡ Some tables → AreTypeTables l.rec t tables)
