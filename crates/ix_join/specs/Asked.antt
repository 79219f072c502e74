-- A netlist of which N1, N2, N9 and N10 were asked, in lists by number.
use Rattle.std.specs.Prelude.{ℕ, List, length}
use Rattle.ix_message.specs.Shape.{Text}
use Rattle.ix_strings.specs.Names.{AllDiffer}
use Rattle.ix_rec.specs.declared.device.DeviceRec.{DeviceRec}
use Rattle.ix_rec.specs.declared.netlist.NetlistRec.{NetlistRec}
use Rattle.ix_hierarchy.specs.declared.kind.Kind.{Kind}
use Rattle.ix_hierarchy.specs.Hierarchy.{Path}
use Rattle.ix_hierarchy.specs.Fits.{NetlistFits}
use Rattle.ix_hierarchy.specs.Broken.{Keeps10}
use Rattle.ix_hierarchy.specs.Lists.{AreKinds, AreWritten, IsOwnRow, IsOuterRow}
use Rattle.ix_bit_rows.specs.Table.{RowTable, AreRowsIn}
use Rattle.ix_joined.specs.declared.joined.Joined.{Joined}
use Rattle.ix_joined.specs.declared.top_bit.TopBit.{TopBit}
use Rattle.ix_joined.specs.Joining.{AreTopBits, IsJoined}

-- It keeps the four rules, and this is known of it.
pub record IsAsked (names : List Text) (device : DeviceRec) (design : NetlistRec)
    (kinds : List Kind) (own outer : RowTable) (written : List ℕ) : Type 0 where
  pub fits : NetlistFits (length names) design
  pub differ : AllDiffer names
  pub keeps : Keeps10 names device design
  pub are_kinds : AreKinds device design kinds
  pub own_rows : AreRowsIn design IsOwnRow own
  pub outer_rows : AreRowsIn design IsOuterRow outer
  pub are_written : AreWritten names design outer.rows written

-- its instances and nets, and the bits of its top
abbrev pub AreAllJoined : List Text → DeviceRec → NetlistRec → Joined → List TopBit → Type 0
AreAllJoined names device design joined bits = (paths : List Path)
    × IsJoined record { names = names; device = device; paths = paths } design joined
    × AreTopBits design joined.instances.items paths joined.firsts.items bits
