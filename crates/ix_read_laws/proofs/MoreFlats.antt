-- Names of a flat design are names of a longer table too.
use Rattle.std.proofs.Common.{inl, inr, ℕ, ◌<◌, ◌≤◌, List, [], ◌∷◌, length, Option}
use Rattle.std.proofs.Common.{Some, None, lt_of_lt_of_le}
use Rattle.std.specs.FinMap.{entries}
use Rattle.std.specs.List.{AllByRecursion}
use Rattle.ix_message.specs.Shape.{Text}
use Rattle.ix_strings.specs.Names.{KeepsNumbers}
use Rattle.ix_rec.specs.declared.device.DeviceRec.{DeviceRec}
use Rattle.ix_rec.specs.declared.flow.CellPin.{CellPin}
use Rattle.ix_rec.specs.declared.flow.Flat.{Flat}
use Rattle.ix_flat.specs.Range.{IsDriverNamed, IsNamed}
use Rattle.ix_flat.specs.Whole.{IsPortType, IsWhole}
use Rattle.ix_read_laws.proofs.MoreNames.{no_fewer}

more_flat : (old new : ℕ) (flat : Flat) → old ≤ new → IsNamed old flat → IsNamed new flat
more_flat old new flat le named = record {
  cells = λ q cell at. lt_of_lt_of_le (named.cells q cell at) le;
  types = λ q cell at. lt_of_lt_of_le (named.types q cell at) le;
  nets = λ n net at. lt_of_lt_of_le (named.nets n net at) le;
  pins = pins (entries flat.pins) named.pins;
  drivers = λ n net at. driver net.driver (named.drivers n net at);
}
  where
    pins : {V : Type 0} (es : List ((ℕ × ℕ) × V)) → AllByRecursion (λ entry. entry.0.1 < old) es
        → AllByRecursion (λ entry. entry.0.1 < new) es
    pins [] h = tt
    pins (e ∷ es) h = (lt_of_lt_of_le h.0 le, pins es h.1)

    driver : (d : Option CellPin) → IsDriverNamed old d → IsDriverNamed new d
    driver None h = tt
    driver (Some d) h = lt_of_lt_of_le h le

pub flat_named : (old new : List Text) (flat : Flat) → KeepsNumbers old new
    → IsNamed (length old) flat → IsNamed (length new) flat
flat_named old new flat keeps named =
    more_flat (length old) (length new) flat (no_fewer old new keeps) named

port_type : (old new : List Text) (ty : ℕ) → KeepsNumbers old new → IsPortType old ty
    → IsPortType new ty
port_type old new ty keeps (inl is) = inl (keeps ty _ is)
port_type old new ty keeps (inr is) = inr (keeps ty _ is)

pub flat_whole : (old new : List Text) (rec : DeviceRec) (flat : Flat) → KeepsNumbers old new
    → IsWhole old rec flat → IsWhole new rec flat
flat_whole old new rec flat keeps whole = record {
  cells_differ = whole.cells_differ;
  nets_differ = whole.nets_differ;
  driven = whole.driven;
  tables = whole.tables;
  port_types = λ q cell lt at. port_type old new cell.ty keeps (whole.port_types q cell lt at);
  fixed = whole.fixed;
}
