-- What follows from the definitions on the tables of LUT elements.
use Rattle.std.specs.Prelude.{◌≡◌, List}
use Rattle.ix_message.specs.Shape.{Text}
use Rattle.ix_num.specs.Numbers.{NameNumber}
use Rattle.ix_strings.specs.Names.{AllDiffer}
use Rattle.ix_rec.specs.declared.phys.Phys.{Phys}
use Rattle.ix_lut.specs.Places.{ElementBits}
use Rattle.ix_legal.specs.Sites.{ElementNumber}
use Rattle.ix_legal.specs.TableKeys.{HasTable}
use Rattle.ix_table_keys.specs.Tables.{IsNamedThere}

-- An element has one table at most, in a netlist that keeps L1.
abbrev pub TableIsOne : Type 0
TableIsOne = (names : List Text) (phys : Phys) → AllDiffer names → IsNamedThere names phys
    → (site : NameNumber) (element : ElementNumber) (one other : ElementBits)
    → HasTable names phys site element one → HasTable names phys site element other → one ≡ other
