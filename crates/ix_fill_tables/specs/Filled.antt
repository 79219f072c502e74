-- The properties that tell the tables of elements.
use Rattle.std.specs.Prelude.{◌≡◌, ◌<◌, ◌⊎◌, ℕ, true, false, List, [], ◌∷◌, ◌++◌, length}
use Rattle.std.specs.Prelude.{slice_get, Some}
use Rattle.std.specs.Prelude.{option_and_then, if◌then◌else◌}
use Rattle.ix_message.specs.Shape.{Text}
use Rattle.ix_num.specs.Numbers.{NameNumber}
use Rattle.ix_rec.specs.declared.phys.Property.{Property}
use Rattle.ix_rec.specs.declared.phys.SiteInstance.{SiteInstance}
use Rattle.ix_lut.specs.Places.{ElementBits}
use Rattle.ix_legal.specs.Sites.{ElementNumber}
use Rattle.ix_legal.specs.TableKeys.{table_key, table_bits}
use Rattle.ix_fill_tables.specs.Bits.{clashes}
use Rattle.ix_fill_tables.specs.Completed.{Filling}
use Rattle.ix_fill_tables.specs.declared.forcing.ForcedBits.{ForcedBits}

-- a property tells the table of an element of the site of this name
pub record TellsTable (names : List Text) (site : NameNumber) (element : ElementNumber)
    (bits : ElementBits) (property : Property) : Type 0 where
  pub site_text : Text
  pub site_is : slice_get names site ≡ Some site_text
  pub key_is : slice_get names property.key ≡ Some (table_key site_text element)
  pub value_is : option_and_then table_bits (slice_get names property.value) ≡ Some bits

-- the elements that get tables: those of which no bit is forced both ways
abbrev pub with_filling : (i : ℕ) → ElementNumber → ForcedBits → List Filling → List Filling
with_filling i element forced rest = if clashes forced then rest
    else (record { instance = i; element = element; bits = forced.ones } ∷ rest)

abbrev pub fillings_of : List ((ℕ × ElementNumber) × ForcedBits) → List Filling
fillings_of [] = []
fillings_of (e ∷ es) = with_filling e.0.0 e.0.1 e.1 (fillings_of es)

-- the same of a filling
pub record TellsIt (names : List Text) (instances : List SiteInstance) (f : Filling)
    (property : Property) : Type 0 where
  pub instance : SiteInstance
  pub instance_is : slice_get instances f.instance ≡ Some instance
  pub tells : TellsTable names instance.site f.element f.bits property

-- properties that tell these fillings stand behind others
pub record AreAdded (names : List Text) (instances : List SiteInstance) (before : List Property)
    (fillings : List Filling) (after : List Property) : Type 0 where
  pub added : List Property
  pub behind : after ≡ before ++ added
  pub all : length added ≡ length fillings
  pub each : (k : ℕ) (f : Filling) (property : Property) → slice_get fillings k ≡ Some f
      → slice_get added k ≡ Some property → TellsIt names instances f property

-- a table is added: that of an element, where no bit is forced both ways
pub record IsAdded (names : List Text) (instances : List SiteInstance) (f : Filling)
    (before after : List Property) : Type 0 where
  pub property : Property
  pub behind : after ≡ before ++ property ∷ []
  pub tells : TellsIt names instances f property

abbrev pub AddsTable : List Text → List SiteInstance → (i : ℕ) → ElementNumber → ForcedBits
    → (before after : List Property) → Type 0
AddsTable names instances i element forced before after =
    ((clashes forced ≡ true) × (after ≡ before))
    ⊎ ((clashes forced ≡ false) × IsAdded names instances (record {
      instance = i;
      element = element;
      bits = forced.ones;
    }) before after)

-- an instance whose site has a name
pub record HasSite (names : List Text) (instances : List SiteInstance) (i : ℕ) : Type 0 where
  pub instance : SiteInstance
  pub instance_is : slice_get instances i ≡ Some instance
  pub named : instance.site < length names

-- the entries are of such instances
abbrev pub HaveSites : List Text → List SiteInstance → List ((ℕ × ElementNumber) × ForcedBits)
    → Type 0
HaveSites names instances es = (k : ℕ) (e : (ℕ × ElementNumber) × ForcedBits)
    → slice_get es k ≡ Some e → HasSite names instances e.0.0
