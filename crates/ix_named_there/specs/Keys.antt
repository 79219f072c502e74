-- How the key of a table is taken apart.
use Rattle.std.specs.Prelude.{◌≡◌, ◌≢◌, ◌<◌, ◌≤◌, ℕ, List, ◌∷◌, ◌++◌, length, slice_get}
use Rattle.std.specs.Prelude.{slice_index, Contains, Some}
use Rattle.std.specs.List.{All}
use Rattle.std.specs.Fmt.{decimal}
use Rattle.ix_message.specs.Shape.{Text}
use Rattle.ix_rec.specs.declared.device.DeviceRec.{DeviceRec}
use Rattle.ix_rec.specs.declared.device.LutElement.{LutElement}
use Rattle.ix_rec.specs.declared.phys.Phys.{Phys}
use Rattle.ix_rec.specs.declared.phys.SiteInstance.{SiteInstance}
use Rattle.ix_legal.specs.Sites.{ElementNumber, elements_at}

abbrev pub slash : ℕ
slash = 47

abbrev pub HasNoSlash : Text → Type 0
HasNoSlash text = All (λ byte. byte ≢ slash) text

-- digits begin without a sign, and with a zero only where nothing comes behind it
pub record BeginPlainly (text : Text) : Type 0 where
  pub no_sign : slice_index text 0 ≢ 43
  pub no_zero : slice_index text 0 ≡ 48 → length text ≤ 1

-- behind `TABLE/`: the site of an instance, and an element of that site's own type
pub record NamesElement (names : List Text) (rec : DeviceRec) (phys : Phys) (rest : Text) : Type 0
  where
    pub instance : SiteInstance
    pub stands : Contains phys.site_insts instance
    pub site_text : Text
    pub site_is : slice_get names instance.site ≡ Some site_text
    pub element : ElementNumber
    pub rest_is : rest ≡ site_text ++ slash ∷ decimal element
    pub elements : List LutElement
    pub of_site : elements_at rec instance.site ≡ Some elements
    pub in_site : element < length elements
