-- The numbers of enumerants and tags.
use Rattle.std.specs.Prelude.{ℕ, List, [], ◌∷◌, slice_index_or}
use Rattle.ix_message.specs.Shape.{Text}
use Rattle.ix_message.specs.Names.{Datum, the_number, the_text}
use Rattle.ix_rec.specs.declared.device.Inversion.{Inversion}
use Rattle.ix_rec.specs.declared.device.Inversion.TheVariants.{NonInverting, Inverting}
use Rattle.ix_rec.specs.declared.device.PackagePinSite.{PackagePinSite}
use Rattle.ix_rec.specs.declared.device.PackagePinSite.TheVariants.{NoSite, Site}
use Rattle.ix_rec.specs.declared.device.Direction.{Direction}
use Rattle.ix_rec.specs.declared.device.Direction.TheVariants.{Input, Output, Inout}
use Rattle.ix_rec.specs.declared.device.Category.{Category}
use Rattle.ix_rec.specs.declared.device.Category.TheVariants.{Logic, Routing, SitePort}
use Rattle.ix_rec.specs.declared.device.ConstantPreference.{ConstantPreference}
use Rattle.ix_rec.specs.declared.device.ConstantPreference.TheVariants.{NoPreference, Gnd, Vcc}
use Rattle.ix_rec.specs.declared.device.PipKind.{PipKind}
use Rattle.ix_rec.specs.declared.device.PipKind.TheVariants.{Conventional, PseudoCells}
use Rattle.ix_rec.specs.declared.device.LutEquation.{LutEquation}
use Rattle.ix_rec.specs.declared.device.LutEquation.TheVariants.{Invalid, InitParam}

abbrev pub direction_number : Direction → ℕ
direction_number Input = 0
direction_number Output = 1
direction_number Inout = 2

abbrev pub category_number : Category → ℕ
category_number Logic = 0
category_number Routing = 1
category_number SitePort = 2

abbrev pub constant_number : ConstantPreference → ℕ
constant_number NoPreference = 0
constant_number Gnd = 1
constant_number Vcc = 2

abbrev pub pip_kind_number : PipKind → ℕ
pip_kind_number Conventional = 0
pip_kind_number PseudoCells = 1

abbrev pub equation_number : LutEquation → ℕ
equation_number Invalid = 0
equation_number InitParam = 1

-- the text of a name
abbrev pub name_text : List Text → ℕ → Text
name_text names id = slice_index_or names id []

-- the tag, and the two pins, which are 0 with the first tag
abbrev pub inversion_data : Inversion → List Datum
inversion_data NonInverting = the_number 0 ∷ the_number 0 ∷ the_number 0 ∷ []
inversion_data (Inverting a b) = the_number 1 ∷ the_number a ∷ the_number b ∷ []

-- the tag, and the site, which is 0 with the first tag
abbrev pub site_data : List Text → PackagePinSite → List Datum
site_data names NoSite = the_number 0 ∷ the_number 0 ∷ []
site_data names (Site id) = the_number 1 ∷ the_text (name_text names id) ∷ []
