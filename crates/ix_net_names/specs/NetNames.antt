-- The names of signal nets.
use Rattle.std.specs.Prelude.{◌≡◌, ℕ, List, length, slice_get, Some}
use Rattle.ix_message.specs.Shape.{Text}
use Rattle.ix_rec.specs.declared.netlist.NetlistRec.{NetlistRec}
use Rattle.ix_hierarchy.specs.Nets.{Occurrence}
use Rattle.ix_hierarchy.specs.FlatDesign.{IsNetText}

-- the numbers of names of the first so many nets, each by its first occurrence
pub record AreNamed (names : List Text) (design : NetlistRec) (nets : List Occurrence)
    (ids : List ℕ) (count : ℕ) : Type 0 where
  pub many : length ids ≡ count
  pub each : (n name : ℕ) (at : Occurrence) → slice_get ids n ≡ Some name
      → slice_get nets n ≡ Some at → (text : Text) × (slice_get names name ≡ Some text)
      × IsNetText names design at text

-- of all nets
abbrev pub AreNetNames : List Text → NetlistRec → List Occurrence → (ids : List ℕ) → Type 0
AreNetNames names design nets ids = AreNamed names design nets ids (length nets)
