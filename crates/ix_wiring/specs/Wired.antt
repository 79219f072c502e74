-- A list of pins as a map, and nets with their drivers.
use Rattle.std.specs.Prelude.{◌≡◌, ◌≢◌, ◌⊎◌, ◌<◌, ℕ, List, length, map, slice_get, Option, Some}
use Rattle.std.specs.Prelude.{None}
use Rattle.std.specs.Prelude.{Bool, true, false}
use Rattle.std.specs.FinMap.{FinMap, get}
use Rattle.ix_num.specs.declared.resource.NetRef.{NetRef}
use Rattle.ix_num.specs.declared.resource.NetRef.TheVariants.{Gnd, Vcc, Signal}
use Rattle.ix_rec.specs.Maps.{pin_order}
use Rattle.ix_rec.specs.declared.flow.CellPin.{CellPin}
use Rattle.ix_rec.specs.declared.flow.FlatNet.{FlatNet}
use Rattle.ix_wiring.specs.declared.flat_pin.FlatPin.{FlatPin}
use Rattle.ix_wiring.specs.declared.wiring.Wiring.{Wiring}

-- a signal net is one of so many
abbrev pub IsNetIn : (nets : ℕ) → NetRef → Type 0
IsNetIn nets Gnd = Unit {0}
IsNetIn nets Vcc = Unit {0}
IsNetIn nets (Signal n) = n < nets

abbrev pub NetsFit : (nets : ℕ) → List FlatPin → Type 0
NetsFit nets pins = (k : ℕ) (pin : FlatPin) → slice_get pins k ≡ Some pin → IsNetIn nets pin.net

-- pins of one cell and one name are on one net
abbrev pub AreOneEach : List FlatPin → Type 0
AreOneEach pins = (j k : ℕ) (a b : FlatPin) → slice_get pins j ≡ Some a
    → slice_get pins k ≡ Some b → a.cell ≡ b.cell → a.pin ≡ b.pin → a.net ≡ b.net

-- what is in the map is one of the pins
abbrev pub AreOf : List FlatPin → FinMap pin_order NetRef → Type 0
AreOf pins nets_of = (cell pin : ℕ) (net : NetRef) → get nets_of (cell, pin) ≡ Some net
    → (k : ℕ) × (one : FlatPin) × (slice_get pins k ≡ Some one) × (one.cell ≡ cell)
    × (one.pin ≡ pin) × (one.net ≡ net)

-- each pin is in the map
abbrev pub AreIn : List FlatPin → FinMap pin_order NetRef → Type 0
AreIn pins nets_of = (k : ℕ) (pin : FlatPin) → slice_get pins k ≡ Some pin
    → get nets_of (pin.cell, pin.pin) ≡ Some pin.net

-- a net's driver is one of the pins that drive it
abbrev pub IsDriverAmong : List FlatPin → (net : ℕ) → CellPin → Type 0
IsDriverAmong pins net driver = (k : ℕ) × (pin : FlatPin) × (slice_get pins k ≡ Some pin)
    × (pin.cell ≡ driver.cell) × (pin.pin ≡ driver.pin) × (pin.net ≡ Signal net)
    × (pin.drives ≡ true)

-- the signal nets: their names, and their drivers, some exactly where a pin drives the net
pub record AreDriven (names : List ℕ) (pins : List FlatPin) (nets : List FlatNet) : Type 0 where
  pub names_are : map (λ (net : FlatNet). net.name) nets ≡ names
  pub drivers : (n : ℕ) (net : FlatNet) (driver : CellPin) → slice_get nets n ≡ Some net
      → net.driver ≡ Some driver → IsDriverAmong pins n driver
  pub driven : (n k : ℕ) (net : FlatNet) (pin : FlatPin) → slice_get nets n ≡ Some net
      → slice_get pins k ≡ Some pin → pin.net ≡ Signal n → pin.drives ≡ true
      → net.driver ≢ None

pub record IsWired (names : List ℕ) (pins : List FlatPin) (wiring : Wiring) : Type 0 where
  pub of : AreOf pins wiring.pins
  pub all : AreOneEach pins → AreIn pins wiring.pins
  pub nets : AreDriven names pins wiring.nets.items

-- What private contracts say.

abbrev pub AreUndriven : List ℕ → List FlatNet → Type 0
AreUndriven names nets = nets ≡ map (λ name. record { name = name; driver = None }) names

-- a pin is noted as its net's driver, where it drives one
abbrev pub with_driver : Bool → (cell pin : ℕ) → FlatNet → FlatNet
with_driver true cell pin net =
    record { name = net.name; driver = Some record { cell = cell; pin = pin } }
with_driver false cell pin net = net

abbrev pub Drives : (old new : List FlatNet) → FlatPin → Type 0
Drives old new pin = (length new ≡ length old) × ((n : ℕ) (net : FlatNet)
    → slice_get old n ≡ Some net → DrivesAt n net pin (slice_get new n))
  where
    -- a net of the pin is driven by it, another stays
    DrivesAt : ℕ → FlatNet → FlatPin → Option FlatNet → Type 0
    DrivesAt n net pin now = ((pin.net ≡ Signal n) × (pin.drives ≡ true)
        × (now ≡ Some (with_driver true pin.cell pin.pin net)))
        ⊎ (((pin.net ≡ Signal n → pin.drives ≡ true → ⊥)) × (now ≡ Some net))
