-- Numbers of resources, as they are given.
use Rattle.std.specs.Prelude.{◌≡◌, ◌<◌, ◌≤◌, ◌+◌, ◌^◌, ℕ, [], length, slice_get, Some}
use Rattle.ix_num.specs.Numbers.{SiteNumber, SiteWireNumber}
use Rattle.ix_num.specs.declared.resource.Res.{Res}
use Rattle.ix_num.specs.declared.resource.Res.TheVariants.{Node, Wire}
use Rattle.ix_rec.specs.declared.device.DeviceRec.{DeviceRec}
use Rattle.ix_device.specs.Lookups.{sites_of}
use Rattle.ix_graph.specs.Nodes.{nodes}
use Rattle.ix_ends.specs.declared.numbers.Numbers.{Numbers}
use Rattle.ix_ends.specs.Ends.{ResNumber, EndsSeen, IsThere, IsNumbered, wires_of_site}

-- the site's wires have numbers, from this one on
abbrev pub HasBase : Numbers → SiteNumber → ResNumber → Type 0
HasBase numbers site base = slice_get numbers.bases.items site ≡ Some (Some base)

-- The nodes have their own numbers, and the wires of sites that have a base those behind it, which
-- no other resource has. All have 32 bits.
pub record AreNumbers (rec : DeviceRec) (numbers : Numbers) : Type 0 where
  pub sites_all : length numbers.bases.items ≡ length (sites_of rec)
  pub few : numbers.count < 2 ^ 32
  pub nodes_first : length (nodes rec) ≤ numbers.count
  pub after : (site : SiteNumber) (base : ResNumber) → HasBase numbers site base
      → length (nodes rec) ≤ base
  pub within : (site : SiteNumber) (base : ResNumber) (wire : SiteWireNumber)
      → HasBase numbers site base → IsThere rec (Wire site wire) → base + wire < numbers.count
  pub apart : (one other : SiteNumber) (base base2 : ResNumber) (wire wire2 : SiteWireNumber)
      → HasBase numbers one base → HasBase numbers other base2 → IsThere rec (Wire one wire)
      → IsThere rec (Wire other wire2) → base + wire ≡ base2 + wire2 → one ≡ other

-- numbers that were given stay
pub record Grows (before now : Numbers) : Type 0 where
  pub keeps : (site : SiteNumber) (base : ResNumber) → HasBase before site base
      → HasBase now site base
  pub up : before.count ≤ now.count

-- what these numbers are for contracts that see those of a netlist's ends
abbrev pub seen_by : Numbers → EndsSeen
seen_by numbers = record {
  rows = [];
  nodes = 0;
  bases = numbers.bases.items;
  count = numbers.count;
}

-- the site's wires have numbers from this one on, now if they hadn't before
pub record GivesBase (rec : DeviceRec) (before now : Numbers) (site : SiteNumber) (base : ResNumber)
    : Type 0 where
  pub numbers : AreNumbers rec now
  pub grows : Grows before now
  pub base_is : HasBase now site base

-- so for a resource
pub record GivesNumber (rec : DeviceRec) (before now : Numbers) (r : Res) (number : ResNumber)
    : Type 0 where
  pub numbers : AreNumbers rec now
  pub grows : Grows before now
  pub number_is : IsNumbered rec (seen_by now) r number

-- 32 bits don't hold the numbers of the site's wires beside those that were given
pub record HasNoRoom (rec : DeviceRec) (numbers : Numbers) (site : SiteNumber) : Type 0 where
  pub wires : ℕ
  pub wires_are : wires_of_site rec site ≡ Some wires
  pub past : 2 ^ 32 ≤ numbers.count + wires

abbrev pub LacksNumber : DeviceRec → Numbers → Res → Type 0
LacksNumber rec numbers (Node n) = ⊥
LacksNumber rec numbers (Wire site wire) = HasNoRoom rec numbers site
