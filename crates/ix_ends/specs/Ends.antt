-- The ends of a netlist's segments, by number.
use Rattle.std.specs.Prelude.{◌≡◌, ◌<◌, ◌≤◌, ℕ, ◌+◌, List, length, slice_get, Option, Some}
use Rattle.std.specs.Prelude.{option_map, option_and_then, Result, Err}
use Rattle.ix_num.specs.Numbers.{SiteNumber, SiteWireNumber}
use Rattle.ix_num.specs.declared.resource.Res.{Res}
use Rattle.ix_num.specs.declared.resource.Res.TheVariants.{Node, Wire}
use Rattle.ix_rec.specs.declared.device.DeviceRec.{DeviceRec}
use Rattle.ix_rec.specs.declared.phys.Phys.{Phys}
use Rattle.ix_rec.specs.declared.phys.PhysNet.{PhysNet}
use Rattle.ix_rec.specs.declared.phys.Segment.{Segment}
use Rattle.ix_device.specs.Lookups.{sites_of, type_of_site}
use Rattle.ix_graph.specs.Ends.{ends}
use Rattle.ix_graph.specs.Nodes.{nodes}
use Rattle.ix_legal.specs.Segments.{NetNumber, SegmentNumber, segments, segment_at}
use Rattle.ix_legal.specs.declared.spot.Spot.{Spot}
use Rattle.ix_legal.specs.declared.spot.Spot.TheVariants.{SegmentAt}
use Rattle.ix_legal.specs.Spots.{OfSegments, IsFirstBreak}
use Rattle.ix_legal.specs.Names.{SegmentHasEnds}
use Rattle.ix_ends.specs.declared.pair.Pair.{Pair}
use Rattle.ix_ends.specs.declared.ends.EndsFault.{EndsFault}
use Rattle.ix_ends.specs.declared.ends.EndsFault.TheVariants.{NoEnds}

-- a resource, by number
abbrev pub ResNumber : Type 0
ResNumber = ℕ

-- What contracts see: the ends of each segment, by net; how many nodes there are; by site the
-- number of its first wire, where its wires have numbers; and a number above all that are given.
pub record EndsSeen : Type 0 where
  pub rows : List (List Pair)
  pub nodes : ℕ
  pub bases : List (Option ResNumber)
  pub count : ℕ

-- a node's number is its own, and the wires of a site go together
abbrev pub number_of : EndsSeen → Res → Option ResNumber
number_of seen (Node n) = Some n
number_of seen (Wire site wire) =
    option_map (λ base. base + wire) (option_and_then (λ base. base) (slice_get seen.bases site))

-- how many wires a site has
abbrev pub wires_of_site : DeviceRec → SiteNumber → Option ℕ
wires_of_site rec site = option_map (λ t. length t.site_wires)
    (option_and_then (slice_get rec.site_type_list) (type_of_site rec site))

-- the device has the resource
abbrev pub IsThere : DeviceRec → Res → Type 0
IsThere rec (Node n) = n < length (nodes rec)
IsThere rec (Wire site wire) = (count : ℕ) × (wires_of_site rec site ≡ Some count) × (wire < count)

-- a resource of the device that has this number
pub record IsNumbered (rec : DeviceRec) (seen : EndsSeen) (r : Res) (number : ResNumber) : Type 0
  where
    pub there : IsThere rec r
    pub number_is : number_of seen r ≡ Some number
    pub within : number < seen.count

-- the ends of a segment have these numbers
pub record HasNumbers (rec : DeviceRec) (seen : EndsSeen) (s : Segment) (pair : Pair) : Type 0 where
  pub from : Res
  pub to : Res
  pub ends_are : ends rec s ≡ Some (from, to)
  pub from_is : IsNumbered rec seen from pair.from
  pub to_is : IsNumbered rec seen to pair.to

-- so have those of each segment of a net
pub record IsRow (rec : DeviceRec) (seen : EndsSeen) (net : PhysNet) (row : List Pair) : Type 0
  where
    pub all : length row ≡ length (segments net)
    pub each : (k : SegmentNumber) (s : Segment) (pair : Pair) → segment_at net k ≡ Some s
        → slice_get row k ≡ Some pair → HasNumbers rec seen s pair

-- The ends of a netlist on a device. Two resources have one number only where they are one, and
-- those of nodes are below those of wires.
pub record AreEnds (rec : DeviceRec) (phys : Phys) (seen : EndsSeen) : Type 0 where
  pub all : length seen.rows ≡ length phys.nets
  pub each : (n : NetNumber) (net : PhysNet) (row : List Pair) → slice_get phys.nets n ≡ Some net
      → slice_get seen.rows n ≡ Some row → IsRow rec seen net row
  pub apart : (one other : Res) (number : ResNumber) → IsNumbered rec seen one number
      → IsNumbered rec seen other number → one ≡ other
  pub nodes_are : seen.nodes ≡ length (nodes rec)
  pub nodes_first : (n number : ℕ) → IsNumbered rec seen (Node n) number → number < seen.nodes
  pub wires_after : (site wire number : ℕ) → IsNumbered rec seen (Wire site wire) number
      → seen.nodes ≤ number
  pub sites_all : length seen.bases ≡ length (sites_of rec)
  pub sites_are : (site : SiteNumber) (base : ResNumber) (wire : SiteWireNumber)
      → slice_get seen.bases site ≡ Some (Some base) → IsThere rec (Wire site wire)
      → base + wire < seen.count

-- the first segment that has no ends
abbrev pub IsFirstWithoutEnds : DeviceRec → Phys → Spot → Type 0
IsFirstWithoutEnds rec phys spot =
    IsFirstBreak (OfSegments phys (λ n net k. SegmentHasEnds rec net k)) spot

-- why there are no ends: the first segment without them, or want of memory
abbrev pub IsRefused : {A : Type 0} → DeviceRec → Phys → Result A EndsFault → Type 0
IsRefused rec phys (Err (NoEnds n k)) = IsFirstWithoutEnds rec phys (SegmentAt n k)
IsRefused rec phys result = Unit {0}
