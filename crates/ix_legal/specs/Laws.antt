-- What follows from the rules.
use Rattle.std.specs.Prelude.{◌≡◌, ◌↔◌, ◌<◌, List, [], ◌∷◌, length, slice_get, Option, None, Some}
use Rattle.ix_message.specs.Shape.{Text}
use Rattle.ix_num.specs.declared.resource.NetRef.{NetRef}
use Rattle.ix_num.specs.declared.resource.Res.{Res}
use Rattle.ix_rec.specs.declared.device.DeviceRec.{DeviceRec}
use Rattle.ix_rec.specs.declared.phys.Phys.{Phys}
use Rattle.ix_rec.specs.declared.phys.PhysNet.{PhysNet}
use Rattle.ix_rec.specs.declared.phys.NetType.{NetType}
use Rattle.ix_rec.specs.declared.phys.NetType.TheVariants.{Signal}
use Rattle.ix_rec.specs.declared.phys.Segment.{Segment}
use Rattle.ix_rec.specs.declared.place.Place.{Place}
use Rattle.ix_rec.specs.declared.place.Rule.{Rule}
use Rattle.ix_legal.specs.declared.level.Level.{Level}
use Rattle.ix_legal.specs.declared.level.Level.TheVariants.{Placed, Routed}
use Rattle.ix_legal.specs.Segments.{NetNumber, SegmentNumber, segments, IsRoot}
use Rattle.ix_legal.specs.Segments.{IsParent, segment_at, in_end, out_end, Enters}
use Rattle.ix_legal.specs.Holders.{HasEnd, Holds}
use Rattle.ix_legal.specs.Spots.{Everywhere}
use Rattle.ix_legal.specs.Trees.{IsSource}
use Rattle.ix_legal.specs.Sharing.{Counts, IsUnshared}
use Rattle.ix_legal.specs.Legal.{Legal, IsAnswer}

-- In a legal routed netlist each net is a tree, or for a constant one tree from each root.

-- the one goes on as the other, by equal ends
pub record GoesOn (rec : DeviceRec) (net : PhysNet) (parent child : SegmentNumber) : Type 0 where
  pub is_parent : IsParent net parent child
  pub end : Res
  pub leaves : out_end rec net parent ≡ Some end
  pub enters : in_end rec net child ≡ Some end

-- each goes on as the next
abbrev pub IsWay : DeviceRec → PhysNet → (from : SegmentNumber) → List SegmentNumber
    → (to : SegmentNumber) → Type 0
IsWay rec net from [] to = from ≡ to
IsWay rec net from (next ∷ way) to = GoesOn rec net from next × IsWay rec net next way to

-- a segment hangs from a root
pub record Hangs (rec : DeviceRec) (net : PhysNet) (k : SegmentNumber) : Type 0 where
  pub root : SegmentNumber
  pub is_root : IsRoot net root
  pub way : List SegmentNumber
  pub leads : IsWay rec net root way k

-- a signal net has one root, its first segment
abbrev pub HasOneRoot : NetType → PhysNet → Type 0
HasOneRoot Signal net = (k : SegmentNumber) → IsRoot net k ↔ (k ≡ 0)
HasOneRoot constant net = Unit {0}

-- Each root is a driver, or a source of the net's constant. Every segment hangs from a root through
-- equal ends. No resource is entered twice, or entered as a root's in-end.
pub record AreTrees (rec : DeviceRec) (phys : Phys) (net : PhysNet) : Type 0 where
  pub no_stubs : net.stubs ≡ []
  pub one_root : HasOneRoot net.ty net
  pub roots : (root : SegmentNumber) (s : Segment) → IsRoot net root
      → segment_at net root ≡ Some s → IsSource net.ty rec phys root s
  pub hangs : (k : SegmentNumber) → k < length (segments net) → Hangs rec net k
  pub entered_once : (i j : SegmentNumber) (r : Res) → Enters rec net i r → Enters rec net j r
      → i ≡ j
  pub roots_not_entered : (root k : SegmentNumber) (r : Res) → IsRoot net root
      → in_end rec net root ≡ Some r → Enters rec net k r → ⊥

abbrev pub TreesFollow : Type 0
TreesFollow = (names : List Text) (rec : DeviceRec) (phys : Phys)
    → Legal Routed names rec phys → (n : NetNumber) (net : PhysNet)
    → slice_get phys.nets n ≡ Some net → AreTrees rec phys net

-- What is legal routed is legal placed.
abbrev pub RoutedIsPlaced : Type 0
RoutedIsPlaced = (names : List Text) (rec : DeviceRec) (phys : Phys)
    → Legal Routed names rec phys → Legal Placed names rec phys

-- No resource has two holders, as far as the level asks it, and no two nets of the list have it.
pub record HasOneHolder (rec : DeviceRec) (nets : List PhysNet) (r : Res) : Type 0 where
  pub one_holder : (one other : NetRef) → Holds rec nets r one → Holds rec nets r other
      → one ≡ other
  pub one_net : (n m : NetNumber) (net other : PhysNet) → slice_get nets n ≡ Some net
      → slice_get nets m ≡ Some other → HasEnd rec net r → HasEnd rec other r → n ≡ m

abbrev pub HoldersAreOne : Type 0
HoldersAreOne = (level : Level) (rec : DeviceRec) (phys : Phys)
    → Everywhere (IsUnshared level rec phys) → (r : Res)
    → Counts level rec phys r → HasOneHolder rec phys.nets r

-- There is one answer, and it is none exactly where the netlist is legal.
abbrev pub AnswersAreOne : Type 0
AnswersAreOne = (level : Level) (names : List Text) (rec : DeviceRec) (phys : Phys)
    (one other : Option (Rule × Place)) → IsAnswer level names rec phys one
    → IsAnswer level names rec phys other → one ≡ other

abbrev pub BrokenIsNotLegal : Type 0
BrokenIsNotLegal = (level : Level) (names : List Text) (rec : DeviceRec) (phys : Phys)
    (answer : Option (Rule × Place)) → IsAnswer level names rec phys answer
    → Legal level names rec phys ↔ (answer ≡ None)
