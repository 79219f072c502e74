-- The nets that hold a resource.
use Rattle.std.specs.Prelude.{◌≡◌, ◌⊎◌, List, take, length, slice_get, Bool, true, false}
use Rattle.std.specs.Prelude.{Option, Some, None, option_map}
use Rattle.std.specs.List.{filter}
use Rattle.ix_num.specs.Numbers.{NodeNumber}
use Rattle.ix_num.specs.declared.resource.Constant.{Constant}
use Rattle.ix_num.specs.declared.resource.Constant.TheVariants as constants
use Rattle.ix_num.specs.declared.resource.NetRef.{NetRef}
use Rattle.ix_num.specs.declared.resource.NetRef.TheVariants as holders
use Rattle.ix_num.specs.declared.resource.Res.{Res}
use Rattle.ix_num.specs.declared.resource.Res.TheVariants.{Node, Wire}
use Rattle.ix_rec.specs.declared.device.DeviceRec.{DeviceRec}
use Rattle.ix_rec.specs.declared.phys.Phys.{Phys}
use Rattle.ix_rec.specs.declared.phys.PhysNet.{PhysNet}
use Rattle.ix_rec.specs.declared.phys.Segment.{Segment}
use Rattle.ix_rec.specs.declared.phys.NetType.{NetType}
use Rattle.ix_rec.specs.declared.phys.NetType.TheVariants.{Signal, Gnd, Vcc}
use Rattle.ix_rec.specs.declared.phys.BranchKind.TheVariants.{Pip}
use Rattle.ix_graph.specs.Constants.{constant_of_node}
use Rattle.ix_legal.specs.Segments.{NetNumber, SegmentNumber, segment_at, IsEnd}

-- the nets of this type
abbrev pub is_of_type : NetType → NetType → Bool
is_of_type Signal Signal = true
is_of_type Gnd Gnd = true
is_of_type Vcc Vcc = true
is_of_type ty other = false

abbrev pub nets_of_type : NetType → List PhysNet → List PhysNet
nets_of_type ty nets = filter (λ net. is_of_type ty net.ty) nets

-- A holder is the net of a constant, also where the netlist lists no such net, or a signal net.
-- Signal nets are numbered by themselves: by how many of them stand before.
abbrev pub as_holder : List PhysNet → NetNumber → NetType → NetRef
as_holder nets n Signal = holders.Signal (length (nets_of_type Signal (take n nets)))
as_holder nets n Gnd = holders.Gnd
as_holder nets n Vcc = holders.Vcc

abbrev pub net_of_constant : Constant → NetRef
net_of_constant constants.Gnd = holders.Gnd
net_of_constant constants.Vcc = holders.Vcc

-- the constant of a net; none of a signal net
abbrev pub constant_of_net : NetType → Option Constant
constant_of_net Signal = None
constant_of_net Gnd = Some constants.Gnd
constant_of_net Vcc = Some constants.Vcc

-- the constant of a node; none of a site wire
abbrev pub constant_of : DeviceRec → Res → Option Constant
constant_of rec (Node n) = constant_of_node rec n
constant_of rec (Wire site wire) = None

-- one of the net's segments has the resource as an end
abbrev pub HasEnd : DeviceRec → PhysNet → Res → Type 0
HasEnd rec net r = (k : SegmentNumber) × IsEnd rec net k r

-- one of these nets has it so
pub record HoldsByWiring (rec : DeviceRec) (nets : List PhysNet) (r : Res) (holder : NetRef)
    : Type 0 where
  pub number : NetNumber
  pub net : PhysNet
  pub net_is : slice_get nets number ≡ Some net
  pub holder_is : as_holder nets number net.ty ≡ holder
  pub has_end : HasEnd rec net r

-- A net holds what its segments have as an end. A node of a constant is besides held by the net of
-- that constant.
abbrev pub Holds : DeviceRec → List PhysNet → Res → NetRef → Type 0
Holds rec nets r holder = HoldsByWiring rec nets r holder
    ⊎ (option_map net_of_constant (constant_of rec r) ≡ Some holder)

-- Before routing, a node that a net holds is reserved to it.
abbrev pub IsReserved : DeviceRec → Phys → NodeNumber → NetRef → Type 0
IsReserved rec phys n holder = Holds rec phys.nets (Node n) holder

-- a PIP that a net of the netlist uses has the resource as an end
pub record IsEndOfPip (rec : DeviceRec) (phys : Phys) (r : Res) : Type 0 where
  pub number : NetNumber
  pub net : PhysNet
  pub net_is : slice_get phys.nets number ≡ Some net
  pub place : SegmentNumber
  pub segment : Segment
  pub segment_is : segment_at net place ≡ Some segment
  pub is_pip : segment.kind ≡ Pip
  pub is_end : IsEnd rec net place r
