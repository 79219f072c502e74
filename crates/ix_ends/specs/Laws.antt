-- What follows from the definitions of ends and of graphs.
use Rattle.std.specs.Prelude.{◌≡◌, ◌<◌, length, slice_get, Some}
use Rattle.ix_num.specs.Numbers.{NodeNumber}
use Rattle.ix_num.specs.declared.resource.Res.{Res}
use Rattle.ix_rec.specs.declared.device.DeviceRec.{DeviceRec}
use Rattle.ix_rec.specs.declared.phys.Segment.{Segment}
use Rattle.ix_graph.specs.Constants.{constant_of_node}
use Rattle.ix_graph.specs.Ends.{ends}
use Rattle.ix_graph.specs.Graph.{graph_of}
use Rattle.ix_graph.specs.Nodes.{nodes}
use Rattle.ix_ends.specs.Ends.{IsThere}

-- What a segment has as its ends the device has.
abbrev pub EndsAreThere : Type 0
EndsAreThere = (rec : DeviceRec) (s : Segment) (from to : Res) → ends rec s ≡ Some (from, to)
    → IsThere rec from × IsThere rec to

-- The graph of a device tells the constant of each of its nodes.
abbrev pub GraphHasConstants : Type 0
GraphHasConstants = (rec : DeviceRec) (n : NodeNumber) → n < length (nodes rec)
    → slice_get (graph_of rec).constants n ≡ Some (constant_of_node rec n)

-- The graph of a device has its nodes.
abbrev pub GraphHasNodes : Type 0
GraphHasNodes = (rec : DeviceRec) → length (graph_of rec).firsts ≡ length (nodes rec)
