-- What is asked at level placed is asked at level routed too.
use Rattle.std.proofs.lemmas.Option.{IfSome_then}
use Rattle.std.specs.Prelude.{slice_get}
use Rattle.ix_num.specs.declared.resource.Res.{Res}
use Rattle.ix_num.specs.declared.resource.Res.TheVariants.{Node, Wire}
use Rattle.ix_rec.specs.declared.device.DeviceRec.{DeviceRec}
use Rattle.ix_rec.specs.declared.phys.Phys.{Phys}
use Rattle.ix_legal.specs.declared.level.Level.TheVariants.{Placed, Routed}
use Rattle.ix_legal.specs.Spots.{Spot, InstanceAt, PlacementAt, NetAt, SegmentAt, PropertyAt}
use Rattle.ix_legal.specs.Spots.{ElementAt}
use Rattle.ix_legal.specs.Sharing.{Counts, IsUnshared, IsRouted}

counts_routed : (rec : DeviceRec) (phys : Phys) (r : Res) → Counts Routed rec phys r
counts_routed rec phys (Node n) = tt
counts_routed rec phys (Wire site wire) = tt

pub unshared_placed : (rec : DeviceRec) (phys : Phys) (spot : Spot)
    → IsUnshared Routed rec phys spot → IsUnshared Placed rec phys spot
unshared_placed rec phys (InstanceAt i) h = tt
unshared_placed rec phys (PlacementAt i) h = tt
unshared_placed rec phys (NetAt n) h = h
unshared_placed rec phys (SegmentAt n k) h = IfSome_then (slice_get phys.nets n) h (λ net shares. record {
  of_one_net = λ r earlier other is counts. shares.of_one_net r earlier other is (counts_routed rec phys r);
  own_constant = λ r c is counts. shares.own_constant r c is (counts_routed rec phys r);
})
unshared_placed rec phys (PropertyAt i) h = tt
unshared_placed rec phys (ElementAt i element) h = tt

pub routed_placed : (phys : Phys) (spot : Spot) → IsRouted Placed phys spot
routed_placed phys (InstanceAt i) = tt
routed_placed phys (PlacementAt i) = tt
routed_placed phys (NetAt n) = tt
routed_placed phys (SegmentAt n k) = tt
routed_placed phys (PropertyAt i) = tt
routed_placed phys (ElementAt i element) = tt
