-- The signal nets of a design by their places and names.
use Rattle.std.proofs.Common.{◌≡◌, ◌∙◌, ap, sym, subst, ℕ, List, slice_get, Some}
use Rattle.std.proofs.lemmas.List.{length-map}
use Rattle.std.proofs.lemmas.Option.{same_Some}
use Rattle.ix_message.specs.Shape.{Text}
use Rattle.ix_rec.specs.declared.device.DeviceRec.{DeviceRec}
use Rattle.ix_rec.specs.declared.netlist.Cell.{Cell}
use Rattle.ix_rec.specs.declared.netlist.Net.{Net}
use Rattle.ix_rec.specs.declared.netlist.NetlistRec.{NetlistRec}
use Rattle.ix_hierarchy.specs.Walk.{IsBefore, Spot, TopBit, NetAt, InstanceAt, PinAt}
use Rattle.ix_hierarchy.specs.Nets.{Occurrence, Occurs, net_text, spot_of}
use Rattle.ix_hierarchy.specs.FlatDesign.{AreSignals, IsNetText}
use Rattle.ix_hierarchy.specs.Broken.{IsCounted, IsNetNamed}
use Rattle.ix_joined.specs.declared.joined.Joined.{Joined}
use Rattle.ix_joined.specs.Joining.{Known}
use Rattle.ix_flat_lists.specs.declared.named.Named.{Named}
use Rattle.ix_flat_lists.specs.Naming.{IsNamed}
use Rattle.ix_named_twice.specs.Spots.{net_spots}
use Rattle.ix_named_twice.proofs.Indexed.{from_map, into_map}
use Rattle.ix_named_twice.proofs.Seconds.{AreSpots}

-- an occurrence is of one net
one_net : (design : NetlistRec) (at : Occurrence) (c d : Cell) (m n : Net)
    → Occurs design at c m → Occurs design at d n → m ≡ n
one_net design at c d m n x y =
    let cells : c ≡ d = same_Some c d (sym x.inside ∙ y.inside) in
    same_Some m n (sym x.net_is ∙ ap (λ (e : Cell). slice_get e.nets at.net) cells ∙ y.net_is)

-- and has one name
one_text : (names : List Text) (design : NetlistRec) (at : Occurrence) (s t : Text)
    → IsNetText names design at s → IsNetText names design at t → s ≡ t
one_text names design at s t x y =
    x.text_is
    ∙ ap (net_text names design at.path) (one_net design at x.first.cell y.first.cell x.first.net
    y.first.net x.first.occurs y.first.occurs)
    ∙ sym y.text_is

same_text : (names : List Text) (rec : DeviceRec) (design : NetlistRec) (spot : Spot)
    (s t : Text) → IsNetNamed names rec design spot s → IsNetNamed names rec design spot t → s ≡ t
same_text names rec design (NetAt path net) s t x y =
    one_text names design record { path = path; net = net } s t x.1 y.1
same_text names rec design (TopBit place index) s t x y = absurd x
same_text names rec design (InstanceAt path) s t x y = absurd x
same_text names rec design (PinAt path place index) s t x y = absurd x

all_nets : (names : List Text) (rec : DeviceRec) (design : NetlistRec) (nets : List Occurrence)
    → AreSignals names rec design nets → (spot : Spot) (text : Text)
    → IsNetNamed names rec design spot text
    → (k : ℕ) × (slice_get (net_spots nets) k ≡ Some spot)
all_nets names rec design nets are (NetAt path net) text x =
    let at : Occurrence = record { path = path; net = net } in
    let n = are.all at x.0 in
    (n.0, into_map spot_of nets n.0 at n.1)
all_nets names rec design nets are (TopBit place index) text x = absurd x
all_nets names rec design nets are (InstanceAt path) text x = absurd x
all_nets names rec design nets are (PinAt path place index) text x = absurd x

pub net_counted : (names : List Text) (rec : DeviceRec) (design : NetlistRec) (spot : Spot)
    (text : Text) → IsNetNamed names rec design spot text → IsCounted design spot
net_counted names rec design (NetAt path net) text x =
    (x.1.first.cell, x.1.first.net, x.1.first.occurs)
net_counted names rec design (TopBit place index) text x = absurd x
net_counted names rec design (InstanceAt path) text x = absurd x
net_counted names rec design (PinAt path place index) text x = absurd x

pub nets_are : (known : Known) (design : NetlistRec) (joined : Joined) (named : Named)
    (is : IsNamed known design joined named)
    → AreSpots (IsNetNamed known.names known.device design) known.names named.net_names.items
    (net_spots is.nets)
nets_are known design joined named is = record {
  many = is.many ∙ sym (length-map is.nets spot_of);
  each = λ k id spot x y.
      let at = from_map spot_of is.nets k spot y in
      let t = is.net_names k id at.0 x at.1 in (
        t.0,
        t.1,
        subst (λ (s : Spot). IsNetNamed known.names known.device design s t.0) at.2
            (is.are_nets.are.each k at.0 at.1, t.2),
      );
  all = all_nets known.names known.device design is.nets is.are_nets.are;
  rise = λ j k a b lt x y.
      let p = from_map spot_of is.nets j a x in
      let q = from_map spot_of is.nets k b y in
      subst (λ (s : Spot). IsBefore s b) p.2
      (subst (λ (s : Spot). IsBefore (spot_of p.0) s) q.2
      (is.are_nets.are.rise j k p.0 q.0 lt p.1 q.1));
  same = same_text known.names known.device design;
}
