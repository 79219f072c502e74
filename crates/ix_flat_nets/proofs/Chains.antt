-- Chains of crossings joined and turned, and what is on the nets at their ends.
use Rattle.std.proofs.Common.{refl, sym, subst, List, [], ◌∷◌, ◌++◌, inl, inr}
use Rattle.ix_message.specs.Shape.{Text}
use Rattle.ix_num.specs.declared.resource.Constant.{Constant}
use Rattle.ix_rec.specs.declared.device.DeviceRec.{DeviceRec}
use Rattle.ix_rec.specs.declared.netlist.Cell.{Cell}
use Rattle.ix_rec.specs.declared.netlist.Net.{Net}
use Rattle.ix_rec.specs.declared.netlist.NetlistRec.{NetlistRec}
use Rattle.ix_hierarchy.specs.Nets.{Occurrence, Occurs, AreOneNet, Cross, IsChain}
use Rattle.ix_hierarchy.specs.Pins.{Pin, LeafPin, TopPin, IsConstantNet, IsOn, IsOnNet, HasSink}

pub joined_on : (design : NetlistRec) (a b c : Occurrence) → AreOneNet design a b
    → AreOneNet design b c → AreOneNet design a c
joined_on design a b c x y = (x.0 ++ y.0, by a x.0 x.1)
  where
    by : (from : Occurrence) (chain : List Occurrence) → IsChain design from chain b
        → IsChain design from (chain ++ y.0) c
    by from [] h = subst (λ (o : Occurrence). IsChain design o y.0 c) (sym h) y.1
    by from (next ∷ chain) h = (h.0, by next chain h.1)

swap : (design : NetlistRec) (a b : Occurrence) → Cross design a b → Cross design b a
swap design a b (inl h) = inr h
swap design a b (inr h) = inl h

pub joined_back : (design : NetlistRec) (a b : Occurrence) → AreOneNet design a b
    → AreOneNet design b a
joined_back design a b x = by a x.0 x.1
  where
    by : (from : Occurrence) (chain : List Occurrence) → IsChain design from chain b
        → AreOneNet design b from
    by from [] h = ([], sym h)
    by from (next ∷ chain) h =
        joined_on design b next from (by next chain h.1) (from ∷ [], (swap design from next h.0, refl))

pub occurs_of : (design : NetlistRec) (pin : Pin) (at : Occurrence) → IsOn design pin at
    → (cell : Cell) × (net : Net) × Occurs design at cell net
occurs_of design (LeafPin path bit) at on = (on.cell, on.net, on.occurs)
occurs_of design (TopPin place index) at on = (on.cell, on.net, on.occurs)

-- what is on a net is on it at each of its occurrences
pub on_moved : (design : NetlistRec) (pin : Pin) (a b : Occurrence) → AreOneNet design a b
    → IsOnNet design pin b → IsOnNet design pin a
on_moved design pin a b one on = record {
  where_at = on.where_at;
  one_net = joined_on design a b on.where_at one on.one_net;
  on = on.on;
}

pub sink_moved : (rec : DeviceRec) (design : NetlistRec) (a b : Occurrence)
    → AreOneNet design a b → HasSink rec design b → HasSink rec design a
sink_moved rec design a b one has = (has.0, has.1, on_moved design has.0 a b one has.2)

pub constant_moved : (names : List Text) (rec : DeviceRec) (design : NetlistRec)
    (constant : Constant) (a b : Occurrence) → AreOneNet design a b
    → IsConstantNet names rec design constant b → IsConstantNet names rec design constant a
constant_moved names rec design constant a b one c = record {
  path = c.path;
  bit = c.bit;
  drives = c.drives;
  on = on_moved design (LeafPin c.path c.bit) a b one c.on;
}
