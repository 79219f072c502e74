-- The port of a pin is one of the leaf's declaration.
use Rattle.std.proofs.Common.{◌≡◌, ◌<◌, ◌∙◌, ℕ, length, nat_eq, ◌&&◌, true}
use Rattle.std.proofs.Common.{Some, slice_get, Contains, sym, ap, subst, inl, inr, arith}
use Rattle.std.proofs.lemmas.Bool.{cases_eq}
use Rattle.std.proofs.lemmas.Bool.Decides.{nat_tests}
use Rattle.std.proofs.lemmas.Option.{same_Some}
use Rattle.ix_rec.specs.declared.netlist.Cell.{Cell}
use Rattle.ix_rec.specs.declared.netlist.CellInstance.{CellInstance}
use Rattle.ix_rec.specs.declared.netlist.NetlistRec.{NetlistRec}
use Rattle.ix_rec.specs.declared.netlist.PortInstance.{PortInstance}
use Rattle.ix_rec.specs.declared.netlist.PortOwner.{PortOwner}
use Rattle.ix_rec.specs.declared.netlist.PortOwner.TheVariants.{ExtPort, Inst}
use Rattle.ix_hierarchy.specs.Hierarchy.{Path, PortBit, instance_at, ports_of}
use Rattle.ix_hierarchy.specs.Fits.{NetlistFits, CellFits, NetFits, PortInstanceFits, IsPortOf}
use Rattle.ix_hierarchy.specs.Nets.{Occurrence, is_of, same_bit, bit_of}
use Rattle.ix_hierarchy.specs.Pins.{IsLeafPinOn}
use Rattle.ix_inout.proofs.Parts.{any_at, both_parts, all_at, found_at}
use Rattle.ix_inout.proofs.Reached.{instance_below, child_at, inside_there}

owner_is : (instance : ℕ) (owner : PortOwner) → is_of instance owner ≡ true
    → owner ≡ Inst instance
owner_is instance ExtPort h = absurd cc
owner_is instance (Inst other) h = elim (cases_eq other instance) [
  | inl e ↦ ap Inst e
  | inr n ↦ absurd (grind (arith, nat_tests))
]

port_of_inst : (design : NetlistRec) (own instance port : ℕ) (owner : PortOwner)
    → owner ≡ Inst instance → IsPortOf design own owner port
    → (inst : CellInstance) × (slice_get design.inst_list instance ≡ Some inst)
    × Contains (ports_of design inst.cell) port
port_of_inst design own instance port ExtPort e h = absurd cc
port_of_inst design own instance port (Inst other) e h =
    let same : other ≡ instance = cc in
    (h.0, ap (slice_get design.inst_list) (sym same) ∙ h.1, h.2)

pub port_there : (names : ℕ) (design : NetlistRec) (path : Path) (bit : PortBit)
    (at : Occurrence) → NetlistFits names design → (on : IsLeafPinOn design path bit at)
    → (bit.port < length design.port_list) × Contains (ports_of design on.inst.cell) bit.port
port_there names design path bit at F on =
    let up = inside_there design at.path on.cell on.occurs.inside in
    let place = found_at (λ (c : Cell). nat_eq c.index up.0.cell) design.cell_list on.cell up.2 in
    let C : CellFits names design on.cell =
    all_at (CellFits names design) design.cell_list place.0 on.cell F.cells place.1 in
    let N : NetFits names design on.cell.index on.net =
    all_at (NetFits names design on.cell.index) on.cell.nets at.net on.net C.nets
    on.occurs.net_is in
    let x = any_at (λ (named : PortInstance). is_of on.instance named.owner
    && same_bit (bit_of named) bit) on.net.port_insts on.named in
    let both = both_parts (is_of on.instance x.1.owner) (same_bit (bit_of x.1) bit) x.3 in
    let ports =
    both_parts (nat_eq x.1.port bit.port) (nat_eq (bit_of x.1).index bit.index) both.1 in
    let port : x.1.port ≡ bit.port = grind (arith, nat_tests, ports.0) in
    let fits : PortInstanceFits design on.cell.index x.1 =
    all_at (PortInstanceFits design on.cell.index) on.net.port_insts x.0 x.1 N.named x.2 in
    let of = port_of_inst design on.cell.index on.instance x.1.port x.1.owner
    (owner_is on.instance x.1.owner both.0) fits.1 in
    let here : instance_at design path ≡ Some of.0 =
    ap (instance_at design) on.below ∙ instance_below design at.path on.place up.0 up.1
    ∙ child_at design up.0 on.cell on.place on.instance of.0 up.2 on.which of.1 in
    let same : of.0 ≡ on.inst = same_Some of.0 on.inst (sym here ∙ on.leaf.is) in
    let few = fits.0 in (
      omega arith,
      subst (λ (p : ℕ). Contains (ports_of design on.inst.cell) p) port
          (subst (λ (i : CellInstance). Contains (ports_of design i.cell) x.1.port) same of.2),
    )
