-- The bits of the top's ports, port by port.
use Rattle.std.proofs.Common.{◌≡◌, refl, ap, sym, subst, ◌∙◌, ℕ, ◌+◌, ◌<◌, List, [], ◌∷◌, ◌++◌, map}
use Rattle.std.proofs.Common.{take, length, slice_get, Some, IfSome, append-nil, option_map}
use Rattle.std.proofs.Common.{unwrap_or}
use Rattle.std.specs.List.{AllByRecursion, cons_option, filter_map, flat_map}
use Rattle.std.proofs.lemmas.Grind.{flat_map-append}
use Rattle.std.proofs.lemmas.List.{map-append}
use Rattle.std.proofs.lemmas.List.Concat.{flat_map-cons}
use Rattle.std.proofs.lemmas.List.Elements.{filter_map-append}
use Rattle.ix_rec.specs.declared.device.DeviceRec.{DeviceRec}
use Rattle.ix_rec.specs.declared.device.PackagePin.{PackagePin}
use Rattle.ix_rec.specs.declared.netlist.CellDeclaration.{CellDeclaration}
use Rattle.ix_rec.specs.declared.netlist.NetlistRec.{NetlistRec}
use Rattle.ix_rec.specs.declared.netlist.Port.{Port}
use Rattle.ix_belmap.specs.declared.ports.Fixing.{Fixing}
use Rattle.ix_belmap.specs.Pins.{TopFits, bits_of_port, fixing_by, fixing_of, fixings, package_pins}
use Rattle.ix_belmap.specs.Pins.{pin_key, port_bits, property, top_ports}
use Rattle.ix_belmap.proofs.Lists.{among, map_map, take_all, take_more}

abbrev pub bits_of : List Port → List (Port × ℕ)
bits_of ports = flat_map (λ port. map (λ index. (port, index)) (bits_of_port port)) ports

-- the ports at the first so many places
abbrev pub first_ports : NetlistRec → CellDeclaration → (count : ℕ) → List Port
first_ports design top count = filter_map (slice_get design.port_list) (take count top.ports)

-- one port more
pub ports_next : (f : Port × ℕ → Fixing) (design : NetlistRec) (top : CellDeclaration) (i k : ℕ)
    (port : Port) (before now : List Fixing)
    → slice_get top.ports i ≡ Some k → slice_get design.port_list k ≡ Some port
    → before ≡ map f (bits_of (first_ports design top i))
    → now ≡ before ++ map (λ index. f (port, index)) (bits_of_port port)
    → now ≡ map f (bits_of (first_ports design top (i + 1)))
ports_next f design top i k port before now at is so_far grown =
    grown
    ∙ ap (λ l. l ++ map (λ index. f (port, index)) (bits_of_port port)) so_far
    ∙ ap (λ l. map f (bits_of ports) ++ l)
    (sym (map_map f (λ index. (port, index)) (bits_of_port port)))
    ∙ sym (map-append f (bits_of ports) (bits port))
    ∙ ap (map f) (ap (λ l. bits_of ports ++ l)
    (sym (flat_map-cons bits port [] ∙ append-nil (bits port)))
    ∙ sym (flat_map-append bits ports (port ∷ [])))
    ∙ ap (λ l. map f (bits_of l)) (sym next)
  where
    ports : List Port
    ports = first_ports design top i

    bits : Port → List (Port × ℕ)
    bits port = map (λ index. (port, index)) (bits_of_port port)

    next : first_ports design top (i + 1) ≡ ports ++ port ∷ []
    next = ap (filter_map (slice_get design.port_list)) (take_more top.ports i k at)
        ∙ filter_map-append (slice_get design.port_list) (take i top.ports) (k ∷ [])
        ∙ ap (λ o. ports ++ cons_option o []) is

-- all ports
pub all_ports : (names : List (List ℕ)) (rec : DeviceRec) (design : NetlistRec)
    (pins : List PackagePin)
    (top : CellDeclaration) (n : ℕ) (all : List Fixing)
    → slice_get design.cell_decls design.top_inst.cell ≡ Some top → n ≡ length top.ports
    → pins ≡ package_pins names rec design
    → all ≡ map (fixing_of names rec pins) (bits_of (first_ports design top n))
    → all ≡ fixings names rec design
unfolding fixings port_bits top_ports
all_ports names rec design pins top n all at end is told =
    told
    ∙ ap (λ p. map (fixing_of names rec p) (bits_of (first_ports design top n))) is
    ∙ ap (λ l. map (fixing_of names rec (package_pins names rec design))
    (bits_of (filter_map (slice_get design.port_list) l))) (take_all top.ports n end)
    ∙ ap (λ o. map (fixing_of names rec (package_pins names rec design))
    (bits_of (unwrap_or (option_map (λ t. filter_map (slice_get design.port_list) t.ports) o) [])))
    (sym at)

-- a port of the top is there
pub port_there : (design : NetlistRec) (top : CellDeclaration) (i k : ℕ) → TopFits design
    → slice_get design.cell_decls design.top_inst.cell ≡ Some top → slice_get top.ports i ≡ Some k
    → k < length design.port_list
port_there design top i k fits at here =
    among (λ port. port < length design.port_list) top.ports i k
    (subst (λ o. IfSome o (λ t. AllByRecursion (λ port. port < length design.port_list) t.ports)) at
    fits.ports)
    here

-- where a bit is fixed
pub fixing_told : (names : List (List ℕ)) (rec : DeviceRec) (pins : List PackagePin) (port : Port)
    (index : ℕ)
    → fixing_by rec pins (property names port.prop_map.entries (pin_key port.kind index))
    ≡ fixing_of names rec pins (port, index)
unfolding fixing_of
fixing_told names rec pins port index = refl
