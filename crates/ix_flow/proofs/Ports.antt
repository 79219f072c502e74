-- The port cells of a flat design are the bits of the top's ports that package pins are asked of.
use Rattle.std.proofs.Common.{◌≡◌, ◌∙◌, ap, refl, sym, subst, ℕ, ◌+◌, ◌<◌, List, [], ◌∷◌, length, map}
use Rattle.std.proofs.Common.{slice_get, zero, suc, Option, Some, None, IfSome, is_some, cond}
use Rattle.std.proofs.Common.{arith, codes, Bool, ◌++◌}
use Rattle.std.specs.List.{AllByRecursion, cons_option, filter_map, range_with_len, sum_by}
use Rattle.std.proofs.lemmas.List.Concat.{length-flat_map}
use Rattle.std.proofs.lemmas.List.FromFn.{length-map-range_with_len}
use Rattle.std.proofs.lemmas.List.Sums.{sum_by-cons}
use Rattle.ix_message.specs.Shape.{Text}
use Rattle.ix_rec.specs.declared.device.Direction.{Direction}
use Rattle.ix_rec.specs.declared.device.Direction.TheVariants.{Input, Output, Inout}
use Rattle.ix_rec.specs.declared.netlist.CellDeclaration.{CellDeclaration}
use Rattle.ix_rec.specs.declared.netlist.NetlistRec.{NetlistRec}
use Rattle.ix_rec.specs.declared.netlist.Port.{Port}
use Rattle.ix_rec.specs.declared.netlist.PortKind.{PortKind}
use Rattle.ix_rec.specs.declared.netlist.PortKind.TheVariants.{Bit, Bus}
use Rattle.ix_hierarchy.specs.Hierarchy.{bits_of_kind, ports_of, width, written}
use Rattle.ix_hierarchy.specs.Fits.{DeclarationFits, NetlistFits}
use Rattle.ix_hierarchy.specs.FlatDesign.{cells_of_port, port_cells, port_cells_of, port_type}
use Rattle.ix_belmap.specs.Pins.{TopFits, bits_of_port, port_bits, top_ports}
use Rattle.ix_belmap.specs.Pins.{bits_of_kind as bits_in, cells_of_port as cells_towards}

-- Both count the bits of a port alike.
kinds : (kind : PortKind) (first last : ℕ) → bits_in kind first last
    ≡ bits_of_kind kind first last
kinds Bit first last = refl
kinds Bus first last = refl

abbrev if_typed : Bool → ℕ → ℕ
if_typed typed n = cond typed n 0

towards : (dir : Direction) (bits : ℕ) → cells_towards dir bits
    ≡ if_typed (is_some (port_type dir)) bits
towards Input bits = refl
towards Output bits = refl
towards Inout bits = refl

abbrev bits : Port → List (Port × ℕ)
bits port = map (λ index. (port, index)) (bits_of_port port)

bit_count : (port : Port) → length (bits port) ≡ cells_of_port (Some port)
bit_count port =
    length-map-range_with_len (λ index. (port, index)) 0
    (cells_towards port.dir (bits_in port.kind port.bus_start port.bus_end))
    ∙ ap (cells_towards port.dir) (kinds port.kind port.bus_start port.bus_end)
    ∙ towards port.dir (width port)

abbrev cells_in : List Port → (number : ℕ) → ℕ
cells_in ports number = cells_of_port (slice_get ports number)

none_more : (n : ℕ) → 0 + n ≡ n
none_more n = omega arith

bits_sum : (ports : List Port) (numbers : List ℕ)
    → sum_by (λ port. length (bits port)) (filter_map (slice_get ports) numbers)
    ≡ sum_by (cells_in ports) numbers
bits_sum ports [] = refl
bits_sum ports (number ∷ numbers) = by (bits_sum ports numbers) (slice_get ports number) refl
  where
    by : sum_by (λ port. length (bits port)) (filter_map (slice_get ports) numbers)
        ≡ sum_by (cells_in ports) numbers
        → (o : Option Port) → slice_get ports number ≡ o
        → sum_by (λ port. length (bits port)) (filter_map (slice_get ports) (number ∷ numbers))
        ≡ sum_by (cells_in ports) (number ∷ numbers)
    by more None e =
        ap (λ o. sum_by (λ port. length (bits port))
        (cons_option o (filter_map (slice_get ports) numbers))) e
        ∙ more
        ∙ sym (sum_by-cons (cells_in ports) number numbers
        ∙ ap (λ o. cells_of_port o + sum_by (cells_in ports) numbers) e
        ∙ none_more (sum_by (cells_in ports) numbers))
    by more (Some port) e =
        ap (λ o. sum_by (λ port. length (bits port))
        (cons_option o (filter_map (slice_get ports) numbers))) e
        ∙ sum_by-cons (λ port. length (bits port)) port (filter_map (slice_get ports) numbers)
        ∙ ap (λ n. n + sum_by (λ port. length (bits port))
        (filter_map (slice_get ports) numbers)) (bit_count port)
        ∙ ap (λ n. cells_of_port (Some port) + n) more
        ∙ sym (sum_by-cons (cells_in ports) number numbers
        ∙ ap (λ o. cells_of_port o + sum_by (cells_in ports) numbers) e)

-- the ports of the top, by both
ports_are : (design : NetlistRec) → top_ports design
    ≡ filter_map (slice_get design.port_list) (ports_of design design.top_inst.cell)
unfolding top_ports
ports_are design = by (slice_get design.cell_decls design.top_inst.cell) refl
  where
    by : (o : Option CellDeclaration) → slice_get design.cell_decls design.top_inst.cell ≡ o
        → top_ports design
        ≡ filter_map (slice_get design.port_list) (ports_of design design.top_inst.cell)
    by None e = rw e refl
    by (Some top) e = rw e refl

bits_are : (design : NetlistRec) → length (port_bits design)
    ≡ sum_by (cells_in design.port_list) (ports_of design design.top_inst.cell)
unfolding port_bits
bits_are design =
    length-flat_map bits (top_ports design)
    ∙ ap (sum_by (λ port. length (bits port))) (ports_are design)
    ∙ bits_sum design.port_list (ports_of design design.top_inst.cell)

-- Port cells are as many.
abbrev cells_at : List Text → NetlistRec → (number : ℕ) → List (Text × Text)
cells_at names design number = of (slice_get design.port_list number)
  where
    of : Option Port → List (Text × Text)
    of None = []
    of (Some port) = port_cells_of names port

abbrev typed : List Text → Port → Option Text → List (Text × Text)
typed names port None = []
typed names port (Some ty) =
    map (λ index. (codes "$port/" ++ written names port index, ty)) (range_with_len 0 (width port))

typed_long : (names : List Text) (port : Port) (o : Option Text)
    → length (typed names port o) ≡ if_typed (is_some o) (width port)
typed_long names port None = refl
typed_long names port (Some ty) = length-map-range_with_len
    (λ index. (codes "$port/" ++ written names port index, ty)) 0 (width port)

port_long : (names : List Text) (design : NetlistRec) (number : ℕ)
    → length (cells_at names design number) ≡ cells_in design.port_list number
port_long names design number = by (slice_get design.port_list number) refl
  where
    by : (o : Option Port) → slice_get design.port_list number ≡ o
        → length (cells_at names design number) ≡ cells_in design.port_list number
    by None e = rw e refl
    by (Some port) e =
        let is : length (port_cells_of names port) ≡ cells_of_port (Some port) =
        typed_long names port (port_type port.dir) in rw e is

sum_same : (f g : ℕ → ℕ) (xs : List ℕ) → ((x : ℕ) → f x ≡ g x) → sum_by f xs ≡ sum_by g xs
sum_same f g [] same = refl
sum_same f g (x ∷ xs) same =
    sum_by-cons f x xs ∙ ap (λ n. n + sum_by f xs) (same x)
    ∙ ap (λ n. g x + n) (sum_same f g xs same) ∙ sym (sum_by-cons g x xs)

pub port_cells_are : (names : List Text) (design : NetlistRec) → length (port_bits design)
    ≡ length (port_cells names design)
port_cells_are names design =
    let ports = ports_of design design.top_inst.cell in
    bits_are design
    ∙ sym (length-flat_map (cells_at names design) ports
    ∙ sum_same (λ n. length (cells_at names design n)) (cells_in design.port_list) ports
    (port_long names design))

-- The top of a design and its ports are in its lists.
among : {A : Type 0} (P : A → Type 0) (xs : List A) (i : ℕ) (x : A) → AllByRecursion P xs
    → slice_get xs i ≡ Some x → P x
among P [] i x all at = let bad : None ≡ Some x = at in cc
among P (y ∷ ys) zero x all at = subst P (let e : Some y ≡ Some x = at in cc) all.0
among P (y ∷ ys) (suc i) x all at = among P ys i x all.1 at

pub top_fits : (names : ℕ) (design : NetlistRec) → NetlistFits names design → TopFits design
top_fits names design fits = record {
  cell = fits.top.cell;
  ports = by (slice_get design.cell_decls design.top_inst.cell) refl;
}
  where
    by : (o : Option CellDeclaration) → slice_get design.cell_decls design.top_inst.cell ≡ o
        → IfSome o (λ top. AllByRecursion (λ port. port < length design.port_list) top.ports)
    by None e = tt
    by (Some top) e =
        let is : DeclarationFits names design top =
        among (DeclarationFits names design) design.cell_decls design.top_inst.cell top
        fits.declarations e in is.ports
