-- The port cells of a design, by the places of the top's bits.
use Rattle.std.proofs.Common.{◌≡◌, ◌+◌, ◌∙◌, ap, refl, sym, ℕ, List, [], ◌∷◌, ◌++◌, map, cond}
use Rattle.std.proofs.Common.{slice_get, Option, Some, None, codes, unwrap_or, is_some}
use Rattle.std.specs.List.{filter, flat_map, range_with_len}
use Rattle.std.proofs.lemmas.List.{map-append}
use Rattle.std.proofs.lemmas.List.Elements.{filter-append}
use Rattle.ix_message.specs.Shape.{Text}
use Rattle.ix_rec.specs.declared.netlist.NetlistRec.{NetlistRec}
use Rattle.ix_rec.specs.declared.netlist.Port.{Port}
use Rattle.ix_hierarchy.specs.Hierarchy.{PortNumber, ports_of, width, written}
use Rattle.ix_hierarchy.specs.FlatDesign.{port_cells, port_cells_of, port_type}
use Rattle.ix_joined.specs.Joining.{TopPlace, bits_at, places_from, top_places}
use Rattle.ix_named_twice.specs.Spots.{has_cell}

abbrev cells_at : List Text → NetlistRec → PortNumber → List (Text × Text)
cells_at names design number = of (slice_get design.port_list number)
  where
    of : Option Port → List (Text × Text)
    of None = []
    of (Some port) = port_cells_of names port

abbrev typed : List Text → Port → Option Text → List ℕ → List (Text × Text)
typed names port None indices = []
typed names port (Some ty) indices =
    map (λ index. (codes "$port/" ++ written names port index, ty)) indices

typed_is : (names : List Text) (port : Port) (o : Option Text) → port_type port.dir ≡ o
    → port_cells_of names port ≡ typed names port o (range_with_len 0 (width port))
typed_is names port None e = by e
  where
    by : port_type port.dir ≡ None → port_cells_of names port ≡ []
    by e = rw e refl
typed_is names port (Some ty) e = by e
  where
    by : port_type port.dir ≡ Some ty → port_cells_of names port
        ≡ typed names port (Some ty) (range_with_len 0 (width port))
    by e = rw e refl

abbrev pub bit_in : List Text → (index : ℕ) → Option Port → Text
bit_in names index None = []
bit_in names index (Some port) = written names port index

-- the name and the type of the cell at a place
abbrev pub place_text : List Text → NetlistRec → TopPlace → Text × Text
place_text names design at = (
  codes "$port/" ++ bit_in names at.index (slice_get design.port_list at.number),
  unwrap_or (port_type at.dir) [],
)

abbrev placed : (place : ℕ) → PortNumber → Port → (index : ℕ) → TopPlace
placed place number port index =
    record { place = place; index = index; number = number; dir = port.dir }

-- the text of a bit's cell
bit_text : (names : List Text) (design : NetlistRec) (place : ℕ) (number : PortNumber)
    (port : Port) (ty : Text) (index : ℕ) → slice_get design.port_list number ≡ Some port
    → port_type port.dir ≡ Some ty → place_text names design (placed place number port index)
    ≡ (codes "$port/" ++ written names port index, ty)
bit_text names design place number port ty index h t =
    ap (λ o. (codes "$port/" ++ bit_in names index o, unwrap_or (port_type port.dir) [])) h
    ∙ ap (λ o. (codes "$port/" ++ written names port index, unwrap_or o [])) t

-- the cells of some bits of a port
of_bits : (names : List Text) (design : NetlistRec) (place : ℕ) (number : PortNumber)
    (port : Port) (o : Option Text) (indices : List ℕ)
    → slice_get design.port_list number ≡ Some port → port_type port.dir ≡ o
    → map (place_text names design) (filter has_cell (map (placed place number port) indices))
    ≡ typed names port o indices
of_bits names design place number port None [] h t = refl
of_bits names design place number port (Some ty) [] h t = refl
of_bits names design place number port None (index ∷ indices) h t =
    let rest : List TopPlace = filter has_cell (map (placed place number port) indices) in
    ap (λ o. map (place_text names design)
    (cond (is_some o) (placed place number port index ∷ rest) rest)) t
    ∙ of_bits names design place number port None indices h t
of_bits names design place number port (Some ty) (index ∷ indices) h t =
    let rest : List TopPlace = filter has_cell (map (placed place number port) indices) in
    ap (λ o. map (place_text names design)
    (cond (is_some o) (placed place number port index ∷ rest) rest)) t
    ∙ ap (λ x. x ∷ map (place_text names design) rest)
    (bit_text names design place number port ty index h t)
    ∙ ap (λ xs. (codes "$port/" ++ written names port index, ty) ∷ xs)
    (of_bits names design place number port (Some ty) indices h t)

-- the cells of one port
one_port : (names : List Text) (design : NetlistRec) (place : ℕ) (number : PortNumber)
    → map (place_text names design)
    (filter has_cell (bits_at place number (slice_get design.port_list number)))
    ≡ cells_at names design number
one_port names design place number = by (slice_get design.port_list number) refl
  where
    by : (o : Option Port) → slice_get design.port_list number ≡ o
        → map (place_text names design)
        (filter has_cell (bits_at place number (slice_get design.port_list number)))
        ≡ cells_at names design number
    by None e = ap (λ o. map (place_text names design) (filter has_cell (bits_at place number o))) e
        ∙ rw e refl
    by (Some port) e =
        ap (λ o. map (place_text names design) (filter has_cell (bits_at place number o))) e
        ∙ of_bits names design place number port (port_type port.dir)
        (range_with_len 0 (width port)) e refl
        ∙ sym (typed_is names port (port_type port.dir) refl) ∙ rw e refl

-- the cells of ports from a place on
from_place : (names : List Text) (design : NetlistRec) (place : ℕ) (numbers : List PortNumber)
    → map (place_text names design) (filter has_cell (places_from design place numbers))
    ≡ flat_map (cells_at names design) numbers
from_place names design place [] = refl
from_place names design place (number ∷ numbers) =
    let first : List TopPlace = bits_at place number (slice_get design.port_list number) in
    let rest : List TopPlace = places_from design (place + 1) numbers in
    ap (map (place_text names design)) (filter-append has_cell first rest)
    ∙ map-append (place_text names design) (filter has_cell first) (filter has_cell rest)
    ∙ ap (λ xs. xs ++ map (place_text names design) (filter has_cell rest))
    (one_port names design place number)
    ∙ ap (λ ys. cells_at names design number ++ ys) (from_place names design (place + 1) numbers)

-- the port cells are those of the places that have one
pub ports_are : (names : List Text) (design : NetlistRec)
    → map (place_text names design) (filter has_cell (top_places design))
    ≡ port_cells names design
ports_are names design = from_place names design 0 (ports_of design design.top_inst.cell)
