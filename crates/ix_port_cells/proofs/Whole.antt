-- All port cells, place by place.
use Rattle.std.proofs.Common.{◌≡◌, ◌<◌, ◌≤◌, ◌+◌, ap, refl, sym, ◌∙◌, ℕ, List, [], ◌∷◌, ◌++◌, map}
use Rattle.std.proofs.Common.{slice_get, Option, Some, None, codes, arith, take, length, append-nil}
use Rattle.std.specs.List.{flat_map, range_with_len}
use Rattle.std.proofs.lemmas.Grind.{flat_map-append}
use Rattle.std.proofs.lemmas.List.{take_more}
use Rattle.std.proofs.Common.{get_or}
use Rattle.std.proofs.lemmas.Option.{slice_get_within, get_or_from_slice_get, slice_get-get_or}
use Rattle.ix_message.specs.Shape.{Text}
use Rattle.ix_rec.specs.declared.netlist.NetlistRec.{NetlistRec}
use Rattle.ix_rec.specs.declared.netlist.Port.{Port}
use Rattle.ix_hierarchy.specs.Hierarchy.{PortNumber, ports_of, width, written}
use Rattle.ix_hierarchy.specs.FlatDesign.{port_cells, port_cells_of, port_type}
use Rattle.ix_rec.specs.declared.device.Direction.TheVariants.{Input}
use Rattle.ix_hierarchy.specs.Hierarchy.{Path}
use Rattle.ix_hierarchy.specs.declared.instance.Instance.{Instance}
use Rattle.ix_joined.specs.declared.top_bit.TopBit.{TopBit}
use Rattle.ix_joined.specs.Joining.{AreTopBits, TopPlace, bits_at, places_from, top_places}
use Rattle.ix_names_grow.specs.Grown.{IsGrown}
use Rattle.ix_rec.specs.declared.flow.FlatCell.{FlatCell}
use Rattle.ix_strings.specs.Names.{KeepsNumbers}
use Rattle.ix_hierarchy.specs.Fits.{NetlistFits}
use Rattle.ix_port_cells.specs.CellTexts.{AreCells, named_as, place_cell, port_cell}

abbrev cells_at : List Text → NetlistRec → PortNumber → List (Text × Text)
cells_at names design number = of (slice_get design.port_list number)
  where
    of : Option Port → List (Text × Text)
    of None = []
    of (Some port) = port_cells_of names port

cells_are : (names : List Text) (design : NetlistRec) → port_cells names design
    ≡ flat_map (cells_at names design) (ports_of design design.top_inst.cell)
cells_are names design = refl

abbrev typed : List Text → Port → Option Text → List (Text × Text)
typed names port None = []
typed names port (Some ty) =
    map (λ index. (codes "$port/" ++ written names port index, ty)) (range_with_len 0 (width port))

typed_is : (names : List Text) (port : Port) → port_cells_of names port
    ≡ typed names port (port_type port.dir)
typed_is names port = refl

abbrev placed : (place : ℕ) → PortNumber → Port → (index : ℕ) → TopPlace
placed place number port index =
    record { place = place; index = index; number = number; dir = port.dir }

-- the cells of some bits of a port
of_bits : (names : List Text) (design : NetlistRec) (place : ℕ) (number : PortNumber)
    (port : Port) (o : Option Text) (ns : List ℕ) → slice_get design.port_list number ≡ Some port
    → port_type port.dir ≡ o
    → flat_map (place_cell names design) (map (placed place number port) ns)
    ≡ flat_map (λ index. named_as o (codes "$port/" ++ written names port index)) ns
of_bits names design place number port o [] h t = refl
of_bits names design place number port o (n ∷ ns) h t =
    let first : place_cell names design (placed place number port n)
    ≡ named_as o (codes "$port/" ++ written names port n) =
    rw h (ap (λ k. named_as k (codes "$port/" ++ written names port n)) t) in
    ap (λ xs. xs ++ flat_map (place_cell names design) (map (placed place number port) ns)) first
    ∙ ap (λ ys. named_as o (codes "$port/" ++ written names port n) ++ ys)
    (of_bits names design place number port o ns h t)

abbrev named_all : List Text → Port → Option Text → List ℕ → List (Text × Text)
named_all names port None ns = []
named_all names port (Some ty) ns =
    map (λ index. (codes "$port/" ++ written names port index, ty)) ns

all_typed : (names : List Text) (port : Port) (o : Option Text)
    → named_all names port o (range_with_len 0 (width port)) ≡ typed names port o
all_typed names port None = refl
all_typed names port (Some ty) = refl

-- cells of one type, one by one
each_named : (names : List Text) (port : Port) (o : Option Text) (ns : List ℕ)
    → flat_map (λ index. named_as o (codes "$port/" ++ written names port index)) ns
    ≡ named_all names port o ns
each_named names port None [] = refl
each_named names port None (n ∷ ns) = each_named names port None ns
each_named names port (Some ty) [] = refl
each_named names port (Some ty) (n ∷ ns) =
    ap (λ xs. (codes "$port/" ++ written names port n, ty) ∷ xs) (each_named names port (Some ty) ns)

-- the cells of one port
one_port : (names : List Text) (design : NetlistRec) (place : ℕ) (number : PortNumber)
    → flat_map (place_cell names design) (bits_at place number (slice_get design.port_list number))
    ≡ cells_at names design number
one_port names design place number = by (slice_get design.port_list number) refl
  where
    by : (o : Option Port) → slice_get design.port_list number ≡ o
        → flat_map (place_cell names design)
        (bits_at place number (slice_get design.port_list number)) ≡ cells_at names design number
    by None e = rw e refl
    by (Some port) e =
        let is : flat_map (place_cell names design)
        (map (placed place number port) (range_with_len 0 (width port)))
        ≡ typed names port (port_type port.dir) =
        of_bits names design place number port (port_type port.dir) (range_with_len 0 (width port))
        e refl
        ∙ each_named names port (port_type port.dir) (range_with_len 0 (width port))
        ∙ all_typed names port (port_type port.dir) in
        ap (λ o. flat_map (place_cell names design) (bits_at place number o)) e ∙ is ∙ rw e refl

-- the cells of ports from a place on
from_place : (names : List Text) (design : NetlistRec) (place : ℕ) (numbers : List PortNumber)
    → flat_map (place_cell names design) (places_from design place numbers)
    ≡ flat_map (cells_at names design) numbers
from_place names design place [] = refl
from_place names design place (number ∷ numbers) =
    flat_map-append (place_cell names design)
    (bits_at place number (slice_get design.port_list number))
    (places_from design (place + 1) numbers)
    ∙ ap (λ xs. xs ++ flat_map (place_cell names design) (places_from design (place + 1) numbers))
    (one_port names design place number)
    ∙ ap (λ ys. cells_at names design number ++ ys) (from_place names design (place + 1) numbers)

pub cells_whole : (names : List Text) (design : NetlistRec)
    → flat_map (place_cell names design) (top_places design) ≡ port_cells names design
cells_whole names design =
    from_place names design 0 (ports_of design design.top_inst.cell)
    ∙ sym (cells_are names design)

-- the same texts over the larger table
pub place_keeps : (old new : List Text) (design : NetlistRec) (places : List TopPlace)
    → IsGrown old new design
    → flat_map (place_cell old design) places ≡ flat_map (place_cell new design) places
place_keeps old new design [] grown = refl
place_keeps old new design (at ∷ places) grown =
    ap (λ xs. xs ++ flat_map (place_cell old design) places)
    (by (slice_get design.port_list at.number) refl)
    ∙ ap (λ ys. place_cell new design at ++ ys) (place_keeps old new design places grown)
  where
    by : (o : Option Port) → slice_get design.port_list at.number ≡ o
        → place_cell old design at ≡ place_cell new design at
    by None e = rw e refl
    by (Some port) e =
        rw e (ap (λ t. named_as (port_type port.dir) (codes "$port/" ++ t))
        (grown.of_port at.number at.index port e))

-- one place more
pub place_next : (names : List Text) (design : NetlistRec) (places : List TopPlace) (k : ℕ)
    (at : TopPlace) (port : Port) → slice_get places k ≡ Some at
    → slice_get design.port_list at.number ≡ Some port
    → flat_map (place_cell names design) (take (k + 1) places)
    ≡ flat_map (place_cell names design) (take k places) ++ port_cell names port at.index
place_next names design places k at port h p =
    let lt : k < length places = slice_get_within places k at h in
    let next : take (k + 1) places ≡ take k places ++ at ∷ [] = take_more places k at lt
    ∙ ap (λ a. take k places ++ a ∷ []) (get_or_from_slice_get places k at at h) in
    let here : place_cell names design at ≡ port_cell names port at.index = rw p refl in
    ap (flat_map (place_cell names design)) next
    ∙ flat_map-append (place_cell names design) (take k places) (at ∷ [])
    ∙ ap (λ x. flat_map (place_cell names design) (take k places) ++ x)
    (append-nil (place_cell names design at) ∙ here)

-- how far the cells are
pub record IsWalked (design : NetlistRec) (old new : List Text) (left now k : ℕ)
    (cells : List FlatCell) : Type 0 where
  pub keeps : KeepsNumbers old new
  pub counted : length new + now ≤ length old + left
  pub are : AreCells new cells (flat_map (place_cell new design) (take k (top_places design)))

pub walked_next : (design : NetlistRec) (old mid new : List Text) (left before now k : ℕ)
    (cells more : List FlatCell) (at : TopPlace) (port : Port)
    → IsWalked design old mid left before k cells → NetlistFits (length old) design
    → ((o n : List Text) → KeepsNumbers o n → NetlistFits (length o) design → IsGrown o n design)
    → slice_get (top_places design) k ≡ Some at → slice_get design.port_list at.number ≡ Some port
    → KeepsNumbers mid new → length new + now ≤ length mid + before
    → AreCells new more (flat_map (place_cell mid design) (take k (top_places design))
    ++ port_cell mid port at.index)
    → IsWalked design old new left now (k + 1) more
walked_next design old mid new left before now k cells more at port is fits law h p keeps counted are
    =
    let grown = law old mid is.keeps fits in
    let next = law mid new keeps grown.fits in
    let places = top_places design in
    let first = is.counted in
    record {
      keeps = λ id text t. keeps id text (is.keeps id text t);
      counted = omega arith;
      are = are ∙ ap (map (λ t. Some t)) (sym (place_next mid design places k at port h p)
          ∙ place_keeps mid new design (take (k + 1) places) next);
    }

-- the place and the port of a bit
pub record IsAtPlace (design : NetlistRec) (k : ℕ) (bit : TopBit) : Type 0 where
  pub at : TopPlace
  pub at_is : slice_get (top_places design) k ≡ Some at
  pub port : Port
  pub port_is : slice_get design.port_list at.number ≡ Some port
  pub towards : port.dir ≡ bit.dir
  pub number_is : bit.port ≡ at.number
  pub index_is : bit.index ≡ at.index

pub bit_there : (design : NetlistRec) (all : List Instance) (paths : List Path) (firsts : List ℕ)
    (bits : List TopBit) (k : ℕ) (bit : TopBit) → AreTopBits design all paths firsts bits
    → slice_get bits k ≡ Some bit → IsAtPlace design k bit
bit_there design all paths firsts bits k bit top h =
    let none : TopPlace = record { place = 0; index = 0; number = 0; dir = Input } in
    let lt : k < length bits = slice_get_within bits k bit h in
    let many : length bits ≡ length (top_places design) = top.many in
    let at : TopPlace = get_or (top_places design) k none in
    let at_is : slice_get (top_places design) k ≡ Some at =
    slice_get-get_or (top_places design) k none (omega arith) in
    let is = top.each k at bit at_is h in
    let place = top.places.each k at at_is in
    record {
      at = at;
      at_is = at_is;
      port = place.0;
      port_is = place.1.port_is;
      towards = place.2 ∙ sym is.dir_is;
      number_is = is.port_is;
      index_is = is.index_is;
    }
