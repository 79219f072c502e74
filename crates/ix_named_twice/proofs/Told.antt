-- Which of two places is the earlier one, and what is told.
use Rattle.std.proofs.Common.{◌≡◌, ◌<◌, ◌≤◌, ◌+◌, ◌-◌, ◌^◌, ◌∙◌, ap, sym, subst, ℕ, List, [], length, map}
use Rattle.std.proofs.Common.{slice_get, Some, None, get_or, inl, inr, arith, Bool}
use Rattle.std.proofs.Common.{nat_lt}
use Rattle.std.specs.Option.{option_and_then}
use Rattle.std.proofs.lemmas.Bool.{cases_lt, le-ltb, lt-ltb}
use Rattle.std.proofs.lemmas.List.{length-map}
use Rattle.std.proofs.lemmas.Option.{none-some, same_Some, slice_get-get_or, slice_get_within}
use Rattle.ix_message.specs.Shape.{Text}
use Rattle.ix_rec.specs.declared.flow.FlatCell.{FlatCell}
use Rattle.ix_rec.specs.declared.netlist.CellInstance.{CellInstance}
use Rattle.ix_rec.specs.declared.netlist.NetlistRec.{NetlistRec}
use Rattle.ix_hierarchy.specs.Hierarchy.{Path, inside, inside_at, instance_at}
use Rattle.ix_hierarchy.specs.Lists.{IsNumber}
use Rattle.ix_hierarchy.specs.Nets.{Occurrence, spot_of}
use Rattle.ix_hierarchy.specs.Walk.{IsBefore, Spot}
use Rattle.ix_hierarchy.specs.FlatDesign.{LeafCell}
use Rattle.ix_hierarchy.specs.Broken.{BreaksN5, IsCellNamed, IsNetNamed, IsSecondNamed, NoneBreaks}
use Rattle.ix_hierarchy.specs.Broken.{TellsN5}
use Rattle.ix_instance_lists.specs.Listed.{HasNet}
use Rattle.ix_joined.specs.declared.joined.Joined.{Joined}
use Rattle.ix_joined.specs.Joining.{ArePlaces, IsJoined, Known, top_places}
use Rattle.ix_flat_lists.specs.declared.named.Named.{Named}
use Rattle.ix_flat_lists.specs.Naming.{IsNamed}
use Rattle.ix_second_names.specs.Seconds.{IsFirstSecond, NoneSecond}
use Rattle.ix_named_twice.specs.Spots.{IsEarlier, cell_spots, names_of, net_spots, spot_at, spot_in}
use Rattle.ix_named_twice.proofs.Cells.{bits_of, cell_counted, cells_are, ports_many}
use Rattle.ix_named_twice.proofs.Indexed.{from_both, from_map}
use Rattle.ix_named_twice.proofs.Order.{before_trans, bit_before_net, leaf_before_net}
use Rattle.ix_named_twice.proofs.Order.{net_before_leaf}
use Rattle.ix_named_twice.proofs.Nets.{net_counted, nets_are}
use Rattle.ix_named_twice.proofs.Seconds.{IsToldAt, few, id_below, none_named, told_at}

-- A cell and a net.

-- port cells are before all nets
pub port_first : (known : Known) (design : NetlistRec) (joined : Joined) (named : Named)
    (is : IsNamed known design joined named) (cell net : ℕ) (one other : Spot)
    → cell < named.ports → slice_get (cell_spots design is.leaves) cell ≡ Some one
    → slice_get (net_spots is.nets) net ≡ Some other → IsBefore one other
port_first known design joined named is cell net one other lt x y =
    let first : List Spot = map spot_at (bits_of design) in
    let many : named.ports ≡ length first = ports_many known design joined named is in
    let at = from_map spot_of is.nets net other y in
    elim (from_both first (map spot_in is.leaves) cell one x) [
      | inl p ↦
          let bit = from_map spot_at (bits_of design) cell one p in
          subst (λ (s : Spot). IsBefore s other) bit.2
          (subst (λ (s : Spot). IsBefore (spot_at bit.0) s) at.2
          (bit_before_net bit.0.place bit.0.index at.0.path at.0.net))
      | inr p ↦
          let more : cell ≡ length first + p.0 = p.1 in
          absurd (omega arith)
    ]

-- the leaf of a number behind the port cells
pub leaf_there : (known : Known) (design : NetlistRec) (joined : Joined) (named : Named)
    (is : IsNamed known design joined named) (cell : ℕ) (one : Spot) → named.ports ≤ cell
    → slice_get (cell_spots design is.leaves) cell ≡ Some one
    → (leaf : LeafCell) × (slice_get is.leaves (cell - named.ports) ≡ Some leaf)
    × (spot_in leaf ≡ one)
leaf_there known design joined named is cell one le x =
    let first : List Spot = map spot_at (bits_of design) in
    let many : named.ports ≡ length first = ports_many known design joined named is in
    elim (from_both first (map spot_in is.leaves) cell one x) [
      | inl p ↦
          let within : cell < length first = slice_get_within first cell one p in
          absurd (omega arith)
      | inr p ↦
          let more : cell ≡ length first + p.0 = p.1 in
          let same : p.0 ≡ cell - named.ports = omega arith in
          from_map spot_in is.leaves (cell - named.ports) one
          (ap (slice_get (map spot_in is.leaves)) (sym same) ∙ p.2)
    ]

-- the path of the instance of a net's first occurrence
path_of_net : (known : Known) (design : NetlistRec) (joined : Joined) (at : Occurrence)
    (number instance : ℕ) → IsJoined known design joined
    → IsNumber design joined.instances.items known.paths at number
    → HasNet design joined.instances.items instance number
    → slice_get known.paths instance ≡ Some at.path
path_of_net known design joined at number instance are is has =
    let all = joined.instances.items in
    let paths = known.paths in
    let lt : instance < length all = slice_get_within all instance has.one has.one_is in
    let many : length paths ≡ length all = are.are_instances.many in
    let path : Path = get_or paths instance [] in
    let path_is : slice_get paths instance ≡ Some path =
    slice_get-get_or paths instance [] (omega arith) in
    let n = are.numbered.of instance number path has path_is in
    let same : at ≡ record { path = path; net = n.0 } =
    are.numbered.one at record { path = path; net = n.0 } number is n.4 in
    path_is ∙ ap (λ (o : Occurrence). Some o.path) (sym same)

-- a leaf's instance has no nets
apart : (known : Known) (design : NetlistRec) (joined : Joined) (at : Occurrence) (leaf : LeafCell)
    (number : ℕ) → IsNumber design joined.instances.items known.paths at number
    → instance_at design leaf.path ≡ Some leaf.inst → inside design leaf.inst.cell ≡ None
    → leaf.path ≡ at.path → ⊥
apart known design joined at leaf number is there none same =
    let empty : inside_at design leaf.path ≡ None =
    ap (option_and_then (λ (inst : CellInstance). inside design inst.cell)) there ∙ none in
    none-some is.cell (sym (ap (inside_at design) (sym same) ∙ empty) ∙ is.occurs.inside)

-- of a leaf and of a net the one whose instance is first
pub leaf_first : (known : Known) (design : NetlistRec) (joined : Joined) (named : Named)
    (is : IsNamed known design joined named) (cell net number instance leaf_at : ℕ)
    (one other : Spot) → IsJoined known design joined → named.ports ≤ cell
    → slice_get named.leaves.items (cell - named.ports) ≡ Some leaf_at
    → slice_get named.signals.items net ≡ Some number
    → HasNet design joined.instances.items instance number
    → slice_get (cell_spots design is.leaves) cell ≡ Some one
    → slice_get (net_spots is.nets) net ≡ Some other
    → (leaf_at < instance → IsBefore one other) × (instance ≤ leaf_at → IsBefore other one)
leaf_first known design joined named is cell net number instance leaf_at one other are le l n has x
    y =
    let leaf = leaf_there known design joined named is cell one le x in
    let at = from_map spot_of is.nets net other y in
    let plain = is.are_leaves.are.each (cell - named.ports) leaf.0 leaf.1 in
    let leaf_path : slice_get known.paths leaf_at ≡ Some leaf.0.path =
    is.are_leaves.each (cell - named.ports) leaf_at leaf.0 l leaf.1 in
    let is_number = is.are_nets.each net number at.0 n at.1 in
    let net_path : slice_get known.paths instance ≡ Some at.0.path =
    path_of_net known design joined at.0 number instance are is_number has in
    let rise = are.are_instances.rise in (
      λ less. subst (λ (s : Spot). IsBefore s other) leaf.2
          (subst (λ (s : Spot). IsBefore (spot_in leaf.0) s) at.2
          (leaf_before_net leaf.0.path at.0.path at.0.net
          (rise leaf_at instance leaf.0.path at.0.path less leaf_path net_path))),
      λ more. elim (cases_lt instance leaf_at) [
        | inl less ↦ subst (λ (s : Spot). IsBefore other s) leaf.2
            (subst (λ (s : Spot). IsBefore s (spot_in leaf.0)) at.2
            (net_before_leaf at.0.path leaf.0.path at.0.net
            (rise instance leaf_at at.0.path leaf.0.path less net_path leaf_path)))
        | inr over ↦
            let same : leaf_at ≡ instance = omega arith in
            absurd (apart known design joined at.0 leaf.0 number is_number plain.leaf.leaf.is
            plain.leaf.leaf.no_inside (same_Some leaf.0.path at.0.path
            (sym leaf_path ∙ ap (slice_get known.paths) same ∙ net_path)))
      ],
    )

-- so a comparison of the two tells it
pub earlier_by : (a b : ℕ) (one other : Spot)
    → (a < b → IsBefore one other) × (b ≤ a → IsBefore other one)
    → IsEarlier (nat_lt a b) one other
earlier_by a b one other is = elim (cases_lt a b) [
  | inl less ↦ subst (λ (t : Bool). IsEarlier t one other) (sym (lt-ltb a b less)) (is.0 less)
  | inr more ↦ subst (λ (t : Bool). IsEarlier t one other) (sym (le-ltb a b more)) (is.1 more)
]

-- What is told.

abbrev Cells : Known → NetlistRec → Spot → Text → Type 0
Cells known design = IsCellNamed known.names known.device design

abbrev Nets : Known → NetlistRec → Spot → Text → Type 0
Nets known design = IsNetNamed known.names known.device design

-- nothing, where no cell and no net has the name of an earlier one
pub none_told : (known : Known) (design : NetlistRec)
    → ((spot : Spot) (text : Text) → ¬ IsSecondNamed (Cells known design) spot text)
    → ((spot : Spot) (text : Text) → ¬ IsSecondNamed (Nets known design) spot text)
    → NoneBreaks (λ s. (text : Text) × BreaksN5 known.names known.device design s text)
none_told known design cells nets spot broken = elim broken.1 [
  | inl x ↦ cells spot broken.0 x
  | inr y ↦ nets spot broken.0 y
]

-- a cell, where no net before it has the name of an earlier one
pub cell_told : (known : Known) (design : NetlistRec) (ids : List ℕ) (spots : List Spot)
    (place : ℕ) (is : IsToldAt (Cells known design) known.names ids spots place)
    → ((other : Spot) (text : Text) → IsBefore other is.spot
    → ¬ IsSecondNamed (Nets known design) other text)
    → TellsN5 known.names known.device design is.text
cell_told known design ids spots place is nets = record {
  spot = is.spot;
  first = record {
    here = (is.text, inl is.second);
    first = λ other before broken. elim broken.1 [
      | inl x ↦ is.first other broken.0 before x
      | inr y ↦ nets other broken.0 before y
    ];
  };
  word_is = inl is.second;
}

-- and a net, where no cell before it has
pub net_told : (known : Known) (design : NetlistRec) (ids : List ℕ) (spots : List Spot)
    (place : ℕ) (is : IsToldAt (Nets known design) known.names ids spots place)
    → ((other : Spot) (text : Text) → IsBefore other is.spot
    → ¬ IsSecondNamed (Cells known design) other text)
    → TellsN5 known.names known.device design is.text
net_told known design ids spots place is cells = record {
  spot = is.spot;
  first = record {
    here = (is.text, inr is.second);
    first = λ other before broken. elim broken.1 [
      | inl x ↦ cells other broken.0 before x
      | inr y ↦ is.first other broken.0 before y
    ];
  };
  word_is = inr is.second;
}

-- What a name tells.
abbrev Tells : Known → NetlistRec → (name : ℕ) → Type 0
Tells known design name = (text : Text) × (slice_get known.names name ≡ Some text)
    × TellsN5 known.names known.device design text

-- the name of a place that is told
name_of : (Is : Spot → Text → Type 0) (names : List Text) (ids : List ℕ) (spots : List Spot)
    (place name : ℕ) (is : IsToldAt Is names ids spots place) → slice_get ids place ≡ Some name
    → slice_get names name ≡ Some is.text
name_of Is names ids spots place name is h =
    ap (slice_get names) (same_Some name is.id (sym h ∙ is.id_is)) ∙ is.named

-- where no net has the name of an earlier one
pub cell_alone : (known : Known) (design : NetlistRec) (joined : Joined) (named : Named)
    (cell name : ℕ) → IsJoined known design joined → IsNamed known design joined named
    → ArePlaces design (top_places design) → IsFirstSecond (names_of named.cells.items) cell
    → NoneSecond named.net_names.items (length named.net_names.items)
    → slice_get (names_of named.cells.items) cell ≡ Some name → Tells known design name
cell_alone known design joined named cell name are is places first none h =
    let names = known.names in
    let ids = names_of named.cells.items in
    let spots = cell_spots design is.leaves in
    let told = told_at (Cells known design) names ids spots cell
    (cells_are known design joined named is places) are.differ first in (
      told.text,
      name_of (Cells known design) names ids spots cell name told h,
      cell_told known design ids spots cell told (λ other text before.
          none_named (Nets known design) names named.net_names.items (net_spots is.nets)
          (nets_are known design joined named is) are.differ none other text),
    )

-- where no cell has
pub net_alone : (known : Known) (design : NetlistRec) (joined : Joined) (named : Named)
    (net name : ℕ) → IsJoined known design joined → IsNamed known design joined named
    → ArePlaces design (top_places design)
    → NoneSecond (names_of named.cells.items) (length (names_of named.cells.items))
    → IsFirstSecond named.net_names.items net
    → slice_get named.net_names.items net ≡ Some name → Tells known design name
net_alone known design joined named net name are is places none first h =
    let names = known.names in
    let ids = named.net_names.items in
    let spots = net_spots is.nets in
    let told = told_at (Nets known design) names ids spots net
    (nets_are known design joined named is) are.differ first in (
      told.text,
      name_of (Nets known design) names ids spots net name told h,
      net_told known design ids spots net told (λ other text before.
          none_named (Cells known design) names (names_of named.cells.items)
          (cell_spots design is.leaves) (cells_are known design joined named is places) are.differ none
          other text),
    )

-- where a cell is before a net
pub cell_earlier : (known : Known) (design : NetlistRec) (joined : Joined) (named : Named)
    (cell net name : ℕ) → IsJoined known design joined → (is : IsNamed known design joined named)
    → ArePlaces design (top_places design) → IsFirstSecond (names_of named.cells.items) cell
    → IsFirstSecond named.net_names.items net
    → ((one other : Spot) → slice_get (cell_spots design is.leaves) cell ≡ Some one
    → slice_get (net_spots is.nets) net ≡ Some other → IsBefore one other)
    → slice_get (names_of named.cells.items) cell ≡ Some name → Tells known design name
cell_earlier known design joined named cell net name are is places first second before h =
    let names = known.names in
    let ids = names_of named.cells.items in
    let spots = cell_spots design is.leaves in
    let told = told_at (Cells known design) names ids spots cell
    (cells_are known design joined named is places) are.differ first in
    let later = told_at (Nets known design) names named.net_names.items (net_spots is.nets) net
    (nets_are known design joined named is) are.differ second in (
      told.text,
      name_of (Cells known design) names ids spots cell name told h,
      cell_told known design ids spots cell told (λ other text less.
          later.first other text (before_trans other told.spot later.spot less
          (before told.spot later.spot told.at later.at))),
    )

-- and where a net is before a cell
pub net_earlier : (known : Known) (design : NetlistRec) (joined : Joined) (named : Named)
    (cell net name : ℕ) → IsJoined known design joined → (is : IsNamed known design joined named)
    → ArePlaces design (top_places design) → IsFirstSecond (names_of named.cells.items) cell
    → IsFirstSecond named.net_names.items net
    → ((one other : Spot) → slice_get (cell_spots design is.leaves) cell ≡ Some one
    → slice_get (net_spots is.nets) net ≡ Some other → IsBefore other one)
    → slice_get named.net_names.items net ≡ Some name → Tells known design name
net_earlier known design joined named cell net name are is places first second before h =
    let names = known.names in
    let ids = named.net_names.items in
    let spots = net_spots is.nets in
    let told = told_at (Nets known design) names ids spots net
    (nets_are known design joined named is) are.differ second in
    let later = told_at (Cells known design) names (names_of named.cells.items)
    (cell_spots design is.leaves) cell (cells_are known design joined named is places) are.differ first
    in (
      told.text,
      name_of (Nets known design) names ids spots net name told h,
      net_told known design ids spots net told (λ other text less.
          later.first other text (before_trans other told.spot later.spot less
          (before later.spot told.spot later.at told.at))),
    )

-- nothing
pub neither : (known : Known) (design : NetlistRec) (joined : Joined) (named : Named)
    → IsJoined known design joined → IsNamed known design joined named
    → ArePlaces design (top_places design)
    → NoneSecond (names_of named.cells.items) (length (names_of named.cells.items))
    → NoneSecond named.net_names.items (length named.net_names.items)
    → NoneBreaks (λ s. (text : Text) × BreaksN5 known.names known.device design s text)
neither known design joined named are is places none none_too =
    none_told known design
    (none_named (Cells known design) known.names (names_of named.cells.items)
    (cell_spots design is.leaves) (cells_are known design joined named is places) are.differ none)
    (none_named (Nets known design) known.names named.net_names.items (net_spots is.nets)
    (nets_are known design joined named is) are.differ none_too)

-- What is asked of the numbers.

-- the numbers of signal nets are below the count of all occurrences
pub signal_below : (known : Known) (design : NetlistRec) (joined : Joined) (named : Named)
    (net number : ℕ) → IsJoined known design joined → IsNamed known design joined named
    → slice_get named.signals.items net ≡ Some number → number < length joined.firsts.items
signal_below known design joined named net number are is h =
    let none : Occurrence = record { path = []; net = 0 } in
    let lt : net < length named.signals.items = slice_get_within named.signals.items net number h in
    let many : length named.signals.items ≡ length is.nets = is.are_nets.many in
    let at = get_or is.nets net none in
    let at_is : slice_get is.nets net ≡ Some at = slice_get-get_or is.nets net none (omega arith) in
    are.numbered.below at number (is.are_nets.each net number at h at_is)

pub signal_there : (known : Known) (design : NetlistRec) (joined : Joined) (named : Named)
    (net : ℕ) → IsNamed known design joined named → net < length named.net_names.items
    → net < length named.signals.items
signal_there known design joined named net is lt =
    let many : length named.signals.items ≡ length is.nets = is.are_nets.many in
    let names : length named.net_names.items ≡ length is.nets = is.many in
    omega arith

pub cell_within : (cells : List FlatCell) (k : ℕ) → IsFirstSecond (names_of cells) k
    → k < length cells
cell_within cells k first =
    let lt : k < length (names_of cells) =
    slice_get_within (names_of cells) k first.second.name first.second.is in
    let many : length (names_of cells) ≡ length cells =
    length-map cells (λ (c : FlatCell). c.name) in
    omega arith

pub cells_few : (known : Known) (design : NetlistRec) (joined : Joined) (named : Named)
    → IsJoined known design joined → IsNamed known design joined named
    → ArePlaces design (top_places design) → length (names_of named.cells.items) < 2 ^ 32
cells_few known design joined named are is places =
    let most : length (names_of named.cells.items) ≤ 2 ^ 22 =
    few (Cells known design) known.names (names_of named.cells.items) (cell_spots design is.leaves)
    design (cells_are known design joined named is places)
    (cell_counted known.names known.device design) are.keeps.1 in
    omega arith

pub nets_few : (known : Known) (design : NetlistRec) (joined : Joined) (named : Named)
    → IsJoined known design joined → IsNamed known design joined named
    → length named.net_names.items < 2 ^ 32
nets_few known design joined named are is =
    let most : length named.net_names.items ≤ 2 ^ 22 =
    few (Nets known design) known.names named.net_names.items (net_spots is.nets)
    design (nets_are known design joined named is)
    (net_counted known.names known.device design) are.keeps.1 in
    omega arith

pub cells_below : (known : Known) (design : NetlistRec) (joined : Joined) (named : Named)
    (count : ℕ) → IsNamed known design joined named → ArePlaces design (top_places design)
    → length known.names ≤ count → (k name : ℕ)
    → slice_get (names_of named.cells.items) k ≡ Some name → name < count
cells_below known design joined named count is places le k name h =
    let below : name < length known.names =
    id_below (Cells known design) known.names (names_of named.cells.items)
    (cell_spots design is.leaves) k name (cells_are known design joined named is places) h in
    omega arith

pub nets_below : (known : Known) (design : NetlistRec) (joined : Joined) (named : Named)
    (count : ℕ) → IsNamed known design joined named → length known.names ≤ count → (k name : ℕ)
    → slice_get named.net_names.items k ≡ Some name → name < count
nets_below known design joined named count is le k name h =
    let below : name < length known.names =
    id_below (Nets known design) known.names named.net_names.items
    (net_spots is.nets) k name (nets_are known design joined named is) h in
    omega arith
