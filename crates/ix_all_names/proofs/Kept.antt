-- The same texts of cells over a larger table of names.
use Rattle.std.proofs.Common.{◌≡◌, ap, refl, sym, ◌∙◌, ℕ, suc, List, [], ◌∷◌, ◌++◌, map}
use Rattle.std.proofs.Common.{slice_get, slice_index_or, Option, Some, None, codes}
use Rattle.std.specs.List.{flat_map, range_with_len}
use Rattle.std.specs.Option.{option_and_then, option_map}
use Rattle.std.proofs.lemmas.Option.{none-some, same_Some, option_and_then_some}
use Rattle.ix_message.specs.Shape.{Text}
use Rattle.ix_rec.specs.declared.flow.FlatCell.{FlatCell}
use Rattle.ix_rec.specs.declared.netlist.CellDeclaration.{CellDeclaration}
use Rattle.ix_rec.specs.declared.netlist.NetlistRec.{NetlistRec}
use Rattle.ix_rec.specs.declared.netlist.Port.{Port}
use Rattle.ix_strings.specs.Names.{KeepsNumbers}
use Rattle.ix_hierarchy.specs.Hierarchy.{PortNumber, flat_name, ports_of, width, written}
use Rattle.ix_hierarchy.specs.FlatDesign.{LeafCell, cell_texts, leaf_texts, port_cells}
use Rattle.ix_hierarchy.specs.FlatDesign.{port_cells_of, port_type}
use Rattle.ix_hierarchy.specs.Pins.{IsPlainLeaf}
use Rattle.ix_joined.specs.Joining.{Known}
use Rattle.ix_names_grow.specs.Grown.{IsGrown}
use Rattle.ix_port_cells.specs.CellTexts.{AreCells}

mapped : {A B : Type 0} (f : A → B) (o : Option A) (y : B) → option_map f o ≡ Some y
    → (x : A) × (o ≡ Some x) × (f x ≡ y)
mapped f None y e = absurd (none-some y e)
mapped f (Some x) y e = (x, refl, same_Some (f x) y e)

texts_of : (names : List Text) (cell : FlatCell) (text ty : Text)
    → slice_get names cell.name ≡ Some text → slice_get names cell.ty ≡ Some ty
    → cell_texts names cell ≡ Some (text, ty)
texts_of names cell text ty n t =
    ap (option_and_then (λ name. option_map (λ kind. (name, kind)) (slice_get names cell.ty))) n
    ∙ ap (option_map (λ kind. (text, kind))) t

-- one cell over the larger table
cell_keeps : (old new : List Text) (cell : FlatCell) (texts : Text × Text) → KeepsNumbers old new
    → cell_texts old cell ≡ Some texts → cell_texts new cell ≡ Some texts
cell_keeps old new cell texts keeps h =
    option_and_then_some (λ name. option_map (λ kind. (name, kind)) (slice_get old cell.ty))
    (slice_get old cell.name) texts h (λ name n t.
    let m = mapped (λ (kind : Text). (name, kind)) (slice_get old cell.ty) texts t in
    texts_of new cell name m.0 (keeps cell.name name n) (keeps cell.ty m.0 m.1)
    ∙ ap (λ x. Some x) m.2)

pub cells_keep : (old new : List Text) (cells : List FlatCell) (texts : List (Text × Text))
    → KeepsNumbers old new → AreCells old cells texts → AreCells new cells texts
cells_keep old new [] [] keeps h = refl
cells_keep old new [] (t ∷ texts) keeps h = absurd (cc)
cells_keep old new (c ∷ cells) [] keeps h = absurd (cc)
cells_keep old new (c ∷ cells) (t ∷ texts) keeps h =
    let first : cell_texts old c ≡ Some t = cc in
    let rest : map (cell_texts old) cells ≡ map (λ x. Some x) texts = cc in
    ap (λ x. x ∷ map (cell_texts new) cells) (cell_keeps old new c t keeps first)
    ∙ ap (λ xs. Some t ∷ xs) (cells_keep old new cells texts keeps rest)

-- the texts of leaves over the larger table
leaf_same : (known : Known) (design : NetlistRec) (old new : List Text) (leaf : LeafCell)
    → IsGrown old new design → IsPlainLeaf known.device design leaf.path leaf.inst leaf.ty
    → leaf_texts old design leaf ≡ leaf_texts new design leaf
leaf_same known design old new leaf grown plain =
    by (slice_get design.cell_decls leaf.inst.cell) refl plain.leaf.type_is
  where
    by : (o : Option CellDeclaration) → slice_get design.cell_decls leaf.inst.cell ≡ o
        → option_map (λ (d : CellDeclaration). d.name) o ≡ Some leaf.ty
        → leaf_texts old design leaf ≡ leaf_texts new design leaf
    by None e h = absurd (none-some leaf.ty h)
    by (Some declared) e h =
        let name : declared.name ≡ leaf.ty = same_Some declared.name leaf.ty h in
        ap (λ t. (t, slice_index_or old leaf.ty [])) (grown.flat leaf.path [])
        ∙ ap (λ t. (flat_name new design leaf.path [], t))
        (ap (λ n. slice_index_or old n []) (sym name) ∙ grown.of_type leaf.inst.cell declared e
        ∙ ap (λ n. slice_index_or new n []) name)

pub leaves_same : (known : Known) (design : NetlistRec) (old new : List Text)
    (list : List LeafCell) → IsGrown old new design
    → ((k : ℕ) (leaf : LeafCell) → slice_get list k ≡ Some leaf
    → IsPlainLeaf known.device design leaf.path leaf.inst leaf.ty)
    → map (leaf_texts old design) list ≡ map (leaf_texts new design) list
leaves_same known design old new [] grown each = refl
leaves_same known design old new (leaf ∷ list) grown each =
    ap (λ x. x ∷ map (leaf_texts old design) list)
    (leaf_same known design old new leaf grown (each 0 leaf refl))
    ∙ ap (λ xs. leaf_texts new design leaf ∷ xs)
    (leaves_same known design old new list grown (λ k l h. each (suc k) l h))

-- The texts of port cells.

abbrev pub cells_at : List Text → NetlistRec → PortNumber → List (Text × Text)
cells_at names design number = of (slice_get design.port_list number)
  where
    of : Option Port → List (Text × Text)
    of None = []
    of (Some port) = port_cells_of names port

pub cells_are : (names : List Text) (design : NetlistRec) → port_cells names design
    ≡ flat_map (cells_at names design) (ports_of design design.top_inst.cell)
cells_are names design = refl

abbrev pub typed : List Text → Port → Option Text → List (Text × Text)
typed names port None = []
typed names port (Some ty) =
    map (λ index. (codes "$port/" ++ written names port index, ty)) (range_with_len 0 (width port))

pub typed_is : (names : List Text) (port : Port) → port_cells_of names port
    ≡ typed names port (port_type port.dir)
typed_is names port = refl

abbrev cell_of : List Text → Port → (ty : Text) → (index : ℕ) → Text × Text
cell_of names port ty index = (codes "$port/" ++ written names port index, ty)

indices_same : (old new : List Text) (port : Port) (ty : Text) (indices : List ℕ)
    → ((index : ℕ) → written old port index ≡ written new port index)
    → map (cell_of old port ty) indices ≡ map (cell_of new port ty) indices
indices_same old new port ty [] same = refl
indices_same old new port ty (index ∷ indices) same =
    let here : cell_of old port ty index ≡ cell_of new port ty index =
    ap (λ (t : Text). (codes "$port/" ++ t, ty)) (same index) in
    ap (λ (t : Text × Text). t ∷ map (cell_of old port ty) indices) here
    ∙ ap (λ (ts : List (Text × Text)). cell_of new port ty index ∷ ts)
    (indices_same old new port ty indices same)

typed_same : (old new : List Text) (port : Port) (o : Option Text)
    → ((index : ℕ) → written old port index ≡ written new port index)
    → typed old port o ≡ typed new port o
typed_same old new port None same = refl
typed_same old new port (Some ty) same =
    indices_same old new port ty (range_with_len 0 (width port)) same

port_same : (old new : List Text) (design : NetlistRec) (number : PortNumber)
    → IsGrown old new design → cells_at old design number ≡ cells_at new design number
port_same old new design number grown = by (slice_get design.port_list number) refl
  where
    by : (o : Option Port) → slice_get design.port_list number ≡ o
        → cells_at old design number ≡ cells_at new design number
    by None e = rw e refl
    by (Some port) e = rw e (typed_same old new port (port_type port.dir)
        (λ index. grown.of_port number index port e))

numbers_same : (old new : List Text) (design : NetlistRec) (numbers : List PortNumber)
    → IsGrown old new design
    → flat_map (cells_at old design) numbers ≡ flat_map (cells_at new design) numbers
numbers_same old new design [] grown = refl
numbers_same old new design (number ∷ numbers) grown =
    ap (λ xs. xs ++ flat_map (cells_at old design) numbers)
    (port_same old new design number grown)
    ∙ ap (λ ys. cells_at new design number ++ ys)
    (numbers_same old new design numbers grown)

pub ports_same : (old new : List Text) (design : NetlistRec) → IsGrown old new design
    → port_cells old design ≡ port_cells new design
ports_same old new design grown =
    numbers_same old new design (ports_of design design.top_inst.cell) grown
