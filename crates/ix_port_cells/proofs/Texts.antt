-- Cells with one more, and over a larger table of names.
use Rattle.std.proofs.Common.{◌≡◌, ap, refl, sym, ◌∙◌, ℕ, List, [], ◌∷◌, ◌++◌, map, slice_get, Option}
use Rattle.std.proofs.Common.{Some, None, codes}
use Rattle.std.specs.Option.{option_and_then, option_map}
use Rattle.std.proofs.lemmas.List.{map-append}
use Rattle.std.proofs.lemmas.Option.{none-some, same_Some, option_and_then_some}
use Rattle.ix_message.specs.Shape.{Text}
use Rattle.ix_rec.specs.declared.device.Direction.{Direction}
use Rattle.ix_rec.specs.declared.device.Direction.TheVariants.{Input, Output, Inout}
use Rattle.ix_rec.specs.declared.flow.FlatCell.{FlatCell}
use Rattle.ix_strings.specs.Names.{KeepsNumbers}
use Rattle.ix_hierarchy.specs.FlatDesign.{cell_texts, port_type}
use Rattle.ix_flat_lists.specs.Listed.{ArePortNames, type_towards}
use Rattle.ix_flat_lists.specs.declared.port_names.PortNames.{PortNames}
use Rattle.ix_port_cells.specs.CellTexts.{AreCells}

mapped : {A B : Type 0} (f : A → B) (o : Option A) (y : B) → option_map f o ≡ Some y
    → (x : A) × (o ≡ Some x) × (f x ≡ y)
mapped f None y e = absurd (none-some y e)
mapped f (Some x) y e = (x, refl, same_Some (f x) y e)

pub texts_of : (names : List Text) (cell : FlatCell) (text ty : Text)
    → slice_get names cell.name ≡ Some text → slice_get names cell.ty ≡ Some ty
    → cell_texts names cell ≡ Some (text, ty)
texts_of names cell text ty n t =
    ap (option_and_then (λ name. option_map (λ kind. (name, kind)) (slice_get names cell.ty))) n
    ∙ ap (option_map (λ kind. (text, kind))) t

-- one cell over the larger table
cell_keeps : (old new : List Text) (cell : FlatCell) (texts : Text × Text) → KeepsNumbers old new
    → cell_texts old cell ≡ Some texts → cell_texts new cell ≡ Some texts
cell_keeps old new cell texts keeps h =
    option_and_then_some (λ name. option_map (λ kind. (name, kind)) (slice_get old cell.ty))
    (slice_get old cell.name) texts h (λ name n t.
    let m = mapped (λ (kind : Text). (name, kind)) (slice_get old cell.ty) texts t in
    texts_of new cell name m.0 (keeps cell.name name n) (keeps cell.ty m.0 m.1)
    ∙ ap (λ x. Some x) m.2)

pub cells_keep : (old new : List Text) (cells : List FlatCell) (texts : List (Text × Text))
    → KeepsNumbers old new → AreCells old cells texts → AreCells new cells texts
cells_keep old new [] [] keeps h = refl
cells_keep old new [] (t ∷ texts) keeps h = absurd (cc)
cells_keep old new (c ∷ cells) [] keeps h = absurd (cc)
cells_keep old new (c ∷ cells) (t ∷ texts) keeps h =
    let first : cell_texts old c ≡ Some t = cc in
    let rest : map (cell_texts old) cells ≡ map (λ x. Some x) texts = cc in
    ap (λ x. x ∷ map (cell_texts new) cells) (cell_keeps old new c t keeps first)
    ∙ ap (λ xs. Some t ∷ xs) (cells_keep old new cells texts keeps rest)

pub push_cell : (names : List Text) (cells : List FlatCell) (texts : List (Text × Text))
    (cell : FlatCell) (text ty : Text) → AreCells names cells texts
    → slice_get names cell.name ≡ Some text → slice_get names cell.ty ≡ Some ty
    → AreCells names (cells ++ cell ∷ []) (texts ++ (text, ty) ∷ [])
push_cell names cells texts cell text ty h n t =
    map-append (cell_texts names) cells (cell ∷ [])
    ∙ ap (λ xs. xs ++ cell_texts names cell ∷ []) h
    ∙ ap (λ x. map (λ y. Some y) texts ++ x ∷ []) (texts_of names cell text ty n t)
    ∙ sym (map-append (λ y. Some y) texts ((text, ty) ∷ []))

-- the text of a type
pub type_text : (names : List Text) (types : PortNames) (dir : Direction) (ty : ℕ)
    → ArePortNames names types → type_towards types dir ≡ Some ty
    → (text : Text) × (port_type dir ≡ Some text) × (slice_get names ty ≡ Some text)
type_text names types Input ty are h =
    (codes "$PORT_IN", refl, ap (slice_get names) (sym (same_Some types.input ty h)) ∙ are.input)
type_text names types Output ty are h =
    (codes "$PORT_OUT", refl, ap (slice_get names) (sym (same_Some types.output ty h)) ∙ are.output)
type_text names types Inout ty are h = absurd (none-some ty h)

pub no_type : (types : PortNames) (dir : Direction) → type_towards types dir ≡ None
    → port_type dir ≡ None
no_type types Input h = absurd (none-some types.input (sym h))
no_type types Output h = absurd (none-some types.output (sym h))
no_type types Inout h = refl

pub names_keep : (old new : List Text) (types : PortNames) → KeepsNumbers old new
    → ArePortNames old types → ArePortNames new types
names_keep old new types keeps are = record {
  input = keeps types.input (codes "$PORT_IN") are.input;
  output = keeps types.output (codes "$PORT_OUT") are.output;
  pin = keeps types.pin Rattle.ix_hierarchy.specs.FlatDesign.port_pin are.pin;
}
