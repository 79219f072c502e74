-- Numbers below a bound are below a larger one.
use Rattle.std.proofs.Common.{◌≡◌, ◌<◌, ◌≤◌, subst, ℕ, zero, suc, List, [], ◌∷◌, arith}
use Rattle.std.proofs.Common.{slice_get, Some, length, get_or}
use Rattle.std.specs.List.{AllByRecursion}
use Rattle.std.proofs.lemmas.Option.{none-some, same_Some, slice_get-get_or, slice_get_within}
use Rattle.ix_message.specs.Shape.{Text}
use Rattle.ix_rec.specs.declared.netlist.Cell.{Cell}
use Rattle.ix_rec.specs.declared.netlist.CellDeclaration.{CellDeclaration}
use Rattle.ix_rec.specs.declared.netlist.CellInstance.{CellInstance}
use Rattle.ix_rec.specs.declared.netlist.Entry.{Entry}
use Rattle.ix_rec.specs.declared.netlist.Net.{Net}
use Rattle.ix_rec.specs.declared.netlist.NetlistRec.{NetlistRec}
use Rattle.ix_rec.specs.declared.netlist.Port.{Port}
use Rattle.ix_rec.specs.declared.netlist.PropertyValue.{PropertyValue}
use Rattle.ix_rec.specs.declared.netlist.PropertyValue.TheVariants as values
use Rattle.ix_strings.specs.Names.{KeepsNumbers}
use Rattle.ix_hierarchy.specs.Fits.{CellFits, DeclarationFits, InstanceFits, IsEntryNamed}
use Rattle.ix_hierarchy.specs.Fits.{IsValueNamed, NetFits, NetlistFits}

pub at_place : {A : Type 0} (P : A → Type 0) (xs : List A) (i : ℕ) (x : A) → AllByRecursion P xs
    → slice_get xs i ≡ Some x → P x
at_place P [] i x all h = absurd (none-some x h)
at_place P (y ∷ ys) zero x all h = subst P (same_Some y x h) all.0
at_place P (y ∷ ys) (suc i) x all h = at_place P ys i x all.1 h

pub all_more : {A : Type 0} (P Q : A → Type 0) (xs : List A) → ((x : A) → P x → Q x)
    → AllByRecursion P xs → AllByRecursion Q xs
all_more P Q [] f all = all
all_more P Q (x ∷ xs) f all = (f x all.0, all_more P Q xs f all.1)

pub longer : (old new : List Text) → KeepsNumbers old new → length old ≤ length new
longer [] new keeps = omega arith
longer (text ∷ old) new keeps =
    let last : length old < length (text ∷ old) = omega arith in
    let is = slice_get-get_or (text ∷ old) (length old) text last in
    let there : length old < length new = slice_get_within new (length old)
    (get_or (text ∷ old) (length old) text)
    (keeps (length old) (get_or (text ∷ old) (length old) text) is) in
    omega arith

value_more : (m n : ℕ) (value : PropertyValue) → m ≤ n → IsValueNamed m value
    → IsValueNamed n value
value_more m n (values.Text text) le h = omega arith
value_more m n (values.Int number) le h = h
value_more m n (values.Bool b) le h = h

entry_more : (m n : ℕ) (entry : Entry) → m ≤ n → IsEntryNamed m entry → IsEntryNamed n entry
entry_more m n entry le h = record {
  key = let k : entry.key < m = h.key in omega arith;
  value = value_more m n entry.value le h.value;
}

instance_more : (m n : ℕ) (design : NetlistRec) (inst : CellInstance) → m ≤ n
    → InstanceFits m design inst → InstanceFits n design inst
instance_more m n design inst le h = record {
  name = let k : inst.name < m = h.name in omega arith;
  cell = h.cell;
  properties = all_more (IsEntryNamed m) (IsEntryNamed n) inst.prop_map.entries
      (λ e. entry_more m n e le) h.properties;
}

declaration_more : (m n : ℕ) (design : NetlistRec) (declared : CellDeclaration) → m ≤ n
    → DeclarationFits m design declared → DeclarationFits n design declared
declaration_more m n design declared le h = record {
  name = let k : declared.name < m = h.name in omega arith;
  ports = h.ports;
}

net_more : (m n : ℕ) (design : NetlistRec) (own : ℕ) (net : Net) → m ≤ n
    → NetFits m design own net → NetFits n design own net
net_more m n design own net le h = record {
  name = let k : net.name < m = h.name in omega arith;
  named = h.named;
}

cell_more : (m n : ℕ) (design : NetlistRec) (cell : Cell) → m ≤ n → CellFits m design cell
    → CellFits n design cell
cell_more m n design cell le h = record {
  index = h.index;
  insts = h.insts;
  nets = all_more (NetFits m design cell.index) (NetFits n design cell.index) cell.nets
      (λ net. net_more m n design cell.index net le) h.nets;
}

port_more : (m n : ℕ) (port : Port) → m ≤ n → port.name < m → port.name < n
port_more m n port le h = omega arith

pub fits_more : (m n : ℕ) (design : NetlistRec) → m ≤ n → NetlistFits m design
    → NetlistFits n design
fits_more m n design le h = record {
  top = instance_more m n design design.top_inst le h.top;
  declarations = all_more (DeclarationFits m design) (DeclarationFits n design) design.cell_decls
      (λ d. declaration_more m n design d le) h.declarations;
  ports = all_more (λ (port : Port). port.name < m) (λ (port : Port). port.name < n)
      design.port_list (λ port. port_more m n port le) h.ports;
  insts = all_more (InstanceFits m design) (InstanceFits n design) design.inst_list
      (λ i. instance_more m n design i le) h.insts;
  cells = all_more (CellFits m design) (CellFits n design) design.cell_list
      (λ c. cell_more m n design c le) h.cells;
}
