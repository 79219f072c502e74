-- What fits names fits more names.
use Rattle.std.proofs.Common.{◌≡◌, ℕ, ◌<◌, ◌≤◌, List, [], ◌∷◌, length, slice_get, Some, refl, arith}
use Rattle.std.specs.List.{AllByRecursion}
use Rattle.std.proofs.lemmas.Option.{slice_get_within}
use Rattle.ix_strings.specs.Names.{KeepsNumbers}
use Rattle.ix_rec.specs.declared.netlist.Cell.{Cell}
use Rattle.ix_rec.specs.declared.netlist.CellDeclaration.{CellDeclaration}
use Rattle.ix_rec.specs.declared.netlist.CellInstance.{CellInstance}
use Rattle.ix_rec.specs.declared.netlist.Entry.{Entry}
use Rattle.ix_rec.specs.declared.netlist.Net.{Net}
use Rattle.ix_rec.specs.declared.netlist.NetlistRec.{NetlistRec}
use Rattle.ix_rec.specs.declared.netlist.Port.{Port}
use Rattle.ix_rec.specs.declared.netlist.PropertyValue.{PropertyValue}
use Rattle.ix_rec.specs.declared.netlist.PropertyValue.TheVariants as values
use Rattle.ix_hierarchy.specs.Fits.{CellFits, DeclarationFits, InstanceFits, IsEntryNamed}
use Rattle.ix_hierarchy.specs.Fits.{IsValueNamed, NetFits, NetlistFits}

all_more : {A : Type 0} (P Q : A → Type 0) (xs : List A) → ((x : A) → P x → Q x)
    → AllByRecursion P xs → AllByRecursion Q xs
all_more P Q [] f h = tt
all_more P Q (x ∷ xs) f h = (f x h.0, all_more P Q xs f h.1)

value_more : (n m : ℕ) (value : PropertyValue) → n ≤ m → IsValueNamed n value
    → IsValueNamed m value
value_more n m (values.Text text) le h = let lt : text < n = h in omega arith
value_more n m (values.Int i) le h = tt
value_more n m (values.Bool b) le h = tt

entry_more : (n m : ℕ) (entry : Entry) → n ≤ m → IsEntryNamed n entry → IsEntryNamed m entry
entry_more n m entry le h = record {
  key = (let lt : entry.key < n = h.key in omega arith);
  value = value_more n m entry.value le h.value;
}

instance_more : (n m : ℕ) (design : NetlistRec) (inst : CellInstance) → n ≤ m
    → InstanceFits n design inst → InstanceFits m design inst
instance_more n m design inst le h = record {
  name = (let lt : inst.name < n = h.name in omega arith);
  cell = h.cell;
  properties = all_more (IsEntryNamed n) (IsEntryNamed m) inst.prop_map.entries
      (λ entry. entry_more n m entry le) h.properties;
}

declaration_more : (n m : ℕ) (design : NetlistRec) (declared : CellDeclaration) → n ≤ m
    → DeclarationFits n design declared → DeclarationFits m design declared
declaration_more n m design declared le h = record {
  name = (let lt : declared.name < n = h.name in omega arith);
  ports = h.ports;
}

net_more : (n m : ℕ) (design : NetlistRec) (own : ℕ) (net : Net) → n ≤ m
    → NetFits n design own net → NetFits m design own net
net_more n m design own net le h = record {
  name = (let lt : net.name < n = h.name in omega arith);
  named = h.named;
}

cell_more : (n m : ℕ) (design : NetlistRec) (cell : Cell) → n ≤ m → CellFits n design cell
    → CellFits m design cell
cell_more n m design cell le h = record {
  index = h.index;
  insts = h.insts;
  nets = all_more (NetFits n design cell.index) (NetFits m design cell.index) cell.nets
      (λ net. net_more n m design cell.index net le) h.nets;
}

pub fits_more : (n m : ℕ) (design : NetlistRec) → n ≤ m → NetlistFits n design
    → NetlistFits m design
fits_more n m design le h = record {
  top = instance_more n m design design.top_inst le h.top;
  declarations = all_more (DeclarationFits n design) (DeclarationFits m design) design.cell_decls
      (λ declared. declaration_more n m design declared le) h.declarations;
  ports = all_more (λ (port : Port). port.name < n) (λ (port : Port). port.name < m)
      design.port_list (λ port lt. let less : port.name < n = lt in omega arith) h.ports;
  insts = all_more (InstanceFits n design) (InstanceFits m design) design.inst_list
      (λ inst. instance_more n m design inst le) h.insts;
  cells = all_more (CellFits n design) (CellFits m design) design.cell_list
      (λ cell. cell_more n m design cell le) h.cells;
}

last_item : {A : Type 0} (x : A) (xs : List A)
    → (y : A) × (slice_get (x ∷ xs) (length xs) ≡ Some y)
last_item x [] = (x, refl)
last_item x (z ∷ xs) = last_item z xs

-- kept names are no fewer
pub kept_more : (old new : List (List ℕ)) → KeepsNumbers old new → length old ≤ length new
kept_more [] new h = omega arith
kept_more (x ∷ xs) new h =
    let last : _ = last_item x xs in
    let lt : length xs < length new =
    slice_get_within new (length xs) last.0 (h (length xs) last.0 last.1) in
    omega arith
