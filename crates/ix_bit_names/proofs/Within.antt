-- The ports of rows are in the netlist's list.
use Rattle.std.proofs.Common.{◌≡◌, ℕ, ◌+◌, ◌-◌, ◌<◌, ◌≤◌, Bool, true, List, [], ◌∷◌, length, ap, ◌∙◌, subst, Some, None, arith, get_or, drop}
use Rattle.std.specs.Prelude.{nat_eq, slice_get, ◌&&◌}
use Rattle.std.specs.List.{position, slice_range}
use Rattle.std.proofs.lemmas.Bool.Decides.{nat_tests}
use Rattle.std.proofs.lemmas.List.{get_or-take, get_or-drop, length-take, length-drop}
use Rattle.std.proofs.lemmas.List.Folds.{Any-from_list_any}
use Rattle.std.proofs.lemmas.List.Quantifiers.{position-Some}
use Rattle.std.proofs.lemmas.Option.{slice_get_within, get_or_from_slice_get, slice_get-get_or}
use Rattle.ix_rec.specs.declared.netlist.Cell.{Cell}
use Rattle.ix_rec.specs.declared.netlist.NetlistRec.{NetlistRec}
use Rattle.ix_rec.specs.declared.netlist.PortInstance.{PortInstance}
use Rattle.ix_hierarchy.specs.declared.row.Row.{Row}
use Rattle.ix_hierarchy.specs.Fits.{CellFits, NetFits, NetlistFits, PortInstanceFits}
use Rattle.ix_hierarchy.specs.Lists.{IsOuterRow}
use Rattle.ix_hierarchy.specs.Nets.{is_of, same_bit, bit_of}
use Rattle.ix_bit_rows.specs.Table.{AreRowsIn, RowTable}
use Rattle.ix_bit_names.proofs.Growing.{all_at}

item : {X : Type 0} (p : X → Bool) (xs : List X) (k : ℕ) → position p xs ≡ Some k
    → (x : X) × (slice_get xs k ≡ Some x)
item p [] k is = absurd (no k is)
  where
    no : (n : ℕ) → None ≡ Some n → ⊥
    no n e = cc
item p (x ∷ xs) k is = (get_or (x ∷ xs) k x, slice_get-get_or (x ∷ xs) k x (position-Some p (x ∷ xs) k x is).0)

port_of : (b : Bool) (a c d e : ℕ) → b && (nat_eq a c && nat_eq d e) ≡ true → a ≡ c
port_of b a c d e h = grind (arith, nat_tests)

pub rows_within : (names : ℕ) (design : NetlistRec) (table : RowTable) → NetlistFits names design
    → AreRowsIn design IsOuterRow table → (k : ℕ) (row : Row) → slice_get table.rows k ≡ Some row
    → row.port < length design.port_list
rows_within names design table fits are k row is =
    let within : k < length table.rows = slice_get_within table.rows k row is in
    let some = are.some_cell k within in
    let declaration = some.0 in
    let place = some.1 in
    let start = some.2 in
    let end = some.3 in
    let reaches = some.4 in
    let first = some.5 in
    let start_is = some.6 in
    let end_is = some.7 in
    let from = some.8 in
    let to = some.9 in
    let its = item (λ (c : Cell). nat_eq c.index declaration) design.cell_list place first in
    let order = are.ordered place start end start_is end_is in
    let whole = are.each declaration place start end its.0 reaches first its.1 start_is end_is in
    let part : slice_get (slice_range table.rows start end) (k - start) ≡ Some row =
    slice_get-get_or (slice_range table.rows start end) (k - start) row (simp (length-take, length-drop) (omega (arith, order.1)))
    ∙ ap Some (get_or-take (end - start) (drop start table.rows) (k - start) row (omega arith)
    ∙ get_or-drop start table.rows (k - start) row ∙ ap (λ (m : ℕ). get_or table.rows m row) (plus_minus start k from)
    ∙ get_or_from_slice_get table.rows k row row is) in
    let outer = whole.each (k - start) row part in
    let any = Any-from_list_any (λ (named : PortInstance). is_of row.instance named.owner && same_bit (bit_of named) (record { port = row.port; index = row.index }))
    outer.0.port_insts outer.2 in
    let named : PortInstance = any.1 in
    let named_is : slice_get outer.0.port_insts any.0 ≡ Some named = slice_get-get_or outer.0.port_insts any.0 named any.2 ∙ ap Some any.3 in
    let cell_fits = all_at (CellFits names design) design.cell_list place its.0 fits.cells its.1 in
    let net_fits = all_at (NetFits names design its.0.index) its.0.nets row.net outer.0 cell_fits.nets outer.1 in
    let port_fits = all_at (PortInstanceFits design its.0.index) outer.0.port_insts any.0 named net_fits.named named_is in
    subst (λ (n : ℕ). n < length design.port_list)
    (port_of (is_of row.instance named.owner) named.port row.port (bit_of named).index row.index any.4) port_fits.0
  where
    plus_minus : (n k : ℕ) → n ≤ k → n + (k - n) ≡ k
    plus_minus n k h = omega arith
