-- That a port which a net joins is one of its owner's declaration.
use Rattle.std.proofs.Common.{◌≡◌, ◌∙◌, ◌<◌, ◌≤◌, ℕ, List, [], ◌∷◌, map, length, true}
use Rattle.std.proofs.Common.{Option, Some, None, ◌⊎◌, inl, inr, refl, sym, ap, subst, arith}
use Rattle.std.specs.Prelude.{Contains, option_map, slice_get, slice_index, slice_index_or}
use Rattle.std.specs.Prelude.{unwrap_or, ◌==◌}
use Rattle.std.proofs.lemmas.Bool.{eqb-true}
use Rattle.std.proofs.lemmas.List.Folds.{Any-from_list_any}
use Rattle.std.proofs.lemmas.Option.{slice_get-map, slice_get_cases, unwrap_or-slice_get}
use Rattle.ix_frame.specs.Target.{Elements}
use Rattle.ix_message.specs.Indexes.{Entry, Lists, entry_at, entry_of, has_number, no_entry}
use Rattle.ix_message.specs.Indexes.{ports_of_declaration}
use Rattle.ix_message.specs.Names.{Datum, data_of, datum_of, record_of, the_number}
use Rattle.ix_message.specs.Netlist.{cell_declaration, cell_instance}
use Rattle.ix_message.specs.Shape.{Struct, Text, Value, cell_decls, field, index, name}
use Rattle.ix_rec.specs.declared.netlist.Cell.{Cell}
use Rattle.ix_rec.specs.declared.netlist.CellDeclaration.{CellDeclaration}
use Rattle.ix_rec.specs.declared.netlist.CellInstance.{CellInstance}
use Rattle.ix_rec.specs.declared.netlist.NetlistRec.{NetlistRec}
use Rattle.ix_rec.specs.declared.netlist.PortOwner.{PortOwner}
use Rattle.ix_rec.specs.declared.netlist.PortOwner.TheVariants.{ExtPort, Inst}
use Rattle.ix_logic_read.specs.Asking.{entries_said}
use Rattle.ix_logic_read.specs.Owners.{owned_by, AllHaveOwners}
use Rattle.ix_logic_read.specs.Record.{cell_declaration_record, cell_instance_record, named}
use Rattle.ix_logic_read.specs.Record.{ports_of, AreOwnersPorts, IsCellNamed, IsOwnerWithin}
use Rattle.ix_logic_read.specs.Record.{IsPortOf}
use Rattle.ix_logic_read.proofs.Rows.{list_said}
use Rattle.ix_logic_read.proofs.Steps.{number_in}

-- The structs of a list that was taken are those of the record, place by place.

abbrev said_entry : (s : Struct) → Option (Value ℕ s) → Entry
said_entry s v = unwrap_or (option_map (entry_of s) v) no_entry

entry_by : (s : Struct) (e : Elements) (i : ℕ)
    → entry_at (entries_said s e) i ≡ said_entry s (slice_get (list_said s e) i)
unfolding entries_said
entry_by s e i = sym (unwrap_or-slice_get (map (entry_of s) (list_said s e)) i no_entry)
    ∙ ap (λ (o : Option Entry). unwrap_or o no_entry) (slice_get-map (entry_of s) (list_said s e) i)

taken_at : (s : Struct) {X : Type 0} (to_record : X → Value Datum s) (table : List Text)
    (e : Elements) (found : List X) → map (record_of table s) (list_said s e) ≡ map to_record found
    → (i : ℕ) → option_map (record_of table s) (slice_get (list_said s e) i)
    ≡ option_map to_record (slice_get found i)
taken_at s {X} to_record table e found is i =
    sym (slice_get-map (record_of table s) (list_said s e) i)
    ∙ ap (λ (vs : List (Value Datum s)). slice_get vs i) is ∙ slice_get-map to_record found i

-- the ports of a declaration

numbers_back : (f : ℕ → Datum) → ((n : ℕ) → number_in (f n) ≡ n) → (ns : List ℕ)
    → map number_in (map f ns) ≡ ns
numbers_back f back [] = refl
numbers_back f back (n ∷ ns) = rw (back n, numbers_back f back ns) refl

same_ports : (table names : List Text) (v : Value ℕ cell_declaration) (d : CellDeclaration)
    → record_of table cell_declaration v ≡ cell_declaration_record names d → v.1.0 ≡ d.ports
unfolding record_of
same_ports table names v d is =
    sym (numbers_back (datum_of table (index cell_decls)) (λ n. refl) v.1.0)
    ∙ ap (λ (r : Value Datum cell_declaration). map number_in r.1.0) is
    ∙ numbers_back (λ p. the_number p) (λ n. refl) d.ports

ports_alike : (table names : List Text) (o : Option (Value ℕ cell_declaration))
    (d : Option CellDeclaration) → option_map (record_of table cell_declaration) o
    ≡ option_map (cell_declaration_record names) d
    → slice_index_or (said_entry cell_declaration o).lists 0 []
    ≡ unwrap_or (option_map (λ (declared : CellDeclaration). declared.ports) d) []
ports_alike table names None None is = refl
ports_alike table names (Some v) None is = absurd cc
ports_alike table names None (Some d) is = absurd cc
ports_alike table names (Some v) (Some d) is = same_ports table names v d cc

pub ports_taken : (table names : List Text) (e : Elements) (decls : List CellDeclaration)
    → map (record_of table cell_declaration) (list_said cell_declaration e)
    ≡ map (cell_declaration_record names) decls → (i : ℕ)
    → slice_index_or (entry_at (entries_said cell_declaration e) i).lists 0 []
    ≡ unwrap_or (option_map (λ (d : CellDeclaration). d.ports) (slice_get decls i)) []
ports_taken table names e decls is i =
    ap (λ (x : Entry). slice_index_or x.lists 0 []) (entry_by cell_declaration e i)
    ∙ ports_alike table names (slice_get (list_said cell_declaration e) i) (slice_get decls i)
    (taken_at cell_declaration (cell_declaration_record names) table e decls is i)

-- the declaration of an instance

abbrev second_number : List Datum → ℕ
second_number (a ∷ b ∷ rest) = number_in b
second_number _ = 0

second_of : (table : List Text) (whole row : List ℕ) (a : Datum) (c : ℕ)
    → data_of table whole (field "name" name ∷ field "cell" (index cell_decls) ∷ []) row
    ≡ a ∷ the_number c ∷ [] → slice_index row 1 ≡ c
second_of table whole [] a c is = absurd cc
second_of table whole (x ∷ []) a c is = absurd cc
second_of table whole (x ∷ y ∷ rest) a c is = ap second_number is

same_cell : (table names : List Text) (v : Value ℕ cell_instance) (i : CellInstance)
    → record_of table cell_instance v ≡ cell_instance_record names i → slice_index v.0 1 ≡ i.cell
unfolding record_of
same_cell table names v i is = second_of table v.0 v.0 (named names i.name) i.cell
    (ap (λ (r : Value Datum cell_instance). r.0) is)

cell_alike : (table names : List Text) (o : Option (Value ℕ cell_instance)) (i : CellInstance)
    → option_map (record_of table cell_instance) o ≡ Some (cell_instance_record names i)
    → slice_index (said_entry cell_instance o).row 1 ≡ i.cell
cell_alike table names None i is = absurd cc
cell_alike table names (Some v) i is = same_cell table names v i cc

pub cell_taken : (table names : List Text) (e : Elements) (insts : List CellInstance)
    → map (record_of table cell_instance) (list_said cell_instance e)
    ≡ map (cell_instance_record names) insts → (i : ℕ) (inst : CellInstance)
    → slice_get insts i ≡ Some inst
    → slice_index (entry_at (entries_said cell_instance e) i).row 1 ≡ inst.cell
cell_taken table names e insts is i inst at =
    ap (λ (x : Entry). slice_index x.row 1) (entry_by cell_instance e i)
    ∙ cell_alike table names (slice_get (list_said cell_instance e) i) inst
    (taken_at cell_instance (cell_instance_record names) table e insts is i
    ∙ ap (option_map (cell_instance_record names)) at)

-- What was asked of a port instance says the same of the record.

contains_from : (ns : List ℕ) (n : ℕ) → has_number ns n ≡ true → Contains ns n
contains_from ns n has =
    let any = Any-from_list_any (λ k. k == n) ns has in (
      any.0,
      any.2,
      subst (λ (k : ℕ). slice_index_or ns any.0 k ≡ k) (eqb-true any.1 n any.4) any.3,
    )

-- a list's entries tell the ports of the declarations and the declarations of the instances
pub record Tells (l : Lists) (n : NetlistRec) : Type 0 where
  pub ports : (d : ℕ) → ports_of_declaration l d ≡ ports_of n d
  pub cells : (i : ℕ) (inst : CellInstance) → slice_get n.inst_list i ≡ Some inst
      → slice_index (entry_at l.instance_list i).row 1 ≡ inst.cell

pub is_port_of : (l : Lists) (n : NetlistRec) → Tells l n → (own port : ℕ) (owner : PortOwner)
    → IsOwnerWithin (length n.inst_list) owner
    → has_number (ports_of_declaration l (owned_by l own owner)) port ≡ true
    → IsPortOf n own owner port
is_port_of l n tells own port ExtPort within has = contains_from (ports_of n own) port
    (subst (λ (ps : List ℕ). has_number ps port ≡ true) (tells.ports own) has)
is_port_of l n tells own port (Inst i) within has = go ((slice_get_cases n.inst_list i).1)
  where
    of_inst : (inst : CellInstance) → slice_get n.inst_list i ≡ Some inst
        → Contains (ports_of n inst.cell) port
    of_inst inst at = contains_from (ports_of n inst.cell) port
        (subst (λ (ps : List ℕ). has_number ps port ≡ true) (tells.ports inst.cell)
        (subst (λ (d : ℕ). has_number (ports_of_declaration l d) port ≡ true)
        (tells.cells i inst at) has))

    go : ((inst : CellInstance) × (i < length n.inst_list) × (slice_get n.inst_list i ≡ Some inst)
        × (slice_index_or n.inst_list i inst ≡ inst))
        ⊎ ((length n.inst_list ≤ i) × (slice_get n.inst_list i ≡ None))
        → IsPortOf n own (Inst i) port
    go (inl there) = (there.0, there.2, of_inst there.0 there.2)
    go (inr past) = let le : length n.inst_list ≤ i = past.0 in absurd (omega (arith, le, within))

pub are_owners_ports : (l : Lists) (n : NetlistRec) (names : List Text) (decls ports : ℕ)
    (c : Cell) → Tells l n → IsCellNamed names decls ports (length n.inst_list) c
    → AllHaveOwners l c → AreOwnersPorts n c
are_owners_ports l n names decls ports c tells within have k net lt j p less =
    let joins = slice_index_or c.nets k net in
    let pin = slice_index_or joins.port_insts j p in
    is_port_of l n tells c.index pin.port pin.owner
    ((within.nets k net lt).port_insts j p less).owner (have k net lt j p less).has
