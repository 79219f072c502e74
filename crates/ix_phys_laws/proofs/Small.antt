-- The lists of a netlist that was read are no longer than what the reading may cost.
use Rattle.std.proofs.Common.{◌≡◌, ◌∙◌, ◌≤◌, ◌+◌, ◌^◌, ℕ, List, [], ◌∷◌, length, map}
use Rattle.std.proofs.Common.{Option, Some, None, Result, Ok, Err, refl, sym, ap, arith}
use Rattle.std.specs.List.{All, AllByRecursion, sum_by}
use Rattle.std.proofs.lemmas.List.{length-map, length-append}
use Rattle.std.proofs.lemmas.List.Elements.{recursion_from_All}
use Rattle.std.proofs.lemmas.List.Sums.{sum_by-cons}
use Rattle.ix_device_read.specs.Premises.{branches_in, structs_in, parts_in}
use Rattle.ix_device_read.specs.Reading.{reading_in_segments, record_unless_bad}
use Rattle.ix_device_read.proofs.Bound.{message_bound}
use Rattle.ix_frame.specs.Objects.{whole_budget}
use Rattle.ix_frame.specs.Result.{◌>>=◌}
use Rattle.ix_frame.specs.Segments.{Segments}
use Rattle.ix_legal.specs.Legal.{IsShort, IsSmall, IsSound, most_entries}
use Rattle.ix_message.specs.Indexes.{Item, first_bad}
use Rattle.ix_message.specs.Message.{framed, unless_bad, numbers_in_segments}
use Rattle.ix_message.specs.Names.{Datum, record_of, branches_map}
use Rattle.ix_message.specs.Phys.{cell_placement, phys_net, site_instance, property, phys_netlist}
use Rattle.ix_message.specs.Shape.{Text, Value, Branches, ends, branch, preorder}
use Rattle.ix_num.specs.declared.fault.FrameFault.{FrameFault}
use Rattle.ix_phys_read.specs.Forests.{HasForests}
use Rattle.ix_phys_read.proofs.Opened.{has_it}
use Rattle.ix_phys_write.specs.Record.{phys_record, placement_record, net_record}
use Rattle.ix_phys_write.specs.Record.{site_instance_record, property_record, segment_row}
use Rattle.ix_phys_write.specs.Record.{IsPhysNamed}
use Rattle.ix_phys_write.specs.Trees.{trees_at}
use Rattle.ix_phys_write.proofs.Levels.{trees_in_preorder}
use Rattle.ix_rec.specs.Forest.{IsPreorder}
use Rattle.ix_rec.specs.declared.forest.Branch.{Branch}
use Rattle.ix_rec.specs.declared.phys.Phys.{Phys}
use Rattle.ix_rec.specs.declared.phys.PhysNet.{PhysNet}
use Rattle.ix_rec.specs.declared.phys.Segment.{Segment}
use Rattle.ix_strings.specs.Names.{AllDiffer}

-- The numbers of segments that read as a record.
record Numbered (all : Segments) (r : Value Datum phys_netlist) : Type 0 where
  table : List Text
  v : Value ℕ phys_netlist
  read : numbers_in_segments phys_netlist all ≡ Ok (table, v)
  made : record_of table phys_netlist v ≡ r

not_bad : {A : Type 0} (bad : Option Item) (x y : A) → unless_bad bad x ≡ Ok y → x ≡ y
not_bad None x y h = ap (λ r. value_or x r) h
  where
    value_or : {A E : Type 0} → A → Result A E → A
    value_or x (Ok y) = y
    value_or x (Err e) = x
not_bad (Some item) x y h = absurd cc

numbered : (all : Segments) (r : Value Datum phys_netlist)
    → reading_in_segments phys_netlist all ≡ Ok r → Numbered all r
numbered all r h = go (numbers_in_segments phys_netlist all) refl h
  where
    go : (found : Result (List Text × Value ℕ phys_netlist) FrameFault)
        → numbers_in_segments phys_netlist all ≡ found
        → (framed found >>= λ x. record_unless_bad x.0 phys_netlist x.1) ≡ Ok r → Numbered all r
    go (Ok x) is h = record {
      table = x.0;
      v = x.1;
      read = is;
      made = not_bad (first_bad phys_netlist (length x.0) x.1) (record_of x.0 phys_netlist x.1) r h;
    }
    go (Err e) is h = absurd cc

-- Each struct counts at least itself.
each_counts : {A : Type 0} (many : A → ℕ) → ((x : A) → 1 ≤ many x) → (xs : List A)
    → length xs ≤ sum_by many xs
each_counts many one [] = omega arith
each_counts many one (x ∷ xs) =
    omega (arith, one x, each_counts many one xs, sum_by-cons many x xs)

-- The items of a tree are as many where each is changed, and a forest has as many as its tree.
items_changed : {A B : Type 0} (f : A → B) (t : Branches A)
    → branches_in (branches_map f t) ≡ branches_in t
items_changed f ends = refl
items_changed f (branch x below beside) =
    omega (arith, items_changed f below, items_changed f beside)

items_listed : {A : Type 0} (depth : ℕ) (t : Branches A)
    → length (preorder depth t) ≡ branches_in t
items_listed depth ends = refl
items_listed depth (branch x below beside) =
    omega (
      arith,
      length-append (preorder (depth + 1) below) (preorder depth beside),
      items_listed (depth + 1) below,
      items_listed depth beside,
    )

forest_items : (bs : List (Branch Segment)) → IsPreorder bs
    → length bs ≡ branches_in (trees_at 0 bs)
forest_items bs h =
    sym (length-map bs _) ∙ sym (ap length (trees_in_preorder bs h))
    ∙ items_listed 0 (trees_at 0 bs)

-- A net's trees are few where its structs are.
net_short : (names table : List Text) (v : Value ℕ phys_net) (net : PhysNet)
    → record_of table phys_net v ≡ net_record names net → HasForests net
    → structs_in phys_net v ≤ most_entries → IsShort net.sources × IsShort net.stubs
unfolding record_of structs_in parts_in
net_short names table v net made forests few =
    let first : branches_in v.1.0 ≡ branches_in (trees_at 0 net.sources) =
    sym (items_changed _ v.1.0) ∙ ap (λ (r : Value Datum phys_net). branches_in r.1.0) made
    ∙ items_changed (segment_row names) (trees_at 0 net.sources) in
    let second : branches_in v.1.1.0 ≡ branches_in (trees_at 0 net.stubs) =
    sym (items_changed _ v.1.1.0) ∙ ap (λ (r : Value Datum phys_net). branches_in r.1.1.0) made
    ∙ items_changed (segment_row names) (trees_at 0 net.stubs) in
    let sources = forest_items net.sources forests.0 in
    let stubs = forest_items net.stubs forests.1 in (omega arith, omega arith)

abbrev first_or : {A : Type 0} → A → List A → A
first_or x [] = x
first_or x (y ∷ ys) = y

abbrev rest_of : {A : Type 0} → List A → List A
rest_of [] = []
rest_of (y ∷ ys) = ys

nets_short : (names table : List Text) (vs : List (Value ℕ phys_net)) (nets : List PhysNet)
    → map (record_of table phys_net) vs ≡ map (net_record names) nets
    → AllByRecursion HasForests nets → sum_by (structs_in phys_net) vs ≤ most_entries
    → AllByRecursion (λ net. IsShort net.sources × IsShort net.stubs) nets
nets_short names table vs [] made forests few = tt
nets_short names table [] (net ∷ nets) made forests few = absurd cc
nets_short names table (v ∷ vs) (net ∷ nets) made forests few =
    let all = sum_by-cons (structs_in phys_net) v vs in
    let one : structs_in phys_net v ≤ most_entries = omega arith in
    let others : sum_by (structs_in phys_net) vs ≤ most_entries = omega arith in (
      net_short names table v net (ap (first_or (record_of table phys_net v)) made) forests.0 one,
      nets_short names table vs nets (ap rest_of made) forests.1 others,
    )

-- how many structs the netlist has
record Counts (v : Value ℕ phys_netlist) : Type 0 where
  placements : length v.1.1.0 ≤ most_entries
  nets : sum_by (structs_in phys_net) v.1.1.1.0 ≤ most_entries
  nets_listed : length v.1.1.1.0 ≤ most_entries
  site_insts : length v.1.1.1.1.0 ≤ most_entries
  properties : length v.1.1.1.1.1.0 ≤ most_entries
  together : length v.1.1.0 + length v.1.1.1.1.1.0 ≤ most_entries

counts : (v : Value ℕ phys_netlist) → structs_in phys_netlist v ≤ most_entries + 1 → Counts v
unfolding structs_in parts_in
counts v few =
    let ps : length v.1.1.0 ≤ sum_by (structs_in cell_placement) v.1.1.0 =
    each_counts (structs_in cell_placement) (λ x. omega arith) v.1.1.0 in
    let ns : length v.1.1.1.0 ≤ sum_by (structs_in phys_net) v.1.1.1.0 =
    each_counts (structs_in phys_net) (λ x. omega arith) v.1.1.1.0 in
    let is : length v.1.1.1.1.0 ≤ sum_by (structs_in site_instance) v.1.1.1.1.0 =
    each_counts (structs_in site_instance) (λ x. omega arith) v.1.1.1.1.0 in
    let qs : length v.1.1.1.1.1.0 ≤ sum_by (structs_in property) v.1.1.1.1.1.0 =
    each_counts (structs_in property) (λ x. omega arith) v.1.1.1.1.1.0 in
    record {
      placements = omega arith;
      nets = omega arith;
      nets_listed = omega arith;
      site_insts = omega arith;
      properties = omega arith;
      together = omega arith;
    }

-- lists of the record are as long as those of its numbers
placements_listed : (names table : List Text) (v : Value ℕ phys_netlist) (phys : Phys)
    → record_of table phys_netlist v ≡ phys_record names phys
    → length phys.placements ≡ length v.1.1.0
unfolding record_of
placements_listed names table v phys made =
    sym (length-map phys.placements (placement_record names))
    ∙ sym (ap (λ (r : Value Datum phys_netlist). length r.1.1.0) made)
    ∙ length-map v.1.1.0 (record_of table cell_placement)

properties_listed : (names table : List Text) (v : Value ℕ phys_netlist) (phys : Phys)
    → record_of table phys_netlist v ≡ phys_record names phys
    → length phys.properties ≡ length v.1.1.1.1.1.0
unfolding record_of
properties_listed names table v phys made =
    sym (length-map phys.properties (property_record names))
    ∙ sym (ap (λ (r : Value Datum phys_netlist). length r.1.1.1.1.1.0) made)
    ∙ length-map v.1.1.1.1.1.0 (record_of table property)

small : (names table : List Text) (v : Value ℕ phys_netlist) (phys : Phys) → Counts v
    → record_of table phys_netlist v ≡ phys_record names phys
    → AllByRecursion HasForests phys.nets → IsSmall phys
unfolding record_of
small names table v phys h made forests =
    let ps = placements_listed names table v phys made in
    let ns : length phys.nets ≡ length v.1.1.1.0 =
    sym (length-map phys.nets (net_record names))
    ∙ sym (ap (λ (r : Value Datum phys_netlist). length r.1.1.1.0) made)
    ∙ length-map v.1.1.1.0 (record_of table phys_net) in
    let is : length phys.site_insts ≡ length v.1.1.1.1.0 =
    sym (length-map phys.site_insts (site_instance_record names))
    ∙ sym (ap (λ (r : Value Datum phys_netlist). length r.1.1.1.1.0) made)
    ∙ length-map v.1.1.1.1.0 (record_of table site_instance) in
    let qs = properties_listed names table v phys made in
    let listed = h.nets_listed in
    let placed = h.placements in
    let sited = h.site_insts in
    let told = h.properties in
    record {
      placements = omega arith;
      nets = omega arith;
      site_insts = omega arith;
      properties = omega arith;
      segments = nets_short names table v.1.1.1.0 phys.nets
          (ap (λ (r : Value Datum phys_netlist). r.1.1.1.0) made) forests h.nets;
    }

-- the structs of a netlist that was read are few
read_few : (all : Segments) (r : Value Datum phys_netlist) (n : Numbered all r)
    → whole_budget all ≤ 2 ^ 28 + 64 → structs_in phys_netlist n.v ≤ most_entries + 1
read_few all r n short =
    let bound = has_it _ (numbers_in_segments phys_netlist all) (n.table, n.v) n.read
    (message_bound phys_netlist refl all) in omega (arith, bound.0)

pub read_sound : (names : List Text) (all : Segments) (phys : Phys)
    → whole_budget all ≤ 2 ^ 28 + 64
    → reading_in_segments phys_netlist all ≡ Ok (phys_record names phys)
    → IsPhysNamed names phys → All HasForests phys.nets → AllDiffer names → IsSound names phys
read_sound names all phys short is named forests differ =
    let n = numbered all (phys_record names phys) is in
    let few = read_few all (phys_record names phys) n short in
    let each = recursion_from_All HasForests phys.nets forests in
    record {
      small = small names n.table n.v phys (counts n.v few) n.made each;
      differ = differ;
      named = named;
      preorder = each;
    }

pub read_has_room : (names : List Text) (all : Segments) (phys : Phys)
    → whole_budget all ≤ 2 ^ 28 + 64
    → reading_in_segments phys_netlist all ≡ Ok (phys_record names phys)
    → length phys.placements + length phys.properties ≤ most_entries
read_has_room names all phys short is =
    let n = numbered all (phys_record names phys) is in
    let both = (counts n.v (read_few all (phys_record names phys) n short)).together in
    let ps = placements_listed names n.table n.v phys n.made in
    let qs = properties_listed names n.table n.v phys n.made in omega arith
