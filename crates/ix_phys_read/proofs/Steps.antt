-- The steps of a physical netlist, struct by struct, and that counting them as the code does finds
-- the first bad field.
use Prim.Native.String.{String}
use Rattle.std.proofs.Common.{◌≡◌, ℕ, ◌+◌, List, [], ◌∷◌, ◌++◌, length, Bool, true, false, refl}
use Rattle.std.proofs.Common.{sym, ap, ◌∙◌, arith, append_assoc}
use Rattle.std.specs.Prelude.{◌&&◌}
use Rattle.std.specs.List.{flat_map, list_all}
use Rattle.std.proofs.lemmas.Bool.{and_parts}
use Rattle.std.proofs.lemmas.List.{append-nil}
use Rattle.ix_message.specs.Indexes.{Step, Entry, Lists, begun, asked, ask_row, fits, steps}
use Rattle.ix_message.specs.Indexes.{part_steps, branch_steps}
use Rattle.ix_message.specs.Phys.{pin_mapping, cell_placement, phys_net, site_instance, property}
use Rattle.ix_message.specs.Phys.{phys_netlist, segment}
use Rattle.ix_message.specs.Shape.{Text, Field, Kind, Struct, Branches, Value, flag, nothing}
use Rattle.ix_message.specs.Shape.{choice, name, by_tag, struct_of, ends, branch, preorder}
use Rattle.ix_take.specs.Walked.{kinds_of, begun_in}
use Rattle.ix_take.specs.Walks.{has_kind, AreOfKinds}
use Rattle.ix_phys_read.specs.Walked.{counted_structs}
use Rattle.std.proofs.lemmas.Grind.{flat_map-append}

-- Fields that ask nothing of the structs around.

abbrev is_plain : Kind → Bool
is_plain flag = true
is_plain nothing = true
is_plain (choice most) = true
is_plain name = true
is_plain (by_tag slot value here there) = is_plain here && is_plain there
is_plain _ = false

abbrev has_plain_kind : Field → Bool
has_plain_kind f = is_plain f.kind

fits_anywhere : (l : Lists) (a b : List Entry) (row : List ℕ) (k : Kind) (n : ℕ) → is_plain k ≡ true
    → fits l a row k n ≡ fits l b row k n
fits_anywhere l a b row flag n h = refl
fits_anywhere l a b row nothing n h = refl
fits_anywhere l a b row (choice most) n h = refl
fits_anywhere l a b row name n h = refl
fits_anywhere l a b row (by_tag slot value here there) n h =
    let two = and_parts (is_plain here) (is_plain there) h in
    rw (fits_anywhere l a b row here n two.0, fits_anywhere l a b row there n two.1) refl
fits_anywhere l a b row _ n h = absurd cc

asked_anywhere : (l : Lists) (a b : List Entry) (kind : String) (row : List ℕ) (fields : List Field)
    (ns : List ℕ) → list_all has_plain_kind fields ≡ true
    → ask_row l a kind row fields ns ≡ ask_row l b kind row fields ns
asked_anywhere l a b kind row [] ns h = refl
asked_anywhere l a b kind row (f ∷ fs) [] h = refl
asked_anywhere l a b kind row (f ∷ fs) (n ∷ ns) h =
    let two = and_parts (is_plain f.kind) (list_all has_plain_kind fs) h in
    rw (fits_anywhere l a b row f.kind n two.0, asked_anywhere l a b kind row fs ns two.1) refl

flat_same : {A B : Type 0} (f g : A → List B) → ((x : A) → f x ≡ g x) → (xs : List A)
    → flat_map f xs ≡ flat_map g xs
flat_same f g same [] = refl
flat_same f g same (x ∷ xs) = rw (same x, flat_same f g same xs) refl

abbrev pub fields_of : Struct → List Field
fields_of (struct_of kind fields ps) = fields

-- what a struct asks of its own row
unfoldable pub own : Lists → Struct → List ℕ → List Step
own l (struct_of kind fields ps) row = begun kind ∷ ask_row l [] kind row fields row

pub pin_steps : (l : Lists) (around : List Entry) (v : Value ℕ pin_mapping)
    → steps pin_mapping l around v ≡ own l pin_mapping v.0
unfolding steps part_steps own
pin_steps l around v =
    let here : Entry = record { row = v.0; lists = []; lengths = [] } in
    append-nil (begun "PinMapping" ∷ ask_row l (here ∷ around) "PinMapping" v.0
    (fields_of pin_mapping) v.0) ∙ ap (λ (xs : List Step). begun "PinMapping" ∷ xs)
    (asked_anywhere l (here ∷ around) [] "PinMapping" v.0 (fields_of pin_mapping) v.0 refl)

pub site_steps : (l : Lists) (around : List Entry) (v : Value ℕ site_instance)
    → steps site_instance l around v ≡ own l site_instance v.0
unfolding steps part_steps own
site_steps l around v =
    let here : Entry = record { row = v.0; lists = []; lengths = [] } in
    append-nil (begun "SiteInstance" ∷ ask_row l (here ∷ around) "SiteInstance" v.0
    (fields_of site_instance) v.0) ∙ ap (λ (xs : List Step). begun "SiteInstance" ∷ xs)
    (asked_anywhere l (here ∷ around) [] "SiteInstance" v.0 (fields_of site_instance) v.0 refl)

pub property_steps : (l : Lists) (around : List Entry) (v : Value ℕ property)
    → steps property l around v ≡ own l property v.0
unfolding steps part_steps own
property_steps l around v =
    let here : Entry = record { row = v.0; lists = []; lengths = [] } in
    append-nil (begun "Property" ∷ ask_row l (here ∷ around) "Property" v.0
    (fields_of property) v.0) ∙ ap (λ (xs : List Step). begun "Property" ∷ xs)
    (asked_anywhere l (here ∷ around) [] "Property" v.0 (fields_of property) v.0 refl)

pub placement_steps : (l : Lists) (around : List Entry) (v : Value ℕ cell_placement)
    → steps cell_placement l around v ≡ own l cell_placement v.0 ++ flat_map
    (steps pin_mapping l []) v.1.0
unfolding steps part_steps own
placement_steps l around v =
    let here : Entry = record { row = v.0; lists = [] ∷ []; lengths = length v.1.0 ∷ [] } in
    rw (
      asked_anywhere l (here ∷ around) [] "CellPlacement" v.0 (fields_of cell_placement) v.0 refl,
      append-nil (flat_map (steps pin_mapping l (here ∷ around)) v.1.0),
      flat_same (steps pin_mapping l (here ∷ around)) (steps pin_mapping l [])
          (λ p. pin_steps l (here ∷ around) p ∙ sym (pin_steps l [] p)) v.1.0,
    ) refl

pub net_steps : (l : Lists) (around : List Entry) (v : Value ℕ phys_net)
    → steps phys_net l around v ≡ own l phys_net v.0 ++
    (branch_steps l "RouteBranch" segment v.1.0 ++ branch_steps l "RouteBranch" segment v.1.1.0)
unfolding steps part_steps own
net_steps l around v =
    let here : Entry = record { row = v.0; lists = [] ∷ [] ∷ []; lengths = 0 ∷ 0 ∷ [] } in
    rw (
      asked_anywhere l (here ∷ around) [] "PhysNet" v.0 (fields_of phys_net) v.0 refl,
      append-nil (branch_steps l "RouteBranch" segment v.1.1.0),
    ) refl

-- the same wherever the struct stands
at_any : {A : Type 0} (f : List Entry → A → List Step) (g : A → List Step)
    → ((a : List Entry) (v : A) → f a v ≡ g v) → (around : List Entry) (vs : List A)
    → flat_map (f around) vs ≡ flat_map (f []) vs
at_any f g same around vs = flat_same (f around) (f []) (λ v. same around v ∙ sym (same [] v)) vs

pub root_steps : (l : Lists) (part : Text) (ps : List (Value ℕ cell_placement))
    (ns : List (Value ℕ phys_net)) (is : List (Value ℕ site_instance))
    (qs : List (Value ℕ property)) → steps phys_netlist l []
    ([], (part, (ps, (ns, (is, (qs, tt))))))
    ≡ begun "PhysNetlist" ∷ (flat_map (steps cell_placement l []) ps ++
    (flat_map (steps phys_net l []) ns ++
    (flat_map (steps site_instance l []) is ++ flat_map (steps property l []) qs)))
unfolding steps part_steps
root_steps l part ps ns is qs =
    let here : Entry = record {
      row = [];
      lists = [] ∷ [] ∷ [] ∷ [] ∷ [] ∷ [] ∷ [];
      lengths =
          0 ∷ 0 ∷ length ps ∷ length ns ∷ length is ∷ length qs ∷ [];
    } in
    rw (
      at_any (steps cell_placement l) (λ v. own l cell_placement v.0 ++ flat_map
          (steps pin_mapping l []) v.1.0) (placement_steps l) (here ∷ []) ps,
      at_any (steps phys_net l) (λ v. own l phys_net v.0 ++
          (branch_steps l "RouteBranch" segment v.1.0 ++ branch_steps l "RouteBranch" segment
          v.1.1.0)) (net_steps l) (here ∷ []) ns,
      at_any (steps site_instance l) (λ v. own l site_instance v.0) (site_steps l) (here ∷ []) is,
      at_any (steps property l) (λ v. own l property v.0) (property_steps l) (here ∷ []) qs,
      append-nil (flat_map (steps property l []) qs),
    ) refl

-- Branches ask item by item, in preorder.

unfoldable pub item_steps : Lists → ℕ × List ℕ → List Step
item_steps l p = begun "RouteBranch" ∷ ask_row l [] "RouteBranch" p.1 segment p.1

pub in_preorder : (l : Lists) (d : ℕ) (t : Branches (List ℕ))
    → branch_steps l "RouteBranch" segment t ≡ flat_map (item_steps l) (preorder d t)
unfolding item_steps
in_preorder l d ends = refl
in_preorder l d (branch row below beside) =
    let items : List Step = item_steps l (d, row) in
    let one : branch_steps l "RouteBranch" segment below ++ branch_steps l "RouteBranch" segment
    beside ≡ flat_map (item_steps l) (preorder (d + 1) below ++ preorder d beside) =
    rw (in_preorder l (d + 1) below, in_preorder l d beside)
    (sym (flat_map-append (item_steps l) (preorder (d + 1) below) (preorder d beside))) in
    append_assoc items (branch_steps l "RouteBranch" segment below)
    (branch_steps l "RouteBranch" segment beside) ∙ ap (λ (xs : List Step). items ++ xs) one

-- The steps of a physical netlist are of kinds that are counted.

pub begun_on : (xs ys : List Step) → begun_in (xs ++ ys) ≡ begun_in xs + begun_in ys
begun_on [] ys = omega arith
begun_on (begun kind ∷ xs) ys = let later = begun_on xs ys in omega (arith, later)
begun_on (asked kind called fit ∷ xs) ys = begun_on xs ys

pub kinds_on : (xs ys : List Step) → AreOfKinds counted_structs xs → AreOfKinds counted_structs ys
    → AreOfKinds counted_structs (xs ++ ys)
kinds_on [] ys h i = i
kinds_on (x ∷ xs) ys h i = (h.0, kinds_on xs ys h.1 i)

pub kinds_each : {A : Type 0} (f : A → List Step) → ((x : A) → AreOfKinds counted_structs (f x))
    → (xs : List A) → AreOfKinds counted_structs (flat_map f xs)
kinds_each f one [] = tt
kinds_each f one (x ∷ xs) = kinds_on (f x) (flat_map f xs) (one x) (kinds_each f one xs)

pub row_kinds : (l : Lists) (kind : String) (row : List ℕ) (fields : List Field) (ns : List ℕ)
    → has_kind (kinds_of counted_structs) kind ≡ true
    → AreOfKinds counted_structs (ask_row l [] kind row fields ns)
row_kinds l kind row [] ns h = tt
row_kinds l kind row (f ∷ fs) [] h = tt
row_kinds l kind row (f ∷ fs) (n ∷ ns) h = (h, row_kinds l kind row fs ns h)

pub row_begins : (l : Lists) (kind : String) (row : List ℕ) (fields : List Field) (ns : List ℕ)
    → begun_in (ask_row l [] kind row fields ns) ≡ 0
row_begins l kind row [] ns = refl
row_begins l kind row (f ∷ fs) [] = refl
row_begins l kind row (f ∷ fs) (n ∷ ns) = row_begins l kind row fs ns
