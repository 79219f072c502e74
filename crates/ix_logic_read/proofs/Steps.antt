-- The steps of a logical netlist, struct by struct.
use Prim.Native.String.{String}
use Rattle.std.proofs.Common.{◌≡◌, ℕ, List, [], ◌∷◌, length, Bool, true, false, Option, Some, None}
use Rattle.std.proofs.Common.{refl}
use Rattle.std.specs.Prelude.{slice_index, slice_index_or, ◌&&◌}
use Rattle.std.specs.List.{flat_map, list_all}
use Rattle.std.proofs.lemmas.Bool.{and_parts}
use Rattle.ix_message.specs.Indexes.{Step, Entry, Lists, ask_row, ask_all, fits, has_number, steps}
use Rattle.ix_message.specs.Indexes.{part_steps, option_steps, lists_of, lengths_of, within}
use Rattle.ix_message.specs.Names.{Datum, the_number, the_text}
use Rattle.ix_message.specs.Netlist.{port_instance, net, cell}
use Rattle.ix_message.specs.Shape.{Field, Kind, Struct, Pointers, Value, Parts, number, flag}
use Rattle.ix_message.specs.Shape.{nothing, choice, name, index, port_of_owner, bus_tag, bus_bit}
use Rattle.ix_message.specs.Shape.{instance_of_cell, by_tag, site_of_tile, struct_of, no_more, text}
use Rattle.ix_message.specs.Shape.{texts, numbers, struct, struct_or_none, boxed, structs, branches}
use Rattle.ix_message.specs.Shape.{string_table, unread}

pub flat_same : {A B : Type 0} (f g : A → List B) → ((x : A) → f x ≡ g x) → (xs : List A)
    → flat_map f xs ≡ flat_map g xs
flat_same f g same [] = refl
flat_same f g same (x ∷ xs) = rw (same x, flat_same f g same xs) refl

-- Fields that ask nothing of the structs around.

abbrev pub is_plain : Kind → Bool
is_plain number = true
is_plain flag = true
is_plain nothing = true
is_plain (choice most) = true
is_plain name = true
is_plain (index target) = true
is_plain (by_tag slot value here there) = is_plain here && is_plain there
is_plain _ = false

abbrev pub has_plain_kind : Field → Bool
has_plain_kind f = is_plain f.kind

fits_anywhere : (l : Lists) (a b : List Entry) (row : List ℕ) (k : Kind) (n : ℕ) → is_plain k ≡ true
    → fits l a row k n ≡ fits l b row k n
fits_anywhere l a b row number n h = refl
fits_anywhere l a b row flag n h = refl
fits_anywhere l a b row nothing n h = refl
fits_anywhere l a b row (choice most) n h = refl
fits_anywhere l a b row name n h = refl
fits_anywhere l a b row (index target) n h = refl
fits_anywhere l a b row (by_tag slot value here there) n h =
    let two = and_parts (is_plain here) (is_plain there) h in
    rw (fits_anywhere l a b row here n two.0, fits_anywhere l a b row there n two.1) refl
fits_anywhere l a b row _ n h = absurd cc

asked_anywhere : (l : Lists) (a b : List Entry) (kind : String) (row : List ℕ) (fields : List Field)
    (ns : List ℕ) → list_all has_plain_kind fields ≡ true
    → ask_row l a kind row fields ns ≡ ask_row l b kind row fields ns
asked_anywhere l a b kind row [] ns h = refl
asked_anywhere l a b kind row (f ∷ fs) [] h = refl
asked_anywhere l a b kind row (f ∷ fs) (n ∷ ns) h =
    let two = and_parts (is_plain f.kind) (list_all has_plain_kind fs) h in
    rw (fits_anywhere l a b row f.kind n two.0, asked_anywhere l a b kind row fs ns two.1) refl

all_anywhere : (l : Lists) (a b : List Entry) (kind called : String) (k : Kind) (ns : List ℕ)
    → is_plain k ≡ true → ask_all l a kind called k ns ≡ ask_all l b kind called k ns
all_anywhere l a b kind called k [] h = refl
all_anywhere l a b kind called k (n ∷ ns) h =
    rw (fits_anywhere l a b [] k n h, all_anywhere l a b kind called k ns h) refl

abbrev mutual
  pub plain_struct : Struct → Bool
  plain_struct (struct_of kind fields ps) = list_all has_plain_kind fields && plain_parts ps

  pub plain_parts : Pointers → Bool
  plain_parts no_more = true
  plain_parts (text c ps) = plain_parts ps
  plain_parts (texts c ps) = plain_parts ps
  plain_parts (numbers c target k ps) = is_plain k && plain_parts ps
  plain_parts (struct c s ps) = plain_struct s && plain_parts ps
  plain_parts (struct_or_none c s ps) = plain_struct s && plain_parts ps
  plain_parts (boxed c box inner s ps) = plain_struct s && plain_parts ps
  plain_parts (structs c target s ps) = plain_struct s && plain_parts ps
  plain_parts (branches c kind fields ps) = plain_parts ps
  plain_parts (string_table c ps) = plain_parts ps
  plain_parts (unread c ps) = plain_parts ps

option_same : {A : Type 0} (f g : A → List Step) → ((x : A) → f x ≡ g x) → (x : Option A)
    → option_steps f x ≡ option_steps g x
option_same f g same None = refl
option_same f g same (Some x) = same x

mutual
  unfolding steps part_steps

  pub steps_anywhere : (s : Struct) (l : Lists) (a b : List Entry) (v : Value ℕ s)
      → plain_struct s ≡ true → steps s l a v ≡ steps s l b v
  steps_anywhere (struct_of kind fields ps) l a b v h =
      let two = and_parts (list_all has_plain_kind fields) (plain_parts ps) h in
      let here : Entry = record {
        row = v.0;
        lists = lists_of ps v.1;
        lengths =
            lengths_of ps v.1;
      } in
      rw (
        asked_anywhere l (here ∷ a) (here ∷ b) kind v.0 fields v.0 two.0,
        parts_anywhere ps kind (within ps v.1 l) (here ∷ a) (here ∷ b) v.1 two.1,
      ) refl

  parts_anywhere : (ps : Pointers) (kind : String) (l : Lists) (a b : List Entry) (v : Parts ℕ ps)
      → plain_parts ps ≡ true → part_steps ps kind l a v ≡ part_steps ps kind l b v
  parts_anywhere no_more kind l a b v h = refl
  parts_anywhere (text c ps) kind l a b v h = parts_anywhere ps kind l a b v.1 h
  parts_anywhere (texts c ps) kind l a b v h = parts_anywhere ps kind l a b v.1 h
  parts_anywhere (numbers c target k ps) kind l a b v h =
      let two = and_parts (is_plain k) (plain_parts ps) h in
      rw (all_anywhere l a b kind c k v.0 two.0, parts_anywhere ps kind l a b v.1 two.1) refl
  parts_anywhere (struct c s ps) kind l a b v h =
      let two = and_parts (plain_struct s) (plain_parts ps) h in
      rw (steps_anywhere s l a b v.0 two.0, parts_anywhere ps kind l a b v.1 two.1) refl
  parts_anywhere (struct_or_none c s ps) kind l a b v h =
      let two = and_parts (plain_struct s) (plain_parts ps) h in
      rw (
        option_same (steps s l a) (steps s l b) (λ x. steps_anywhere s l a b x two.0) v.0,
        parts_anywhere ps kind l a b v.1 two.1,
      ) refl
  parts_anywhere (boxed c box inner s ps) kind l a b v h =
      let two = and_parts (plain_struct s) (plain_parts ps) h in
      rw (
        flat_same (steps s l a) (steps s l b) (λ x. steps_anywhere s l a b x two.0) v.0,
        parts_anywhere ps kind l a b v.1 two.1,
      ) refl
  parts_anywhere (structs c target s ps) kind l a b v h =
      let two = and_parts (plain_struct s) (plain_parts ps) h in
      rw (
        flat_same (steps s l a) (steps s l b) (λ x. steps_anywhere s l a b x two.0) v.0,
        parts_anywhere ps kind l a b v.1 two.1,
      ) refl
  parts_anywhere (branches c k fields ps) kind l a b v h =
      rw (parts_anywhere ps kind l a b v.1 h) refl
  parts_anywhere (string_table c ps) kind l a b v h = parts_anywhere ps kind l a b v h
  parts_anywhere (unread c ps) kind l a b v h = parts_anywhere ps kind l a b v h

-- Port instances ask the cell around for its declaration and its instances.

abbrev pub SameCell : Entry → Entry → Type 0
SameCell c d = (slice_index c.row 0 ≡ slice_index d.row 0)
    × ((n : ℕ) → has_number (slice_index_or c.lists 0 []) n ≡ has_number
    (slice_index_or d.lists 0 []) n)

abbrev no_site : Kind → Bool
no_site site_of_tile = false
no_site (by_tag slot value here there) = no_site here && no_site there
no_site _ = true

abbrev has_no_site : Field → Bool
has_no_site f = no_site f.kind

fits_in_cell : (l : Lists) (x y n m c d : Entry) (r q : List Entry) (row : List ℕ) (k : Kind)
    (i : ℕ) → SameCell c d → no_site k ≡ true
    → fits l (x ∷ n ∷ c ∷ r) row k i ≡ fits l (y ∷ m ∷ d ∷ q) row k i
fits_in_cell l x y n m c d r q row number i h ok = refl
fits_in_cell l x y n m c d r q row flag i h ok = refl
fits_in_cell l x y n m c d r q row nothing i h ok = refl
fits_in_cell l x y n m c d r q row (choice most) i h ok = refl
fits_in_cell l x y n m c d r q row name i h ok = refl
fits_in_cell l x y n m c d r q row (index target) i h ok = refl
fits_in_cell l x y n m c d r q row site_of_tile i h ok = absurd cc
fits_in_cell l x y n m c d r q row port_of_owner i h ok = rw h.0 refl
fits_in_cell l x y n m c d r q row bus_tag i h ok = refl
fits_in_cell l x y n m c d r q row bus_bit i h ok = refl
fits_in_cell l x y n m c d r q row instance_of_cell i h ok = rw (h.1 i) refl
fits_in_cell l x y n m c d r q row (by_tag slot value here there) i h ok =
    let two = and_parts (no_site here) (no_site there) ok in
    rw (
      fits_in_cell l x y n m c d r q row here i h two.0,
      fits_in_cell l x y n m c d r q row there i h two.1,
    ) refl

asked_in_cell : (l : Lists) (x y n m c d : Entry) (r q : List Entry) (kind : String) (row : List ℕ)
    (fields : List Field) (ns : List ℕ) → SameCell c d → list_all has_no_site fields ≡ true
    → ask_row l (x ∷ n ∷ c ∷ r) kind row fields ns ≡ ask_row l (y ∷ m ∷ d ∷ q) kind row fields ns
asked_in_cell l x y n m c d r q kind row [] ns h ok = refl
asked_in_cell l x y n m c d r q kind row (f ∷ fs) [] h ok = refl
asked_in_cell l x y n m c d r q kind row (f ∷ fs) (i ∷ is) h ok =
    let two = and_parts (no_site f.kind) (list_all has_no_site fs) ok in
    rw (
      fits_in_cell l x y n m c d r q row f.kind i h two.0,
      asked_in_cell l x y n m c d r q kind row fs is h two.1,
    ) refl

abbrev pub fields_of : Struct → List Field
fields_of (struct_of kind fields ps) = fields

pub pin_in_cell : (l : Lists) (n m c d : Entry) (r q : List Entry) (v : Value ℕ port_instance)
    → SameCell c d → steps port_instance l (n ∷ c ∷ r) v ≡ steps port_instance l (m ∷ d ∷ q) v
unfolding steps part_steps
pin_in_cell l n m c d r q v h =
    let here : Entry = record { row = v.0; lists = []; lengths = [] } in
    rw (asked_in_cell l here here n m c d r q "PortInstance" v.0
    (fields_of port_instance) v.0 h refl) refl

pub net_in_cell : (l : Lists) (c d : Entry) (r q : List Entry) (v : Value ℕ net) → SameCell c d
    → steps net l (c ∷ r) v ≡ steps net l (d ∷ q) v
unfolding steps part_steps
net_in_cell l c d r q v h =
    let here : Entry = record { row = v.0; lists = [] ∷ []; lengths = length v.1.0 ∷ [] } in
    rw (
      asked_anywhere l (here ∷ c ∷ r) (here ∷ d ∷ q) "Net" v.0 (fields_of net) v.0 refl,
      flat_same (steps port_instance l (here ∷ c ∷ r)) (steps port_instance l (here ∷ d ∷ q))
          (λ p. pin_in_cell l here here c d r q p h) v.1.0,
    ) refl

pub cell_anywhere : (l : Lists) (a b : List Entry) (v : Value ℕ cell)
    → steps cell l a v ≡ steps cell l b v
unfolding steps part_steps
cell_anywhere l a b v =
    let here : Entry = record {
      row = v.0;
      lists = v.1.0 ∷ [] ∷ [];
      lengths =
          length v.1.0 ∷ length v.1.1.0 ∷ [];
    } in
    rw (
      asked_anywhere l (here ∷ a) (here ∷ b) "Cell" v.0 (fields_of cell) v.0 refl,
      flat_same (steps net l (here ∷ a)) (steps net l (here ∷ b))
          (λ n. net_in_cell l here here a b n (refl, λ i. refl)) v.1.1.0,
    ) refl

-- the number that a slot holds
abbrev pub number_in : Datum → ℕ
number_in (the_number n) = n
number_in (the_text t) = 0
