-- Names that grow.
use Rattle.std.proofs.Common.{◌≡◌, ℕ, ◌<◌, Bool, true, false, List, [], ◌∷◌, ◌++◌, length, refl, sym, ap, ◌∙◌, subst, Option, Some, None, arith, zero, suc, get_or}
use Rattle.std.specs.Prelude.{slice_get, slice_index_or, option_map, nat_eq, ◌&&◌}
use Rattle.std.specs.List.{AllByRecursion}
use Rattle.std.proofs.lemmas.Bool.Decides.{nat_tests}
use Rattle.std.proofs.lemmas.Option.{slice_get_within, get_or_from_slice_get, slice_get-get_or}
use Rattle.ix_keys.specs.Keys.{key, key_eq}
use Rattle.ix_keys.specs.declared.key.Key.{Key}
use Rattle.ix_strings.specs.Names.{KeepsNumbers}
use Rattle.ix_first.specs.First.{value_at, or_later}
use Rattle.ix_first.specs.declared.by_key.FirstByKey.{FirstByKey}
use Rattle.ix_message.specs.Shape.{Text}
use Rattle.ix_rec.specs.declared.netlist.NetlistRec.{NetlistRec}
use Rattle.ix_rec.specs.declared.netlist.Port.{Port}
use Rattle.ix_rec.specs.declared.netlist.PortKind.{PortKind}
use Rattle.ix_rec.specs.declared.netlist.PortKind.TheVariants.{Bit}
use Rattle.ix_hierarchy.specs.declared.row.Row.{Row}
use Rattle.ix_hierarchy.specs.Hierarchy.{PortBit, written, bit_text}
use Rattle.ix_hierarchy.specs.Lists.{bit_in}
use Rattle.ix_bit_names.specs.Bits.{NamesBit, AreNames, AreNumbers, ArePortsNamed, Grows}

pub name_kept : (old new : List Text) (name : ℕ) → KeepsNumbers old new → name < length old
    → (slice_index_or new name [] ≡ slice_index_or old name []) × (name < length new)
name_kept old new name keeps low =
    let is = slice_get-get_or old name [] low in
    let then_is = keeps name (get_or old name []) is in
    (get_or_from_slice_get new name (get_or old name []) [] then_is, slice_get_within new name (get_or old name []) then_is)

pub written_kept : (old new : List Text) (port : Port) (index : ℕ) → KeepsNumbers old new
    → port.name < length old → written new port index ≡ written old port index
written_kept old new port index keeps low =
    ap (λ (t : Text). bit_text port.kind t index) (name_kept old new port.name keeps low).0

pub ports_kept : (old new : List Text) (design : NetlistRec) → KeepsNumbers old new
    → ArePortsNamed old design → ArePortsNamed new design
ports_kept old new design keeps named k port is = (name_kept old new port.name keeps (named k port is)).1

map_kept : (old new : List Text) (index : ℕ) (text : Text) (o : Option Port) → KeepsNumbers old new
    → ((port : Port) → o ≡ Some port → port.name < length old)
    → option_map (λ port. written old port index) o ≡ Some text
    → option_map (λ port. written new port index) o ≡ Some text
map_kept old new index text None keeps low is = is
map_kept old new index text (Some port) keeps low is =
    ap Some (written_kept old new port index keeps (low port refl)) ∙ is

pub bit_kept : (old new : List Text) (design : NetlistRec) (bit : PortBit) (name : ℕ)
    → KeepsNumbers old new → ArePortsNamed old design → NamesBit old design bit name
    → NamesBit new design bit name
bit_kept old new design bit name keeps named (text, is, is_written) = (
  text,
  keeps name text is,
  map_kept old new bit.index text (slice_get design.port_list bit.port) keeps
      (λ port e. named bit.port port e) is_written,
)

-- a bit whose written name was added
pub bit_added : (old new : List Text) (design : NetlistRec) (port index : ℕ) (its : Port) (id : ℕ)
    (text : Text) → KeepsNumbers old new → ArePortsNamed old design
    → slice_get design.port_list port ≡ Some its → text ≡ written old its index
    → slice_get new id ≡ Some text
    → NamesBit new design (record { port = port; index = index }) id
bit_added old new design port index its id text keeps named its_is text_is id_is = (
  text,
  id_is,
  ap (option_map (λ (p : Port). written new p index)) its_is
      ∙ ap Some (written_kept old new its index keeps (named port its its_is) ∙ sym text_is),
)

-- a port of one bit
pub bit_alone : (names : List Text) (design : NetlistRec) (port index : ℕ) (its : Port)
    → ArePortsNamed names design → slice_get design.port_list port ≡ Some its → its.kind ≡ Bit
    → NamesBit names design (record { port = port; index = index }) its.name
bit_alone names design port index its named its_is single = (
  slice_index_or names its.name [],
  slice_get-get_or names its.name [] (named port its its_is),
  ap (option_map (λ (p : Port). written names p index)) its_is
      ∙ ap (λ (k : PortKind). Some (bit_text k (slice_index_or names its.name []) index)) single,
)

later_is : (o : Option ℕ) (test : Bool) (later name : ℕ) (P : Type 0) → or_later o test later ≡ Some name
    → (o ≡ Some name → P) → (test ≡ true → later ≡ name → P) → P
later_is (Some x) test later name P is old new = old is
later_is None true later name P is old new = new refl (same later name is)
  where
    same : (m n : ℕ) → Some m ≡ Some n → m ≡ n
    same m n e = cc
later_is None false later name P is old new = absurd (no name is)
  where
    no : (n : ℕ) → None ≡ Some n → ⊥
    no n e = cc

same_key : (a b c d : ℕ) → nat_eq a c && (nat_eq b d && nat_eq 0 0) ≡ true → (a ≡ c) × (b ≡ d)
same_key a b c d h = grind (arith, nat_tests)

pub numbers_more : (old new : List Text) (design : NetlistRec) (table after : FirstByKey ℕ)
    (port index name : ℕ) → KeepsNumbers old new → ArePortsNamed old design
    → AreNumbers old design table
    → NamesBit new design (record { port = port; index = index }) name
    → ((q : Key) → value_at after q ≡ or_later (value_at table q) (key_eq (key port index 0) q) name)
    → AreNumbers new design after
numbers_more old new design table after port index name keeps named are here put p i n is =
    later_is (value_at table (key p i 0)) (key_eq (key port index 0) (key p i 0)) name n
    (NamesBit new design (record { port = p; index = i }) n) (sym (put (key p i 0)) ∙ is)
    (λ was. bit_kept old new design (record { port = p; index = i }) n keeps named (are p i n was))
    (λ same now.
    let parts = same_key port index p i same in
    subst (λ (m : ℕ). NamesBit new design (record { port = p; index = i }) m) now
    (subst (λ (x : ℕ). NamesBit new design (record { port = x; index = i }) name) parts.0
    (subst (λ (y : ℕ). NamesBit new design (record { port = port; index = y }) name) parts.1 here)))

-- what holds of each item of a list and of one more
pub each_more : {X : Type 0} (P : ℕ → X → Type 0) (xs : List X) (x : X)
    → ((k : ℕ) (y : X) → slice_get xs k ≡ Some y → P k y) → P (length xs) x
    → (k : ℕ) (y : X) → slice_get (xs ++ x ∷ []) k ≡ Some y → P k y
each_more P [] x each here zero y is = subst (P 0) (same x y is) here
  where
    same : {X : Type 0} (x y : X) → Some x ≡ Some y → x ≡ y
    same x y e = cc
each_more P [] x each here (suc k) y is = absurd (no y is)
  where
    no : {X : Type 0} (y : X) → None ≡ Some y → ⊥
    no y e = cc
each_more P (z ∷ xs) x each here zero y is = each 0 y is
each_more P (z ∷ xs) x each here (suc k) y is =
    each_more (λ n. P (suc n)) xs x (λ m w e. each (suc m) w e) here k y is

pub names_more : (old new : List Text) (design : NetlistRec) (rows : List Row) (written after : List ℕ)
    (place : ℕ) (row : Row) (name : ℕ) → KeepsNumbers old new → ArePortsNamed old design
    → length written ≡ place → slice_get rows place ≡ Some row
    → NamesBit new design (bit_in row) name → after ≡ written ++ name ∷ []
    → AreNames old design rows written → AreNames new design rows after
names_more old new design rows written after place row name keeps named many row_is here pushed are k r n is_r is_n =
    each_more (λ m y. (s : Row) → slice_get rows m ≡ Some s → NamesBit new design (bit_in s) y) written name
    (λ m y e s is_s. bit_kept old new design (bit_in s) y keeps named (are m s y is_s e))
    (λ s is_s. subst (λ (x : Row). NamesBit new design (bit_in x) name)
    (same row s (sym row_is ∙ ap (slice_get rows) (sym many) ∙ is_s)) here)
    k n (subst (λ (xs : List ℕ). slice_get xs k ≡ Some n) pushed is_n) r is_r
  where
    same : (x y : Row) → Some x ≡ Some y → x ≡ y
    same x y e = cc

pub grows_on : (first old new : List Text) (left_first left_old left_new : ℕ)
    → Grows first old left_first left_old → Grows old new left_old left_new
    → Grows first new left_first left_new
grows_on first old new left_first left_old left_new a b = record {
  keeps = λ id text is. b.keeps id text (a.keeps id text is);
  counted = omega (arith, a.counted, b.counted);
}

pub all_at : {X : Type 0} (P : X → Type 0) (xs : List X) (k : ℕ) (x : X) → AllByRecursion P xs
    → slice_get xs k ≡ Some x → P x
all_at P [] k x all is = absurd (no x is)
  where
    no : {X : Type 0} (x : X) → None ≡ Some x → ⊥
    no x e = cc
all_at P (y ∷ xs) zero x all is = subst P (same y x is) all.0
  where
    same : {X : Type 0} (y x : X) → Some y ≡ Some x → y ≡ x
    same y x e = cc
all_at P (y ∷ xs) (suc k) x all is = all_at P xs k x all.1 is
