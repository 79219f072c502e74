-- What repeats among entries say of a cell.
use Rattle.std.proofs.Common.{◌≡◌, ℕ, ◌-◌, ◌<◌, ◌≤◌, Bool, true, false, List, [], ◌∷◌, refl, sym, ap, ◌∙◌, subst, Some, arith, inl, inr}
use Rattle.std.specs.Prelude.{◌⊎◌, ◌&&◌, nat_eq, slice_get}
use Rattle.std.proofs.lemmas.Bool.{cases_lt}
use Rattle.std.proofs.lemmas.Bool.Decides.{nat_tests}
use Rattle.ix_message.specs.Shape.{Text}
use Rattle.ix_rec.specs.declared.netlist.Cell.{Cell}
use Rattle.ix_rec.specs.declared.netlist.NetlistRec.{NetlistRec}
use Rattle.ix_rec.specs.declared.netlist.Net.{Net}
use Rattle.ix_rec.specs.declared.netlist.PortInstance.{PortInstance}
use Rattle.ix_rec.specs.declared.netlist.PortOwner.{PortOwner}
use Rattle.ix_rec.specs.declared.netlist.PortOwner.TheVariants.{ExtPort, Inst}
use Rattle.ix_hierarchy.specs.declared.row.Row.{Row}
use Rattle.ix_hierarchy.specs.Hierarchy.{PortBit, written_bit}
use Rattle.ix_hierarchy.specs.Nets.{is_of, same_bit, bit_of, index_of}
use Rattle.ix_hierarchy.specs.Broken.{IsMet, IsWrittenTwice, IsInstanceOf, same_owner}
use Rattle.ix_hierarchy.specs.Lists.{IsOuterRow, bit_in}
use Rattle.ix_hierarchy.specs.Walk.{IsLess}
use Rattle.ix_twice.specs.declared.entries.Entry.{Entry}
use Rattle.ix_twice.specs.Repeats.{is_same_bit}
use Rattle.ix_twice.specs.Entries.{entry_key, is_same_name}
use Rattle.ix_twice.proofs.Meaning.{InRange, NamedAt, bit_from, bit_parts, is_outer_row, named_outer, net_order, outer_owners, outer_row, previous_same, same_from_parts, same_parts}

-- order of entries
pub record After (a b : Entry) : Type 0 where
  pub instance : a.instance ≤ b.instance
  pub name : a.instance ≡ b.instance → a.name ≤ b.name
  pub net : a.instance ≡ b.instance → a.name ≡ b.name → a.net ≤ b.net

pub after : (a b : Entry) → IsLess (entry_key a) (entry_key b) → After a b
after a b less = elim less [
  | inl x ↦ record { instance = omega arith; name = λ e. omega arith; net = λ e f. omega arith }
  | inr x ↦ elim x.1 [
    | inl y ↦ record { instance = omega arith; name = λ e. omega arith; net = λ e f. omega arith }
    | inr y ↦ elim y.1 [
      | inl z ↦ record { instance = omega arith; name = λ e. omega arith; net = λ e f. omega arith }
      | inr z ↦ record { instance = omega arith; name = λ e. omega arith; net = λ e f. omega arith }
    ]
  ]
]

pub none_less_itself : (xs : List ℕ) → IsLess xs xs → ⊥
none_less_itself [] h = h
none_less_itself (x ∷ xs) h = elim h [
  | inl a ↦ omega arith
  | inr b ↦ none_less_itself xs b.1
]

pub name_parts : (a b : Entry) → is_same_name a b ≡ true → (a.instance ≡ b.instance) × (a.name ≡ b.name)
name_parts a b h = parts a.instance a.name b.instance b.name h
  where
    parts : (i n j m : ℕ) → nat_eq i j && nat_eq n m ≡ true → (i ≡ j) × (n ≡ m)
    parts i n j m h = grind (arith, nat_tests)

pub name_from : (a b : Entry) → a.instance ≡ b.instance → a.name ≡ b.name → is_same_name a b ≡ true
name_from a b e f = parts a.instance a.name b.instance b.name e f
  where
    parts : (i n j m : ℕ) → i ≡ j → n ≡ m → nat_eq i j && nat_eq n m ≡ true
    parts i n j m e f = grind (arith, nat_tests)

pub true_false : (b : Bool) → b ≡ true → b ≡ false → ⊥
true_false b e f = cc

pub same_row : (x y : Row) → Some x ≡ Some y → x ≡ y
same_row x y e = cc

same_named : (x y : PortInstance) → Some x ≡ Some y → x ≡ y
same_named x y e = cc

same_net : (x y : Net) → Some x ≡ Some y → x ≡ y
same_net x y e = cc

and_of : (a b : Bool) → a ≡ true → b ≡ true → a && b ≡ true
and_of a b e f = subst (λ (x : Bool). x && b ≡ true) (sym e) f

is_instance : (i : ℕ) (o : PortOwner) → is_of i o ≡ true → IsInstanceOf o
is_instance i (Inst a) h = tt
is_instance i ExtPort h = absurd (no h)
  where
    no : false ≡ true → ⊥
    no e = cc

eq_of : (m n : ℕ) → nat_eq m n ≡ true → m ≡ n
eq_of m n h = grind (arith, nat_tests)

pub of_eq : (m n : ℕ) → m ≡ n → nat_eq m n ≡ true
of_eq m n h = grind (arith, nat_tests)

pub owner_of : (i : ℕ) (a b : PortOwner) → same_owner a b → is_of i b ≡ true → is_of i a ≡ true
owner_of i (Inst a) (Inst b) same h = of_eq a i (same ∙ eq_of b i h)
owner_of i ExtPort (Inst b) same h = absurd same
owner_of i (Inst a) ExtPort same h = absurd same
owner_of i ExtPort ExtPort same h = h

-- Two rows of one instance whose bits have one written name. The first net of the one is no earlier.
abbrev pub IsFirst : List Row → (s k : ℕ) → Row → Type 0
IsFirst rows s k row = (other : Row) → s < k → slice_get rows (k - 1) ≡ Some other → is_same_bit other row ≡ false

-- a bit whose row is first is met first where its net names it
pub met_first : (its : Cell) (rows : List Row) (s e k : ℕ) (row : Row) → InRange (IsOuterRow its) rows s e
    → s ≤ k → k < e → slice_get rows k ≡ Some row → IsFirst rows s k row
    → (n : NamedAt its (is_of row.instance) row) → IsMet its row.net n.place n.named
met_first its rows s e k row range from to is first n m i other before there owner same =
    let by : is_of row.instance other.owner ≡ true = owner_of row.instance other.owner n.named.owner owner n.by in
    let a = bit_parts (bit_of other) (bit_of n.named) same in
    let b = bit_parts (bit_of n.named) (bit_in row) n.same in
    elim before [
      | inl less ↦
          let x = outer_row row.instance other m in
          let at = range.all x (is_outer_row its row.instance m i other there by) in
          let one : is_same_bit x row ≡ true = same_from_parts x row refl (a.0 ∙ b.0) (a.1 ∙ b.1) in
          let lt = net_order rows s e at.0 k x row range.rise at.1 at.2 from to at.3 is one less in
          let mid = previous_same rows s e at.0 k x row range.rise at.1 lt to range.high at.3 is one in
          true_false (is_same_bit mid.0 row) mid.2 (first mid.0 (omega (arith, at.1)) mid.1)
      | inr here ↦
          let net_same : there.of_net ≡ n.net = same_net there.of_net n.net (sym there.net_is ∙ ap (slice_get its.nets) here.0 ∙ n.net_is) in
          let in_net : slice_get n.net.port_insts i ≡ Some other = ap (λ (x : Net). slice_get x.port_insts i) (sym net_same) ∙ there.named_is in
          true_false (is_of row.instance other.owner && same_bit (bit_of other) (bit_in row))
          (and_of (is_of row.instance other.owner) (same_bit (bit_of other) (bit_in row)) by (bit_from (bit_of other) (bit_in row) (a.0 ∙ b.0) (a.1 ∙ b.1)))
          (n.first i other here.1 in_net)
    ]

written_at : (names : List Text) (design : NetlistRec) (a b : PortBit) (text : Text) → a.port ≡ b.port
    → a.index ≡ b.index → written_bit names design b ≡ Some text → written_bit names design a ≡ Some text
written_at names design a b text e f is =
    let same : a ≡ b = λ i. record { port = e i; index = f i } in
    ap (written_bit names design) same ∙ is

-- a net that is the second of a written name
pub twin : (names : List Text) (design : NetlistRec) (its : Cell) (instance : ℕ) (row other : Row)
    (n : NamedAt its (is_of instance) row) (o : NamedAt its (is_of instance) other)
    → IsMet its row.net n.place n.named
    → (other.net < row.net) ⊎ ((other.net ≡ row.net) × (o.place < n.place))
    → (is_same_bit other row ≡ true → ⊥) → other.instance ≡ row.instance → (text : Text)
    → written_bit names design (bit_in row) ≡ Some text → written_bit names design (bit_in other) ≡ Some text
    → IsWrittenTwice names design its row.net
twin names design its instance row other n o met before apart inst text is other_is =
    let a = bit_parts (bit_of n.named) (bit_in row) n.same in
    let b = bit_parts (bit_of o.named) (bit_in other) o.same in
    record {
      place = n.place;
      named = n.named;
      here = record { of_net = n.net; net_is = n.net_is; named_is = n.named_is };
      of_instance = is_instance instance n.named.owner n.by;
      met = met;
      earlier = other.net;
      other_place = o.place;
      other = o.named;
      there = record { of_net = o.net; net_is = o.net_is; named_is = o.named_is };
      before = before;
      owner = outer_owners instance o.named.owner n.named.owner o.by n.by;
      apart = λ h. let c = bit_parts (bit_of o.named) (bit_of n.named) h in
          apart (same_from_parts other row inst (sym b.0 ∙ c.0 ∙ a.0) (sym b.1 ∙ c.1 ∙ a.1));
      text = text;
      text_is = written_at names design (bit_of n.named) (bit_in row) text a.0 a.1 is;
      other_text_is = written_at names design (bit_of o.named) (bit_in other) text b.0 b.1 other_is;
    }

-- two bits of one instance with one written name, met first here and there
pub twins : (names : List Text) (design : NetlistRec) (its : Cell) (rows : List Row) (s e j k : ℕ) (a b : Row)
    → InRange (IsOuterRow its) rows s e → s ≤ j → j < e → s ≤ k → k < e
    → slice_get rows j ≡ Some a → slice_get rows k ≡ Some b → IsFirst rows s j a → IsFirst rows s k b
    → a.instance ≡ b.instance → (is_same_bit a b ≡ true → ⊥) → a.net ≤ b.net → (text : Text)
    → written_bit names design (bit_in a) ≡ Some text → written_bit names design (bit_in b) ≡ Some text
    → IsWrittenTwice names design its b.net
twins names design its rows s e j k a b range from_j to_j from_k to_k is_a is_b first_a first_b inst apart le text is_text is_other =
    let na : NamedAt its (is_of a.instance) a = named_outer its a (range.each j a from_j to_j is_a) in
    let nb : NamedAt its (is_of b.instance) b = named_outer its b (range.each k b from_k to_k is_b) in
    let met_a = met_first its rows s e j a range from_j to_j is_a first_a na in
    let met_b = met_first its rows s e k b range from_k to_k is_b first_b nb in
    let back : is_same_bit b a ≡ true → ⊥ =
    λ h. let p = same_parts b a h in apart (same_from_parts a b (sym p.0) (sym p.1) (sym p.2)) in
    elim (cases_lt a.net b.net) [
      | inl less ↦ twin names design its b.instance b a nb (move a.instance b.instance inst a na) met_b (inl less) apart inst text is_other is_text
      | inr ge ↦
          let nets : a.net ≡ b.net = omega arith in
          by_places nets na nb met_a met_b back
    ]
  where
    move : (i j : ℕ) → i ≡ j → (x : Row) → NamedAt its (is_of i) x → NamedAt its (is_of j) x
    move i j same x n = record {
      place = n.place;
      named = n.named;
      net = n.net;
      net_is = n.net_is;
      named_is = n.named_is;
      by = subst (λ (m : ℕ). is_of m n.named.owner ≡ true) same n.by;
      same = n.same;
      first = λ q y lt is. subst (λ (m : ℕ). is_of m y.owner && same_bit (bit_of y) (bit_in x) ≡ false) same (n.first q y lt is);
    }

    by_places : a.net ≡ b.net → (na : NamedAt its (is_of a.instance) a) (nb : NamedAt its (is_of b.instance) b)
        → IsMet its a.net na.place na.named → IsMet its b.net nb.place nb.named
        → (is_same_bit b a ≡ true → ⊥) → IsWrittenTwice names design its b.net
    by_places nets na nb met_a met_b back = elim (cases_lt na.place nb.place) [
      | inl less ↦ twin names design its b.instance b a nb (move a.instance b.instance inst a na) met_b (inr (nets, less)) apart inst text is_other is_text
      | inr ge ↦ elim (cases_lt nb.place na.place) [
        | inl more ↦ subst (λ (m : ℕ). IsWrittenTwice names design its m) nets
            (twin names design its a.instance a b na (move b.instance a.instance (sym inst) b nb) met_a (inr (sym nets, more)) back (sym inst) text is_text is_other)
        | inr le ↦
            let at : na.place ≡ nb.place = omega arith in
            let net_same : na.net ≡ nb.net = same_net na.net nb.net (sym na.net_is ∙ ap (slice_get its.nets) nets ∙ nb.net_is) in
            let one : na.named ≡ nb.named = same_named na.named nb.named
            (sym na.named_is ∙ ap (λ (x : Net). slice_get x.port_insts na.place) net_same ∙ ap (slice_get nb.net.port_insts) at ∙ nb.named_is) in
            let p = bit_parts (bit_of na.named) (bit_in a) na.same in
            let q = bit_parts (bit_of nb.named) (bit_in b) nb.same in
            absurd (apart (same_from_parts a b inst
            (sym p.0 ∙ ap (λ (x : PortInstance). x.port) one ∙ q.0)
            (sym p.1 ∙ ap (λ (x : PortInstance). index_of x.bus x.idx) one ∙ q.1)))
      ]
    ]
