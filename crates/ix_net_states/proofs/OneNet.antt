-- Each pin is on one net, by the number of its first occurrence.
use Rattle.std.proofs.Common.{◌≡◌, ◌<◌, ap, refl, sym, subst, ◌∙◌, ℕ, List, [], ◌∷◌, ◌++◌}
use Rattle.std.proofs.Common.{slice_get, Some, arith, true, Bool, ◌&&◌, inl, inr}
use Rattle.std.specs.List.{list_any}
use Rattle.std.proofs.lemmas.Bool.{cases_lt, eqb-true, eq-eqb, false≢true}
use Rattle.std.proofs.Common.{nat_eq}
use Rattle.std.proofs.lemmas.Option.{same_Some}
use Rattle.ix_rec.specs.declared.netlist.Cell.{Cell}
use Rattle.ix_rec.specs.declared.netlist.Net.{Net}
use Rattle.ix_rec.specs.declared.netlist.NetlistRec.{NetlistRec}
use Rattle.ix_rec.specs.declared.netlist.PortInstance.{PortInstance}
use Rattle.ix_rec.specs.declared.netlist.PortOwner.{PortOwner}
use Rattle.ix_rec.specs.declared.netlist.PortOwner.TheVariants.{ExtPort, Inst}
use Rattle.ix_hierarchy.specs.Hierarchy.{Path, PortBit, inside_at}
use Rattle.ix_hierarchy.specs.Walk.{NetAt}
use Rattle.ix_hierarchy.specs.Nets.{Occurrence, Occurs, AreOneNet, Cross, IsChain, IsFirstOf, bit_of}
use Rattle.ix_hierarchy.specs.Nets.{is_of, is_own, same_bit, names_of, names_own}
use Rattle.ix_hierarchy.specs.Pins.{Pin, LeafPin, TopPin, IsLeafPinOn, IsTopPinOn, IsOn, IsOnNet}
use Rattle.ix_hierarchy.specs.Broken.{IsOnTwo, same_owner}
use Rattle.ix_hierarchy.specs.Lists.{IsNumber}
use Rattle.ix_joined.specs.declared.joined.Joined.{Joined}
use Rattle.ix_joined.specs.Joining.{Known, IsJoined, IsPinOf}
use Rattle.ix_net_states.proofs.Basics.{any_there, both_true, same_last}

bits_same : (a b : PortBit) → same_bit a b ≡ true → (a.port ≡ b.port) × (a.index ≡ b.index)
bits_same a b h =
    let both = both_true (nat_eq a.port b.port) (nat_eq a.index b.index) h in
    (eqb-true a.port b.port both.0, eqb-true a.index b.index both.1)

same_bits : (a b c : PortBit) → same_bit a c ≡ true → same_bit b c ≡ true → same_bit a b ≡ true
same_bits a b c x y =
    let p = bits_same a c x in
    let q = bits_same b c y in
    let port : a.port ≡ b.port = p.0 ∙ sym q.0 in
    let index : a.index ≡ b.index = p.1 ∙ sym q.1 in
    ap (λ t. t && nat_eq a.index b.index) (eq-eqb a.port b.port port)
    ∙ eq-eqb a.index b.index index

owned : (a b : PortOwner) → is_own a ≡ true → is_own b ≡ true → same_owner a b
owned ExtPort ExtPort x y = tt
owned ExtPort (Inst b) x y = absurd (false≢true y)
owned (Inst a) b x y = absurd (false≢true x)

owners : (number : ℕ) (a b : PortOwner) → is_of number a ≡ true → is_of number b ≡ true
    → same_owner a b
owners number ExtPort b x y = absurd (false≢true x)
owners number (Inst a) ExtPort x y = absurd (false≢true y)
owners number (Inst a) (Inst b) x y = eqb-true a number x ∙ sym (eqb-true b number y)

-- two nets that name one bit
on_two : (t : PortOwner → Bool) → ((a b : PortOwner) → t a ≡ true → t b ≡ true → same_owner a b)
    → (cell : Cell) (a b : ℕ) (net other : Net) (bit : PortBit) → slice_get cell.nets a ≡ Some net
    → slice_get cell.nets b ≡ Some other
    → list_any (λ (n : PortInstance). t n.owner && same_bit (bit_of n) bit) net.port_insts ≡ true
    → list_any (λ (n : PortInstance). t n.owner && same_bit (bit_of n) bit) other.port_insts ≡ true
    → a < b → IsOnTwo cell b
on_two t alike cell a b net other bit x y p q less =
    let one = any_there (λ (n : PortInstance). t n.owner && same_bit (bit_of n) bit) net.port_insts p
    in
    let two = any_there (λ (n : PortInstance). t n.owner && same_bit (bit_of n) bit)
    other.port_insts q in
    let one_is = both_true (t one.1.owner) (same_bit (bit_of one.1) bit) one.3 in
    let two_is = both_true (t two.1.owner) (same_bit (bit_of two.1) bit) two.3 in
    record {
      place = two.0;
      named = two.1;
      here = record { of_net = other; net_is = y; named_is = two.2 };
      earlier = a;
      before = less;
      other_place = one.0;
      other = one.1;
      there = record { of_net = net; net_is = x; named_is = one.2 };
      owner = alike one.1.owner two.1.owner one_is.0 two_is.0;
      same = same_bits (bit_of one.1) (bit_of two.1) bit one_is.1 two_is.1;
    }

same_places : (a b : Occurrence) → a.path ≡ b.path → a.net ≡ b.net → a ≡ b
same_places a b p n = ap (λ q. record { path = q; net = a.net }) p
    ∙ ap (λ m. record { path = b.path; net = m }) n

-- neither is before the other
not_apart : (a b : ℕ) → (a < b → ⊥) → (b < a → ⊥) → a ≡ b
not_apart a b x y = elim (cases_lt a b) [
  | inl less ↦ absurd (x less)
  | inr more ↦ elim (cases_lt b a) [
    | inl less ↦ absurd (y less)
    | inr less ↦ omega arith
  ]
]

one_leaf : (known : Known) (design : NetlistRec) (joined : Joined) (path : Path) (bit : PortBit)
    (a b : Occurrence) → IsJoined known design joined → IsLeafPinOn design path bit a
    → IsLeafPinOn design path bit b → a ≡ b
one_leaf known design joined path bit a b are x y =
    let last = same_last a.path b.path x.place y.place (sym x.below ∙ y.below) in
    let cells : x.cell ≡ y.cell = same_Some x.cell y.cell (sym x.occurs.inside
    ∙ ap (inside_at design) last.0 ∙ y.occurs.inside) in
    let instances : x.instance ≡ y.instance = same_Some x.instance y.instance (sym x.which
    ∙ ap (λ (c : Cell). slice_get c.insts x.place) cells
    ∙ ap (slice_get y.cell.insts) last.1 ∙ y.which) in
    let net_x : slice_get y.cell.nets a.net ≡ Some x.net =
    ap (λ (c : Cell). slice_get c.nets a.net) (sym cells) ∙ x.occurs.net_is in
    let named_x : names_of y.instance x.net bit ≡ true =
    ap (λ n. names_of n x.net bit) (sym instances) ∙ x.named in
    same_places a b last.0 (not_apart a.net b.net
    (λ less. are.keeps.0.0.1 (NetAt b.path b.net) (
      y.cell,
      y.occurs.inside,
      inl (on_two
          (is_of y.instance) (owners y.instance) y.cell a.net b.net x.net y.net bit net_x y.occurs.net_is
          named_x y.named less),
    ))
    (λ less. are.keeps.0.0.1 (NetAt b.path a.net) (
      y.cell,
      y.occurs.inside,
      inl (on_two
          (is_of y.instance) (owners y.instance) y.cell b.net a.net y.net x.net bit y.occurs.net_is net_x
          y.named named_x less),
    )))

one_top : (known : Known) (design : NetlistRec) (joined : Joined) (place index : ℕ)
    (a b : Occurrence) → IsJoined known design joined → IsTopPinOn design place index a
    → IsTopPinOn design place index b → a ≡ b
one_top known design joined place index a b are x y =
    let paths : a.path ≡ b.path = x.top ∙ sym y.top in
    let cells : x.cell ≡ y.cell = same_Some x.cell y.cell (sym x.occurs.inside
    ∙ ap (inside_at design) paths ∙ y.occurs.inside) in
    let numbers : x.number ≡ y.number =
    same_Some x.number y.number (sym x.bit.which ∙ y.bit.which) in
    let net_x : slice_get y.cell.nets a.net ≡ Some x.net =
    ap (λ (c : Cell). slice_get c.nets a.net) (sym cells) ∙ x.occurs.net_is in
    let bit : PortBit = record { port = y.number; index = index } in
    let named_x : names_own x.net bit ≡ true =
    ap (λ n. names_own x.net record { port = n; index = index }) (sym numbers) ∙ x.named in
    same_places a b paths (not_apart a.net b.net
    (λ less. are.keeps.0.0.1 (NetAt b.path b.net) (
      y.cell,
      y.occurs.inside,
      inl (on_two
          is_own owned y.cell a.net b.net x.net y.net bit net_x y.occurs.net_is
          named_x y.named less),
    ))
    (λ less. are.keeps.0.0.1 (NetAt b.path a.net) (
      y.cell,
      y.occurs.inside,
      inl (on_two
          is_own owned y.cell b.net a.net y.net x.net bit y.occurs.net_is net_x
          y.named named_x less),
    )))

pub one_place : (known : Known) (design : NetlistRec) (joined : Joined) (pin : Pin)
    (a b : Occurrence) → IsJoined known design joined → IsOn design pin a → IsOn design pin b → a ≡ b
one_place known design joined (LeafPin path bit) a b are x y =
    one_leaf known design joined path bit a b are x y
one_place known design joined (TopPin place index) a b are x y =
    one_top known design joined place index a b are x y

abbrev pub OnNumber : Known → NetlistRec → Joined → Pin → ℕ → Type 0
OnNumber known design joined pin net =
    IsPinOf design joined.instances.items known.paths joined.firsts.items pin net

-- a pin has one number
pub one_number : (known : Known) (design : NetlistRec) (joined : Joined) (pin : Pin) (m n : ℕ)
    → IsJoined known design joined → OnNumber known design joined pin m
    → OnNumber known design joined pin n → m ≡ n
one_number known design joined pin m n are x y =
    let at : x.at ≡ y.at = one_place known design joined pin x.at y.at are x.on y.on in
    let moved = subst (λ (o : Occurrence). IsNumber design joined.instances.items known.paths o
    x.number) at x.is_number in
    let numbers : x.number ≡ y.number =
    are.numbered.same y.at x.number y.number moved y.is_number in
    same_Some m n (sym x.first_is ∙ ap (slice_get joined.firsts.items) numbers ∙ y.first_is)

-- Nets are joined both ways, and on.

pub joined_on : (design : NetlistRec) (a b c : Occurrence) → AreOneNet design a b
    → AreOneNet design b c → AreOneNet design a c
joined_on design a b c x y = (x.0 ++ y.0, by a x.0 x.1)
  where
    by : (from : Occurrence) (chain : List Occurrence) → IsChain design from chain b
        → IsChain design from (chain ++ y.0) c
    by from [] h = subst (λ (o : Occurrence). IsChain design o y.0 c) (sym h) y.1
    by from (next ∷ chain) h = (h.0, by next chain h.1)

swap : (design : NetlistRec) (a b : Occurrence) → Cross design a b → Cross design b a
swap design a b (inl h) = inr h
swap design a b (inr h) = inl h

pub joined_back : (design : NetlistRec) (a b : Occurrence) → AreOneNet design a b
    → AreOneNet design b a
joined_back design a b x = by a x.0 x.1
  where
    by : (from : Occurrence) (chain : List Occurrence) → IsChain design from chain b
        → AreOneNet design b from
    by from [] h = ([], sym h)
    by from (next ∷ chain) h =
        joined_on design b next from (by next chain h.1) (from ∷ [], (swap design from next h.0, refl))

-- a net has one first occurrence
pub one_first : (known : Known) (design : NetlistRec) (joined : Joined) (a b : Occurrence)
    (m n : ℕ) → IsJoined known design joined → IsFirstOf design a → IsFirstOf design b
    → AreOneNet design a b → IsNumber design joined.instances.items known.paths a m
    → IsNumber design joined.instances.items known.paths b n → (a ≡ b) × (m ≡ n)
one_first known design joined a b m n are x y one p q =
    let same : m ≡ n = not_apart m n
    (λ less. y.first a (joined_back design a b one) ((are.numbered.rise a b m n p q).1 less))
    (λ less. x.first b one ((are.numbered.rise b a n m q p).1 less)) in (
      are.numbered.one a b n (subst (λ k. IsNumber design joined.instances.items known.paths a k) same
          p) q,
      same,
    )

occurs_of : (design : NetlistRec) (pin : Pin) (at : Occurrence) → IsOn design pin at
    → (cell : Cell) × (net : Net) × Occurs design at cell net
occurs_of design (LeafPin path bit) at on = (on.cell, on.net, on.occurs)
occurs_of design (TopPin place index) at on = (on.cell, on.net, on.occurs)

-- what is on the net of a first occurrence has its number
pub on_first : (known : Known) (design : NetlistRec) (joined : Joined) (pin : Pin)
    (at : Occurrence) (net : ℕ) → IsJoined known design joined
    → IsNumber design joined.instances.items known.paths at net → IsFirstOf design at
    → IsOnNet design pin at → OnNumber known design joined pin net
on_first known design joined pin at net are number first on =
    let there = occurs_of design pin on.where_at on.on in
    let n = are.numbered.some on.where_at there.0 there.1 there.2 in
    let f = are.are_firsts.each on.where_at n.0 n.1 in
    let one = joined_on design at on.where_at f.0 on.one_net
    (joined_back design f.0 on.where_at f.4) in
    let same = one_first known design joined at f.0 net f.1 are first f.5 one number f.3 in
    record {
      at = on.where_at;
      on = on.on;
      number = n.0;
      is_number = n.1;
      first_is = f.2 ∙ ap Some (sym same.1);
    }

-- and the other way round
pub first_on : (known : Known) (design : NetlistRec) (joined : Joined) (pin : Pin)
    (at : Occurrence) (net : ℕ) → IsJoined known design joined
    → IsNumber design joined.instances.items known.paths at net
    → OnNumber known design joined pin net → IsOnNet design pin at
first_on known design joined pin at net are number on =
    let f = are.are_firsts.each on.at on.number on.is_number in
    let least : f.1 ≡ net = same_Some f.1 net (sym f.2 ∙ on.first_is) in
    let same : f.0 ≡ at = are.numbered.one f.0 at net
    (subst (λ k. IsNumber design joined.instances.items known.paths f.0 k) least f.3) number in
    record {
      where_at = on.at;
      one_net = subst (λ (o : Occurrence). AreOneNet design o on.at) same f.4;
      on = on.on;
    }

-- a number that a pin has is that of a first occurrence
pub record IsFirstNumber (known : Known) (design : NetlistRec) (joined : Joined) (net : ℕ)
    : Type 0 where
  pub at : Occurrence
  pub number_is : IsNumber design joined.instances.items known.paths at net
  pub first : IsFirstOf design at
  pub itself : slice_get joined.firsts.items net ≡ Some net

pub is_first : (known : Known) (design : NetlistRec) (joined : Joined) (pin : Pin) (net : ℕ)
    → IsJoined known design joined → OnNumber known design joined pin net
    → IsFirstNumber known design joined net
is_first known design joined pin net are on =
    let f = are.are_firsts.each on.at on.number on.is_number in
    let least : f.1 ≡ net = same_Some f.1 net (sym f.2 ∙ on.first_is) in
    let number = subst (λ k. IsNumber design joined.instances.items known.paths f.0 k) least f.3 in
    let g = are.are_firsts.each f.0 net number in
    let same = one_first known design joined g.0 f.0 g.1 net are g.5 f.5 g.4 g.3 number in
    record {
      at = f.0;
      number_is = number;
      first = f.5;
      itself = g.2 ∙ ap Some same.1;
    }
