-- Each bit of an instance has one row, where N2 is kept.
use Rattle.std.proofs.Common.{◌≡◌, ◌<◌, ap, sym, ◌∙◌, ℕ}
use Rattle.std.proofs.Common.{arith, ◌⊎◌, inl, inr, true, nat_eq, ◌&&◌}
use Rattle.std.proofs.lemmas.Bool.{eqb-true, eq-eqb, false≢true}
use Rattle.ix_rec.specs.declared.netlist.Cell.{Cell}
use Rattle.ix_rec.specs.declared.netlist.NetlistRec.{NetlistRec}
use Rattle.ix_rec.specs.declared.netlist.PortInstance.{PortInstance}
use Rattle.ix_rec.specs.declared.netlist.PortOwner.{PortOwner}
use Rattle.ix_rec.specs.declared.netlist.PortOwner.TheVariants.{ExtPort, Inst}
use Rattle.ix_hierarchy.specs.declared.row.Row.{Row}
use Rattle.ix_hierarchy.specs.Hierarchy.{Path, PortBit}
use Rattle.ix_hierarchy.specs.Walk.{IsLess, NetAt}
use Rattle.ix_hierarchy.specs.Nets.{bit_of, is_of, same_bit}
use Rattle.ix_hierarchy.specs.Broken.{IsOnTwo, Names, same_owner}
use Rattle.ix_hierarchy.specs.Lists.{IsOuterRow, bit_in, row_key}
use Rattle.ix_joined.specs.declared.joined.Joined.{Joined}
use Rattle.ix_joined.specs.Joining.{Known, IsJoined}
use Rattle.ix_pins.proofs.Basics.{any_there, both_true}
use Rattle.ix_pins.proofs.Parents.{IsWithin}

pub bits_same : (a b : PortBit) → same_bit a b ≡ true → (a.port ≡ b.port) × (a.index ≡ b.index)
bits_same a b h =
    let both = both_true (nat_eq a.port b.port) (nat_eq a.index b.index) h in
    (eqb-true a.port b.port both.0, eqb-true a.index b.index both.1)

same_bits : (a b c : PortBit) → same_bit a c ≡ true → same_bit b c ≡ true → same_bit a b ≡ true
same_bits a b c x y =
    let p = bits_same a c x in
    let q = bits_same b c y in
    let port : a.port ≡ b.port = p.0 ∙ sym q.0 in
    let index : a.index ≡ b.index = p.1 ∙ sym q.1 in
    ap (λ t. t && nat_eq a.index b.index) (eq-eqb a.port b.port port)
    ∙ eq-eqb a.index b.index index

owners : (number : ℕ) (a b : PortOwner) → is_of number a ≡ true → is_of number b ≡ true
    → same_owner a b
owners number ExtPort b x y = absurd (false≢true x)
owners number (Inst a) ExtPort x y = absurd (false≢true y)
owners number (Inst a) (Inst b) x y = eqb-true a number x ∙ sym (eqb-true b number y)

-- a net that a row names, with the place
pub record IsNamedAt (cell : Cell) (net : ℕ) (number : ℕ) (bit : PortBit) : Type 0 where
  pub place : ℕ
  pub named : PortInstance
  pub names : Names cell net place named
  pub owner : is_of number named.owner ≡ true
  pub same : same_bit (bit_of named) bit ≡ true

pub named_at : (cell : Cell) (row : Row) → IsOuterRow cell row
    → IsNamedAt cell row.net row.instance (bit_in row)
named_at cell row is =
    let there = any_there (λ named. is_of row.instance named.owner
    && same_bit (bit_of named) (bit_in row)) is.0.port_insts is.2 in
    let both = both_true (is_of row.instance there.1.owner) (same_bit (bit_of there.1) (bit_in row))
    there.3 in
    record {
      place = there.0;
      named = there.1;
      names = record { of_net = is.0; net_is = is.1; named_is = there.2 };
      owner = both.0;
      same = both.1;
    }

-- two nets for one bit break N2
two_nets : (cell : Cell) (number : ℕ) (a b : Row) → IsOuterRow cell a → IsOuterRow cell b
    → a.instance ≡ number → b.instance ≡ number → a.port ≡ b.port → a.index ≡ b.index
    → a.net < b.net → IsOnTwo cell b.net
two_nets cell number a b x y na nb port index less =
    let p = named_at cell a x in
    let q = named_at cell b y in
    let bits : bit_in a ≡ bit_in b =
    ap (λ n. record { port = n; index = a.index }) port
    ∙ ap (λ n. record { port = b.port; index = n }) index in
    record {
      place = q.place;
      named = q.named;
      here = q.names;
      earlier = a.net;
      before = less;
      other_place = p.place;
      other = p.named;
      there = p.names;
      owner = owners number p.named.owner q.named.owner (ap (λ n. is_of n p.named.owner) (sym na)
          ∙ p.owner) (ap (λ n. is_of n q.named.owner) (sym nb) ∙ q.owner);
      same = same_bits (bit_of p.named) (bit_of q.named) (bit_in b)
          (ap (same_bit (bit_of p.named)) (sym bits) ∙ p.same) q.same;
    }

-- rows of an instance are in order by their bits
pub in_order : (known : Known) (design : NetlistRec) (joined : Joined) (i : ℕ) (path : Path)
    (a b : Row) → IsJoined known design joined → (w : IsWithin known design joined i path)
    → IsOuterRow w.cell a → IsOuterRow w.cell b → a.instance ≡ w.one.number
    → b.instance ≡ w.one.number → IsLess (row_key a) (row_key b)
    → (a.port < b.port) ⊎ ((a.port ≡ b.port) × (a.index < b.index))
in_order known design joined i path a b are w x y na nb less = elim less [
  | inl instance ↦ absurd (omega arith)
  | inr rest ↦ elim rest.1 [
    | inl port ↦ inl port
    | inr more ↦ elim more.1 [
      | inl index ↦ inr (more.0, index)
      | inr last ↦ elim last.1 [
        | inl net ↦ absurd (are.keeps.0.0.1 (NetAt w.parent b.net) (
          w.cell,
          w.inside_is,
          inl (two_nets w.cell w.one.number a b x y na nb more.0 last.0 net),
        ))
        | inr end ↦ absurd end.1
      ]
    ]
  ]
]
