-- The first place in the walk that breaks N8.
use Rattle.std.proofs.Common.{◌≡◌, ◌⊎◌, ◌<◌, ◌≤◌, ◌∙◌, ℕ, List, [], ◌∷◌, ◌++◌, length}
use Rattle.std.proofs.Common.{Option, Some, None, slice_get, sym, ap, subst, refl, inl, inr, arith}
use Rattle.std.specs.Prelude.{MatchOption}
use Rattle.std.proofs.lemmas.Bool.{cases_lt}
use Rattle.std.proofs.lemmas.Option.{same_Some, slice_get_within, slice_get-get_or}
use Rattle.ix_rec.specs.declared.device.Direction.TheVariants.{Inout}
use Rattle.ix_rec.specs.declared.netlist.CellInstance.{CellInstance}
use Rattle.ix_rec.specs.declared.netlist.NetlistRec.{NetlistRec}
use Rattle.ix_hierarchy.specs.Hierarchy.{Path, IsLeaf}
use Rattle.ix_hierarchy.specs.Nets.{Occurrence, IsFirstOf}
use Rattle.ix_hierarchy.specs.Pins.{Pin, LeafPin, TopPin, IsOnNet}
use Rattle.ix_hierarchy.specs.Broken.{BreaksN8, NoneBreaks, IsInoutOn}
use Rattle.ix_hierarchy.specs.Walk.{Spot, TopBit, NetAt, InstanceAt, PinAt, IsLess, IsBefore, key}
use Rattle.ix_hierarchy.specs.Walk.{steps}
use Rattle.ix_hierarchy.specs.Lists.{IsNumber}
use Rattle.ix_joined.specs.declared.joined.Joined.{Joined}
use Rattle.ix_joined.specs.declared.top_bit.TopBit.{TopBit as TopBitFound}
use Rattle.ix_joined.specs.Joining.{Known, IsJoined, IsPinOf, IsFirstNet, AreTopBits, TopPlace}
use Rattle.ix_joined.specs.Joining.{IsBitOf, top_places}
use Rattle.ix_inout.specs.Inout.{IsFirstInout}
use Rattle.ix_inout.specs.Leaf.{IsAtLeaf, HasInout, NoInoutBit, IsFirstInoutBit, IsFirstOfLeaf}
use Rattle.ix_inout.specs.Leaf.{IsInoutPin}
use Rattle.ix_inout.proofs.Parts.{gets_at}
use Rattle.ix_inout.proofs.Firsts.{on_pin}

less_irrefl : (a : List ℕ) → IsLess a a → ⊥
less_irrefl [] h = h
less_irrefl (x ∷ a) (inl h) = omega arith
less_irrefl (x ∷ a) (inr h) = less_irrefl a h.1

less_trans : (a b c : List ℕ) → IsLess a b → IsLess b c → IsLess a c
less_trans [] [] c h k = absurd h
less_trans [] (y ∷ b) [] h k = absurd k
less_trans [] (y ∷ b) (z ∷ c) h k = tt
less_trans (x ∷ a) [] c h k = absurd h
less_trans (x ∷ a) (y ∷ b) [] h k = absurd k
less_trans (x ∷ a) (y ∷ b) (z ∷ c) (inl h) (inl k) = inl (omega arith)
less_trans (x ∷ a) (y ∷ b) (z ∷ c) (inl h) (inr k) = let e = k.0 in inl (omega arith)
less_trans (x ∷ a) (y ∷ b) (z ∷ c) (inr h) (inl k) = let e = h.0 in inl (omega arith)
less_trans (x ∷ a) (y ∷ b) (z ∷ c) (inr h) (inr k) = inr (h.0 ∙ k.0, less_trans a b c h.1 k.1)

-- pins are in the order of their leaves, and then of ports and bits
pins_less : (a b : Path) (p i q j : ℕ)
    → IsLess (steps a ++ 0 ∷ p ∷ i ∷ []) (steps b ++ 0 ∷ q ∷ j ∷ [])
    → IsLess a b ⊎ ((a ≡ b) × ((p < q) ⊎ ((p ≡ q) × (i < j))))
pins_less [] [] p i q j (inl h) = absurd (omega arith)
pins_less [] [] p i q j (inr (e, inl h)) = inr (refl, inl h)
pins_less [] [] p i q j (inr (e, inr (f, inl h))) = inr (refl, inr (f, h))
pins_less [] [] p i q j (inr (e, inr (f, inr h))) = absurd h.1
pins_less [] (y ∷ b) p i q j h = inl tt
pins_less (x ∷ a) [] p i q j (inl h) = absurd (omega arith)
pins_less (x ∷ a) [] p i q j (inr h) = let e = h.0 in absurd (omega arith)
pins_less (x ∷ a) (y ∷ b) p i q j (inl h) = absurd (omega arith)
pins_less (x ∷ a) (y ∷ b) p i q j (inr (e, inl h)) = inl (inl h)
pins_less (x ∷ a) (y ∷ b) p i q j (inr (e, inr h)) = elim (pins_less a b p i q j h.1) [
  | inl w ↦ inl (inr (h.0, w))
  | inr w ↦ inr (ap (λ k. k ∷ a) h.0 ∙ ap (λ l. y ∷ l) w.0, w.1)
]

pins_before : (a b : Path) (p i q j : ℕ) → IsBefore (PinAt a p i) (PinAt b q j)
    → IsLess a b ⊎ ((a ≡ b) × ((p < q) ⊎ ((p ≡ q) × (i < j))))
pins_before a b p i q j (inl h) = absurd (omega arith)
pins_before a b p i q j (inr h) = pins_less a b p i q j h.1

less_steps : (a b : Path) → IsLess (steps a) (steps b) → IsLess a b
less_steps [] [] h = h
less_steps [] (y ∷ b) h = tt
less_steps (x ∷ a) [] h = absurd h
less_steps (x ∷ a) (y ∷ b) (inl h) = absurd (omega arith)
less_steps (x ∷ a) (y ∷ b) (inr (e, inl h)) = inl h
less_steps (x ∷ a) (y ∷ b) (inr (e, inr h)) = inr (h.0, less_steps a b h.1)

instances_before : (a b : Path) → IsBefore (InstanceAt a) (InstanceAt b) → IsLess a b
instances_before a b (inl h) = absurd (omega arith)
instances_before a b (inr h) = less_steps a b h.1

pin_after_top : (path : Path) (p i q j : ℕ) → IsBefore (PinAt path p i) (TopBit q j) → ⊥
pin_after_top path p i q j (inl h) = omega arith
pin_after_top path p i q j (inr h) = let e = h.0 in omega arith

-- the first occurrence of a pin's net
pub record IsFirstAt (known : Known) (design : NetlistRec) (joined : Joined) (pin : Pin)
    (net : ℕ) : Type 0 where
  pub at : Occurrence
  pub first_of : IsFirstOf design at
  pub number_is : IsNumber design joined.instances.items known.paths at net
  pub on : IsOnNet design pin at

first_at : (known : Known) (design : NetlistRec) (joined : Joined) (pin : Pin) (net : ℕ)
    → IsJoined known design joined
    → IsPinOf design joined.instances.items known.paths joined.firsts.items pin net
    → IsFirstAt known design joined pin net
first_at known design joined pin net J P =
    let f = J.are_firsts.each P.at P.number P.is_number in
    let same : f.1 ≡ net = same_Some f.1 net (sym f.2 ∙ P.first_is) in
    record {
      at = f.0;
      first_of = f.5;
      number_is = subst (λ (n : ℕ). IsNumber design joined.instances.items known.paths f.0 n)
          same f.3;
      on = record { where_at = P.at; one_net = f.4; on = P.on };
    }

-- A bit of the top that goes both ways and is on a net, by its place among all.
top_place : (known : Known) (design : NetlistRec) (joined : Joined) (bits : List TopBitFound)
    (place index : ℕ) (at : Occurrence)
    → AreTopBits design joined.instances.items known.paths joined.firsts.items bits
    → IsInoutOn design (TopBit place index) at
    → (k : ℕ) × (to : TopPlace) × (bit : TopBitFound) × (slice_get (top_places design) k ≡ Some to)
    × (slice_get bits k ≡ Some bit) × (to.place ≡ place) × (to.index ≡ index)
    × (bit.dir ≡ Inout) × (bit.net ≡ None → ⊥)
top_place known design joined bits place index at B (number, port, is, inout, on) =
    let k = B.places.all place index number port is in
    let to : TopPlace =
    record { place = place; index = index; number = number; dir = port.dir } in
    let few : k.0 < length (top_places design) =
    slice_get_within (top_places design) k.0 to k.1 in
    let many = B.many in
    let bit = gets_at bits k.0 (omega arith) in
    let of : IsBitOf design joined.instances.items known.paths joined.firsts.items to bit.0 =
    B.each k.0 to bit.0 k.1 bit.1 in (
      k.0,
      to,
      bit.0,
      k.1,
      bit.1,
      refl,
      refl,
      of.dir_is ∙ inout,
      λ none. subst (λ (o : Option ℕ). IsFirstNet design joined.instances.items known.paths
          joined.firsts.items (TopPin place index) o) none of.net_is on.where_at on.on,
    )

pub top_found : (known : Known) (design : NetlistRec) (joined : Joined)
    (bits : List TopBitFound) (net : ℕ) → IsJoined known design joined
    → AreTopBits design joined.instances.items known.paths joined.firsts.items bits
    → IsFirstInoutBit bits net → IsFirstInout known design joined net
top_found known design joined bits net J B F =
    let few : F.place < length bits = slice_get_within bits F.place F.bit F.bit_is in
    let many = B.many in
    let to = gets_at (top_places design) F.place (omega arith) in
    let of : IsBitOf design joined.instances.items known.paths joined.firsts.items to.0 F.bit =
    B.each F.place to.0 F.bit to.1 F.bit_is in
    let is = B.places.each F.place to.0 to.1 in
    let P : IsPinOf design joined.instances.items known.paths joined.firsts.items
    (TopPin to.0.place to.0.index) net =
    subst (λ (o : Option ℕ). IsFirstNet design joined.instances.items known.paths
    joined.firsts.items (TopPin to.0.place to.0.index) o) F.net_is of.net_is in
    let A : IsFirstAt known design joined (TopPin to.0.place to.0.index) net =
    first_at known design joined (TopPin to.0.place to.0.index) net J P in
    let on : IsInoutOn design (TopBit to.0.place to.0.index) A.at =
    (to.0.number, is.0, is.1, is.2 ∙ sym of.dir_is ∙ F.inout, A.on) in
    record {
      spot = TopBit to.0.place to.0.index;
      first = record {
        here = (A.at, on);
        first = λ other before b. none_before to.0 to.1 other before b;
      };
      at = A.at;
      on = on;
      first_of = A.first_of;
      number_is = A.number_is;
    }
  where
    none_before : (to : TopPlace) → slice_get (top_places design) F.place ≡ Some to
        → (other : Spot) → IsBefore other (TopBit to.place to.index) → BreaksN8 design other → ⊥
    none_before to to_is (TopBit place index) before (at, I) =
        let t = top_place known design joined bits place index at B I in
        let spot : TopBit t.1.place t.1.index ≡ TopBit place index =
        ap (λ (n : ℕ). TopBit n t.1.index) t.5 ∙ ap (TopBit place) t.6 in
        let earlier : IsBefore (TopBit t.1.place t.1.index) (TopBit to.place to.index) =
        subst (λ (s : Spot). IsBefore s (TopBit to.place to.index)) (sym spot) before in
        elim (cases_lt t.0 F.place) [
          | inl less ↦ t.8 (F.first t.0 t.2 less t.4 t.7)
          | inr behind ↦ elim (cases_lt F.place t.0) [
            | inl more ↦
                less_irrefl (key (TopBit t.1.place t.1.index))
                (less_trans (key (TopBit t.1.place t.1.index)) (key (TopBit to.place to.index))
                (key (TopBit t.1.place t.1.index)) earlier
                (B.places.rise F.place t.0 to t.1 more to_is t.3))
            | inr here ↦
                let e : t.0 ≡ F.place = omega arith in
                let s : t.1 ≡ to = same_Some t.1 to
                (sym t.3 ∙ ap (slice_get (top_places design)) e ∙ to_is) in
                less_irrefl (key (TopBit to.place to.index))
                (subst (λ (x : TopPlace). IsBefore (TopBit x.place x.index)
                (TopBit to.place to.index)) s earlier)
          ]
        ]
    none_before to to_is (PinAt path p i) before b =
        pin_after_top path p i to.place to.index before
    none_before to to_is (NetAt path net) before b = b.1
    none_before to to_is (InstanceAt path) before b = b.1

-- no leaf before an instance has such a pin
abbrev pub NoneBeforeLeaf : Known → NetlistRec → (instance : ℕ) → Type 0
NoneBeforeLeaf known design instance = (j : ℕ) (path : Path) → 0 < j → j < instance
    → slice_get known.paths j ≡ Some path → HasInout design path → ⊥

no_top : (known : Known) (design : NetlistRec) (joined : Joined) (bits : List TopBitFound)
    (place index : ℕ)
    → AreTopBits design joined.instances.items known.paths joined.firsts.items bits
    → NoInoutBit bits (length bits) → BreaksN8 design (TopBit place index) → ⊥
no_top known design joined bits place index B none (at, I) =
    let t = top_place known design joined bits place index at B I in
    t.8 (none t.0 t.2 (slice_get_within bits t.0 t.2 t.4) t.4 t.7)

empty_apart : (parent : Path) (place : ℕ) → [] ≡ parent ++ place ∷ [] → ⊥
empty_apart [] place e = cc
empty_apart (x ∷ parent) place e = cc

-- the number of a leaf with such a pin
leaf_number : (known : Known) (design : NetlistRec) (joined : Joined) (path : Path)
    → IsJoined known design joined → HasInout design path
    → (j : ℕ) × (0 < j) × (slice_get known.paths j ≡ Some path)
leaf_number known design joined path J (bit, I) =
    let L = I.on.leaf in
    let has = J.are_instances.every path I.on.inst L.is in
    let is : slice_get known.paths has.0 ≡ Some path =
    slice_get-get_or known.paths has.0 path has.1 ∙ ap Some has.2 in (
      has.0,
      elim (cases_lt 0 has.0) [
        | inl w ↦ w
        | inr w ↦
            let e : has.0 ≡ 0 = omega arith in
            let top : [] ≡ path = same_Some [] path
            (sym J.are_instances.top ∙ ap (slice_get known.paths) (sym e) ∙ is) in
            absurd (empty_apart L.parent L.place (top ∙ L.below))
      ],
      is,
    )

pub none_at_all : (known : Known) (design : NetlistRec) (joined : Joined)
    (bits : List TopBitFound) (instance : ℕ) → IsJoined known design joined
    → AreTopBits design joined.instances.items known.paths joined.firsts.items bits
    → NoInoutBit bits (length bits) → NoneBeforeLeaf known design instance
    → length joined.instances.items ≤ instance → NoneBreaks (BreaksN8 design)
none_at_all known design joined bits instance J B none before past = λ spot b. by spot b
  where
    by : (spot : Spot) → BreaksN8 design spot → ⊥
    by (TopBit place index) b = no_top known design joined bits place index B none b
    by (PinAt path p i) (at, I) =
        let pin : IsInoutPin design path I.0 = on_pin design path p i at I in
        let j = leaf_number known design joined path J (I.0, pin) in
        let few : j.0 < length known.paths = slice_get_within known.paths j.0 path j.2 in
        let many = J.are_instances.many in
        before j.0 path j.1 (omega arith) j.2 (I.0, pin)
    by (NetAt path net) b = b.1
    by (InstanceAt path) b = b.1

pub leaf_found : (known : Known) (design : NetlistRec) (joined : Joined)
    (bits : List TopBitFound) (instance net : ℕ) (path : Path) → IsJoined known design joined
    → AreTopBits design joined.instances.items known.paths joined.firsts.items bits
    → NoInoutBit bits (length bits) → NoneBeforeLeaf known design instance
    → slice_get known.paths instance ≡ Some path → IsFirstOfLeaf known design joined path net
    → IsFirstInout known design joined net
leaf_found known design joined bits instance net path J B none before path_is F =
    let A : IsFirstAt known design joined (LeafPin path F.bit) net =
    first_at known design joined (LeafPin path F.bit) net J F.net_is in
    let on : IsInoutOn design (PinAt path F.place F.bit.index) A.at =
    (F.bit, F.port, F.leaf_pin, F.inout, A.on) in
    record {
      spot = PinAt path F.place F.bit.index;
      first = record {
        here = (A.at, on);
        first = λ other earlier b. by other earlier b;
      };
      at = A.at;
      on = on;
      first_of = A.first_of;
      number_is = A.number_is;
    }
  where
    by : (other : Spot) → IsBefore other (PinAt path F.place F.bit.index)
        → BreaksN8 design other → ⊥
    by (TopBit place index) earlier b = no_top known design joined bits place index B none b
    by (PinAt q p i) earlier (at, I) =
        let pin : IsInoutPin design q I.0 = on_pin design q p i at I in
        let j = leaf_number known design joined q J (I.0, pin) in
        elim (pins_before q path p i F.place F.bit.index earlier) [
          | inl less ↦ elim (cases_lt j.0 instance) [
            | inl w ↦ before j.0 q j.1 w j.2 (I.0, pin)
            | inr w ↦ elim (cases_lt instance j.0) [
              | inl v ↦ less_irrefl q (less_trans q path q less
                  (instances_before path q
                  (J.are_instances.rise instance j.0 path q v path_is j.2)))
              | inr v ↦
                  let e : j.0 ≡ instance = omega arith in
                  let s : q ≡ path = same_Some q path
                  (sym j.2 ∙ ap (slice_get known.paths) e ∙ path_is) in
                  less_irrefl path (subst (λ (x : Path). IsLess x path) s less)
            ]
          ]
          | inr same ↦ elim (F.first p i at
              (subst (λ (x : Path). IsInoutOn design (PinAt x p i) at) same.0 I)) [
                | inl w ↦ elim same.1 [
                  | inl v ↦ omega arith
                  | inr v ↦ let e = v.0 in omega arith
                ]
                | inr w ↦
                    let e = w.0 in
                    let l = w.1 in
                    elim same.1 [
                      | inl v ↦ omega arith
                      | inr v ↦ let m = v.1 in omega arith
                    ]
              ]
        ]
    by (NetAt q net) earlier b = b.1
    by (InstanceAt q) earlier b = b.1

-- the leaf of a number
pub leaf_at : (known : Known) (design : NetlistRec) (joined : Joined) (instance : ℕ)
    → IsJoined known design joined → instance < length joined.instances.items
    → ((path : Path) → slice_get known.paths instance ≡ Some path
    → (inst : CellInstance) × IsLeaf design path inst)
    → (path : Path) × IsAtLeaf known design joined instance path
leaf_at known design joined instance J few told =
    let many = J.are_instances.many in
    let path = gets_at known.paths instance (omega arith) in
    let leaf = told path.0 path.1 in (
      path.0,
      record {
        is_joined = J;
        path_is = path.1;
        inst = leaf.0;
        leaf = leaf.1;
      },
    )

pub leaf_result : (known : Known) (design : NetlistRec) (joined : Joined)
    (bits : List TopBitFound) (instance : ℕ) (path : Path) (found : Option ℕ)
    → IsJoined known design joined
    → AreTopBits design joined.instances.items known.paths joined.firsts.items bits
    → NoInoutBit bits (length bits) → NoneBeforeLeaf known design instance
    → slice_get known.paths instance ≡ Some path → HasInout design path
    → MatchOption found (HasInout design path → ⊥) (IsFirstOfLeaf known design joined path)
    → MatchOption found (NoneBreaks (BreaksN8 design)) (IsFirstInout known design joined)
leaf_result known design joined bits instance path None J B none before path_is has told =
    absurd (told has)
leaf_result known design joined bits instance path (Some net) J B none before path_is has told =
    leaf_found known design joined bits instance net path J B none before path_is told
