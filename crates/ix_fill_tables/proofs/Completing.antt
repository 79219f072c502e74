-- The elements that get tables, all of them and in order.
use Rattle.std.proofs.Common.{◌≡◌, ◌⊎◌, ◌<◌, ◌∙◌, refl, ap, sym, subst}
use Rattle.std.proofs.Common.{ℕ, zero, suc, arith, inl, inr, List, [], ◌∷◌, length, slice_get}
use Rattle.std.proofs.Common.{Option, Some, None, Bool, true, false, ◌&&◌, T, cond, nat_eq, not}
use Rattle.std.proofs.Common.{nat_lt, bit_and, if◌then◌else◌, Contains, Ordering}
use Rattle.std.specs.declared.cmp.Ordering.TheVariants.{Less, Equal, Greater}
use Rattle.std.specs.Int.{bit_at}
use Rattle.std.specs.Cmp.{Equal-is}
use Rattle.std.specs.Ordering.{eq_by_cmp, is_lt, nat_cmp, ordering_then}
use Rattle.std.specs.Bool.{◌==◌}
use Rattle.std.specs.FinMap.{FinMap, nat_cmp-IsAntisymmetric, get, get-entries, entries}
use Rattle.std.specs.FinMap.{entries_sorted}
use Rattle.std.specs.FinMap.Entries.{find, below_all, is_sorted}
use Rattle.std.proofs.lemmas.Bool.{true≢false, eq-eqb, eqb-true, ltb-true}
use Rattle.std.proofs.lemmas.Cmp.{eq_by_cmp_equiv}
use Rattle.std.proofs.lemmas.Nat.Bits.{bit_at_and, bit_at-zero, same_from_bits}
use Rattle.std.proofs.lemmas.Option.{none-some, same_Some, slice_get_within, get_or_from_slice_get}
use Rattle.ix_rec.specs.Maps.{pin_order, pin_order_total, pin_order-IsAntisymmetric}
use Rattle.ix_rec.specs.declared.device.DeviceRec.{DeviceRec}
use Rattle.ix_rec.specs.declared.flow.Flat.{Flat}
use Rattle.ix_rec.specs.declared.phys.CellPlacement.{CellPlacement}
use Rattle.ix_rec.specs.declared.phys.Phys.{Phys}
use Rattle.ix_rec.specs.declared.phys.SiteInstance.{SiteInstance}
use Rattle.ix_device.proofs.OptionLemmas.{position-at}
use Rattle.ix_legal.specs.Sites.{shape_at}
use Rattle.ix_lut.proofs.Bits.{bit_cases}
use Rattle.ix_table_keys.specs.Places.{site_of}
use Rattle.ix_table_keys.proofs.Found.{stands_at}
use Rattle.ix_fill_tables.specs.Bits.{clashes}
use Rattle.ix_fill_tables.specs.Completed.{AreFillings, Filling, GetsTable, IsEarlier, IsForced}
use Rattle.ix_fill_tables.specs.Filled.{fillings_of}
use Rattle.ix_fill_tables.specs.Forced.{AreForced, AreForcedThere, HasPlacement, IsForcedAmong}
use Rattle.ix_fill_tables.specs.Forced.{IsPlacedIn, TellsThere, first_instance}
use Rattle.ix_fill_tables.specs.declared.forcing.ForcedBits.{ForcedBits}
use Rattle.ix_fill_tables.proofs.Adding.{Entry, filling_of}
use Rattle.ix_fill_tables.proofs.Among.{found_usable, usable_there}
use Rattle.ix_fill_tables.proofs.Firsts.{is_first, none_earlier}

-- Entries of maps.

both_left : (a b : Bool) → T (a && b) → T a
both_left true b h = tt
both_left false b h = h

both_right : (a b : Bool) → T (a && b) → T b
both_right true b h = h
both_right false b h = absurd h

-- what is below all is below each
below_each : (k : ℕ × ℕ) (es : List Entry) → T (below_all pin_order k es) → (j : ℕ) (e : Entry)
    → slice_get es j ≡ Some e → T (is_lt (pin_order k e.0))
below_each k [] h j e at = absurd (none-some e at)
below_each k (x ∷ es) h zero e at =
    subst (λ (y : Entry). T (is_lt (pin_order k y.0))) (same_Some x e at)
    (both_left (is_lt (pin_order k x.0)) (below_all pin_order k es) h)
below_each k (x ∷ es) h (suc j) e at = below_each k es
    (both_right (is_lt (pin_order k x.0)) (below_all pin_order k es) h) j e at

-- what is found is an entry
found_at : (q : ℕ × ℕ) (v : ForcedBits) (es : List Entry) → find pin_order q es ≡ Some v
    → (j : ℕ) × (slice_get es j ≡ Some (q, v))
found_at q v [] h = absurd (none-some v h)
found_at q v (x ∷ es) h = by (eq_by_cmp pin_order q x.0) refl h (found_at q v es)
  where
    by : (b : Bool) → eq_by_cmp pin_order q x.0 ≡ b
        → cond b (Some x.1) (find pin_order q es) ≡ Some v
        → (find pin_order q es ≡ Some v → (j : ℕ) × (slice_get es j ≡ Some (q, v)))
        → (j : ℕ) × (slice_get (x ∷ es) j ≡ Some (q, v))
    by true same h rest =
        let key : q ≡ x.0 = pin_order-IsAntisymmetric q x.0 ((Equal-is (pin_order q x.0)).0 same) in
        (0, λ i. Some (sym key i, same_Some x.1 v h i))
    by false other h rest = let at = rest h in (suc at.0, at.1)

-- and an entry is what is found
pub entry_found : (es : List Entry) → T (is_sorted pin_order es) → (j : ℕ) (e : Entry)
    → slice_get es j ≡ Some e → find pin_order e.0 es ≡ Some e.1
entry_found [] sorted j e at = absurd (none-some e at)
entry_found (x ∷ es) sorted zero e at =
    subst (λ (y : Entry). find pin_order y.0 (x ∷ es) ≡ Some y.1) (same_Some x e at)
    (ap (λ b. cond b (Some x.1) (find pin_order x.0 es))
    ((eq_by_cmp_equiv pin_order_total).refl x.0))
entry_found (x ∷ es) sorted (suc j) e at = by (eq_by_cmp pin_order e.0 x.0) refl
    (entry_found es (both_right (below_all pin_order x.0 es) (is_sorted pin_order es) sorted) j e
    at)
  where
    less : T (is_lt (pin_order x.0 e.0))
    less = below_each x.0 es
        (both_left (below_all pin_order x.0 es) (is_sorted pin_order es) sorted) j e at

    by : (b : Bool) → eq_by_cmp pin_order e.0 x.0 ≡ b → find pin_order e.0 es ≡ Some e.1
        → cond b (Some x.1) (find pin_order e.0 es) ≡ Some e.1
    by false other h = h
    by true same h =
        let key : e.0 ≡ x.0 =
        pin_order-IsAntisymmetric e.0 x.0 ((Equal-is (pin_order e.0 x.0)).0 same) in
        let tie : pin_order x.0 e.0 ≡ Equal = ap (pin_order x.0) key
        ∙ (Equal-is (pin_order x.0 x.0)).0 ((eq_by_cmp_equiv pin_order_total).refl x.0) in
        absurd (subst (λ o. T (is_lt o)) tie less)

-- The fillings of entries.

pub entry_of : (es : List Entry) (k : ℕ) (f : Filling) → slice_get (fillings_of es) k ≡ Some f
    → (j : ℕ) × (e : Entry) × (slice_get es j ≡ Some e) × (clashes e.1 ≡ false)
    × (filling_of e ≡ f)
entry_of [] k f h = absurd (none-some f h)
entry_of (x ∷ es) k f h = by (clashes x.1) refl k h (entry_of es)
  where
    by : (b : Bool) → clashes x.1 ≡ b → (k : ℕ)
        → slice_get (if b then fillings_of es else (filling_of x ∷ fillings_of es)) k ≡ Some f
        → ((k : ℕ) (f : Filling) → slice_get (fillings_of es) k ≡ Some f
        → (j : ℕ) × (e : Entry) × (slice_get es j ≡ Some e) × (clashes e.1 ≡ false)
        × (filling_of e ≡ f))
        → (j : ℕ) × (e : Entry) × (slice_get (x ∷ es) j ≡ Some e) × (clashes e.1 ≡ false)
        × (filling_of e ≡ f)
    by true is k h rest = let at = rest k f h in (suc at.0, at.1, at.2, at.3, at.4)
    by false is zero h rest = (0, x, refl, is, same_Some (filling_of x) f h)
    by false is (suc k) h rest = let at = rest k f h in (suc at.0, at.1, at.2, at.3, at.4)

pub filling_there : (es : List Entry) (j : ℕ) (e : Entry) → slice_get es j ≡ Some e
    → clashes e.1 ≡ false → (k : ℕ) × (slice_get (fillings_of es) k ≡ Some (filling_of e))
filling_there [] j e at apart = absurd (none-some e at)
filling_there (x ∷ es) zero e at apart =
    let same : x ≡ e = same_Some x e at in (
      0,
      ap (λ b. slice_get (if b then fillings_of es else (filling_of x ∷ fillings_of es)) 0)
          (ap (λ (y : Entry). clashes y.1) same ∙ apart)
          ∙ ap (λ (y : Entry). Some (filling_of y)) same,
    )
filling_there (x ∷ es) (suc j) e at apart =
    by (clashes x.1) (filling_there es j e at apart)
  where
    by : (b : Bool) → (k : ℕ) × (slice_get (fillings_of es) k ≡ Some (filling_of e))
        → (k : ℕ) × (slice_get (if b then fillings_of es
        else (filling_of x ∷ fillings_of es)) k ≡ Some (filling_of e))
    by true rest = rest
    by false rest = (suc rest.0, rest.1)

-- in order
less_of : (x y : ℕ) → T (is_lt (nat_cmp x y)) → x < y
less_of x y h = by (nat_lt x y) (x == y) refl h
  where
    by : (b c : Bool) → nat_lt x y ≡ b → T (is_lt (cond b Less (cond c Equal Greater))) → x < y
    by true c e h = ltb-true x y e
    by false true e h = absurd h
    by false false e h = absurd h

lesser : (a b : ℕ × ℕ) → T (is_lt (pin_order a b))
    → (a.0 < b.0) ⊎ ((a.0 ≡ b.0) × (a.1 < b.1))
lesser a b h = by (nat_cmp a.0 b.0) refl h
  where
    by : (o : Ordering) → nat_cmp a.0 b.0 ≡ o
        → T (is_lt (ordering_then o (nat_cmp a.1 b.1)))
        → (a.0 < b.0) ⊎ ((a.0 ≡ b.0) × (a.1 < b.1))
    by Less is less = inl (less_of a.0 b.0 (subst (λ o. T (is_lt o)) (sym is) tt))
    by Equal is less = inr (nat_cmp-IsAntisymmetric a.0 b.0 is, less_of a.1 b.1 less)
    by Greater is less = absurd less

rising_in : (es : List Entry) → T (is_sorted pin_order es) → (j k : ℕ) (a b : Filling) → j < k
    → slice_get (fillings_of es) j ≡ Some a → slice_get (fillings_of es) k ≡ Some b
    → IsEarlier a b
rising_in [] sorted j k a b less at_j at_k = absurd (none-some a at_j)
rising_in (x ∷ es) sorted j k a b less at_j at_k = by (clashes x.1) j k less at_j at_k
    (rising_in es (both_right (below_all pin_order x.0 es) (is_sorted pin_order es) sorted))
  where
    below : T (below_all pin_order x.0 es)
    below = both_left (below_all pin_order x.0 es) (is_sorted pin_order es) sorted

    by : (c : Bool) (j k : ℕ) → j < k
        → slice_get (if c then fillings_of es else (filling_of x ∷ fillings_of es)) j ≡ Some a
        → slice_get (if c then fillings_of es else (filling_of x ∷ fillings_of es)) k ≡ Some b
        → ((j k : ℕ) (a b : Filling) → j < k → slice_get (fillings_of es) j ≡ Some a
        → slice_get (fillings_of es) k ≡ Some b → IsEarlier a b)
        → IsEarlier a b
    by true j k less at_j at_k rest = rest j k a b less at_j at_k
    by false zero zero less at_j at_k rest = absurd (omega (arith, less))
    by false (suc j) zero less at_j at_k rest = absurd (omega (arith, less))
    by false zero (suc k) less at_j at_k rest =
        let e = entry_of es k b at_k in
        let order = lesser x.0 e.1.0 (below_each x.0 es below e.0 e.1 e.2) in
        subst (IsEarlier a) e.4
        (subst (λ (f : Filling). IsEarlier f (filling_of e.1)) (same_Some (filling_of x) a at_j)
        order)
    by false (suc j) (suc k) less at_j at_k rest =
        rest j k a b (omega (arith, less)) at_j at_k

-- Bits that are forced both ways.

no_clash : (f : ForcedBits) → clashes f ≡ false → (at : ℕ) → bit_at f.ones at ≡ 1
    → bit_at f.zeros at ≡ 1 → ⊥
no_clash f none at one also =
    let nothing : bit_and f.ones f.zeros ≡ 0 = by (nat_eq (bit_and f.ones f.zeros) 0) refl none in
    let none_there = ap (λ w. bit_at w at) nothing ∙ bit_at-zero at in
    let is = bit_at_and f.ones f.zeros at in
    omega (arith, is, none_there, one, also)
  where
    by : (b : Bool) → nat_eq (bit_and f.ones f.zeros) 0 ≡ b → not b ≡ false
        → bit_and f.ones f.zeros ≡ 0
    by true e h = eqb-true (bit_and f.ones f.zeros) 0 e
    by false e h = absurd (true≢false h)

apart_clash : (f : ForcedBits)
    → ((at : ℕ) → bit_at f.ones at ≡ 1 → bit_at f.zeros at ≡ 1 → ⊥) → clashes f ≡ false
apart_clash f apart = ap not (eq-eqb (bit_and f.ones f.zeros) 0
    (same_from_bits (bit_and f.ones f.zeros) 0 each))
  where
    each : (at : ℕ) → bit_at (bit_and f.ones f.zeros) at ≡ bit_at 0 at
    each at =
        let is = bit_at_and f.ones f.zeros at in
        let zero = bit_at-zero at in
        elim (bit_cases f.ones at) [
          | inl none ↦ omega (arith, is, zero, none)
          | inr one ↦ elim (bit_cases f.zeros at) [
            | inl none ↦ omega (arith, is, zero, none)
            | inr also ↦ absurd (apart at one also)
          ]
        ]

-- One element.
module _ (rec : DeviceRec) (phys : Phys) (flat : Flat) (i element : ℕ) where
  abbrev all : ℕ
  all = length phys.placements

  module _ (instance : SiteInstance) (instance_is : slice_get phys.site_insts i ≡ Some instance)
      (first_is : first_instance phys instance.site ≡ Some i) where
    -- what is placed there, by either definition
    among : (at bit : ℕ) → IsForced rec phys flat instance.site element at bit
        → IsForcedAmong rec phys flat all i element at bit
    among at bit is =
        let k = stands_at phys.placements is.placement is.placed in
        record {
          there = record {
            k = k.0;
            before = slice_get_within phys.placements k.0 is.placement k.1;
            placement = is.placement;
            placement_is = k.1;
            is_in = record {
              lut = is.by.lut;
              lut_is = is.by.is_on.lut_is;
              element_is = found_usable rec is.placement element is.by.place is.by.is_on.shape
                  is.by.is_on.is_in is.by.is_on.shape_is;
              instance_is = ap (first_instance phys) is.site_is ∙ first_is;
            };
          };
          forces = is.by;
        }

    its_site : (placement : CellPlacement) → IsPlacedIn rec phys placement i element
        → placement.site ≡ instance.site
    its_site placement is =
        let found = position-at (λ x. nat_eq (site_of x) placement.site) phys.site_insts i
        is.instance_is in
        let same : found.0 ≡ instance = same_Some found.0 instance (sym found.1 ∙ instance_is) in
        sym (eqb-true (site_of found.0) placement.site found.2) ∙ ap site_of same

    forced : (at bit : ℕ) → IsForcedAmong rec phys flat all i element at bit
        → IsForced rec phys flat instance.site element at bit
    forced at bit is = record {
      placement = is.there.placement;
      placed = (
        is.there.k,
        slice_get_within phys.placements is.there.k is.there.placement is.there.placement_is,
        get_or_from_slice_get phys.placements is.there.k is.there.placement is.there.placement
            is.there.placement_is,
      );
      site_is = its_site is.there.placement is.there.is_in;
      by = is.forces;
    }

  -- an entry without a clash is a table
  gets_table : (f : ForcedBits) → AreForcedThere rec phys flat all i element f
      → clashes f ≡ false → GetsTable rec phys flat i element f.ones
  gets_table f are apart =
      let there = are.there in
      let placement = there.placement in
      let found = position-at (λ x. nat_eq (site_of x) placement.site) phys.site_insts i
      there.is_in.instance_is in
      let site : placement.site ≡ found.0.site =
      sym (eqb-true (site_of found.0) placement.site found.2) in
      let first = ap (first_instance phys) (sym site) ∙ there.is_in.instance_is in
      let usable = usable_there rec placement element there.is_in.element_is in
      record {
        instance = found.0;
        instance_is = found.1;
        first = λ j other less at same. none_earlier (λ x. nat_eq (site_of x) found.0.site)
            phys.site_insts i j other first less at (eq-eqb (site_of other) found.0.site same);
        shape = usable.shape;
        usable = ap (λ n. shape_at rec n element) (sym site)
            ∙ usable.shape_is;
        place = usable.place;
        placement = placement;
        lut = there.is_in.lut;
        has_lut = record {
          is_in = record {
            placed = (
              there.k,
              slice_get_within phys.placements there.k placement there.placement_is,
              get_or_from_slice_get phys.placements there.k placement placement
                  there.placement_is,
            );
            site_is = site;
            bel_is = usable.is_in;
          };
          lut_is = there.is_in.lut_is;
        };
        is_table = record {
          ones = λ at. (
            λ one. forced found.0 found.1 first at 1 ((are.ones at).0 one),
            λ is. (are.ones at).1 (among found.0 found.1 first at 1 is),
          );
          apart = λ at one zero. no_clash f apart at
              ((are.ones at).1 (among found.0 found.1 first at 1 one))
              ((are.zeros at).1 (among found.0 found.1 first at 0 zero));
        };
      }

  -- and a table is such an entry
  module _ (bits : ℕ) (gets : GetsTable rec phys flat i element bits) where
    first_here : first_instance phys gets.instance.site ≡ Some i
    first_here = is_first (λ x. nat_eq (site_of x) gets.instance.site) phys.site_insts i
        gets.instance gets.instance_is (eq-eqb gets.instance.site gets.instance.site refl)
        (λ q y less at passes. gets.first q y less at
        (eqb-true (site_of y) gets.instance.site passes))

    placed_there : HasPlacement rec phys all i element
    placed_there =
        let has = gets.has_lut in
        let k = stands_at phys.placements gets.placement has.is_in.placed in
        record {
          k = k.0;
          before = slice_get_within phys.placements k.0 gets.placement k.1;
          placement = gets.placement;
          placement_is = k.1;
          is_in = record {
            lut = gets.lut;
            lut_is = has.lut_is;
            element_is = found_usable rec gets.placement element gets.place gets.shape
                has.is_in.bel_is (ap (λ n. shape_at rec n element)
                has.is_in.site_is ∙ gets.usable);
            instance_is = ap (first_instance phys) has.is_in.site_is ∙ first_here;
          };
        }

    as_entry : (o : Option ForcedBits) → TellsThere rec phys flat all i element o
        → (f : ForcedBits) × (o ≡ Some f) × (clashes f ≡ false) × (f.ones ≡ bits)
    as_entry None none = absurd (none placed_there)
    as_entry (Some f) are = (
      f,
      refl,
      apart_clash f (λ at one zero. gets.is_table.apart at
          (forced gets.instance gets.instance_is first_here at 1 ((are.ones at).0 one))
          (forced gets.instance gets.instance_is first_here at 0 ((are.zeros at).0 zero))),
      same_from_bits f.ones bits each,
    )
      where
        each : (at : ℕ) → bit_at f.ones at ≡ bit_at bits at
        each at =
            let to = λ (one : bit_at f.ones at ≡ 1). (gets.is_table.ones at).1
            (forced gets.instance gets.instance_is first_here at 1 ((are.ones at).0 one)) in
            let back = λ (one : bit_at bits at ≡ 1). (are.ones at).1
            (among gets.instance gets.instance_is first_here at 1
            ((gets.is_table.ones at).0 one)) in
            elim (bit_cases f.ones at) [
              | inl none ↦ elim (bit_cases bits at) [
                | inl also ↦ none ∙ sym also
                | inr one ↦ back one ∙ sym one
              ]
              | inr one ↦ one ∙ sym (to one)
            ]

-- All of them.
pub are_fillings : (rec : DeviceRec) (phys : Phys) (flat : Flat)
    (forced : FinMap pin_order ForcedBits) → AreForced rec phys flat (length phys.placements) forced
    → AreFillings rec phys flat (fillings_of (entries forced))
are_fillings rec phys flat forced are = record {
  each = λ f. (to f, from f);
  rising = rising_in (entries forced) (entries_sorted forced);
}
  where
    to : (f : Filling) → Contains (fillings_of (entries forced)) f
        → GetsTable rec phys flat f.instance f.element f.bits
    to f has =
        let k = stands_at (fillings_of (entries forced)) f has in
        let e = entry_of (entries forced) k.0 f k.1 in
        let entry = e.1 in
        let found : get forced entry.0 ≡ Some entry.1 = get-entries forced entry.0
        ∙ entry_found (entries forced) (entries_sorted forced) e.0 entry e.2 in
        subst (λ (g : Filling). GetsTable rec phys flat g.instance g.element g.bits) e.4
        (gets_table rec phys flat entry.0.0 entry.0.1 entry.1
        (subst (TellsThere rec phys flat (length phys.placements) entry.0.0 entry.0.1) found
        (are entry.0.0 entry.0.1)) e.3)

    from : (f : Filling) → GetsTable rec phys flat f.instance f.element f.bits
        → Contains (fillings_of (entries forced)) f
    from f gets =
        let its = as_entry rec phys flat f.instance f.element f.bits gets
        (get forced (f.instance, f.element)) (are f.instance f.element) in
        let at = found_at (f.instance, f.element) its.0 (entries forced)
        (sym (get-entries forced (f.instance, f.element)) ∙ its.1) in
        let k = filling_there (entries forced) at.0 ((f.instance, f.element), its.0) at.1 its.2 in
        let there : slice_get (fillings_of (entries forced)) k.0 ≡ Some f =
        k.1 ∙ ap (λ b. Some (record { instance = f.instance; element = f.element; bits = b }))
        its.3 in (
          k.0,
          slice_get_within (fillings_of (entries forced)) k.0 f there,
          get_or_from_slice_get (fillings_of (entries forced)) k.0 f f there,
        )
