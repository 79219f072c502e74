-- The counted places of a whole design: the top's bits, and what is below the top.
use Rattle.std.proofs.Common.{◌≡◌, ℕ, suc, ◌+◌, ◌^◌, ◌<◌, ◌≤◌, inl, inr, List}
use Rattle.std.proofs.Common.{[], ◌∷◌, ◌++◌, length, slice_get, get_or, Option, Some, None, refl}
use Rattle.std.proofs.Common.{sym, ap, ◌∙◌, subst, arith, length-append, option_and_then}
use Rattle.std.specs.List.{AllByRecursion}
use Rattle.std.proofs.lemmas.Bool.{false≢true}
use Rattle.std.proofs.lemmas.Option.{none-some, slice_get_within, slice_get-get_or}
use Rattle.ix_rec.specs.declared.netlist.CellInstance.{CellInstance}
use Rattle.ix_rec.specs.declared.netlist.NetlistRec.{NetlistRec}
use Rattle.ix_rec.specs.declared.netlist.Port.{Port}
use Rattle.ix_hierarchy.specs.Hierarchy.{inside, instance_at, ports_of, width}
use Rattle.ix_hierarchy.specs.Walk.{Spot, TopBit, NetAt, InstanceAt, PinAt}
use Rattle.ix_hierarchy.specs.Broken.{BreaksN10, IsCounted}
use Rattle.ix_hierarchy.specs.Lists.{AreClosed}
use Rattle.ix_counted.specs.Counts.{AreFew, bits_at, bits_of, bits_to, count_down, most}
use Rattle.ix_counted.proofs.Places.{IsItem, Differ, item_left, item_right, item_cases, differ_append}
use Rattle.ix_counted.proofs.Places.{get_within, no_more}
use Rattle.ix_counted.proofs.Sums.{join_to, join_differ, join_item, join_length, join_where, sum_ones}
use Rattle.ix_counted.proofs.Sums.{sum_same}
use Rattle.ix_counted.proofs.Instances.{among, placed}
use Rattle.ix_counted.proofs.Instances.{reached_none}
use Rattle.ix_counted.proofs.Spots.{below_under, instance_there, net_there, path_of, spots_counted}
use Rattle.ix_counted.proofs.Spots.{spots_differ, spots_down, spots_length, one_differs, one_item_is}

abbrev pub bit_spots : (place : ℕ) → (n : ℕ) → List Spot
bit_spots place n = join_to (λ index. TopBit place index ∷ []) n

abbrev pub top_spots : NetlistRec → (ports : List ℕ) → (n : ℕ) → List Spot
top_spots design ports n =
    join_to (λ place. bit_spots place (bits_at design (slice_get ports place))) n

bits_length : (place n : ℕ) → length (bit_spots place n) ≡ n
bits_length place n = join_length (λ index. TopBit place index ∷ []) n
    ∙ sum_ones (λ k. length (TopBit place k ∷ [])) n (λ k. refl)

top_length : (design : NetlistRec) (ports : List ℕ) (n : ℕ)
    → length (top_spots design ports n) ≡ bits_to design ports n
top_length design ports n =
    join_length (λ place. bit_spots place (bits_at design (slice_get ports place))) n
    ∙ sum_same (λ place. length (bit_spots place (bits_at design (slice_get ports place))))
    (λ place. bits_at design (slice_get ports place)) n
    (λ k. bits_length k (bits_at design (slice_get ports k)))

bit_where : (place n : ℕ) (spot : Spot) → IsItem (bit_spots place n) spot
    → (index : ℕ) × (index < n) × (TopBit place index ≡ spot)
bit_where place n spot h = let x : _ = join_where (λ index. TopBit place index ∷ []) n spot h in
    (x.0, x.1, one_item_is (TopBit place x.0) spot x.2)

same_bits : (a b c d : ℕ) → TopBit a b ≡ TopBit c d → (a ≡ c) × (b ≡ d)
same_bits a b c d e = (cc, cc)

top_differ : (design : NetlistRec) (ports : List ℕ) (n : ℕ) → Differ (top_spots design ports n)
top_differ design ports n =
    join_differ (λ place. bit_spots place (bits_at design (slice_get ports place))) n
    (λ place. join_differ (λ index. TopBit place index ∷ [])
    (bits_at design (slice_get ports place)) (λ index. one_differs (TopBit place index))
    (λ j k spot lt a b.
    let e : j ≡ k = (same_bits place j place k (one_item_is (TopBit place j) spot a
    ∙ sym (one_item_is (TopBit place k) spot b))).1 in omega arith))
    (λ j k spot lt a b.
    let x : _ = bit_where j (bits_at design (slice_get ports j)) spot a in
    let y : _ = bit_where k (bits_at design (slice_get ports k)) spot b in
    let e : j ≡ k = (same_bits j x.0 k y.0 (x.2 ∙ sym y.2)).0 in omega arith)

top_counted : (design : NetlistRec) (spot : Spot)
    → IsItem (top_spots design (ports_of design design.top_inst.cell)
    (length (ports_of design design.top_inst.cell))) spot → IsCounted design spot
top_counted design spot h =
    let port : _ = by (slice_get design.port_list number.0) refl in
    subst (λ s. IsCounted design s) bit.2 (number.0, port.0, port.1)
  where
    place : (k : ℕ) × (k < length (ports_of design design.top_inst.cell))
        × IsItem (bit_spots k
        (bits_at design (slice_get (ports_of design design.top_inst.cell) k))) spot
    place = join_where (λ k. bit_spots k
        (bits_at design (slice_get (ports_of design design.top_inst.cell) k)))
        (length (ports_of design design.top_inst.cell)) spot h

    bit : (index : ℕ)
        × (index < bits_at design (slice_get (ports_of design design.top_inst.cell) place.0))
        × (TopBit place.0 index ≡ spot)
    bit = bit_where place.0
        (bits_at design (slice_get (ports_of design design.top_inst.cell) place.0)) spot place.2

    number : (x : ℕ) × (slice_get (ports_of design design.top_inst.cell) place.0 ≡ Some x)
    number = get_within (ports_of design design.top_inst.cell) place.0 place.1

    within : bit.0 < bits_of (slice_get design.port_list number.0)
    within = subst (λ o. bit.0 < bits_at design o) number.1 bit.1

    by : (o : Option Port) → slice_get design.port_list number.0 ≡ o
        → (port : Port) × Rattle.ix_hierarchy.specs.Pins.IsTopBit design place.0 bit.0 number.0 port
    by None none = let lt : bit.0 < 0 = subst (λ o. bit.0 < bits_of o) none within in
        absurd (omega arith)
    by (Some port) some = (
      port,
      record {
        which = number.1;
        port_is = some;
        within = subst (λ o. bit.0 < bits_of o) some within;
      },
    )

-- The whole list.

abbrev pub all_spots : NetlistRec → (depth : ℕ) → List Spot
all_spots design depth = top_spots design (ports_of design design.top_inst.cell)
    (length (ports_of design design.top_inst.cell))
    ++ spots_down design depth design.top_inst.cell []

all_length : (design : NetlistRec) (depth : ℕ) → length (all_spots design depth)
    ≡ bits_to design (ports_of design design.top_inst.cell)
    (length (ports_of design design.top_inst.cell))
    + count_down design depth design.top_inst.cell
all_length design depth =
    let a : length (all_spots design depth) ≡ length (top_spots design
    (ports_of design design.top_inst.cell) (length (ports_of design design.top_inst.cell)))
    + length (spots_down design depth design.top_inst.cell []) =
    length-append (top_spots design (ports_of design design.top_inst.cell)
    (length (ports_of design design.top_inst.cell)))
    (spots_down design depth design.top_inst.cell []) in
    let b : length (top_spots design (ports_of design design.top_inst.cell)
    (length (ports_of design design.top_inst.cell)))
    ≡ bits_to design (ports_of design design.top_inst.cell)
    (length (ports_of design design.top_inst.cell)) =
    top_length design (ports_of design design.top_inst.cell)
    (length (ports_of design design.top_inst.cell)) in
    let c : length (spots_down design depth design.top_inst.cell [])
    ≡ count_down design depth design.top_inst.cell =
    spots_length design depth design.top_inst.cell [] in
    omega (arith, a, b, c)

all_differ : (design : NetlistRec) (depth : ℕ) → Differ (all_spots design depth)
all_differ design depth = differ_append
    (top_spots design (ports_of design design.top_inst.cell)
    (length (ports_of design design.top_inst.cell)))
    (spots_down design depth design.top_inst.cell [])
    (top_differ design (ports_of design design.top_inst.cell)
    (length (ports_of design design.top_inst.cell)))
    (spots_differ design depth design.top_inst.cell [])
    (λ spot a b.
    let p : _ = join_where (λ k. bit_spots k
    (bits_at design (slice_get (ports_of design design.top_inst.cell) k)))
    (length (ports_of design design.top_inst.cell)) spot a in
    let x : _ = bit_where p.0
    (bits_at design (slice_get (ports_of design design.top_inst.cell) p.0)) spot p.2 in
    let u : _ = below_under design depth design.top_inst.cell [] spot b in
    none-some u.0 (ap path_of x.2 ∙ u.1))

all_counted : (design : NetlistRec) (depth : ℕ) (spot : Spot)
    → IsItem (all_spots design depth) spot → IsCounted design spot
all_counted design depth spot h = elim (item_cases
    (top_spots design (ports_of design design.top_inst.cell)
    (length (ports_of design design.top_inst.cell)))
    (spots_down design depth design.top_inst.cell []) spot h) [
      | inl top ↦ top_counted design spot top
      | inr below ↦ spots_counted design depth design.top_inst.cell [] design.top_inst spot
          (reached_none design design.top_inst) refl below
    ]

all_there : (design : NetlistRec) (closed : List ℕ) → AreClosed design closed → (spot : Spot)
    → IsCounted design spot → IsItem (all_spots design (length closed)) spot
all_there design closed closing (TopBit place index) (number, port, bit) = item_left
    (top_spots design (ports_of design design.top_inst.cell)
    (length (ports_of design design.top_inst.cell)))
    (spots_down design (length closed) design.top_inst.cell []) (TopBit place index)
    (join_item (λ k. bit_spots k
    (bits_at design (slice_get (ports_of design design.top_inst.cell) k)))
    (length (ports_of design design.top_inst.cell)) place (TopBit place index)
    (slice_get_within (ports_of design design.top_inst.cell) place number bit.which)
    (subst (λ o. IsItem (bit_spots place (bits_at design o)) (TopBit place index)) (sym bit.which)
    (subst (λ o. IsItem (bit_spots place (bits_of o)) (TopBit place index)) (sym bit.port_is)
    (join_item (λ i. TopBit place i ∷ []) (width port) index (TopBit place index) bit.within
    (0, refl)))))
all_there design closed closing (NetAt path net) (cell, of_net, occurs) = item_right
    (top_spots design (ports_of design design.top_inst.cell)
    (length (ports_of design design.top_inst.cell)))
    (spots_down design (length closed) design.top_inst.cell []) (NetAt path net)
    (by (instance_at design path) refl)
  where
    top : (i : ℕ) × (slice_get closed i ≡ Some design.top_inst.cell)
    top = placed closed design.top_inst.cell ((closing.reached design.top_inst.cell).1 ([], refl))

    by : (o : Option CellInstance) → instance_at design path ≡ o
        → IsItem (spots_down design (length closed) design.top_inst.cell []) (NetAt path net)
    by None none = absurd (none-some cell (ap (λ o. option_and_then
        (λ (i : CellInstance). inside design i.cell) o) (sym none) ∙ occurs.inside))
    by (Some end) some = net_there design closed closing path (length closed) top.0
        design.top_inst end [] cell net top.1
        (slice_get_within closed top.0 design.top_inst.cell top.1) some
        (ap (λ o. option_and_then (λ (i : CellInstance). inside design i.cell) o) (sym some)
        ∙ occurs.inside) (slice_get_within cell.nets net of_net occurs.net_is)
all_there design closed closing (InstanceAt []) h = absurd h
all_there design closed closing (InstanceAt (k ∷ rest)) h = item_right
    (top_spots design (ports_of design design.top_inst.cell)
    (length (ports_of design design.top_inst.cell)))
    (spots_down design (length closed) design.top_inst.cell []) (InstanceAt (k ∷ rest))
    (by (instance_at design (k ∷ rest)) refl)
  where
    top : (i : ℕ) × (slice_get closed i ≡ Some design.top_inst.cell)
    top = placed closed design.top_inst.cell ((closing.reached design.top_inst.cell).1 ([], refl))

    by : (o : Option CellInstance) → instance_at design (k ∷ rest) ≡ o
        → IsItem (spots_down design (length closed) design.top_inst.cell [])
        (InstanceAt (k ∷ rest))
    by None none = absurd (false≢true (ap Rattle.std.specs.Option.is_some (sym none) ∙ h))
    by (Some end) some = instance_there design closed closing rest k (length closed) top.0
        design.top_inst end [] top.1
        (slice_get_within closed top.0 design.top_inst.cell top.1) some
all_there design closed closing (PinAt path place index) h = absurd h

-- What that tells.

all_from : {A : Type 0} (P : A → Type 0) (xs : List A) → ((x : A) → IsItem xs x → P x)
    → AllByRecursion P xs
all_from P [] h = tt
all_from P (x ∷ xs) h = (h x (0, refl), all_from P xs (λ y is. h y (suc is.0, is.1)))

pub breaks : (design : NetlistRec) (depth : ℕ)
    → 2 ^ 22 < bits_to design (ports_of design design.top_inst.cell)
    (length (ports_of design design.top_inst.cell))
    + count_down design depth design.top_inst.cell → BreaksN10 design
breaks design depth lt = (
  all_spots design depth,
  all_differ design depth,
  all_from (IsCounted design) (all_spots design depth) (all_counted design depth),
  subst (λ n. 2 ^ 22 < n) (sym (all_length design depth)) lt,
)

pub keeps : (design : NetlistRec) (closed : List ℕ) → AreClosed design closed
    → bits_to design (ports_of design design.top_inst.cell)
    (length (ports_of design design.top_inst.cell))
    + count_down design (length closed) design.top_inst.cell ≤ 2 ^ 22 → ¬ BreaksN10 design
keeps design closed closing le (spots, differ, counted, more) =
    let few : length spots ≤ length (all_spots design (length closed)) =
    no_more spots (all_spots design (length closed)) differ (λ spot is.
    all_there design closed closing spot
    (among (IsCounted design) spots is.0 spot counted is.1)) in
    let many : _ = all_length design (length closed) in
    omega (arith, few, many, le, more)

pub few_get : (counts : List ℕ) (k : ℕ) → AreFew counts → k < length counts
    → get_or counts k 0 ≤ most
few_get counts k few lt = few k (get_or counts k 0) (slice_get-get_or counts k 0 lt)

pub top_closed : (design : NetlistRec) (closed : List ℕ) → AreClosed design closed
    → (i : ℕ) × (slice_get closed i ≡ Some design.top_inst.cell)
top_closed design closed closing =
    placed closed design.top_inst.cell ((closing.reached design.top_inst.cell).1 ([], refl))
