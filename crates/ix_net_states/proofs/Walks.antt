-- Walks over the bits of the top and over the rows of leaves.
use Rattle.std.proofs.Common.{◌≡◌, ◌<◌, ◌≤◌, ◌+◌, ap, refl, sym, subst, ◌∙◌, ℕ, List, slice_get, Some}
use Rattle.std.proofs.Common.{IfSome}
use Rattle.std.proofs.Common.{None, Option, length, arith, ◌⊎◌, inl, inr, [], ◌∷◌, get_or}
use Rattle.std.proofs.Math.ListN.{set}
use Rattle.std.proofs.lemmas.Bool.{cases_lt, false≢true}
use Rattle.std.proofs.lemmas.Option.{same_Some, slice_get_within, slice_get-get_or}
use Rattle.ix_message.specs.Shape.{Text}
use Rattle.ix_rec.specs.declared.device.DeviceRec.{DeviceRec}
use Rattle.ix_rec.specs.declared.device.Direction.{Direction}
use Rattle.ix_rec.specs.declared.device.Direction.TheVariants.{Input, Output, Inout}
use Rattle.ix_rec.specs.declared.netlist.NetlistRec.{NetlistRec}
use Rattle.ix_rec.specs.declared.netlist.Port.{Port}
use Rattle.ix_rec.specs.declared.netlist.CellInstance.{CellInstance}
use Rattle.ix_hierarchy.specs.Hierarchy.{Path, PortBit, IsLeaf}
use Rattle.ix_hierarchy.specs.Walk.{InstanceAt, IsLess, key}
use Rattle.ix_hierarchy.specs.Lists.{bit_in}
use Rattle.ix_hierarchy.specs.Pins.{Pin, LeafPin, TopPin, IsTopBit, IsTopPin, IsOnNet}
use Rattle.ix_joined.specs.declared.joined.Joined.{Joined}
use Rattle.ix_joined.specs.declared.state.NetState.{NetState}
use Rattle.ix_joined.specs.declared.top_bit.TopBit.{TopBit}
use Rattle.ix_joined.specs.Joining.{Known, IsJoined, AreTopBits, IsFirstNet, TopPlace, top_places}
use Rattle.ix_joined.specs.Roles.{nothing, role_towards, with_role}
use Rattle.ix_joined.specs.States.{AreStates, AreNetStates, IsState}
use Rattle.ix_pins.specs.Places.{HasRole, ArePins, IsFoundAt}
use Rattle.ix_joined.specs.declared.pin.LeafPin.{LeafPin as LeafPinFound}
use Rattle.ix_net_states.specs.Least.{AreStatesOf}
use Rattle.ix_net_states.specs.Walking.{IsDone, IsDoneTo, IsLeafAt, IsTopDone, on_net}
use Rattle.ix_net_states.proofs.Adding.{Among, More, none_on, same_pins}
use Rattle.ix_net_states.proofs.Basics.{none_last}
use Rattle.ix_net_states.proofs.Done.{one_pin, same_done}
use Rattle.ix_net_states.proofs.OneNet.{OnNumber, first_on, is_first, on_first}

-- what a bit of the top does
top_role : (names : List Text) (rec : DeviceRec) (design : NetlistRec) (place index number : ℕ)
    (port : Port) (dir : Direction) → IsTopBit design place index number port → port.dir ≡ dir
    → HasRole names rec design (TopPin place index) (role_towards dir)
top_role names rec design place index number port dir bit towards = by dir towards
  where
    one_way : (d : Direction) → IsTopPin design d place index → port.dir ≡ d
    one_way d pin =
        let numbers : pin.number ≡ number =
        same_Some pin.number number (sym pin.bit.which ∙ bit.which) in
        let ports : pin.port ≡ port = same_Some pin.port port (sym pin.bit.port_is
        ∙ ap (slice_get design.port_list) numbers ∙ bit.port_is) in
        ap (λ (p : Port). p.dir) (sym ports) ∙ pin.towards

    by : (d : Direction) → port.dir ≡ d
        → HasRole names rec design (TopPin place index) (role_towards d)
    by Input h = record {
      driver = (λ e. record { number = number; port = port; bit = bit; towards = h }, λ d. refl);
      sink = (
        λ e. absurd (false≢true e),
        λ s. absurd (let x : port.dir ≡ Output = one_way Output s in
            let y : Input ≡ Output = sym h ∙ x in cc),
      );
      constant = λ c. (
        λ e. absurd (cc),
        λ is. let x : TopPin place index ≡ LeafPin is.0 is.1 = is.2 in
            absurd (cc),
      );
    }
    by Output h = record {
      driver = (
        λ e. absurd (false≢true e),
        λ s. absurd (let x : port.dir ≡ Input = one_way Input s in
            let y : Output ≡ Input = sym h ∙ x in cc),
      );
      sink = (λ e. record { number = number; port = port; bit = bit; towards = h }, λ d. refl);
      constant = λ c. (
        λ e. absurd (cc),
        λ is. let x : TopPin place index ≡ LeafPin is.0 is.1 = is.2 in
            absurd (cc),
      );
    }
    by Inout h = record {
      driver = (
        λ e. absurd (false≢true e),
        λ s. absurd (let x : port.dir ≡ Input = one_way Input s in
            let y : Inout ≡ Input = sym h ∙ x in cc),
      );
      sink = (
        λ e. absurd (false≢true e),
        λ s. absurd (let x : port.dir ≡ Output = one_way Output s in
            let y : Inout ≡ Output = sym h ∙ x in cc),
      );
      constant = λ c. (
        λ e. absurd (cc),
        λ is. let x : TopPin place index ≡ LeafPin is.0 is.1 = is.2 in
            absurd (cc),
      );
    }

same_top : (a b i j : ℕ) → TopPin a i ≡ TopPin b j → (a ≡ b) × (i ≡ j)
same_top a b i j e = let x : a ≡ b = cc in let y : i ≡ j = cc in (x, y)

-- one bit more
pub top_more : (known : Known) (design : NetlistRec) (joined : Joined) (bits : List TopBit)
    (k : ℕ) (bit : TopBit) (states : List NetState) → IsJoined known design joined
    → AreTopBits design joined.instances.items known.paths joined.firsts.items bits
    → slice_get bits k ≡ Some bit
    → AreStatesOf known design joined (IsTopDone design k) states
    → AreStatesOf known design joined (IsTopDone design (k + 1))
    (on_net states bit.net (role_towards bit.dir))
top_more known design joined bits k bit states are top h is = by bit.net here.net_is
  where
    lt : k < length bits
    lt = slice_get_within bits k bit h

    none : TopPlace
    none = record { place = 0; index = 0; number = 0; dir = Input }

    at : TopPlace
    at = get_or (top_places design) k none

    at_is : slice_get (top_places design) k ≡ Some at
    at_is = let many : length bits ≡ length (top_places design) = top.many in
        let less : k < length bits = lt in
        slice_get-get_or (top_places design) k none (omega arith)

    here : Rattle.ix_joined.specs.Joining.IsBitOf design joined.instances.items known.paths
        joined.firsts.items at bit
    here = top.each k at bit at_is h

    pin : Pin
    pin = TopPin at.place at.index

    new : IsTopDone design k pin → ⊥
    new done =
        let same = same_top at.place done.at.place at.index done.at.index done.pin_is in
        elim (top.places.rise done.k k done.at at done.less done.at_is at_is) [
          | inl x ↦ absurd (omega arith)
          | inr x ↦ elim x.1 [
            | inl y ↦ let e : at.place ≡ done.at.place = same.0 in absurd (omega arith)
            | inr y ↦ elim y.1 [
              | inl z ↦ let e : at.index ≡ done.at.index = same.1 in absurd (omega arith)
              | inr z ↦ absurd z.1
            ]
          ]
        ]

    -- before it, or it
    split : (p : Pin) → IsTopDone design (k + 1) p → IsTopDone design k p ⊎ (p ≡ pin)
    split p done = elim (cases_lt done.k k) [
      | inl less ↦ inl (record {
        k = done.k;
        at = done.at;
        less = less;
        at_is = done.at_is;
        pin_is = done.pin_is;
      })
      | inr more ↦
          let bound : done.k < k + 1 = done.less in
          let same : done.k ≡ k = omega arith in
          let places : done.at ≡ at = same_Some done.at at (sym done.at_is
          ∙ ap (slice_get (top_places design)) same ∙ at_is) in
          inr (done.pin_is ∙ ap (λ (t : TopPlace). TopPin t.place t.index) places)
    ]

    join : (p : Pin) → IsTopDone design k p ⊎ (p ≡ pin) → IsTopDone design (k + 1) p
    join p (inl done) = let less : done.k < k = done.less in
        record {
          k = done.k;
          at = done.at;
          less = omega arith;
          at_is = done.at_is;
          pin_is = done.pin_is;
        }
    join p (inr same) = record { k = k; at = at; less = omega arith; at_is = at_is; pin_is = same }

    by : (o : Option ℕ) → IsFirstNet design joined.instances.items known.paths joined.firsts.items
        pin o → AreStatesOf known design joined (IsTopDone design (k + 1))
        (on_net states o (role_towards bit.dir))
    by None off = same_done known design joined (IsTopDone design k) (IsTopDone design (k + 1)) states
        (λ p net on done. join p (inl done))
        (λ p net on done. elim (split p done) [
          | inl before ↦ before
          | inr same ↦ absurd (off on.at (subst (λ q.
              Rattle.ix_hierarchy.specs.Pins.IsOn design q on.at) same on.on))
        ]) is
    by (Some net) on =
        let first = is_first known design joined pin net are on in
        let below : net < length joined.firsts.items = are.numbered.below first.at net first.number_is
        in
        let many : length states ≡ length joined.firsts.items = is.many in
        let state_is = slice_get-get_or states net nothing (omega arith) in
        let place = top.places.each k at at_is in
        same_done known design joined (More (IsTopDone design k) pin) (IsTopDone design (k + 1))
        (set states net (with_role (get_or states net nothing) (role_towards bit.dir)))
        (λ p n o done. join p done) (λ p n o done. split p done)
        (one_pin known design joined (IsTopDone design k) states pin net (role_towards bit.dir)
        (get_or states net nothing) are is on new
        (top_role known.names known.device design at.place at.index at.number place.0 bit.dir place.1
        (place.2 ∙ sym here.dir_is)) state_is)

-- The ends of walks.

-- all bits of the top
pub tops_done : (known : Known) (design : NetlistRec) (joined : Joined) (bits : List TopBit)
    (count : ℕ) (states : List NetState) → IsJoined known design joined
    → AreTopBits design joined.instances.items known.paths joined.firsts.items bits
    → length bits ≤ count → AreStatesOf known design joined (IsTopDone design count) states
    → AreStatesOf known design joined (IsDone known 1) states
tops_done known design joined bits count states are top whole is =
    same_done known design joined (IsTopDone design count) (IsDone known 1) states
    (λ p net on done. there p done)
    (λ p net on done. back p on done) is
  where
    there : (p : Pin) → IsTopDone design count p → IsDone known 1 p
    there (TopPin place index) done = tt
    there (LeafPin path bit) done =
        let x : LeafPin path bit ≡ TopPin done.at.place done.at.index = done.pin_is in absurd (cc)

    back : (p : Pin) {net : ℕ} → OnNumber known design joined p net → IsDone known 1 p
        → IsTopDone design count p
    back (TopPin place index) on done =
        let bit = on.on.bit in
        let found = top.places.all place index on.on.number on.on.port bit in
        let many : length bits ≡ length (top_places design) = top.many in
        let less : found.0 < length (top_places design) =
        slice_get_within (top_places design) found.0 _ found.1 in
        record {
          k = found.0;
          at = record { place = place; index = index; number = on.on.number; dir = on.on.port.dir };
          less = omega arith;
          at_is = found.1;
          pin_is = refl;
        }
    back (LeafPin path bit) on done =
        let first : done.0 ≡ 0 = let less : done.0 < 1 = done.1 in omega arith in
        let top_path : [] ≡ path = same_Some [] path (sym are.are_instances.top
        ∙ ap (slice_get known.paths) (sym first) ∙ done.2) in
        absurd (none_last on.at.path on.on.place (top_path ∙ on.on.below))

-- nothing yet
pub none_done : (known : Known) (design : NetlistRec) (joined : Joined) (states : List NetState)
    → AreStatesOf known design joined (λ _. ⊥) states
    → AreStatesOf known design joined (IsTopDone design 0) states
none_done known design joined states is =
    same_done known design joined (λ _. ⊥) (IsTopDone design 0) states
    (λ p net on done. absurd done)
    (λ p net on done. let less : done.k < 0 = done.less in absurd (omega arith)) is

-- a list isn't before itself
not_less : (xs : List ℕ) → IsLess xs xs → ⊥
not_less [] h = h
not_less (x ∷ xs) h = elim h [
  | inl less ↦ absurd (omega arith)
  | inr rest ↦ absurd (not_less xs rest.1)
]

-- an instance's path is its own
paths_apart : (known : Known) (design : NetlistRec) (joined : Joined) (j i : ℕ) (path : Path)
    → IsJoined known design joined → j < i → slice_get known.paths j ≡ Some path
    → slice_get known.paths i ≡ Some path → ⊥
paths_apart known design joined j i path are less x y =
    not_less (key (InstanceAt path)) (are.are_instances.rise j i path path less x y)

-- one row more of a leaf
pub row_more : (known : Known) (design : NetlistRec) (joined : Joined) (instance : ℕ) (path : Path)
    (start end k : ℕ) (found : LeafPinFound) (states : List NetState)
    → IsJoined known design joined → IsLeafAt known design instance path
    → ArePins known design joined instance path start end → start ≤ k → k < end
    → IsFoundAt known design joined instance k found
    → AreStatesOf known design joined (IsDoneTo known joined instance path start k) states
    → AreStatesOf known design joined (IsDoneTo known joined instance path start (k + 1))
    (set states found.net (with_role (get_or states found.net nothing) found.role))
row_more known design joined instance path start end k found states are leaf pins from to f is =
    let first = is_first known design joined pin found.net are f.net_is in
    let below : found.net < length joined.firsts.items =
    are.numbered.below first.at found.net first.number_is in
    let many : length states ≡ length joined.firsts.items = is.many in
    let state_is = slice_get-get_or states found.net nothing (omega arith) in
    same_done known design joined (More (IsDoneTo known joined instance path start k) pin)
    (IsDoneTo known joined instance path start (k + 1))
    (set states found.net (with_role (get_or states found.net nothing) found.role))
    (λ p n o done. join p done) (λ p n o done. split p done)
    (one_pin known design joined (IsDoneTo known joined instance path start k) states pin found.net
    found.role (get_or states found.net nothing) are is f.net_is new f.role_is state_is)
  where
    paths : f.at.path ≡ path
    paths = same_Some f.at.path path (sym f.at.path_is ∙ leaf.1)

    pin : Pin
    pin = LeafPin f.at.path (bit_in f.at.row)

    same_leaf : (p q : Path) (a b : PortBit) → LeafPin p a ≡ LeafPin q b → (p ≡ q) × (a ≡ b)
    same_leaf p q a b e = let x : p ≡ q = cc in let y : a ≡ b = cc in (x, y)

    -- an instance's path is its own
    not_before : (j : ℕ) → j < instance → slice_get known.paths j ≡ Some path → ⊥
    not_before j less at =
        paths_apart known design joined j instance path are less at leaf.1

    new : IsDoneTo known joined instance path start k pin → ⊥
    new (inl done) = not_before done.0 done.1 (done.2 ∙ ap Some paths)
    new (inr done) =
        let same = same_leaf f.at.path path (bit_in f.at.row) (bit_in done.row) done.pin_is in
        let less : done.k < k = done.to in
        let one : done.k ≡ k = pins.once done.k k done.row f.at.row done.from (omega arith) from to
        done.row_is f.at.row_is (sym same.1) in
        absurd (omega arith)

    split : (p : Pin) → IsDoneTo known joined instance path start (k + 1) p
        → IsDoneTo known joined instance path start k p ⊎ (p ≡ pin)
    split p (inl done) = inl (inl done)
    split p (inr done) = elim (cases_lt done.k k) [
      | inl less ↦ inl (inr (record {
        k = done.k;
        row = done.row;
        from = done.from;
        to = less;
        row_is = done.row_is;
        pin_is = done.pin_is;
      }))
      | inr more ↦
          let bound : done.k < k + 1 = done.to in
          let same : done.k ≡ k = omega arith in
          let rows = same_Some done.row f.at.row (sym done.row_is
          ∙ ap (slice_get joined.outer.rows) same ∙ f.at.row_is) in
          inr (done.pin_is ∙ ap (λ q. LeafPin q (bit_in done.row)) (sym paths)
          ∙ ap (λ r. LeafPin f.at.path (bit_in r)) rows)
    ]

    join : (p : Pin) → IsDoneTo known joined instance path start k p ⊎ (p ≡ pin)
        → IsDoneTo known joined instance path start (k + 1) p
    join p (inl (inl done)) = inl done
    join p (inl (inr done)) = let less : done.k < k = done.to in
        inr (record {
          k = done.k;
          row = done.row;
          from = done.from;
          to = omega arith;
          row_is = done.row_is;
          pin_is = done.pin_is;
        })
    join p (inr same) = inr (record {
      k = k;
      row = f.at.row;
      from = from;
      to = omega arith;
      row_is = f.at.row_is;
      pin_is = same ∙ ap (λ q. LeafPin q (bit_in f.at.row)) paths;
    })

-- no row yet
pub rows_none : (known : Known) (design : NetlistRec) (joined : Joined) (instance : ℕ)
    (path : Path) (start : ℕ) (states : List NetState)
    → AreStatesOf known design joined (IsDone known instance) states
    → AreStatesOf known design joined (IsDoneTo known joined instance path start start) states
rows_none known design joined instance path start states is =
    same_done known design joined (IsDone known instance)
    (IsDoneTo known joined instance path start start) states
    (λ p net on done. inl done)
    (λ p net on done. elim done [
      | inl before ↦ before
      | inr row ↦ let x : start ≤ row.k = row.from in let y : row.k < start = row.to in
          absurd (omega arith)
    ]) is

-- all rows of a leaf
pub rows_done : (known : Known) (design : NetlistRec) (joined : Joined) (instance : ℕ)
    (path : Path) (start end k : ℕ) (states : List NetState) → IsLeafAt known design instance path
    → ArePins known design joined instance path start end → end ≤ k
    → AreStatesOf known design joined (IsDoneTo known joined instance path start k) states
    → AreStatesOf known design joined (IsDone known (instance + 1)) states
rows_done known design joined instance path start end k states leaf pins whole is =
    same_done known design joined (IsDoneTo known joined instance path start k)
    (IsDone known (instance + 1)) states
    (λ p net on done. there p done)
    (λ p net on done. back p on done) is
  where
    there : (p : Pin) → IsDoneTo known joined instance path start k p
        → IsDone known (instance + 1) p
    there (TopPin place index) done = tt
    there (LeafPin q bit) (inl done) = let less : done.0 < instance = done.1 in
        (done.0, omega arith, done.2)
    there (LeafPin q bit) (inr row) =
        let e : LeafPin q bit ≡ LeafPin path (bit_in row.row) = row.pin_is in
        let same : q ≡ path = cc in
        (instance, omega arith, leaf.1 ∙ ap Some (sym same))

    back : (p : Pin) {net : ℕ} → OnNumber known design joined p net → IsDone known (instance + 1) p
        → IsDoneTo known joined instance path start k p
    back (TopPin place index) on done = inl tt
    back (LeafPin q bit) on done = elim (cases_lt done.0 instance) [
      | inl less ↦ inl (done.0, less, done.2)
      | inr more ↦
          let bound : done.0 < instance + 1 = done.1 in
          let same : done.0 ≡ instance = omega arith in
          let paths : path ≡ q = same_Some path q (sym leaf.1 ∙ ap (slice_get known.paths) (sym same)
          ∙ done.2) in
          let found = pins.all bit on.at (subst (λ x.
          Rattle.ix_hierarchy.specs.Pins.IsLeafPinOn design x bit on.at) (sym paths) on.on) in
          let less : found.0 < end = found.3 in
          inr (record {
            k = found.0;
            row = found.1;
            from = found.2;
            to = omega arith;
            row_is = found.4;
            pin_is = ap (λ x. LeafPin x bit) (sym paths)
                ∙ ap (λ x. LeafPin path x) (sym found.5);
          })
    ]

-- the net of a bit is there
pub net_there : (known : Known) (design : NetlistRec) (joined : Joined) (bits : List TopBit)
    (k : ℕ) (bit : TopBit) (states : List NetState) → IsJoined known design joined
    → AreTopBits design joined.instances.items known.paths joined.firsts.items bits
    → slice_get bits k ≡ Some bit → length states ≡ length joined.firsts.items
    → IfSome bit.net (λ net. net < length states)
net_there known design joined bits k bit states are top h long = by bit.net here.net_is
  where
    none : TopPlace
    none = record { place = 0; index = 0; number = 0; dir = Input }

    at : TopPlace
    at = get_or (top_places design) k none

    at_is : slice_get (top_places design) k ≡ Some at
    at_is = let many : length bits ≡ length (top_places design) = top.many in
        let less : k < length bits = slice_get_within bits k bit h in
        slice_get-get_or (top_places design) k none (omega arith)

    here : Rattle.ix_joined.specs.Joining.IsBitOf design joined.instances.items known.paths
        joined.firsts.items at bit
    here = top.each k at bit at_is h

    by : (o : Option ℕ) → IsFirstNet design joined.instances.items known.paths joined.firsts.items
        (TopPin at.place at.index) o → IfSome o (λ net. net < length states)
    by None off = tt
    by (Some net) on =
        let first = is_first known design joined (TopPin at.place at.index) net are on in
        let below : net < length joined.firsts.items = are.numbered.below first.at net first.number_is
        in omega arith

-- the net of a pin is there
pub pin_there : (known : Known) (design : NetlistRec) (joined : Joined) (instance k : ℕ)
    (found : LeafPinFound) (states : List NetState) → IsJoined known design joined
    → IsFoundAt known design joined instance k found
    → length states ≡ length joined.firsts.items → found.net < length states
pin_there known design joined instance k found states are f long =
    let first = is_first known design joined (LeafPin f.at.path (bit_in f.at.row)) found.net are
    f.net_is in
    let below : found.net < length joined.firsts.items =
    are.numbered.below first.at found.net first.number_is in omega arith

-- what isn't a leaf has no pins
pub no_leaf : (known : Known) (design : NetlistRec) (joined : Joined) (instance : ℕ) (path : Path)
    (states : List NetState) → slice_get known.paths instance ≡ Some path
    → (((inst : CellInstance) × IsLeaf design path inst) → ⊥)
    → AreStatesOf known design joined (IsDone known instance) states
    → AreStatesOf known design joined (IsDone known (instance + 1)) states
no_leaf known design joined instance path states at isnt is =
    same_done known design joined (IsDone known instance) (IsDone known (instance + 1)) states
    (λ p net on done. there p done)
    (λ p net on done. back p on done) is
  where
    there : (p : Pin) → IsDone known instance p → IsDone known (instance + 1) p
    there (TopPin place index) done = tt
    there (LeafPin q bit) done = let less : done.0 < instance = done.1 in
        (done.0, omega arith, done.2)

    back : (p : Pin) {net : ℕ} → OnNumber known design joined p net → IsDone known (instance + 1) p
        → IsDone known instance p
    back (TopPin place index) on done = tt
    back (LeafPin q bit) on done = elim (cases_lt done.0 instance) [
      | inl less ↦ (done.0, less, done.2)
      | inr more ↦
          let bound : done.0 < instance + 1 = done.1 in
          let same : done.0 ≡ instance = omega arith in
          let paths : path ≡ q = same_Some path q (sym at ∙ ap (slice_get known.paths) (sym same)
          ∙ done.2) in
          absurd (isnt (on.on.inst, subst (λ x. IsLeaf design x on.on.inst) (sym paths) on.on.leaf))
    ]

-- all pins
pub all_done : (known : Known) (design : NetlistRec) (joined : Joined) (count : ℕ)
    (states : List NetState) → IsJoined known design joined
    → length joined.instances.items ≤ count
    → AreStatesOf known design joined (IsDone known count) states
    → AreStates known design joined states
all_done known design joined count states are whole is = record {
  many = is.many;
  each = λ net state h. same_pins known.names known.device design
      (Among (IsDone known count) (λ p. OnNumber known design joined p net))
      (λ p. OnNumber known design joined p net) state
      (λ p on. on.1) (λ p on. (every p on, on)) (is.each net state h);
}
  where
    every : (p : Pin) {net : ℕ} → OnNumber known design joined p net → IsDone known count p
    every (TopPin place index) on = tt
    every (LeafPin path bit) on =
        let there = are.are_instances.every path on.on.inst on.on.leaf.is in
        let many : length known.paths ≡ length joined.instances.items = are.are_instances.many in
        let less : there.0 < length known.paths = there.1 in
        (there.0, omega arith, slice_get-get_or known.paths there.0 path there.1 ∙ ap Some there.2)

-- by nets
pub by_nets : (known : Known) (design : NetlistRec) (joined : Joined) (states : List NetState)
    → IsJoined known design joined → AreStates known design joined states
    → AreNetStates known design joined states
by_nets known design joined states are is = record {
  first = λ at net state number first h.
      let s = same_pins known.names known.device design (λ p. OnNumber known design joined p net)
      (λ p. IsOnNet design p at) state
      (λ p on. first_on known design joined p at net are number on)
      (λ p on. on_first known design joined p at net are number first on) (is.each net state h) in
      record {
        driven = s.driven;
        driven_twice = (
          λ e. let w = s.driven_twice.0 e in record {
            one = w.0;
            other = w.1;
            apart = w.2;
            drives = w.3;
            other_drives = w.4;
            on = w.5;
            other_on = w.6;
          },
          λ w. s.driven_twice.1 (
            w.one,
            w.other,
            w.apart,
            w.drives,
            w.other_drives,
            w.on,
            w.other_on,
          ),
        );
        has_sink = s.has_sink;
        constant = s.constant;
      };
  driven_first = λ net state h e. let d = (is.each net state h).driven.0 e in
      (is_first known design joined d.0 net are d.2).itself;
  sink_first = λ net state h e. let d = (is.each net state h).has_sink.0 e in
      (is_first known design joined d.0 net are d.2).itself;
}

-- at the start
pub all_nothing : (known : Known) (design : NetlistRec) (joined : Joined) (states : List NetState)
    → length states ≡ length joined.firsts.items
    → ((net : ℕ) (state : NetState) → slice_get states net ≡ Some state → state ≡ nothing)
    → AreStatesOf known design joined (λ _. ⊥) states
all_nothing known design joined states long none = record {
  many = long;
  each = λ net state h. subst (λ (s : NetState). IsState known.names known.device design
      (Among (λ _. ⊥) (λ p. OnNumber known design joined p net)) s) (sym (none net state h))
      (none_on known.names known.device design
      (Among (λ _. ⊥) (λ p. OnNumber known design joined p net)) (λ p on. on.0));
}

-- the path of an instance
pub path_of : (known : Known) (design : NetlistRec) (joined : Joined) (i : ℕ)
    → IsJoined known design joined → i < length joined.instances.items
    → (path : Path) × (slice_get known.paths i ≡ Some path)
path_of known design joined i are there =
    let many : length known.paths ≡ length joined.instances.items = are.are_instances.many in
    (get_or known.paths i [], slice_get-get_or known.paths i [] (omega arith))
