-- The rows of an instance are what crosses into it.
use Rattle.std.proofs.Common.{◌≡◌, ◌<◌, ◌≤◌, ◌+◌, ◌∙◌, ℕ, List, length, nat_eq, ◌&&◌}
use Rattle.std.proofs.Common.{Option, Some, None, slice_get, Bool, true, sym, ap, subst, refl, inl}
use Rattle.std.proofs.Common.{inr, arith}
use Rattle.std.proofs.lemmas.Bool.{cases_lt}
use Rattle.std.proofs.lemmas.Bool.Decides.{nat_tests}
use Rattle.std.proofs.lemmas.List.{same_from_push}
use Rattle.std.proofs.lemmas.Option.{slice_get_within, same_Some}
use Rattle.ix_rec.specs.declared.device.DeviceRec.{DeviceRec}
use Rattle.ix_rec.specs.declared.netlist.Cell.{Cell}
use Rattle.ix_rec.specs.declared.netlist.CellInstance.{CellInstance}
use Rattle.ix_rec.specs.declared.netlist.Net.{Net}
use Rattle.ix_rec.specs.declared.netlist.NetlistRec.{NetlistRec}
use Rattle.ix_rec.specs.declared.netlist.PortInstance.{PortInstance}
use Rattle.ix_rec.specs.declared.netlist.PortOwner.{PortOwner}
use Rattle.ix_rec.specs.declared.netlist.PortOwner.TheVariants.{ExtPort, Inst}
use Rattle.ix_hierarchy.specs.declared.instance.Instance.{Instance}
use Rattle.ix_hierarchy.specs.declared.kind.Kind.{Kind}
use Rattle.ix_hierarchy.specs.declared.row.Row.{Row}
use Rattle.ix_hierarchy.specs.Hierarchy.{Path, PortBit, inside, inside_at, instance_at}
use Rattle.ix_hierarchy.specs.Nets.{Occurrence, Occurs, Enters, names_own, names_of, is_own}
use Rattle.ix_hierarchy.specs.Nets.{same_bit, bit_of}
use Rattle.ix_hierarchy.specs.Broken.{IsOnTwo, same_owner}
use Rattle.ix_hierarchy.specs.Lists.{IsNumber, IsOuterRow, bit_in}
use Rattle.ix_bit_rows.specs.Table.{RowTable}
use Rattle.ix_pin_rows.specs.PinRows.{ArePinRows}
use Rattle.ix_inner_nets.specs.Inner.{NamesInside, IsInner}
use Rattle.ix_one_net.specs.Joinable.{IsOnOne}
use Rattle.ix_one_net.specs.Joining.{AreKnown, ArePaired, AreCovered}
use Rattle.ix_one_net.proofs.Parts.{gets_at, any_at, both_parts}
use Rattle.ix_one_net.proofs.Reached.{inside_there, there_inside, reaches}
use Rattle.ix_one_net.proofs.Around.{IsAround}

own_same : (a b : PortOwner) → is_own a ≡ true → is_own b ≡ true → same_owner a b
own_same ExtPort ExtPort h k = tt
own_same ExtPort (Inst b) h k = absurd cc
own_same (Inst a) b h k = absurd cc

same_both : (a b c : PortBit) → same_bit a c ≡ true → same_bit b c ≡ true → same_bit a b ≡ true
same_both a b c h k =
    let p = both_parts (nat_eq a.port c.port) (nat_eq a.index c.index) h in
    let q = both_parts (nat_eq b.port c.port) (nat_eq b.index c.index) k in
    let ap_is : a.port ≡ c.port = grind (arith, nat_tests, p.0) in
    let bp_is : b.port ≡ c.port = grind (arith, nat_tests, q.0) in
    let ai_is : a.index ≡ c.index = grind (arith, nat_tests, p.1) in
    let bi_is : b.index ≡ c.index = grind (arith, nat_tests, q.1) in
    let port : nat_eq a.port b.port ≡ true = grind (arith, nat_tests) in
    let index : nat_eq a.index b.index ≡ true = grind (arith, nat_tests) in
    both_true port index
  where
    both_true : {s t : Bool} → s ≡ true → t ≡ true → (s && t) ≡ true
    both_true {s} {t} h k = cc

-- two nets that name a bit of the cell itself
two_names : (cell : Cell) (bit : PortBit) (m n : ℕ) (a b : Net) → m < n
    → slice_get cell.nets m ≡ Some a → slice_get cell.nets n ≡ Some b
    → names_own a bit ≡ true → names_own b bit ≡ true → IsOnTwo cell n
two_names cell bit m n a b less a_is b_is h k =
    let x = any_at (λ (named : PortInstance). is_own named.owner && same_bit (bit_of named) bit)
    a.port_insts h in
    let y = any_at (λ (named : PortInstance). is_own named.owner && same_bit (bit_of named) bit)
    b.port_insts k in
    let p = both_parts (is_own x.1.owner) (same_bit (bit_of x.1) bit) x.3 in
    let q = both_parts (is_own y.1.owner) (same_bit (bit_of y.1) bit) y.3 in
    record {
      place = y.0;
      named = y.1;
      here = record { of_net = b; net_is = b_is; named_is = y.2 };
      earlier = m;
      before = less;
      other_place = x.0;
      other = x.1;
      there = record { of_net = a; net_is = a_is; named_is = x.2 };
      owner = own_same x.1.owner y.1.owner p.0 q.0;
      same = same_both (bit_of x.1) (bit_of y.1) bit p.1 q.1;
    }

one_name : (design : NetlistRec) (path : Path) (inst : CellInstance) (bit : PortBit) (m n : ℕ)
    → IsOnOne design → instance_at design path ≡ Some inst
    → NamesInside design inst.cell bit m → NamesInside design inst.cell bit n → m ≡ n
one_name design path inst bit m n one at M N =
    let same : N.cell ≡ M.cell = same_Some N.cell M.cell (sym N.cell_is ∙ M.cell_is) in
    let n_is : slice_get M.cell.nets n ≡ Some N.of_net =
    ap (λ (c : Cell). slice_get c.nets n) (sym same) ∙ N.net_is in
    let in_cell : inside_at design path ≡ Some M.cell =
    there_inside design path inst M.cell at M.cell_is in
    elim (cases_lt m n) [
      | inl w ↦ absurd (one path M.cell n in_cell
          (two_names M.cell bit m n M.of_net N.of_net w M.net_is n_is M.names N.names))
      | inr w ↦ elim (cases_lt n m) [
        | inl v ↦ absurd (one path M.cell m in_cell
            (two_names M.cell bit n m N.of_net M.of_net v n_is M.net_is N.names M.names))
        | inr v ↦ omega arith
      ]
    ]

-- what a row with a net inside stands for
pub record IsPair (design : NetlistRec) (all : List Instance) (paths : List Path) (x y : ℕ)
    : Type 0 where
  pub upper : Occurrence
  pub lower : Occurrence
  pub upper_is : IsNumber design all paths upper x
  pub lower_is : IsNumber design all paths lower y
  pub enters : Enters design upper lower

pub pair_at : (design : NetlistRec) (device : DeviceRec) (kinds : List Kind) (outer : RowTable)
    (inner : List (Option ℕ)) (all : List Instance) (paths : List Path) (nets instance : ℕ)
    (start end k : ℕ) (row : Row) (net : ℕ)
    → AreKnown design device kinds outer inner all paths nets
    → (A : IsAround design all paths instance)
    → ArePinRows outer A.cell A.one.number start end → start ≤ k → k < end
    → slice_get outer.rows k ≡ Some row → slice_get inner k ≡ Some (Some net)
    → IsPair design all paths (A.parent.first_net + row.net) (A.one.first_net + net)
pair_at design device kinds outer inner all paths nets instance start end k row net K A P from to
    row_is net_is =
    let of_row = P.each k row from to row_is in
    let O : IsOuterRow A.cell row = of_row.1 in
    let N : NamesInside design A.inst.cell (bit_in row) net =
    (K.joinable.inner_nets.each k row (Some net) A.inst row_is net_is
    (ap (slice_get design.inst_list) of_row.0 ∙ A.in_list)
    (reaches design A.path A.inst A.at)).0 in
    let here : Occurs design record { path = A.up; net = row.net } A.cell O.0 =
    record { inside = A.in_up; net_is = O.1 } in
    let there : Occurs design record { path = A.path; net = net } N.cell N.of_net = record {
      inside = there_inside design A.path A.inst N.cell A.at N.cell_is;
      net_is = N.net_is;
    } in
    record {
      upper = record { path = A.up; net = row.net };
      lower = record { path = A.path; net = net };
      upper_is = record {
        cell = A.cell;
        net = O.0;
        occurs = here;
        instance = A.one.parent;
        path_is = A.up_is;
        one = A.parent;
        one_is = A.parent_is;
        number_is = refl;
      };
      lower_is = record {
        cell = N.cell;
        net = N.of_net;
        occurs = there;
        instance = instance;
        path_is = A.path_is;
        one = A.one;
        one_is = A.one_is;
        number_is = refl;
      };
      enters = record {
        place = A.one.place;
        below = A.below;
        cell = A.cell;
        net = O.0;
        here = here;
        instance = A.one.number;
        which = A.which;
        inner_cell = N.cell;
        inner_net = N.of_net;
        there = there;
        bit = bit_in row;
        outside = subst (λ (i : ℕ). names_of i O.0 (bit_in row) ≡ true) of_row.0 O.2;
        inside = N.names;
      };
    }

-- the net of a row inside is the one that a crossing goes to
inner_is : (design : NetlistRec) (path : Path) (inst : CellInstance) (bit : PortBit)
    (found : Option ℕ) (net : ℕ) → IsOnOne design → instance_at design path ≡ Some inst
    → IsInner design inst.cell bit found → NamesInside design inst.cell bit net
    → found ≡ Some net
inner_is design path inst bit None net one at I N = absurd (I net N)
inner_is design path inst bit (Some other) net one at I N =
    ap Some (one_name design path inst bit other net one at I.0 N)

pub covered : (design : NetlistRec) (device : DeviceRec) (kinds : List Kind) (outer : RowTable)
    (inner : List (Option ℕ)) (all : List Instance) (paths : List Path) (nets instance : ℕ)
    (start end : ℕ) (root : ℕ → ℕ) → AreKnown design device kinds outer inner all paths nets
    → (A : IsAround design all paths instance)
    → ArePinRows outer A.cell A.one.number start end
    → ArePaired outer.rows inner start end A.parent.first_net A.one.first_net root
    → AreCovered design all paths instance root
covered design device kinds outer inner all paths nets instance start end root K A P pairs
    upper lower x y E path_is N M =
    let at_path : A.path ≡ lower.path = same_Some A.path lower.path (sym A.path_is ∙ path_is) in
    let parts : (A.up ≡ upper.path) × (A.one.place ≡ E.place) =
    same_from_push A.up upper.path A.one.place E.place (sym A.below ∙ at_path ∙ E.below) in
    let in_cell : A.cell ≡ E.cell = same_Some A.cell E.cell
    (sym A.in_up ∙ ap (inside_at design) parts.0 ∙ E.here.inside) in
    let number : A.one.number ≡ E.instance = same_Some A.one.number E.instance
    (sym A.which ∙ ap (slice_get A.cell.insts) parts.1
    ∙ ap (λ (c : Cell). slice_get c.insts E.place) in_cell ∙ E.which) in
    let row : Row = record {
      instance = A.one.number;
      port = E.bit.port;
      index = E.bit.index;
      net = upper.net;
    } in
    let O : IsOuterRow A.cell row = (
      E.net,
      ap (λ (c : Cell). slice_get c.nets upper.net) in_cell ∙ E.here.net_is,
      subst (λ (i : ℕ). names_of i E.net E.bit ≡ true) (sym number) E.outside,
    ) in
    let at = P.all row refl O in
    let many = K.joinable.inner_nets.many in
    let few : at.0 < length outer.rows = slice_get_within outer.rows at.0 row at.3 in
    let found = gets_at inner at.0 (omega arith) in
    let there = inside_there design lower.path E.inner_cell E.there.inside in
    let same : there.0 ≡ A.inst = same_Some there.0 A.inst
    (sym there.1 ∙ ap (instance_at design) (sym at_path) ∙ A.at) in
    let I : NamesInside design A.inst.cell E.bit lower.net = record {
      cell = E.inner_cell;
      cell_is = ap (λ (i : CellInstance). inside design i.cell) (sym same) ∙ there.2;
      of_net = E.inner_net;
      net_is = E.there.net_is;
      names = E.inside;
    } in
    let is : found.0 ≡ Some lower.net =
    inner_is design A.path A.inst E.bit found.0 lower.net K.joinable.one A.at
    (K.joinable.inner_nets.each at.0 row found.0 A.inst at.3 found.1 A.in_list
    (reaches design A.path A.inst A.at)) I in
    let joined : root (A.parent.first_net + upper.net) ≡ root (A.one.first_net + lower.net) =
    pairs at.0 row lower.net at.1 at.2 at.3 (found.1 ∙ ap Some is) in
    let x_is : x ≡ A.parent.first_net + upper.net =
    K.numbered.same upper x (A.parent.first_net + upper.net) N record {
      cell = E.cell;
      net = E.net;
      occurs = E.here;
      instance = A.one.parent;
      path_is = A.up_is ∙ ap Some parts.0;
      one = A.parent;
      one_is = A.parent_is;
      number_is = refl;
    } in
    let y_is : y ≡ A.one.first_net + lower.net =
    K.numbered.same lower y (A.one.first_net + lower.net) M record {
      cell = E.inner_cell;
      net = E.inner_net;
      occurs = E.there;
      instance = instance;
      path_is = path_is;
      one = A.one;
      one_is = A.one_is;
      number_is = refl;
    } in
    ap root x_is ∙ joined ∙ sym (ap root y_is)
