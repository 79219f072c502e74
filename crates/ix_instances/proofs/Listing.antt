-- One more instance is listed.
use Rattle.std.proofs.Common.{◌≡◌, ◌<◌, ◌≤◌, ◌+◌, ◌-◌, ◌^◌, ◌∙◌, ℕ, suc, zero, List, [], ◌∷◌, ◌++◌}
use Rattle.std.proofs.Common.{length}
use Rattle.std.proofs.Common.{Option, Some, None, slice_get, sym, ap, subst, refl, inl, inr, arith}
use Rattle.std.proofs.Common.{Contains}
use Rattle.std.proofs.lemmas.List.{length_push}
use Rattle.std.proofs.lemmas.Option.{slice_get_within, same_Some}
use Rattle.ix_rec.specs.declared.netlist.Cell.{Cell}
use Rattle.ix_rec.specs.declared.netlist.CellInstance.{CellInstance}
use Rattle.ix_rec.specs.declared.netlist.NetlistRec.{NetlistRec}
use Rattle.ix_hierarchy.specs.declared.instance.Instance.{Instance}
use Rattle.ix_hierarchy.specs.Hierarchy.{Path, inside, instance_at, inside_at}
use Rattle.ix_hierarchy.specs.Walk.{Spot, InstanceAt, IsLess}
use Rattle.ix_hierarchy.specs.Broken.{BreaksN10}
use Rattle.ix_hierarchy.specs.Lists.{IsOf, nets_in}
use Rattle.ix_instances.specs.Walked.{AreListed, HasSpots}
use Rattle.ix_instances.proofs.Gets.{gets_left, gets_cases, contains_at}
use Rattle.ix_instances.proofs.Ways.{less_irrefl}
use Rattle.ix_instances.proofs.Reached.{there_inside, is_at, nets_inside, nets_none, at_top}
use Rattle.ix_instances.proofs.Spots.{AreOwn, nets_from, net_apart, own_nets, own_none}
use Rattle.ix_instances.proofs.Spots.{own_instance, more_spots, few_spots}

-- what is said of an instance stays so as others are listed
of_more : (design : NetlistRec) (paths : List Path) (more path : Path) (one : Instance)
    → IsOf design paths path one → IsOf design (paths ++ more ∷ []) path one
of_more design paths more path one (inl w) = inl w
of_more design paths more path one
    (inr (parent, cell, inst, at, below, in_cell, number, in_list, declared)) =
    inr (
      parent,
      cell,
      inst,
      gets_left paths (more ∷ []) one.parent parent at,
      below,
      in_cell,
      number,
      in_list,
      declared,
    )

-- the spots of the nets of an instance
pub record HasOwn (design : NetlistRec) (path : Path) (count : ℕ) : Type 0 where
  pub own : List Spot
  pub are : AreOwn design path own count
  pub apart : (k : ℕ) (spot : Spot) → slice_get own k ≡ Some spot → spot ≡ InstanceAt path → ⊥

pub own_of : (design : NetlistRec) (path : Path) (inst : CellInstance)
    → instance_at design path ≡ Some inst → HasOwn design path (nets_in design inst.cell)
own_of design path inst is = by (inside design inst.cell) refl
  where
    by : (o : Option Cell) → inside design inst.cell ≡ o
        → HasOwn design path (nets_in design inst.cell)
    by None e = record {
      own = [];
      are = subst (λ (n : ℕ). AreOwn design path [] n) (sym (nets_none design inst.cell e))
          (own_none design path);
      apart = λ k spot h s. cc;
    }
    by (Some cell) e = record {
      own = nets_from path 0 (length cell.nets);
      are = subst (λ (n : ℕ). AreOwn design path (nets_from path 0 (length cell.nets)) n)
          (sym (nets_inside design inst.cell cell e))
          (own_nets design path cell (there_inside design path inst cell is e));
      apart = λ k spot h s. net_apart path (length cell.nets) k spot h s;
    }

pub listed_some : (design : NetlistRec) (all : List Instance) (paths : List Path) (nets : ℕ)
    → AreListed design all paths nets → 0 < length all
listed_some design all paths nets L =
    let m = L.many in
    let h : 0 < length paths = slice_get_within paths 0 [] L.top in
    omega arith

spots_more : (design : NetlistRec) (all : List Instance) (paths : List Path) (nets : ℕ)
    (one : Instance) (parent : Path) (inst : CellInstance)
    → AreListed design all paths nets
    → instance_at design (parent ++ one.place ∷ []) ≡ Some inst → inst.cell ≡ one.declaration
    → (Contains paths (parent ++ one.place ∷ []) → ⊥)
    → HasSpots design (paths ++ (parent ++ one.place ∷ []) ∷ [])
    (length (all ++ one ∷ []) + (nets + nets_in design one.declaration) - 1)
spots_more design all paths nets one parent inst L is declared new =
    let some = listed_some design all paths nets L in
    let path : Path = parent ++ one.place ∷ [] in
    let own : HasOwn design path (nets_in design inst.cell) = own_of design path inst is in
    let named : nets_in design inst.cell ≡ nets_in design one.declaration =
    ap (nets_in design) declared in
    let m : length (all ++ one ∷ []) ≡ length all + 1 = length_push all one in
    let sum : length all + nets - 1 + (nets_in design inst.cell + 1)
    ≡ length (all ++ one ∷ []) + (nets + nets_in design one.declaration) - 1 = omega arith in
    subst (λ (n : ℕ). HasSpots design (paths ++ path ∷ []) n) sum
    (more_spots design paths path (length all + nets - 1) (nets_in design inst.cell + 1)
    (InstanceAt path ∷ own.own) L.spots
    (own_instance design path parent one.place inst own.own (nets_in design inst.cell) refl is
    own.are own.apart) new)

pub listed_more : (design : NetlistRec) (all : List Instance) (paths : List Path) (nets : ℕ)
    (one : Instance) (parent : Path) (cell : Cell) (inst : CellInstance) → ¬ BreaksN10 design
    → AreListed design all paths nets → slice_get paths one.parent ≡ Some parent
    → inside_at design parent ≡ Some cell → slice_get cell.insts one.place ≡ Some one.number
    → slice_get design.inst_list one.number ≡ Some inst → inst.cell ≡ one.declaration
    → one.first_net ≡ nets → one.place < length all
    → ((i : ℕ) (path : Path) → slice_get paths i ≡ Some path
    → IsLess path (parent ++ one.place ∷ []))
    → AreListed design (all ++ one ∷ []) (paths ++ (parent ++ one.place ∷ []) ∷ [])
    (nets + nets_in design one.declaration)
listed_more design all paths nets one parent cell inst keeps L at in_cell number in_list declared
    first place before =
    let some = listed_some design all paths nets L in
    let many = L.many in
    let q : Path = parent ++ one.place ∷ [] in
    let m : length (all ++ one ∷ []) ≡ length all + 1 = length_push all one in
    let n : length (paths ++ q ∷ []) ≡ length paths + 1 = length_push paths q in
    let is_of : IsOf design (paths ++ q ∷ []) q one =
    inr (
      parent,
      cell,
      inst,
      gets_left paths (q ∷ []) one.parent parent at,
      refl,
      in_cell,
      number,
      in_list,
      declared,
    ) in
    let is = is_at design (paths ++ q ∷ []) q one is_of in
    let spots : HasSpots design (paths ++ q ∷ [])
    (length (all ++ one ∷ []) + (nets + nets_in design one.declaration) - 1) =
    spots_more design all paths nets one parent is.0 L is.1 is.2
    (λ has. let k = contains_at paths q has in less_irrefl q (before k.0 q k.1)) in
    record {
      many = omega arith;
      top = gets_left paths (q ∷ []) 0 [] L.top;
      each = λ i path other a b. elim (gets_cases paths q i path a) [
        | inl v ↦ elim (gets_cases all one i other b) [
          | inl w ↦ of_more design paths q path other (L.each i path other v w)
          | inr w ↦
              let h : i < length paths = slice_get_within paths i path v in
              let e = w.0 in
              absurd (omega arith)
        ]
        | inr v ↦ elim (gets_cases all one i other b) [
          | inl w ↦
              let h : i < length all = slice_get_within all i other w in
              let e = v.0 in
              absurd (omega arith)
          | inr w ↦ subst (λ (o : Instance). IsOf design (paths ++ q ∷ []) path o) w.1
              (subst (λ (p : Path). IsOf design (paths ++ q ∷ []) p one) v.1 is_of)
        ]
      ];
      parents = λ i other h b. elim (gets_cases all one i other b) [
        | inl w ↦ L.parents i other h w
        | inr w ↦
            let e = w.0 in
            let p : other.parent ≡ one.parent = ap (λ (o : Instance). o.parent) (sym w.1) in
            let l : other.place ≡ one.place = ap (λ (o : Instance). o.place) (sym w.1) in
            let r : one.parent < length paths = slice_get_within paths one.parent parent at in
            (omega arith, omega arith)
      ];
      rise = λ i j a b less h k. elim (gets_cases paths q j b k) [
        | inl w ↦ elim (gets_cases paths q i a h) [
          | inl v ↦ L.rise i j a b less v w
          | inr v ↦
              let r : j < length paths = slice_get_within paths j b w in
              let e = v.0 in
              absurd (omega arith)
        ]
        | inr w ↦ elim (gets_cases paths q i a h) [
          | inl v ↦ subst (λ (p : Path). IsLess a p) w.1 (before i a v)
          | inr v ↦ let e = v.0 in let f = w.0 in absurd (omega arith)
        ]
      ];
      first_at = λ other h. elim (gets_cases all one 0 other h) [
        | inl w ↦ L.first_at other w
        | inr w ↦ let e = w.0 in absurd (omega arith)
      ];
      nets_next = λ i other next h k. elim (gets_cases all one (i + 1) next k) [
        | inl w ↦ elim (gets_cases all one i other h) [
          | inl v ↦ L.nets_next i other next v w
          | inr v ↦
              let r : i + 1 < length all = slice_get_within all (i + 1) next w in
              let e = v.0 in
              absurd (omega arith)
        ]
        | inr w ↦ elim (gets_cases all one i other h) [
          | inl v ↦
              let e : i ≡ length all - 1 = let f = w.0 in omega arith in
              let s : next.first_net ≡ one.first_net =
              ap (λ (o : Instance). o.first_net) (sym w.1) in
              s ∙ first ∙ L.nets_end other (ap (slice_get all) (sym e) ∙ v)
          | inr v ↦ let e = v.0 in let f = w.0 in absurd (omega arith)
        ]
      ];
      nets_end = λ other h. elim (gets_cases all one (length (all ++ one ∷ []) - 1) other h) [
        | inl w ↦
            let r : length (all ++ one ∷ []) - 1 < length all = slice_get_within all _ other w in
            absurd (omega arith)
        | inr w ↦
            let s : other.first_net ≡ nets = ap (λ (o : Instance). o.first_net) (sym w.1) ∙ first in
            let t : nets_in design other.declaration ≡ nets_in design one.declaration =
            ap (λ (o : Instance). nets_in design o.declaration) (sym w.1) in
            omega arith
      ];
      spots = spots;
      few =
          let f : length (all ++ one ∷ []) + (nets + nets_in design one.declaration) - 1 ≤ 2 ^ 22 =
          few_spots design _ _ keeps spots in
          omega arith;
    }

-- the top alone
pub listed_top : (design : NetlistRec) (one : Instance) → ¬ BreaksN10 design
    → one.number ≡ 0 → one.parent ≡ 0 → one.place ≡ 0 → one.declaration ≡ design.top_inst.cell
    → one.first_net ≡ 0
    → AreListed design (one ∷ []) ([] ∷ []) (nets_in design one.declaration)
listed_top design one keeps number parent place declared first =
    let own : HasOwn design [] (nets_in design design.top_inst.cell) =
    own_of design [] design.top_inst (at_top design) in
    let named : nets_in design design.top_inst.cell ≡ nets_in design one.declaration =
    ap (nets_in design) (sym declared) in
    let many : 1 + nets_in design one.declaration - 1 ≡ nets_in design one.declaration =
    omega arith in
    let m = own.are.many in
    let spots : HasSpots design ([] ∷ []) (1 + nets_in design one.declaration - 1) = record {
      spots = own.own;
      differ = own.are.differ;
      counted = own.are.counted;
      inside = λ k spot h. (0, omega arith, sym (own.are.at k spot h));
      many = omega arith;
    } in
    record {
      many = refl;
      top = refl;
      each = λ i path other a b. each_one i path other a b;
      parents = λ i other some b.
          let w : i < 1 = slice_get_within (one ∷ []) i other b in absurd (omega arith);
      rise = λ i j a b less h k.
          let w : j < 1 = slice_get_within ([] ∷ []) j b k in absurd (omega arith);
      first_at = λ other h. ap (λ (o : Instance). o.first_net) (sym (same_Some _ _ h)) ∙ first;
      nets_next = λ i other next h k.
          let w : i + 1 < 1 = slice_get_within (one ∷ []) (i + 1) next k in absurd (omega arith);
      nets_end = λ other h.
          let e : one ≡ other = same_Some one other h in
          let s : other.first_net ≡ 0 = ap (λ (o : Instance). o.first_net) (sym e) ∙ first in
          let t : nets_in design other.declaration ≡ nets_in design one.declaration =
          ap (λ (o : Instance). nets_in design o.declaration) (sym e) in
          omega arith;
      spots = spots;
      few =
          let f : 1 + nets_in design one.declaration - 1 ≤ 2 ^ 22 =
          few_spots design _ _ keeps spots in
          omega arith;
    }
  where
    each_one : (i : ℕ) (path : Path) (other : Instance) → slice_get ([] ∷ []) i ≡ Some path
        → slice_get (one ∷ []) i ≡ Some other → IsOf design ([] ∷ []) path other
    each_one zero path other a b =
        let e : one ≡ other = same_Some one other b in
        subst (λ (o : Instance). IsOf design ([] ∷ []) path o) e
        (inl (sym (same_Some _ _ a), number, parent, place, declared))
    each_one (suc i) path other a b = absurd cc
