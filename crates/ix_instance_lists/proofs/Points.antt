-- The instance that has a number, by the place where the first numbers pass it.
use Rattle.std.proofs.Common.{◌≡◌, ◌<◌, ◌≤◌, ◌+◌, ◌-◌, ◌∙◌, ℕ, List, [], length, get_or, leb}
use Rattle.std.proofs.Common.{Some, slice_get, sym, ap, subst, inl, inr, arith, true, false}
use Rattle.std.proofs.Common.{leb-true}
use Rattle.std.specs.List.Sorted.{IsNonDecreasingBy, IsPartitionPoint}
use Rattle.std.proofs.lemmas.Bool.{cases_lt}
use Rattle.std.proofs.lemmas.Bool.Decides.{nat_tests}
use Rattle.std.proofs.lemmas.Option.{slice_get-get_or, slice_get_within, get_or_from_slice_get}
use Rattle.ix_rec.specs.declared.netlist.NetlistRec.{NetlistRec}
use Rattle.ix_hierarchy.specs.declared.instance.Instance.{Instance}
use Rattle.ix_hierarchy.specs.Hierarchy.{Path}
use Rattle.ix_hierarchy.specs.Lists.{AreInstances, nets_in}
use Rattle.ix_instance_lists.specs.Listed.{HasNet}
use Rattle.ix_instance_lists.proofs.Gets.{gets_at}
use Rattle.ix_instance_lists.proofs.Numbered.{first_nets_rise}

pub firsts_sorted : (design : NetlistRec) (all : List Instance) (paths : List Path) (nets : ℕ)
    → AreInstances design all paths nets → IsNonDecreasingBy (λ (one : Instance). one.first_net) all
firsts_sorted design all paths nets A i j d less few =
    first_nets_rise design all paths nets A i j (get_or all i d) (get_or all j d) less
    (slice_get-get_or all i d (omega arith)) (slice_get-get_or all j d few)

abbrev pub HasPoint : List Instance → (occurrence point : ℕ) → Type 0
HasPoint all occurrence point = IsPartitionPoint
    (λ (one : Instance). leb one.first_net occurrence ≡ true)
    (λ (one : Instance). leb one.first_net occurrence ≡ false) all point

pub point_some : (design : NetlistRec) (all : List Instance) (paths : List Path) (nets : ℕ)
    → AreInstances design all paths nets → (occurrence point : ℕ) → HasPoint all occurrence point
    → 1 ≤ point
point_some design all paths nets A occurrence point P = elim (cases_lt 0 point) [
  | inl w ↦ omega arith
  | inr w ↦
      let m = A.many in
      let t : 0 < length paths = slice_get_within paths 0 [] A.top in
      let top = gets_at all 0 (omega arith) in
      let first : top.0.first_net ≡ 0 = A.first_at top.0 top.1 in
      let read : get_or all 0 top.0 ≡ top.0 = get_or_from_slice_get all 0 top.0 top.0 top.1 in
      let f : leb (get_or all 0 top.0).first_net occurrence ≡ false =
      P.1 0 top.0 (omega arith) (omega arith) in
      let g : leb top.0.first_net occurrence ≡ false =
      subst (λ (o : Instance). leb o.first_net occurrence ≡ false) read f in
      absurd (grind (arith, nat_tests))
]

pub point_has : (design : NetlistRec) (all : List Instance) (paths : List Path) (nets : ℕ)
    → AreInstances design all paths nets → (occurrence point : ℕ) → occurrence < nets
    → point ≤ length all → HasPoint all occurrence point
    → HasNet design all (point - 1) occurrence
point_has design all paths nets A occurrence point few bound P =
    let some : 1 ≤ point = point_some design all paths nets A occurrence point P in
    let one = gets_at all (point - 1) (omega arith) in
    let read : get_or all (point - 1) one.0 ≡ one.0 =
    get_or_from_slice_get all (point - 1) one.0 one.0 one.1 in
    let f : leb (get_or all (point - 1) one.0).first_net occurrence ≡ true =
    P.0 (point - 1) one.0 (omega arith) (omega arith) in
    let g : one.0.first_net ≤ occurrence = leb-true _ _
    (subst (λ (o : Instance). leb o.first_net occurrence ≡ true) read f) in
    record {
      one = one.0;
      one_is = one.1;
      from = g;
      below = elim (cases_lt point (length all)) [
        | inl more ↦
            let next = gets_at all point more in
            let at_next : slice_get all (point - 1 + 1) ≡ Some next.0 =
            ap (slice_get all) (omega arith) ∙ next.1 in
            let n : next.0.first_net ≡ one.0.first_net + nets_in design one.0.declaration =
            A.nets_next (point - 1) one.0 next.0 one.1 at_next in
            let read_next : get_or all point next.0 ≡ next.0 =
            get_or_from_slice_get all point next.0 next.0 next.1 in
            let h : leb (get_or all point next.0).first_net occurrence ≡ false =
            P.1 point next.0 (omega arith) (omega arith) in
            let k : leb next.0.first_net occurrence ≡ false =
            subst (λ (o : Instance). leb o.first_net occurrence ≡ false) read_next h in
            grind (arith, nat_tests)
        | inr last ↦
            let e : point - 1 ≡ length all - 1 = omega arith in
            let n : nets ≡ one.0.first_net + nets_in design one.0.declaration =
            A.nets_end one.0 (ap (slice_get all) (sym e) ∙ one.1) in
            omega arith
      ];
    }
