-- Numbers of occurrences are their order.
use Rattle.std.proofs.Common.{◌≡◌, ◌⊎◌, ◌<◌, ◌≤◌, ◌+◌, ◌-◌, ◌∙◌, ℕ, suc, zero, List, [], length}
use Rattle.std.proofs.Common.{Option, Some, None, slice_get, sym, ap, subst, refl, inl, inr, arith}
use Rattle.std.proofs.Common.{add-one}
use Rattle.std.proofs.lemmas.Option.{slice_get_within, same_Some}
use Rattle.std.proofs.lemmas.Bool.{cases_lt, cases_eq}
use Rattle.ix_rec.specs.declared.netlist.Cell.{Cell}
use Rattle.ix_rec.specs.declared.netlist.CellInstance.{CellInstance}
use Rattle.ix_rec.specs.declared.netlist.NetlistRec.{NetlistRec}
use Rattle.ix_hierarchy.specs.declared.instance.Instance.{Instance}
use Rattle.ix_hierarchy.specs.Hierarchy.{Path, inside, inside_at}
use Rattle.ix_hierarchy.specs.Lists.{AreInstances, IsNumber, nets_in}
use Rattle.ix_hierarchy.specs.Nets.{Occurrence}
use Rattle.ix_hierarchy.specs.Walk.{IsLess}
use Rattle.ix_instance_lists.specs.Listed.{HasNet, AreNumbered}
use Rattle.ix_instance_lists.proofs.Gets.{gets_at, contains_at}
use Rattle.ix_instance_lists.proofs.Ways.{less_irrefl, less_trans, less_total, instances_before}
use Rattle.ix_instance_lists.proofs.Ways.{nets_before, before_nets}
use Rattle.ix_instance_lists.proofs.Reached.{inside_there, there_inside, is_at, nets_inside}
use Rattle.ix_instance_lists.proofs.Reached.{nets_none}

same_at : {X : Type 0} → (xs : List X) (i j : ℕ) (x y : X) → i ≡ j → slice_get xs i ≡ Some x
    → slice_get xs j ≡ Some y → x ≡ y
same_at xs i j x y e a b = same_Some x y (sym a ∙ ap (slice_get xs) e ∙ b)

-- one instance's nets come before those of a later one
pub nets_apart : (design : NetlistRec) (all : List Instance) (paths : List Path) (nets : ℕ)
    → AreInstances design all paths nets → (i j : ℕ) (one other : Instance) → i < j
    → slice_get all i ≡ Some one → slice_get all j ≡ Some other
    → one.first_net + nets_in design one.declaration ≤ other.first_net
nets_apart design all paths nets A i zero one other less a b = absurd (omega arith)
nets_apart design all paths nets A i (suc j) one other less a b =
    let within : suc j < length all = slice_get_within all (suc j) other b in
    let mid = gets_at all j (omega arith) in
    let next : other.first_net ≡ mid.0.first_net + nets_in design mid.0.declaration =
    A.nets_next j mid.0 other mid.1 (ap (slice_get all) (add-one j) ∙ b) in
    elim (cases_lt i j) [
      | inl w ↦
          let h : one.first_net + nets_in design one.declaration ≤ mid.0.first_net =
          nets_apart design all paths nets A i j one mid.0 w a mid.1 in
          omega arith
      | inr w ↦
          let e : i ≡ j = omega arith in
          let s : one ≡ mid.0 = same_at all i j one mid.0 e a mid.1 in
          let n : other.first_net ≡ one.first_net + nets_in design one.declaration =
          next ∙ ap (λ (o : Instance). o.first_net + nets_in design o.declaration) (sym s) in
          omega arith
    ]

pub nets_within : (design : NetlistRec) (all : List Instance) (paths : List Path) (nets : ℕ)
    → AreInstances design all paths nets → (i : ℕ) (one : Instance) → slice_get all i ≡ Some one
    → one.first_net + nets_in design one.declaration ≤ nets
nets_within design all paths nets A i one a =
    let within : i < length all = slice_get_within all i one a in
    let last = gets_at all (length all - 1) (omega arith) in
    let end : nets ≡ last.0.first_net + nets_in design last.0.declaration =
    A.nets_end last.0 last.1 in
    elim (cases_lt i (length all - 1)) [
      | inl w ↦
          let h : one.first_net + nets_in design one.declaration ≤ last.0.first_net =
          nets_apart design all paths nets A i (length all - 1) one last.0 w a last.1 in
          omega arith
      | inr w ↦
          let e : i ≡ length all - 1 = omega arith in
          let s : one ≡ last.0 = same_at all i (length all - 1) one last.0 e a last.1 in
          let n : nets ≡ one.first_net + nets_in design one.declaration =
          end ∙ ap (λ (o : Instance). o.first_net + nets_in design o.declaration) (sym s) in
          omega arith
    ]

pub first_nets_rise : (design : NetlistRec) (all : List Instance) (paths : List Path) (nets : ℕ)
    → AreInstances design all paths nets → (i j : ℕ) (one other : Instance) → i ≤ j
    → slice_get all i ≡ Some one → slice_get all j ≡ Some other → one.first_net ≤ other.first_net
first_nets_rise design all paths nets A i j one other less a b = elim (cases_lt i j) [
  | inl w ↦
      let h = nets_apart design all paths nets A i j one other w a b in
      omega arith
  | inr w ↦
      let e : i ≡ j = omega arith in
      let s : one.first_net ≡ other.first_net =
      ap (λ (o : Instance). o.first_net) (same_at all i j one other e a b) in
      omega arith
]

-- places of paths
index_less : (design : NetlistRec) (all : List Instance) (paths : List Path) (nets : ℕ)
    → AreInstances design all paths nets → (i j : ℕ) (p q : Path) → slice_get paths i ≡ Some p
    → slice_get paths j ≡ Some q → IsLess p q → i < j
index_less design all paths nets A i j p q a b less = elim (cases_lt i j) [
  | inl w ↦ w
  | inr w ↦ elim (cases_eq j i) [
    | inl e ↦
        let s : q ≡ p = same_at paths j i q p e b a in
        absurd (less_irrefl p (subst (λ (x : Path). IsLess p x) s less))
    | inr n ↦
        let back : IsLess q p = instances_before q p (A.rise j i q p (omega arith) b a) in
        absurd (less_irrefl p (less_trans p q p less back))
  ]
]

index_same : (design : NetlistRec) (all : List Instance) (paths : List Path) (nets : ℕ)
    → AreInstances design all paths nets → (i j : ℕ) (p q : Path) → slice_get paths i ≡ Some p
    → slice_get paths j ≡ Some q → p ≡ q → i ≡ j
index_same design all paths nets A i j p q a b same = elim (cases_lt i j) [
  | inl w ↦ absurd (less_irrefl q
      (subst (λ (x : Path). IsLess x q) same (instances_before p q (A.rise i j p q w a b))))
  | inr w ↦ elim (cases_lt j i) [
    | inl v ↦ absurd (less_irrefl q
        (subst (λ (x : Path). IsLess q x) same (instances_before q p (A.rise j i q p v b a))))
    | inr v ↦ omega arith
  ]
]

-- the declaration of a numbered occurrence's instance has its cell inside
pub cell_of : (design : NetlistRec) (all : List Instance) (paths : List Path) (nets : ℕ)
    → AreInstances design all paths nets → (at : Occurrence) (cell : Cell) (instance : ℕ)
    (one : Instance) → inside_at design at.path ≡ Some cell
    → slice_get paths instance ≡ Some at.path
    → slice_get all instance ≡ Some one → inside design one.declaration ≡ Some cell
cell_of design all paths nets A at cell instance one in_cell path_is one_is =
    let there = inside_there design at.path cell in_cell in
    let is = is_at design paths at.path one (A.each instance at.path one path_is one_is) in
    let same : there.0 ≡ is.0 = same_Some there.0 is.0 (sym there.1 ∙ is.1) in
    ap (inside design) (sym (ap (λ (i : CellInstance). i.cell) same ∙ is.2)) ∙ there.2

within_nets : (design : NetlistRec) (all : List Instance) (paths : List Path) (nets : ℕ)
    → AreInstances design all paths nets → (at : Occurrence) (number : ℕ)
    → (N : IsNumber design all paths at number) → at.net < nets_in design N.one.declaration
within_nets design all paths nets A at number N =
    let few : at.net < length N.cell.nets =
    slice_get_within N.cell.nets at.net N.net N.occurs.net_is in
    let many : nets_in design N.one.declaration ≡ length N.cell.nets =
    nets_inside design N.one.declaration N.cell
    (cell_of design all paths nets A at N.cell N.instance N.one N.occurs.inside N.path_is N.one_is)
    in
    omega arith

numbers_rise : (design : NetlistRec) (all : List Instance) (paths : List Path) (nets : ℕ)
    → AreInstances design all paths nets → (at other : Occurrence) (number another : ℕ)
    → IsNumber design all paths at number → IsNumber design all paths other another
    → IsLess at.path other.path ⊎ ((at.path ≡ other.path) × (at.net < other.net))
    → number < another
numbers_rise design all paths nets A at other number another N M (inl less) =
    let i : N.instance < M.instance =
    index_less design all paths nets A N.instance M.instance at.path other.path N.path_is M.path_is
    less in
    let apart : N.one.first_net + nets_in design N.one.declaration ≤ M.one.first_net =
    nets_apart design all paths nets A N.instance M.instance N.one M.one i N.one_is M.one_is in
    let few : at.net < nets_in design N.one.declaration =
    within_nets design all paths nets A at number N in
    let a = N.number_is in
    let b = M.number_is in
    omega arith
numbers_rise design all paths nets A at other number another N M (inr same) =
    let i : N.instance ≡ M.instance =
    index_same design all paths nets A N.instance M.instance at.path other.path N.path_is M.path_is
    same.0 in
    let e : N.one.first_net ≡ M.one.first_net =
    ap (λ (o : Instance). o.first_net)
    (same_at all N.instance M.instance N.one M.one i N.one_is M.one_is) in
    let a = N.number_is in
    let b = M.number_is in
    let less = same.1 in
    omega arith

numbers_same : (design : NetlistRec) (all : List Instance) (paths : List Path) (nets : ℕ)
    → AreInstances design all paths nets → (at other : Occurrence) (number another : ℕ)
    → IsNumber design all paths at number → IsNumber design all paths other another
    → at.path ≡ other.path → at.net ≡ other.net → number ≡ another
numbers_same design all paths nets A at other number another N M same net =
    let i : N.instance ≡ M.instance =
    index_same design all paths nets A N.instance M.instance at.path other.path N.path_is M.path_is
    same in
    let e : N.one.first_net ≡ M.one.first_net =
    ap (λ (o : Instance). o.first_net)
    (same_at all N.instance M.instance N.one M.one i N.one_is M.one_is) in
    let a = N.number_is in
    let b = M.number_is in
    omega arith

-- one is before the other, or they are the same
numbers_total : (a b : Occurrence) → ((IsLess a.path b.path ⊎ ((a.path ≡ b.path) × (a.net < b.net)))
    ⊎ (IsLess b.path a.path ⊎ ((b.path ≡ a.path) × (b.net < a.net))))
    ⊎ ((a.path ≡ b.path) × (a.net ≡ b.net))
numbers_total a b = elim (less_total a.path b.path) [
  | inl w ↦ elim w [
    | inl v ↦ inl (inl (inl v))
    | inr v ↦ inl (inr (inl v))
  ]
  | inr e ↦ elim (cases_lt a.net b.net) [
    | inl w ↦ inl (inl (inr (e, w)))
    | inr w ↦ elim (cases_lt b.net a.net) [
      | inl v ↦ inl (inr (inr (sym e, v)))
      | inr v ↦ inr (e, omega arith)
    ]
  ]
]

same_occurrence : (a b : Occurrence) → a.path ≡ b.path → a.net ≡ b.net → a ≡ b
same_occurrence a b p n =
    let e : ◌≡◌ {A =
    Occurrence} record { path = a.path; net = a.net } record { path = b.path; net = a.net } =
    ap (λ (x : Path). let o : Occurrence = record { path = x; net = a.net } in o) p in
    let f : ◌≡◌ {A =
    Occurrence} record { path = b.path; net = a.net } record { path = b.path; net = b.net } =
    ap (λ (x : ℕ). let o : Occurrence = record { path = b.path; net = x } in o) n in
    e ∙ f

-- the instance that has a number
instance_of : (design : NetlistRec) (all : List Instance) (paths : List Path) (nets : ℕ)
    → AreInstances design all paths nets → (number : ℕ) → number < nets → (fuel i : ℕ)
    → length all ≤ i + fuel → (one : Instance) → slice_get all i ≡ Some one
    → one.first_net ≤ number → (j : ℕ) × HasNet design all j number
instance_of design all paths nets A number few zero i enough one is from =
    let w : i < length all = slice_get_within all i one is in
    absurd (omega arith)
instance_of design all paths nets A number few (suc fuel) i enough one is from =
    let w : i < length all = slice_get_within all i one is in
    elim (cases_lt number (one.first_net + nets_in design one.declaration)) [
      | inl below ↦ (i, record { one = one; one_is = is; from = from; below = below })
      | inr past ↦ elim (cases_lt (i + 1) (length all)) [
        | inl more ↦
            let next = gets_at all (i + 1) more in
            let n : next.0.first_net ≡ one.first_net + nets_in design one.declaration =
            A.nets_next i one next.0 is next.1 in
            instance_of design all paths nets A number few fuel (i + 1) (omega arith) next.0 next.1
            (omega arith)
        | inr last ↦
            let e : i ≡ length all - 1 = omega arith in
            let n : nets ≡ one.first_net + nets_in design one.declaration =
            A.nets_end one (ap (slice_get all) (sym e) ∙ is) in
            absurd (omega arith)
      ]
    ]

of_instance : (design : NetlistRec) (all : List Instance) (paths : List Path) (nets : ℕ)
    → AreInstances design all paths nets → (instance number : ℕ) (path : Path)
    → HasNet design all instance number → slice_get paths instance ≡ Some path
    → (net : ℕ) × (one : Instance) × (slice_get all instance ≡ Some one)
    × (number ≡ one.first_net + net)
    × IsNumber design all paths record { path = path; net = net } number
of_instance design all paths nets A instance number path H path_is = by
    (inside design H.one.declaration) refl
  where
    by : (o : Option Cell) → inside design H.one.declaration ≡ o
        → (net : ℕ) × (one : Instance) × (slice_get all instance ≡ Some one)
        × (number ≡ one.first_net + net)
        × IsNumber design all paths record { path = path; net = net } number
    by None e =
        let none : nets_in design H.one.declaration ≡ 0 = nets_none design H.one.declaration e in
        let a = H.from in
        let b = H.below in
        absurd (omega arith)
    by (Some cell) e =
        let many : nets_in design H.one.declaration ≡ length cell.nets =
        nets_inside design H.one.declaration cell e in
        let a = H.from in
        let b = H.below in
        let net = gets_at cell.nets (number - H.one.first_net) (omega arith) in
        let is = is_at design paths path H.one (A.each instance path H.one path_is H.one_is) in
        let sum : number ≡ H.one.first_net + (number - H.one.first_net) = omega arith in (
          number - H.one.first_net,
          H.one,
          H.one_is,
          sum,
          record {
            cell = cell;
            net = net.0;
            occurs = record {
              inside = there_inside design path is.0 cell is.1 (ap (inside design) is.2 ∙ e);
              net_is = net.1;
            };
            instance = instance;
            path_is = path_is;
            one = H.one;
            one_is = H.one_is;
            number_is = sum;
          },
        )

pub numbered : (design : NetlistRec) (all : List Instance) (paths : List Path) (nets : ℕ)
    → AreInstances design all paths nets → AreNumbered design all paths nets
numbered design all paths nets A =
    let many = A.many in
    record {
      some = λ at cell net O.
          let there = inside_there design at.path cell O.inside in
          let place = contains_at paths at.path (A.every at.path there.0 there.1) in
          let few : place.0 < length paths = slice_get_within paths place.0 at.path place.1 in
          let one = gets_at all place.0 (omega arith) in (
            one.0.first_net + at.net,
            record {
              cell = cell;
              net = net;
              occurs = O;
              instance = place.0;
              path_is = place.1;
              one = one.0;
              one_is = one.1;
              number_is = refl;
            },
          );
      below = λ at number N.
          let few : at.net < nets_in design N.one.declaration =
          within_nets design all paths nets A at number N in
          let end = nets_within design all paths nets A N.instance N.one N.one_is in
          let a = N.number_is in
          omega arith;
      one = λ at other number N M. elim (numbers_total at other) [
        | inl w ↦ elim w [
          | inl v ↦
              let h : number < number =
              numbers_rise design all paths nets A at other number number N M v in
              absurd (omega arith)
          | inr v ↦
              let h : number < number =
              numbers_rise design all paths nets A other at number number M N v in
              absurd (omega arith)
        ]
        | inr w ↦ same_occurrence at other w.0 w.1
      ];
      same = λ at number other N M. numbers_same design all paths nets A at at number other N M refl
          refl;
      of = λ instance number path H path_is. of_instance design all paths nets A instance number
          path H path_is;
      every = λ number few.
          let top_within : 0 < length paths = slice_get_within paths 0 [] A.top in
          let top = gets_at all 0 (omega arith) in
          let first : top.0.first_net ≡ 0 = A.first_at top.0 top.1 in
          let has =
          instance_of design all paths nets A number few (length all) 0 (omega arith) top.0 top.1
          (omega arith) in
          let within : has.0 < length all = slice_get_within all has.0 has.1.one has.1.one_is in
          let path = gets_at paths has.0 (omega arith) in
          let of = of_instance design all paths nets A has.0 number path.0 has.1 path.1 in
          (record { path = path.0; net = of.0 }, of.4);
      rise = λ at other number another N M. (
        λ before. numbers_rise design all paths nets A at other number another N M
            (nets_before at.path other.path at.net other.net before),
        λ less. elim (numbers_total at other) [
          | inl w ↦ elim w [
            | inl v ↦ before_nets at.path other.path at.net other.net v
            | inr v ↦
                let h : another < number =
                numbers_rise design all paths nets A other at another number M N v in
                absurd (omega arith)
          ]
          | inr w ↦
              let h : number ≡ another =
              numbers_same design all paths nets A at other number another N M w.0 w.1 in
              absurd (omega arith)
        ],
      );
    }
