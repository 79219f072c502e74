-- How many structs the steps of a netlist begin: no more than its reading costs. All are of kinds
-- that are counted.
use Prim.Native.String.{String}
use Rattle.std.proofs.Common.{◌≡◌, ◌≤◌, ◌+◌, ◌++◌, ◌∙◌, ℕ, List, [], ◌∷◌, Ok, true, refl, sym, ap}
use Rattle.std.proofs.Common.{subst, arith}
use Rattle.std.specs.Prelude.{IfOk}
use Rattle.std.specs.List.{flat_map}
use Rattle.ix_frame.specs.Objects.{elements_at}
use Rattle.ix_frame.specs.Result.{◌>>=◌}
use Rattle.ix_frame.specs.Target.{Object}
use Rattle.ix_message.specs.Indexes.{Lists, Step, begun, ask_row, steps, branch_steps}
use Rattle.ix_message.specs.Phys.{pin_mapping, cell_placement, phys_net, site_instance, property}
use Rattle.ix_message.specs.Phys.{phys_netlist, segment}
use Rattle.ix_message.specs.Reading.{row_at, each_from, branches_from, value_at, parts_at}
use Rattle.ix_message.specs.Reading.{pointers_of}
use Rattle.ix_message.specs.Shape.{Text, Field, Struct, Pointers, Value, Branches, struct_of}
use Rattle.ix_message.specs.Shape.{branches, no_more, ends, branch}
use Rattle.ix_take.specs.Walked.{kinds_of, begun_in}
use Rattle.ix_take.specs.Walks.{has_kind, AreOfKinds}
use Rattle.ix_phys_read.specs.Walked.{counted_structs}
use Rattle.ix_phys_read.proofs.Costs.{and_then, weaker, each_left, branches_left, branches_in}
use Rattle.ix_phys_read.proofs.Costs.{elements_at_left}
use Rattle.ix_phys_read.proofs.Steps.{own, pin_steps, site_steps, property_steps, placement_steps}
use Rattle.ix_phys_read.proofs.Steps.{net_steps, root_steps, begun_on, fields_of, kinds_on}
use Rattle.ix_phys_read.proofs.Steps.{kinds_each, row_kinds, row_begins}

-- What a struct begins, and what is left of the budget.
abbrev pub Paid : {A : Type 0} → (A → List Step) → ℕ → A × ℕ → Type 0
Paid asks b x = (begun_in (asks x.0) + x.1 ≤ b + 1) × (x.1 ≤ b)

-- the same of the structs of a list, which was paid for
pub paid_each : (s : Struct) (l : Lists) → ((o : Object) (b : ℕ)
    → IfOk (value_at s o b) (Paid (steps s l []) b)) → (o : Object) (slot b : ℕ)
    → IfOk (elements_at o slot b >>= λ e. each_from (value_at s) e.0.count e.0 0 e.1)
    (λ x. (begun_in (flat_map (steps s l []) x.0) + x.1 ≤ b) × (x.1 ≤ b))
paid_each s l one o slot b =
    let asks = steps s l [] in
    and_then (λ e. e.0.count + e.1 ≤ b) (λ x. (begun_in (flat_map asks x.0) + x.1 ≤ b) × (x.1 ≤ b))
    (elements_at o slot b) (λ e. each_from (value_at s) e.0.count e.0 0 e.1)
    (elements_at_left o slot b) (λ e h.
    weaker (λ x. (begun_in (flat_map asks x.0) + x.1 ≤ e.1 + e.0.count) × (x.1 ≤ e.1))
    (λ x. (begun_in (flat_map asks x.0) + x.1 ≤ b) × (x.1 ≤ b))
    (each_from (value_at s) e.0.count e.0 0 e.1)
    (each_left (λ v. begun_in (asks v)) (value_at s) one (λ vs. begun_in (flat_map asks vs)) refl
    (λ v vs. begun_on (asks v) (flat_map asks vs)) e.0.count e.0 0 e.1)
    (λ x k. (omega (arith, h, k.0), omega (arith, h, k.1))))

-- a struct of numbers alone
own_begins : (l : Lists) (s : Struct) (row : List ℕ) → begun_in (own l s row) ≡ 1
unfolding own
own_begins l (struct_of kind fields ps) row = let none = row_begins l kind row fields row in
    omega (arith, none)

paid_row : {A : Type 0} (asks : A → List Step) (b : ℕ) (v : A) → begun_in (asks v) ≡ 1
    → Paid asks b (v, b)
paid_row asks b v one = (omega (arith, one), omega arith)

pub pin_paid : (l : Lists) (o : Object) (b : ℕ)
    → IfOk (value_at pin_mapping o b) (Paid (steps pin_mapping l []) b)
unfolding value_at parts_at
pin_paid l o b = paid_row (steps pin_mapping l []) b _
    (ap begun_in (pin_steps l [] _) ∙ own_begins l pin_mapping _)

pub site_paid : (l : Lists) (o : Object) (b : ℕ)
    → IfOk (value_at site_instance o b) (Paid (steps site_instance l []) b)
unfolding value_at parts_at
site_paid l o b = paid_row (steps site_instance l []) b _
    (ap begun_in (site_steps l [] _) ∙ own_begins l site_instance _)

pub property_paid : (l : Lists) (o : Object) (b : ℕ)
    → IfOk (value_at property o b) (Paid (steps property l []) b)
unfolding value_at parts_at
property_paid l o b = paid_row (steps property l []) b _
    (ap begun_in (property_steps l [] _) ∙ own_begins l property _)

-- with one list

placement_parts : (l : Lists) (o : Object) (b : ℕ)
    → IfOk (parts_at (pointers_of cell_placement) 0 o b)
    (λ x. (begun_in (flat_map (steps pin_mapping l []) x.0.0) + x.1 ≤ b) × (x.1 ≤ b))
unfolding parts_at
placement_parts l o b =
    let asks = steps pin_mapping l [] in
    let P : (List (Value ℕ pin_mapping) × Unit {0}) × ℕ → Type 0 =
    λ x. (begun_in (flat_map asks x.0.0) + x.1 ≤ b) × (x.1 ≤ b) in
    and_then (λ e. e.0.count + e.1 ≤ b) P (elements_at o 0 b) _ (elements_at_left o 0 b) (λ e h.
    and_then (λ x. (begun_in (flat_map asks x.0) + x.1 ≤ e.1 + e.0.count) × (x.1 ≤ e.1)) P
    (each_from (value_at pin_mapping) e.0.count e.0 0 e.1) _
    (each_left (λ v. begun_in (asks v)) (value_at pin_mapping) (pin_paid l)
    (λ vs. begun_in (flat_map asks vs)) refl
    (λ v vs. begun_on (asks v) (flat_map asks vs)) e.0.count e.0 0 e.1)
    (λ x k. (omega (arith, h, k.0), omega (arith, h, k.1))))

pub placement_paid : (l : Lists) (o : Object) (b : ℕ)
    → IfOk (value_at cell_placement o b) (Paid (steps cell_placement l []) b)
unfolding value_at
placement_paid l o b =
    let row = row_at (fields_of cell_placement) 0 o in
    let asks = steps pin_mapping l [] in
    and_then (λ x. (begun_in (flat_map asks x.0.0) + x.1 ≤ b) × (x.1 ≤ b))
    (Paid (steps cell_placement l []) b) (parts_at (pointers_of cell_placement) 0 o b)
    (λ parts. Ok ((row, parts.0), parts.1)) (placement_parts l o b) (λ x k.
    let many : begun_in (steps cell_placement l [] (row, x.0)) ≡ begun_in
    (own l cell_placement row) + begun_in (flat_map asks x.0.0) =
    ap begun_in (placement_steps l [] (row, x.0))
    ∙ begun_on (own l cell_placement row) (flat_map asks x.0.0) in
    (omega (arith, k.0, many, own_begins l cell_placement row), k.1))

-- with branches
branches_begin : (l : Lists) (t : Branches (List ℕ))
    → begun_in (branch_steps l "RouteBranch" segment t) ≡ branches_in t
branches_begin l ends = refl
branches_begin l (branch row below beside) =
    let one = begun_on (begun "RouteBranch" ∷ ask_row l [] "RouteBranch" row segment row)
    (branch_steps l "RouteBranch" segment below) in
    let two = begun_on ((begun "RouteBranch" ∷ ask_row l [] "RouteBranch" row segment row) ++
    branch_steps l "RouteBranch" segment below) (branch_steps l "RouteBranch" segment beside) in
    omega (
      arith,
      one,
      two,
      row_begins l "RouteBranch" row segment row,
      branches_begin l below,
      branches_begin l beside,
    )

abbrev stubs_alone : Pointers
stubs_alone = branches "stubs" "RouteBranch" segment no_more

stubs_paid : (o : Object) (b : ℕ) → IfOk (parts_at stubs_alone 1 o b)
    (λ y. (branches_in y.0.0 + y.1 ≤ b) × (y.1 ≤ b))
unfolding parts_at
stubs_paid o b =
    let P : (Branches (List ℕ) × Unit {0}) × ℕ → Type 0 =
    λ y. (branches_in y.0.0 + y.1 ≤ b) × (y.1 ≤ b) in
    and_then (λ f. f.0.count + f.1 ≤ b) P (elements_at o 1 b) _ (elements_at_left o 1 b) (λ f i.
    and_then (λ y. (branches_in y.0 + y.1 ≤ f.1 + f.0.count) × (y.1 ≤ f.1)) P
    (branches_from (b + 1) segment f.0.count f.0 0 f.1) _
    (branches_left (b + 1) f.0.count f.0 0 f.1)
    (λ y j. (omega (arith, i, j.0), omega (arith, i, j.1))))

net_parts : (o : Object) (b : ℕ) → IfOk (parts_at (pointers_of phys_net) 0 o b)
    (λ x. (branches_in x.0.0 + branches_in x.0.1.0 + x.1 ≤ b) × (x.1 ≤ b))
unfolding parts_at
net_parts o b =
    let P : (Branches (List ℕ) × (Branches (List ℕ) × Unit {0})) × ℕ → Type 0 =
    λ x. (branches_in x.0.0 + branches_in x.0.1.0 + x.1 ≤ b) × (x.1 ≤ b) in
    and_then (λ e. e.0.count + e.1 ≤ b) P (elements_at o 0 b) _ (elements_at_left o 0 b) (λ e h.
    and_then (λ x. (branches_in x.0 + x.1 ≤ e.1 + e.0.count) × (x.1 ≤ e.1)) P
    (branches_from (b + 1) segment e.0.count e.0 0 e.1) _
    (branches_left (b + 1) e.0.count e.0 0 e.1) (λ x k.
    and_then (λ y. (branches_in y.0.0 + y.1 ≤ x.1) × (y.1 ≤ x.1)) P (parts_at stubs_alone 1 o x.1)
    (λ rest. Ok ((x.0, rest.0), rest.1)) (stubs_paid o x.1)
    (λ y j. (omega (arith, h, k.0, j.0), omega (arith, h, k.1, j.1)))))

pub net_paid : (l : Lists) (o : Object) (b : ℕ)
    → IfOk (value_at phys_net o b) (Paid (steps phys_net l []) b)
unfolding value_at
net_paid l o b =
    let row = row_at (fields_of phys_net) 0 o in
    and_then (λ x. (branches_in x.0.0 + branches_in x.0.1.0 + x.1 ≤ b) × (x.1 ≤ b))
    (Paid (steps phys_net l []) b) (parts_at (pointers_of phys_net) 0 o b)
    (λ parts. Ok ((row, parts.0), parts.1)) (net_parts o b) (λ x k.
    let one = branch_steps l "RouteBranch" segment x.0.0 in
    let two = branch_steps l "RouteBranch" segment x.0.1.0 in
    let many : begun_in (steps phys_net l [] (row, x.0)) ≡ begun_in (own l phys_net row) + begun_in
    (one ++ two) = ap begun_in (net_steps l [] (row, x.0))
    ∙ begun_on (own l phys_net row) (one ++ two) in (
      omega (
        arith,
        k.0,
        many,
        begun_on one two,
        branches_begin l x.0.0,
        branches_begin l x.0.1.0,
        own_begins l phys_net row,
      ),
      k.1,
    ))

-- The steps are of kinds that are counted.

own_kinds : (l : Lists) (kind : String) (fields : List Field) (row : List ℕ)
    → has_kind (kinds_of counted_structs) kind ≡ true
    → AreOfKinds counted_structs (begun kind ∷ ask_row l [] kind row fields row)
own_kinds l kind fields row h = (h, row_kinds l kind row fields row h)

branch_kinds : (l : Lists) (t : Branches (List ℕ))
    → AreOfKinds counted_structs (branch_steps l "RouteBranch" segment t)
branch_kinds l ends = tt
branch_kinds l (branch row below beside) =
    kinds_on ((begun "RouteBranch" ∷ ask_row l [] "RouteBranch" row segment row) ++ branch_steps l
    "RouteBranch" segment below) (branch_steps l "RouteBranch" segment beside)
    (kinds_on (begun "RouteBranch" ∷ ask_row l [] "RouteBranch" row segment row)
    (branch_steps l "RouteBranch" segment below) (own_kinds l "RouteBranch" segment row refl)
    (branch_kinds l below)) (branch_kinds l beside)

placement_kinds : (l : Lists) (v : Value ℕ cell_placement)
    → AreOfKinds counted_structs (steps cell_placement l [] v)
unfolding own
placement_kinds l v =
    subst (AreOfKinds counted_structs) (sym (placement_steps l [] v))
    (kinds_on (own l cell_placement v.0) (flat_map (steps pin_mapping l []) v.1.0)
    (own_kinds l "CellPlacement" (fields_of cell_placement) v.0 refl)
    (kinds_each (steps pin_mapping l []) (λ p. subst (AreOfKinds counted_structs)
    (sym (pin_steps l [] p)) (own_kinds l "PinMapping" (fields_of pin_mapping) p.0 refl))
    v.1.0))

net_kinds : (l : Lists) (v : Value ℕ phys_net) → AreOfKinds counted_structs (steps phys_net l [] v)
unfolding own
net_kinds l v =
    let one = branch_steps l "RouteBranch" segment v.1.0 in
    let two = branch_steps l "RouteBranch" segment v.1.1.0 in
    subst (AreOfKinds counted_structs) (sym (net_steps l [] v))
    (kinds_on (own l phys_net v.0) (one ++ two)
    (own_kinds l "PhysNet" (fields_of phys_net) v.0 refl)
    (kinds_on one two (branch_kinds l v.1.0) (branch_kinds l v.1.1.0)))

site_kinds : (l : Lists) (v : Value ℕ site_instance)
    → AreOfKinds counted_structs (steps site_instance l [] v)
unfolding own
site_kinds l v = subst (AreOfKinds counted_structs) (sym (site_steps l [] v))
    (own_kinds l "SiteInstance" (fields_of site_instance) v.0 refl)

property_kinds : (l : Lists) (v : Value ℕ property)
    → AreOfKinds counted_structs (steps property l [] v)
unfolding own
property_kinds l v = subst (AreOfKinds counted_structs) (sym (property_steps l [] v))
    (own_kinds l "Property" (fields_of property) v.0 refl)

pub root_kinds : (l : Lists) (part : Text) (ps : List (Value ℕ cell_placement))
    (ns : List (Value ℕ phys_net)) (is : List (Value ℕ site_instance))
    (qs : List (Value ℕ property)) → AreOfKinds counted_structs
    (steps phys_netlist l [] ([], (part, (ps, (ns, (is, (qs, tt)))))))
root_kinds l part ps ns is qs =
    let p = flat_map (steps cell_placement l []) ps in
    let n = flat_map (steps phys_net l []) ns in
    let i = flat_map (steps site_instance l []) is in
    let q = flat_map (steps property l []) qs in
    subst (AreOfKinds counted_structs) (sym (root_steps l part ps ns is qs)) (
      refl,
      kinds_on p (n ++ (i ++ q)) (kinds_each (steps cell_placement l []) (placement_kinds l) ps)
          (kinds_on n (i ++ q) (kinds_each (steps phys_net l []) (net_kinds l) ns)
          (kinds_on i q (kinds_each (steps site_instance l []) (site_kinds l) is)
          (kinds_each (steps property l []) (property_kinds l) qs))),
    )
