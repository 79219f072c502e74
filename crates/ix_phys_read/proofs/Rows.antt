-- The steps of structs with lists, once their own fields fit.
use Rattle.std.proofs.Common.{◌≡◌, ◌%◌, ◌^◌, ◌++◌, ◌∙◌, ℕ, List, [], ◌∷◌, map, true, Ok, refl, ap}
use Rattle.std.proofs.Common.{subst}
use Rattle.std.specs.Prelude.{nat_lt}
use Rattle.std.specs.List.{flat_map}
use Rattle.ix_device_read.specs.Finish.{with_one_more}
use Rattle.ix_frame.specs.Objects.{u32_in}
use Rattle.ix_frame.specs.Sound.{endless, sound_elements, sound_text}
use Rattle.ix_frame.specs.Target.{Object, Elements}
use Rattle.ix_message.specs.Indexes.{Lists, Step, begun, steps, branch_steps}
use Rattle.ix_message.specs.Names.{Datum, record_of}
use Rattle.ix_message.specs.Phys.{pin_mapping, cell_placement, phys_net, site_instance, property}
use Rattle.ix_message.specs.Phys.{phys_netlist, segment}
use Rattle.ix_message.specs.Reading.{row_at}
use Rattle.ix_message.specs.Shape.{Text, Struct, Value}
use Rattle.ix_schema.specs.Said.{said, each_said, branches_said}
use Rattle.ix_take.specs.Views.{Stops}
use Rattle.ix_take.specs.Walked.{walked}
use Rattle.ix_phys_read.specs.Walked.{counted_structs}
use Rattle.ix_take.specs.declared.stop.Stop.{Stop}
use Rattle.ix_take.specs.Going.{walked_then}
use Rattle.ix_phys_read.proofs.Steps.{own, placement_steps, net_steps, root_steps}

-- the structs of a list behind a pointer
abbrev pub list_said : (s : Struct) → Object → ℕ → List (Value ℕ s)
list_said s o slot = each_said (said s) (sound_elements o slot).count (sound_elements o slot) 0

placement_asks : (l : Lists) (o : Object) (counts mid : List ℕ) → with_one_more counts 1 ≡ mid
    → nat_lt (u32_in o 0) l.table ≡ true → nat_lt (u32_in o 1) l.table ≡ true
    → nat_lt (u32_in o 2) l.table ≡ true → nat_lt (u32_in o 3) l.table ≡ true
    → walked counted_structs counts (own l cell_placement (said cell_placement o).0) ≡ Ok mid
unfolding own walked said row_at
placement_asks l o counts mid is a b c d = rw (← is, a, b, c, d) refl

pub placement_walk : (l : Lists) (o : Object) (counts mid : List ℕ) → with_one_more counts 1 ≡ mid
    → nat_lt (u32_in o 0) l.table ≡ true → nat_lt (u32_in o 1) l.table ≡ true
    → nat_lt (u32_in o 2) l.table ≡ true → nat_lt (u32_in o 3) l.table ≡ true
    → walked counted_structs counts (steps cell_placement l [] (said cell_placement o)) ≡ walked
    counted_structs mid (flat_map (steps pin_mapping l []) (list_said pin_mapping o 0))
unfolding said
placement_walk l o counts mid is a b c d =
    ap (walked counted_structs counts) (placement_steps l [] (said cell_placement o))
    ∙ walked_then counted_structs counts mid (own l cell_placement (said cell_placement o).0) _
    (placement_asks l o counts mid is a b c d)

net_asks : (l : Lists) (o : Object) (counts mid : List ℕ) → with_one_more counts 2 ≡ mid
    → nat_lt (u32_in o 0) l.table ≡ true → nat_lt (u32_in o 1 % 2 ^ 16) 3 ≡ true
    → walked counted_structs counts (own l phys_net (said phys_net o).0) ≡ Ok mid
unfolding own walked said row_at
net_asks l o counts mid is a b = rw (← is, a, b) refl

pub net_walk : (l : Lists) (o : Object) (counts mid : List ℕ) → with_one_more counts 2 ≡ mid
    → nat_lt (u32_in o 0) l.table ≡ true → nat_lt (u32_in o 1 % 2 ^ 16) 3 ≡ true
    → walked counted_structs counts (steps phys_net l [] (said phys_net o))
    ≡ walked counted_structs mid (branch_steps l "RouteBranch" segment
    (branches_said segment (sound_elements o 0) endless) ++ branch_steps l "RouteBranch" segment
    (branches_said segment (sound_elements o 1) endless))
unfolding said
net_walk l o counts mid is a b =
    ap (walked counted_structs counts) (net_steps l [] (said phys_net o))
    ∙ walked_then counted_structs counts mid (own l phys_net (said phys_net o).0) _
    (net_asks l o counts mid is a b)

-- The root.

pub root_said : (o : Object) → said phys_netlist o ≡ (
  [],
  (
    sound_text o 0,
    (
      list_said cell_placement o 2,
      (list_said phys_net o 3, (list_said site_instance o 4, (list_said property o 5, tt))),
    ),
  ),
)
unfolding said row_at
root_said o = refl

-- what is asked of its lists
abbrev pub asks_of : Lists → Object → (s : Struct) → ℕ → List Step
asks_of l o s slot = flat_map (steps s l []) (list_said s o slot)

begun_first : (counts mid : List ℕ) (xs : List Step) → with_one_more counts 5 ≡ mid
    → walked counted_structs counts (begun "PhysNetlist" ∷ xs) ≡ walked counted_structs mid xs
unfolding walked
begun_first counts mid xs is = ap (λ (c : List ℕ). walked counted_structs c xs) is

pub root_walk : (l : Lists) (o : Object) (counts mid : List ℕ) → with_one_more counts 5 ≡ mid
    → walked counted_structs counts (steps phys_netlist l [] (said phys_netlist o)) ≡ walked
    counted_structs mid (asks_of l o cell_placement 2 ++
    (asks_of l o phys_net 3 ++ (asks_of l o site_instance 4 ++ asks_of l o property 5)))
root_walk l o counts mid is =
    ap (λ (v : Value ℕ phys_netlist). walked counted_structs counts (steps phys_netlist l [] v))
    (root_said o)
    ∙ ap (walked counted_structs counts) (root_steps l (sound_text o 0)
    (list_said cell_placement o 2) (list_said phys_net o 3) (list_said site_instance o 4)
    (list_said property o 5))
    ∙ begun_first counts mid _ is

-- Structs of a list that were taken, and what stops them.

abbrev pub Took : (s : Struct) {X : Type 0} → (X → Value Datum s) → List Text → Lists → List ℕ
    → List X → List ℕ → List (Value ℕ s) → Type 0
Took s to_record table lists mid found left vs =
    (map (record_of table s) vs ≡ map to_record found)
    × (walked counted_structs mid (flat_map (steps s lists []) vs) ≡ Ok left)

pub took : (s : Struct) {X : Type 0} (to_record : X → Value Datum s) (table : List Text)
    (lists : Lists) (mid : List ℕ) (found : List X) (left : List ℕ) (o : Object) (slot : ℕ)
    (l : Elements) → l ≡ sound_elements o slot
    → Took s to_record table lists mid found left (each_said (said s) l.count l 0)
    → Took s to_record table lists mid found left (list_said s o slot)
took s to_record table lists mid found left o slot l is h =
    subst (λ (e : Elements). Took s to_record table lists mid found left
    (each_said (said s) e.count e 0)) is h

pub stuck : (e : Stop) (s : Struct) (lists : Lists) (mid : List ℕ) (o : Object) (slot : ℕ)
    (l : Elements) → l ≡ sound_elements o slot
    → Stops counted_structs e (walked counted_structs mid
    (flat_map (steps s lists []) (each_said (said s) l.count l 0)))
    → Stops counted_structs e (walked counted_structs mid (asks_of lists o s slot))
stuck e s lists mid o slot l is h = subst
    (λ (k : Elements). Stops counted_structs e
    (walked counted_structs mid (flat_map (steps s lists []) (each_said (said s) k.count k 0)))) is
    h
