-- The steps of structs with lists, once their own fields fit.
use Rattle.std.proofs.Common.{◌≡◌, ◌++◌, ◌∙◌, ℕ, List, [], ◌∷◌, map, length, true, Ok, refl, ap}
use Rattle.std.proofs.Common.{subst}
use Rattle.std.specs.Prelude.{nat_lt}
use Rattle.std.specs.List.{flat_map}
use Rattle.std.proofs.lemmas.List.{append-nil}
use Rattle.ix_device_read.specs.Finish.{with_one_more}
use Rattle.ix_frame.specs.Objects.{u32_in, numbers_in}
use Rattle.ix_frame.specs.Sound.{sound_elements, sound_list, sound_struct, sound_text}
use Rattle.ix_frame.specs.Target.{Object, Elements}
use Rattle.ix_message.specs.Indexes.{Entry, Lists, Step, begun, entry_of, steps, part_steps}
use Rattle.ix_message.specs.Indexes.{only_table}
use Rattle.ix_message.specs.Names.{Datum, record_of}
use Rattle.ix_message.specs.Netlist.{entry, cell_instance, cell_declaration, net, cell, port}
use Rattle.ix_message.specs.Netlist.{netlist}
use Rattle.ix_message.specs.Reading.{row_at}
use Rattle.ix_message.specs.Shape.{Struct, Text, Value}
use Rattle.ix_schema.specs.Said.{said, each_said}
use Rattle.ix_take.specs.Views.{Stops}
use Rattle.ix_take.specs.Walked.{walked}
use Rattle.ix_take.specs.declared.stop.Stop.{Stop}
use Rattle.ix_logic_read.specs.Asking.{boxed_list, lists_with, entries_said}
use Rattle.ix_logic_read.specs.Structs.{netlist_structs}
use Rattle.ix_logic_read.proofs.Steps.{flat_same, steps_anywhere, cell_anywhere, net_in_cell}
use Rattle.ix_logic_read.proofs.Steps.{SameCell}
use Rattle.ix_logic_read.proofs.Walking.{ask_each}

abbrev pub list_said : (s : Struct) → Elements → List (Value ℕ s)
list_said s l = each_said (said s) l.count l 0

pub decl_walk : (l : Lists) (o : Object) (counts mid : List ℕ) → with_one_more counts 2 ≡ mid
    → nat_lt (u32_in o 0) l.table ≡ true
    → walked netlist_structs counts (steps cell_declaration l [] (said cell_declaration o)) ≡ walked
    netlist_structs mid (ask_each "CellDeclaration" "ports" (length l.port_list)
    (numbers_in (sound_list 4 o 0)))
unfolding steps part_steps walked said row_at
decl_walk l o counts mid is a = rw (
  ← is,
  a,
  append-nil (ask_each "CellDeclaration" "ports" (length l.port_list)
      (numbers_in (sound_list 4 o 0))),
) refl

-- a cell as its nets see it
abbrev pub seen : Object → Entry
seen o = entry_of cell (said cell o)

pub cell_walk : (l : Lists) (o : Object) (counts mid : List ℕ) → with_one_more counts 5 ≡ mid
    → nat_lt (u32_in o 0) (length l.cell_decl_list) ≡ true
    → walked netlist_structs counts (steps cell l [] (said cell o)) ≡ walked netlist_structs mid
    (ask_each "Cell" "insts" (length l.instance_list)
    (numbers_in (sound_list 4 o 0)) ++ flat_map (steps net l (seen o ∷ []))
    (list_said net (sound_elements o 1)))
unfolding steps part_steps walked said row_at
cell_walk l o counts mid is a = rw (
  ← is,
  a,
  append-nil (flat_map (steps net l (seen o ∷ [])) (list_said net (sound_elements o 1))),
) refl

pub nets_in_cell : (l : Lists) (c d : Entry) (vs : List (Value ℕ net)) → SameCell c d
    → flat_map (steps net l (c ∷ [])) vs ≡ flat_map (steps net l (d ∷ [])) vs
nets_in_cell l c d vs h = flat_same (steps net l (c ∷ [])) (steps net l (d ∷ []))
    (λ v. net_in_cell l c d [] [] v h) vs

-- The root.

abbrev pub root_lists : ℕ → Object → Lists
root_lists table o = lists_with table (sound_elements o 4) (sound_elements o 5) (sound_elements o 6)

abbrev pub each_asks : (s : Struct) → Lists → Elements → List Step
each_asks s l e = flat_map (steps s l []) (list_said s e)

each_anywhere : (s : Struct) (l : Lists) (a : List Entry) (e : Elements)
    → ((v : Value ℕ s) → steps s l a v ≡ steps s l [] v)
    → flat_map (steps s l a) (list_said s e) ≡ each_asks s l e
each_anywhere s l a e same = flat_same (steps s l a) (steps s l []) same (list_said s e)

-- the structs behind its pointers, with these structs around them
abbrev of_root : Lists → List Entry → Object → List Step
of_root l a o =
    flat_map (steps entry l a) (list_said entry (boxed_list o 1)) ++
    (steps cell_instance l a (said cell_instance (sound_struct o 2)) ++
    (flat_map (steps cell_declaration l a) (list_said cell_declaration (sound_elements o 4))
    ++ (flat_map (steps port l a) (list_said port (sound_elements o 5)) ++
    (flat_map (steps cell_instance l a) (list_said cell_instance (sound_elements o 6)) ++
    (flat_map (steps cell l a) (list_said cell (sound_elements o 7)) ++ [])))))

root_open : (table : ℕ) (o : Object) → steps netlist (only_table table) []
    (said netlist o) ≡ begun "Netlist" ∷ of_root (root_lists table o)
    (entry_of netlist (said netlist o) ∷ []) o
unfolding steps part_steps said row_at entries_said
root_open table o = refl

-- what is asked of a root's parts
abbrev pub root_parts : Lists → Object → List Step
root_parts l o = each_asks entry l (boxed_list o 1) ++
    (steps cell_instance l [] (said cell_instance (sound_struct o 2)) ++
    (each_asks cell_declaration l (sound_elements o 4)
    ++ (each_asks port l (sound_elements o 5) ++
    (each_asks cell_instance l (sound_elements o 6) ++ each_asks cell l (sound_elements o 7)))))

parts_anywhere : (l : Lists) (a : List Entry) (o : Object) → of_root l a o ≡ root_parts l o
parts_anywhere l a o =
    rw (
      each_anywhere entry l a (boxed_list o 1) (λ v. steps_anywhere entry l a [] v refl),
      steps_anywhere cell_instance l a [] (said cell_instance (sound_struct o 2)) refl,
      each_anywhere cell_declaration l a (sound_elements o 4)
          (λ v. steps_anywhere cell_declaration l a [] v refl),
      each_anywhere port l a (sound_elements o 5) (λ v. steps_anywhere port l a [] v refl),
      each_anywhere cell_instance l a (sound_elements o 6)
          (λ v. steps_anywhere cell_instance l a [] v refl),
      each_anywhere cell l a (sound_elements o 7) (λ v. cell_anywhere l a [] v),
      append-nil (each_asks cell l (sound_elements o 7)),
    ) refl

begun_first : (counts mid : List ℕ) (xs : List Step) → with_one_more counts 7 ≡ mid
    → walked netlist_structs counts (begun "Netlist" ∷ xs) ≡ walked netlist_structs mid xs
unfolding walked
begun_first counts mid xs is = ap (λ (c : List ℕ). walked netlist_structs c xs) is

pub root_walk : (table : ℕ) (o : Object) (counts mid : List ℕ) → with_one_more counts 7 ≡ mid
    → walked netlist_structs counts (steps netlist (only_table table) [] (said netlist o)) ≡ walked
    netlist_structs mid (root_parts (root_lists table o) o)
root_walk table o counts mid is =
    let l = root_lists table o in
    let a : List Entry = entry_of netlist (said netlist o) ∷ [] in
    ap (walked netlist_structs counts) (root_open table o)
    ∙ begun_first counts mid (of_root l a o) is
    ∙ ap (walked netlist_structs mid) (parts_anywhere l a o)

-- Structs of a list that were taken, and what stops them.

abbrev pub Took : (s : Struct) {X : Type 0} → (X → Value Datum s) → List Text → Lists → List ℕ
    → List X → List ℕ → List (Value ℕ s) → Type 0
Took s to_record table lists mid found left vs =
    (map (record_of table s) vs ≡ map to_record found)
    × (walked netlist_structs mid (flat_map (steps s lists []) vs) ≡ Ok left)

pub took : (s : Struct) {X : Type 0} (to_record : X → Value Datum s) (table : List Text)
    (lists : Lists) (mid : List ℕ) (found : List X) (left : List ℕ) (l e : Elements) → l ≡ e
    → Took s to_record table lists mid found left (list_said s l)
    → Took s to_record table lists mid found left (list_said s e)
took s to_record table lists mid found left l e is h =
    subst (λ (x : Elements). Took s to_record table lists mid found left (list_said s x)) is h

pub stuck : (e : Stop) (s : Struct) (lists : Lists) (mid : List ℕ) (l k : Elements) → l ≡ k
    → Stops netlist_structs e (walked netlist_structs mid
    (flat_map (steps s lists []) (list_said s l)))
    → Stops netlist_structs e (walked netlist_structs mid (each_asks s lists k))
stuck e s lists mid l k is h = subst (λ (x : Elements). Stops netlist_structs e
    (walked netlist_structs mid (flat_map (steps s lists []) (list_said s x)))) is h

pub root_said : (o : Object) → said netlist o ≡ (
  [],
  (
    sound_text o 0,
    (
      list_said entry (boxed_list o 1),
      (
        said cell_instance (sound_struct o 2),
        (
          list_said cell_declaration (sound_elements o 4),
          (
            list_said port (sound_elements o 5),
            (list_said cell_instance (sound_elements o 6), (list_said cell (sound_elements o 7), tt)),
          ),
        ),
      ),
    ),
  ),
)
unfolding said row_at
root_said o = refl
