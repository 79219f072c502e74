use Rattle.std.proofs.Common.{◌≡◌, ◌<◌, ◌≤◌, ◌+◌, ◌*◌, ◌∙◌, ℕ, List, length, map, drop, get_or, set, ap, arith, sym, subst, refl, Err, get_or-set_same}
use Rattle.std.proofs.lemmas.List.{get_or_read, length-set}
use Rattle.ix_message.specs.Shape.{Branches}
use Rattle.ix_message.specs.Names.{number_for, place_in}
use Rattle.ix_message.specs.Layout.{branch_sections, structs_laid, data_section}
use Rattle.ix_capw.specs.Growth.{pointer_word, written}
use Rattle.ix_message_write.specs.Table.{table_in}
use Rattle.ix_message_write.specs.Says.{Puts, HasPut}
use Rattle.ix_message_write.proofs.Laid.{length-written}
use Rattle.ix_message_write.proofs.Turns.{all_at}
use Rattle.ix_phys_write.specs.Record.{segment_row, IsSegmentNamed}
use Rattle.ix_phys_write.specs.Trees.{trees_at, width}
use Rattle.ix_phys_write.specs.Made.{HasMade, MakesList}
use Rattle.ix_phys_write.specs.Wide.{branches_twice, numbers_by, numbers_five}
use Rattle.ix_phys_write.proofs.Levels.{limit_at}
use Rattle.ix_phys_write.proofs.Filled.{roots_refused, branches_none, branches_turn, branches_done, branch_refused, room_for, BranchesSoFar}
use Rattle.ix_phys_write.proofs.branches.write_branches.Goals as goal

pub returns-in-Err-make_list : goal.returns-in-Err-make_list
returns-in-Err-make_list c =
    let names = c.args.names.now in
    let table = table_in names c.args.strings.now in
    let row = numbers_by names table in
    let five = numbers_five names table in
    let bs = c.args.forest.now in
    let T = trees_at 0 bs in
    let q = pointer_word c.args.at c.args.slot in
    let S = c.args.builder.now in
    let twice = branches_twice (map (number_for (place_in table))) (segment_row names) T in
    let roots_is : c.in-Ok.widths.roots ≡ width T = c.in-Ok.ensures.roots_are in
    let inside : 8 * (q + 1) ≤ length S = omega (arith, c.requires.inside, c.requires.slot) in
    subst (λ (t : Branches (List ℕ)). Puts {X = Unit {0}} q (structs_laid (branch_sections t)) S c.make_list.new.builder (Err c.in-Err-make_list.fault)) (sym twice)
    (roots_refused row five bs q S c.make_list.new.builder c.in-Err-make_list.fault (subst (λ (k : ℕ). MakesList q k S c.make_list.new.builder (Err c.in-Err-make_list.fault)) roots_is c.in-Err-make_list.ensures))

pub loop-i-init : goal.loop-i-init
loop-i-init c =
    let names = c.args.names.now in
    let table = table_in names c.args.strings.now in
    let row = numbers_by names table in
    let five = numbers_five names table in
    let bs = c.args.forest.now in
    let T = trees_at 0 bs in
    let q = pointer_word c.args.at c.args.slot in
    let S = c.args.builder.now in
    let twice = branches_twice (map (number_for (place_in table))) (segment_row names) T in
    let roots_is : c.in-Ok.widths.roots ≡ width T = c.in-Ok.ensures.roots_are in
    let inside : 8 * (q + 1) ≤ length S = omega (arith, c.requires.inside, c.requires.slot) in
    let first = c.make_list.new.builder in
    let zeros = c.resize.new.self.items in
    let next0 = set zeros 0 c.in-Ok-make_list.start in
    let zeros_long : length zeros ≡ length bs + 2 = omega (arith, c.in-Ok-resize.ensures.len, c.len.ensures.count) in
    let sized : length next0 ≡ length bs + 2 = length-set zeros 0 c.in-Ok-make_list.start ∙ zeros_long in
    let start = get_or next0 0 0 in
    let start_is : start ≡ c.in-Ok-make_list.start = get_or-set_same zeros 0 c.in-Ok-make_list.start 0 (omega (arith, zeros_long)) in
    let made : HasMade q (width T) S first start =
    subst (λ (s : ℕ). HasMade q (width T) S first s) (sym start_is) (subst (λ (k : ℕ). HasMade q k S first c.in-Ok-make_list.start) roots_is c.in-Ok-make_list.ensures) in
    branches_none row five bs q start S first next0 inside made sized refl

pub index-start-requires : goal.index-start-requires
index-start-requires c =
    let names = c.args.names.now in
    let table = table_in names c.args.strings.now in
    let row = numbers_by names table in
    let five = numbers_five names table in
    let bs = c.args.forest.now in
    let T = trees_at 0 bs in
    let q = pointer_word c.args.at c.args.slot in
    let S = c.args.builder.now in
    let twice = branches_twice (map (number_for (place_in table))) (segment_row names) T in
    let roots_is : c.in-Ok.widths.roots ≡ width T = c.in-Ok.ensures.roots_are in
    let inside : 8 * (q + 1) ≤ length S = omega (arith, c.requires.inside, c.requires.slot) in
    let first = c.make_list.new.builder in
    let zeros = c.resize.new.self.items in
    let next0 = set zeros 0 c.in-Ok-make_list.start in
    let zeros_long : length zeros ≡ length bs + 2 = omega (arith, c.in-Ok-resize.ensures.len, c.len.ensures.count) in
    let sized : length next0 ≡ length bs + 2 = length-set zeros 0 c.in-Ok-make_list.start ∙ zeros_long in
    let start = get_or next0 0 0 in
    let start_is : start ≡ c.in-Ok-make_list.start = get_or-set_same zeros 0 c.in-Ok-make_list.start 0 (omega (arith, zeros_long)) in
    let made : HasMade q (width T) S first start =
    subst (λ (s : ℕ). HasMade q (width T) S first s) (sym start_is) (subst (λ (k : ℕ). HasMade q k S first c.in-Ok-make_list.start) roots_is c.in-Ok-make_list.ensures) in
    let i = c.loop-i.i in
    let b = c.at-branch.result.now in
    let next = c.loop-i.next.items in
    let now = c.loop-i.builder in
    let so_far = c.loop-i.invariant in
    let lt : i < length bs = omega (arith, c.len-i-end.ensures.count, c.loop-i-test.true) in
    let is = c.at-branch.ensures.branch in
    let le = c.at-branch.ensures.steps in
    let deep : b.depth ≤ i = omega (arith, le, limit_at bs i c.len-i-end.ensures.preorder (omega arith)) in
    let there : b.depth + 1 < length next = omega (arith, so_far.sized) in
    let p = get_or next b.depth 0 in
    let room = room_for row five bs i start first next now b lt is le so_far in
    omega (arith, there)

pub write_segment-requires-clause-named : goal.write_segment-requires-clause-named
write_segment-requires-clause-named c =
    let names = c.args.names.now in
    let bs = c.args.forest.now in
    let lt : c.loop-i.i < length bs = omega (arith, c.len-i-end.ensures.count, c.loop-i-test.true) in
    let h = all_at (IsSegmentNamed names) bs c.loop-i.i c.at-branch.result.now c.requires.named lt c.at-branch.ensures.branch in
    record { first = h.first; second = h.second; third = h.third }

pub write_segment-requires-clause-inside : goal.write_segment-requires-clause-inside
write_segment-requires-clause-inside c =
    let names = c.args.names.now in
    let table = table_in names c.args.strings.now in
    let row = numbers_by names table in
    let five = numbers_five names table in
    let bs = c.args.forest.now in
    let T = trees_at 0 bs in
    let q = pointer_word c.args.at c.args.slot in
    let S = c.args.builder.now in
    let twice = branches_twice (map (number_for (place_in table))) (segment_row names) T in
    let roots_is : c.in-Ok.widths.roots ≡ width T = c.in-Ok.ensures.roots_are in
    let inside : 8 * (q + 1) ≤ length S = omega (arith, c.requires.inside, c.requires.slot) in
    let first = c.make_list.new.builder in
    let zeros = c.resize.new.self.items in
    let next0 = set zeros 0 c.in-Ok-make_list.start in
    let zeros_long : length zeros ≡ length bs + 2 = omega (arith, c.in-Ok-resize.ensures.len, c.len.ensures.count) in
    let sized : length next0 ≡ length bs + 2 = length-set zeros 0 c.in-Ok-make_list.start ∙ zeros_long in
    let start = get_or next0 0 0 in
    let start_is : start ≡ c.in-Ok-make_list.start = get_or-set_same zeros 0 c.in-Ok-make_list.start 0 (omega (arith, zeros_long)) in
    let made : HasMade q (width T) S first start =
    subst (λ (s : ℕ). HasMade q (width T) S first s) (sym start_is) (subst (λ (k : ℕ). HasMade q k S first c.in-Ok-make_list.start) roots_is c.in-Ok-make_list.ensures) in
    let i = c.loop-i.i in
    let b = c.at-branch.result.now in
    let next = c.loop-i.next.items in
    let now = c.loop-i.builder in
    let so_far = c.loop-i.invariant in
    let lt : i < length bs = omega (arith, c.len-i-end.ensures.count, c.loop-i-test.true) in
    let is = c.at-branch.ensures.branch in
    let le = c.at-branch.ensures.steps in
    let deep : b.depth ≤ i = omega (arith, le, limit_at bs i c.len-i-end.ensures.preorder (omega arith)) in
    let there : b.depth + 1 < length next = omega (arith, so_far.sized) in
    let p = get_or next b.depth 0 in
    let room = room_for row five bs i start first next now b lt is le so_far in
    let p_is : c.index-start.result.now ≡ p = get_or_read next b.depth c.index-start.result.now (omega arith) c.index-start.ensures 0 in
    omega (arith, room, p_is)

pub make_list-requires-in-loop-i-clause-inside : goal.make_list-requires-in-loop-i-clause-inside
make_list-requires-in-loop-i-clause-inside c =
    let names = c.args.names.now in
    let table = table_in names c.args.strings.now in
    let row = numbers_by names table in
    let five = numbers_five names table in
    let bs = c.args.forest.now in
    let T = trees_at 0 bs in
    let q = pointer_word c.args.at c.args.slot in
    let S = c.args.builder.now in
    let twice = branches_twice (map (number_for (place_in table))) (segment_row names) T in
    let roots_is : c.in-Ok.widths.roots ≡ width T = c.in-Ok.ensures.roots_are in
    let inside : 8 * (q + 1) ≤ length S = omega (arith, c.requires.inside, c.requires.slot) in
    let first = c.make_list.new.builder in
    let zeros = c.resize.new.self.items in
    let next0 = set zeros 0 c.in-Ok-make_list.start in
    let zeros_long : length zeros ≡ length bs + 2 = omega (arith, c.in-Ok-resize.ensures.len, c.len.ensures.count) in
    let sized : length next0 ≡ length bs + 2 = length-set zeros 0 c.in-Ok-make_list.start ∙ zeros_long in
    let start = get_or next0 0 0 in
    let start_is : start ≡ c.in-Ok-make_list.start = get_or-set_same zeros 0 c.in-Ok-make_list.start 0 (omega (arith, zeros_long)) in
    let made : HasMade q (width T) S first start =
    subst (λ (s : ℕ). HasMade q (width T) S first s) (sym start_is) (subst (λ (k : ℕ). HasMade q k S first c.in-Ok-make_list.start) roots_is c.in-Ok-make_list.ensures) in
    let i = c.loop-i.i in
    let b = c.at-branch.result.now in
    let next = c.loop-i.next.items in
    let now = c.loop-i.builder in
    let so_far = c.loop-i.invariant in
    let lt : i < length bs = omega (arith, c.len-i-end.ensures.count, c.loop-i-test.true) in
    let is = c.at-branch.ensures.branch in
    let le = c.at-branch.ensures.steps in
    let deep : b.depth ≤ i = omega (arith, le, limit_at bs i c.len-i-end.ensures.preorder (omega arith)) in
    let there : b.depth + 1 < length next = omega (arith, so_far.sized) in
    let p = get_or next b.depth 0 in
    let room = room_for row five bs i start first next now b lt is le so_far in
    let p_is : c.index-start.result.now ≡ p = get_or_read next b.depth c.index-start.result.now (omega arith) c.index-start.ensures 0 in
    let S1 = c.write_segment.new.builder in
    let wrote : S1 ≡ written (8 * p) 24 (data_section (row b.item)) now = c.write_segment.ensures.made ∙ ap (λ (k : ℕ). written (8 * k) 24 (data_section (row b.item)) now) p_is in
    let S1_long : length S1 ≡ length now = ap length wrote ∙ length-written (8 * p) 24 (data_section (row b.item)) now refl (omega (arith, room)) in
    omega (arith, room, p_is, S1_long)

pub returns-in-Err-make_list-2 : goal.returns-in-Err-make_list-2
returns-in-Err-make_list-2 c =
    let names = c.args.names.now in
    let table = table_in names c.args.strings.now in
    let row = numbers_by names table in
    let five = numbers_five names table in
    let bs = c.args.forest.now in
    let T = trees_at 0 bs in
    let q = pointer_word c.args.at c.args.slot in
    let S = c.args.builder.now in
    let twice = branches_twice (map (number_for (place_in table))) (segment_row names) T in
    let roots_is : c.in-Ok.widths.roots ≡ width T = c.in-Ok.ensures.roots_are in
    let inside : 8 * (q + 1) ≤ length S = omega (arith, c.requires.inside, c.requires.slot) in
    let first = c.make_list.new.builder in
    let zeros = c.resize.new.self.items in
    let next0 = set zeros 0 c.in-Ok-make_list.start in
    let zeros_long : length zeros ≡ length bs + 2 = omega (arith, c.in-Ok-resize.ensures.len, c.len.ensures.count) in
    let sized : length next0 ≡ length bs + 2 = length-set zeros 0 c.in-Ok-make_list.start ∙ zeros_long in
    let start = get_or next0 0 0 in
    let start_is : start ≡ c.in-Ok-make_list.start = get_or-set_same zeros 0 c.in-Ok-make_list.start 0 (omega (arith, zeros_long)) in
    let made : HasMade q (width T) S first start =
    subst (λ (s : ℕ). HasMade q (width T) S first s) (sym start_is) (subst (λ (k : ℕ). HasMade q k S first c.in-Ok-make_list.start) roots_is c.in-Ok-make_list.ensures) in
    let i = c.loop-i.i in
    let b = c.at-branch.result.now in
    let next = c.loop-i.next.items in
    let now = c.loop-i.builder in
    let so_far = c.loop-i.invariant in
    let lt : i < length bs = omega (arith, c.len-i-end.ensures.count, c.loop-i-test.true) in
    let is = c.at-branch.ensures.branch in
    let le = c.at-branch.ensures.steps in
    let deep : b.depth ≤ i = omega (arith, le, limit_at bs i c.len-i-end.ensures.preorder (omega arith)) in
    let there : b.depth + 1 < length next = omega (arith, so_far.sized) in
    let p = get_or next b.depth 0 in
    let room = room_for row five bs i start first next now b lt is le so_far in
    let p_is : c.index-start.result.now ≡ p = get_or_read next b.depth c.index-start.result.now (omega arith) c.index-start.ensures 0 in
    let S1 = c.write_segment.new.builder in
    let wrote : S1 ≡ written (8 * p) 24 (data_section (row b.item)) now = c.write_segment.ensures.made ∙ ap (λ (k : ℕ). written (8 * k) 24 (data_section (row b.item)) now) p_is in
    let S1_long : length S1 ≡ length now = ap length wrote ∙ length-written (8 * p) 24 (data_section (row b.item)) now refl (omega (arith, room)) in
    let below = c.in-Ok.widths.below.items in
    let wide_enough : i < length below = omega (arith, c.in-Ok.ensures.long) in
    let w = c.index.result.now in
    let width_is : w ≡ width (trees_at (b.depth + 1) (drop (i + 1) bs)) = get_or_read below i w wide_enough c.index.ensures 0 ∙ c.in-Ok.ensures.below_are i b lt is in
    let S' = c.make_list-in-loop-i.new.builder in
    let word : c.index-start.result.now + 3 + 0 ≡ p + 3 = omega (arith, p_is) in
    let f = c.in-Err-make_list-2.fault in
    subst (λ (t : Branches (List ℕ)). Puts {X = Unit {0}} q (structs_laid (branch_sections t)) S S' (Err f)) (sym twice)
    (branch_refused row five bs i q start S first next now b S1 S' S' w f lt is le inside made width_is S1_long so_far
    (subst (λ (k : ℕ). MakesList k w S1 S' (Err f)) word c.in-Err-make_list-2.ensures))

pub index_mut-requires-in-loop-i : goal.index_mut-requires-in-loop-i
index_mut-requires-in-loop-i c =
    let names = c.args.names.now in
    let table = table_in names c.args.strings.now in
    let row = numbers_by names table in
    let five = numbers_five names table in
    let bs = c.args.forest.now in
    let T = trees_at 0 bs in
    let q = pointer_word c.args.at c.args.slot in
    let S = c.args.builder.now in
    let twice = branches_twice (map (number_for (place_in table))) (segment_row names) T in
    let roots_is : c.in-Ok.widths.roots ≡ width T = c.in-Ok.ensures.roots_are in
    let inside : 8 * (q + 1) ≤ length S = omega (arith, c.requires.inside, c.requires.slot) in
    let first = c.make_list.new.builder in
    let zeros = c.resize.new.self.items in
    let next0 = set zeros 0 c.in-Ok-make_list.start in
    let zeros_long : length zeros ≡ length bs + 2 = omega (arith, c.in-Ok-resize.ensures.len, c.len.ensures.count) in
    let sized : length next0 ≡ length bs + 2 = length-set zeros 0 c.in-Ok-make_list.start ∙ zeros_long in
    let start = get_or next0 0 0 in
    let start_is : start ≡ c.in-Ok-make_list.start = get_or-set_same zeros 0 c.in-Ok-make_list.start 0 (omega (arith, zeros_long)) in
    let made : HasMade q (width T) S first start =
    subst (λ (s : ℕ). HasMade q (width T) S first s) (sym start_is) (subst (λ (k : ℕ). HasMade q k S first c.in-Ok-make_list.start) roots_is c.in-Ok-make_list.ensures) in
    let i = c.loop-i.i in
    let b = c.at-branch.result.now in
    let next = c.loop-i.next.items in
    let now = c.loop-i.builder in
    let so_far = c.loop-i.invariant in
    let lt : i < length bs = omega (arith, c.len-i-end.ensures.count, c.loop-i-test.true) in
    let is = c.at-branch.ensures.branch in
    let le = c.at-branch.ensures.steps in
    let deep : b.depth ≤ i = omega (arith, le, limit_at bs i c.len-i-end.ensures.preorder (omega arith)) in
    let there : b.depth + 1 < length next = omega (arith, so_far.sized) in
    let p = get_or next b.depth 0 in
    let room = room_for row five bs i start first next now b lt is le so_far in
    omega (arith, there)

pub overflow_add-start : goal.overflow_add-start
overflow_add-start c =
    let names = c.args.names.now in
    let table = table_in names c.args.strings.now in
    let row = numbers_by names table in
    let five = numbers_five names table in
    let bs = c.args.forest.now in
    let T = trees_at 0 bs in
    let q = pointer_word c.args.at c.args.slot in
    let S = c.args.builder.now in
    let twice = branches_twice (map (number_for (place_in table))) (segment_row names) T in
    let roots_is : c.in-Ok.widths.roots ≡ width T = c.in-Ok.ensures.roots_are in
    let inside : 8 * (q + 1) ≤ length S = omega (arith, c.requires.inside, c.requires.slot) in
    let first = c.make_list.new.builder in
    let zeros = c.resize.new.self.items in
    let next0 = set zeros 0 c.in-Ok-make_list.start in
    let zeros_long : length zeros ≡ length bs + 2 = omega (arith, c.in-Ok-resize.ensures.len, c.len.ensures.count) in
    let sized : length next0 ≡ length bs + 2 = length-set zeros 0 c.in-Ok-make_list.start ∙ zeros_long in
    let start = get_or next0 0 0 in
    let start_is : start ≡ c.in-Ok-make_list.start = get_or-set_same zeros 0 c.in-Ok-make_list.start 0 (omega (arith, zeros_long)) in
    let made : HasMade q (width T) S first start =
    subst (λ (s : ℕ). HasMade q (width T) S first s) (sym start_is) (subst (λ (k : ℕ). HasMade q k S first c.in-Ok-make_list.start) roots_is c.in-Ok-make_list.ensures) in
    let i = c.loop-i.i in
    let b = c.at-branch.result.now in
    let next = c.loop-i.next.items in
    let now = c.loop-i.builder in
    let so_far = c.loop-i.invariant in
    let lt : i < length bs = omega (arith, c.len-i-end.ensures.count, c.loop-i-test.true) in
    let is = c.at-branch.ensures.branch in
    let le = c.at-branch.ensures.steps in
    let deep : b.depth ≤ i = omega (arith, le, limit_at bs i c.len-i-end.ensures.preorder (omega arith)) in
    let there : b.depth + 1 < length next = omega (arith, so_far.sized) in
    let p = get_or next b.depth 0 in
    let room = room_for row five bs i start first next now b lt is le so_far in
    let p_is : c.index-start.result.now ≡ p = get_or_read next b.depth c.index-start.result.now (omega arith) c.index-start.ensures 0 in
    omega (arith, room, p_is, so_far.segment.few)

pub index_mut-requires-in-loop-i-2 : goal.index_mut-requires-in-loop-i-2
index_mut-requires-in-loop-i-2 c =
    let names = c.args.names.now in
    let table = table_in names c.args.strings.now in
    let row = numbers_by names table in
    let five = numbers_five names table in
    let bs = c.args.forest.now in
    let T = trees_at 0 bs in
    let q = pointer_word c.args.at c.args.slot in
    let S = c.args.builder.now in
    let twice = branches_twice (map (number_for (place_in table))) (segment_row names) T in
    let roots_is : c.in-Ok.widths.roots ≡ width T = c.in-Ok.ensures.roots_are in
    let inside : 8 * (q + 1) ≤ length S = omega (arith, c.requires.inside, c.requires.slot) in
    let first = c.make_list.new.builder in
    let zeros = c.resize.new.self.items in
    let next0 = set zeros 0 c.in-Ok-make_list.start in
    let zeros_long : length zeros ≡ length bs + 2 = omega (arith, c.in-Ok-resize.ensures.len, c.len.ensures.count) in
    let sized : length next0 ≡ length bs + 2 = length-set zeros 0 c.in-Ok-make_list.start ∙ zeros_long in
    let start = get_or next0 0 0 in
    let start_is : start ≡ c.in-Ok-make_list.start = get_or-set_same zeros 0 c.in-Ok-make_list.start 0 (omega (arith, zeros_long)) in
    let made : HasMade q (width T) S first start =
    subst (λ (s : ℕ). HasMade q (width T) S first s) (sym start_is) (subst (λ (k : ℕ). HasMade q k S first c.in-Ok-make_list.start) roots_is c.in-Ok-make_list.ensures) in
    let i = c.loop-i.i in
    let b = c.at-branch.result.now in
    let next = c.loop-i.next.items in
    let now = c.loop-i.builder in
    let so_far = c.loop-i.invariant in
    let lt : i < length bs = omega (arith, c.len-i-end.ensures.count, c.loop-i-test.true) in
    let is = c.at-branch.ensures.branch in
    let le = c.at-branch.ensures.steps in
    let deep : b.depth ≤ i = omega (arith, le, limit_at bs i c.len-i-end.ensures.preorder (omega arith)) in
    let there : b.depth + 1 < length next = omega (arith, so_far.sized) in
    let p = get_or next b.depth 0 in
    let room = room_for row five bs i start first next now b lt is le so_far in
    omega (arith, there)

pub loop-i-preserved : goal.loop-i-preserved
loop-i-preserved c =
    let names = c.args.names.now in
    let table = table_in names c.args.strings.now in
    let row = numbers_by names table in
    let five = numbers_five names table in
    let bs = c.args.forest.now in
    let T = trees_at 0 bs in
    let q = pointer_word c.args.at c.args.slot in
    let S = c.args.builder.now in
    let twice = branches_twice (map (number_for (place_in table))) (segment_row names) T in
    let roots_is : c.in-Ok.widths.roots ≡ width T = c.in-Ok.ensures.roots_are in
    let inside : 8 * (q + 1) ≤ length S = omega (arith, c.requires.inside, c.requires.slot) in
    let first = c.make_list.new.builder in
    let zeros = c.resize.new.self.items in
    let next0 = set zeros 0 c.in-Ok-make_list.start in
    let zeros_long : length zeros ≡ length bs + 2 = omega (arith, c.in-Ok-resize.ensures.len, c.len.ensures.count) in
    let sized : length next0 ≡ length bs + 2 = length-set zeros 0 c.in-Ok-make_list.start ∙ zeros_long in
    let start = get_or next0 0 0 in
    let start_is : start ≡ c.in-Ok-make_list.start = get_or-set_same zeros 0 c.in-Ok-make_list.start 0 (omega (arith, zeros_long)) in
    let made : HasMade q (width T) S first start =
    subst (λ (s : ℕ). HasMade q (width T) S first s) (sym start_is) (subst (λ (k : ℕ). HasMade q k S first c.in-Ok-make_list.start) roots_is c.in-Ok-make_list.ensures) in
    let i = c.loop-i.i in
    let b = c.at-branch.result.now in
    let next = c.loop-i.next.items in
    let now = c.loop-i.builder in
    let so_far = c.loop-i.invariant in
    let lt : i < length bs = omega (arith, c.len-i-end.ensures.count, c.loop-i-test.true) in
    let is = c.at-branch.ensures.branch in
    let le = c.at-branch.ensures.steps in
    let deep : b.depth ≤ i = omega (arith, le, limit_at bs i c.len-i-end.ensures.preorder (omega arith)) in
    let there : b.depth + 1 < length next = omega (arith, so_far.sized) in
    let p = get_or next b.depth 0 in
    let room = room_for row five bs i start first next now b lt is le so_far in
    let p_is : c.index-start.result.now ≡ p = get_or_read next b.depth c.index-start.result.now (omega arith) c.index-start.ensures 0 in
    let S1 = c.write_segment.new.builder in
    let wrote : S1 ≡ written (8 * p) 24 (data_section (row b.item)) now = c.write_segment.ensures.made ∙ ap (λ (k : ℕ). written (8 * k) 24 (data_section (row b.item)) now) p_is in
    let S1_long : length S1 ≡ length now = ap length wrote ∙ length-written (8 * p) 24 (data_section (row b.item)) now refl (omega (arith, room)) in
    let below = c.in-Ok.widths.below.items in
    let wide_enough : i < length below = omega (arith, c.in-Ok.ensures.long) in
    let w = c.index.result.now in
    let width_is : w ≡ width (trees_at (b.depth + 1) (drop (i + 1) bs)) = get_or_read below i w wide_enough c.index.ensures 0 ∙ c.in-Ok.ensures.below_are i b lt is in
    let S' = c.make_list-in-loop-i.new.builder in
    let word : c.index-start.result.now + 3 + 0 ≡ p + 3 = omega (arith, p_is) in
    let begin = c.in-Ok-make_list-2.start in
    let list : HasMade (p + 3) w S1 S' begin = subst (λ (k : ℕ). HasMade k w S1 S' begin) word c.in-Ok-make_list-2.ensures in
    subst (λ (k : ℕ). BranchesSoFar row five bs (i + 1) start first (set (set next (b.depth + 1) begin) b.depth (k + 4)) S') (sym p_is)
    (branches_turn row five bs i start first next now b S1 S' w begin lt is le there width_is wrote list so_far)

pub returns : goal.returns
returns c =
    let names = c.args.names.now in
    let table = table_in names c.args.strings.now in
    let row = numbers_by names table in
    let five = numbers_five names table in
    let bs = c.args.forest.now in
    let T = trees_at 0 bs in
    let q = pointer_word c.args.at c.args.slot in
    let S = c.args.builder.now in
    let twice = branches_twice (map (number_for (place_in table))) (segment_row names) T in
    let roots_is : c.in-Ok.widths.roots ≡ width T = c.in-Ok.ensures.roots_are in
    let inside : 8 * (q + 1) ≤ length S = omega (arith, c.requires.inside, c.requires.slot) in
    let first = c.make_list.new.builder in
    let zeros = c.resize.new.self.items in
    let next0 = set zeros 0 c.in-Ok-make_list.start in
    let zeros_long : length zeros ≡ length bs + 2 = omega (arith, c.in-Ok-resize.ensures.len, c.len.ensures.count) in
    let sized : length next0 ≡ length bs + 2 = length-set zeros 0 c.in-Ok-make_list.start ∙ zeros_long in
    let start = get_or next0 0 0 in
    let start_is : start ≡ c.in-Ok-make_list.start = get_or-set_same zeros 0 c.in-Ok-make_list.start 0 (omega (arith, zeros_long)) in
    let made : HasMade q (width T) S first start =
    subst (λ (s : ℕ). HasMade q (width T) S first s) (sym start_is) (subst (λ (k : ℕ). HasMade q k S first c.in-Ok-make_list.start) roots_is c.in-Ok-make_list.ensures) in
    subst (λ (t : Branches (List ℕ)). HasPut q (structs_laid (branch_sections t)) S c.loop-i.builder) (sym twice)
    (branches_done row five bs c.loop-i.i q start S first c.loop-i.next.items c.loop-i.builder (omega (arith, c.len-i-end.ensures.count, c.loop-i-test.false)) inside made c.loop-i.invariant)
