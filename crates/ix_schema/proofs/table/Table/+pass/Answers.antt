use Rattle.std.proofs.Common.{◌≡◌, ◌≤◌, ◌<◌, ◌*◌, ◌^◌, ◌∙◌, length, sym, arith, rules}
use Rattle.std.proofs.lemmas.Bool.{eqb-true}
use Rattle.ix_schema.proofs.Stacks.{nothing_in}
use Rattle.std.proofs.lemmas.Option.{slice_get-get_or}
use Rattle.ix_frame.specs.Views.{elements_of, object_of}
use Rattle.ix_schema.specs.declared.form.Behind.TheVariants.{Text as TextBehind}
use Rattle.ix_schema.specs.Passed.{left_at}
use Rattle.ix_schema.proofs.Walks.{goes_on, fails_on, all_passed, begins, turn_fails, turn_goes, pointers_done, bare_list}
use Rattle.ix_schema.proofs.table.Table.+pass.Goals as goal

pub pass-loop-slot-init : goal.pass-loop-slot-init
pass-loop-slot-init t c s is = begins c.args.self.now.structs.now c.args.n c.pointers_of-pointers.result.now s (object_of c.args.o) c.args.budget.now is c.pointers_of-pointers.ensures.pointers

pub pass-offset_bounds-pointers-slot : goal.pass-offset_bounds-pointers-slot
pass-offset_bounds-pointers-slot t c = let few : length c.pointers_of-pointers.result.now < 65536 = c.pointers_of-pointers.ensures.ordered.few in let lt : 16 * c.loop-slot.slot < 2 ^ 64 = omega arith in search rules

pub pass-overflow_cast-slot : goal.pass-overflow_cast-slot
pass-overflow_cast-slot t c = let few : length c.pointers_of-pointers.result.now < 65536 = c.pointers_of-pointers.ensures.ordered.few in let lt : c.loop-slot.slot < 2 ^ 32 = omega arith in search rules

pub pass-pass_pointer-requires : goal.pass-pass_pointer-requires
pass-pass_pointer-requires t c = (omega arith, (c.requires, c.pointers_of-pointers.ensures.ordered.lower c.loop-slot.slot _ (slice_get-get_or c.pointers_of-pointers.result.now c.loop-slot.slot TextBehind c.loop-slot-test.true)))

pub pass-returns-in-Err : goal.pass-returns-in-Err
pass-returns-in-Err t c s is = turn_fails c.in-Err.fault c.args.self.now.structs.now c.pointers_of-pointers.result.now c.loop-slot.slot _ (object_of c.args.o) c.loop-slot.budget _ (slice_get-get_or c.pointers_of-pointers.result.now c.loop-slot.slot TextBehind c.loop-slot-test.true) c.in-Err.ensures (c.loop-slot.invariant s is)

pub pass-loop-slot-preserved : goal.pass-loop-slot-preserved
pass-loop-slot-preserved t c s is = turn_goes c.args.self.now.structs.now c.pointers_of-pointers.result.now c.loop-slot.slot _ (object_of c.args.o) c.loop-slot.budget c.pass_pointer.new.budget _ (slice_get-get_or c.pointers_of-pointers.result.now c.loop-slot.slot TextBehind c.loop-slot-test.true) c.in-Ok.ensures (c.loop-slot.invariant s is)

pub pass-returns : goal.pass-returns
pass-returns t c s is = pointers_done c.args.self.now.structs.now c.pointers_of-pointers.result.now c.loop-slot.slot (object_of c.args.o) c.loop-slot.budget _ c.loop-slot-test.false (c.loop-slot.invariant s is)

pub pass_list-returns-then-is_empty : goal.pass_list-returns-then-is_empty
pass_list-returns-then-is_empty t c s is =
    let none : length c.pointers_of.result.now ≡ 0 = eqb-true (length c.pointers_of.result.now) 0 (sym c.if-is_empty.ensures) in
    bare_list c.args.self.now.structs.now c.args.n s (elements_of c.args.l).count (elements_of c.args.l) 0 c.args.budget.now is (sym c.pointers_of.ensures.pointers ∙ nothing_in c.pointers_of.result.now none)

pub pass_list-returns-in-Err : goal.pass_list-returns-in-Err
pass_list-returns-in-Err t c s is =
    let lt : c.loop-i.i < (elements_of c.args.l).count = omega arith in
    fails_on c.in-Err.fault (left_at s) (elements_of c.args.l) (elements_of c.args.l).count c.loop-i.i c.loop-i.budget _ lt (rw c.at.ensures at (c.in-Err.ensures s is)) (c.loop-i.invariant s is)

pub pass_list-loop-i-preserved : goal.pass_list-loop-i-preserved
pass_list-loop-i-preserved t c s is =
    let lt : c.loop-i.i < (elements_of c.args.l).count = omega arith in
    goes_on (left_at s) (elements_of c.args.l) (elements_of c.args.l).count c.loop-i.i c.loop-i.budget c.pass.new.budget _ lt (rw c.at.ensures at (c.in-Ok.ensures s is)) (c.loop-i.invariant s is)

pub pass_list-returns : goal.pass_list-returns
pass_list-returns t c s is =
    let le : (elements_of c.args.l).count ≤ c.loop-i.i = omega arith in
    all_passed (left_at s) (elements_of c.args.l) (elements_of c.args.l).count c.loop-i.i c.loop-i.budget _ le (c.loop-i.invariant s is)
