use Rattle.std.proofs.Common.{◌≡◌, ◌+◌, ◌-◌, ◌*◌, true, drop}
use Rattle.ix_frame.specs.Views.{object_of, elements_of}
use Rattle.ix_message.specs.Shape.{Struct}
use Rattle.ix_schema.specs.Forms.{is_form}
use Rattle.ix_schema.specs.Passed.{left_at, each_left}
use Rattle.ix_schema.proofs.Walks.{StillTo}
use Rattle.ix_schema.proofs.table.Table.+pass.Given as goal

abbrev pub decreases-pass : goal.decreases-pass
decreases-pass l = 3 * l.n + 2

abbrev pub decreases-pass_list : goal.decreases-pass_list
decreases-pass_list l = 3 * l.n + 3

abbrev pub decreases-pass_pointer : goal.decreases-pass_pointer
decreases-pass_pointer l = 3 * l.n + 1

abbrev pub invariant-pass-loop-slot : goal.invariant-pass-loop-slot
invariant-pass-loop-slot l = (s : Struct) → is_form l.self.structs.now l.n s ≡ true → StillTo l.self.structs.now (drop l.slot l.pointers) l.slot (object_of l.o) l.budget (left_at s (object_of l.o) l.fn.budget)

abbrev pub invariant-pass_list-loop-i : goal.invariant-pass_list-loop-i
invariant-pass_list-loop-i l = (s : Struct) → is_form l.self.structs.now l.n s ≡ true → each_left (left_at s) ((elements_of l.l).count - l.i) (elements_of l.l) l.i l.budget ≡ each_left (left_at s) (elements_of l.l).count (elements_of l.l) 0 l.fn.budget
