use Rattle.std.proofs.Common.{◌*◌, arith, refl, get_or}
use Rattle.ix_message_write.proofs.RowLemmas.{row_none, row_turn, row_done}
use Rattle.ix_message_write.proofs.row.write_numbers.Goals as goal

pub loop-slot-init : goal.loop-slot-init
loop-slot-init c = row_none (8 * c.args.at.start) c.args.numbers.now c.args.builder.now c.requires.segment

pub loop-slot-preserved : goal.loop-slot-preserved
loop-slot-preserved c =
    let p = 8 * c.args.at.start in
    let i = c.loop-slot.slot in
    let row = c.args.numbers.now in
    row_turn p i (get_or row i 0) row c.args.builder.now c.loop-slot.builder c.set_u32.new.self (omega arith) (omega (arith, c.requires.inside, c.requires.short)) refl c.loop-slot.invariant c.set_u32.ensures.made c.set_u32.ensures.segment

pub returns-clause-made : goal.returns-clause-made
returns-clause-made c = row_done (8 * c.args.at.start) c.loop-slot.slot c.args.numbers.now c.args.builder.now c.loop-slot.builder (omega arith) (omega arith) c.loop-slot.invariant
