use Rattle.std.proofs.Common.{◌<◌, ◌≤◌, length, arith}
use Rattle.ix_frame.specs.Objects.{element_of}
use Rattle.ix_frame.specs.Views.{elements_of}
use Rattle.ix_schema.specs.Said.{said, each_said}
use Rattle.ix_device_read.specs.Loose.{loose_texts}
use Rattle.ix_device_read.proofs.Adding.{item_room, item_added, item_stops, all_added}
use Rattle.ix_device_read.proofs.Said.{said_at, said_length}
use Rattle.ix_device_read.proofs.intern.add_list.Goals as goal

pub add_texts-requires : goal.add_texts-requires
add_texts-requires g c =
    let l = elements_of c.args.l in
    let lt : c.loop-i.i < l.count = omega arith in
    let say = said g.T.HasTexts.form in
    rw (c.at.ensures) (item_room (loose_texts g.T.HasTexts.form) (each_said say l.count l 0) c.args.names.now c.loop-i.i (say (element_of l c.loop-i.i)) c.loop-i.names (said_at say l.count l c.loop-i.i lt) c.requires c.loop-i.invariant)

pub returns-in-Err : goal.returns-in-Err
returns-in-Err g c =
    let l = elements_of c.args.l in
    let lt : c.loop-i.i < l.count = omega arith in
    let say = said g.T.HasTexts.form in
    item_stops (loose_texts g.T.HasTexts.form) (each_said say l.count l 0) c.args.names.now c.loop-i.i (say (element_of l c.loop-i.i)) c.loop-i.names c.add_texts.new.names (said_at say l.count l c.loop-i.i lt) c.loop-i.invariant (rw c.at.ensures at c.in-Err.ensures)

pub loop-i-preserved : goal.loop-i-preserved
loop-i-preserved g c =
    let l = elements_of c.args.l in
    let lt : c.loop-i.i < l.count = omega arith in
    let say = said g.T.HasTexts.form in
    item_added (loose_texts g.T.HasTexts.form) (each_said say l.count l 0) c.args.names.now c.loop-i.i (say (element_of l c.loop-i.i)) c.loop-i.names c.add_texts.new.names (said_at say l.count l c.loop-i.i lt) c.loop-i.invariant (rw c.at.ensures at c.in-Ok.ensures)

pub returns : goal.returns
returns g c =
    let l = elements_of c.args.l in
    let say = said g.T.HasTexts.form in
    let le : length (each_said say l.count l 0) ≤ c.loop-i.i = omega (arith, said_length say l.count l 0) in
    all_added (loose_texts g.T.HasTexts.form) (each_said say l.count l 0) c.args.names.now c.loop-i.i c.loop-i.names le c.loop-i.invariant
