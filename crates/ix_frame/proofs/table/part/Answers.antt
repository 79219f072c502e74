use Rattle.std.proofs.Common.{◌<◌, arith}
use Rattle.ix_frame.proofs.Parts.{ahead_first, ahead_next, ahead_last, head_room}
use Rattle.ix_frame.proofs.table.part.Goals as goal

pub loop-init : goal.loop-init
loop-init c = ahead_first c.args.table.now c.args.bytes.now c.args.count c.args.number c.requires.whole c.requires.inside

pub behind-rest-requires : goal.behind-rest-requires
behind-rest-requires c =
    let lt : c.loop.counter < c.args.count = omega (arith, c.loop-test.true, c.requires.there) in
    head_room c.args.table.now c.args.bytes.now c.args.count c.args.number c.loop.counter c.loop.ahead.now c.loop.rest.now c.read_u32-words.result lt c.read_u32-words.ensures c.loop.invariant

pub loop-preserved : goal.loop-preserved
loop-preserved c = ahead_next c.args.table.now c.args.bytes.now c.args.count c.args.number c.loop.counter c.loop.ahead.now c.loop.rest.now c.read_u32-words.result c.behind-ahead.result.now c.behind-rest.result.now c.loop-test.true c.requires.there c.read_u32-words.ensures c.behind-ahead.ensures c.behind-rest.ensures c.loop.invariant

pub front-requires : goal.front-requires
front-requires c =
    let lt : c.loop.counter < c.args.count = omega arith in
    head_room c.args.table.now c.args.bytes.now c.args.count c.args.number c.loop.counter c.loop.ahead.now c.loop.rest.now c.read_u32-words-2.result lt c.read_u32-words-2.ensures c.loop.invariant

pub returns-clause-part : goal.returns-clause-part
returns-clause-part c = ahead_last c.args.table.now c.args.bytes.now c.args.count c.args.number c.loop.counter c.loop.ahead.now c.loop.rest.now c.read_u32-words-2.result c.front.result.now (omega arith) c.requires.there c.read_u32-words-2.ensures c.front.ensures c.loop.invariant
