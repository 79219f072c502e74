use Rattle.std.proofs.Common.{◌+◌, ◌*◌, ◌<◌, drop, arith}
use Rattle.std.proofs.lemmas.List.{length-drop}
use Rattle.ix_frame.specs.Segments.{segment_at}
use Rattle.ix_frame.specs.Views.{all_of}
use Rattle.ix_frame.proofs.Parts.{below_count, number_is}
use Rattle.ix_frame.proofs.list.Numbers.at.Goals as goal

pub behind-requires : goal.behind-requires
behind-requires c =
    let l = c.args.self.now in
    let lt : c.args.i < l.count = below_count l.count c.args.i (drop (8 * l.start) (segment_at (all_of l.segment) l.segment.number)) c.requires in
    omega (arith, l.inside)

pub read_u32-requires : goal.read_u32-requires
read_u32-requires c =
    let l = c.args.self.now in
    let lt : c.args.i < l.count = below_count l.count c.args.i (drop (8 * l.start) (segment_at (all_of l.segment) l.segment.number)) c.requires in
    rw c.behind.ensures (omega (arith, l.inside, length-drop (8 * l.start + 4 * c.args.i) l.segment.bytes.now))

pub returns : goal.returns
returns c =
    let l = c.args.self.now in
    number_is (segment_at (all_of l.segment) l.segment.number) l.segment.bytes.now c.behind.result.now l.start l.count c.args.i c.read_u32.result l.segment.here.is c.behind.ensures c.read_u32.ensures c.requires
