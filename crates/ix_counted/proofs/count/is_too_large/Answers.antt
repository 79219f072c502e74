use Rattle.std.proofs.Common.{◌≡◌, ◌+◌, ◌<◌, ◌≤◌, ◌^◌, min, length, ◌∙◌, arith}
use Rattle.std.proofs.lemmas.Bool.{ltb-true, ltb-false}
use Rattle.std.proofs.lemmas.Option.{get_or_from_slice_get, slice_get_within}
use Rattle.ix_hierarchy.specs.Hierarchy.{ports_of}
use Rattle.ix_counted.specs.Counts.{bits_to, count_down}
use Rattle.ix_counted.proofs.Whole.{breaks, keeps, top_closed}
use Rattle.ix_counted.proofs.count.is_too_large.Goals as goal

pub returns-clause-yes : goal.returns-clause-yes
returns-clause-yes c = λ large.
    let lt : 4194304 < c.index-below.result.now + c.top_bits.result = ltb-true _ _ large in
    let top : _ = top_closed c.args.rec.now c.args.closed.now c.requires.closed in
    let below : c.index-below.result.now ≡ min (count_down c.args.rec.now
    (length c.args.closed.now) c.args.rec.now.top_inst.cell) (2 ^ 22 + 1) =
    c.index-below.ensures ∙ get_or_from_slice_get c.in_ok-counts.counts.items
    c.args.rec.now.top_inst.cell _ c.index-below.result.now
    (c.in_ok-counts.ensures.each top.0 (length c.args.closed.now)
    c.args.rec.now.top_inst.cell
    (slice_get_within c.args.closed.now top.0 c.args.rec.now.top_inst.cell top.1)
    (slice_get_within c.args.closed.now top.0 c.args.rec.now.top_inst.cell top.1) top.1) in
    let bits : c.top_bits.result ≡ min (bits_to c.args.rec.now
    (ports_of c.args.rec.now c.args.rec.now.top_inst.cell)
    (length (ports_of c.args.rec.now c.args.rec.now.top_inst.cell))) (2 ^ 22 + 1) =
    c.top_bits.ensures in
    breaks c.args.rec.now (length c.args.closed.now) (omega (arith, lt, below, bits))

pub returns-clause-no : goal.returns-clause-no
returns-clause-no c = λ small.
    let le : c.index-below.result.now + c.top_bits.result ≤ 4194304 = ltb-false _ _ small in
    let top : _ = top_closed c.args.rec.now c.args.closed.now c.requires.closed in
    let below : c.index-below.result.now ≡ min (count_down c.args.rec.now
    (length c.args.closed.now) c.args.rec.now.top_inst.cell) (2 ^ 22 + 1) =
    c.index-below.ensures ∙ get_or_from_slice_get c.in_ok-counts.counts.items
    c.args.rec.now.top_inst.cell _ c.index-below.result.now
    (c.in_ok-counts.ensures.each top.0 (length c.args.closed.now)
    c.args.rec.now.top_inst.cell
    (slice_get_within c.args.closed.now top.0 c.args.rec.now.top_inst.cell top.1)
    (slice_get_within c.args.closed.now top.0 c.args.rec.now.top_inst.cell top.1) top.1) in
    let bits : c.top_bits.result ≡ min (bits_to c.args.rec.now
    (ports_of c.args.rec.now c.args.rec.now.top_inst.cell)
    (length (ports_of c.args.rec.now c.args.rec.now.top_inst.cell))) (2 ^ 22 + 1) =
    c.top_bits.ensures in
    keeps c.args.rec.now c.args.closed.now c.requires.closed (omega (arith, le, below, bits))
