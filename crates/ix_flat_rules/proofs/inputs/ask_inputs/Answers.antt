use Rattle.std.proofs.Common.{◌<◌, List, subst, length, slice_index_or, arith}
use Rattle.std.proofs.lemmas.Option.{slice_get_within}
use Rattle.ix_message.specs.Shape.{Text}
use Rattle.ix_flat_rules.specs.Opens.{AreAllJoined, IsFirstOpenOf}
use Rattle.ix_flat_rules.proofs.AllInputs.{input_told, joined_all, joined_next, keeps_all}
use Rattle.ix_flat_rules.proofs.Listings.{instance_there, leaf_at}
use Rattle.ix_flat_rules.proofs.Telling.{match_none, match_some}
use Rattle.ix_flat_rules.proofs.inputs.ask_inputs.Goals as goal

pub loop-k-init : goal.loop-k-init
loop-k-init c = λ known is k leaf less at. absurd (omega arith)

pub first_open_of-requires : goal.first_open_of-requires
first_open_of-requires c =
    let known = c.requires.known.0 in
    let is = c.requires.known.1 in
    let at = leaf_at known c.args.rec.now c.args.joined.now c.args.leaves.now is.cells c.loop-k.k
    is.joined_is is.leaves_are c.loop-k-test.true in
    record { leaf = (known, at.leaf.path, at.leaf.inst, at.leaf.ty, is.sinks_are, at.plain) }

pub broken_at_input-requires-clause-there : goal.broken_at_input-requires-clause-there
broken_at_input-requires-clause-there c =
    let known = c.requires.known.0 in
    let is = c.requires.known.1 in
    let at = leaf_at known c.args.rec.now c.args.joined.now c.args.leaves.now is.cells c.loop-k.k
    is.joined_is is.leaves_are c.loop-k-test.true in
    instance_there known c.args.rec.now c.args.joined.now (slice_index_or c.args.leaves.now
    c.loop-k.k 0) at.leaf.path
    is.joined_is at.plain.path_is

pub broken_at_input-requires-clause-named : goal.broken_at_input-requires-clause-named
broken_at_input-requires-clause-named c =
    let known = c.requires.known.0 in
    let is = c.requires.known.1 in
    let at = leaf_at known c.args.rec.now c.args.joined.now c.args.leaves.now is.cells c.loop-k.k
    is.joined_is is.leaves_are c.loop-k-test.true in
    let first = match_some (AreAllJoined known.names known.device c.args.rec.now at.leaf.path)
    (IsFirstOpenOf known.names known.device c.args.rec.now at.leaf.path) c.in_ok-name.field-0
    c.in-Some.name (c.in_ok-name.ensures known at.leaf.path at.leaf.inst at.leaf.ty is.sinks_are
    at.plain) c.in-Some.is in
    subst (λ (ns : List Text). c.in-Some.name < length ns) is.sinks_are.names_are
    (slice_get_within known.names c.in-Some.name first.text first.named)

pub returns-in-Some-clause-broken : goal.returns-in-Some-clause-broken
returns-in-Some-clause-broken c = λ known is keeps.
    let leaves = c.args.leaves.now in
    let at = leaf_at known c.args.rec.now c.args.joined.now leaves is.cells c.loop-k.k is.joined_is
    is.leaves_are c.loop-k-test.true in
    let first = match_some (AreAllJoined known.names known.device c.args.rec.now at.leaf.path)
    (IsFirstOpenOf known.names known.device c.args.rec.now at.leaf.path) c.in_ok-name.field-0
    c.in-Some.name (c.in_ok-name.ensures known at.leaf.path at.leaf.inst at.leaf.ty is.sinks_are
    at.plain) c.in-Some.is in
    input_told known c.args.rec.now leaves is.cells c.loop-k.k at.leaf c.in-Some.name
    c.broken_at_input.result keeps is.leaves_are (c.loop-k.invariant known is) at.leaf_is first
    (c.broken_at_input.ensures known at.leaf.path is.joined_is is.sinks_are.names_are
    at.plain.path_is)

pub loop-k-preserved : goal.loop-k-preserved
loop-k-preserved c = λ known is.
    let at = leaf_at known c.args.rec.now c.args.joined.now c.args.leaves.now is.cells c.loop-k.k
    is.joined_is is.leaves_are c.loop-k-test.true in
    joined_next known c.args.rec.now is.cells c.loop-k.k at.leaf (c.loop-k.invariant known is)
    at.leaf_is
    (match_none (AreAllJoined known.names known.device c.args.rec.now at.leaf.path)
    (IsFirstOpenOf known.names known.device c.args.rec.now at.leaf.path) c.in_ok-name.field-0
    (c.in_ok-name.ensures known at.leaf.path at.leaf.inst at.leaf.ty is.sinks_are at.plain)
    c.in_default.is)

pub returns-clause-keeps : goal.returns-clause-keeps
returns-clause-keeps c = λ known is keeps. (
  keeps,
  keeps_all known c.args.rec.now (joined_all known c.args.rec.now c.args.leaves.now
      is.cells c.loop-k.k is.leaves_are c.loop-k-test.false (c.loop-k.invariant known is)),
)

pub returns-clause-joined : goal.returns-clause-joined
returns-clause-joined c = λ known is.
    joined_all known c.args.rec.now c.args.leaves.now is.cells c.loop-k.k is.leaves_are
    c.loop-k-test.false (c.loop-k.invariant known is)
