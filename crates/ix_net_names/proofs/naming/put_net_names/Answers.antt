use Rattle.std.proofs.Common.{◌≡◌, ◌+◌, ◌<◌, ◌≤◌, length, get_or, Some, sym, ap, ◌∙◌, subst, arith}
use Rattle.std.proofs.lemmas.Option.{slice_get-get_or}
use Rattle.ix_hierarchy.specs.Fits.{NetlistFits}
use Rattle.ix_names_grow.specs.Grown.{IsGrown}
use Rattle.ix_net_names.specs.NetNames.{AreNamed}
use Rattle.ix_net_names.proofs.Growing.{get_within, named_next}
use Rattle.ix_net_names.proofs.naming.put_net_names.Goals as goal

pub net_text-requires-clause-there : goal.net_text-requires-clause-there
net_text-requires-clause-there c =
    let given = c.requires.signals in
    let lt : c.loop-k.k < length c.args.signals.now = c.loop-k-test.true in
    let many : length c.args.signals.now ≡ length given.1 = given.4.many in
    let at : _ = get_within given.1 c.loop-k.k (omega arith) in
    given.2.numbered.below at.0 (get_or c.args.signals.now c.loop-k.k 0)
    (given.4.each c.loop-k.k (get_or c.args.signals.now c.loop-k.k 0) at.0
    (slice_get-get_or c.args.signals.now c.loop-k.k 0 lt) at.1)

pub loop-k-preserved : goal.loop-k-preserved
loop-k-preserved c =
    let old_new : length c.add_name.new.names + c.add_name.new.left
    ≤ length c.loop-k.names + c.loop-k.left = c.add_name.ensures.counted in
    let before : length c.loop-k.names + c.loop-k.left
    ≤ length c.args.names.now + c.args.left.now = c.loop-k.invariant.counted in
    let fits : NetlistFits (length c.loop-k.names) c.args.rec.now =
    (c.names_grow.ensures c.args.names.now c.loop-k.names c.args.rec.now
    c.loop-k.invariant.keeps c.requires.fits).fits in
    let grown : IsGrown c.loop-k.names c.add_name.new.names c.args.rec.now =
    c.names_grow.ensures c.loop-k.names c.add_name.new.names c.args.rec.now
    c.add_name.ensures.keeps fits in
    record {
      keeps = λ id text at. c.add_name.ensures.keeps id text (c.loop-k.invariant.keeps id text at);
      counted = omega arith;
      are = λ known nets joining signals.
          let lt : c.loop-k.k < length c.args.signals.now = c.loop-k-test.true in
          let many : length c.args.signals.now ≡ length nets = signals.many in
          let at : _ = get_within nets c.loop-k.k (omega arith) in
          let first = (signals.are.each c.loop-k.k at.0 at.1).first in
          let number = signals.each c.loop-k.k (get_or c.args.signals.now c.loop-k.k 0) at.0
          (slice_get-get_or c.args.signals.now c.loop-k.k 0 lt) at.1 in
          subst (λ ids. AreNamed c.add_name.new.names c.args.rec.now nets ids (c.loop-k.k + 1))
          (sym c.in_ok-push.ensures.items)
          (named_next c.loop-k.names c.add_name.new.names c.args.rec.now nets c.loop-k.ids.items
          c.loop-k.k c.in_ok-add_name.field-0 at.0 _ c.add_name.ensures.keeps fits grown
          (c.loop-k.invariant.are known nets joining signals) at.1 first
          (c.in_ok-text.ensures known at.0 first.cell first.net joining number first.occurs)
          (c.in_ok-add_name.ensures.text ∙ ap Some c.as_str.ensures.value));
    }
