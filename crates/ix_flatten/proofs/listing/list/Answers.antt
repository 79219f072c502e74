use Rattle.std.proofs.Common.{◌∙◌, ap, sym, subst, length, List}
use Rattle.ix_joined.specs.declared.state.NetState.{NetState}
use Rattle.ix_joined.specs.States.{AreNetStates}
use Rattle.ix_flatten.proofs.Names.{all_listed, as_known, grown, ready, types_keep}
use Rattle.ix_flatten.proofs.listing.list.Goals as goal

pub add_names-requires-clause-fits : goal.add_names-requires-clause-fits
add_names-requires-clause-fits c =
    (c.names_grow.ensures c.join.new.names c.port_names.new.names c.args.rec.now
    c.port_names.ensures.keeps c.in_ok-joined.ensures.joined.1.fits).fits

pub add_names-requires-clause-joined : goal.add_names-requires-clause-joined
add_names-requires-clause-joined c =
    let design = c.args.rec.now in
    let device = c.args.device.now in
    let joined = c.in_ok-joined.joined in
    let first = c.join.new.names in
    let all = c.in_ok-joined.ensures.joined in
    let known = as_known first device all.0 in
    let given = ready first device design joined c.in_ok-joined.bits.items c.deref.result.now all
    c.deref.ensures.value in (
      known,
      all.1,
      (c.names_grow.ensures first c.port_names.new.names design c.port_names.ensures.keeps
          all.1.fits).longer,
      subst (λ (ss : List NetState). AreNetStates known design joined ss)
          (sym c.deref-3.ensures.value) (c.in_ok-states.ensures.by_net known given),
    )

pub add_names-requires-clause-many : goal.add_names-requires-clause-many
add_names-requires-clause-many c =
    let design = c.args.rec.now in
    let device = c.args.device.now in
    let joined = c.in_ok-joined.joined in
    let first = c.join.new.names in
    let all = c.in_ok-joined.ensures.joined in
    let known = as_known first device all.0 in
    let given = ready first device design joined c.in_ok-joined.bits.items c.deref.result.now all
    c.deref.ensures.value in
    ap length c.deref-3.ensures.value ∙ (c.in_ok-states.ensures.by_number known given).many

pub returns-clause-listed : goal.returns-clause-listed
returns-clause-listed c =
    let design = c.args.rec.now in
    let device = c.args.device.now in
    let joined = c.in_ok-joined.joined in
    let bits = c.in_ok-joined.bits.items in
    let first = c.join.new.names in
    let last = c.add_names.new.names in
    let all = c.in_ok-joined.ensures.joined in
    let more = c.names_grow.ensures first last design
    (λ id text h. c.add_names.ensures.keeps id text (c.port_names.ensures.keeps id text h))
    all.1.fits in
    all_listed last device design _ c.deref.result.now c.deref-3.result.now
    (grown first last device design joined bits more c.len-count.ensures.differ all)
    c.deref.ensures.value c.deref-3.ensures.value c.in_ok-states.ensures.by_number
    c.in_ok-states.ensures.by_net
    (types_keep c.port_names.new.names last c.in_ok-types.types c.add_names.ensures.keeps
    c.in_ok-types.ensures.names) c.in_ok-named.ensures.named

pub returns-clause-keeps : goal.returns-clause-keeps
returns-clause-keeps c = λ id text h. c.add_names.ensures.keeps id text
    (c.port_names.ensures.keeps id text (c.join.ensures.keeps id text h))
