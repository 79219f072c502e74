use Rattle.std.proofs.Common.{◌≡◌, ◌∙◌, ap, sym, subst, List, arith, length}
use Rattle.ix_message.specs.Shape.{Text}
use Rattle.ix_hierarchy.specs.Fits.{NetlistFits}
use Rattle.ix_hierarchy.specs.FlatDesign.{IsNetText}
use Rattle.ix_hierarchy.specs.Nets.{net_text}
use Rattle.ix_flat_rules.proofs.Telling.{told_as, text_of_net}
use Rattle.ix_flat_rules.proofs.nets.broken_at_net.Goals as goal

pub net_text-requires-clause-fits : goal.net_text-requires-clause-fits
net_text-requires-clause-fits c =
    subst (λ (ns : List Text). NetlistFits (length ns) c.args.rec.now) c.requires.known.2
    c.requires.known.1.fits

pub net_text-requires-clause-joined : goal.net_text-requires-clause-joined
net_text-requires-clause-joined c =
    let same : length c.requires.known.0.names ≡ length c.args.names.now =
    ap length c.requires.known.2 in
    (c.requires.known.0, c.requires.known.1, omega arith)

pub returns-in-Ok : goal.returns-in-Ok
returns-in-Ok c = λ known at are names number first.
    told_as c.args.rule (IsNetText known.names c.args.rec.now at) c.as_str.result.now
    c.broken.result
    (text_of_net known.names c.args.rec.now at c.as_str.result.now first
    (c.as_str.ensures.value
    ∙ c.in-Ok.ensures known at first.cell first.net are number first.occurs
    ∙ ap (λ (ns : List Text). net_text ns c.args.rec.now at.path first.net) (sym names)))
    c.broken.ensures
