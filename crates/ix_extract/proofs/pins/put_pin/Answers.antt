use Rattle.std.proofs.Common.{◌≡◌, ◌∙◌, ap, sym, subst}
use Rattle.std.specs.FinMap.{get}
use Rattle.ix_extract.specs.Extracted.{IsPinOn}
use Rattle.ix_placed_luts.proofs.Sites.{wire_in_site}
use Rattle.ix_extract.proofs.Growing.{adds_one, adds_none, is_on, no_holder}
use Rattle.ix_extract.proofs.pins.put_pin.Goals as goal

pub holder_of-requires-clause-there : goal.holder_of-requires-clause-there
holder_of-requires-clause-there c = wire_in_site c.args.on.now.device.now c.args.at.now.site
    c.args.at.now.ty c.requires.at.type_is c.args.pin c.in-Some.wire (sym c.in-Some.ensures)

pub returns-in_ok-insert : goal.returns-in_ok-insert
returns-in_ok-insert c =
    let rec = c.args.on.now.device.now in let phys = c.args.on.now.phys.now in
    let at = c.args.at.now in
    let net = c.in-Some-holder_of.net in
    let id : c.new.result ≡ at.cell = c.new.ensures in
    adds_one rec phys c.requires.ready.one_holder at.cell c.args.name net
    (is_on rec phys at.cell at.placement.now at.site at.ty c.requires.at c.args.name c.args.pin
    c.in-Some.wire net c.requires.pin (sym c.in-Some.ensures)
    ((c.holder_of.ensures net).0 c.in-Some-holder_of.is)) c.args.pins.now c.insert.new.self
    (ap (λ q. get c.insert.new.self (q, c.args.name)) (sym id) ∙ c.in_ok-insert.ensures.value)
    (λ q apart. c.insert.ensures.others q (λ e. apart (e ∙ ap (λ k. (k, c.args.name)) id)))
    c.requires.are_on

pub returns-in_default-holder_of : goal.returns-in_default-holder_of
returns-in_default-holder_of c =
    let rec = c.args.on.now.device.now in let phys = c.args.on.now.phys.now in
    let at = c.args.at.now in
    adds_none rec phys at.cell (λ p. p ≡ c.args.name) c.args.pins.now c.requires.are_on
    (λ p net same is. no_holder rec phys at.cell at.placement.now at.site at.ty c.requires.at
    c.args.name c.args.pin c.requires.pin c.in-Some.wire (sym c.in-Some.ensures)
    c.in_default-holder_of.ensures net (subst (λ q. IsPinOn rec phys at.cell q net) same is))
