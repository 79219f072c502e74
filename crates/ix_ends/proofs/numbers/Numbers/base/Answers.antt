use Rattle.std.proofs.Common.{◌∙◌, ap, sym, arith, slice_get, set, Some}
use Rattle.ix_ends.proofs.Giving.{next_base, none_at}
use Rattle.ix_ends.proofs.numbers.Numbers.base.Goals as goal

pub returns-clause-given : goal.returns-clause-given
returns-clause-given c =
    let site = c.requires.site in
    let all = c.requires.numbers.sites_all in
    let is = c.get-place.ensures in
    let none = none_at c.args.self.now.bases.items c.get-place.result c.index.result.now
    (omega arith) c.index.ensures c.in_default.not-Some in
    next_base c.args.device.now c.args.self.now _ c.args.site c.wires_of.result c.requires.numbers
    c.requires.site (ap (slice_get c.args.self.now.bases.items) (sym is) ∙ none) c.wires_of.ensures
    (ap (λ n. set c.args.self.now.bases.items n (Some c.args.self.now.count)) is)
    c.in_ok-self.ensures.fits c.in_ok-self.ensures.few
