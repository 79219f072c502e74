use Rattle.std.proofs.Common.{◌≡◌, sym, subst, ◌∙◌, slice_get, Some}
use Rattle.std.proofs.lemmas.Option.{none-some, same_Some}
use Rattle.ix_belmap.proofs.Named.{type_found}
use Rattle.ix_belmap.proofs.bels.type_at.Goals as goal

pub unreachable-requires : goal.unreachable-requires
unreachable-requires c =
    let at = subst (λ r. slice_get r.site_type_list c.args.place ≡ Some c.at.result.now)
    c.rec.ensures.same c.at.ensures in
    none-some c.args.place (sym c.in-None.is ∙ c.site_type.ensures
    ∙ type_found c.args.device.now c.args.place c.at.result.now c.rec.ensures.valid at)

pub returns : goal.returns
returns c =
    let at = subst (λ r. slice_get r.site_type_list c.args.place ≡ Some c.at.result.now)
    c.rec.ensures.same c.at.ensures in
    same_Some _ _ (sym c.in-Some.is ∙ c.site_type.ensures
    ∙ type_found c.args.device.now c.args.place c.at.result.now c.rec.ensures.valid at)
