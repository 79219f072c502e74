use Rattle.std.proofs.Common.{◌≡◌, ◌<◌, ap, sym, subst, ◌∙◌, slice_get, Some, length, IfSome, arith}
use Rattle.std.proofs.lemmas.Option.{none-some, same_Some}
use Rattle.ix_belmap.proofs.Named.{bel_found}
use Rattle.ix_belmap.proofs.bels.bel_at.Goals as goal

pub at-requires : goal.at-requires
at-requires c =
    let ty = subst (λ r. slice_get r.site_type_list c.get.result ≡ Some c.at-ty.result.now)
    c.rec.ensures.same c.at-ty.ensures in
    let here = ap (slice_get c.args.device.now.site_type_list) (sym c.get.ensures) ∙ ty in
    subst (λ o. IfSome o (λ ty. c.args.place < length ty.bels)) here c.requires.bel

pub unreachable-requires : goal.unreachable-requires
unreachable-requires c =
    let ty = subst (λ r. slice_get r.site_type_list c.get.result ≡ Some c.at-ty.result.now)
    c.rec.ensures.same c.at-ty.ensures in
    let here = ap (slice_get c.args.device.now.site_type_list) (sym c.get.ensures) ∙ ty in
    none-some c.args.place (sym c.in-None.is ∙ c.bel.ensures.bel
    ∙ bel_found c.args.device.now c.args.t c.at-ty.result.now c.args.place c.at.result.now
    c.rec.ensures.valid here c.at.ensures)

pub returns-clause-id : goal.returns-clause-id
returns-clause-id c =
    let ty = subst (λ r. slice_get r.site_type_list c.get.result ≡ Some c.at-ty.result.now)
    c.rec.ensures.same c.at-ty.ensures in
    let here = ap (slice_get c.args.device.now.site_type_list) (sym c.get.ensures) ∙ ty in
    c.new.ensures ∙ c.get-in-Some.ensures
    ∙ same_Some _ _ (sym c.in-Some.is ∙ c.bel.ensures.bel
    ∙ bel_found c.args.device.now c.args.t c.at-ty.result.now c.args.place c.at.result.now
    c.rec.ensures.valid here c.at.ensures)

pub returns-clause-few : goal.returns-clause-few
returns-clause-few c =
    let ty = subst (λ r. slice_get r.site_type_list c.get.result ≡ Some c.at-ty.result.now)
    c.rec.ensures.same c.at-ty.ensures in
    let here = ap (slice_get c.args.device.now.site_type_list) (sym c.get.ensures) ∙ ty in
    let is : c.in-Some.bel ≡ c.args.place =
    same_Some _ _ (sym c.in-Some.is ∙ c.bel.ensures.bel
    ∙ bel_found c.args.device.now c.args.t c.at-ty.result.now c.args.place c.at.result.now
    c.rec.ensures.valid here c.at.ensures) in
    let few = c.get-in-Some.type_inv in let same = c.get-in-Some.ensures in omega arith
