use Rattle.std.proofs.Common.{◌≡◌, ◌<◌, ap, sym, subst, ◌∙◌, IfSome, length, slice_get, arith}
use Rattle.std.proofs.lemmas.Bool.{false≢true}
use Rattle.ix_first_fit.specs.Spots.{spot, admits, is_taken}
use Rattle.ix_first_fit.specs.Taken.{NoneWithin}
use Rattle.ix_first_fit.proofs.Counting.{admits_in}
use Rattle.ix_first_fit.proofs.Fitting.{within_step, admits_within}
use Rattle.ix_first_fit.proofs.fit.first_bel.Goals as goal
use Rattle.ix_first_fit.proofs.fit.first_bel.Goals.{then-takes+else-not-has, else-takes}

pub bels_of-requires : goal.bels_of-requires
bels_of-requires c = subst (λ r. c.type_of-t.result < length r.site_type_list) (sym c.rec.ensures.same) c.type_of-t.ensures.inside

pub takes-requires-clause-ty : goal.takes-requires-clause-ty
takes-requires-clause-ty c = c.type_of-t.ensures.inside

pub returns-then-not-has : goal.returns-then-not-has
returns-then-not-has c = record {
  from = omega arith;
  admitted = sym (admits_in c.args.device.now c.args.ty c.args.site c.type_of-t.result c.new-bel.result c.type_of-t.ensures.ty) ∙ sym c.takes.ensures ∙ c.if-takes.true;
  free = sym c.has.ensures ∙ c.if-not-has.true;
  first_so = subst (λ x. NoneWithin c.args.device.now c.args.taken.now c.args.ty c.args.site c.args.first x) (sym c.new-bel.ensures) c.loop-bel.invariant;
}

pub loop-bel-preserved : goal.loop-bel-preserved
loop-bel-preserved c =
    within_step c.args.device.now c.args.taken.now c.args.ty c.args.site c.args.first c.loop-bel.bel c.loop-bel.invariant
    (λ adm. elim c.if-takes.branch [
      | then-takes+else-not-has w ↦ ap (λ b. is_taken c.args.taken.now (spot c.args.site b)) (sym c.new-bel.ensures) ∙ sym w.has.ensures ∙ w.if-not-has.false
      | else-takes w ↦ absurd (false≢true (sym w.if-takes.false ∙ c.takes.ensures ∙ admits_in c.args.device.now c.args.ty c.args.site c.type_of-t.result c.new-bel.result c.type_of-t.ensures.ty ∙ ap (λ b. admits c.args.device.now c.args.ty (spot c.args.site b)) c.new-bel.ensures ∙ adm))
    ])

pub returns : goal.returns
returns c b from adm =
    let lt : b < c.in_ok-bel-end.bel-end = admits_within c.args.device.now c.args.ty c.args.site c.type_of-t.result c.in_ok-bel-end.bel-end b c.type_of-t.ensures.ty (subst (λ r. IfSome (slice_get r.site_type_list c.type_of-t.result) (λ u. c.in_ok-bel-end.bel-end ≡ length u.bels)) c.rec.ensures.same c.in_ok-bel-end.ensures) adm in
    c.loop-bel.invariant b from (omega arith) adm
