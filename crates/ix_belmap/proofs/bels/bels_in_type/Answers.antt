use Rattle.std.proofs.Common.{◌≡◌, ap, sym, subst, ◌∙◌, ℕ, Bool, IfSome, length, slice_get, Some}
use Rattle.std.proofs.Common.{arith}
use Rattle.ix_belmap.specs.Counts.{bels_in_type as bels_in_type_seen}
use Rattle.ix_belmap.proofs.Counting.{counted_yes, counted_no}
use Rattle.ix_belmap.proofs.BelSums.{takes_in, count_start, all_counted}
use Rattle.ix_belmap.proofs.bels.bels_in_type.Goals as goal
use Rattle.ix_belmap.proofs.bels.bels_in_type.Goals.{then-takes, else-takes}

pub loop-place-init : goal.loop-place-init
loop-place-init c = record {
  count = sym (count_start
      (takes_in c.args.device.now c.args.ty c.args.t));
  within = omega arith;
  few = omega arith;
}

pub loop-place-preserved : goal.loop-place-preserved
loop-place-preserved c =
    let p : ℕ → Bool = takes_in c.args.device.now c.args.ty c.args.t in
    let told = ap p (sym c.bel_at.ensures.id) ∙ sym c.takes.ensures in record {
      count = elim c.if-takes.branch [
        | then-takes w ↦ counted_yes p c.loop-place.count c.loop-place.place c.if-takes.count
            c.loop-place.invariant.count (told ∙ w.if-takes.true) w.count-is
        | else-takes w ↦ counted_no p c.loop-place.count c.loop-place.place c.if-takes.count
            c.loop-place.invariant.count (told ∙ w.if-takes.false) w.count-is
      ];
      within = elim c.if-takes.branch [ then-takes w ↦ omega arith | else-takes w ↦ omega arith ];
      few = let f = c.bel_at.ensures.few in omega arith;
    }

pub returns : goal.returns
returns c =
    let at = ap (slice_get c.args.device.now.site_type_list) (sym c.get.ensures)
    ∙ subst (λ r. slice_get r.site_type_list c.get.result ≡ Some c.at.result.now)
    c.rec.ensures.same c.at.ensures in
    let end : c.loop-place.place ≡ length c.at.result.now.bels = omega arith in record {
      count = subst (λ o. IfSome o (λ seen. c.loop-place.count ≡ bels_in_type_seen c.args.device.now
          c.args.ty seen)) (sym at)
          (c.loop-place.invariant.count ∙ all_counted c.args.device.now c.args.ty c.args.t
          c.at.result.now c.loop-place.place at end);
      few = let a = c.loop-place.invariant.within in let b = c.loop-place.invariant.few in
          omega arith;
    }
