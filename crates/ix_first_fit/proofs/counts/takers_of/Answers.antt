use Rattle.std.proofs.Common.{◌≡◌, ap, sym, subst, ◌∙◌, ℕ, Bool, IfSome, length, slice_get, arith}
use Rattle.ix_first_fit.specs.Spots.{count_below}
use Rattle.ix_first_fit.proofs.Counting.{takes_in, count_start, counted_yes, counted_no, told_takers}
use Rattle.ix_first_fit.proofs.counts.takers_of.Goals as goal
use Rattle.ix_first_fit.proofs.counts.takers_of.Goals.{then-takes, else-takes}

pub loop-bel-init : goal.loop-bel-init
loop-bel-init c = record { count = sym (count_start (λ b. takes_in c.args.device.now c.args.ty c.args.t b)); few = omega arith }

pub loop-bel-preserved : goal.loop-bel-preserved
loop-bel-preserved c =
    let p : ℕ → Bool = λ b. takes_in c.args.device.now c.args.ty c.args.t b in
    let told = ap p (sym c.new.ensures) ∙ sym c.takes.ensures in record {
      count = elim c.if-takes.branch [
        | then-takes w ↦ counted_yes p c.loop-bel.count c.loop-bel.bel c.if-takes.count c.loop-bel.invariant.count (told ∙ w.if-takes.true) w.count-is
        | else-takes w ↦ counted_no p c.loop-bel.count c.loop-bel.bel c.if-takes.count c.loop-bel.invariant.count (told ∙ w.if-takes.false) w.count-is
      ];
      few = elim c.if-takes.branch [ then-takes w ↦ omega arith | else-takes w ↦ omega arith ];
    }

pub returns : goal.returns
returns c site h =
    let p : ℕ → Bool = λ b. takes_in c.args.device.now c.args.ty c.args.t b in
    let end : c.loop-bel.bel ≡ c.in_ok-bel-end.bel-end = omega arith in
    c.loop-bel.invariant.count ∙ ap (count_below p) end ∙ told_takers c.args.device.now c.args.ty c.args.t c.in_ok-bel-end.bel-end c.requires (subst (λ r. IfSome (slice_get r.site_type_list c.args.t) (λ u. c.in_ok-bel-end.bel-end ≡ length u.bels)) c.rec.ensures.same c.in_ok-bel-end.ensures) site h
