use Rattle.std.proofs.Common.{◌≡◌, ap, sym, ◌∙◌, ℕ, Bool, length, arith}
use Rattle.ix_device.specs.Lookups.{sites_of, type_of_site}
use Rattle.ix_belmap.specs.Sites.{count_below}
use Rattle.ix_belmap.specs.Sites.{is_of_type, sites_of_type}
use Rattle.ix_belmap.proofs.Counting.{counted_yes, counted_no}
use Rattle.ix_belmap.proofs.BelSums.{count_start, of_type_told}
use Rattle.ix_belmap.proofs.bels.sites_of_type.Goals as goal
use Rattle.ix_belmap.proofs.bels.sites_of_type.Goals.{then-eq, else-eq}

pub loop-site-init : goal.loop-site-init
loop-site-init c = record {
  count = sym (count_start (is_of_type c.args.device.now c.args.t));
  within = omega arith;
}

pub loop-site-preserved : goal.loop-site-preserved
loop-site-preserved c =
    let p : ℕ → Bool = is_of_type c.args.device.now c.args.t in
    let told = of_type_told c.args.device.now c.args.t c.loop-site.site c.type_of.result
    (ap (λ s. type_of_site c.args.device.now s) (sym c.new.ensures) ∙ c.type_of.ensures.ty) in
    record {
      count = elim c.if-eq.branch [
        | then-eq w ↦ counted_yes p c.loop-site.count c.loop-site.site c.if-eq.count
            c.loop-site.invariant.count (told ∙ sym c.eq.ensures ∙ w.if-eq.true) w.count-is
        | else-eq w ↦ counted_no p c.loop-site.count c.loop-site.site c.if-eq.count
            c.loop-site.invariant.count (told ∙ sym c.eq.ensures ∙ w.if-eq.false) w.count-is
      ];
      within = elim c.if-eq.branch [ then-eq w ↦ omega arith | else-eq w ↦ omega arith ];
    }

pub returns : goal.returns
unfolding sites_of_type
returns c =
    let end : c.loop-site.site ≡ length (sites_of c.args.device.now) = omega arith in record {
      count = c.loop-site.invariant.count
          ∙ ap (count_below (is_of_type c.args.device.now c.args.t)) end;
      few = let a = c.sites-site-end.ensures in let b = c.sites-site-end.type_inv in omega arith;
    }
