use Rattle.std.proofs.Common.{◌≡◌, ◌<◌, ap, sym, ◌∙◌, refl, ℕ, length, slice_get, arith}
use Rattle.std.proofs.lemmas.Option.{slice_get_within, same_Some}
use Rattle.ix_device.specs.Lookups.{sites_of}
use Rattle.ix_first_fit.specs.Spots.{sum_below, takers_at, count_bels}
use Rattle.ix_first_fit.proofs.Counting.{sum_start, bels_step}
use Rattle.ix_first_fit.proofs.counts.count_bels.Goals as goal

pub loop-site-init : goal.loop-site-init
loop-site-init c = record { count = sym (sum_start (λ s. takers_at c.args.device.now c.args.ty s)); few = omega arith }

pub at-requires : goal.at-requires
at-requires c =
    let within : c.type_of-t.result < length c.in_ok-takers.takers =
    slice_get_within c.in_ok-takers.takers c.type_of-t.result _ (c.in_ok-takers.ensures c.new.result c.type_of-t.result c.type_of-t.ensures.ty) in omega arith

pub loop-site-preserved : goal.loop-site-preserved
loop-site-preserved c =
    let f : ℕ → ℕ = λ s. takers_at c.args.device.now c.args.ty s in
    let at : c.at.result.now ≡ f c.loop-site.site =
    same_Some _ _ (sym c.at.ensures ∙ ap (slice_get c.in_ok-takers.takers) c.get.ensures ∙ c.in_ok-takers.ensures c.new.result c.type_of-t.result c.type_of-t.ensures.ty) ∙ ap f c.new.ensures in record {
      count = bels_step f c.loop-site.count c.from-count.result c.loop-site.site _ c.loop-site.invariant.count (c.from-count.ensures ∙ at) refl;
      few = omega arith;
    }

pub returns : goal.returns
unfolding count_bels
returns c =
    let end : c.loop-site.site ≡ length (sites_of c.args.device.now) = omega arith in
    c.loop-site.invariant.count ∙ ap (sum_below (λ s. takers_at c.args.device.now c.args.ty s)) end
