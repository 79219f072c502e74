use Rattle.std.proofs.Common.{◌≡◌, ◌+◌, ap, sym, ◌∙◌, length, arith}
use Rattle.ix_belmap.specs.Sites.{sites_of_type}
use Rattle.ix_belmap.proofs.BelSums.{bels_so_far, bels_start, bels_end, bels_most, sites_most}
use Rattle.ix_belmap.proofs.BelSums.{told_bels, next_sum, skip_sum, small_next, product_fits}
use Rattle.ix_belmap.proofs.bels.bels_of_device.Goals as goal
use Rattle.ix_belmap.proofs.bels.bels_of_device.Goals.{then-bels-gt0, else-bels-gt0}

pub loop-place-init : goal.loop-place-init
loop-place-init c = record {
  count = sym (bels_start c.args.device.now c.args.ty);
  small =
      λ t lt. absurd (omega arith);
}

pub overflow_mul-count : goal.overflow_mul-count
overflow_mul-count c =
    let most = sites_most c.args.device.now c.type_at-t.result in
    let fits = product_fits c.bels_in_type-bels.result c.sites_told.result (let few =
    c.bels_in_type-bels.ensures.few in omega arith) (let few = c.sites_told.ensures.few in
    let is = c.sites_told.ensures.count in omega arith) in omega arith

pub overflow_add-count : goal.overflow_add-count
overflow_add-count c =
    let place : c.type_at-t.result ≡ c.loop-place.place = c.type_at-t.ensures in
    let told = told_bels c.args.device.now c.args.ty c.type_at-t.result c.bels_in_type-bels.result
    c.loop-place.place c.bels_in_type-bels.ensures.count (let same =
    ap (λ r. length r.site_type_list) c.rec.ensures.same in omega arith) place in
    let sum = next_sum c.args.device.now c.args.ty c.loop-place.place c.loop-place.count
    c.bels_in_type-bels.result c.sites_told.result c.loop-place.invariant.count told
    (c.sites_told.ensures.count ∙ ap (sites_of_type c.args.device.now) place) in
    let most = bels_most c.args.device.now c.args.ty (c.loop-place.place + 1)
    (small_next c.args.device.now c.args.ty c.loop-place.place c.bels_in_type-bels.result
    c.loop-place.invariant.small told c.bels_in_type-bels.ensures.few) in
    let few = c.sites_told.ensures.few in omega arith

pub loop-place-preserved : goal.loop-place-preserved
loop-place-preserved c =
    let place : c.type_at-t.result ≡ c.loop-place.place = c.type_at-t.ensures in
    let told = told_bels c.args.device.now c.args.ty c.type_at-t.result c.bels_in_type-bels.result
    c.loop-place.place c.bels_in_type-bels.ensures.count (let same =
    ap (λ r. length r.site_type_list) c.rec.ensures.same in omega arith) place in record {
      count = elim c.if-bels-gt0.branch [
        | then-bels-gt0 w ↦ w.count-is ∙ next_sum c.args.device.now c.args.ty c.loop-place.place
            c.loop-place.count c.bels_in_type-bels.result w.sites_told.result
            c.loop-place.invariant.count told
            (w.sites_told.ensures.count ∙ ap (sites_of_type c.args.device.now) place)
        | else-bels-gt0 w ↦ w.count-is ∙ skip_sum c.args.device.now c.args.ty c.loop-place.place
            c.loop-place.count c.bels_in_type-bels.result c.loop-place.invariant.count told
            w.if-bels-gt0.false
      ];
      small = small_next c.args.device.now c.args.ty c.loop-place.place c.bels_in_type-bels.result
          c.loop-place.invariant.small told c.bels_in_type-bels.ensures.few;
    }

pub returns : goal.returns
returns c =
    let end : c.loop-place.place ≡ length c.args.device.now.site_type_list =
    (let same = ap (λ r. length r.site_type_list) c.rec.ensures.same in omega arith) in
    c.loop-place.invariant.count ∙ ap (bels_so_far c.args.device.now c.args.ty) end
    ∙ bels_end c.args.device.now c.args.ty c.rec.ensures.fits
