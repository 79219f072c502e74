use Rattle.std.proofs.Common.{◌≡◌, ◌<◌, ap, sym, ◌∙◌, length, get_or, replicate, length-set, arith}
use Rattle.std.proofs.Common.{Some}
use Rattle.std.proofs.lemmas.List.{length-replicate}
use Rattle.std.proofs.lemmas.Option.{slice_get-get_or}
use Rattle.ix_device.specs.Lookups.{sites_of, type_of_site}
use Rattle.ix_belmap.specs.Sites.{count_below}
use Rattle.ix_belmap.specs.Sites.{is_of_type, sites_of_type}
use Rattle.ix_belmap.proofs.BelSums.{counted_next, of_type_told, zeros, count_start, count_most}
use Rattle.ix_belmap.proofs.BelSums.{get_or_past_default}
use Rattle.ix_belmap.proofs.bels.site_counts.Goals as goal

pub loop-site-init : goal.loop-site-init
loop-site-init c =
    let same = ap (λ r. length r.site_type_list) c.rec.ensures.same in
    let all : c.in_ok-counts.counts.items ≡ replicate c.len.result 0 =
    c.in_ok-counts.ensures.items_if_clones_equal (λ y e. e) in record {
      size = ap length all ∙ length-replicate c.len.result 0 ∙ c.len.ensures ∙ same;
      each = λ t lt. ap (λ l. get_or l t 0) all ∙ zeros c.len.result t
          ∙ sym (count_start (is_of_type c.args.device.now t));
    }

pub overflow_add-index_mut : goal.overflow_add-index_mut
overflow_add-index_mut c =
    let r : c.get.result < length c.args.device.now.site_type_list =
    (let i = c.type_of-t.ensures.inside in let e = c.get.ensures in omega arith) in
    let was : c.index_mut.result.now ≡ get_or c.loop-site.counts.items c.get.result 0 =
    c.index_mut.ensures.value ∙ get_or_past_default c.loop-site.counts.items c.get.result
    c.index_mut.result.now 0 (let s = c.loop-site.invariant.size in omega arith) in
    let is = c.loop-site.invariant.each c.get.result r in
    let most = count_most (is_of_type c.args.device.now c.get.result) c.loop-site.site in
    omega arith

pub loop-site-preserved : goal.loop-site-preserved
loop-site-preserved c = record {
  size = simp length-set c.loop-site.invariant.size;
  each = counted_next c.loop-site.counts.items
      (length c.args.device.now.site_type_list) c.get.result c.index_mut.result.now c.loop-site.site
      (is_of_type c.args.device.now) c.loop-site.invariant.size (let i =
      c.type_of-t.ensures.inside in let e = c.get.ensures in omega arith)
      c.loop-site.invariant.each c.index_mut.ensures.value
      (λ t. of_type_told c.args.device.now t c.loop-site.site c.get.result
      (ap (λ s. type_of_site c.args.device.now s) (sym c.new.ensures) ∙ c.type_of-t.ensures.ty
      ∙ ap Some (sym c.get.ensures)));
}

pub returns : goal.returns
unfolding sites_of_type
returns c =
    let end : c.loop-site.site ≡ length (sites_of c.args.device.now) = omega arith in record {
      count = c.loop-site.invariant.size;
      each = λ t lt. slice_get-get_or c.loop-site.counts.items t 0 (let s =
          c.loop-site.invariant.size in omega arith)
          ∙ ap Some (c.loop-site.invariant.each t lt
          ∙ ap (count_below (is_of_type c.args.device.now t)) end);
      few = let a = c.sites-site-end.ensures in let b = c.sites-site-end.type_inv in omega arith;
    }
