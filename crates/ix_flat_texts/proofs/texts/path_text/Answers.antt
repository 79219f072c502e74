use Rattle.std.proofs.Common.{◌≡◌, ◌<◌, ◌≤◌, ◌+◌, ◌-◌, ◌∙◌, ap, sym, subst, get_or, length, slice_get}
use Rattle.std.proofs.Common.{Some, arith, suc, drop, [], string_bytes, nat_eq, List}
use Rattle.std.proofs.Math.Seq.{drop-length}
use Rattle.std.proofs.lemmas.Option.{slice_get-get_or, slice_get_within, slice_get_read}
use Rattle.ix_hierarchy.specs.Fits.{InstanceFits}
use Rattle.ix_flat_texts.proofs.Joins.{at_place}
use Rattle.std.proofs.Common.{refl}
use Rattle.ix_hierarchy.specs.Hierarchy.{Path}
use Rattle.ix_hierarchy.specs.declared.instance.Instance.{Instance}
use Rattle.ix_flat_texts.proofs.Named.{head_of, zero_instance}
use Rattle.ix_flat_texts.proofs.Named.{IsTold, is_under, told_next, told_top, up_at, up_head}
use Rattle.ix_flat_texts.proofs.texts.path_text.Goals as goal

pub loop-i-init : goal.loop-i-init
loop-i-init c =
    let all : c.len-i.result ≡ length c.in_ok-way.way.items =
    c.len-i.ensures ∙ c.in_ok-way.way.ok.0 in (
      omega arith,
      subst (IsTold c.args.names.now c.args.rec.now c.args.instances.now
          (drop c.len-i.result c.in_ok-way.way.items)) (sym c.new-text.ensures.bytes)
          (subst (λ rest. IsTold c.args.names.now c.args.rec.now c.args.instances.now rest [])
          (sym (ap (λ n. drop n c.in_ok-way.way.items) all ∙ drop-length c.in_ok-way.way.items))
          (told_top c.args.names.now c.args.rec.now c.args.instances.now)),
    )

pub bounds-instances-index : goal.bounds-instances-index
bounds-instances-index c =
    let way = c.in_ok-way.way.items in
    let bound : c.loop-i.i ≤ length way = c.loop-i.invariant.0 in
    let some : 0 < c.loop-i.i = c.loop-i-test.true in
    let h : slice_get way (c.loop-i.i - 1) ≡ Some c.index.result.now =
    slice_get_read way (length way) (c.loop-i.i - 1) c.index.result.now refl (omega arith)
    c.index.ensures in
    let step = up_at c.args.instances.now c.args.instance way (c.loop-i.i - 1) c.index.result.now
    c.in_ok-way.ensures h in
    slice_get_within c.args.instances.now c.index.result.now step.one step.one_is

pub at-requires : goal.at-requires
at-requires c =
    let names = c.args.names.now in
    let design = c.args.rec.now in
    let all = c.args.instances.now in
    let at = c.index.result.now in
    let way = c.in_ok-way.way.items in
    let bound : c.loop-i.i ≤ length way = c.loop-i.invariant.0 in
    let some : 0 < c.loop-i.i = c.loop-i-test.true in
    let h : slice_get way (c.loop-i.i - 1) ≡ Some at =
    slice_get_read way (length way) (c.loop-i.i - 1) at refl (omega arith) c.index.ensures in
    let step = up_at all c.args.instance way (c.loop-i.i - 1) at c.in_ok-way.ensures h in
    let there : at < length all = slice_get_within all at step.one step.one_is in
    let paths : List Path = c.requires.are.0 in
    let are = c.requires.are.2 in
    let many : length paths ≡ length all = are.many in
    let path : Path = get_or paths at [] in
    let path_is : slice_get paths at ≡ Some path =
    slice_get-get_or paths at [] (omega arith) in
    let one : Instance = get_or all at zero_instance in
    let under = is_under names design all paths c.requires.are.1 at path one are step.below path_is
    (slice_get-get_or all at zero_instance there) in
    slice_get_within design.inst_list one.number under.inst under.inst_is

pub put_name-requires : goal.put_name-requires
put_name-requires c =
    (at_place (InstanceFits (length c.args.names.now) c.args.rec.now) c.args.rec.now.inst_list
    _ c.at.result.now c.requires.fits.insts c.at.ensures).name

pub loop-i-preserved : goal.loop-i-preserved
loop-i-preserved c =
    let names = c.args.names.now in
    let design = c.args.rec.now in
    let all = c.args.instances.now in
    let at = c.index.result.now in
    let way = c.in_ok-way.way.items in
    let bound : c.loop-i.i ≤ length way = c.loop-i.invariant.0 in
    let some : 0 < c.loop-i.i = c.loop-i-test.true in
    let h : slice_get way (c.loop-i.i - 1) ≡ Some at =
    slice_get_read way (length way) (c.loop-i.i - 1) at refl (omega arith) c.index.ensures in
    let step = up_at all c.args.instance way (c.loop-i.i - 1) at c.in_ok-way.ensures h in
    let there : at < length all = slice_get_within all at step.one step.one_is in
    let one : Instance = get_or all at zero_instance in
    let again : c.loop-i.i ≡ suc (c.loop-i.i - 1) = omega arith in
    let less : c.loop-i.i - 1 ≤ length way = omega arith in (
      less,
      told_next names design all c.args.instance way (c.loop-i.i - 1) at one c.at.result.now
          (nat_eq (c.loop-i.i - 1 + 1) c.len.result) (string_bytes c.loop-i.text)
          (string_bytes c.put_name.new.text) c.in_ok-way.ensures h
          (slice_get-get_or all at zero_instance there) c.at.ensures
          (ap (nat_eq (c.loop-i.i - 1 + 1)) (c.len.ensures ∙ c.in_ok-way.way.ok.0))
          (subst (λ n. IsTold names design all (drop n way) (string_bytes c.loop-i.text)) again
          c.loop-i.invariant.1)
          c.in_ok-put_name.ensures,
    )

pub returns : goal.returns
returns c = λ paths nets path are at.
    let way = c.in_ok-way.way.items in
    let none : c.loop-i.i ≡ 0 = omega arith in
    c.loop-i.invariant.1 paths nets path are
    (ap (λ n. slice_get paths (head_of (drop n way))) none
    ∙ ap (slice_get paths) (sym (up_head c.args.instances.now c.args.instance way
    c.in_ok-way.ensures)) ∙ at)
