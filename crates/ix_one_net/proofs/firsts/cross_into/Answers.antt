use Rattle.std.proofs.Common.{◌≡◌, ◌<◌, ◌+◌, ◌^◌, ◌∙◌, ℕ, List, Option, length, slice_index_or}
use Rattle.std.proofs.Common.{Some, None}
use Rattle.std.proofs.Common.{sym, ap, subst, refl, arith, rules}
use Rattle.std.proofs.lemmas.Option.{slice_get-get_or}
use Rattle.ix_one_net.proofs.Crossing.{IsCrossing, crossing_skip, crossing_join}
use Rattle.ix_one_net.proofs.Crossing.{crossing_all, ends_within, pair_within}
use Rattle.ix_hierarchy.specs.declared.instance.Instance.{Instance}
use Rattle.ix_one_net.proofs.firsts.cross_into.Goals as goal
use Rattle.ix_one_net.proofs.firsts.cross_into.Goals.{in-Some, in_default}

-- what is read past the end of a list
abbrev blank : Instance
blank = record { number = 0; declaration = 0; parent = 0; place = 0; first_net = 0 }

pub offset_bounds-inner-place : goal.offset_bounds-inner-place
offset_bounds-inner-place c =
    let ends = ends_within c.args.kinds.now c.args.outer.now c.args.inner.now c.args.instances.now
    (length c.args.above.now) c.args.instance c.rows_of-rows.result.start c.rows_of-rows.result.end
    c.rows_of-rows.result.first_net c.requires.known c.requires.below c.requires.inside
    c.rows_of-rows.ensures in
    let few : c.loop-place.place < length c.args.inner.now =
    omega (arith, ends.1, c.loop-place-test.true) in
    search rules

pub bounds : goal.bounds
bounds c =
    let ends = ends_within c.args.kinds.now c.args.outer.now c.args.inner.now c.args.instances.now
    (length c.args.above.now) c.args.instance c.rows_of-rows.result.start c.rows_of-rows.result.end
    c.rows_of-rows.result.first_net c.requires.known c.requires.below c.requires.inside
    c.rows_of-rows.ensures in
    omega (arith, ends.1, c.loop-place-test.true)

pub overflow_add-rows : goal.overflow_add-rows
overflow_add-rows c =
    let few : c.loop-place.place < length c.args.inner.now =
    omega (
      arith,
      (ends_within c.args.kinds.now c.args.outer.now c.args.inner.now
          c.args.instances.now (length c.args.above.now) c.args.instance c.rows_of-rows.result.start
          c.rows_of-rows.result.end c.rows_of-rows.result.first_net c.requires.known
          c.requires.below
          c.requires.inside c.rows_of-rows.ensures).1,
      c.loop-place-test.true,
    ) in
    let pair = pair_within c.args.kinds.now c.args.outer.now c.args.inner.now c.args.instances.now
    (length c.args.above.now) c.args.instance c.rows_of-rows.result.start c.rows_of-rows.result.end
    c.rows_of-rows.result.first_net c.loop-place.place c.at.result c.in-Some.net
    (slice_index_or c.args.instances.now c.args.instance blank)
    c.requires.known c.requires.below c.requires.inside c.rows_of-rows.ensures
    c.loop-place.invariant.from c.loop-place-test.true c.at.ensures
    (slice_get-get_or c.args.inner.now c.loop-place.place None few ∙ ap Some c.in-Some.is)
    (slice_get-get_or c.args.instances.now c.args.instance blank c.requires.inside) in
    let sum : c.rows_of-rows.result.first_net + c.at.result.net < 2 ^ 32 =
    omega (arith, pair.0, c.requires.few) in
    search rules

pub overflow_add-first_net : goal.overflow_add-first_net
overflow_add-first_net c =
    let few : c.loop-place.place < length c.args.inner.now =
    omega (
      arith,
      (ends_within c.args.kinds.now c.args.outer.now c.args.inner.now
          c.args.instances.now (length c.args.above.now) c.args.instance c.rows_of-rows.result.start
          c.rows_of-rows.result.end c.rows_of-rows.result.first_net c.requires.known
          c.requires.below
          c.requires.inside c.rows_of-rows.ensures).1,
      c.loop-place-test.true,
    ) in
    let pair = pair_within c.args.kinds.now c.args.outer.now c.args.inner.now c.args.instances.now
    (length c.args.above.now) c.args.instance c.rows_of-rows.result.start c.rows_of-rows.result.end
    c.rows_of-rows.result.first_net c.loop-place.place c.at.result c.in-Some.net
    (slice_index_or c.args.instances.now c.args.instance blank)
    c.requires.known c.requires.below c.requires.inside c.rows_of-rows.ensures
    c.loop-place.invariant.from c.loop-place-test.true c.at.ensures
    (slice_get-get_or c.args.inner.now c.loop-place.place None few ∙ ap Some c.in-Some.is)
    (slice_get-get_or c.args.instances.now c.args.instance blank c.requires.inside) in
    let sum : (slice_index_or c.args.instances.now c.args.instance blank).first_net + c.in-Some.net
    < 2 ^ 32 =
    omega (arith, pair.1, c.requires.few) in
    search rules

pub join-requires-clause-one : goal.join-requires-clause-one
join-requires-clause-one c =
    let few : c.loop-place.place < length c.args.inner.now =
    omega (
      arith,
      (ends_within c.args.kinds.now c.args.outer.now c.args.inner.now
          c.args.instances.now (length c.args.above.now) c.args.instance c.rows_of-rows.result.start
          c.rows_of-rows.result.end c.rows_of-rows.result.first_net c.requires.known
          c.requires.below
          c.requires.inside c.rows_of-rows.ensures).1,
      c.loop-place-test.true,
    ) in
    let pair = pair_within c.args.kinds.now c.args.outer.now c.args.inner.now c.args.instances.now
    (length c.args.above.now) c.args.instance c.rows_of-rows.result.start c.rows_of-rows.result.end
    c.rows_of-rows.result.first_net c.loop-place.place c.at.result c.in-Some.net
    (slice_index_or c.args.instances.now c.args.instance blank)
    c.requires.known c.requires.below c.requires.inside c.rows_of-rows.ensures
    c.loop-place.invariant.from c.loop-place-test.true c.at.ensures
    (slice_get-get_or c.args.inner.now c.loop-place.place None few ∙ ap Some c.in-Some.is)
    (slice_get-get_or c.args.instances.now c.args.instance blank c.requires.inside) in
    let many = c.loop-place.invariant.many in
    omega (arith, pair.0)

pub join-requires-clause-other : goal.join-requires-clause-other
join-requires-clause-other c =
    let few : c.loop-place.place < length c.args.inner.now =
    omega (
      arith,
      (ends_within c.args.kinds.now c.args.outer.now c.args.inner.now
          c.args.instances.now (length c.args.above.now) c.args.instance c.rows_of-rows.result.start
          c.rows_of-rows.result.end c.rows_of-rows.result.first_net c.requires.known
          c.requires.below
          c.requires.inside c.rows_of-rows.ensures).1,
      c.loop-place-test.true,
    ) in
    let pair = pair_within c.args.kinds.now c.args.outer.now c.args.inner.now c.args.instances.now
    (length c.args.above.now) c.args.instance c.rows_of-rows.result.start c.rows_of-rows.result.end
    c.rows_of-rows.result.first_net c.loop-place.place c.at.result c.in-Some.net
    (slice_index_or c.args.instances.now c.args.instance blank)
    c.requires.known c.requires.below c.requires.inside c.rows_of-rows.ensures
    c.loop-place.invariant.from c.loop-place-test.true c.at.ensures
    (slice_get-get_or c.args.inner.now c.loop-place.place None few ∙ ap Some c.in-Some.is)
    (slice_get-get_or c.args.instances.now c.args.instance blank c.requires.inside) in
    let many = c.loop-place.invariant.many in
    omega (arith, pair.1)

none_of : (o : Option ℕ) → ((x : ℕ) → o ≡ Some x → ⊥) → o ≡ None
none_of None h = refl
none_of (Some x) h = absurd (h x refl)

pub loop-place-preserved : goal.loop-place-preserved
loop-place-preserved c =
    let few : c.loop-place.place < length c.args.inner.now =
    omega (
      arith,
      (ends_within c.args.kinds.now c.args.outer.now c.args.inner.now
          c.args.instances.now (length c.args.above.now) c.args.instance c.rows_of-rows.result.start
          c.rows_of-rows.result.end c.rows_of-rows.result.first_net c.requires.known
          c.requires.below
          c.requires.inside c.rows_of-rows.ensures).1,
      c.loop-place-test.true,
    ) in
    elim c.match-inner-place.branch [
      | in-Some w ↦
          subst (λ (now : List ℕ). IsCrossing c.args.kinds.now c.args.outer.now c.args.inner.now
          c.args.instances.now (length c.args.above.now) c.args.above.now now c.args.instance
          c.rows_of-rows.result.start (c.loop-place.place + 1) c.rows_of-rows.result.first_net
          (slice_index_or c.args.instances.now c.args.instance blank).first_net)
          (sym w.above-is)
          (crossing_join c.args.kinds.now c.args.outer.now c.args.inner.now c.args.instances.now
          (length c.args.above.now) c.args.above.now c.loop-place.above w.join.new.above
          c.args.instance c.rows_of-rows.result.start c.rows_of-rows.result.end c.loop-place.place
          c.rows_of-rows.result.first_net
          (slice_index_or c.args.instances.now c.args.instance blank) w.at.result w.in-Some.net
          c.requires.below
          c.requires.inside (slice_get-get_or c.args.instances.now c.args.instance blank
          c.requires.inside)
          c.rows_of-rows.ensures c.loop-place.invariant c.loop-place-test.true w.at.ensures
          (slice_get-get_or c.args.inner.now c.loop-place.place None few ∙ ap Some w.in-Some.is)
          w.join.ensures.many w.join.ensures.up w.join.ensures.joins)
      | in_default w ↦
          subst (λ (now : List ℕ). IsCrossing c.args.kinds.now c.args.outer.now c.args.inner.now
          c.args.instances.now (length c.args.above.now) c.args.above.now now c.args.instance
          c.rows_of-rows.result.start (c.loop-place.place + 1) c.rows_of-rows.result.first_net
          (slice_index_or c.args.instances.now c.args.instance blank).first_net)
          (sym w.above-is)
          (crossing_skip c.args.kinds.now c.args.outer.now c.args.inner.now c.args.instances.now
          (length c.args.above.now) c.args.above.now c.loop-place.above c.args.instance
          c.rows_of-rows.result.start c.loop-place.place c.rows_of-rows.result.first_net
          (slice_index_or c.args.instances.now c.args.instance blank).first_net
          c.loop-place.invariant
          (slice_get-get_or c.args.inner.now c.loop-place.place None few
          ∙ ap Some (none_of _ w.in_default.not-Some)))
    ]

pub returns-clause-joins : goal.returns-clause-joins
returns-clause-joins c =
    crossing_all c.args.kinds.now c.args.outer.now c.args.inner.now c.args.instances.now
    (length c.args.above.now) c.args.above.now c.loop-place.above c.args.instance
    c.rows_of-rows.result.start c.rows_of-rows.result.end c.loop-place.place
    c.rows_of-rows.result.first_net
    (slice_index_or c.args.instances.now c.args.instance blank) c.requires.below c.requires.inside
    (slice_get-get_or c.args.instances.now c.args.instance blank c.requires.inside)
    c.rows_of-rows.ensures c.loop-place.invariant c.loop-place-test.false
