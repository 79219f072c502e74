use Rattle.std.proofs.Common.{◌≡◌, ◌<◌, ◌∙◌, length, slice_get, Some, sym, ap, arith, inl, inr}
use Rattle.std.proofs.lemmas.Bool.{cases_lt, false≢true}
use Rattle.ix_inout.specs.Leaf.{IsAtLeaf}
use Rattle.ix_inout.proofs.Firsts.{told_some, told_none}
use Rattle.ix_inout.proofs.Walks.{top_found, leaf_at, leaf_result, none_at_all}
use Rattle.ix_inout.proofs.inout.first_inout.Goals as goal
use Rattle.ix_inout.proofs.inout.first_inout.Goals.{else-is_leaf-via-then-is_leaf+else-has_inout}
use Rattle.ix_inout.proofs.inout.first_inout.Goals.{else-is_leaf-via-else-is_leaf}

pub returns-in-Some : goal.returns-in-Some
returns-in-Some c = λ known J constants B.
    top_found known c.args.rec.now c.args.joined.now c.args.bits.now c.in-Some.net J B
    (told_some c.first_inout_bit.result _ _ c.in-Some.net c.in-Some.is c.first_inout_bit.ensures)

pub has_inout-requires-clause-leaf : goal.has_inout-requires-clause-leaf
has_inout-requires-clause-leaf c =
    let few : c.loop-instance.instance < length c.args.joined.now.instances.items =
    omega (
      arith,
      c.loop-instance-test.true,
      c.len-instance-end.ensures,
      c.args.joined.now.instances.ok.0,
    ) in
    let A = leaf_at c.requires.joined.0 c.args.rec.now c.args.joined.now c.loop-instance.instance
    c.requires.joined.1 few (λ path is. (c.is_leaf.ensures c.requires.joined.0 c.args.rec.now
    path c.requires.joined.1 is).0 c.if-is_leaf.true) in
    (c.requires.joined.0, A.0, A.1)

pub first_inout_of_leaf-requires-clause-leaf : goal.first_inout_of_leaf-requires-clause-leaf
first_inout_of_leaf-requires-clause-leaf c =
    let few : c.loop-instance.instance < length c.args.joined.now.instances.items =
    omega (
      arith,
      c.loop-instance-test.true,
      c.len-instance-end.ensures,
      c.args.joined.now.instances.ok.0,
    ) in
    let A = leaf_at c.requires.joined.0 c.args.rec.now c.args.joined.now c.loop-instance.instance
    c.requires.joined.1 few (λ path is. (c.is_leaf.ensures c.requires.joined.0 c.args.rec.now
    path c.requires.joined.1 is).0 c.if-is_leaf.true) in
    (c.requires.joined.0, A.0, A.1)

pub returns-then-has_inout : goal.returns-then-has_inout
returns-then-has_inout c = λ known J constants B.
    let few : c.loop-instance.instance < length c.args.joined.now.instances.items =
    omega (
      arith,
      c.loop-instance-test.true,
      c.len-instance-end.ensures,
      c.args.joined.now.instances.ok.0,
    ) in
    let A = leaf_at known c.args.rec.now c.args.joined.now c.loop-instance.instance J few
    (λ path is. (c.is_leaf.ensures known c.args.rec.now path J is).0 c.if-is_leaf.true) in
    leaf_result known c.args.rec.now c.args.joined.now c.args.bits.now c.loop-instance.instance A.0
    c.first_inout_of_leaf.result J B
    (told_none c.first_inout_bit.result _ _ c.in_default.not-Some c.first_inout_bit.ensures)
    (c.loop-instance.invariant.none known J) A.1.path_is
    ((c.has_inout.ensures known A.0 A.1).0 c.if-has_inout.true)
    (c.first_inout_of_leaf.ensures known A.0 A.1 constants)

pub loop-instance-preserved : goal.loop-instance-preserved
loop-instance-preserved c = record {
  from = omega arith;
  none = λ known J j path some few is has. elim (cases_lt j c.loop-instance.instance) [
    | inl before ↦ c.loop-instance.invariant.none known J j path some before is has
    | inr last ↦
        let e : j ≡ c.loop-instance.instance = omega arith in
        let at : slice_get known.paths c.loop-instance.instance ≡ Some path =
        ap (slice_get known.paths) (sym e) ∙ is in
        let leaf = has.1.on.leaf in
        let told = c.is_leaf.ensures known c.args.rec.now path J at in
        elim c.else-is_leaf.branch [
          | else-is_leaf-via-then-is_leaf+else-has_inout w ↦
              let A : IsAtLeaf known c.args.rec.now c.args.joined.now c.loop-instance.instance path
              =
              record { is_joined = J; path_is = at; inst = has.1.on.inst; leaf = leaf } in
              false≢true (sym w.if-has_inout.false ∙ (w.has_inout.ensures known path A).1 has)
          | else-is_leaf-via-else-is_leaf w ↦
              false≢true (sym w.if-is_leaf.false ∙ told.1 (has.1.on.inst, leaf))
        ]
  ];
}

pub returns : goal.returns
returns c = λ known J constants B.
    none_at_all known c.args.rec.now c.args.joined.now c.args.bits.now c.loop-instance.instance J B
    (told_none c.first_inout_bit.result _ _ c.in_default.not-Some c.first_inout_bit.ensures)
    (c.loop-instance.invariant.none known J)
    (omega (
      arith,
      c.loop-instance-test.false,
      c.len-instance-end.ensures,
      c.args.joined.now.instances.ok.0,
    ))
