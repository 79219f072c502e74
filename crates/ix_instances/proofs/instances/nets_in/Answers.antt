use Rattle.std.proofs.Common.{◌≡◌, ◌<◌, ◌^◌, ◌∙◌, length, sym, refl, arith, rules}
use Rattle.ix_hierarchy.specs.Lists.{nets_in}
use Rattle.ix_instances.proofs.Declared.{kind_inside, kind_leaf, first_within, read_kind}
use Rattle.ix_instances.proofs.Reached.{first_some, nets_inside, nets_none}
use Rattle.ix_instances.proofs.instances.nets_in.Goals as goal

pub at-requires : goal.at-requires
at-requires c =
    first_within c.args.rec.now c.args.declaration c.in-Inside.cell
    (kind_inside c.args.rec.now c.args.kinds.now c.args.declaration c.in-Inside.cell
    c.requires.kinds
    (read_kind c.args.kinds.now c.args.declaration _ _ c.requires.inside c.in-Inside.is))

pub overflow_cast-result : goal.overflow_cast-result
overflow_cast-result c =
    let first = kind_inside c.args.rec.now c.args.kinds.now c.args.declaration c.in-Inside.cell
    c.requires.kinds
    (read_kind c.args.kinds.now c.args.declaration _ _ c.requires.inside c.in-Inside.is) in
    let is : nets_in c.args.rec.now c.args.declaration ≡ length c.at.result.now.nets =
    nets_inside c.args.rec.now c.args.declaration c.at.result.now
    (first_some c.args.rec.now c.args.declaration c.in-Inside.cell first ∙ c.at.ensures) in
    let few : c.len.result < 2 ^ 32 = omega (arith, c.requires.few, c.len.ensures) in
    search rules

pub returns-in-Inside : goal.returns-in-Inside
returns-in-Inside c =
    let first = kind_inside c.args.rec.now c.args.kinds.now c.args.declaration c.in-Inside.cell
    c.requires.kinds
    (read_kind c.args.kinds.now c.args.declaration _ _ c.requires.inside c.in-Inside.is) in
    let is : nets_in c.args.rec.now c.args.declaration ≡ length c.at.result.now.nets =
    nets_inside c.args.rec.now c.args.declaration c.at.result.now
    (first_some c.args.rec.now c.args.declaration c.in-Inside.cell first ∙ c.at.ensures) in
    c.len.ensures ∙ sym is

pub returns-in_default : goal.returns-in_default
returns-in_default c =
    sym (nets_none c.args.rec.now c.args.declaration
    (kind_leaf c.args.rec.now c.args.kinds.now c.args.declaration _ c.requires.kinds
    (read_kind c.args.kinds.now c.args.declaration _ _ c.requires.inside refl)
    c.in_default.not-Inside))
