use Rattle.std.proofs.Common.{refl, arith}
use Rattle.ix_instances.proofs.Declared.{kind_inside, kind_leaf, first_within, read_kind, no_place}
use Rattle.ix_instances.proofs.Declared.{leaf_no_place}
use Rattle.ix_instances.proofs.instances.cell_with.Goals as goal

pub at-requires : goal.at-requires
at-requires c =
    first_within c.args.rec.now c.args.declaration c.in-Inside.cell
    (kind_inside c.args.rec.now c.args.kinds.now c.args.declaration c.in-Inside.cell
    c.requires.kinds
    (read_kind c.args.kinds.now c.args.declaration _ _ c.requires.inside c.in-Inside.is))

pub returns-then-place-len : goal.returns-then-place-len
returns-then-place-len c = record {
  first = kind_inside c.args.rec.now c.args.kinds.now c.args.declaration c.in-Inside.cell
      c.requires.kinds
      (read_kind c.args.kinds.now c.args.declaration _ _ c.requires.inside c.in-Inside.is);
  cell = c.at.result.now;
  cell_is = c.at.ensures;
  has = omega (arith, c.len.ensures);
}

pub returns-else-place-len : goal.returns-else-place-len
returns-else-place-len c =
    no_place c.args.rec.now c.args.declaration c.args.place c.in-Inside.cell c.at.result.now
    (kind_inside c.args.rec.now c.args.kinds.now c.args.declaration c.in-Inside.cell
    c.requires.kinds
    (read_kind c.args.kinds.now c.args.declaration _ _ c.requires.inside c.in-Inside.is))
    c.at.ensures (omega (arith, c.len.ensures))

pub returns-in_default : goal.returns-in_default
returns-in_default c =
    leaf_no_place c.args.rec.now c.args.declaration c.args.place
    (kind_leaf c.args.rec.now c.args.kinds.now c.args.declaration _ c.requires.kinds
    (read_kind c.args.kinds.now c.args.declaration _ _ c.requires.inside refl)
    c.in_default.not-Inside)
