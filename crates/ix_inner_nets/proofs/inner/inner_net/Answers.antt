use Rattle.std.proofs.Common.{◌<◌, length, refl, arith}
use Rattle.ix_inner_nets.proofs.Declared.{read_kind, kind_inside, kind_leaf, first_within}
use Rattle.ix_inner_nets.proofs.Naming.{inner_found, inner_leaf}
use Rattle.ix_inner_nets.proofs.inner.inner_net.Goals as goal

pub net_of-requires : goal.net_of-requires
net_of-requires c =
    let within : c.in-Inside.cell < length c.args.rec.now.cell_list =
    first_within c.args.rec.now c.args.declaration c.in-Inside.cell
    (kind_inside c.requires.kinds.0 c.args.rec.now c.args.kinds.now c.args.declaration
    c.in-Inside.cell c.requires.kinds.1
    (read_kind c.args.kinds.now c.args.declaration _ _ c.requires.inside c.in-Inside.is)) in
    let many = c.requires.own.starts_many in
    omega arith

pub returns-in-Inside : goal.returns-in-Inside
returns-in-Inside c = λ reached.
    inner_found c.args.rec.now c.args.own.now c.args.declaration c.in-Inside.cell c.args.row.now
    c.net_of.result c.requires.own reached
    (kind_inside c.requires.kinds.0 c.args.rec.now c.args.kinds.now c.args.declaration
    c.in-Inside.cell c.requires.kinds.1
    (read_kind c.args.kinds.now c.args.declaration _ _ c.requires.inside c.in-Inside.is))
    c.net_of.ensures

pub returns-in_default : goal.returns-in_default
returns-in_default c = λ reached.
    inner_leaf c.args.rec.now c.args.declaration c.args.row.now
    (kind_leaf c.requires.kinds.0 c.args.rec.now c.args.kinds.now c.args.declaration _
    c.requires.kinds.1
    (read_kind c.args.kinds.now c.args.declaration _ _ c.requires.inside refl)
    c.in_default.not-Inside)
