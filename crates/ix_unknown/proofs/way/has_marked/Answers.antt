use Rattle.std.proofs.Common.{◌∙◌, refl, sym, inl}
use Rattle.ix_unknown.proofs.Found.{first_within}
use Rattle.ix_unknown.proofs.Having.{read_kind, some_marked, leaf_marked}
use Rattle.ix_unknown.proofs.Parts.{gets_at}
use Rattle.ix_unknown.proofs.way.has_marked.Goals as goal

pub first_marked-requires-clause-there : goal.first_marked-requires-clause-there
first_marked-requires-clause-there c =
    first_within c.args.rec.now c.args.declaration c.in-Inside.cell
    (c.requires.kinds.1.each c.args.declaration _
    (read_kind c.args.kinds.now c.args.declaration _ _ c.requires.there c.in-Inside.is))

pub returns-in-Inside : goal.returns-in-Inside
returns-in-Inside c =
    let kind = read_kind c.args.kinds.now c.args.declaration _ _ c.requires.there c.in-Inside.is in
    let cell = gets_at c.args.rec.now.cell_list c.in-Inside.cell
    (first_within c.args.rec.now c.args.declaration c.in-Inside.cell
    (c.requires.kinds.1.each c.args.declaration _ kind)) in
    let s = c.is_some.ensures in
    let m = some_marked c.requires.kinds.0 c.args.rec.now c.args.kinds.now c.args.marks.now
    c.args.declaration c.in-Inside.cell cell.0 c.first_marked.result c.requires.kinds.1 kind cell.1
    (c.first_marked.ensures cell.0 cell.1) in
    (λ t. m.0 (sym s ∙ t), λ h. s ∙ m.1 h)

pub returns-in-Unknown : goal.returns-in-Unknown
returns-in-Unknown c = (
  λ t. inl (read_kind c.args.kinds.now c.args.declaration _ _ c.requires.there c.in-Unknown.is),
  λ h. refl,
)

pub returns-in-Constant : goal.returns-in-Constant
returns-in-Constant c = (
  λ t. absurd cc,
  λ h. absurd (leaf_marked c.requires.kinds.0 c.args.rec.now c.args.kinds.now
      c.args.marks.now c.args.declaration _ c.requires.kinds.1
      (read_kind c.args.kinds.now c.args.declaration _ _ c.requires.there c.in-Constant.is)
      (λ e. cc) (λ cell e. cc) h),
)

pub returns-in-Plain : goal.returns-in-Plain
returns-in-Plain c = (
  λ t. absurd cc,
  λ h. absurd (leaf_marked c.requires.kinds.0 c.args.rec.now c.args.kinds.now
      c.args.marks.now c.args.declaration _ c.requires.kinds.1
      (read_kind c.args.kinds.now c.args.declaration _ _ c.requires.there c.in-Plain.is)
      (λ e. cc) (λ cell e. cc) h),
)
