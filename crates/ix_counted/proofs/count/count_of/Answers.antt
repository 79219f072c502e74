use Rattle.std.proofs.Common.{◌≡◌, ◌^◌, ◌+◌, min, get_or, None, sym, ap, ◌∙◌}
use Rattle.ix_hierarchy.specs.Hierarchy.{inside}
use Rattle.ix_counted.specs.Counts.{in_inside}
use Rattle.ix_counted.proofs.Counting.{inside_of, not_inside}
use Rattle.ix_counted.proofs.Instances.{first_within, inside_first, inside_none}
use Rattle.ix_counted.proofs.count.count_of.Goals as goal

pub returns-in-Inside : goal.returns-in-Inside
returns-in-Inside c = c.count_in.ensures
    ∙ ap (λ o. min (in_inside c.args.rec.now (λ d. get_or c.args.counts.now d 0) o) (2 ^ 22 + 1))
    (sym (inside_first c.args.rec.now c.args.declaration c.in-Inside.cell
    (inside_of c.args.rec.now c.args.declaration c.in-Inside.cell c.args.kind.now c.requires.kind
    c.in-Inside.is) ∙ c.at.ensures))

pub returns-in_default : goal.returns-in_default
returns-in_default c =
    let none : inside c.args.rec.now c.args.declaration ≡ None =
    inside_none c.args.rec.now c.args.declaration
    (not_inside c.args.rec.now c.args.declaration c.args.kind.now c.requires.kind
    c.in_default.not-Inside) in
    ap (λ o. min (in_inside c.args.rec.now (λ d. get_or c.args.counts.now d 0) o) (2 ^ 22 + 1))
    (sym none)

pub at-requires : goal.at-requires
at-requires c = first_within c.args.rec.now c.args.declaration c.in-Inside.cell
    (inside_of c.args.rec.now c.args.declaration c.in-Inside.cell c.args.kind.now c.requires.kind
    c.in-Inside.is)

pub count_in-requires : goal.count_in-requires
count_in-requires c = record {
  fits = c.requires.fits;
  there = (c.in-Inside.cell, c.at.ensures);
  many = c.requires.many;
  few = c.requires.few;
}
