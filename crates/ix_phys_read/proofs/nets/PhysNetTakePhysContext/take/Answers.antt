use Rattle.std.proofs.Common.{◌∙◌, length, refl, sym, subst}
use Rattle.std.proofs.lemmas.Result.{err_from_is_err_and}
use Rattle.ix_frame.specs.Sound.{endless}
use Rattle.ix_frame.specs.Target.{Elements}
use Rattle.ix_frame.specs.Views.{object_of}
use Rattle.ix_message.specs.Indexes.{only_table}
use Rattle.ix_message.specs.Names.{record_of}
use Rattle.ix_message.specs.Phys.{segment}
use Rattle.ix_message.specs.Reading.{row_at}
use Rattle.ix_schema.specs.Said.{said, branches_said}
use Rattle.ix_phys_read.specs.Sound.{AreSound}
use Rattle.ix_take.specs.Views.{table_of}
use Rattle.ix_phys_read.specs.Walked.{counted_structs}
use Rattle.ix_phys_read.proofs.NetTrees.{net_trees}
use Rattle.ix_phys_read.proofs.Rows.{net_walk}
use Rattle.ix_take.specs.Going.{walked_then}
use Rattle.ix_take.specs.Going.{stops_first}
use Rattle.ix_phys_read.proofs.nets.PhysNetTakePhysContext.take.Goals as goal

pub take_branches-requires : goal.take_branches-requires
take_branches-requires c =
    subst (λ (l : Elements). AreSound l 0 (branches_said segment l endless))
    (sym c.sound_list.ensures) (net_trees (object_of c.args.o) c.requires).sources

pub returns-in_err-sources-clause-made : goal.returns-in_err-sources-clause-made
returns-in_err-sources-clause-made c =
    let lists = only_table (length (table_of c.args.ctx.now.texts)) in
    let p = err_from_is_err_and c.from_residual-in_err-sources.result
    c.from_residual-in_err-sources.ensures.1 in
    let walk = net_walk lists (object_of c.args.o) c.args.walk.now c.begin.new.self c.begin.ensures
    c.in_ok-name.ensures.made.0 c.in_ok-tag.ensures.made.0 in
    rw (p.1, p.2, walk) (stops_first counted_structs c.in_err-sources.field-0.0 c.begin.new.self _ _
    (rw c.sound_list.ensures at c.in_err-sources.ensures.made))

pub take_branches-requires-2 : goal.take_branches-requires-2
take_branches-requires-2 c =
    subst (λ (l : Elements). AreSound l 0 (branches_said segment l endless))
    (sym c.sound_list-2.ensures) (net_trees (object_of c.args.o) c.requires).stubs

pub returns-in_err-stubs-clause-made : goal.returns-in_err-stubs-clause-made
returns-in_err-stubs-clause-made c =
    let lists = only_table (length (table_of c.args.ctx.now.texts)) in
    let p = err_from_is_err_and c.from_residual-in_err-stubs.result
    c.from_residual-in_err-stubs.ensures.1 in
    let walk = net_walk lists (object_of c.args.o) c.args.walk.now c.begin.new.self c.begin.ensures
    c.in_ok-name.ensures.made.0 c.in_ok-tag.ensures.made.0 in
    let sources = rw c.sound_list.ensures at c.in_ok-sources.ensures.made.1 in
    rw (
      p.1,
      p.2,
      walk,
      walked_then counted_structs c.begin.new.self c.take_branches.new.walk _ _
          sources,
    ) (rw c.sound_list-2.ensures at c.in_err-stubs.ensures.made)

pub returns-clause-made : goal.returns-clause-made
unfolding record_of said row_at
returns-clause-made c =
    let lists = only_table (length (table_of c.args.ctx.now.texts)) in
    let walk = net_walk lists (object_of c.args.o) c.args.walk.now c.begin.new.self c.begin.ensures
    c.in_ok-name.ensures.made.0 c.in_ok-tag.ensures.made.0 in
    let sources = rw c.sound_list.ensures at c.in_ok-sources.ensures.made in
    let stubs = rw c.sound_list-2.ensures at c.in_ok-stubs.ensures.made in (
      rw (
        c.in_ok-name.ensures.made.1,
        c.in_ok-tag.ensures.made.1,
        c.type_of-ty.ensures,
        sources.0,
        stubs.0,
      ) refl,
      walk ∙ walked_then counted_structs c.begin.new.self c.take_branches.new.walk _ _ sources.1
          ∙ stubs.1,
    )
