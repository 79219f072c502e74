use Rattle.std.proofs.Common.{◌∙◌, ◌<◌, ◌++◌, ℕ, [], length, refl, subst, sym}
use Rattle.std.proofs.lemmas.Option.{slice_get_within, get_or_from_slice_get}
use Rattle.std.proofs.lemmas.Result.{err_from_is_err_and}
use Rattle.ix_frame.specs.Objects.{element_of}
use Rattle.ix_frame.specs.Sound.{sound_text}
use Rattle.ix_frame.specs.Target.{Elements}
use Rattle.ix_frame.specs.Views.{object_of, elements_of}
use Rattle.ix_message.specs.Indexes.{only_table}
use Rattle.ix_message.specs.Names.{record_of}
use Rattle.ix_message.specs.Phys.{cell_placement, phys_net, site_instance, property}
use Rattle.ix_phys_write.specs.Record.{placement_record, net_record, site_instance_record}
use Rattle.ix_phys_write.specs.Record.{property_record}
use Rattle.ix_phys_read.specs.Walked.{counted_structs}
use Rattle.ix_phys_read.specs.Sound.{IsSound}
use Rattle.ix_take.specs.Views.{table_of}
use Rattle.ix_phys_read.proofs.Rows.{root_said, root_walk, asks_of, took, stuck}
use Rattle.ix_take.specs.Going.{walked_then}
use Rattle.ix_take.specs.Going.{stops_first}
use Rattle.ix_phys_read.proofs.netlist.take_netlist.Goals as goal

pub returns-in_err-placements-clause-made : goal.returns-in_err-placements-clause-made
returns-in_err-placements-clause-made c =
    let names = c.args.ctx.now.texts.names.now in
    let table = table_of c.args.ctx.now.texts in
    let lists = only_table (length table) in
    let o = object_of c.args.root in
    let walk = root_walk lists o c.args.walk.now c.begin.new.self c.begin.ensures in
    let p = err_from_is_err_and c.from_residual.result c.from_residual.ensures.1 in
    rw (p.1, p.2, walk) (stops_first counted_structs c.in_err-placements.field-0.0 c.begin.new.self
    (asks_of lists o cell_placement 2)
    (asks_of lists o phys_net 3 ++ (asks_of lists o site_instance 4 ++ asks_of lists o property
    5)) (stuck c.in_err-placements.field-0.0 cell_placement lists c.begin.new.self o 2
    (elements_of c.sound_list.result) c.sound_list.ensures c.in_err-placements.ensures.made))

pub take_list-requires-2 : goal.take_list-requires-2
take_list-requires-2 c =
    subst (λ (l : Elements). (i : ℕ) → i < l.count → IsSound phys_net (element_of l i))
    (sym c.sound_list-2.ensures) c.requires.passed.nets

pub returns-in_err-nets-clause-made : goal.returns-in_err-nets-clause-made
returns-in_err-nets-clause-made c =
    let names = c.args.ctx.now.texts.names.now in
    let table = table_of c.args.ctx.now.texts in
    let lists = only_table (length table) in
    let o = object_of c.args.root in
    let walk = root_walk lists o c.args.walk.now c.begin.new.self c.begin.ensures in
    let p = err_from_is_err_and c.from_residual-in_err-nets.result
    c.from_residual-in_err-nets.ensures.1 in
    let t0 = took cell_placement (placement_record names) table lists c.begin.new.self
    c.in_ok-placements.placements c.take_list.new.walk o 2
    (elements_of c.sound_list.result) c.sound_list.ensures c.in_ok-placements.ensures.made in
    rw (
      p.1,
      p.2,
      walk,
      walked_then counted_structs c.begin.new.self c.take_list.new.walk
          (asks_of lists o cell_placement 2)
          (asks_of lists o phys_net 3 ++ (asks_of lists o site_instance 4 ++ asks_of lists o property
          5)) t0.1,
    ) (stops_first counted_structs c.in_err-nets.field-0.0 c.take_list.new.walk
    (asks_of lists o phys_net 3) (asks_of lists o site_instance 4 ++ asks_of lists o property 5)
    (stuck c.in_err-nets.field-0.0 phys_net lists c.take_list.new.walk o 3
    (elements_of c.sound_list-2.result) c.sound_list-2.ensures c.in_err-nets.ensures.made))

pub returns-in_err-site_insts-clause-made : goal.returns-in_err-site_insts-clause-made
returns-in_err-site_insts-clause-made c =
    let names = c.args.ctx.now.texts.names.now in
    let table = table_of c.args.ctx.now.texts in
    let lists = only_table (length table) in
    let o = object_of c.args.root in
    let walk = root_walk lists o c.args.walk.now c.begin.new.self c.begin.ensures in
    let p = err_from_is_err_and c.from_residual-in_err-site_insts.result
    c.from_residual-in_err-site_insts.ensures.1 in
    let t0 = took cell_placement (placement_record names) table lists c.begin.new.self
    c.in_ok-placements.placements c.take_list.new.walk o 2
    (elements_of c.sound_list.result) c.sound_list.ensures c.in_ok-placements.ensures.made in
    let t1 = took phys_net (net_record names) table lists c.take_list.new.walk c.in_ok-nets.nets
    c.take_list-2.new.walk o 3 (elements_of c.sound_list-2.result) c.sound_list-2.ensures
    c.in_ok-nets.ensures.made in
    rw (
      p.1,
      p.2,
      walk,
      walked_then counted_structs c.begin.new.self c.take_list.new.walk
          (asks_of lists o cell_placement 2)
          (asks_of lists o phys_net 3 ++ (asks_of lists o site_instance 4 ++ asks_of lists o property
          5)) t0.1,
      walked_then counted_structs c.take_list.new.walk c.take_list-2.new.walk
          (asks_of lists o phys_net 3) (asks_of lists o site_instance 4 ++ asks_of lists o property 5)
          t1.1,
    ) (stops_first counted_structs c.in_err-site_insts.field-0.0 c.take_list-2.new.walk
    (asks_of lists o site_instance 4) (asks_of lists o property 5)
    (stuck c.in_err-site_insts.field-0.0 site_instance lists c.take_list-2.new.walk o 4
    (elements_of c.sound_list-3.result) c.sound_list-3.ensures
    c.in_err-site_insts.ensures.made))

pub returns-in_err-properties-clause-made : goal.returns-in_err-properties-clause-made
returns-in_err-properties-clause-made c =
    let names = c.args.ctx.now.texts.names.now in
    let table = table_of c.args.ctx.now.texts in
    let lists = only_table (length table) in
    let o = object_of c.args.root in
    let walk = root_walk lists o c.args.walk.now c.begin.new.self c.begin.ensures in
    let p = err_from_is_err_and c.from_residual-in_err-properties.result
    c.from_residual-in_err-properties.ensures.1 in
    let t0 = took cell_placement (placement_record names) table lists c.begin.new.self
    c.in_ok-placements.placements c.take_list.new.walk o 2
    (elements_of c.sound_list.result) c.sound_list.ensures c.in_ok-placements.ensures.made in
    let t1 = took phys_net (net_record names) table lists c.take_list.new.walk c.in_ok-nets.nets
    c.take_list-2.new.walk o 3 (elements_of c.sound_list-2.result) c.sound_list-2.ensures
    c.in_ok-nets.ensures.made in
    let t2 = took site_instance (site_instance_record names) table lists c.take_list-2.new.walk
    c.in_ok-site_insts.site_insts c.take_list-3.new.walk o 4
    (elements_of c.sound_list-3.result) c.sound_list-3.ensures c.in_ok-site_insts.ensures.made
    in
    rw (
      p.1,
      p.2,
      walk,
      walked_then counted_structs c.begin.new.self c.take_list.new.walk
          (asks_of lists o cell_placement 2)
          (asks_of lists o phys_net 3 ++ (asks_of lists o site_instance 4 ++ asks_of lists o property
          5)) t0.1,
      walked_then counted_structs c.take_list.new.walk c.take_list-2.new.walk
          (asks_of lists o phys_net 3) (asks_of lists o site_instance 4 ++ asks_of lists o property 5)
          t1.1,
      walked_then counted_structs c.take_list-2.new.walk c.take_list-3.new.walk
          (asks_of lists o site_instance 4) (asks_of lists o property 5) t2.1,
    )
    (stuck c.in_err-properties.field-0.0 property lists c.take_list-3.new.walk o 5
    (elements_of c.sound_list-4.result) c.sound_list-4.ensures c.in_err-properties.ensures.made)

pub returns-clause-made : goal.returns-clause-made
unfolding record_of
returns-clause-made c =
    let names = c.args.ctx.now.texts.names.now in
    let table = table_of c.args.ctx.now.texts in
    let lists = only_table (length table) in
    let o = object_of c.args.root in
    let walk = root_walk lists o c.args.walk.now c.begin.new.self c.begin.ensures in
    let t0 = took cell_placement (placement_record names) table lists c.begin.new.self
    c.in_ok-placements.placements c.take_list.new.walk o 2
    (elements_of c.sound_list.result) c.sound_list.ensures c.in_ok-placements.ensures.made in
    let t1 = took phys_net (net_record names) table lists c.take_list.new.walk c.in_ok-nets.nets
    c.take_list-2.new.walk o 3 (elements_of c.sound_list-2.result) c.sound_list-2.ensures
    c.in_ok-nets.ensures.made in
    let t2 = took site_instance (site_instance_record names) table lists c.take_list-2.new.walk
    c.in_ok-site_insts.site_insts c.take_list-3.new.walk o 4
    (elements_of c.sound_list-3.result) c.sound_list-3.ensures c.in_ok-site_insts.ensures.made
    in
    let t3 = took property (property_record names) table lists c.take_list-3.new.walk
    c.in_ok-properties.properties c.take_list-4.new.walk o 5
    (elements_of c.sound_list-4.result) c.sound_list-4.ensures c.in_ok-properties.ensures.made
    in
    let part = get_or_from_slice_get names c.args.part (sound_text o 0) [] c.requires.part in (
      rw (root_said o, ← part, t0.0, t1.0, t2.0, t3.0) refl,
      walk ∙ walked_then counted_structs c.begin.new.self c.take_list.new.walk
          (asks_of lists o cell_placement 2)
          (asks_of lists o phys_net 3 ++ (asks_of lists o site_instance 4 ++ asks_of lists o
          property 5)) t0.1 ∙ walked_then counted_structs c.take_list.new.walk
          c.take_list-2.new.walk (asks_of lists o phys_net 3)
          (asks_of lists o site_instance 4 ++ asks_of lists o property 5) t1.1
          ∙ walked_then counted_structs c.take_list-2.new.walk c.take_list-3.new.walk
          (asks_of lists o site_instance 4) (asks_of lists o property 5) t2.1 ∙ t3.1,
    )

pub returns-clause-named : goal.returns-clause-named
returns-clause-named c = record {
  part = slice_get_within c.args.ctx.now.texts.names.now c.args.part
      (sound_text (object_of c.args.root) 0) c.requires.part;
  placements = c.in_ok-placements.ensures.named;
  nets = λ k d lt. (c.in_ok-nets.ensures.named k d lt).named;
  site_insts = c.in_ok-site_insts.ensures.named;
  properties = c.in_ok-properties.ensures.named;
}

pub returns-clause-preorder : goal.returns-clause-preorder
returns-clause-preorder c = λ k d lt. (c.in_ok-nets.ensures.named k d lt).forests
