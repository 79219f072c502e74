use Rattle.std.proofs.Common.{◌≡◌, ◌∙◌, ◌++◌, ℕ, [], length, refl, subst}
use Rattle.std.specs.Prelude.{slice_index_or}
use Rattle.std.specs.List.{All}
use Rattle.std.proofs.lemmas.Option.{slice_get_within, get_or_from_slice_get}
use Rattle.std.proofs.lemmas.Result.{err_from_is_err_and}
use Rattle.ix_frame.specs.Sound.{sound_elements, sound_struct, sound_text}
use Rattle.ix_frame.specs.Views.{object_of, elements_of}
use Rattle.ix_message.specs.Indexes.{steps}
use Rattle.ix_message.specs.Names.{record_of}
use Rattle.ix_message.specs.Netlist.{entry, cell_instance, cell_declaration, port, cell}
use Rattle.ix_rec.specs.declared.netlist.NetlistRec.{NetlistRec}
use Rattle.ix_schema.specs.Said.{said}
use Rattle.ix_take.specs.Going.{stops_first, walked_then}
use Rattle.ix_take.specs.Views.{table_of}
use Rattle.ix_logic_read.specs.Asking.{boxed_list, decls_in, insts_in, lists_in, ports_in}
use Rattle.ix_logic_read.specs.Record.{cell_declaration_record, cell_instance_record, cell_record}
use Rattle.ix_logic_read.specs.Record.{port_record, IsCellNamed, IsDeclarationNamed}
use Rattle.ix_logic_read.specs.Record.{IsInstanceNamed}
use Rattle.ix_logic_read.specs.Structs.{netlist_structs}
use Rattle.ix_logic_read.proofs.Rows.{each_asks, root_said, took, stuck}
use Rattle.ix_logic_read.proofs.Owned.{are_owners_ports, cell_taken, ports_taken, Tells}
use Rattle.ix_logic_read.proofs.Root.{asks_on, many_taken}
use Rattle.ix_logic_read.proofs.netlist.take_netlist.Goals as goal

pub returns-in_err-prop_map-clause-made : goal.returns-in_err-prop_map-clause-made
returns-in_err-prop_map-clause-made c =
    let names = c.args.ctx.now.texts.names.now in
    let table = table_of c.args.ctx.now.texts in
    let l = lists_in c.args.ctx.now in
    let o = object_of c.args.root in
    let m0 = c.begin.new.self in
    let walk = asks_on c.args.ctx.now o c.args.walk.now m0 c.requires.decls c.requires.ports
    c.requires.insts c.begin.ensures in
    let a = each_asks entry l (boxed_list o 1) in
    let b = steps cell_instance l [] (said cell_instance (sound_struct o 2)) in
    let d = each_asks cell_declaration l (sound_elements o 4) in
    let e = each_asks port l (sound_elements o 5) in
    let f = each_asks cell_instance l (sound_elements o 6) in
    let g = each_asks cell l (sound_elements o 7) in
    let p = err_from_is_err_and c.from_residual.result c.from_residual.ensures.1 in
    rw (p.1, p.2, walk) (stops_first netlist_structs c.in_err-prop_map.field-0.0 m0 a
    (b ++ (d ++ (e ++ (f ++ g)))) c.in_err-prop_map.ensures.made)

pub returns-in_err-top_inst-clause-made : goal.returns-in_err-top_inst-clause-made
returns-in_err-top_inst-clause-made c =
    let names = c.args.ctx.now.texts.names.now in
    let table = table_of c.args.ctx.now.texts in
    let l = lists_in c.args.ctx.now in
    let o = object_of c.args.root in
    let m0 = c.begin.new.self in
    let walk = asks_on c.args.ctx.now o c.args.walk.now m0 c.requires.decls c.requires.ports
    c.requires.insts c.begin.ensures in
    let a = each_asks entry l (boxed_list o 1) in
    let b = steps cell_instance l [] (said cell_instance (sound_struct o 2)) in
    let d = each_asks cell_declaration l (sound_elements o 4) in
    let e = each_asks port l (sound_elements o 5) in
    let f = each_asks cell_instance l (sound_elements o 6) in
    let g = each_asks cell l (sound_elements o 7) in
    let t1 = c.in_ok-prop_map.ensures.made in
    let m1 = c.take_properties.new.walk in
    let w1 = walked_then netlist_structs m0 m1 a (b ++ (d ++ (e ++ (f ++ g)))) t1.1 in
    let p = err_from_is_err_and c.from_residual-in_err-top_inst.result
    c.from_residual-in_err-top_inst.ensures.1 in
    rw (p.1, p.2, walk, w1) (stops_first netlist_structs c.in_err-top_inst.field-0.0 m1 b
    (d ++ (e ++ (f ++ g))) (rw c.sound_obj.ensures at c.in_err-top_inst.ensures.made))

pub returns-in_err-cell_decls-clause-made : goal.returns-in_err-cell_decls-clause-made
returns-in_err-cell_decls-clause-made c =
    let names = c.args.ctx.now.texts.names.now in
    let table = table_of c.args.ctx.now.texts in
    let l = lists_in c.args.ctx.now in
    let o = object_of c.args.root in
    let m0 = c.begin.new.self in
    let walk = asks_on c.args.ctx.now o c.args.walk.now m0 c.requires.decls c.requires.ports
    c.requires.insts c.begin.ensures in
    let a = each_asks entry l (boxed_list o 1) in
    let b = steps cell_instance l [] (said cell_instance (sound_struct o 2)) in
    let d = each_asks cell_declaration l (sound_elements o 4) in
    let e = each_asks port l (sound_elements o 5) in
    let f = each_asks cell_instance l (sound_elements o 6) in
    let g = each_asks cell l (sound_elements o 7) in
    let t1 = c.in_ok-prop_map.ensures.made in
    let m1 = c.take_properties.new.walk in
    let w1 = walked_then netlist_structs m0 m1 a (b ++ (d ++ (e ++ (f ++ g)))) t1.1 in
    let t2 = rw c.sound_obj.ensures at c.in_ok-top_inst.ensures.made in
    let m2 = c.take.new.walk in
    let w2 = walked_then netlist_structs m1 m2 b (d ++ (e ++ (f ++ g))) t2.1 in
    let p = err_from_is_err_and c.from_residual-in_err-cell_decls.result
    c.from_residual-in_err-cell_decls.ensures.1 in
    rw (p.1, p.2, walk, w1, w2) (stops_first netlist_structs c.in_err-cell_decls.field-0.0 m2 d
    (e ++ (f ++ g)) (stuck c.in_err-cell_decls.field-0.0 cell_declaration l m2
    (elements_of c.args.ctx.now.decls)
    (sound_elements o 4) c.requires.decls c.in_err-cell_decls.ensures.made))

pub returns-in_err-port_list-clause-made : goal.returns-in_err-port_list-clause-made
returns-in_err-port_list-clause-made c =
    let names = c.args.ctx.now.texts.names.now in
    let table = table_of c.args.ctx.now.texts in
    let l = lists_in c.args.ctx.now in
    let o = object_of c.args.root in
    let m0 = c.begin.new.self in
    let walk = asks_on c.args.ctx.now o c.args.walk.now m0 c.requires.decls c.requires.ports
    c.requires.insts c.begin.ensures in
    let a = each_asks entry l (boxed_list o 1) in
    let b = steps cell_instance l [] (said cell_instance (sound_struct o 2)) in
    let d = each_asks cell_declaration l (sound_elements o 4) in
    let e = each_asks port l (sound_elements o 5) in
    let f = each_asks cell_instance l (sound_elements o 6) in
    let g = each_asks cell l (sound_elements o 7) in
    let t1 = c.in_ok-prop_map.ensures.made in
    let m1 = c.take_properties.new.walk in
    let w1 = walked_then netlist_structs m0 m1 a (b ++ (d ++ (e ++ (f ++ g)))) t1.1 in
    let t2 = rw c.sound_obj.ensures at c.in_ok-top_inst.ensures.made in
    let m2 = c.take.new.walk in
    let w2 = walked_then netlist_structs m1 m2 b (d ++ (e ++ (f ++ g))) t2.1 in
    let m3 = c.take_list.new.walk in
    let t3 = took cell_declaration (cell_declaration_record names) table l m2
    c.in_ok-cell_decls.cell_decls m3 (elements_of c.args.ctx.now.decls)
    (sound_elements o 4) c.requires.decls c.in_ok-cell_decls.ensures.made in
    let w3 = walked_then netlist_structs m2 m3 d (e ++ (f ++ g)) t3.1 in
    let p = err_from_is_err_and c.from_residual-in_err-port_list.result
    c.from_residual-in_err-port_list.ensures.1 in
    rw (p.1, p.2, walk, w1, w2, w3) (stops_first netlist_structs c.in_err-port_list.field-0.0 m3 e
    (f ++ g) (stuck c.in_err-port_list.field-0.0 port l m3 (elements_of c.args.ctx.now.ports)
    (sound_elements o 5) c.requires.ports c.in_err-port_list.ensures.made))

pub returns-in_err-inst_list-clause-made : goal.returns-in_err-inst_list-clause-made
returns-in_err-inst_list-clause-made c =
    let names = c.args.ctx.now.texts.names.now in
    let table = table_of c.args.ctx.now.texts in
    let l = lists_in c.args.ctx.now in
    let o = object_of c.args.root in
    let m0 = c.begin.new.self in
    let walk = asks_on c.args.ctx.now o c.args.walk.now m0 c.requires.decls c.requires.ports
    c.requires.insts c.begin.ensures in
    let a = each_asks entry l (boxed_list o 1) in
    let b = steps cell_instance l [] (said cell_instance (sound_struct o 2)) in
    let d = each_asks cell_declaration l (sound_elements o 4) in
    let e = each_asks port l (sound_elements o 5) in
    let f = each_asks cell_instance l (sound_elements o 6) in
    let g = each_asks cell l (sound_elements o 7) in
    let t1 = c.in_ok-prop_map.ensures.made in
    let m1 = c.take_properties.new.walk in
    let w1 = walked_then netlist_structs m0 m1 a (b ++ (d ++ (e ++ (f ++ g)))) t1.1 in
    let t2 = rw c.sound_obj.ensures at c.in_ok-top_inst.ensures.made in
    let m2 = c.take.new.walk in
    let w2 = walked_then netlist_structs m1 m2 b (d ++ (e ++ (f ++ g))) t2.1 in
    let m3 = c.take_list.new.walk in
    let t3 = took cell_declaration (cell_declaration_record names) table l m2
    c.in_ok-cell_decls.cell_decls m3 (elements_of c.args.ctx.now.decls)
    (sound_elements o 4) c.requires.decls c.in_ok-cell_decls.ensures.made in
    let w3 = walked_then netlist_structs m2 m3 d (e ++ (f ++ g)) t3.1 in
    let m4 = c.take_list-2.new.walk in
    let t4 = took port (port_record names) table l m3 c.in_ok-port_list.port_list m4
    (elements_of c.args.ctx.now.ports)
    (sound_elements o 5) c.requires.ports c.in_ok-port_list.ensures.made in
    let w4 = walked_then netlist_structs m3 m4 e (f ++ g) t4.1 in
    let p = err_from_is_err_and c.from_residual-in_err-inst_list.result
    c.from_residual-in_err-inst_list.ensures.1 in
    rw (p.1, p.2, walk, w1, w2, w3, w4) (stops_first netlist_structs c.in_err-inst_list.field-0.0 m4
    f g (stuck c.in_err-inst_list.field-0.0 cell_instance l m4
    (elements_of c.args.ctx.now.insts)
    (sound_elements o 6) c.requires.insts c.in_err-inst_list.ensures.made))

pub returns-in_err-cell_list-clause-made : goal.returns-in_err-cell_list-clause-made
returns-in_err-cell_list-clause-made c =
    let names = c.args.ctx.now.texts.names.now in
    let table = table_of c.args.ctx.now.texts in
    let l = lists_in c.args.ctx.now in
    let o = object_of c.args.root in
    let m0 = c.begin.new.self in
    let walk = asks_on c.args.ctx.now o c.args.walk.now m0 c.requires.decls c.requires.ports
    c.requires.insts c.begin.ensures in
    let a = each_asks entry l (boxed_list o 1) in
    let b = steps cell_instance l [] (said cell_instance (sound_struct o 2)) in
    let d = each_asks cell_declaration l (sound_elements o 4) in
    let e = each_asks port l (sound_elements o 5) in
    let f = each_asks cell_instance l (sound_elements o 6) in
    let g = each_asks cell l (sound_elements o 7) in
    let t1 = c.in_ok-prop_map.ensures.made in
    let m1 = c.take_properties.new.walk in
    let w1 = walked_then netlist_structs m0 m1 a (b ++ (d ++ (e ++ (f ++ g)))) t1.1 in
    let t2 = rw c.sound_obj.ensures at c.in_ok-top_inst.ensures.made in
    let m2 = c.take.new.walk in
    let w2 = walked_then netlist_structs m1 m2 b (d ++ (e ++ (f ++ g))) t2.1 in
    let m3 = c.take_list.new.walk in
    let t3 = took cell_declaration (cell_declaration_record names) table l m2
    c.in_ok-cell_decls.cell_decls m3 (elements_of c.args.ctx.now.decls)
    (sound_elements o 4) c.requires.decls c.in_ok-cell_decls.ensures.made in
    let w3 = walked_then netlist_structs m2 m3 d (e ++ (f ++ g)) t3.1 in
    let m4 = c.take_list-2.new.walk in
    let t4 = took port (port_record names) table l m3 c.in_ok-port_list.port_list m4
    (elements_of c.args.ctx.now.ports)
    (sound_elements o 5) c.requires.ports c.in_ok-port_list.ensures.made in
    let w4 = walked_then netlist_structs m3 m4 e (f ++ g) t4.1 in
    let m5 = c.take_list-3.new.walk in
    let t5 = took cell_instance (cell_instance_record names) table l m4 c.in_ok-inst_list.inst_list
    m5 (elements_of c.args.ctx.now.insts)
    (sound_elements o 6) c.requires.insts c.in_ok-inst_list.ensures.made in
    let w5 = walked_then netlist_structs m4 m5 f g t5.1 in
    let p = err_from_is_err_and c.from_residual-in_err-cell_list.result
    c.from_residual-in_err-cell_list.ensures.1 in
    rw (p.1, p.2, walk, w1, w2, w3, w4, w5)
    (stuck c.in_err-cell_list.field-0.0 cell l m5 (elements_of c.sound_list.result)
    (sound_elements o 7) c.sound_list.ensures c.in_err-cell_list.ensures.made)

pub returns-clause-made : goal.returns-clause-made
unfolding record_of
returns-clause-made c =
    let names = c.args.ctx.now.texts.names.now in
    let table = table_of c.args.ctx.now.texts in
    let l = lists_in c.args.ctx.now in
    let o = object_of c.args.root in
    let m0 = c.begin.new.self in
    let walk = asks_on c.args.ctx.now o c.args.walk.now m0 c.requires.decls c.requires.ports
    c.requires.insts c.begin.ensures in
    let a = each_asks entry l (boxed_list o 1) in
    let b = steps cell_instance l [] (said cell_instance (sound_struct o 2)) in
    let d = each_asks cell_declaration l (sound_elements o 4) in
    let e = each_asks port l (sound_elements o 5) in
    let f = each_asks cell_instance l (sound_elements o 6) in
    let g = each_asks cell l (sound_elements o 7) in
    let t1 = c.in_ok-prop_map.ensures.made in
    let m1 = c.take_properties.new.walk in
    let w1 = walked_then netlist_structs m0 m1 a (b ++ (d ++ (e ++ (f ++ g)))) t1.1 in
    let t2 = rw c.sound_obj.ensures at c.in_ok-top_inst.ensures.made in
    let m2 = c.take.new.walk in
    let w2 = walked_then netlist_structs m1 m2 b (d ++ (e ++ (f ++ g))) t2.1 in
    let m3 = c.take_list.new.walk in
    let t3 = took cell_declaration (cell_declaration_record names) table l m2
    c.in_ok-cell_decls.cell_decls m3 (elements_of c.args.ctx.now.decls)
    (sound_elements o 4) c.requires.decls c.in_ok-cell_decls.ensures.made in
    let w3 = walked_then netlist_structs m2 m3 d (e ++ (f ++ g)) t3.1 in
    let m4 = c.take_list-2.new.walk in
    let t4 = took port (port_record names) table l m3 c.in_ok-port_list.port_list m4
    (elements_of c.args.ctx.now.ports)
    (sound_elements o 5) c.requires.ports c.in_ok-port_list.ensures.made in
    let w4 = walked_then netlist_structs m3 m4 e (f ++ g) t4.1 in
    let m5 = c.take_list-3.new.walk in
    let t5 = took cell_instance (cell_instance_record names) table l m4 c.in_ok-inst_list.inst_list
    m5 (elements_of c.args.ctx.now.insts)
    (sound_elements o 6) c.requires.insts c.in_ok-inst_list.ensures.made in
    let w5 = walked_then netlist_structs m4 m5 f g t5.1 in
    let m6 = c.take_list-4.new.walk in
    let t6 = took cell (cell_record names) table l m5 c.in_ok-cell_list.cell_list m6
    (elements_of c.sound_list.result)
    (sound_elements o 7) c.sound_list.ensures c.in_ok-cell_list.ensures.made in
    let name = get_or_from_slice_get names c.args.name (sound_text o 0) [] c.requires.name in (
      rw (root_said o, ← name, t1.0, t2.0, t3.0, t4.0, t5.0, t6.0) refl,
      walk ∙ w1 ∙ w2 ∙ w3 ∙ w4 ∙ w5 ∙ t6.1,
    )

pub returns-clause-named : goal.returns-clause-named
unfolding lists_in
returns-clause-named c =
    let ctx = c.args.ctx.now in
    let names = ctx.texts.names.now in
    let table = table_of ctx.texts in
    let decls : decls_in ctx ≡ length c.in_ok-cell_decls.cell_decls =
    many_taken cell_declaration (cell_declaration_record names) table
    (elements_of ctx.decls) c.in_ok-cell_decls.cell_decls c.in_ok-cell_decls.ensures.made.0 in
    let ports : ports_in ctx ≡ length c.in_ok-port_list.port_list =
    many_taken port (port_record names) table
    (elements_of ctx.ports) c.in_ok-port_list.port_list c.in_ok-port_list.ensures.made.0 in
    let insts : insts_in ctx ≡ length c.in_ok-inst_list.inst_list =
    many_taken cell_instance (cell_instance_record names) table
    (elements_of ctx.insts) c.in_ok-inst_list.inst_list c.in_ok-inst_list.ensures.made.0 in
    let n : NetlistRec = record {
      name = c.args.name;
      prop_map = c.in_ok-prop_map.prop_map;
      top_inst = c.in_ok-top_inst.top_inst;
      cell_decls = c.in_ok-cell_decls.cell_decls;
      port_list = c.in_ok-port_list.port_list;
      inst_list = c.in_ok-inst_list.inst_list;
      cell_list = c.in_ok-cell_list.cell_list;
    } in
    let tells : Tells (lists_in ctx) n = record {
      ports = ports_taken table names (elements_of ctx.decls) n.cell_decls
          c.in_ok-cell_decls.ensures.made.0;
      cells = cell_taken table names (elements_of ctx.insts) n.inst_list
          c.in_ok-inst_list.ensures.made.0;
    } in
    let cells : All (IsCellNamed names (decls_in ctx) (ports_in ctx) (length n.inst_list))
    n.cell_list = subst (λ (m : ℕ). All (IsCellNamed names (decls_in ctx) (ports_in ctx) m)
    n.cell_list) insts (λ k d lt. (c.in_ok-cell_list.ensures.named k d lt).0) in
    record {
      name = slice_get_within names c.args.name
          (sound_text (object_of c.args.root) 0) c.requires.name;
      prop_map = c.in_ok-prop_map.ensures.named;
      top_inst = subst (λ (n : ℕ). IsInstanceNamed names n c.in_ok-top_inst.top_inst) decls
          c.in_ok-top_inst.ensures.named;
      cell_decls = subst (λ (n : ℕ). All (IsDeclarationNamed names n) c.in_ok-cell_decls.cell_decls)
          ports c.in_ok-cell_decls.ensures.named;
      port_list = c.in_ok-port_list.ensures.named;
      inst_list = subst (λ (n : ℕ). All (IsInstanceNamed names n) c.in_ok-inst_list.inst_list) decls
          c.in_ok-inst_list.ensures.named;
      cell_list = subst (λ (n : ℕ). All (IsCellNamed names n (length c.in_ok-port_list.port_list)
          (length c.in_ok-inst_list.inst_list)) c.in_ok-cell_list.cell_list) decls
          (subst (λ (n : ℕ). All (IsCellNamed names (decls_in ctx) n
          (length c.in_ok-inst_list.inst_list)) c.in_ok-cell_list.cell_list) ports cells);
      owners_ports = λ k d lt. are_owners_ports (lists_in ctx) n names (decls_in ctx)
          (ports_in ctx) (slice_index_or n.cell_list k d) tells (cells k d lt)
          (c.in_ok-cell_list.ensures.named k d lt).1;
    }
