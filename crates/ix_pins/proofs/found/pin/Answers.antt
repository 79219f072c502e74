use Rattle.std.proofs.Common.{◌≡◌, ◌<◌, ◌≤◌, ◌+◌, ◌^◌, ap, sym, subst, ◌∙◌, slice_get, Some, refl}
use Rattle.std.proofs.Common.{arith, rules, length}
use Rattle.std.specs.Option.{option_map}
use Rattle.std.proofs.lemmas.Option.{slice_get_read, same_Some, slice_get_within}
use Rattle.ix_rec.specs.declared.netlist.NetlistRec.{NetlistRec}
use Rattle.ix_rec.specs.declared.netlist.Port.{Port}
use Rattle.ix_hierarchy.specs.declared.instance.Instance.{Instance}
use Rattle.ix_hierarchy.specs.declared.row.Row.{Row}
use Rattle.ix_hierarchy.specs.Lists.{bit_in}
use Rattle.ix_hierarchy.specs.Pins.{LeafPin, direction_of}
use Rattle.ix_joined.specs.Roles.{role_in}
use Rattle.ix_joined.specs.declared.pin.Role.{Role}
use Rattle.ix_pins.specs.Places.{HasRole}
use Rattle.ix_pins.proofs.PinFacts.{above_zero, leaf_role, number_read, pin_facts}
use Rattle.ix_pins.proofs.found.pin.Goals as goal

pub index-requires-2 : goal.index-requires-2
index-requires-2 c =
    let known = c.requires.joined.0 in
    let design : NetlistRec = c.args.rec.now in
    let joined = c.args.joined.now in
    let all = joined.instances.items in
    let at = c.requires.joined.2 in
    let facts = pin_facts known design joined c.args.instance c.args.place c.requires.joined.1 at in
    let one : Instance = facts.within.one in
    let there : c.args.instance < length all =
    slice_get_within all c.args.instance one facts.within.one_is in
    let same : c.index.result.now ≡ one = same_Some c.index.result.now one
    (sym (slice_get_read all (length all) c.args.instance c.index.result.now refl there
    c.index.ensures) ∙ facts.within.one_is) in
    let above : one.parent < length all =
    slice_get_within all one.parent facts.within.above facts.within.above_is in
    let parents : c.index.result.now.parent ≡ one.parent =
    ap (λ (o : Instance). o.parent) same in
    omega (arith, joined.instances.ok.0)

pub overflow_add-occurrence : goal.overflow_add-occurrence
overflow_add-occurrence c =
    let known = c.requires.joined.0 in
    let design : NetlistRec = c.args.rec.now in
    let joined = c.args.joined.now in
    let are = c.requires.joined.1 in
    let at = c.requires.joined.2 in
    let facts = pin_facts known design joined c.args.instance c.args.place are at in
    let number = number_read known design joined c.args.instance c.args.place are at
    c.index.result.now c.index-2.result.now c.at-row.result c.index.ensures c.index-2.ensures
    c.at-row.ensures in
    let less : c.index-2.result.now.first_net + c.at-row.result.net < length joined.firsts.items =
    subst (λ n. n < length joined.firsts.items) number facts.less in
    let few : length joined.instances.items + length joined.firsts.items ≤ 2 ^ 22 + 1 = are.few in
    let fit : c.index-2.result.now.first_net + c.at-row.result.net < 2 ^ 32 = omega arith in
    search rules

pub at-requires : goal.at-requires
at-requires c =
    let known = c.requires.joined.0 in
    let design : NetlistRec = c.args.rec.now in
    let joined = c.args.joined.now in
    let at = c.requires.joined.2 in
    let facts = pin_facts known design joined c.args.instance c.args.place c.requires.joined.1 at in
    let same : at.row ≡ c.at-row.result = same_Some at.row c.at-row.result
    (sym at.row_is ∙ c.at-row.ensures) in
    subst (λ (r : Row). r.port < length design.port_list) same facts.port

pub index-name-requires : goal.index-name-requires
index-name-requires c =
    let joined = c.args.joined.now in
    let at = c.requires.joined.2 in
    let less : c.args.place < length joined.outer.rows =
    slice_get_within joined.outer.rows c.args.place at.row at.row_is in
    let many : length joined.written.items ≡ length joined.outer.rows =
    c.requires.joined.1.are_written.many in
    omega (arith, joined.written.ok.0)

pub index-requires-3 : goal.index-requires-3
index-requires-3 c =
    let known = c.requires.joined.0 in
    let design : NetlistRec = c.args.rec.now in
    let joined = c.args.joined.now in
    let are = c.requires.joined.1 in
    let at = c.requires.joined.2 in
    let facts = pin_facts known design joined c.args.instance c.args.place are at in
    let number = number_read known design joined c.args.instance c.args.place are at
    c.index.result.now c.index-2.result.now c.at-row.result c.index.ensures c.index-2.ensures
    c.at-row.ensures in
    let less : c.index-2.result.now.first_net + c.at-row.result.net < length joined.firsts.items =
    subst (λ n. n < length joined.firsts.items) number facts.less in
    omega (arith, joined.firsts.ok.0)

pub kind-requires-clause-there : goal.kind-requires-clause-there
kind-requires-clause-there c =
    let joined = c.args.joined.now in
    let are = c.requires.joined.1 in
    let at = c.requires.joined.2 in
    let less : c.args.instance < length c.requires.joined.0.paths =
    slice_get_within c.requires.joined.0.paths c.args.instance at.path at.path_is in
    let many : length c.requires.joined.0.paths ≡ length joined.instances.items =
    are.are_instances.many in
    omega arith

pub returns : goal.returns
returns c = λ known are consts at.
    let design : NetlistRec = c.args.rec.now in
    let joined = c.args.joined.now in
    let i = c.args.instance in
    let all = joined.instances.items in
    let facts = pin_facts known design joined i c.args.place are at in
    let row : Row = c.at-row.result in
    let rows : at.row ≡ row = same_Some at.row row (sym at.row_is ∙ c.at-row.ensures) in
    let many : length joined.written.items ≡ length joined.outer.rows = are.are_written.many in
    let within : c.args.place < length joined.outer.rows =
    slice_get_within joined.outer.rows c.args.place at.row at.row_is in
    let name_is : slice_get joined.written.items c.args.place ≡ Some c.index-name.result.now =
    slice_get_read joined.written.items (length joined.written.items) c.args.place
    c.index-name.result.now refl (omega arith) c.index-name.ensures in
    let written = are.are_written.each c.args.place at.row c.index-name.result.now at.row_is name_is in
    let number = number_read known design joined i c.args.place are at c.index.result.now
    c.index-2.result.now row c.index.ensures c.index-2.ensures c.at-row.ensures in
    let read = c.index-2.result.now.first_net + row.net in
    let less : read < length joined.firsts.items =
    subst (λ n. n < length joined.firsts.items) number facts.less in
    let first_is : slice_get joined.firsts.items read ≡ Some c.index-3.result.now =
    slice_get_read joined.firsts.items (length joined.firsts.items) read c.index-3.result.now refl
    less c.index-3.ensures in
    let towards : direction_of design (bit_in at.row) ≡ Some c.at.result.now.dir =
    ap (λ (r : Row). option_map (λ (p : Port). p.dir) (slice_get design.port_list r.port)) rows
    ∙ ap (option_map (λ (p : Port). p.dir)) c.at.ensures in
    let kind_is = c.kind.ensures facts.within.one facts.within.one_is in
    let role = leaf_role known design joined i at.path facts.within.one c.kind.result at.on.inst
    (bit_in at.row) c.at.result.now.dir c.index-name.result.now written.0 are
    (above_zero known design joined i c.args.place are at) at.path_is facts.within.one_is kind_is
    at.on.leaf towards written.1 written.2 in
    let told : role_in known.device.constants c.kind.result c.at.result.now.dir
    c.index-name.result.now ≡ c.role_of.result =
    ap (λ cs. role_in cs c.kind.result c.at.result.now.dir c.index-name.result.now) (sym consts)
    ∙ sym c.role_of.ensures in
    record {
      at = at;
      port_is = ap (λ (r : Row). r.port) (sym rows);
      text = written.0;
      name_is = written.1;
      written_is = written.2;
      net_is = record {
        at = record { path = at.parent; net = at.row.net };
        on = at.on;
        number = facts.within.above.first_net + at.row.net;
        is_number = facts.is_number;
        first_is = ap (slice_get joined.firsts.items) number ∙ first_is;
      };
      role_is = subst (λ (r : Role). HasRole known.names known.device design
          (LeafPin at.path (bit_in at.row)) r) told role;
    }
