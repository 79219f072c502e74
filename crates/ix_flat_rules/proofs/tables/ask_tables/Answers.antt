use Rattle.std.proofs.Common.{sym, subst, get_or, List, None, length}
use Rattle.std.proofs.lemmas.Option.{slice_get-get_or, slice_get_within}
use Rattle.ix_message.specs.Shape.{Text}
use Rattle.ix_rec.specs.declared.device.DeviceRec.{DeviceRec}
use Rattle.ix_rec.specs.declared.device.Direction.TheVariants.{Input}
use Rattle.ix_joined.specs.declared.top_bit.TopBit.{TopBit}
use Rattle.ix_flat_lists.specs.Listed.{ArePortNames}
use Rattle.ix_flat_rules.specs.Lacking.{IsFirstLutPort, IsPortText, NoLutPort}
use Rattle.ix_flat_rules.proofs.Listings.{instance_there}
use Rattle.ix_flat_rules.proofs.LutPorts.{cell_text, no_port, place_of, port_broken, port_there}
use Rattle.ix_flat_rules.proofs.LeafTables.{keeps_tables, leaf_told, port_told, tables_known}
use Rattle.ix_flat_rules.proofs.tables.ask_tables.Goals as goal

abbrev no_bit : TopBit
no_bit = record { port = 0; index = 0; dir = Input; net = None }

pub broken_at_port-requires-clause-there : goal.broken_at_port-requires-clause-there
broken_at_port-requires-clause-there c =
    let is = c.requires.known.1 in
    let bits = c.args.bits.now in
    let k = c.in-Some.place in
    let less = slice_get_within bits k c.in-Some.ensures.bit c.in-Some.ensures.bit_is in
    port_there c.requires.known.0 c.args.rec.now c.args.joined.now bits k (get_or bits k no_bit)
    is.top (slice_get-get_or bits k no_bit less)

pub returns-in-Some-clause-broken : goal.returns-in-Some-clause-broken
returns-in-Some-clause-broken c = λ known is keeps.
    let design = c.args.rec.now in
    let joined = c.args.joined.now in
    let types = c.args.types.now in
    let bits = c.args.bits.now in
    let k = c.in-Some.place in
    let first = subst (λ (d : DeviceRec). IsFirstLutPort d types bits k) is.device_is
    c.in-Some.ensures in
    let bit = get_or bits k no_bit in
    let at_bit = slice_get-get_or bits k no_bit (slice_get_within bits k first.bit first.bit_is) in
    let at = place_of known design joined bits k bit is.top at_bit in
    let named = subst (λ (ns : List Text). ArePortNames ns types) (sym is.names_are) is.types_are
    in
    port_told known design at.0 (IsPortText c.args.names.now design bit) c.broken_at_port.result
    keeps
    (port_broken known design joined types bits k at.0 is.top named is.joined_is.differ at.1 first)
    (λ word text. cell_text known design joined bits k at.0 bit word is.top at.1 at_bit
    (subst (λ (ns : List Text). IsPortText ns design bit word) (sym is.names_are) text))
    c.broken_at_port.ensures

pub broken_at_leaf-requires-clause-there : goal.broken_at_leaf-requires-clause-there
broken_at_leaf-requires-clause-there c =
    let known = c.requires.known.0 in
    let is = c.requires.known.1 in
    let tables = tables_known known c.args.names.now c.args.device.now c.args.rec.now
    c.args.tables.now is.names_are is.tables_are in
    let first = c.in-Some-first_without_table.ensures known is.cells is.device_is is.joined_is
    is.leaves_are tables in
    instance_there known c.args.rec.now c.args.joined.now c.in-Some-first_without_table.instance
    first.path is.joined_is first.path_is

pub returns-in-Some-first_without_table-clause-broken :
    goal.returns-in-Some-first_without_table-clause-broken
returns-in-Some-first_without_table-clause-broken c = λ known is keeps.
    let design = c.args.rec.now in
    let types = c.args.types.now in
    let bits = c.args.bits.now in
    let tables = tables_known known c.args.names.now c.args.device.now design c.args.tables.now
    is.names_are is.tables_are in
    let first = c.in-Some-first_without_table.ensures known is.cells is.device_is is.joined_is
    is.leaves_are tables in
    let none = subst (λ (d : DeviceRec). NoLutPort d types bits (length bits)) is.device_is
    c.in_default.ensures in
    let named = subst (λ (ns : List Text). ArePortNames ns types) (sym is.names_are) is.types_are
    in
    leaf_told known design c.in-Some-first_without_table.instance c.broken_at_leaf.result keeps
    (no_port known design c.args.joined.now types bits is.top named is.joined_is.differ none) first
    (c.broken_at_leaf.ensures known first.path is.joined_is is.names_are first.path_is)

pub returns-in-None-clause-keeps : goal.returns-in-None-clause-keeps
returns-in-None-clause-keeps c = λ known is keeps.
    let design = c.args.rec.now in
    let types = c.args.types.now in
    let bits = c.args.bits.now in
    let tables = tables_known known c.args.names.now c.args.device.now design c.args.tables.now
    is.names_are is.tables_are in
    let none = subst (λ (d : DeviceRec). NoLutPort d types bits (length bits)) is.device_is
    c.in_default.ensures in
    let named = subst (λ (ns : List Text). ArePortNames ns types) (sym is.names_are) is.types_are
    in (
      keeps,
      keeps_tables known design
          (no_port known design c.args.joined.now types bits is.top named is.joined_is.differ none)
          (c.in-None.ensures known is.cells is.device_is is.joined_is is.leaves_are tables),
    )
