use Rattle.std.proofs.Common.{◌≡◌, ◌<◌, ◌∙◌, ap, refl, sym, subst, List, length, Some, None, arith}
use Rattle.std.specs.Prelude.{MatchOption}
use Rattle.std.specs.List.{AllByRecursion}
use Rattle.std.proofs.lemmas.Option.{slice_get_read}
use Rattle.ix_message.specs.Shape.{Text}
use Rattle.ix_rec.specs.declared.device.DeviceRec.{DeviceRec}
use Rattle.ix_rec.specs.declared.device.LutCell.{LutCell}
use Rattle.ix_rec.specs.declared.netlist.CellDeclaration.{CellDeclaration}
use Rattle.ix_rec.specs.declared.netlist.Port.{Port}
use Rattle.ix_device.specs.Elements.{is_lut_cell}
use Rattle.ix_hierarchy.specs.Fits.{DeclarationFits}
use Rattle.ix_hierarchy.specs.FlatDesign.{lut_of_type}
use Rattle.ix_open_inputs.specs.Standings.{AnswersOpen}
use Rattle.ix_flat_rules.specs.Opens.{AreAllJoined, IsFirstOpenOf}
use Rattle.ix_flat_rules.proofs.Finds.{at_place, found_holds}
use Rattle.ix_flat_rules.proofs.Listings.{declared_there, instance_there, listed, ports_are}
use Rattle.ix_flat_rules.proofs.Listings.{same_declared}
use Rattle.ix_flat_rules.proofs.LeafInputs.{answered, given, if_ok, no_lut}
use Rattle.ix_flat_rules.proofs.inputs.first_open_of.Goals as goal

pub returns-in_default : goal.returns-in_default
returns-in_default c = λ known path inst ty sinks is.
    no_lut known.names known.device c.args.rec.now path inst ty is.plain
    (subst (λ (d : DeviceRec). lut_of_type d ty ≡ None) sinks.device_is
    (c.in_default.ensures.lut known path inst ty is))

pub index-requires : goal.index-requires
index-requires c =
    let is = c.requires.leaf.5 in
    let there : c.args.instance < length c.args.joined.now.instances.items =
    instance_there c.requires.leaf.0 c.args.rec.now c.args.joined.now c.args.instance
    c.requires.leaf.1 is.joined_is is.path_is in
    omega (arith, c.args.joined.now.instances.ok.0)

pub at-requires : goal.at-requires
at-requires c =
    let joined = c.args.joined.now in
    let all = joined.instances.items in
    let is = c.requires.leaf.5 in
    let there = instance_there c.requires.leaf.0 c.args.rec.now joined c.args.instance
    c.requires.leaf.1 is.joined_is is.path_is in
    declared_there c.requires.leaf.0 c.args.rec.now joined c.args.instance c.requires.leaf.1
    c.requires.leaf.2 c.requires.leaf.3 c.index.result.now is
    (slice_get_read all (length all) c.args.instance c.index.result.now refl there
    c.index.ensures)

pub first_open-requires-clause-named : goal.first_open-requires-clause-named
first_open-requires-clause-named c =
    subst (λ (ns : List Text). AllByRecursion (λ (port : Port). port.name < length ns)
    c.args.rec.now.port_list) c.requires.leaf.4.names_are c.requires.leaf.5.joined_is.fits.ports

pub first_open-requires-clause-ports : goal.first_open-requires-clause-ports
first_open-requires-clause-ports c =
    (at_place (DeclarationFits (length c.requires.leaf.0.names) c.args.rec.now)
    c.args.rec.now.cell_decls c.index.result.now.declaration c.at.result.now
    c.requires.leaf.5.joined_is.fits.declarations c.at.ensures).ports

pub first_open-requires-clause-pins : goal.first_open-requires-clause-pins
first_open-requires-clause-pins c =
    found_holds (λ (lut : LutCell). AllByRecursion (λ pin. pin < length c.args.names.now)
    lut.input_pins) (is_lut_cell c.requires.leaf.3) c.args.device.now.lut_definitions.lut_cells
    c.in-Some.lut.now c.requires.leaf.4.inputs_named
    (c.in-Some.ensures.lut c.requires.leaf.0 c.requires.leaf.1 c.requires.leaf.2 c.requires.leaf.3
    c.requires.leaf.5)

pub returns : goal.returns
returns c = λ known path inst ty sinks is.
    let design = c.args.rec.now in
    let joined = c.args.joined.now in
    let i = c.args.instance in
    let all = joined.instances.items in
    let lut = c.in-Some.lut.now in
    let ports = c.at.result.now.ports in
    let marks = c.open_inputs-unjoined.result in
    let there = instance_there known design joined i path is.joined_is is.path_is in
    let one = slice_get_read all (length all) i c.index.result.now refl there c.index.ensures in
    let list = listed known design joined i path inst ty is in
    let declared = same_declared design joined i inst ty c.index.result.now c.at.result.now list
    one c.at.ensures in
    let same = ports_are design joined i inst ty list
    ∙ ap (λ (d : CellDeclaration). d.ports) (sym declared) in
    let of_type = subst (λ (d : DeviceRec). lut_of_type d ty ≡ Some lut) sinks.device_is
    (c.in-Some.ensures.lut known path inst ty is) in
    let marked = c.open_inputs-unjoined.ensures known path
    (given known c.args.names.now design c.args.device.now c.args.luts.now joined
    c.args.states.now i path inst ty sinks is) in
    if_ok (AnswersOpen c.args.names.now design ports lut.input_pins marks)
    (λ found. MatchOption found (AreAllJoined known.names known.device design path)
    (IsFirstOpenOf known.names known.device design path)) c.first_open.result
    (λ found h. answered known design path inst ty lut ports marks found is.plain same of_type
    marked (subst (λ (ns : List Text). AnswersOpen ns design ports lut.input_pins marks found)
    (sym sinks.names_are) h)) c.first_open.ensures
