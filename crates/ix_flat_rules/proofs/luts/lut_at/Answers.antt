use Rattle.std.proofs.Common.{◌≡◌, ◌<◌, ◌∙◌, ap, refl, subst, length, Some, None, arith}
use Rattle.std.specs.Prelude.{MatchOption}
use Rattle.std.proofs.lemmas.Option.{slice_get_read}
use Rattle.ix_rec.specs.declared.netlist.CellDeclaration.{CellDeclaration}
use Rattle.ix_hierarchy.specs.FlatDesign.{lut_of_type}
use Rattle.ix_flat_rules.proofs.Listings.{declared_there, instance_there, listed, same_declared}
use Rattle.ix_flat_rules.proofs.luts.lut_at.Goals as goal

pub index-requires : goal.index-requires
index-requires c =
    let is = c.requires.leaf.4 in
    let there : c.args.instance < length c.args.joined.now.instances.items =
    instance_there c.requires.leaf.0 c.args.rec.now c.args.joined.now c.args.instance
    c.requires.leaf.1 is.joined_is is.path_is in
    omega (arith, c.args.joined.now.instances.ok.0)

pub at-requires : goal.at-requires
at-requires c =
    let joined = c.args.joined.now in
    let all = joined.instances.items in
    let is = c.requires.leaf.4 in
    let there = instance_there c.requires.leaf.0 c.args.rec.now joined c.args.instance
    c.requires.leaf.1 is.joined_is is.path_is in
    declared_there c.requires.leaf.0 c.args.rec.now joined c.args.instance c.requires.leaf.1
    c.requires.leaf.2 c.requires.leaf.3 c.index.result.now is
    (slice_get_read all (length all) c.args.instance c.index.result.now refl there
    c.index.ensures)

pub returns-clause-lut : goal.returns-clause-lut
returns-clause-lut c = λ known path inst ty is.
    let design = c.args.rec.now in
    let joined = c.args.joined.now in
    let all = joined.instances.items in
    let there = instance_there known design joined c.args.instance path is.joined_is is.path_is in
    let one = slice_get_read all (length all) c.args.instance c.index.result.now refl there
    c.index.ensures in
    let list = listed known design joined c.args.instance path inst ty is in
    let declared = same_declared design joined c.args.instance inst ty c.index.result.now
    c.at.result.now list one c.at.ensures in
    subst (λ t. MatchOption c.lut_type.result (lut_of_type c.args.device.now t ≡ None)
    (λ lut. lut_of_type c.args.device.now t ≡ Some lut.now))
    (ap (λ (d : CellDeclaration). d.name) declared ∙ list.type_is) c.lut_type.ensures.lut
