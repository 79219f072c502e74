use Rattle.std.proofs.Common.{◌∙◌, ◌↔◌, ◌&&◌, ap, refl, sym, subst, get_or, length}
use Rattle.std.proofs.Common.{None}
use Rattle.std.specs.Prelude.{is_none, IsTrue}
use Rattle.std.proofs.lemmas.Option.{slice_get_read}
use Rattle.ix_hierarchy.specs.Broken.{HasNoTable}
use Rattle.ix_lut_tables.specs.Tables.{table_of_instance}
use Rattle.ix_flat_rules.proofs.Listings.{instance_there, number_there}
use Rattle.ix_flat_rules.proofs.LeafTables.{lacks_both, none_of, table_read}
use Rattle.ix_flat_rules.proofs.tables.lacks_table.Goals as goal

pub returns-then-is_some : goal.returns-then-is_some
returns-then-is_some c = λ known names path inst ty is are.
    let design = c.args.rec.now in
    let joined = c.args.joined.now in
    let all = joined.instances.items in
    let there = instance_there known design joined c.args.instance path is.joined_is is.path_is in
    let one = slice_get_read all (length all) c.args.instance c.index.result.now refl there
    c.index.ensures in
    let at = number_there known design joined c.args.instance path inst ty c.index.result.now is
    one in
    let table = get_or c.args.tables.now c.index.result.now.number None in
    let same = table_read (table_of_instance names c.args.device.now design) design.inst_list
    c.args.tables.now c.index.result.now.number inst None are at in
    subst (λ b. IsTrue b ↔ HasNoTable names c.args.device.now inst ty)
    (ap (λ b. b && is_none table) (sym c.is_some.ensures ∙ c.if-is_some.true)
    ∙ none_of table c.is_none.result c.is_none.ensures)
    (lacks_both (λ lut. lut.now) names c.args.device.now design inst ty c.lut_at.result table
    is.plain.leaf.type_is (c.lut_at.ensures.lut known path inst ty is) same)

pub returns-else-is_some : goal.returns-else-is_some
returns-else-is_some c = λ known names path inst ty is are.
    let design = c.args.rec.now in
    let table = table_of_instance names c.args.device.now design inst in
    subst (λ b. IsTrue b ↔ HasNoTable names c.args.device.now inst ty)
    (ap (λ b. b && is_none table) (sym c.is_some.ensures ∙ c.if-is_some.false)
    ∙ sym c.if-is_some.false)
    (lacks_both (λ lut. lut.now) names c.args.device.now design inst ty c.lut_at.result table
    is.plain.leaf.type_is (c.lut_at.ensures.lut known path inst ty is) refl)
