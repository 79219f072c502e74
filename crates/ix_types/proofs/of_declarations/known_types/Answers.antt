use Rattle.std.proofs.Common.{◌≡◌, ◌∙◌, ap}
use Rattle.ix_keys.specs.Keys.{key_eq, name_key}
use Rattle.ix_keys.specs.declared.key.Key.{Key}
use Rattle.ix_first.specs.First.{value_at, or_later}
use Rattle.ix_types.proofs.Types.{type_more}
use Rattle.ix_types.proofs.of_declarations.known_types.Goals as goal

pub loop-i-preserved : goal.loop-i-preserved
loop-i-preserved c =
    let name : c.of_name.result ≡ name_key c.at.result.now.cell = c.of_name.ensures ∙ ap name_key c.get.ensures in
    type_more c.loop-i.known c.put.new.self c.args.rec.now.cell_bel_map c.loop-i.i c.at.result.now c.at.ensures c.loop-i.invariant
    (λ q. c.in_ok-put.ensures.values q ∙ ap (λ (k : Key). or_later (value_at c.loop-i.known q) (key_eq k q) tt) name)
