use Rattle.std.proofs.Common.{◌≡◌, ◌∙◌, ◌++◌, ◌∷◌, [], ap, length, arith}
use Rattle.std.proofs.lemmas.List.{length-append}
use Rattle.ix_lut_places.proofs.Turns.{one_more_row, no_entries}
use Rattle.ix_lut_places.proofs.filling.empty_rows.Goals as goal

pub loop-preserved : goal.loop-preserved
loop-preserved c =
    let rows = c.loop.rows.items in
    let pushed : c.push.new.self.items ≡ rows ++ [] ∷ [] =
    c.in_ok-push.ensures.items ∙ ap (λ r. rows ++ r ∷ []) c.new.ensures in
    let more = ap length pushed ∙ length-append rows ([] ∷ []) in (
      omega (arith, c.loop.invariant.0, more),
      one_more_row rows c.push.new.self.items pushed c.loop.invariant.1,
    )

pub returns : goal.returns
returns c =
    let many : length c.loop.rows.items ≡ length c.args.rec.now.site_type_list =
    omega (arith, c.loop.invariant.0, c.len-end.ensures, c.loop.auto.counter-end) in
    no_entries c.args.rec.now c.loop.rows.items many c.loop.invariant.1
