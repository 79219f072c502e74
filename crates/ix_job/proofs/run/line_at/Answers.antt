use Rattle.std.proofs.Common.{◌≡◌, ◌∙◌, ap, Some, option_map, slice_get, vec_len}
use Rattle.std.proofs.lemmas.Option.{slice_get-map, slice_get_read}
use Rattle.ix_job.proofs.run.line_at.Goals as goal

pub returns : goal.returns
returns c =
    let at : slice_get c.args.lines.items c.args.place ≡ Some c.swap_remove.result =
    slice_get_read c.args.lines.items
    (vec_len c.args.lines) c.args.place c.swap_remove.result c.args.lines.ok.0 c.requires
    c.swap_remove.ensures.value in
    slice_get-map _ _ c.args.place ∙ ap (option_map (λ l. l.report)) at
