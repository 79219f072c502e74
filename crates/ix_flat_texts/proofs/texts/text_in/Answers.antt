use Rattle.std.proofs.Common.{◌∙◌, ap, sym, nat_eq, get_or, []}
use Rattle.std.proofs.lemmas.Option.{slice_get-get_or}
use Rattle.ix_flat_texts.specs.Ways.{behind}
use Rattle.ix_flat_texts.proofs.Named.{named_behind}
use Rattle.ix_flat_texts.proofs.texts.text_in.Goals as goal

pub returns : goal.returns
returns c = λ paths nets path are at.
    let name = get_or c.args.names.now c.args.name [] in
    c.in_ok-put_name.ensures
    ∙ ap (λ t. behind (nat_eq c.args.instance 0) t name) (c.in_ok-text.ensures paths nets path are at)
    ∙ sym (named_behind c.args.names.now c.args.rec.now c.args.instances.now paths nets
    c.args.instance path (get_or c.args.instances.now c.args.instance record {
      number = 0;
      declaration = 0;
      parent = 0;
      place = 0;
      first_net = 0;
    }) name are at
    (slice_get-get_or c.args.instances.now c.args.instance _ c.requires.there))
