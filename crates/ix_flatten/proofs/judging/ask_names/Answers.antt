use Rattle.std.proofs.Common.{◌∙◌, subst, sym}
use Rattle.std.proofs.lemmas.Option.{same_Some, slice_get_within}
use Rattle.ix_rec.specs.declared.place.Rule.TheVariants.{N5}
use Rattle.ix_hierarchy.specs.Broken.{TellsN5}
use Rattle.ix_named_twice.specs.Twice.{TellsTwice}
use Rattle.ix_flatten.proofs.Asked.{known_of, told}
use Rattle.ix_flatten.proofs.judging.ask_names.Goals as goal

pub name-requires : goal.name-requires
name-requires c =
    let names = c.args.names.now in
    let design = c.args.rec.now in
    let is = c.requires.listed in
    let known = known_of names c.args.device.now design c.args.listed.now is in
    let tells = subst (λ o. TellsTwice known design o) c.in-Some.is
    (c.in_ok-name.ensures known design is.1.joined_is is.1.named_is is.1.top.places) in
    slice_get_within names c.in-Some.name tells.0 tells.1

pub returns-in-Some-clause-broken : goal.returns-in-Some-clause-broken
returns-in-Some-clause-broken c =
    let names = c.args.names.now in
    let device = c.args.device.now in
    let design = c.args.rec.now in
    let is = c.requires.listed in
    let known = known_of names device design c.args.listed.now is in
    let tells = subst (λ o. TellsTwice known design o) c.in-Some.is
    (c.in_ok-name.ensures known design is.1.joined_is is.1.named_is is.1.top.places) in
    let text = c.name.result.now in
    told names device design N5 text c.broken.result (
      c.requires.keeps,
      subst (λ t. TellsN5 names device design t)
          (same_Some tells.0 text (sym tells.1 ∙ c.name.ensures.text)) tells.2,
    ) c.broken.ensures

pub returns-in-None-clause-keeps : goal.returns-in-None-clause-keeps
returns-in-None-clause-keeps c =
    let design = c.args.rec.now in
    let is = c.requires.listed in
    let known = known_of c.args.names.now c.args.device.now design c.args.listed.now is in (
      c.requires.keeps,
      subst (λ o. TellsTwice known design o) c.in-None.is
          (c.in_ok-name.ensures known design is.1.joined_is is.1.named_is is.1.top.places),
    )
