use Rattle.std.proofs.Common.{sym, subst}
use Rattle.std.specs.Option.{MatchOption}
use Rattle.ix_hierarchy.specs.Broken.{BreaksN9, NoneBreaks}
use Rattle.ix_flat_texts.specs.Ways.{IsWayTo}
use Rattle.ix_unknown.specs.FirstUnknown.{IsFirstUnknown}
use Rattle.ix_asked.proofs.asking.ask_n9.Goals as goal

pub returns-in-Ok-None-clause-keeps : goal.returns-in-Ok-None-clause-keeps
returns-in-Ok-None-clause-keeps c =
    subst (λ o. MatchOption o (NoneBreaks (BreaksN9 c.args.device.now c.args.rec.now))
    (λ way. IsFirstUnknown c.args.device.now c.args.rec.now way.items)) c.in-Ok-None.field-0-is
    (c.in-Ok-None.ensures c.args.device.now c.requires.kinds)

pub joined_names-requires-clause-way : goal.joined_names-requires-clause-way
joined_names-requires-clause-way c =
    let first : IsFirstUnknown c.args.device.now c.args.rec.now c.in-Ok-Some.way.items =
    subst (λ o. MatchOption o (NoneBreaks (BreaksN9 c.args.device.now c.args.rec.now))
    (λ way. IsFirstUnknown c.args.device.now c.args.rec.now way.items))
    c.in-Ok-Some.field-0-is (c.in-Ok-Some.ensures c.args.device.now c.requires.kinds) in (
      first.path,
      subst (λ w. IsWayTo c.args.rec.now first.path w) (sym c.deref.ensures.value)
          first.way_is,
    )

pub returns-in-Ok-clause-broken : goal.returns-in-Ok-clause-broken
returns-in-Ok-clause-broken c =
    let first : IsFirstUnknown c.args.device.now c.args.rec.now c.in-Ok-Some.way.items =
    subst (λ o. MatchOption o (NoneBreaks (BreaksN9 c.args.device.now c.args.rec.now))
    (λ way. IsFirstUnknown c.args.device.now c.args.rec.now way.items))
    c.in-Ok-Some.field-0-is (c.in-Ok-Some.ensures c.args.device.now c.requires.kinds) in (
      c.requires.keeps,
      record {
        path = first.path;
        first = first.first;
        word_is = c.in-Ok.ensures first.path
            (subst (λ w. IsWayTo c.args.rec.now first.path w) (sym c.deref.ensures.value)
            first.way_is);
      },
    )
