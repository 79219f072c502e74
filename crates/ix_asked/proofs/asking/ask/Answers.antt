use Rattle.std.proofs.Common.{length}
use Rattle.std.proofs.lemmas.Result.{err_from_is_err_and}
use Rattle.ix_asked.proofs.Growing.{fits_more, kept_more}
use Rattle.ix_asked.proofs.asking.ask.Goals as goal

pub returns-in_err-reach-clause-broken : goal.returns-in_err-reach-clause-broken
returns-in_err-reach-clause-broken c =
    let p = err_from_is_err_and c.from_residual.result c.from_residual.ensures.1 in
    rw (p.1, p.2) (c.in_err-reach.ensures.broken c.args.device.now)

pub ask_n2-requires-clause-fits : goal.ask_n2-requires-clause-fits
ask_n2-requires-clause-fits c = fits_more (length c.args.names.now)
    (length c.written_names.new.names) c.args.rec.now
    (kept_more c.args.names.now c.written_names.new.names c.written_names.ensures.keeps)
    c.requires.fits

pub returns-in_err-ask_n2-clause-broken : goal.returns-in_err-ask_n2-clause-broken
returns-in_err-ask_n2-clause-broken c =
    let p = err_from_is_err_and c.from_residual-in_err-ask_n2.result
    c.from_residual-in_err-ask_n2.ensures.1 in
    rw (p.1, p.2) (c.in_err-ask_n2.ensures.broken c.args.device.now)

pub ask_n9-requires-clause-fits : goal.ask_n9-requires-clause-fits
ask_n9-requires-clause-fits c = fits_more (length c.args.names.now)
    (length c.written_names.new.names) c.args.rec.now
    (kept_more c.args.names.now c.written_names.new.names c.written_names.ensures.keeps)
    c.requires.fits

pub returns-clause-asked : goal.returns-clause-asked
returns-clause-asked c = record {
  fits = fits_more (length c.args.names.now) (length c.written_names.new.names) c.args.rec.now
      (kept_more c.args.names.now c.written_names.new.names c.written_names.ensures.keeps)
      c.requires.fits;
  differ = c.len-count.ensures.differ;
  keeps = (
    (
      (c.in_ok-reach.ensures.keeps, c.in_ok-ask_n2.ensures.keeps),
      c.in_ok-ask_n9.ensures.keeps,
    ),
    c.in_ok-ask_n10.ensures.keeps,
  );
  are_kinds = c.in_ok-kinds.ensures;
  own_rows = c.in_ok-own.ensures;
  outer_rows = c.in_ok-outer.ensures;
  are_written = c.in_ok-written.ensures.written;
}
