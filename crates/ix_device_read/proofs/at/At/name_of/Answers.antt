use Rattle.std.proofs.Common.{◌<◌, length, slice_index_or, arith}
use Rattle.std.proofs.lemmas.Option.{slice_get-get_or}
use Rattle.ix_device_read.proofs.Naming.{string_below}
use Rattle.ix_device_read.proofs.at.At.name_of.Goals as goal

pub returns-then-n-ctx-clause-within : goal.returns-then-n-ctx-clause-within
returns-then-n-ctx-clause-within c =
    let strings = c.args.ctx.now.strings.now in
    let lt : c.args.n < length strings = omega arith in
    string_below strings c.args.ctx.now.names.now c.args.n (slice_index_or strings c.args.n c.index-ctx-n.result) (slice_get-get_or strings c.args.n c.index-ctx-n.result lt)
