use Rattle.std.proofs.Common.{◌++◌, ap, sym, arith}
use Rattle.ix_device_rules.proofs.TableLemmas.{same_as, same_begin}
use Rattle.ix_device_rules.proofs.TileWireLemmas.{no_wire_keys}
use Rattle.ix_device_rules.proofs.wires_stand.take_wire.Goals as goal

pub returns-then-place-len : goal.returns-then-place-len
returns-then-place-len c = same_as (ap (λ ks. c.args.taken.now ++ ks) (sym (no_wire_keys c.args.wires.now c.args.place (omega arith)))) (same_begin c.args.taken.now)
