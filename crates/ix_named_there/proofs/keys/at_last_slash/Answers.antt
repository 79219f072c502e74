use Rattle.ix_named_there.proofs.Slashes.{slash_parts}
use Rattle.ix_named_there.proofs.keys.at_last_slash.Goals as goal

pub returns : goal.returns
returns c = slash_parts c.args.text.now c.rsplit_once.result c.rsplit_once.ensures.cases
