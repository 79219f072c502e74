use Rattle.std.proofs.Common.{[], Some, ap, rules}
use Rattle.ix_shelf.proofs.MemFiles.{files_in-updates}
use Rattle.ix_shelf.proofs.mem_files.empty_file.Goals as goal

pub returns-in-Some-clause-ok : goal.returns-in-Some-clause-ok
returns-in-Some-clause-ok c =
    files_in-updates c.args.name.now [] c.args.files.now (c.get_mut.follows.lender c.clear.new.self) _ ((c.get_mut.follows.holds c.clear.new.self).3 (search rules)) (ap Some c.clear.ensures.items)
