use Rattle.std.proofs.Common.{◌∙◌, ℕ, List, Some, ap}
use Rattle.ix_shelf.specs.Shelf.{with_file}
use Rattle.ix_shelf.specs.MemFiles.{files_in}
use Rattle.ix_shelf.proofs.MemFiles.{files_in-updates}
use Rattle.std.specs.String.{string_bytes}
use Rattle.ix_shelf.proofs.mem_files.set_file.Goals as goal

pub returns-in-Ok-insert-clause-ok : goal.returns-in-Ok-insert-clause-ok
returns-in-Ok-insert-clause-ok c =
    files_in-updates (string_bytes c.in-Ok.key) c.args.bytes.now c.args.files.now c.insert.new.self _ c.in-Ok-insert.ensures.updates (ap Some c.in-Ok-from_slice.ensures.items)
    ∙ ap (λ (name : List ℕ). with_file name c.args.bytes.now (files_in c.args.files.now)) c.in-Ok.ensures.ok
