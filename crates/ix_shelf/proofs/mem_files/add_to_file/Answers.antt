use Rattle.std.proofs.Common.{refl, rules}
use Rattle.ix_shelf.specs.MemFiles.{files_in}
use Rattle.ix_shelf.proofs.MemFiles.{files_in-updates, file_is, file_added, file_kept}
use Rattle.ix_shelf.proofs.mem_files.add_to_file.Goals as goal

pub returns-in-Ok-clause-ok : goal.returns-in-Ok-clause-ok
returns-in-Ok-clause-ok c =
    file_added c.args.name.now c.in-Some.file.now.items c.args.piece.now c.extend_from_slice.new.self.items (files_in c.args.files.now) (files_in (c.get_mut.follows.lender c.extend_from_slice.new.self))
    (files_in-updates c.args.name.now c.extend_from_slice.new.self.items c.args.files.now (c.get_mut.follows.lender c.extend_from_slice.new.self) _ ((c.get_mut.follows.holds c.extend_from_slice.new.self).3 (search rules)) refl)
    c.in-Ok.ensures.items
    (file_is c.args.name.now c.args.files.now c.in-Some.file.now c.in-Some.ensures.value)

pub returns-in-Err-clause-err : goal.returns-in-Err-clause-err
returns-in-Err-clause-err c =
    file_kept c.args.name.now c.in-Some.file.now.items c.extend_from_slice.new.self.items (files_in c.args.files.now) (files_in (c.get_mut.follows.lender c.extend_from_slice.new.self))
    (files_in-updates c.args.name.now c.extend_from_slice.new.self.items c.args.files.now (c.get_mut.follows.lender c.extend_from_slice.new.self) _ ((c.get_mut.follows.holds c.extend_from_slice.new.self).3 (search rules)) refl)
    c.in-Err.ensures.items
    (file_is c.args.name.now c.args.files.now c.in-Some.file.now c.in-Some.ensures.value)
