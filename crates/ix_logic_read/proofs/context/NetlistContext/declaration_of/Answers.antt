use Rattle.std.proofs.Common.{◌<◌, ◌∙◌, ℕ, sym, ap, subst}
use Rattle.std.specs.Prelude.{slice_index}
use Rattle.ix_frame.specs.Views.{elements_of}
use Rattle.ix_message.specs.Indexes.{Entry}
use Rattle.ix_message.specs.Netlist.{cell_instance}
use Rattle.ix_message.specs.Reading.{row_at}
use Rattle.ix_schema.specs.Said.{said}
use Rattle.ix_logic_read.specs.Asking.{lists_in}
use Rattle.ix_logic_read.proofs.Entries.{entries_length, entry_there}
use Rattle.ix_logic_read.proofs.context.NetlistContext.declaration_of.Goals as goal

pub at-requires : goal.at-requires
unfolding lists_in
at-requires c = subst (λ (n : ℕ). c.args.inst < n)
    (entries_length cell_instance (elements_of c.args.self.now.insts)) c.requires

pub returns : goal.returns
unfolding lists_in said row_at
returns c =
    let l = elements_of c.args.self.now.insts in
    let lt : c.args.inst < l.count = subst (λ (n : ℕ). c.args.inst < n)
    (entries_length cell_instance l) c.requires in
    rw (c.at.ensures) at c.u32_at.ensures
    ∙ ap (λ (e : Entry). slice_index e.row 1) (sym (entry_there cell_instance l c.args.inst lt))
