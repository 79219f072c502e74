use Rattle.std.proofs.Common.{◌<◌, ◌∙◌, ℕ, sym, ap, subst}
use Rattle.std.specs.Prelude.{slice_index}
use Rattle.ix_frame.specs.Views.{elements_of}
use Rattle.ix_message.specs.Indexes.{Entry}
use Rattle.ix_message.specs.Netlist.{port}
use Rattle.ix_message.specs.Reading.{row_at}
use Rattle.ix_schema.specs.Said.{said}
use Rattle.ix_logic_read.specs.Asking.{lists_in}
use Rattle.ix_logic_read.proofs.Entries.{entries_length, entry_there}
use Rattle.ix_logic_read.proofs.context.NetlistContext.port_kind.Goals as goal

pub at-requires : goal.at-requires
unfolding lists_in
at-requires c = subst (λ (n : ℕ). c.args.port < n)
    (entries_length port (elements_of c.args.self.now.ports)) c.requires

pub returns : goal.returns
unfolding lists_in said row_at
returns c =
    let l = elements_of c.args.self.now.ports in
    let lt : c.args.port < l.count = subst (λ (n : ℕ). c.args.port < n)
    (entries_length port l) c.requires in
    rw (c.at.ensures) at c.tag_at.ensures
    ∙ ap (λ (e : Entry). slice_index e.row 2) (sym (entry_there port l c.args.port lt))
