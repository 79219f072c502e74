use Rattle.std.proofs.Common.{◌≡◌, ◌<◌, ◌∙◌, ◌+◌, ◌-◌, ℕ, sym, ap, subst, arith}
use Rattle.std.specs.Prelude.{slice_index}
use Rattle.ix_frame.specs.Objects.{u32_in, element_of}
use Rattle.ix_frame.specs.Views.{elements_of}
use Rattle.ix_message.specs.Indexes.{Entry}
use Rattle.ix_message.specs.Netlist.{port}
use Rattle.ix_message.specs.Reading.{row_at}
use Rattle.ix_schema.specs.Said.{said}
use Rattle.ix_logic_read.specs.Asking.{lists_in}
use Rattle.ix_logic_read.proofs.Entries.{entries_length, entry_there}
use Rattle.ix_logic_read.proofs.context.NetlistContext.last_bit.Goals as goal

pub at-port-requires : goal.at-port-requires
unfolding lists_in
at-port-requires c = subst (λ (n : ℕ). c.args.port < n)
    (entries_length port (elements_of c.args.self.now.ports)) c.requires

pub returns : goal.returns
unfolding lists_in said row_at
returns c =
    let l = elements_of c.args.self.now.ports in
    let lt : c.args.port < l.count = subst (λ (n : ℕ). c.args.port < n)
    (entries_length port l) c.requires in
    let o = element_of l c.args.port in
    let a : c.u32_at.result ≡ u32_in o 3 = rw c.at-port.ensures at c.u32_at.ensures in
    let b : c.u32_at-2.result ≡ u32_in o 4 = rw c.at-port.ensures at c.u32_at-2.ensures in
    let e : c.abs_diff.result + 1 ≡ (u32_in o 3 - u32_in o 4) + (u32_in o 4 - u32_in o 3) + 1 =
    omega (arith, a, b, c.abs_diff.ensures) in
    e ∙ ap (λ (e : Entry). (slice_index e.row 3 - slice_index e.row 4) +
    (slice_index e.row 4 - slice_index e.row 3) + 1) (sym (entry_there port l c.args.port lt))
