use Rattle.std.proofs.Common.{◌≡◌, ◌<◌, ◌≤◌, length, refl, sym, ◌∙◌, subst, arith}
use Rattle.std.proofs.lemmas.Option.{slice_get_read}
use Rattle.ix_bit_rows.specs.Table.{RowTable, IsNetOf, IsOnNone, end_in}
use Rattle.ix_bit_rows.proofs.Cuts.{read_at}
use Rattle.ix_bit_rows.proofs.Bits.{Cut, none_at_end, none_at_place, found_at_place}
use Rattle.ix_bit_rows.proofs.rows.Rows.net_of.Goals as goal

pub returns-then-is_at : goal.returns-then-is_at
returns-then-is_at c =
    let t : RowTable = record { rows = c.self.inside.rows.items; starts = c.self.inside.starts.items; ends = c.self.inside.ends.items } in
    let is : t ≡ c.args.self.now = c.self.view_is in
    let small : c.args.cell < length t.starts = subst (λ (t : RowTable). c.args.cell < length t.starts) (sym is) c.requires in
    let at_end = read_at t.ends c.args.cell c.index.result.now (omega (arith, c.self.invariant.many)) c.index.ensures in
    let within : c.place_of-place.result < end_in t c.args.cell = omega arith in
    let cut : Cut t c.args.cell c.args.port c.args.index c.place_of-place.result =
    subst (λ (t : RowTable). Cut t c.args.cell c.args.port c.args.index c.place_of-place.result) (sym is) c.place_of-place.ensures in
    let order = c.self.invariant.ordered c.args.cell small in
    let here = slice_get_read t.rows (length t.rows) c.place_of-place.result c.index-row.result.now refl (omega (arith, order.1)) c.index-row.ensures in
    subst (λ (t : RowTable). IsNetOf t c.args.cell c.args.port c.args.index c.index-row.result.now.net) is
    (found_at_place t c.args.cell c.args.port c.args.index c.place_of-place.result c.index-row.result.now c.self.invariant small cut within here (sym c.is_at.ensures ∙ c.if-is_at.true))

pub returns-else-is_at : goal.returns-else-is_at
returns-else-is_at c =
    let t : RowTable = record { rows = c.self.inside.rows.items; starts = c.self.inside.starts.items; ends = c.self.inside.ends.items } in
    let is : t ≡ c.args.self.now = c.self.view_is in
    let small : c.args.cell < length t.starts = subst (λ (t : RowTable). c.args.cell < length t.starts) (sym is) c.requires in
    let at_end = read_at t.ends c.args.cell c.index.result.now (omega (arith, c.self.invariant.many)) c.index.ensures in
    let within : c.place_of-place.result < end_in t c.args.cell = omega arith in
    let cut : Cut t c.args.cell c.args.port c.args.index c.place_of-place.result =
    subst (λ (t : RowTable). Cut t c.args.cell c.args.port c.args.index c.place_of-place.result) (sym is) c.place_of-place.ensures in
    let order = c.self.invariant.ordered c.args.cell small in
    let here = slice_get_read t.rows (length t.rows) c.place_of-place.result c.index-row.result.now refl (omega (arith, order.1)) c.index-row.ensures in
    subst (λ (t : RowTable). IsOnNone t c.args.cell c.args.port c.args.index) is
    (none_at_place t c.args.cell c.args.port c.args.index c.place_of-place.result c.index-row.result.now c.self.invariant small cut within here (sym c.is_at.ensures ∙ c.if-is_at.false))

pub returns-else-place-index : goal.returns-else-place-index
returns-else-place-index c =
    let t : RowTable = record { rows = c.self.inside.rows.items; starts = c.self.inside.starts.items; ends = c.self.inside.ends.items } in
    let is : t ≡ c.args.self.now = c.self.view_is in
    let small : c.args.cell < length t.starts = subst (λ (t : RowTable). c.args.cell < length t.starts) (sym is) c.requires in
    let at_end = read_at t.ends c.args.cell c.index.result.now (omega (arith, c.self.invariant.many)) c.index.ensures in
    let past : end_in t c.args.cell ≤ c.place_of-place.result = omega arith in
    let cut : Cut t c.args.cell c.args.port c.args.index c.place_of-place.result =
    subst (λ (t : RowTable). Cut t c.args.cell c.args.port c.args.index c.place_of-place.result) (sym is) c.place_of-place.ensures in
    subst (λ (t : RowTable). IsOnNone t c.args.cell c.args.port c.args.index) is
    (none_at_end t c.args.cell c.args.port c.args.index c.place_of-place.result cut past)
