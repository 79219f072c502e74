use Rattle.std.proofs.Common.{◌<◌, ◌∙◌, ap, sym, subst, arith, length, slice_get, Some}
use Rattle.std.specs.Prelude.{slice_range}
use Rattle.ix_ends.proofs.Laying.{places_in, in_order, within, row_read}
use Rattle.ix_ends.proofs.ends.Ends.row.Goals as goal

pub index-start-requires : goal.index-start-requires
index-start-requires c =
    let there = subst (λ s. c.args.net < length s.rows) (sym c.self.view_is) c.requires in
    let places = places_in c.self.inside.starts.items c.self.inside.pairs.items c.args.net there in
    omega (arith, c.self.inside.starts.ok.0)

pub index-end-requires : goal.index-end-requires
index-end-requires c =
    let there = subst (λ s. c.args.net < length s.rows) (sym c.self.view_is) c.requires in
    let places = places_in c.self.inside.starts.items c.self.inside.pairs.items c.args.net there in
    omega (arith, c.self.inside.starts.ok.0)

pub between-requires : goal.between-requires
between-requires c =
    let there = subst (λ s. c.args.net < length s.rows) (sym c.self.view_is) c.requires in
    let same = ap length c.as_slice.ensures.value in
    let end = within c.self.inside.starts.items c.self.inside.pairs.items c.args.net there
    c.index-start.result.now c.index-end.result.now c.index-start.ensures c.index-end.ensures
    c.self.invariant.starts_are in
    record {
      order = in_order c.self.inside.starts.items c.self.inside.pairs.items c.args.net there
          c.index-start.result.now c.index-end.result.now c.index-start.ensures c.index-end.ensures
          c.self.invariant.starts_are;
      within = omega (arith, end, same);
    }

pub returns : goal.returns
returns c =
    let there = subst (λ s. c.args.net < length s.rows) (sym c.self.view_is) c.requires in
    ap (λ s. slice_get s.rows c.args.net) (sym c.self.view_is)
    ∙ row_read c.self.inside.starts.items c.self.inside.pairs.items c.args.net there
    c.index-start.result.now c.index-end.result.now c.index-start.ensures c.index-end.ensures
    ∙ ap (λ xs. Some (slice_range xs c.index-start.result.now c.index-end.result.now))
    (sym c.as_slice.ensures.value)
    ∙ ap Some (sym c.between.ensures)
