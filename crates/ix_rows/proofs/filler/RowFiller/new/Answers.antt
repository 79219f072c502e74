use Rattle.std.proofs.Common.{◌≡◌, ◌<◌, ◌^◌, length, take, sym, arith, subst}
use Rattle.std.proofs.lemmas.Grind.{common_steps}
use Rattle.ix_rows.specs.Layout.{AreStarts, AreEnds, AreStartsFor}
use Rattle.ix_rows.specs.Rows.{size_of, room_in}
use Rattle.ix_rows.proofs.Starting.{size_between, AreStarts-from_sizes, AreEnds-of_empty}
use Rattle.ix_rows.proofs.filler.RowFiller.new.Goals as goal

pub invariant_of-result : goal.invariant_of-result
invariant_of-result g c =
    let sizes = c.args.sizes in
    let starts = c.in_ok-starts.starts.items in
    let starts_are : AreStartsFor sizes.sizes.items starts = rw c.deref.ensures.value at c.in_ok-starts.ensures in
    let n : sizes.total ≡ length c.resize.new.self.items = grind (arith, common_steps) in
    let few : sizes.total < 2 ^ 32 = omega arith in
    let ends : c.copy_from_slice.new.self.items ≡ take (length sizes.sizes.items) starts = grind (arith, common_steps) in
    record {
      starts_rise = subst (AreStarts starts) n (AreStarts-from_sizes sizes.sizes.items starts starts_are sizes.total sizes.counted few);
      ends_within = subst (AreEnds starts) (sym ends) (AreEnds-of_empty sizes.sizes.items starts starts_are);
    }

pub returns-clause-room : goal.returns-clause-room
unfolding size_of room_in
returns-clause-room g c =
    let sizes = c.args.sizes.sizes.items in
    let starts = c.in_ok-starts.starts.items in
    let starts_are : AreStartsFor sizes starts = rw c.deref.ensures.value at c.in_ok-starts.ensures in
    size_between sizes starts starts_are
