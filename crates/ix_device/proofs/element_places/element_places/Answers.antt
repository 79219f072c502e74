use Rattle.std.proofs.Common.{◌∙◌, ap, ◌+◌}
use Rattle.ix_device.specs.Counts.{count_at}
use Rattle.ix_device.proofs.PlaceLemmas.{one_more_count}
use Rattle.ix_device.proofs.element_places.element_places.Goals as goal

pub loop-i-preserved : goal.loop-i-preserved
loop-i-preserved c = (
  c.in_ok-put_entry.ensures,
  one_more_count c.args.entries.now c.loop-i.i c.at-entry.result.now c.at-entry.ensures c.in_ok-next.next (count_at c.loop-i.counts) (count_at c.set.new.self) c.loop-i.invariant.1
      (c.in_ok-next.ensures ∙ ap (λ n. n + c.in_ok-number_of.field-0) c.get-first.ensures ∙ ap (λ n. count_at c.loop-i.counts c.at-entry.result.now.site + n) (c.in_ok-number_of.ensures ∙ c.len.ensures))
      c.in_ok-set.ensures,
)
