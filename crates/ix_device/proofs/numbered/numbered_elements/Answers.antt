use Rattle.std.proofs.Common.{◌≡◌, ◌∙◌, ap, ◌+◌, arith, length, option_map, slice_get, take, Some}
use Rattle.std.proofs.Math.Seq.{take-length}
use Rattle.ix_device_rules.specs.Rules.{elements_for}
use Rattle.ix_device.specs.Counts.{count_at}
use Rattle.ix_device.proofs.PlaceLemmas.{one_more_count}
use Rattle.ix_device.proofs.numbered.numbered_elements.Goals as goal

pub loop-i-preserved : goal.loop-i-preserved
loop-i-preserved c = (
  c.in_ok-put_entry.ensures,
  one_more_count c.args.entries.now c.loop-i.i c.at-entry.result.now c.at-entry.ensures c.in_ok-next.next (count_at c.loop-i.counts) (count_at c.set.new.self) c.loop-i.invariant.1
      (c.in_ok-next.ensures ∙ ap (λ n. n + c.in_ok-number_of.field-0) c.get-first.ensures ∙ ap (λ n. count_at c.loop-i.counts c.at-entry.result.now.site + n) (c.in_ok-number_of.ensures ∙ c.len.ensures))
      c.in_ok-set.ensures,
)

pub returns : goal.returns
returns c =
    let end : c.loop-i.i ≡ length c.args.entries.now = omega (arith, c.loop-i-test.false, c.loop-i.auto.i-end, c.len-i-end.ensures) in
    let whole : take c.loop-i.i c.args.entries.now ≡ c.args.entries.now = ap (λ n. take n c.args.entries.now) end ∙ take-length c.args.entries.now in
    record {
      places = λ ty k. c.loop-i.invariant.0 ty k ∙ ap (λ es. option_map Some (slice_get (elements_for ty es) k)) whole;
      counts = λ ty. c.loop-i.invariant.1 ty ∙ ap (λ es. length (elements_for ty es)) whole;
    }
