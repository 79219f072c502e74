use Rattle.std.proofs.Common.{subst}
use Rattle.ix_joined.specs.Joining.{AreTopBits}
use Rattle.ix_join.proofs.Facts.{given_as, joinable_as, joined_as}
use Rattle.ix_join.proofs.joining.join_all.Goals as goal

pub first_occurrences-requires : goal.first_occurrences-requires
first_occurrences-requires c = (
  c.args.rec.now,
  c.requires.1,
  c.in_ok-all.ensures.all.0,
  joinable_as c.requires.0 c.requires.1 c.args.rec.now c.args.kinds.items c.deref-3.result.now
      c.args.own.now c.args.outer c.args.written.items c.in_ok-inner.inner.items
      c.deref-4.result.now c.in_ok-all.field-0.all.items c.deref-5.result.now
      c.in_ok-all.ensures.all.0 c.in_ok-all.field-0.nets c.requires.2 c.in_ok-inner.ensures
      c.in_ok-all.ensures.all.1 c.in_ok-all.ensures.few c.deref-3.ensures.value
      c.deref-4.ensures.value c.deref-5.ensures.value,
)

pub top_bits-requires : goal.top_bits-requires
top_bits-requires c = record {
  given = (
    c.requires.1,
    c.in_ok-all.field-0.all.items,
    c.in_ok-all.ensures.all.0,
    given_as c.requires.0 c.requires.1 c.args.rec.now c.args.kinds.items c.deref-6.result.now
        c.args.own.now c.args.outer c.args.written.items c.in_ok-all.field-0.all.items
        c.deref-5.result.now c.in_ok-all.ensures.all.0 c.in_ok-all.field-0.nets
        c.in_ok-firsts.firsts.items c.deref-7.result.now c.requires.2 c.in_ok-all.ensures.all.1
        (c.numbers_are_order.ensures c.args.rec.now c.in_ok-all.field-0.all.items
        c.in_ok-all.ensures.all.0 c.in_ok-all.field-0.nets c.in_ok-all.ensures.all.1)
        c.in_ok-firsts.ensures.many
        (c.in_ok-firsts.ensures.firsts c.args.rec.now c.requires.1 c.in_ok-all.ensures.all.0
        (joinable_as c.requires.0 c.requires.1 c.args.rec.now c.args.kinds.items
        c.deref-3.result.now c.args.own.now c.args.outer c.args.written.items
        c.in_ok-inner.inner.items c.deref-4.result.now c.in_ok-all.field-0.all.items
        c.deref-5.result.now c.in_ok-all.ensures.all.0 c.in_ok-all.field-0.nets c.requires.2
        c.in_ok-inner.ensures c.in_ok-all.ensures.all.1 c.in_ok-all.ensures.few
        c.deref-3.ensures.value c.deref-4.ensures.value c.deref-5.ensures.value))
        c.deref-6.ensures.value c.deref-5.ensures.value c.deref-7.ensures.value,
  );
}

pub returns : goal.returns
returns c = λ names device asked.
    let firsts : _ = c.in_ok-firsts.ensures.firsts c.args.rec.now device c.in_ok-all.ensures.all.0
    (joinable_as names device c.args.rec.now c.args.kinds.items
    c.deref-3.result.now c.args.own.now c.args.outer c.args.written.items
    c.in_ok-inner.inner.items c.deref-4.result.now c.in_ok-all.field-0.all.items
    c.deref-5.result.now c.in_ok-all.ensures.all.0 c.in_ok-all.field-0.nets asked
    c.in_ok-inner.ensures c.in_ok-all.ensures.all.1 c.in_ok-all.ensures.few
    c.deref-3.ensures.value c.deref-4.ensures.value c.deref-5.ensures.value) in
    let numbered : _ = c.numbers_are_order.ensures c.args.rec.now c.in_ok-all.field-0.all.items
    c.in_ok-all.ensures.all.0 c.in_ok-all.field-0.nets c.in_ok-all.ensures.all.1 in (
      c.in_ok-all.ensures.all.0,
      joined_as names device c.args.rec.now _ c.args.own.now c.deref-5.result.now
          c.in_ok-all.ensures.all.0 c.in_ok-all.field-0.nets asked c.in_ok-all.ensures.all.1
          numbered
          c.in_ok-all.ensures.few c.in_ok-firsts.ensures.many firsts c.deref-5.ensures.value,
      subst (λ l. AreTopBits c.args.rec.now c.in_ok-all.field-0.all.items
          c.in_ok-all.ensures.all.0 l c.in_ok-bits.bits.items) c.deref-7.ensures.value
          (c.in_ok-bits.ensures device c.in_ok-all.field-0.all.items c.in_ok-all.ensures.all.0
          (given_as names device c.args.rec.now c.args.kinds.items c.deref-6.result.now
          c.args.own.now c.args.outer c.args.written.items c.in_ok-all.field-0.all.items
          c.deref-5.result.now c.in_ok-all.ensures.all.0 c.in_ok-all.field-0.nets
          c.in_ok-firsts.firsts.items c.deref-7.result.now asked c.in_ok-all.ensures.all.1 numbered
          c.in_ok-firsts.ensures.many firsts c.deref-6.ensures.value c.deref-5.ensures.value
          c.deref-7.ensures.value)),
    )
