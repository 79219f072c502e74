use Rattle.std.proofs.Common.{◌≡◌, ap, sym, subst, ◌∙◌, IsSome, is_none, arith}
use Rattle.std.proofs.lemmas.Option.{slice_get_within}
use Rattle.std.proofs.lemmas.Bool.{false≢true}
use Rattle.ix_keys.specs.Keys.{name_key, key_eq}
use Rattle.ix_first.specs.First.{value_at, or_later}
use Rattle.ix_belmap.specs.Counts.{cells_of_type, bels_of_device}
use Rattle.ix_belmap.proofs.Counting.{seen_step, not_none}
use Rattle.ix_belmap.proofs.counts.first_short.Goals as goal
use Rattle.ix_belmap.proofs.counts.first_short.Goals.{then-branch+else-bels-cells, else-branch}

pub loop-i-init : goal.loop-i-init
loop-i-init c = record {
  seen = λ q h. absurd
      (false≢true (subst IsSome (c.new-seen.ensures (name_key q)) h));
  earlier =
      λ j d lt e. absurd (omega arith);
}

pub loop-i-preserved : goal.loop-i-preserved
loop-i-preserved c =
    seen_step c.args.device.now c.args.flat.now.cells c.loop-i.i c.at.result.now
    (λ q. value_at c.loop-i.seen (name_key q))
    (λ q. value_at c.put.new.self (name_key q)) c.at.ensures c.loop-i.invariant
    (elim c.if-branch.branch [
      | then-branch+else-bels-cells w ↦
          let cells : w.get-cells.result ≡ cells_of_type c.at.result.now.ty c.args.flat.now.cells =
          w.get-cells.ensures ∙ c.in_ok-counts.ensures c.at.result.now.ty in
          let bels : w.bels_of_device-bels.result ≡ bels_of_device c.args.device.now
          c.at.result.now.ty = w.bels_of_device-bels.ensures in
          omega arith
      | else-branch w ↦
          c.loop-i.invariant.seen c.at.result.now.ty
          (not_none (value_at c.loop-i.seen (name_key c.at.result.now.ty))
          (ap (λ k. is_none (value_at c.loop-i.seen k))
          (sym (c.of_name.ensures ∙ ap name_key c.get.ensures)) ∙ sym c.in_ok-put.ensures.new
          ∙ w.if-branch.false))
    ])
    (λ q. c.in_ok-put.ensures.values (name_key q)
    ∙ ap (λ k. or_later (value_at c.loop-i.seen (name_key q)) (key_eq k (name_key q)) tt)
    (c.of_name.ensures ∙ ap name_key c.get.ensures))

pub returns : goal.returns
returns c k d e = let lt = slice_get_within c.args.flat.now.cells k d e in
    c.loop-i.invariant.earlier k d (omega arith) e
