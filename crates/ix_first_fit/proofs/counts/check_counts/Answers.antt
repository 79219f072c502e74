use Rattle.std.proofs.Common.{◌≡◌, ◌≤◌, ap, sym, subst, ◌∙◌, IsSome, is_none, unwrap_or, arith}
use Rattle.std.proofs.lemmas.Option.{slice_get_within}
use Rattle.std.proofs.lemmas.Bool.{false≢true}
use Rattle.ix_keys.specs.Keys.{name_key, key_eq}
use Rattle.ix_first.specs.First.{value_at, or_later}
use Rattle.ix_first_fit.specs.Spots.{cells_of, count_bels}
use Rattle.ix_first_fit.proofs.Counting.{seen_step, not_none}
use Rattle.ix_first_fit.proofs.counts.check_counts.Goals as goal
use Rattle.ix_first_fit.proofs.counts.check_counts.Goals.{then-branch+in_ok-bels+else-bels-cells, else-branch}

pub loop-i-init : goal.loop-i-init
loop-i-init c = record { seen = λ q h. absurd (false≢true (subst IsSome (c.new-seen.ensures (name_key q)) h)); earlier = λ j d lt e. absurd (omega arith) }

pub loop-i-preserved : goal.loop-i-preserved
loop-i-preserved c =
    seen_step c.args.device.now c.args.cells.now c.loop-i.i c.at.result.now (λ q. value_at c.loop-i.seen (name_key q)) (λ q. value_at c.put.new.self (name_key q)) c.at.ensures c.loop-i.invariant
    (elim c.if-branch.branch [
      | then-branch+in_ok-bels+else-bels-cells w ↦
          let cells : w.unwrap_or-cells.result ≡ cells_of c.at.result.now.ty c.args.cells.now = w.unwrap_or-cells.ensures ∙ ap (λ o. unwrap_or o 0) w.get-then-branch.ensures ∙ c.in_ok-counts.ensures c.at.result.now.ty in
          let bels : w.in_ok-bels.bels ≡ count_bels c.args.device.now c.at.result.now.ty = w.in_ok-bels.ensures in
          let le : w.unwrap_or-cells.result ≤ w.in_ok-bels.bels = omega arith in omega arith
      | else-branch w ↦
          c.loop-i.invariant.seen c.at.result.now.ty (not_none (value_at c.loop-i.seen (name_key c.at.result.now.ty)) (ap (λ k. is_none (value_at c.loop-i.seen k)) (sym (c.of_name.ensures ∙ ap name_key c.get.ensures)) ∙ sym c.in_ok-put.ensures.new ∙ w.if-branch.false))
    ])
    (λ q. c.in_ok-put.ensures.values (name_key q) ∙ ap (λ k. or_later (value_at c.loop-i.seen (name_key q)) (key_eq k (name_key q)) tt) (c.of_name.ensures ∙ ap name_key c.get.ensures))

pub returns-clause-ok : goal.returns-clause-ok
returns-clause-ok c k d e = let lt = slice_get_within c.args.cells.now k d e in c.loop-i.invariant.earlier k d (omega arith) e
