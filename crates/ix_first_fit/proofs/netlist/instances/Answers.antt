use Rattle.std.proofs.Common.{ap, sym, ◌∙◌, ◌<◌, is_none, length, map, take}
use Rattle.ix_keys.specs.Keys.{name_key, key_eq}
use Rattle.ix_first.specs.First.{value_at, or_later}
use Rattle.ix_device.specs.Lookups.{sites_of}
use Rattle.ix_first_fit.specs.Netlist.{used_sites, instance_told}
use Rattle.ix_first_fit.proofs.Walks.{at_place}
use Rattle.ix_first_fit.proofs.Counting.{not_none}
use Rattle.ix_first_fit.proofs.Netlists.{used_init, used_step, new_site, old_site, not_there}
use Rattle.ix_first_fit.proofs.netlist.instances.Goals as goal
use Rattle.ix_first_fit.proofs.netlist.instances.Goals.{then-branch+in_ok-push, else-branch}

pub loop-i-init : goal.loop-i-init
loop-i-init c = used_init c.args.device.now c.args.spots.now (λ q. value_at c.new-used.result (name_key q)) c.new-all.result (λ q. c.new-used.ensures (name_key q)) c.new-all.ensures

pub instance-requires : goal.instance-requires
instance-requires c = at_place (λ p. p.site < length (sites_of c.args.device.now)) c.args.spots.now c.loop-i.i c.at.result.now c.requires c.at.ensures

pub loop-i-preserved : goal.loop-i-preserved
loop-i-preserved c =
    let site = c.at.result.now.site in
    let sites = used_sites (take c.loop-i.i c.args.spots.now) in
    let named = c.of_name.ensures ∙ ap name_key c.get.ensures in
    let told = ap (λ k. is_none (value_at c.loop-i.used k)) (sym named) ∙ sym c.in_ok-put.ensures.new in
    used_step c.args.device.now c.args.spots.now c.loop-i.i (λ q. value_at c.loop-i.used (name_key q)) (λ q. value_at c.put.new.self (name_key q)) c.loop-i.all c.if-branch.all c.at.result.now c.at.ensures c.loop-i.invariant
    (λ q. c.in_ok-put.ensures.values (name_key q) ∙ ap (λ k. or_later (value_at c.loop-i.used (name_key q)) (key_eq k (name_key q)) tt) named)
    (elim c.if-branch.branch [
      | then-branch+in_ok-push w ↦
          ap (map instance_told) (w.all-is ∙ w.in_ok-push.ensures.ok)
          ∙ new_site c.args.device.now sites site c.loop-i.all w.instance.result (sym (c.loop-i.invariant.used site) ∙ not_there (value_at c.loop-i.used (name_key site)) (told ∙ w.if-branch.true)) c.loop-i.invariant.told w.instance.ensures
      | else-branch w ↦
          ap (map instance_told) w.all-is ∙ old_site c.args.device.now sites site c.loop-i.all (sym (c.loop-i.invariant.used site) ∙ not_none (value_at c.loop-i.used (name_key site)) (told ∙ w.if-branch.false)) c.loop-i.invariant.told
    ])
