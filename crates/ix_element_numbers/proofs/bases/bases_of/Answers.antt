use Rattle.std.proofs.Common.{◌≡◌, ◌<◌, ◌^◌, ◌+◌, subst, sym, arith, rules, length}
use Rattle.ix_element_numbers.specs.Numbers.{AreBases}
use Rattle.ix_element_numbers.proofs.Based.{no_bases, one_more_base}
use Rattle.ix_element_numbers.proofs.bases.bases_of.Goals as goal

pub loop-i-init : goal.loop-i-init
loop-i-init c = subst (λ xs. AreBases c.args.device.now c.args.instances.now 0 xs 0)
    (sym c.new-bases.ensures.items) (no_bases c.args.device.now c.args.instances.now)

pub overflow_add-count : goal.overflow_add-count
overflow_add-count c =
    let under = c.loop-i.invariant.few in
    let more = c.element_count.type_inv in
    let few = c.requires.few in
    let within : c.loop-i.i < length c.args.instances.now = omega (arith, c.loop-i-test.true) in
    let fits : c.loop-i.count + c.element_count.result < 2 ^ 64
    = omega (arith, under, more, few, within) in search rules

pub loop-i-preserved : goal.loop-i-preserved
loop-i-preserved c = one_more_base c.args.device.now c.args.instances.now c.loop-i.i
    c.loop-i.bases.items c.loop-i.count c.loop-i.invariant c.push.new.self.items
    c.in_ok-push.ensures.items c.at.result.now c.at.ensures c.element_count.result
    c.element_count.ensures c.element_count.type_inv

pub returns : goal.returns
returns c = subst (λ n. AreBases c.args.device.now c.args.instances.now n c.loop-i.bases.items
    c.loop-i.count)
    (let end : c.loop-i.i ≡ length c.args.instances.now = omega arith in end) c.loop-i.invariant
