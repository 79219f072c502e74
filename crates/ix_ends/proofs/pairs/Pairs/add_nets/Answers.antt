use Rattle.std.proofs.Common.{◌≡◌, ◌<◌, ◌+◌, ◌++◌, ◌∷◌, ◌∙◌, [], ap, sym, subst, refl, slice_get}
use Rattle.std.proofs.Common.{get_or}
use Rattle.std.proofs.Common.{Some, List, ℕ, length}
use Rattle.std.proofs.lemmas.Option.{slice_get_read}
use Rattle.ix_rec.specs.declared.phys.PhysNet.{PhysNet}
use Rattle.ix_legal.specs.Segments.{segments}
use Rattle.ix_ends.specs.Pairs.{StopsAt}
use Rattle.ix_ends.proofs.Filling.{IsFilling, filling_start, filling_more, filling_stops}
use Rattle.ix_ends.proofs.pairs.Pairs.add_nets.Goals as goal

net_at : (nets all : List PhysNet) (n : ℕ) (net : PhysNet) → nets ≡ all → n < length nets
    → net ≡ get_or nets n net → slice_get all n ≡ Some net
net_at nets all n net same lt read =
    ap (λ (xs : List PhysNet). slice_get xs n) (sym same)
    ∙ slice_get_read nets (length nets) n net refl lt read

pub loop-n-init : goal.loop-n-init
loop-n-init c =
    subst (IsFilling c.args.device.now c.args.phys.now 0 c.args.self.now c.args.self.now)
    (sym (c.in_ok-push.ensures.items ∙ ap (λ (xs : List ℕ). xs ++ 0 ∷ [])
    c.in_ok-starts.ensures.items))
    (filling_start c.args.device.now c.args.phys.now c.args.self.now c.requires.numbers)

pub returns-in-Err-NoEnds-clause-refused : goal.returns-in-Err-NoEnds-clause-refused
returns-in-Err-NoEnds-clause-refused c =
    rw c.in-Err-NoEnds.field-0-is
    (filling_stops c.args.device.now c.args.phys.now c.loop-n.n c.index-nets-n.result
    c.in-Err-NoEnds.k c.args.self.now c.loop-n.self c.loop-n.starts.items
    (net_at c.as_slice-nets.result.now c.args.phys.now.nets c.loop-n.n c.index-nets-n.result
    c.as_slice-nets.ensures c.loop-n-test.true c.index-nets-n.is)
    c.loop-n.invariant
    (subst (StopsAt c.args.device.now (segments c.index-nets-n.result)) c.in-Err-NoEnds.field-0-is
    c.in-Err-NoEnds.ensures.stopped))

pub loop-n-preserved : goal.loop-n-preserved
loop-n-preserved c =
    subst (IsFilling c.args.device.now c.args.phys.now (c.loop-n.n + 1) c.args.self.now
    c.add_net.new.self)
    (sym c.in_ok-push-2.ensures.items)
    (filling_more c.args.device.now c.args.phys.now c.loop-n.n c.index-nets-n.result
    c.args.self.now c.loop-n.self c.add_net.new.self c.loop-n.starts.items c.len.result
    (net_at c.as_slice-nets.result.now c.args.phys.now.nets c.loop-n.n c.index-nets-n.result
    c.as_slice-nets.ensures c.loop-n-test.true c.index-nets-n.is)
    c.requires.none c.loop-n.invariant c.in-Ok.ensures.added
    (c.len.ensures ∙ c.add_net.new.self.pairs.ok.0))
