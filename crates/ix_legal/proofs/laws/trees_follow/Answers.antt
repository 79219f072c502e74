use Rattle.ix_rec.specs.Forest.{IsPreorder}
use Rattle.ix_rec.specs.declared.phys.PhysNet.{PhysNet}
use Rattle.ix_legal.specs.Spots.{NetAt, SegmentAt}
use Rattle.ix_legal.specs.Names.{SegmentHasEnds}
use Rattle.ix_legal.specs.Trees.{HasSource, LeavesParent, RootFits, EntersAlone}
use Rattle.ix_legal.specs.Sharing.{InSourceTree}
use Rattle.ix_legal.proofs.Holding.{asked_of}
use Rattle.ix_legal.proofs.Preorders.{all_at}
use Rattle.ix_legal.proofs.Hanging.{are_trees}
use Rattle.ix_legal.proofs.laws.trees_follow.Goals as goal

pub returns : goal.returns
returns c = record {
  law = λ names rec phys legal n net is. are_trees rec phys net record {
    preorder = (all_at (λ (t : PhysNet). IsPreorder t.sources × IsPreorder t.stubs) phys.nets n net
        legal.sound.preorder is).0;
    has_ends = λ k. asked_of phys.nets n (λ t. SegmentHasEnds rec t k) net is
        (legal.l1 (SegmentAt n k));
    joined = λ k. asked_of phys.nets n (λ t. LeavesParent rec t k) net is
        (legal.l4 (SegmentAt n k));
    has_source = asked_of phys.nets n (λ t. HasSource t.ty t) net is (legal.l5 (NetAt n));
    rooted = λ k. asked_of phys.nets n (λ t. RootFits rec phys t k) net is
        (legal.l5 (SegmentAt n k));
    apart = λ k. asked_of phys.nets n (λ t. EntersAlone rec t k) net is
        (legal.l6 (SegmentAt n k));
    in_sources = λ k. asked_of phys.nets n (λ t. InSourceTree t k) net is
        (legal.l10 (SegmentAt n k));
  };
}
