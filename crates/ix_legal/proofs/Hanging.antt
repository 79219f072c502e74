-- Each net of a legal routed netlist is a tree, or one from each root.
use Rattle.std.proofs.Common.{◌≡◌, ◌<◌, ◌≤◌, ◌+◌, ◌∙◌, ap, refl, sym, subst, ℕ, zero, suc}
use Rattle.std.proofs.Common.{List, [], ◌∷◌, ◌++◌, length, arith, inl, inr}
use Rattle.std.specs.Prelude.{slice_get, Option, Some, None, option_map, option_and_then, IfSome}
use Rattle.std.specs.Prelude.{IsSome, is_some}
use Rattle.std.proofs.lemmas.Bool.{cases_order, cases_lt, false≢true}
use Rattle.std.proofs.lemmas.Option.{none-some, same_Some, slice_get-map, slice_get_within}
use Rattle.ix_num.specs.declared.resource.Res.{Res}
use Rattle.ix_rec.specs.declared.device.DeviceRec.{DeviceRec}
use Rattle.ix_rec.specs.declared.forest.Branch.{Branch}
use Rattle.ix_rec.specs.declared.phys.Phys.{Phys}
use Rattle.ix_rec.specs.declared.phys.PhysNet.{PhysNet}
use Rattle.ix_rec.specs.declared.phys.NetType.{NetType}
use Rattle.ix_rec.specs.declared.phys.NetType.TheVariants.{Signal, Gnd, Vcc}
use Rattle.ix_rec.specs.declared.phys.Segment.{Segment}
use Rattle.ix_rec.specs.Forest.{IsPreorder, depths}
use Rattle.ix_graph.specs.Ends.{ends}
use Rattle.ix_legal.specs.Segments.{SegmentNumber, segments, IsRoot}
use Rattle.ix_legal.specs.Segments.{IsParent, IsSourceRoot, segment_at, depth_at, in_end, out_end}
use Rattle.ix_legal.specs.Segments.{Enters}
use Rattle.ix_legal.specs.Names.{SegmentHasEnds}
use Rattle.ix_legal.specs.Trees.{HasSource, IsSource, LeavesParent, RootFits, EntersAlone}
use Rattle.ix_legal.specs.Sharing.{InSourceTree}
use Rattle.ix_legal.specs.Laws.{GoesOn, IsWay, Hangs, HasOneRoot, AreTrees}
use Rattle.ix_legal.proofs.Preorders.{above}

-- A way that goes on once more.
way_more : (rec : DeviceRec) (net : PhysNet) (from : SegmentNumber) (way : List SegmentNumber)
    (to next : SegmentNumber) → IsWay rec net from way to → GoesOn rec net to next
    → IsWay rec net from (way ++ next ∷ []) next
way_more rec net from [] to next leads on = (subst (λ k. GoesOn rec net k next) (sym leads) on, refl)
way_more rec net from (k ∷ way) to next leads on =
    (leads.0, way_more rec net k way to next leads.1 on)

-- a list whose place after all of another's is empty ends with the other
nothing_after : {A : Type 0} (xs ys : List A) → slice_get (xs ++ ys) (length xs) ≡ None → ys ≡ []
nothing_after [] [] h = refl
nothing_after [] (y ∷ ys) h = absurd (none-some y (sym h))
nothing_after (x ∷ xs) ys h = nothing_after xs ys h

append_nothing : {A : Type 0} (xs : List A) → xs ++ [] ≡ xs
append_nothing [] = refl
append_nothing (x ∷ xs) = ap (λ ys. x ∷ ys) (append_nothing xs)

stands : {A : Type 0} (xs : List A) (k : ℕ) → k < length xs → (x : A) × (slice_get xs k ≡ Some x)
stands [] k lt = absurd (omega (arith, lt))
stands (x ∷ xs) zero lt = (x, refl)
stands (x ∷ xs) (suc k) lt = stands xs k (omega (arith, lt))

-- What the rules ask of one net, all of whose trees are of sources.
pub record AreKept (rec : DeviceRec) (phys : Phys) (net : PhysNet) : Type 0 where
  pub preorder : IsPreorder net.sources
  pub has_ends : (k : SegmentNumber) → SegmentHasEnds rec net k
  pub joined : (k : SegmentNumber) → LeavesParent rec net k
  pub has_source : HasSource net.ty net
  pub rooted : (k : SegmentNumber) → RootFits rec phys net k
  pub apart : (k : SegmentNumber) → EntersAlone rec net k
  pub in_sources : (k : SegmentNumber) → InSourceTree net k

module _ (rec : DeviceRec) (phys : Phys) (net : PhysNet) (kept : AreKept rec phys net) where
  no_stubs : net.stubs ≡ []
  no_stubs = nothing_after net.sources net.stubs (by (slice_get (segments net) (length net.sources)) refl)
    where
      by : (o : Option (Branch Segment)) → slice_get (segments net) (length net.sources) ≡ o
          → slice_get (segments net) (length net.sources) ≡ None
      by None h = h
      by (Some b) h = let lt : length net.sources < length net.sources =
          subst (λ (o : Option (Branch Segment)). IfSome (option_map (λ b. b.item) o) (λ s. length net.sources < length net.sources)) h (kept.in_sources (length net.sources)) in absurd (omega (arith, lt))

  all_sources : segments net ≡ net.sources
  all_sources = ap (λ bs. net.sources ++ bs) no_stubs ∙ append_nothing net.sources

  -- the depths of a net's segments are those of its sources
  depth_is : (k : SegmentNumber) → depth_at net k ≡ slice_get (depths net.sources) k
  depth_is k = ap (λ bs. option_map (λ (b : Branch Segment). b.depth) (slice_get bs k)) all_sources
      ∙ sym (slice_get-map (λ (b : Branch Segment). b.depth) net.sources k)

  -- what has a depth is a segment
  there : (k d : ℕ) → depth_at net k ≡ Some d → (b : Branch Segment)
      × (slice_get (segments net) k ≡ Some b)
  there k d h = by (slice_get (segments net) k) refl
    where
      by : (o : Option (Branch Segment)) → slice_get (segments net) k ≡ o → (b : Branch Segment)
          × (slice_get (segments net) k ≡ Some b)
      by None is = absurd (none-some d (sym (ap (option_map (λ (b : Branch Segment). b.depth)) is) ∙ h))
      by (Some b) is = (b, is)

  in_sources : (k d : ℕ) → depth_at net k ≡ Some d → k < length net.sources
  in_sources k d h = let b = there k d h in
      slice_get_within net.sources k b.0 (ap (λ bs. slice_get bs k) (sym all_sources) ∙ b.1)

  is_source_root : (k : SegmentNumber) → IsRoot net k → IsSourceRoot net k
  is_source_root k h = (in_sources k 0 h, h)

  roots : (root : SegmentNumber) (s : Segment) → IsRoot net root → segment_at net root ≡ Some s
      → IsSource net.ty rec phys root s
  roots root s is at = (kept.rooted root).source s at (is_source_root root is)

  -- Every segment has an out-end and an in-end.
  with_ends : (k : SegmentNumber) (s : Segment) → segment_at net k ≡ Some s → (e : Res × Res)
      × (ends rec s ≡ Some e)
  with_ends k s at = by (ends rec s) refl
      (subst (λ o. IfSome o (λ s. IsSome (ends rec s))) at (kept.has_ends k))
    where
      by : (o : Option (Res × Res)) → ends rec s ≡ o → IsSome (ends rec s) → (e : Res × Res)
          × (ends rec s ≡ Some e)
      by None is some = absurd (false≢true (sym (ap is_some is) ∙ some))
      by (Some e) is some = (e, is)

  -- a parent goes on as its child
  goes_on : (parent k : SegmentNumber) → IsParent net parent k → GoesOn rec net parent k
  goes_on parent k is =
      let b = there parent is.depth is.parent_is in
      let at : segment_at net parent ≡ Some b.0.item = ap (option_map (λ (b : Branch Segment). b.item)) b.1 in
      let e = with_ends parent b.0.item at in
      let out : out_end rec net parent ≡ Some e.0.1 = ap (λ o. option_map (λ (e : Res × Res). e.1) (option_and_then (ends rec) o)) at
      ∙ ap (option_map (λ (e : Res × Res). e.1)) e.1 in
      record { is_parent = is; end = e.0.1; leaves = out; enters = kept.joined k parent is ∙ out }

  parent_of : (k d : ℕ) → depth_at net k ≡ Some (suc d) → (parent : SegmentNumber) × IsParent net parent k
  parent_of k d h =
      let up = above (depths net.sources) k (suc d) d kept.preorder (sym (depth_is k) ∙ h) (omega arith) in (
        up.0,
        record {
          depth = d;
          parent_is = depth_is up.0 ∙ up.1.is;
          child_is = h ∙ ap Some (omega arith);
          before = up.1.before;
          last = λ between other from to at. up.1.last between other from to (sym (depth_is between) ∙ at);
        },
      )

  -- by depth: a root hangs from itself, and a child where its parent does
  hangs_at : (d k : ℕ) → depth_at net k ≡ Some d → Hangs rec net k
  hangs_at zero k h = record { root = k; is_root = h; way = []; leads = refl }
  hangs_at (suc d) k h = by (parent_of k d h) (hangs_at d)
    where
      by : (p : (parent : SegmentNumber) × IsParent net parent k)
          → ((k : ℕ) → depth_at net k ≡ Some d → Hangs rec net k) → Hangs rec net k
      by p of_less =
          let up = of_less p.0 (p.1.parent_is ∙ ap Some (let e : Some (suc d) ≡ Some (p.1.depth + 1) = sym h ∙ p.1.child_is in let f = same_Some (suc d) (p.1.depth + 1) e in omega (arith, f))) in record {
            root = up.root;
            is_root = up.is_root;
            way = up.way ++ k ∷ [];
            leads = way_more rec net up.root up.way p.0 k up.leads (goes_on p.0 k p.1);
          }

  hangs : (k : SegmentNumber) → k < length (segments net) → Hangs rec net k
  hangs k lt = let b = stands (segments net) k lt in
      hangs_at b.0.depth k (ap (option_map (λ (b : Branch Segment). b.depth)) b.1)

  driver_is_first : (k : SegmentNumber) → net.ty ≡ Signal → IsRoot net k → k ≡ 0
  driver_is_first k is root =
      let b = there k 0 root in
      let source : IsSource Signal rec phys k b.0.item = subst (λ ty. IsSource ty rec phys k b.0.item)
      is (roots k b.0.item root (ap (option_map (λ (b : Branch Segment). b.item)) b.1)) in
      source.only

  one_root : (ty : NetType) → net.ty ≡ ty → HasOneRoot ty net
  one_root Signal is = λ k. (
    driver_is_first k is,
    λ first. subst (IsRoot net) (sym first) (subst (λ ty. HasSource ty net) is kept.has_source).1,
  )
  one_root Gnd is = tt
  one_root Vcc is = tt

  entered_once : (i j : SegmentNumber) (r : Res) → Enters rec net i r → Enters rec net j r → i ≡ j
  entered_once i j r a b = elim (cases_order i j) [
    | inl same ↦ same
    | inr (inl lt) ↦ absurd ((kept.apart j).once r i b lt a)
    | inr (inr lt) ↦ absurd ((kept.apart i).once r j a lt b)
  ]

  roots_not_entered : (root k : SegmentNumber) (r : Res) → IsRoot net root
      → in_end rec net root ≡ Some r → Enters rec net k r → ⊥
  roots_not_entered root k r is at enters = elim (cases_lt k root) [
    | inl before ↦ (kept.apart root).as_root r k (is_source_root root is) at before enters
    | inr after ↦ (kept.apart k).no_root r root enters after (is_source_root root is) at
  ]

  pub are_trees : AreTrees rec phys net
  are_trees = record {
    no_stubs = no_stubs;
    one_root = one_root net.ty refl;
    roots = roots;
    hangs = hangs;
    entered_once = entered_once;
    roots_not_entered = roots_not_entered;
  }
