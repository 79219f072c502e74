-- What the rules ask of the small netlists.
use Rattle.std.proofs.Common.{◌≡◌, ◌<◌, ◌∙◌, ap, refl, sym, subst, ℕ, zero, suc}
use Rattle.std.proofs.Common.{[], ◌∷◌, length, take, arith, inl, inr, Bool, true, false}
use Rattle.std.specs.Prelude.{Option, Some, None, IfSome, IsSome, is_some, option_map}
use Rattle.std.specs.Prelude.{option_and_then}
use Rattle.std.proofs.lemmas.Bool.{true≢false}
use Rattle.std.proofs.lemmas.Option.{none-some, same_Some}
use Rattle.ix_num.specs.declared.resource.Res.{Res}
use Rattle.ix_num.specs.declared.resource.Res.TheVariants.{Node, Wire}
use Rattle.ix_rec.specs.declared.device.LutCell.{LutCell}
use Rattle.ix_rec.specs.declared.phys.PhysNet.{PhysNet}
use Rattle.ix_rec.specs.declared.phys.NetType.TheVariants.{Signal}
use Rattle.ix_rec.specs.declared.phys.Segment.{Segment}
use Rattle.ix_device.specs.Lookups.{sites_from}
use Rattle.ix_device.specs.Admission.{pins_in}
use Rattle.ix_graph.specs.Ends.{ends}
use Rattle.ix_graph.specs.Graph.{graph_of}
use Rattle.ix_graph.specs.Nodes.{wires_from, entries, nodes, nodes_from, wires_of_node}
use Rattle.ix_graph.specs.Constants.{constant_of_node}
use Rattle.ix_legal.specs.declared.level.Level.{Level}
use Rattle.ix_legal.specs.Sites.{pins_at, lut_cell_of}
use Rattle.ix_legal.specs.Segments.{segment_at, in_end, in_end_of, out_end, entered, entered_by}
use Rattle.ix_legal.specs.Segments.{IsEnd, IsParent, IsSourceRoot, IsStubRoot}
use Rattle.ix_legal.specs.Holders.{constant_of, constant_of_net, nets_of_type}
use Rattle.ix_legal.specs.Spots.{InstanceAt, PlacementAt, NetAt, SegmentAt}
use Rattle.ix_legal.specs.Spots.{ElementAt, Everywhere}
use Rattle.ix_legal.specs.Names.{IsNamed, NetIsAlone}
use Rattle.ix_legal.specs.Placements.{IsPlaced, MapsPins}
use Rattle.ix_legal.specs.Trees.{IsJoined, IsRooted, IsApart, IsDriver, IsSource, IsFromNode}
use Rattle.ix_legal.specs.Trees.{HasSource, LeavesParent, EntersAlone}
use Rattle.ix_legal.specs.Sharing.{IsUnshared, IsInUse, IsRouted, SharesNothing, SiteInUse}
use Rattle.ix_legal.specs.LutTables.{IsTabled}
use Rattle.ix_legal.specs.Legal.{IsSound, Legal}
use Rattle.ix_legal.specs.Small.{names, device, driver, leaves, enters, sink, first_cell}
use Rattle.ix_legal.specs.Small.{with_net}

driver_ends : ends device driver ≡ Some (Wire 0 0, Wire 0 0)
unfolding ends sites_from
driver_ends = refl

leaves_ends : ends device leaves ≡ Some (Wire 0 0, Node 0)
unfolding ends sites_from graph_of nodes_from nodes entries wires_from
leaves_ends = refl

pub enters_ends : ends device enters ≡ Some (Node 0, Wire 1 0)
unfolding ends sites_from graph_of nodes_from nodes entries wires_from
enters_ends = refl

sink_ends : ends device sink ≡ Some (Wire 1 0, Wire 1 0)
unfolding ends sites_from
sink_ends = refl

no_constant : constant_of_node device 0 ≡ None
unfolding wires_of_node nodes entries wires_from
no_constant = refl

driver_pins : pins_at device 11 6 2 ≡ Some ((3, 0) ∷ [])
unfolding pins_in sites_from
driver_pins = refl

sink_pins : pins_at device 12 7 4 ≡ Some ((5, 0) ∷ [])
unfolding pins_in sites_from
sink_pins = refl

-- The four segments by number, their ends, and what they enter.

abbrev pub chain : ℕ → Option Segment
chain zero = Some driver
chain (suc zero) = Some leaves
chain (suc (suc zero)) = Some enters
chain (suc (suc (suc zero))) = Some sink
chain (suc (suc (suc (suc k)))) = None

abbrev begins : ℕ → Option Res
begins zero = Some (Wire 0 0)
begins (suc zero) = Some (Wire 0 0)
begins (suc (suc zero)) = Some (Node 0)
begins (suc (suc (suc zero))) = Some (Wire 1 0)
begins (suc (suc (suc (suc k)))) = None

abbrev goes_to : ℕ → Option Res
goes_to zero = Some (Wire 0 0)
goes_to (suc zero) = Some (Node 0)
goes_to (suc (suc zero)) = Some (Wire 1 0)
goes_to (suc (suc (suc zero))) = Some (Wire 1 0)
goes_to (suc (suc (suc (suc k)))) = None

abbrev meets : ℕ → Option Res
meets zero = None
meets (suc zero) = Some (Node 0)
meets (suc (suc zero)) = Some (Wire 1 0)
meets (suc (suc (suc k))) = None

begins_is : (k : ℕ) → option_and_then (in_end_of device) (chain k) ≡ begins k
begins_is zero = ap (option_map (λ (e : Res × Res). e.0)) driver_ends
begins_is (suc zero) = ap (option_map (λ (e : Res × Res). e.0)) leaves_ends
begins_is (suc (suc zero)) = ap (option_map (λ (e : Res × Res). e.0)) enters_ends
begins_is (suc (suc (suc zero))) = ap (option_map (λ (e : Res × Res). e.0)) sink_ends
begins_is (suc (suc (suc (suc k)))) = refl

goes_is : (k : ℕ) → option_map (λ e. e.1) (option_and_then (ends device) (chain k)) ≡ goes_to k
goes_is zero = ap (option_map (λ (e : Res × Res). e.1)) driver_ends
goes_is (suc zero) = ap (option_map (λ (e : Res × Res). e.1)) leaves_ends
goes_is (suc (suc zero)) = ap (option_map (λ (e : Res × Res). e.1)) enters_ends
goes_is (suc (suc (suc zero))) = ap (option_map (λ (e : Res × Res). e.1)) sink_ends
goes_is (suc (suc (suc (suc k)))) = refl

meets_is : (k : ℕ) → option_and_then (λ s. entered_by s.kind (goes_to k)) (chain k) ≡ meets k
meets_is zero = refl
meets_is (suc zero) = refl
meets_is (suc (suc zero)) = refl
meets_is (suc (suc (suc zero))) = refl
meets_is (suc (suc (suc (suc k)))) = refl

-- each segment but the first begins where the one before it ends
joined : (k : ℕ) → k < 3 → begins (suc k) ≡ goes_to k
joined zero lt = refl
joined (suc zero) lt = refl
joined (suc (suc zero)) lt = refl
joined (suc (suc (suc k))) lt = absurd (omega (arith, lt))

-- no end is a node of a constant
begins_free : (k : ℕ) (r : Res) → begins k ≡ Some r → constant_of device r ≡ None
begins_free zero r h = subst (λ t. constant_of device t ≡ None) (same_Some (Wire 0 0) r h) refl
begins_free (suc zero) r h = subst (λ t. constant_of device t ≡ None) (same_Some (Wire 0 0) r h) refl
begins_free (suc (suc zero)) r h =
    subst (λ t. constant_of device t ≡ None) (same_Some (Node 0) r h) no_constant
begins_free (suc (suc (suc zero))) r h =
    subst (λ t. constant_of device t ≡ None) (same_Some (Wire 1 0) r h) refl
begins_free (suc (suc (suc (suc k)))) r h = absurd (none-some r h)

goes_free : (k : ℕ) (r : Res) → goes_to k ≡ Some r → constant_of device r ≡ None
goes_free zero r h = subst (λ t. constant_of device t ≡ None) (same_Some (Wire 0 0) r h) refl
goes_free (suc zero) r h =
    subst (λ t. constant_of device t ≡ None) (same_Some (Node 0) r h) no_constant
goes_free (suc (suc zero)) r h = subst (λ t. constant_of device t ≡ None) (same_Some (Wire 1 0) r h) refl
goes_free (suc (suc (suc zero))) r h =
    subst (λ t. constant_of device t ≡ None) (same_Some (Wire 1 0) r h) refl
goes_free (suc (suc (suc (suc k)))) r h = absurd (none-some r h)

-- what is entered tells by which segment, and isn't the first wire
abbrev place : Res → ℕ
place (Node n) = 1
place (Wire site wire) = 2

meets_once : (k : ℕ) (r : Res) → meets k ≡ Some r → place r ≡ k
meets_once zero r h = absurd (none-some r h)
meets_once (suc zero) r h = ap place (sym (same_Some (Node 0) r h))
meets_once (suc (suc zero)) r h = ap place (sym (same_Some (Wire 1 0) r h))
meets_once (suc (suc (suc k))) r h = absurd (none-some r h)

abbrev is_first : Res → Bool
is_first (Node n) = false
is_first (Wire zero wire) = true
is_first (Wire (suc site) wire) = false

meets_later : (k : ℕ) (r : Res) → meets k ≡ Some r → is_first r ≡ false
meets_later zero r h = absurd (none-some r h)
meets_later (suc zero) r h = ap is_first (sym (same_Some (Node 0) r h))
meets_later (suc (suc zero)) r h = ap is_first (sym (same_Some (Wire 1 0) r h))
meets_later (suc (suc (suc k))) r h = absurd (none-some r h)

-- each has ends, and its site an instance
have_ends : (k : ℕ) → IfSome (chain k) (λ s. IsSome (ends device s))
have_ends zero = ap is_some driver_ends
have_ends (suc zero) = ap is_some leaves_ends
have_ends (suc (suc zero)) = ap is_some enters_ends
have_ends (suc (suc (suc zero))) = ap is_some sink_ends
have_ends (suc (suc (suc (suc k)))) = tt

in_use : (net : PhysNet) (k : ℕ)
    → IfSome (chain k) (λ s. SiteInUse s.kind (with_net net) s)
in_use net zero = refl
in_use net (suc zero) = refl
in_use net (suc (suc zero)) = refl
in_use net (suc (suc (suc zero))) = refl
in_use net (suc (suc (suc (suc k)))) = tt

-- What both nets have: these segments, one root of a source, and parents that stand before their
-- children.
pub record IsChain (net : PhysNet) : Type 0 where
  pub signal : net.ty ≡ Signal
  pub segments : (k : ℕ) → segment_at net k ≡ chain k
  pub has_source : IsSourceRoot net 0
  pub only_root : (k : ℕ) → IsSourceRoot net k → k ≡ 0
  pub stub_root : (k : ℕ) (s : Segment) → segment_at net k ≡ Some s → IsStubRoot net k
      → IsFromNode device s
  pub parents : (parent k : ℕ) → IsParent net parent k → (k ≡ suc parent) × (parent < 3)

module _ (net : PhysNet) (is : IsChain net) where
  in_is : (k : ℕ) → in_end device net k ≡ begins k
  in_is k = ap (option_and_then (in_end_of device)) (is.segments k) ∙ begins_is k

  out_is : (k : ℕ) → out_end device net k ≡ goes_to k
  out_is k = ap (λ o. option_map (λ (e : Res × Res). e.1) (option_and_then (ends device) o))
      (is.segments k) ∙ goes_is k

  entered_is : (k : ℕ) → entered device net k ≡ meets k
  entered_is k =
      ap (λ o. option_and_then (λ (s : Segment). entered_by s.kind o) (segment_at net k)) (out_is k)
      ∙ (ap (option_and_then (λ (s : Segment). entered_by s.kind (goes_to k))) (is.segments k)
      ∙ meets_is k)

  named : Everywhere (IsNamed names device (with_net net))
  unfolding sites_from
  named (InstanceAt zero) = record { site = refl; site_type = refl }
  named (InstanceAt (suc zero)) = record { site = refl; site_type = refl }
  named (PlacementAt zero) =
      record { cell_type = refl; site = refl; bel = refl; pins = (refl, tt) }
  named (PlacementAt (suc zero)) =
      record { cell_type = refl; site = refl; bel = refl; pins = (refl, tt) }
  named (NetAt zero) = subst (λ ty. NetIsAlone ty net.name (nets_of_type ty (take 0 (net ∷ []))))
      (sym is.signal) refl
  named (SegmentAt zero k) =
      subst (λ o. IfSome o (λ s. IsSome (ends device s))) (sym (is.segments k)) (have_ends k)
  named spot = tt

  fits : Everywhere (IsPlaced device (with_net net))
  unfolding sites_from
  fits (InstanceAt zero) = record { alone = refl; own_type = refl }
  fits (InstanceAt (suc zero)) = record { alone = refl; own_type = refl }
  fits (PlacementAt zero) = record {
    cell_alone = refl;
    bel_alone = refl;
    admits = ap is_some driver_pins;
    in_use = refl;
  }
  fits (PlacementAt (suc zero)) = record {
    cell_alone = refl;
    bel_alone = refl;
    admits = ap is_some sink_pins;
    in_use = refl;
  }
  fits spot = tt

  maps : Everywhere (MapsPins device (with_net net))
  unfolding sites_from
  maps (PlacementAt zero) = record {
    own_bel = (refl, tt);
    pins = (
      record {
        pins = (3, 0) ∷ [];
        pins_are = driver_pins;
        pin = 0;
        pin_is = refl;
        listed = (0, omega arith, refl);
      },
      tt,
    );
  }
  maps (PlacementAt (suc zero)) = record {
    own_bel = (refl, tt);
    pins = (
      record {
        pins = (5, 0) ∷ [];
        pins_are = sink_pins;
        pin = 0;
        pin_is = refl;
        listed = (0, omega arith, refl);
      },
      tt,
    );
  }
  maps spot = tt

  leaves_parent : (k : ℕ) → LeavesParent device net k
  leaves_parent k parent of = let h = is.parents parent k of in
      subst (λ j. in_end device net j ≡ out_end device net parent) (sym h.0)
      (in_is (suc parent) ∙ (joined parent h.1 ∙ sym (out_is parent)))

  all_joined : Everywhere (IsJoined device (with_net net))
  all_joined (SegmentAt zero k) = leaves_parent k
  all_joined (NetAt zero) = tt
  all_joined spot = tt

  is_driver : (k : ℕ) (s : Segment) → segment_at net k ≡ Some s → k ≡ 0
      → IsDriver device (with_net net) k s
  unfolding sites_from
  is_driver k s at first = subst (λ t. IsDriver device (with_net net) k t)
      (same_Some driver s (sym (is.segments k ∙ ap chain first) ∙ at)) record {
        only = first;
        is_bel_pin = refl;
        output = refl;
        mapped = record {
          placement = first_cell;
          placed = (0, omega arith, refl);
          site_is = refl;
          entry = record { cell_pin = 3; bel = 2; bel_pin = 3 };
          maps = (0, omega arith, refl);
          bel_is = refl;
          pin_is = refl;
        };
      }

  rooted : Everywhere (IsRooted device (with_net net))
  rooted (NetAt zero) = subst (λ ty. HasSource ty net) (sym is.signal) is.has_source
  rooted (SegmentAt zero k) = record {
    source = λ s at root. subst (λ ty. IsSource ty device (with_net net) k s) (sym is.signal)
        (is_driver k s at (is.only_root k root));
    stub = is.stub_root k;
  }
  rooted spot = tt

  enters_alone : (k : ℕ) → EntersAlone device net k
  enters_alone k = record {
    once = λ r earlier here lt there.
        let one : place r ≡ k = meets_once k r (sym (entered_is k) ∙ here) in
        let other : place r ≡ earlier = meets_once earlier r (sym (entered_is earlier) ∙ there) in
        omega (arith, lt, one, other);
    no_root = λ r root here le of at.
        let first : begins 0 ≡ Some r = sym (in_is root ∙ ap begins (is.only_root root of)) ∙ at in
        true≢false (ap is_first (same_Some (Wire 0 0) r first)
        ∙ meets_later k r (sym (entered_is k) ∙ here));
    as_root = λ r earlier of at lt there. let first : k ≡ 0 = is.only_root k of in
        omega (arith, lt, first);
    no_constant = λ r c here of at. none-some c (sym (ap constant_of_net is.signal) ∙ of);
  }

  apart : Everywhere (IsApart device (with_net net))
  apart (SegmentAt zero k) = enters_alone k
  apart (NetAt zero) = tt
  apart spot = tt

  -- the net is the first, and no end of it is a node of a constant
  free : (k : ℕ) (r : Res) → IsEnd device net k r → constant_of device r ≡ None
  free k r (inl at) = begins_free k r (sym (in_is k) ∙ at)
  free k r (inr at) = goes_free k r (sym (out_is k) ∙ at)

  shares_nothing : (level : Level) (k : ℕ) → SharesNothing level device (with_net net) 0 net k
  shares_nothing level k = record {
    of_one_net = λ r earlier other end counts lt is. absurd (omega (arith, lt));
    own_constant = λ r c end counts of. absurd (none-some c (sym (free k r end) ∙ of));
  }

  pub unshared : (level : Level) → Everywhere (IsUnshared level device (with_net net))
  unshared level (SegmentAt zero k) = shares_nothing level k
  unshared level (NetAt zero) = tt
  unshared level spot = tt

  used : Everywhere (IsInUse (with_net net))
  used (SegmentAt zero k) = subst (λ o. IfSome o (λ s. SiteInUse s.kind (with_net net) s))
      (sym (is.segments k)) (in_use net k)
  used (NetAt zero) = tt
  used spot = tt

  no_lut : (cell_type : ℕ) (lut : LutCell) → lut_cell_of device cell_type ≡ Some lut → ⊥
  no_lut cell_type lut h = none-some lut h

  tabled : Everywhere (IsTabled names device (with_net net))
  tabled (ElementAt zero element) =
      λ place placement lut has. absurd (no_lut placement.ty lut has.lut_is)
  tabled (ElementAt (suc zero) element) =
      λ place placement lut has. absurd (no_lut placement.ty lut has.lut_is)
  tabled spot = tt

  pub legal : (level : Level) → IsSound names (with_net net)
      → Everywhere (IsRouted level (with_net net)) → Legal level names device (with_net net)
  legal level sound no_stubs = record {
    sound = sound;
    l1 = named;
    l2 = fits;
    l3 = maps;
    l4 = all_joined;
    l5 = rooted;
    l6 = apart;
    l7 = unshared level;
    l8 = used;
    l9 = tabled;
    l10 = no_stubs;
  }
