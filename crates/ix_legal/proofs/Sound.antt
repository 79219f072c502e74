-- The small netlists are such as rules are asked of.
use Rattle.std.proofs.Common.{◌≡◌, ◌<◌, ◌∙◌, ap, refl, sym, subst, ℕ, zero, suc, arith, List, [], ◌∷◌}
use Rattle.std.proofs.Common.{codes}
use Rattle.std.specs.Prelude.{slice_get, Some, length}
use Rattle.std.specs.List.{All, AllByRecursion, position_or_len}
use Rattle.std.specs.Str.{bytes_eq}
use Rattle.std.proofs.lemmas.List.Elements.{All-from_recursion}
use Rattle.std.proofs.lemmas.Option.{none-some, same_Some}
use Rattle.ix_message.specs.Shape.{Text}
use Rattle.ix_strings.specs.Names.{AllDiffer}
use Rattle.ix_rec.specs.Forest.{IsPreorder}
use Rattle.ix_rec.specs.declared.forest.Branch.{Branch}
use Rattle.ix_rec.specs.declared.phys.PhysNet.{PhysNet}
use Rattle.ix_rec.specs.declared.phys.Segment.{Segment}
use Rattle.ix_rec.specs.declared.phys.CellPlacement.{CellPlacement}
use Rattle.ix_rec.specs.declared.phys.PinMapping.{PinMapping}
use Rattle.ix_rec.specs.declared.phys.Property.{Property}
use Rattle.ix_rec.specs.declared.phys.SiteInstance.{SiteInstance}
use Rattle.ix_phys_write.specs.Record.{IsPlacementNamed, IsMappingNamed, IsInstanceNamed}
use Rattle.ix_phys_write.specs.Record.{IsPropertyNamed, IsSegmentNamed, IsNetNamed}
use Rattle.ix_legal.specs.Legal.{IsSound, IsShort}
use Rattle.ix_legal.specs.Small.{names, driver, leaves, enters, sink, first_cell, second_cell}
use Rattle.ix_legal.specs.Small.{routed, placed, with_net}

-- a text of the names tells its number
numbered : (i : ℕ) (t : Text) → slice_get names i ≡ Some t
    → position_or_len (bytes_eq t) names ≡ i
numbered zero t h = subst (λ x. position_or_len (bytes_eq x) names ≡ 0) (same_Some (codes "SRC") t h) refl
numbered (suc zero) t h = subst (λ x. position_or_len (bytes_eq x) names ≡ 1) (same_Some (codes "SNK") t h) refl
numbered (suc (suc zero)) t h = subst (λ x. position_or_len (bytes_eq x) names ≡ 2) (same_Some (codes "OB") t h) refl
numbered (suc (suc (suc zero))) t h = subst (λ x. position_or_len (bytes_eq x) names ≡ 3) (same_Some (codes "O") t h) refl
numbered (suc (suc (suc (suc zero)))) t h = subst (λ x. position_or_len (bytes_eq x) names ≡ 4) (same_Some (codes "IB") t h) refl
numbered (suc (suc (suc (suc (suc zero))))) t h = subst (λ x. position_or_len (bytes_eq x) names ≡ 5) (same_Some (codes "I") t h) refl
numbered (suc (suc (suc (suc (suc (suc zero)))))) t h = subst (λ x. position_or_len (bytes_eq x) names ≡ 6) (same_Some (codes "s0") t h) refl
numbered (suc (suc (suc (suc (suc (suc (suc zero))))))) t h = subst (λ x. position_or_len (bytes_eq x) names ≡ 7) (same_Some (codes "t0") t h) refl
numbered (suc (suc (suc (suc (suc (suc (suc (suc zero)))))))) t h = subst (λ x. position_or_len (bytes_eq x) names ≡ 8) (same_Some (codes "M0") t h) refl
numbered (suc (suc (suc (suc (suc (suc (suc (suc (suc zero))))))))) t h = subst (λ x. position_or_len (bytes_eq x) names ≡ 9) (same_Some (codes "S0") t h) refl
numbered (suc (suc (suc (suc (suc (suc (suc (suc (suc (suc zero)))))))))) t h = subst (λ x. position_or_len (bytes_eq x) names ≡ 10) (same_Some (codes "T0") t h) refl
numbered (suc (suc (suc (suc (suc (suc (suc (suc (suc (suc (suc zero))))))))))) t h = subst (λ x. position_or_len (bytes_eq x) names ≡ 11) (same_Some (codes "DRV") t h) refl
numbered (suc (suc (suc (suc (suc (suc (suc (suc (suc (suc (suc (suc zero)))))))))))) t h = subst (λ x. position_or_len (bytes_eq x) names ≡ 12) (same_Some (codes "LOAD") t h) refl
numbered (suc (suc (suc (suc (suc (suc (suc (suc (suc (suc (suc (suc (suc zero))))))))))))) t h = subst (λ x. position_or_len (bytes_eq x) names ≡ 13) (same_Some (codes "d0") t h) refl
numbered (suc (suc (suc (suc (suc (suc (suc (suc (suc (suc (suc (suc (suc (suc zero)))))))))))))) t h = subst (λ x. position_or_len (bytes_eq x) names ≡ 14) (same_Some (codes "e0") t h) refl
numbered (suc (suc (suc (suc (suc (suc (suc (suc (suc (suc (suc (suc (suc (suc (suc zero))))))))))))))) t h = subst (λ x. position_or_len (bytes_eq x) names ≡ 15) (same_Some (codes "n0") t h) refl
numbered (suc (suc (suc (suc (suc (suc (suc (suc (suc (suc (suc (suc (suc (suc (suc (suc k)))))))))))))))) t h = absurd (none-some t h)

names_differ : AllDiffer names
names_differ i j t at_i at_j = sym (numbered i t at_i) ∙ numbered j t at_j

abbrev at_depth : ℕ → Segment → Branch Segment
at_depth depth s = record { depth = depth; item = s }

segment_named : (depth : ℕ) (s : Segment) → s.first < 16 → s.second < 16 → s.third < 16
    → IsSegmentNamed names (at_depth depth s)
segment_named depth s first second third = record { first = first; second = second; third = third }

all_named : {A : Type 0} (P : A → Type 0) (xs : List A) → AllByRecursion P xs → All P xs
all_named P xs each = All-from_recursion P xs each

sound : (net : PhysNet) → IsNetNamed names net
    → AllByRecursion (λ (n : PhysNet). IsPreorder n.sources × IsPreorder n.stubs) (net ∷ [])
    → IsShort net.sources × IsShort net.stubs → IsSound names (with_net net)
sound net named preorder short = record {
  small = record {
    placements = omega arith;
    nets = omega arith;
    site_insts = omega arith;
    properties = omega arith;
    segments = (short, tt);
  };
  differ = names_differ;
  named = record {
    part = omega arith;
    placements = all_named (IsPlacementNamed names) (first_cell ∷ second_cell ∷ []) (
      record {
        cell_name = omega arith;
        ty = omega arith;
        site = omega arith;
        bel = omega arith;
        pin_map = all_named (IsMappingNamed names) first_cell.pin_map
            (record { cell_pin = omega arith; bel = omega arith; bel_pin = omega arith }, tt);
      },
      (
        record {
          cell_name = omega arith;
          ty = omega arith;
          site = omega arith;
          bel = omega arith;
          pin_map = all_named (IsMappingNamed names) second_cell.pin_map
              (record { cell_pin = omega arith; bel = omega arith; bel_pin = omega arith }, tt);
        },
        tt,
      ),
    );
    nets = all_named (IsNetNamed names) (net ∷ []) (named, tt);
    site_insts = all_named (IsInstanceNamed names) (with_net net).site_insts (
      record { site = omega arith; ty = omega arith },
      (record { site = omega arith; ty = omega arith }, tt),
    );
    properties = all_named (IsPropertyNamed names) [] tt;
  };
  preorder = preorder;
}

pub routed_is_sound : IsSound names (with_net routed)
routed_is_sound = sound routed record {
  name = omega arith;
  sources = all_named (IsSegmentNamed names) routed.sources (
    segment_named 0 driver (omega arith) (omega arith) (omega arith),
    (
      segment_named 1 leaves (omega arith) (omega arith) (omega arith),
      (
        segment_named 2 enters (omega arith) (omega arith) (omega arith),
        (segment_named 3 sink (omega arith) (omega arith) (omega arith), tt),
      ),
    ),
  );
  stubs = all_named (IsSegmentNamed names) [] tt;
} (((omega arith, (omega arith, (omega arith, (omega arith, tt)))), tt), tt) (omega arith, omega arith)

pub placed_is_sound : IsSound names (with_net placed)
placed_is_sound = sound placed record {
  name = omega arith;
  sources = all_named (IsSegmentNamed names) placed.sources (
    segment_named 0 driver (omega arith) (omega arith) (omega arith),
    (segment_named 1 leaves (omega arith) (omega arith) (omega arith), tt),
  );
  stubs = all_named (IsSegmentNamed names) placed.stubs (
    segment_named 0 enters (omega arith) (omega arith) (omega arith),
    (segment_named 1 sink (omega arith) (omega arith) (omega arith), tt),
  );
} (((omega arith, (omega arith, tt)), (omega arith, (omega arith, tt))), tt) (omega arith, omega arith)
