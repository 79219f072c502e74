-- The inputs of all LUT cells.
use Rattle.std.proofs.Common.{◌≡◌, ◌<◌, ◌≤◌, ◌+◌, ap, sym, subst, ◌∙◌, ℕ, List, slice_get, Some}
use Rattle.std.proofs.Common.{arith, length, inl, inr, [], ◌∷◌}
use Rattle.std.proofs.lemmas.Bool.{cases_lt}
use Rattle.std.proofs.lemmas.Option.{same_Some, slice_get_within}
use Rattle.ix_message.specs.Shape.{Text}
use Rattle.ix_rec.specs.declared.netlist.NetlistRec.{NetlistRec}
use Rattle.ix_rec.specs.declared.place.Rule.TheVariants.{N7}
use Rattle.ix_hierarchy.specs.Hierarchy.{flat_name}
use Rattle.ix_hierarchy.specs.Walk.{InstanceAt, IsBefore, NetAt, PinAt, Spot, TopBit}
use Rattle.ix_hierarchy.specs.FlatDesign.{LeafCell}
use Rattle.ix_hierarchy.specs.Broken.{BreaksN7At, Keeps6, NoneBreaks}
use Rattle.ix_asked.specs.declared.fault.DesignFault.{DesignFault}
use Rattle.ix_asked.specs.Faults.{IsDesignFault}
use Rattle.ix_joined.specs.Joining.{Known}
use Rattle.ix_flat_lists.specs.Listed.{AreLeaves}
use Rattle.ix_flat_laws.specs.Laws.{AreJoined}
use Rattle.ix_flat_rules.specs.Opens.{AreAllJoined, IsFirstOpenOf, IsInputText}
use Rattle.ix_flat_rules.specs.Told.{IsToldAs}
use Rattle.ix_flat_rules.proofs.Finds.{name_is}
use Rattle.ix_flat_rules.proofs.Orders.{pins_apart, pins_within}
use Rattle.ix_flat_rules.proofs.Telling.{told_fault}

-- those of the first so many leaves are joined
abbrev pub AreJoinedTo : Known → NetlistRec → List LeafCell → (count : ℕ) → Type 0
AreJoinedTo known design cells count = (k : ℕ) (leaf : LeafCell) → k < count
    → slice_get cells k ≡ Some leaf → AreAllJoined known.names known.device design leaf.path

pub joined_next : (known : Known) (design : NetlistRec) (cells : List LeafCell) (count : ℕ)
    (leaf : LeafCell) → AreJoinedTo known design cells count → slice_get cells count ≡ Some leaf
    → AreAllJoined known.names known.device design leaf.path
    → AreJoinedTo known design cells (count + 1)
joined_next known design cells count leaf before at all = λ k other less there.
    elim (cases_lt k count) [
      | inl lt ↦ before k other lt there
      | inr le ↦
          let same : count ≡ k = omega arith in
          let leaves : leaf ≡ other = same_Some leaf other (sym at ∙ ap (slice_get cells) same
          ∙ there) in
          subst (λ (l : LeafCell). AreAllJoined known.names known.device design l.path) leaves all
    ]

pub joined_all : (known : Known) (design : NetlistRec) (leaves : List ℕ) (cells : List LeafCell)
    (count : ℕ) → AreLeaves known design leaves cells → length leaves ≤ count
    → AreJoinedTo known design cells count → AreJoined known.names known.device design
joined_all known design leaves cells count are whole to =
    λ path inst ty input pin text plain of_type named.
    let found = are.are.all path inst ty plain in
    let many : length leaves ≡ length cells = are.many in
    let less : found.0 < length cells = slice_get_within cells found.0 _ found.1 in
    to found.0 record { path = path; inst = inst; ty = ty } (omega arith) found.1 inst ty input pin
    text plain of_type named

-- then N7 is kept
pub keeps_all : (known : Known) (design : NetlistRec) → AreJoined known.names known.device design
    → NoneBreaks (λ s. (text : Text) × BreaksN7At known.names known.device design s text)
keeps_all known design all (PinAt path place index) broken =
    let missing = broken.1.1 in
    missing.not_joined (all path missing.inst missing.ty broken.1.0 missing.pin broken.0
    missing.leaf missing.of_type missing.named)
keeps_all known design all (TopBit place index) broken = broken.1
keeps_all known design all (NetAt path net) broken = broken.1
keeps_all known design all (InstanceAt path) broken = broken.1

-- no place before the first open input of a leaf, where those before the leaf are joined
none_before : (known : Known) (design : NetlistRec) (leaves : List ℕ) (cells : List LeafCell)
    (k : ℕ) (leaf : LeafCell) (name : ℕ) → AreLeaves known design leaves cells
    → AreJoinedTo known design cells k → slice_get cells k ≡ Some leaf
    → (first : IsFirstOpenOf known.names known.device design leaf.path name) → (other : Spot)
    → IsBefore other (PinAt leaf.path first.place first.index)
    → ((text : Text) × BreaksN7At known.names known.device design other text) → ⊥
none_before known design leaves cells k leaf name are to at first (PinAt path place index) before
    broken =
    let missing = broken.1.1 in
    let found = are.are.all path missing.inst missing.ty missing.leaf in
    let there : LeafCell = record { path = path; inst = missing.inst; ty = missing.ty } in
    elim (cases_lt found.0 k) [
      | inl less ↦ missing.not_joined (to found.0 there less found.1 missing.inst missing.ty
          broken.1.0 missing.pin broken.0 missing.leaf missing.of_type missing.named)
      | inr le ↦ elim (cases_lt k found.0) [
        | inl more ↦ pins_apart leaf.path path first.place first.index place index
            (are.are.rise k found.0 leaf there more at found.1) before
        | inr ge ↦
            let same : found.0 ≡ k = omega arith in
            let leaves_same : there ≡ leaf = same_Some there leaf (sym found.1
            ∙ ap (slice_get cells) same ∙ at) in
            let paths : path ≡ leaf.path = ap (λ (l : LeafCell). l.path) leaves_same in
            first.first place index broken.0
            (subst (λ p. BreaksN7At known.names known.device design (PinAt p place index) broken.0)
            paths broken.1)
            (pins_within leaf.path place index first.place first.index
            (subst (λ p. IsBefore (PinAt p place index) (PinAt leaf.path first.place first.index))
            paths before))
      ]
    ]
none_before known design leaves cells k leaf name are to at first (TopBit place index) before broken
    = broken.1
none_before known design leaves cells k leaf name are to at first (NetAt path net) before broken =
    broken.1
none_before known design leaves cells k leaf name are to at first (InstanceAt path) before broken =
    broken.1

-- what is told of it is the fault
pub input_told : (known : Known) (design : NetlistRec) (leaves : List ℕ) (cells : List LeafCell)
    (k : ℕ) (leaf : LeafCell) (name : ℕ) (fault : DesignFault)
    → Keeps6 known.names known.device design → AreLeaves known design leaves cells
    → AreJoinedTo known design cells k → slice_get cells k ≡ Some leaf
    → IsFirstOpenOf known.names known.device design leaf.path name
    → IsToldAs N7 (IsInputText known.names design leaf.path name) fault
    → IsDesignFault known.names known.device design fault
input_told known design leaves cells k leaf name fault keeps are to at first =
    told_fault known.names known.device design N7
    (IsInputText known.names design leaf.path name) fault
    (λ word is. (
      keeps,
      record {
        path = leaf.path;
        place = first.place;
        index = first.index;
        first = record {
          here = (first.text, first.here);
          first = none_before known design leaves cells k leaf name are to at first;
        };
        text = first.text;
        here = first.here;
        word_is = is ∙ ap (λ t. flat_name known.names design leaf.path (t ∷ []))
            (name_is known.names name first.text first.named);
      },
    ))
