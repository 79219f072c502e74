-- What was met of nets.
use Rattle.std.specs.Prelude.{◌≡◌, ◌||◌, ℕ, List, length, Bool, true, not, nat_eq}
use Rattle.std.specs.List.{list_any}
use Rattle.ix_num.specs.Numbers.{NameNumber}
use Rattle.ix_rec.specs.declared.phys.PhysNet.{PhysNet}
use Rattle.ix_rec.specs.declared.phys.NetType.{NetType}
use Rattle.ix_rec.specs.declared.phys.NetType.TheVariants.{Signal, Gnd, Vcc}
use Rattle.ix_legal.specs.Holders.{is_of_type, nets_of_type}
use Rattle.ix_walk.specs.Marks.{has_mark, AreNamesOf}
use Rattle.ix_named_there.specs.declared.nets.Met.{Met}
use Rattle.ix_named_there.specs.Parts.{name_of}

-- of these nets
pub record AreMet (nets : List PhysNet) (room : ℕ) (met : Met) : Type 0 where
  pub signals : AreNamesOf name_of (nets_of_type Signal nets) met.signals
  pub gnd : met.gnd ≡ list_any (λ net. is_of_type Gnd net.ty) nets
  pub vcc : met.vcc ≡ list_any (λ net. is_of_type Vcc net.ty) nets
  pub many : length met.signals ≡ room

-- one net is met, and was alone or not
abbrev pub Meets : NetType → Met → Met → NameNumber → Bool → Type 0
Meets Signal before after name alone = (alone ≡ not (has_mark before.signals name))
    × ((other : NameNumber)
    → has_mark after.signals other ≡ (nat_eq other name || has_mark before.signals other))
    × (length after.signals ≡ length before.signals)
    × (after.gnd ≡ before.gnd) × (after.vcc ≡ before.vcc)
Meets Gnd before after name alone = (alone ≡ not before.gnd) × (after.gnd ≡ true)
    × (after.vcc ≡ before.vcc) × (after.signals ≡ before.signals)
Meets Vcc before after name alone = (alone ≡ not before.vcc) × (after.vcc ≡ true)
    × (after.gnd ≡ before.gnd) × (after.signals ≡ before.signals)

abbrev pub MeetsNext : Met → Met → PhysNet → Bool → Type 0
MeetsNext before after net alone = Meets net.ty before after net.name alone
