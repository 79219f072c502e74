-- The first pin of a leaf, by its declaration's ports.
use Rattle.std.proofs.Common.{◌≡◌, ◌<◌, ◌≤◌, ◌+◌, ◌∙◌, ℕ, List, [], length, Contains}
use Rattle.std.proofs.Common.{Option, Some, None, slice_get, get_or, sym, ap, subst, refl, inl, inr}
use Rattle.std.proofs.Common.{arith}
use Rattle.std.specs.Prelude.{option_map, unwrap_or, MatchOption}
use Rattle.std.proofs.lemmas.Bool.{cases_lt}
use Rattle.std.proofs.lemmas.Option.{same_Some, none-some, slice_get_within, slice_get-get_or}
use Rattle.std.proofs.lemmas.Option.{slice_get_read}
use Rattle.ix_rec.specs.declared.netlist.CellDeclaration.{CellDeclaration}
use Rattle.ix_rec.specs.declared.netlist.CellInstance.{CellInstance}
use Rattle.ix_rec.specs.declared.netlist.NetlistRec.{NetlistRec}
use Rattle.ix_hierarchy.specs.declared.instance.Instance.{Instance}
use Rattle.ix_hierarchy.specs.Hierarchy.{Path, instance_at, reached, ports_of}
use Rattle.ix_hierarchy.specs.Fits.{NetlistFits, InstanceFits, DeclarationFits}
use Rattle.ix_hierarchy.specs.Nets.{Occurrence}
use Rattle.ix_hierarchy.specs.Broken.{IsInoutOn}
use Rattle.ix_hierarchy.specs.Walk.{PinAt}
use Rattle.ix_hierarchy.specs.Lists.{IsOf}
use Rattle.ix_joined.specs.declared.joined.Joined.{Joined}
use Rattle.ix_joined.specs.Joining.{Known}
use Rattle.ix_inout.specs.Leaf.{IsAtLeaf, IsInoutPin, HasInout, NoneOfPort, IsFirstOfPort}
use Rattle.ix_inout.specs.Leaf.{IsFirstOfLeaf}
use Rattle.ix_inout.proofs.Parts.{gets_at, all_at}
use Rattle.ix_inout.proofs.Reached.{instance_below, child_at, inside_there}
use Rattle.ix_inout.proofs.Ports.{port_there}

at_top : (design : NetlistRec) → instance_at design [] ≡ Some design.top_inst
unfolding reached
at_top design = refl

is_at : (design : NetlistRec) (paths : List Path) (path : Path) (one : Instance)
    → IsOf design paths path one
    → (inst : CellInstance) × (instance_at design path ≡ Some inst)
    × (inst.cell ≡ one.declaration)
is_at design paths path one (inl w) =
    (design.top_inst, ap (instance_at design) w.0 ∙ at_top design, sym w.4)
is_at design paths path one
    (inr (parent, cell, inst, at, below, in_cell, number, in_list, declared)) =
    let up = inside_there design parent cell in_cell in (
      inst,
      ap (instance_at design) below ∙ instance_below design parent one.place up.0 up.1
          ∙ child_at design up.0 cell one.place one.number inst up.2 number in_list,
      declared,
    )

is_few : (names : ℕ) (design : NetlistRec) (paths : List Path) (path : Path) (one : Instance)
    → NetlistFits names design → IsOf design paths path one
    → one.declaration < length design.cell_decls
is_few names design paths path one F (inl w) =
    let h : design.top_inst.cell < length design.cell_decls = F.top.cell in
    let e = w.4 in
    omega arith
is_few names design paths path one F
    (inr (parent, cell, inst, at, below, in_cell, number, in_list, declared)) =
    let I : InstanceFits names design inst =
    all_at (InstanceFits names design) design.inst_list one.number inst F.insts in_list in
    let h : inst.cell < length design.cell_decls = I.cell in
    omega arith

-- the declaration of a leaf, by its number
pub record IsDeclared (design : NetlistRec) (inst : CellInstance) (one : Instance) : Type 0 where
  pub of_it : inst.cell ≡ one.declaration
  pub declared : CellDeclaration
  pub declared_is : slice_get design.cell_decls one.declaration ≡ Some declared
  pub ports_are : ports_of design inst.cell ≡ declared.ports
  pub few : (k number : ℕ) → slice_get declared.ports k ≡ Some number
      → number < length design.port_list

pub declared : (known : Known) (design : NetlistRec) (joined : Joined) (instance : ℕ)
    (path : Path) (one : Instance) → (A : IsAtLeaf known design joined instance path)
    → slice_get joined.instances.items instance ≡ Some one → IsDeclared design A.inst one
declared known design joined instance path one A is =
    let J = A.is_joined in
    let of = J.are_instances.each instance path one A.path_is is in
    let at = is_at design known.paths path one of in
    let same : at.0 ≡ A.inst = same_Some at.0 A.inst (sym at.1 ∙ A.leaf.is) in
    let e : A.inst.cell ≡ one.declaration =
    ap (λ (i : CellInstance). i.cell) (sym same) ∙ at.2 in
    let d = gets_at design.cell_decls one.declaration
    (is_few (length known.names) design known.paths path one J.fits of) in
    let D : DeclarationFits (length known.names) design d.0 =
    all_at (DeclarationFits (length known.names) design) design.cell_decls one.declaration d.0
    J.fits.declarations d.1 in
    record {
      of_it = e;
      declared = d.0;
      declared_is = d.1;
      ports_are = ap (ports_of design) e
          ∙ ap (λ (o : Option CellDeclaration). unwrap_or (option_map (λ x. x.ports) o) []) d.1;
      few = λ k number h. all_at (λ port. port < length design.port_list) d.0.ports k number
          D.ports h;
    }

-- an inout pin on a net by the walk
pub on_pin : (design : NetlistRec) (path : Path) (p i : ℕ) (at : Occurrence)
    → (I : IsInoutOn design (PinAt path p i) at) → IsInoutPin design path I.0
on_pin design path p i at (bit, port, L, inout, on) = record {
  port = port;
  port_is = L.port_is;
  inout = inout;
  at = on.where_at;
  on = on.on;
}

-- none in the ports before a place
abbrev pub NoneBeforePort : NetlistRec → Path → (ports : List ℕ) → (place : ℕ) → Type 0
NoneBeforePort design path ports place = (k number : ℕ) → k < place
    → slice_get ports k ≡ Some number → NoneOfPort design path number

pub none_port_more : (design : NetlistRec) (path : Path) (ports : List ℕ) (place number : ℕ)
    → NoneBeforePort design path ports place → slice_get ports place ≡ Some number
    → NoneOfPort design path number → NoneBeforePort design path ports (place + 1)
none_port_more design path ports place number none is here = λ k n few h.
    elim (cases_lt k place) [
      | inl before ↦ none k n before h
      | inr last ↦
          let e : k ≡ place = omega arith in
          let s : number ≡ n = same_Some number n (sym is ∙ ap (slice_get ports) (sym e) ∙ h) in
          subst (λ (x : ℕ). NoneOfPort design path x) s here
    ]

pub leaf_none : (known : Known) (design : NetlistRec) (joined : Joined) (instance : ℕ)
    (path : Path) (one : Instance) (place : ℕ)
    → (A : IsAtLeaf known design joined instance path) → (D : IsDeclared design A.inst one)
    → NoneBeforePort design path D.declared.ports place → length D.declared.ports ≤ place
    → HasInout design path → ⊥
leaf_none known design joined instance path one place A D none past (bit, I) =
    let there = port_there (length known.names) design path bit I.at A.is_joined.fits I.on in
    let same : I.on.inst ≡ A.inst =
    same_Some I.on.inst A.inst (sym I.on.leaf.is ∙ A.leaf.is) in
    let has : Contains D.declared.ports bit.port =
    subst (λ (l : List ℕ). Contains l bit.port)
    (ap (λ (i : CellInstance). ports_of design i.cell) same ∙ D.ports_are) there.1 in
    let few = has.1 in
    let is : slice_get D.declared.ports has.0 ≡ Some bit.port =
    slice_get-get_or D.declared.ports has.0 bit.port has.1 ∙ ap Some has.2 in
    none has.0 bit.port (omega arith) is bit refl I

pub leaf_first : (known : Known) (design : NetlistRec) (joined : Joined) (instance : ℕ)
    (path : Path) (one : Instance) (place number net : ℕ)
    → (A : IsAtLeaf known design joined instance path) → (D : IsDeclared design A.inst one)
    → NoneBeforePort design path D.declared.ports place
    → slice_get D.declared.ports place ≡ Some number
    → IsFirstOfPort known design joined path number net
    → IsFirstOfLeaf known design joined path net
leaf_first known design joined instance path one place number net A D none is F = record {
  place = place;
  bit = F.bit;
  port = F.pin.port;
  leaf_pin = record {
    inst = A.inst;
    ty = D.declared.name;
    leaf = record {
      leaf = A.leaf;
      type_is = ap (λ (n : ℕ). option_map (λ (d : CellDeclaration). d.name)
          (slice_get design.cell_decls n)) D.of_it
          ∙ ap (option_map (λ (d : CellDeclaration). d.name)) D.declared_is;
    };
    which = ap (λ (l : List ℕ). slice_get l place) D.ports_are ∙ is ∙ ap Some (sym F.of_port);
    port_is = F.pin.port_is;
    index_is = refl;
  };
  inout = F.pin.inout;
  first = λ p i at I.
      let L = I.2 in
      let same : L.inst ≡ A.inst = same_Some L.inst A.inst (sym L.leaf.leaf.is ∙ A.leaf.is) in
      let at_p : slice_get D.declared.ports p ≡ Some I.0.port =
      ap (λ (l : List ℕ). slice_get l p)
      (sym (ap (λ (x : CellInstance). ports_of design x.cell) same ∙ D.ports_are)) ∙ L.which in
      let pin : IsInoutPin design path I.0 = on_pin design path p i at I in
      elim (cases_lt p place) [
        | inl before ↦ absurd (none p I.0.port before at_p I.0 refl pin)
        | inr behind ↦ elim (cases_lt place p) [
          | inl later ↦ inl later
          | inr here ↦
              let e : p ≡ place = omega arith in
              let s : I.0.port ≡ number = same_Some I.0.port number
              (sym at_p ∙ ap (slice_get D.declared.ports) e ∙ is) in
              let l : F.bit.index ≤ I.0.index = F.first I.0 s pin in
              let x = L.index_is in
              inr (sym e, omega arith)
        ]
      ];
  net_is = F.net_is;
}

pub one_at : (known : Known) (design : NetlistRec) (joined : Joined) (instance : ℕ)
    (path : Path) → IsAtLeaf known design joined instance path → (one : Instance)
    → one ≡ get_or joined.instances.items instance one
    → slice_get joined.instances.items instance ≡ Some one
one_at known design joined instance path A one read =
    let J = A.is_joined in
    let many = J.are_instances.many in
    let few : instance < length known.paths =
    slice_get_within known.paths instance path A.path_is in
    slice_get_read joined.instances.items (length joined.instances.items) instance one refl
    (omega arith) read

pub at_declared : (design : NetlistRec) (inst : CellInstance) (one : Instance)
    → (D : IsDeclared design inst one) → (at : CellDeclaration)
    → slice_get design.cell_decls one.declaration ≡ Some at → at.ports ≡ D.declared.ports
at_declared design inst one D at is =
    ap (λ (d : CellDeclaration). d.ports)
    (same_Some at D.declared (sym is ∙ D.declared_is))

-- what is told of a look-up that found nothing, or something
pub told_none : (o : Option ℕ) (P : Type 0) (Q : ℕ → Type 0) → ((x : ℕ) → o ≡ Some x → ⊥)
    → MatchOption o P Q → P
told_none None P Q h m = m
told_none (Some x) P Q h m = absurd (h x refl)

pub told_some : (o : Option ℕ) (P : Type 0) (Q : ℕ → Type 0) (x : ℕ) → o ≡ Some x
    → MatchOption o P Q → Q x
told_some None P Q x h m = absurd (none-some x h)
told_some (Some y) P Q x h m = subst Q (same_Some y x h) m
