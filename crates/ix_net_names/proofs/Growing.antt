-- Names of nets, while names are added.
use Rattle.std.proofs.Common.{◌≡◌, ℕ, zero, suc, ◌+◌, ◌<◌, ◌⊎◌, inl, inr, List, [], ◌∷◌, ◌++◌}
use Rattle.std.proofs.Common.{
  length,
  slice_get,
  get_or,
  Option,
  Some,
  None,
  refl,
  sym,
  ap,
  ◌∙◌,
  subst,
}
use Rattle.std.proofs.Common.{arith, Bool, true, false, nat_eq, cond, option_and_then}
use Rattle.std.specs.List.{AllByRecursion, find}
use Rattle.std.proofs.lemmas.Option.{get_or_from_slice_get, none-some, same_Some}
use Rattle.ix_message.specs.Shape.{Text}
use Rattle.ix_strings.specs.Names.{KeepsNumbers}
use Rattle.ix_rec.specs.declared.netlist.Cell.{Cell}
use Rattle.ix_rec.specs.declared.netlist.CellInstance.{CellInstance}
use Rattle.ix_rec.specs.declared.netlist.Net.{Net}
use Rattle.ix_rec.specs.declared.netlist.NetlistRec.{NetlistRec}
use Rattle.ix_hierarchy.specs.Hierarchy.{flat_name, inside, instance_at}
use Rattle.ix_hierarchy.specs.Fits.{CellFits, NetFits, NetlistFits}
use Rattle.ix_hierarchy.specs.FlatDesign.{IsNetText}
use Rattle.ix_hierarchy.specs.Nets.{Occurrence, IsFirstOf, Occurs, net_text}
use Rattle.ix_names_grow.specs.Grown.{IsGrown}
use Rattle.ix_net_names.specs.NetNames.{AreNamed}

among : {A : Type 0} (P : A → Type 0) (xs : List A) (i : ℕ) (x : A) → AllByRecursion P xs
    → slice_get xs i ≡ Some x → P x
among P [] i x all at = absurd (none-some x at)
among P (y ∷ ys) zero x all at = subst P (same_Some y x at) all.0
among P (y ∷ ys) (suc i) x all at = among P ys i x all.1 at

pub get_within : {X : Type 0} (xs : List X) (i : ℕ) → i < length xs
    → (x : X) × (slice_get xs i ≡ Some x)
get_within [] i lt = absurd (omega arith)
get_within (x ∷ xs) zero lt = (x, refl)
get_within (x ∷ xs) (suc i) lt = get_within xs i (omega arith)

found_where : (cells : List Cell) (d : ℕ) (c : Cell)
    → find (λ (cell : Cell). nat_eq cell.index d) cells ≡ Some c
    → (k : ℕ) × (slice_get cells k ≡ Some c)
found_where [] d c e = absurd (none-some c e)
found_where (x ∷ xs) d c e = by (found_where xs d c) (nat_eq x.index d) refl
  where
    by : (find (λ (cell : Cell). nat_eq cell.index d) xs ≡ Some c
        → (k : ℕ) × (slice_get xs k ≡ Some c)) → (b : Bool) → nat_eq x.index d ≡ b
        → (k : ℕ) × (slice_get (x ∷ xs) k ≡ Some c)
    by more true is = (
      0,
      ap (λ v. cond v (Some x) (find (λ (y : Cell). nat_eq y.index d) xs)) (sym is) ∙ e,
    )
    by more false is =
        let rest : _ = more
        (ap (λ v. cond v (Some x) (find (λ (y : Cell). nat_eq y.index d) xs)) (sym is) ∙ e) in
        (suc rest.0, rest.1)

-- the name of a net that occurs is among the names
net_named : (names : ℕ) (design : NetlistRec) (at : Occurrence) (cell : Cell) (net : Net)
    → NetlistFits names design → Occurs design at cell net → net.name < names
net_named names design at cell net fits occurs = by (instance_at design at.path) refl
  where
    by : (o : Option CellInstance) → instance_at design at.path ≡ o → net.name < names
    by None none = absurd (none-some cell (ap (λ o. option_and_then
        (λ (i : CellInstance). inside design i.cell) o) (sym none) ∙ occurs.inside))
    by (Some inst) some =
        let there : _ = found_where design.cell_list inst.cell cell (ap (λ o. option_and_then
        (λ (i : CellInstance). inside design i.cell) o) (sym some) ∙ occurs.inside) in
        let fit : CellFits names design cell =
        among (CellFits names design) design.cell_list there.0 cell fits.cells there.1 in
        (among (NetFits names design cell.index) cell.nets at.net net fit.nets occurs.net_is).name

-- a net's text over a table of names and over a larger one
pub text_grows : (old new : List Text) (design : NetlistRec) (at : Occurrence) (cell : Cell)
    (net : Net) → KeepsNumbers old new → NetlistFits (length old) design
    → IsGrown old new design → Occurs design at cell net
    → net_text old design at.path net ≡ net_text new design at.path net
text_grows old new design at cell net keeps fits grown occurs =
    let there : _ = get_within old net.name (net_named (length old) design at cell net fits occurs)
    in
    let same : get_or old net.name [] ≡ get_or new net.name [] =
    get_or_from_slice_get old net.name there.0 [] there.1
    ∙ sym (get_or_from_slice_get new net.name there.0 [] (keeps net.name there.0 there.1)) in
    ap (λ (t : Text). flat_name old design at.path (t ∷ [])) same
    ∙ grown.flat at.path (get_or new net.name [] ∷ [])

push_cases : {X : Type 0} (xs : List X) (y : X) (i : ℕ) (x : X)
    → slice_get (xs ++ y ∷ []) i ≡ Some x
    → (slice_get xs i ≡ Some x) ⊎ ((i ≡ length xs) × (y ≡ x))
push_cases [] y zero x e = inr (refl, same_Some y x e)
push_cases [] y (suc i) x e = absurd (none-some x e)
push_cases (z ∷ xs) y zero x e = inl e
push_cases (z ∷ xs) y (suc i) x e = elim (push_cases xs y i x e) [
  | inl h ↦ inl h
  | inr h ↦ inr (ap suc h.0, h.1)
]

length_push : {X : Type 0} (xs : List X) (x : X) → length (xs ++ x ∷ []) ≡ length xs + 1
length_push [] x = refl
length_push (y ∷ xs) x = let e : _ = length_push xs x in omega (arith, e)

-- one net more is named
pub named_next : (old new : List Text) (design : NetlistRec) (nets : List Occurrence)
    (ids : List ℕ) (k name : ℕ) (at : Occurrence) (text : Text) → KeepsNumbers old new
    → NetlistFits (length old) design → IsGrown old new design → AreNamed old design nets ids k
    → slice_get nets k ≡ Some at → (first : IsFirstOf design at)
    → text ≡ net_text old design at.path first.net → slice_get new name ≡ Some text
    → AreNamed new design nets (ids ++ name ∷ []) (k + 1)
named_next old new design nets ids k name at text keeps fits grown h here first text_is named =
    record {
      many = length_push ids name ∙ ap (λ n. n + 1) h.many;
      each = λ n id a id_is a_is. elim (push_cases ids name n id id_is) [
        | inl before ↦ let x : _ = h.each n id a before a_is in (
          x.0,
          keeps id x.0 x.1,
          record {
            first = x.2.first;
            text_is = x.2.text_is ∙ text_grows old new design a x.2.first.cell x.2.first.net
                keeps fits grown x.2.first.occurs;
          },
        )
        | inr last ↦
            let same : at ≡ a = same_Some at a (sym here
            ∙ ap (λ m. slice_get nets m) (sym (last.0 ∙ h.many)) ∙ a_is) in
            subst (λ o. (t : Text) × (slice_get new id ≡ Some t) × IsNetText new design o t) same (
              text,
              subst (λ m. slice_get new m ≡ Some text) last.1 named,
              record {
                first = first;
                text_is = text_is
                    ∙ text_grows old new design at first.cell first.net keeps fits grown
                    first.occurs;
              },
            )
      ];
    }
