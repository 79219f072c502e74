-- Where two designs differ one of them has something.
use Rattle.std.proofs.Common.{◌≡◌, ◌∙◌, ap, sym, refl, subst, ℕ, inl, inr}
use Rattle.std.specs.Prelude.{◌⊎◌, slice_get, Option, Some, None, option_and_then, option_map}
use Rattle.std.specs.Prelude.{IfSome}
use Rattle.std.specs.FinMap.{get}
use Rattle.std.proofs.lemmas.Option.{none-some}
use Rattle.ix_num.specs.Numbers.{NameNumber}
use Rattle.ix_num.specs.declared.resource.NetRef.{NetRef}
use Rattle.ix_rec.specs.declared.flow.Flat.{Flat}
use Rattle.ix_differences.specs.Differences.{AgreesOnCell, AgreesOnTable, AllCellsAgree}
use Rattle.ix_differences.specs.Differences.{cell_named, named_net, net_at, site_at}
use Rattle.ix_differences.specs.Earliest.{AgreesAt, IsNameIn, IsPinIn}
use Rattle.ix_differences.specs.declared.earliest.PinName.{PinName}
use Rattle.ix_differences.specs.declared.named_net.NamedNet.{NamedNet}
use Rattle.ix_differences.proofs.Keyed.{found_named}

-- a cell of a name that is found
in_cells : (flat : Flat) (name q : ℕ) → cell_named flat name ≡ Some q → IsNameIn flat.cells name
in_cells flat name q found =
    let at = found_named flat.cells name q found in
    (q, at.0, at.1, at.2)

-- of a name that no cell has, the designs agree
none_agree : (a b : Flat) (name : NameNumber) → cell_named a name ≡ None
    → cell_named b name ≡ None → AgreesOnCell a b name
none_agree a b name none_a none_b = record {
  types = ap (option_and_then (λ q. option_map (λ c. c.ty) (slice_get a.cells q))) none_a
      ∙ sym (ap (option_and_then (λ q. option_map (λ c. c.ty) (slice_get b.cells q))) none_b);
  sites = subst (λ o. IfSome (option_and_then (get b.fixed) o)
      (λ site. site_at a name ≡ Some site)) (sym none_b) tt;
}

pub cells_seen : (a b : Flat) (name : NameNumber)
    → (IsNameIn a.cells name ⊎ IsNameIn b.cells name) ⊎ AgreesOnCell a b name
cells_seen a b name = by (cell_named a name) (cell_named b name) refl refl
  where
    by : (p q : Option ℕ) → cell_named a name ≡ p → cell_named b name ≡ q
        → (IsNameIn a.cells name ⊎ IsNameIn b.cells name) ⊎ AgreesOnCell a b name
    by (Some p) q in_a in_b = inl (inl (in_cells a name p in_a))
    by None (Some q) in_a in_b = inl (inr (in_cells b name q in_b))
    by None None in_a in_b = inr (none_agree a b name in_a in_b)

-- where the cells agree, `a` has each cell
pub tables_seen : (a b : Flat) → AllCellsAgree a b → (name : NameNumber)
    → IsNameIn a.cells name ⊎ AgreesOnTable a b name
tables_seen a b agree name = by (cell_named a name) (cell_named b name) refl refl
  where
    by : (p q : Option ℕ) → cell_named a name ≡ p → cell_named b name ≡ q
        → IsNameIn a.cells name ⊎ AgreesOnTable a b name
    by (Some p) q in_a in_b = inl (in_cells a name p in_a)
    by None None in_a in_b = inr (ap (option_and_then (get a.tables)) in_a
        ∙ sym (ap (option_and_then (get b.tables)) in_b))
    by None (Some q) in_a in_b =
        let at = found_named b.cells name q in_b in
        absurd (none-some (at.0).ty
        (sym (ap (option_and_then (λ p. option_map (λ c. c.ty) (slice_get a.cells p))) in_a)
        ∙ (agree name).types
        ∙ ap (option_and_then (λ p. option_map (λ c. c.ty) (slice_get b.cells p))) in_b
        ∙ ap (option_map (λ c. c.ty)) at.1))

-- a pin with a net is on one
on_net : (flat : Flat) (at : PinName) (net : NamedNet) → net_at flat at.cell at.pin ≡ Some net
    → IsPinIn flat at
on_net flat at net is = by (cell_named flat at.cell) refl is
  where
    on : (q : ℕ) → cell_named flat at.cell ≡ Some q → (found : Option NetRef)
        → get flat.pins (q, at.pin) ≡ found
        → option_and_then (named_net flat) found ≡ Some net → IsPinIn flat at
    on q here None nets told = absurd (none-some net told)
    on q here (Some n) nets told =
        let cell = found_named flat.cells at.cell q here in
        (q, cell.0, n, cell.1, cell.2, nets)

    by : (p : Option ℕ) → cell_named flat at.cell ≡ p
        → option_and_then (λ q. option_and_then (named_net flat) (get flat.pins (q, at.pin))) p
        ≡ Some net → IsPinIn flat at
    by None here told = absurd (none-some net told)
    by (Some q) here told = on q here (get flat.pins (q, at.pin)) refl told

pub pins_seen : (a b : Flat) (at : PinName) → (IsPinIn a at ⊎ IsPinIn b at) ⊎ AgreesAt a b at
pins_seen a b at = by (net_at a at.cell at.pin) (net_at b at.cell at.pin) refl refl
  where
    by : (x y : Option NamedNet) → net_at a at.cell at.pin ≡ x → net_at b at.cell at.pin ≡ y
        → (IsPinIn a at ⊎ IsPinIn b at) ⊎ AgreesAt a b at
    by (Some x) y in_a in_b = inl (inl (on_net a at x in_a))
    by None (Some y) in_a in_b = inl (inr (on_net b at y in_b))
    by None None in_a in_b = inr (in_a ∙ sym in_b)
