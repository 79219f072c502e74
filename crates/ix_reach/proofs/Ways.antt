-- Ways from a declaration to one inside.
use Rattle.std.proofs.Common.{◌≢◌, ℕ, ◌<◌, List, [], ◌∷◌, length}
use Rattle.std.proofs.Common.{refl, sym, subst}
use Rattle.ix_rec.specs.declared.netlist.NetlistRec.{NetlistRec}
use Rattle.ix_hierarchy.specs.Broken.{Contains, ContainsItself, IsDescent, Reaches}
use Rattle.ix_reach.specs.Cells.{DesignFits}
use Rattle.ix_reach.specs.Searching.{IsAt, IsIn, IsWhole}

pub in_of_at : (design : NetlistRec) (outer number place inner : ℕ)
    → IsAt design outer number place inner → Contains design outer inner
in_of_at design outer number place inner h = record {
  place = number;
  cell = h.cell;
  cell_is = h.cell_is;
  of_outer = h.of_outer;
  position = place;
  instance = h.instance;
  has = h.has;
  inst = h.inst;
  inst_is = h.inst_is;
  of_inner = h.of_inner;
}

pub at_of_in : (design : NetlistRec) (outer inner : ℕ) → Contains design outer inner
    → (number : ℕ) × (place : ℕ) × IsAt design outer number place inner
at_of_in design outer inner h = (
  h.place,
  h.position,
  record {
    cell = h.cell;
    cell_is = h.cell_is;
    of_outer = h.of_outer;
    instance = h.instance;
    has = h.has;
    inst = h.inst;
    inst_is = h.inst_is;
    of_inner = h.of_inner;
  },
)

pub inner_within : (design : NetlistRec) (outer number place inner : ℕ) → DesignFits design
    → IsAt design outer number place inner → inner < length design.cell_decls
inner_within design outer number place inner fits h =
    subst (λ n. n < length design.cell_decls) h.of_inner (fits.inner h.instance h.inst h.inst_is)

pub stays : (design : NetlistRec) (a : ℕ) → Reaches design a a
stays design a = ([], refl)

pub goes_in : (design : NetlistRec) (a b c : ℕ) → Contains design a b → Reaches design b c
    → Reaches design a c
goes_in design a b c h r = (b ∷ r.0, (h, r.1))

pub goes_on : (design : NetlistRec) (a b c : ℕ) → Reaches design a b → Reaches design b c
    → Reaches design a c
goes_on design a b c r s = by a r.0 r.1
  where
    by : (x : ℕ) (way : List ℕ) → IsDescent design x way b → Reaches design x c
    by x [] e = subst (λ y. Reaches design y c) (sym e) s
    by x (next ∷ way) h = goes_in design x next c h.0 (by next way h.1)

pub goes_one : (design : NetlistRec) (a b c : ℕ) → Reaches design a b → Contains design b c
    → Reaches design a c
goes_one design a b c r h = goes_on design a b c r (goes_in design b c c h (stays design c))

-- there and back, where the way back is no empty one
pub loops_by : (design : NetlistRec) (a b : ℕ) → Reaches design design.top_inst.cell a
    → Reaches design a b → Contains design b a → ContainsItself design a
loops_by design a b top r h = by r.0 r.1
  where
    by : (way : List ℕ) → IsDescent design a way b → ContainsItself design a
    by [] e = record {
      reached = top;
      next = a;
      goes_in = subst (λ x. Contains design x a) (sym e) h;
      comes_back = stays design a;
    }
    by (next ∷ way) d = record {
      reached = top;
      next = next;
      goes_in = d.0;
      comes_back = goes_one design next b a (way, d.1) h;
    }

pub loops_apart : (design : NetlistRec) (a b : ℕ) → Reaches design design.top_inst.cell a
    → a ≢ b → Reaches design a b → Reaches design b a → ContainsItself design a
loops_apart design a b top apart r s = by r.0 r.1
  where
    by : (way : List ℕ) → IsDescent design a way b → ContainsItself design a
    by [] e = absurd (apart e)
    by (next ∷ way) d = record {
      reached = top;
      next = next;
      goes_in = d.0;
      comes_back = goes_on design next b a (way, d.1) s;
    }

-- a whole list has all that its members reach
pub whole_reached : (design : NetlistRec) (xs : List ℕ) (a b : ℕ) → IsWhole design xs → IsIn xs a
    → Reaches design a b → IsIn xs b
whole_reached design xs a b whole has r = by a r.0 has r.1
  where
    by : (x : ℕ) (way : List ℕ) → IsIn xs x → IsDescent design x way b → IsIn xs b
    by x [] here e = subst (λ y. IsIn xs y) e here
    by x (next ∷ way) here d = let at : _ = at_of_in design x next d.0 in
        by next way (whole x at.0 at.1 next here at.2) d.1
