-- The search begins with the top.
use Rattle.std.proofs.Common.{◌≡◌, ℕ, zero, suc, ◌<◌, inl, length}
use Rattle.std.proofs.Common.{replicate, slice_get, Option, Some, refl, sym, ap, arith}
use Rattle.std.proofs.lemmas.Option.{none-some}
use Rattle.ix_rec.specs.declared.netlist.NetlistRec.{NetlistRec}
use Rattle.ix_reach.specs.declared.search.Mark.{Mark}
use Rattle.ix_reach.specs.declared.search.Mark.TheVariants.{New, Open, Closed}
use Rattle.ix_reach.specs.Cells.{IsFirstFrom}
use Rattle.ix_reach.specs.State.{entered, started}
use Rattle.ix_reach.specs.Searching.{IsSearch, IsSearching}
use Rattle.ix_reach.proofs.Entering.{entered_search, open_new, closed_new}
use Rattle.ix_reach.proofs.Ways.{stays}

all_new : (n d : ℕ) (m : Mark) → slice_get (replicate n New) d ≡ Some m → Some m ≡ Some New
all_new zero d m e = absurd (none-some m e)
all_new (suc n) zero m e = sym e
all_new (suc n) (suc d) m e = all_new n d m e

new_at : (n d : ℕ) → d < n → slice_get (replicate n New) d ≡ Some New
new_at zero d lt = absurd (omega arith)
new_at (suc n) zero lt = refl
new_at (suc n) (suc d) lt = new_at n d (omega arith)

many_new : (n : ℕ) → length (replicate n New) ≡ n
many_new zero = refl
many_new (suc n) = ap suc (many_new n)

started_search : (design : NetlistRec) → IsSearching design (started (length design.cell_decls))
started_search design = record {
  marked = record {
    many = many_new (length design.cell_decls);
    open_is = λ i d at. absurd (none-some d at);
    is_open = λ i d e. absurd (open_new i (all_new (length design.cell_decls) d (Open i) e));
    closed_is = λ i d at. absurd (none-some d at);
    is_closed = λ d e. absurd (closed_new (all_new (length design.cell_decls) d Closed e));
    met_not_new = λ i d at e. none-some d at;
    open_met = λ i d e. absurd (open_new i (all_new (length design.cell_decls) d (Open i) e));
    closed_met = λ d e. absurd (closed_new (all_new (length design.cell_decls) d Closed e));
    reached = λ i d at. absurd (none-some d at);
    met_differ = λ i j d at other. absurd (none-some d at);
    closed_differ = λ i j d at other. absurd (none-some d at);
  };
  stacked = record {
    parts_rise = λ a b p q lt at other. absurd (none-some p at);
    parts_open = λ a p at. absurd (none-some p at);
    parts_first = λ some. absurd (omega arith);
    parts_visited = λ a p at. absurd (none-some p at);
    visits_rise = λ a b v w lt at other. absurd (none-some v at);
    visits_open = λ a v at. absurd (none-some v at);
    visits_cell = λ a v number at cell. absurd (none-some v at);
  };
  joined = λ i j a b at other not. absurd (none-some a at);
  found = λ i d number place inner at is. absurd (none-some d at);
  whole = λ outer number place inner has at. absurd (none-some outer has.1);
  behind = λ i d at. absurd (none-some d at);
  looped_is = λ d e. absurd (none-some d e);
  straight = λ e. record {
    many = refl;
    visit_is = λ m v at. absurd (none-some v at);
    each = λ i lt. absurd (omega arith);
    met_is = λ n d at. absurd (none-some d at);
  };
}

pub first_search : (design : NetlistRec) (o : Option ℕ)
    → design.top_inst.cell < length design.cell_decls
    → IsFirstFrom design 0 design.top_inst.cell o
    → IsSearch design (entered (started (length design.cell_decls)) design.top_inst.cell o)
first_search design o lt first = record {
  is = entered_search design (started (length design.cell_decls)) design.top_inst.cell o
      (started_search design) (new_at (length design.cell_decls) design.top_inst.cell lt)
      (stays design design.top_inst.cell) (λ i a at. absurd (none-some a at))
      (λ none. inl (refl, refl)) first;
  top_met = (0, refl);
}
