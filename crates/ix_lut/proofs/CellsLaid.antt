-- One more cell on its BEL.
use Rattle.std.proofs.Common.{◌≡◌, ◌≢◌, ℕ, ◌+◌, ◌<◌, inl, inr, List, [], length, set, slice_index_or, sym, subst, arith}
use Rattle.std.proofs.lemmas.Bool.{cases_eq, cases_lt}
use Rattle.std.proofs.lemmas.List.{get_or-set_same, get_or-set_other}
use Rattle.ix_lut.specs.Shapes.{bel_at}
use Rattle.ix_lut.specs.Items.{use_at}
use Rattle.ix_lut.specs.Forcing.{lut_at}
use Rattle.ix_lut.specs.Laid.{IsLaid, AreLaid}
use Rattle.ix_lut.specs.declared.shape.ElementShape.{ElementShape}
use Rattle.ix_lut.specs.declared.uses.LutUse.{LutUse}
use Rattle.ix_lut.specs.declared.uses.Item.{Item}
use Rattle.ix_lut.specs.declared.forcing.Lut.{Lut}

under : (v m : ℕ) → v < m + 1 → v ≢ m → v < m
under v m below differs = elim (cases_lt v m) [
  | inl is ↦ is
  | inr over ↦ absurd (differs (omega (arith, below, over)))
]

pub laid_next : (shape : ElementShape) (uses : List LutUse) (items : List Item) (lines : List ℕ) (n : ℕ)
    (choice : List (List ℕ)) (luts : List Lut) (row : List ℕ) (lut : Lut) → n < length choice → n < length luts →
    IsLaid (bel_at shape (use_at uses n).bel) (use_at uses n) items lines row lut →
    AreLaid shape uses items lines n choice luts → AreLaid shape uses items lines (n + 1) (set choice n row) (set luts n lut)
laid_next shape uses items lines n choice luts row lut in_choice in_luts is laid u h = elim (cases_eq u n) [
  | inl same ↦
      let P : List ℕ → Lut → ℕ → Type 0 = λ r l v. IsLaid (bel_at shape (use_at uses v).bel) (use_at uses v) items lines r l in
      let row_is : slice_index_or (set choice n row) n [] ≡ row = get_or-set_same choice n row [] in_choice in
      let lut_is : lut_at (set luts n lut) n ≡ lut = get_or-set_same luts n lut _ in_luts in
      subst (λ (v : ℕ). P (slice_index_or (set choice n row) v []) (lut_at (set luts n lut) v) v) (sym same)
      (subst (λ (r : List ℕ). P r (lut_at (set luts n lut) n) n) (sym row_is)
      (subst (λ (l : Lut). P row l n) (sym lut_is) is))
  | inr other ↦
      let P : List ℕ → Lut → Type 0 = λ r l. IsLaid (bel_at shape (use_at uses u).bel) (use_at uses u) items lines r l in
      let row_is : slice_index_or (set choice n row) u [] ≡ slice_index_or choice u [] = get_or-set_other choice n u row [] other in
      let lut_is : lut_at (set luts n lut) u ≡ lut_at luts u = get_or-set_other luts n u lut _ other in
      subst (λ (r : List ℕ). P r (lut_at (set luts n lut) u)) (sym row_is)
      (subst (λ (l : Lut). P (slice_index_or choice u []) l) (sym lut_is) (laid u (under u n h other)))
]
