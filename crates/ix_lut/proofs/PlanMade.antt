-- The plan that is made from an assignment.
use Rattle.std.proofs.Common.{◌≡◌, ◌≢◌, ℕ, ◌<◌, ◌≤◌, Bool, true, false, inl, List, [], length, take, slice_index, slice_index_or, sym, ap, ◌∙◌, subst, arith}
use Rattle.std.proofs.lemmas.List.{get_or-take, length-take}
use Rattle.ix_lut.specs.Shapes.{held_by}
use Rattle.ix_lut.specs.Items.{all_items, IsLeastAssignment}
use Rattle.ix_lut.specs.Forcing.{lut_at, place_of, HasForced, CanComplete, IsLeastHeld, AreReady, IsReady}
use Rattle.ix_lut.specs.Laid.{AreLaid}
use Rattle.ix_lut.specs.Plans.{lut_of, table_of, constant_on, held_under, IsPlan, HasNoTies}
use Rattle.ix_lut.specs.declared.shape.ElementShape.{ElementShape}
use Rattle.ix_lut.specs.declared.shape.Tie.{Tie}
use Rattle.ix_lut.specs.declared.shape.Tie.TheVariants.{Free}
use Rattle.ix_lut.specs.declared.uses.LutUse.{LutUse}
use Rattle.ix_lut.specs.declared.uses.Item.{Item}
use Rattle.ix_lut.specs.declared.forcing.Lut.{Lut}
use Rattle.ix_lut.proofs.Tying.{forced_less, HoldsMore}
use Rattle.ix_lut.proofs.Planning.{line_same, laid_place, no_ties, least_of, under_ties, forced_of, forced_back}

module _ (shape : ElementShape) (uses : List LutUse) (items : List Item) (raw : List ℕ) (choice : List (List ℕ)) (cells : List Lut)
    (base : List Tie) (tieable : List Bool)
    (items_are : items ≡ all_items uses) (room : length items ≤ 48) (raw_long : length raw ≡ 48)
    (assignment : IsLeastAssignment shape uses (take (length items) raw))
    (uses_few : length uses ≤ 8) (cells_long : length cells ≡ 8)
    (laid : AreLaid shape uses items raw (length uses) choice cells)
    (held_is : (line : ℕ) → held_by base line ≡ constant_on items (take (length items) raw) Free line)
    (inside : (line : ℕ) → slice_index_or tieable line false ≡ true → line < shape.lines)
    (no_item : (line : ℕ) → slice_index_or tieable line false ≡ true → (x : ℕ) → x < length items → slice_index raw x ≢ line)
    (every : (line : ℕ) → line < shape.lines → ((x : ℕ) → x < length items → slice_index raw x ≢ line) →
    slice_index_or tieable line false ≡ true) where
  abbrev lines : List ℕ
  lines = take (length items) raw

  abbrev luts : List Lut
  luts = take (length uses) cells

  as_long : length luts ≡ length uses
  as_long = omega (arith, length-take (length uses) cells, cells_long, uses_few)

  lines_long : length lines ≡ length items
  lines_long = omega (arith, length-take (length items) raw, raw_long, room)

  lut_is : (u : ℕ) → u < length uses → lut_at luts u ≡ lut_at cells u
  lut_is u h = get_or-take (length uses) cells u _ h

  same : (u : ℕ) → u < length uses → place_of (lut_at luts u) ≡ lut_of shape uses lines u
  same u h = ap place_of (lut_is u h) ∙
      laid_place shape uses items raw (slice_index_or choice u []) (lut_at cells u) items_are u h (laid u h)

  same_tables : (u : ℕ) → u < length uses → (lut_at luts u).table ≡ table_of uses u
  same_tables u h = ap (λ (l : Lut). l.table) (lut_is u h) ∙ (laid u h).table

  pub ready : AreReady luts
  ready u h =
      let below : u < length uses = omega (arith, h, as_long) in
      subst (λ (l : Lut). IsReady l) (sym (lut_is u below)) (laid u below).ready

  base_is : (line : ℕ) → held_by base line ≡ constant_on (all_items uses) lines Free line
  base_is line = held_is line ∙ ap (λ (xs : List Item). constant_on xs lines Free line) items_are

  no_line : (line : ℕ) → slice_index_or tieable line false ≡ true → (x : ℕ) → x < length lines → slice_index lines x ≢ line
  no_line line may x h at =
      let below : x < length items = omega (arith, h, lines_long) in
      no_item line may x below (sym (get_or-take (length items) raw x 0 below) ∙ at)

  every_line : (line : ℕ) → line < shape.lines → ((x : ℕ) → x < length lines → slice_index lines x ≢ line) →
      slice_index_or tieable line false ≡ true
  every_line line few none = every line few
      (λ x below at. none x (omega (arith, below, lines_long)) (get_or-take (length items) raw x 0 below ∙ at))

  pub none_made : (CanComplete luts tieable (held_by base) 0 → ⊥) → HasNoTies shape uses
  none_made none = record {
    lines = lines;
    assignment = assignment;
    none = no_ties shape uses lines luts tieable (held_by base) as_long same same_tables base_is inside no_line every_line none;
  }

  module _ (held ties : List Tie) (bits : ℕ) (is : IsLeastHeld luts tieable (held_by base) (held_by held))
      (ones : HasForced (length luts) luts (held_by held) 1 bits)
      (shown : (line : ℕ) → slice_index_or tieable line false ≡ true → held_by ties line ≡ held_by held line)
      (hidden : (line : ℕ) → slice_index_or tieable line false ≡ false → held_by ties line ≡ Free) where
    under : (line : ℕ) → held_under uses lines (held_by ties) line ≡ held_by held line
    under = under_ties shape uses lines luts tieable (held_by base) as_long same same_tables base_is inside no_line every_line
        (held_by held) (held_by ties) is shown hidden

    onward : HoldsMore (held_under uses lines (held_by ties)) (held_by held)
    unfolding HoldsMore
    onward line = inl (under line)

    backward : HoldsMore (held_by held) (held_under uses lines (held_by ties))
    unfolding HoldsMore
    backward line = inl (sym (under line))

    pub plan_made : IsPlan shape uses (record { choice = choice; ties = ties; bits = bits })
    plan_made = record {
      lines = lines;
      assignment = assignment;
      choice = λ u i h few. (laid u h).chosen i few ∙ line_same uses items raw items_are u i h few;
      ties = least_of shape uses lines luts tieable (held_by base) as_long same same_tables base_is inside no_line every_line
          (held_by held) (held_by ties) is shown hidden;
      only = λ at one. forced_less (held_under uses lines (held_by ties)) (held_by held) onward (length uses) (lut_of shape uses lines) (table_of uses) at 1
          (forced_of shape uses lines luts tieable (held_by base) as_long same same_tables base_is inside no_line every_line (held_by held) at 1
          (ones.only at one));
      every = λ at forced. ones.every at
          (forced_back shape uses lines luts tieable (held_by base) as_long same same_tables base_is inside no_line every_line (held_by held) at 1
          (forced_less (held_by held) (held_under uses lines (held_by ties)) backward (length uses) (lut_of shape uses lines) (table_of uses) at 1 forced));
    }
