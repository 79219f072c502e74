use Rattle.std.proofs.Common.{◌≡◌, ℕ, ◌<◌, ◌≤◌, List, length, slice_index, Contains, ap, ◌∙◌, arith}
use Rattle.std.proofs.lemmas.List.{length-take}
use Rattle.ix_lut.specs.Shapes.{input_lines}
use Rattle.ix_lut.specs.Plans.{places_on}
use Rattle.ix_lut.specs.declared.shape.BelShape.{BelShape}
use Rattle.ix_lut.proofs.Laying.{place_contained, places_on_at, length-places_on}
use Rattle.ix_lut.proofs.lay.ready_lut.Goals as goal

-- the places are of the BEL's six inputs
within : (bel : BelShape) (chosen places : List ℕ) (n : ℕ) → bel.inputs ≤ 6 →
    ((i : ℕ) → i < n → Contains (input_lines bel) (slice_index chosen i)) →
    places ≡ places_on (input_lines bel) chosen n → (i : ℕ) → i < length places → slice_index places i < 6
within bel chosen places n few reached are i h =
    let inside : i < n = omega (arith, h, ap length are, length-places_on (input_lines bel) chosen n) in
    let at = ap (λ (xs : List ℕ). slice_index xs i) are ∙ places_on_at (input_lines bel) chosen n i inside in
    let below = place_contained (input_lines bel) (slice_index chosen i) (reached i inside) in
    omega (arith, at, below, length-take bel.inputs bel.lines, few)

pub spread-word-requires-clause-within : goal.spread-word-requires-clause-within
spread-word-requires-clause-within c =
    within c.args.bel.now c.args.chosen.now _ c.args.cell.now.table.inputs c.requires.bel.few c.requires.reached
    c.places_for-places.ensures

pub returns-clause-ready : goal.returns-clause-ready
returns-clause-ready c =
    let long : length c.args.bel.now.lines ≡ 6 = omega arith in
    record {
      bel = c.requires.bel;
      long = omega (arith, length-take c.args.bel.now.inputs c.args.bel.now.lines, long, c.requires.bel.few);
      few = c.requires.few;
      places = within c.args.bel.now c.args.chosen.now _ c.args.cell.now.table.inputs c.requires.bel.few c.requires.reached
          c.places_for-places.ensures;
      word = c.spread-word.ensures.table;
      values = c.spread-word.ensures.values;
    }
