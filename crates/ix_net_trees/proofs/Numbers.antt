-- A segment and the numbers of its ends.
use Rattle.std.proofs.Common.{◌≡◌, ◌<◌, ◌∙◌, ap, sym, ℕ, List, arith}
use Rattle.std.specs.Prelude.{length, slice_get, Some, None, option_map, option_and_then}
use Rattle.std.proofs.lemmas.Option.{same_Some, slice_get_past}
use Rattle.ix_num.specs.declared.resource.Res.{Res}
use Rattle.ix_rec.specs.declared.device.DeviceRec.{DeviceRec}
use Rattle.ix_rec.specs.declared.forest.Branch.{Branch}
use Rattle.ix_rec.specs.declared.phys.PhysNet.{PhysNet}
use Rattle.ix_rec.specs.declared.phys.Segment.{Segment}
use Rattle.ix_graph.specs.Ends.{ends}
use Rattle.ix_legal.specs.Segments.{segments, segment_at, in_end_of, in_end, out_end, entered_by}
use Rattle.ix_legal.specs.Segments.{entered}
use Rattle.ix_ends.specs.declared.pair.Pair.{Pair}
use Rattle.ix_ends.specs.Ends.{EndsSeen, IsNumbered, HasNumbers, IsRow}
use Rattle.ix_net_trees.specs.Told.{AreNumbers}

module _ (rec : DeviceRec) (seen : EndsSeen) (net : PhysNet) where
  -- a segment by its number, with its ends by theirs
  pub record Stands (k : ℕ) (b : Branch Segment) (pair : Pair) : Type 0 where
    pub branch_is : slice_get (segments net) k ≡ Some b
    pub numbers : HasNumbers rec seen b.item pair

  pub stands : (k : ℕ) (b : Branch Segment) (pair : Pair) → AreNumbers rec seen net k pair
      → slice_get (segments net) k ≡ Some b → Stands k b pair
  stands k b pair N is = record {
    branch_is = is;
    numbers = N b.item (ap (option_map (λ (b : Branch Segment). b.item)) is);
  }

  pub segment_is : (k : ℕ) (b : Branch Segment) (pair : Pair) → Stands k b pair
      → segment_at net k ≡ Some b.item
  segment_is k b pair S = ap (option_map (λ (b : Branch Segment). b.item)) S.branch_is

  pub in_is : (k : ℕ) (b : Branch Segment) (pair : Pair) (S : Stands k b pair)
      → in_end rec net k ≡ Some S.numbers.from
  in_is k b pair S = ap (option_and_then (in_end_of rec)) (segment_is k b pair S)
      ∙ ap (option_map (λ (e : Res × Res). e.0)) S.numbers.ends_are

  pub out_is : (k : ℕ) (b : Branch Segment) (pair : Pair) (S : Stands k b pair)
      → out_end rec net k ≡ Some S.numbers.to
  out_is k b pair S =
      ap (λ o. option_map (λ (e : Res × Res). e.1) (option_and_then (ends rec) o))
      (segment_is k b pair S)
      ∙ ap (option_map (λ (e : Res × Res). e.1)) S.numbers.ends_are

  pub entered_is : (k : ℕ) (b : Branch Segment) (pair : Pair) (S : Stands k b pair)
      → entered rec net k ≡ entered_by b.item.kind (Some S.numbers.to)
  entered_is k b pair S =
      ap (option_and_then (λ (s : Segment). entered_by s.kind (out_end rec net k)))
      (segment_is k b pair S)
      ∙ ap (entered_by b.item.kind) (out_is k b pair S)

-- the numbers of a row are those of the net's segments
pub row_numbers : (rec : DeviceRec) (seen : EndsSeen) (net : PhysNet) (row : List Pair) (k : ℕ)
    (pair : Pair) → IsRow rec seen net row → slice_get row k ≡ Some pair
    → AreNumbers rec seen net k pair
row_numbers rec seen net row k pair R is s s_is = R.each k s pair s_is is

-- a segment past the last isn't there
pub no_segment : (net : PhysNet) (k : ℕ) → (k < length (segments net) → ⊥)
    → segment_at net k ≡ None
no_segment net k past = ap (option_map (λ (b : Branch Segment). b.item))
    (slice_get_past (segments net) k (omega (arith, past)))

-- a resource has one number
pub one_number : (rec : DeviceRec) (seen : EndsSeen) (r : Res) (i j : ℕ)
    → IsNumbered rec seen r i → IsNumbered rec seen r j → i ≡ j
one_number rec seen r i j a b = same_Some i j (sym a.number_is ∙ b.number_is)
