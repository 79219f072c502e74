-- Numbers that are given: at first to nodes alone, then to a site's wires, and so to resources.
use Rattle.std.proofs.Common.{◌≡◌, ◌⊎◌, ◌<◌, ◌≤◌, ◌+◌, ◌^◌, ◌∙◌, refl, ap, sym, subst, ℕ, arith}
use Rattle.std.proofs.Common.{◌++◌, ◌-◌, take, inl, inr, List, [], length, set, get_or, slice_get}
use Rattle.std.proofs.Common.{Option, Some}
use Rattle.std.proofs.Common.{None, replicate, zero, suc, length-set, option_map, option_and_then}
use Rattle.std.proofs.lemmas.Bool.{cases_eq}
use Rattle.std.proofs.lemmas.Option.{none-some, same_Some, slice_get_read}
use Rattle.ix_num.specs.declared.resource.Res.{Res}
use Rattle.ix_num.specs.declared.resource.Res.TheVariants.{Node, Wire}
use Rattle.ix_rec.specs.declared.device.DeviceRec.{DeviceRec}
use Rattle.ix_device.specs.Lookups.{sites_of}
use Rattle.ix_graph.specs.Nodes.{nodes}
use Rattle.ix_ends.specs.declared.numbers.Numbers.{Numbers}
use Rattle.ix_ends.specs.Ends.{IsThere, IsNumbered, wires_of_site}
use Rattle.ix_ends.specs.Numbering.{HasBase, AreNumbers, Grows, GivesBase, GivesNumber, seen_by}
use Rattle.ix_ends.proofs.Items.{mapped, chained, set_here, set_other}

-- Grown numbers.

pub same_grow : (now : Numbers) → Grows now now
same_grow now = record { keeps = λ site base h. h; up = omega arith }

pub both_grow : (before between now : Numbers) → Grows before between → Grows between now
    → Grows before now
both_grow before between now first second =
    let a = first.up in
    let b = second.up in
    record {
      keeps = λ site base h. second.keeps site base (first.keeps site base h);
      up = omega arith;
    }

-- No site has a base yet.

none_in : (count site base : ℕ) → slice_get (replicate count None) site ≡ Some (Some base) → ⊥
none_in zero site base h = none-some (Some base) h
none_in (suc count) zero base h = none-some base (same_Some None (Some base) h)
none_in (suc count) (suc site) base h = none_in count site base h

length_none : (count : ℕ) → length (replicate {A = Option ℕ} count None) ≡ count
length_none zero = refl
length_none (suc count) = ap suc (length_none count)

-- an empty list that is brought to a length
pub all_none : (count : ℕ) (xs : List (Option ℕ)) (len : ℕ) → xs ≡ [] → len ≡ 0
    → take count xs ++ replicate (count - len) None ≡ replicate count None
all_none count xs len empty none =
    ap (λ (ys : List (Option ℕ)). take count ys ++ replicate (count - len) None) empty
    ∙ nothing count
    ∙ ap (λ (n : ℕ). replicate n None) (omega arith)
  where
    nothing : (n : ℕ) → take n [] ++ replicate (count - len) None
        ≡ replicate {A = Option ℕ} (count - len) None
    nothing zero = refl
    nothing (suc n) = refl

pub nodes_alone : (rec : DeviceRec) (numbers : Numbers) (count : ℕ)
    → numbers.bases.items ≡ replicate count None → count ≡ length (sites_of rec)
    → numbers.count ≡ length (nodes rec) → numbers.count < 2 ^ 32 → AreNumbers rec numbers
nodes_alone rec numbers count bases sites is few =
    let none : (site base : ℕ) → HasBase numbers site base → ⊥ = λ site base h.
    none_in count site base (ap (λ (xs : List (Option ℕ)). slice_get xs site) (sym bases) ∙ h) in
    record {
      sites_all = ap length bases ∙ length_none count ∙ sites;
      few = few;
      nodes_first = omega arith;
      after = λ site base h. absurd (none site base h);
      within = λ site base wire h there. absurd (none site base h);
      apart = λ one other base base2 wire wire2 h. absurd (none one base h);
    }

-- A site whose wires have no numbers yet.

pub none_at : (bases : List (Option ℕ)) (place : ℕ) (value : Option ℕ) → place < length bases
    → value ≡ get_or bases place value → ((base : ℕ) → value ≡ Some base → ⊥)
    → slice_get bases place ≡ Some None
none_at bases place None inside read not =
    slice_get_read bases (length bases) place None refl inside read
none_at bases place (Some base) inside read not = absurd (not base refl)

module _ (rec : DeviceRec) (before now : Numbers) (site wires : ℕ) (are : AreNumbers rec before)
    (inside : site < length (sites_of rec)) (none : slice_get before.bases.items site ≡ Some None)
    (wires_are : wires_of_site rec site ≡ Some wires)
    (written : now.bases.items ≡ set before.bases.items site (Some before.count))
    (counted : now.count ≡ before.count + wires) (fits : now.count < 2 ^ 32) where
  few : site < length before.bases.items
  few = let all = are.sites_all in omega arith

  has_cases : (s base : ℕ) → HasBase now s base
      → ((site ≡ s) × (before.count ≡ base)) ⊎ HasBase before s base
  has_cases s base h =
      let there : slice_get (set before.bases.items site (Some before.count)) s ≡ Some (Some base)
      = ap (λ (xs : List (Option ℕ)). slice_get xs s) (sym written) ∙ h in
      elim (cases_eq site s) [
        | inl same ↦ inl (
          same,
          same_Some before.count base (same_Some (Some before.count) (Some base)
              (sym (set_here before.bases.items site (Some before.count) few)
              ∙ ap (slice_get (set before.bases.items site (Some before.count))) same ∙ there)),
        )
        | inr apart ↦ inr (sym (set_other before.bases.items site s (Some before.count) apart)
            ∙ there)
      ]

  keeps : (s base : ℕ) → HasBase before s base → HasBase now s base
  keeps s base h = elim (cases_eq site s) [
    | inl same ↦ absurd (none-some base (same_Some None (Some base)
        (sym none ∙ ap (slice_get before.bases.items) same ∙ h)))
    | inr apart ↦ ap (λ (xs : List (Option ℕ)). slice_get xs s) written
        ∙ set_other before.bases.items site s (Some before.count) apart ∙ h
  ]

  below : (wire : ℕ) → IsThere rec (Wire site wire) → wire < wires
  below wire there =
      subst (λ (n : ℕ). wire < n) (same_Some there.0 wires (sym there.1 ∙ wires_are)) there.2

  below_at : (s wire : ℕ) → site ≡ s → IsThere rec (Wire s wire) → wire < wires
  below_at s wire same there =
      below wire (subst (λ (n : ℕ). IsThere rec (Wire n wire)) (sym same) there)

  apart_now : (one other base base2 wire wire2 : ℕ) → HasBase now one base → HasBase now other base2
      → IsThere rec (Wire one wire) → IsThere rec (Wire other wire2) → base + wire ≡ base2 + wire2
      → one ≡ other
  apart_now one other base base2 wire wire2 h k there there2 e = elim (has_cases one base h) [
    | inl a ↦ elim (has_cases other base2 k) [
      | inl b ↦ sym a.0 ∙ b.0
      | inr b ↦
          let low : base2 + wire2 < before.count = are.within other base2 wire2 b there2 in
          let high : before.count ≡ base = a.1 in
          absurd (omega arith)
    ]
    | inr a ↦ elim (has_cases other base2 k) [
      | inl b ↦
          let low : base + wire < before.count = are.within one base wire a there in
          let high : before.count ≡ base2 = b.1 in
          absurd (omega arith)
      | inr b ↦ are.apart one other base base2 wire wire2 a b there there2 e
    ]
  ]

  within_now : (s base wire : ℕ) → HasBase now s base → IsThere rec (Wire s wire)
      → base + wire < now.count
  within_now s base wire h there = elim (has_cases s base h) [
    | inl a ↦
        let low : wire < wires = below_at s wire a.0 there in
        let high : before.count ≡ base = a.1 in
        omega arith
    | inr a ↦ let low : base + wire < before.count = are.within s base wire a there in omega arith
  ]

  after_now : (s base : ℕ) → HasBase now s base → length (nodes rec) ≤ base
  after_now s base h = elim (has_cases s base h) [
    | inl a ↦
        let low : length (nodes rec) ≤ before.count = are.nodes_first in
        let high : before.count ≡ base = a.1 in
        omega arith
    | inr a ↦ are.after s base a
  ]

  -- they get the next ones
  pub next_base : GivesBase rec before now site before.count
  next_base =
      let low : length (nodes rec) ≤ before.count = are.nodes_first in
      record {
        numbers = record {
          sites_all = ap length written
              ∙ length-set before.bases.items site (Some before.count) ∙ are.sites_all;
          few = fits;
          nodes_first = omega arith;
          after = after_now;
          within = within_now;
          apart = apart_now;
        };
        grows = record { keeps = keeps; up = omega arith };
        base_is = ap (λ (xs : List (Option ℕ)). slice_get xs site) written
            ∙ set_here before.bases.items site (Some before.count) few;
      }

-- a site whose wires have numbers keeps them
pub same_base : (rec : DeviceRec) (numbers : Numbers) (site base : ℕ) → AreNumbers rec numbers
    → HasBase numbers site base → GivesBase rec numbers numbers site base
same_base rec numbers site base are has =
    record { numbers = are; grows = same_grow numbers; base_is = has }

pub base_at : (bases : List (Option ℕ)) (place base : ℕ) (value : Option ℕ) → place < length bases
    → value ≡ get_or bases place value → value ≡ Some base
    → slice_get bases place ≡ Some (Some base)
base_at bases place base value inside read is =
    slice_get_read bases (length bases) place value refl inside read ∙ ap Some is

-- Resources.

pub wire_below : (rec : DeviceRec) (before now : Numbers) (site wire base : ℕ)
    → GivesBase rec before now site base → IsThere rec (Wire site wire) → base + wire < now.count
wire_below rec before now site wire base given there =
    given.numbers.within site base wire given.base_is there

pub wire_given : (rec : DeviceRec) (before now : Numbers) (site wire base : ℕ)
    → GivesBase rec before now site base → IsThere rec (Wire site wire)
    → GivesNumber rec before now (Wire site wire) (base + wire)
wire_given rec before now site wire base given there = record {
  numbers = given.numbers;
  grows = given.grows;
  number_is = record {
    there = there;
    number_is = ap (λ o. option_map (λ (b : ℕ). b + wire) (option_and_then (λ (b : Option ℕ). b) o))
        given.base_is;
    within = wire_below rec before now site wire base given there;
  };
}

pub node_given : (rec : DeviceRec) (numbers : Numbers) (node : ℕ) → AreNumbers rec numbers
    → node < length (nodes rec) → GivesNumber rec numbers numbers (Node node) node
node_given rec numbers node are there = record {
  numbers = are;
  grows = same_grow numbers;
  number_is = record {
    there = there;
    number_is = refl;
    within = let low = are.nodes_first in omega arith;
  };
}

-- a number that was given stays
pub number_kept : (rec : DeviceRec) (before now : Numbers) (r : Res) (number : ℕ)
    → Grows before now → IsNumbered rec (seen_by before) r number
    → IsNumbered rec (seen_by now) r number
number_kept rec before now (Node n) number grows is =
    let up = grows.up in
    let low : number < before.count = is.within in
    record { there = is.there; number_is = is.number_is; within = omega arith }
number_kept rec before now (Wire site wire) number grows is =
    let up = grows.up in
    let low : number < before.count = is.within in
    let base = mapped (λ (b : ℕ). b + wire)
    (option_and_then (λ (b : Option ℕ). b) (slice_get before.bases.items site)) number
    is.number_is in
    let has = chained (λ (b : Option ℕ). b) (slice_get before.bases.items site) base.0 base.1 in
    record {
      there = is.there;
      number_is = ap (λ o. option_map (λ (b : ℕ). b + wire)
          (option_and_then (λ (b : Option ℕ). b) o))
          (grows.keeps site base.0 (has.1 ∙ ap Some has.2)) ∙ ap Some base.2;
      within = omega arith;
    }
