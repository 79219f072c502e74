use Rattle.std.proofs.Common.{rules, ◌≡◌, ◌<◌, ◌+◌, ◌^◌, ◌∙◌, ap, sym, subst, arith, slice_get}
use Rattle.std.proofs.Common.{Some, IfSome, ℕ, Option, option_map, option_and_then, List, get_or}
use Rattle.std.proofs.Common.{length, refl}
use Rattle.std.proofs.lemmas.Option.{slice_get_read}
use Rattle.ix_ends.specs.Ends.{EndsSeen, number_of}
use Rattle.ix_num.specs.declared.resource.Res.TheVariants.{Wire}
use Rattle.ix_ends.proofs.ends.Ends.wire.Goals as goal

-- the number of a wire of a site that has this base
number_by : (seen : EndsSeen) (site wire base : ℕ) → slice_get seen.bases site ≡ Some (Some base)
    → number_of seen (Wire site wire) ≡ Some (base + wire)
number_by seen site wire base is =
    ap (λ o. option_map (λ (b : ℕ). b + wire) (option_and_then (λ (b : Option ℕ). b) o)) is

-- a base that was read
base_read : (bases : List (Option ℕ)) (place site base : ℕ) (value : Option ℕ)
    → place ≡ site → site < length bases → value ≡ get_or bases place value → value ≡ Some base
    → slice_get bases site ≡ Some (Some base)
base_read bases place site base value same inside read is =
    slice_get_read bases (length bases) site value refl inside
    (read ∙ ap (λ (n : ℕ). get_or bases n value) same)
    ∙ ap Some is

pub overflow_add-result : goal.overflow_add-result
overflow_add-result c =
    let has : slice_get c.args.self.now.bases c.args.site ≡ Some (Some c.in_ok-base.base)
    = ap (λ s. slice_get s.bases c.args.site) (sym c.self.view_is)
    ∙ base_read c.self.inside.bases.items c.get.result c.args.site c.in_ok-base.base
    c.index.result.now c.get.ensures
    (subst (λ s. c.args.site < length s.bases) (sym c.self.view_is) c.requires.site)
    c.index.ensures c.in_ok-base.was in
    let low : c.in_ok-base.base + c.args.wire < c.args.self.now.count
    = subst (λ o. IfSome o (λ i. i < c.args.self.now.count))
    (number_by c.args.self.now c.args.site c.args.wire c.in_ok-base.base has)
    c.requires.within in
    let all : c.args.self.now.count < 2 ^ 32
    = subst (λ s. s.count < 2 ^ 32) c.self.view_is c.self.invariant.few in
    let is = c.get-2.ensures in
    let few : c.in_ok-base.base + c.get-2.result < 2 ^ 32 = omega arith in
    search rules

pub returns : goal.returns
returns c =
    ap (λ n. Some (c.in_ok-base.base + n)) c.get-2.ensures
    ∙ sym (number_by c.args.self.now c.args.site c.args.wire c.in_ok-base.base
    (ap (λ s. slice_get s.bases c.args.site) (sym c.self.view_is)
    ∙ base_read c.self.inside.bases.items c.get.result c.args.site c.in_ok-base.base
    c.index.result.now c.get.ensures
    (subst (λ s. c.args.site < length s.bases) (sym c.self.view_is) c.requires.site)
    c.index.ensures c.in_ok-base.was))
