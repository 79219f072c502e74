-- The constants of BEL pins, entry by entry.
use Rattle.std.proofs.Common.{◌≡◌, refl, ap, sym, ◌∙◌, ℕ, ◌+◌, Bool, true, false, List, [], ◌∷◌, ◌++◌, take, slice_get, Option, Some, None}
use Rattle.std.specs.Option.{option_or}
use Rattle.ix_num.specs.declared.resource.Constant.{Constant}
use Rattle.ix_rec.specs.declared.device.SiteConstantSource.{SiteConstantSource}
use Rattle.ix_device.specs.Sources.{constant_of, if_named}
use Rattle.ix_device.specs.NamedSources.{first_that}
use Rattle.ix_device.proofs.OptionLemmas.{option_or-assoc}
use Rattle.ix_device.proofs.Walks.{take_next}

first_that-push : (test : SiteConstantSource → Bool) (es : List SiteConstantSource) (e : SiteConstantSource) → first_that test (es ++ e ∷ []) ≡ option_or (first_that test es) (if_named (test e) (constant_of e.constant) None)
first_that-push test [] e = refl
first_that-push test (x ∷ xs) e = ap (if_named (test x) (constant_of x.constant)) (first_that-push test xs e) ∙ by (test x) (constant_of x.constant)
  where
    by : (b : Bool) (c : Option Constant) → if_named b c (option_or (first_that test xs) (if_named (test e) (constant_of e.constant) None)) ≡ option_or (if_named b c (first_that test xs)) (if_named (test e) (constant_of e.constant) None)
    by true (Some k) = refl
    by true None = refl
    by false c = refl

-- one entry more was put
pub one_more_source : (test : SiteConstantSource → Bool) (es : List SiteConstantSource) (i : ℕ) (e : SiteConstantSource) (old now new : Option Constant)
    → slice_get es i ≡ Some e → now ≡ option_or old (first_that test (take i es)) → new ≡ option_or now (if_named (test e) (constant_of e.constant) None)
    → new ≡ option_or old (first_that test (take (i + 1) es))
one_more_source test es i e old now new at before step =
    step
    ∙ ap (λ o. option_or o (if_named (test e) (constant_of e.constant) None)) before
    ∙ option_or-assoc old (first_that test (take i es)) (if_named (test e) (constant_of e.constant) None)
    ∙ ap (option_or old) (sym (ap (first_that test) (take_next es i e at) ∙ first_that-push test (take i es) e))
