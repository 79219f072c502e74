use Rattle.std.proofs.Common.{◌∙◌, sym}
use Rattle.std.proofs.lemmas.Bool.{false≢true, ltb-true, lt-ltb}
use Rattle.ix_named_there.proofs.Named.{site_is_name, site_is_marked, site_has_type, same_number}
use Rattle.ix_named_there.proofs.Named.{no_number, is_element}
use Rattle.ix_named_there.proofs.keys.names_element.Goals as goal

pub returns-in_default-find : goal.returns-in_default-find
returns-in_default-find c = (
  λ not_so. absurd (false≢true not_so),
  λ element. c.in_default-find.ensures.found.1 (site_is_name c.args.names.now c.args.device.now
      c.args.phys.now c.args.text.now c.in-Some.site.now c.in-Some.digits.now c.in-Some.ensures
      element),
)

pub returns-then-not-has : goal.returns-then-not-has
returns-then-not-has c = (
  λ not_so. absurd (false≢true not_so),
  λ element. c.if-not-has.ensures ∙ site_is_marked c.args.names.now c.args.device.now
      c.args.phys.now c.args.text.now c.in-Some.site.now c.in-Some.digits.now c.in-Some.ensures
      c.in-Some-find.site c.in-Some-find.ensures.text c.in-Some-find.ensures.differ
      c.args.sites.now c.requires element,
)

pub returns-in_default-site_type_at : goal.returns-in_default-site_type_at
returns-in_default-site_type_at c = (
  λ not_so. absurd (false≢true not_so),
  λ element. absurd (site_has_type c.args.names.now c.args.device.now
      c.args.phys.now c.args.text.now c.in-Some.site.now c.in-Some.digits.now c.in-Some.ensures
      c.in-Some-find.site c.in-Some-find.ensures.text c.in-Some-find.ensures.differ element
      (sym c.in_default-site_type_at.ensures.ty)),
)

pub returns-in-Some-number_of : goal.returns-in-Some-number_of
returns-in-Some-number_of c = (
  λ below. is_element c.args.names.now c.args.device.now
      c.args.phys.now c.args.text.now c.in-Some.site.now c.in-Some.digits.now c.in-Some.ensures
      c.in-Some-find.site c.in-Some-find.ensures.text c.in-Some-find.ensures.differ
      c.in-Some-site_type_at.t c.elements-count.result (sym c.in-Some-site_type_at.ensures.ty)
      c.elements-count.ensures c.elements-count.type_inv
      c.args.sites.now c.in-Some-number_of.element c.requires
      (sym c.has.ensures ∙ c.if-not-has.false)
      c.in-Some-number_of.ensures.number (ltb-true _ _ below),
  λ element. lt-ltb _ _ (same_number c.args.names.now c.args.device.now
      c.args.phys.now c.args.text.now c.in-Some.site.now c.in-Some.digits.now c.in-Some.ensures
      c.in-Some-find.site c.in-Some-find.ensures.text c.in-Some-find.ensures.differ
      c.in-Some-site_type_at.t c.elements-count.result (sym c.in-Some-site_type_at.ensures.ty)
      c.elements-count.ensures c.elements-count.type_inv
      c.in-Some-number_of.element c.in-Some-number_of.ensures.below
      c.in-Some-number_of.ensures.number element),
)

pub returns-in-None : goal.returns-in-None
returns-in-None c = (
  λ not_so. absurd (false≢true not_so),
  λ element. absurd (no_number c.args.names.now c.args.device.now
      c.args.phys.now c.args.text.now c.in-Some.site.now c.in-Some.digits.now c.in-Some.ensures
      c.in-Some-find.site c.in-Some-find.ensures.text c.in-Some-find.ensures.differ
      c.in-Some-site_type_at.t c.elements-count.result (sym c.in-Some-site_type_at.ensures.ty)
      c.elements-count.ensures c.elements-count.type_inv
      c.in-None.ensures.number element),
)
