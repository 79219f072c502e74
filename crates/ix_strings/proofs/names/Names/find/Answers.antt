use Rattle.std.proofs.Common.{◌≡◌, ◌∙◌, ℕ, Option, Some, None, ap, sym, subst}
use Rattle.ix_strings.specs.Names.{number_of}
use Rattle.ix_strings.proofs.TableLemmas.{IsFound, IsFound-number_of, number_of-keys}
use Rattle.ix_strings.proofs.names.Names.find.Goals as goal

number_some : (c : goal.After-new) → ◌≡◌ {A = Option ℕ} (Some c.new.result) (number_of c.args.self.now c.args.text.now)
number_some c = ap (λ i. Some i) c.new.ensures ∙ c.in-Some.ensures.index ∙ number_of-keys _ _ _ c.self.view_is

found_some : (c : goal.After-new) → IsFound c.args.self.now c.args.text.now (Some c.new.result)
found_some c = subst (IsFound c.args.self.now c.args.text.now) (sym (number_some c)) (IsFound-number_of _ _)

number_none : (c : goal.In-None) → ◌≡◌ {A = Option ℕ} None (number_of c.args.self.now c.args.text.now)
number_none c = c.in-None.ensures.index ∙ number_of-keys _ _ _ c.self.view_is

pub returns-in-Some-clause-number : goal.returns-in-Some-clause-number
returns-in-Some-clause-number c = number_some c

pub returns-in-Some-clause-found : goal.returns-in-Some-clause-found
returns-in-Some-clause-found c = (found_some c).found

pub returns-in-Some-clause-text : goal.returns-in-Some-clause-text
returns-in-Some-clause-text c = (found_some c).at

pub returns-in-None-clause-number : goal.returns-in-None-clause-number
returns-in-None-clause-number c = number_none c

pub returns-in-None-clause-found : goal.returns-in-None-clause-found
returns-in-None-clause-found c = (subst (IsFound c.args.self.now c.args.text.now) (sym (number_none c)) (IsFound-number_of _ _)).found
