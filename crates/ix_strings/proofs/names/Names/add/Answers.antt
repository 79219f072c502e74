use Rattle.std.proofs.Common.{◌≡◌, ◌∙◌, slice_get, map, string_bytes, sym, subst}
use Rattle.ix_strings.specs.Names.{number_once_added, with_name, AllDiffer, KeepsNumbers, IsTable}
use Rattle.ix_strings.proofs.TableLemmas.{names-inserted, number-inserted, slice_get-with_name, KeepsNumbers-with_name, AllDiffer-with_name, IsTable-with_name}
use Rattle.ix_strings.proofs.names.Names.add.Goals as goal

-- the names after the insertion
names_after : (c : goal.After-new) → map string_bytes c.insert_full.new.self.keys ≡ with_name c.args.self.now c.args.text.now
names_after c = names-inserted _ c.in_ok-text.text _ _ c.self.view_is c.in_ok-text.ensures.ok _ c.in_ok-place.ensures.keys

number_after : (c : goal.After-new) → c.new.result ≡ number_once_added c.args.self.now c.args.text.now
number_after c = c.new.ensures ∙ c.in_ok-place.ensures.index ∙ number-inserted _ c.in_ok-text.text _ _ c.self.view_is c.in_ok-text.ensures.ok

pub invariant_of-self-2 : goal.invariant_of-self-2
invariant_of-self-2 c =
    subst IsTable (sym (names_after c)) (IsTable-with_name _ _ c.requires (subst IsTable c.self.view_is c.self.invariant))

pub returns-clause-names : goal.returns-clause-names
returns-clause-names c = names_after c

pub returns-clause-number : goal.returns-clause-number
returns-clause-number c = number_after c

pub returns-clause-text : goal.returns-clause-text
returns-clause-text c =
    (λ i. slice_get (names_after c i) (number_after c i)) ∙ slice_get-with_name _ _

pub returns-clause-keeps : goal.returns-clause-keeps
returns-clause-keeps c =
    subst (KeepsNumbers c.args.self.now) (sym (names_after c)) (KeepsNumbers-with_name _ _)

pub returns-clause-differ : goal.returns-clause-differ
returns-clause-differ c =
    subst AllDiffer (sym (names_after c)) (AllDiffer-with_name _ _ (subst AllDiffer c.self.view_is c.self.invariant.differ))
