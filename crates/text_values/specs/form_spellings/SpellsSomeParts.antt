-- What stands behind a keyword of a domain or a problem spells something, once its words are declared suitably.
use Rattle.std.specs.Prelude.{◌≡◌, ℕ, true, List, [], map}
use Rattle.htn_base.specs.Different.{AreDifferent}
use Rattle.text_forms.specs.Lists.{Part, Parts, name, group, nothing, part}
use Rattle.text_forms.specs.Placed.{Placed}
use Rattle.text_forms.specs.Printing.{headed}
use Rattle.text_forms.specs.Words.{Word, is_name}
use Rattle.plan_texts.specs.Declared.{Declared, variable}
use Rattle.plan_texts.specs.Formulas.{IsParam, IsFormula, IsEffect}
use Rattle.plan_texts.specs.Networks.{IsSubtask, IsOrdered, IsConstraint, IsHeadOf, subtasks, ordering, constraints, task, task_entries, method_entries, network_entries}
use Rattle.plan_texts.specs.Schemas.{AreParams}
use Rattle.plan_texts.specs.Sections.{bundle, are_entries, found, parameters, precondition, effect, action_entries}
use Rattle.plan_texts.specs.TypedLists.{Each, EachTyped}
use Rattle.plan_model.specs.declared.effects.Effect.{Effect}
use Rattle.plan_model.specs.declared.formulas.Formula.{Formula}
use Rattle.plan_model.specs.declared.networks.Child.{Child}
use Rattle.plan_model.specs.declared.networks.Constraint.{Constraint}
use Rattle.plan_model.specs.declared.networks.Pair.{Pair}
use Rattle.plan_model.specs.declared.terms.Param.{Param}
use Rattle.plan_model.specs.declared.terms.Term.{Term}
use Rattle.text_values.specs.form_spellings.Fresh.{AreFresh, AreFreshEffects}
use Rattle.text_values.specs.form_spellings.SpellsSome.{HaveLetters, StandUpToEnd}

-- different parameters
abbrev pub AreSomeParams : Part → Type 0
AreSomeParams p = (v : Declared) × (xs : List Param) × AreDifferent (map (variable v) xs) × AreParams v xs p

abbrev pub IsSomeFormula : Part → Type 0
IsSomeFormula p = (v : Declared) × (scope : List Word) × (f : Formula) × HaveLetters scope × AreFresh v f × IsFormula v f scope p

abbrev pub IsSomeEffect : Part → Type 0
IsSomeEffect p = (v : Declared) × (scope : List Word) × (e : Effect) × HaveLetters scope × AreFreshEffects v e × IsEffect v e scope p

-- a task with terms
abbrev pub IsSomeHead : Part → Type 0
IsSomeHead p = (v : Declared) × (tasks : List Word) × (scope : List Word) × (n : ℕ) × (ts : List Term) × HaveLetters scope × IsHeadOf v tasks [] scope n ts p

abbrev pub AreSomeSubtasks : Part → Type 0
AreSomeSubtasks p = (v : Declared) × (tasks : List Word) × (actions : List Word) × (scope : List Word) × (cs : List Child) × HaveLetters scope × Each (IsSubtask v tasks actions scope) cs (bundle p)

abbrev pub AreSomePairs : Part → Type 0
AreSomePairs p = (ids : List Word) × (xs : List Pair) × Each (IsOrdered ids) xs (bundle p)

abbrev pub AreSomeConstraints : Part → Type 0
AreSomeConstraints p = (v : Declared) × (scope : List Word) × (xs : List Constraint) × HaveLetters scope × Each (IsConstraint v scope) xs (bundle p)

-- the network of a method or of a problem
pub record IsSomeNetwork (entries : Parts) : Type 0 where
  pub children : AreSomeSubtasks (found subtasks entries)
  pub pairs : AreSomePairs (found ordering entries)
  pub limits : AreSomeConstraints (found constraints entries)

-- the parts of a task, whose precondition and effect are empty
pub record AreTaskParts (entries : Parts) : Type 0 where
  pub form : are_entries task_entries entries ≡ true
  pub params : AreSomeParams (found parameters entries)
  pub no_pre : found precondition entries ≡ group nothing
  pub no_eff : found effect entries ≡ group nothing

pub record AreMethodParts (entries : Parts) : Type 0 where
  pub form : are_entries method_entries entries ≡ true
  pub params : AreSomeParams (found parameters entries)
  pub head : IsSomeHead (found task entries)
  pub pre : IsSomeFormula (found precondition entries)
  pub network : IsSomeNetwork entries

pub record AreActionParts (entries : Parts) : Type 0 where
  pub form : are_entries action_entries entries ≡ true
  pub params : AreSomeParams (found parameters entries)
  pub pre : IsSomeFormula (found precondition entries)
  pub eff : IsSomeEffect (found effect entries)

pub record AreNetworkParts (entries : Parts) : Type 0 where
  pub form : are_entries network_entries entries ≡ true
  pub params : AreSomeParams (found parameters entries)
  pub network : IsSomeNetwork entries

-- a name and such parts
abbrev pub AreNamed : (Parts → Type 0) → Parts → Type 0
AreNamed Are ps = (w : Word) × (entries : Parts) × (ps ≡ part (name w) entries) × (is_name w ≡ true) × Are entries

-- ( NAME vlist )
abbrev pub IsSomePredicate : Part → Type 0
IsSomePredicate p = (w : Word) × (ps : Parts) × (p ≡ headed w ps) × (is_name w ≡ true) × ((v : Declared) × (xs : List Param) × EachTyped (IsParam v) xs ps)

-- what stands behind a keyword of a domain, up to its end
abbrev pub SpellsSomeTask : Placed → Type 0
SpellsSomeTask p = StandUpToEnd (AreNamed AreTaskParts) p

abbrev pub SpellsSomeMethod : Placed → Type 0
SpellsSomeMethod p = StandUpToEnd (AreNamed AreMethodParts) p

abbrev pub SpellsSomeAction : Placed → Type 0
SpellsSomeAction p = StandUpToEnd (AreNamed AreActionParts) p

-- behind the keyword of a problem's network
abbrev pub SpellsSomeTop : Placed → Type 0
SpellsSomeTop p = StandUpToEnd AreNetworkParts p

-- inside the list of a predicate
abbrev pub SpellsSomePredicate : Placed → Type 0
SpellsSomePredicate p = StandUpToEnd (λ ps. IsSomePredicate (group ps)) p
