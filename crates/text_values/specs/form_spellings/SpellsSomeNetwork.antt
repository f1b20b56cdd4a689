-- What stands behind a keyword of a network, up to its end, spells some subtasks, pairs or constraints, once its words are declared suitably.
use Rattle.std.specs.Prelude.{List}
use Rattle.text_forms.specs.Lists.{group}
use Rattle.text_forms.specs.Placed.{Placed}
use Rattle.text_forms.specs.Words.{Word}
use Rattle.plan_texts.specs.Declared.{Declared}
use Rattle.plan_texts.specs.Networks.{IsSubtask, IsOrdered, IsConstraint}
use Rattle.plan_texts.specs.Sections.{bundle}
use Rattle.plan_texts.specs.TypedLists.{Each}
use Rattle.plan_model.specs.declared.networks.Child.{Child}
use Rattle.plan_model.specs.declared.networks.Constraint.{Constraint}
use Rattle.plan_model.specs.declared.networks.Pair.{Pair}
use Rattle.text_values.specs.form_spellings.SpellsSome.{StandUpToEnd, HaveLetters}

-- over some declared words, tasks, actions and scope
abbrev pub SpellsSomeSubtasks : Placed → Type 0
SpellsSomeSubtasks p =
    (v : Declared) × (tasks : List Word) × (actions : List Word) × (scope : List Word) × (cs : List Child) × HaveLetters scope
    × StandUpToEnd (λ ps. Each (IsSubtask v tasks actions scope) cs (bundle (group ps))) p

-- over some ids
abbrev pub SpellsSomePairs : Placed → Type 0
SpellsSomePairs p = (ids : List Word) × (xs : List Pair) × StandUpToEnd (λ ps. Each (IsOrdered ids) xs (bundle (group ps))) p

abbrev pub SpellsSomeConstraints : Placed → Type 0
SpellsSomeConstraints p = (v : Declared) × (scope : List Word) × (xs : List Constraint) × HaveLetters scope × StandUpToEnd (λ ps. Each (IsConstraint v scope) xs (bundle (group ps))) p
