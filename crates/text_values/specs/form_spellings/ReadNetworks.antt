-- What was read behind a network's keyword is bound to exactly the values that it spells: for all declared words, tasks, actions and scopes.
use Rattle.std.specs.Prelude.{◌↔◌, List}
use Rattle.text_forms.specs.Lists.{group}
use Rattle.text_forms.specs.Placed.{Placed}
use Rattle.text_forms.specs.Words.{Word}
use Rattle.plan_texts.specs.Declared.{Declared}
use Rattle.plan_texts.specs.Networks.{IsSubtask, IsOrdered, IsConstraint}
use Rattle.plan_texts.specs.Sections.{bundle}
use Rattle.plan_texts.specs.Together.{Together}
use Rattle.plan_texts.specs.TypedLists.{Each}
use Rattle.plan_model.specs.declared.networks.Child.{Child}
use Rattle.plan_model.specs.declared.networks.Constraint.{Constraint}
use Rattle.plan_model.specs.declared.networks.Pair.{Pair}
use Rattle.gd_reader.specs.Terms.{Names}
use Rattle.hddl_reader.specs.declared.networks.RawCon.{RawCon}
use Rattle.hddl_reader.specs.declared.networks.RawPair.{RawPair}
use Rattle.hddl_reader.specs.declared.networks.RawSub.{RawSub}
use Rattle.text_values.specs.form_spellings.BoundNetworks.{IsBoundSubtask, IsBoundPair, IsBoundConstraint}
use Rattle.text_values.specs.form_spellings.SpellsSome.{StandUpToEnd}

abbrev pub AreReadSubtasks : Names → List RawSub → Placed → Type 0
AreReadSubtasks table rs p =
    (v : Declared) (tasks actions scope : List Word) (cs : List Child)
    → Together (IsBoundSubtask v table tasks actions scope) rs cs ↔ StandUpToEnd (λ ps. Each (IsSubtask v tasks actions scope) cs (bundle (group ps))) p

abbrev pub AreReadPairs : Names → List RawPair → Placed → Type 0
AreReadPairs table rs p = (ids : List Word) (xs : List Pair) → Together (IsBoundPair table ids) rs xs ↔ StandUpToEnd (λ ps. Each (IsOrdered ids) xs (bundle (group ps))) p

abbrev pub AreReadConstraints : Names → List RawCon → Placed → Type 0
AreReadConstraints table rs p = (v : Declared) (scope : List Word) (xs : List Constraint) → Together (IsBoundConstraint v table scope) rs xs ↔ StandUpToEnd (λ ps. Each (IsConstraint v scope) xs (bundle (group ps))) p
