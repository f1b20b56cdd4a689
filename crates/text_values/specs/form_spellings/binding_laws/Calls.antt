-- What binding says by numbers of the names of tasks and actions that are called, in words.
-- Source: this project's; tasks and actions share one space of names, and a name stands for its first declaration in the text.
use Rattle.std.specs.Prelude.{ℕ, ◌≡◌, ◌↔◌, List, [], map, Some}
use Rattle.htn_base.specs.Different.{AreDifferent}
use Rattle.text_forms.specs.Words.{Word, first_place}
use Rattle.gd_reader.specs.Terms.{Names}
use Rattle.gd_reader.specs.declared.term.RawAtom.{RawAtom}
use Rattle.hddl_reader.specs.declared.sections.RawDomain.{RawDomain}
use Rattle.hddl_reader.specs.declared.sections.RawHead.{RawHead}
use Rattle.plan_texts.specs.Networks.{head_of}
use Rattle.plan_texts.specs.Types.{EachIs}
use Rattle.text_values.specs.form_spellings.InTable.{IsIn}
use Rattle.htn_base.specs.Lists.{Has}
use Rattle.hddl_reader.specs.names.Uses.{Scope, applies, subtask, task}
use Rattle.hddl_reader.specs.names.Words.{callables, term_word, head_at, IsSecond}
use Rattle.name_binding.specs.Spots.{spot, IsInTextOrder}
use Rattle.hddl_bind.specs.Callables.{Declared, declared, heads, second_callables}
use Rattle.hddl_bind.specs.Calls.{called, method_task, head_called, call_faults}
use Rattle.text_values.specs.form_spellings.binding_laws.Uses.{HasUseFault}

abbrev pub offsets : List RawHead → List ℕ
offsets hs = map (λ (h : RawHead). h.name.at) hs

-- The callables are the tasks and actions of the domain, which stand in the order of the text, each at its own place.
pub record AreCallablesOf (names : Names) (d : RawDomain) (known : Declared) : Type 0 where
  pub differ : AreDifferent names
  pub are : known ≡ declared d.tasks d.actions
  pub words_in : EachIs (λ (h : RawHead). IsIn names h.name.name) (callables d)
  pub tasks_in_order : IsInTextOrder (offsets d.tasks)
  pub actions_in_order : IsInTextOrder (offsets (heads d.actions))
  pub apart : AreDifferent (offsets (callables d))

module _ (names : Names) (d : RawDomain) (known : Declared) where
  -- 14 and 17 at the name of a subtask, and at that of a method's task
  abbrev pub HasCallFaults : Type 0
  HasCallFaults = (objects : List Word) (here : Scope) (a : RawAtom) (code at : ℕ) → AreCallablesOf names d known → IsIn names a.head.name
      → Has (call_faults (called known a) a) (spot at code) ↔ HasUseFault names d objects here (applies subtask a) code at

  abbrev pub HasTaskFaults : Type 0
  HasTaskFaults = (objects : List Word) (here : Scope) (a : RawAtom) (code at : ℕ) → AreCallablesOf names d known → IsIn names a.head.name
      → Has (call_faults (method_task known a) a) (spot at code) ↔ HasUseFault names d objects here (applies task a) code at

  -- 10 at each task and each action that stands behind another of its word
  abbrev pub HasSecondCallables : Type 0
  HasSecondCallables = (code at : ℕ) → AreCallablesOf names d known
      → Has (second_callables known) (spot at code) ↔ ((code ≡ 10) × IsSecond [] (map (head_at names) (callables d)) at)

  abbrev pub called_words : List RawHead → List Word
  called_words hs = map (λ (h : RawHead). term_word names h.name) hs

  -- a call without faults is of the first task of its word, and without any of the first action, where no word is declared twice
  abbrev pub IsCallBound : Type 0
  IsCallBound = (a : RawAtom) → AreCallablesOf names d known → IsIn names a.head.name → AreDifferent (called_words (callables d)) → call_faults (called known a) a ≡ []
      → head_of (first_place (term_word names a.head) (called_words d.tasks)) (first_place (term_word names a.head) (called_words (heads d.actions))) ≡ Some (head_called (called known a))

abbrev pub OfAllCallables : (Names → RawDomain → Declared → Type 0) → Type 0
OfAllCallables P = (names : Names) (d : RawDomain) (known : Declared) → P names d known
