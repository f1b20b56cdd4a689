-- The words that are put into the table of the printed problem.
-- Source: this project's encoding, after Alford et al., "Bound to Plan", ICAPS 2016.
use Rattle.std.specs.Prelude.{ℕ, ◌≡◌, ◌<◌, ◌-◌, ◌^◌, max, cond, List, [], ◌∷◌, ◌++◌, map, length, codes, Some}
use Rattle.std.specs.List.{fold}
use Rattle.htn_base.specs.Table.{number_of}
use Rattle.htn_base.specs.Escapes.{slot_word}
use Rattle.text_forms.specs.Words.{Word}
use Rattle.plan_texts.specs.Types.{Has, EachIs}
use Rattle.plan_model.specs.task_networks.Spelling.{numbers}
use Rattle.plan_model.specs.declared.schemas.TaskSchema.{TaskSchema}
use Rattle.plan_model.specs.declared.schemas.ActionSchema.{ActionSchema}
use Rattle.plan_model.specs.declared.schemas.MethodPlan.{MethodPlan}
use Rattle.plan_model.specs.declared.values.Compiled.{Compiled}
use Rattle.slot_encoding.specs.SourceParts.{source_word}
use Rattle.slot_encoding.specs.EncodedNames.{joined, guard_types, guard_word}
use Rattle.slot_encoding.specs.EncodedWords.{numbered}

-- each of the words is in the table now; all that was is there still, with the number that it had; a table of fewer than 2^32 words stays one
pub record Gains (words : List Word) (old new : List Word) : Type 0 where
  pub gained : EachIs (Has new) words
  pub kept : (w : Word) → Has old w → Has new w
  pub numbers : (w : Word) (k : ℕ) → number_of old w ≡ Some k → number_of new w ≡ Some k
  pub short : length old < 2 ^ 32 → length new < 2 ^ 32

-- the words that every problem has: of types, of variables, and of the predicates of slots and the top method's action
abbrev pub words_of_types : List Word
words_of_types = codes "object" ∷ codes "htn_slot" ∷ codes "htn_object" ∷ []

abbrev pub words_of_variables : List Word
words_of_variables = codes "htn_h" ∷ codes "htn_x" ∷ codes "htn_a1" ∷ []

abbrev pub words_of_slots : List Word
words_of_slots = codes "htn_top" ∷ codes "htn_free" ∷ codes "htn_before" ∷ codes "htn_start" ∷ []

abbrev pub single_words : List Word
single_words = words_of_types ++ words_of_variables ++ words_of_slots

-- the words of a task, an action and a method, over the words of the source
module _ (source : List Word) where
  abbrev pub task_word : TaskSchema → Word
  task_word s = codes "htn_t_" ++ source_word source s.name

  abbrev pub action_word : ActionSchema → Word
  action_word s = codes "htn_a_" ++ source_word source s.name

  abbrev pub check_word : MethodPlan → Word
  check_word plan = codes "htn_c_" ++ source_word source plan.schema.name

  -- of a method, if it has a check
  abbrev pub words_if_checked : MethodPlan → List Word
  words_if_checked plan = cond plan.checked (check_word plan ∷ []) []

  abbrev pub words_of_method : MethodPlan → List Word
  words_of_method plan = (codes "htn_m_" ++ source_word source plan.schema.name) ∷ words_if_checked plan

-- the greatest of the sizes, 0 where there are none
abbrev pub most : {X : Type 0} → (X → ℕ) → List X → ℕ
most size xs = fold (λ a x. max a (size x)) 0 xs

abbrev pub most_task_params : List TaskSchema → ℕ
most_task_params = most (λ (s : TaskSchema). length s.params)

abbrev pub most_action_params : List ActionSchema → ℕ
most_action_params = most (λ (s : ActionSchema). length s.params)

abbrev pub most_method_params : List MethodPlan → ℕ
most_method_params = most (λ (plan : MethodPlan). length plan.schema.params)

abbrev pub most_children : List MethodPlan → ℕ
most_children = most (λ (plan : MethodPlan). length plan.schema.children)

module _ (c : Compiled) where
  abbrev pub most_params : ℕ
  most_params = max (max (most_task_params c.hddl.tasks) (most_action_params c.hddl.actions)) (most_method_params c.methods)

  -- of parameters and of new slots, as many as any schema needs
  abbrev pub numbered_words : List Word
  numbered_words = numbered (codes "htn_a") most_params ++ numbered (codes "htn_h") (most_children c.methods - 1)

  -- all words of the printed problem with b slots but those of the source
  abbrev pub generated_words : ℕ → List Word
  generated_words b =
      single_words ++ map slot_word (numbers 1 b) ++ map (task_word c.hddl.names) c.hddl.tasks ++ map (action_word c.hddl.names) c.hddl.actions
      ++ joined (map (words_of_method c.hddl.names) c.methods) ++ map (guard_word c [] 0) (guard_types c) ++ numbered_words
