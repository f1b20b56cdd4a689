-- A network without subtasks: the start alone is a solution.
use Rattle.std.proofs.Common.{◌≡◌, false, List, [], ◌∷◌, map, Some, None, refl, subst}
use Rattle.std.specs.Prelude.{codes}
use Rattle.plan_model.specs.declared.schemas.MethodSchema.{MethodSchema}
use Rattle.plan_model.specs.declared.steps.GroundAction.{GroundAction}
use Rattle.plan_model.specs.declared.values.Compiled.{Compiled}
use Rattle.plan_model.specs.task_networks.Tree.{Tree, split, none, used}
use Rattle.plan_model.specs.task_networks.Front.{IsFront}
use Rattle.plan_model.specs.task_networks.Spelling.{Act, apply}
use Rattle.plan_model.specs.plan_meaning.Network.{InTypeOf, network, IsGroundMethod}
use Rattle.plan_model.specs.plan_meaning.Solution.{top_work, initial, IsSolution}
use Rattle.plan_model.specs.plan_meaning.SpelledPlan.{step_of, IsSpelling}
use Rattle.plan_model.proofs.plan_meaning.examples.RowValues.{always, nothing, problem, method_schema, method_plan, task_schema, action_schema, uses}
use Rattle.plan_model.proofs.plan_meaning.examples.RowWords.{step, slot_1}
use Rattle.plan_model.proofs.plan_meaning.examples.RowChecks.{always_true, untested, ground_by, front_by, spelling_by, solution_by}
use Rattle.plan_model.proofs.plan_meaning.examples.SmallestRow.{smallest_names, smallest_method}

abbrev top : MethodSchema
top = method_schema 3 1 always [] []

abbrev pub empty : Compiled
empty = record {
  hddl = problem smallest_names [] (task_schema 4 ∷ []) (action_schema 5 always nothing ∷ []) (smallest_method ∷ []) top;
  methods = method_plan top false [] None [] ∷ method_plan smallest_method false (0 ∷ []) (Some 0) [] ∷ [];
}

abbrev pub tree : Tree (network empty)
tree = split (uses 0) none

abbrev acts : List (Act (network empty))
acts = apply 1 [] (uses 0) ∷ []

abbrev pub steps : List GroundAction
steps = step (codes "htn_start") (codes "htn_s1" ∷ []) ∷ []

in_words : map (step_of empty) acts ≡ steps
in_words = λ i. step (codes "htn_start") (slot_1 i ∷ []) ∷ []

ground_0 : IsGroundMethod empty (uses 0)
ground_0 = ground_by empty (uses 0) (method_plan top false [] None []) refl tt tt tt

front : IsFront (network empty) (top_work empty) tree ([] ∷ [])
front = front_by empty refl tree ([] ∷ []) (ground_0, refl, tt) refl refl

pub spelled : IsSpelling empty 1 steps tree ([] ∷ []) (λ p. 1)
spelled = subst (λ z. IsSpelling empty 1 z tree ([] ∷ []) (λ p. 1)) in_words (spelling_by empty 1 acts tree ([] ∷ []) (λ p. 1) front refl refl ((refl, refl, refl), tt))

pub solution : IsSolution empty tree ([] ∷ [])
solution = solution_by empty tree ([] ∷ []) (used (uses 0) ∷ []) front refl (refl, tt) (λ t. untested t, tt) (always_true (InTypeOf empty) (initial empty) [])
