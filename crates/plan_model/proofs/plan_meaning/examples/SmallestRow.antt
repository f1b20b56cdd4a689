-- The smallest problem: m: t -> a, with t on top. Its three steps, with one slot, are a solution.
use Rattle.std.proofs.Common.{ℕ, ◌≡◌, false, List, [], ◌∷◌, map, Some, refl, subst}
use Rattle.std.specs.Prelude.{codes}
use Rattle.plan_model.specs.declared.networks.Head.TheVariants.{Task, Action}
use Rattle.plan_model.specs.declared.schemas.MethodSchema.{MethodSchema}
use Rattle.plan_model.specs.declared.steps.GroundAction.{GroundAction}
use Rattle.plan_model.specs.declared.values.Hddl.{Hddl}
use Rattle.plan_model.specs.declared.values.Compiled.{Compiled}
use Rattle.plan_model.specs.task_networks.Tree.{Tree, split, more, done, none, Address, ran, used}
use Rattle.plan_model.specs.task_networks.Front.{IsFront}
use Rattle.plan_model.specs.task_networks.Spelling.{Act, apply, run}
use Rattle.plan_model.specs.plan_meaning.Truth.{after}
use Rattle.plan_model.specs.plan_meaning.Network.{action, InTypeOf, network, IsGroundMethod}
use Rattle.plan_model.specs.plan_meaning.Solution.{top_work, initial, IsSolution}
use Rattle.plan_model.specs.plan_meaning.SpelledPlan.{step_of, IsSpelling}
use Rattle.plan_model.proofs.plan_meaning.examples.RowValues.{child, always, nothing, problem, method_schema, method_plan, task_schema, action_schema, uses}
use Rattle.plan_model.proofs.plan_meaning.examples.RowWords.{step, slot_1}
use Rattle.plan_model.proofs.plan_meaning.examples.RowChecks.{always_true, untested, ground_by, front_by, spelling_by, solution_by}

abbrev pub smallest_names : List (List ℕ)
smallest_names = codes "object" ∷ codes "d" ∷ codes "p" ∷ codes "htn_start" ∷ codes "t" ∷ codes "a" ∷ codes "m" ∷ []

abbrev pub smallest_top : MethodSchema
smallest_top = method_schema 3 1 always (child (Task 0) ∷ []) []

abbrev pub smallest_method : MethodSchema
smallest_method = method_schema 6 0 always (child (Action 0) ∷ []) []

abbrev pub smallest_hddl : Hddl
smallest_hddl = problem smallest_names [] (task_schema 4 ∷ []) (action_schema 5 always nothing ∷ []) (smallest_method ∷ []) smallest_top

abbrev pub smallest : Compiled
smallest = record { hddl = smallest_hddl; methods = method_plan smallest_top false (0 ∷ []) (Some 0) [] ∷ method_plan smallest_method false (0 ∷ []) (Some 0) [] ∷ [] }

abbrev pub tree : Tree (network smallest)
tree = split (uses 0) (more (split (uses 1) (more (done (action 0 [])) none)) none)

-- the start, t by m, a
abbrev pub order : List Address
order = [] ∷ (0 ∷ []) ∷ (0 ∷ 0 ∷ []) ∷ []

abbrev pub slot : Address → ℕ
slot p = 1

abbrev acts : List (Act (network smallest))
acts = apply 1 [] (uses 0) ∷ apply 1 [] (uses 1) ∷ run 1 (action 0 []) ∷ []

abbrev pub steps : List GroundAction
steps = step (codes "htn_start") (codes "htn_s1" ∷ []) ∷ step (codes "htn_m_m") (codes "htn_s1" ∷ []) ∷ step (codes "a") (codes "htn_s1" ∷ []) ∷ []

in_words : map (step_of smallest) acts ≡ steps
in_words = λ i. step (codes "htn_start") (slot_1 i ∷ []) ∷ step (codes "htn_m_m") (slot_1 i ∷ []) ∷ step (codes "a") (slot_1 i ∷ []) ∷ []

pub ground_0 : IsGroundMethod smallest (uses 0)
ground_0 = ground_by smallest (uses 0) (method_plan smallest_top false (0 ∷ []) (Some 0) []) refl tt tt (([], (_, refl, refl), tt), tt)

ground_1 : IsGroundMethod smallest (uses 1)
ground_1 = ground_by smallest (uses 1) (method_plan smallest_method false (0 ∷ []) (Some 0) []) refl tt tt (([], (_, refl, refl), tt), tt)

front : IsFront (network smallest) (top_work smallest) tree order
front = front_by smallest refl tree order (ground_0, refl, ((ground_1, refl, (tt, tt)), tt)) refl refl

pub spelled : IsSpelling smallest 1 steps tree order slot
spelled = subst (λ z. IsSpelling smallest 1 z tree order slot) in_words (spelling_by smallest 1 acts tree order slot front refl refl ((refl, refl, refl), ((refl, refl, refl), ((refl, refl), tt))))

pub solution : IsSolution smallest tree order
solution = solution_by smallest tree order (used (uses 0) ∷ used (uses 1) ∷ ran (action 0 []) ∷ []) front refl (refl, (refl, (refl, tt))) (λ t. untested t, (λ t. untested t, (always_true (InTypeOf smallest) (initial smallest) [], tt))) (always_true (InTypeOf smallest) (after (InTypeOf smallest) (initial smallest) nothing []) [])
