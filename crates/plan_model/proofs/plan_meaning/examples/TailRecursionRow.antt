-- Tail recursion: m1: t -> a < t and m0: t -> nothing. m1 and then m0 need two slots.
use Rattle.std.proofs.Common.{ℕ, zero, suc, ◌≡◌, false, List, [], ◌∷◌, map, Some, None, refl, subst, arith}
use Rattle.std.specs.Prelude.{codes}
use Rattle.plan_model.specs.declared.networks.Head.TheVariants.{Task, Action}
use Rattle.plan_model.specs.declared.schemas.MethodPlan.{MethodPlan}
use Rattle.plan_model.specs.declared.steps.GroundAction.{GroundAction}
use Rattle.plan_model.specs.declared.values.Compiled.{Compiled}
use Rattle.plan_model.specs.task_networks.Tree.{Tree, split, more, done, none, Address, ran, used}
use Rattle.plan_model.specs.task_networks.Front.{IsFront}
use Rattle.plan_model.specs.task_networks.Spelling.{Act, apply, run}
use Rattle.plan_model.specs.plan_meaning.Truth.{after}
use Rattle.plan_model.specs.plan_meaning.Network.{action, InTypeOf, network, IsGroundMethod}
use Rattle.plan_model.specs.plan_meaning.Solution.{top_work, initial, IsSolution}
use Rattle.plan_model.specs.plan_meaning.SpelledPlan.{step_of, IsSpelling}
use Rattle.plan_model.proofs.plan_meaning.examples.RowValues.{child, always, nothing, problem, method_schema, method_plan, task_schema, action_schema, uses}
use Rattle.plan_model.proofs.plan_meaning.examples.RowWords.{step, slot_1, slot_2}
use Rattle.plan_model.proofs.plan_meaning.examples.RowChecks.{always_true, untested, ground_by, front_by, spelling_by, solution_by, one_slot}

abbrev names : List (List ℕ)
names = codes "object" ∷ codes "d" ∷ codes "p" ∷ codes "htn_start" ∷ codes "t" ∷ codes "a" ∷ codes "m1" ∷ codes "m0" ∷ []

abbrev pub top : MethodPlan
top = method_plan (method_schema 3 1 always (child (Task 0) ∷ []) []) false (0 ∷ []) (Some 0) []

abbrev pub again : MethodPlan
again = method_plan (method_schema 6 0 always (child (Action 0) ∷ child (Task 0) ∷ []) (record { first = 0; then = 1 } ∷ [])) false (0 ∷ 1 ∷ []) (Some 1) []

abbrev pub stop : MethodPlan
stop = method_plan (method_schema 7 0 always [] []) false [] None []

abbrev pub tail_recursion : Compiled
tail_recursion = record {
  hddl = problem names [] (task_schema 4 ∷ []) (action_schema 5 always nothing ∷ []) (again.schema ∷ stop.schema ∷ []) top.schema;
  methods = top ∷ again ∷ stop ∷ [];
}

ground_0 : IsGroundMethod tail_recursion (uses 0)
ground_0 = ground_by tail_recursion (uses 0) top refl tt tt (([], (_, refl, refl), tt), tt)

ground_1 : IsGroundMethod tail_recursion (uses 1)
ground_1 = ground_by tail_recursion (uses 1) again refl tt tt (([], (_, refl, refl), tt), (([], (_, refl, refl), tt), tt))

ground_2 : IsGroundMethod tail_recursion (uses 2)
ground_2 = ground_by tail_recursion (uses 2) stop refl tt tt tt

abbrev pub tree : Tree (network tail_recursion)
tree = split (uses 0) (more (split (uses 1) (more (done (action 0 [])) (more (split (uses 2) none) none))) none)

-- the start, t by m1, a, t by m0
abbrev pub order : List Address
order = [] ∷ (0 ∷ []) ∷ (0 ∷ 0 ∷ []) ∷ (1 ∷ 0 ∷ []) ∷ []

abbrev pub slot : Address → ℕ
slot [] = 1
slot (i ∷ []) = 1
slot (zero ∷ j ∷ p) = 2
slot (suc i ∷ j ∷ p) = 1

abbrev acts : List (Act (network tail_recursion))
acts = apply 1 [] (uses 0) ∷ apply 1 (2 ∷ []) (uses 1) ∷ run 2 (action 0 []) ∷ apply 1 [] (uses 2) ∷ []

abbrev pub steps : List GroundAction
steps =
    step (codes "htn_start") (codes "htn_s1" ∷ [])
    ∷ step (codes "htn_m_m1") (codes "htn_s1" ∷ codes "htn_s2" ∷ [])
    ∷ step (codes "a") (codes "htn_s2" ∷ [])
    ∷ step (codes "htn_m_m0") (codes "htn_s1" ∷ [])
    ∷ []

in_words : map (step_of tail_recursion) acts ≡ steps
in_words = λ i.
    step (codes "htn_start") (slot_1 i ∷ [])
    ∷ step (codes "htn_m_m1") (slot_1 i ∷ slot_2 i ∷ [])
    ∷ step (codes "a") (slot_2 i ∷ [])
    ∷ step (codes "htn_m_m0") (slot_1 i ∷ [])
    ∷ []

front : IsFront (network tail_recursion) (top_work tail_recursion) tree order
front = front_by tail_recursion refl tree order (ground_0, refl, ((ground_1, refl, (tt, ((ground_2, refl, tt), tt))), tt)) refl refl

pub spelled : IsSpelling tail_recursion 2 steps tree order slot
spelled = subst (λ z. IsSpelling tail_recursion 2 z tree order slot) in_words (spelling_by tail_recursion 2 acts tree order slot front refl refl ((refl, refl, refl), ((refl, refl, refl), ((refl, refl), ((refl, refl, refl), tt)))))

pub solution : IsSolution tail_recursion tree order
solution = solution_by tail_recursion tree order (used (uses 0) ∷ used (uses 1) ∷ ran (action 0 []) ∷ used (uses 2) ∷ []) front refl (refl, (refl, (refl, (refl, tt))))
    (λ t. untested t, (λ t. untested t, (always_true (InTypeOf tail_recursion) (initial tail_recursion) [], (λ t. untested t, tt))))
    (always_true (InTypeOf tail_recursion) (after (InTypeOf tail_recursion) (initial tail_recursion) nothing []) [])

-- one slot isn't enough for it: a and t are pending at a time
not_with_one : (list : List GroundAction) (by : Address → ℕ) → IsSpelling tail_recursion 1 list tree order by → ⊥
not_with_one list by s = absurd (let e = one_slot tail_recursion list tree order by s ([] ∷ (0 ∷ []) ∷ []) ((0 ∷ 0 ∷ []) ∷ (1 ∷ 0 ∷ []) ∷ []) refl (0 ∷ 0 ∷ []) (1 ∷ 0 ∷ []) (0, omega arith, refl) (1, omega arith, refl) in cc)
