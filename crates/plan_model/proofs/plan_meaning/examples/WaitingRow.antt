-- An order on top: x < y, with x by mx: x -> p, q. While p or q is left, y can't be taken.
use Rattle.std.proofs.Common.{ℕ, zero, suc, ◌≡◌, false, List, [], ◌∷◌, map, Some, refl, subst}
use Rattle.std.specs.Prelude.{codes}
use Rattle.plan_model.specs.declared.networks.Head.TheVariants.{Task, Action}
use Rattle.plan_model.specs.declared.schemas.MethodPlan.{MethodPlan}
use Rattle.plan_model.specs.declared.steps.GroundAction.{GroundAction}
use Rattle.plan_model.specs.declared.values.Compiled.{Compiled}
use Rattle.plan_model.specs.task_networks.Schedule.{IsSchedule}
use Rattle.plan_model.specs.task_networks.Tree.{Tree, split, more, done, open_leaf, none, Address, ran, used}
use Rattle.plan_model.specs.task_networks.Front.{IsFront}
use Rattle.plan_model.specs.task_networks.Spelling.{Act, apply, run}
use Rattle.plan_model.specs.plan_meaning.Truth.{State, IsTrueIn, after}
use Rattle.plan_model.specs.plan_meaning.Network.{action, InTypeOf, network, IsGroundMethod}
use Rattle.plan_model.specs.plan_meaning.Solution.{top_work, initial, IsSolution}
use Rattle.plan_model.specs.plan_meaning.SpelledPlan.{step_of, IsSpelling}
use Rattle.plan_model.proofs.plan_meaning.examples.RowValues.{child, always, nothing, problem, method_schema, method_plan, task_schema, action_schema, uses}
use Rattle.plan_model.proofs.plan_meaning.examples.RowWords.{step, slot_1, slot_2, slot_3}
use Rattle.plan_model.proofs.plan_meaning.examples.RowChecks.{always_true, untested, ground_by, no_schedule_by, front_by, spelling_by, solution_by}

abbrev names : List (List ℕ)
names = codes "object" ∷ codes "d" ∷ codes "p" ∷ codes "htn_start" ∷ codes "x" ∷ codes "p" ∷ codes "q" ∷ codes "y" ∷ codes "mx" ∷ []

abbrev pub top : MethodPlan
top = method_plan (method_schema 3 1 always (child (Task 0) ∷ child (Action 2) ∷ []) (record { first = 0; then = 1 } ∷ [])) false (0 ∷ 1 ∷ []) (Some 1) []

abbrev pub of_x : MethodPlan
of_x = method_plan (method_schema 8 0 always (child (Action 0) ∷ child (Action 1) ∷ []) []) false (0 ∷ 1 ∷ []) (Some 1) (0 ∷ [])

abbrev pub waiting : Compiled
waiting = record {
  hddl = problem names [] (task_schema 4 ∷ []) (action_schema 5 always nothing ∷ action_schema 6 always nothing ∷ action_schema 7 always nothing ∷ []) (of_x.schema ∷ []) top.schema;
  methods = top ∷ of_x ∷ [];
}

ground_0 : IsGroundMethod waiting (uses 0)
ground_0 = ground_by waiting (uses 0) top refl tt tt (([], (_, refl, refl), tt), (([], (_, refl, refl), tt), tt))

ground_1 : IsGroundMethod waiting (uses 1)
ground_1 = ground_by waiting (uses 1) of_x refl tt tt (([], (_, refl, refl), tt), (([], (_, refl, refl), tt), tt))

abbrev pub tree : Tree (network waiting)
tree = split (uses 0) (more (split (uses 1) (more (done (action 0 [])) (more (done (action 1 [])) none))) (more (done (action 2 [])) none))

-- the start, x by mx, p, q, y
abbrev pub order : List Address
order = [] ∷ (0 ∷ []) ∷ (0 ∷ 0 ∷ []) ∷ (1 ∷ 0 ∷ []) ∷ (1 ∷ []) ∷ []

abbrev pub slot : Address → ℕ
slot [] = 1
slot (zero ∷ []) = 2
slot (suc i ∷ []) = 1
slot (zero ∷ j ∷ p) = 3
slot (suc i ∷ j ∷ p) = 2

abbrev acts : List (Act (network waiting))
acts = apply 1 (2 ∷ []) (uses 0) ∷ apply 2 (3 ∷ []) (uses 1) ∷ run 3 (action 0 []) ∷ run 2 (action 1 []) ∷ run 1 (action 2 []) ∷ []

abbrev pub steps : List GroundAction
steps =
    step (codes "htn_start") (codes "htn_s1" ∷ codes "htn_s2" ∷ [])
    ∷ step (codes "htn_m_mx") (codes "htn_s2" ∷ codes "htn_s3" ∷ [])
    ∷ step (codes "p") (codes "htn_s3" ∷ [])
    ∷ step (codes "q") (codes "htn_s2" ∷ [])
    ∷ step (codes "y") (codes "htn_s1" ∷ [])
    ∷ []

in_words : map (step_of waiting) acts ≡ steps
in_words = λ i.
    step (codes "htn_start") (slot_1 i ∷ slot_2 i ∷ [])
    ∷ step (codes "htn_m_mx") (slot_2 i ∷ slot_3 i ∷ [])
    ∷ step (codes "p") (slot_3 i ∷ [])
    ∷ step (codes "q") (slot_2 i ∷ [])
    ∷ step (codes "y") (slot_1 i ∷ [])
    ∷ []

front : IsFront (network waiting) (top_work waiting) tree order
front = front_by waiting refl tree order (ground_0, refl, ((ground_1, refl, (tt, (tt, tt))), (tt, tt))) refl refl

pub spelled : IsSpelling waiting 3 steps tree order slot
spelled = subst (λ z. IsSpelling waiting 3 z tree order slot) in_words (spelling_by waiting 3 acts tree order slot front refl refl ((refl, refl, refl), ((refl, refl, refl), ((refl, refl), ((refl, refl), ((refl, refl), tt))))))

always_here : (S : State) → IsTrueIn (InTypeOf waiting) S always []
always_here S = always_true (InTypeOf waiting) S []

abbrev then : State → State
then S = after (InTypeOf waiting) S nothing []

pub solution : IsSolution waiting tree order
solution = solution_by waiting tree order (used (uses 0) ∷ used (uses 1) ∷ ran (action 0 []) ∷ ran (action 1 []) ∷ ran (action 2 []) ∷ []) front refl (refl, (refl, (refl, (refl, (refl, tt)))))
    (λ t. untested t, (λ t. untested t, (always_here (initial waiting), (always_here (then (initial waiting)), (always_here (then (then (initial waiting))), tt)))))
    (always_here (then (then (then (initial waiting)))))

-- after p alone y still waits for q: this is the front of the first four steps, with y in place of q
abbrev without_q : Tree (network waiting)
without_q = split (uses 0) (more (split (uses 1) (more (done (action 0 [])) (more (open_leaf (action 1 [])) none))) (more (done (action 2 [])) none))

y_waits_for_q : IsSchedule (network waiting) without_q ([] ∷ (0 ∷ []) ∷ (0 ∷ 0 ∷ []) ∷ (1 ∷ []) ∷ []) → ⊥
y_waits_for_q = no_schedule_by waiting refl without_q ([] ∷ (0 ∷ []) ∷ (0 ∷ 0 ∷ []) ∷ (1 ∷ []) ∷ []) refl

-- and after q alone for p
abbrev without_p : Tree (network waiting)
without_p = split (uses 0) (more (split (uses 1) (more (open_leaf (action 0 [])) (more (done (action 1 [])) none))) (more (done (action 2 [])) none))

y_waits_for_p : IsSchedule (network waiting) without_p ([] ∷ (0 ∷ []) ∷ (1 ∷ 0 ∷ []) ∷ (1 ∷ []) ∷ []) → ⊥
y_waits_for_p = no_schedule_by waiting refl without_p ([] ∷ (0 ∷ []) ∷ (1 ∷ 0 ∷ []) ∷ (1 ∷ []) ∷ []) refl

-- the whole tree with y before q
y_before_q : IsSchedule (network waiting) tree ([] ∷ (0 ∷ []) ∷ (0 ∷ 0 ∷ []) ∷ (1 ∷ []) ∷ (1 ∷ 0 ∷ []) ∷ []) → ⊥
y_before_q = no_schedule_by waiting refl tree ([] ∷ (0 ∷ []) ∷ (0 ∷ 0 ∷ []) ∷ (1 ∷ []) ∷ (1 ∷ 0 ∷ []) ∷ []) refl
