-- A check that is passed late: m: t -> a with the precondition (ready); u makes (ready); t and u on top, in any order.
-- Another branch of the tree makes the condition of the check true.
use Rattle.std.proofs.Common.{ℕ, zero, suc, ◌≡◌, true, false, inr, List, [], ◌∷◌, map, Some, refl, subst}
use Rattle.std.specs.Prelude.{codes}
use Rattle.plan_model.specs.declared.terms.Atom.{Atom}
use Rattle.plan_model.specs.declared.formulas.Formula.TheVariants.{Holds}
use Rattle.plan_model.specs.declared.effects.Effect.TheVariants as E
use Rattle.plan_model.specs.declared.networks.Head.TheVariants.{Task, Action, Check}
use Rattle.plan_model.specs.declared.schemas.MethodSchema.{MethodSchema}
use Rattle.plan_model.specs.declared.schemas.MethodPlan.{MethodPlan}
use Rattle.plan_model.specs.declared.steps.GroundAction.{GroundAction}
use Rattle.plan_model.specs.declared.values.Hddl.{Hddl}
use Rattle.plan_model.specs.declared.values.Compiled.{Compiled}
use Rattle.plan_model.specs.task_networks.Tree.{Tree, split, more, done, none, Address, Label, ran, used}
use Rattle.plan_model.specs.task_networks.Front.{IsFront}
use Rattle.plan_model.specs.task_networks.Spelling.{Act, apply, run}
use Rattle.plan_model.proofs.task_networks.Lists.{not-in_empty}
use Rattle.plan_model.specs.plan_meaning.Truth.{State, ground, IsTrueIn, after}
use Rattle.plan_model.specs.plan_meaning.Network.{action, check, InTypeOf, network, IsGroundMethod}
use Rattle.plan_model.specs.plan_meaning.Solution.{top_work, initial, IsSolution, IsExecutableFront}
use Rattle.plan_model.specs.plan_meaning.SpelledPlan.{step_of, IsSpelling}
use Rattle.plan_model.proofs.plan_meaning.TruthEquations.{truth-Holds}
use Rattle.plan_model.proofs.plan_meaning.EffectEquations.{adds-Add}
use Rattle.plan_model.proofs.plan_meaning.examples.TruthExamples.{to, from}
use Rattle.plan_model.proofs.plan_meaning.examples.RowValues.{child, always, nothing, problem, method_schema, method_plan, task_schema, action_schema, uses}
use Rattle.plan_model.proofs.plan_meaning.examples.RowWords.{step, slot_1, slot_2, slot_3}
use Rattle.plan_model.proofs.plan_meaning.examples.RowChecks.{always_true, untested, ground_by, front_by, spelling_by, solution_by, allowed_of}

abbrev pub late_names : List (List ℕ)
late_names = codes "object" ∷ codes "d" ∷ codes "p" ∷ codes "htn_start" ∷ codes "t" ∷ codes "a" ∷ codes "u" ∷ codes "m" ∷ codes "ready" ∷ []

abbrev pub ready : Atom
ready = record { predicate = 0; args = [] }

abbrev pub late_top : MethodSchema
late_top = method_schema 3 1 always (child (Task 0) ∷ child (Action 1) ∷ []) []

abbrev pub late_method : MethodSchema
late_method = method_schema 7 0 (Holds ready) (child (Action 0) ∷ []) []

abbrev pub late_hddl : Hddl
late_hddl = problem late_names (record { name = record { number = 8 }; params = [] } ∷ []) (task_schema 4 ∷ []) (action_schema 5 always nothing ∷ action_schema 6 always (E.Add ready) ∷ []) (late_method ∷ []) late_top

abbrev pub late_top_plan : MethodPlan
late_top_plan = method_plan late_top false (0 ∷ 1 ∷ []) (Some 1) (0 ∷ [])

abbrev pub late_method_plan : MethodPlan
late_method_plan = method_plan (method_schema 7 0 (Holds ready) (child Check ∷ child (Action 0) ∷ []) (record { first = 0; then = 1 } ∷ [])) true (0 ∷ 1 ∷ []) (Some 1) []

abbrev pub late_check : Compiled
late_check = record { hddl = late_hddl; methods = late_top_plan ∷ late_method_plan ∷ [] }

abbrev pub tree : Tree (network late_check)
tree = split (uses 0) (more (split (uses 1) (more (done (check 1 [])) (more (done (action 0 [])) none))) (more (done (action 1 [])) none))

-- the start, t by m, u, the check of m, a
abbrev pub order : List Address
order = [] ∷ (0 ∷ []) ∷ (1 ∷ []) ∷ (0 ∷ 0 ∷ []) ∷ (1 ∷ 0 ∷ []) ∷ []

abbrev pub slot : Address → ℕ
slot [] = 1
slot (zero ∷ []) = 2
slot (suc i ∷ []) = 1
slot (zero ∷ j ∷ p) = 3
slot (suc i ∷ j ∷ p) = 2

abbrev acts : List (Act (network late_check))
acts = apply 1 (2 ∷ []) (uses 0) ∷ apply 2 (3 ∷ []) (uses 1) ∷ run 1 (action 1 []) ∷ run 3 (check 1 []) ∷ run 2 (action 0 []) ∷ []

abbrev pub steps : List GroundAction
steps =
    step (codes "htn_start") (codes "htn_s1" ∷ codes "htn_s2" ∷ [])
    ∷ step (codes "htn_m_m") (codes "htn_s2" ∷ codes "htn_s3" ∷ [])
    ∷ step (codes "u") (codes "htn_s1" ∷ [])
    ∷ step (codes "htn_c_m") (codes "htn_s3" ∷ [])
    ∷ step (codes "a") (codes "htn_s2" ∷ [])
    ∷ []

in_words : map (step_of late_check) acts ≡ steps
in_words = λ i.
    step (codes "htn_start") (slot_1 i ∷ slot_2 i ∷ [])
    ∷ step (codes "htn_m_m") (slot_2 i ∷ slot_3 i ∷ [])
    ∷ step (codes "u") (slot_1 i ∷ [])
    ∷ step (codes "htn_c_m") (slot_3 i ∷ [])
    ∷ step (codes "a") (slot_2 i ∷ [])
    ∷ []

ground_0 : IsGroundMethod late_check (uses 0)
ground_0 = ground_by late_check (uses 0) late_top_plan refl tt tt (([], (_, refl, refl), tt), (([], (_, refl, refl), tt), tt))

ground_1 : IsGroundMethod late_check (uses 1)
ground_1 = ground_by late_check (uses 1) late_method_plan refl tt tt (([], (_, refl, refl), tt), (([], (_, refl, refl), tt), tt))

front : IsFront (network late_check) (top_work late_check) tree order
front = front_by late_check refl tree order (ground_0, refl, ((ground_1, refl, (tt, (tt, tt))), (tt, tt))) refl refl

-- the list spells the front with three slots
pub spelled : IsSpelling late_check 3 steps tree order slot
spelled = subst (λ z. IsSpelling late_check 3 z tree order slot) in_words (spelling_by late_check 3 acts tree order slot front refl refl ((refl, refl, refl), ((refl, refl, refl), ((refl, refl), ((refl, refl), ((refl, refl), tt))))))

-- each condition is true in the state before it: u makes what the check of m asks
abbrev labels : List (Label (network late_check))
labels = used (uses 0) ∷ used (uses 1) ∷ ran (action 1 []) ∷ ran (check 1 []) ∷ ran (action 0 []) ∷ []

always_here : (S : State) → IsTrueIn (InTypeOf late_check) S always []
always_here S = always_true (InTypeOf late_check) S []

abbrev made_ready : State
made_ready = after (InTypeOf late_check) (initial late_check) (E.Add ready) []

ready_then : IsTrueIn (InTypeOf late_check) made_ready (Holds ready) []
ready_then = from (λ i. truth-Holds (InTypeOf late_check) made_ready ready i []) (inr (from (λ i. adds-Add (InTypeOf late_check) (initial late_check) ready i [] (ground [] ready)) refl))

pub solution : IsSolution late_check tree order
solution = solution_by late_check tree order labels front refl (refl, (refl, (refl, (refl, (refl, tt))))) (λ t. untested t, (λ t. untested t, (always_here (initial late_check), (ready_then, (always_here made_ready, tt))))) (always_here (after (InTypeOf late_check) made_ready nothing []))

-- with the check before u the front can't be executed: nothing is ready then
abbrev pub hasty_order : List Address
hasty_order = [] ∷ (0 ∷ []) ∷ (0 ∷ 0 ∷ []) ∷ (1 ∷ []) ∷ (1 ∷ 0 ∷ []) ∷ []

pub hasty_front : IsFront (network late_check) (top_work late_check) tree hasty_order
hasty_front = front_by late_check refl tree hasty_order (ground_0, refl, ((ground_1, refl, (tt, (tt, tt))), (tt, tt))) refl refl

not_ready : IsTrueIn (InTypeOf late_check) (initial late_check) (Holds ready) [] → ⊥
not_ready h = not-in_empty (ground [] ready) (to (λ i. truth-Holds (InTypeOf late_check) (initial late_check) ready i []) h)

pub hasty_fails : IsExecutableFront late_check tree hasty_order → ⊥
hasty_fails f = not_ready (allowed_of late_check tree hasty_order (used (uses 0) ∷ used (uses 1) ∷ ran (check 1 []) ∷ ran (action 1 []) ∷ ran (action 0 []) ∷ []) (refl, (refl, (refl, (refl, (refl, tt))))) f).1.1.0
