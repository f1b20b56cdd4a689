-- A precondition that is tested where its method is applied: m: t -> a with the precondition (ready); u makes (ready);
-- t and u on top, in any order. The method has no check: it can be applied after u alone.
use Rattle.std.proofs.Common.{ℕ, zero, suc, ◌≡◌, true, false, inr, List, [], ◌∷◌, map, Some, refl, subst}
use Rattle.std.specs.Prelude.{codes}
use Rattle.plan_model.specs.declared.formulas.Formula.TheVariants.{Holds}
use Rattle.plan_model.specs.declared.effects.Effect.TheVariants as E
use Rattle.plan_model.specs.declared.schemas.MethodPlan.{MethodPlan}
use Rattle.plan_model.specs.declared.steps.GroundAction.{GroundAction}
use Rattle.plan_model.specs.declared.values.Compiled.{Compiled}
use Rattle.plan_model.specs.task_networks.Tree.{Tree, split, more, done, none, Address, ran, used}
use Rattle.plan_model.specs.task_networks.Front.{IsFront}
use Rattle.plan_model.specs.task_networks.Spelling.{Act, apply, run}
use Rattle.plan_model.proofs.task_networks.Lists.{not-in_empty}
use Rattle.plan_model.specs.plan_meaning.Truth.{State, ground, IsTrueIn, after}
use Rattle.plan_model.specs.plan_meaning.Network.{action, InTypeOf, network, IsGroundMethod}
use Rattle.plan_model.specs.plan_meaning.Solution.{top_work, initial, IsSolution, IsExecutableFront}
use Rattle.plan_model.specs.plan_meaning.SpelledPlan.{step_of, IsSpelling}
use Rattle.plan_model.proofs.plan_meaning.TruthEquations.{truth-Holds}
use Rattle.plan_model.proofs.plan_meaning.EffectEquations.{adds-Add}
use Rattle.plan_model.proofs.plan_meaning.examples.TruthExamples.{to, from}
use Rattle.plan_model.proofs.plan_meaning.examples.RowValues.{always, nothing, method_plan, uses}
use Rattle.plan_model.proofs.plan_meaning.examples.RowWords.{step, slot_1, slot_2}
use Rattle.plan_model.proofs.plan_meaning.examples.RowChecks.{always_true, untested, ground_by, front_by, spelling_by, solution_by, allowed_of}
use Rattle.plan_model.proofs.plan_meaning.examples.LateCheckRow.{late_hddl, late_top_plan, late_method, ready}

abbrev pub tested_method_plan : MethodPlan
tested_method_plan = record (method_plan late_method false (0 ∷ []) (Some 0) []) { tested = true }

abbrev pub tested_method : Compiled
tested_method = record { hddl = late_hddl; methods = late_top_plan ∷ tested_method_plan ∷ [] }

abbrev pub tree : Tree (network tested_method)
tree = split (uses 0) (more (split (uses 1) (more (done (action 0 [])) none)) (more (done (action 1 [])) none))

-- the start, u, t by m, a
abbrev pub order : List Address
order = [] ∷ (1 ∷ []) ∷ (0 ∷ []) ∷ (0 ∷ 0 ∷ []) ∷ []

abbrev pub slot : Address → ℕ
slot [] = 1
slot (zero ∷ []) = 2
slot (suc i ∷ []) = 1
slot (i ∷ j ∷ p) = 2

abbrev acts : List (Act (network tested_method))
acts = apply 1 (2 ∷ []) (uses 0) ∷ run 1 (action 1 []) ∷ apply 2 [] (uses 1) ∷ run 2 (action 0 []) ∷ []

abbrev pub steps : List GroundAction
steps =
    step (codes "htn_start") (codes "htn_s1" ∷ codes "htn_s2" ∷ [])
    ∷ step (codes "u") (codes "htn_s1" ∷ [])
    ∷ step (codes "htn_m_m") (codes "htn_s2" ∷ [])
    ∷ step (codes "a") (codes "htn_s2" ∷ [])
    ∷ []

in_words : map (step_of tested_method) acts ≡ steps
in_words = λ i.
    step (codes "htn_start") (slot_1 i ∷ slot_2 i ∷ [])
    ∷ step (codes "u") (slot_1 i ∷ [])
    ∷ step (codes "htn_m_m") (slot_2 i ∷ [])
    ∷ step (codes "a") (slot_2 i ∷ [])
    ∷ []

ground_0 : IsGroundMethod tested_method (uses 0)
ground_0 = ground_by tested_method (uses 0) late_top_plan refl tt tt (([], (_, refl, refl), tt), (([], (_, refl, refl), tt), tt))

ground_1 : IsGroundMethod tested_method (uses 1)
ground_1 = ground_by tested_method (uses 1) tested_method_plan refl tt tt (([], (_, refl, refl), tt), tt)

front : IsFront (network tested_method) (top_work tested_method) tree order
front = front_by tested_method refl tree order (ground_0, refl, ((ground_1, refl, (tt, tt)), (tt, tt))) refl refl

pub spelled : IsSpelling tested_method 2 steps tree order slot
spelled = subst (λ z. IsSpelling tested_method 2 z tree order slot) in_words (spelling_by tested_method 2 acts tree order slot front refl refl ((refl, refl, refl), ((refl, refl), ((refl, refl, refl), ((refl, refl), tt)))))

always_here : (S : State) → IsTrueIn (InTypeOf tested_method) S always []
always_here S = always_true (InTypeOf tested_method) S []

abbrev made_ready : State
made_ready = after (InTypeOf tested_method) (initial tested_method) (E.Add ready) []

ready_then : IsTrueIn (InTypeOf tested_method) made_ready (Holds ready) []
ready_then = from (λ i. truth-Holds (InTypeOf tested_method) made_ready ready i []) (inr (from (λ i. adds-Add (InTypeOf tested_method) (initial tested_method) ready i [] (ground [] ready)) refl))

pub solution : IsSolution tested_method tree order
solution = solution_by tested_method tree order (used (uses 0) ∷ ran (action 1 []) ∷ used (uses 1) ∷ ran (action 0 []) ∷ []) front refl (refl, (refl, (refl, (refl, tt))))
    (λ t. untested t, (always_here (initial tested_method), (λ t. ready_then, (always_here made_ready, tt))))
    (always_here (after (InTypeOf tested_method) made_ready nothing []))

-- applied before u, the method's precondition is false
abbrev pub hasty_order : List Address
hasty_order = [] ∷ (0 ∷ []) ∷ (1 ∷ []) ∷ (0 ∷ 0 ∷ []) ∷ []

pub hasty_front : IsFront (network tested_method) (top_work tested_method) tree hasty_order
hasty_front = front_by tested_method refl tree hasty_order (ground_0, refl, ((ground_1, refl, (tt, tt)), (tt, tt))) refl refl

not_ready : IsTrueIn (InTypeOf tested_method) (initial tested_method) (Holds ready) [] → ⊥
not_ready h = not-in_empty (ground [] ready) (to (λ i. truth-Holds (InTypeOf tested_method) (initial tested_method) ready i []) h)

pub hasty_fails : IsExecutableFront tested_method tree hasty_order → ⊥
hasty_fails f = not_ready ((allowed_of tested_method tree hasty_order (used (uses 0) ∷ used (uses 1) ∷ ran (action 1 []) ∷ ran (action 0 []) ∷ []) (refl, (refl, (refl, (refl, tt)))) f).1.0 refl)
