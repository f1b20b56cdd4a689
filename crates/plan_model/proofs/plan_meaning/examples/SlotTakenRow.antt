-- Two children: m: t -> a, b, with t on top, take two slots.
use Rattle.std.proofs.Common.{ℕ, zero, suc, ◌≡◌, false, List, [], ◌∷◌, map, Some, refl, subst}
use Rattle.std.specs.Prelude.{codes}
use Rattle.plan_model.specs.declared.networks.Head.TheVariants.{Task, Action}
use Rattle.plan_model.specs.declared.schemas.MethodPlan.{MethodPlan}
use Rattle.plan_model.specs.declared.steps.GroundAction.{GroundAction}
use Rattle.plan_model.specs.declared.values.Compiled.{Compiled}
use Rattle.plan_model.specs.task_networks.Tree.{Tree, split, more, done, none, Address}
use Rattle.plan_model.specs.task_networks.Front.{IsFront}
use Rattle.plan_model.specs.task_networks.Spelling.{Act, apply, run}
use Rattle.plan_model.specs.plan_meaning.Network.{action, network, IsGroundMethod}
use Rattle.plan_model.specs.plan_meaning.Solution.{top_work}
use Rattle.plan_model.specs.plan_meaning.SpelledPlan.{step_of, IsSpelling}
use Rattle.plan_model.proofs.plan_meaning.examples.RowValues.{child, always, nothing, problem, method_schema, method_plan, task_schema, action_schema, uses}
use Rattle.plan_model.proofs.plan_meaning.examples.RowWords.{step, slot_1, slot_2}
use Rattle.plan_model.proofs.plan_meaning.examples.RowChecks.{ground_by, front_by, spelling_by}

abbrev names : List (List ℕ)
names = codes "object" ∷ codes "d" ∷ codes "p" ∷ codes "htn_start" ∷ codes "t" ∷ codes "a" ∷ codes "b" ∷ codes "m" ∷ []

abbrev top : MethodPlan
top = method_plan (method_schema 3 1 always (child (Task 0) ∷ []) []) false (0 ∷ []) (Some 0) []

abbrev of_t : MethodPlan
of_t = method_plan (method_schema 7 0 always (child (Action 0) ∷ child (Action 1) ∷ []) []) false (0 ∷ 1 ∷ []) (Some 1) (0 ∷ [])

abbrev pub two_children : Compiled
two_children = record {
  hddl = problem names [] (task_schema 4 ∷ []) (action_schema 5 always nothing ∷ action_schema 6 always nothing ∷ []) (of_t.schema ∷ []) top.schema;
  methods = top ∷ of_t ∷ [];
}

-- with a slot of its own for a, the list is a spelling
module _ where
  abbrev tree : Tree (network two_children)
  tree = split (uses 0) (more (split (uses 1) (more (done (action 0 [])) (more (done (action 1 [])) none))) none)

  -- the start, t by m, a, b
  abbrev order : List Address
  order = [] ∷ (0 ∷ []) ∷ (0 ∷ 0 ∷ []) ∷ (1 ∷ 0 ∷ []) ∷ []

  abbrev slot : Address → ℕ
  slot [] = 1
  slot (i ∷ []) = 1
  slot (zero ∷ j ∷ p) = 2
  slot (suc i ∷ j ∷ p) = 1

  abbrev acts : List (Act (network two_children))
  acts = apply 1 [] (uses 0) ∷ apply 1 (2 ∷ []) (uses 1) ∷ run 2 (action 0 []) ∷ run 1 (action 1 []) ∷ []

  abbrev steps : List GroundAction
  steps =
      step (codes "htn_start") (codes "htn_s1" ∷ [])
      ∷ step (codes "htn_m_m") (codes "htn_s1" ∷ codes "htn_s2" ∷ [])
      ∷ step (codes "a") (codes "htn_s2" ∷ [])
      ∷ step (codes "b") (codes "htn_s1" ∷ [])
      ∷ []

  in_words : map (step_of two_children) acts ≡ steps
  in_words = λ i.
      step (codes "htn_start") (slot_1 i ∷ [])
      ∷ step (codes "htn_m_m") (slot_1 i ∷ slot_2 i ∷ [])
      ∷ step (codes "a") (slot_2 i ∷ [])
      ∷ step (codes "b") (slot_1 i ∷ [])
      ∷ []

  ground_0 : IsGroundMethod two_children (uses 0)
  ground_0 = ground_by two_children (uses 0) top refl tt tt (([], (_, refl, refl), tt), tt)

  ground_1 : IsGroundMethod two_children (uses 1)
  ground_1 = ground_by two_children (uses 1) of_t refl tt tt (([], (_, refl, refl), tt), (([], (_, refl, refl), tt), tt))

  front : IsFront (network two_children) (top_work two_children) tree order
  front = front_by two_children refl tree order (ground_0, refl, ((ground_1, refl, (tt, (tt, tt))), tt)) refl refl

  spelled : IsSpelling two_children 2 steps tree order slot
  spelled = subst (λ z. IsSpelling two_children 2 z tree order slot) in_words (spelling_by two_children 2 acts tree order slot front refl refl ((refl, refl, refl), ((refl, refl, refl), ((refl, refl), ((refl, refl), tt)))))
