-- A free variable: the method m of t has the parameter ?o, which stands in its precondition (good ?o) alone.
-- Of the objects o1, o2 and o3 the last two are good.
use Rattle.std.proofs.Common.{ℕ, zero, suc, ◌≡◌, true, false, inl, List, [], ◌∷◌, map, Some, None, refl, ap, subst, arith}
use Rattle.std.specs.Prelude.{codes}
use Rattle.plan_model.specs.declared.terms.Term.TheVariants.{Var}
use Rattle.plan_model.specs.declared.terms.Atom.{Atom}
use Rattle.plan_model.specs.declared.terms.GroundAtom.{GroundAtom}
use Rattle.plan_model.specs.declared.terms.Param.{Param}
use Rattle.plan_model.specs.declared.types.Object.{Object}
use Rattle.plan_model.specs.declared.formulas.Formula.TheVariants.{Holds}
use Rattle.plan_model.specs.declared.networks.Head.TheVariants.{Task, Action, Check}
use Rattle.plan_model.specs.declared.schemas.MethodSchema.{MethodSchema}
use Rattle.plan_model.specs.declared.schemas.MethodPlan.{MethodPlan}
use Rattle.plan_model.specs.declared.steps.GroundAction.{GroundAction}
use Rattle.plan_model.specs.declared.values.Hddl.{Hddl}
use Rattle.plan_model.specs.declared.values.Compiled.{Compiled}
use Rattle.plan_model.specs.task_networks.Tree.{Tree, split, more, done, none, Address, Label, ran, used}
use Rattle.plan_model.specs.task_networks.Front.{IsFront}
use Rattle.plan_model.specs.task_networks.Spelling.{Act, apply, run}
use Rattle.plan_model.specs.plan_meaning.Truth.{IsTrueIn}
use Rattle.plan_model.specs.plan_meaning.Network.{action, check, GroundMethod, InTypeOf, network, IsGroundMethod}
use Rattle.plan_model.specs.plan_meaning.Solution.{top_work, initial, IsSolution, IsExecutableFront}
use Rattle.plan_model.specs.plan_meaning.SpelledPlan.{step_of, IsSpelling}
use Rattle.plan_model.specs.plan_meaning.Truth.{after}
use Rattle.plan_model.proofs.plan_meaning.TruthEquations.{truth-Holds}
use Rattle.plan_model.proofs.plan_meaning.examples.TruthExamples.{to, from, object_of}
use Rattle.plan_model.proofs.plan_meaning.ListedItems.{of_each}
use Rattle.plan_model.proofs.plan_meaning.examples.RowValues.{child, always, nothing, problem, method_schema, method_plan, task_schema, action_schema, uses}
use Rattle.plan_model.proofs.plan_meaning.examples.RowWords.{step, slot_1, slot_2}
use Rattle.plan_model.proofs.plan_meaning.examples.RowChecks.{always_true, untested, ground_by, front_by, spelling_by, solution_by, allowed_of}

abbrev names : List (List ℕ)
names = codes "object" ∷ codes "d" ∷ codes "p" ∷ codes "htn_start" ∷ codes "t" ∷ codes "a" ∷ codes "m" ∷ codes "o" ∷ codes "good" ∷ codes "o1" ∷ codes "o2" ∷ codes "o3" ∷ []

abbrev object : ℕ → Object
object n = record { name = record { number = n }; ty = 0; constant = false }

abbrev param_o : Param
param_o = record { name = record { number = 7 }; ty = 0 }

abbrev pub good_o : Atom
good_o = record { predicate = 0; args = Var 0 ∷ [] }

abbrev good : ℕ → GroundAtom
good o = record { predicate = 0; args = o ∷ [] }

abbrev top : MethodPlan
top = method_plan (method_schema 3 1 always (child (Task 0) ∷ []) []) false (0 ∷ []) (Some 0) []

abbrev method : MethodSchema
method = record (method_schema 6 0 (Holds good_o) (child (Action 0) ∷ []) []) { params = param_o ∷ [] }

abbrev plan : MethodPlan
plan = method_plan (record method { children = record { id = None; head = Check; args = Var 0 ∷ [] } ∷ child (Action 0) ∷ []; pairs = record { first = 0; then = 1 } ∷ [] }) true (0 ∷ 1 ∷ []) (Some 1) []

abbrev hddl : Hddl
hddl = record (problem names (record { name = record { number = 8 }; params = param_o ∷ [] } ∷ []) (task_schema 4 ∷ []) (action_schema 5 always nothing ∷ []) (method ∷ []) top.schema) {
  objects = object 9 ∷ object 10 ∷ object 11 ∷ [];
  init = good 1 ∷ good 2 ∷ [];
}

abbrev pub free_variable : Compiled
free_variable = record { hddl = hddl; methods = top ∷ plan ∷ [] }

-- the method with object number k
abbrev pub with : ℕ → GroundMethod
with k = record { number = 1; values = k ∷ [] }

abbrev pub tree : ℕ → Tree (network free_variable)
tree k = split (uses 0) (more (split (with k) (more (done (check 1 (k ∷ []))) (more (done (action 0 [])) none))) none)

-- the start, t by m, its check, a
abbrev pub order : List Address
order = [] ∷ (0 ∷ []) ∷ (0 ∷ 0 ∷ []) ∷ (1 ∷ 0 ∷ []) ∷ []

abbrev pub slot : Address → ℕ
slot [] = 1
slot (i ∷ []) = 1
slot (zero ∷ j ∷ p) = 2
slot (suc i ∷ j ∷ p) = 1

ground_0 : IsGroundMethod free_variable (uses 0)
ground_0 = ground_by free_variable (uses 0) top refl tt tt (([], (_, refl, refl), tt), tt)

-- object 0 is o1, object 1 is o2
ground_o1 : IsGroundMethod free_variable (with 0)
ground_o1 = ground_by free_variable (with 0) plan refl ((_, refl, inl (inl refl)), tt) tt ((param_o ∷ [], (_, refl, refl), ((_, refl, inl (inl refl)), tt)), (([], (_, refl, refl), tt), tt))

ground_o2 : IsGroundMethod free_variable (with 1)
ground_o2 = ground_by free_variable (with 1) plan refl ((_, refl, inl (inl refl)), tt) tt ((param_o ∷ [], (_, refl, refl), ((_, refl, inl (inl refl)), tt)), (([], (_, refl, refl), tt), tt))

abbrev acts : List (Act (network free_variable))
acts = apply 1 [] (uses 0) ∷ apply 1 (2 ∷ []) (with 1) ∷ run 2 (check 1 (1 ∷ [])) ∷ run 1 (action 0 []) ∷ []

abbrev pub steps : List GroundAction
steps =
    step (codes "htn_start") (codes "htn_s1" ∷ [])
    ∷ step (codes "htn_m_m") (codes "htn_s1" ∷ codes "htn_s2" ∷ codes "o2" ∷ [])
    ∷ step (codes "htn_c_m") (codes "htn_s2" ∷ codes "o2" ∷ [])
    ∷ step (codes "a") (codes "htn_s1" ∷ [])
    ∷ []

in_words : map (step_of free_variable) acts ≡ steps
in_words = λ i.
    step (codes "htn_start") (slot_1 i ∷ [])
    ∷ step (codes "htn_m_m") (slot_1 i ∷ slot_2 i ∷ codes "o2" ∷ [])
    ∷ step (codes "htn_c_m") (slot_2 i ∷ codes "o2" ∷ [])
    ∷ step (codes "a") (slot_1 i ∷ [])
    ∷ []

front : IsFront (network free_variable) (top_work free_variable) (tree 1) order
front = front_by free_variable refl (tree 1) order (ground_0, refl, ((ground_o2, refl, (tt, (tt, tt))), tt)) refl refl

pub spelled : IsSpelling free_variable 2 steps (tree 1) order slot
spelled = subst (λ z. IsSpelling free_variable 2 z (tree 1) order slot) in_words (spelling_by free_variable 2 acts (tree 1) order slot front refl refl ((refl, refl, refl), ((refl, refl, refl), ((refl, refl), ((refl, refl), tt)))))

abbrev labels : ℕ → List (Label (network free_variable))
labels k = used (uses 0) ∷ used (with k) ∷ ran (check 1 (k ∷ [])) ∷ ran (action 0 []) ∷ []

o2_is_good : IsTrueIn (InTypeOf free_variable) (initial free_variable) (Holds good_o) (1 ∷ [])
o2_is_good = from (λ i. truth-Holds (InTypeOf free_variable) (initial free_variable) good_o i (1 ∷ [])) (0, omega arith, refl)

pub solution : IsSolution free_variable (tree 1) order
solution = solution_by free_variable (tree 1) order (labels 1) front refl (refl, (refl, (refl, (refl, tt))))
    (λ t. untested t, (λ t. untested t, (o2_is_good, (always_true (InTypeOf free_variable) (initial free_variable) [], tt))))
    (always_true (InTypeOf free_variable) (after (InTypeOf free_variable) (initial free_variable) nothing []) [])

-- with o1 it is a front too, which can't be executed: o1 isn't good
pub front_o1 : IsFront (network free_variable) (top_work free_variable) (tree 0) order
front_o1 = front_by free_variable refl (tree 0) order (ground_0, refl, ((ground_o1, refl, (tt, (tt, tt))), tt)) refl refl

o1_is_not_good : IsTrueIn (InTypeOf free_variable) (initial free_variable) (Holds good_o) (0 ∷ []) → ⊥
o1_is_not_good h = of_each (λ g. g ≡ good 0 → ⊥) (good 1 ∷ good 2 ∷ []) ((λ e. (let f : 1 ≡ 0 = ap object_of e in omega arith)), ((λ e. (let f : 2 ≡ 0 = ap object_of e in omega arith)), tt)) (good 0) (to (λ i. truth-Holds (InTypeOf free_variable) (initial free_variable) good_o i (0 ∷ [])) h) refl

pub o1_fails : IsExecutableFront free_variable (tree 0) order → ⊥
o1_fails f = o1_is_not_good (allowed_of free_variable (tree 0) order (labels 0) (refl, (refl, (refl, (refl, tt)))) f).1.1.0
