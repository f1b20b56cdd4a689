-- A guard: blocks, some of them red; b1 is a block, r1 is red. The method m of t takes a block and paints it, and paint takes red ones.
use Rattle.std.proofs.Common.{ℕ, ◌≡◌, false, inl, inr, List, [], ◌∷◌, map, Some, None, refl, ap, sym, subst, ◌∙◌, Contains, arith}
use Rattle.std.specs.Prelude.{codes}
use Rattle.plan_model.specs.declared.terms.Term.TheVariants.{Var}
use Rattle.plan_model.specs.declared.types.Parent.{Parent}
use Rattle.plan_model.specs.declared.types.Types.{Types}
use Rattle.plan_model.specs.declared.types.Object.{Object}
use Rattle.plan_model.specs.declared.networks.Head.TheVariants.{Task, Action}
use Rattle.plan_model.specs.declared.networks.Child.{Child}
use Rattle.plan_model.specs.declared.schemas.ActionSchema.{ActionSchema}
use Rattle.plan_model.specs.declared.schemas.MethodSchema.{MethodSchema}
use Rattle.plan_model.specs.declared.schemas.MethodPlan.{MethodPlan}
use Rattle.plan_model.specs.declared.steps.GroundAction.{GroundAction}
use Rattle.plan_model.specs.declared.values.Hddl.{Hddl}
use Rattle.plan_model.specs.declared.values.Compiled.{Compiled}
use Rattle.plan_model.specs.Typing.{Leads, stay, climb, IsPart}
use Rattle.plan_model.specs.task_networks.Tree.{Tree, split, more, done, none, Address, ran, used}
use Rattle.plan_model.specs.task_networks.Front.{IsFront}
use Rattle.plan_model.specs.task_networks.Spelling.{Act, apply, run}
use Rattle.plan_model.specs.plan_meaning.Truth.{AreTyped, after}
use Rattle.plan_model.specs.plan_meaning.Network.{action, GroundMethod, IsDeclared, child_of, InTypeOf, network, IsGroundMethod}
use Rattle.plan_model.specs.plan_meaning.Solution.{top_work, initial, IsSolution}
use Rattle.plan_model.specs.plan_meaning.SpelledPlan.{step_of, IsSpelling}
use Rattle.plan_model.proofs.plan_meaning.ListedItems.{of_each}
use Rattle.plan_model.proofs.plan_meaning.examples.RowValues.{child, always, nothing, problem, method_schema, method_plan, task_schema, action_schema, uses}
use Rattle.plan_model.proofs.plan_meaning.examples.RowWords.{step, slot_1}
use Rattle.plan_model.proofs.plan_meaning.examples.RowChecks.{always_true, untested, ground_by, front_by, spelling_by, solution_by}

abbrev names : List (List ℕ)
names = codes "object" ∷ codes "d" ∷ codes "p" ∷ codes "htn_start" ∷ codes "block" ∷ codes "red" ∷ codes "t" ∷ codes "paint" ∷ codes "r" ∷ codes "m" ∷ codes "x" ∷ codes "b1" ∷ codes "r1" ∷ []

-- type 1 is block, type 2 is red
abbrev pub guard_types : Types
guard_types = record {
  names = record { number = 0 } ∷ record { number = 4 } ∷ record { number = 5 } ∷ [];
  parents = record { child = 1; parent = 0 } ∷ record { child = 2; parent = 1 } ∷ [];
  unions = [];
}

abbrev pub guard_objects : List Object
guard_objects = record { name = record { number = 11 }; ty = 1; constant = false } ∷ record { name = record { number = 12 }; ty = 2; constant = false } ∷ []

abbrev paint : ActionSchema
paint = record (action_schema 7 always nothing) { params = record { name = record { number = 8 }; ty = 2 } ∷ [] }

abbrev painted : Child
painted = record { id = None; head = Action 0; args = Var 0 ∷ [] }

abbrev pub guard_top : MethodPlan
guard_top = method_plan (method_schema 3 1 always (child (Task 0) ∷ []) []) false (0 ∷ []) (Some 0) []

abbrev pub guard_method : MethodSchema
guard_method = record (method_schema 9 0 always (painted ∷ []) []) { params = record { name = record { number = 10 }; ty = 1 } ∷ [] }

abbrev pub guard_method_plan : MethodPlan
guard_method_plan = record (method_plan guard_method false (0 ∷ []) (Some 0) []) { guards = record { ty = 2; term = Var 0 } ∷ [] }

abbrev pub guard_hddl : Hddl
guard_hddl = record (problem names [] (task_schema 6 ∷ []) (paint ∷ []) (guard_method ∷ []) guard_top.schema) { types = guard_types; objects = guard_objects }

abbrev pub guarded : Compiled
guarded = record { hddl = guard_hddl; methods = guard_top ∷ guard_method_plan ∷ [] }

-- no chain of parents leads from object or from block to red
object_is_not_red : Leads guard_types.parents 0 2 → ⊥
object_is_not_red l = go l refl refl
  where
    go : {ty of : ℕ} → Leads guard_types.parents ty of → ty ≡ 0 → of ≡ 2 → ⊥
    go stay e f = omega arith
    go (climb c l) e f = of_each (λ (p : Parent). p.child ≡ 0 → ⊥) guard_types.parents ((λ x. omega arith), ((λ x. omega arith), tt)) _ c e

pub block_is_not_red : IsPart guard_types 1 2 → ⊥
block_is_not_red (inl (inl e)) = omega arith
block_is_not_red (inl (inr l)) = go l refl refl
  where
    go : {ty of : ℕ} → Leads guard_types.parents ty of → ty ≡ 1 → of ≡ 2 → ⊥
    go stay e f = omega arith
    go (climb {ty = ty} {parent = parent} {of = of} c l) e f =
        let p : parent ≡ 0 = of_each (λ (p : Parent). p.child ≡ 1 → p.parent ≡ 0) guard_types.parents ((λ x. refl), ((λ x. absurd (omega arith)), tt)) _ c e in
        object_is_not_red (subst (λ z. Leads guard_types.parents z 2) p (subst (λ z. Leads guard_types.parents parent z) f l))
block_is_not_red (inr (members, e, a)) = cc

pub b1_is_not_red : InTypeOf guarded 0 2 → ⊥
b1_is_not_red (object, is, part) =
    let e : Some (record { name = record { number = 11 }; ty = 1; constant = false }) ≡ Some object = is in
    let f : record { name = record { number = 11 }; ty = 1; constant = false } ≡ object = cc in
    block_is_not_red (subst (λ (z : Object). IsPart guard_types z.ty 2) (sym f) part)

-- the method with object number k: b1 is object 0, r1 is object 1
abbrev pub with : ℕ → GroundMethod
with k = record { number = 1; values = k ∷ [] }

-- b1 isn't red, so m with b1 is no ground method
pub not_b1 : IsGroundMethod guarded (with 0) → ⊥
not_b1 g = go (g.met.declared painted there)
  where
    there : Contains g.plan.schema.children painted
    there = let e : Some guard_method_plan ≡ Some g.plan = g.is in let f : guard_method_plan ≡ g.plan = cc in subst (λ (z : MethodPlan). Contains z.schema.children painted) f (0, omega arith, refl)

    go : IsDeclared guarded (child_of (with 0) painted) → ⊥
    go (params, (s, is, e), typed) =
        let f : Some paint ≡ Some s = is in
        let k : paint ≡ s = cc in
        let l : paint.params ≡ params = ap (λ (z : ActionSchema). z.params) k ∙ e in
        b1_is_not_red (subst (λ z. AreTyped (InTypeOf guarded) z (0 ∷ [])) (sym l) typed).0

ground_0 : IsGroundMethod guarded (uses 0)
ground_0 = ground_by guarded (uses 0) guard_top refl tt tt (([], (_, refl, refl), tt), tt)

ground_r1 : IsGroundMethod guarded (with 1)
ground_r1 = ground_by guarded (with 1) guard_method_plan refl ((_, refl, inl (inr (climb (1, omega arith, refl) stay))), tt) tt ((paint.params, (_, refl, refl), ((_, refl, inl (inr stay)), tt)), tt)

abbrev pub tree : Tree (network guarded)
tree = split (uses 0) (more (split (with 1) (more (done (action 0 (1 ∷ []))) none)) none)

abbrev pub order : List Address
order = [] ∷ (0 ∷ []) ∷ (0 ∷ 0 ∷ []) ∷ []

abbrev acts : List (Act (network guarded))
acts = apply 1 [] (uses 0) ∷ apply 1 [] (with 1) ∷ run 1 (action 0 (1 ∷ [])) ∷ []

abbrev pub steps : List GroundAction
steps = step (codes "htn_start") (codes "htn_s1" ∷ []) ∷ step (codes "htn_m_m") (codes "htn_s1" ∷ codes "r1" ∷ []) ∷ step (codes "paint") (codes "htn_s1" ∷ codes "r1" ∷ []) ∷ []

in_words : map (step_of guarded) acts ≡ steps
in_words = λ i. step (codes "htn_start") (slot_1 i ∷ []) ∷ step (codes "htn_m_m") (slot_1 i ∷ codes "r1" ∷ []) ∷ step (codes "paint") (slot_1 i ∷ codes "r1" ∷ []) ∷ []

front : IsFront (network guarded) (top_work guarded) tree order
front = front_by guarded refl tree order (ground_0, refl, ((ground_r1, refl, (tt, tt)), tt)) refl refl

pub spelled : IsSpelling guarded 1 steps tree order (λ p. 1)
spelled = subst (λ z. IsSpelling guarded 1 z tree order (λ p. 1)) in_words (spelling_by guarded 1 acts tree order (λ p. 1) front refl refl ((refl, refl, refl), ((refl, refl, refl), ((refl, refl), tt))))

pub solution : IsSolution guarded tree order
solution = solution_by guarded tree order (used (uses 0) ∷ used (with 1) ∷ ran (action 0 (1 ∷ [])) ∷ []) front refl (refl, (refl, (refl, tt)))
    (λ t. untested t, (λ t. untested t, (always_true (InTypeOf guarded) (initial guarded) (1 ∷ []), tt)))
    (always_true (InTypeOf guarded) (after (InTypeOf guarded) (initial guarded) nothing (1 ∷ [])) [])
