-- All objects: m: t -> a with t on top, where a asks that all objects are seen, and o1 and o2 are. It is a solution in one slot.
-- Without (seen o2) the same front can't be executed.
use Rattle.std.proofs.Common.{ℕ, zero, suc, ◌≡◌, ◌⊎◌, false, inl, inr, List, [], ◌∷◌, ◌++◌, map, Some, refl, ap, sym, subst, arith}
use Rattle.std.specs.Prelude.{codes}
use Rattle.plan_model.specs.declared.terms.Term.TheVariants.{Var}
use Rattle.plan_model.specs.declared.terms.Atom.{Atom}
use Rattle.plan_model.specs.declared.terms.GroundAtom.{GroundAtom}
use Rattle.plan_model.specs.declared.terms.Param.{Param}
use Rattle.plan_model.specs.declared.types.Object.{Object}
use Rattle.plan_model.specs.declared.formulas.Formula.{Formula}
use Rattle.plan_model.specs.declared.formulas.Formula.TheVariants.{Holds, Forall}
use Rattle.plan_model.specs.declared.networks.Head.TheVariants.{Task, Action}
use Rattle.plan_model.specs.declared.schemas.MethodPlan.{MethodPlan}
use Rattle.plan_model.specs.declared.steps.GroundAction.{GroundAction}
use Rattle.plan_model.specs.declared.values.Compiled.{Compiled}
use Rattle.plan_model.specs.task_networks.Tree.{Tree, split, more, done, none, Address, Label, ran, used}
use Rattle.plan_model.specs.task_networks.Front.{IsFront}
use Rattle.plan_model.specs.task_networks.Spelling.{Act, apply, run}
use Rattle.plan_model.specs.plan_meaning.Truth.{AreTyped, IsTrueIn, after}
use Rattle.plan_model.specs.plan_meaning.Network.{action, InTypeOf, network, IsGroundMethod}
use Rattle.plan_model.specs.plan_meaning.Solution.{top_work, initial, IsSolution, IsExecutableFront}
use Rattle.plan_model.specs.plan_meaning.SpelledPlan.{step_of, IsSpelling}
use Rattle.plan_model.proofs.plan_meaning.TruthEquations.{truth-Holds, truth-Forall}
use Rattle.plan_model.proofs.plan_meaning.examples.TruthExamples.{to, from, object_of}
use Rattle.plan_model.proofs.plan_meaning.examples.Unequal.{less}
use Rattle.plan_model.proofs.plan_meaning.ListedItems.{of_each}
use Rattle.plan_model.proofs.plan_meaning.examples.RowValues.{child, always, nothing, problem, method_schema, method_plan, task_schema, action_schema, uses}
use Rattle.plan_model.proofs.plan_meaning.examples.RowWords.{step, slot_1}
use Rattle.plan_model.proofs.plan_meaning.examples.RowChecks.{always_true, untested, ground_by, front_by, spelling_by, solution_by, allowed_of}

abbrev names : List (List ℕ)
names = codes "object" ∷ codes "d" ∷ codes "p" ∷ codes "htn_start" ∷ codes "t" ∷ codes "a" ∷ codes "m" ∷ codes "seen" ∷ codes "x" ∷ codes "o1" ∷ codes "o2" ∷ []

abbrev pub any : List Param
any = record { name = record { number = 8 }; ty = 0 } ∷ []

abbrev pub seen : Atom
seen = record { predicate = 0; args = Var 0 ∷ [] }

abbrev pub was_seen : ℕ → GroundAtom
was_seen o = record { predicate = 0; args = o ∷ [] }

abbrev pub all_seen : Formula
all_seen = Forall any (Holds seen)

abbrev object : ℕ → Object
object word = record { name = record { number = word }; ty = 0; constant = false }

abbrev top : MethodPlan
top = method_plan (method_schema 3 1 always (child (Task 0) ∷ []) []) false (0 ∷ []) (Some 0) []

abbrev of_t : MethodPlan
of_t = method_plan (method_schema 6 0 always (child (Action 0) ∷ []) []) false (0 ∷ []) (Some 0) []

-- where these atoms are true at the beginning
abbrev pub seeing : List GroundAtom → Compiled
seeing init = record {
  hddl = record (problem names (record { name = record { number = 7 }; params = any } ∷ []) (task_schema 4 ∷ []) (action_schema 5 all_seen nothing ∷ []) (of_t.schema ∷ []) top.schema) { objects = object 9 ∷ object 10 ∷ []; init = init };
  methods = top ∷ of_t ∷ [];
}

-- the start, t by m, a
abbrev pub order : List Address
order = [] ∷ (0 ∷ []) ∷ (0 ∷ 0 ∷ []) ∷ []

abbrev pub steps : List GroundAction
steps = step (codes "htn_start") (codes "htn_s1" ∷ []) ∷ step (codes "htn_m_m") (codes "htn_s1" ∷ []) ∷ step (codes "a") (codes "htn_s1" ∷ []) ∷ []

module _ (init : List GroundAtom) where
  abbrev pub tree : Tree (network (seeing init))
  tree = split (uses 0) (more (split (uses 1) (more (done (action 0 [])) none)) none)

  abbrev acts : List (Act (network (seeing init)))
  acts = apply 1 [] (uses 0) ∷ apply 1 [] (uses 1) ∷ run 1 (action 0 []) ∷ []

  abbrev labels : List (Label (network (seeing init)))
  labels = used (uses 0) ∷ used (uses 1) ∷ ran (action 0 []) ∷ []

  in_words : map (step_of (seeing init)) acts ≡ steps
  in_words = λ i. step (codes "htn_start") (slot_1 i ∷ []) ∷ step (codes "htn_m_m") (slot_1 i ∷ []) ∷ step (codes "a") (slot_1 i ∷ []) ∷ []

  ground_0 : IsGroundMethod (seeing init) (uses 0)
  ground_0 = ground_by (seeing init) (uses 0) top refl tt tt (([], (_, refl, refl), tt), tt)

  ground_1 : IsGroundMethod (seeing init) (uses 1)
  ground_1 = ground_by (seeing init) (uses 1) of_t refl tt tt (([], (_, refl, refl), tt), tt)

  front : IsFront (network (seeing init)) (top_work (seeing init)) tree order
  front = front_by (seeing init) refl tree order (ground_0, refl, ((ground_1, refl, (tt, tt)), tt)) refl refl

  pub spelled : IsSpelling (seeing init) 1 steps tree order (λ p. 1)
  spelled = subst (λ z. IsSpelling (seeing init) 1 z tree order (λ p. 1)) in_words (spelling_by (seeing init) 1 acts tree order (λ p. 1) front refl refl ((refl, refl, refl), ((refl, refl, refl), ((refl, refl), tt))))

abbrev pub all_objects : Compiled
all_objects = seeing (was_seen 0 ∷ was_seen 1 ∷ [])

-- the objects are o1 and o2
two_objects : (k : ℕ) → InTypeOf all_objects k 0 → (0 ≡ k) ⊎ (1 ≡ k)
two_objects zero i = inl refl
two_objects (suc zero) i = inr refl
two_objects (suc (suc k)) (x, e, part) = absurd cc

all_are_seen : IsTrueIn (InTypeOf all_objects) (initial all_objects) all_seen []
all_are_seen = from (λ i. truth-Forall (InTypeOf all_objects) (initial all_objects) any (Holds seen) i []) each
  where
    one : (o : ℕ) → (0 ≡ o) ⊎ (1 ≡ o) → IsTrueIn (InTypeOf all_objects) (initial all_objects) (Holds seen) (o ∷ [])
    one o (inl e) = subst (λ z. IsTrueIn (InTypeOf all_objects) (initial all_objects) (Holds seen) (z ∷ [])) e (from (λ i. truth-Holds (InTypeOf all_objects) (initial all_objects) seen i (0 ∷ [])) (0, omega arith, refl))
    one o (inr e) = subst (λ z. IsTrueIn (InTypeOf all_objects) (initial all_objects) (Holds seen) (z ∷ [])) e (from (λ i. truth-Holds (InTypeOf all_objects) (initial all_objects) seen i (1 ∷ [])) (1, omega arith, refl))

    each : (os : List ℕ) → AreTyped (InTypeOf all_objects) any os → IsTrueIn (InTypeOf all_objects) (initial all_objects) (Holds seen) ([] ++ os)
    each [] a = absurd a
    each (o ∷ []) a = one o (two_objects o a.0)
    each (o ∷ p ∷ os) a = absurd a.1

pub solution : IsSolution all_objects (tree (was_seen 0 ∷ was_seen 1 ∷ [])) order
solution = solution_by all_objects (tree (was_seen 0 ∷ was_seen 1 ∷ [])) order (labels (was_seen 0 ∷ was_seen 1 ∷ [])) (front (was_seen 0 ∷ was_seen 1 ∷ [])) refl (refl, (refl, (refl, tt)))
    (λ t. untested t, (λ t. untested t, (all_are_seen, tt)))
    (always_true (InTypeOf all_objects) (after (InTypeOf all_objects) (initial all_objects) nothing []) [])

-- where o1 alone is seen
abbrev pub half_seen : Compiled
half_seen = seeing (was_seen 0 ∷ [])

o2_is_not_seen : IsTrueIn (InTypeOf half_seen) (initial half_seen) all_seen [] → ⊥
o2_is_not_seen h =
    let s : initial half_seen (was_seen 1) = to (λ i. truth-Holds (InTypeOf half_seen) (initial half_seen) seen i (1 ∷ [])) (to (λ i. truth-Forall (InTypeOf half_seen) (initial half_seen) any (Holds seen) i []) h (1 ∷ []) ((object 10, refl, inl (inl refl)), tt)) in
    of_each (λ g. g ≡ was_seen 1 → ⊥) (was_seen 0 ∷ []) ((λ e. less 0 1 (omega arith) (sym (ap object_of e))), tt) (was_seen 1) s refl

pub half_seen_fails : IsExecutableFront half_seen (tree (was_seen 0 ∷ [])) order → ⊥
half_seen_fails f = o2_is_not_seen (allowed_of half_seen (tree (was_seen 0 ∷ [])) order (labels (was_seen 0 ∷ [])) (refl, (refl, (refl, tt))) f).1.1.0
