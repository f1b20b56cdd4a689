-- Classical plans, worked out: one action `go` for a thing that is here, after which it is seen and here no more.
-- The objects are the thing o, the thing q, which isn't here, and b, which is no thing. The goal is that o is seen.
use Rattle.std.proofs.Common.{ℕ, zero, suc, ◌≡◌, inl, inr, false, List, [], ◌∷◌, Some, refl, ap, sym, subst, Contains, arith, slice_get}
use Rattle.std.specs.Prelude.{codes}
use Rattle.plan_model.specs.declared.terms.Term.TheVariants.{Var, Obj}
use Rattle.plan_model.specs.declared.terms.Atom.{Atom}
use Rattle.plan_model.specs.declared.terms.GroundAtom.{GroundAtom}
use Rattle.plan_model.specs.declared.terms.Param.{Param}
use Rattle.plan_model.specs.declared.types.Parent.{Parent}
use Rattle.plan_model.specs.declared.types.Types.{Types}
use Rattle.plan_model.specs.declared.types.Object.{Object}
use Rattle.plan_model.specs.declared.formulas.Formula.TheVariants.{Holds}
use Rattle.plan_model.specs.declared.effects.Effect.{Effect}
use Rattle.plan_model.specs.declared.effects.Effect.TheVariants as E
use Rattle.plan_model.specs.declared.schemas.ActionSchema.{ActionSchema}
use Rattle.plan_model.specs.declared.steps.GroundAction.{GroundAction}
use Rattle.plan_model.specs.declared.values.Pddl.{Pddl}
use Rattle.plan_model.specs.Typing.{Leads, stay, climb, IsPart}
use Rattle.plan_model.proofs.task_networks.Lists.{not-in_empty, head_or_tail}
use Rattle.plan_model.specs.plan_meaning.Truth.{State, ground, AreTyped, IsTrueIn, after}
use Rattle.plan_model.specs.plan_meaning.ClassicalPlan.{HasWord, AreObjects, InTypeOf, IsApplicable, IsExecutable, IsPlan}
use Rattle.plan_model.proofs.plan_meaning.TruthEquations.{truth-Holds}
use Rattle.plan_model.proofs.plan_meaning.EffectEquations.{adds-Add, adds-And}
use Rattle.plan_model.proofs.plan_meaning.examples.TruthExamples.{to, from, object_of}
use Rattle.plan_model.proofs.plan_meaning.ListedItems.{of_each}
use Rattle.plan_model.proofs.plan_meaning.examples.Unequal.{other_byte}
use Rattle.plan_model.proofs.plan_meaning.examples.RowWords.{step}

abbrev names : List (List ℕ)
names = codes "object" ∷ codes "d" ∷ codes "p" ∷ codes "thing" ∷ codes "go" ∷ codes "x" ∷ codes "o" ∷ codes "q" ∷ codes "b" ∷ codes "here" ∷ codes "seen" ∷ []

abbrev types : Types
types = record { names = record { number = 0 } ∷ record { number = 3 } ∷ []; parents = record { child = 1; parent = 0 } ∷ []; unions = [] }

abbrev o : Object
o = record { name = record { number = 6 }; ty = 1; constant = false }

abbrev q : Object
q = record { name = record { number = 7 }; ty = 1; constant = false }

abbrev b : Object
b = record { name = record { number = 8 }; ty = 0; constant = false }

abbrev x : Param
x = record { name = record { number = 5 }; ty = 1 }

abbrev here : Atom
here = record { predicate = 0; args = Var 0 ∷ [] }

abbrev seen : Atom
seen = record { predicate = 1; args = Var 0 ∷ [] }

abbrev o_is_seen : Atom
o_is_seen = record { predicate = 1; args = Obj 0 ∷ [] }

abbrev o_was_here : GroundAtom
o_was_here = record { predicate = 0; args = 0 ∷ [] }

abbrev change : Effect
change = E.And (E.Delete here ∷ E.Add seen ∷ [])

abbrev go : ActionSchema
go = record { name = record { number = 4 }; params = x ∷ []; pre = Holds here; eff = change }

abbrev one : Pddl
one = record {
  names = names;
  domain = record { number = 1 };
  problem = record { number = 2 };
  types = types;
  objects = o ∷ q ∷ b ∷ [];
  predicates = record { name = record { number = 9 }; params = x ∷ [] } ∷ record { name = record { number = 10 }; params = x ∷ [] } ∷ [];
  actions = go ∷ [];
  init = o_was_here ∷ [];
  goal = Holds o_is_seen;
}

abbrev InThis : ℕ → ℕ → Type 0
InThis = InTypeOf one

abbrev first : State
first = Contains one.init

abbrev second : State
second = after InThis first change (0 ∷ [])

abbrev go_with : List (List ℕ) → GroundAction
go_with args = step (codes "go") args

-- (go o) can be taken first
go_o : IsApplicable one first (go_with (codes "o" ∷ [])) go (0 ∷ [])
go_o = record {
  action = (0, omega arith, refl);
  name = refl;
  objects_are = ((o, refl, refl), tt);
  typed = ((o, refl, inl (inr stay)), tt);
  condition = from (λ i. truth-Holds InThis first here i (0 ∷ [])) (0, omega arith, refl);
}

-- and after it o is seen
goal_then : IsTrueIn InThis second one.goal []
goal_then = from (λ i. truth-Holds InThis second o_is_seen i []) (inr (from (λ i. adds-And InThis first (E.Delete here ∷ E.Add seen ∷ []) i (0 ∷ []) (ground [] o_is_seen)) (inr (inl (from (λ i. adds-Add InThis first seen i (0 ∷ []) (ground [] o_is_seen)) refl)))))

plan : IsPlan one (go_with (codes "o" ∷ []) ∷ [])
plan = (go, 0 ∷ [], go_o, goal_then)

-- the empty list can be executed, but o isn't seen at its end
nothing_done : IsExecutable one []
nothing_done = tt

predicate_of : GroundAtom → ℕ
predicate_of g = g.predicate

goal_is_false : IsPlan one [] → ⊥
unfolding predicate_of
goal_is_false h = of_each (λ g. g ≡ ground [] o_is_seen → ⊥) one.init ((λ e. (let f : 0 ≡ 1 = ap predicate_of e in omega arith)), tt) (ground [] o_is_seen) (to (λ i. truth-Holds InThis first o_is_seen i []) h) refl

-- a step is of the one action
is_go : (S : State) (s : GroundAction) (a : ActionSchema) (objects : List ℕ) → IsApplicable one S s a objects → go ≡ a
is_go S s a objects i = elim (head_or_tail go [] a i.action) [ inl e ↦ e | inr d ↦ absurd (not-in_empty a d) ]

-- there is no action fly
unknown_action : IsExecutable one (step (codes "fly") (codes "o" ∷ []) ∷ []) → ⊥
unknown_action (a, objects, i, rest) =
    let e : slice_get names go.name.number ≡ Some (codes "fly") = subst (λ (z : ActionSchema). slice_get names z.name.number ≡ Some (codes "fly")) (sym (is_go first _ a objects i)) i.name in
    absurd cc

-- go takes one object
wrong_number : IsExecutable one (go_with [] ∷ []) → ⊥
wrong_number (a, objects, i, rest) = none objects i.objects_are (subst (λ (z : ActionSchema). AreTyped InThis z.params objects) (sym (is_go first _ a objects i)) i.typed)
  where
    none : (objects : List ℕ) → AreObjects one objects [] → AreTyped InThis go.params objects → ⊥
    none [] are typed = typed
    none (o ∷ os) are typed = are

-- b is no thing
object_is_no_thing : Leads types.parents 0 1 → ⊥
object_is_no_thing l = up l refl refl
  where
    up : {ty of : ℕ} → Leads types.parents ty of → ty ≡ 0 → of ≡ 1 → ⊥
    up stay e f = omega arith
    up (climb c l) e f = of_each (λ (p : Parent). p.child ≡ 0 → ⊥) types.parents ((λ x. omega arith), tt) _ c e

b_is_no_thing : InThis 2 1 → ⊥
b_is_no_thing (object, is, part) =
    let e : Some b ≡ Some object = is in
    let f : b ≡ object = cc in
    no (subst (λ (z : Object). IsPart types z.ty 1) (sym f) part)
  where
    no : IsPart types 0 1 → ⊥
    no (inl (inl e)) = omega arith
    no (inl (inr l)) = object_is_no_thing l
    no (inr (members, e, a)) = cc

-- the word b is that of object 2 alone
word_b : (k : ℕ) → HasWord one k (codes "b") → 2 ≡ k
word_b zero (y, e, f) = let g : o ≡ y = cc in absurd (other_byte (codes "o") (codes "b") (subst (λ (z : Object). slice_get names z.name.number ≡ Some (codes "b")) (sym g) f) refl)
word_b (suc zero) (y, e, f) = let g : q ≡ y = cc in absurd (other_byte (codes "q") (codes "b") (subst (λ (z : Object). slice_get names z.name.number ≡ Some (codes "b")) (sym g) f) refl)
word_b (suc (suc zero)) w = refl
word_b (suc (suc (suc k))) (y, e, f) = absurd cc

not_of_the_type : IsExecutable one (go_with (codes "b" ∷ []) ∷ []) → ⊥
not_of_the_type (a, objects, i, rest) = no objects i.objects_are (subst (λ (z : ActionSchema). AreTyped InThis z.params objects) (sym (is_go first _ a objects i)) i.typed)
  where
    no : (objects : List ℕ) → AreObjects one objects (codes "b" ∷ []) → AreTyped InThis go.params objects → ⊥
    no [] are typed = are
    no (k ∷ os) are typed = b_is_no_thing (subst (λ z. InThis z 1) (sym (word_b k are.0)) typed.0)

-- q isn't here
word_q : (k : ℕ) → HasWord one k (codes "q") → 1 ≡ k
word_q zero (y, e, f) = let g : o ≡ y = cc in absurd (other_byte (codes "o") (codes "q") (subst (λ (z : Object). slice_get names z.name.number ≡ Some (codes "q")) (sym g) f) refl)
word_q (suc zero) w = refl
word_q (suc (suc zero)) (y, e, f) = let g : b ≡ y = cc in absurd (other_byte (codes "b") (codes "q") (subst (λ (z : Object). slice_get names z.name.number ≡ Some (codes "q")) (sym g) f) refl)
word_q (suc (suc (suc k))) (y, e, f) = absurd cc

condition_is_false : IsExecutable one (go_with (codes "q" ∷ []) ∷ []) → ⊥
condition_is_false (a, objects, i, rest) = no objects i.objects_are (subst (λ (z : ActionSchema). IsTrueIn InThis first z.pre objects) (sym (is_go first _ a objects i)) i.condition)
  where
    no : (objects : List ℕ) → AreObjects one objects (codes "q" ∷ []) → IsTrueIn InThis first (Holds here) objects → ⊥
    no [] are h = are
    no (k ∷ os) are h =
        let c : first (ground (k ∷ os) here) = to (λ i. truth-Holds InThis first here i (k ∷ os)) h in
        of_each (λ g. g ≡ ground (k ∷ os) here → ⊥) one.init ((λ e. (let f : 0 ≡ k = ap object_of e in let g = word_q k are.0 in omega arith)), tt) (ground (k ∷ os) here) c refl
