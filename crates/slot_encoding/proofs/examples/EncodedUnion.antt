-- A union, printed. o1 is an a, o2 is a b and o3 is neither; paint takes ?r - (either a b). Of the methods of t, which paint ?x, m takes any
-- object and n one of the union.
--
--   (:predicates (seen ?r - (either a b))) (:task t :parameters ())
--   (:method m :parameters (?x) :task (t) :subtasks (paint ?x)) (:method n :parameters (?x - (either a b)) :task (t) :subtasks (paint ?x))
--   (:action paint :parameters (?r - (either a b)))
use Rattle.std.proofs.Common.{ℕ, ◌≡◌, false, inl, inr, List, [], ◌∷◌, Some, None, codes, refl, sym, subst, Any, Contains, arith}
use Rattle.plan_model.specs.declared.options.Checks.{Checks}
use Rattle.plan_model.specs.declared.options.Style.TheVariants.{Adl}
use Rattle.plan_model.specs.declared.terms.GroundAtom.{GroundAtom}
use Rattle.plan_model.specs.declared.terms.Param.{Param}
use Rattle.plan_model.specs.declared.terms.Term.TheVariants.{Var}
use Rattle.plan_model.specs.declared.types.Object.{Object}
use Rattle.plan_model.specs.declared.types.Parent.{Parent}
use Rattle.plan_model.specs.declared.types.Types.{Types}
use Rattle.plan_model.specs.declared.networks.Child.{Child}
use Rattle.plan_model.specs.declared.networks.Head.TheVariants.{Action}
use Rattle.plan_model.specs.declared.schemas.Predicate.{Predicate}
use Rattle.plan_model.specs.declared.schemas.ActionSchema.{ActionSchema}
use Rattle.plan_model.specs.declared.schemas.MethodSchema.{MethodSchema}
use Rattle.plan_model.specs.declared.schemas.MethodPlan.{MethodPlan}
use Rattle.plan_model.specs.declared.values.Hddl.{Hddl}
use Rattle.plan_model.specs.declared.values.Compiled.{Compiled}
use Rattle.plan_model.specs.Typing.{Leads, stay, climb, IsBelow, IsPart, IsA}
use Rattle.plan_model.specs.plan_meaning.Network.{InTypeOf}
use Rattle.plan_model.specs.plan_meaning.Compilation.{IsCompiled}
use Rattle.plan_model.proofs.plan_meaning.ListedItems.{of_each}
use Rattle.plan_model.proofs.plan_meaning.examples.PlanKinds.{plain, none_rise}
use Rattle.plan_model.proofs.plan_meaning.examples.RowValues.{always, nothing, problem, method_schema, method_plan, task_schema, action_schema}
use Rattle.plan_texts.specs.Declared.{Declared}
use Rattle.plan_texts.proofs.SoundProblems.{each-all}
use Rattle.slot_encoding.specs.EncodedNames.{encoded_predicates}
use Rattle.slot_encoding.specs.EncodedActions.{encoded_method, encoded_action}
use Rattle.slot_encoding.specs.EncodedValue.{IsInitial}
use Rattle.slot_encoding.proofs.examples.TopPlan.{top_plan, top_is}
use Rattle.slot_encoding.proofs.examples.RowTexts.{digit_1, empty_condition, empty_effect, printing, declared, action_texts, predicate_texts, fact_texts, waits, clears}

abbrev names : List (List ℕ)
names =
    codes "object" ∷ codes "d" ∷ codes "p" ∷ codes "htn_start" ∷ codes "a" ∷ codes "b" ∷ codes "t" ∷ codes "paint" ∷ codes "r" ∷ codes "m"
    ∷ codes "x"
    ∷ codes "o1" ∷ codes "o2" ∷ codes "o3" ∷ codes "seen" ∷ codes "n" ∷ []

-- types 1 and 2 are a and b; the one union is type 3
abbrev types : Types
types = record {
  names = record { number = 0 } ∷ record { number = 4 } ∷ record { number = 5 } ∷ [];
  parents = record { child = 1; parent = 0 } ∷ record { child = 2; parent = 0 } ∷ [];
  unions = (1 ∷ 2 ∷ []) ∷ [];
}

abbrev object : ℕ → ℕ → Object
object n ty = record { name = record { number = n }; ty = ty; constant = false }

abbrev r : Param
r = record { name = record { number = 8 }; ty = 3 }

abbrev seen : Predicate
seen = record { name = record { number = 14 }; params = r ∷ [] }

abbrev paint : ActionSchema
paint = record (action_schema 7 always nothing) { params = r ∷ [] }

abbrev painted : Child
painted = record { id = None; head = Action 0; args = Var 0 ∷ [] }

-- its name, and the type of ?x
abbrev method : ℕ → ℕ → MethodSchema
method n ty = record (method_schema n 0 always (painted ∷ []) []) { params = record { name = record { number = 10 }; ty = ty } ∷ [] }

-- an object isn't always in the union: a guard
abbrev any_plan : MethodPlan
any_plan = record (method_plan (method 9 0) false (0 ∷ []) (Some 0) []) { guards = record { ty = 3; term = Var 0 } ∷ [] }

-- what is in the union is: none
abbrev one_plan : MethodPlan
one_plan = method_plan (method 15 3) false (0 ∷ []) (Some 0) []

abbrev hddl : Hddl
hddl = record (problem names (seen ∷ []) (task_schema 6 ∷ []) (paint ∷ []) (method 9 0 ∷ method 15 3 ∷ []) top_plan.schema) {
  types = types;
  objects = object 11 1 ∷ object 12 2 ∷ object 13 0 ∷ [];
}

abbrev united : Compiled
united = record { hddl = hddl; methods = top_plan ∷ any_plan ∷ one_plan ∷ [] }

-- no chain of parents leads up from object
from_object : {of : ℕ} → Leads types.parents 0 of → of ≡ 0
from_object stay = refl
from_object (climb c l) = absurd (none _ c refl)
  where
    none : (p : Parent) → Contains types.parents p → p.child ≡ 0 → ⊥
    none = of_each (λ (p : Parent). p.child ≡ 0 → ⊥) types.parents ((λ x. omega arith), ((λ x. omega arith), tt))

a_is_united : IsPart types 1 3
a_is_united = inr (1 ∷ 2 ∷ [], refl, (0, 1, omega arith, refl, inr stay))

b_is_united : IsPart types 2 3
b_is_united = inr (1 ∷ 2 ∷ [], refl, (1, 2, omega arith, refl, inr stay))

union_is_united : IsA types 3 3
union_is_united = each-all (λ ty. IsPart types ty 3) (1 ∷ 2 ∷ []) (a_is_united, (b_is_united, tt))

object_is_not_united : IsPart types 0 3 → ⊥
object_is_not_united (inl (inl e)) = omega arith
object_is_not_united (inl (inr l)) = let e = from_object l in omega arith
object_is_not_united (inr (members, e, a)) =
    let f : 1 ∷ 2 ∷ [] ≡ members = cc in
    neither (subst (λ ms. Any (IsBelow types 0) ms) (sym f) a)
  where
    up : (ty : ℕ) → Contains (1 ∷ 2 ∷ []) ty → ty ≡ 0 → ⊥
    up = of_each (λ t. t ≡ 0 → ⊥) (1 ∷ 2 ∷ []) ((λ x. omega arith), ((λ x. omega arith), tt))

    neither : Any (IsBelow types 0) (1 ∷ 2 ∷ []) → ⊥
    neither (i, ty, less, at, inl e) = up ty (i, less, at) e
    neither (i, ty, less, at, inr l) = up ty (i, less, at) (from_object l)

o3_is_not_united : InTypeOf united 2 3 → ⊥
o3_is_not_united (x, is, part) =
    let e : Some (object 13 0) ≡ Some x = is in
    let f : object 13 0 ≡ x = cc in
    object_is_not_united (subst (λ (z : Object). IsPart types z.ty 3) (sym f) part)

-- in either mode, as nothing is asked before a method
compiled : (mode : Checks) → IsCompiled hddl mode united
compiled mode = record {
  hddl = refl;
  methods = (
    top_is hddl mode,
    (
      plain hddl mode _ _ refl refl refl (record {
        schema = refl;
        up = tt;
        line = refl;
        heir = refl;
        copiers = refl;
        rising = none_rise;
        guards = (any_plan.guards, inl (object_is_not_united, [], refl, refl), refl);
      }),
      (
        plain hddl mode _ _ refl refl refl (record {
          schema = refl;
          up = tt;
          line = refl;
          heir = refl;
          copiers = refl;
          rising = none_rise;
          guards = ([], inr ((λ no. no union_is_united), refl), refl);
        }),
        tt,
      ),
    ),
  );
}

abbrev words : List (List ℕ)
words =
    codes "object" ∷ codes "htn_slot" ∷ codes "htn_object" ∷ codes "a" ∷ codes "b" ∷ codes "o1" ∷ codes "o2" ∷ codes "o3" ∷ codes "htn_s1"
    ∷ codes "seen" ∷ codes "r" ∷ codes "htn_top" ∷ codes "htn_free"
    ∷ codes "htn_before" ∷ codes "htn_t_t" ∷ codes "htn_a_paint" ∷ codes "htn_in_1" ∷ codes "htn_h" ∷ codes "htn_x" ∷ codes "htn_a1"
    ∷ codes "htn_m_m" ∷ codes "htn_m_n" ∷ codes "x" ∷ codes "paint" ∷ []

abbrev v : Declared
v = record {
  names = words;
  types = codes "object" ∷ codes "htn_slot" ∷ codes "htn_object" ∷ codes "a" ∷ codes "b" ∷ [];
  unions = (codes "a" ∷ codes "b" ∷ []) ∷ [];
  objects = codes "o1" ∷ codes "o2" ∷ codes "o3" ∷ codes "htn_s1" ∷ [];
  predicates =
      codes "seen" ∷ codes "htn_top" ∷ codes "htn_free" ∷ codes "htn_before" ∷ codes "htn_t_t"
      ∷ codes "htn_a_paint" ∷ codes "htn_in_1" ∷ [];
}

declared_row : declared united words 1 ≡ v
declared_row = simp digit_1

-- paint takes its parameter of either type, as it is declared
paint_row : action_texts v (encoded_action united words 1 Adl 0 paint) ≡
    codes "paint" ∷ codes "(?htn_h - htn_slot ?r - (either a b))"
    ∷ codes "and" ∷ codes "(htn_a_paint ?htn_h ?r)" ∷ waits
    ∷ codes "and" ∷ codes "(not (htn_a_paint ?htn_h ?r))" ∷ codes "(htn_free ?htn_h)" ∷ clears ∷ []
paint_row = simp (empty_condition, empty_effect, printing)

-- m asks that ?x is in the first union
any_row : action_texts v (encoded_method united words 1 Adl 1 any_plan) ≡
    codes "htn_m_m" ∷ codes "(?htn_h - htn_slot ?x - htn_object)"
    ∷ codes "and" ∷ codes "(htn_t_t ?htn_h)" ∷ waits ∷ codes "(htn_in_1 ?x)"
    ∷ codes "and" ∷ codes "(not (htn_t_t ?htn_h))" ∷ codes "(htn_a_paint ?htn_h ?x)" ∷ []
any_row = simp printing

-- n has nothing to ask
one_row : action_texts v (encoded_method united words 1 Adl 2 one_plan) ≡
    codes "htn_m_n" ∷ codes "(?htn_h - htn_slot ?x - (either a b))"
    ∷ codes "and" ∷ codes "(htn_t_t ?htn_h)" ∷ waits
    ∷ codes "and" ∷ codes "(not (htn_t_t ?htn_h))" ∷ codes "(htn_a_paint ?htn_h ?x)" ∷ []
one_row = simp printing

-- the predicates, with those of tasks and actions, and that of the union last
predicates_row : predicate_texts v (encoded_predicates united words 1) ≡
    codes "(seen ?r - (either a b))" ∷ codes "(htn_top ?htn_h - htn_slot)" ∷ codes "(htn_free ?htn_h - htn_slot)"
    ∷ codes "(htn_before ?htn_x - htn_slot ?htn_h - htn_slot)"
    ∷ codes "(htn_t_t ?htn_h - htn_slot)" ∷ codes "(htn_a_paint ?htn_h - htn_slot ?htn_a1 - htn_object)"
    ∷ codes "(htn_in_1 ?htn_a1 - htn_object)" ∷ []
predicates_row = simp digit_1

-- o1 and o2 are in the union, o3 isn't
abbrev atom : ℕ → ℕ → GroundAtom
atom predicate object = record { predicate = predicate; args = object ∷ [] }

abbrev init : List GroundAtom
init = atom 1 3 ∷ atom 6 0 ∷ atom 6 1 ∷ []

is_initial : IsInitial united words 1 Adl init
is_initial = (
  atom 6 0 ∷ atom 6 1 ∷ [],
  (
    0 ∷ 1 ∷ [],
    [],
    inl (
      (_, refl, a_is_united),
      1 ∷ [],
      refl,
      inl (
        (_, refl, b_is_united),
        [],
        refl,
        inr (o3_is_not_united, refl),
      ),
    ),
    refl,
    refl,
  ),
  refl,
)

init_row : fact_texts v init ≡ codes "(htn_top htn_s1)" ∷ codes "(htn_in_1 o1)" ∷ codes "(htn_in_1 o2)" ∷ []
init_row = refl
