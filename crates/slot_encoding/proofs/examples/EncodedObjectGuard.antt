-- Guards on objects, printed, in both modes of checks. Blocks, some of them red; b1 is a block, r1 is red, and paint takes red ones.
-- The method m of t paints b1, r1 and b1 in this order, under a constraint and behind a precondition:
--
--   (:constants b1 - block r1 - red) (:predicates (ready)) (:task t :parameters ()) (:action paint :parameters (?r - red))
--   (:method m :parameters () :task (t) :precondition (ready) :constraints (not (= b1 r1))
--    :ordered-subtasks (and (paint b1) (paint r1) (paint b1)))
use Rattle.std.proofs.Common.{ℕ, ◌≡◌, true, false, inl, inr, List, [], ◌∷◌, ◌++◌, Some, None, codes, refl, sym, subst, arith}
use Rattle.plan_model.specs.declared.options.Checks.TheVariants.{Leaf, AtOnce}
use Rattle.plan_model.specs.declared.options.Style.TheVariants.{Adl}
use Rattle.plan_model.specs.declared.terms.Atom.{Atom}
use Rattle.plan_model.specs.declared.terms.GroundAtom.{GroundAtom}
use Rattle.plan_model.specs.declared.terms.Term.TheVariants.{Obj}
use Rattle.plan_model.specs.declared.types.Object.{Object}
use Rattle.plan_model.specs.declared.formulas.Formula.TheVariants.{Holds}
use Rattle.plan_model.specs.declared.networks.Child.{Child}
use Rattle.plan_model.specs.declared.networks.Guard.{Guard}
use Rattle.plan_model.specs.declared.networks.Pair.{Pair}
use Rattle.plan_model.specs.declared.networks.Head.TheVariants.{Action, Check}
use Rattle.plan_model.specs.declared.schemas.Predicate.{Predicate}
use Rattle.plan_model.specs.declared.schemas.ActionSchema.{ActionSchema}
use Rattle.plan_model.specs.declared.schemas.MethodSchema.{MethodSchema}
use Rattle.plan_model.specs.declared.schemas.MethodPlan.{MethodPlan}
use Rattle.plan_model.specs.declared.values.Hddl.{Hddl}
use Rattle.plan_model.specs.declared.values.Compiled.{Compiled}
use Rattle.plan_model.specs.Typing.{InType, IsPart, stay}
use Rattle.plan_model.specs.plan_meaning.Compilation.{AreGuards, IsCompiled}
use Rattle.plan_model.proofs.plan_meaning.examples.GuardRow.{guard_types, block_is_not_red}
use Rattle.plan_model.proofs.plan_meaning.examples.PlanKinds.{with_check, when_applied, none_rise, holds_counts}
use Rattle.plan_model.proofs.plan_meaning.examples.RowValues.{child, always, nothing, problem, method_schema, method_plan, task_schema, action_schema}
use Rattle.plan_texts.specs.Declared.{Declared}
use Rattle.slot_encoding.specs.EncodedActions.{encoded_method}
use Rattle.slot_encoding.specs.EncodedValue.{IsInitial}
use Rattle.slot_encoding.proofs.examples.TopPlan.{top_plan, top_is}
use Rattle.slot_encoding.proofs.examples.RowTexts.{digit_1, digit_2, digit_3, digit_4, is_atom, source-Holds, printing, declared, action_texts, fact_texts, waits}

abbrev names : List (List ℕ)
names =
    codes "object" ∷ codes "d" ∷ codes "p" ∷ codes "htn_start" ∷ codes "block" ∷ codes "red" ∷ codes "t" ∷ codes "paint" ∷ codes "r"
    ∷ codes "m" ∷ codes "ready" ∷ codes "b1" ∷ codes "r1" ∷ []

abbrev ready : Atom
ready = record { predicate = 0; args = [] }

abbrev object : ℕ → ℕ → Object
object n ty = record { name = record { number = n }; ty = ty; constant = true }

-- type 1 is block, type 2 is red
abbrev objects : List Object
objects = object 11 1 ∷ object 12 2 ∷ []

abbrev paint : ActionSchema
paint = record (action_schema 7 always nothing) { params = record { name = record { number = 8 }; ty = 2 } ∷ [] }

-- the object of this number
abbrev painted : ℕ → Child
painted o = record { id = None; head = Action 0; args = Obj o ∷ [] }

abbrev pair : ℕ → ℕ → Pair
pair i j = record { first = i; then = j }

abbrev method : MethodSchema
method = record (method_schema 9 0 (Holds ready) (painted 0 ∷ painted 1 ∷ painted 0 ∷ []) (pair 0 1 ∷ pair 1 2 ∷ [])) {
  constraints = record { equal = false; left = Obj 0; right = Obj 1 } ∷ [];
}

abbrev ready_predicate : Predicate
ready_predicate = record { name = record { number = 10 }; params = [] }

abbrev hddl : Hddl
hddl = record (problem names (ready_predicate ∷ []) (task_schema 6 ∷ []) (paint ∷ []) (method ∷ []) top_plan.schema) {
  types = guard_types;
  objects = objects;
  init = record { predicate = 0; args = [] } ∷ [];
}

-- b1 isn't red: one guard, for both subtasks; r1 is, and has none
abbrev guards : List Guard
guards = record { ty = 2; term = Obj 0 } ∷ []

b1_is_not_red : InType guard_types objects 0 2 → ⊥
b1_is_not_red (x, is, part) =
    let e : Some (object 11 1) ≡ Some x = is in
    let f : object 11 1 ≡ x = cc in
    block_is_not_red (subst (λ (z : Object). IsPart guard_types z.ty 2) (sym f) part)

r1_is_red : InType guard_types objects 1 2
r1_is_red = (_, refl, inl (inr stay))

are_guards : AreGuards hddl method guards
are_guards = (_, inl (b1_is_not_red, _, refl, inr ((λ no. no r1_is_red), inl (b1_is_not_red, [], refl, refl))), refl)

-- with a check in front of all three
abbrev with_check_first : MethodSchema
with_check_first = record method { children = child Check ∷ method.children; pairs = pair 0 1 ∷ pair 0 2 ∷ pair 0 3 ∷ pair 1 2 ∷ pair 2 3 ∷ [] }

abbrev checked : MethodPlan
checked = record (method_plan with_check_first true (0 ∷ 1 ∷ 2 ∷ 3 ∷ []) (Some 3) []) { guards = guards }

-- tested where it is applied
abbrev tested : MethodPlan
tested = record (method_plan method false (0 ∷ 1 ∷ 2 ∷ []) (Some 2) []) { tested = true; guards = guards }

abbrev leaf : Compiled
leaf = record { hddl = hddl; methods = top_plan ∷ checked ∷ [] }

abbrev at_once : Compiled
at_once = record { hddl = hddl; methods = top_plan ∷ tested ∷ [] }

leaf_is_compiled : IsCompiled hddl Leaf leaf
leaf_is_compiled = record {
  hddl = refl;
  methods = (
    top_is hddl Leaf,
    (
      with_check hddl _ _ (holds_counts ready) refl refl (record {
        schema = refl;
        up = (omega arith, (omega arith, (omega arith, (omega arith, (omega arith, tt)))));
        line = refl;
        heir = refl;
        copiers = refl;
        rising = none_rise;
        guards = are_guards;
      }),
      tt,
    ),
  );
}

at_once_is_compiled : IsCompiled hddl AtOnce at_once
at_once_is_compiled = record {
  hddl = refl;
  methods = (
    top_is hddl AtOnce,
    (
      when_applied hddl _ _ (holds_counts ready) refl refl (record {
        schema = refl;
        up = (omega arith, (omega arith, tt));
        line = refl;
        heir = refl;
        copiers = refl;
        rising = none_rise;
        guards = are_guards;
      }),
      tt,
    ),
  );
}

abbrev words : List (List ℕ)
words =
    codes "object" ∷ codes "htn_slot" ∷ codes "htn_object" ∷ codes "block" ∷ codes "red" ∷ codes "b1" ∷ codes "r1" ∷ codes "htn_s1"
    ∷ codes "htn_s2" ∷ codes "htn_s3" ∷ codes "htn_s4"
    ∷ codes "ready" ∷ codes "htn_top" ∷ codes "htn_free" ∷ codes "htn_before" ∷ codes "htn_t_t" ∷ codes "htn_a_paint" ∷ codes "htn_c_m"
    ∷ codes "htn_is_red"
    ∷ codes "htn_h" ∷ codes "htn_h1" ∷ codes "htn_h2" ∷ codes "htn_h3" ∷ codes "htn_x" ∷ codes "htn_m_m" ∷ []

-- checks: the predicates of checks
abbrev v : List (List ℕ) → Declared
v checks = record {
  names = words;
  types = codes "object" ∷ codes "htn_slot" ∷ codes "htn_object" ∷ codes "block" ∷ codes "red" ∷ [];
  unions = [];
  objects = codes "b1" ∷ codes "r1" ∷ codes "htn_s1" ∷ codes "htn_s2" ∷ codes "htn_s3" ∷ codes "htn_s4" ∷ [];
  predicates =
      codes "ready" ∷ codes "htn_top" ∷ codes "htn_free" ∷ codes "htn_before" ∷ codes "htn_t_t"
      ∷ codes "htn_a_paint" ∷ checks ++ codes "htn_is_red" ∷ [];
}

leaf_declared : declared leaf words 4 ≡ v (codes "htn_c_m" ∷ [])
leaf_declared = simp (digit_1, digit_2, digit_3, digit_4)

at_once_declared : declared at_once words 4 ≡ v []
at_once_declared = simp (digit_1, digit_2, digit_3, digit_4)

-- the last child, which has the method's slot, is the second b1; the guard stands once, behind the constraint
leaf_row : action_texts (v (codes "htn_c_m" ∷ [])) (encoded_method leaf words 4 Adl 1 checked) ≡
    codes "htn_m_m" ∷ codes "(?htn_h - htn_slot ?htn_h1 - htn_slot ?htn_h2 - htn_slot ?htn_h3 - htn_slot)"
    ∷ codes "and" ∷ codes "(htn_t_t ?htn_h)" ∷ waits ∷ codes "(htn_free ?htn_h1)" ∷ codes "(htn_free ?htn_h2)" ∷ codes "(htn_free ?htn_h3)"
    ∷ codes "(not (= ?htn_h1 ?htn_h2))" ∷ codes "(not (= ?htn_h1 ?htn_h3))" ∷ codes "(not (= ?htn_h2 ?htn_h3))"
    ∷ codes "(not (= b1 r1))" ∷ codes "(htn_is_red b1)"
    ∷ codes "and" ∷ codes "(not (htn_t_t ?htn_h))" ∷ codes "(not (htn_free ?htn_h1))" ∷ codes "(not (htn_free ?htn_h2))"
    ∷ codes "(not (htn_free ?htn_h3))"
    ∷ codes "(htn_c_m ?htn_h1)" ∷ codes "(htn_a_paint ?htn_h2 b1)" ∷ codes "(htn_a_paint ?htn_h3 r1)" ∷ codes "(htn_a_paint ?htn_h b1)"
    ∷ codes "(htn_before ?htn_h1 ?htn_h2)" ∷ codes "(htn_before ?htn_h1 ?htn_h3)" ∷ codes "(htn_before ?htn_h1 ?htn_h)"
    ∷ codes "(htn_before ?htn_h2 ?htn_h3)" ∷ codes "(htn_before ?htn_h3 ?htn_h)" ∷ []
leaf_row = simp (digit_1, digit_2, digit_3, printing)

-- and in front of the precondition
at_once_row : action_texts (v []) (encoded_method at_once words 4 Adl 1 tested) ≡
    codes "htn_m_m" ∷ codes "(?htn_h - htn_slot ?htn_h1 - htn_slot ?htn_h2 - htn_slot)"
    ∷ codes "and" ∷ codes "(htn_t_t ?htn_h)" ∷ waits ∷ codes "(htn_free ?htn_h1)" ∷ codes "(htn_free ?htn_h2)"
    ∷ codes "(not (= ?htn_h1 ?htn_h2))"
    ∷ codes "(not (= b1 r1))" ∷ codes "(htn_is_red b1)" ∷ codes "(ready)"
    ∷ codes "and" ∷ codes "(not (htn_t_t ?htn_h))" ∷ codes "(not (htn_free ?htn_h1))" ∷ codes "(not (htn_free ?htn_h2))"
    ∷ codes "(htn_a_paint ?htn_h1 b1)" ∷ codes "(htn_a_paint ?htn_h2 r1)" ∷ codes "(htn_a_paint ?htn_h b1)"
    ∷ codes "(htn_before ?htn_h1 ?htn_h2)" ∷ codes "(htn_before ?htn_h2 ?htn_h)" ∷ []
at_once_row = simp (digit_1, digit_2, is_atom, source-Holds, printing)

-- the first slot is object 2; the guard's predicate is behind those of actions and checks
abbrev fact : ℕ → List ℕ → GroundAtom
fact predicate args = record { predicate = predicate; args = args }

abbrev first : List GroundAtom
first = fact 1 (2 ∷ []) ∷ fact 2 (3 ∷ []) ∷ fact 2 (4 ∷ []) ∷ fact 2 (5 ∷ []) ∷ fact 0 [] ∷ []

leaf_initial : IsInitial leaf words 4 Adl (first ++ fact 7 (1 ∷ []) ∷ [])
leaf_initial = (fact 7 (1 ∷ []) ∷ [], (1 ∷ [], [], inr (b1_is_not_red, inl (r1_is_red, [], refl, refl)), refl, refl), refl)

at_once_initial : IsInitial at_once words 4 Adl (first ++ fact 6 (1 ∷ []) ∷ [])
at_once_initial = (fact 6 (1 ∷ []) ∷ [], (1 ∷ [], [], inr (b1_is_not_red, inl (r1_is_red, [], refl, refl)), refl, refl), refl)

-- in both modes the same: of the objects r1 alone is red
abbrev init : List (List ℕ)
init =
    codes "(htn_top htn_s1)" ∷ codes "(htn_free htn_s2)" ∷ codes "(htn_free htn_s3)" ∷ codes "(htn_free htn_s4)"
    ∷ codes "(ready)" ∷ codes "(htn_is_red r1)" ∷ []

leaf_init : fact_texts (v (codes "htn_c_m" ∷ [])) (first ++ fact 7 (1 ∷ []) ∷ []) ≡ init
leaf_init = refl

at_once_init : fact_texts (v []) (first ++ fact 6 (1 ∷ []) ∷ []) ≡ init
at_once_init = refl
