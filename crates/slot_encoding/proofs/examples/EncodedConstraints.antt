-- Constraints in both senses, printed; and such forms in a precondition, in both modes of checks. The methods m and n of t take two blocks, and n
-- has no subtasks:
--
--   (:constants b1 b2 - block) (:task t :parameters ()) (:action a :parameters ())
--   (:method m :parameters (?x ?y - block) :task (t) :precondition (imply (= ?y b2) (not (= ?y ?x)))
--    :subtasks (a) :constraints (and (= ?x b1) (not (= ?x ?y))))
--   (:method n ..) the same, with :subtasks ()
use Rattle.std.proofs.Common.{ℕ, ◌≡◌, true, false, List, [], ◌∷◌, Some, None, codes, refl, ap, ◌∙◌, arith}
use Rattle.plan_model.specs.declared.options.Checks.TheVariants.{Leaf, AtOnce}
use Rattle.plan_model.specs.declared.options.Style.TheVariants.{Adl}
use Rattle.plan_model.specs.declared.terms.Param.{Param}
use Rattle.plan_model.specs.declared.terms.Term.TheVariants.{Var, Obj}
use Rattle.plan_model.specs.declared.types.Object.{Object}
use Rattle.plan_model.specs.declared.types.Types.{Types}
use Rattle.plan_model.specs.declared.formulas.Formula.{Formula}
use Rattle.plan_model.specs.declared.formulas.Formula.TheVariants.{Equal, Not, Imply}
use Rattle.plan_model.specs.declared.networks.Child.{Child}
use Rattle.plan_model.specs.declared.networks.Head.TheVariants.{Action, Check}
use Rattle.plan_model.specs.declared.schemas.ActionSchema.{ActionSchema}
use Rattle.plan_model.specs.declared.schemas.MethodSchema.{MethodSchema}
use Rattle.plan_model.specs.declared.schemas.MethodPlan.{MethodPlan}
use Rattle.plan_model.specs.declared.values.Hddl.{Hddl}
use Rattle.plan_model.specs.declared.values.Compiled.{Compiled}
use Rattle.plan_model.specs.plan_meaning.Compilation.{AsksSomething, IsCompiled}
use Rattle.plan_model.proofs.plan_meaning.examples.PlanKinds.{with_check, when_applied, none_rise}
use Rattle.plan_model.proofs.plan_meaning.examples.RowValues.{child, always, nothing, problem, method_schema, method_plan, task_schema, action_schema}
use Rattle.plan_texts.specs.Declared.{Declared}
use Rattle.slot_encoding.specs.SourceParts.{source_formula}
use Rattle.slot_encoding.specs.EncodedActions.{encoded_method, encoded_check}
use Rattle.slot_encoding.proofs.examples.TopPlan.{top_plan, top_is}
use Rattle.slot_encoding.proofs.examples.RowTexts.{digit_1, digit_2, is_imply, asks, source-Imply, source-Not, source-Equal, printing, declared, action_texts, waits, clears}

abbrev names : List (List ℕ)
names =
    codes "object" ∷ codes "d" ∷ codes "p" ∷ codes "htn_start" ∷ codes "block" ∷ codes "b1" ∷ codes "b2" ∷ codes "t" ∷ codes "m"
    ∷ codes "x" ∷ codes "y" ∷ codes "a" ∷ codes "n" ∷ []

abbrev block : ℕ → Param
block n = record { name = record { number = n }; ty = 1 }

abbrev object : ℕ → Object
object n = record { name = record { number = n }; ty = 1; constant = true }

-- ?x and ?y are variables 0 and 1, b1 and b2 objects 0 and 1
abbrev asked : Formula
asked = Imply (Equal (Var 1) (Obj 1)) (Not (Equal (Var 1) (Var 0)))

-- its name and its children
abbrev method : ℕ → List Child → MethodSchema
method n children = record (method_schema n 0 asked children []) {
  params = block 9 ∷ block 10 ∷ [];
  constraints = record { equal = true; left = Var 0; right = Obj 0 } ∷ record { equal = false; left = Var 0; right = Var 1 } ∷ [];
}

abbrev a : List Child
a = child (Action 0) ∷ []

abbrev action : ActionSchema
action = action_schema 11 always nothing

abbrev types : Types
types = record { names = record { number = 0 } ∷ record { number = 4 } ∷ []; parents = record { child = 1; parent = 0 } ∷ []; unions = [] }

abbrev hddl : Hddl
hddl = record (problem names [] (task_schema 7 ∷ []) (action ∷ []) (method 8 a ∷ method 12 [] ∷ []) top_plan.schema) {
  types = types;
  objects = object 5 ∷ object 6 ∷ [];
}

-- a check has both parameters, and stands before a; what n has is the check alone
abbrev check : Child
check = record { id = None; head = Check; args = Var 0 ∷ Var 1 ∷ [] }

abbrev m_checked : MethodPlan
m_checked = method_plan (record (method 8 (check ∷ a)) { pairs = record { first = 0; then = 1 } ∷ [] }) true (0 ∷ 1 ∷ []) (Some 1) []

abbrev n_checked : MethodPlan
n_checked = method_plan (method 12 (check ∷ [])) true (0 ∷ []) (Some 0) []

abbrev leaf : Compiled
leaf = record { hddl = hddl; methods = top_plan ∷ m_checked ∷ n_checked ∷ [] }

-- tested where they are applied
abbrev m_tested : MethodPlan
m_tested = record (method_plan (method 8 a) false (0 ∷ []) (Some 0) []) { tested = true }

abbrev n_tested : MethodPlan
n_tested = record (method_plan (method 12 []) false [] None []) { tested = true }

abbrev at_once : Compiled
at_once = record { hddl = hddl; methods = top_plan ∷ m_tested ∷ n_tested ∷ [] }

asks_asked : AsksSomething asked
asks_asked = asks asked (is_imply _ _)

leaf_is_compiled : IsCompiled hddl Leaf leaf
leaf_is_compiled = record {
  hddl = refl;
  methods = (
    top_is hddl Leaf,
    (
      with_check hddl _ _ asks_asked refl refl (record {
        schema = refl;
        up = (omega arith, tt);
        line = refl;
        heir = refl;
        copiers = refl;
        rising = none_rise;
        guards = ([], refl, refl);
      }),
      (
        with_check hddl _ _ asks_asked refl refl (record {
          schema = refl;
          up = tt;
          line = refl;
          heir = refl;
          copiers = refl;
          rising = none_rise;
          guards = ([], refl, refl);
        }),
        tt,
      ),
    ),
  );
}

at_once_is_compiled : IsCompiled hddl AtOnce at_once
at_once_is_compiled = record {
  hddl = refl;
  methods = (
    top_is hddl AtOnce,
    (
      when_applied hddl _ _ asks_asked refl refl (record {
        schema = refl;
        up = tt;
        line = refl;
        heir = refl;
        copiers = refl;
        rising = none_rise;
        guards = ([], refl, refl);
      }),
      (
        when_applied hddl _ _ asks_asked refl refl (record {
          schema = refl;
          up = tt;
          line = refl;
          heir = refl;
          copiers = refl;
          rising = none_rise;
          guards = ([], refl, refl);
        }),
        tt,
      ),
    ),
  );
}

abbrev words : List (List ℕ)
words =
    codes "object" ∷ codes "htn_slot" ∷ codes "htn_object" ∷ codes "block" ∷ codes "b1" ∷ codes "b2" ∷ codes "htn_s1" ∷ codes "htn_s2"
    ∷ codes "htn_top" ∷ codes "htn_free" ∷ codes "htn_before"
    ∷ codes "htn_t_t" ∷ codes "htn_a_a" ∷ codes "htn_c_m" ∷ codes "htn_c_n" ∷ codes "htn_h" ∷ codes "htn_h1" ∷ codes "htn_x"
    ∷ codes "htn_m_m" ∷ codes "htn_m_n" ∷ codes "x" ∷ codes "y" ∷ []

-- checks: the predicates of checks
abbrev v : List (List ℕ) → Declared
v checks = record {
  names = words;
  types = codes "object" ∷ codes "htn_slot" ∷ codes "htn_object" ∷ codes "block" ∷ [];
  unions = [];
  objects = codes "b1" ∷ codes "b2" ∷ codes "htn_s1" ∷ codes "htn_s2" ∷ [];
  predicates = codes "htn_top" ∷ codes "htn_free" ∷ codes "htn_before" ∷ codes "htn_t_t" ∷ codes "htn_a_a" ∷ checks;
}

abbrev in_leaf : Declared
in_leaf = v (codes "htn_c_m" ∷ codes "htn_c_n" ∷ [])

abbrev when_at_once : Declared
when_at_once = v []

leaf_declared : declared leaf words 2 ≡ in_leaf
leaf_declared = simp (digit_1, digit_2)

at_once_declared : declared at_once words 2 ≡ when_at_once
at_once_declared = simp (digit_1, digit_2)

-- behind a slot ?x and ?y are variables 1 and 2
asked_behind : source_formula words names 1 asked ≡ Imply (Equal (Var 2) (Obj 1)) (Not (Equal (Var 2) (Var 1)))
asked_behind =
    source-Imply words names 1 (Equal (Var 1) (Obj 1)) (Not (Equal (Var 1) (Var 0)))
    ∙ (λ i. Imply (source-Equal words names 1 (Var 1) (Obj 1) i) (other i))
  where
    other : source_formula words names 1 (Not (Equal (Var 1) (Var 0))) ≡ Not (Equal (Var 2) (Var 1))
    other = source-Not words names 1 (Equal (Var 1) (Var 0)) ∙ ap Not (source-Equal words names 1 (Var 1) (Var 0))

-- by a check: a method's action asks the constraints alone. Of m the check has the new slot and a, which is the last, the method's own; of n the
-- check is the last
m_leaf : action_texts in_leaf (encoded_method leaf words 2 Adl 1 m_checked) ≡
    codes "htn_m_m" ∷ codes "(?htn_h - htn_slot ?htn_h1 - htn_slot ?x - block ?y - block)"
    ∷ codes "and" ∷ codes "(htn_t_t ?htn_h)" ∷ waits ∷ codes "(htn_free ?htn_h1)" ∷ codes "(= ?x b1)" ∷ codes "(not (= ?x ?y))"
    ∷ codes "and" ∷ codes "(not (htn_t_t ?htn_h))" ∷ codes "(not (htn_free ?htn_h1))" ∷ codes "(htn_c_m ?htn_h1 ?x ?y)"
    ∷ codes "(htn_a_a ?htn_h)" ∷ codes "(htn_before ?htn_h1 ?htn_h)" ∷ []
m_leaf = simp (digit_1, printing)

n_leaf : action_texts in_leaf (encoded_method leaf words 2 Adl 2 n_checked) ≡
    codes "htn_m_n" ∷ codes "(?htn_h - htn_slot ?x - block ?y - block)"
    ∷ codes "and" ∷ codes "(htn_t_t ?htn_h)" ∷ waits ∷ codes "(= ?x b1)" ∷ codes "(not (= ?x ?y))"
    ∷ codes "and" ∷ codes "(not (htn_t_t ?htn_h))" ∷ codes "(htn_c_n ?htn_h ?x ?y)" ∷ []
n_leaf = simp printing

-- and its check the precondition
m_check : action_texts in_leaf (encoded_check leaf words 2 Adl 1 m_checked) ≡
    codes "htn_c_m" ∷ codes "(?htn_h - htn_slot ?x - block ?y - block)"
    ∷ codes "and" ∷ codes "(htn_c_m ?htn_h ?x ?y)" ∷ waits ∷ codes "(imply (= ?y b2) (not (= ?y ?x)))"
    ∷ codes "and" ∷ codes "(not (htn_c_m ?htn_h ?x ?y))" ∷ codes "(htn_free ?htn_h)" ∷ clears ∷ []
m_check = simp (is_imply, asked_behind, printing)

-- at once: a method's action asks the constraints and then the precondition
m_at_once : action_texts when_at_once (encoded_method at_once words 2 Adl 1 m_tested) ≡
    codes "htn_m_m" ∷ codes "(?htn_h - htn_slot ?x - block ?y - block)"
    ∷ codes "and" ∷ codes "(htn_t_t ?htn_h)" ∷ waits ∷ codes "(= ?x b1)" ∷ codes "(not (= ?x ?y))"
    ∷ codes "(imply (= ?y b2) (not (= ?y ?x)))"
    ∷ codes "and" ∷ codes "(not (htn_t_t ?htn_h))" ∷ codes "(htn_a_a ?htn_h)" ∷ []
m_at_once = simp (is_imply, asked_behind, printing)

-- without children the slot is free then
n_at_once : action_texts when_at_once (encoded_method at_once words 2 Adl 2 n_tested) ≡
    codes "htn_m_n" ∷ codes "(?htn_h - htn_slot ?x - block ?y - block)"
    ∷ codes "and" ∷ codes "(htn_t_t ?htn_h)" ∷ waits ∷ codes "(= ?x b1)" ∷ codes "(not (= ?x ?y))"
    ∷ codes "(imply (= ?y b2) (not (= ?y ?x)))"
    ∷ codes "and" ∷ codes "(not (htn_t_t ?htn_h))" ∷ codes "(htn_free ?htn_h)" ∷ clears ∷ []
n_at_once = simp (is_imply, asked_behind, printing)
