-- A problem with methods of no, of one and of three children, as a stack of two cells; its two texts were made by programs outside this project:
--
--   (:task t1) (:action act0) (:method m2 :task (t1)) (:method m1 :task (t1) :ordered-subtasks (and (act0) (t1) (act0))) (:htn :subtasks (act0))
use Rattle.std.proofs.Common.{ℕ, ◌≡◌, true, false, List, [], ◌∷◌, ◌++◌, codes, Some, None, refl, sym, arith}
use Rattle.text_forms.specs.Words.{Word}
use Rattle.text_forms.specs.Printing.{bytes}
use Rattle.plan_model.specs.declared.options.Checks.TheVariants.{AtOnce}
use Rattle.plan_model.specs.declared.terms.Param.{Param}
use Rattle.plan_model.specs.declared.networks.Head.TheVariants.{Task, Action}
use Rattle.plan_model.specs.declared.formulas.Formula.TheVariants.{Holds, And}
use Rattle.plan_model.specs.declared.effects.Effect.TheVariants as E
use Rattle.plan_model.specs.declared.schemas.ActionSchema.{ActionSchema}
use Rattle.plan_model.specs.declared.schemas.MethodSchema.{MethodSchema}
use Rattle.plan_model.specs.declared.schemas.MethodPlan.{MethodPlan}
use Rattle.plan_model.specs.declared.values.Hddl.{Hddl}
use Rattle.plan_model.specs.declared.values.Compiled.{Compiled}
use Rattle.plan_model.specs.declared.values.Pddl.{Pddl}
use Rattle.plan_model.specs.plan_meaning.Compilation.{IsCompiled}
use Rattle.plan_model.proofs.plan_meaning.examples.PlanKinds.{plain, none_rise}
use Rattle.plan_model.proofs.plan_meaning.examples.RowValues.{child, always, nothing, problem, method_schema, method_plan, task_schema, action_schema}
use Rattle.plan_model.proofs.plan_meaning.examples.RowWords.{slot_1, slot_2}
use Rattle.plan_texts.specs.Declared.{Declared}
use Rattle.plan_texts.specs.SpellsPddl.{pddl_words}
use Rattle.plan_texts.specs.Printed.{formula_part, effect_part}
use Rattle.plan_texts.specs.PrintedTexts.{domain_text, problem_text}
use Rattle.slot_encoding.specs.SourceParts.{name}
use Rattle.slot_encoding.specs.MethodParts.{condition_part}
use Rattle.slot_encoding.proofs.examples.RowTexts.{digit_1, digit_2, printing}
use Rattle.stack_encoding.specs.StackNames.{stack_objects}
use Rattle.stack_encoding.specs.StackValue.{stack_actions, IsStackEncoded}
use Rattle.stack_encoding.proofs.StackOver.{nothing_left}
use Rattle.stack_encoding.proofs.examples.StackParts.{slot_0, variable, cell, predicate, value, fact, first_facts, of, up, action, falls, no_condition, no_change}

abbrev source : List Word
source = codes "object" ∷ codes "d" ∷ codes "p" ∷ codes "htn_start" ∷ codes "t1" ∷ codes "act0" ∷ codes "m2" ∷ codes "m1" ∷ []

abbrev top : MethodSchema
top = method_schema 3 1 always (child (Action 0) ∷ []) []

abbrev m2 : MethodSchema
m2 = method_schema 6 0 always [] []

abbrev m1 : MethodSchema
m1 = method_schema 7 0 always (child (Action 0) ∷ child (Task 0) ∷ child (Action 0) ∷ []) (record { first = 0; then = 1 } ∷ record { first = 1; then = 2 } ∷ [])

abbrev hddl : Hddl
hddl = problem source [] (task_schema 4 ∷ []) (action_schema 5 always nothing ∷ []) (m2 ∷ m1 ∷ []) top

abbrev pub top_plan : MethodPlan
top_plan = method_plan top false (0 ∷ []) (Some 0) []

abbrev pub m2_plan : MethodPlan
m2_plan = method_plan m2 false [] None []

abbrev pub m1_plan : MethodPlan
m1_plan = method_plan m1 false (0 ∷ 1 ∷ 2 ∷ []) (Some 2) []

abbrev pub row : Compiled
row = record { hddl = hddl; methods = top_plan ∷ m2_plan ∷ m1_plan ∷ [] }

pub row_is_compiled : IsCompiled hddl AtOnce row
row_is_compiled = record {
  hddl = refl;
  methods = (
    plain hddl AtOnce _ _ refl refl refl (record { schema = refl; up = tt; line = refl; heir = refl; copiers = refl; rising = none_rise; guards = ([], refl, refl) }),
    (
      plain hddl AtOnce _ _ refl refl refl (record { schema = refl; up = tt; line = refl; heir = refl; copiers = refl; rising = none_rise; guards = ([], refl, refl) }),
      (plain hddl AtOnce _ _ refl refl refl (record { schema = refl; up = (omega arith, (omega arith, tt)); line = refl; heir = refl; copiers = refl; rising = none_rise; guards = ([], refl, refl) }), tt),
    ),
  );
}

abbrev words : List Word
words =
    codes "d" ∷ codes "p" ∷ codes "object" ∷ codes "htn_slot" ∷ codes "htn_object" ∷ codes "htn_s0" ∷ codes "htn_s1" ∷ codes "htn_s2" ∷ codes "htn_h" ∷ codes "htn_d" ∷ codes "htn_x" ∷ codes "htn_a1"
    ∷ codes "htn_top" ∷ codes "htn_tip" ∷ codes "htn_up" ∷ codes "htn_t_t1" ∷ codes "htn_a_act0" ∷ codes "htn_start" ∷ codes "htn_m_m2" ∷ codes "htn_m_m1" ∷ codes "htn_h1" ∷ codes "htn_h2" ∷ codes "act0" ∷ []

-- ?htn_h, ?htn_d and ?htn_x
abbrev h : Param
h = variable 8

abbrev d : Param
d = variable 9

abbrev x : Param
x = variable 10

abbrev start : ActionSchema
start = action 17 (h ∷ []) (Holds (of 0 0) ∷ Holds (of 1 0) ∷ []) (E.Delete (of 0 0) ∷ E.Add (of 4 0) ∷ [])

-- the line's first child is in the highest cell, which is the tip then
abbrev of_m1 : List Param → ActionSchema
of_m1 params = action 19 params (Holds (of 3 0) ∷ Holds (of 1 0) ∷ Holds (up 0 1) ∷ Holds (up 1 2) ∷ [])
    (E.Delete (of 3 0) ∷ E.Add (of 4 2) ∷ E.Add (of 3 1) ∷ E.Add (of 4 0) ∷ E.Delete (of 1 0) ∷ E.Add (of 1 2) ∷ [])

abbrev pub printed : Pddl
printed = value words (cell 5 ∷ cell 6 ∷ cell 7 ∷ [])
    (predicate 12 (h ∷ []) ∷ predicate 13 (h ∷ []) ∷ predicate 14 (x ∷ h ∷ []) ∷ predicate 15 (h ∷ []) ∷ predicate 16 (h ∷ []) ∷ [])
    (start ∷ falls 18 (d ∷ h ∷ []) 3 [] [] ∷ of_m1 (h ∷ variable 20 ∷ variable 21 ∷ []) ∷ falls 22 (d ∷ h ∷ []) 4 [] [] ∷ [])
    (first_facts (fact 2 (0 ∷ 1 ∷ []) ∷ fact 2 (1 ∷ 2 ∷ []) ∷ []))

-- a variable behind htn_h, by its numeral
abbrev further : List ℕ → Param
further numeral = record { name = name words (codes "htn_h" ++ numeral); ty = 1 }

objects_are : printed.objects ≡ stack_objects row words 2
objects_are = λ i. record { name = name words (sym slot_0 i); ty = 1; constant = true } ∷ record { name = name words (sym slot_1 i); ty = 1; constant = true } ∷ record { name = name words (sym slot_2 i); ty = 1; constant = true } ∷ []

actions_are : printed.actions ≡ stack_actions row words 2
actions_are = λ i. start ∷ falls 18 (d ∷ h ∷ []) 3 [] [] ∷ of_m1 (h ∷ further (sym digit_1 i) ∷ further (sym digit_2 i) ∷ []) ∷ falls 22 (d ∷ h ∷ []) 4 (sym (no_condition row words 2) i) (sym (no_change row words 2) i) ∷ []

goal_is : printed.goal ≡ And (condition_part row words 0 always ++ nothing_left row 2 ∷ [])
goal_is = λ i. And (sym (no_condition row words 0) i ++ nothing_left row 2 ∷ [])

pub encoded : IsStackEncoded row 2 printed
encoded = record { domain = refl; problem = refl; types = refl; objects = objects_are; predicates = refl; actions = actions_are; init = ([], refl, refl); goal = goal_is }

abbrev v : Declared
v = pddl_words printed

abbrev two : List Word
two = codes "htn_d" ∷ codes "htn_h" ∷ []

abbrev three : List Word
three = codes "htn_h" ∷ codes "htn_h1" ∷ codes "htn_h2" ∷ []

start-asks : bytes (formula_part v start.pre (codes "htn_h" ∷ [])) ≡ codes "(and (htn_top ?htn_h) (htn_tip ?htn_h))"
start-asks = simp printing

start-does : bytes (effect_part v start.eff (codes "htn_h" ∷ [])) ≡ codes "(and (not (htn_top ?htn_h)) (htn_a_act0 ?htn_h))"
start-does = simp printing

none-asks : bytes (formula_part v (falls 18 (d ∷ h ∷ []) 3 [] []).pre two) ≡ codes "(and (htn_t_t1 ?htn_h) (htn_tip ?htn_h) (htn_up ?htn_d ?htn_h))"
none-asks = simp printing

none-does : bytes (effect_part v (falls 18 (d ∷ h ∷ []) 3 [] []).eff two) ≡ codes "(and (not (htn_t_t1 ?htn_h)) (not (htn_tip ?htn_h)) (htn_tip ?htn_d))"
none-does = simp printing

three-asks : bytes (formula_part v (of_m1 []).pre three) ≡ codes "(and (htn_t_t1 ?htn_h) (htn_tip ?htn_h) (htn_up ?htn_h ?htn_h1) (htn_up ?htn_h1 ?htn_h2))"
three-asks = simp printing

three-does : bytes (effect_part v (of_m1 []).eff three) ≡ codes "(and (not (htn_t_t1 ?htn_h)) (htn_a_act0 ?htn_h2) (htn_t_t1 ?htn_h1) (htn_a_act0 ?htn_h) (not (htn_tip ?htn_h)) (htn_tip ?htn_h2))"
three-does = simp printing

action-asks : bytes (formula_part v (falls 22 (d ∷ h ∷ []) 4 [] []).pre two) ≡ codes "(and (htn_a_act0 ?htn_h) (htn_tip ?htn_h) (htn_up ?htn_d ?htn_h))"
action-asks = simp printing

action-does : bytes (effect_part v (falls 22 (d ∷ h ∷ []) 4 [] []).eff two) ≡ codes "(and (not (htn_a_act0 ?htn_h)) (not (htn_tip ?htn_h)) (htn_tip ?htn_d))"
action-does = simp printing

goal-bytes : bytes (formula_part v printed.goal []) ≡ codes "(and (htn_tip htn_s0))"
goal-bytes = simp printing

pub problem_row : problem_text printed ≡ codes "(define (problem p)\n (:domain d)\n (:objects)\n (:init (htn_top htn_s1) (htn_tip htn_s1) (htn_up htn_s0 htn_s1) (htn_up htn_s1 htn_s2))\n (:goal (and (htn_tip htn_s0)))\n)\n"
problem_row = simp goal-bytes

pub domain_row : domain_text printed ≡ codes "(define (domain d)\n (:requirements :adl)\n (:types htn_slot - object htn_object - object)\n (:constants htn_s0 - htn_slot htn_s1 - htn_slot htn_s2 - htn_slot)\n (:predicates (htn_top ?htn_h - htn_slot) (htn_tip ?htn_h - htn_slot) (htn_up ?htn_x - htn_slot ?htn_h - htn_slot) (htn_t_t1 ?htn_h - htn_slot) (htn_a_act0 ?htn_h - htn_slot))\n (:action htn_start :parameters (?htn_h - htn_slot) :precondition (and (htn_top ?htn_h) (htn_tip ?htn_h)) :effect (and (not (htn_top ?htn_h)) (htn_a_act0 ?htn_h)))\n (:action htn_m_m2 :parameters (?htn_d - htn_slot ?htn_h - htn_slot) :precondition (and (htn_t_t1 ?htn_h) (htn_tip ?htn_h) (htn_up ?htn_d ?htn_h)) :effect (and (not (htn_t_t1 ?htn_h)) (not (htn_tip ?htn_h)) (htn_tip ?htn_d)))\n (:action htn_m_m1 :parameters (?htn_h - htn_slot ?htn_h1 - htn_slot ?htn_h2 - htn_slot) :precondition (and (htn_t_t1 ?htn_h) (htn_tip ?htn_h) (htn_up ?htn_h ?htn_h1) (htn_up ?htn_h1 ?htn_h2)) :effect (and (not (htn_t_t1 ?htn_h)) (htn_a_act0 ?htn_h2) (htn_t_t1 ?htn_h1) (htn_a_act0 ?htn_h) (not (htn_tip ?htn_h)) (htn_tip ?htn_h2)))\n (:action act0 :parameters (?htn_d - htn_slot ?htn_h - htn_slot) :precondition (and (htn_a_act0 ?htn_h) (htn_tip ?htn_h) (htn_up ?htn_d ?htn_h)) :effect (and (not (htn_a_act0 ?htn_h)) (not (htn_tip ?htn_h)) (htn_tip ?htn_d)))\n)\n"
domain_row = simp (start-asks, start-does, none-asks, none-does, three-asks, three-does, action-asks, action-does)
