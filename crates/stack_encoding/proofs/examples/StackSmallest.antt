-- The printed problem of the smallest one, m: t -> a with t on top, as a stack of one cell, written out by hand; and its two texts.
use Rattle.std.proofs.Common.{◌≡◌, true, List, [], ◌∷◌, ◌++◌, codes, refl, sym, subst, Contains}
use Rattle.text_forms.specs.Words.{Word}
use Rattle.text_forms.specs.Printing.{bytes}
use Rattle.plan_model.specs.declared.terms.Param.{Param}
use Rattle.plan_model.specs.declared.formulas.Formula.{Formula}
use Rattle.plan_model.specs.declared.formulas.Formula.TheVariants.{Holds, And}
use Rattle.plan_model.specs.declared.effects.Effect.{Effect}
use Rattle.plan_model.specs.declared.effects.Effect.TheVariants as E
use Rattle.plan_model.specs.declared.schemas.ActionSchema.{ActionSchema}
use Rattle.plan_model.specs.declared.values.Pddl.{Pddl}
use Rattle.plan_model.proofs.plan_meaning.examples.RowValues.{always}
use Rattle.plan_model.proofs.plan_meaning.examples.RowWords.{slot_1}
use Rattle.plan_model.proofs.plan_meaning.examples.SmallestRow.{smallest, smallest_names}
use Rattle.plan_texts.specs.Declared.{Declared}
use Rattle.plan_texts.specs.SpellsPddl.{pddl_words}
use Rattle.plan_texts.specs.Printed.{formula_part, effect_part}
use Rattle.plan_texts.specs.PrintedTexts.{domain_text, problem_text}
use Rattle.slot_encoding.specs.SourceParts.{name}
use Rattle.slot_encoding.specs.MethodParts.{condition_part}
use Rattle.slot_encoding.proofs.examples.RowTexts.{printing}
use Rattle.stack_encoding.specs.StackNames.{stack_objects}
use Rattle.stack_encoding.specs.StackValue.{stack_actions, IsStackEncoded}
use Rattle.stack_encoding.specs.StackWords.{stack_words}
use Rattle.stack_encoding.specs.StackPrinted.{IsFullyStackEncoded}
use Rattle.stack_encoding.proofs.StackOver.{nothing_left}
use Rattle.stack_encoding.proofs.said.StackSame.{stack_texts-same}
use Rattle.stack_encoding.proofs.examples.StackParts.{slot_0, variable, cell, predicate, value, fact, first_facts, of, action, falls, no_condition, no_change, no_words, no_effect_words}

abbrev pub words : List Word
words =
    codes "d" ∷ codes "p" ∷ codes "object" ∷ codes "htn_slot" ∷ codes "htn_object" ∷ codes "htn_s0" ∷ codes "htn_s1" ∷ codes "htn_h" ∷ codes "htn_d" ∷ codes "htn_x" ∷ codes "htn_a1"
    ∷ codes "htn_top" ∷ codes "htn_tip" ∷ codes "htn_up" ∷ codes "htn_t_t" ∷ codes "htn_a_a" ∷ codes "htn_start" ∷ codes "htn_m_m" ∷ codes "a" ∷ []

-- ?htn_h, ?htn_d and ?htn_x, each - htn_slot
abbrev h : Param
h = variable 7

abbrev d : Param
d = variable 8

abbrev x : Param
x = variable 9

-- htn_start, htn_m_m and a; what a asks and does itself comes last, and is nothing
abbrev start : ActionSchema
start = action 16 (h ∷ []) (Holds (of 0 0) ∷ Holds (of 1 0) ∷ []) (E.Delete (of 0 0) ∷ E.Add (of 3 0) ∷ [])

abbrev of_t : ActionSchema
of_t = action 17 (h ∷ []) (Holds (of 3 0) ∷ Holds (of 1 0) ∷ []) (E.Delete (of 3 0) ∷ E.Add (of 4 0) ∷ [])

abbrev a : List Formula → List Effect → ActionSchema
a pre eff = falls 18 (d ∷ h ∷ []) 4 pre eff

-- the cells are objects 0 and 1
abbrev pub printed : Pddl
printed = value words (cell 5 ∷ cell 6 ∷ [])
    (predicate 11 (h ∷ []) ∷ predicate 12 (h ∷ []) ∷ predicate 13 (x ∷ h ∷ []) ∷ predicate 14 (h ∷ []) ∷ predicate 15 (h ∷ []) ∷ [])
    (start ∷ of_t ∷ a [] [] ∷ [])
    (first_facts (fact 2 (0 ∷ 1 ∷ []) ∷ []))

objects_are : cell 5 ∷ cell 6 ∷ [] ≡ stack_objects smallest words 1
objects_are = λ i. record { name = name words (sym slot_0 i); ty = 1; constant = true } ∷ record { name = name words (sym slot_1 i); ty = 1; constant = true } ∷ []

actions_are : printed.actions ≡ stack_actions smallest words 1
actions_are = λ i. start ∷ of_t ∷ a (sym (no_condition smallest words 2) i) (sym (no_change smallest words 2) i) ∷ []

goal_is : printed.goal ≡ And (condition_part smallest words 0 always ++ nothing_left smallest 1 ∷ [])
goal_is = λ i. And (sym (no_condition smallest words 0) i ++ nothing_left smallest 1 ∷ [])

pub encoded : IsStackEncoded smallest 1 printed
encoded = record { domain = refl; problem = refl; types = refl; objects = objects_are; predicates = refl; actions = actions_are; init = ([], refl, refl); goal = goal_is }

-- the table lacks no word
words_are : stack_words smallest 1 ≡ words
words_are = λ i. codes "d" ∷ codes "p" ∷ codes "object" ∷ codes "htn_slot" ∷ codes "htn_object" ∷ slot_0 i ∷ slot_1 i ∷ codes "htn_h" ∷ codes "htn_d" ∷ codes "htn_x" ∷ codes "htn_a1" ∷ codes "htn_top" ∷ codes "htn_tip" ∷ codes "htn_up"
    ∷ codes "htn_t_t" ∷ codes "htn_a_a" ∷ (((codes "htn_start" ∷ (no_words smallest_names i ++ (codes "htn_m_m" ∷ (no_words smallest_names i ++ [])))) ++ []) ++ ((codes "a" ∷ (no_words smallest_names i ++ no_effect_words smallest_names i)) ++ []) ++ no_words smallest_names i)

pub fully : IsFullyStackEncoded smallest 1 printed
fully = record { encoded = encoded; words = λ w m. subst (λ ws. Contains ws w) words_are m }

abbrev v : Declared
v = pddl_words printed

abbrev one : List Word
one = codes "htn_h" ∷ []

abbrev two : List Word
two = codes "htn_d" ∷ codes "htn_h" ∷ []

start-asks : bytes (formula_part v start.pre one) ≡ codes "(and (htn_top ?htn_h) (htn_tip ?htn_h))"
start-asks = simp printing

start-does : bytes (effect_part v start.eff one) ≡ codes "(and (not (htn_top ?htn_h)) (htn_t_t ?htn_h))"
start-does = simp printing

method-asks : bytes (formula_part v of_t.pre one) ≡ codes "(and (htn_t_t ?htn_h) (htn_tip ?htn_h))"
method-asks = simp printing

method-does : bytes (effect_part v of_t.eff one) ≡ codes "(and (not (htn_t_t ?htn_h)) (htn_a_a ?htn_h))"
method-does = simp printing

action-asks : bytes (formula_part v (a [] []).pre two) ≡ codes "(and (htn_a_a ?htn_h) (htn_tip ?htn_h) (htn_up ?htn_d ?htn_h))"
action-asks = simp printing

action-does : bytes (effect_part v (a [] []).eff two) ≡ codes "(and (not (htn_a_a ?htn_h)) (not (htn_tip ?htn_h)) (htn_tip ?htn_d))"
action-does = simp printing

goal-bytes : bytes (formula_part v printed.goal []) ≡ codes "(and (htn_tip htn_s0))"
goal-bytes = simp printing

pub problem_row : problem_text printed ≡ codes "(define (problem p)\n (:domain d)\n (:objects)\n (:init (htn_top htn_s1) (htn_tip htn_s1) (htn_up htn_s0 htn_s1))\n (:goal (and (htn_tip htn_s0)))\n)\n"
problem_row = simp goal-bytes

pub domain_row : domain_text printed ≡ codes "(define (domain d)\n (:requirements :adl)\n (:types htn_slot - object htn_object - object)\n (:constants htn_s0 - htn_slot htn_s1 - htn_slot)\n (:predicates (htn_top ?htn_h - htn_slot) (htn_tip ?htn_h - htn_slot) (htn_up ?htn_x - htn_slot ?htn_h - htn_slot) (htn_t_t ?htn_h - htn_slot) (htn_a_a ?htn_h - htn_slot))\n (:action htn_start :parameters (?htn_h - htn_slot) :precondition (and (htn_top ?htn_h) (htn_tip ?htn_h)) :effect (and (not (htn_top ?htn_h)) (htn_t_t ?htn_h)))\n (:action htn_m_m :parameters (?htn_h - htn_slot) :precondition (and (htn_t_t ?htn_h) (htn_tip ?htn_h)) :effect (and (not (htn_t_t ?htn_h)) (htn_a_a ?htn_h)))\n (:action a :parameters (?htn_d - htn_slot ?htn_h - htn_slot) :precondition (and (htn_a_a ?htn_h) (htn_tip ?htn_h) (htn_up ?htn_d ?htn_h)) :effect (and (not (htn_a_a ?htn_h)) (not (htn_tip ?htn_h)) (htn_tip ?htn_d)))\n)\n"
domain_row = simp (start-asks, start-does, method-asks, method-does, action-asks, action-does)

-- whatever the table
pub every_row : (p : Pddl) → IsFullyStackEncoded smallest 1 p → (domain_text p ≡ domain_text printed) × (problem_text p ≡ problem_text printed)
every_row p e = stack_texts-same smallest 1 p printed e fully
