-- Problems and the fault of their form, by computation. A section's places are counted from 19, where it begins.
use Rattle.std.proofs.Common.{◌≡◌, ℕ, ◌+◌, Option, Some, None, List, ◌++◌, codes, refl}
use Rattle.text_forms.specs.Faults.{Fault, fault}
use Rattle.text_forms.specs.form_grammar.Definitions.{definition_fault}
use Rattle.text_forms.specs.form_grammar.Sections.{hddl, pddl, problem}

abbrev whole : List ℕ → Option Fault
whole text = definition_fault hddl problem text

abbrev whole_in_pddl : List ℕ → Option Fault
whole_in_pddl text = definition_fault pddl problem text

abbrev with : List ℕ → Option Fault
with text = definition_fault hddl problem (codes "(define (problem p)" ++ text ++ codes "(:htn))")

-- whole texts
no_name : whole (codes "(define (problem))") ≡ Some (fault 5 16)
no_name = refl

second_name : whole (codes "(define (problem p q)(:htn))") ≡ Some (fault 5 19)
second_name = refl

of_a_domain : whole (codes "(define (domain d))") ≡ Some (fault 5 9)
of_a_domain = refl

reserved_name : whole (codes "(define (problem <))") ≡ Some (fault 9 17)
reserved_name = refl

without_a_network : whole (codes "(define (problem p))") ≡ Some (fault 8 19)
without_a_network = refl

without_a_network_in_pddl : whole_in_pddl (codes "(define (problem p))") ≡ None
without_a_network_in_pddl = refl

network_in_pddl : whole_in_pddl (codes "(define (problem p)(:htn))") ≡ Some (fault 6 20)
network_in_pddl = refl

behind_the_problem : whole (codes "(define (problem p)(:htn))()") ≡ Some (fault 8 26)
behind_the_problem = refl

-- sections
types : with (codes "(:types a)") ≡ Some (fault 6 (19 + 1))
types = refl

action : with (codes "(:action a)") ≡ Some (fault 6 (19 + 1))
action = refl

functions : with (codes "(:functions)") ≡ Some (fault 6 (19 + 1))
functions = refl

domain_twice : with (codes "(:domain d)(:domain d)") ≡ Some (fault 7 (19 + 12))
domain_twice = refl

requirements_twice : with (codes "(:requirements)(:requirements)") ≡ Some (fault 7 (19 + 16))
requirements_twice = refl

objects_twice : with (codes "(:objects a)(:objects b)") ≡ Some (fault 7 (19 + 13))
objects_twice = refl

init_twice : with (codes "(:init)(:init)") ≡ Some (fault 7 (19 + 8))
init_twice = refl

metric_twice : with (codes "(:metric)(:metric)") ≡ Some (fault 7 (19 + 10))
metric_twice = refl

goal_twice : with (codes "(:goal (p))(:goal (q))") ≡ Some (fault 7 (19 + 12))
goal_twice = refl

network_twice : with (codes "(:htn)") ≡ Some (fault 7 (19 + 7))
network_twice = refl

reserved_domain : with (codes "(:domain and)") ≡ Some (fault 8 (19 + 9))
reserved_domain = refl

second_domain : with (codes "(:domain d e)") ≡ Some (fault 8 (19 + 11))
second_domain = refl

no_domain : with (codes "(:domain)") ≡ Some (fault 8 (19 + 8))
no_domain = refl

list_as_the_domain : with (codes "(:domain (d))") ≡ Some (fault 8 (19 + 9))
list_as_the_domain = refl

variable_as_an_object : with (codes "(:objects ?a)") ≡ Some (fault 8 (19 + 10))
variable_as_an_object = refl

reserved_type : with (codes "(:objects a - and)") ≡ Some (fault 8 (19 + 14))
reserved_type = refl

no_goal : with (codes "(:goal)") ≡ Some (fault 8 (19 + 6))
no_goal = refl

word_as_a_goal : with (codes "(:goal p)") ≡ Some (fault 8 (19 + 7))
word_as_a_goal = refl

second_formula : with (codes "(:goal (p) (q))") ≡ Some (fault 8 (19 + 11))
second_formula = refl

reserved_object : with (codes "(:objects <)") ≡ Some (fault 9 (19 + 10))
reserved_object = refl

reserved_in_a_goal : with (codes "(:goal (exists (?or) (p)))") ≡ Some (fault 9 (19 + 16))
reserved_in_a_goal = refl

quantified_twice : with (codes "(:goal (forall (?x ?x) (p)))") ≡ Some (fault 18 (19 + 19))
quantified_twice = refl

metric : with (codes "(:metric minimize (total-cost))") ≡ None
metric = refl

-- the initial network
task_of_a_network : with (codes "(:htn :task (t))") ≡ Some (fault 6 (19 + 6))
task_of_a_network = refl

condition_of_a_network : whole (codes "(define (problem p)(:htn :precondition ()))") ≡ Some (fault 6 (19 + 6))
condition_of_a_network = refl

effect_of_a_network : whole (codes "(define (problem p)(:htn :effect ()))") ≡ Some (fault 6 (19 + 6))
effect_of_a_network = refl

parameters_of_a_network_twice : whole (codes "(define (problem p)(:htn :parameters () :parameters ()))") ≡ Some (fault 7 (19 + 21))
parameters_of_a_network_twice = refl

ordering_twice : whole (codes "(define (problem p)(:htn :ordering () :order ()))") ≡ Some (fault 7 (19 + 19))
ordering_twice = refl

constraints_twice : whole (codes "(define (problem p)(:htn :constraints () :constraints ()))") ≡ Some (fault 7 (19 + 22))
constraints_twice = refl

list_as_a_part : whole (codes "(define (problem p)(:htn ()))") ≡ Some (fault 8 (19 + 6))
list_as_a_part = refl

no_subtasks : whole (codes "(define (problem p)(:htn :subtasks))") ≡ Some (fault 8 (19 + 15))
no_subtasks = refl

word_as_subtasks : whole (codes "(define (problem p)(:htn :subtasks t))") ≡ Some (fault 8 (19 + 16))
word_as_subtasks = refl

reserved_parameter : whole (codes "(define (problem p)(:htn :parameters (?or)))") ≡ Some (fault 9 (19 + 19))
reserved_parameter = refl

subtasks_twice : with (codes "(:htn :tasks () :subtasks ())") ≡ Some (fault 7 (19 + 16))
subtasks_twice = refl

reserved_subtask : with (codes "(:htn :subtasks (and (and)))") ≡ Some (fault 9 (19 + 22))
reserved_subtask = refl

parameter_twice : with (codes "(:htn :parameters (?x ?x))") ≡ Some (fault 18 (19 + 22))
parameter_twice = refl

-- facts
some_facts : with (codes "(:init (= (c x) 0) (p a))") ≡ None
some_facts = refl

variable_in_a_fact : with (codes "(:init (p ?x))") ≡ Some (fault 8 (19 + 10))
variable_in_a_fact = refl

negated_fact : with (codes "(:init (not (p)))") ≡ Some (fault 8 (19 + 8))
negated_fact = refl

no_function : with (codes "(:init (= c 0))") ≡ Some (fault 8 (19 + 10))
no_function = refl

no_value : with (codes "(:init (= (c)))") ≡ Some (fault 8 (19 + 13))
no_value = refl

word_as_a_fact : with (codes "(:init p)") ≡ Some (fault 8 (19 + 7))
word_as_a_fact = refl

empty_fact : with (codes "(:init ())") ≡ Some (fault 8 (19 + 8))
empty_fact = refl

list_in_a_fact : with (codes "(:init (p (q)))") ≡ Some (fault 8 (19 + 10))
list_in_a_fact = refl

list_as_the_value : with (codes "(:init (= (c) (d)))") ≡ Some (fault 8 (19 + 14))
list_as_the_value = refl

second_value : with (codes "(:init (= (c) 0 1))") ≡ Some (fault 8 (19 + 16))
second_value = refl
