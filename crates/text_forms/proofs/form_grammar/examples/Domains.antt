-- Domains and the fault of their form, by computation. A section's places are counted from 18, where it begins.
use Rattle.std.proofs.Common.{◌≡◌, ℕ, ◌+◌, Option, Some, None, List, ◌++◌, codes, refl}
use Rattle.text_forms.specs.Faults.{Fault, fault}
use Rattle.text_forms.specs.form_grammar.Definitions.{definition_fault}
use Rattle.text_forms.specs.form_grammar.Sections.{hddl, pddl, domain}

abbrev whole : List ℕ → Option Fault
whole text = definition_fault hddl domain text

abbrev with : List ℕ → Option Fault
with text = definition_fault hddl domain (codes "(define (domain d)" ++ text ++ codes ")")

abbrev with_in_pddl : List ℕ → Option Fault
with_in_pddl text = definition_fault pddl domain (codes "(define (domain d)" ++ text ++ codes ")")

-- what is no definition: 5, and 9 for a reserved word in the place of its name
no_token : whole (codes "  ; nothing") ≡ Some (fault 5 11)
no_token = refl

a_word : whole (codes "define") ≡ Some (fault 5 0)
a_word = refl

an_empty_list : whole (codes "()") ≡ Some (fault 5 1)
an_empty_list = refl

no_header : whole (codes "(define)") ≡ Some (fault 5 7)
no_header = refl

word_as_header : whole (codes "(define d)") ≡ Some (fault 5 8)
word_as_header = refl

other_kind : whole (codes "(define (problem d))") ≡ Some (fault 5 9)
other_kind = refl

list_as_name : whole (codes "(define (domain (d)))") ≡ Some (fault 5 16)
list_as_name = refl

keyword_as_name : whole (codes "(define (domain :d))") ≡ Some (fault 5 16)
keyword_as_name = refl

second_name : whole (codes "(define (domain d e))") ≡ Some (fault 5 18)
second_name = refl

list_as_define : whole (codes "((define) (domain d))") ≡ Some (fault 5 1)
list_as_define = refl

other_word : whole (codes "(domain (define d))") ≡ Some (fault 5 1)
other_word = refl

empty_title : whole (codes "(define ())") ≡ Some (fault 5 9)
empty_title = refl

no_name_of_its_own : whole (codes "(define (domain))") ≡ Some (fault 5 15)
no_name_of_its_own = refl

variable_as_name : whole (codes "(define (domain ?d))") ≡ Some (fault 5 16)
variable_as_name = refl

list_behind_the_name : whole (codes "(define (domain d (e)))") ≡ Some (fault 5 18)
list_behind_the_name = refl

reserved_name : whole (codes "(define (domain and))") ≡ Some (fault 9 16)
reserved_name = refl

shortest : whole (codes "(define (domain d))") ≡ None
shortest = refl

behind_the_domain : whole (codes "(define (domain d)) x") ≡ Some (fault 8 20)
behind_the_domain = refl

second_definition : whole (codes "(define (domain d))(define (domain e))") ≡ Some (fault 8 19)
second_definition = refl

-- a keyword that names no section or part: 6
metric : with (codes "(:metric)") ≡ Some (fault 6 (18 + 1))
metric = refl

subtasks_of_a_task : with (codes "(:task t :subtasks ())") ≡ Some (fault 6 (18 + 9))
subtasks_of_a_task = refl

task_of_an_action : with (codes "(:action a :task (t))") ≡ Some (fault 6 (18 + 11))
task_of_an_action = refl

effect_of_a_method : with (codes "(:method m :task (t) :effect ())") ≡ Some (fault 6 (18 + 21))
effect_of_a_method = refl

other_keyword : with (codes "(:axiom)") ≡ Some (fault 6 (18 + 1))
other_keyword = refl

objects : with (codes "(:objects a)") ≡ Some (fault 6 (18 + 1))
objects = refl

network : with (codes "(:htn)") ≡ Some (fault 6 (18 + 1))
network = refl

task_of_a_task : with (codes "(:task t :task (t))") ≡ Some (fault 6 (18 + 9))
task_of_a_task = refl

subtasks_of_an_action : with (codes "(:action a :subtasks ())") ≡ Some (fault 6 (18 + 11))
subtasks_of_an_action = refl

section_as_a_part : with (codes "(:method m :task (t) :types (a))") ≡ Some (fault 6 (18 + 21))
section_as_a_part = refl

task_in_pddl : with_in_pddl (codes "(:task t)") ≡ Some (fault 6 (18 + 1))
task_in_pddl = refl

method_in_pddl : with_in_pddl (codes "(:method m)") ≡ Some (fault 6 (18 + 1))
method_in_pddl = refl

-- a second section or part: 7
types_twice : with (codes "(:types)(:types)") ≡ Some (fault 7 (18 + 9))
types_twice = refl

parameters_twice : with (codes "(:action a :parameters () :parameters ())") ≡ Some (fault 7 (18 + 26))
parameters_twice = refl

task_twice : with (codes "(:method m :task (t) :task (t))") ≡ Some (fault 7 (18 + 21))
task_twice = refl

subtasks_twice : with (codes "(:method m :task (t) :subtasks () :ordered-tasks ())") ≡ Some (fault 7 (18 + 34))
subtasks_twice = refl

ordering_twice : with (codes "(:method m :task (t) :order () :ordering ())") ≡ Some (fault 7 (18 + 31))
ordering_twice = refl

requirements_twice : with (codes "(:requirements)(:requirements)") ≡ Some (fault 7 (18 + 16))
requirements_twice = refl

constants_twice : with (codes "(:constants a)(:constants b)") ≡ Some (fault 7 (18 + 15))
constants_twice = refl

predicates_twice : with (codes "(:predicates)(:predicates)") ≡ Some (fault 7 (18 + 14))
predicates_twice = refl

functions_twice : with (codes "(:functions)(:functions)") ≡ Some (fault 7 (18 + 13))
functions_twice = refl

condition_twice : with (codes "(:action a :precondition () :precondition ())") ≡ Some (fault 7 (18 + 28))
condition_twice = refl

effect_twice : with (codes "(:action a :effect () :effect ())") ≡ Some (fault 7 (18 + 22))
effect_twice = refl

effect_of_a_task_twice : with (codes "(:task t :effect () :effect ())") ≡ Some (fault 7 (18 + 20))
effect_of_a_task_twice = refl

constraints_twice : with (codes "(:method m :constraints () :constraints ())") ≡ Some (fault 7 (18 + 27))
constraints_twice = refl

actions : with (codes "(:action a)(:task t)(:action b)(:task u)") ≡ None
actions = refl

-- another token that cannot stand there, or a parenthesis where something is missing: 8
word_as_section : with (codes "x") ≡ Some (fault 8 18)
word_as_section = refl

empty_section : with (codes "()") ≡ Some (fault 8 (18 + 1))
empty_section = refl

word_as_keyword : with (codes "(types)") ≡ Some (fault 8 (18 + 1))
word_as_keyword = refl

list_as_keyword : with (codes "((:types))") ≡ Some (fault 8 (18 + 1))
list_as_keyword = refl

list_among_requirements : with (codes "(:requirements :adl (x))") ≡ Some (fault 8 (18 + 20))
list_among_requirements = refl

word_among_predicates : with (codes "(:predicates p)") ≡ Some (fault 8 (18 + 13))
word_among_predicates = refl

no_name : with (codes "(:action)") ≡ Some (fault 8 (18 + 8))
no_name = refl

list_as_part : with (codes "(:action a (p))") ≡ Some (fault 8 (18 + 11))
list_as_part = refl

no_effect : with (codes "(:action a :effect)") ≡ Some (fault 8 (18 + 18))
no_effect = refl

condition_of_a_task : with (codes "(:task t :precondition (p))") ≡ Some (fault 8 (18 + 24))
condition_of_a_task = refl

method_without_task : with (codes "(:method m :subtasks ())") ≡ Some (fault 8 (18 + 23))
method_without_task = refl

list_among_types : with (codes "(:types (a))") ≡ Some (fault 8 (18 + 8))
list_among_types = refl

variable_among_types : with (codes "(:types ?a)") ≡ Some (fault 8 (18 + 8))
variable_among_types = refl

no_parent : with (codes "(:types a -)") ≡ Some (fault 8 (18 + 11))
no_parent = refl

parents : with (codes "(:types a - (either b c))") ≡ Some (fault 8 (18 + 12))
parents = refl

variable_as_a_constant : with (codes "(:constants ?a)") ≡ Some (fault 8 (18 + 12))
variable_as_a_constant = refl

types_of_a_constant : with (codes "(:constants a - (either b c))") ≡ Some (fault 8 (18 + 16))
types_of_a_constant = refl

reserved_type : with (codes "(:constants a - and)") ≡ Some (fault 8 (18 + 16))
reserved_type = refl

empty_predicate : with (codes "(:predicates ())") ≡ Some (fault 8 (18 + 14))
empty_predicate = refl

name_as_a_variable : with (codes "(:predicates (p a))") ≡ Some (fault 8 (18 + 16))
name_as_a_variable = refl

no_types : with (codes "(:predicates (p ?x - (either)))") ≡ Some (fault 8 (18 + 28))
no_types = refl

variable_as_a_task : with (codes "(:task ?t)") ≡ Some (fault 8 (18 + 7))
variable_as_a_task = refl

list_as_a_task : with (codes "(:task (t))") ≡ Some (fault 8 (18 + 7))
list_as_a_task = refl

word_as_parameters : with (codes "(:action a :parameters ?x)") ≡ Some (fault 8 (18 + 23))
word_as_parameters = refl

name_as_a_parameter : with (codes "(:action a :parameters (x))") ≡ Some (fault 8 (18 + 24))
name_as_a_parameter = refl

word_as_a_condition : with (codes "(:action a :precondition p)") ≡ Some (fault 8 (18 + 25))
word_as_a_condition = refl

list_at_the_head : with (codes "(:action a :precondition ((p)))") ≡ Some (fault 8 (18 + 26))
list_at_the_head = refl

disjunctive_effect : with (codes "(:action a :effect (or (p)))") ≡ Some (fault 8 (18 + 20))
disjunctive_effect = refl

word_as_the_task : with (codes "(:method m :task t)") ≡ Some (fault 8 (18 + 17))
word_as_the_task = refl

empty_task : with (codes "(:method m :task ())") ≡ Some (fault 8 (18 + 18))
empty_task = refl

list_as_an_argument : with (codes "(:method m :task (t (x)))") ≡ Some (fault 8 (18 + 20))
list_as_an_argument = refl

method_of_a_name : with (codes "(:method m)") ≡ Some (fault 8 (18 + 10))
method_of_a_name = refl

reserved_task : with (codes "(:method m :task (not))") ≡ Some (fault 8 (18 + 18))
reserved_task = refl

-- a reserved word where a name is declared: 9
reserved_task_name : with (codes "(:task not)") ≡ Some (fault 9 (18 + 7))
reserved_task_name = refl

reserved_method : with (codes "(:method when)") ≡ Some (fault 9 (18 + 9))
reserved_method = refl

reserved_action : with (codes "(:action increase)") ≡ Some (fault 9 (18 + 9))
reserved_action = refl

reserved_predicate : with (codes "(:predicates (and))") ≡ Some (fault 9 (18 + 14))
reserved_predicate = refl

reserved_constant : with (codes "(:constants a <)") ≡ Some (fault 9 (18 + 14))
reserved_constant = refl

reserved_parent : with (codes "(:types a - imply)") ≡ Some (fault 9 (18 + 12))
reserved_parent = refl

reserved_type_declared : with (codes "(:types and)") ≡ Some (fault 9 (18 + 8))
reserved_type_declared = refl

reserved_in_capitals : with (codes "(:task NOT)") ≡ Some (fault 9 (18 + 7))
reserved_in_capitals = refl

reserved_variable : with (codes "(:predicates (p ?or))") ≡ Some (fault 9 (18 + 16))
reserved_variable = refl

reserved_parameter : with (codes "(:action a :parameters (?not))") ≡ Some (fault 9 (18 + 24))
reserved_parameter = refl

reserved_in_a_condition : with (codes "(:action a :precondition (exists (?and) (p)))") ≡ Some (fault 9 (18 + 34))
reserved_in_a_condition = refl

reserved_in_an_effect : with (codes "(:action a :effect (forall (?when) (p)))") ≡ Some (fault 9 (18 + 28))
reserved_in_an_effect = refl

-- a variable that stands twice in a list of parameters: 18
parameter_twice : with (codes "(:action a :parameters (?x ?x))") ≡ Some (fault 18 (18 + 27))
parameter_twice = refl

parameter_of_a_task_twice : with (codes "(:task t :parameters (?x - a ?x))") ≡ Some (fault 18 (18 + 29))
parameter_of_a_task_twice = refl

parameter_of_a_method_twice : with (codes "(:method m :parameters (?x ?y ?X) :task (t))") ≡ Some (fault 18 (18 + 30))
parameter_of_a_method_twice = refl

quantified_twice : with (codes "(:action a :precondition (forall (?x - a ?x) (p)))") ≡ Some (fault 18 (18 + 41))
quantified_twice = refl

quantified_in_an_effect_twice : with (codes "(:action a :effect (and (p) (forall (?x ?x) (p))))") ≡ Some (fault 18 (18 + 40))
quantified_in_an_effect_twice = refl

quantified_inside : with (codes "(:action a :parameters (?x) :precondition (exists (?x) (forall (?x) (p))))") ≡ None
quantified_inside = refl

variable_of_a_predicate_twice : with (codes "(:predicates (p ?x ?x))") ≡ None
variable_of_a_predicate_twice = refl
