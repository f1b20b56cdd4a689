-- The printed texts of two values, byte for byte.
use Rattle.std.proofs.Common.{ℕ, ◌≡◌, List, codes, lit<}
use Rattle.std.specs.Fmt.{decimal}
use Rattle.std.proofs.lemmas.Fmt.{decimal_digit}
use Rattle.plan_model.proofs.plan_meaning.examples.SmallestRow.{smallest_hddl}
use Rattle.plan_texts.proofs.Equations.{part-Holds, part-And, effect-Add, effect-And}
use Rattle.plan_texts.proofs.examples.WholeRow.{whole}
use Rattle.hddl_texts.specs.PrintedHddl.{hddl_domain_text, hddl_problem_text}

zeroth : decimal 0 ≡ codes "0"
zeroth = decimal_digit 0 (lit< tt)

first : decimal 1 ≡ codes "1"
first = decimal_digit 1 (lit< tt)

-- one task, one method and one action
abbrev smallest_domain : List ℕ
smallest_domain = codes "(define (domain d)\n (:requirements :adl :typing :hierarchy :method-preconditions)\n (:types)\n (:constants)\n (:predicates)\n (:task t :parameters ())\n (:method m :parameters () :task (t) :precondition (and) :subtasks (and (s0 (a))) :ordering (and) :constraints (and))\n (:action a :parameters () :precondition (and) :effect (and))\n)\n"

abbrev smallest_problem : List ℕ
smallest_problem = codes "(define (problem p)\n (:domain d)\n (:objects)\n (:htn :parameters () :subtasks (and (s0 (t))) :ordering (and) :constraints (and))\n (:init)\n (:goal (and))\n)\n"

pub smallest_domain_row : hddl_domain_text smallest_hddl ≡ smallest_domain
smallest_domain_row = simp (part-And, effect-And, zeroth)

pub smallest_problem_row : hddl_problem_text smallest_hddl ≡ smallest_problem
smallest_problem_row = simp (part-And, zeroth)

-- types with parents, a union, a constant and an object, ids that are replaced, a pair and a constraint
abbrev whole_domain : List ℕ
whole_domain = codes "(define (domain d)\n (:requirements :adl :typing :hierarchy :method-preconditions)\n (:types a - object b - object c - a)\n (:constants k - c)\n (:predicates (p ?x - a) (q))\n (:task t :parameters (?x - (either a b)))\n (:method m :parameters (?x - a) :task (t ?x) :precondition (p ?x) :subtasks (and (s0 (act ?x)) (s1 (t k))) :ordering (and (< s0 s1)) :constraints (and (not (= ?x k))))\n (:action act :parameters (?x - a) :precondition (and) :effect (and (p ?x) (and)))\n)\n"

abbrev whole_problem : List ℕ
whole_problem = codes "(define (problem e)\n (:domain d)\n (:objects o - b)\n (:htn :parameters (?y - b) :subtasks (and (s0 (t ?y)) (s1 (t k))) :ordering (and (< s0 s1)) :constraints (and))\n (:init (q) (p k))\n (:goal (and))\n)\n"

pub whole_domain_row : hddl_domain_text whole ≡ whole_domain
whole_domain_row = simp (part-Holds, part-And, effect-Add, effect-And, zeroth, first)

pub whole_problem_row : hddl_problem_text whole ≡ whole_problem
whole_problem_row = simp (part-And, zeroth, first)
