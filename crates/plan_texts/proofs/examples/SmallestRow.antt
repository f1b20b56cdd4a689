-- The value that is printed for the smallest problem at one slot, and its two texts byte for byte.
use Rattle.std.proofs.Common.{ℕ, ◌≡◌, List, [], ◌∷◌, codes, true}
use Rattle.text_forms.specs.Words.{Word}
use Rattle.text_forms.specs.Printing.{bytes}
use Rattle.plan_texts.specs.Declared.{Declared}
use Rattle.plan_texts.specs.SpellsPddl.{pddl_words}
use Rattle.plan_texts.specs.Printed.{formula_part, effect_part}
use Rattle.plan_texts.specs.PrintedTexts.{domain_text, problem_text}
use Rattle.htn_base.specs.declared.name.Name.{Name}
use Rattle.plan_model.specs.declared.terms.Term.TheVariants.{Var}
use Rattle.plan_model.specs.declared.terms.Atom.{Atom}
use Rattle.plan_model.specs.declared.terms.Param.{Param}
use Rattle.plan_model.specs.declared.values.Pddl.{Pddl}
use Rattle.plan_model.specs.declared.formulas.Formula.{Formula}
use Rattle.plan_model.specs.declared.formulas.Formula.TheVariants.{Holds, Not, And, Forall}
use Rattle.plan_model.specs.declared.effects.Effect.{Effect}
use Rattle.plan_model.specs.declared.effects.Effect.TheVariants.{Add, Delete, And as Both, Forall as Each_one}
use Rattle.plan_texts.proofs.Equations.{part-Holds, part-Not, part-And, part-Forall, effect-Add, effect-Delete, effect-And, effect-Forall}

abbrev n : ℕ → Name
n k = record { number = k }

abbrev pub h : Param
h = record { name = n 11; ty = 1 }

abbrev pub x : Param
x = record { name = n 12; ty = 1 }

-- a predicate of the slot in force first
abbrev of_h : ℕ → Atom
of_h k = record { predicate = k; args = Var 0 ∷ [] }

abbrev pub wait : Formula
wait = Forall (x ∷ []) (Not (Holds (record { predicate = 2; args = Var 1 ∷ Var 0 ∷ [] })))

abbrev pub clear : Effect
clear = Each_one (x ∷ []) (Delete (record { predicate = 2; args = Var 0 ∷ Var 1 ∷ [] }))

-- holds the slot's word, and nothing is to be waited for
abbrev pub held : ℕ → Formula
held k = And (Holds (of_h k) ∷ wait ∷ [])

abbrev pub turned : ℕ → ℕ → Effect
turned k l = Both (Delete (of_h k) ∷ Add (of_h l) ∷ [])

abbrev pub freed : Effect
freed = Both (Delete (of_h 4) ∷ Add (of_h 1) ∷ clear ∷ [])

abbrev pub all_free : Formula
all_free = And (Forall (x ∷ []) (Holds (of_h 1)) ∷ [])

abbrev pub smallest : Pddl
smallest = record {
  names = codes "d" ∷ codes "p" ∷ codes "object" ∷ codes "htn_slot" ∷ codes "htn_object" ∷ codes "htn_s1" ∷ codes "htn_top" ∷ codes "htn_free" ∷ codes "htn_before" ∷ codes "htn_t_t" ∷ codes "htn_a_a" ∷ codes "htn_h" ∷ codes "htn_x" ∷ codes "htn_start" ∷ codes "htn_m_m" ∷ codes "a" ∷ [];
  domain = n 0;
  problem = n 1;
  types = record { names = n 2 ∷ n 3 ∷ n 4 ∷ []; parents = record { child = 1; parent = 0 } ∷ record { child = 2; parent = 0 } ∷ []; unions = [] };
  objects = record { name = n 5; ty = 1; constant = true } ∷ [];
  predicates =
      record { name = n 6; params = h ∷ [] } ∷ record { name = n 7; params = h ∷ [] } ∷ record { name = n 8; params = x ∷ h ∷ [] } ∷ record { name = n 9; params = h ∷ [] } ∷ record { name = n 10; params = h ∷ [] } ∷ [];
  actions =
      record { name = n 13; params = h ∷ []; pre = held 0; eff = turned 0 3 } ∷ record { name = n 14; params = h ∷ []; pre = held 3; eff = turned 3 4 } ∷ record { name = n 15; params = h ∷ []; pre = held 4; eff = freed } ∷ [];
  init = record { predicate = 0; args = 0 ∷ [] } ∷ [];
  goal = all_free;
}

abbrev v : Declared
v = pddl_words smallest

abbrev scope : List Word
scope = codes "htn_h" ∷ []

wait-bytes : bytes (formula_part v wait scope) ≡ codes "(forall (?htn_x - htn_slot) (not (htn_before ?htn_x ?htn_h)))"
wait-bytes = simp (part-Holds, part-Forall, part-Not)

start-bytes : bytes (formula_part v (held 0) scope) ≡ codes "(and (htn_top ?htn_h) (forall (?htn_x - htn_slot) (not (htn_before ?htn_x ?htn_h))))"
start-bytes = simp (part-And, part-Holds, part-Forall, part-Not)

method-bytes : bytes (formula_part v (held 3) scope) ≡ codes "(and (htn_t_t ?htn_h) (forall (?htn_x - htn_slot) (not (htn_before ?htn_x ?htn_h))))"
method-bytes = simp (part-And, part-Holds, part-Forall, part-Not)

action-bytes : bytes (formula_part v (held 4) scope) ≡ codes "(and (htn_a_a ?htn_h) (forall (?htn_x - htn_slot) (not (htn_before ?htn_x ?htn_h))))"
action-bytes = simp (part-And, part-Holds, part-Forall, part-Not)

start-effect-bytes : bytes (effect_part v (turned 0 3) scope) ≡ codes "(and (not (htn_top ?htn_h)) (htn_t_t ?htn_h))"
start-effect-bytes = simp (effect-And, effect-Delete, effect-Add)

method-effect-bytes : bytes (effect_part v (turned 3 4) scope) ≡ codes "(and (not (htn_t_t ?htn_h)) (htn_a_a ?htn_h))"
method-effect-bytes = simp (effect-And, effect-Delete, effect-Add)

action-effect-bytes : bytes (effect_part v freed scope) ≡ codes "(and (not (htn_a_a ?htn_h)) (htn_free ?htn_h) (forall (?htn_x - htn_slot) (not (htn_before ?htn_h ?htn_x))))"
action-effect-bytes = simp (effect-And, effect-Delete, effect-Add, effect-Forall)

goal-bytes : bytes (formula_part v all_free []) ≡ codes "(and (forall (?htn_x - htn_slot) (htn_free ?htn_x)))"
goal-bytes = simp (part-And, part-Holds, part-Forall)

abbrev pub problem_bytes : List ℕ
problem_bytes = codes "(define (problem p)\n (:domain d)\n (:objects)\n (:init (htn_top htn_s1))\n (:goal (and (forall (?htn_x - htn_slot) (htn_free ?htn_x))))\n)\n"

abbrev pub domain_bytes : List ℕ
domain_bytes = codes "(define (domain d)\n (:requirements :adl)\n (:types htn_slot - object htn_object - object)\n (:constants htn_s1 - htn_slot)\n (:predicates (htn_top ?htn_h - htn_slot) (htn_free ?htn_h - htn_slot) (htn_before ?htn_x - htn_slot ?htn_h - htn_slot) (htn_t_t ?htn_h - htn_slot) (htn_a_a ?htn_h - htn_slot))\n (:action htn_start :parameters (?htn_h - htn_slot) :precondition (and (htn_top ?htn_h) (forall (?htn_x - htn_slot) (not (htn_before ?htn_x ?htn_h)))) :effect (and (not (htn_top ?htn_h)) (htn_t_t ?htn_h)))\n (:action htn_m_m :parameters (?htn_h - htn_slot) :precondition (and (htn_t_t ?htn_h) (forall (?htn_x - htn_slot) (not (htn_before ?htn_x ?htn_h)))) :effect (and (not (htn_t_t ?htn_h)) (htn_a_a ?htn_h)))\n (:action a :parameters (?htn_h - htn_slot) :precondition (and (htn_a_a ?htn_h) (forall (?htn_x - htn_slot) (not (htn_before ?htn_x ?htn_h)))) :effect (and (not (htn_a_a ?htn_h)) (htn_free ?htn_h) (forall (?htn_x - htn_slot) (not (htn_before ?htn_h ?htn_x)))))\n)\n"

pub problem_row : problem_text smallest ≡ problem_bytes
problem_row = simp goal-bytes

pub domain_row : domain_text smallest ≡ domain_bytes
domain_row = simp (start-bytes, method-bytes, action-bytes, start-effect-bytes, method-effect-bytes, action-effect-bytes)
