-- A domain with each fault, and one without: duplicate names, types, predicates, tasks, objects, variables and arities.
use Rattle.std.proofs.Common.{ℕ, ◌≡◌, ◌<◌, inl, inr, List, [], ◌∷◌, None, codes, refl, sym, ap, subst, ◌∙◌, ◌≢◌, arith}
use Rattle.htn_base.proofs.DifferentLemmas.{different-one}
use Rattle.gd_reader.specs.declared.formulas.RawFormula.{RawFormula}
use Rattle.gd_reader.specs.declared.formulas.RawFormula.TheOpen.{RawFormula-F}
use Rattle.gd_reader.specs.declared.formulas.RawFormula.TheVariants as raw
use Rattle.gd_reader.specs.declared.formulas.RawFormula.TheVariants.{rolls-Holds, rolls-Exists}
use Rattle.gd_reader.specs.declared.term.RawAtom.{RawAtom}
use Rattle.gd_reader.specs.declared.term.RawTerm.{RawTerm}
use Rattle.hddl_reader.specs.declared.networks.RawNet.{RawNet}
use Rattle.hddl_reader.specs.declared.sections.Language.TheVariants.{Hddl}
use Rattle.hddl_reader.specs.declared.sections.RawAction.{RawAction}
use Rattle.hddl_reader.specs.declared.sections.RawDomain.{RawDomain}
use Rattle.text_forms.specs.Words.{Word}
use Rattle.htn_base.specs.Lists.{One, Has}
use Rattle.hddl_reader.specs.names.Words.{IsSecond, WordAt, term_word}
use Rattle.hddl_reader.specs.names.Uses.{Scope, Use, IsOfAtom, declares, applies, refers, predicate, subtask, task, InFormula}
use Rattle.hddl_reader.specs.names.Standing.{InAction, InMethod, InDomain}
use Rattle.hddl_reader.specs.names.Named.{UnknownType, IsUnknown, HasWrongArity}
use Rattle.hddl_reader.specs.names.Types.{IsType, TypeCycle, Leads, direct, through, ClosesCycle, IsOneTooMany, AreTypesBefore, mentioned}
use Rattle.hddl_reader.specs.names.Faults.{HasDomainFault, DuplicateInDomain, constants}
use Rattle.hddl_reader.proofs.names.Rolls.{formula_roll}
use Rattle.hddl_reader.proofs.examples.Values.{table, word, variable, param, head, atom, no_net, no_domain, method, action, is_first, is_second, first_of_one}

abbrev HasFault : RawDomain → ℕ → ℕ → Type 0
HasFault d at code = HasDomainFault Hddl table d at code

-- 10: a task of the name of an earlier action
abbrev twice : RawDomain
twice = record no_domain { tasks = head 1 40 [] ∷ []; actions = action (head 1 10 []) ∷ [] }

second_has_10 : HasFault twice 40 10
second_has_10 = HasDomainFault.duplicate_name (DuplicateInDomain.task_or_action (inl (refl, inr (inr (inl (refl, omega arith))))))

-- a name that is declared once
once_has_none : (at : ℕ) → IsSecond [] (record { word = codes "a"; at = 40 } ∷ []) at → ⊥
once_has_none at (inl (e, inl none)) = none
once_has_none at (inl (e, inr (inl (w, l)))) = omega arith
once_has_none at (inl (e, inr (inr none))) = none
once_has_none at (inr none) = none

-- 11: a constant of an unknown type
abbrev of_unknown_type : RawDomain
of_unknown_type = record no_domain { types = param 1 [] 5 ∷ []; constants = param 4 (word 2 30 ∷ []) 28 ∷ [] }

type_has_11 : HasFault of_unknown_type 30 11
type_has_11 = HasDomainFault.unknown_type ([], param 4 (word 2 30 ∷ []) 28, InDomain.constant (inl refl), inl (refl, lacks))
  where
    lacks : IsType table of_unknown_type (codes "b") → ⊥
    lacks (inl e) = grind arith
    lacks (inr (inl e)) = grind arith
    lacks (inr (inr none)) = none

-- of a type that is known
abbrev of_known_type : RawDomain
of_known_type = record no_domain { types = param 2 [] 5 ∷ []; constants = param 4 (word 2 30 ∷ []) 28 ∷ [] }

abbrev types_of : Use → List RawTerm
types_of (declares x) = x.ty
types_of (applies kind a) = []
types_of (refers t) = []

known_type_has_none : (at : ℕ) → UnknownType table of_known_type (InDomain table of_known_type) [] at → ⊥
known_type_has_none at f = stands (f.2, f.3)
  where
    lacks : One (λ (t : RawTerm). (t.at ≡ at) × (IsType table of_known_type (term_word table t) → ⊥)) (word 2 30 ∷ []) → ⊥
    lacks (inl (e, none)) = none (inr (inl refl))
    lacks (inr none) = none

    stands : InDomain table of_known_type f.0 (declares f.1) × One (λ (t : RawTerm). (t.at ≡ at) × (IsType table of_known_type (term_word table t) → ⊥)) f.1.ty → ⊥
    stands (InDomain.constant (inl e), h) = lacks (subst (One (λ (t : RawTerm). (t.at ≡ at) × (IsType table of_known_type (term_word table t) → ⊥))) (ap types_of e) h)
    stands (InDomain.constant (inr none), h) = none
    stands (InDomain.of_predicate none, h) = none
    stands (InDomain.of_task none, h) = none
    stands (InDomain.method none, h) = none
    stands (InDomain.action none, h) = none

-- a type that is named only as a parent, and object
parent_is_type : IsType table (record no_domain { types = param 1 (word 2 9 ∷ []) 5 ∷ [] }) (codes "b")
parent_is_type = inr (inr (inl refl))

object_is_type : IsType table no_domain (codes "object")
object_is_type = inl refl

-- 12: a - b b - a
abbrev in_a_circle : RawDomain
in_a_circle = record no_domain { types = param 1 (word 2 9 ∷ []) 5 ∷ param 2 (word 1 15 ∷ []) 11 ∷ [] }

no_pair_leads : (v w : Word) → Leads (λ v w. ⊥) v w → ⊥
no_pair_leads v w (direct pair) = pair
no_pair_leads v w (through chain pair) = pair

-- a - b alone closes none
first_pair_closes_none : ClosesCycle table [] (param 1 (word 2 9 ∷ []) 5) → ⊥
first_pair_closes_none (inl (inl e)) = grind arith
first_pair_closes_none (inl (inr (inl e))) = grind arith
first_pair_closes_none (inl (inr (inr chain))) = no_pair_leads (codes "b") (codes "a") chain
first_pair_closes_none (inr none) = none

one_pair_has_none : (at : ℕ) → TypeCycle table (record no_domain { types = param 1 (word 2 9 ∷ []) 5 ∷ [] }) at → ⊥
one_pair_has_none at c = first_pair_closes_none (first_of_one (ClosesCycle table) (param 1 (word 2 9 ∷ []) 5) c.0 c.2)

second_pair_has_12 : HasFault in_a_circle 11 12
second_pair_has_12 = HasDomainFault.type_cycle (
  param 2 (word 1 15 ∷ []) 11,
  refl,
  is_second (ClosesCycle table) (param 1 (word 2 9 ∷ []) 5) (param 2 (word 1 15 ∷ []) 11) [] (inl (inr (inr (direct (inl (refl, inl refl)))))) first_pair_closes_none,
)

-- object - a
object_has_12 : HasFault (record no_domain { types = param 0 (word 1 14 ∷ []) 5 ∷ [] }) 5 12
object_has_12 = HasDomainFault.type_cycle (param 0 (word 1 14 ∷ []) 5, refl, is_first (ClosesCycle table) (param 0 (word 1 14 ∷ []) 5) [] (inl (inl refl)))

-- 13
abbrev atom_p : RawAtom
atom_p = atom 1 50 []

abbrev holds_p : RawFormula
holds_p = raw.Holds atom_p

abbrev asks_p : RawAction
asks_p = record { head = head 3 20 []; pre = holds_p; eff = (action (head 3 20 [])).eff }

abbrev of_unknown_predicate : RawDomain
of_unknown_predicate = record no_domain { actions = asks_p ∷ [] }

stands_p : InFormula table holds_p [] [] (applies predicate atom_p)
stands_p = formula_roll table (RawFormula-F.Holds atom_p) holds_p (rolls-Holds atom_p) [] [] (applies predicate atom_p) (refl, inl refl)

predicate_has_13 : HasFault of_unknown_predicate 50 13
predicate_has_13 = HasDomainFault.unknown_predicate ([], atom_p, refl, InDomain.action (inl (InAction.precondition stands_p)), λ u. u)

-- where it is declared it is known
p_is_known : IsUnknown table (record no_domain { predicates = head 1 12 [] ∷ [] }) predicate atom_p → ⊥
p_is_known unknown = unknown (inl (refl, ((λ e. omega arith), tt)))

-- 17: with a parameter
p_has_17 : HasFault (record of_unknown_predicate { predicates = head 1 12 (param 4 [] 14 ∷ []) ∷ [] }) 50 17
p_has_17 = HasDomainFault.wrong_arity (predicate, [], atom_p, refl, InDomain.action (inl (InAction.precondition stands_p)), inl ((refl, ((λ e. omega arith), tt)), λ e. omega arith))

p_fits : HasWrongArity table (record no_domain { predicates = head 1 12 [] ∷ [] }) predicate atom_p → ⊥
p_fits (inl (s, differ)) = differ refl
p_fits (inr none) = none

-- 14: an action as a method's task, and a task
abbrev of_action : RawDomain
of_action = record no_domain { methods = method (head 2 20 []) (atom 1 30 []) no_net ∷ []; actions = action (head 1 60 []) ∷ [] }

action_has_14 : HasFault of_action 30 14
action_has_14 = HasDomainFault.unknown_task (inr ([], atom 1 30 [], refl, InDomain.method (inl (InMethod.of_task refl (inl refl))), λ u. u))

task_is_known : IsUnknown table (record no_domain { tasks = head 1 60 [] ∷ [] }) task (atom 1 30 []) → ⊥
task_is_known unknown = unknown (inl (refl, ((λ e. omega arith), tt)))

-- 14: a subtask of no task and no action
abbrev net_of_c : RawNet
net_of_c = record no_net { subs = record { id = None; atom = atom 3 80 []; at = 79 } ∷ [] }

subtask_has_14 : HasFault (record no_domain { tasks = head 1 60 [] ∷ []; methods = method (head 2 20 []) (atom 1 30 []) net_of_c ∷ [] }) 80 14
subtask_has_14 = HasDomainFault.unknown_task (inl ([], atom 3 80 [], refl, InDomain.method (inl (InMethod.network refl (inl (inl (inl refl))))), lacks))
  where
    lacks : IsUnknown table (record no_domain { tasks = head 1 60 [] ∷ []; methods = method (head 2 20 []) (atom 1 30 []) net_of_c ∷ [] }) subtask (atom 3 80 [])
    lacks (inl s) = let e = s.0 in grind arith
    lacks (inr none) = none

-- an action is a subtask
action_is_known : IsUnknown table (record no_domain { actions = action (head 3 60 []) ∷ [] }) subtask (atom 3 80 []) → ⊥
action_is_known unknown = unknown (inl (refl, ((λ e. omega arith), tt)))

-- 15 and 16: (p c ?x)
abbrev atom_c_x : RawAtom
atom_c_x = atom 1 50 (word 3 52 ∷ variable 4 54 ∷ [])

abbrev holds_c_x : RawFormula
holds_c_x = raw.Holds atom_c_x

abbrev asks_c_x : RawDomain
asks_c_x = record no_domain { actions = record { head = head 3 20 []; pre = holds_c_x; eff = (action (head 3 20 [])).eff } ∷ [] }

stands_c_x : (here : Scope) (u : Use) → IsOfAtom predicate atom_c_x u → InFormula table holds_c_x here here u
stands_c_x here u h = formula_roll table (RawFormula-F.Holds atom_c_x) holds_c_x (rolls-Holds atom_c_x) here here u (refl, h)

object_has_15 : HasFault asks_c_x 52 15
object_has_15 = HasDomainFault.unknown_object ([], word 3 52, refl, refl, InDomain.action (inl (InAction.precondition (stands_c_x [] (refers (word 3 52)) (inr (inl refl))))), λ none. none)

constant_is_known : Has (constants table (record asks_c_x { constants = param 3 [] 12 ∷ [] })) (codes "c")
constant_is_known = inl refl

variable_has_16 : HasFault asks_c_x 54 16
variable_has_16 = HasDomainFault.unknown_variable ([], variable 4 54, refl, refl, InDomain.action (inl (InAction.precondition (stands_c_x [] (refers (variable 4 54)) (inr (inr (inl refl)))))), λ none. none)

-- (exists (?x) (p c ?x)) has it in force
quantified_is_in_force : InFormula table (raw.Exists (param 4 [] 45 ∷ []) holds_c_x) [] (codes "x" ∷ []) (refers (variable 4 54))
quantified_is_in_force = formula_roll table (RawFormula-F.Exists (param 4 [] 45 ∷ []) holds_c_x) (raw.Exists (param 4 [] 45 ∷ []) holds_c_x) (rolls-Exists (param 4 [] 45 ∷ []) holds_c_x)
    [] (codes "x" ∷ []) (refers (variable 4 54)) (inr (stands_c_x (codes "x" ∷ []) (refers (variable 4 54)) (inr (inr (inl refl)))))

in_force_is_known : Has (codes "x" ∷ []) (codes "x")
in_force_is_known = inl refl

-- 22, at a limit of one type: a b
abbrev two_types : RawDomain
two_types = record no_domain { types = param 1 [] 5 ∷ param 2 [] 7 ∷ param 0 [] 9 ∷ [] }

one_before : AreTypesBefore (mentioned table two_types.types) 7 (codes "a" ∷ [])
one_before w = (there, back)
  where
    there : Has (codes "a" ∷ []) w → (w ≢ codes "object") × One (λ (m : WordAt). (m.word ≡ w) × (m.at < 7)) (mentioned table two_types.types)
    there (inl e) = ((λ o. apart (e ∙ o)), inl (e, omega arith))
      where
        apart : codes "a" ≡ codes "object" → ⊥
        apart e = grind arith
    there (inr none) = absurd none

    back : (w ≢ codes "object") × One (λ (m : WordAt). (m.word ≡ w) × (m.at < 7)) (mentioned table two_types.types) → Has (codes "a" ∷ []) w
    back (o, inl (e, l)) = inl e
    back (o, inr (inl (e, l))) = absurd (omega arith)
    back (o, inr (inr (inl (e, l)))) = absurd (omega arith)
    back (o, inr (inr (inr none))) = absurd none

second_is_too_many : IsOneTooMany 1 (mentioned table two_types.types) 7
second_is_too_many = record {
  word = codes "b";
  said = inr (inl (refl, refl));
  not_object = λ e. grind arith;
  earlier = codes "a" ∷ [];
  are_before = one_before;
  different = different-one (codes "a");
  most_stand = refl;
  new = not_new;
}
  where
    not_new : Has (codes "a" ∷ []) (codes "b") → ⊥
    not_new (inl e) = grind arith
    not_new (inr none) = none

-- object is no further type
no_one_too_many : (at : ℕ) → IsOneTooMany 0 (mentioned table (param 0 [] 9 ∷ [])) at → ⊥
no_one_too_many at x = only x.said
  where
    only : One (λ (m : WordAt). (m.word ≡ x.word) × (m.at ≡ at)) (mentioned table (param 0 [] 9 ∷ [])) → ⊥
    only (inl (e, f)) = x.not_object (sym e)
    only (inr none) = none
