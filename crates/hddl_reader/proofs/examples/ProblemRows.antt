-- A problem's faults beside a domain's: its objects, its facts and its goal.
use Rattle.std.proofs.Common.{inl, inr, [], ◌∷◌, codes, refl, arith}
use Rattle.hddl_reader.specs.declared.sections.Language.TheVariants.{Hddl}
use Rattle.hddl_reader.specs.declared.sections.RawDomain.{RawDomain}
use Rattle.hddl_reader.specs.declared.sections.RawProblem.{RawProblem}
use Rattle.htn_base.specs.Lists.{Has}
use Rattle.hddl_reader.specs.names.Uses.{predicate}
use Rattle.hddl_reader.specs.names.Standing.{InProblem}
use Rattle.hddl_reader.specs.names.Faults.{HasProblemFault, HasNameFault, in_problem, DuplicateInProblem, objects, constants}
use Rattle.hddl_reader.proofs.examples.Values.{table, word, param, head, atom, no_domain, no_problem}

-- the domain declares the constant c and the predicate a
abbrev domain : RawDomain
domain = record no_domain { constants = param 3 [] 12 ∷ []; predicates = head 1 30 (param 4 [] 33 ∷ []) ∷ [] }

-- 10: an object of the name of a constant, at a lesser offset of another file
object_has_10 : HasNameFault Hddl table domain (record no_problem { objects = param 3 [] 8 ∷ [] }) 1 10 8
object_has_10 = in_problem (HasProblemFault.duplicate_name (DuplicateInProblem.object (inl (refl, inl (inl refl)))))

-- 15: (a b) in :init
abbrev asks_b : RawProblem
asks_b = record no_problem { init = atom 1 40 (word 2 42 ∷ []) ∷ [] }

object_has_15 : HasNameFault Hddl table domain asks_b 1 15 42
object_has_15 = in_problem (HasProblemFault.unknown_object ([], word 2 42, refl, refl, InProblem.fact refl (inl (inr (inl refl))), lacks))
  where
    lacks : Has (objects table domain asks_b) (codes "b") → ⊥
    lacks (inl e) = grind arith
    lacks (inr none) = none

-- a constant and an object are known in a problem, an object is not in its domain
constant_is_known : Has (objects table domain (record asks_b { objects = param 2 [] 8 ∷ [] })) (codes "c")
constant_is_known = inl refl

object_is_known : Has (objects table domain (record asks_b { objects = param 2 [] 8 ∷ [] })) (codes "b")
object_is_known = inr (inl refl)

object_is_unknown_to_the_domain : Has (constants table domain) (codes "b") → ⊥
object_is_unknown_to_the_domain (inl e) = grind arith
object_is_unknown_to_the_domain (inr none) = none

-- 17: (a) in :init
fact_has_17 : HasNameFault Hddl table domain (record no_problem { init = atom 1 40 [] ∷ [] }) 1 17 40
fact_has_17 = in_problem (HasProblemFault.wrong_arity (predicate, [], atom 1 40 [], refl, InProblem.fact refl (inl (inl refl)), inl ((refl, ((λ e. omega arith), tt)), λ e. omega arith)))
