-- Formulas and atoms with names of numbers: p is 1 with one parameter, q is 2 with none, x is 5, the object o is 6.
use Rattle.std.proofs.Common.{ℕ, ◌≡◌, ◌+◌, Bool, true, false, List, [], ◌∷◌, refl, ap, ◌∙◌}
use Rattle.gd_reader.specs.declared.formulas.RawFormula.{RawFormula}
use Rattle.gd_reader.specs.declared.formulas.RawFormula.TheOpen.{RawFormula-F}
use Rattle.gd_reader.specs.declared.formulas.RawFormula.TheVariants as raw
use Rattle.gd_reader.specs.declared.term.RawAtom.{RawAtom}
use Rattle.gd_reader.specs.declared.term.RawTerm.{RawTerm}
use Rattle.gd_reader.specs.declared.typed_lists.RawParam.{RawParam}
use Rattle.plan_model.specs.declared.formulas.Formula.TheVariants as formula
use Rattle.plan_model.specs.declared.terms.Term.TheVariants.{Var, Obj}
use Rattle.name_binding.specs.declared.heads.Head.{Head}
use Rattle.name_binding.specs.Spots.{spot}
use Rattle.name_binding.specs.declared.known.Known.{Known}
use Rattle.name_binding.specs.Atoms.{atom_bound, atom_faults}
use Rattle.name_binding.specs.Facts.{fact_bound}
use Rattle.name_binding.specs.Formulas.{formula_bound, formula_faults}
use Rattle.name_binding.proofs.Parts.{formula_level, faults_level, faults-And}

abbrev head : ℕ → ℕ → Head
head n arity = record { name = record { number = n }; arity = arity }

abbrev known : Known
known = record { objects = 6 ∷ []; predicates = head 1 1 ∷ head 2 0 ∷ []; types = record { types = 0 ∷ []; unions = [] } }

abbrev term : ℕ → Bool → ℕ → RawTerm
term n variable at = record { name = record { number = n }; variable = variable; at = at }

abbrev atom : ℕ → ℕ → List RawTerm → RawAtom
atom n at args = record { head = term n false at; args = args }

abbrev param : ℕ → ℕ → RawParam
param n at = record { name = record { number = n }; ty = []; at = at }

-- (p o)
of_object : atom_bound known [] (atom 1 10 (term 6 false 12 ∷ [])) ≡ record { predicate = 0; args = Obj 0 ∷ [] }
of_object = refl

a_fact : fact_bound known (atom 1 10 (term 6 false 12 ∷ [])) ≡ record { predicate = 0; args = 0 ∷ [] }
a_fact = refl

-- 13: no predicate has the name of the object
unknown_predicate : atom_faults known [] (atom 6 10 []) ≡ spot 10 13 ∷ []
unknown_predicate = refl

-- 17: (q o)
wrong_arity : atom_faults known [] (atom 2 10 (term 6 false 12 ∷ [])) ≡ spot 10 17 ∷ []
wrong_arity = refl

-- 17 and 16: (p ?x o), where no variable is in force
two_faults : atom_faults known [] (atom 1 10 (term 5 true 12 ∷ term 6 false 15 ∷ [])) ≡ spot 10 17 ∷ spot 12 16 ∷ []
two_faults = refl

-- (p ?x)
abbrev of_x : ℕ → RawAtom
of_x at = atom 1 at (term 5 true (at + 2) ∷ [])

-- (exists (?x) (p ?x))
abbrev some_x : RawFormula
some_x = raw.Exists (param 5 10 ∷ []) (raw.Holds (of_x 20))

-- where ?x is in force the inner one hides it
inner_hides_outer : formula_bound known (5 ∷ []) some_x ≡ formula.Exists (record { name = record { number = 5 }; ty = 0 } ∷ []) (formula.Holds (record { predicate = 0; args = Var 1 ∷ [] }))
inner_hides_outer =
    formula_level known (RawFormula-F.Exists (param 5 10 ∷ []) (raw.Holds (of_x 20))) some_x (raw.rolls-Exists (param 5 10 ∷ []) (raw.Holds (of_x 20))) (5 ∷ [])
    ∙ ap (formula.Exists (record { name = record { number = 5 }; ty = 0 } ∷ [])) (formula_level known (RawFormula-F.Holds (of_x 20)) (raw.Holds (of_x 20)) (raw.rolls-Holds (of_x 20)) (5 ∷ 5 ∷ []))

holds_faults : (scope : List ℕ) (at : ℕ) → formula_faults known scope (raw.Holds (of_x at)) ≡ atom_faults known scope (of_x at)
holds_faults scope at = faults_level known (RawFormula-F.Holds (of_x at)) (raw.Holds (of_x at)) (raw.rolls-Holds (of_x at)) scope

some_x_has_none : formula_faults known [] some_x ≡ []
some_x_has_none = faults_level known (RawFormula-F.Exists (param 5 10 ∷ []) (raw.Holds (of_x 20))) some_x (raw.rolls-Exists (param 5 10 ∷ []) (raw.Holds (of_x 20))) [] ∙ holds_faults (5 ∷ []) 20

-- 16: (and (exists (?x) (p ?x)) (p ?x)), since a quantifier's variable is in force in its part alone
behind_its_part : formula_faults known [] (raw.And (some_x ∷ raw.Holds (of_x 30) ∷ [])) ≡ spot 32 16 ∷ []
behind_its_part = faults-And known [] (some_x ∷ raw.Holds (of_x 30) ∷ []) ∙ rw (some_x_has_none, holds_faults [] 30)
