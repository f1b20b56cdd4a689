-- Parts of conditions and effects, with the objects 5 and 6 of type 1 written out.
use Rattle.std.proofs.Common.{ℕ, ◌≡◌, ◌∙◌, ◌++◌, List, [], ◌∷◌, ap}
use Rattle.plan_model.specs.declared.terms.Term.{Term}
use Rattle.plan_model.specs.declared.terms.Term.TheVariants.{Var, Obj}
use Rattle.plan_model.specs.declared.terms.Atom.{Atom}
use Rattle.plan_model.specs.declared.terms.Param.{Param}
use Rattle.plan_model.specs.declared.formulas.Formula.{Formula}
use Rattle.plan_model.specs.declared.formulas.Formula.TheVariants.{Holds, Not, And, Forall}
use Rattle.plan_model.specs.declared.effects.Effect.TheVariants as E
use Rattle.pddl_printer.specs.declared.object_range.Range.{Range}
use Rattle.pddl_printer.specs.WrittenOut.{condition_parts, effect_parts, condition, quantified}
use Rattle.pddl_printer.proofs.written_out.Equations.{out-Holds, parts-Forall, literal-Holds, literal-Not, condition-And, parts-Each, change-Delete, change-When}

abbrev two : Range
two = record { ty = 1; first = 5; count = 2 }

abbrev of_type : ℕ → Param
of_type ty = record { name = record { number = 9 }; ty = ty }

-- predicate 7 of an object and variable 0
abbrev pair : Term → Atom
pair x = record { predicate = 7; args = x ∷ Var 0 ∷ [] }

-- of no object of the range, named one by one
no_object : condition_parts two 3 (Forall (of_type 1 ∷ []) (Not (Holds (pair (Var 3))))) ≡ Not (Holds (pair (Obj 5))) ∷ Not (Holds (pair (Obj 6))) ∷ []
no_object = parts-Forall two 3 (of_type 1) (Not (Holds (pair (Var 3)))) ∙ literal-Not two 3 (Forall (of_type 1 ∷ []) (Not (Holds (pair (Var 3))))) (pair (Var 3))

-- a quantifier over another type stands as it is
other_type : condition_parts two 3 (Forall (of_type 2 ∷ []) (Holds (pair (Var 3)))) ≡ Forall (of_type 2 ∷ []) (Holds (pair (Var 3))) ∷ []
other_type = parts-Forall two 3 (of_type 2) (Holds (pair (Var 3)))

-- an atom stands as it is
atom : condition_parts two 3 (Holds (pair (Var 1))) ≡ Holds (pair (Var 1)) ∷ []
atom = ap (quantified two 3 (Holds (pair (Var 1)))) (out-Holds (pair (Var 1)))

each_object : condition_parts two 3 (Forall (of_type 1 ∷ []) (Holds (pair (Var 3)))) ≡ Holds (pair (Obj 5)) ∷ Holds (pair (Obj 6)) ∷ []
each_object = parts-Forall two 3 (of_type 1) (Holds (pair (Var 3))) ∙ literal-Holds two 3 (Forall (of_type 1 ∷ []) (Holds (pair (Var 3)))) (pair (Var 3))

-- a conjunction, part by part
conjunction : condition two 3 (And (Holds (pair (Var 1)) ∷ Forall (of_type 1 ∷ []) (Holds (pair (Var 3))) ∷ [])) ≡ And (Holds (pair (Var 1)) ∷ Holds (pair (Obj 5)) ∷ Holds (pair (Obj 6)) ∷ [])
conjunction =
    condition-And two 3 (Holds (pair (Var 1)) ∷ Forall (of_type 1 ∷ []) (Holds (pair (Var 3))) ∷ [])
    ∙ ap (λ (fs : List Formula). And (fs ++ (condition_parts two 3 (Forall (of_type 1 ∷ []) (Holds (pair (Var 3)))) ++ []))) atom
    ∙ ap (λ (fs : List Formula). And (Holds (pair (Var 1)) ∷ (fs ++ []))) each_object

conditional : effect_parts two 3 (E.Forall (of_type 1 ∷ []) (E.When (Holds (pair (Var 3))) (E.Add (pair (Var 2)))))
    ≡ E.When (Holds (pair (Obj 5))) (E.Add (pair (Var 2))) ∷ E.When (Holds (pair (Obj 6))) (E.Add (pair (Var 2))) ∷ []
conditional = parts-Each two 3 (of_type 1) (E.When (Holds (pair (Var 3))) (E.Add (pair (Var 2)))) ∙ change-When two 3 (E.Forall (of_type 1 ∷ []) (E.When (Holds (pair (Var 3))) (E.Add (pair (Var 2))))) (pair (Var 3)) (pair (Var 2))

deletes : effect_parts two 3 (E.Forall (of_type 1 ∷ []) (E.Delete (pair (Var 3)))) ≡ E.Delete (pair (Obj 5)) ∷ E.Delete (pair (Obj 6)) ∷ []
deletes = parts-Each two 3 (of_type 1) (E.Delete (pair (Var 3))) ∙ change-Delete two 3 (E.Forall (of_type 1 ∷ []) (E.Delete (pair (Var 3)))) (pair (Var 3))
