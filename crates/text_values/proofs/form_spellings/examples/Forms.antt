-- A form, what is read of it, a value to which it is bound, and that the form spells this value.
use Rattle.std.proofs.Common.{◌≡◌, true, false, List, [], ◌∷◌, codes, Ok, refl}
use Rattle.text_forms.specs.Placed.{Placed, cut, close, word, list}
use Rattle.text_forms.specs.Words.{Word}
use Rattle.plan_texts.specs.Declared.{Declared}
use Rattle.plan_texts.specs.Formulas.{IsFormula}
use Rattle.plan_model.specs.declared.terms.Term.TheVariants.{Var, Obj}
use Rattle.plan_model.specs.declared.formulas.Formula.{Formula}
use Rattle.plan_model.specs.declared.formulas.Formula.TheVariants as formula
use Rattle.gd_reader.specs.declared.formulas.RawFormula.{RawFormula}
use Rattle.gd_reader.specs.declared.formulas.RawFormula.TheOpen.{RawFormula-F}
use Rattle.gd_reader.specs.declared.formulas.RawFormula.TheVariants as raw
use Rattle.gd_reader.specs.declared.formulas.RawFormula.TheVariants.{rolls-Not, rolls-Holds}
use Rattle.gd_reader.specs.Answers.{list_due, end_due}
use Rattle.gd_reader.specs.Formulas.{inside, one, formula_read}
use Rattle.gd_reader.specs.Terms.{Names, atom, terms, term}
use Rattle.gd_reader.specs.Words.{sort_of, head_of}
use Rattle.gd_reader.proofs.Keeping.{keeps_same}
use Rattle.text_values.specs.form_spellings.Bound.{IsBoundFormula}
use Rattle.text_values.specs.form_spellings.SpellsSome.{StandsInFront}
use Rattle.text_values.proofs.form_spellings.BoundForms.{formulas_spell}
use Rattle.text_values.proofs.form_spellings.FormulasBound.{bound_roll}

-- (not (p ?x k)) with the places of its bytes
abbrev form : Placed
form = list 0 (word 1 (codes "not") (list 5 (word 6 (codes "p") (word 8 (codes "?x") (word 11 (codes "k") (close 12)))) (close 13))) cut

abbrev table : Names
table = codes "p" ∷ codes "x" ∷ codes "k" ∷ []

abbrev inner : RawFormula
inner = raw.Holds (record { head = record { name = record { number = 0 }; variable = false; at = 6 }; args = record { name = record { number = 1 }; variable = true; at = 8 } ∷ record { name = record { number = 2 }; variable = false; at = 11 } ∷ [] })

row_read : formula_read [] form ≡ Ok (raw.Not inner, table)
unfolding formula_read list_due inside one atom terms term end_due sort_of head_of
row_read = refl

-- p is the one predicate, k the one object, ?x the one variable in force
abbrev words : Declared
words = record { names = []; types = []; unions = []; objects = codes "k" ∷ []; predicates = codes "p" ∷ [] }

abbrev scope : List Word
scope = codes "x" ∷ []

abbrev value : Formula
value = formula.Holds (record { predicate = 0; args = Var 0 ∷ Obj 0 ∷ [] })

row_inner : IsBoundFormula words table inner scope value
row_inner = bound_roll words table (RawFormula-F.Holds _) inner (rolls-Holds _) scope value (0, Var 0 ∷ Obj 0 ∷ [], refl, (refl, ((refl, refl), ((refl, refl), tt))))

row_bound : IsBoundFormula words table (raw.Not inner) scope (formula.Not value)
row_bound = bound_roll words table (RawFormula-F.Not inner) (raw.Not inner) (rolls-Not inner) scope (formula.Not value) (value, refl, row_inner)

row_spelled : StandsInFront (IsFormula words (formula.Not value) scope) form
row_spelled = formulas_spell [] table table form (raw.Not inner) row_read (keeps_same table) words scope (formula.Not value) row_bound
