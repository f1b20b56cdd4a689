use Rattle.text_values.proofs.form_spellings.binding_laws.FormulaFaults.{has_formula_faults}
use Rattle.text_values.proofs.form_spellings.binding_laws.FormulaValues.{is_formula_bound}
use Rattle.text_values.proofs.form_spellings.binding_laws.laws.formulas_are_bound.Goals as goal

pub returns : goal.returns
returns c = record { faults = has_formula_faults; bound = is_formula_bound }
