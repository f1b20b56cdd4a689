-- Effects, line by line. What is due stands in a list, up to its closing parenthesis.
-- Source: appendix A (grammar) of Fox and Long, "PDDL2.1", JAIR 20, 2003, level 1; an increase is passed over. The codes are this project's.
use Rattle.std.specs.Prelude.{[], ◌∷◌, codes}
use Rattle.text_forms.specs.Placed.{Placed}
use Rattle.text_forms.specs.Words.{is_name}
use Rattle.text_forms.specs.form_grammar.Codes.{Form}
use Rattle.text_forms.specs.form_grammar.Rows.{Rows, row_as, list_form, word_or_end, list_due, list_or_end}
use Rattle.text_forms.specs.form_grammar.Words.{Table, by_word, used}
use Rattle.text_forms.specs.form_grammar.Lists.{ended, terms, applied, anything, parameters, names}
use Rattle.text_forms.specs.form_grammar.Formulas.{FormulaDue, of_terms, of_list, gd, formula_rows}

pub data EffectDue : Type 0 where
  of_formula : FormulaDue → EffectDue
  group : (inside behind : EffectDue) → EffectDue
  eff : EffectDue
  effs : EffectDue

abbrev pub eff_table : Table EffectDue
eff_table =
    (codes "and", effs) ∷
    (codes "forall", group (of_formula (of_list (names parameters []))) (group eff (of_formula (of_terms ended)))) ∷
    (codes "when", group (of_formula gd) (group eff (of_formula (of_terms ended)))) ∷
    (codes "not", group (of_formula (of_terms applied)) (of_formula (of_terms ended))) ∷
    (codes "increase", of_formula (of_terms anything)) ∷
    []

abbrev pub effect_rows : Rows EffectDue
effect_rows (of_formula d) = row_as of_formula (formula_rows d)
effect_rows (group inside behind) = list_due 8 inside behind
-- ) | and eff* ) | forall ( vlist ) eff ) | when gd eff ) | not ( NAME term* ) ) | increase any* ) | NAME term* )
effect_rows eff = word_or_end 8 (by_word eff_table (used is_name (of_formula (of_terms terms))))
-- eff* )
effect_rows effs = list_or_end 8 eff effs

-- an effect at a token
abbrev pub effect_form : Placed → Form
effect_form p = list_form effect_rows 8 eff p
