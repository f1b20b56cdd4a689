-- The smallest problem, m: t -> a with t on top, at one slot: all words of what is encoded of it.
use Rattle.std.proofs.Common.{◌≡◌, List, [], ◌∷◌, ◌++◌, codes, sym, ap, ◌∙◌}
use Rattle.text_forms.specs.Words.{Word}
use Rattle.plan_model.specs.declared.formulas.Formula.TheFolds.{fold-roll-Formula}
use Rattle.plan_model.specs.declared.formulas.Formula.TheOpen.{Formula-F}
use Rattle.plan_model.specs.declared.formulas.Formula.TheVariants.{And, rolls-And}
use Rattle.plan_model.specs.declared.effects.Effect.TheFolds.{fold-roll-Effect}
use Rattle.plan_model.specs.declared.effects.Effect.TheOpen.{Effect-F}
use Rattle.plan_model.specs.declared.effects.Effect.TheVariants as E
use Rattle.plan_model.proofs.plan_meaning.examples.RowWords.{slot_1}
use Rattle.plan_model.proofs.plan_meaning.examples.SmallestRow.{smallest, smallest_names}
use Rattle.slot_encoding.specs.EncodedWords.{formula_words_step, formula_words, effect_words_step, effect_words, encoded_words}

-- no variable is quantified
no_words : formula_words smallest_names (And []) ≡ []
no_words = ap (formula_words smallest_names) (sym (rolls-And [])) ∙ fold-roll-Formula (List Word) (formula_words_step smallest_names) (Formula-F.And [])

no_effect_words : effect_words smallest_names (E.And []) ≡ []
no_effect_words = ap (effect_words smallest_names) (sym (E.rolls-And [])) ∙ fold-roll-Effect (List Word) (effect_words_step smallest_names) (Effect-F.And [])

abbrev pub all_words : List Word
all_words =
    codes "d" ∷ codes "p" ∷ codes "object" ∷ codes "htn_slot" ∷ codes "htn_object" ∷ codes "htn_s1" ∷ codes "htn_h" ∷ codes "htn_x" ∷ codes "htn_a1" ∷ codes "htn_top" ∷ codes "htn_free" ∷ codes "htn_before"
    ∷ codes "htn_t_t" ∷ codes "htn_a_a" ∷ codes "htn_start" ∷ codes "htn_m_m" ∷ codes "a" ∷ []

pub smallest_words : encoded_words smallest 1 ≡ all_words
smallest_words = λ i. codes "d" ∷ codes "p" ∷ codes "object" ∷ codes "htn_slot" ∷ codes "htn_object" ∷ slot_1 i ∷ codes "htn_h" ∷ codes "htn_x" ∷ codes "htn_a1" ∷ codes "htn_top" ∷ codes "htn_free" ∷ codes "htn_before"
    ∷ codes "htn_t_t" ∷ codes "htn_a_a" ∷ (((codes "htn_start" ∷ (no_words i ++ (codes "htn_m_m" ∷ (no_words i ++ [])))) ++ []) ++ ((codes "a" ∷ (no_words i ++ no_effect_words i)) ++ []) ++ no_words i)
