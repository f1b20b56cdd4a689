-- Formulas and effects, line by line: what is a whole one, and what begins one.
-- Source: appendix A (grammar) of Fox and Long, "PDDL2.1", JAIR 20, 2003, level 1.
use Rattle.std.specs.Prelude.{[]}
use Rattle.gd_reader.specs.Forms.{Form, complete, unfinished, wrong, ◌followed_by◌}
use Rattle.text_forms.specs.Placed.{Placed, cut, close, word, list}
use Rattle.gd_reader.specs.declared.typed_lists.ListKind.TheVariants.{Parameters}
use Rattle.gd_reader.specs.declared.words.Head.TheVariants as head
use Rattle.gd_reader.specs.declared.words.EffectHead.TheVariants as effect
use Rattle.gd_reader.specs.ListGrammar.{params_form}
use Rattle.gd_reader.specs.TermGrammar.{terms_form, end_form, two_terms_form, applied_form, passed_form}
use Rattle.gd_reader.specs.Words.{head_of, effect_head_of}

abbrev mutual
  -- ) | and gd* ) | or gd* ) | not gd ) | imply gd gd ) | forall ( vlist ) gd ) | exists ( vlist ) gd ) | = term term ) | NAME term* )
  pub inside_form : Placed → Form
  inside_form cut = unfinished
  inside_form (close at) = complete
  inside_form (list at p q) = wrong
  inside_form (word at w p) = elim (head_of w) [
    | head.And ↦ formulas_form p
    | head.Or ↦ formulas_form p
    | head.Not ↦ one_form p
    | head.Imply ↦ two_form p
    | head.Forall ↦ bound_form p
    | head.Exists ↦ bound_form p
    | head.Equal ↦ two_terms_form p
    | head.Plain ↦ terms_form p
    | head.Wrong ↦ wrong
  ]

  -- gd* )
  pub formulas_form : Placed → Form
  formulas_form cut = unfinished
  formulas_form (close at) = complete
  formulas_form (word at w p) = wrong
  formulas_form (list at p q) = inside_form p followed_by formulas_form q

  -- gd )
  pub one_form : Placed → Form
  one_form cut = unfinished
  one_form (close at) = wrong
  one_form (word at w p) = wrong
  one_form (list at p q) = inside_form p followed_by end_form q

  -- gd gd )
  pub two_form : Placed → Form
  two_form cut = unfinished
  two_form (close at) = wrong
  two_form (word at w p) = wrong
  two_form (list at p q) = inside_form p followed_by one_form q

  -- ( vlist ) gd )
  pub bound_form : Placed → Form
  bound_form cut = unfinished
  bound_form (close at) = wrong
  bound_form (word at w p) = wrong
  bound_form (list at p q) = params_form Parameters [] p followed_by one_form q

-- gd
abbrev pub formula_form : Placed → Form
formula_form cut = unfinished
formula_form (close at) = wrong
formula_form (word at w p) = wrong
formula_form (list at p q) = inside_form p

-- ( NAME term* ) )
abbrev pub deleted_form : Placed → Form
deleted_form cut = unfinished
deleted_form (close at) = wrong
deleted_form (word at w p) = wrong
deleted_form (list at p q) = applied_form p followed_by end_form q

abbrev mutual
  -- ) | and eff* ) | forall ( vlist ) eff ) | when gd eff ) | not ( NAME term* ) ) | increase any* ) | NAME term* )
  pub effect_inside_form : Placed → Form
  effect_inside_form cut = unfinished
  effect_inside_form (close at) = complete
  effect_inside_form (list at p q) = wrong
  effect_inside_form (word at w p) = elim (effect_head_of w) [
    | effect.And ↦ effects_form p
    | effect.Forall ↦ bound_effect_form p
    | effect.When ↦ guarded_form p
    | effect.Not ↦ deleted_form p
    | effect.Increase ↦ passed_form p
    | effect.Plain ↦ terms_form p
    | effect.Wrong ↦ wrong
  ]

  -- eff* )
  pub effects_form : Placed → Form
  effects_form cut = unfinished
  effects_form (close at) = complete
  effects_form (word at w p) = wrong
  effects_form (list at p q) = effect_inside_form p followed_by effects_form q

  -- eff )
  pub one_effect_form : Placed → Form
  one_effect_form cut = unfinished
  one_effect_form (close at) = wrong
  one_effect_form (word at w p) = wrong
  one_effect_form (list at p q) = effect_inside_form p followed_by end_form q

  -- gd eff )
  pub guarded_form : Placed → Form
  guarded_form cut = unfinished
  guarded_form (close at) = wrong
  guarded_form (word at w p) = wrong
  guarded_form (list at p q) = inside_form p followed_by one_effect_form q

  -- ( vlist ) eff )
  pub bound_effect_form : Placed → Form
  bound_effect_form cut = unfinished
  bound_effect_form (close at) = wrong
  bound_effect_form (word at w p) = wrong
  bound_effect_form (list at p q) = params_form Parameters [] p followed_by one_effect_form q

-- eff
abbrev pub effect_form : Placed → Form
effect_form cut = unfinished
effect_form (close at) = wrong
effect_form (word at w p) = wrong
effect_form (list at p q) = effect_inside_form p
