-- What a text writes, as it was read: the words of a list of types, and unions of types, each with the offset of its first word.
-- Source: PDDL 2.1 (Fox and Long, JAIR 20, 2003, level 1) for `either`; that two different types or more are a union is this project's.
use Rattle.std.specs.Prelude.{ℕ, ◌++◌, List, [], ◌∷◌, map, Option, Some, None}
use Rattle.std.specs.List.{flat_map}
use Rattle.text_forms.specs.Words.{Word}
use Rattle.plan_texts.specs.Declared.{named}
use Rattle.plan_texts.specs.TypedLists.{first_seen}
use Rattle.plan_texts.specs.Types.{TypeItem}
use Rattle.gd_reader.specs.declared.effects.RawEffect.{RawEffect}
use Rattle.gd_reader.specs.declared.effects.RawEffect.TheFolds.{fold-RawEffect}
use Rattle.gd_reader.specs.declared.effects.RawEffect.TheOpen.{RawEffect-F}
use Rattle.gd_reader.specs.declared.formulas.RawFormula.{RawFormula}
use Rattle.gd_reader.specs.declared.formulas.RawFormula.TheFolds.{fold-RawFormula}
use Rattle.gd_reader.specs.declared.formulas.RawFormula.TheOpen.{RawFormula-F}
use Rattle.gd_reader.specs.declared.term.RawTerm.{RawTerm}
use Rattle.gd_reader.specs.declared.typed_lists.RawParam.{RawParam}
use Rattle.gd_reader.specs.Terms.{Names}
use Rattle.hddl_reader.specs.declared.sections.RawAction.{RawAction}
use Rattle.hddl_reader.specs.declared.sections.RawDomain.{RawDomain}
use Rattle.hddl_reader.specs.declared.sections.RawHead.{RawHead}
use Rattle.hddl_reader.specs.declared.sections.RawMethod.{RawMethod}
use Rattle.hddl_reader.specs.declared.sections.RawProblem.{RawProblem}
use Rattle.text_values.specs.form_spellings.Rising.{mentioned}

-- something written, and the offset of its first word
pub record Written (X : Type 0) : Type 0 where
  pub at : ℕ
  pub is : X

-- the same without offsets
abbrev pub all_written : {X : Type 0} → List (Written X) → List X
all_written ws = map (λ w. w.is) ws

abbrev pub Union : Type 0
Union = Written (List Word)

-- two or more types are a union
abbrev pub union_at : ℕ → List Word → List Union
union_at at [] = []
union_at at (w ∷ []) = []
union_at at (w ∷ u ∷ ws) = record { at = at; is = w ∷ u ∷ ws } ∷ []

abbrev pub joined : List (List Union) → List Union
joined [] = []
joined (us ∷ uss) = us ++ joined uss

module _ (table : Names) where
  abbrev pub word_written : RawTerm → Written Word
  word_written t = record { at = t.at; is = named table t.name }

  -- each word of a list of types: types and their parents
  abbrev pub type_words : List RawParam → List (Written Word)
  type_words xs = map word_written (mentioned xs)

  abbrev pub parent_written : List RawTerm → Option Word
  parent_written [] = None
  parent_written (t ∷ ts) = Some (named table t.name)

  -- a type with the parent that is written for it, if there is one
  abbrev pub item_written : RawParam → TypeItem
  item_written x = (named table x.name, parent_written x.ty)

  -- the types behind one `either`, each once
  abbrev pub types_unions : List RawTerm → List Union
  types_unions [] = []
  types_unions (t ∷ ts) = union_at t.at (first_seen [] (map (λ (t : RawTerm). named table t.name) (t ∷ ts)))

  -- one that several variables share comes once for each
  abbrev pub params_unions : List RawParam → List Union
  params_unions xs = flat_map (λ x. types_unions x.ty) xs

  abbrev pub formula_step : RawFormula-F (List Union) → List Union
  formula_step (RawFormula-F.Holds a) = []
  formula_step (RawFormula-F.Equal s t) = []
  formula_step (RawFormula-F.Not us) = us
  formula_step (RawFormula-F.And uss) = joined uss
  formula_step (RawFormula-F.Or uss) = joined uss
  formula_step (RawFormula-F.Imply us vs) = us ++ vs
  formula_step (RawFormula-F.Forall xs us) = params_unions xs ++ us
  formula_step (RawFormula-F.Exists xs us) = params_unions xs ++ us

  abbrev pub formula_unions : RawFormula → List Union
  formula_unions = fold-RawFormula (List Union) formula_step

  abbrev pub effect_step : RawEffect-F (List Union) → List Union
  effect_step (RawEffect-F.Add a) = []
  effect_step (RawEffect-F.Delete a) = []
  effect_step (RawEffect-F.And uss) = joined uss
  effect_step (RawEffect-F.Forall xs us) = params_unions xs ++ us
  effect_step (RawEffect-F.When f us) = formula_unions f ++ us

  abbrev pub effect_unions : RawEffect → List Union
  effect_unions = fold-RawEffect (List Union) effect_step

  abbrev pub head_unions : RawHead → List Union
  head_unions h = params_unions h.params

  abbrev pub method_unions : RawMethod → List Union
  method_unions m = params_unions m.head.params ++ formula_unions m.pre

  abbrev pub action_unions : RawAction → List Union
  action_unions a = params_unions a.head.params ++ (formula_unions a.pre ++ effect_unions a.eff)

  -- constants have one type each
  abbrev pub domain_unions : RawDomain → List Union
  domain_unions d = flat_map head_unions d.predicates ++ (flat_map head_unions d.tasks ++ (flat_map action_unions d.actions ++ flat_map method_unions d.methods))

  abbrev pub problem_unions : RawProblem → List Union
  problem_unions p = params_unions p.params ++ formula_unions p.goal
