-- An action of whose variables some differ, each two of them, and may have the lowest free objects.
-- Source: this project's.
use Rattle.std.specs.Prelude.{ℕ, List, [], ◌∷◌, ◌++◌, map, length, sum_by, codes}
use Rattle.text_forms.specs.Words.{Word, word_at}
use Rattle.plan_texts.specs.Declared.{variable}
use Rattle.plan_texts.specs.SpellsPddl.{pddl_words}
use Rattle.plan_model.specs.declared.terms.Param.{Param}
use Rattle.plan_model.specs.declared.values.Pddl.{Pddl}
use Rattle.plan_model.specs.task_networks.Spelling.{numbers}
use Rattle.plan_model.specs.declared.terms.Term.TheVariants.{Var}
use Rattle.plan_model.specs.declared.formulas.Formula.{Formula}
use Rattle.plan_model.specs.declared.formulas.Formula.TheVariants.{Equal, Not, And}
use Rattle.plan_model.specs.declared.schemas.ActionSchema.{ActionSchema}
use Rattle.pddl_printer.specs.declared.splits.Split.{Split}
use Rattle.pddl_printer.specs.Literals.{conditions_behind}
use Rattle.pddl_printer.specs.LowestFree.{lowest_of}

-- two variables differ
abbrev pub unequal : ℕ → ℕ → Formula
unequal v u = Not (Equal (Var v) (Var u))

-- each two of these variables differ
abbrev pub all_differ : List ℕ → List Formula
all_differ [] = []
all_differ (v ∷ vs) = map (unequal v) vs ++ all_differ vs

abbrev pub split_action : Split → ActionSchema
split_action s = record {
  name = s.name;
  params = s.params.now;
  pre = And (s.before.now ++ (all_differ (numbers 1 s.spare) ++ (s.behind.now ++ lowest_of s.lowest s.spare)));
  eff = s.eff.now;
}

-- the text that words of variables differ, behind a space; without its end; and such a one behind the end of another
abbrev pub pair_with : Word → Word → List ℕ
pair_with v u = codes " (not (= ?" ++ (v ++ (codes " ?" ++ (u ++ codes "))")))

abbrev pub open_with : Word → Word → List ℕ
open_with v u = codes " (not (= ?" ++ (v ++ (codes " ?" ++ u))

abbrev pub next_with : Word → Word → List ℕ
next_with v u = codes "))" ++ open_with v u

-- the text of conditions on these variables, each behind a space
module _ (p : Pddl) (xs : List Param) where
  -- a variable differs from each of these
  abbrev pub row_text : ℕ → List ℕ → List ℕ
  row_text v us = conditions_behind (pddl_words p) (map (variable (pddl_words p)) xs) (map (unequal v) us)

  abbrev pub differ_text : List ℕ → List ℕ
  differ_text vs = conditions_behind (pddl_words p) (map (variable (pddl_words p)) xs) (all_differ vs)

  -- how long the words of these variables are together
  abbrev pub letters : List ℕ → ℕ
  letters vs = sum_by (λ k. length (word_at (map (variable (pddl_words p)) xs) k)) vs
