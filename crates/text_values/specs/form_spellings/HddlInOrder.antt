-- A value to which what was read of two texts is bound, with types, pairs and unions in the order of the texts, is their HDDL value.
use Rattle.std.specs.Prelude.{ℕ, ◌≡◌, ◌++◌, List, [], map}
use Rattle.text_forms.specs.Faults.{IsFaultless}
use Rattle.text_forms.specs.Words.{Word}
use Rattle.plan_texts.specs.Declared.{type_words, union_words}
use Rattle.plan_texts.specs.FirstSeen.{first_unions, IsHddlOf}
use Rattle.plan_model.specs.declared.types.Types.{Types}
use Rattle.plan_model.specs.declared.values.Hddl.{Hddl}
use Rattle.gd_reader.specs.Terms.{Names}
use Rattle.hddl_reader.specs.declared.sections.Language.TheVariants.{Hddl as language}
use Rattle.hddl_reader.specs.declared.sections.RawDomain.{RawDomain}
use Rattle.hddl_reader.specs.declared.sections.RawProblem.{RawProblem}
use Rattle.text_values.specs.form_spellings.BoundTexts.{IsBoundHddl}
use Rattle.text_values.specs.form_spellings.ReadTexts.{AreRead}
use Rattle.text_values.specs.form_spellings.SeenInOrder.{AreSorted, types_of, pairs_of}
use Rattle.text_values.specs.form_spellings.Written.{Written, Union, all_written, item_written, domain_unions, problem_unions}
use Rattle.text_values.specs.form_spellings.Written as written

-- The types, pairs and unions, of these words, are those that were read, by the offsets of their words.
pub record AreBoundInOrder (table : Names) (d : RawDomain) (p : RawProblem) (names : List Word) (t : Types) : Type 0 where
  pub words : List (Written Word)
  pub words_sorted : AreSorted (written.type_words table d.types) words
  pub types : type_words names t ≡ types_of (all_written words)
  pub pairs : t.parents ≡ pairs_of (type_words names t) (map (item_written table) d.types)
  pub of_domain : List Union
  pub of_domain_sorted : AreSorted (domain_unions table d) of_domain
  pub of_problem : List Union
  pub of_problem_sorted : AreSorted (problem_unions table p) of_problem
  pub unions : union_words names t ≡ first_unions [] (all_written of_domain ++ all_written of_problem)

-- those of the value
abbrev pub IsBoundInOrder : Names → RawDomain → RawProblem → Hddl → Type 0
IsBoundInOrder table d p h = AreBoundInOrder table d p h.names h.types

abbrev pub BoundHddlIsOfTexts : Type 0
BoundHddlIsOfTexts =
    (domain problem : List ℕ) (table : Names) (d : RawDomain) (p : RawProblem) → AreRead language domain problem table d p
    → IsFaultless domain → IsFaultless problem → (h : Hddl) → IsBoundHddl table d p h → IsBoundInOrder table d p h → IsHddlOf domain problem h
