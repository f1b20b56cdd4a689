-- The value that is bound of a domain and a problem without faults is sound, and its networks have no cycle.
-- Source: this project's.
use Rattle.std.specs.Prelude.{ℕ, ◌<◌, ◌≤◌, ◌+◌, ◌^◌, List, [], length, codes}
use Rattle.htn_base.specs.Limits.{longest_input}
use Rattle.text_values.specs.form_spellings.Places.{IsDomainAt, IsProblemAt}
use Rattle.htn_base.specs.Different.{AreDifferent}
use Rattle.htn_base.specs.Table.{with_word}
use Rattle.gd_reader.specs.Added.{AddsOf}
use Rattle.text_values.specs.form_spellings.ReadTexts.{AreRead}
use Rattle.gd_reader.specs.Terms.{Names, Keeps}
use Rattle.hddl_reader.specs.declared.sections.Language.{Language}
use Rattle.hddl_reader.specs.declared.sections.Language.TheVariants as language
use Rattle.hddl_reader.specs.declared.sections.Language.TheVariants as language
use Rattle.hddl_reader.specs.declared.sections.RawDomain.{RawDomain}
use Rattle.hddl_reader.specs.declared.sections.RawProblem.{RawProblem}
use Rattle.plan_model.specs.declared.values.Hddl.{Hddl}
use Rattle.plan_model.specs.plan_meaning.Laws.{AreOrdered}
use Rattle.plan_texts.specs.FirstSeen.{IsHddlOf}
use Rattle.plan_texts.specs.SoundProblem.{IsShort, IsSoundProblem}
use Rattle.hddl_bind.specs.declared.bound_domain.BoundDomain.{BoundDomain}
use Rattle.hddl_bind.specs.WholeDomains.{IsDomainBound}
use Rattle.hddl_bind.specs.WholeProblems.{with_start, IsProblemBound}
use Rattle.text_values.specs.form_spellings.binding_laws.WholeFaults.{AreInOrder}

-- The offsets in a domain and a problem are those of tokens of two texts, of at most 16,777,216 bytes each.
pub record AreOfTexts (names : Names) (d : RawDomain) (p : RawProblem) : Type 0 where
  pub domain : List ℕ
  pub problem : List ℕ
  pub domain_at : IsDomainAt domain names d
  pub problem_at : IsProblemAt problem names p
  pub domain_short : length domain ≤ longest_input
  pub problem_short : length problem ≤ longest_input

module _ (before left : Names) (d : RawDomain) (p : RawProblem) where
  -- each pair of a network is of its subtasks, and no chain of pairs leads from a subtask to itself
  abbrev pub IsOrderedBoth : Type 0
  IsOrderedBoth = (l : Language) (b : BoundDomain) (h : Hddl) → AreInOrder before (with_start left) d p → IsDomainBound l before d b → IsProblemBound b p left h → AreOrdered h

  -- numbers and words fit together, where the table and the unions are as few as is asked
  abbrev pub IsSoundBoth : Type 0
  IsSoundBoth = (l : Language) (b : BoundDomain) (h : Hddl) → AreInOrder before (with_start left) d p → IsDomainBound l before d b → IsProblemBound b p left h
      → AreOfTexts (with_start left) d p → length left < 2 ^ 26 → IsShort h.types.unions → IsSoundProblem h

-- the value of two texts has no more unions than the texts have bytes
abbrev pub HasFewUnions : Type 0
HasFewUnions = (domain problem : List ℕ) (h : Hddl) → IsHddlOf domain problem h → length h.types.unions ≤ length domain + length problem

-- A value of two texts of a language, of at most 16,777,216 bytes each: a domain and a problem were read of them and bound, with so many
-- words at most.
pub record IsBoundOf (l : Language) (domain problem : List ℕ) (h : Hddl) : Type 0 where
  pub domain_short : length domain ≤ longest_input
  pub problem_short : length problem ≤ longest_input
  pub d : RawDomain
  pub p : RawProblem
  pub before : Names
  pub left : Names
  pub read : AreRead l domain problem (with_start left) d p
  pub differ : AreDifferent (with_start left)
  pub keeps : Keeps before (with_start left)
  pub few_words : length left < 2 ^ 26
  pub b : BoundDomain
  pub domain_bound : IsDomainBound l before d b
  pub problem_bound : IsProblemBound b p left h

-- such a value that HDDL texts spell, in their order, is sound, and its networks have no cycle
abbrev pub ReadValuesAreSound : Type 0
ReadValuesAreSound = (domain problem : List ℕ) (h : Hddl) → IsBoundOf language.Hddl domain problem h → IsHddlOf domain problem h → IsSoundProblem h × AreOrdered h

-- The words of a problem are put behind those of its domain and the word object, and the table began empty.
pub record IsTableOf (domain problem : List ℕ) (left : Names) : Type 0 where
  pub behind : Names
  pub domain_adds : AddsOf domain [] behind
  pub behind_differ : AreDifferent behind
  pub problem_adds : AddsOf problem (with_word behind (codes "object")) left
  pub left_differ : AreDifferent left

-- each text adds at most one word for each of its tokens
abbrev pub TablesAreFew : Type 0
TablesAreFew = (domain problem : List ℕ) (left : Names) → length domain ≤ longest_input → length problem ≤ longest_input
    → IsTableOf domain problem left → length left < 2 ^ 26
