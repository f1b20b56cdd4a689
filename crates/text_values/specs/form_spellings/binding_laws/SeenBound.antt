-- The types, pairs and unions that are bound of a domain and a problem are those that were read, by their offsets, so that what is
-- bound of two texts is their HDDL value.
-- Source: this project's.
use Rattle.std.specs.Prelude.{ℕ, List}
use Rattle.text_forms.specs.Faults.{IsFaultless}
use Rattle.gd_reader.specs.Terms.{Names}
use Rattle.hddl_reader.specs.declared.sections.Language.{Language}
use Rattle.hddl_reader.specs.declared.sections.Language.TheVariants as language
use Rattle.hddl_reader.specs.declared.sections.RawDomain.{RawDomain}
use Rattle.hddl_reader.specs.declared.sections.RawProblem.{RawProblem}
use Rattle.plan_model.specs.declared.values.Hddl.{Hddl}
use Rattle.plan_texts.specs.FirstSeen.{IsHddlOf}
use Rattle.text_values.specs.form_spellings.HddlInOrder.{IsBoundInOrder}
use Rattle.text_values.specs.form_spellings.ReadTexts.{AreRead}
use Rattle.hddl_bind.specs.declared.bound_domain.BoundDomain.{BoundDomain}
use Rattle.hddl_bind.specs.WholeDomains.{IsDomainBound}
use Rattle.hddl_bind.specs.WholeProblems.{with_start, IsProblemBound}
use Rattle.text_values.specs.form_spellings.binding_laws.WholeFaults.{AreInOrder}

module _ (before left : Names) (d : RawDomain) (p : RawProblem) where
  -- the domain and the problem as in IsBoundBoth
  abbrev pub IsInSeenOrder : Type 0
  IsInSeenOrder = (l : Language) (b : BoundDomain) (h : Hddl) → AreInOrder before (with_start left) d p → IsDomainBound l before d b → IsProblemBound b p left h
      → IsBoundInOrder (with_start left) d p h

  -- of texts without a bad byte; where they were read, the last table has their words
  abbrev pub IsOfTexts : Type 0
  IsOfTexts = (domain problem : List ℕ) → AreRead language.Hddl domain problem (with_start left) d p → IsFaultless domain → IsFaultless problem
      → (b : BoundDomain) (h : Hddl) → AreInOrder before (with_start left) d p → IsDomainBound language.Hddl before d b → IsProblemBound b p left h
      → IsHddlOf domain problem h
