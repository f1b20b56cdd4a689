-- The value of two texts that were read and bound, and that spell it, is sound.
use Rattle.std.proofs.Common.{◌≤◌, ◌+◌, ℕ, List, length, arith}
use Rattle.plan_model.specs.declared.values.Hddl.{Hddl}
use Rattle.plan_texts.specs.SoundProblem.{IsSoundProblem}
use Rattle.hddl_reader.specs.Definitions.{IsDomainRead, IsProblemRead}
use Rattle.hddl_reader.specs.declared.sections.Language.{Language}
use Rattle.hddl_reader.specs.declared.sections.Language.TheVariants.{Hddl as language}
use Rattle.text_values.specs.form_spellings.InOrder.{DomainIsInOrder, IsProblemInOrder}
use Rattle.text_values.specs.form_spellings.Places.{IsDomainAt, IsProblemAt}
use Rattle.text_values.specs.form_spellings.ReadOf.{OfEachWhole}
use Rattle.hddl_bind.specs.WholeProblems.{with_start}
use Rattle.text_values.specs.form_spellings.binding_laws.SoundValues.{AreOfTexts, IsBoundOf, ReadValuesAreSound}
use Rattle.text_values.specs.form_spellings.binding_laws.WholeFaults.{AreInOrder}
use Rattle.text_values.proofs.form_spellings.binding_laws.sound.FewUnions.{has_few_unions}
use Rattle.text_values.proofs.form_spellings.binding_laws.sound.Limits.{is_sound_both}
use Rattle.text_values.proofs.form_spellings.binding_laws.sound.Ordered.{is_ordered_both}

module _ (l : Language) (domains_in_order : OfEachWhole (IsDomainRead l) (λ text. DomainIsInOrder)) (problems_in_order : OfEachWhole (IsProblemRead l) (λ text. IsProblemInOrder))
    (domain problem : List ℕ) (h : Hddl) (is : IsBoundOf l domain problem h) where
  pub read_in_order : AreInOrder is.before (with_start is.left) is.d is.p
  read_in_order = record {
    differ = is.differ;
    keeps = is.keeps;
    domain = domains_in_order domain is.read.before_domain (with_start is.left) (is.d, is.read.behind_domain) is.read.domain_read is.read.keeps_domain is.differ;
    problem = problems_in_order problem is.read.before_problem (with_start is.left) (is.p, is.read.behind_problem) is.read.problem_read is.read.keeps_problem;
  }

  module _ (domains_at : OfEachWhole (IsDomainRead l) IsDomainAt) (problems_at : OfEachWhole (IsProblemRead l) IsProblemAt) where
    of_texts : AreOfTexts (with_start is.left) is.d is.p
    of_texts = record {
      domain = domain;
      problem = problem;
      domain_at = domains_at domain is.read.before_domain (with_start is.left) (is.d, is.read.behind_domain) is.read.domain_read is.read.keeps_domain;
      problem_at = problems_at problem is.read.before_problem (with_start is.left) (is.p, is.read.behind_problem) is.read.problem_read is.read.keeps_problem;
      domain_short = is.domain_short;
      problem_short = is.problem_short;
    }

    -- with no more unions than the texts have bytes
    pub read_sound : length h.types.unions ≤ length domain + length problem → IsSoundProblem h
    read_sound few = is_sound_both is.before is.left is.d is.p l is.b h read_in_order is.domain_bound is.problem_bound of_texts is.few_words (let a = is.domain_short in let c = is.problem_short in omega arith)

pub read_values : OfEachWhole (IsDomainRead language) IsDomainAt → OfEachWhole (IsProblemRead language) IsProblemAt
    → OfEachWhole (IsDomainRead language) (λ text. DomainIsInOrder) → OfEachWhole (IsProblemRead language) (λ text. IsProblemInOrder) → ReadValuesAreSound
read_values domains_at problems_at domains_in_order problems_in_order domain problem h is of = (
  read_sound language domains_in_order problems_in_order domain problem h is domains_at problems_at (has_few_unions domain problem h of),
  is_ordered_both is.before is.left is.d is.p language is.b h (read_in_order language domains_in_order problems_in_order domain problem h is) is.domain_bound is.problem_bound,
)
