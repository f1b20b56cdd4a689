-- What is printed for an HDDL value is read again.
-- Source: this project's.
use Rattle.hddl_reader.specs.declared.sections.Language.TheVariants as language
use Rattle.plan_model.specs.declared.values.Hddl.{Hddl}
use Rattle.plan_texts.specs.Alike.{AreAlikeHddl}
use Rattle.plan_texts.specs.SpellsHddl.{SpellsHddl}
use Rattle.text_values.specs.Exactly.{AreAccepted}
use Rattle.hddl_texts.specs.PrintedHddl.{hddl_domain_text, hddl_problem_text}
use Rattle.hddl_texts.specs.Ids.{with_ids}

-- The printed texts have no fault, and each value that they spell is alike to the problem with the printed ids.
pub record IsReadAgain (h : Hddl) : Type 0 where
  pub accepted : AreAccepted language.Hddl (hddl_domain_text h) (hddl_problem_text h)
  pub alike : (read : Hddl) → SpellsHddl (hddl_domain_text h) (hddl_problem_text h) read → AreAlikeHddl (with_ids h) read
