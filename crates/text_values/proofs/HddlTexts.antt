-- What two HDDL texts are read as is the value that they spell.
use Rattle.std.proofs.Common.{ℕ, List}
use Rattle.hddl_reader.specs.declared.sections.Language.TheVariants as language
use Rattle.plan_model.specs.declared.values.Hddl.{Hddl}
use Rattle.plan_texts.specs.FirstSeen.{IsHddlOf}
use Rattle.text_values.proofs.form_spellings.order.Whole.{domains_in_order, problems_in_order}
use Rattle.hddl_bind.specs.WholeProblems.{with_start}
use Rattle.text_values.specs.form_spellings.binding_laws.SoundValues.{ReadValuesAreSound}
use Rattle.text_values.specs.form_spellings.binding_laws.WholeFaults.{AreInOrder}
use Rattle.text_values.proofs.form_spellings.binding_laws.seen.Bound.{is_of_texts}
use Rattle.text_values.specs.ReadAs.{AreReadAs}
use Rattle.text_values.specs.Values.{IsValueOf}

module _ (domain problem : List ℕ) (h : Hddl) (is : AreReadAs domain problem language.Hddl h) where
  in_order : AreInOrder is.bound.before (with_start is.bound.left) is.bound.d is.bound.p
  in_order = let b = is.bound in record {
    differ = b.differ;
    keeps = b.keeps;
    domain = domains_in_order language.Hddl domain b.read.before_domain (with_start b.left) (b.d, b.read.behind_domain) b.read.domain_read b.read.keeps_domain b.differ;
    problem = problems_in_order language.Hddl problem b.read.before_problem (with_start b.left) (b.p, b.read.behind_problem) b.read.problem_read b.read.keeps_problem;
  }

  spelled : IsHddlOf domain problem h
  spelled = let b = is.bound in
      is_of_texts b.before b.left b.d b.p domain problem b.read is.faultless.domain_is.tokens is.faultless.problem_is.tokens b.b h in_order b.domain_bound b.problem_bound

  pub value_of : ReadValuesAreSound → IsValueOf domain problem h
  value_of are_sound =
      let sound = are_sound domain problem h is.bound spelled in
      record { faultless = is.faultless; spelled = spelled; sound = sound.0; ordered = sound.1 }
