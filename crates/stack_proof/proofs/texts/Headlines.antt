-- The headline of a stack, for every value of two source texts.
use Rattle.std.proofs.Common.{ℕ, List}
use Rattle.plan_model.specs.declared.options.Checks.{Checks}
use Rattle.plan_model.specs.declared.values.Compiled.{Compiled}
use Rattle.plan_model.specs.declared.values.Hddl.{Hddl}
use Rattle.plan_model.specs.declared.values.Pddl.{Pddl}
use Rattle.plan_model.specs.plan_meaning.Laws.{AreOrdered}
use Rattle.plan_texts.specs.FirstSeen.{IsHddlOf}
use Rattle.plan_texts.specs.PrintedTexts.{domain_text, problem_text}
use Rattle.plan_proof.specs.Headline.{HeadlineBy, HeadlineAtBoundBy}
use Rattle.plan_proof.proofs.machine.Bounds.{loses_nothing}
use Rattle.stack_encoding.specs.StackPrinted.{IsPrintedStack}
use Rattle.stack_encoding.specs.StackSpelling.{IsStackSpelling}
use Rattle.stack_proof.specs.OneTree.{OnePlanForEachTree}
use Rattle.stack_proof.proofs.texts.SamePrinted.{stack_printed_too, ordered_here}
use Rattle.stack_proof.proofs.texts.Faithful.{stack_texts, stack_trees}

module _ (domain problem : List ℕ) (h : Hddl) (mode : Checks) (c : Compiled) (b : ℕ) (p : Pddl) (spelled : IsHddlOf domain problem h) (printed : IsPrintedStack h mode c b p) (ordered : AreOrdered h) where
  pub headline_of : HeadlineBy IsStackSpelling domain problem mode b (domain_text p) (problem_text p)
  headline_of h' c' spelled' compiled' =
      stack_texts h' mode c' b p (ordered_here domain problem h h' mode c c' b p spelled printed spelled' compiled' ordered) (stack_printed_too domain problem h h' mode c c' b p spelled printed spelled' compiled')

  pub at_bound_of : HeadlineAtBoundBy IsStackSpelling domain problem mode b (domain_text p) (problem_text p)
  at_bound_of h' c' n spelled' compiled' tail bound enough =
      loses_nothing h' mode c' compiled' n bound IsStackSpelling b (domain_text p) (problem_text p) enough (headline_of h' c' spelled' compiled')

  pub tree_plans_of : OnePlanForEachTree IsStackSpelling domain problem mode b (domain_text p) (problem_text p)
  tree_plans_of h' c' spelled' compiled' =
      stack_trees h' mode c' b p (ordered_here domain problem h h' mode c c' b p spelled printed spelled' compiled' ordered) (stack_printed_too domain problem h h' mode c c' b p spelled printed spelled' compiled')
