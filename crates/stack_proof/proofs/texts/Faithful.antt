-- The printed problem of a stack, and its two texts, are faithful, with one plan for each tree.
use Rattle.std.proofs.Common.{ℕ, List}
use Rattle.plan_model.specs.declared.options.Checks.{Checks}
use Rattle.plan_model.specs.declared.values.Compiled.{Compiled}
use Rattle.plan_model.specs.declared.values.Hddl.{Hddl}
use Rattle.plan_model.specs.declared.values.Pddl.{Pddl}
use Rattle.plan_model.specs.plan_meaning.Laws.{AreOrdered}
use Rattle.plan_texts.specs.PrintedTexts.{domain_text, problem_text}
use Rattle.plan_proof.specs.Faithful.{IsFaithfulValueBy}
use Rattle.plan_proof.specs.Headline.{SpellingForm, IsFaithfulBy}
use Rattle.plan_proof.proofs.machine.PrintedMeans.{faithful_texts}
use Rattle.stack_encoding.specs.StackPrinted.{IsPrintedStack}
use Rattle.stack_encoding.specs.StackSpelling.{IsStackSpelling}
use Rattle.stack_proof.specs.OneTree.{EachTreeHasOneSpelling, EachTreeHasOnePlan}
use Rattle.stack_proof.proofs.words.StackPlans.{stack_executables, stack_plans}
use Rattle.stack_proof.proofs.Spelled.{within, spelled, one_for_tree, only_one}

-- where a form of spelling has one list for each tree, faithful texts have one plan for each
pub one_plan : (Spelling : SpellingForm) (c : Compiled) (b : ℕ) (domain problem : List ℕ) → IsFaithfulBy Spelling c b domain problem → EachTreeHasOneSpelling Spelling c b → EachTreeHasOnePlan Spelling c b domain problem
one_plan Spelling c b domain problem f one tree order solution w =
    let (steps, cell, s) = f.spelled tree order solution.finished.front w in
    (steps, cell, s, (f.plans steps).1 (tree, order, cell, s, solution), λ others order' cell' k. (one tree order order' steps others cell cell' s k).0)

module _ (h : Hddl) (mode : Checks) (c : Compiled) (b : ℕ) (p : Pddl) (ordered : AreOrdered h) (is : IsPrintedStack h mode c b p) where
  pub stack_faithful : IsFaithfulValueBy IsStackSpelling c b p
  stack_faithful = record {
    executable = stack_executables h mode c b p ordered is;
    plans = stack_plans h mode c b p ordered is;
    only_one = only_one h mode c b p ordered is;
    within = within h mode c ordered is.compiled is.ordered b;
    spelled = spelled h mode c ordered is.compiled is.ordered b;
  }

  pub stack_texts : IsFaithfulBy IsStackSpelling c b (domain_text p) (problem_text p)
  stack_texts = faithful_texts IsStackSpelling c b p is.printable stack_faithful

  pub stack_trees : EachTreeHasOnePlan IsStackSpelling c b (domain_text p) (problem_text p)
  stack_trees = one_plan IsStackSpelling c b (domain_text p) (problem_text p) stack_texts (one_for_tree h mode c ordered is.compiled is.ordered b)
