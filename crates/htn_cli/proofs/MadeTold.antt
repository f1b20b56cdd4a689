-- What was made: what is true of one value of the made texts is true of each.
use Rattle.std.proofs.Common.{ℕ, ◌≡◌, ◌≤◌, List, None, sym, ◌∙◌, subst, inl, inr, arith}
use Rattle.outside_io.specs.Sink.{SinkState}
use Rattle.plan_model.specs.declared.options.Checks.TheVariants.{Leaf}
use Rattle.plan_model.specs.declared.steps.GroundAction.{GroundAction}
use Rattle.plan_model.specs.declared.values.Compiled.{Compiled}
use Rattle.plan_model.specs.declared.values.Pddl.{Pddl}
use Rattle.plan_model.specs.task_networks.Net.{Net}
use Rattle.plan_model.specs.task_networks.Tree.{Tree, Address}
use Rattle.plan_model.specs.task_networks.Spelling.{Act, Spells}
use Rattle.plan_model.specs.plan_meaning.Network.{network}
use Rattle.plan_model.specs.plan_meaning.Solution.{top_work, IsSolution}
use Rattle.plan_texts.specs.SpellsPddl.{SpellsPddl}
use Rattle.plan_texts.proofs.PrintedSpells.{printed_spells}
use Rattle.plan_encoder.specs.Calls.{ShowsUnderSomeIds}
use Rattle.placements.proofs.PlacedPlans.{placed_are_solutions}
use Rattle.step_texts.specs.StepTexts.{IsSpelled}
use Rattle.made_transport.specs.Made.{made_domain}
use Rattle.command_words.specs.declared.level.Level.TheVariants.{Lifted}
use Rattle.command_words.specs.Words.{TranslationRequest, MakeRequest}
use Rattle.htn_cli.specs.Lines.{summary}
use Rattle.htn_cli.specs.Making.{packages, problem_of, plan_of, translation_for, AreMade, RefusesMake}
use Rattle.htn_cli.specs.Problem.{SpellProblem}
use Rattle.htn_cli.specs.Refusal.{line_of}
use Rattle.htn_cli.specs.Sent.{TakesWhole, Told}
use Rattle.htn_cli.specs.Texts.{Texts}
use Rattle.htn_cli.specs.Translation.{RefusesTranslation}
use Rattle.htn_cli.specs.promise.Cycle.{TellsCycle}
use Rattle.htn_cli.specs.promise.Headline.{KeepPlans}
use Rattle.htn_cli.specs.promise.Making.{KeepsMade, TellsNothingMade}
use Rattle.htn_cli.specs.declared.refusal.Finding.{Finding}
use Rattle.htn_cli.specs.declared.refusal.Finding.TheVariants as finding
use Rattle.htn_cli.specs.declared.refusal.Refusal.TheVariants as refused
use Rattle.htn_cli.proofs.EachProblem.{bound_of_each, cycle_of_each}
use Rattle.htn_cli.proofs.LawsUsed.{LawsUsed}
use Rattle.htn_cli.proofs.MadePlans.{made_is_sound}
use Rattle.htn_cli.proofs.OneMaking.{same_actions}
use Rattle.htn_cli.proofs.StepsTold.{of, each, says_why}

-- what is spelled with some slots is spelled with more
more_slots : (N : Net) (b more : ℕ) → b ≤ more → (top : N.Work) (acts : List (Act N)) (tree : Tree N) (order : List Address) (slot : Address → ℕ)
    → Spells N b top acts tree order slot → Spells N more top acts tree order slot
more_slots N b more l top acts tree order slot s = record {
  front = s.front;
  root = s.root;
  range = λ p a. let r = s.range p a in (r.0, (let k = r.1 in omega (arith, k, l)));
  heirs = s.heirs;
  apart = s.apart;
  spelled = s.spelled;
}

module _ (laws : LawsUsed) (request : MakeRequest) where
  abbrev p : List ℕ
  p = problem_of request

  abbrev t : TranslationRequest
  t = translation_for request

  module _ (out out' : SinkState) (texts : Texts) (actions bound width steps : ℕ) (are : AreMade request texts actions bound width steps) where
    abbrev c : Compiled
    c = are.written.compiled

    abbrev source : SpellProblem made_domain p Leaf are.written.compiled
    source = are.written.source.problem_is

    abbrev list : List GroundAction
    list = are.counted.0

    is : IsSpelled c (plan_of request) width width list
    is = are.counted.1

    placed : IsSolution c is.tree is.order × ShowsUnderSomeIds c (plan_of request) is.tree is.order
    placed = placed_are_solutions c source.value Leaf (of laws.encoded made_domain p Leaf c source (plan_of request)) (plan_of request) is.tree is.order is.placed

    within_bound : width ≤ bound
    within_bound =
        laws.within source.value Leaf c (of laws.encoded made_domain p Leaf c source (plan_of request)) bound are.written.source.slots_are (plan_of request) width
        (record { tree = is.tree; order = is.order; placed = is.placed; width_is = is.width_is })

    module _ (od op : List ℕ) (domain_is : texts.domain ≡ od) (problem_is : texts.problem ≡ op) (keep : KeepPlans t made_domain p od op bound) where
      value : Pddl
      value = are.written.translated.value

      spelled_here : SpellsPddl od op are.written.translated.value
      spelled_here =
          let d = sym are.written.translated.domain_is ∙ domain_is in
          let q = sym are.written.translated.problem_is ∙ problem_is in
          subst (λ (z : Type 0). z) (λ i. SpellsPddl (d i) (q i) are.written.translated.value)
          (printed_spells are.written.translated.value are.written.translated.printed.printable)

      pub keeps_made : TakesWhole (summary (packages request) actions bound width steps) out out' → KeepsMade request od op out out'
      keeps_made told = record {
        actions = actions;
        bound = bound;
        width = width;
        steps = steps;
        told = told;
        bound_is = bound_of_each made_domain p Leaf c source bound are.written.source.slots_are;
        keep = keep;
        actions_are = λ value spells. are.actions_are ∙ same_actions od op are.written.translated.value value spelled_here spells;
        list = list;
        latest = λ h k s compiled. (each laws.encoded made_domain p Leaf c source (plan_of request) h k s compiled).spelled width width list is;
        steps_are = are.counted.2;
        within = within_bound;
        is_plan =
            ((keep.headline source.value c source.read.spelled source.compiled_is).plans list).1 (
              is.tree,
              is.order,
              is.slot,
              (is.acts, more_slots (network c) width bound within_bound (top_work c) is.acts is.tree is.order is.slot is.lowest.spells, is.steps_are),
              placed.0,
            );
      }

  -- nothing was made
  by_cycle : (f : Finding) → RefusesTranslation t made_domain p (refused.Finding f) → (err err' : SinkState) → Told (line_of (refused.Finding f)) err err' → TellsCycle Lifted Leaf made_domain p err err'
  by_cycle (finding.NotTailRecursive words) ((none, some), (c, source, named)) err err' line = cycle_of_each made_domain p Leaf c source laws.ground Lifted words named err err' line
  by_cycle (finding.NotTotallyOrdered word) (stack, x) err err' line = absurd (cc)
  by_cycle _ x err err' line = absurd x

  pub nothing_made : (f : Finding) → RefusesMake request (refused.Finding f) → (err err' : SinkState) → Told (line_of (refused.Finding f)) err err' → TellsNothingMade request err err'
  nothing_made f (inl x) err err' line = inl (by_cycle f x err err' line)
  nothing_made f (inr (c, bound, source, is)) err err' line =
      inr (f, line, says_why laws.encoded made_domain p Leaf c source.problem_is (plan_of request) None (made_is_sound (packages request)) laws.within f is)
