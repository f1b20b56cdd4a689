-- The printed texts of what is kept have the plans of the problem; and texts that cannot be solved have none.
use Rattle.std.proofs.Common.{ℕ, ◌↔◌, List, subst, sym}
use Rattle.plan_texts.specs.FirstSeen.{IsHddlOf}
use Rattle.plan_texts.specs.PrintedTexts.{domain_text, problem_text}
use Rattle.plan_texts.specs.SoundProblem.{IsSoundProblem}
use Rattle.plan_texts.proofs.UniqueHddl.{hddl_alike}
use Rattle.plan_model.specs.declared.options.Checks.{Checks}
use Rattle.plan_model.specs.declared.options.Style.{Style}
use Rattle.plan_model.specs.declared.steps.GroundAction.{GroundAction}
use Rattle.plan_model.specs.declared.values.Hddl.{Hddl}
use Rattle.plan_model.specs.declared.values.Compiled.{Compiled}
use Rattle.plan_model.specs.declared.values.Pddl.{Pddl}
use Rattle.plan_model.specs.task_networks.Tree.{Tree, Address}
use Rattle.plan_model.specs.plan_meaning.Compilation.{IsCompiled}
use Rattle.plan_model.specs.plan_meaning.Laws.{AreOrdered}
use Rattle.plan_model.specs.plan_meaning.Network.{network}
use Rattle.plan_model.specs.plan_meaning.Solution.{IsSolution}
use Rattle.live_parts.specs.Live.{Parts, AreLive}
use Rattle.live_parts.specs.Kept.{Kept, AreKept}
use Rattle.live_parts.specs.Pruned.{pruned}
use Rattle.live_parts.proofs.KeptNodes.{solved_may_be_solved}
use Rattle.live_parts.proofs.PrunedSolutions.{spelled}
use Rattle.live_parts.proofs.PrunedSound.{sound_is_numbered}
use Rattle.hddl_texts.specs.PrintedHddl.{hddl_domain_text, hddl_problem_text}
use Rattle.hddl_texts.specs.Ids.{with_ids}
use Rattle.hddl_texts.proofs.PrintedIds.{still-ordered}
use Rattle.plan_model.specs.plan_meaning.SpelledPlan.{IsSpelling}
use Rattle.plan_proof.specs.Headline.{SpellsSolution}
use Rattle.plan_proof.specs.OneText.{HasOneCompiled}
use Rattle.plan_proof.specs.TextPlans.{IsPlanOf}
use Rattle.plan_proof.proofs.machine.PrintedMeans.{printed_faithful, faithful_texts}
use Rattle.plan_proof.proofs.one.SomeCompiled.{has_one_compiled}
use Rattle.pruned_answers.specs.PrunedTexts.{AreItsTexts, IsPrintedOf, KeepPlans, PrunedTextsKeepPlans, RefusedHaveNoSolution}
use Rattle.pruned_answers.proofs.AlikeTwins.{spelled_twins}
use Rattle.pruned_answers.proofs.IdTwins.{id_twins}
use Rattle.pruned_answers.proofs.PrunedTexts.{ordered_alike, kept_texts}
use Rattle.pruned_answers.proofs.Twins.{AreTwins, twins_back, solution_to, spelled_to}

-- the same lists spell a solution of twins
twins_spell : (c d : Compiled) → AreTwins c d → (b : ℕ) (steps : List GroundAction) → SpellsSolution c b steps ↔ SpellsSolution d b steps
twins_spell c d t b steps = (to c d t, to d c (twins_back c d t))
  where
    to : (c d : Compiled) → AreTwins c d → SpellsSolution c b steps → SpellsSolution d b steps
    to c d t (tree, order, slot, s, x) = let (other, s', x') = spelled_to c d t b steps tree order slot s x in (other, order, slot, s', x')

joined : {A B C : Type 0} → A ↔ B → B ↔ C → A ↔ C
joined f g = (λ x. g.0 (f.0 x), λ x. f.1 (g.1 x))

back : {A B : Type 0} → A ↔ B → B ↔ A
back f = (f.1, f.0)

-- the plans of what is printed are the spelled solutions
printed_plans : (domain problem : List ℕ) (checks : Checks) (b : ℕ) (style : Style) (p : Pddl) (t : IsPrintedOf domain problem checks b style p) → AreOrdered t.read
    → (steps : List GroundAction) → IsPlanOf (domain_text p) (problem_text p) steps ↔ SpellsSolution t.compiled b steps
printed_plans domain problem checks b style p t ordered = (faithful_texts IsSpelling t.compiled b p t.is.printable (printed_faithful t.read checks t.compiled b style p ordered t.is)).plans

module _ (domain problem : List ℕ) (h : Hddl) (spelled_here : IsHddlOf domain problem h) (sound : IsSoundProblem h) (ordered : AreOrdered h) where
  -- each value of the texts has no cycle
  read_ordered : (read : Hddl) → IsHddlOf domain problem read → AreOrdered read
  read_ordered read e = ordered_alike h read (hddl_alike h read domain problem spelled_here.spelled e.spelled) ordered

  module _ (checks : Checks) where
    one_here : HasOneCompiled h checks
    one_here = has_one_compiled h checks ordered

    -- what is compiled of any value is the same as what is compiled of this one
    twins_here : (g : Hddl) (c : Compiled) → IsHddlOf domain problem g → IsCompiled g checks c → AreTwins c one_here.0
    twins_here g c e compiled = spelled_twins domain problem g h checks c one_here.0 e.spelled spelled_here.spelled compiled one_here.1

  module _ (live : Parts) (kept : Kept) (is : AreLive h live) (are : AreKept h live kept) where
    abbrev H : Hddl
    H = pruned kept h

    abbrev od : List ℕ
    od = hddl_domain_text H

    abbrev op : List ℕ
    op = hddl_problem_text H

    texts : AreItsTexts H
    texts = kept_texts domain problem h spelled_here sound ordered live kept are

    same_solutions : (checks : Checks) (g i : Hddl) (c k : Compiled) → IsHddlOf domain problem g → IsHddlOf od op i → IsCompiled g checks c → IsCompiled i checks k
        → (b : ℕ) (steps : List GroundAction) → SpellsSolution c b steps ↔ SpellsSolution k b steps
    same_solutions checks g i c k e f compiled compiled' b steps =
        let one = one_here checks in
        let small = has_one_compiled H checks texts.ordered in
        let named = has_one_compiled (with_ids H) checks (still-ordered H texts.ordered) in
        joined (twins_spell c one.0 (twins_here checks g c e compiled) b steps)
        (joined (back (spelled h checks one.0 small.0 (sound_is_numbered h sound) one.1 live kept is are small.1 b steps))
        (joined (twins_spell small.0 named.0 (id_twins od op H texts.sound.value texts.apart texts.spelled checks small.0 named.0 small.1 named.1) b steps)
        (twins_spell named.0 k (spelled_twins od op (with_ids H) i checks named.0 k texts.spelled f.spelled named.1 compiled') b steps)))

    keep_plans : KeepPlans domain problem od op
    keep_plans = record {
      solutions = same_solutions;
      plans = λ checks b style other p q x y steps.
          joined (printed_plans domain problem checks b style p x (read_ordered x.read x.spelled) steps)
          (joined (same_solutions checks x.read y.read x.compiled y.compiled x.spelled y.spelled x.is.compiled y.is.compiled b steps)
          (back (printed_plans od op checks b other q y (texts.read_ordered y.read y.spelled.spelled) steps)));
    }

  pub pruned_texts_keep_plans : PrunedTextsKeepPlans h domain problem
  pruned_texts_keep_plans value x = subst (λ (z : Hddl). KeepPlans domain problem (hddl_domain_text z) (hddl_problem_text z)) (sym x.is) (keep_plans x.live x.kept x.live_is x.kept_is)

  pub refused_have_no_solution : RefusedHaveNoSolution h domain problem
  refused_have_no_solution x = record {
    solutions = none;
    plans = λ checks b style p t steps is. (
        let (tree, order, slot, s, y) = (printed_plans domain problem checks b style p t (read_ordered t.read t.spelled) steps).0 is in
        none checks t.read t.compiled t.spelled t.is.compiled tree order y);
  }
    where
      none : (checks : Checks) (g : Hddl) (c : Compiled) → IsHddlOf domain problem g → IsCompiled g checks c → (tree : Tree (network c)) (order : List Address) → IsSolution c tree order → ⊥
      none checks g c e compiled tree order y =
          let one = one_here checks in
          let (other, same, z) = solution_to c one.0 (twins_here checks g c e compiled) tree order y in
          x.unsolved (solved_may_be_solved h checks one.0 one.1 (sound_is_numbered h sound) x.live x.live_is other order z)
