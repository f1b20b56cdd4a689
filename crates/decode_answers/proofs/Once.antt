-- A list of steps shows one plan, or fails at one step for one cause, and not both.
use Rattle.std.proofs.Common.{ℕ, ◌≡◌, List, [], ◌∷◌, sym, subst, ◌∙◌, arith}
use Rattle.plan_model.specs.declared.options.Checks.{Checks}
use Rattle.plan_model.specs.declared.steps.GroundAction.{GroundAction}
use Rattle.plan_model.specs.declared.values.Hddl.{Hddl}
use Rattle.plan_model.specs.declared.values.Compiled.{Compiled}
use Rattle.plan_model.specs.task_networks.Lawful.{IsLawful}
use Rattle.plan_model.specs.task_networks.Spelling.{Act, Spells}
use Rattle.plan_model.specs.plan_meaning.Network.{network}
use Rattle.plan_model.specs.plan_meaning.Solution.{top_work}
use Rattle.plan_model.proofs.plan_meaning.CompiledNetworks.{prepared}
use Rattle.plan_model.proofs.task_networks.ScheduleLaws.{prepared_is_lawful}
use Rattle.slot_machine.proofs.Theorem.{front_is_the_only_one}
use Rattle.decoding.specs.PrintedSteps.{HasSoundSteps}
use Rattle.decoding.specs.PrintedLaws.{IsSolutionOrFails}
use Rattle.decoding.proofs.ReadSteps.{Read, spellings_are_read, each_is_solution_or_fails}
use Rattle.decoding.proofs.SoundCompiled.{compiled_are_read_in_one_way}
use Rattle.hplan_text.specs.declared.values.HPlan.{HPlan}
use Rattle.hplan_text.specs.ShownPlan.{ShowsHPlan}
use Rattle.hplan_text.specs.ShownSolutions.{SpellShown}
use Rattle.hplan_text.proofs.ShownOnce.{each_is_shown_once}
use Rattle.decode_answers.specs.DecodeLaws.{IsDecodable, IsDecodedOnce, EachIsDecodedOnce}

module _ (h : Hddl) (checks : Checks) (c : Compiled) (b : ℕ) (d : IsDecodable h checks c b) where
  pub lawful : IsLawful (network c)
  lawful = prepared_is_lawful (network c) (prepared h checks c d.ordered d.compiled)

  pub sound_steps : HasSoundSteps c b
  sound_steps = (compiled_are_read_in_one_way c h checks d.sound d.compiled).steps b (let l = d.few_slots in omega arith)

  one_reading : (steps : List GroundAction) (acts others : List (Act (network c))) → Read c b steps acts → Read c b steps others → acts ≡ others
  one_reading [] [] [] r q = λ i. []
  one_reading (s ∷ steps) (a ∷ acts) (e ∷ others) r q = let f = sound_steps.one s a e r.0 q.0 in let g = one_reading steps acts others r.1 q.1 in λ i. f i ∷ g i
  one_reading [] [] (e ∷ others) r q = absurd q
  one_reading [] (a ∷ acts) others r q = absurd r
  one_reading (s ∷ steps) [] others r q = absurd r
  one_reading (s ∷ steps) (a ∷ acts) [] r q = absurd q

  module _ (steps : List GroundAction) where
    pub solution_or_fails : IsSolutionOrFails c b steps
    solution_or_fails = each_is_solution_or_fails c lawful b steps d.some_slot sound_steps

    one_plan : (shown other : HPlan) → SpellShown c b steps shown → SpellShown c b steps other → shown ≡ other
    one_plan shown other s o =
        let (acts, r, sp) = (spellings_are_read c b steps s.tree s.order s.slot sound_steps).0 s.spelled in
        let (acts', r', sp') = (spellings_are_read c b steps o.tree o.order o.slot sound_steps).0 o.spelled in
        let f = one_reading steps acts' acts r' r in
        let (tree, order, slots) =
        front_is_the_only_one (network c) lawful b (top_work c) acts s.tree s.order s.slot o.tree o.order o.slot sp (subst (λ z. Spells (network c) b (top_work c) z o.tree o.order o.slot) f sp') in
        let once = each_is_shown_once c s.tree s.order s.solution.finished in
        once.only shown s.shows ∙ sym (once.only other (subst (λ (z : Type 0). z) (λ i. ShowsHPlan c (tree i) (order i) other) o.shows))

    decoded_once : IsDecodedOnce c b steps
    decoded_once = record {
      one_plan = one_plan;
      not_both = λ shown n why s f. solution_or_fails.not_both n why (s.tree, s.order, s.slot, s.spelled, s.solution) f;
      one_step = solution_or_fails.step;
      one_cause = solution_or_fails.cause;
    }

pub each_is_decoded_once : EachIsDecodedOnce
each_is_decoded_once h checks c b steps d = decoded_once h checks c b d steps
