-- A list of steps of a stack shows one plan, or fails at one step for one cause, and not both.
use Rattle.std.proofs.Common.{ℕ, ◌≡◌, List, sym, subst, ◌∙◌, arith}
use Rattle.plan_model.specs.declared.options.Checks.{Checks}
use Rattle.plan_model.specs.declared.steps.GroundAction.{GroundAction}
use Rattle.plan_model.specs.declared.values.Hddl.{Hddl}
use Rattle.plan_model.specs.declared.values.Compiled.{Compiled}
use Rattle.plan_model.specs.task_networks.Spelling.{Spells}
use Rattle.plan_model.specs.task_networks.Lawful.{IsLawful}
use Rattle.plan_model.specs.plan_meaning.Network.{network}
use Rattle.plan_model.specs.plan_meaning.Solution.{top_work}
use Rattle.slot_machine.proofs.Theorem.{front_is_the_only_one}
use Rattle.decoding.proofs.SoundCompiled.{compiled_are_read_in_one_way}
use Rattle.hplan_text.specs.declared.values.HPlan.{HPlan}
use Rattle.hplan_text.specs.ShownPlan.{ShowsHPlan}
use Rattle.hplan_text.proofs.ShownOnce.{each_is_shown_once}
use Rattle.stack_decoding.specs.StackShown.{StackShown}
use Rattle.stack_decoding.specs.StackStepLaws.{HasStackWords, IsSolutionOrFails}
use Rattle.stack_decoding.proofs.ActLists.{Read, read_of, read_once}
use Rattle.stack_decoding.proofs.StackLists.{each_is_solution_or_fails}
use Rattle.decode_answers.proofs.Once as Slots
use Rattle.stack_answers.specs.StackDecodeLaws.{IsStackDecodable, IsStackDecodedOnce, EachIsStackDecodedOnce}

module _ (h : Hddl) (checks : Checks) (c : Compiled) (b : ℕ) (d : IsStackDecodable h checks c b) where
  pub lawful : IsLawful (network c)
  lawful = Slots.lawful h checks c b d.decodable

  pub words : HasStackWords c b
  words =
      let one = compiled_are_read_in_one_way c h checks d.decodable.sound d.decodable.compiled in
      record { some = d.decodable.some_slot; few = (let l = d.decodable.few_slots in omega arith); apart = one.apart; checks = one.checks }

  module _ (steps : List GroundAction) where
    pub solution_or_fails : IsSolutionOrFails c b steps
    solution_or_fails = each_is_solution_or_fails c lawful d.total b steps words

    read_in : (shown : HPlan) (s : StackShown c b steps shown) → Read c b words lawful d.total steps s.spelled.0
    read_in shown s = subst (λ z. Read c b words lawful d.total z s.spelled.0) (sym s.spelled.2) (read_of c b words lawful d.total s.spelled.0 s.tree s.order s.cell s.spelled.1)

    one_plan : (shown other : HPlan) → StackShown c b steps shown → StackShown c b steps other → shown ≡ other
    one_plan shown other s o =
        let f : o.spelled.0 ≡ s.spelled.0 = read_once c b words lawful d.total steps o.spelled.0 s.spelled.0 (read_in other o) (read_in shown s) in
        let (tree, order, cells) =
        front_is_the_only_one (network c) lawful b (top_work c) s.spelled.0 s.tree s.order s.cell o.tree o.order o.cell s.spelled.1.spells
        (subst (λ z. Spells (network c) b (top_work c) z o.tree o.order o.cell) f o.spelled.1.spells) in
        let once = each_is_shown_once c s.tree s.order s.solution.finished in
        once.only shown s.shows ∙ sym (once.only other (subst (λ (z : Type 0). z) (λ i. ShowsHPlan c (tree i) (order i) other) o.shows))

    pub decoded_once : IsStackDecodedOnce c b steps
    decoded_once = record {
      one_plan = one_plan;
      not_both = λ shown n why s f. solution_or_fails.not_both n why (s.tree, s.order, s.cell, s.spelled, s.solution) f;
      one_step = solution_or_fails.step;
      one_cause = solution_or_fails.cause;
    }

pub each_is_stack_decoded_once : EachIsStackDecodedOnce
each_is_stack_decoded_once h checks c b steps d = decoded_once h checks c b d steps
