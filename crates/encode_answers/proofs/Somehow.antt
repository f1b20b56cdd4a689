-- Each plan comes to some text: it is placed or refused, its schedule has a width, and the lowest slots spell it where there are so many.
use Rattle.std.proofs.Common.{ℕ, ◌<◌, ◌≤◌, ◌-◌, ◌^◌, inl, inr, List, length, map, Option, Some, None, IfSome, refl, arith}
use Rattle.std.proofs.lemmas.Bool.{cases_lt}
use Rattle.htn_base.specs.Limits.{most_slots}
use Rattle.text_forms.specs.sheets.Sheets.{capped}
use Rattle.plan_model.specs.declared.options.Checks.{Checks}
use Rattle.plan_model.specs.declared.steps.GroundAction.{GroundAction}
use Rattle.plan_model.specs.declared.values.Hddl.{Hddl}
use Rattle.plan_model.specs.declared.values.Compiled.{Compiled}
use Rattle.plan_model.specs.task_networks.Lawful.{IsLawful}
use Rattle.plan_model.specs.task_networks.Net.{Net}
use Rattle.plan_model.specs.task_networks.Pending.{IsWidth}
use Rattle.plan_model.specs.task_networks.Tree.{Tree, Address}
use Rattle.plan_model.specs.plan_meaning.Network.{network}
use Rattle.plan_model.specs.plan_meaning.Solution.{top_work}
use Rattle.plan_model.specs.plan_meaning.SpelledPlan.{step_of}
use Rattle.plan_model.proofs.plan_meaning.CompiledNetworks.{prepared}
use Rattle.plan_model.proofs.task_networks.ScheduleLaws.{prepared_is_lawful}
use Rattle.hplan_text.specs.declared.values.HPlan.{HPlan}
use Rattle.schedules.proofs.ruled.FirstFree.{lowest_exactly_where_within}
use Rattle.plan_encoder.specs.Laws.{IsOf}
use Rattle.slot_speller.proofs.Widths.{width_exists}
use Rattle.placements.specs.Placement.{IsPlaced}
use Rattle.placements.proofs.PlacedPlans.{placed_are_solutions}
use Rattle.step_texts.specs.declared.text.StepText.{StepText}
use Rattle.step_texts.specs.declared.text.StepText.TheVariants.{Whole, TooLong, NoMatch, NotExecutable, GoalFalse, NoPlacement}
use Rattle.step_texts.specs.declared.text.StepText.TheVariants.{NeedsBound, TooWide}
use Rattle.step_texts.specs.StepTexts.{steps_text, slots_for, IsSpelled, IsStepText}
use Rattle.encode_answers.specs.EncodeLaws.{EachIsEncodedSomehow}
use Rattle.encode_answers.proofs.SomehowPlaced.{IsPlacedSomehow, placed_or_refused}

module _ (h : Hddl) (mode : Checks) (c : Compiled) (of : IsOf h mode c) (plan : HPlan) where
  abbrev N : Net
  N = network c

  lawful : IsLawful N
  lawful = prepared_is_lawful N (prepared h mode c of.ordered of.compiled)

  -- some text
  abbrev Comes : Option ℕ → ℕ → Type 0
  Comes given most = (text : StepText) × IsStepText c plan given most text

  -- the text of spelled steps, or its length
  written : (given : Option ℕ) (most width : ℕ) (steps : List GroundAction) → most < 2 ^ 64 - 1
      → IsSpelled c plan (slots_for given width) width steps → Comes given most
  written given most width steps small s = elim (cases_lt most (length text)) [
    | inl l ↦ (TooLong (capped (length text)), (text, (width, steps, s, refl), refl, capped_too (length text) l))
    | inr l ↦ (Whole text, ((width, steps, s, refl), l))
  ]
    where
      text : List ℕ
      text = steps_text width steps

      capped_too : (n : ℕ) → most < n → most < capped n
      capped_too n l = omega arith

  module _ (tree : Tree N) (order : List Address) (placed : IsPlaced c plan tree order) (width : ℕ) (is : IsWidth N width tree order) where
    -- the lowest slots spell the schedule, where there are as many as it is wide
    spelled : (slots : ℕ) → width ≤ slots → slots ≤ most_slots → (steps : List GroundAction) × IsSpelled c plan slots width steps
    spelled slots within few =
        let front = (placed_are_solutions c h mode of plan tree order placed).0.finished.front in
        let (acts, slot, lowest) = (lowest_exactly_where_within N lawful slots (top_work c) tree order front).0
        (λ taken rest nodes e a. (let l = is.within taken rest nodes e a in omega arith)) in (
          map (step_of c) acts,
          record {
            tree = tree;
            order = order;
            placed = placed;
            width_is = is;
            within = within;
            few = few;
            acts = acts;
            slot = slot;
            lowest = lowest;
            steps_are = refl;
          },
        )

    comes : (given : Option ℕ) (most : ℕ) → most < 2 ^ 64 - 1 → IfSome given (λ n. n ≤ most_slots) → Comes given most
    comes (Some n) most small few = elim (cases_lt n width) [
      | inl l ↦ (NeedsBound width, (record { tree = tree; order = order; placed = placed; width_is = is }, (n, refl, l)))
      | inr l ↦ (let (steps, s) = spelled n l few in written (Some n) most width steps small s)
    ]
    comes None most small few = elim (cases_lt most_slots width) [
      | inl l ↦ (TooWide width, (record { tree = tree; order = order; placed = placed; width_is = is }, refl, l))
      | inr l ↦ (let (steps, s) = spelled width (omega arith) l in written None most width steps small s)
    ]

  text_of : (given : Option ℕ) (most : ℕ) → most < 2 ^ 64 - 1 → IfSome given (λ n. n ≤ most_slots) → IsPlacedSomehow c plan
      → Comes given most
  text_of given most small few (inl (tree, order, placed)) =
      let (width, is) = width_exists N tree order in
      comes tree order placed width is given most small few
  text_of given most small few (inr (inl (id, unmatched))) = (NoMatch id, unmatched)
  text_of given most small few (inr (inr (inl (id, fails)))) = (NotExecutable id, fails)
  text_of given most small few (inr (inr (inr (inl misses)))) = (GoalFalse, misses)
  text_of given most small few (inr (inr (inr (inr none)))) = (NoPlacement, none)

pub each_is_encoded_somehow : EachIsEncodedSomehow
each_is_encoded_somehow h mode c of plan sound printable given most small few =
    text_of h mode c of plan given most small few (placed_or_refused c h mode of plan sound)
