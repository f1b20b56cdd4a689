-- Nothing on top: the start alone is the only plan of every problem that is printed for it, however many its slots are.
use Rattle.std.proofs.Common.{ℕ, zero, suc, ◌≡◌, ◌⊎◌, inl, inr, false, None, List, [], ◌∷◌, map, length, Some, slice_get, refl, ap, sym, subst, ◌∙◌, arith}
use Rattle.std.proofs.lemmas.List.{nil_from_length}
use Rattle.std.specs.Prelude.{codes}
use Rattle.plan_model.specs.declared.options.Checks.TheVariants.{Leaf}
use Rattle.plan_model.specs.declared.schemas.MethodPlan.{MethodPlan}
use Rattle.plan_model.specs.declared.steps.GroundAction.{GroundAction}
use Rattle.plan_model.specs.task_networks.Net.{Net}
use Rattle.plan_model.specs.task_networks.Spelling.{Act, apply, run, others, Spells}
use Rattle.plan_model.specs.task_networks.Lawful.{IsLawful}
use Rattle.plan_model.proofs.task_networks.ScheduleLaws.{prepared_is_lawful}
use Rattle.slot_machine.specs.Machine.{SlotState, start, after_act, Runs}
use Rattle.slot_machine.proofs.SpellingRuns.{runs_from_spells}
use Rattle.plan_model.specs.plan_meaning.ClassicalPlan.{IsPlan}
use Rattle.plan_model.specs.plan_meaning.Truth.{AreTyped}
use Rattle.plan_model.specs.plan_meaning.Network.{Work, action, check, task, GroundMethod, network, IsPrimitive, InTypeOf, IsGroundMethod}
use Rattle.plan_model.specs.plan_meaning.Solution.{top_work}
use Rattle.plan_model.specs.plan_meaning.SpelledPlan.{step_of}
use Rattle.plan_model.proofs.plan_meaning.CompiledNetworks.{prepared}
use Rattle.plan_model.proofs.plan_meaning.examples.CompiledValues.{empty_is_compiled}
use Rattle.plan_model.proofs.plan_meaning.examples.Unequal.{less}
use Rattle.plan_model.proofs.plan_meaning.examples.RowValues.{method_plan, uses}
use Rattle.plan_model.proofs.plan_meaning.examples.RowWords.{step, slot_1}
use Rattle.plan_model.proofs.plan_meaning.examples.EmptyRow.{empty, steps}
use Rattle.plan_proof.specs.Headline.{SpellsSolution}
use Rattle.plan_proof.proofs.examples.RowPlans.{OfEachPrinted, row_faithful, empty_row}
use Rattle.plan_proof.proofs.examples.RowPlansRefused.{no_steps}

abbrev N : Net
N = network empty

abbrev top : Work
top = top_work empty

abbrev top_plan : MethodPlan
top_plan = method_plan empty.hddl.top false [] None []

-- the top method alone is of the top task
module _ where
  abbrev task_number : Work → ℕ
  task_number (task t args) = t
  task_number (action a args) = 0
  task_number (check m values) = 0

  number_of : (n : ℕ) (values : List ℕ) → N.head (record { number = n; values = values }) ≡ top → n ≡ 0
  number_of zero values e = refl
  number_of (suc zero) values e = absurd (less 0 1 (omega arith) (sym (ap task_number e)))
  number_of (suc (suc n)) values e = absurd (less 0 1 (omega arith) (sym (ap task_number e)))

  none_typed : (values : List ℕ) → AreTyped (InTypeOf empty) [] values → values ≡ []
  none_typed [] a = refl
  none_typed (o ∷ values) a = absurd a

  no_values : (g : GroundMethod) → g.number ≡ 0 → IsGroundMethod empty g → g.values ≡ []
  no_values g e ground =
      let f : Some top_plan ≡ Some ground.plan = subst (λ n. slice_get empty.methods n ≡ Some ground.plan) e ground.is in
      let k : top_plan ≡ ground.plan = cc in
      none_typed g.values (subst (λ (z : MethodPlan). AreTyped (InTypeOf empty) z.schema.params g.values) (sym k) ground.typed)

  is_top : (g : GroundMethod) → N.head g ≡ top → IsGroundMethod empty g → g ≡ uses 0
  is_top g e ground =
      let n = number_of g.number g.values e in
      let v = no_values g n ground in
      λ i. record { number = n i; values = v i }

abbrev applied : ℕ → List ℕ → GroundMethod → Act N
applied h new g = apply h new g

module _ (b : ℕ) where
  abbrev begun : SlotState N
  begun = after_act N (start N b top) (apply 1 [] (uses 0))

  -- after the start no slot holds anything
  nothing_held : (x : ℕ) (w : Work) → begun.holds x w → ⊥
  nothing_held x w (inl (held, left)) = left held
  nothing_held x w (inr (i, s, e)) = absurd cc

  nothing_left : (acts : List (Act N)) → Runs N begun acts → acts ≡ []
  nothing_left [] r = refl
  nothing_left (run h w ∷ acts) r = absurd (nothing_held h w r.0.holds)
  nothing_left (apply h new g ∷ acts) r = absurd (nothing_held h (N.head g) r.0.holds)

  not_simple : (w : Work) → w ≡ top → IsPrimitive w → ⊥
  not_simple w e s = subst IsPrimitive e s

  start_or_nothing : (acts : List (Act N)) → Runs N (start N b top) acts → (acts ≡ []) ⊎ (acts ≡ apply 1 [] (uses 0) ∷ [])
  start_or_nothing [] r = inl refl
  start_or_nothing (run h w ∷ acts) r = absurd (not_simple w r.0.holds.1 r.0.simple)
  start_or_nothing (apply h new g ∷ acts) r = inr (λ i. first i ∷ rest i)
    where
      same : g ≡ uses 0
      same = is_top g r.0.holds.1 r.0.ground

      no_new : new ≡ []
      no_new = nil_from_length new (r.0.enough ∙ ap (λ z. length (others N z)) same)

      first : applied h new g ≡ applied 1 [] (uses 0)
      first = let e = r.0.holds.0 in λ i. applied (e i) (no_new i) (same i)

      rest : acts ≡ []
      rest = nothing_left acts (subst (λ z. Runs N (after_act N (start N b top) z) acts) first r.1)

  law : IsLawful N
  law = prepared_is_lawful N (prepared empty.hddl Leaf empty (empty_row Leaf).ordered (empty_is_compiled Leaf))

  spells_start : (list : List GroundAction) → SpellsSolution empty b list → list ≡ steps
  spells_start list (tree, order, slot, (acts, s, e), solution) = elim (start_or_nothing acts (runs_from_spells N law b top order acts tree slot s).0) [
    | inl none ↦ absurd (no_steps empty b (tree, order, slot, ([], subst (λ z. Spells N b top z tree order slot) none s, refl), solution))
    | inr one ↦ e ∙ ap (map (step_of empty)) one ∙ (λ i. step (codes "htn_start") (slot_1 i ∷ []) ∷ [])
  ]

  pub only_plan_of_empty : OfEachPrinted empty b (λ p. (list : List GroundAction) → IsPlan p list → list ≡ steps)
  only_plan_of_empty style p printable encoded list plan = spells_start list (((row_faithful Leaf empty b (empty_row Leaf) style p printable encoded).plans list).0 plan)
