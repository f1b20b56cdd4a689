-- A step of the problem with first-free slots is a step of that with any free slots whose new slots are the lowest free ones.
use Rattle.std.proofs.Common.{ℕ, ◌≡◌, ◌↔◌, ◌≤◌, inl, inr, List, [], ◌∷◌, ◌++◌, map, length, slice_get, Some, refl, ap, sym, subst, ◌∙◌, arith}
use Rattle.plan_model.specs.declared.options.Checks.{Checks}
use Rattle.plan_model.specs.declared.options.Style.{Style}
use Rattle.plan_model.specs.declared.schemas.ActionSchema.{ActionSchema}
use Rattle.plan_model.specs.declared.schemas.MethodPlan.{MethodPlan}
use Rattle.plan_model.specs.declared.steps.GroundAction.{GroundAction}
use Rattle.plan_model.specs.declared.values.Compiled.{Compiled}
use Rattle.plan_model.specs.declared.values.Hddl.{Hddl}
use Rattle.plan_model.specs.declared.values.Pddl.{Pddl}
use Rattle.plan_model.specs.task_networks.Net.{Net}
use Rattle.plan_model.specs.task_networks.Spelling.{Act, run, apply, label_of}
use Rattle.plan_model.specs.plan_meaning.Truth.{State, AreTyped, IsTrueIn, after}
use Rattle.plan_model.specs.plan_meaning.ClassicalPlan.{IsApplicable, EndsIn}
use Rattle.plan_model.specs.plan_meaning.Laws.{AreOrdered}
use Rattle.plan_model.specs.plan_meaning.Network.{action, check, task, GroundMethod, network}
use Rattle.plan_model.specs.plan_meaning.Solution.{next}
use Rattle.plan_model.specs.plan_meaning.SpelledPlan.{step_of}
use Rattle.plan_model.proofs.plan_meaning.TruthEquations.{truth-And}
use Rattle.slot_machine.specs.Machine as Machine
use Rattle.slot_machine.specs.Machine.{Runs, after_act}
use Rattle.schedules.specs.ruled.LowestSlots.{AreLowestFree, LowestRule}
use Rattle.schedules.specs.ruled.SlotRule.{IsRuled, RuledRuns}
use Rattle.slot_encoding.specs.EncodedActions.{spare, depth, method_pre, encoded_method}
use Rattle.slot_encoding.specs.EncodedValue.{encoded_actions}
use Rattle.slot_encoding.specs.FirstFree.{lowest_slots, first_method}
use Rattle.slot_encoding.proofs.Pieces.{IsSlot, IsActBy, IsMethodAct, StepsAreActs}
use Rattle.slot_encoding.proofs.places.ActionPlaces.{method_at}
use Rattle.slot_encoding.proofs.places.ListPlaces.{get_within, get_contains, contains_get}
use Rattle.slot_encoding.proofs.places.ObjectTypes.{types_agree}
use Rattle.slot_encoding.proofs.places.Sums.{each-append}
use Rattle.slot_encoding.proofs.first_free.FirstValue.{first_of}
use Rattle.slot_encoding.proofs.places.WellWorded.{IsWellWorded}
use Rattle.plan_proof.proofs.machine.ActionWords.{same_action}
use Rattle.plan_proof.proofs.machine.Facts.{PiecesMean}
use Rattle.plan_proof.proofs.machine.Freeing.{InT}
use Rattle.plan_proof.proofs.machine.Methods.{each_contains}
use Rattle.plan_proof.proofs.machine.PrintedMeans.{worded_means}
use Rattle.plan_proof.proofs.machine.Reading.{free_atom, Reads, Applies, LeadsBy}
use Rattle.plan_proof.proofs.machine.Runs.{IsReached, reached_next, act_to}
use Rattle.plan_proof.proofs.machine.StepWords.{place_of, shown, steps_are_acts}
use Rattle.first_slots.proofs.Less.{TellsLess, tells_after}
use Rattle.first_slots.proofs.LowestTrue.{first_true}
use Rattle.first_slots.proofs.Plain.{IsNarrowed, IsUnchanged, first_cases, narrowed_at, unchanged_at}

-- of the machine's acts one after another the new slots are the lowest free ones
module _ (c : Compiled) where
  abbrev pub AreRuled : Machine.SlotState (network c) → List (Act (network c)) → Type 0
  AreRuled t [] = Unit {0}
  AreRuled t (act ∷ acts) = IsRuled (network c) (LowestRule (network c)) t act × AreRuled (after_act (network c) t act) acts

  pub ruled_runs : (t : Machine.SlotState (network c)) (acts : List (Act (network c))) → Runs (network c) t acts → AreRuled t acts → RuledRuns (network c) (LowestRule (network c)) t acts
  ruled_runs t [] r k = tt
  ruled_runs t (act ∷ acts) r k = ((r.0, k.0), ruled_runs (after_act (network c) t act) acts r.1 k.1)

  pub runs_ruled : (t : Machine.SlotState (network c)) (acts : List (Act (network c))) → RuledRuns (network c) (LowestRule (network c)) t acts → AreRuled t acts
  runs_ruled t [] r = tt
  runs_ruled t (act ∷ acts) r = (r.0.1, runs_ruled (after_act (network c) t act) acts r.1)

module _ (c : Compiled) (b : ℕ) (style : Style) (q : Pddl) where
  -- the new slots of the act are the lowest that are free in this state
  abbrev pub IsRuledIn : State → Act (network c) → Type 0
  IsRuledIn S (run h w) = Unit {0}
  IsRuledIn S (apply h new g) = AreLowestFree (λ x. IsSlot c b style q x × S (free_atom c b style q x)) new

  -- the machine and the state that reads as it say the same
  ruled_iff : (S : State) (t : Machine.SlotState (network c)) (T : State) (act : Act (network c)) → Reads c b style q S t T → IsRuledIn S act ↔ IsRuled (network c) (LowestRule (network c)) t act
  ruled_iff S t T (run h w) r = (λ k. tt, λ k. tt)
  ruled_iff S t T (apply h new g) r = (
    λ k before rest x y e f l. k before rest x y e ((r.free y).0 f) l,
    λ k before rest x y e f l. k before rest x y e ((r.free y).1 f) l,
  )

module _ (h : Hddl) (mode : Checks) (c : Compiled) (b : ℕ) (style : Style) (q : Pddl) (ordered : AreOrdered h) (well : IsWellWorded h mode c b style q) (positive : 1 ≤ b) where
  abbrev N : Net
  N = network c

  abbrev p : Pddl
  p = first_of c b style q

  abbrev means : PiecesMean c b style q
  means = worded_means h mode c b style q ordered well

  words : StepsAreActs c b style q
  words = steps_are_acts h mode c b style q well

  -- an action of the plain problem, at its place
  plain_get : (k : ℕ) (a : ActionSchema) → slice_get (encoded_actions c q.names b style) k ≡ Some a → slice_get q.actions k ≡ Some a
  plain_get k a e = ap (λ z. slice_get z k) well.encoded.actions ∙ e

  module _ (S : State) (tells : TellsLess c b style q S) where
    abbrev True : ActionSchema → List ℕ → Type 0
    True a os = IsTrueIn (InT c b style q) S a.pre os

    -- the step of p as one of q
    record IsPlainStep (step : GroundAction) (a : ActionSchema) (os : List ℕ) : Type 0 where
      act : Act (network c)
      schema : ActionSchema
      step_is : step ≡ step_of c act
      applies : Applies c b style q S act schema os
      ruled : IsRuledIn c b style q S act
      same : a.eff ≡ schema.eff

    -- what is asked before the further conditions
    plain_true : (m : ℕ) (plan : MethodPlan) (os : List ℕ) → True (first_method c q.names b style m plan) os → True (encoded_method c q.names b style m plan) os
    plain_true m plan os k =
        let further = lowest_slots c q.names b style (depth c q.names b style m plan) (spare c q.names b style m plan) in
        let before = method_pre c q.names b style m plan in
        let all = ap (λ z. z os) (truth-And (InT c b style q) S (before ++ further)) in
        let plain = ap (λ z. z os) (truth-And (InT c b style q) S before) in
        subst (λ z. z) (sym plain) ((each-append (IsTrueIn (InT c b style q) S) before further os).0 (subst (λ z. z) all k)).0

    -- the further conditions of a method's act
    method_iff : (k : ℕ) (new : List ℕ) (g : GroundMethod) (a : ActionSchema) (os : List ℕ) (is : IsMethodAct c b style q k new g a os)
        → True (first_method c q.names b style g.number is.plan) os ↔ (True (encoded_method c q.names b style g.number is.plan) os × IsRuledIn c b style q S (apply k new g))
    method_iff k new g a os is = subst (λ z. True (first_method c q.names b style g.number is.plan) z ↔ (True (encoded_method c q.names b style g.number is.plan) z × IsRuledIn c b style q S (apply k new g))) (sym is.objects)
        (first_true c b style q (types_agree h mode c b style q well) S tells k new g is.plan is.count is.typed ((each_contains (IsSlot c b style q) new).0 is.new_slots))

    -- an applicable action stands at the place of its act
    one_place : (step : GroundAction) (act : Act (network c)) (a : ActionSchema) (os : List ℕ) (k : ℕ) → slice_get q.actions k ≡ Some a → slice_get q.names a.name.number ≡ Some step.name → step ≡ step_of c act → IsActBy c b style q act a os → k ≡ place_of h mode c b style q well act
    one_place step act a os k e n f is =
        let s = shown h mode c b style q well act a os is in
        (same_action h mode c b style q well k (place_of h mode c b style q well act) a a (step_of c act).name (record { at = e; word = n ∙ ap (λ (z : GroundAction). Some z.name) f }) s.named).0

    module _ (step : GroundAction) (a : ActionSchema) (os : List ℕ) (app : IsApplicable p S step a os) where
      of_method : (k : ℕ) → IsNarrowed c q.names b style k a → IsPlainStep step a os
      of_method k (plan, f, i) = record {
        act = acted.0;
        schema = encoded_method c q.names b style k plan;
        step_is = acted.1;
        applies = (acted.2, plain_true k plan os met);
        ruled = ruled acted.0 refl acted.2;
        same = ap (λ (z : ActionSchema). z.eff) i;
      }
        where
          at : slice_get q.actions k ≡ Some (encoded_method c q.names b style k plan)
          at = plain_get k (encoded_method c q.names b style k plan) (method_at c q.names b style k plan f)

          named : slice_get q.names (encoded_method c q.names b style k plan).name.number ≡ Some step.name
          named = subst (λ (z : ActionSchema). slice_get q.names z.name.number ≡ Some step.name) i app.name

          met : True (first_method c q.names b style k plan) os
          met = subst (λ z. True z os) i app.condition

          acted : (act : Act (network c)) × (step ≡ step_of c act) × IsActBy c b style q act (encoded_method c q.names b style k plan) os
          acted = words.to_act S step (encoded_method c q.names b style k plan) os (record {
            action = get_contains q.actions k (encoded_method c q.names b style k plan) at;
            name = named;
            objects_are = app.objects_are;
            typed = subst (λ (z : ActionSchema). AreTyped (InT c b style q) z.params os) i app.typed;
            condition = plain_true k plan os met;
          })

          place : k ≡ place_of h mode c b style q well acted.0
          place = one_place step acted.0 (encoded_method c q.names b style k plan) os k at named acted.1 acted.2

          ruled : (x : Act (network c)) → acted.0 ≡ x → IsActBy c b style q x (encoded_method c q.names b style k plan) os → IsRuledIn c b style q S x
          ruled (run j w) e is = tt
          ruled (apply j new g) e is =
              let l : k ≡ g.number = place ∙ ap (place_of h mode c b style q well) e in
              let m = ap (slice_get c.methods) l in
              let o = is.is in
              let same : plan ≡ is.plan = cc in
              ((method_iff j new g (encoded_method c q.names b style k plan) os is).0 (subst (λ z. True (first_method c q.names b style g.number z) os) same (subst (λ z. True (first_method c q.names b style z plan) os) l met))).1

      of_other : (k : ℕ) → IsUnchanged c q.names b style k a → IsPlainStep step a os
      of_other k (l, f) = record { act = acted.0; schema = a; step_is = acted.1; applies = (acted.2, app.condition); ruled = ruled acted.0 refl acted.2; same = refl }
        where
          at : slice_get q.actions k ≡ Some a
          at = plain_get k a f

          acted : (act : Act (network c)) × (step ≡ step_of c act) × IsActBy c b style q act a os
          acted = words.to_act S step a os (record { action = get_contains q.actions k a at; name = app.name; objects_are = app.objects_are; typed = app.typed; condition = app.condition })

          place : k ≡ place_of h mode c b style q well acted.0
          place = one_place step acted.0 a os k at app.name acted.1 acted.2

          ruled : (x : Act (network c)) → acted.0 ≡ x → IsActBy c b style q x a os → IsRuledIn c b style q S x
          ruled (run j w) e is = tt
          ruled (apply j new g) e is = absurd (
              let m : k ≡ g.number = place ∙ ap (place_of h mode c b style q well) e in
              let n = get_within c.methods g.number is.plan is.is in
              omega arith
              )

      plain_step : IsPlainStep step a os
      plain_step =
          let (k, e) = contains_get p.actions a app.action in
          elim (first_cases c q.names b style k a e) [ inl m ↦ of_method k m | inr m ↦ of_other k m ]

    -- and back
    abbrev IsStep : Act (network c) → ActionSchema → List ℕ → Type 0
    IsStep act schema os = (a : ActionSchema) × IsApplicable p S (step_of c act) a os × (a.eff ≡ schema.eff)

    other_step : (act : Act (network c)) (schema : ActionSchema) (os : List ℕ) → Applies c b style q S act schema os → length c.methods ≤ place_of h mode c b style q well act → IsStep act schema os
    other_step act schema os app l =
        let x = words.from_act S act schema os app.0 app.1 in
        let s = shown h mode c b style q well act schema os app.0 in
        let at : slice_get (encoded_actions c q.names b style) (place_of h mode c b style q well act) ≡ Some schema = ap (λ z. slice_get z (place_of h mode c b style q well act)) (sym well.encoded.actions) ∙ s.named.at in
        let e = unchanged_at c q.names b style (place_of h mode c b style q well act) schema (l, at) in (
          schema,
          record { action = get_contains p.actions (place_of h mode c b style q well act) schema e; name = x.name; objects_are = x.objects_are; typed = x.typed; condition = x.condition },
          refl,
        )

    narrowed_step : (act : Act (network c)) (schema : ActionSchema) (os : List ℕ) → Applies c b style q S act schema os → IsRuledIn c b style q S act → IsStep act schema os
    narrowed_step (run j (action n args)) schema os app k = other_step (run j (action n args)) schema os app (omega arith)
    narrowed_step (run j (check m values)) schema os app k = other_step (run j (check m values)) schema os app (omega arith)
    narrowed_step (run j (task t args)) schema os app k = absurd app.0
    narrowed_step (apply j new g) schema os app k =
        let is = app.0 in
        let x = words.from_act S (apply j new g) schema os app.0 app.1 in
        let plain = subst (λ z. True z os) is.action app.1 in (
          first_method c q.names b style g.number is.plan,
          record {
            action = get_contains p.actions g.number (first_method c q.names b style g.number is.plan) (narrowed_at c q.names b style g.number is.plan is.is);
            name = subst (λ (z : ActionSchema). slice_get q.names z.name.number ≡ Some (step_of c (apply j new g)).name) is.action x.name;
            objects_are = x.objects_are;
            typed = subst (λ (z : ActionSchema). AreTyped (InT c b style q) z.params os) is.action x.typed;
            condition = (method_iff j new g schema os is).1 (plain, k);
          },
          ap (λ (z : ActionSchema). z.eff) (sym is.action),
        )

  -- lists of steps
  module _ (P : State → Type 0) where
    pub steps_to : (steps : List GroundAction) (S : State) (t : Machine.SlotState N) (T : State) → Reads c b style q S t T → IsReached c b style q means positive t → TellsLess c b style q S → EndsIn p P S steps
        → (acts : List (Act N)) × (steps ≡ map (step_of c) acts) × LeadsBy c b style q P S acts × AreRuled c t acts
    steps_to [] S t T r reached l k = ([], refl, k, tt)
    steps_to (step ∷ steps) S t T r reached l (a, os, app, more) =
        let one = plain_step S l step a os app in
        let taken = act_to c b style q means positive S t T r reached one.act one.schema os one.applies in
        let rest = subst (λ z. EndsIn p P (after (InT c b style q) S z os) steps) one.same more in
        let (acts, e, leads, ruled) = steps_to steps (after (InT c b style q) S one.schema.eff os) (after_act N t one.act) (next c T (label_of N one.act)) taken.reads (reached_next c b style q means positive t one.act reached taken.may)
        (tells_after c b style q S (after (InT c b style q) S one.schema.eff os) taken.kept l) rest in
        (one.act ∷ acts, (let f = one.step_is in cc), (one.schema, os, one.applies, leads), ((ruled_iff c b style q S t T one.act r).0 one.ruled, ruled))

    pub steps_from : (acts : List (Act N)) (S : State) (t : Machine.SlotState N) (T : State) → Reads c b style q S t T → IsReached c b style q means positive t → TellsLess c b style q S → LeadsBy c b style q P S acts → AreRuled c t acts
        → EndsIn p P S (map (step_of c) acts)
    steps_from [] S t T r reached l k ruled = k
    steps_from (act ∷ acts) S t T r reached l (schema, os, applies, leads) ruled =
        let (a, app, same) = narrowed_step S l act schema os applies ((ruled_iff c b style q S t T act r).1 ruled.0) in
        let taken = act_to c b style q means positive S t T r reached act schema os applies in
        let rest = steps_from acts (after (InT c b style q) S schema.eff os) (after_act N t act) (next c T (label_of N act)) taken.reads (reached_next c b style q means positive t act reached taken.may)
        (tells_after c b style q S (after (InT c b style q) S schema.eff os) taken.kept l) leads ruled.1 in
        (a, os, app, subst (λ z. EndsIn p P (after (InT c b style q) S z os) (map (step_of c) acts)) (sym same) rest)
