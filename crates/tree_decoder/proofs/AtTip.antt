-- What a decoder does at a step of a stack: it takes the act that the step names, as a step with slots takes it, or the step fails.
use Rattle.std.proofs.Common.{ℕ, ◌≡◌, ◌≤◌, ◌<◌, ◌+◌, inl, inr, List, [], ◌∷◌, ◌++◌, length, map, Option, Some, None, MatchOption, Contains, refl, ap, sym, subst, ◌∙◌, arith}
use Rattle.std.proofs.lemmas.List.{length-append}
use Rattle.htn_base.specs.Limits.{most_slots}
use Rattle.plan_model.specs.declared.steps.GroundAction.{GroundAction}
use Rattle.plan_model.specs.declared.schemas.MethodPlan.{MethodPlan}
use Rattle.plan_model.specs.declared.values.Compiled.{Compiled}
use Rattle.plan_model.specs.task_networks.Lawful.{IsLawful}
use Rattle.plan_model.specs.task_networks.Spelling.{Act, label_of, Spells}
use Rattle.plan_model.specs.task_networks.Tree.{Tree, Address}
use Rattle.plan_model.specs.task_networks.Executable.{last_state}
use Rattle.plan_model.specs.plan_meaning.Truth as Truth
use Rattle.plan_model.specs.plan_meaning.Network.{network}
use Rattle.plan_model.specs.plan_meaning.Solution.{top_work, Allows, next, initial, IsGoal}
use Rattle.plan_model.specs.plan_meaning.SpelledPlan.{step_of}
use Rattle.plan_model.proofs.task_networks.Lists.{cuts}
use Rattle.plan_model.proofs.plan_meaning.CompiledNetworks.{plan_of}
use Rattle.plan_texts.specs.SoundlyCompiled.{IsSoundlyCompiled}
use Rattle.problem_index.proofs.IndexLaws.{contains_at}
use Rattle.ground_state.specs.States.{has_ground}
use Rattle.stack_machine.specs.Stack.{IsTotal}
use Rattle.stack_machine.specs.StackMachine.{SpellsCells}
use Rattle.decoding.specs.declared.causes.Why.{Why}
use Rattle.decoding.specs.declared.causes.Why.TheVariants.{UnknownAction, Arguments, SlotHolds, Waiting, SlotTaken, Constraint, Precondition, Unfinished, GoalFalse}
use Rattle.decoding.specs.FailingAct as General
use Rattle.decoding.specs.FailingAct.{place, AreRead, ActSentence}
use Rattle.decoding.specs.PrintedSteps as Slots
use Rattle.decoding.specs.PrintedSteps.{IsNamed, IsReadAs, HasSoundSteps, HasSoundChecks}
use Rattle.decoding.specs.TakenSteps as Taken
use Rattle.decoding.specs.TakenSteps.{true_of, state_behind}
use Rattle.decoding.proofs.FirstCauses.{extend, none_first}
use Rattle.decoding.proofs.ReadSteps.{reading, spellings_are_read}
use Rattle.decoding.proofs.SoundCompiled.{compiled_are_read_in_one_way}
use Rattle.decoding.proofs.Taken.{executable_of}
use Rattle.step_reader.specs.StackReadings.{HasLines}
use Rattle.stack_decoding.specs.StackSteps.{HasArguments, IsStepOf, Sentence, FailsBy, SpellsExecutable, EndSentence, FailsAt}
use Rattle.stack_decoding.specs.StackStepLaws.{HasStackWords}
use Rattle.stack_decoding.proofs.CellSteps.{formed, named}
use Rattle.stack_decoding.proofs.ActLists.{steps_are, spells_cells}
use Rattle.stack_decoding.proofs.Translated.{moved, by_act}
use Rattle.tree_decoder.specs.AtTip.{AreStepsOf}
use Rattle.tree_decoder.proofs.Sound.{lawful, sound_steps}

-- the problem's methods have their lines, and its words are apart
module _ (c : Compiled) (soundly : IsSoundlyCompiled c) where
  pub has_lines : HasLines c
  has_lines plan k =
      let (i, at) = contains_at c.methods plan k in
      (plan_of soundly.problem soundly.checks (soundly.problem.top ∷ soundly.problem.methods) c.methods i plan soundly.compiled.methods at).2.line

  pub sound_checks : HasSoundChecks c
  sound_checks = (compiled_are_read_in_one_way c soundly.problem soundly.checks soundly.sound soundly.compiled).checks

  pub stack_words : (b : ℕ) → 1 ≤ b → b ≤ most_slots → HasStackWords c b
  stack_words b some few =
      let one = compiled_are_read_in_one_way c soundly.problem soundly.checks soundly.sound soundly.compiled in
      record { some = some; few = omega (arith, few); apart = one.apart; checks = one.checks }

-- lists of steps that are read as acts
module _ (c : Compiled) (Named : GroundAction → Type 0) (Reads : ℕ → GroundAction → Act (network c) → Type 0) (b : ℕ) where
  abbrev Are : List GroundAction → List (Act (network c)) → Type 0
  Are = AreRead (network c) Truth.State (Allows c) (next c) GroundAction Named Reads b

  pub read_push : (steps : List GroundAction) (acts : List (Act (network c))) (s : GroundAction) (a : Act (network c)) → Are steps acts → Reads b s a
      → Are (steps ++ s ∷ []) (acts ++ a ∷ [])
  read_push [] [] s a h r = (r, tt)
  read_push [] (d ∷ acts) s a h r = absurd h
  read_push (t ∷ steps) [] s a h r = absurd h
  read_push (t ∷ steps) (d ∷ acts) s a h r = (h.0, read_push steps acts s a h.1 r)

  pub as_many : (steps : List GroundAction) (acts : List (Act (network c))) → Are steps acts → length steps ≡ length acts
  as_many [] [] h = refl
  as_many [] (a ∷ acts) h = absurd h
  as_many (s ∷ steps) [] h = absurd h
  as_many (s ∷ steps) (a ∷ acts) h = let e = as_many steps acts h.1 in omega (arith, e)

  pub read_none : (acts : List (Act (network c))) → Are [] acts → acts ≡ []
  read_none [] h = refl
  read_none (a ∷ acts) h = absurd h

  pub read_once : ((s : GroundAction) (a other : Act (network c)) → Reads b s a → Reads b s other → a ≡ other)
      → (steps : List GroundAction) (acts other : List (Act (network c))) → Are steps acts → Are steps other → acts ≡ other
  read_once one [] [] [] h k = refl
  read_once one [] [] (o ∷ other) h k = absurd k
  read_once one [] (a ∷ acts) other h k = absurd h
  read_once one (s ∷ steps) [] other h k = absurd h
  read_once one (s ∷ steps) (a ∷ acts) [] h k = absurd k
  read_once one (s ∷ steps) (a ∷ acts) (o ∷ other) h k =
      let e = one s a o h.0 k.0 in
      let f = read_once one steps acts other h.1 k.1 in
      λ i. e i ∷ f i

module _ (c : Compiled) (soundly : IsSoundlyCompiled c) (b : ℕ) (some : 1 ≤ b) (few : b ≤ most_slots) (total : IsTotal (network c)) where
  pub words : HasStackWords c b
  words = stack_words c soundly b some few

  pub law : IsLawful (network c)
  law = lawful c soundly

  sound : HasSoundSteps c b
  sound = sound_steps c soundly b few

  abbrev SlotRead : List GroundAction → List (Act (network c)) → Type 0
  SlotRead = AreRead (network c) Truth.State (Allows c) (next c) GroundAction (IsNamed c) (IsReadAs c) b

  pub slots_once : (named_steps : List GroundAction) (acts other : List (Act (network c))) → SlotRead named_steps acts → SlotRead named_steps other → acts ≡ other
  slots_once = read_once c (IsNamed c) (IsReadAs c) b sound.one

  -- with slots the act's own step is read as it
  pub as_slots : (s : GroundAction) (a : Act (network c)) → IsStepOf c b s a → IsReadAs c b (step_of c a) a
  as_slots s a r = record { formed = formed c b words total s a r; params = r.params; has = r.has; typed = r.typed; is = refl }

  -- what is spelled with slots is spelled with cells
  pub cells_of_slots : (steps : List GroundAction) (acts : List (Act (network c))) (tree : Tree (network c)) (order : List Address) (slot : Address → ℕ) → AreStepsOf c b steps acts
      → Spells (network c) b (top_work c) acts tree order slot → SpellsCells (network c) b (top_work c) acts tree order slot
  cells_of_slots steps acts tree order slot r s = spells_cells c b words law total steps acts tree order slot r s

  abbrev WideReached : List GroundAction → Tree (network c) → List Address → (Address → ℕ) → Type 0
  WideReached = General.SpellsExecutable (network c) Truth.State (Allows c) (next c) GroundAction (IsNamed c) (IsReadAs c) (top_work c) (initial c) b

  -- what a list of steps with slots reaches, the one with cells does whose acts are the same
  abbrev pub at_cells : (steps names : List GroundAction) (acts : List (Act (network c))) → AreStepsOf c b steps acts → SlotRead names acts
      → (tree : Tree (network c)) (order : List Address) (slot : Address → ℕ) → WideReached names tree order slot → SpellsExecutable c b steps tree order slot
  at_cells steps names acts r n tree order slot x = record {
    spelled = (
      x.acts,
      cells_of_slots steps x.acts tree order slot (subst (AreStepsOf c b steps) (slots_once names acts x.acts n x.read) r) x.spells,
      steps_are c b words law total steps x.acts (subst (AreStepsOf c b steps) (slots_once names acts x.acts n x.read) r),
    );
    executable = x.executable;
  }

  -- the cause of a step with slots is that of the one with cells
  module _ (acts : List (Act (network c))) (tree : Tree (network c)) (order : List Address) (slot : Address → ℕ)
      (sp : SpellsCells (network c) b (top_work c) acts tree order slot) (S : Truth.State) (s : GroundAction) (a : Act (network c)) (is : IsStepOf c b s a) where
    abbrev SaysOf : Act (network c) → Why → Type 0
    SaysOf = ActSentence (network c) Truth.State (Allows c) (next c) tree slot S

    abbrev SlotSays : Why → Type 0
    SlotSays = General.Sentence (network c) Truth.State (Allows c) (next c) GroundAction (IsNamed c) (IsReadAs c) b tree slot S (step_of c a)

    abbrev SlotFails : Why → Type 0
    SlotFails = General.FailsBy (network c) Truth.State (Allows c) (next c) GroundAction (IsNamed c) (IsReadAs c) b tree slot S (step_of c a)

    same : (why : Why) (o : Act (network c)) → IsReadAs c b (step_of c a) o → SaysOf o why → SaysOf a why
    same why o q x = subst (λ z. SaysOf z why) (sound.one (step_of c a) o a q (as_slots s a is)) x

    to_act : (why : Why) → SlotSays why → SaysOf a why
    to_act UnknownAction n = absurd (n ((reading c b sound).named (step_of c a) a (as_slots s a is)))
    to_act Arguments n = absurd (n a (as_slots s a is))
    to_act SlotHolds (o, q, h) = same SlotHolds o q h
    to_act Waiting (o, q, h) = same Waiting o q h
    to_act SlotTaken (o, q, h) = same SlotTaken o q h
    to_act Constraint (o, q, h) = same Constraint o q h
    to_act Precondition (o, q, h) = same Precondition o q h
    to_act Unfinished (o, q, h) = absurd h
    to_act GoalFalse (o, q, h) = absurd h

    of_act : (why : Why) → SaysOf a why → SlotSays why
    of_act UnknownAction x = absurd x
    of_act Arguments x = absurd x
    of_act SlotHolds x = (a, as_slots s a is, x)
    of_act Waiting x = (a, as_slots s a is, x)
    of_act SlotTaken x = (a, as_slots s a is, x)
    of_act Constraint x = (a, as_slots s a is, x)
    of_act Precondition x = (a, as_slots s a is, x)
    of_act Unfinished x = absurd x
    of_act GoalFalse x = absurd x

    pub cause_at_tip : (why : Why) → SlotFails why → FailsBy c b tree slot S s (moved why)
    cause_at_tip why (x, first) = by_act c b words law total acts tree order slot sp S s a is why (to_act why x) (λ o l y. first o l (of_act o y))

  module _ (steps names : List GroundAction) (acts : List (Act (network c))) (r : AreStepsOf c b steps acts) (n : SlotRead names acts) where
    -- a step that fails with slots fails with cells
    pub step_fails : (s : GroundAction) (a : Act (network c)) → IsStepOf c b s a → (why : Why)
        → ((rest : List GroundAction) → Slots.FailsAt c b (names ++ step_of c a ∷ rest) (length names + 1) why)
        → (rest : List GroundAction) → FailsAt c b (steps ++ s ∷ rest) (length steps + 1) (moved why)
    step_fails s a is why f rest = go (f [])
      where
        go : Slots.FailsAt c b (names ++ step_of c a ∷ []) (length names + 1) why → FailsAt c b (steps ++ s ∷ rest) (length steps + 1) (moved why)
        go (inr x) = absurd (let y = length-append names (step_of c a ∷ []) in let z = x.place in omega (arith, y, z))
        go (inl x) = elim (cuts names (step_of c a) [] x.before x.step x.rest x.parts) [
          | inl (e, k) ↦ inl (record {
            before = steps;
            step = s;
            rest = rest;
            parts = refl;
            place = refl;
            tree = x.tree;
            order = x.order;
            cell = x.slot;
            reached = at_cells steps x.before acts r (subst (λ z. SlotRead z acts) e n) x.tree x.order x.slot x.reached;
            fails =
                cause_at_tip x.reached.acts x.tree x.order x.slot
                (cells_of_slots steps x.reached.acts x.tree x.order x.slot
                (subst (AreStepsOf c b steps) (slots_once x.before acts x.reached.acts (subst (λ z. SlotRead z acts) e n) x.reached.read) r) x.reached.spells)
                (last_state (network c) Truth.State (Allows c) (next c) (initial c) x.reached.executable.labels) s a is why
                (subst (λ z. General.FailsBy (network c) Truth.State (Allows c) (next c) GroundAction (IsNamed c) (IsReadAs c) b x.tree x.slot
                (last_state (network c) Truth.State (Allows c) (next c) (initial c) x.reached.executable.labels) z why) (sym k) x.fails);
          })
          | inr (inl (more, e)) ↦ absurd (let y = length-append names (step_of c a ∷ more) in let z = ap length e in let p = x.place in omega (arith, y, z, p))
          | inr (inr (more, e)) ↦ absurd (let y = length-append x.before (x.step ∷ more) in let z = ap length e in let p = x.place in omega (arith, y, z, p))
        ]

    end_said : (tree : Tree (network c)) (S : Truth.State) (why : Why)
        → General.EndSentence (network c) Truth.State (Allows c) (next c) GroundAction (IsNamed c) (IsReadAs c) (top_work c) (initial c) (IsGoal c) tree S why
        → EndSentence c b tree S why
    end_said tree S Unfinished x = x
    end_said tree S GoalFalse x = x
    end_said tree S UnknownAction x = x
    end_said tree S Arguments x = x
    end_said tree S SlotHolds x = x
    end_said tree S Waiting x = x
    end_said tree S SlotTaken x = x
    end_said tree S Constraint x = x
    end_said tree S Precondition x = x

    -- and what is left with slots at the end is left with cells
    pub end_fails : (why : Why) → Slots.FailsAt c b names (length names + 1) why → FailsAt c b steps (length steps + 1) why
    end_fails why (inl x) = absurd (let y = length-append x.before (x.step ∷ x.rest) in let z = ap length x.parts in let p = x.place in omega (arith, y, z, p))
    end_fails why (inr x) = inr (record {
      place = refl;
      tree = x.tree;
      order = x.order;
      cell = x.slot;
      reached = at_cells steps names acts r n x.tree x.order x.slot x.reached;
      fails = end_said x.tree (last_state (network c) Truth.State (Allows c) (next c) (initial c) x.reached.executable.labels) why x.fails;
    })

  -- with what is taken the front is spelled with cells
  abbrev pub reached_at_tip : (steps names : List GroundAction) (front : _) (S : Truth.State) (t : Taken.HasTaken c b names front S) → AreStepsOf c b steps t.acts
      → SpellsExecutable c b steps t.keeps.tree t.keeps.order t.keeps.slot
  reached_at_tip steps names front S t r = record {
    spelled = (
      t.acts,
      cells_of_slots steps t.acts t.keeps.tree t.keeps.order t.keeps.slot r t.keeps.spells,
      steps_are c b words law total steps t.acts r,
    );
    executable = executable_of (network c) Truth.State (Allows c) (next c) (initial c) b (top_work c) t.acts t.keeps.tree t.keeps.order t.keeps.slot t.keeps.spells t.allowed;
  }
