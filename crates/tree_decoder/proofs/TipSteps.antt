-- What a decoder does at a step of a stack and at the end, whatever was taken before.
use Rattle.std.proofs.Common.{ℕ, ◌≡◌, ◌≤◌, ◌+◌, inl, List, [], ◌∷◌, ◌++◌, length, Option, Some, None, MatchOption, refl, sym, subst, ◌∙◌, arith}
use Rattle.htn_base.specs.Limits.{most_slots}
use Rattle.plan_model.specs.declared.steps.GroundAction.{GroundAction}
use Rattle.plan_model.specs.declared.values.Compiled.{Compiled}
use Rattle.plan_model.specs.task_networks.Spelling.{Act}
use Rattle.plan_model.specs.task_networks.Tree.{Tree, Address}
use Rattle.plan_model.specs.plan_meaning.Truth as Truth
use Rattle.plan_model.specs.plan_meaning.Network.{network}
use Rattle.plan_model.specs.plan_meaning.SpelledPlan.{step_of}
use Rattle.plan_texts.specs.SoundlyCompiled.{IsSoundlyCompiled}
use Rattle.problem_index.specs.declared.printed_index.PrintedName.{PrintedName}
use Rattle.ground_state.specs.States.{has_ground}
use Rattle.stack_machine.specs.Stack.{IsTotal}
use Rattle.decoding.specs.declared.causes.Why.{Why}
use Rattle.decoding.specs.declared.causes.Why.TheVariants.{UnknownAction, Arguments, SlotHolds, Waiting, SlotTaken, Constraint, Precondition, Unfinished, GoalFalse}
use Rattle.decoding.specs.PrintedSteps.{IsNamed, IsReadAs}
use Rattle.decoding.specs.TakenSteps.{true_of, state_behind}
use Rattle.decoding.proofs.FirstCauses.{extend, none_first}
use Rattle.decoding.proofs.ReadSteps.{spellings_are_read}
use Rattle.kept_front.specs.Fronts.{kept}
use Rattle.kept_front.proofs.Told.{growths_are_steps}
use Rattle.stack_decoding.specs.StackSteps.{HasArguments, IsStepOf, Sentence, FailsBy, FailsAt}
use Rattle.stack_decoding.proofs.CellSteps.{named}
use Rattle.stack_decoding.proofs.ActLists.{steps_are}
use Rattle.stack_decoding.proofs.Translated.{moved}
use Rattle.tree_decoder.specs.declared.testing.Scratch.{Scratch}
use Rattle.tree_decoder.specs.declared.decoded.Decoded.{Decoded}
use Rattle.tree_decoder.specs.declared.decoded.DecodeError.TheVariants.{NotAPlan}
use Rattle.tree_decoder.specs.declared.decoder.Decoder.{Decoder}
use Rattle.tree_decoder.specs.Decoding.{IsReady, HasTaken, FailsHere, Finishes, IsLeft}
use Rattle.tree_decoder.specs.Acts.{act_in}
use Rattle.tree_decoder.specs.Taking.{TakesAct}
use Rattle.tree_decoder.specs.AtTip.{at_tip, AreStepsOf, HasTakenAtTip, FailsAtTip, IsStackDecoded, TakesAtTip, FinishesAtTip, LeavesAtTip}
use Rattle.tree_decoder.proofs.Sound.{lawful, sound_steps}
use Rattle.tree_decoder.proofs.Steps.{noting}
use Rattle.tree_decoder.proofs.AtTip.{stack_words, read_push, read_none, as_many, slots_once, as_slots, cells_of_slots, step_fails, end_fails, reached_at_tip}

-- at first nothing is taken
pub none_at_tip : (c : Compiled) (b : ℕ) (decoder : Decoder) → HasTaken c b [] decoder → HasTakenAtTip c b [] decoder
none_at_tip c b decoder h = record {
  named = [];
  taken = h;
  acts = subst (AreStepsOf c b []) (sym (read_none c (IsNamed c) (IsReadAs c) b h.behind.acts h.behind.read)) tt;
}

-- what is so of a decoder's own problem and slots is so of each of which it is said
tip_takes_own : (step : GroundAction) (old new : Decoder) (found : Option Why)
    → ((steps : List GroundAction) → HasTakenAtTip old.c.now old.slots steps old
    → MatchOption found (HasTakenAtTip old.c.now old.slots (steps ++ step ∷ []) new) (FailsAtTip old.c.now old.slots steps step))
    → TakesAtTip step old new found
tip_takes_own step old new found own c b steps h =
    subst (λ z. Answer z b) h.taken.problem (subst (Answer old.c.now) h.taken.slots (own steps here))
  where
    Answer : Compiled → ℕ → Type 0
    Answer z n = MatchOption found (HasTakenAtTip z n (steps ++ step ∷ []) new) (FailsAtTip z n steps step)

    here : HasTakenAtTip old.c.now old.slots steps old
    here = subst (λ n. HasTakenAtTip old.c.now n steps old) (sym h.taken.slots) (subst (λ z. HasTakenAtTip z b steps old) (sym h.taken.problem) h)

-- the cause by the name of each
moved_is : (why : Why) → at_tip (Some why) ≡ Some (moved why)
moved_is UnknownAction = refl
moved_is Arguments = refl
moved_is SlotHolds = refl
moved_is Waiting = refl
moved_is SlotTaken = refl
moved_is Constraint = refl
moved_is Precondition = refl
moved_is Unfinished = refl
moved_is GoalFalse = refl

module _ (old : Decoder) (ready : IsReady old) (total : IsTotal (network old.c.now)) (step : GroundAction) where
  abbrev p : Compiled
  p = old.c.now

  abbrev b : ℕ
  b = old.slots

  fails_by_words : (new : Decoder) (why : Why) → ((tree : Tree (network p)) (cell : Address → ℕ) (S : Truth.State) → FailsBy p b tree cell S step why)
      → TakesAtTip step old new (Some why)
  fails_by_words new why f = tip_takes_own step old new (Some why) fails
    where
      fails : (steps : List GroundAction) → HasTakenAtTip p b steps old → FailsAtTip p b steps step why
      fails steps h rest = inl (record {
        before = steps;
        step = step;
        rest = rest;
        parts = refl;
        place = refl;
        tree = h.taken.behind.keeps.tree;
        order = h.taken.behind.keeps.order;
        cell = h.taken.behind.keeps.slot;
        reached = reached_at_tip p ready.soundly b ready.some ready.few total steps h.named (kept p old.front) (true_of p (has_ground old.state)) h.taken.behind h.acts;
        fails = f h.taken.behind.keeps.tree h.taken.behind.keeps.slot (state_behind p h.taken.behind.acts);
      })

  pub tip_unnamed : (new : Decoder) → (IsNamed p step → ⊥) → TakesAtTip step old new (Some UnknownAction)
  tip_unnamed new n = fails_by_words new UnknownAction (λ tree cell S. record { says = n; first = none_first (Sentence p b tree cell S step) })

  pub tip_unread : (new : Decoder) → IsNamed p step → (HasArguments p b step → ⊥) → TakesAtTip step old new (Some Arguments)
  tip_unread new n none =
      fails_by_words new Arguments
      (λ tree cell S. record {
        says = none;
        first = extend (Sentence p b tree cell S step) UnknownAction (none_first (Sentence p b tree cell S step)) (λ m. m n);
      })

  pub tip_apart : (new : Decoder) → HasArguments p b step → ((a : Act (network p)) → IsStepOf p b step a → ⊥) → TakesAtTip step old new (Some SlotHolds)
  tip_apart new args none =
      fails_by_words new SlotHolds
      (λ tree cell S. record {
        says = λ a r t. none a r;
        first =
            extend (Sentence p b tree cell S step) Arguments
            (extend (Sentence p b tree cell S step) UnknownAction (none_first (Sentence p b tree cell S step)) (λ m. m (named p b step args)))
            (λ m. m args);
      })

  -- the act of a step is taken, or the step fails
  module _ (scratch : Scratch) (ready_now : IsReady (noting old scratch)) (name : PrintedName) (cell : ℕ) (is : IsStepOf p b step (act_in p name cell scratch)) where
    abbrev a : Act (network p)
    a = act_in p name cell scratch

    read : IsReadAs p b (step_of p a) a
    read = as_slots p ready.soundly b ready.some ready.few total step a is

    pub tip_takes : (new : Decoder) (found : Option Why) → TakesAct name cell (noting old scratch) new found → TakesAtTip step old new (at_tip found)
    tip_takes new found takes = tip_takes_own step old new (at_tip found) goes
      where
        goes : (steps : List GroundAction) → HasTakenAtTip p b steps old
            → MatchOption (at_tip found) (HasTakenAtTip p b (steps ++ step ∷ []) new) (FailsAtTip p b steps step)
        goes steps h = go found (takes (step_of p a) read p b h.named (record { problem = refl; slots = refl; ready = ready_now; behind = h.taken.behind }))
          where
            go : (o : Option Why) → MatchOption o (HasTaken p b (h.named ++ step_of p a ∷ []) new) (FailsHere p b h.named (step_of p a))
                → MatchOption (at_tip o) (HasTakenAtTip p b (steps ++ step ∷ []) new) (FailsAtTip p b steps step)
            go None x = record {
              named = h.named ++ step_of p a ∷ [];
              taken = x;
              acts =
                  subst (AreStepsOf p b (steps ++ step ∷ []))
                  (slots_once p ready.soundly b ready.some ready.few total (h.named ++ step_of p a ∷ []) (h.taken.behind.acts ++ a ∷ []) x.behind.acts
                  (read_push p (IsNamed p) (IsReadAs p) b h.named h.taken.behind.acts (step_of p a) a h.taken.behind.read read) x.behind.read)
                  (read_push p (HasArguments p b) (IsStepOf p) b steps h.taken.behind.acts step a h.acts is);
            }
            go (Some why) x =
                subst (λ z. MatchOption z (HasTakenAtTip p b (steps ++ step ∷ []) new) (FailsAtTip p b steps step)) (sym (moved_is why))
                (step_fails p ready.soundly b ready.some ready.few total steps h.named h.taken.behind.acts h.acts h.taken.behind.read step a is why x)

-- what is answered at the end
module _ (decoder : Decoder) where
  soundly_of : (c : Compiled) (b : ℕ) (steps : List GroundAction) → HasTaken c b steps decoder → IsSoundlyCompiled c
  soundly_of c b steps h = subst IsSoundlyCompiled h.problem h.ready.soundly

  some_of : (c : Compiled) (b : ℕ) (steps : List GroundAction) → HasTaken c b steps decoder → 1 ≤ b
  some_of c b steps h = subst (λ n. 1 ≤ n) h.slots h.ready.some

  few_of : (c : Compiled) (b : ℕ) (steps : List GroundAction) → HasTaken c b steps decoder → b ≤ most_slots
  few_of c b steps h = subst (λ n. n ≤ most_slots) h.slots h.ready.few

  pub tip_finishes : (decoded : Decoded) → Finishes decoder decoded → FinishesAtTip decoder decoded
  tip_finishes decoded finishes c b steps total h =
      let t = h.taken in
      let soundly = soundly_of c b h.named t in
      let some = some_of c b h.named t in
      let few = few_of c b h.named t in
      let d = finishes c b h.named t in
      let (acts, read, spells) = (spellings_are_read c b h.named d.tree d.order d.slot (sound_steps c soundly b few)).0 d.spelled in
      let r = subst (AreStepsOf c b steps) (slots_once c soundly b some few total h.named t.behind.acts acts t.behind.read read) h.acts in
      record {
        tree = d.tree;
        order = d.order;
        cell = d.slot;
        spelled = (
          acts,
          cells_of_slots c soundly b some few total steps acts d.tree d.order d.slot r spells,
          steps_are c b (stack_words c soundly b some few) (lawful c soundly) total steps acts r,
        );
        solution = d.solution;
        stands = d.stands;
        cells_are = d.slots_are;
      }

  pub tip_leaves : (step : ℕ) (why : Why) → step ≡ length decoder.front.growths + 1 → IsLeft decoder (Some why)
      → LeavesAtTip decoder (NotAPlan step why)
  tip_leaves step why e left c b steps total h =
      let t = h.taken in
      let growths = growths_are_steps c b decoder.front h.named (true_of c (has_ground decoder.state)) t.behind in
      let one = as_many c (IsNamed c) (IsReadAs c) b h.named t.behind.acts t.behind.read in
      let other = as_many c (HasArguments c b) (IsStepOf c) b steps t.behind.acts h.acts in
      subst (λ n. FailsAt c b steps n why) (omega (arith, e, growths, one, other))
      (end_fails c (soundly_of c b h.named t) b (some_of c b h.named t) (few_of c b h.named t) total steps h.named t.behind.acts h.acts t.behind.read why (left c b h.named t))
