-- What fails of a step with cells is what fails of it with slots, where a task that waits is none that the tip holds.
use Rattle.std.proofs.Common.{ℕ, ◌<◌, ◌⊎◌, inl, inr, List, subst, arith}
use Rattle.plan_model.specs.declared.steps.GroundAction.{GroundAction}
use Rattle.plan_model.specs.declared.values.Compiled.{Compiled}
use Rattle.plan_model.specs.task_networks.Lawful.{IsLawful}
use Rattle.plan_model.specs.task_networks.Tree.{Tree, Address}
use Rattle.plan_model.specs.task_networks.Spelling.{Act, run, apply}
use Rattle.plan_model.specs.plan_meaning.Truth.{State}
use Rattle.plan_model.specs.plan_meaning.Network.{network}
use Rattle.plan_model.specs.plan_meaning.Solution.{top_work, Allows, next, initial, IsGoal}
use Rattle.stack_machine.specs.Stack.{IsTotal}
use Rattle.stack_machine.specs.StackMachine.{SpellsCells}
use Rattle.decoding.specs.declared.causes.Why.{Why}
use Rattle.decoding.specs.declared.causes.Why.TheVariants.{UnknownAction, Arguments, SlotHolds, Waiting, SlotTaken, Constraint, Precondition, Unfinished, GoalFalse}
use Rattle.decoding.specs.FailingAct as General
use Rattle.decoding.specs.FailingAct.{place, slot_in, work_in, IsMet, IsUnmet, ActSentence}
use Rattle.decoding.specs.FailingLaws.{TestsTell}
use Rattle.decoding.specs.PrintedSteps.{IsNamed}
use Rattle.decoding.proofs.FirstCauses.{extend, none_first}
use Rattle.stack_decoding.specs.StackSteps.{HasArguments, IsStepOf, HoldsAtTip, Sentence, FailsBy}
use Rattle.stack_decoding.specs.StackStepLaws.{HasStackWords}
use Rattle.stack_decoding.proofs.CellSteps.{arguments, named, step_once}
use Rattle.stack_decoding.proofs.Tips.{not_waiting, from_leaf, not_taken}

-- the cause of a stack
abbrev pub moved : Why → Why
moved Waiting = SlotHolds
moved why = why

module _ (c : Compiled) (b : ℕ) (words : HasStackWords c b) (law : IsLawful (network c)) (total : IsTotal (network c)) (acts : List (Act (network c))) (tree : Tree (network c)) (order : List Address)
    (cell : Address → ℕ) (sp : SpellsCells (network c) b (top_work c) acts tree order cell) (S : State) (s : GroundAction) where
  abbrev Says : Why → Type 0
  Says = Sentence c b tree cell S s

  abbrev Fails : Why → Type 0
  Fails = FailsBy c b tree cell S s

  abbrev SaysOf : Act (network c) → Why → Type 0
  SaysOf = ActSentence (network c) State (Allows c) (next c) tree cell S

  abbrev AtTip : Act (network c) → Type 0
  AtTip a = HoldsAtTip c b tree cell (slot_in (network c) a) (work_in (network c) a)

  -- with arguments the first two say nothing
  none_1 : HasArguments c b s → (o : Why) → place o < 2 → Says o → ⊥
  none_1 args = extend Says Arguments (extend Says UnknownAction (none_first Says) (λ n. n (named c b s args))) (λ n. n args)

  module _ (a : Act (network c)) (r : IsStepOf c b s a) where
    same : (P : Act (network c) → Type 0) (o : Act (network c)) → IsStepOf c b s o → P o → P a
    same P o q x = subst P (step_once c b words total s o a q r) x

    tip_of : (SaysOf a SlotHolds → ⊥) → (SaysOf a Waiting → ⊥) → (AtTip a → ⊥) → ⊥
    tip_of holds free n = holds (λ leaf. n (from_leaf c b words law total acts tree order cell sp (slot_in (network c) a) (work_in (network c) a) leaf free))

    none_2 : ((AtTip a → ⊥) → ⊥) → (o : Why) → place o < 5 → Says o → ⊥
    none_2 tip = extend Says SlotTaken (extend Says Waiting (extend Says SlotHolds (none_1 (arguments c b s a r)) (λ n. tip (λ t. n a r t))) (λ z. z)) (λ z. z)

    pub by_act : (why : Why) → SaysOf a why → ((o : Why) → place o < place why → SaysOf a o → ⊥) → Fails (moved why)
    by_act UnknownAction h k = absurd h
    by_act Arguments h k = absurd h
    by_act SlotHolds h k = record { says = λ o q t. h (same AtTip o q t).holds; first = none_1 (arguments c b s a r) }
    by_act Waiting h k = record {
      says = λ o q t. not_waiting c b words law total acts tree order cell sp (slot_in (network c) a) (work_in (network c) a) (same AtTip o q t) h;
      first = none_1 (arguments c b s a r);
    }
    by_act SlotTaken h k = absurd (tip_of (k SlotHolds (omega arith)) (k Waiting (omega arith)) (λ t. not_taken c b words law total acts tree order cell sp a (work_in (network c) a) r.cells t h))
    by_act Constraint h k = record { says = (a, r, h); first = none_2 (tip_of (k SlotHolds (omega arith)) (k Waiting (omega arith))) }
    by_act Precondition h k = record {
      says = (a, r, h);
      first = extend Says Constraint (none_2 (tip_of (k SlotHolds (omega arith)) (k Waiting (omega arith)))) (λ x. k Constraint (omega arith) (same (IsUnmet (network c)) x.0 x.1 x.2));
    }
    by_act Unfinished h k = absurd h
    by_act GoalFalse h k = absurd h

  -- said of steps that name cells as arguments and are read as the acts whose steps they are
  abbrev Wide : Why → Type 0
  Wide = General.FailsBy (network c) State (Allows c) (next c) GroundAction (HasArguments c b) (IsStepOf c) b tree cell S s

  abbrev WideSays : Why → Type 0
  WideSays = General.Sentence (network c) State (Allows c) (next c) GroundAction (HasArguments c b) (IsStepOf c) b tree cell S s

  lift : (a : Act (network c)) → IsStepOf c b s a → (o : Why) → SaysOf a o → WideSays o
  lift a r UnknownAction x = absurd x
  lift a r Arguments x = absurd x
  lift a r SlotHolds x = (a, r, x)
  lift a r Waiting x = (a, r, x)
  lift a r SlotTaken x = (a, r, x)
  lift a r Constraint x = (a, r, x)
  lift a r Precondition x = (a, r, x)
  lift a r Unfinished x = absurd x
  lift a r GoalFalse x = absurd x

  by_lifted : (why : Why) (a : Act (network c)) (r : IsStepOf c b s a) → SaysOf a why → ((o : Why) → place o < place why → WideSays o → ⊥) → (by : Why) × Fails by
  by_lifted why a r h k = (moved why, by_act a r why h (λ o l x. k o l (lift a r o x)))

  pub to_stack : IsNamed c s ⊎ (IsNamed c s → ⊥) → (why : Why) → Wide why → (by : Why) × Fails by
  to_stack (inl n) UnknownAction (h, k) = (Arguments, record { says = h; first = extend Says UnknownAction (none_first Says) (λ m. m n) })
  to_stack (inr m) UnknownAction (h, k) = (UnknownAction, record { says = m; first = none_first Says })
  to_stack d Arguments (h, k) = (SlotHolds, record { says = λ a r t. h a r; first = λ o l x. k UnknownAction (omega arith) (λ args. none_1 args o l x) })
  to_stack d SlotHolds ((a, r, h), k) = by_lifted SlotHolds a r h k
  to_stack d Waiting ((a, r, h), k) = by_lifted Waiting a r h k
  to_stack d SlotTaken ((a, r, h), k) = by_lifted SlotTaken a r h k
  to_stack d Constraint ((a, r, h), k) = by_lifted Constraint a r h k
  to_stack d Precondition ((a, r, h), k) = by_lifted Precondition a r h k
  to_stack d Unfinished ((a, r, h), k) = absurd h
  to_stack d GoalFalse ((a, r, h), k) = absurd h

  is_met : (a : Act (network c)) → (IsUnmet (network c) a → ⊥) → (IsMet (network c) a → ⊥) → ⊥
  is_met (run h w) u n = n tt
  is_met (apply h new g) u n = u n

  module _ (tests : TestsTell (network c) State (Allows c) (next c) (initial c) (IsGoal c) GroundAction (HasArguments c b) (IsStepOf c) b tree cell S s) where
    -- with the act at the tip
    module _ (a : Act (network c)) (r : IsStepOf c b s a) (o : Act (network c)) (q : IsStepOf c b s o) (t : AtTip o) where
      at : AtTip a
      at = same a r AtTip o q t

      unmet : IsUnmet (network c) a → Wide Constraint
      unmet u = tests.unmet a r at.holds (not_waiting c b words law total acts tree order cell sp (slot_in (network c) a) (work_in (network c) a) at)
          (not_taken c b words law total acts tree order cell sp a (work_in (network c) a) r.cells at) u

      not_allowed : IsMet (network c) a → SaysOf a Precondition → Wide Precondition
      not_allowed m n = tests.not_allowed a r at.holds (not_waiting c b words law total acts tree order cell sp (slot_in (network c) a) (work_in (network c) a) at)
          (not_taken c b words law total acts tree order cell sp a (work_in (network c) a) r.cells at) m n

    pub from_stack : (why : Why) → Fails why → ((o : Why) → Wide o → ⊥) → ⊥
    from_stack UnknownAction f k = k UnknownAction (tests.unnamed (λ args. f.says (named c b s args)))
    from_stack Arguments f k = k UnknownAction (tests.unnamed f.says)
    from_stack SlotHolds f k = f.first Arguments (omega arith) (λ args. k Arguments (tests.unread args (λ a r. k SlotHolds (tests.not_held a r (λ leaf.
        f.says a r (from_leaf c b words law total acts tree order cell sp (slot_in (network c) a) (work_in (network c) a) leaf (λ w. k Waiting (tests.waits a r leaf w))))))))
    from_stack Waiting f k = f.says
    from_stack SlotTaken f k = f.says
    from_stack Constraint f k = let (a, r, u) = f.says in f.first SlotHolds (omega arith) (λ o q t. k Constraint (unmet a r o q t u))
    from_stack Precondition f k =
        let (a, r, n) = f.says in
        f.first SlotHolds (omega arith) (λ o q t. is_met a (λ u. f.first Constraint (omega arith) (a, r, u)) (λ m. k Precondition (not_allowed a r o q t m n)))
    from_stack Unfinished f k = f.says
    from_stack GoalFalse f k = f.says
