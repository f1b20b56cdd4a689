-- The tests of a step and of the end, in a decoder's words, tell the first cause, or a solution.
use Rattle.std.proofs.Common.{ℕ, ◌≡◌, ◌+◌, ◌≤◌, ◌↔◌, inl, inr, List, [], ◌∷◌, ◌++◌, map, length, Option, Some, None, slice_get, refl, sym, subst, append-nil, arith}
use Rattle.plan_model.specs.declared.schemas.ActionSchema.{ActionSchema}
use Rattle.plan_model.specs.declared.schemas.MethodPlan.{MethodPlan}
use Rattle.plan_model.specs.declared.steps.GroundAction.{GroundAction}
use Rattle.plan_model.specs.declared.values.Compiled.{Compiled}
use Rattle.plan_model.specs.task_networks.Net.{Net}
use Rattle.plan_model.specs.task_networks.Lawful.{IsLawful}
use Rattle.plan_model.specs.task_networks.Tree.{Label, waits, ran, used, Address, label_at, IsOpen, IsProcessed}
use Rattle.plan_model.specs.task_networks.Executable.{last_state, IsExecutableOrder}
use Rattle.plan_model.specs.task_networks.Spelling.{Act, run, apply, label_of}
use Rattle.plan_model.specs.plan_meaning.Truth.{State}
use Rattle.plan_model.specs.plan_meaning.Network.{action, check, task, network, InTypeOf}
use Rattle.plan_model.specs.plan_meaning.Solution.{top_work, Allows, AllowsAction, AllowsCheck, AllowsMethod, next, after_action, initial, IsGoal}
use Rattle.plan_model.proofs.plan_meaning.SameStates.{same_truth, same_after}
use Rattle.slot_machine.specs.Reached.{HasLeaf}
use Rattle.tree_core.proofs.GrowthLaws.{once}
use Rattle.decoding.specs.declared.causes.Why.{Why}
use Rattle.decoding.specs.declared.causes.Why.TheVariants.{UnknownAction, Arguments, SlotHolds, Waiting, SlotTaken, Constraint, Precondition, Unfinished, GoalFalse}
use Rattle.decoding.specs.FailingAct.{slot_in, work_in, new_in, WaitsAt, IsMet, IsUnmet, AreRead, FailsBy, EndSentence}
use Rattle.decoding.specs.FailingLaws.{TestsTell}
use Rattle.decoding.specs.PrintedSteps.{IsNamed, IsReadAs, HasSoundSteps, FailsAt}
use Rattle.decoding.specs.HeldLeaves.{Leaf}
use Rattle.decoding.specs.Keeping.{Kept, MayTake}
use Rattle.decoding.specs.KeepingLaws.{KeptTells}
use Rattle.decoding.specs.TakenSteps.{true_of, IsSameState, state_behind, HasTaken, IsSolvedBy, HoldNone}
use Rattle.decoding.specs.TakenLaws.{TakenAtFirst, FailsHere, IsOneTaken, StepTells, TakenTells, OneMoreTaken, EndIsTold}
use Rattle.decoding.proofs.Taken.{allowed_push, executable_of}
use Rattle.decoding.proofs.Tests.{tests_tell_causes}
use Rattle.decoding.proofs.ReadSteps.{reading, steps_are}
use Rattle.decoding.proofs.KeptFronts.{kept_at_first, keeping_tells}

module _ (c : Compiled) where
  abbrev N : Net
  N = network c

  -- what a label asks of a state, and the state behind it, go by the atoms alone
  same_allows : (S T : State) → IsSameState c S T → (l : Label N) → Allows c S l ↔ Allows c T l
  same_allows S T same (waits w) = (λ x. x, λ x. x)
  same_allows S T same (ran (action a args)) = go (slice_get c.hddl.actions a)
    where
      go : (o : Option ActionSchema) → AllowsAction c S o args ↔ AllowsAction c T o args
      go None = (λ x. x, λ x. x)
      go (Some s) = same_truth (InTypeOf c) S T same s.pre args
  same_allows S T same (ran (check m values)) = go (slice_get c.methods m)
    where
      go : (o : Option MethodPlan) → AllowsCheck c S o values ↔ AllowsCheck c T o values
      go None = (λ x. x, λ x. x)
      go (Some plan) = same_truth (InTypeOf c) S T same plan.schema.pre values
  same_allows S T same (ran (task t args)) = (λ x. x, λ x. x)
  same_allows S T same (used g) = go (slice_get c.methods g.number)
    where
      go : (o : Option MethodPlan) → AllowsMethod c S o g.values ↔ AllowsMethod c T o g.values
      go None = (λ x. x, λ x. x)
      go (Some plan) = let h = same_truth (InTypeOf c) S T same plan.schema.pre g.values in (λ x t. h.0 (x t), λ x t. h.1 (x t))

  same_next : (S T : State) → IsSameState c S T → (l : Label N) → IsSameState c (next c S l) (next c T l)
  same_next S T same (waits w) = same
  same_next S T same (ran (action a args)) = go (slice_get c.hddl.actions a)
    where
      go : (o : Option ActionSchema) → IsSameState c (after_action c S o args) (after_action c T o args)
      go None = same
      go (Some s) = same_after (InTypeOf c) S T same s.eff args
  same_next S T same (ran (check m values)) = same
  same_next S T same (ran (task t args)) = same
  same_next S T same (used g) = same

  abbrev behind : State → List (Label N) → State
  behind S ls = last_state N State (Allows c) (next c) S ls

  behind-push : (S : State) (acts : List (Act N)) (a : Act N) → behind S (map (label_of N) (acts ++ a ∷ [])) ≡ next c (behind S (map (label_of N) acts)) (label_of N a)
  behind-push S [] a = refl
  behind-push S (d ∷ acts) a = behind-push (next c S (label_of N d)) acts a

  read_push : (b : ℕ) (steps : List GroundAction) (acts : List (Act N)) (s : GroundAction) (a : Act N) → AreRead N State (Allows c) (next c) GroundAction (IsNamed c) (IsReadAs c) b steps acts → IsReadAs c b s a
      → AreRead N State (Allows c) (next c) GroundAction (IsNamed c) (IsReadAs c) b (steps ++ s ∷ []) (acts ++ a ∷ [])
  read_push b [] [] s a h r = (r, tt)
  read_push b [] (d ∷ acts) s a h r = absurd h
  read_push b (t ∷ steps) [] s a h r = absurd h
  read_push b (t ∷ steps) (d ∷ acts) s a h r = (h.0, read_push b steps acts s a h.1 r)

  pub taken_at_first : IsLawful N → TakenAtFirst c
  taken_at_first law b kept test positive first same = record { acts = []; read = tt; keeps = kept_at_first N law b (top_work c) kept positive first; allowed = tt; state = same }

  pub one_more_taken : OneMoreTaken c
  one_more_taken b steps old new test after s a t r allows keeps same = record {
    acts = t.acts ++ a ∷ [];
    read = read_push b steps t.acts s a t.read r;
    keeps = keeps;
    allowed = allowed_push N State (Allows c) (next c) (initial c) t.acts a t.allowed ((same_allows (true_of c test) (state_behind c t.acts) t.state (label_of N a)).0 allows);
    state = λ g. (
      λ x. subst (λ (z : State). z g) (sym (behind-push (initial c) t.acts a)) ((same_next (true_of c test) (state_behind c t.acts) t.state (label_of N a) g).0 ((same g).0 x)),
      λ x. (same g).1 ((same_next (true_of c test) (state_behind c t.acts) t.state (label_of N a) g).1 (subst (λ (z : State). z g) (behind-push (initial c) t.acts a) x)),
    );
  }

  module _ (law : IsLawful N) where
    module _ (b : ℕ) (steps : List GroundAction) (kept : Kept N) (S : State) (s : GroundAction) (sound : HasSoundSteps c b) (t : HasTaken c b steps kept S) where
      tests : TestsTell N State (Allows c) (next c) (initial c) (IsGoal c) GroundAction (IsNamed c) (IsReadAs c) b t.keeps.tree t.keeps.slot (state_behind c t.acts) s
      tests = tests_tell_causes N State (Allows c) (next c) (initial c) (IsGoal c) GroundAction (IsNamed c) (IsReadAs c) b (top_work c) t.acts t.keeps.tree t.keeps.order t.keeps.slot s (reading c b sound) t.keeps.spells

      tells : KeptTells N b (top_work c) kept t.acts t.keeps
      tells = keeping_tells N law b (top_work c) kept t.acts t.keeps

      fails : (why : Why) → FailsBy N State (Allows c) (next c) GroundAction (IsNamed c) (IsReadAs c) b t.keeps.tree t.keeps.slot (state_behind c t.acts) s why → FailsHere c b steps kept S s why
      fails why f rest = inl (record {
        before = steps;
        step = s;
        rest = rest;
        parts = refl;
        place = refl;
        tree = t.keeps.tree;
        order = t.keeps.order;
        slot = t.keeps.slot;
        reached = record {
          acts = t.acts;
          read = t.read;
          spells = t.keeps.spells;
          executable = executable_of N State (Allows c) (next c) (initial c) b (top_work c) t.acts t.keeps.tree t.keeps.order t.keeps.slot t.keeps.spells t.allowed;
        };
        fails = f;
      })

      module _ (a : Act N) (r : IsReadAs c b s a) where
        not_held : ((leaf : Leaf N) → kept.held (slot_in N a) ≡ Some leaf → leaf.work ≡ work_in N a → ⊥) → FailsHere c b steps kept S s SlotHolds
        not_held n = fails SlotHolds (tests.not_held a r (λ h. (let (leaf, e, w) = (tells.holds (slot_in N a) (work_in N a)).0 h in n leaf e w)))

        module _ (leaf : Leaf N) (held : kept.held (slot_in N a) ≡ Some leaf) (work : leaf.work ≡ work_in N a) where
          has_leaf : HasLeaf N t.keeps.tree t.keeps.slot (slot_in N a) (work_in N a)
          has_leaf = (tells.holds (slot_in N a) (work_in N a)).1 (leaf, held, work)

          waits_here : 1 ≤ kept.blocked (slot_in N a) → FailsHere c b steps kept S s Waiting
          waits_here l = fails Waiting (tests.waits a r has_leaf ((tells.waits (slot_in N a) leaf held).1 l))

          module _ (unblocked : kept.blocked (slot_in N a) ≡ 0) where
            none_waits : WaitsAt N t.keeps.tree t.keeps.slot (slot_in N a) → ⊥
            none_waits w = let l = (tells.waits (slot_in N a) leaf held).0 w in omega arith

            taken_here : IsOneTaken c b steps kept S s (new_in N a) → FailsHere c b steps kept S s SlotTaken
            taken_here x = fails SlotTaken (tests.taken a r has_leaf none_waits ((tells.taken (new_in N a)).1 x))

            module _ (free : IsOneTaken c b steps kept S s (new_in N a) → ⊥) where
              unmet_here : (IsMet N a → ⊥) → FailsHere c b steps kept S s Constraint
              unmet_here n = fails Constraint (tests.unmet a r has_leaf none_waits (λ x. free ((tells.taken (new_in N a)).0 x)) (unmet a n))
                where
                  unmet : (a : Act N) → (IsMet N a → ⊥) → IsUnmet N a
                  unmet (run h w) n = n tt
                  unmet (apply h new m) n = n

              not_allowed_here : IsMet N a → (Allows c S (label_of N a) → ⊥) → FailsHere c b steps kept S s Precondition
              not_allowed_here m n = fails Precondition (tests.not_allowed a r has_leaf none_waits (λ x. free ((tells.taken (new_in N a)).0 x)) m (λ x. n ((same_allows S (state_behind c t.acts) t.state (label_of N a)).1 x)))

        not_allowed : (leaf : Leaf N) → MayTake N b (top_work c) kept a leaf → (Allows c S (label_of N a) → ⊥) → FailsHere c b steps kept S s Precondition
        not_allowed leaf m n = not_allowed_here leaf m.held m.work m.unblocked none m.met n
          where
            none : IsOneTaken c b steps kept S s (new_in N a) → ⊥
            none (inl (x, leaf, k, e)) = let f = m.free x k in cc
            none (inr d) = d m.different

      step_tells : StepTells c b steps kept S s
      step_tells = record {
        unnamed = λ n. fails UnknownAction (tests.unnamed n);
        unread = λ n h. fails Arguments (tests.unread n h);
        not_held = not_held;
        waits = λ a leaf r h w l. waits_here a r leaf h w l;
        taken = λ a leaf r h w u x. taken_here a r leaf h w u x;
        unmet = λ a leaf r h w u f n. unmet_here a r leaf h w u f n;
        not_allowed = λ a leaf r m n. not_allowed a r leaf m n;
      }

    pub taken_tells : TakenTells c
    taken_tells b steps kept test s sound t = step_tells b steps kept (true_of c test) s sound t

    pub end_is_told : EndIsTold c
    end_is_told b steps kept test sound t = record { unfinished = unfinished; goal_false = λ n g. ends GoalFalse (no_leaf n, λ x. g ((same_goal).1 x)); solved = solved }
      where
        executable : IsExecutableOrder N State (Allows c) (next c) (initial c) t.keeps.tree t.keeps.order
        executable = executable_of N State (Allows c) (next c) (initial c) b (top_work c) t.acts t.keeps.tree t.keeps.order t.keeps.slot t.keeps.spells t.allowed

        ends : (why : Why) → EndSentence N State (Allows c) (next c) GroundAction (IsNamed c) (IsReadAs c) (top_work c) (initial c) (IsGoal c) t.keeps.tree (state_behind c t.acts) why → FailsAt c b steps (length steps + 1) why
        ends why x = inr (record {
          place = refl;
          tree = t.keeps.tree;
          order = t.keeps.order;
          slot = t.keeps.slot;
          reached = record { acts = t.acts; read = t.read; spells = t.keeps.spells; executable = executable_of N State (Allows c) (next c) (initial c) b (top_work c) t.acts t.keeps.tree t.keeps.order t.keeps.slot t.keeps.spells t.allowed };
          fails = x;
        })

        unfinished : (x : ℕ) (leaf : Leaf N) → kept.held x ≡ Some leaf → FailsAt c b steps (length steps + 1) Unfinished
        unfinished x leaf e = let (p, l, at, u) = t.keeps.fits.held_are x leaf e in ends Unfinished (p, (leaf.work, l))

        no_leaf : HoldNone c b kept → (p : Address) → IsOpen N t.keeps.tree p → ⊥
        no_leaf n p o =
            let (leaf, e) = t.keeps.fits.all p o in
            let (l, h) = t.keeps.spells.range p (waits o.0, o.1) in
            let f = n (t.keeps.slot p) l h in
            cc

        same_goal : IsGoal c (true_of c test) ↔ IsGoal c (state_behind c t.acts)
        same_goal = same_truth (InTypeOf c) (true_of c test) (state_behind c t.acts) t.state c.hddl.goal []

        solved : HoldNone c b kept → IsGoal c (true_of c test) → IsSolvedBy c b steps kept
        solved n g = record {
          tree = t.keeps.tree;
          order = t.keeps.order;
          slot = t.keeps.slot;
          spelled = (t.acts, t.keeps.spells, steps_are c b steps t.acts t.read);
          solution = record { finished = record { front = t.keeps.spells.front; no_leaves = no_leaf n }; executable = executable; goal = same_goal.0 g };
          grown = record {
            growths_are = t.keeps.fits.growths_are;
            all = λ p d. (t.keeps.spells.front.schedule.covers p).1 (processed p d.0 d.1);
            different = once N t.keeps.tree t.keeps.order t.keeps.spells.front.schedule t.keeps.order [] (sym (append-nil t.keeps.order));
          };
          root = t.keeps.spells.root;
          child_slots = t.keeps.child_slots;
        }
          where
            processed : (p : Address) (l : Label N) → label_at N t.keeps.tree p ≡ Some l → IsProcessed N t.keeps.tree p
            processed p (waits w) e = absurd (no_leaf n p (w, e))
            processed p (ran w) e = (ran w, e, tt)
            processed p (used m) e = (used m, e, tt)
