-- What the tests of an act that is read say, in their order: why it can't be taken, or that it can.
use Rattle.std.proofs.Common.{ℕ, ◌≡◌, ◌≤◌, ◌↔◌, inl, inr, Bool, false, IsTrue, List, [], ◌∷◌, Option, Some, None, is_some, Contains, refl, ap, sym, subst, ◌∙◌, true≢false}
use Rattle.std.specs.Option.{IsSome}
use Rattle.htn_base.specs.Limits.{most_slots}
use Rattle.htn_base.specs.Different.{AreDifferent}
use Rattle.plan_model.specs.declared.steps.GroundAction.{GroundAction}
use Rattle.plan_model.specs.declared.values.Compiled.{Compiled}
use Rattle.plan_model.specs.task_networks.Spelling.{Act}
use Rattle.plan_model.specs.plan_meaning.Network.{network}
use Rattle.plan_model.specs.plan_meaning.Solution.{top_work, Allows}
use Rattle.plan_texts.specs.SoundlyCompiled.{IsSoundlyCompiled}
use Rattle.problem_index.specs.declared.printed_index.PrintedName.{PrintedName}
use Rattle.problem_index.specs.declared.printed_index.PrintedName.TheVariants.{Action, Check, Method}
use Rattle.ground_state.specs.Frames.{Frame, frame}
use Rattle.ground_state.specs.States.{has_ground}
use Rattle.ground_state.specs.declared.state.State.{State}
use Rattle.decoding.specs.declared.causes.Why.{Why}
use Rattle.decoding.specs.declared.causes.Why.TheVariants.{SlotHolds, Waiting, SlotTaken, Constraint, Precondition}
use Rattle.decoding.specs.FailingAct.{slot_in, work_in, new_in, IsMet}
use Rattle.decoding.specs.HeldLeaves as Held
use Rattle.decoding.specs.Keeping.{MayTake}
use Rattle.decoding.specs.PrintedSteps.{IsReadAs}
use Rattle.decoding.specs.TakenSteps.{true_of}
use Rattle.decoding.specs.TakenLaws.{StepTells, IsOneTaken}
use Rattle.decoding.proofs.TakenFronts.{taken_tells}
use Rattle.kept_front.specs.declared.leaves.Leaf.{Leaf}
use Rattle.kept_front.specs.declared.front.Front.{Front}
use Rattle.kept_front.specs.Fronts.{kept, growths_in, leaf_of, work_at}
use Rattle.kept_front.specs.Leaves.{leaf_at, blocked_in}
use Rattle.kept_front.specs.declared.works.WorkKind.{WorkKind}
use Rattle.kept_front.specs.Works.{work_of}
use Rattle.kept_front.proofs.Told.{held_is, holds_none}
use Rattle.step_reader.specs.Readings.{act_of}
use Rattle.tree_decoder.specs.Decoding.{AreBehind}
use Rattle.tree_decoder.specs.declared.testing.Scratch.{Scratch}
use Rattle.tree_decoder.specs.Acts.{StaysNoted, IsWorkNoted, work_with, IsMetWith, AllowsWith, IsOneHeld, IsObstacle}
use Rattle.tree_decoder.proofs.Sound.{lawful, sound_steps}
use Rattle.tree_decoder.proofs.Steps.{label_same}
use Rattle.tree_decoder.proofs.Grown.{slot_same}

work_same : (c : Compiled) (name : PrintedName) (slot : ℕ) (new objects : List ℕ)
    → work_with c name objects ≡ work_in (network c) (act_of c name slot new objects)
work_same c (Action a) slot new objects = refl
work_same c (Check m) slot new objects = refl
work_same c (Method m) slot new objects = refl

to_met : (c : Compiled) (name : PrintedName) (slot : ℕ) (new objects : List ℕ)
    → IsMetWith c name objects ↔ IsMet (network c) (act_of c name slot new objects)
to_met c (Action a) slot new objects = (λ h. h, λ h. h)
to_met c (Check m) slot new objects = (λ h. h, λ h. h)
to_met c (Method m) slot new objects = (λ h. h, λ h. h)

-- that elements differ is told by no pair of them being the same
differ : {A : Type 0} (xs : List A) → ((AreDifferent xs → ⊥) → ⊥) → AreDifferent xs
differ [] not = tt
differ (x ∷ xs) not = (λ k. not (λ d. d.0 k), differ xs (λ n. not (λ d. n d.1)))

pub not_so : {P : Type 0} (t : Bool) → IsTrue t ↔ P → t ≡ false → P → ⊥
not_so t tells e p = true≢false (sym (tells.1 p) ∙ e)

-- what is tested stays as long as what is noted of the step does
module _ (c : Compiled) (name : PrintedName) (old new : Scratch) (noted : StaysNoted old new) where
  same_objects : (frame new.env).objects ≡ (frame old.env).objects
  same_objects = ap (λ (f : Frame). f.objects) noted.objects

  pub same_work : (kind : WorkKind) (task : List ℕ) → task ≡ new.task.items → IsWorkNoted c name new kind
      → work_of kind task ≡ work_with c name (frame old.env).objects
  same_work kind task e noted_work = ap (work_of kind) e ∙ noted_work ∙ ap (work_with c name) same_objects

  pub same_held : (front : Front) (t : Bool) (slots : List ℕ) → slots ≡ new.new_slots.items → IsTrue t ↔ IsOneHeld front slots
      → IsTrue t ↔ IsOneHeld front old.new_slots.items
  same_held front t slots e tells = subst (λ xs. IsTrue t ↔ IsOneHeld front xs) (e ∙ noted.slots) tells

  pub same_met : (t : Bool) → IsTrue t ↔ IsMetWith c name (frame new.env).objects → IsTrue t ↔ IsMetWith c name (frame old.env).objects
  same_met t tells = subst (λ os. IsTrue t ↔ IsMetWith c name os) same_objects tells

  pub same_allowed : (state : State) (t : Bool) → IsTrue t ↔ AllowsWith c state name (frame new.env).objects
      → IsTrue t ↔ AllowsWith c state name (frame old.env).objects
  same_allowed state t tells = subst (λ os. IsTrue t ↔ AllowsWith c state name os) same_objects tells

module _ (c : Compiled) (soundly : IsSoundlyCompiled c) (front : Front) (state : State) (name : PrintedName) (slot : ℕ) (new objects : List ℕ) where
  abbrev a : Act (network c)
  a = act_of c name slot new objects

  abbrev Obstacle : Option Why → Type 0
  Obstacle found = IsObstacle c a front state found

  abbrev held_leaf : Leaf → Held.Leaf (network c)
  held_leaf l = leaf_of c (growths_in c front) l

  slot_is : slot_in (network c) a ≡ slot
  slot_is = slot_same c name slot new objects

  tells : (b : ℕ) (steps : List GroundAction) (step : GroundAction) → b ≤ most_slots → AreBehind c b steps front state
      → StepTells c b steps (kept c front) (true_of c (has_ground state)) step
  tells b steps step few behind = taken_tells c (lawful c soundly) b steps (kept c front) (has_ground state) step (sound_steps c soundly b few) behind

  pub nothing_held : leaf_at front.leaves slot ≡ None → Obstacle (Some SlotHolds)
  nothing_held e b steps step few behind read = (tells b steps step few behind).not_held a read none
    where
      none : (leaf : Held.Leaf (network c)) → (kept c front).held (slot_in (network c) a) ≡ Some leaf → leaf.work ≡ work_in (network c) a → ⊥
      none leaf h w =
          let there : (kept c front).held slot ≡ Some leaf = subst (λ x. (kept c front).held x ≡ Some leaf) slot_is h in
          let both : None ≡ Some leaf = sym (holds_none c 0 front slot e) ∙ there in
          absurd cc

  module _ (l : Leaf) (e : leaf_at front.leaves slot ≡ Some l) where
    held : (kept c front).held (slot_in (network c) a) ≡ Some (held_leaf l)
    held = ap (kept c front).held slot_is ∙ held_is c 0 front slot l e

    pub other_held : (work_at c front l ≡ work_with c name objects → ⊥) → Obstacle (Some SlotHolds)
    other_held not b steps step few behind read = (tells b steps step few behind).not_held a read other
      where
        other : (leaf : Held.Leaf (network c)) → (kept c front).held (slot_in (network c) a) ≡ Some leaf → leaf.work ≡ work_in (network c) a → ⊥
        other leaf h w =
            let both : Some (held_leaf l) ≡ Some leaf = sym held ∙ h in
            let same : held_leaf l ≡ leaf = cc in
            not (ap (λ (z : Held.Leaf (network c)). z.work) same ∙ w ∙ sym (work_same c name slot new objects))

    module _ (holds : work_at c front l ≡ work_with c name objects) where
      work : (held_leaf l).work ≡ work_in (network c) a
      work = holds ∙ work_same c name slot new objects

      blocked : (kept c front).blocked (slot_in (network c) a) ≡ l.blocked
      blocked = ap (kept c front).blocked slot_is ∙ ap blocked_in e

      pub waits : 1 ≤ l.blocked → Obstacle (Some Waiting)
      waits some b steps step few behind read =
          (tells b steps step few behind).waits a (held_leaf l) read held work (subst (λ n. 1 ≤ n) (sym blocked) some)

      module _ (free : l.blocked ≡ 0) (is_new : new_in (network c) a ≡ new) where
        unblocked : (kept c front).blocked (slot_in (network c) a) ≡ 0
        unblocked = blocked ∙ free

        pub one_held : IsOneHeld front new → Obstacle (Some SlotTaken)
        one_held h b steps step few behind read = (tells b steps step few behind).taken a (held_leaf l) read held work unblocked (subst Taken (sym is_new) (taken h))
          where
            Taken : List ℕ → Type 0
            Taken = IsOneTaken c b steps (kept c front) (true_of c (has_ground state)) step

            some_leaf : (x : ℕ) (o : Option Leaf) → leaf_at front.leaves x ≡ o → IsSome o → (leaf : Held.Leaf (network c)) × ((kept c front).held x ≡ Some leaf)
            some_leaf x None f s = absurd cc
            some_leaf x (Some k) f s = (held_leaf k, held_is c 0 front x k f)

            taken : IsOneHeld front new → Taken new
            taken (inl (x, k, s)) = let (leaf, at) = some_leaf x (leaf_at front.leaves x) refl s in inl (x, leaf, k, at)
            taken (inr d) = inr d

        module _ (not_held : IsOneHeld front new → ⊥) where
          free_slots : (x : ℕ) → Contains (new_in (network c) a) x → (kept c front).held x ≡ None
          free_slots x k = go (leaf_at front.leaves x) refl
            where
              go : (o : Option Leaf) → leaf_at front.leaves x ≡ o → (kept c front).held x ≡ None
              go None f = holds_none c 0 front x f
              go (Some y) f = absurd (not_held (inl (x, subst (λ xs. Contains xs x) is_new k, ap is_some f)))

          different : AreDifferent (new_in (network c) a)
          different = subst AreDifferent (sym is_new) (differ new (λ n. not_held (inr n)))

          pub unmet : (IsMetWith c name objects → ⊥) → Obstacle (Some Constraint)
          unmet not b steps step few behind read =
              (tells b steps step few behind).unmet a (held_leaf l) read held work unblocked none_taken (λ m. not ((to_met c name slot new objects).1 m))
            where
              none_taken : IsOneTaken c b steps (kept c front) (true_of c (has_ground state)) step (new_in (network c) a) → ⊥
              none_taken (inl (x, leaf, k, at)) = let both : None ≡ Some leaf = sym (free_slots x k) ∙ at in absurd cc
              none_taken (inr d) = d different

          module _ (met : IsMetWith c name objects) where
            may : (b : ℕ) (step : GroundAction) → IsReadAs c b step a → MayTake (network c) b (top_work c) (kept c front) a (held_leaf l)
            may b step read = record {
              formed = read.formed;
              held = held;
              work = work;
              unblocked = unblocked;
              free = free_slots;
              different = different;
              met = (to_met c name slot new objects).0 met;
            }

            pub not_allowed : (AllowsWith c state name objects → ⊥) → Obstacle (Some Precondition)
            not_allowed not b steps step few behind read =
                (tells b steps step few behind).not_allowed a (held_leaf l) read (may b step read)
                (λ h. not (subst (Allows c (true_of c (has_ground state))) (sym (label_same c name slot new objects)) h))

            pub no_obstacle : AllowsWith c state name objects → Obstacle None
            no_obstacle allowed b steps step few behind read = record {
              leaf = held_leaf l;
              may = may b step read;
              allowed = subst (Allows c (true_of c (has_ground state))) (label_same c name slot new objects) allowed;
            }
