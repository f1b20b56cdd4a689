-- What a decoder does at a step, whatever was taken before.
use Rattle.std.proofs.Common.{ℕ, ◌≡◌, ◌≤◌, List, [], ◌∷◌, ◌++◌, length, map, Option, Some, None, MatchOption, Contains, refl, ap, sym, subst, ◌∙◌, arith}
use Rattle.std.proofs.lemmas.List.{length-map}
use Rattle.htn_base.specs.Limits.{most_steps}
use Rattle.plan_model.specs.declared.steps.GroundAction.{GroundAction}
use Rattle.plan_model.specs.declared.values.Compiled.{Compiled}
use Rattle.plan_model.specs.task_networks.Spelling.{Act, label_of}
use Rattle.plan_model.specs.plan_meaning.Network.{network}
use Rattle.plan_model.specs.plan_meaning.Solution.{next}
use Rattle.plan_texts.specs.SoundlyCompiled.{IsSoundlyCompiled}
use Rattle.problem_index.specs.declared.printed_index.PrintedName.{PrintedName}
use Rattle.problem_index.specs.declared.printed_index.PrintedName.TheVariants.{Action, Check, Method}
use Rattle.ground_state.specs.Frames.{Frame, frame}
use Rattle.ground_state.specs.Runs.{IsAsRoomy}
use Rattle.ground_state.specs.States.{has_ground, Has}
use Rattle.ground_state.specs.declared.state.State.{State}
use Rattle.tree_core.specs.declared.growth.Growth.{Growth}
use Rattle.tree_core.specs.Labels.{growths_of, labelled_growth}
use Rattle.decoding.specs.declared.causes.Why.{Why}
use Rattle.decoding.specs.declared.causes.Why.TheVariants.{UnknownAction, Arguments}
use Rattle.decoding.specs.FailingAct.{new_in}
use Rattle.decoding.specs.PrintedSteps.{IsNamed, IsReadAs}
use Rattle.decoding.specs.TakenSteps.{true_of, IsSameState}
use Rattle.decoding.specs.TakenLaws.{StepTells}
use Rattle.decoding.proofs.TakenFronts.{taken_at_first, taken_tells, one_more_taken}
use Rattle.kept_front.specs.declared.front.Front.{Front}
use Rattle.kept_front.specs.Fronts.{kept, growth_in, IsFirstOf}
use Rattle.step_reader.specs.Readings.{act_of, HasRoomIn}
use Rattle.tree_decoder.specs.declared.testing.Scratch.{Scratch}
use Rattle.tree_decoder.specs.declared.decoder.Decoder.{Decoder}
use Rattle.tree_decoder.specs.Decoding.{AreBehind, AreLabelled, IsReady, HasTaken, FailsHere, Takes}
use Rattle.tree_decoder.specs.Acts.{act_in, AreNewNoted, label_with, StaysNoted, IsObstacle}
use Rattle.tree_decoder.specs.Taking.{IsReadNow, IsRead, TakesAct, CanGrow, CanGrowSome, IsGrownBy, IsAfter}
use Rattle.tree_decoder.proofs.Sound.{lawful, sound_steps}

-- what is so of a decoder's own problem and slots is so of each of which it is said
pub takes_own : (step : GroundAction) (old new : Decoder) (found : Option Why)
    → ((steps : List GroundAction) → AreBehind old.c.now old.slots steps old.front old.state
    → MatchOption found (HasTaken old.c.now old.slots (steps ++ step ∷ []) new) (FailsHere old.c.now old.slots steps step))
    → Takes step old new found
takes_own step old new found own c b steps h = subst (λ z. Answer z b) h.problem (subst (Answer old.c.now) h.slots (own steps behind))
  where
    Answer : Compiled → ℕ → Type 0
    Answer z n = MatchOption found (HasTaken z n (steps ++ step ∷ []) new) (FailsHere z n steps step)

    behind : AreBehind old.c.now old.slots steps old.front old.state
    behind = subst (λ n. AreBehind old.c.now n steps old.front old.state) (sym h.slots)
        (subst (λ z. AreBehind z b steps old.front old.state) (sym h.problem) h.behind)

module _ (old new : Decoder) (ready : IsReady old) (step : GroundAction) where
  abbrev c : Compiled
  c = old.c.now

  tells : (steps : List GroundAction) → AreBehind c old.slots steps old.front old.state
      → StepTells c old.slots steps (kept c old.front) (true_of c (has_ground old.state)) step
  tells steps behind =
      taken_tells c (lawful c ready.soundly) old.slots steps (kept c old.front) (has_ground old.state) step
      (sound_steps c ready.soundly old.slots ready.few) behind

  pub unnamed : (IsNamed c step → ⊥) → Takes step old new (Some UnknownAction)
  unnamed n = takes_own step old new (Some UnknownAction) (λ steps behind. (tells steps behind).unnamed n)

  pub unread : IsNamed c step → ((a : Act (network c)) → IsReadAs c old.slots step a → ⊥) → Takes step old new (Some Arguments)
  unread n none = takes_own step old new (Some Arguments) (λ steps behind. (tells steps behind).unread n none)

-- what is noted matters by its room alone
module _ (old : Decoder) (scratch : Scratch) where
  abbrev pub noting : Decoder
  noting = record {
    c = old.c;
    slots = old.slots;
    printed = old.printed;
    later = old.later;
    front = old.front;
    state = old.state;
    scratch = scratch;
  }

  pub as_roomy : IsAsRoomy (frame old.scratch.env) (frame scratch.env) → HasRoomIn old.c.now (frame old.scratch.env)
      → HasRoomIn old.c.now (frame scratch.env)
  as_roomy same room = still old.c.now (frame old.scratch.env) (frame scratch.env) same room
    where
      still : (c : Compiled) (f g : Frame) → IsAsRoomy f g → HasRoomIn c f → HasRoomIn c g
      still c f g (r, a) h = subst (λ (z : Frame). HasRoomIn c z) (λ i. record { objects = g.objects; room = sym r i; arity = sym a i }) h

  pub ready_noting : IsReady old → IsAsRoomy (frame old.scratch.env) (frame scratch.env) → IsReady noting
  ready_noting ready same = record {
    soundly = ready.soundly;
    some = ready.some;
    few = ready.few;
    printed = ready.printed;
    later = ready.later;
    sized = ready.sized;
    short = ready.short;
    labelled = ready.labelled;
    room = as_roomy same ready.room;
    taken = ready.taken;
  }

  pub takes_read : (name : PrintedName) (slot : ℕ) (new : Decoder) (step : GroundAction) (found : Option Why) → IsReady noting
      → IsReadNow name slot noting step → TakesAct name slot noting new found → Takes step old new found
  takes_read name slot new step found ready read takes c b steps h =
      takes step read c b steps (record { problem = h.problem; slots = h.slots; ready = ready; behind = h.behind })

-- what an act says goes by its name and objects
pub label_same : (c : Compiled) (name : PrintedName) (slot : ℕ) (new objects : List ℕ)
    → label_with c name objects ≡ label_of (network c) (act_of c name slot new objects)
label_same c (Action a) slot new objects = refl
label_same c (Check m) slot new objects = refl
label_same c (Method m) slot new objects = refl

-- and stays as long as what is noted does
module _ (c : Compiled) (name : PrintedName) (slot : ℕ) (old new : Scratch) (noted : StaysNoted old new) where
  pub same_act : act_in c name slot new ≡ act_in c name slot old
  same_act = λ i. act_of c name slot (noted.slots i) (noted.objects i).objects

  pub same_new : AreNewNoted c name slot old → AreNewNoted c name slot new
  same_new e = ap (new_in (network c)) same_act ∙ e ∙ sym noted.slots

module _ (old : Decoder) (ready : IsReady old) (name : PrintedName) (slot : ℕ) where
  abbrev p : Compiled
  p = old.c.now

  abbrev a : Act (network p)
  a = act_in p name slot old.scratch

  pub fails_by : (why : Why) (new : Decoder) → IsObstacle p a old.front old.state (Some why) → TakesAct name slot old new (Some why)
  fails_by why new o step read = takes_own step old new (Some why) (λ steps behind. o old.slots steps step ready.few behind read)

  module _ (o : IsObstacle p a old.front old.state None) where
    grows : (steps : List GroundAction) (step : GroundAction) (behind : AreBehind p old.slots steps old.front old.state)
        → IsReadAs p old.slots step a → CanGrow p a old.slots old.front behind.acts
    grows steps step behind read =
        let can = o old.slots steps step ready.few behind read in
        record { few = ready.few; keeps = behind.keeps; sized = ready.sized; leaf = can.leaf; may = can.may }

    pub can_grow : IsRead name slot old → CanGrowSome p a old.front
    can_grow r = let (steps, behind) = ready.taken in (old.slots, behind.acts, grows steps r.step behind r.read)

    module _ (front : Front) (state : State) (scratch : Scratch) where
      abbrev after : Decoder
      after = record {
        c = old.c;
        slots = old.slots;
        printed = old.printed;
        later = old.later;
        front = front;
        state = state;
        scratch = scratch;
      }

      pub takes_by : IsGrownBy p a old.front front → IsAfter p name (frame old.scratch.env).objects old.state state
          → IsAsRoomy (frame old.scratch.env) (frame scratch.env) → TakesAct name slot old after None
      takes_by grown next_state same step read = takes_own step old after None taken
        where
          taken : (steps : List GroundAction) → AreBehind p old.slots steps old.front old.state
              → HasTaken p old.slots (steps ++ step ∷ []) after
          taken steps behind =
              let can = o old.slots steps step ready.few behind read in
              let keeps = grown.front old.slots behind.acts (grows steps step behind read) in
              let reached : IsSameState p (true_of p (has_ground state)) (next p (true_of p (has_ground old.state)) (label_of (network p) a)) =
              subst (λ l. IsSameState p (true_of p (has_ground state)) (next p (true_of p (has_ground old.state)) l))
              (label_same p name slot old.scratch.new_slots.items (frame old.scratch.env).objects) next_state in
              let longer = one_more_taken p old.slots steps (kept p old.front) (kept p front) (has_ground old.state) (has_ground state)
              step a behind read can.allowed keeps reached in
              record {
                problem = refl;
                slots = refl;
                ready = record {
                  soundly = ready.soundly;
                  some = ready.some;
                  few = ready.few;
                  printed = ready.printed;
                  later = ready.later;
                  sized = grown.sized old.slots ready.sized;
                  short = grown.short;
                  labelled = grown.labelled ready.labelled;
                  room = as_roomy old scratch same ready.room;
                  taken = (steps ++ step ∷ [], longer);
                };
                behind = longer;
              }

-- at first nothing is taken
module _ (c : Compiled) (soundly : IsSoundlyCompiled c) (b : ℕ) (some : 1 ≤ b) (front : Front) (state : State) (first : IsFirstOf c front)
    (has : Has state (Contains c.hddl.init)) where
  pub none_behind : AreBehind c b [] front state
  none_behind = taken_at_first c (lawful c soundly) b (kept c front) (has_ground state) some first has

  pub none_labelled : AreLabelled c front
  none_labelled = go front.growths first.growths
    where
      go : (gs : List Growth) → map (growth_in c) gs ≡ [] → growths_of gs ≡ map (labelled_growth c) (map (growth_in c) gs)
      go [] e = refl
      go (g ∷ gs) e = absurd cc

  pub none_long : length front.growths ≤ most_steps
  none_long = let e = sym (length-map front.growths (growth_in c)) ∙ ap length first.growths in omega arith
