-- A history that has the states between labels, and goes on with one more.
use Rattle.std.proofs.Common.{ℕ, zero, suc, ◌≡◌, ◌⊎◌, ◌+◌, ◌<◌, ◌≤◌, ◌↔◌, inl, inr, IsTrue, Bool, true, false, List, [], ◌∷◌, ◌++◌, length, take, slice_get, get_or, Option, Some, Contains, refl, ap, sym, subst, ◌∙◌, arith}
use Rattle.std.proofs.Math.Seq.{take-length}
use Rattle.std.proofs.lemmas.List.{take-append-le, take_all, length-append}
use Rattle.std.proofs.lemmas.Bool.{cases_lt}
use Rattle.std.proofs.lemmas.Option.{slice_get-get_or}
use Rattle.plan_model.specs.declared.formulas.Formula.{Formula}
use Rattle.plan_model.specs.declared.schemas.ActionSchema.{ActionSchema}
use Rattle.plan_model.specs.declared.values.Compiled.{Compiled}
use Rattle.plan_model.specs.Typing.{InType}
use Rattle.plan_model.specs.task_networks.Net.{Net}
use Rattle.plan_model.specs.task_networks.Tree.{Label, ran}
use Rattle.plan_model.specs.task_networks.Executable.{AreAllowed, last_state}
use Rattle.plan_model.specs.plan_meaning.Truth.{State, IsTrueIn, after}
use Rattle.plan_model.specs.plan_meaning.Network.{action, network, InTypeOf}
use Rattle.plan_model.specs.plan_meaning.Solution.{Allows, AllowsAction, next, after_action, initial}
use Rattle.plan_model.proofs.plan_meaning.SameStates.{same_truth, same_after}
use Rattle.problem_index.specs.declared.world.World.{World}
use Rattle.ground_state.specs.Clauses.{IsInType}
use Rattle.state_history.specs.declared.history.History.{History}
use Rattle.state_history.specs.declared.flips.Flips.{Flips}
use Rattle.state_history.specs.Flips.{states}
use Rattle.state_history.specs.Histories.{last, state_in, AreSame, IsTrueInGap, after_last}
use Rattle.hplan_text.specs.declared.values.HLine.{HLine}
use Rattle.hplan_text.specs.declared.values.HPlan.{HPlan}
use Rattle.value_choices.specs.Worlds.{IsWorldOf}
use Rattle.numbered_lines.specs.declared.lines.Said.{Said}
use Rattle.placements.specs.Placement.{state_after}
use Rattle.plan_placer.specs.Executed.{IsLabelOf, AreLabelsOf, HasStates, IsExecuted, IsStoppedAt, HasReached, HasMissed}

module _ (N : Net) (S : Type 1) (Allowed : S → Label N → Type 0) (step : S → Label N → S) where
  abbrev state_behind : S → List (Label N) → S
  state_behind = last_state N S Allowed step

  last_push : (s : S) (ls : List (Label N)) (l : Label N) → state_behind s (ls ++ l ∷ []) ≡ step (state_behind s ls) l
  last_push s [] l = refl
  last_push s (k ∷ ls) l = last_push (step s k) ls l

  allowed_push : (s : S) (ls : List (Label N)) (l : Label N) → AreAllowed N S Allowed step s ls → Allowed (state_behind s ls) l
      → AreAllowed N S Allowed step s (ls ++ l ∷ [])
  allowed_push s [] l a x = (x, tt)
  allowed_push s (k ∷ ls) l a x = (a.0, allowed_push (step s k) ls l a.1 x)

-- one more label stands at its place
pub there : {A : Type 0} (before rest : List A) (a : A) → slice_get (before ++ a ∷ rest) (length before) ≡ Some a
there [] rest a = refl
there (b ∷ before) rest a = there before rest a

same_along : (R S T : State) → AreSame R S → AreSame S T → AreSame R T
same_along R S T a b g = let x = a g in let y = b g in (λ r. y.0 (x.0 r), λ t. x.1 (y.1 t))

module _ (c : Compiled) where
  abbrev L : Type 0
  L = Label (network c)

  pub states_first : (h : History) → last h ≡ 0 → AreSame (state_in h 0) (Contains c.hddl.init) → HasStates c [] h
  states_first h e s = record {
    last = e;
    states = λ j b. (let z : 0 ≡ j = omega arith in subst (λ k. AreSame (state_in h k) (state_after c (take k []))) z s);
    executable = tt;
  }

  -- nothing but the flips counts
  pub states_kept : (labels : List L) (old new : History) → new.flips ≡ old.flips → HasStates c labels old → HasStates c labels new
  states_kept labels old new e h = record {
    last = ap (λ (f : Flips). f.last) e ∙ h.last;
    states = λ j b. subst (λ (f : Flips). AreSame (states f j) (state_after c (take j labels))) (sym e) (h.states j b);
    executable = h.executable;
  }

  -- the last state
  pub states_last : (labels : List L) (h : History) → HasStates c labels h → AreSame (state_in h (last h)) (state_after c labels)
  states_last labels h s =
      let n : ℕ = length labels in
      subst (λ k. AreSame (state_in h k) (state_after c labels)) (sym s.last)
      (subst (λ (z : List L). AreSame (state_in h n) (state_after c z)) (take-length labels) (s.states n (omega arith)))

  module _ (world : World) (is : IsWorldOf c world) where
    same_types : IsInType world ≡ InTypeOf c
    same_types = λ i. InType (is.types i) (is.objects i)

    -- what is looked at in the last gap is so in the last state
    pub true_last : (labels : List L) (h : History) → HasStates c labels h → (f : Formula) (values : List ℕ)
        → IsTrueInGap world h f values (last h) ↔ IsTrueIn (InTypeOf c) (state_after c labels) f values
    true_last labels h s f values =
        let now : State = state_after c labels in
        let there : State = state_in h (last h) in
        subst (λ (z : ℕ → ℕ → Type 0). IsTrueIn z there f values ↔ IsTrueIn (InTypeOf c) now f values) (sym same_types)
        (same_truth (InTypeOf c) there now (states_last labels h s) f values)

    -- an action is executed in the last gap
    module _ (labels : List L) (old new : History) (h : HasStates c labels old) (s : Said) (schema : ActionSchema)
        (is_schema : slice_get c.hddl.actions s.number ≡ Some schema) where
      abbrev it : L
      it = ran (action s.number s.objects)

      abbrev now : State
      now = state_after c labels

      abbrev ahead : State
      ahead = after (InTypeOf c) now schema.eff s.objects

      pub allowed_is : Allows c now it ≡ IsTrueIn (InTypeOf c) now schema.pre s.objects
      allowed_is = ap (λ (o : Option ActionSchema). AllowsAction c now o s.objects) is_schema

      ahead_is : state_after c (labels ++ it ∷ []) ≡ ahead
      ahead_is =
          last_push (network c) State (Allows c) (next c) (initial c) labels it
          ∙ ap (λ (o : Option ActionSchema). after_action c now o s.objects) is_schema

      pub states_more : last new ≡ last old + 1
          → ((j : ℕ) → j ≤ last old → AreSame (state_in new j) (state_in old j))
          → AreSame (state_in new (last new)) (after_last world old schema.eff s.objects)
          → IsTrueInGap world old schema.pre s.objects (last old)
          → HasStates c (labels ++ it ∷ []) new
      states_more more before then true_now = record {
        last = more ∙ (let a = h.last in let b = length-append labels (it ∷ []) in omega arith);
        states = λ j b. each j b (cases_lt (last old) j);
        executable = allowed_push (network c) State (Allows c) (next c) (initial c) labels it h.executable
            (subst (λ (z : Type 0). z) (sym allowed_is) ((true_last labels old h schema.pre s.objects).0 true_now));
      }
        where
          many : length (labels ++ it ∷ []) ≡ last old + 1
          many = let a = h.last in let b = length-append labels (it ∷ []) in omega arith

          there : State
          there = after_last world old schema.eff s.objects

          along : AreSame there ahead
          along =
              let here : State = state_in old (last old) in
              subst (λ (z : ℕ → ℕ → Type 0). AreSame (after z here schema.eff s.objects) ahead) (sym same_types)
              (same_after (InTypeOf c) here now (states_last labels old h) schema.eff s.objects)

          at_last : AreSame (state_in new (last new)) (state_after c (labels ++ it ∷ []))
          at_last = subst (λ (z : State). AreSame (state_in new (last new)) z) (sym ahead_is)
              (same_along (state_in new (last new)) there ahead then along)

          each : (j : ℕ) → j ≤ length (labels ++ it ∷ []) → (last old < j) ⊎ (j ≤ last old)
              → AreSame (state_in new j) (state_after c (take j (labels ++ it ∷ [])))
          each j b (inl l) =
              let m = many in
              let e : j ≡ last new = omega arith in
              let all : take j (labels ++ it ∷ []) ≡ labels ++ it ∷ [] = take_all j (labels ++ it ∷ []) (omega arith) in
              subst (λ (z : List L). AreSame (state_in new j) (state_after c z)) (sym all)
              (subst (λ k. AreSame (state_in new k) (state_after c (labels ++ it ∷ []))) (sym e) at_last)
          each j b (inr l) =
              let short : j ≤ length labels = (let a = h.last in omega arith) in
              subst (λ (z : List L). AreSame (state_in new j) (state_after c z)) (sym (take-append-le j labels (it ∷ []) short))
              (same_along (state_in new j) (state_in old j) (state_after c (take j labels)) (before j l) (h.states j short))

-- what a step comes to, whose numbers and schema are these, and whose condition was looked at in the last gap
module _ (c : Compiled) (world : World) (is : IsWorldOf c world) (step : Option Said) (s : Said) (is_step : step ≡ Some s)
    (objects : List ℕ) (are : objects ≡ s.objects)
    (schema : ActionSchema) (is_schema : slice_get c.hddl.actions s.number ≡ Some schema)
    (old mid : History) (kept : mid.flips ≡ old.flips) (gap : ℕ) (is_gap : gap ≡ last old) (truth : Bool)
    (looked : IsTrue truth ↔ IsTrueInGap world old schema.pre objects gap)
    (labels : List (Label (network c))) (label : Label (network c)) (is_label : IsLabelOf c step label) (h : HasStates c labels old) where
  label_is : label ≡ ran (action s.number s.objects)
  label_is = subst (λ (z : Option Said). IsLabelOf c z label) is_step is_label

  looked_there : IsTrue truth ↔ IsTrueInGap world old schema.pre s.objects (last old)
  looked_there =
      subst (λ k. IsTrue truth ↔ IsTrueInGap world old schema.pre s.objects k) is_gap
      (subst (λ (z : List ℕ). IsTrue truth ↔ IsTrueInGap world old schema.pre z gap) are looked)

  abbrev mid_states : HasStates c labels mid
  mid_states = states_kept c labels old mid kept h

  pub goes_on : truth ≡ true → (new : History) → last new ≡ last mid + 1
      → ((j : ℕ) → j ≤ last mid → AreSame (state_in new j) (state_in mid j))
      → AreSame (state_in new (last new)) (after_last world mid schema.eff objects)
      → IsExecuted c labels label truth new
  goes_on t new more before then =
      subst (λ (b : Bool). IsExecuted c labels label b new) (sym t)
      (subst (λ (z : Label (network c)). HasStates c (labels ++ z ∷ []) new) (sym label_is)
      (states_more c world is labels mid new mid_states s schema is_schema more before
      (subst (λ (z : List ℕ). AreSame (state_in new (last new)) (after_last world mid schema.eff z)) are then)
      (subst (λ (f : Flips). IsTrueIn (IsInType world) (states f f.last) schema.pre s.objects) (sym kept) (looked_there.0 t))))

  pub stops : truth ≡ false → (new : History) → IsExecuted c labels label truth new
  stops t new = subst (λ (b : Bool). IsExecuted c labels label b new) (sym t) (λ a. (
      let now : State = state_after c labels in
      let x : Allows c now (ran (action s.number s.objects)) = subst (Allows c now) label_is a in
      let f = subst (λ (z : Type 0). z) (allowed_is c world is labels old old h s schema is_schema) x in
      let y : IsTrue truth = looked_there.1 ((true_last c world is labels old h schema.pre s.objects).1 f) in
      cc))

-- the label of the step at a place
module _ (c : Compiled) where
  pub record IsThere (step : Option Said) (labels : List (Label (network c))) (place : ℕ) : Type 0 where
    pub label : Label (network c)
    pub is : IsLabelOf c step label
    pub rest : List (Label (network c))
    pub parts : labels ≡ take place labels ++ label ∷ rest
    pub short : length (take place labels) ≡ place
    pub more : take (suc place) labels ≡ take place labels ++ label ∷ []

  pub label_there : (steps : List (Option Said)) (labels : List (Label (network c))) (place : ℕ) (d : Option Said)
      → AreLabelsOf c steps labels → place < length steps → IsThere (get_or steps place d) labels place
  label_there [] labels place d a l = absurd (omega arith)
  label_there (s ∷ steps) [] place d a l = absurd a
  label_there (s ∷ steps) (k ∷ labels) zero d a l =
      record { label = k; is = a.0; rest = labels; parts = refl; short = refl; more = refl }
  label_there (s ∷ steps) (k ∷ labels) (suc place) d a l =
      let r = label_there steps labels place d a.1 (omega arith) in
      record {
        label = r.label;
        is = r.is;
        rest = r.rest;
        parts = ap (λ (z : List (Label (network c))). k ∷ z) r.parts;
        short = ap suc r.short;
        more = ap (λ (z : List (Label (network c))). k ∷ z) r.more;
      }

  -- what a step at a place comes to
  module _ (steps : List (Option Said)) (labels : List (Label (network c))) (a : AreLabelsOf c steps labels) (place : ℕ)
      (within : place < length steps) (step d : Option Said) (is : step ≡ get_or steps place d) (old new : History) (done : Bool)
      (h : HasStates c (take place labels) old)
      (executed : (before : List (Label (network c))) (label : Label (network c)) → IsLabelOf c step label → HasStates c before old
      → IsExecuted c before label done new) where
    there_is : IsThere (get_or steps place d) labels place
    there_is = label_there steps labels place d a within

    abbrev Outcome : Bool → Type 0
    Outcome b = IsExecuted c (take place labels) there_is.label b new

    outcome : Outcome done
    outcome =
        let its = subst (λ (z : Option Said). IsLabelOf c z there_is.label) (sym is) there_is.is in
        executed (take place labels) there_is.label its h

    pub more_states : done ≡ true → HasStates c (take (suc place) labels) new
    more_states e = subst (λ (z : List (Label (network c))). HasStates c z new) (sym there_is.more) (subst Outcome e outcome)

    pub stopped_at : done ≡ false → (plan : HPlan) (lines : List HLine) → lines ≡ plan.primitives
        → length steps ≡ length plan.primitives → (none : HLine) → IsStoppedAt c plan labels (get_or lines place none).id
    stopped_at e plan lines are many none = record {
      before = take place labels;
      label = there_is.label;
      rest = there_is.rest;
      parts = there_is.parts;
      executable = h.executable;
      fails = subst Outcome e outcome;
      line = get_or lines place none;
      line_is = (
          let l : place < length lines = (let b = ap length are in omega arith) in
          subst (λ k. slice_get plan.primitives k ≡ Some (get_or lines place none)) (sym there_is.short)
          (subst (λ (z : List HLine). slice_get z place ≡ Some (get_or lines place none)) are (slice_get-get_or lines place none l)));
      id_is = refl;
    }

-- the goal, looked at in the last gap
module _ (c : Compiled) (world : World) (is : IsWorldOf c world) (labels : List (Label (network c))) (h mid : History)
    (has : HasStates c labels h) (kept : mid.flips ≡ h.flips) (gap : ℕ) (is_gap : gap ≡ last h) (truth : Bool)
    (looked : IsTrue truth ↔ IsTrueInGap world h c.hddl.goal [] gap) where
  goal_looked : IsTrue truth ↔ IsTrueInGap world h c.hddl.goal [] (last h)
  goal_looked = subst (λ k. IsTrue truth ↔ IsTrueInGap world h c.hddl.goal [] k) is_gap looked

  pub goal_reached : truth ≡ true → HasReached c labels mid
  goal_reached t = record {
    has = states_kept c labels h mid kept has;
    goal = (true_last c world is labels h has c.hddl.goal []).0 (goal_looked.0 t);
  }

  pub goal_missed : truth ≡ false → HasMissed c labels
  goal_missed t = record {
    executable = has.executable;
    goal = λ g. (let y : IsTrue truth = goal_looked.1 ((true_last c world is labels h has c.hddl.goal []).1 g) in cc);
  }
