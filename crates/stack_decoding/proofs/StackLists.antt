-- A list of steps spells a solution with its cells, or it fails at one step for one first cause.
use Rattle.std.proofs.Common.{ℕ, suc, ◌≡◌, ◌≤◌, ◌+◌, ◌⊎◌, inl, inr, List, ◌∷◌, ◌++◌, length, map, ap, sym, subst, ◌∙◌, arith}
use Rattle.std.proofs.Math.Decide.{ℕ_discrete}
use Rattle.std.proofs.lemmas.List.{length-append}
use Rattle.plan_model.specs.declared.steps.GroundAction.{GroundAction}
use Rattle.plan_model.specs.declared.values.Compiled.{Compiled}
use Rattle.plan_model.specs.task_networks.Lawful.{IsLawful}
use Rattle.plan_model.specs.task_networks.Tree.{Tree, Label, Address, waits}
use Rattle.plan_model.specs.task_networks.Executable.{last_state}
use Rattle.plan_model.specs.task_networks.Spelling.{Act, label_of, Spells}
use Rattle.plan_model.specs.plan_meaning.Truth.{State}
use Rattle.plan_model.specs.plan_meaning.Network.{Work, network}
use Rattle.plan_model.specs.plan_meaning.Solution.{top_work, Allows, next, initial, IsGoal}
use Rattle.plan_model.proofs.task_networks.Lists.{cuts}
use Rattle.slot_machine.specs.Reached.{SameSlots}
use Rattle.slot_machine.proofs.Unique.{one_front}
use Rattle.stack_machine.specs.Stack.{IsTotal}
use Rattle.stack_machine.specs.StackMachine.{SpellsCells}
use Rattle.decoding.specs.declared.causes.Why.{Why}
use Rattle.decoding.specs.declared.causes.Why.TheVariants.{UnknownAction, Arguments, SlotHolds, Waiting, SlotTaken, Constraint, Precondition, Unfinished, GoalFalse}
use Rattle.decoding.specs.FailingAct as General
use Rattle.decoding.specs.FailingAct.{place}
use Rattle.decoding.specs.FailingLaws as GeneralLaws
use Rattle.decoding.specs.FailingLaws.{TestsTell}
use Rattle.decoding.specs.PrintedSteps.{IsNamed}
use Rattle.decoding.proofs.FirstCauses.{first_is_one}
use Rattle.decoding.proofs.FailingSteps.{each_is_solution_or_fails as in_general}
use Rattle.decoding.proofs.Taken.{same_labels}
use Rattle.decoding.proofs.Tests.{tests_tell_causes}
use Rattle.stack_decoding.specs.StackSteps.{HasArguments, IsStepOf, HoldsAtTip, Sentence, FailsBy, SpellsExecutable, StepFails, EndSentence, EndFails, FailsAt, SpellsSolution}
use Rattle.stack_decoding.specs.StackStepLaws.{HasStackWords, IsSolutionOrFails, EachIsSolutionOrFails}
use Rattle.stack_decoding.proofs.ActLists.{Read, reading, steps_are, spells_cells, read_of, read_once}
use Rattle.stack_decoding.proofs.Translated.{to_stack, from_stack}

module _ (c : Compiled) (b : ℕ) (words : HasStackWords c b) (law : IsLawful (network c)) (total : IsTotal (network c)) where
  -- steps that name cells as arguments and are read as the acts whose steps they are
  abbrev pub WideFails : List GroundAction → ℕ → Why → Type 0
  WideFails = General.Fails (network c) State (Allows c) (next c) GroundAction (HasArguments c b) (IsStepOf c) (top_work c) (initial c) (IsGoal c) b

  abbrev WideStepFails : List GroundAction → ℕ → Why → Type 0
  WideStepFails = General.StepFails (network c) State (Allows c) (next c) GroundAction (HasArguments c b) (IsStepOf c) (top_work c) (initial c) b

  abbrev WideEndFails : List GroundAction → ℕ → Why → Type 0
  WideEndFails = General.EndFails (network c) State (Allows c) (next c) GroundAction (HasArguments c b) (IsStepOf c) (top_work c) (initial c) (IsGoal c) b

  abbrev WideEndSentence : Tree (network c) → State → Why → Type 0
  WideEndSentence = General.EndSentence (network c) State (Allows c) (next c) GroundAction (HasArguments c b) (IsStepOf c) (top_work c) (initial c) (IsGoal c)

  abbrev pub WideSolves : List GroundAction → Type 0
  WideSolves = General.SpellsSolution (network c) State (Allows c) (next c) GroundAction (HasArguments c b) (IsStepOf c) (top_work c) (initial c) (IsGoal c) b

  abbrev WideReached : List GroundAction → Tree (network c) → List Address → (Address → ℕ) → Type 0
  WideReached = General.SpellsExecutable (network c) State (Allows c) (next c) GroundAction (HasArguments c b) (IsStepOf c) (top_work c) (initial c) b

  abbrev behind : List (Label (network c)) → State
  behind = last_state (network c) State (Allows c) (next c) (initial c)

  read_in : (steps : List GroundAction) (tree : Tree (network c)) (order : List Address) (cell : Address → ℕ) (r : SpellsExecutable c b steps tree order cell) → Read c b words law total steps r.spelled.0
  read_in steps tree order cell r = subst (λ z. Read c b words law total z r.spelled.0) (sym r.spelled.2) (read_of c b words law total r.spelled.0 tree order cell r.spelled.1)

  abbrev widened : (steps : List GroundAction) (tree : Tree (network c)) (order : List Address) (cell : Address → ℕ) (r : SpellsExecutable c b steps tree order cell) → WideReached steps tree order cell
  widened steps tree order cell r = record { acts = r.spelled.0; read = read_in steps tree order cell r; spells = r.spelled.1.spells; executable = r.executable }

  abbrev cells_in : (steps : List GroundAction) (tree : Tree (network c)) (order : List Address) (cell : Address → ℕ) (r : WideReached steps tree order cell) → SpellsCells (network c) b (top_work c) r.acts tree order cell
  cells_in steps tree order cell r = spells_cells c b words law total steps r.acts tree order cell r.read r.spells

  abbrev narrowed : (steps : List GroundAction) (tree : Tree (network c)) (order : List Address) (cell : Address → ℕ) (r : WideReached steps tree order cell) → SpellsExecutable c b steps tree order cell
  narrowed steps tree order cell r = record { spelled = (r.acts, cells_in steps tree order cell r, steps_are c b words law total steps r.acts r.read); executable = r.executable }

  tests : (steps : List GroundAction) (tree : Tree (network c)) (order : List Address) (cell : Address → ℕ) (r : SpellsExecutable c b steps tree order cell) (s : GroundAction)
      → TestsTell (network c) State (Allows c) (next c) (initial c) (IsGoal c) GroundAction (HasArguments c b) (IsStepOf c) b tree cell (behind r.executable.labels) s
  tests steps tree order cell r s = subst (λ ls. TestsTell (network c) State (Allows c) (next c) (initial c) (IsGoal c) GroundAction (HasArguments c b) (IsStepOf c) b tree cell (behind ls) s)
      (sym (same_labels (network c) State (Allows c) (next c) (initial c) b (top_work c) r.spelled.0 tree order cell r.spelled.1.spells r.executable))
      (tests_tell_causes (network c) State (Allows c) (next c) (initial c) (IsGoal c) GroundAction (HasArguments c b) (IsStepOf c) b (top_work c) r.spelled.0 tree order cell s (reading c b words law total) r.spelled.1.spells)

  widen_end_sentence : (tree : Tree (network c)) (S : State) (why : Why) → EndSentence c b tree S why → WideEndSentence tree S why
  widen_end_sentence tree S Unfinished x = x
  widen_end_sentence tree S GoalFalse x = x
  widen_end_sentence tree S UnknownAction x = x
  widen_end_sentence tree S Arguments x = x
  widen_end_sentence tree S SlotHolds x = x
  widen_end_sentence tree S Waiting x = x
  widen_end_sentence tree S SlotTaken x = x
  widen_end_sentence tree S Constraint x = x
  widen_end_sentence tree S Precondition x = x

  narrow_end_sentence : (tree : Tree (network c)) (S : State) (why : Why) → WideEndSentence tree S why → EndSentence c b tree S why
  narrow_end_sentence tree S Unfinished x = x
  narrow_end_sentence tree S GoalFalse x = x
  narrow_end_sentence tree S UnknownAction x = x
  narrow_end_sentence tree S Arguments x = x
  narrow_end_sentence tree S SlotHolds x = x
  narrow_end_sentence tree S Waiting x = x
  narrow_end_sentence tree S SlotTaken x = x
  narrow_end_sentence tree S Constraint x = x
  narrow_end_sentence tree S Precondition x = x

  module _ (steps : List GroundAction) (n : ℕ) where
    wide_step : (why : Why) → StepFails c b steps n why → ((o : Why) → WideStepFails steps n o → ⊥) → ⊥
    wide_step why f k = from_stack c b words law total f.reached.spelled.0 f.tree f.order f.cell f.reached.spelled.1 (behind f.reached.executable.labels) f.step
        (tests f.before f.tree f.order f.cell f.reached f.step) why f.fails
        (λ o w. k o (record { before = f.before; step = f.step; rest = f.rest; parts = f.parts; place = f.place; tree = f.tree; order = f.order; slot = f.cell; reached = widened f.before f.tree f.order f.cell f.reached; fails = w }))

    wide_end : (why : Why) → EndFails c b steps n why → WideEndFails steps n why
    wide_end why f = record { place = f.place; tree = f.tree; order = f.order; slot = f.cell; reached = widened steps f.tree f.order f.cell f.reached; fails = widen_end_sentence f.tree (behind f.reached.executable.labels) why f.fails }

    widely : (why : Why) → FailsAt c b steps n why → ((o : Why) → WideFails steps n o → ⊥) → ⊥
    widely why (inl f) k = wide_step why f (λ o x. k o (inl x))
    widely why (inr f) k = k why (inr (wide_end why f))

    narrow_step : (o : Why) (f : WideStepFails steps n o) → IsNamed c f.step ⊎ (IsNamed c f.step → ⊥) → (why : Why) × StepFails c b steps n why
    narrow_step o f told =
        let (why, x) = to_stack c b words law total f.reached.acts f.tree f.order f.slot (cells_in f.before f.tree f.order f.slot f.reached) (behind f.reached.executable.labels) f.step told o f.fails in
        (why, record { before = f.before; step = f.step; rest = f.rest; parts = f.parts; place = f.place; tree = f.tree; order = f.order; cell = f.slot; reached = narrowed f.before f.tree f.order f.slot f.reached; fails = x })

    narrow_end : (o : Why) → WideEndFails steps n o → EndFails c b steps n o
    narrow_end o f = record { place = f.place; tree = f.tree; order = f.order; cell = f.slot; reached = narrowed steps f.tree f.order f.slot f.reached; fails = narrow_end_sentence f.tree (behind f.reached.executable.labels) o f.fails }

    -- where it is told which names are printed actions', a wide failure is one
    pub narrowly : ((s : GroundAction) → IsNamed c s ⊎ (IsNamed c s → ⊥)) → (o : Why) → WideFails steps n o → (why : Why) × FailsAt c b steps n why
    narrowly told o (inl f) = let (why, x) = narrow_step o f (told f.step) in (why, inl x)
    narrowly told o (inr f) = (o, inr (narrow_end o f))

    lost : (o : Why) → WideFails steps n o → ((why : Why) → FailsAt c b steps n why → ⊥) → ⊥
    lost o (inl f) k = no_name (λ m. at (inl m))
      where
        at : IsNamed c f.step ⊎ (IsNamed c f.step → ⊥) → ⊥
        at told = let (why, x) = narrow_step o f told in k why (inl x)

        no_name : (IsNamed c f.step → ⊥) → ⊥
        no_name m = at (inr m)
    lost o (inr f) k = k o (inr (narrow_end o f))

  wide_solution : (steps : List GroundAction) → SpellsSolution c b steps → WideSolves steps
  wide_solution steps (tree, order, cell, (acts, sp, e), solution) =
      (acts, tree, order, cell, subst (λ z. Read c b words law total z acts) (sym e) (read_of c b words law total acts tree order cell sp), sp.spells, solution)

  pub narrow_solution : (steps : List GroundAction) → WideSolves steps → SpellsSolution c b steps
  narrow_solution steps (acts, tree, order, cell, r, s, solution) =
      (tree, order, cell, (acts, spells_cells c b words law total steps acts tree order cell r s, steps_are c b words law total steps acts r), solution)

  -- sentences see only the cells of addresses
  same_tip : (tree : Tree (network c)) (f g : Address → ℕ) → SameSlots (network c) tree f g → (h : ℕ) (w : Work) → HoldsAtTip c b tree f h w → HoldsAtTip c b tree g h w
  same_tip tree f g agree h w t = record {
    holds = (t.holds.0, t.holds.1, agree t.holds.0 (waits w, t.holds.1) ∙ t.holds.2);
    highest = λ p o. subst (λ z. z ≤ h) (sym (agree p (waits o.0, o.1))) (t.highest p o);
  }

  same_says : (tree : Tree (network c)) (f g : Address → ℕ) → SameSlots (network c) tree f g → (S : State) (s : GroundAction) (why : Why) → Sentence c b tree g S s why → Sentence c b tree f S s why
  same_says tree f g agree S s UnknownAction x = x
  same_says tree f g agree S s Arguments x = x
  same_says tree f g agree S s SlotHolds x = λ a r t. x a r (same_tip tree f g agree _ _ t)
  same_says tree f g agree S s Waiting x = x
  same_says tree f g agree S s SlotTaken x = x
  same_says tree f g agree S s Constraint x = x
  same_says tree f g agree S s Precondition x = x
  same_says tree f g agree S s Unfinished x = x
  same_says tree f g agree S s GoalFalse x = x

  -- two first causes of one step, at one front told twice
  same_cause : (acts : List (Act (network c))) (t : Tree (network c)) (o : List Address) (f : Address → ℕ) (t' : Tree (network c)) (o' : List Address) (f' : Address → ℕ)
      → Spells (network c) b (top_work c) acts t o f → Spells (network c) b (top_work c) acts t' o' f' → (S : State) (s : GroundAction) (why because : Why)
      → FailsBy c b t f S s why → FailsBy c b t' f' S s because → why ≡ because
  same_cause acts t o f t' o' f' sp sp' S s why because x y =
      let (et, eo, agree) = one_front (network c) law b (top_work c) acts t o f t' o' f' sp sp' in
      let back : SameSlots (network c) t f' f = λ p a. sym (agree p a) in
      let z : FailsBy c b t f' S s because = subst (λ u. FailsBy c b u f' S s because) et y in
      first_is_one (Sentence c b t f S s) why because x.says x.first (same_says t f f' agree S s because z.says) (λ w l h. z.first w l (same_says t f' f back S s w h))

  module _ (steps : List GroundAction) where
    general : GeneralLaws.IsSolutionOrFails (network c) State (Allows c) (next c) (initial c) (IsGoal c) GroundAction (HasArguments c b) (IsStepOf c) b (top_work c) steps
    general = in_general (network c) law State (Allows c) (next c) (initial c) (IsGoal c) GroundAction (HasArguments c b) (IsStepOf c) b (top_work c) steps words.some (reading c b words law total)

    one_place : (n m : ℕ) (why because : Why) → FailsAt c b steps n why → FailsAt c b steps m because → n ≡ m
    one_place n m why because f g = elim (ℕ_discrete n m) [
      | yes e ↦ e
      | no d ↦ absurd (widely steps n why f (λ o x. widely steps m because g (λ p y. d (general.step n m o p x y))))
    ]

    labels_in : (before : List GroundAction) (tree : Tree (network c)) (order : List Address) (cell : Address → ℕ) (r : SpellsExecutable c b before tree order cell) → r.executable.labels ≡ map (label_of (network c)) r.spelled.0
    labels_in before tree order cell r = same_labels (network c) State (Allows c) (next c) (initial c) b (top_work c) r.spelled.0 tree order cell r.spelled.1.spells r.executable

    longer : (xs more : List GroundAction) (s : GroundAction) → length (xs ++ s ∷ more) ≡ suc (length xs + length more)
    longer xs more s = let x = length-append xs (s ∷ more) in omega arith

    steps_cause : (n m : ℕ) (why because : Why) → n ≡ m → StepFails c b steps n why → StepFails c b steps m because → why ≡ because
    steps_cause n m why because same f g = go (cuts f.before f.step f.rest g.before g.step g.rest (sym f.parts ∙ g.parts))
      where
        one : f.before ≡ g.before → f.step ≡ g.step → why ≡ because
        one e k =
            let h : f.reached.spelled.0 ≡ g.reached.spelled.0 = read_once c b words law total g.before f.reached.spelled.0 g.reached.spelled.0
            (subst (λ z. Read c b words law total z f.reached.spelled.0) e (read_in f.before f.tree f.order f.cell f.reached)) (read_in g.before g.tree g.order g.cell g.reached) in
            let ls : g.reached.executable.labels ≡ f.reached.executable.labels = labels_in g.before g.tree g.order g.cell g.reached ∙ ap (map (label_of (network c))) (sym h) ∙ sym (labels_in f.before f.tree f.order f.cell f.reached) in
            let y : FailsBy c b g.tree g.cell (behind f.reached.executable.labels) f.step because =
            subst (λ z. FailsBy c b g.tree g.cell (behind z) f.step because) ls (subst (λ z. FailsBy c b g.tree g.cell (behind g.reached.executable.labels) z because) (sym k) g.fails) in
            same_cause f.reached.spelled.0 f.tree f.order f.cell g.tree g.order g.cell f.reached.spelled.1.spells (subst (λ z. Spells (network c) b (top_work c) z g.tree g.order g.cell) (sym h) g.reached.spelled.1.spells)
            (behind f.reached.executable.labels) f.step why because f.fails y

        go : ((f.before ≡ g.before) × (f.step ≡ g.step)) ⊎ (((more : List GroundAction) × (g.before ≡ f.before ++ f.step ∷ more)) ⊎ ((more : List GroundAction) × (f.before ≡ g.before ++ g.step ∷ more))) → why ≡ because
        go (inl (e, k)) = one e k
        go (inr (inl (more, e))) = absurd (let x = longer f.before more f.step in let y = ap length e in let p = f.place in let q = g.place in omega arith)
        go (inr (inr (more, e))) = absurd (let x = longer g.before more g.step in let y = ap length e in let p = f.place in let q = g.place in omega arith)

    within : (n m : ℕ) (why because : Why) → n ≡ m → StepFails c b steps n why → EndFails c b steps m because → ⊥
    within n m why because same f g = let x = longer f.before f.rest f.step in let y = ap length f.parts in let p = f.place in let q = g.place in omega arith

    one_cause : (n m : ℕ) (why because : Why) → n ≡ m → FailsAt c b steps n why → FailsAt c b steps m because → why ≡ because
    one_cause n m why because same (inl f) (inl g) = steps_cause n m why because same f g
    one_cause n m why because same (inl f) (inr g) = absurd (within n m why because same f g)
    one_cause n m why because same (inr f) (inl g) = absurd (within m n because why (sym same) g f)
    one_cause n m why because same (inr f) (inr g) = general.cause n m why because (inr (wide_end steps n why f)) (inr (wide_end steps m because g))

    pub solution_or_fails : IsSolutionOrFails c b steps
    solution_or_fails = record {
      one_of = λ ns nf. general.one_of (λ x. ns (narrow_solution steps x)) (λ n o x. lost steps n o x (λ why y. nf n why y));
      not_both = λ n why s f. widely steps n why f (λ o x. general.not_both n o (wide_solution steps s) x);
      step = λ n m why because f g. one_place n m why because f g;
      cause = λ n m why because f g. one_cause n m why because (one_place n m why because f g) f g;
    }

pub each_is_solution_or_fails : (c : Compiled) → IsLawful (network c) → IsTotal (network c) → EachIsSolutionOrFails c
each_is_solution_or_fails c law total b steps words = solution_or_fails c b words law total steps
