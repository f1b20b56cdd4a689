-- The list of each worked row is a plan of every problem that is printed for it, in either style.
use Rattle.std.proofs.Common.{ℕ, ◌≡◌, [], ◌∷◌, List, refl, subst}
use Rattle.plan_model.specs.declared.options.Style.{Style}
use Rattle.plan_model.specs.declared.options.Checks.{Checks}
use Rattle.plan_model.specs.declared.options.Checks.TheVariants.{Leaf, AtOnce}
use Rattle.plan_model.specs.declared.steps.GroundAction.{GroundAction}
use Rattle.plan_model.specs.declared.formulas.Formula.{Formula}
use Rattle.plan_model.specs.declared.formulas.Formula.TheVariants.{Holds}
use Rattle.plan_model.specs.declared.terms.GroundAtom.{GroundAtom}
use Rattle.plan_model.specs.declared.schemas.ActionSchema.{ActionSchema}
use Rattle.plan_model.specs.declared.schemas.MethodSchema.{MethodSchema}
use Rattle.plan_texts.specs.Types.{EachIs}
use Rattle.plan_model.specs.declared.values.Hddl.{Hddl}
use Rattle.plan_model.specs.declared.values.Compiled.{Compiled}
use Rattle.plan_model.specs.declared.values.Pddl.{Pddl}
use Rattle.plan_model.specs.task_networks.Tree.{Tree, Address}
use Rattle.text_forms.specs.Words.{Word}
use Rattle.plan_texts.specs.SpellsHddl.{hddl_words}
use Rattle.plan_texts.specs.Printable.{IsSound, IsSoundEffect}
use Rattle.plan_texts.specs.PrintableValue.{IsPrintable}
use Rattle.plan_texts.specs.SoundValue.{IsSoundHddl, arities, scope_of}
use Rattle.plan_model.specs.plan_meaning.ClassicalPlan.{IsExecutable, IsPlan}
use Rattle.plan_model.specs.plan_meaning.Compilation.{IsCompiled}
use Rattle.slot_encoding.specs.EncodedValue.{IsEncoded}
use Rattle.plan_model.specs.plan_meaning.Laws.{AreOrdered}
use Rattle.plan_model.specs.plan_meaning.Network.{network}
use Rattle.plan_model.specs.plan_meaning.Solution.{IsSolution, IsExecutableFront}
use Rattle.plan_model.specs.plan_meaning.SpelledPlan.{IsSpelling}
use Rattle.plan_model.proofs.plan_meaning.examples.RowValues.{always, nothing}
use Rattle.plan_model.proofs.plan_meaning.examples.CompiledValues.{smallest_is_compiled, empty_is_compiled, tail_recursion_is_compiled, seeing_is_compiled, waiting_is_compiled}
use Rattle.plan_model.proofs.plan_meaning.examples.CompiledRows.{late_check_is_compiled, tested_method_is_compiled, guarded_is_compiled, free_variable_is_compiled}
use Rattle.plan_model.proofs.plan_meaning.examples.SmallestRow as Smallest
use Rattle.plan_model.proofs.plan_meaning.examples.SmallestRow.{smallest}
use Rattle.plan_model.proofs.plan_meaning.examples.EmptyRow as Empty
use Rattle.plan_model.proofs.plan_meaning.examples.EmptyRow.{empty}
use Rattle.plan_model.proofs.plan_meaning.examples.TailRecursionRow as Tail
use Rattle.plan_model.proofs.plan_meaning.examples.TailRecursionRow.{tail_recursion}
use Rattle.plan_model.proofs.plan_meaning.examples.AllObjectsSolution as All
use Rattle.plan_model.proofs.plan_meaning.examples.AllObjectsSolution.{seeing, all_objects}
use Rattle.plan_model.proofs.plan_meaning.examples.WaitingRow as Waiting
use Rattle.plan_model.proofs.plan_meaning.examples.WaitingRow.{waiting}
use Rattle.plan_model.proofs.plan_meaning.examples.LateCheckRow as Late
use Rattle.plan_model.proofs.plan_meaning.examples.LateCheckRow.{late_hddl, late_check}
use Rattle.plan_model.proofs.plan_meaning.examples.TestedMethodRow as Tested
use Rattle.plan_model.proofs.plan_meaning.examples.TestedMethodRow.{tested_method}
use Rattle.plan_model.proofs.plan_meaning.examples.FreeVariableRow as Free
use Rattle.plan_model.proofs.plan_meaning.examples.FreeVariableRow.{free_variable}
use Rattle.plan_model.proofs.plan_meaning.examples.GuardRow as Guard
use Rattle.plan_model.proofs.plan_meaning.examples.GuardRow.{guard_hddl, guarded}
use Rattle.plan_proof.specs.Faithful.{IsFaithfulValue}
use Rattle.plan_proof.proofs.machine.PrintedMeans.{printed_faithful}
use Rattle.plan_proof.proofs.examples.SoundChecks.{HasSoundFormulas, sound_by, ordered_by, sound-Holds, sound-And, sound-Forall, sound-Add, sound-Both}

-- what is true of each printable problem that is encoded for c with b slots, in either style
abbrev pub OfEachPrinted : Compiled → ℕ → (Pddl → Type 0) → Type 0
OfEachPrinted c b P = (style : Style) (p : Pddl) → IsPrintable p → IsEncoded c b style p → P p

-- what the laws ask of a compiled problem
pub record IsLawfulRow (mode : Checks) (c : Compiled) : Type 0 where
  pub sound : IsSoundHddl c.hddl
  pub compiled : IsCompiled c.hddl mode c
  pub ordered : AreOrdered c.hddl

module _ (mode : Checks) (c : Compiled) (b : ℕ) (row : IsLawfulRow mode c) where
  pub row_faithful : OfEachPrinted c b (IsFaithfulValue c b)
  row_faithful style p printable encoded = printed_faithful c.hddl mode c b style p row.ordered (record { sound = row.sound; compiled = row.compiled; printable = printable; encoded = encoded })

  module _ (steps : List GroundAction) (tree : Tree (network c)) (order : List Address) (slot : Address → ℕ) (spelled : IsSpelling c b steps tree order slot) where
    pub front_executable : IsExecutableFront c tree order → OfEachPrinted c b (λ p. IsExecutable p steps)
    front_executable f style p printable encoded = ((row_faithful style p printable encoded).executable steps).1 (tree, order, slot, spelled, f)

    pub solution_plan : IsSolution c tree order → OfEachPrinted c b (λ p. IsPlan p steps × IsExecutable p steps)
    solution_plan s style p printable encoded = (
      ((row_faithful style p printable encoded).plans steps).1 (tree, order, slot, spelled, s),
      front_executable (record { front = s.finished.front; executable = s.executable }) style p printable encoded,
    )

-- empty conjunctions are sound
module _ (h : Hddl) where
  pub sound_always : (scope : List Word) → IsSound (hddl_words h) (arities h) always scope
  sound_always scope = sound-And (hddl_words h) (arities h) scope [] tt

  pub sound_nothing : (scope : List Word) → IsSoundEffect (hddl_words h) (arities h) nothing scope
  sound_nothing scope = sound-Both (hddl_words h) (arities h) scope [] tt

  -- without conditions and effects there is nothing to ask
  pub plain_formulas : EachIs (λ (a : ActionSchema). (always ≡ a.pre) × (nothing ≡ a.eff)) h.actions → always ≡ h.top.pre → EachIs (λ (s : MethodSchema). always ≡ s.pre) h.methods → always ≡ h.goal → HasSoundFormulas h
  plain_formulas actions top methods goal = record {
    pre = pres h.actions actions;
    eff = effs h.actions actions;
    top = when_always (scope_of h h.top.params) h.top.pre top;
    methods = method_pres h.methods methods;
    goal = when_always [] h.goal goal;
  }
    where
      when_always : (scope : List Word) (f : Formula) → always ≡ f → IsSound (hddl_words h) (arities h) f scope
      when_always scope f e = subst (λ g. IsSound (hddl_words h) (arities h) g scope) e (sound-And (hddl_words h) (arities h) scope [] tt)

      pres : (schemas : List ActionSchema) → EachIs (λ (a : ActionSchema). (always ≡ a.pre) × (nothing ≡ a.eff)) schemas → EachIs (λ (a : ActionSchema). IsSound (hddl_words h) (arities h) a.pre (scope_of h a.params)) schemas
      pres [] e = tt
      pres (a ∷ schemas) e = (when_always (scope_of h a.params) a.pre e.0.0, pres schemas e.1)

      effs : (schemas : List ActionSchema) → EachIs (λ (a : ActionSchema). (always ≡ a.pre) × (nothing ≡ a.eff)) schemas → EachIs (λ (a : ActionSchema). IsSoundEffect (hddl_words h) (arities h) a.eff (scope_of h a.params)) schemas
      effs [] e = tt
      effs (a ∷ schemas) e = (subst (λ g. IsSoundEffect (hddl_words h) (arities h) g (scope_of h a.params)) e.0.1 (sound-Both (hddl_words h) (arities h) (scope_of h a.params) [] tt), effs schemas e.1)

      method_pres : (ss : List MethodSchema) → EachIs (λ (s : MethodSchema). always ≡ s.pre) ss → EachIs (λ (s : MethodSchema). IsSound (hddl_words h) (arities h) s.pre (scope_of h s.params)) ss
      method_pres [] e = tt
      method_pres (s ∷ ss) e = (when_always (scope_of h s.params) s.pre e.0, method_pres ss e.1)

abbrev pub IsPrintedPlan : Compiled → ℕ → List GroundAction → Type 0
IsPrintedPlan c b steps = OfEachPrinted c b (λ p. IsPlan p steps × IsExecutable p steps)

-- m: t -> a, with t on top
pub smallest_row : (mode : Checks) → IsLawfulRow mode smallest
smallest_row mode = record { sound = sound_by smallest.hddl refl (plain_formulas smallest.hddl ((refl, refl), tt) refl (refl, tt) refl); compiled = smallest_is_compiled mode; ordered = ordered_by smallest.hddl refl }

pub smallest_plan : IsPrintedPlan smallest 1 Smallest.steps
smallest_plan = solution_plan Leaf smallest 1 (smallest_row Leaf) Smallest.steps Smallest.tree Smallest.order Smallest.slot Smallest.spelled Smallest.solution

-- nothing on top
pub empty_row : (mode : Checks) → IsLawfulRow mode empty
empty_row mode = record { sound = sound_by empty.hddl refl (plain_formulas empty.hddl ((refl, refl), tt) refl (refl, tt) refl); compiled = empty_is_compiled mode; ordered = ordered_by empty.hddl refl }

pub empty_plan : IsPrintedPlan empty 1 Empty.steps
empty_plan = solution_plan Leaf empty 1 (empty_row Leaf) Empty.steps Empty.tree ([] ∷ []) (λ q. 1) Empty.spelled Empty.solution

-- m1: t -> a < t and m0: t -> nothing
pub tail_recursion_row : (mode : Checks) → IsLawfulRow mode tail_recursion
tail_recursion_row mode = record { sound = sound_by tail_recursion.hddl refl (plain_formulas tail_recursion.hddl ((refl, refl), tt) refl (refl, (refl, tt)) refl); compiled = tail_recursion_is_compiled mode; ordered = ordered_by tail_recursion.hddl refl }

pub tail_recursion_plan : IsPrintedPlan tail_recursion 2 Tail.steps
tail_recursion_plan = solution_plan Leaf tail_recursion 2 (tail_recursion_row Leaf) Tail.steps Tail.tree Tail.order Tail.slot Tail.spelled Tail.solution

-- a asks that all objects are seen
pub seeing_formulas : (init : List GroundAtom) → HasSoundFormulas (seeing init).hddl
seeing_formulas init =
    let h = (seeing init).hddl in
    let a = sound_always h [] in
    let s = sound-Forall (hddl_words h) (arities h) [] All.any (Holds All.seen) refl (sound-Holds (hddl_words h) (arities h) (scope_of h All.any) All.seen refl) in
    record { pre = (s, tt); eff = (sound_nothing h [], tt); top = a; methods = (a, tt); goal = a }

pub all_objects_row : (mode : Checks) → IsLawfulRow mode all_objects
all_objects_row mode = record { sound = sound_by all_objects.hddl refl (seeing_formulas all_objects.hddl.init); compiled = seeing_is_compiled all_objects.hddl.init mode; ordered = ordered_by all_objects.hddl refl }

pub all_objects_plan : IsPrintedPlan all_objects 1 All.steps
all_objects_plan = solution_plan Leaf all_objects 1 (all_objects_row Leaf) All.steps (All.tree all_objects.hddl.init) All.order (λ q. 1) (All.spelled all_objects.hddl.init) All.solution

-- x < y on top, with x by mx: x -> p, q
pub waiting_row : (mode : Checks) → IsLawfulRow mode waiting
waiting_row mode = record { sound = sound_by waiting.hddl refl (plain_formulas waiting.hddl ((refl, refl), ((refl, refl), ((refl, refl), tt))) refl (refl, tt) refl); compiled = waiting_is_compiled mode; ordered = ordered_by waiting.hddl refl }

pub waiting_plan : IsPrintedPlan waiting 3 Waiting.steps
waiting_plan = solution_plan Leaf waiting 3 (waiting_row Leaf) Waiting.steps Waiting.tree Waiting.order Waiting.slot Waiting.spelled Waiting.solution

-- another branch makes the precondition of m true; it is asked by a check, or as m is applied
late_formulas : HasSoundFormulas late_hddl
late_formulas =
    let a = sound_always late_hddl [] in
    let e = sound-Add (hddl_words late_hddl) (arities late_hddl) [] Late.ready refl in
    record { pre = (a, (a, tt)); eff = (sound_nothing late_hddl [], (e, tt)); top = a; methods = (sound-Holds (hddl_words late_hddl) (arities late_hddl) [] Late.ready refl, tt); goal = a }

pub late_check_row : IsLawfulRow Leaf late_check
late_check_row = record { sound = sound_by late_hddl refl late_formulas; compiled = late_check_is_compiled; ordered = ordered_by late_hddl refl }

pub late_check_plan : IsPrintedPlan late_check 3 Late.steps
late_check_plan = solution_plan Leaf late_check 3 late_check_row Late.steps Late.tree Late.order Late.slot Late.spelled Late.solution

pub tested_method_row : IsLawfulRow AtOnce tested_method
tested_method_row = record { sound = sound_by late_hddl refl late_formulas; compiled = tested_method_is_compiled; ordered = ordered_by late_hddl refl }

pub tested_method_plan : IsPrintedPlan tested_method 2 Tested.steps
tested_method_plan = solution_plan AtOnce tested_method 2 tested_method_row Tested.steps Tested.tree Tested.order Tested.slot Tested.spelled Tested.solution

-- m has a parameter, which stands in its precondition alone
pub free_variable_row : IsLawfulRow Leaf free_variable
free_variable_row = record { sound = sound_by free_variable.hddl refl formulas; compiled = free_variable_is_compiled; ordered = ordered_by free_variable.hddl refl }
  where
    formulas : HasSoundFormulas free_variable.hddl
    formulas =
        let a = sound_always free_variable.hddl [] in
        record { pre = (a, tt); eff = (sound_nothing free_variable.hddl [], tt); top = a; methods = (sound-Holds (hddl_words free_variable.hddl) (arities free_variable.hddl) _ Free.good_o refl, tt); goal = a }

pub free_variable_plan : IsPrintedPlan free_variable 2 Free.steps
free_variable_plan = solution_plan Leaf free_variable 2 free_variable_row Free.steps (Free.tree 1) Free.order Free.slot Free.spelled Free.solution

-- m paints a block, and paint takes red ones: r1 is one
pub guard_row : (mode : Checks) → IsLawfulRow mode guarded
guard_row mode = record { sound = sound_by guard_hddl refl (plain_formulas guard_hddl ((refl, refl), tt) refl (refl, tt) refl); compiled = guarded_is_compiled mode; ordered = ordered_by guard_hddl refl }

pub guard_plan : IsPrintedPlan guarded 1 Guard.steps
guard_plan = solution_plan Leaf guarded 1 (guard_row Leaf) Guard.steps Guard.tree Guard.order (λ q. 1) Guard.spelled Guard.solution
