-- What is compiled of a sound problem is ready for its strata and its bound.
use Rattle.std.proofs.Common.{ℕ, suc, refl, ◌≡◌, ◌<◌, ◌≤◌, List, [], ◌∷◌, length, get_or, Contains, Bool, true, false, ap, sym, subst, ◌∙◌, arith, inl, inr}
use Rattle.std.proofs.lemmas.Option.{slice_get-get_or, slice_get_within}
use Rattle.plan_model.proofs.task_networks.Lists.{head_or_tail}
use Rattle.plan_model.specs.declared.options.Checks.{Checks}
use Rattle.plan_model.specs.declared.networks.Head.TheVariants.{Task}
use Rattle.plan_model.specs.declared.networks.Child.{Child}
use Rattle.plan_model.specs.declared.schemas.MethodSchema.{MethodSchema}
use Rattle.plan_model.specs.declared.schemas.MethodPlan.{MethodPlan}
use Rattle.plan_model.specs.declared.values.Hddl.{Hddl}
use Rattle.plan_model.specs.declared.values.Compiled.{Compiled}
use Rattle.plan_texts.specs.SoundValue.{IsSoundHead, IsSoundMethod, IsSoundChild, scope_of}
use Rattle.plan_texts.proofs.SoundProblems.{small_method, each-contains}
use Rattle.plan_model.specs.plan_meaning.Network.{top_task}
use Rattle.plan_model.specs.plan_meaning.Compilation.{children, check_child, IsMethodPlan, AreMethodPlans}
use Rattle.plan_model.proofs.plan_meaning.CompiledNetworks.{plan_of}
use Rattle.bound_calc.specs.method_precs.Small.{IsFit}
use Rattle.bound_calc.proofs.method_precs.Fits.{children_few, pairs_few}
use Rattle.bound_calc.specs.stratifier.Links.{IsSubtask}
use Rattle.bound_calc.specs.stratifier.Conditions.{IsNumbered, IsSmallMethod, IsSmallCompiled, HaveNoCycle}
use Rattle.bound_calc.proofs.stratifier.Compiled.{have_no_cycle}
use Rattle.bound_calc.specs.Lines.{HaveLines}
use Rattle.plan_texts.specs.SoundlyCompiled.{IsSoundlyCompiled}

plans_count : (h : Hddl) (mode : Checks) (ss : List MethodSchema) (ps : List MethodPlan) → AreMethodPlans h mode ss ps → length ps ≡ length ss
plans_count h mode [] [] a = refl
plans_count h mode [] (p ∷ ps) a = absurd a
plans_count h mode (s ∷ ss) [] a = absurd a
plans_count h mode (s ∷ ss) (p ∷ ps) a = ap suc (plans_count h mode ss ps a.1)

module _ (c : Compiled) (soundly : IsSoundlyCompiled c) where
  abbrev h : Hddl
  h = soundly.problem

  pub ordered : HaveNoCycle c
  ordered = have_no_cycle h soundly.checks c soundly.ordered soundly.compiled

  pub lines : HaveLines c
  lines k d l =
      let (s, i, is) = plan_of h soundly.checks (h.top ∷ h.methods) c.methods k (get_or c.methods k d) soundly.compiled.methods (slice_get-get_or c.methods k d l) in
      is.line

  fit : (s : MethodSchema) → Contains (h.top ∷ h.methods) s → IsFit s
  fit s i = record { within = (soundly.ordered s i).0; acyclic = (soundly.ordered s i).1; small = small_method h soundly.sound.limits.networks s i }

  -- the method and its subtasks have numbers up to that of the top task
  task_within : (s : MethodSchema) → Contains (h.top ∷ h.methods) s → s.task ≤ length h.tasks
  task_within s i = elim (head_or_tail h.top h.methods s i) [
    | inl e ↦ (let f : s.task ≡ h.top.task = ap (λ (z : MethodSchema). z.task) (sym e) in let g = soundly.sound.value.top_task in omega arith)
    | inr j ↦ (let (t, is, n) = each-contains (λ (z : MethodSchema). IsSoundHead h (Task z.task) (length z.task_args)) h.methods soundly.sound.value.method_tasks s j in
        let l = slice_get_within h.tasks s.task t is in omega arith)
  ]

  sound_method : (s : MethodSchema) → Contains (h.top ∷ h.methods) s → IsSoundMethod h s
  sound_method s i = each-contains (IsSoundMethod h) (h.top ∷ h.methods) (soundly.sound.value.top, soundly.sound.value.methods) s i

  written_within : (s : MethodSchema) → Contains (h.top ∷ h.methods) s → (t : ℕ) (child : Child) → Contains s.children child → child.head ≡ Task t → t ≤ length h.tasks
  written_within s i t child k is =
      let x = (each-contains (IsSoundChild h (scope_of h s.params)) s.children (sound_method s i).children child k).0 in
      let (z, at, n) = subst (λ f. IsSoundHead h f (length child.args)) is x in
      let l = slice_get_within h.tasks t z at in omega arith

  subtask_within : (s : MethodSchema) → Contains (h.top ∷ h.methods) s → (b : Bool) (t : ℕ) → IsSubtask (children b s) t → t ≤ length h.tasks
  subtask_within s i false t (child, k, is) = written_within s i t child k is
  subtask_within s i true t (child, k, is) = elim (head_or_tail (check_child s) s.children child k) [
    | inl e ↦ (let f : (check_child s).head ≡ Task t = ap (λ (z : Child). z.head) e ∙ is in absurd (cc))
    | inr j ↦ written_within s i t child j is
  ]

  numbered : (s : MethodSchema) → Contains (h.top ∷ h.methods) s → (p : MethodPlan) → IsMethodPlan h soundly.checks s p → IsNumbered (top_task c) p × IsSmallMethod p
  numbered s i p is =
      let top : length c.hddl.tasks ≡ length h.tasks = ap (λ (z : Hddl). length z.tasks) soundly.compiled.hddl in
      let kids : p.schema.children ≡ children p.checked s = ap (λ (z : MethodSchema). z.children) is.schema in
      let same : p.schema.task ≡ s.task = ap (λ (z : MethodSchema). z.task) is.schema in
      let pairs = ap (λ (z : MethodSchema). length z.pairs) is.schema in (
        record {
          task = let l = task_within s i in omega arith;
          subtasks = λ t k. let l = subtask_within s i p.checked t (subst (λ z. IsSubtask z t) kids k) in omega arith;
        },
        record {
          children = let e = ap length kids in let l = children_few s (fit s i) p.checked in omega arith;
          pairs = let l = pairs_few s (fit s i) p.checked in omega arith;
        },
      )

  plan_is : (k : ℕ) (d : MethodPlan) → k < length c.methods → IsNumbered (top_task c) (get_or c.methods k d) × IsSmallMethod (get_or c.methods k d)
  plan_is k d l =
      let (s, i, is) = plan_of h soundly.checks (h.top ∷ h.methods) c.methods k (get_or c.methods k d) soundly.compiled.methods (slice_get-get_or c.methods k d l) in
      numbered s i (get_or c.methods k d) is

  pub small : IsSmallCompiled c
  small = record {
    tasks = let e = ap (λ (z : Hddl). length z.tasks) soundly.compiled.hddl in let l = soundly.sound.limits.tasks in omega arith;
    methods = let e = plans_count h soundly.checks (h.top ∷ h.methods) c.methods soundly.compiled.methods in let l = soundly.sound.limits.methods in omega arith;
    numbered = λ k d l. (plan_is k d l).0;
    networks = λ k d l. (plan_is k d l).1;
  }
