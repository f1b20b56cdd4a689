-- What was pruned: what is true of one value of the texts is true of each.
use Rattle.std.proofs.Common.{ℕ, ◌≡◌, List, length, refl, sym, ap, ◌∙◌, subst}
use Rattle.std.proofs.lemmas.List.{length-map}
use Rattle.std.proofs.lemmas.Option.{slice_get_within}
use Rattle.outside_io.specs.Sink.{SinkState}
use Rattle.plan_model.specs.declared.networks.Head.{Head}
use Rattle.plan_model.specs.declared.networks.Head.TheVariants.{Task, Action, Check}
use Rattle.plan_model.specs.declared.schemas.MethodSchema.{MethodSchema}
use Rattle.plan_model.specs.declared.values.Hddl.{Hddl}
use Rattle.plan_texts.specs.FirstSeen.{IsHddlOf}
use Rattle.plan_texts.specs.SoundValue.{scope_of, IsSoundHead, IsSoundChild, IsSoundMethod, IsSoundHddl}
use Rattle.text_values.specs.Values.{IsValueOf}
use Rattle.plan_proof.proofs.values.Headlines.{same_but_names}
use Rattle.plan_proof.proofs.values.SameSound.{sound_too}
use Rattle.live_parts.specs.Kept.{Kept, AreKept, IsNumberOf, AreNumbersOf, IsNumbered}
use Rattle.live_parts.specs.Live.{Parts}
use Rattle.live_parts.specs.Pruned.{only, renamed_method, pruned}
use Rattle.live_parts.proofs.OnlyLists.{each_at, only_length}
use Rattle.live_parts.proofs.Places.{at_place}
use Rattle.live_parts.proofs.PrunedNetwork.{reached_in}
use Rattle.live_parts.proofs.PrunedSolutions.{same, as_wide, stay, come_back, one}
use Rattle.hddl_prune.specs.Pruning.{IsPruned, CannotBeSolved}
use Rattle.hddl_texts.specs.PrintedHddl.{hddl_domain_text, hddl_problem_text}
use Rattle.pruned_answers.specs.PrunedTexts.{KeepPlans}
use Rattle.pruned_answers.proofs.OneOutcome.{values_pruned_alike, values_have_one_outcome}
use Rattle.pruned_answers.proofs.PrunedTexts.{pruned_texts_spell}
use Rattle.pruned_answers.proofs.KeptPlans.{pruned_texts_keep_plans, refused_have_no_solution}
use Rattle.htn_cli.specs.Pruning.{kept_line_of, SpellPruned}
use Rattle.htn_cli.specs.Refusal.{line_of}
use Rattle.htn_cli.specs.Sent.{TakesWhole, Told}
use Rattle.htn_cli.specs.promise.Pruning.{ArePrunedTexts, KeepsPruned, TellsUnsolved}
use Rattle.htn_cli.specs.declared.refusal.Finding.TheVariants as finding
use Rattle.htn_cli.specs.declared.refusal.Refusal.TheVariants as refused

-- The numbers of a sound value are in range.
module _ (h : Hddl) (sound : IsSoundHddl h) where
  number_of_head : (head : Head) (n : ℕ) → IsSoundHead h head n → IsNumberOf h head
  number_of_head (Task t) n s = slice_get_within h.tasks t s.0 s.1
  number_of_head (Action a) n s = slice_get_within h.actions a s.0 s.1
  number_of_head Check n s = s

  numbers_of : (s : MethodSchema) → IsSoundMethod h s → AreNumbersOf h s
  numbers_of s m child k = number_of_head child.head (length child.args) (each_at (IsSoundChild h (scope_of h s.params)) s.children m.children child k).0

  numbered : IsNumbered h
  numbered = record {
    top_task = sound.top_task;
    top = numbers_of h.top sound.top;
    methods = λ n s e. (let k = at_place h.methods n s e in (
      number_of_head (Task s.task) (length s.task_args) (each_at (λ (s : MethodSchema). IsSoundHead h (Task s.task) (length s.task_args)) h.methods sound.method_tasks s k),
      numbers_of s (each_at (IsSoundMethod h) h.methods sound.methods s k),
    ));
  }

-- As many schemas are kept as have a number in the lists.
module _ (h : Hddl) (is_numbered : IsNumbered h) (live : Parts) (kept : Kept) (are : AreKept h live kept) where
  tasks_kept : length (pruned kept h).tasks ≡ length kept.tasks
  tasks_kept = only_length h.tasks kept.tasks (λ t k. reached_in h live is_numbered (Task t) ((are.tasks t).0 k))

  actions_kept : length (pruned kept h).actions ≡ length kept.actions
  actions_kept = only_length h.actions kept.actions (λ a k. reached_in h live is_numbered (Action a) ((are.actions a).0 k))

  methods_kept : length (pruned kept h).methods ≡ length kept.methods
  methods_kept =
      length-map (only h.methods kept.methods) (renamed_method kept)
      ∙ only_length h.methods kept.methods (λ n k. (let (c, (s, e, r)) = (are.methods n).0 k in slice_get_within h.methods n s e))

module _ (d p : List ℕ) where
  module _ (value : Hddl) (spell : SpellPruned d p value) (od op : List ℕ) (domain_is : hddl_domain_text value ≡ od) (problem_is : hddl_problem_text value ≡ op) where
    abbrev source : Hddl
    source = spell.source

    abbrev read : IsValueOf d p spell.source
    read = spell.read

    abbrev is : IsPruned spell.source value
    is = spell.pruned

    -- what is kept of another value of the texts
    module _ (h : Hddl) (s : IsHddlOf d p h) where
      abbrev small : Hddl
      small = pruned is.kept h

      sound : IsSoundHddl h
      sound = sound_too h source (same_but_names d p h source s read.spelled read.sound.value) read.sound.value

      is_too : IsPruned h small
      is_too =
          let a = values_pruned_alike d p source h read.spelled s read.sound in
          record {
            live = is.live;
            live_is = (a.live is.live).0 is.live_is;
            solved = (a.solved is.live).0 is.solved;
            kept = is.kept;
            kept_is = (a.kept is.live is.kept).0 is.kept_is;
            is = refl;
          }

      each : ArePrunedTexts (length value.tasks) (length value.methods) (length value.actions) od op h
      unfolding is_too
      each =
          let a = values_pruned_alike d p source h read.spelled s read.sound in
          let own = numbered source read.sound.value in
          let there = numbered h sound in
          record {
            value = small;
            pruned = is_too;
            tasks_are = ap (λ (z : Hddl). length z.tasks) is.is ∙ tasks_kept source own is.live is.kept is.kept_is;
            methods_are = ap (λ (z : Hddl). length z.methods) is.is ∙ methods_kept source own is.live is.kept is.kept_is;
            actions_are = ap (λ (z : Hddl). length z.actions) is.is ∙ actions_kept source own is.live is.kept is.kept_is;
            domain_is = sym domain_is ∙ ap hddl_domain_text is.is ∙ a.domain is.kept;
            problem_is = sym problem_is ∙ ap hddl_problem_text is.is ∙ a.problem is.kept;
            spelled = λ sound ordered. pruned_texts_spell d p h s sound ordered small is_too;
            solutions = λ checks new old is_new is_old. record {
              same = same h checks old new there is_old is.live is.kept is_too.live_is is_too.kept_is is_new;
              as_wide = as_wide h checks old new there is_old is.live is.kept is_too.live_is is_too.kept_is is_new;
              stay = stay h checks old new there is_old is.live is.kept is_too.live_is is_too.kept_is is_new;
              come_back = come_back h checks old new there is_old is.live is.kept is_too.live_is is_too.kept_is is_new;
              one = one h checks old new there is_old is.live is.kept is_too.live_is is_too.kept_is is_new;
            };
          }

    pub keeps_pruned : (out out' : SinkState) → TakesWhole (kept_line_of value) out out' → KeepsPruned d p od op out out'
    keeps_pruned out out' told = record {
      tasks = length value.tasks;
      methods = length value.methods;
      actions = length value.actions;
      told = told;
      kept = each;
      plans = subst (λ z. KeepPlans d p od z) problem_is (subst (λ z. KeepPlans d p z (hddl_problem_text value)) domain_is (pruned_texts_keep_plans d p source read.spelled read.sound read.ordered value is));
    }

  -- a problem that can't be solved
  pub unsolved_here : (source : Hddl) → IsValueOf d p source → CannotBeSolved source → (err err' : SinkState)
      → Told (line_of (refused.Finding finding.NoSolution)) err err' → TellsUnsolved d p err err'
  unsolved_here source read cannot err err' told = record {
    told = told;
    cause = λ h s. ((values_have_one_outcome d p source h read.spelled s read.sound).refused).0 cannot;
    none = refused_have_no_solution d p source read.spelled read.sound read.ordered cannot;
  }
