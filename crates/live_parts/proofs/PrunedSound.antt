-- A pruned problem is sound and ordered, where the problem is.
use Rattle.std.proofs.Common.{ℕ, ◌≡◌, ◌<◌, ◌≤◌, ◌^◌, inl, inr, List, [], ◌∷◌, ◌++◌, map, length, refl, ap, sym, subst, ◌∙◌, Contains, arith}
use Rattle.std.specs.List.{cons_option, filter_map}
use Rattle.std.proofs.lemmas.List.{length-map}
use Rattle.std.proofs.lemmas.List.Elements.{Contains-append_left, Contains-append_right, Contains-append_cases}
use Rattle.std.proofs.lemmas.Option.{slice_get_within}
use Rattle.htn_base.specs.Different.{AreDifferent}
use Rattle.text_forms.specs.Words.{Word}
use Rattle.plan_texts.specs.Declared.{named}
use Rattle.plan_texts.specs.Types.{EachIs}
use Rattle.plan_texts.specs.Printable.{IsPlain}
use Rattle.plan_texts.specs.SpellsHddl.{task_words, action_words}
use Rattle.plan_texts.specs.SoundValue.{scope_of, method_words, IsSoundHead, IsSoundChild, IsSoundMethod, IsSoundHddl}
use Rattle.plan_texts.specs.SoundProblem.{all_methods, IsSmallMethod, IsShort, IsWithinLimits, NamesSubtasks, IsSoundNetwork, IsSoundProblem}
use Rattle.plan_model.specs.declared.networks.Head.{Head}
use Rattle.plan_model.specs.declared.networks.Head.TheVariants.{Task, Action, Check}
use Rattle.plan_model.specs.declared.networks.Child.{Child}
use Rattle.plan_model.specs.declared.schemas.TaskSchema.{TaskSchema}
use Rattle.plan_model.specs.declared.schemas.ActionSchema.{ActionSchema}
use Rattle.plan_model.specs.declared.schemas.MethodSchema.{MethodSchema}
use Rattle.plan_model.specs.declared.values.Hddl.{Hddl}
use Rattle.plan_model.specs.task_networks.Order.{ArePairsOf, IsAcyclic}
use Rattle.plan_model.specs.Pairs.{Pairs}
use Rattle.plan_model.specs.plan_meaning.Laws.{AreOrdered}
use Rattle.plan_model.proofs.task_networks.Different.{different_append}
use Rattle.plan_model.proofs.task_networks.Lists.{head_or_tail, Contains-here, Contains-later}
use Rattle.plan_model.proofs.plan_meaning.Pairs.{map_to}
use Rattle.live_parts.specs.Live.{Parts}
use Rattle.live_parts.specs.Kept.{Kept, IsReached, below_top, below, AreKept, IsNumberOf, AreNumbersOf, IsNumbered}
use Rattle.live_parts.specs.Pruned.{only, place, renamed_head, renamed_child, renamed_method, pruned}
use Rattle.live_parts.proofs.Places.{at_place, to_map}
use Rattle.live_parts.proofs.PrunedPlaces.{rising_differ, place_found, only_at}
use Rattle.live_parts.proofs.Pushed.{place_past}
use Rattle.live_parts.proofs.PrunedNetwork.{reached_in}
use Rattle.live_parts.proofs.OnlyLists.{each_at, each_from, only_to, only_among, only_each, only_length, only_differ, few, differ_parts}

module _ (h : Hddl) (sound : IsSoundProblem h) where
  number_of_head : (head : Head) (n : ℕ) → IsSoundHead h head n → IsNumberOf h head
  number_of_head (Task t) n s = slice_get_within h.tasks t s.0 s.1
  number_of_head (Action a) n s = slice_get_within h.actions a s.0 s.1
  number_of_head Check n s = s

  numbers_of : (s : MethodSchema) → IsSoundMethod h s → AreNumbersOf h s
  numbers_of s m child k = number_of_head child.head (length child.args) (each_at (IsSoundChild h (scope_of h s.params)) s.children m.children child k).0

  pub sound_is_numbered : IsNumbered h
  sound_is_numbered = record {
    top_task = sound.value.top_task;
    top = numbers_of h.top sound.value.top;
    methods = λ n s e. (let k = at_place h.methods n s e in (
      number_of_head (Task s.task) (length s.task_args) (each_at (λ (s : MethodSchema). IsSoundHead h (Task s.task) (length s.task_args)) h.methods sound.value.method_tasks s k),
      numbers_of s (each_at (IsSoundMethod h) h.methods sound.value.methods s k),
    ));
  }

  module _ (live : Parts) (kept : Kept) (are : AreKept h live kept) where
    abbrev H : Hddl
    H = pruned kept h

    tasks_in : (t : ℕ) → Contains kept.tasks t → t < length h.tasks
    tasks_in t k = reached_in h live sound_is_numbered (Task t) ((are.tasks t).0 k)

    actions_in : (a : ℕ) → Contains kept.actions a → a < length h.actions
    actions_in a k = reached_in h live sound_is_numbered (Action a) ((are.actions a).0 k)

    methods_in : (n : ℕ) → Contains kept.methods n → n < length h.methods
    methods_in n k = let (l, (s, e, r)) = (are.methods n).0 k in slice_get_within h.methods n s e

    -- a method of the pruned problem is that of the problem, renamed, and what it names is kept
    record Was (s : MethodSchema) : Type 0 where
      old : MethodSchema
      there : Contains (all_methods h) old
      is : renamed_method kept old ≡ s
      heads : (child : Child) → Contains old.children child → IsReached h live child.head

    record WasMethod (s : MethodSchema) : Type 0 where
      was : Was s
      among : Contains h.methods was.old
      task : IsReached h live (Task was.old.task)

    method_was : (s : MethodSchema) → Contains H.methods s → WasMethod s
    method_was s k =
        let (r, c, e) = map_to (renamed_method kept) (only h.methods kept.methods) s k in
        let (n, d, f) = only_to h.methods kept.methods methods_in r c in
        let (l, (q, g, x)) = (are.methods n).0 d in
        let y : q ≡ r = cc in
        record {
          was = record { old = r; there = Contains-later h.top h.methods r (at_place h.methods n r f); is = e; heads = λ child m. below f l (subst (λ (z : MethodSchema). IsReached h live (Task z.task)) y x) m };
          among = at_place h.methods n r f;
          task = subst (λ (z : MethodSchema). IsReached h live (Task z.task)) y x;
        }

    top_was : Was H.top
    top_was = record { old = h.top; there = Contains-here h.top h.methods; is = refl; heads = λ child k. below_top k }

    was : (s : MethodSchema) → Contains (all_methods H) s → Was s
    was s k = elim (head_or_tail H.top H.methods s k) [ inl e ↦ subst Was e top_was | inr d ↦ (method_was s d).was ]

    each_method : (P Q : MethodSchema → Type 0) → ((s : MethodSchema) → P s → ((child : Child) → Contains s.children child → IsReached h live child.head) → Q (renamed_method kept s)) → EachIs P (all_methods h) → EachIs Q (all_methods H)
    each_method P Q f e = each_from Q (all_methods H) (λ s k. (let w = was s k in subst Q w.is (f w.old (each_at P (all_methods h) e w.old w.there) w.heads)))

    head_sound : (head : Head) (n : ℕ) → IsReached h live head → IsSoundHead h head n → IsSoundHead H (renamed_head kept head) n
    head_sound (Task t) n r (s, e, l) = (s, only_at h.tasks kept.tasks tasks_in (place kept.tasks t) t (place_found kept.tasks t ((are.tasks t).1 r)) ∙ e, l)
    head_sound (Action a) n r (s, e, l) = (s, only_at h.actions kept.actions actions_in (place kept.actions a) a (place_found kept.actions a ((are.actions a).1 r)) ∙ e, l)
    head_sound Check n r x = x

    children_sound : (scope : List Word) (cs : List Child) → ((child : Child) → Contains cs child → IsReached h live child.head) → EachIs (IsSoundChild h scope) cs → EachIs (IsSoundChild H scope) (map (renamed_child kept) cs)
    children_sound scope [] r e = tt
    children_sound scope (c ∷ cs) r e = ((head_sound c.head (length c.args) (r c (Contains-here c cs)) e.0.0, e.0.1), children_sound scope cs (λ x k. r x (Contains-later c cs x k)) e.1)

    method_sound : (s : MethodSchema) → ((child : Child) → Contains s.children child → IsReached h live child.head) → IsSoundMethod h s → IsSoundMethod H (renamed_method kept s)
    method_sound s r m = record { params = m.params; task_args = m.task_args; pre = m.pre; children = children_sound (scope_of h s.params) s.children r m.children; constraints = m.constraints }

    ids_same : (cs : List Child) → filter_map (λ (c : Child). c.id) (map (renamed_child kept) cs) ≡ filter_map (λ (c : Child). c.id) cs
    ids_same [] = refl
    ids_same (c ∷ cs) = ap (cons_option c.id) (ids_same cs)

    names_same : (ss : List MethodSchema) → map (λ (s : MethodSchema). named h.names s.name) (map (renamed_method kept) ss) ≡ map (λ (s : MethodSchema). named h.names s.name) ss
    names_same [] = refl
    names_same (s ∷ ss) = ap (λ ws. named h.names s.name ∷ ws) (names_same ss)

    network_sound : (s : MethodSchema) → IsSoundNetwork h.names s → IsSoundNetwork h.names (renamed_method kept s)
    network_sound s n =
        let e = ap (map (named h.names)) (ids_same s.children) in
        record {
          pairs = subst (λ k. EachIs (NamesSubtasks k) s.pairs) (sym (length-map s.children (renamed_child kept))) n.pairs;
          ids_named = subst (EachIs IsPlain) (sym e) n.ids_named;
          ids_differ = subst AreDifferent (sym e) n.ids_differ;
        }

    -- the words of what is kept are words of the problem
    words_among : {A : Type 0} (f : A → Word) (xs : List A) (ns : List ℕ) → ((n : ℕ) → Contains ns n → n < length xs) → (w : Word) → Contains (map f (only xs ns)) w → Contains (map f xs) w
    words_among f xs ns in_list w k = (let (x, c, e) = map_to f (only xs ns) w k in subst (Contains (map f xs)) e (to_map f xs x (only_among xs ns in_list x c)))

    calls_among : (w : Word) → Contains (task_words H ++ action_words H) w → Contains (task_words h ++ action_words h) w
    calls_among w k = elim (Contains-append_cases (task_words H) (action_words H) w k) [
      | inl c ↦ Contains-append_left (task_words h) (action_words h) w (words_among (λ (t : TaskSchema). named h.names t.name) h.tasks kept.tasks tasks_in w c)
      | inr c ↦ Contains-append_right (task_words h) (action_words h) w (words_among (λ (a : ActionSchema). named h.names a.name) h.actions kept.actions actions_in w c)
    ]

    calls_differ : AreDifferent (task_words H ++ action_words H)
    calls_differ =
        let (a, b, n) = differ_parts (task_words h) (action_words h) sound.value.calls_differ in
        different_append (task_words H) (action_words H)
        (only_differ h.tasks (λ (t : TaskSchema). named h.names t.name) kept.tasks tasks_in (rising_differ kept.tasks are.tasks_in_order) a)
        (only_differ h.actions (λ (t : ActionSchema). named h.names t.name) kept.actions actions_in (rising_differ kept.actions are.actions_in_order) b)
        (λ w c d. n w (words_among (λ (t : TaskSchema). named h.names t.name) h.tasks kept.tasks tasks_in w c) (words_among (λ (a : ActionSchema). named h.names a.name) h.actions kept.actions actions_in w d))

    words_of_methods : method_words H ≡ map (λ (s : MethodSchema). named h.names s.name) (only h.methods kept.methods)
    words_of_methods = names_same (only h.methods kept.methods)

    top_place : H.top.task ≡ length H.tasks
    top_place = ap (place kept.tasks) sound.value.top_task ∙ place_past kept.tasks (length h.tasks) (λ k. (let l = tasks_in (length h.tasks) k in omega arith)) ∙ sym (only_length h.tasks kept.tasks tasks_in)

    value : IsSoundHddl H
    value =
        let v = sound.value in
        record {
          domain = v.domain;
          problem = v.problem;
          words = v.words;
          first = v.first;
          parents = v.parents;
          has_parent = v.has_parent;
          no_cycle = v.no_cycle;
          unions = v.unions;
          objects = v.objects;
          predicates = v.predicates;
          calls_named = each_from IsPlain (task_words H ++ action_words H) (λ w k. each_at IsPlain (task_words h ++ action_words h) v.calls_named w (calls_among w k));
          calls_differ = calls_differ;
          methods_named = subst (EachIs IsPlain) (sym words_of_methods) (each_from IsPlain _ (λ w k. each_at IsPlain (method_words h) v.methods_named w (words_among (λ (s : MethodSchema). named h.names s.name) h.methods kept.methods methods_in w k)));
          methods_differ = subst AreDifferent (sym words_of_methods) (only_differ h.methods (λ (s : MethodSchema). named h.names s.name) kept.methods methods_in (rising_differ kept.methods are.methods_in_order) v.methods_differ);
          task_params = only_each h.tasks _ kept.tasks tasks_in v.task_params;
          action_params = only_each h.actions _ kept.actions actions_in v.action_params;
          pre = only_each h.actions _ kept.actions actions_in v.pre;
          eff = only_each h.actions _ kept.actions actions_in v.eff;
          top_task = top_place;
          top_args = v.top_args;
          top = method_sound h.top (λ child k. below_top k) v.top;
          method_tasks = each_from (λ (s : MethodSchema). IsSoundHead H (Task s.task) (length s.task_args)) H.methods (λ s k. (let w = method_was s k in
              subst (λ (z : MethodSchema). IsSoundHead H (Task z.task) (length z.task_args)) w.was.is
              (head_sound (Task w.was.old.task) (length w.was.old.task_args) w.task (each_at (λ (s : MethodSchema). IsSoundHead h (Task s.task) (length s.task_args)) h.methods v.method_tasks w.was.old w.among))));
          methods = each_from (IsSoundMethod H) H.methods (λ s k. (let w = method_was s k in subst (IsSoundMethod H) w.was.is (method_sound w.was.old w.was.heads (each_at (IsSoundMethod h) h.methods v.methods w.was.old w.among))));
          init = v.init;
          goal = v.goal;
        }

    short : {A : Type 0} (xs : List A) (ns : List ℕ) → AreDifferent ns → ((n : ℕ) → Contains ns n → n < length xs) → IsShort xs → length (only xs ns) ≤ 2 ^ 25
    short xs ns d in_list l = (let a = few (length xs) ns d in_list in let b = only_length xs ns in omega arith)

    limits : IsWithinLimits H
    limits =
        let v = sound.limits in
        record {
          names = v.names;
          types = v.types;
          unions = v.unions;
          objects = v.objects;
          predicates = v.predicates;
          tasks = short h.tasks kept.tasks (rising_differ kept.tasks are.tasks_in_order) tasks_in v.tasks;
          actions = short h.actions kept.actions (rising_differ kept.actions are.actions_in_order) actions_in v.actions;
          methods = (let a = short h.methods kept.methods (rising_differ kept.methods are.methods_in_order) methods_in v.methods in let b = length-map (only h.methods kept.methods) (renamed_method kept) in omega arith);
          init = v.init;
          predicate_params = v.predicate_params;
          task_params = only_each h.tasks _ kept.tasks tasks_in v.task_params;
          action_params = only_each h.actions _ kept.actions actions_in v.action_params;
          method_params = each_method (λ (s : MethodSchema). IsShort s.params) (λ (s : MethodSchema). IsShort s.params) (λ s p r. p) v.method_params;
          networks = each_method IsSmallMethod IsSmallMethod (λ s m r. record { subtasks = (let a = m.subtasks in let b = length-map s.children (renamed_child kept) in omega arith); params = m.params }) v.networks;
        }

    pub is_sound : IsSoundProblem H
    is_sound = record {
      value = value;
      no_condition = sound.no_condition;
      networks = each_method (IsSoundNetwork h.names) (IsSoundNetwork h.names) (λ s n r. network_sound s n) sound.networks;
      limits = limits;
    }

    pub is_ordered : AreOrdered h → AreOrdered H
    is_ordered o s k = (let w = was s k in subst (λ (z : MethodSchema). ArePairsOf (Pairs z.pairs) (length z.children) × IsAcyclic (Pairs z.pairs)) w.is
        (let x = o w.old w.there in (subst (ArePairsOf (Pairs w.old.pairs)) (sym (length-map w.old.children (renamed_child kept))) x.0, x.1)))
