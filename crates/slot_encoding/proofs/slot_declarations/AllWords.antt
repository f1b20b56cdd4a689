-- The words put in are all of the printed problem.
use Rattle.std.proofs.Common.{ℕ, zero, suc, ◌-◌, ◌≤◌, inl, inr, max, Bool, true, false, cond, List, [], ◌∷◌, ◌++◌, map, filter, length, codes, decimal, refl, arith}
use Rattle.std.proofs.Math.Nat.{le-max_left, le-max_right}
use Rattle.text_forms.specs.Words.{Word}
use Rattle.htn_base.specs.Escapes.{slot_word}
use Rattle.htn_base.specs.declared.name.Name.{Name}
use Rattle.plan_model.specs.task_networks.Spelling.{numbers}
use Rattle.plan_model.specs.declared.types.Object.{Object}
use Rattle.plan_model.specs.declared.schemas.Predicate.{Predicate}
use Rattle.plan_model.specs.declared.schemas.TaskSchema.{TaskSchema}
use Rattle.plan_model.specs.declared.schemas.ActionSchema.{ActionSchema}
use Rattle.plan_model.specs.declared.schemas.MethodPlan.{MethodPlan}
use Rattle.plan_model.specs.declared.values.Compiled.{Compiled}
use Rattle.plan_texts.specs.Types.{Has, EachIs}
use Rattle.plan_texts.proofs.Members.{each-has, has-contains, contains-has}
use Rattle.plan_texts.proofs.Places.{each-join}
use Rattle.slot_encoding.specs.EncodedNames.{joined, checked_methods, guard_types, guard_word}
use Rattle.slot_encoding.specs.EncodedWords.{own_word, own_types, param_words, formula_words, effect_words, numbered, type_words, object_words, slot_variables, held_words, predicate_words, method_word, method_words, action_words, encoded_words, HasEncodedWords}
use Rattle.slot_encoding.proofs.places.Places.{each-from_has}
use Rattle.slot_encoding.proofs.words.Lists.{each-left, each-right, each-part, each-map, each-of_map, each-filter}
use Rattle.slot_encoding.specs.slot_declarations.Vocabulary.{words_of_types, words_of_variables, words_of_slots, single_words, task_word, action_word, check_word, words_of_method, most_task_params, most_action_params, most_method_params, most_children, most_params, numbered_words, generated_words}
use Rattle.slot_encoding.proofs.slot_declarations.Greatest.{each-most}
use Rattle.slot_encoding.proofs.slot_declarations.OwnWords.{own-params, own-formula, own-effect}

-- what holds at each of the first m numbers holds at the first n
fewer : {Y : Type 0} (P : Y → Type 0) (f : ℕ → Y) (i n m : ℕ) → n ≤ m → EachIs P (map f (numbers i m)) → EachIs P (map f (numbers i n))
fewer P f i zero m l e = tt
fewer P f i (suc n) zero l e = absurd (omega arith)
fewer P f i (suc n) (suc m) l e = (e.0, fewer P f (suc i) n m (omega arith) e.1)

each-joined : {X Y : Type 0} (P : Y → Type 0) (f : X → List Y) (xs : List X) → ((x : X) → Has xs x → EachIs P (f x)) → EachIs P (joined (map f xs))
each-joined P f [] h = tt
each-joined P f (x ∷ xs) h = each-join P (f x) (joined (map f xs)) (h x (inl refl)) (each-joined P f xs (λ y k. h y (inr k)))

-- a table with the printed words of all names of the source, and with the generated words
module _ (c : Compiled) (b : ℕ) (names : List Word) (own : (n : Name) → Has names (own_word c n)) (has : EachIs (Has names) (generated_words c b)) where
  abbrev Known : List Word → Type 0
  Known = EachIs (Has names)

  abbrev source : List Word
  source = c.hddl.names

  -- the groups of generated words
  abbrev up_to_slots : List Word
  up_to_slots = single_words ++ map slot_word (numbers 1 b)

  abbrev up_to_tasks : List Word
  up_to_tasks = up_to_slots ++ map (task_word source) c.hddl.tasks

  abbrev up_to_actions : List Word
  up_to_actions = up_to_tasks ++ map (action_word source) c.hddl.actions

  abbrev up_to_methods : List Word
  up_to_methods = up_to_actions ++ joined (map (words_of_method source) c.methods)

  abbrev guards : List Word
  guards = map (guard_word c [] 0) (guard_types c)

  has_numbered : Known (numbered_words c)
  has_numbered = each-right (Has names) (up_to_methods ++ guards) (numbered_words c) has

  has_guards : Known guards
  has_guards = each-right (Has names) up_to_methods guards (each-left (Has names) (up_to_methods ++ guards) (numbered_words c) has)

  has_up_to_methods : Known up_to_methods
  has_up_to_methods = each-left (Has names) up_to_methods guards (each-left (Has names) (up_to_methods ++ guards) (numbered_words c) has)

  has_methods : EachIs (λ plan. Known (words_of_method source plan)) c.methods
  has_methods =
      let all = each-right (Has names) up_to_actions (joined (map (words_of_method source) c.methods)) has_up_to_methods in
      each-from_has (λ plan. Known (words_of_method source plan)) c.methods (λ plan h. each-part (Has names) (words_of_method source) c.methods plan all h)

  has_up_to_actions : Known up_to_actions
  has_up_to_actions = each-left (Has names) up_to_actions (joined (map (words_of_method source) c.methods)) has_up_to_methods

  has_actions : EachIs (λ s. Has names (action_word source s)) c.hddl.actions
  has_actions = each-of_map (Has names) (action_word source) c.hddl.actions (each-right (Has names) up_to_tasks (map (action_word source) c.hddl.actions) has_up_to_actions)

  has_up_to_tasks : Known up_to_tasks
  has_up_to_tasks = each-left (Has names) up_to_tasks (map (action_word source) c.hddl.actions) has_up_to_actions

  has_tasks : EachIs (λ s. Has names (task_word source s)) c.hddl.tasks
  has_tasks = each-of_map (Has names) (task_word source) c.hddl.tasks (each-right (Has names) up_to_slots (map (task_word source) c.hddl.tasks) has_up_to_tasks)

  has_up_to_slots : Known up_to_slots
  has_up_to_slots = each-left (Has names) up_to_slots (map (task_word source) c.hddl.tasks) has_up_to_tasks

  has_slots : Known (map slot_word (numbers 1 b))
  has_slots = each-right (Has names) single_words (map slot_word (numbers 1 b)) has_up_to_slots

  has_single : Known single_words
  has_single = each-left (Has names) single_words (map slot_word (numbers 1 b)) has_up_to_slots

  has_types : Known words_of_types
  has_types = each-left (Has names) words_of_types (words_of_variables ++ words_of_slots) has_single

  has_variables : Known words_of_variables
  has_variables = each-left (Has names) words_of_variables words_of_slots (each-right (Has names) words_of_types (words_of_variables ++ words_of_slots) has_single)

  has_of_slots : Known words_of_slots
  has_of_slots = each-right (Has names) words_of_variables words_of_slots (each-right (Has names) words_of_types (words_of_variables ++ words_of_slots) has_single)

  -- what holds what has parameters
  arguments : (n : ℕ) → n ≤ most_params c → Known (numbered (codes "htn_a") n)
  arguments n l =
      fewer (Has names) (λ k. codes "htn_a" ++ decimal k) 1 n (most_params c) l
      (each-left (Has names) (numbered (codes "htn_a") (most_params c)) (numbered (codes "htn_h") (most_children c.methods - 1)) has_numbered)

  new_slots : (n : ℕ) → n ≤ most_children c.methods → Known (numbered (codes "htn_h") (n - 1))
  new_slots n l =
      fewer (Has names) (λ k. codes "htn_h" ++ decimal k) 1 (n - 1) (most_children c.methods - 1) (omega (arith, l))
      (each-right (Has names) (numbered (codes "htn_a") (most_params c)) (numbered (codes "htn_h") (most_children c.methods - 1)) has_numbered)

  abbrev most_of_tasks : ℕ
  most_of_tasks = most_task_params c.hddl.tasks

  abbrev most_of_actions : ℕ
  most_of_actions = most_action_params c.hddl.actions

  abbrev most_of_methods : ℕ
  most_of_methods = most_method_params c.methods

  of_tasks : (s : TaskSchema) → Has c.hddl.tasks s → Known (held_words c (codes "htn_t_") s.name s.params)
  of_tasks s h =
      let l = each-has (λ (s : TaskSchema). length s.params ≤ most_of_tasks) c.hddl.tasks s (each-most (λ (s : TaskSchema). length s.params) c.hddl.tasks) h in
      let m = le-max_left most_of_tasks most_of_actions in
      let k = le-max_left (max most_of_tasks most_of_actions) most_of_methods in
      (each-has (λ s. Has names (task_word source s)) c.hddl.tasks s has_tasks h, arguments (length s.params) (omega (arith, l, m, k)))

  of_actions : (s : ActionSchema) → Has c.hddl.actions s → Known (held_words c (codes "htn_a_") s.name s.params)
  of_actions s h =
      let l = each-has (λ (s : ActionSchema). length s.params ≤ most_of_actions) c.hddl.actions s (each-most (λ (s : ActionSchema). length s.params) c.hddl.actions) h in
      let m = le-max_right most_of_tasks most_of_actions in
      let k = le-max_left (max most_of_tasks most_of_actions) most_of_methods in
      (each-has (λ s. Has names (action_word source s)) c.hddl.actions s has_actions h, arguments (length s.params) (omega (arith, l, m, k)))

  -- of the methods that have checks
  checked_have : (plans : List MethodPlan) → EachIs (λ plan. Known (words_of_method source plan)) plans → EachIs (λ plan. Has names (check_word source plan)) (filter (λ (plan : MethodPlan). plan.checked) plans)
  checked_have [] h = tt
  checked_have (plan ∷ plans) h = by plan.checked h.0.1 (checked_have plans h.1)
    where
      by : (t : Bool) → Known (cond t (check_word source plan ∷ []) []) → EachIs (λ plan. Has names (check_word source plan)) (filter (λ (plan : MethodPlan). plan.checked) plans)
          → EachIs (λ plan. Has names (check_word source plan)) (cond t (plan ∷ filter (λ (plan : MethodPlan). plan.checked) plans) (filter (λ (plan : MethodPlan). plan.checked) plans))
      by true k r = (k.0, r)
      by false k r = r

  has_checks : EachIs (λ plan. Has names (check_word source plan)) (checked_methods c)
  has_checks = checked_have c.methods has_methods

  of_checks : (plan : MethodPlan) → Has (checked_methods c) plan → Known (held_words c (codes "htn_c_") plan.schema.name plan.schema.params)
  of_checks plan h =
      let few = each-filter (λ (plan : MethodPlan). length plan.schema.params ≤ most_of_methods) (λ (plan : MethodPlan). plan.checked) c.methods (each-most (λ (plan : MethodPlan). length plan.schema.params) c.methods) in
      let l = each-has (λ (plan : MethodPlan). length plan.schema.params ≤ most_of_methods) (checked_methods c) plan few h in
      let k = le-max_right (max most_of_tasks most_of_actions) most_of_methods in
      (each-has (λ plan. Has names (check_word source plan)) (checked_methods c) plan has_checks h, arguments (length plan.schema.params) (omega (arith, l, k)))

  known_predicates : Known (predicate_words c)
  known_predicates =
      let declared = joined (map (λ (p : Predicate). own_word c p.name ∷ param_words source p.params) c.hddl.predicates) in
      let three : List Word = codes "htn_top" ∷ codes "htn_free" ∷ codes "htn_before" ∷ [] in
      let tasks = joined (map (λ (s : TaskSchema). held_words c (codes "htn_t_") s.name s.params) c.hddl.tasks) in
      let actions = joined (map (λ (s : ActionSchema). held_words c (codes "htn_a_") s.name s.params) c.hddl.actions) in
      let checks = joined (map (λ (plan : MethodPlan). held_words c (codes "htn_c_") plan.schema.name plan.schema.params) (checked_methods c)) in
      let of_declared = each-joined (Has names) (λ (p : Predicate). own_word c p.name ∷ param_words source p.params) c.hddl.predicates (λ p h. (own p.name, own-params source names own p.params)) in
      let first = each-join (Has names) declared three of_declared (has_of_slots.0, (has_of_slots.1.0, (has_of_slots.1.1.0, tt))) in
      let second = each-join (Has names) (declared ++ three) tasks first (each-joined (Has names) (λ (s : TaskSchema). held_words c (codes "htn_t_") s.name s.params) c.hddl.tasks of_tasks) in
      let third = each-join (Has names) (declared ++ three ++ tasks) actions second (each-joined (Has names) (λ (s : ActionSchema). held_words c (codes "htn_a_") s.name s.params) c.hddl.actions of_actions) in
      let fourth = each-join (Has names) (declared ++ three ++ tasks ++ actions) checks third (each-joined (Has names) (λ (plan : MethodPlan). held_words c (codes "htn_c_") plan.schema.name plan.schema.params) (checked_methods c) of_checks) in
      each-join (Has names) (declared ++ three ++ tasks ++ actions ++ checks) guards fourth has_guards

  known_types : (types : List Name) → Known (own_types c types)
  known_types [] = tt
  known_types (object ∷ others) = each-map (Has names) (own_word c) others (λ n h. own n)

  -- from method m on; the top method's action has a name of its own
  known_methods : (m : ℕ) (plans : List MethodPlan) → EachIs (λ plan. Known (words_of_method source plan)) plans → EachIs (λ (plan : MethodPlan). length plan.schema.children ≤ most_children c.methods) plans
      → Known (method_words c m plans)
  known_methods m [] h l = tt
  known_methods m (plan ∷ plans) h l =
      let slots = numbered (codes "htn_h") (length plan.schema.children - 1) in
      let params = param_words source plan.schema.params in
      let pre = formula_words source plan.schema.pre in
      each-join (Has names) (method_word c m plan.schema.name ∷ slots ++ params ++ pre) (method_words c (suc m) plans)
      (word m, each-join (Has names) (slots ++ params) pre (each-join (Has names) slots params (new_slots (length plan.schema.children) l.0) (own-params source names own plan.schema.params)) (own-formula source names own plan.schema.pre))
      (known_methods (suc m) plans h.1 l.1)
    where
      word : (k : ℕ) → Has names (method_word c k plan.schema.name)
      word zero = has_of_slots.1.1.1.0
      word (suc k) = h.0.0

  known_actions : Known (action_words c)
  known_actions =
      let methods = method_words c 0 c.methods in
      let checks = map (λ (plan : MethodPlan). codes "htn_c_" ++ own_word c plan.schema.name) (checked_methods c) in
      let each : ActionSchema → List Word = λ (s : ActionSchema). own_word c s.name ∷ param_words source s.params ++ formula_words source s.pre ++ effect_words source s.eff in
      let of_methods = known_methods 0 c.methods has_methods (each-most (λ (plan : MethodPlan). length plan.schema.children) c.methods) in
      let of_checks = each-map (Has names) (check_word source) (checked_methods c) (λ plan h. each-has (λ plan. Has names (check_word source plan)) (checked_methods c) plan has_checks h) in
      let of_source = each-joined (Has names) each c.hddl.actions (λ s h. (
        own s.name,
        each-join (Has names) (param_words source s.params ++ formula_words source s.pre) (effect_words source s.eff)
            (each-join (Has names) (param_words source s.params) (formula_words source s.pre) (own-params source names own s.params) (own-formula source names own s.pre)) (own-effect source names own s.eff),
      )) in
      each-join (Has names) (methods ++ checks) (joined (map each c.hddl.actions)) (each-join (Has names) methods checks of_methods of_checks) of_source

  known_all : Known (encoded_words c b)
  known_all =
      let own_objects = map (λ (x : Object). own_word c x.name) c.hddl.objects in
      let types : Known (type_words c) = (has_types.0, (has_types.1.0, (has_types.1.1.0, known_types c.hddl.types.names))) in
      let objects = each-join (Has names) own_objects (map slot_word (numbers 1 b)) (each-map (Has names) (λ (x : Object). own_word c x.name) c.hddl.objects (λ x h. own x.name)) has_slots in
      let first = each-join (Has names) (type_words c) (object_words c b) types objects in
      let second = each-join (Has names) (type_words c ++ object_words c b) (slot_variables c) first has_variables in
      let third = each-join (Has names) (type_words c ++ object_words c b ++ slot_variables c) (predicate_words c) second known_predicates in
      let fourth = each-join (Has names) (type_words c ++ object_words c b ++ slot_variables c ++ predicate_words c) (action_words c) third known_actions in
      let goal = each-join (Has names) (type_words c ++ object_words c b ++ slot_variables c ++ predicate_words c ++ action_words c) (formula_words source c.hddl.goal) fourth (own-formula source names own c.hddl.goal) in
      (own c.hddl.domain, (own c.hddl.problem, goal))

  pub has-encoded_words : HasEncodedWords c b names
  has-encoded_words w m = has-contains names w (each-has (Has names) (encoded_words c b) w known_all (contains-has (encoded_words c b) w m))
