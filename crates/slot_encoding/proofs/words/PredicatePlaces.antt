-- Where the predicates of the printed problem stand, and how many arguments each has.
use Rattle.std.proofs.Common.{ℕ, zero, suc, ◌≡◌, ◌+◌, ◌<◌, Bool, true, false, cond, List, [], ◌∷◌, ◌++◌, map, filter, take, length, slice_get, slice_index, Some, unwrap_or, codes, decimal, refl, ap, sym, ◌∙◌, Contains, arith}
use Rattle.text_forms.specs.Words.{Word}
use Rattle.plan_model.specs.declared.schemas.Predicate.{Predicate}
use Rattle.plan_model.specs.declared.schemas.TaskSchema.{TaskSchema}
use Rattle.plan_model.specs.declared.schemas.ActionSchema.{ActionSchema}
use Rattle.plan_model.specs.declared.schemas.MethodPlan.{MethodPlan}
use Rattle.plan_model.specs.declared.terms.Param.{Param}
use Rattle.plan_model.specs.declared.values.Compiled.{Compiled}
use Rattle.plan_texts.specs.Declared.{named}
use Rattle.plan_texts.specs.SpellsHddl.{hddl_words}
use Rattle.plan_texts.specs.SoundValue.{arities}
use Rattle.plan_texts.proofs.Members.{length-map}
use Rattle.slot_encoding.proofs.places.Places.{get-map}
use Rattle.plan_model.specs.task_networks.Spelling.{numbers}
use Rattle.plan_model.proofs.task_networks.Numbers.{length-numbers}
use Rattle.slot_encoding.specs.SourceParts.{source_param}
use Rattle.slot_encoding.specs.EncodedNames.{own, generated, slot_param, held, held_params, object_type, guard_word, guard_types, checked_methods, encoded_predicates, first_task, first_action, first_check, first_guard, top_predicate, free_predicate, before_predicate, action_predicate, check_predicate, guard_predicate}
use Rattle.slot_encoding.proofs.places.ListPlaces.{get_within, within_get, get_left, get_right, get_to_map, length-joined}
use Rattle.slot_encoding.proofs.places.KeptItems.{position_at}
use Rattle.slot_encoding.proofs.places.Predicates.{is_checked, passed}
use Rattle.slot_encoding.proofs.words.PrintedWords.{printed_words, printed_arities}

module _ {A : Type 0} (test : A → Bool) where
  -- where one that passes stands among those that do
  pub filter_at : (xs : List A) (m : ℕ) (x : A) → slice_get xs m ≡ Some x → test x ≡ true → slice_get (filter test xs) (length (filter test (take m xs))) ≡ Some x
  filter_at [] m x e t = absurd cc
  filter_at (y ∷ xs) zero x e t =
      let f : y ≡ x = cc in
      ap (λ z. slice_get (cond z (y ∷ filter test xs) (filter test xs)) 0) (ap test f ∙ t) ∙ ap Some f
  filter_at (y ∷ xs) (suc m) x e t = go (test y) (filter_at xs m x e t)
    where
      go : (q : Bool) → slice_get (filter test xs) (length (filter test (take m xs))) ≡ Some x → slice_get (cond q (y ∷ filter test xs) (filter test xs)) (length (cond q (y ∷ filter test (take m xs)) (filter test (take m xs)))) ≡ Some x
      go true h = h
      go false h = h

module _ (c : Compiled) (names : List Word) (b : ℕ) where
  abbrev pub printed_predicate : Predicate → Predicate
  printed_predicate p = record { name = own c names b p.name; params = map (source_param names c.hddl.names) p.params }

  abbrev pub held_task : TaskSchema → Predicate
  held_task s = held c names b (codes "htn_t_") s.name s.params

  abbrev pub held_action : ActionSchema → Predicate
  held_action s = held c names b (codes "htn_a_") s.name s.params

  abbrev pub held_check : MethodPlan → Predicate
  held_check plan = held c names b (codes "htn_c_") plan.schema.name plan.schema.params

  abbrev pub guarding : ℕ → Predicate
  guarding ty = record { name = generated c names b (guard_word c names b ty); params = record { name = generated c names b (codes "htn_a1"); ty = object_type } ∷ [] }

  abbrev pub of_slot : List ℕ → Predicate
  of_slot word = record { name = generated c names b word; params = slot_param c names b (codes "htn_h") ∷ [] }

  abbrev pub of_pair : Predicate
  of_pair = record { name = generated c names b (codes "htn_before"); params = slot_param c names b (codes "htn_x") ∷ slot_param c names b (codes "htn_h") ∷ [] }

  abbrev pub first_group : List Predicate
  first_group = map printed_predicate c.hddl.predicates

  abbrev pub task_group : List Predicate
  task_group = of_slot (codes "htn_top") ∷ of_slot (codes "htn_free") ∷ of_pair ∷ map held_task c.hddl.tasks

  abbrev pub action_group : List Predicate
  action_group = map held_action c.hddl.actions

  abbrev pub check_group : List Predicate
  check_group = map held_check (checked_methods c)

  abbrev pub guard_group : List Predicate
  guard_group = map guarding (guard_types c)

  -- predicate n has m arguments
  abbrev pub HasArity : ℕ → ℕ → Type 0
  HasArity n m = (n < length (printed_words c names b).predicates) × (slice_index (printed_arities c names b) n ≡ m)

  abbrev all : List Predicate
  all = encoded_predicates c names b

  arity_at : (n : ℕ) (d : Predicate) → slice_get all n ≡ Some d → HasArity n (length d.params)
  arity_at n d e =
      let l = get_within all n d e in let f = length-map (λ (d : Predicate). named names d.name) all in
      (omega arith, get-map (λ (d : Predicate). length d.params) all n 0 d e)

  at : (n k : ℕ) (d : Predicate) → slice_get all k ≡ Some d → n ≡ k → HasArity n (length d.params)
  at n k d e f = arity_at n d (ap (slice_get all) f ∙ e)

  length-held : (n : ℕ) → length (held_params c names b n) ≡ suc n
  length-held n = omega (arith, length-map {Y = Param} (λ k. record { name = generated c names b (codes "htn_a" ++ decimal k); ty = object_type }) (numbers 1 n), length-numbers 1 n)

  abbrev long : List Predicate → ℕ
  long = length

  length-first : long first_group ≡ length c.hddl.predicates
  length-first = length-map printed_predicate c.hddl.predicates

  length-tasks : long (first_group ++ task_group) ≡ first_action c
  length-tasks = let a = length-first in let d = length-joined first_group task_group in let e = length-map held_task c.hddl.tasks in omega arith

  length-actions : long (first_group ++ task_group ++ action_group) ≡ first_check c
  length-actions = let a = length-tasks in let d = length-joined (first_group ++ task_group) action_group in let e = length-map held_action c.hddl.actions in omega arith

  length-checks : long (first_group ++ task_group ++ action_group ++ check_group) ≡ first_guard c
  length-checks = let a = length-actions in let d = length-joined (first_group ++ task_group ++ action_group) check_group in let e = length-map held_check (checked_methods c) in omega arith

  pub length-predicates : length (encoded_predicates c names b) ≡ first_guard c + length (guard_types c)
  length-predicates = let a = length-checks in let d = length-joined (first_group ++ task_group ++ action_group ++ check_group) guard_group in let e = length-map guarding (guard_types c) in omega arith

  from_tasks : (k : ℕ) (d : Predicate) → slice_get (first_group ++ task_group) k ≡ Some d → slice_get all k ≡ Some d
  from_tasks k d e = get_left (first_group ++ task_group ++ action_group ++ check_group) guard_group k d (get_left (first_group ++ task_group ++ action_group) check_group k d (get_left (first_group ++ task_group) action_group k d e))

  pub source_arity : (n : ℕ) → n < length (hddl_words c.hddl).predicates → HasArity n (slice_index (arities c.hddl) n)
  source_arity n l =
      let f = length-map (λ (d : Predicate). named c.hddl.names d.name) c.hddl.predicates in
      let (d, e) = within_get c.hddl.predicates n (omega arith) in
      let h = at n n (printed_predicate d) (from_tasks n (printed_predicate d) (get_left first_group task_group n (printed_predicate d) (get_to_map printed_predicate c.hddl.predicates n d e))) refl in
      (h.0, h.1 ∙ length-map (source_param names c.hddl.names) d.params ∙ sym (get-map (λ (d : Predicate). length d.params) c.hddl.predicates n 0 d e))

  in_tasks : (n j : ℕ) (d : Predicate) → slice_get task_group j ≡ Some d → n ≡ length c.hddl.predicates + j → HasArity n (length d.params)
  in_tasks n j d e f = at n (length first_group + j) d (from_tasks (length first_group + j) d (get_right first_group task_group j d e)) (f ∙ ap (λ z. z + j) (sym length-first))

  pub top_arity : HasArity (top_predicate c) 1
  top_arity = in_tasks (top_predicate c) 0 (of_slot (codes "htn_top")) refl (omega arith)

  pub free_arity : HasArity (free_predicate c) 1
  free_arity = in_tasks (free_predicate c) 1 (of_slot (codes "htn_free")) refl (omega arith)

  pub before_arity : HasArity (before_predicate c) 2
  before_arity = in_tasks (before_predicate c) 2 of_pair refl (omega arith)

  held_arity : (n m : ℕ) → HasArity n (length (held_params c names b m)) → HasArity n (suc m)
  held_arity n m h = (h.0, h.1 ∙ length-held m)

  pub task_arity : (t : ℕ) (s : TaskSchema) → slice_get c.hddl.tasks t ≡ Some s → HasArity (first_task c + t) (suc (length s.params))
  task_arity t s e = held_arity (first_task c + t) (length s.params) (in_tasks (first_task c + t) (suc (suc (suc t))) (held_task s) (get_to_map held_task c.hddl.tasks t s e) (omega arith))

  pub action_arity : (a : ℕ) (s : ActionSchema) → slice_get c.hddl.actions a ≡ Some s → HasArity (action_predicate c a) (suc (length s.params))
  action_arity a s e =
      let d = held_action s in
      let g = get_right (first_group ++ task_group) action_group a d (get_to_map held_action c.hddl.actions a s e) in
      let k = length (first_group ++ task_group) + a in
      held_arity (action_predicate c a) (length s.params) (at (action_predicate c a) k d (get_left (first_group ++ task_group ++ action_group ++ check_group) guard_group k d (get_left (first_group ++ task_group ++ action_group) check_group k d g)) (ap (λ z. z + a) (sym length-tasks)))

  pub check_arity : (m : ℕ) (plan : MethodPlan) → slice_get c.methods m ≡ Some plan → plan.checked ≡ true → HasArity (check_predicate c m) (suc (length plan.schema.params))
  check_arity m plan e t =
      let d = held_check plan in
      let i = passed is_checked m c.methods in
      let g = get_right (first_group ++ task_group ++ action_group) check_group i d (get_to_map held_check (checked_methods c) i plan (filter_at is_checked c.methods m plan e t)) in
      let k = length (first_group ++ task_group ++ action_group) + i in
      held_arity (check_predicate c m) (length plan.schema.params) (at (check_predicate c m) k d (get_left (first_group ++ task_group ++ action_group ++ check_group) guard_group k d g) (ap (λ z. z + i) (sym length-actions)))

  pub guard_arity : (ty : ℕ) → Contains (guard_types c) ty → HasArity (guard_predicate c ty) 1
  guard_arity ty m =
      let (i, f, e) = position_at ty (guard_types c) m in
      let d = guarding ty in
      let g = get_right (first_group ++ task_group ++ action_group ++ check_group) guard_group i d (get_to_map guarding (guard_types c) i ty e) in
      at (guard_predicate c ty) (length (first_group ++ task_group ++ action_group ++ check_group) + i) d g (let h = ap (λ z. unwrap_or z 0) f in let l = length-checks in omega arith)
