-- Compiled values that are the same but for names have the same printed types, objects and predicates, with slots and with cells.
use Rattle.std.proofs.Common.{ℕ, suc, ◌≡◌, ◌+◌, cond, ◌==◌, true, List, [], ◌∷◌, ◌++◌, map, length, codes, take, drop, ap, sym, subst, ◌∙◌, append_assoc, append-nil}
use Rattle.std.proofs.lemmas.List.{length-map}
use Rattle.htn_base.specs.Escapes.{slot_word}
use Rattle.plan_texts.specs.SpellsHddl.{hddl_words}
use Rattle.plan_texts.specs.SoundValue.{IsSoundHddl}
use Rattle.plan_texts.specs.Alike.{action_said, task_said}
use Rattle.plan_texts.specs.Together.{Together}
use Rattle.plan_texts.proofs.Together.{maps-length, together-length, together-take}
use Rattle.plan_model.specs.declared.options.Style.TheVariants.{Adl}
use Rattle.plan_model.specs.declared.types.Object.{Object}
use Rattle.plan_model.specs.declared.schemas.Predicate.{Predicate}
use Rattle.plan_model.specs.declared.schemas.TaskSchema.{TaskSchema}
use Rattle.plan_model.specs.declared.schemas.ActionSchema.{ActionSchema}
use Rattle.plan_model.specs.declared.schemas.MethodPlan.{MethodPlan}
use Rattle.plan_model.specs.declared.values.Compiled.{Compiled}
use Rattle.plan_model.specs.task_networks.Spelling.{numbers}
use Rattle.slot_encoding.specs.SourceParts.{retyped, source_param}
use Rattle.slot_encoding.specs.EncodedNames.{guard_types, checked_methods, task_predicate, action_predicate, check_predicate, held, own, generated, guard_word, slot_param, slot_type, object_type, encoded_types, encoded_objects, encoded_predicates}
use Rattle.slot_encoding.proofs.encoded_texts.SameTexts.{some_encoded}
use Rattle.slot_encoding.proofs.places.ListPlaces.{append_same}
use Rattle.plan_proof.specs.Same.{AreSameButNames}
use Rattle.plan_proof.proofs.values.TypeNumbers.{AreApart}
use Rattle.plan_proof.proofs.values.SameActions.{Alike, predicates-count, checked-both, free-same}
use Rattle.plan_proof.proofs.values.SameValue.{encoded_too}
use Rattle.stack_encoding.specs.StackNames.{tip_predicate, up_predicate, stack_objects, stack_predicates}

grouped : {X : Type 0} (us vs xs ys zs : List X) → us ++ vs ++ xs ++ ys ++ zs ≡ us ++ (vs ++ xs ++ ys ++ zs)
grouped us vs xs ys zs = ap (λ t. t ++ ys ++ zs) (append_assoc us vs xs) ∙ ap (λ t. t ++ zs) (append_assoc us (vs ++ xs) ys) ∙ append_assoc us (vs ++ xs ++ ys) zs

module _ (c d : Compiled) (same : AreSameButNames c.hddl d.hddl) (sc : IsSoundHddl c.hddl) (sd : IsSoundHddl d.hddl) (apart : AreApart (hddl_words d.hddl).unions) (plans : Together (Alike c d same sc sd apart) c.methods d.methods) where
  predicates : length c.hddl.predicates ≡ length d.hddl.predicates
  predicates = predicates-count c d same sc sd apart plans

  tasks : length c.hddl.tasks ≡ length d.hddl.tasks
  tasks = maps-length (task_said (hddl_words c.hddl)) (task_said (hddl_words d.hddl)) c.hddl.tasks d.hddl.tasks same.alike.tasks

  actions : length c.hddl.actions ≡ length d.hddl.actions
  actions = maps-length (action_said (hddl_words c.hddl)) (action_said (hddl_words d.hddl)) c.hddl.actions d.hddl.actions same.alike.actions

  -- the numbers of predicates
  pub tip-same : tip_predicate c ≡ tip_predicate d
  tip-same = free-same c d same sc sd apart plans

  pub up-same : up_predicate c ≡ up_predicate d
  up-same = λ i. predicates i + 2

  pub task-same : (t : ℕ) → task_predicate c t ≡ task_predicate d t
  task-same t = λ i. cond (t == tasks i) (predicates i) (predicates i + 3 + t)

  pub action-same : (a : ℕ) → action_predicate c a ≡ action_predicate d a
  action-same a = λ i. predicates i + 3 + tasks i + a

  pub check-same : (m : ℕ) → check_predicate c m ≡ check_predicate d m
  check-same m =
      let h = together-length (Alike c d same sc sd apart) _ _ (checked-both c d same sc sd apart plans (take m c.methods) (take m d.methods) (together-take (Alike c d same sc sd apart) m c.methods d.methods plans)) in
      λ i. predicates i + 3 + tasks i + actions i + h i

  module _ (names : List (List ℕ)) (b : ℕ) where
    -- what is printed with slots, over this table
    pub types-printed : encoded_types c names b ≡ encoded_types d names b
    types-printed = let (q, n, e) = some_encoded d b Adl names in let f = encoded_too c d same sc sd apart plans b Adl q e in subst (λ z. encoded_types c z b ≡ encoded_types d z b) n (sym f.types ∙ e.types)

    with_slots : encoded_objects c names b ≡ encoded_objects d names b
    with_slots = let (q, n, e) = some_encoded d b Adl names in let f = encoded_too c d same sc sd apart plans b Adl q e in subst (λ z. encoded_objects c z b ≡ encoded_objects d z b) n (sym f.objects ∙ e.objects)

    with_free : encoded_predicates c names b ≡ encoded_predicates d names b
    with_free = let (q, n, e) = some_encoded d b Adl names in let f = encoded_too c d same sc sd apart plans b Adl q e in subst (λ z. encoded_predicates c z b ≡ encoded_predicates d z b) n (sym f.predicates ∙ e.predicates)

    -- the generated predicates that both ways have
    abbrev held_tasks : Compiled → List Predicate
    held_tasks x = map (λ (s : TaskSchema). held x names b (codes "htn_t_") s.name s.params) x.hddl.tasks

    abbrev held_actions : Compiled → List Predicate
    held_actions x = map (λ (s : ActionSchema). held x names b (codes "htn_a_") s.name s.params) x.hddl.actions

    abbrev held_checks : Compiled → List Predicate
    held_checks x = map (λ (plan : MethodPlan). held x names b (codes "htn_c_") plan.schema.name plan.schema.params) (checked_methods x)

    abbrev guards : Compiled → List Predicate
    guards x = map (λ ty. record { name = generated x names b (guard_word x names b ty); params = record { name = generated x names b (codes "htn_a1"); ty = object_type } ∷ [] }) (guard_types x)

    abbrev behind : Compiled → List Predicate
    behind x = held_tasks x ++ held_actions x ++ held_checks x ++ guards x

    abbrev source_predicates : Compiled → List Predicate
    source_predicates x = map (λ (p : Predicate). record { name = own x names b p.name; params = map (source_param names x.hddl.names) p.params }) x.hddl.predicates

    abbrev one : (x : Compiled) → List ℕ → Predicate
    one x word = record { name = generated x names b word; params = slot_param x names b (codes "htn_h") ∷ [] }

    abbrev two : (x : Compiled) → List ℕ → Predicate
    two x word = record { name = generated x names b word; params = slot_param x names b (codes "htn_x") ∷ slot_param x names b (codes "htn_h") ∷ [] }

    pub predicates-printed : stack_predicates c names b ≡ stack_predicates d names b
    predicates-printed =
        let long : length (source_predicates c) ≡ length (source_predicates d) = length-map c.hddl.predicates _ ∙ predicates ∙ sym (length-map d.hddl.predicates _) in
        let with = λ (x : Compiled). grouped (source_predicates x) (one x (codes "htn_top") ∷ one x (codes "htn_free") ∷ two x (codes "htn_before") ∷ held_tasks x) (held_actions x) (held_checks x) (guards x) in
        let (f, g) = append_same (source_predicates c) (one c (codes "htn_top") ∷ one c (codes "htn_free") ∷ two c (codes "htn_before") ∷ behind c)
        (source_predicates d) (one d (codes "htn_top") ∷ one d (codes "htn_free") ∷ two d (codes "htn_before") ∷ behind d) long (sym (with c) ∙ with_free ∙ with d) in
        let k : behind c ≡ behind d = ap (drop 3) g in
        let stack = λ (x : Compiled). grouped (source_predicates x) (one x (codes "htn_top") ∷ one x (codes "htn_tip") ∷ two x (codes "htn_up") ∷ held_tasks x) (held_actions x) (held_checks x) (guards x) in
        stack c ∙ (λ i. f i ++ one d (codes "htn_top") ∷ one d (codes "htn_tip") ∷ two d (codes "htn_up") ∷ k i) ∙ sym (stack d)

  module _ (names : List (List ℕ)) (b : ℕ) where
    abbrev source_objects : Compiled → List Object
    source_objects x = map (λ (o : Object). record { name = own x names b o.name; ty = retyped o.ty; constant = true }) x.hddl.objects

    pub objects-printed : stack_objects c names b ≡ stack_objects d names b
    objects-printed =
        let f : source_objects c ≡ source_objects d = sym (append-nil (source_objects c)) ∙ with_slots names 0 ∙ append-nil (source_objects d) in
        λ i. f i ++ map (λ k. record { name = generated d names b (slot_word k); ty = slot_type; constant = true }) (numbers 0 (suc b))
