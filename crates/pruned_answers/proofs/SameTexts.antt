-- Values that are the same but for the numbers of names have the same two printed texts.
use Rattle.std.proofs.Common.{◌≡◌, not, Bool, true, false, cond, List, [], ◌∷◌, ◌++◌, map, filter, codes, refl, ap, sym, ◌∙◌}
use Rattle.text_forms.specs.Lists.{Part, name, nothing, part}
use Rattle.text_forms.specs.Words.{Word, word_at}
use Rattle.text_forms.specs.Printing.{headed, page}
use Rattle.plan_texts.specs.Declared.{Declared}
use Rattle.plan_texts.specs.SpellsHddl.{hddl_words, task_words, action_words}
use Rattle.plan_texts.specs.Alike.{object_said, predicate_said, action_said, task_said, method_said}
use Rattle.plan_texts.specs.Printed.{all_parts, typed_parts, applied_part, formula_part}
use Rattle.plan_texts.specs.PrintedTexts.{object_words, parent_words, predicate_part, action_part}
use Rattle.plan_texts.proofs.Unique.{map-map}
use Rattle.plan_model.specs.declared.terms.Term.TheVariants.{Obj}
use Rattle.plan_model.specs.declared.terms.GroundAtom.{GroundAtom}
use Rattle.plan_model.specs.declared.types.Object.{Object}
use Rattle.plan_model.specs.declared.types.Parent.{Parent}
use Rattle.plan_model.specs.declared.values.Hddl.{Hddl}
use Rattle.slot_encoding.proofs.encoded_texts.SaidParts.{bare, put, formula-put}
use Rattle.hddl_texts.specs.PrintedHddl.{task_part, method_part, top_part, requirements, hddl_domain_text, hddl_problem_text}
use Rattle.plan_proof.specs.Same.{AreSameButNames}
use Rattle.pruned_answers.proofs.PrintedSaid.{put_predicate, put_task, put_action, put_method, put_top, predicate-put, task-put, action-put, method-put, top-put}

-- what is said of each item
module _ {X Y Z : Type 0} (f : X → Z) (g : X → Y) (k : Y → Z) (same : (x : X) → f x ≡ k (g x)) where
  maps-put : (xs : List X) → map f xs ≡ map k (map g xs)
  maps-put [] = refl
  maps-put (x ∷ xs) = let e = same x in let r = maps-put xs in λ i. e i ∷ r i

  -- and of those that pass a test which goes by what is said
  filter-put : (test : Y → Bool) (xs : List X) → map f (filter (λ x. test (g x)) xs) ≡ map k (filter test (map g xs))
  filter-put test [] = refl
  filter-put test (x ∷ xs) = go (test (g x)) (filter-put test xs)
    where
      go : (b : Bool) → map f (filter (λ x. test (g x)) xs) ≡ map k (filter test (map g xs))
          → map f (cond b (x ∷ filter (λ x. test (g x)) xs) (filter (λ x. test (g x)) xs)) ≡ map k (cond b (g x ∷ filter test (map g xs)) (filter test (map g xs)))
      go true r = let e = same x in λ i. e i ∷ r i
      go false r = r

abbrev put_object : Word × Word × Bool → Word × List Word
put_object x = (x.0, x.1 ∷ [])

module _ (c d : Hddl) (same : AreSameButNames c d) where
  abbrev v : Declared
  v = hddl_words c

  abbrev w : Declared
  w = hddl_words d

  objects-same : v.objects ≡ w.objects
  objects-same = map-map (object_said v) (λ z. z.0) c.objects ∙ ap (map (λ z. z.0)) same.alike.objects ∙ sym (map-map (object_said w) (λ z. z.0) d.objects)

  predicates-same : v.predicates ≡ w.predicates
  predicates-same = map-map (predicate_said v) (λ z. z.0) c.predicates ∙ ap (map (λ z. z.0)) same.alike.predicates ∙ sym (map-map (predicate_said w) (λ z. z.0) d.predicates)

  tasks-same : task_words c ≡ task_words d
  tasks-same = map-map (task_said v) (λ z. z.0) c.tasks ∙ ap (map (λ z. z.0)) same.alike.tasks ∙ sym (map-map (task_said w) (λ z. z.0) d.tasks)

  actions-same : action_words c ≡ action_words d
  actions-same = map-map (action_said v) (λ z. z.0) c.actions ∙ ap (map (λ z. z.0)) same.alike.actions ∙ sym (map-map (action_said w) (λ z. z.0) d.actions)

  abbrev pair_of : List Word → Parent → Word × List Word
  pair_of types x = (word_at types x.child, word_at types x.parent ∷ [])

  parents : map (parent_words v) c.types.parents ≡ map (parent_words w) d.types.parents
  parents = λ i. map (pair_of (same.types i)) (same.parents i)

  listed : (test : Bool → Bool) → map (object_words v) (filter (λ (x : Object). test x.constant) c.objects) ≡ map (object_words w) (filter (λ (x : Object). test x.constant) d.objects)
  listed test =
      filter-put (object_words v) (object_said v) put_object (λ x. refl) (λ z. test z.2) c.objects
      ∙ ap (λ z. map put_object (filter (λ y. test y.2) z)) same.alike.objects
      ∙ sym (filter-put (object_words w) (object_said w) put_object (λ x. refl) (λ z. test z.2) d.objects)

  predicates : map (predicate_part v) c.predicates ≡ map (predicate_part w) d.predicates
  predicates =
      maps-put (predicate_part v) (predicate_said v) put_predicate (predicate-put c) c.predicates
      ∙ ap (map put_predicate) same.alike.predicates
      ∙ sym (maps-put (predicate_part w) (predicate_said w) put_predicate (predicate-put d) d.predicates)

  tasks : map (task_part c) c.tasks ≡ map (task_part d) d.tasks
  tasks = maps-put (task_part c) (task_said v) put_task (task-put c) c.tasks ∙ ap (map put_task) same.alike.tasks ∙ sym (maps-put (task_part d) (task_said w) put_task (task-put d) d.tasks)

  actions : map (action_part v) c.actions ≡ map (action_part w) d.actions
  actions =
      maps-put (action_part v) (action_said v) (put_action v.objects v.predicates (task_words c) (action_words c)) (action-put c) c.actions
      ∙ (λ i. map (put_action (objects-same i) (predicates-same i) (tasks-same i) (actions-same i)) (same.alike.actions i))
      ∙ sym (maps-put (action_part w) (action_said w) (put_action w.objects w.predicates (task_words d) (action_words d)) (action-put d) d.actions)

  methods : map (method_part c) c.methods ≡ map (method_part d) d.methods
  methods =
      maps-put (method_part c) (method_said v) (put_method v.objects v.predicates (task_words c) (action_words c)) (method-put c) c.methods
      ∙ (λ i. map (put_method (objects-same i) (predicates-same i) (tasks-same i) (actions-same i)) (same.alike.methods i))
      ∙ sym (maps-put (method_part d) (method_said w) (put_method w.objects w.predicates (task_words d) (action_words d)) (method-put d) d.methods)

  top : top_part c c.top ≡ top_part d d.top
  top = top-put c c.top ∙ (λ i. put_top (objects-same i) (predicates-same i) (tasks-same i) (actions-same i) (same.alike.top i)) ∙ sym (top-put d d.top)

  goal : formula_part v c.goal [] ≡ formula_part w d.goal []
  goal = formula-put v c.goal [] ∙ (λ i. put (objects-same i) (predicates-same i) (same.alike.goal i) []) ∙ sym (formula-put w d.goal [])

  abbrev fact : List Word → List Word → GroundAtom → Part
  fact objects predicates g = applied_part (bare objects predicates) [] g.predicate (map Obj g.args)

  pub same_domain : hddl_domain_text c ≡ hddl_domain_text d
  same_domain =
      let n = same.alike.domains in let e = parents in let f = listed (λ b. b) in let g = predicates in let t = tasks in let m = methods in let a = actions in
      λ i. page (codes "domain") (n i)
      (part requirements
      (part (headed (codes ":types") (typed_parts (e i)))
      (part (headed (codes ":constants") (typed_parts (f i)))
      (part (headed (codes ":predicates") (all_parts (g i)))
      (all_parts (t i ++ (m i ++ a i)))))))

  pub same_problem : hddl_problem_text c ≡ hddl_problem_text d
  same_problem =
      let d = same.alike.domains in let n = same.alike.problems in let f = listed not in let t = top in let o = objects-same in let k = predicates-same in let s = same.alike.init in let g = goal in
      λ i. page (codes "problem") (n i)
      (part (headed (codes ":domain") (part (name (d i)) nothing))
      (part (headed (codes ":objects") (typed_parts (f i)))
      (part (t i)
      (part (headed (codes ":init") (all_parts (map (fact (o i) (k i)) (s i))))
      (part (headed (codes ":goal") (part (g i) nothing)) nothing)))))
