-- What is printed for the parts of an HDDL value is a function of what they say.
use Rattle.std.proofs.Common.{ℕ, suc, ◌≡◌, Bool, true, false, List, [], ◌∷◌, map, codes, Option, refl, ap, ◌∙◌}
use Rattle.text_forms.specs.Lists.{Part, Parts, name, group, nothing, part}
use Rattle.text_forms.specs.Words.{Word, word_at}
use Rattle.text_forms.specs.Printing.{headed}
use Rattle.plan_texts.specs.Declared.{Declared, named, variable}
use Rattle.plan_texts.specs.Said.{Typed, typed, Said, Done}
use Rattle.plan_texts.specs.Alike.{predicate_said, action_said, task_said, child_said, method_said}
use Rattle.plan_texts.specs.Printed.{all_parts, term_part}
use Rattle.plan_texts.specs.PrintedTexts.{predicate_part, action_part}
use Rattle.plan_texts.specs.SpellsHddl.{hddl_words, task_words, action_words}
use Rattle.plan_texts.specs.SoundValue.{scope_of}
use Rattle.plan_model.specs.declared.terms.Term.{Term}
use Rattle.plan_model.specs.declared.networks.Head.{Head}
use Rattle.plan_model.specs.declared.networks.Head.TheVariants.{Task, Action, Check}
use Rattle.plan_model.specs.declared.networks.Child.{Child}
use Rattle.plan_model.specs.declared.networks.Pair.{Pair}
use Rattle.plan_model.specs.declared.networks.Constraint.{Constraint}
use Rattle.plan_model.specs.declared.schemas.Predicate.{Predicate}
use Rattle.plan_model.specs.declared.schemas.TaskSchema.{TaskSchema}
use Rattle.plan_model.specs.declared.schemas.ActionSchema.{ActionSchema}
use Rattle.plan_model.specs.declared.schemas.MethodSchema.{MethodSchema}
use Rattle.plan_model.specs.declared.values.Hddl.{Hddl}
use Rattle.slot_encoding.proofs.encoded_texts.SaidParts.{bare, words_of, words-typed, put_params, put, put_done, params-put, formula-put, effect-put}
use Rattle.hddl_texts.specs.PrintedHddl.{subtask_word, bundled, order_part, called_part, head_word, subtasks_parts, constraint_part, network_parts, task_part, method_part, top_part}

abbrev pub SaidCall : Type 0
SaidCall = Option Word × Head × List Term

abbrev pub SaidNetwork : Type 0
SaidNetwork = List Typed × List SaidCall × List Pair × List Constraint

-- the words of objects, predicates, tasks and actions
module _ (objects predicates tasks actions : List Word) where
  abbrev put_call : List Word → Word → List Term → Part
  put_call scope w ts = headed w (all_parts (map (term_part (bare objects predicates) scope) ts))

  abbrev put_head : Head → Word
  put_head (Task t) = word_at tasks t
  put_head (Action a) = word_at actions a
  put_head Check = []

  abbrev put_subtasks : List Word → ℕ → List SaidCall → Parts
  put_subtasks scope k [] = nothing
  put_subtasks scope k (c ∷ cs) = part (headed (subtask_word k) (part (put_call scope (put_head c.1) c.2) nothing)) (put_subtasks scope (suc k) cs)

  abbrev put_equation : List Word → Term → Term → Part
  put_equation scope s t = headed (codes "=") (part (term_part (bare objects predicates) scope s) (part (term_part (bare objects predicates) scope t) nothing))

  abbrev put_constraint_by : List Word → Bool → Term → Term → Part
  put_constraint_by scope true s t = put_equation scope s t
  put_constraint_by scope false s t = headed (codes "not") (part (put_equation scope s t) nothing)

  abbrev put_constraint : List Word → Constraint → Part
  put_constraint scope x = put_constraint_by scope x.equal x.left x.right

  abbrev put_network : List Word → List SaidCall → List Pair → List Constraint → Parts
  put_network scope calls pairs constraints =
      part (name (codes ":subtasks")) (part (bundled (put_subtasks scope 0 calls))
      (part (name (codes ":ordering")) (part (bundled (all_parts (map order_part pairs)))
      (part (name (codes ":constraints")) (part (bundled (all_parts (map (put_constraint scope) constraints))) nothing)))))

  abbrev pub put_method : Word × ℕ × List Term × Said × SaidNetwork → Part
  put_method x =
      headed (codes ":method") (part (name x.0)
      (part (name (codes ":parameters")) (part (group (put_params x.4.0))
      (part (name (codes ":task")) (part (put_call (words_of x.4.0) (word_at tasks x.1) x.2)
      (part (name (codes ":precondition")) (part (put objects predicates x.3 (words_of x.4.0)) (put_network (words_of x.4.0) x.4.1 x.4.2 x.4.3))))))))

  abbrev pub put_top : Word × ℕ × List Term × Said × SaidNetwork → Part
  put_top x = headed (codes ":htn") (part (name (codes ":parameters")) (part (group (put_params x.4.0)) (put_network (words_of x.4.0) x.4.1 x.4.2 x.4.3)))

  abbrev pub put_action : Word × List Typed × Said × Done → Part
  put_action x =
      headed (codes ":action") (part (name x.0)
      (part (name (codes ":parameters")) (part (group (put_params x.1))
      (part (name (codes ":precondition")) (part (put objects predicates x.2 (words_of x.1))
      (part (name (codes ":effect")) (part (put_done objects predicates x.3 (words_of x.1)) nothing)))))))

abbrev pub put_predicate : Word × List Typed → Part
put_predicate x = headed x.0 (put_params x.1)

abbrev pub put_task : Word × List Typed → Part
put_task x = headed (codes ":task") (part (name x.0) (part (name (codes ":parameters")) (part (group (put_params x.1)) nothing)))

module _ (h : Hddl) where
  abbrev v : Declared
  v = hddl_words h

  pub predicate-put : (d : Predicate) → predicate_part v d ≡ put_predicate (predicate_said v d)
  predicate-put d = ap (headed (named h.names d.name)) (params-put v d.params)

  pub task-put : (t : TaskSchema) → task_part h t ≡ put_task (task_said v t)
  task-put t = let e = params-put v t.params in λ i. headed (codes ":task") (part (name (named h.names t.name)) (part (name (codes ":parameters")) (part (group (e i)) nothing)))

  pub action-put : (a : ActionSchema) → action_part v a ≡ put_action v.objects v.predicates (task_words h) (action_words h) (action_said v a)
  action-put a =
      let e = params-put v a.params in
      let w = words-typed v a.params in
      let f = formula-put v a.pre (map (variable v) a.params) in
      let g = effect-put v a.eff (map (variable v) a.params) in
      (λ i. headed (codes ":action") (part (name (named h.names a.name))
      (part (name (codes ":parameters")) (part (group (e i))
      (part (name (codes ":precondition")) (part (f i)
      (part (name (codes ":effect")) (part (g i) nothing))))))))
      ∙ (λ i. headed (codes ":action") (part (name (named h.names a.name))
      (part (name (codes ":parameters")) (part (group (put_params (map (typed v) a.params)))
      (part (name (codes ":precondition")) (part (put v.objects v.predicates (action_said v a).2 (w i))
      (part (name (codes ":effect")) (part (put_done v.objects v.predicates (action_said v a).3 (w i)) nothing))))))))

  subtasks-put : (scope : List Word) (k : ℕ) (cs : List Child) → subtasks_parts h scope k cs ≡ put_subtasks v.objects v.predicates (task_words h) (action_words h) scope k (map (child_said v) cs)
  subtasks-put scope k [] = refl
  subtasks-put scope k (c ∷ cs) = ap (part (headed (subtask_word k) (part (called_part h scope (head_word h c.head) c.args) nothing))) (subtasks-put scope (suc k) cs)

  network-put : (s : MethodSchema) → network_parts h s ≡ put_network v.objects v.predicates (task_words h) (action_words h) (words_of (map (typed v) s.params)) (map (child_said v) s.children) s.pairs s.constraints
  network-put s =
      let e = subtasks-put (scope_of h s.params) 0 s.children in
      (λ i. part (name (codes ":subtasks")) (part (bundled (e i))
      (part (name (codes ":ordering")) (part (bundled (all_parts (map order_part s.pairs)))
      (part (name (codes ":constraints")) (part (bundled (all_parts (map (constraint_part h (scope_of h s.params)) s.constraints))) nothing))))))
      ∙ ap (λ z. put_network v.objects v.predicates (task_words h) (action_words h) z (map (child_said v) s.children) s.pairs s.constraints) (words-typed v s.params)

  pub method-put : (s : MethodSchema) → method_part h s ≡ put_method v.objects v.predicates (task_words h) (action_words h) (method_said v s)
  method-put s =
      let e = params-put v s.params in
      let w = words-typed v s.params in
      let f = formula-put v s.pre (scope_of h s.params) in
      let n = network-put s in
      (λ i. headed (codes ":method") (part (name (named h.names s.name))
      (part (name (codes ":parameters")) (part (group (e i))
      (part (name (codes ":task")) (part (called_part h (scope_of h s.params) (word_at (task_words h) s.task) s.task_args)
      (part (name (codes ":precondition")) (part (f i) (n i)))))))))
      ∙ (λ i. headed (codes ":method") (part (name (named h.names s.name))
      (part (name (codes ":parameters")) (part (group (put_params (map (typed v) s.params)))
      (part (name (codes ":task")) (part (called_part h (w i) (word_at (task_words h) s.task) s.task_args)
      (part (name (codes ":precondition")) (part (put v.objects v.predicates (method_said v s).3 (w i))
      (put_network v.objects v.predicates (task_words h) (action_words h) (words_of (map (typed v) s.params)) (map (child_said v) s.children) s.pairs s.constraints)))))))))

  pub top-put : (s : MethodSchema) → top_part h s ≡ put_top v.objects v.predicates (task_words h) (action_words h) (method_said v s)
  top-put s =
      let e = params-put v s.params in let n = network-put s in
      λ i. headed (codes ":htn") (part (name (codes ":parameters")) (part (group (e i)) (n i)))
