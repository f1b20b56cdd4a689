-- With the printed ids a sound problem has the same two texts.
use Rattle.std.proofs.Common.{ℕ, suc, ◌≡◌, ◌++◌, not, Bool, true, false, List, [], ◌∷◌, map, length, codes, refl, ap, ◌∙◌}
use Rattle.text_forms.specs.Lists.{name, group, nothing, part}
use Rattle.text_forms.specs.Words.{Word, word_at}
use Rattle.text_forms.specs.Printing.{headed, page}
use Rattle.plan_texts.specs.Declared.{Declared, named}
use Rattle.plan_texts.specs.Types.{EachIs}
use Rattle.plan_texts.specs.Printed.{all_parts, typed_parts, term_part, formula_part, effect_part}
use Rattle.plan_texts.specs.PrintedTexts.{object_words, predicate_part, action_part, fact_part}
use Rattle.plan_texts.specs.Printable.{IsPlain, IsInForce, IsSoundAtom, IsSoundParam, AreSoundParams, IsSound, IsSoundEffect}
use Rattle.plan_texts.specs.SpellsHddl.{hddl_words, task_words, action_words}
use Rattle.plan_texts.specs.SoundValue.{arities, scope_of, IsSoundHead, IsSoundMethod, IsSoundHddl}
use Rattle.plan_model.specs.declared.terms.Term.{Term}
use Rattle.plan_model.specs.declared.terms.Term.TheVariants.{Obj}
use Rattle.plan_model.specs.declared.terms.Param.{Param}
use Rattle.plan_model.specs.declared.terms.GroundAtom.{GroundAtom}
use Rattle.plan_model.specs.declared.types.Object.{Object}
use Rattle.plan_model.specs.declared.types.Parent.{Parent}
use Rattle.plan_model.specs.declared.formulas.Formula.{Formula}
use Rattle.plan_model.specs.declared.effects.Effect.{Effect}
use Rattle.plan_model.specs.declared.networks.Head.{Head}
use Rattle.plan_model.specs.declared.networks.Head.TheVariants.{Task, Action, Check}
use Rattle.plan_model.specs.declared.networks.Child.{Child}
use Rattle.plan_model.specs.declared.networks.Constraint.{Constraint}
use Rattle.plan_model.specs.declared.schemas.Predicate.{Predicate}
use Rattle.plan_model.specs.declared.schemas.TaskSchema.{TaskSchema}
use Rattle.plan_model.specs.declared.schemas.ActionSchema.{ActionSchema}
use Rattle.plan_model.specs.declared.schemas.MethodSchema.{MethodSchema}
use Rattle.plan_model.specs.declared.values.Hddl.{Hddl}
use Rattle.hddl_texts.specs.PrintedHddl.{subtask_word, order_part, bundled, called_part, head_word, subtasks_parts, equation_part, constraint_part_by, constraint_part, network_parts, task_part, method_part, requirements, constants_of, others_of, hddl_domain_text, hddl_problem_text}
use Rattle.hddl_texts.specs.Ids.{children_with_ids, method_with_ids, with_ids}
use Rattle.hddl_texts.proofs.KeptWords.{Keeps, same-variables, same-params, kept-term, kept-terms, kept-atom, kept-formula, kept-effect}
use Rattle.hddl_texts.proofs.Lists.{each-left, each-right, each-filter}
use Rattle.hddl_texts.proofs.WithIds.{IsFit, each-of, keep-plain, types-same, tasks-same, actions-same, all-kept, fit}

module _ (h : Hddl) (sound : IsSoundHddl h) where
  abbrev v : Declared
  v = hddl_words h

  abbrev v' : Declared
  v' = hddl_words (with_ids h)

  abbrev ar : List ℕ
  ar = arities h

  abbrev keeps : Keeps v v'
  keeps = all-kept h sound

  same-head : (d : Head) → head_word (with_ids h) d ≡ head_word h d
  same-head (Task t) = ap (λ ws. word_at ws t) (tasks-same h sound)
  same-head (Action a) = ap (λ ws. word_at ws a) (actions-same h sound)
  same-head Check = refl

  -- where the variables in force have the same words
  module _ (s' s : List Word) (same : s' ≡ s) where
    same-term : (t : Term) → IsInForce v ar s t → term_part v' s' t ≡ term_part v s t
    same-term t e = ap (λ z. term_part v' z t) same ∙ (kept-term v v' keeps ar s t e).1

    same-call : (a b : Word) (ts : List Term) → a ≡ b → EachIs (IsInForce v ar s) ts → called_part (with_ids h) s' a ts ≡ called_part h s b ts
    same-call a b ts q e =
        let g = ap (λ z. map (term_part v' z) ts) same ∙ (kept-terms v v' keeps ar s ts e).1 in
        λ i. headed (q i) (all_parts (g i))

    same-subtasks : (k n : ℕ) (cs : List Child) → EachIs (λ (c : Child). IsSoundHead h c.head (length c.args) × EachIs (IsInForce v ar s) c.args) cs → subtasks_parts (with_ids h) s' k (children_with_ids n cs) ≡ subtasks_parts h s k cs
    same-subtasks k n [] e = refl
    same-subtasks k n (c ∷ cs) e =
        let g = same-call (head_word (with_ids h) c.head) (head_word h c.head) c.args (same-head c.head) e.0.1 in
        let r = same-subtasks (suc k) (suc n) cs e.1 in
        λ i. part (headed (subtask_word k) (part (g i) nothing)) (r i)

    same-equation : (l r : Term) → IsInForce v ar s l → IsInForce v ar s r → equation_part (with_ids h) s' l r ≡ equation_part h s l r
    same-equation l r e f = let g = same-term l e in let k = same-term r f in λ i. headed (codes "=") (part (g i) (part (k i) nothing))

    same-constraint : (b : Bool) (l r : Term) → IsInForce v ar s l → IsInForce v ar s r → constraint_part_by (with_ids h) s' b l r ≡ constraint_part_by h s b l r
    same-constraint true l r e f = same-equation l r e f
    same-constraint false l r e f = let g = same-equation l r e f in λ i. headed (codes "not") (part (g i) nothing)

    same-constraints : (xs : List Constraint) → EachIs (λ (x : Constraint). IsInForce v ar s x.left × IsInForce v ar s x.right) xs → map (constraint_part (with_ids h) s') xs ≡ map (constraint_part h s) xs
    same-constraints [] e = refl
    same-constraints (x ∷ xs) e = let g = same-constraint x.equal x.left x.right e.0.0 e.0.1 in let r = same-constraints xs e.1 in λ i. g i ∷ r i

    same-condition : (f : Formula) → IsSound v ar f s → formula_part v' f s' ≡ formula_part v f s
    same-condition f e = ap (formula_part v' f) same ∙ (kept-formula v v' keeps ar f s e).1

    same-change : (f : Effect) → IsSoundEffect v ar f s → effect_part v' f s' ≡ effect_part v f s
    same-change f e = ap (effect_part v' f) same ∙ (kept-effect v v' keeps ar f s e).1

  same-scope : (xs : List Param) → AreSoundParams v ar xs → scope_of (with_ids h) xs ≡ scope_of h xs
  same-scope xs e = same-variables v v' keeps ar xs e.0

  same-network : (n : ℕ) (m : MethodSchema) → IsFit h v m → network_parts (with_ids h) (method_with_ids n m) ≡ network_parts h m
  same-network n m e =
      let sc = same-scope m.params e.params in
      let k = same-subtasks (scope_of (with_ids h) m.params) (scope_of h m.params) sc 0 n m.children e.children in
      let c = same-constraints (scope_of (with_ids h) m.params) (scope_of h m.params) sc m.constraints e.constraints in
      λ i. part (name (codes ":subtasks")) (part (bundled (k i)) (part (name (codes ":ordering")) (part (bundled (all_parts (map order_part m.pairs))) (part (name (codes ":constraints")) (part (bundled (all_parts (c i))) nothing)))))

  same-method : (n : ℕ) (m : MethodSchema) → IsPlain (named h.names m.name) → IsFit h v m → method_part (with_ids h) (method_with_ids n m) ≡ method_part h m
  same-method n m p e =
      let sc = same-scope m.params e.params in
      let s' = scope_of (with_ids h) m.params in
      let s = scope_of h m.params in
      let w = keep-plain h sound m.name p in
      let ps = same-params v v' keeps ar m.params e.params.0 in
      let t = same-call s' s sc (word_at (task_words (with_ids h)) m.task) (word_at (task_words h) m.task) m.task_args (ap (λ ws. word_at ws m.task) (tasks-same h sound)) e.task_args in
      let f = same-condition s' s sc m.pre e.pre in
      let k = same-network n m e in
      λ i. headed (codes ":method") (part (name (w i)) (part (name (codes ":parameters")) (part (group (ps i)) (part (name (codes ":task")) (part (t i) (part (name (codes ":precondition")) (part (f i) (k i))))))))

  same-methods : (n : ℕ) (ms : List MethodSchema) → EachIs IsPlain (map (λ (m : MethodSchema). named h.names m.name) ms) → EachIs (IsSoundMethod h) ms → map (method_part (with_ids h)) (map (method_with_ids n) ms) ≡ map (method_part h) ms
  same-methods n [] p e = refl
  same-methods n (m ∷ ms) p e = let g = same-method n m p.0 (fit h sound m e.0) in let r = same-methods n ms p.1 e.1 in λ i. g i ∷ r i

  same-tasks : (ts : List TaskSchema) → EachIs IsPlain (map (λ (t : TaskSchema). named h.names t.name) ts) → EachIs (λ (t : TaskSchema). AreSoundParams v ar t.params) ts → map (task_part (with_ids h)) ts ≡ map (task_part h) ts
  same-tasks [] p e = refl
  same-tasks (t ∷ ts) p e =
      let w = keep-plain h sound t.name p.0 in let ps = same-params v v' keeps ar t.params e.0.0 in let r = same-tasks ts p.1 e.1 in
      λ i. headed (codes ":task") (part (name (w i)) (part (name (codes ":parameters")) (part (group (ps i)) nothing))) ∷ r i

  same-actions : (as' : List ActionSchema) → EachIs IsPlain (map (λ (a : ActionSchema). named h.names a.name) as') → EachIs (λ (a : ActionSchema). AreSoundParams v ar a.params) as'
      → EachIs (λ (a : ActionSchema). IsSound v ar a.pre (scope_of h a.params)) as' → EachIs (λ (a : ActionSchema). IsSoundEffect v ar a.eff (scope_of h a.params)) as' → map (action_part v') as' ≡ map (action_part v) as'
  same-actions [] p e f k = refl
  same-actions (a ∷ as') p e f k =
      let sc = same-scope a.params e.0 in
      let w = keep-plain h sound a.name p.0 in
      let ps = same-params v v' keeps ar a.params e.0.0 in
      let c = same-condition (scope_of (with_ids h) a.params) (scope_of h a.params) sc a.pre f.0 in
      let d = same-change (scope_of (with_ids h) a.params) (scope_of h a.params) sc a.eff k.0 in
      let r = same-actions as' p.1 e.1 f.1 k.1 in
      λ i. headed (codes ":action") (part (name (w i)) (part (name (codes ":parameters")) (part (group (ps i)) (part (name (codes ":precondition")) (part (c i) (part (name (codes ":effect")) (part (d i) nothing))))))) ∷ r i

  same-predicates : (ds : List Predicate) → EachIs IsPlain (map (λ (d : Predicate). named h.names d.name) ds) → EachIs (λ (d : Predicate). EachIs (IsSoundParam v ar) d.params) ds → map (predicate_part v') ds ≡ map (predicate_part v) ds
  same-predicates [] p e = refl
  same-predicates (d ∷ ds) p e =
      let w = keep-plain h sound d.name p.0 in let ps = same-params v v' keeps ar d.params e.0 in let r = same-predicates ds p.1 e.1 in
      λ i. headed (w i) (ps i) ∷ r i

  same-objects : (xs : List Object) → EachIs (λ (x : Object). IsPlain (named h.names x.name)) xs → map (object_words v') xs ≡ map (object_words v) xs
  same-objects [] e = refl
  same-objects (x ∷ xs) e = let w = keep-plain h sound x.name e.0 in let r = same-objects xs e.1 in λ i. (w i, word_at (types-same h sound i) x.ty ∷ []) ∷ r i

  same-facts : (gs : List GroundAtom) → EachIs (λ (a : GroundAtom). IsSoundAtom v ar [] a.predicate (map Obj a.args)) gs → map (fact_part v') gs ≡ map (fact_part v) gs
  same-facts [] e = refl
  same-facts (a ∷ gs) e = let g = (kept-atom v v' keeps ar [] a.predicate (map Obj a.args) e.0).1 in let r = same-facts gs e.1 in λ i. g i ∷ r i

  objects-plain : EachIs (λ (x : Object). IsPlain (named h.names x.name)) h.objects
  objects-plain = each-of IsPlain (λ (x : Object). named h.names x.name) h.objects sound.words.objects

  pub same-domain_text : hddl_domain_text (with_ids h) ≡ hddl_domain_text h
  same-domain_text =
      let w = keep-plain h sound h.domain sound.domain in
      let cs = same-objects (constants_of h) (each-filter (λ (x : Object). IsPlain (named h.names x.name)) (λ (x : Object). x.constant) h.objects objects-plain) in
      let ds = same-predicates h.predicates sound.words.predicates sound.predicates in
      let ts = same-tasks h.tasks (each-left IsPlain (task_words h) (action_words h) sound.calls_named) sound.task_params in
      let ms = same-methods (length h.names) h.methods sound.methods_named sound.methods in
      let as' = same-actions h.actions (each-right IsPlain (task_words h) (action_words h) sound.calls_named) sound.action_params sound.pre sound.eff in
      λ i.
      page (codes "domain") (w i)
      (part requirements
      (part (headed (codes ":types") (typed_parts (map (λ (x : Parent). (word_at (types-same h sound i) x.child, word_at (types-same h sound i) x.parent ∷ [])) h.types.parents)))
      (part (headed (codes ":constants") (typed_parts (cs i)))
      (part (headed (codes ":predicates") (all_parts (ds i)))
      (all_parts (ts i ++ (ms i ++ as' i)))))))

  pub same-problem_text : hddl_problem_text (with_ids h) ≡ hddl_problem_text h
  same-problem_text =
      let d = keep-plain h sound h.domain sound.domain in
      let p = keep-plain h sound h.problem sound.problem in
      let os = same-objects (others_of h) (each-filter (λ (x : Object). IsPlain (named h.names x.name)) (λ (x : Object). not x.constant) h.objects objects-plain) in
      let ps = same-params v v' keeps ar h.top.params sound.top.params.0 in
      let k = same-network (length h.names) h.top (fit h sound h.top sound.top) in
      let gs = same-facts h.init sound.init in
      let f = same-condition [] [] refl h.goal sound.goal in
      λ i.
      page (codes "problem") (p i)
      (part (headed (codes ":domain") (part (name (d i)) nothing))
      (part (headed (codes ":objects") (typed_parts (os i)))
      (part (headed (codes ":htn") (part (name (codes ":parameters")) (part (group (ps i)) (k i))))
      (part (headed (codes ":init") (all_parts (gs i)))
      (part (headed (codes ":goal") (part (f i) nothing)) nothing)))))
