-- Two PDDL values that say the same in one order have the same two texts.
use Rattle.std.proofs.Common.{◌≡◌, Bool, List, [], ◌∷◌, map, codes, refl, ap, sym, ◌∙◌}
use Rattle.text_forms.specs.Lists.{Part, name, group, nothing, part}
use Rattle.text_forms.specs.Words.{Word, word_at}
use Rattle.text_forms.specs.Printing.{headed, page}
use Rattle.plan_texts.specs.Declared.{Declared, named, variable}
use Rattle.plan_texts.specs.SpellsPddl.{pddl_words}
use Rattle.plan_texts.specs.Said.{Typed, typed, Said, Done}
use Rattle.plan_texts.specs.Alike.{object_said, predicate_said, action_said}
use Rattle.plan_texts.specs.Printed.{all_parts, typed_parts, applied_part, formula_part}
use Rattle.plan_texts.specs.PrintedTexts.{object_words, parent_words, predicate_part, action_part, domain_text, problem_text}
use Rattle.plan_texts.proofs.Unique.{map-map}
use Rattle.plan_model.specs.declared.terms.Term.TheVariants.{Obj}
use Rattle.plan_model.specs.declared.types.Parent.{Parent}
use Rattle.plan_model.specs.declared.schemas.Predicate.{Predicate}
use Rattle.plan_model.specs.declared.schemas.ActionSchema.{ActionSchema}
use Rattle.plan_model.specs.declared.terms.GroundAtom.{GroundAtom}
use Rattle.plan_model.specs.declared.values.Pddl.{Pddl}
use Rattle.slot_encoding.proofs.encoded_texts.SaidParts.{bare, words_of, words-typed, put_params, put, put_done, params-put, formula-put, effect-put}
use Rattle.slot_encoding.specs.encoded_texts.FullyEncoded.{SayTheSame}

-- what is printed for what is said
abbrev put_object : Word × Word × Bool → Word × List Word
put_object x = (x.0, x.1 ∷ [])

abbrev put_predicate : Word × List Typed → Part
put_predicate x = headed x.0 (put_params x.1)

abbrev put_action : List Word → List Word → Word × List Typed × Said × Done → Part
put_action objects predicates x =
    headed (codes ":action") (part (name x.0)
    (part (name (codes ":parameters")) (part (group (put_params x.1))
    (part (name (codes ":precondition")) (part (put objects predicates x.2 (words_of x.1))
    (part (name (codes ":effect")) (part (put_done objects predicates x.3 (words_of x.1)) nothing)))))))

module _ (v : Declared) where
  predicates-put : (ds : List Predicate) → map (predicate_part v) ds ≡ map put_predicate (map (predicate_said v) ds)
  predicates-put [] = refl
  predicates-put (d ∷ ds) = let e = params-put v d.params in let r = predicates-put ds in λ i. headed (named v.names d.name) (e i) ∷ r i

  action-put : (a : ActionSchema) → action_part v a ≡ put_action v.objects v.predicates (action_said v a)
  action-put a =
      let e = params-put v a.params in
      let w = words-typed v a.params in
      let f = formula-put v a.pre (map (variable v) a.params) in
      let g = effect-put v a.eff (map (variable v) a.params) in
      (λ i. headed (codes ":action") (part (name (named v.names a.name))
      (part (name (codes ":parameters")) (part (group (e i))
      (part (name (codes ":precondition")) (part (f i)
      (part (name (codes ":effect")) (part (g i) nothing))))))))
      ∙ (λ i. headed (codes ":action") (part (name (named v.names a.name))
      (part (name (codes ":parameters")) (part (group (put_params (map (typed v) a.params)))
      (part (name (codes ":precondition")) (part (put v.objects v.predicates (action_said v a).2 (w i))
      (part (name (codes ":effect")) (part (put_done v.objects v.predicates (action_said v a).3 (w i)) nothing))))))))

  actions-put : (as' : List ActionSchema) → map (action_part v) as' ≡ map (put_action v.objects v.predicates) (map (action_said v) as')
  actions-put [] = refl
  actions-put (a ∷ as') = let e = action-put a in let r = actions-put as' in λ i. e i ∷ r i

module _ (p q : Pddl) (same : SayTheSame p q) where
  abbrev v : Declared
  v = pddl_words p

  abbrev w : Declared
  w = pddl_words q

  objects-same : v.objects ≡ w.objects
  objects-same = map-map (object_said v) (λ z. z.0) p.objects ∙ ap (map (λ z. z.0)) same.objects ∙ sym (map-map (object_said w) (λ z. z.0) q.objects)

  predicates-same : v.predicates ≡ w.predicates
  predicates-same = map-map (predicate_said v) (λ z. z.0) p.predicates ∙ ap (map (λ z. z.0)) same.predicates ∙ sym (map-map (predicate_said w) (λ z. z.0) q.predicates)

  abbrev pair_of : List Word → Parent → Word × List Word
  pair_of types x = (word_at types x.child, word_at types x.parent ∷ [])

  parents : map (parent_words v) p.types.parents ≡ map (parent_words w) q.types.parents
  parents = λ i. map (pair_of (same.types i)) (same.parents i)

  objects : map (object_words v) p.objects ≡ map (object_words w) q.objects
  objects = map-map (object_said v) put_object p.objects ∙ ap (map put_object) same.objects ∙ sym (map-map (object_said w) put_object q.objects)

  predicates : map (predicate_part v) p.predicates ≡ map (predicate_part w) q.predicates
  predicates = predicates-put v p.predicates ∙ ap (map put_predicate) same.predicates ∙ sym (predicates-put w q.predicates)

  actions : map (action_part v) p.actions ≡ map (action_part w) q.actions
  actions = actions-put v p.actions ∙ (λ i. map (put_action (objects-same i) (predicates-same i)) (same.actions i)) ∙ sym (actions-put w q.actions)

  abbrev fact : List Word → List Word → GroundAtom → Part
  fact objects predicates g = applied_part (bare objects predicates) [] g.predicate (map Obj g.args)

  pub domain-same : domain_text p ≡ domain_text q
  domain-same =
      let n = same.domains in let e = parents in let f = objects in let g = predicates in let h = actions in
      λ i. page (codes "domain") (n i)
      (part (headed (codes ":requirements") (part (name (codes ":adl")) nothing))
      (part (headed (codes ":types") (typed_parts (e i)))
      (part (headed (codes ":constants") (typed_parts (f i)))
      (part (headed (codes ":predicates") (all_parts (g i)))
      (all_parts (h i))))))

  goal : formula_part v p.goal [] ≡ formula_part w q.goal []
  goal = formula-put v p.goal [] ∙ (λ i. put (objects-same i) (predicates-same i) (same.goal i) []) ∙ sym (formula-put w q.goal [])

  pub problem-same : problem_text p ≡ problem_text q
  problem-same =
      let d = same.domains in let n = same.problems in let o = objects-same in let k = predicates-same in let s = same.init in let g = goal in
      λ i. page (codes "problem") (n i)
      (part (headed (codes ":domain") (part (name (d i)) nothing))
      (part (headed (codes ":objects") nothing)
      (part (headed (codes ":init") (all_parts (map (fact (o i) (k i)) (s i))))
      (part (headed (codes ":goal") (part (g i) nothing)) nothing))))
