-- The words that a domain that is bound to a sound value declares.
use Rattle.std.proofs.Common.{ℕ, zero, suc, ◌≡◌, true, List, [], ◌∷◌, ◌++◌, map, length, get_or, Option, Some, None, refl, sym, ap, subst, ◌∙◌}
use Rattle.std.specs.Prelude.{slice_get}
use Rattle.htn_base.specs.Different.{AreDifferent}
use Rattle.htn_base.proofs.DifferentLemmas.{different-left}
use Rattle.text_forms.specs.Words.{Word, first_place}
use Rattle.gd_reader.specs.Terms.{Names}
use Rattle.gd_reader.specs.declared.term.RawAtom.{RawAtom}
use Rattle.hddl_reader.specs.declared.sections.RawAction.{RawAction}
use Rattle.hddl_reader.specs.declared.sections.RawDomain.{RawDomain}
use Rattle.hddl_reader.specs.declared.sections.RawHead.{RawHead}
use Rattle.hddl_reader.specs.declared.sections.RawMethod.{RawMethod}
use Rattle.plan_model.specs.declared.networks.Head.{Head}
use Rattle.plan_model.specs.declared.networks.Head.TheVariants.{Task, Action}
use Rattle.plan_model.specs.declared.schemas.ActionSchema.{ActionSchema}
use Rattle.plan_model.specs.declared.schemas.MethodSchema.{MethodSchema}
use Rattle.plan_model.specs.declared.schemas.Predicate.{Predicate}
use Rattle.plan_model.specs.declared.schemas.TaskSchema.{TaskSchema}
use Rattle.plan_model.specs.declared.types.Object.{Object}
use Rattle.plan_model.specs.declared.values.Hddl.{Hddl}
use Rattle.plan_texts.specs.Declared.{Declared, named, words_with}
use Rattle.plan_texts.specs.Domains.{domain_words}
use Rattle.plan_texts.specs.Networks.{head_of}
use Rattle.plan_texts.specs.Printable.{IsUnion}
use Rattle.plan_texts.specs.SoundValue.{arities, method_words, IsSoundHead}
use Rattle.plan_texts.specs.SpellsHddl.{hddl_types, hddl_words, hddl_domain, task_words, action_words}
use Rattle.plan_texts.specs.Types.{EachIs}
use Rattle.plan_texts.specs.Types as value
use Rattle.plan_texts.proofs.Members.{has-to_map}
use Rattle.plan_texts.proofs.Together.{together-maps, together-length}
use Rattle.plan_texts.proofs.Unique.{map-map, map-append}
use Rattle.text_values.specs.form_spellings.Bound.{IsBoundObject, IsBoundParam}
use Rattle.text_values.specs.form_spellings.BoundSchemas.{IsBoundPredicate, IsBoundTask, IsBoundAction, IsBoundMethod}
use Rattle.text_values.specs.form_spellings.BoundTexts.{IsBoundDomain}
use Rattle.hddl_reader.specs.names.Faults.{constants}
use Rattle.hddl_reader.specs.names.Uses.{predicate, subtask, task}
use Rattle.hddl_reader.specs.names.Words.{callables, term_word, param_word, param_at, head_at}
use Rattle.text_values.proofs.form_spellings.faultless.Lists.{has_front, has_back, beside_at, first_found}
use Rattle.text_values.proofs.form_spellings.faultless.Seconds.{word}
use Rattle.text_values.proofs.form_spellings.faultless.Uses.{head_word, IsApplicable, applicable}
use Rattle.text_values.proofs.form_spellings.faultless.Parts.{HasWordsOf, each_more}
use Rattle.text_values.proofs.form_spellings.faultless.NetworkUses.{HasCallsOf}
use Rattle.text_values.proofs.form_spellings.faultless.Sound.{IsSoundAtAnyLength}
use Rattle.text_values.proofs.form_spellings.faultless.Types.{is_type}

index_mapped : {X : Type 0} (f : X → ℕ) (xs : List X) (n : ℕ) (x : X) → slice_get xs n ≡ Some x → get_or (map f xs) n 0 ≡ f x
index_mapped f [] n x e = absurd (cc)
index_mapped f (y ∷ xs) zero x e = ap f (cc)
index_mapped f (y ∷ xs) (suc n) x e = index_mapped f xs n x e

module _ (names : Names) (d : RawDomain) (h : Hddl) (cs : List Object) (b : IsBoundDomain names d (hddl_domain h cs)) (s : IsSoundAtAnyLength h) where
  abbrev Own : Declared
  Own = domain_words (hddl_domain h cs)

  -- the words of each kind of declaration are those of the value
  pub constant_words : constants names d ≡ map (λ (x : Object). named h.names x.name) cs
  constant_words = together-maps (param_word names) (λ (x : Object). named h.names x.name) (IsBoundObject Own names true) (λ r x c. sym c.0) d.constants cs b.constants

  predicate_words : map (head_word names d) d.predicates ≡ map (λ (x : Predicate). named h.names x.name) h.predicates
  predicate_words = together-maps (head_word names d) (λ (x : Predicate). named h.names x.name) (IsBoundPredicate Own names) (λ r x c. sym c.0) d.predicates h.predicates b.predicates

  task_words_are : map (head_word names d) d.tasks ≡ task_words h
  task_words_are = together-maps (head_word names d) (λ (x : TaskSchema). named h.names x.name) (IsBoundTask Own names) (λ r x c. sym c.0) d.tasks h.tasks b.tasks

  action_words_are : map (λ (a : RawAction). head_word names d a.head) d.actions ≡ action_words h
  action_words_are = together-maps (λ (a : RawAction). head_word names d a.head) (λ (x : ActionSchema). named h.names x.name) (IsBoundAction Own names) (λ r x c. sym c.name) d.actions h.actions b.actions

  method_words_are : map (λ (m : RawMethod). head_word names d m.head) d.methods ≡ method_words h
  method_words_are = together-maps (λ (m : RawMethod). head_word names d m.head) (λ (x : MethodSchema). named h.names x.name) (IsBoundMethod Own names (task_words h) (action_words h)) (λ r x c. sym c.name) d.methods h.methods b.methods

  call_words : map (head_word names d) (callables d) ≡ task_words h ++ action_words h
  call_words =
      map-append (head_word names d) d.tasks (map (λ (a : RawAction). a.head) d.actions)
      ∙ (λ i. task_words_are i ++ (sym (map-map (λ (a : RawAction). a.head) (head_word names d) d.actions) ∙ action_words_are) i)

  -- so they differ
  pub calls_differ : AreDifferent (map (head_word names d) (callables d))
  calls_differ = subst AreDifferent (sym call_words) s.value.calls_differ

  pub predicates_differ : AreDifferent (map (head_word names d) d.predicates)
  predicates_differ = subst AreDifferent (sym predicate_words) s.value.words.predicates_differ

  at_heads : (hs : List RawHead) → AreDifferent (map (head_word names d) hs) → AreDifferent (map word (map (head_at names) hs))
  at_heads hs a = subst AreDifferent (map-map (head_at names) word hs) a

  pub callables_apart : AreDifferent (map word (map (head_at names) (callables d)))
  callables_apart = at_heads (callables d) calls_differ

  pub predicates_apart : AreDifferent (map word (map (head_at names) d.predicates))
  predicates_apart = at_heads d.predicates predicates_differ

  pub methods_apart : AreDifferent (map word (map (λ (m : RawMethod). head_at names m.head) d.methods))
  methods_apart = subst AreDifferent (sym method_words_are ∙ map-map (λ (m : RawMethod). head_at names m.head) word d.methods) s.value.methods_differ

  -- constants, and the objects of a problem behind them
  module _ (others : List Object) (objects : h.objects ≡ cs ++ others) where
    pub object_words : map (λ (x : Object). named h.names x.name) h.objects ≡ constants names d ++ map (λ (x : Object). named h.names x.name) others
    object_words = ap (map (λ (x : Object). named h.names x.name)) objects ∙ map-append (λ (x : Object). named h.names x.name) cs others ∙ ap (λ ws. ws ++ map (λ (x : Object). named h.names x.name) others) (sym constant_words)

    pub objects_differ : AreDifferent (constants names d ++ map (λ (x : Object). named h.names x.name) others)
    objects_differ = subst AreDifferent object_words s.value.words.objects_differ

    pub constants_apart : AreDifferent (map word (map (param_at names) d.constants))
    constants_apart = subst AreDifferent (map-map (param_at names) word d.constants) (different-left (constants names d) (map (λ (x : Object). named h.names x.name) others) objects_differ)

  -- the words in use, where these objects may be named
  pub words_are : (objects : List Word) (xs : List Object) → map (λ (x : Object). named h.names x.name) xs ≡ objects → HasWordsOf names d objects (words_with h.names h.types h.predicates xs) (arities h)
  words_are objects xs e = record {
    types = λ w m. is_type names Own (hddl_types h) h.types.parents d b.types w m;
    unions = each_more (IsUnion (hddl_words h) (arities h)) (EachIs (value.Has (hddl_types h))) (hddl_words h).unions (λ ws u. u.1) s.value.words.unions;
    objects_are = e;
    predicates = λ a n found count.
        let f = first_found (λ (x : Predicate). named h.names x.name) (term_word names a.head) h.predicates n found in
        let g = beside_at (IsBoundPredicate Own names) d.predicates h.predicates n f.0 b.predicates f.1 in
        let r = g.0 in
        let x = f.0 in
        applicable names d predicate a r predicates_differ (λ q k. k) g.1 (sym g.2.0 ∙ f.2)
        (together-length (IsBoundParam Own names) r.params x.params g.2.1 ∙ sym (index_mapped (λ (x : Predicate). length x.params) h.predicates n x f.1) ∙ sym count);
  }

  -- tasks and actions that are called
  member_task : (r : RawHead) → value.Has d.tasks r → value.Has (callables d) r
  member_task r k = has_front d.tasks (map (λ (a : RawAction). a.head) d.actions) r k

  task_found : (a : RawAtom) (n : ℕ) → first_place (term_word names a.head) (task_words h) ≡ Some n → IsSoundHead h (Task n) (length a.args) → (r : RawHead) × value.Has d.tasks r × (head_word names d r ≡ term_word names a.head) × (length r.params ≡ length a.args)
  task_found a n found (t, e, count) =
      let f = first_found (λ (x : TaskSchema). named h.names x.name) (term_word names a.head) h.tasks n found in
      let g = beside_at (IsBoundTask Own names) d.tasks h.tasks n f.0 b.tasks f.1 in
      let r = g.0 in
      let x = f.0 in
      let same : x ≡ t = (let p = f.1 in cc) in
      (r, g.1, sym g.2.0 ∙ f.2, together-length (IsBoundParam Own names) r.params x.params g.2.1 ∙ ap (λ (x : TaskSchema). length x.params) same ∙ sym count)

  action_found : (a : RawAtom) (n : ℕ) → first_place (term_word names a.head) (action_words h) ≡ Some n → IsSoundHead h (Action n) (length a.args) → (r : RawHead) × value.Has (callables d) r × (head_word names d r ≡ term_word names a.head) × (length r.params ≡ length a.args)
  action_found a n found (t, e, count) =
      let f = first_found (λ (x : ActionSchema). named h.names x.name) (term_word names a.head) h.actions n found in
      let g = beside_at (IsBoundAction Own names) d.actions h.actions n f.0 b.actions f.1 in
      let r = g.0 in
      let x = f.0 in
      let same : x ≡ t = (let p = f.1 in cc) in
      let i = g.2 in (
        r.head,
        has_back d.tasks (map (λ (a : RawAction). a.head) d.actions) r.head (has-to_map (λ (a : RawAction). a.head) d.actions r g.1),
        sym i.name ∙ f.2,
        together-length (IsBoundParam Own names) r.head.params x.params i.params ∙ ap (λ (x : ActionSchema). length x.params) same ∙ sym count,
      )

  pub calls_are : HasCallsOf names d h (task_words h) (action_words h)
  calls_are = record {
    subtasks = λ a x e c. called a x (first_place (term_word names a.head) (task_words h)) refl (first_place (term_word names a.head) (action_words h)) refl e c;
    tasks_of = λ a n e c. (let g = task_found a n e c in applicable names d task a g.0 calls_differ member_task g.1 g.2 g.3);
  }
    where
      called : (a : RawAtom) (x : Head) (o : Option ℕ) → first_place (term_word names a.head) (task_words h) ≡ o → (p : Option ℕ) → first_place (term_word names a.head) (action_words h) ≡ p → head_of o p ≡ Some x → IsSoundHead h x (length a.args) → IsApplicable names d subtask a
      called a x (Some t) f p q e c =
          let is : x ≡ Task t = (cc) in
          let g = task_found a t f (subst (λ x. IsSoundHead h x (length a.args)) is c) in
          applicable names d subtask a g.0 calls_differ (λ r k. k) (member_task g.0 g.1) g.2 g.3
      called a x None f None q e c = absurd (cc)
      called a x None f (Some k) q e c =
          let is : x ≡ Action k = (cc) in
          let g = action_found a k q (subst (λ x. IsSoundHead h x (length a.args)) is c) in
          applicable names d subtask a g.0 calls_differ (λ r k. k) g.1 g.2 g.3
