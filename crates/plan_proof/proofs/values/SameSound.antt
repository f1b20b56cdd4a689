-- Of two values that are the same but for names the one is sound where the other is.
use Rattle.std.proofs.Common.{ℕ, ◌≡◌, ◌<◌, ◌++◌, List, [], ◌∷◌, map, length, refl, ap, sym, subst, ◌∙◌}
use Rattle.text_forms.specs.Words.{Word, word_at}
use Rattle.plan_texts.specs.Declared.{Declared, named, kinds, kind_at, variable, one_word}
use Rattle.htn_base.specs.Different.{AreDifferent}
use Rattle.plan_texts.specs.Types.{Has, EachIs}
use Rattle.plan_texts.specs.SpellsHddl.{hddl_words, task_words, action_words}
use Rattle.plan_texts.specs.Printable.{IsPlain, IsInForce, IsSoundParam, AreSoundParams, IsSound, IsSoundEffect, HasWords}
use Rattle.plan_texts.specs.SoundValue.{IsSoundHddl, IsSoundMethod, IsSoundHead, IsSoundChild, IsSoundConstraint, scope_of, arities, method_words}
use Rattle.plan_texts.specs.Said.{typed, said, done}
use Rattle.plan_texts.specs.Alike.{object_said, predicate_said, action_said, task_said, child_said, method_said}
use Rattle.plan_texts.proofs.Members.{length-map}
use Rattle.plan_texts.proofs.Places.{each-at}
use Rattle.plan_texts.proofs.Unique.{map-map}
use Rattle.plan_model.specs.Typing.{Leads}
use Rattle.plan_model.specs.declared.terms.Term.{Term}
use Rattle.plan_model.specs.declared.terms.Term.TheVariants.{Obj}
use Rattle.plan_model.specs.declared.terms.Param.{Param}
use Rattle.plan_model.specs.declared.terms.GroundAtom.{GroundAtom}
use Rattle.plan_model.specs.declared.types.Parent.{Parent}
use Rattle.plan_model.specs.declared.types.Object.{Object}
use Rattle.plan_model.specs.declared.formulas.Formula.{Formula}
use Rattle.plan_model.specs.declared.effects.Effect.{Effect}
use Rattle.plan_model.specs.declared.networks.Head.{Head}
use Rattle.plan_model.specs.declared.networks.Head.TheVariants.{Task, Action, Check}
use Rattle.plan_model.specs.declared.networks.Child.{Child}
use Rattle.plan_model.specs.declared.networks.Constraint.{Constraint}
use Rattle.plan_model.specs.declared.schemas.Predicate.{Predicate}
use Rattle.plan_model.specs.declared.schemas.TaskSchema.{TaskSchema}
use Rattle.plan_model.specs.declared.schemas.ActionSchema.{ActionSchema}
use Rattle.plan_model.specs.declared.schemas.MethodSchema.{MethodSchema}
use Rattle.plan_model.specs.declared.values.Hddl.{Hddl}
use Rattle.plan_proof.specs.Same.{AreSameButNames}
use Rattle.plan_texts.specs.Together.{Together}
use Rattle.plan_texts.proofs.Together.{maps-length, together-of_maps, together-maps, together-each}
use Rattle.plan_proof.proofs.values.Pairing.{got}
use Rattle.plan_proof.proofs.values.TypeNumbers.{word-within, kind-has, plain-some}
use Rattle.slot_encoding.proofs.encoded_texts.SaidParts.{words_of, words-typed}
use Rattle.plan_proof.proofs.values.SaidFormulas.{SoundTyped, AreSoundTyped, InForce, SoundAtom, SoundSaid, each-typed, params-sound, formula-sound}
use Rattle.plan_proof.proofs.values.SaidEffects.{SoundDone, effect-sound}

module _ (c d : Hddl) (same : AreSameButNames c d) where
  abbrev v : Declared
  v = hddl_words c

  abbrev w : Declared
  w = hddl_words d

  pub objects-same : v.objects ≡ w.objects
  objects-same = map-map (object_said v) (λ t. t.0) c.objects ∙ ap (map (λ t. t.0)) same.alike.objects ∙ sym (map-map (object_said w) (λ t. t.0) d.objects)

  pub predicates-same : v.predicates ≡ w.predicates
  predicates-same = map-map (predicate_said v) (λ t. t.0) c.predicates ∙ ap (map (λ t. t.0)) same.alike.predicates ∙ sym (map-map (predicate_said w) (λ t. t.0) d.predicates)

  pub task-words-same : task_words c ≡ task_words d
  task-words-same = map-map (task_said v) (λ t. t.0) c.tasks ∙ ap (map (λ t. t.0)) same.alike.tasks ∙ sym (map-map (task_said w) (λ t. t.0) d.tasks)

  pub action-words-same : action_words c ≡ action_words d
  action-words-same = map-map (action_said v) (λ t. t.0) c.actions ∙ ap (map (λ t. t.0)) same.alike.actions ∙ sym (map-map (action_said w) (λ t. t.0) d.actions)

  method-words-same : method_words c ≡ method_words d
  method-words-same = map-map (method_said v) (λ t. t.0) c.methods ∙ ap (map (λ t. t.0)) same.alike.methods ∙ sym (map-map (method_said w) (λ t. t.0) d.methods)

  -- as many parameters
  pub params-length : (xs ys : List Param) → map (typed v) xs ≡ map (typed w) ys → length xs ≡ length ys
  params-length xs ys e = maps-length (typed v) (typed w) xs ys e

  pub scope-same : (xs ys : List Param) → map (typed v) xs ≡ map (typed w) ys → map (variable v) xs ≡ map (variable w) ys
  scope-same xs ys e = words-typed v xs ∙ ap words_of e ∙ sym (words-typed w ys)

  pub arities-same : arities c ≡ arities d
  arities-same = together-maps (λ (x : Predicate). length x.params) (λ (x : Predicate). length x.params) (λ x y. predicate_said v x ≡ predicate_said w y) (λ x y e. params-length x.params y.params (ap (λ t. t.1) e)) c.predicates d.predicates (together-of_maps (predicate_said v) (predicate_said w) c.predicates d.predicates same.alike.predicates)

  pub unions-same : v.unions ≡ w.unions
  unions-same = λ i. map (map (word_at (same.types i))) (same.unions i)

  pub kinds-same : kinds v ≡ kinds w
  kinds-same = λ i. map one_word (same.types i) ++ unions-same i

  pub types-count : length c.types.names ≡ length d.types.names
  types-count = sym (length-map (named c.names) c.types.names) ∙ ap length same.types ∙ length-map (named d.names) d.types.names

  module _ (sound : IsSoundHddl d) where
    has_words : HasWords v (arities c)
    has_words = record {
      types = subst (EachIs IsPlain) (sym same.types) sound.words.types;
      types_differ = subst AreDifferent (sym same.types) sound.words.types_differ;
      unions = subst (λ (z : Type 0). z) (λ i. EachIs (λ ws. (1 < length ws) × EachIs (Has (sym same.types i)) ws × AreDifferent ws) (sym unions-same i)) sound.words.unions;
      objects = subst (EachIs IsPlain) (sym objects-same) sound.words.objects;
      predicates = subst (EachIs IsPlain) (sym predicates-same) sound.words.predicates;
      objects_differ = subst AreDifferent (sym objects-same) sound.words.objects_differ;
      predicates_differ = subst AreDifferent (sym predicates-same) sound.words.predicates_differ;
    }

    kv : (t : ℕ) → t < length (kinds v) → kind_at v t ≡ [] → ⊥
    kv = kind-has v (arities c) has_words

    kw : (t : ℕ) → t < length (kinds w) → kind_at w t ≡ [] → ⊥
    kw = kind-has w (arities d) sound.words

    each-param : (xs ys : List Param) → map (typed v) xs ≡ map (typed w) ys → EachIs (IsSoundParam w (arities d)) ys → EachIs (IsSoundParam v (arities c)) xs
    each-param xs ys e s = (each-typed v (arities c) kv xs).1 (subst (EachIs SoundTyped) (sym e) ((each-typed w (arities d) kw ys).0 s))

    params : (xs ys : List Param) → map (typed v) xs ≡ map (typed w) ys → AreSoundParams w (arities d) ys → AreSoundParams v (arities c) xs
    params xs ys e s = (params-sound v (arities c) kv xs).1 (subst AreSoundTyped (sym e) ((params-sound w (arities d) kw ys).0 s))

    formula : (f g : Formula) (scope scope' : List Word) → said v f ≡ said w g → scope ≡ scope' → IsSound w (arities d) g scope' → IsSound v (arities c) f scope
    formula f g scope scope' e o s =
        (formula-sound v (arities c) kv f scope).1
        (subst (λ (z : Type 0). z) (λ i. SoundSaid (sym objects-same i) (sym predicates-same i) (sym arities-same i) (sym e i) (sym o i)) ((formula-sound w (arities d) kw g scope').0 s))

    effect : (f g : Effect) (scope scope' : List Word) → done v f ≡ done w g → scope ≡ scope' → IsSoundEffect w (arities d) g scope' → IsSoundEffect v (arities c) f scope
    effect f g scope scope' e o s =
        (effect-sound v (arities c) kv f scope).1
        (subst (λ (z : Type 0). z) (λ i. SoundDone (sym objects-same i) (sym predicates-same i) (sym arities-same i) (sym e i) (sym o i)) ((effect-sound w (arities d) kw g scope').0 s))

    terms : (ts us : List Term) (scope scope' : List Word) → ts ≡ us → scope ≡ scope' → EachIs (IsInForce w (arities d) scope') us → EachIs (IsInForce v (arities c) scope) ts
    terms ts us scope scope' e o s = subst (λ (z : Type 0). z) (λ i. EachIs (InForce (sym objects-same i) (sym predicates-same i) (sym arities-same i) (sym o i)) (sym e i)) s

    term : (t u : Term) (scope scope' : List Word) → t ≡ u → scope ≡ scope' → IsInForce w (arities d) scope' u → IsInForce v (arities c) scope t
    term t u scope scope' e o s = subst (λ (z : Type 0). z) (λ i. InForce (sym objects-same i) (sym predicates-same i) (sym arities-same i) (sym o i) (sym e i)) s

    type_within : (x y : ℕ) → word_at v.types x ≡ word_at w.types y → y < length d.types.names → x < length c.types.names
    type_within x y e l =
        let p = each-at IsPlain w.types y sound.words.types (subst (λ z. y < z) (sym (length-map (named d.names) d.types.names)) l) in
        subst (λ z. x < z) (length-map (named c.names) c.types.names) (word-within v.types x (λ f. plain-some _ p (sym e ∙ f)))

    head : (f : Head) (n m : ℕ) → n ≡ m → IsSoundHead d f m → IsSoundHead c f n
    head (Task t) n m e s = let (x, is, g) = got (task_said v) (task_said w) c.tasks d.tasks same.alike.tasks t s.0 s.1 in (x, is, e ∙ s.2 ∙ sym (params-length x.params s.0.params (ap (λ t. t.1) g)))
    head (Action a) n m e s = let (x, is, g) = got (action_said v) (action_said w) c.actions d.actions same.alike.actions a s.0 s.1 in (x, is, e ∙ s.2 ∙ sym (params-length x.params s.0.params (ap (λ t. t.1) g)))
    head Check n m e s = s

    method : (s t : MethodSchema) → method_said v s ≡ method_said w t → IsSoundMethod d t → IsSoundMethod c s
    method s t e m =
        let p : map (typed v) s.params ≡ map (typed w) t.params = ap (λ z. z.4.0) e in
        let o = scope-same s.params t.params p in
        record {
          params = params s.params t.params p m.params;
          task_args = terms s.task_args t.task_args _ _ (ap (λ z. z.2) e) o m.task_args;
          pre = formula s.pre t.pre _ _ (ap (λ z. z.3) e) o m.pre;
          children = together-each (λ x y. child_said v x ≡ child_said w y) (IsSoundChild c (scope_of c s.params)) (IsSoundChild d (scope_of d t.params)) (child o) s.children t.children (together-of_maps (child_said v) (child_said w) s.children t.children (ap (λ z. z.4.1) e)) m.children;
          constraints = together-each (λ x y. x ≡ y) (IsSoundConstraint c (scope_of c s.params)) (IsSoundConstraint d (scope_of d t.params)) (constraint o) s.constraints t.constraints (equal s.constraints t.constraints (ap (λ z. z.4.3) e)) m.constraints;
        }
      where
        child : scope_of c s.params ≡ scope_of d t.params → (x y : Child) → child_said v x ≡ child_said w y → IsSoundChild d (scope_of d t.params) y → IsSoundChild c (scope_of c s.params) x
        child o x y f k =
            let a : x.args ≡ y.args = ap (λ z. z.2) f in
            (subst (λ z. IsSoundHead c z (length x.args)) (sym (ap (λ z. z.1) f)) (head y.head (length x.args) (length y.args) (ap length a) k.0), terms x.args y.args _ _ a o k.1)

        constraint : scope_of c s.params ≡ scope_of d t.params → (x y : Constraint) → x ≡ y → IsSoundConstraint d (scope_of d t.params) y → IsSoundConstraint c (scope_of c s.params) x
        constraint o x y f k = (term x.left y.left _ _ (ap (λ (z : Constraint). z.left) f) o k.0, term x.right y.right _ _ (ap (λ (z : Constraint). z.right) f) o k.1)

        equal : (xs ys : List Constraint) → xs ≡ ys → Together (λ x y. x ≡ y) xs ys
        equal [] [] f = tt
        equal [] (y ∷ ys) f = cc
        equal (x ∷ xs) [] f = cc
        equal (x ∷ xs) (y ∷ ys) f = (cc, equal xs ys cc)

    abbrev SameObject : Object → Object → Type 0
    SameObject x y = object_said v x ≡ object_said w y

    abbrev SamePredicate : Predicate → Predicate → Type 0
    SamePredicate x y = predicate_said v x ≡ predicate_said w y

    abbrev SameTask : TaskSchema → TaskSchema → Type 0
    SameTask x y = task_said v x ≡ task_said w y

    abbrev SameAction : ActionSchema → ActionSchema → Type 0
    SameAction x y = action_said v x ≡ action_said w y

    abbrev SameMethod : MethodSchema → MethodSchema → Type 0
    SameMethod x y = method_said v x ≡ method_said w y

    objects_pair : Together SameObject c.objects d.objects
    objects_pair = together-of_maps (object_said v) (object_said w) c.objects d.objects same.alike.objects

    predicates_pair : Together SamePredicate c.predicates d.predicates
    predicates_pair = together-of_maps (predicate_said v) (predicate_said w) c.predicates d.predicates same.alike.predicates

    tasks_pair : Together SameTask c.tasks d.tasks
    tasks_pair = together-of_maps (task_said v) (task_said w) c.tasks d.tasks same.alike.tasks

    actions_pair : Together SameAction c.actions d.actions
    actions_pair = together-of_maps (action_said v) (action_said w) c.actions d.actions same.alike.actions

    methods_pair : Together SameMethod c.methods d.methods
    methods_pair = together-of_maps (method_said v) (method_said w) c.methods d.methods same.alike.methods

    pub sound_too : IsSoundHddl c
    sound_too = record {
      domain = subst IsPlain (sym same.alike.domains) sound.domain;
      problem = subst IsPlain (sym same.alike.problems) sound.problem;
      words = has_words;
      first = ap (λ z. word_at z 0) same.types ∙ sound.first;
      parents = subst (λ (z : Type 0). z) (λ i. EachIs (λ (x : Parent). (x.child < sym types-count i) × (x.parent < sym types-count i) × (0 < x.child)) (sym same.parents i)) sound.parents;
      has_parent = λ k l m. let (x, h, e) = sound.has_parent k l (subst (λ z. k < z) types-count m) in (x, subst (λ z. Has z x) (sym same.parents) h, e);
      no_cycle = λ x h l. sound.no_cycle x (subst (λ z. Has z x) same.parents h) (subst (λ z. Leads z x.parent x.child) same.parents l);
      unions = subst (λ (z : Type 0). z) (λ i. EachIs (EachIs (λ t. t < sym types-count i)) (sym same.unions i)) sound.unions;
      objects = together-each SameObject (λ x. x.ty < length c.types.names) (λ y. y.ty < length d.types.names) (λ x y e. type_within x.ty y.ty (ap (λ z. z.1) e)) c.objects d.objects objects_pair sound.objects;
      predicates = together-each SamePredicate (λ x. EachIs (IsSoundParam v (arities c)) x.params) (λ y. EachIs (IsSoundParam w (arities d)) y.params) (λ x y e. each-param x.params y.params (ap (λ z. z.1) e)) c.predicates d.predicates predicates_pair sound.predicates;
      calls_named = subst (EachIs IsPlain) (λ i. sym task-words-same i ++ sym action-words-same i) sound.calls_named;
      calls_differ = subst AreDifferent (λ i. sym task-words-same i ++ sym action-words-same i) sound.calls_differ;
      methods_named = subst (EachIs IsPlain) (sym method-words-same) sound.methods_named;
      methods_differ = subst AreDifferent (sym method-words-same) sound.methods_differ;
      task_params = together-each SameTask (λ x. AreSoundParams v (arities c) x.params) (λ y. AreSoundParams w (arities d) y.params) (λ x y e. params x.params y.params (ap (λ z. z.1) e)) c.tasks d.tasks tasks_pair sound.task_params;
      action_params = together-each SameAction (λ x. AreSoundParams v (arities c) x.params) (λ y. AreSoundParams w (arities d) y.params) (λ x y e. params x.params y.params (ap (λ z. z.1) e)) c.actions d.actions actions_pair sound.action_params;
      pre = together-each SameAction (λ x. IsSound v (arities c) x.pre (scope_of c x.params)) (λ y. IsSound w (arities d) y.pre (scope_of d y.params)) (λ x y e. formula x.pre y.pre _ _ (ap (λ z. z.2) e) (scope-same x.params y.params (ap (λ z. z.1) e))) c.actions d.actions actions_pair sound.pre;
      eff = together-each SameAction (λ x. IsSoundEffect v (arities c) x.eff (scope_of c x.params)) (λ y. IsSoundEffect w (arities d) y.eff (scope_of d y.params)) (λ x y e. effect x.eff y.eff _ _ (ap (λ z. z.3) e) (scope-same x.params y.params (ap (λ z. z.1) e))) c.actions d.actions actions_pair sound.eff;
      top_task = ap (λ z. z.1) same.alike.top ∙ sound.top_task ∙ sym (maps-length (task_said v) (task_said w) c.tasks d.tasks same.alike.tasks);
      top_args = ap (λ z. z.2) same.alike.top ∙ sound.top_args;
      top = method c.top d.top same.alike.top sound.top;
      method_tasks = together-each SameMethod (λ x. IsSoundHead c (Task x.task) (length x.task_args)) (λ y. IsSoundHead d (Task y.task) (length y.task_args)) (λ x y e k. subst (λ z. IsSoundHead c (Task z) (length x.task_args)) (sym (ap (λ z. z.1) e)) (head (Task y.task) (length x.task_args) (length y.task_args) (ap (λ z. length z.2) e) k)) c.methods d.methods methods_pair sound.method_tasks;
      methods = together-each SameMethod (IsSoundMethod c) (IsSoundMethod d) method c.methods d.methods methods_pair sound.methods;
      init = subst (λ (z : Type 0). z) (λ i. EachIs (λ (g : GroundAtom). SoundAtom (sym objects-same i) (sym predicates-same i) (sym arities-same i) [] g.predicate (map Obj g.args)) (sym same.alike.init i)) sound.init;
      goal = formula c.goal d.goal [] [] same.alike.goal refl sound.goal;
    }
