-- The names of a domain and of a problem that are bound to a sound value have no fault.
use Rattle.std.proofs.Common.{ℕ, ◌≡◌, ◌<◌, true, false, inl, inr, List, [], ◌∷◌, ◌++◌, map, length, refl, sym, ap, subst, ◌∙◌, arith}
use Rattle.htn_base.specs.Different.{AreDifferent}
use Rattle.text_forms.specs.Words.{Word}
use Rattle.gd_reader.specs.Terms.{Names}
use Rattle.hddl_reader.specs.declared.networks.RawNet.{RawNet}
use Rattle.hddl_reader.specs.declared.sections.Language.{Language}
use Rattle.hddl_reader.specs.declared.sections.RawAction.{RawAction}
use Rattle.hddl_reader.specs.declared.sections.RawDomain.{RawDomain}
use Rattle.hddl_reader.specs.declared.sections.RawHead.{RawHead}
use Rattle.hddl_reader.specs.declared.sections.RawMethod.{RawMethod}
use Rattle.hddl_reader.specs.declared.sections.RawProblem.{RawProblem}
use Rattle.plan_model.specs.declared.networks.Head.TheVariants.{Task}
use Rattle.plan_model.specs.declared.schemas.ActionSchema.{ActionSchema}
use Rattle.plan_model.specs.declared.schemas.MethodSchema.{MethodSchema}
use Rattle.plan_model.specs.declared.terms.GroundAtom.{GroundAtom}
use Rattle.plan_model.specs.declared.terms.Term.TheVariants.{Obj}
use Rattle.plan_model.specs.declared.types.Object.{Object}
use Rattle.plan_model.specs.declared.types.Parent.{Parent}
use Rattle.plan_model.specs.declared.values.Hddl.{Hddl}
use Rattle.plan_texts.specs.Declared.{Declared, named, variable, words_with}
use Rattle.plan_texts.specs.Domains.{domain_words, Problem}
use Rattle.plan_texts.specs.Printable.{IsSound, IsSoundEffect, IsSoundAtom}
use Rattle.plan_texts.specs.SoundProblem.{IsSmallMethod, IsSoundNetwork, all_methods}
use Rattle.plan_texts.specs.SoundValue.{arities, scope_of, IsSoundHead, IsSoundMethod}
use Rattle.plan_texts.specs.SpellsHddl.{hddl_types, hddl_words, hddl_domain, hddl_problem, task_words, action_words}
use Rattle.plan_texts.specs.Together.{Together}
use Rattle.plan_texts.specs.Types.{EachIs}
use Rattle.plan_texts.specs.Types as value
use Rattle.plan_texts.proofs.Members.{each-has, has-contains, length-map}
use Rattle.plan_texts.proofs.Unique.{map-map}
use Rattle.plan_texts.proofs.Together.{together-maps}
use Rattle.text_values.specs.form_spellings.Bound.{IsBoundObject, IsBoundParam, IsBoundFormula, IsBoundEffect}
use Rattle.text_values.specs.form_spellings.BoundNetworks.{IsBoundNetwork}
use Rattle.text_values.specs.form_spellings.BoundSchemas.{IsBoundPredicate, IsBoundTask, IsBoundAction, IsBoundHead, IsBoundMethod, IsBoundFact}
use Rattle.text_values.specs.form_spellings.BoundTexts.{IsBoundDomain}
use Rattle.hddl_reader.specs.names.Faults.{HasDomainFault, HasProblemFault, DuplicateInDomain, DuplicateInProblem, constants, objects, HasNoFault}
use Rattle.htn_base.specs.Lists.{One}
use Rattle.hddl_reader.specs.names.Networks.{ids, UnknownSubtaskId, CyclicOrder, TooManySubtasks}
use Rattle.hddl_reader.specs.names.Standing.{InMethod, InAction, InDomain, InProblem}
use Rattle.hddl_reader.specs.names.Types.{most_types}
use Rattle.hddl_reader.specs.names.Uses.{Scope, Use, predicate, subtask, task, IsDeclared, IsOfAtom, variables}
use Rattle.hddl_reader.specs.names.Words.{callables, param_word, head_at, param_at, IsSecond}
use Rattle.text_values.specs.form_spellings.Faultless.{HasFewTypes}
use Rattle.text_values.proofs.form_spellings.faultless.Lists.{beside, each_front, each_back}
use Rattle.text_values.proofs.form_spellings.faultless.Seconds.{word, no_second}
use Rattle.text_values.proofs.form_spellings.faultless.Uses.{IsGood, no_type, no_name, no_object, no_variable, no_arity}
use Rattle.text_values.proofs.form_spellings.faultless.Parts.{HasWordsOf, params_good, objects_good, same_variables, atom_good}
use Rattle.text_values.proofs.form_spellings.faultless.Formulas.{formula_good}
use Rattle.text_values.proofs.form_spellings.faultless.Effects.{effect_good}
use Rattle.text_values.proofs.form_spellings.faultless.Networks.{IsPairNamed, no_second_id, no_unknown_id, no_cycle, not_too_many}
use Rattle.text_values.proofs.form_spellings.faultless.NetworkUses.{HasCallsOf, head_good, network_good}
use Rattle.text_values.proofs.form_spellings.faultless.Sound.{IsSoundAtAnyLength}
use Rattle.text_values.proofs.form_spellings.faultless.Types.{HasOneType}
use Rattle.text_values.proofs.form_spellings.faultless.Types as types
use Rattle.text_values.proofs.form_spellings.faultless.Declarations.{constant_words, callables_apart, predicates_apart, methods_apart, constants_apart, object_words, objects_differ, words_are, calls_are}

-- each ordering of a network has names
abbrev pub HasNamedPairs : Names → RawNet → Type 0
HasNamedPairs names n = EachIs (IsPairNamed names) n.pairs

-- What was read of a problem is bound to these parts and to a network: its own, or none.
pub record AreBoundParts (names : Names) (v : Declared) (tasks actions : List Word) (r : RawProblem) (p : Problem) (top : MethodSchema) : Type 0 where
  pub objects : Together (IsBoundObject v names false) r.objects p.objects
  pub init : Together (IsBoundFact v names) r.init p.init
  pub goal : IsBoundFormula v names r.goal [] p.goal
  pub params : Together (IsBoundParam v names) r.params top.params
  pub network : IsBoundNetwork v names tasks actions (map (variable v) top.params) r.net top.children top.pairs top.constraints

-- The faults that a network may have, and has not.
record IsFaultlessNetwork (names : Names) (n : RawNet) : Type 0 where
  pub second : (at : ℕ) → IsSecond [] (ids names n.subs) at → ⊥
  pub unknown : (at : ℕ) → UnknownSubtaskId names n at → ⊥
  pub cycle : (at : ℕ) → CyclicOrder names n at → ⊥
  pub many : (at : ℕ) → TooManySubtasks n at → ⊥

module _ (names : Names) (d : RawDomain) (h : Hddl) (s : IsSoundAtAnyLength h) (tasks actions : List Word) where
  network_faultless : (known : List Object) (scope : Scope) (n : RawNet) (m : MethodSchema) → value.Has (all_methods h) m → HasNamedPairs names n
      → IsBoundNetwork (words_with h.names h.types h.predicates known) names tasks actions scope n m.children m.pairs m.constraints → IsFaultlessNetwork names n
  network_faultless known scope n m in_value pairs b =
      let v = words_with h.names h.types h.predicates known in
      let sound = each-has (IsSoundNetwork h.names) (all_methods h) m s.networks in_value in
      let small = each-has IsSmallMethod (all_methods h) m s.small in_value in
      let order = s.ordered m (has-contains (all_methods h) m in_value) in
      record {
        second = λ at o. no_second_id names v tasks actions scope n m.children m.pairs m.constraints b at sound.ids_differ o;
        unknown = λ at o. no_unknown_id names v tasks actions scope n m.children m.pairs m.constraints b pairs at o;
        cycle = λ at o. no_cycle names v tasks actions scope n m.children m.pairs m.constraints b pairs at order.1 o;
        many = λ at o. not_too_many names v tasks actions scope n m.children m.pairs m.constraints b at small.subtasks o;
      }

module _ (names : Names) (d : RawDomain) (h : Hddl) (cs : List Object) (b : IsBoundDomain names d (hddl_domain h cs)) (s : IsSoundAtAnyLength h) where
  abbrev Own : Declared
  Own = domain_words (hddl_domain h cs)

  typed : (xs : List Object) → EachIs (λ (x : Object). x.ty < length h.types.names) xs → EachIs (λ (x : Object). x.ty < length (hddl_types h)) xs
  typed [] e = tt
  typed (x ∷ xs) e = (let n = length-map (named h.names) h.types.names in let l = e.0 in omega (arith, l, n), typed xs e.1)

  module _ (others : List Object) (all : h.objects ≡ cs ++ others) (l : Language) (few : HasFewTypes l h.types) (one : EachIs HasOneType d.types) (pairs : EachIs (λ (m : RawMethod). HasNamedPairs names m.net) d.methods) where
    sound_objects : EachIs (λ (x : Object). x.ty < length (hddl_types h)) (cs ++ others)
    sound_objects = subst (EachIs (λ (x : Object). x.ty < length (hddl_types h))) all (typed h.objects s.value.objects)

    own : HasWordsOf names d (constants names d) Own (arities h)
    own = words_are names d h cs b s (constants names d) cs (sym (constant_words names d h cs b s))

    calls : HasCallsOf names d h (task_words h) (action_words h)
    calls = calls_are names d h cs b s

    abbrev Good : Scope → Use → Type 0
    Good = IsGood names d (constants names d)

    method_good : (m : RawMethod) (x : MethodSchema) (here : Scope) (u : Use) → IsBoundMethod Own names (task_words h) (action_words h) m x → IsSoundMethod h x → IsSoundHead h (Task x.task) (length x.task_args) → InMethod names m here u → Good here u
    method_good m x here u c i t (InMethod.parameter o) = params_good names d (constants names d) Own (arities h) own m.head.params x.params here u c.params o
    method_good m x here u c i t (InMethod.of_task e o) =
        let same = same_variables names d (constants names d) Own (arities h) own m.head.params x.params c.params in
        subst (λ here. Good here u) (sym e) (head_good names d (constants names d) Own (arities h) own h (task_words h) (action_words h) calls (variables names m.head.params) m.task x.task x.task_args u
        (subst (λ scope. IsBoundHead Own names (task_words h) scope m.task x.task x.task_args) same c.head) t o)
    method_good m x here u c i t (InMethod.precondition o) =
        let same = same_variables names d (constants names d) Own (arities h) own m.head.params x.params c.params in
        formula_good names d (constants names d) Own (arities h) own (hddl_words h) m.pre x.pre (variables names m.head.params) (scope_of h x.params) here u (subst (λ scope. IsBoundFormula Own names m.pre scope x.pre) same c.pre) i.pre o
    method_good m x here u c i t (InMethod.network e o) =
        let same = same_variables names d (constants names d) Own (arities h) own m.head.params x.params c.params in
        subst (λ here. Good here u) (sym e) (network_good names d (constants names d) Own (arities h) own h (task_words h) (action_words h) calls (variables names m.head.params) (scope_of h x.params) m.net x.children x.pairs x.constraints u
        (subst (λ scope. IsBoundNetwork Own names (task_words h) (action_words h) scope m.net x.children x.pairs x.constraints) same c.network) i.children o)

    action_good : (a : RawAction) (x : ActionSchema) (here : Scope) (u : Use) → IsBoundAction Own names a x → IsSound (hddl_words h) (arities h) x.pre (scope_of h x.params) → IsSoundEffect (hddl_words h) (arities h) x.eff (scope_of h x.params) → InAction names a here u → Good here u
    action_good a x here u c i j (InAction.parameter o) = params_good names d (constants names d) Own (arities h) own a.head.params x.params here u c.params o
    action_good a x here u c i j (InAction.precondition o) =
        let same = same_variables names d (constants names d) Own (arities h) own a.head.params x.params c.params in
        formula_good names d (constants names d) Own (arities h) own (hddl_words h) a.pre x.pre (variables names a.head.params) (scope_of h x.params) here u (subst (λ scope. IsBoundFormula Own names a.pre scope x.pre) same c.pre) i o
    action_good a x here u c i j (InAction.effect o) =
        let same = same_variables names d (constants names d) Own (arities h) own a.head.params x.params c.params in
        effect_good names d (constants names d) Own (arities h) own (hddl_words h) a.eff x.eff (variables names a.head.params) (scope_of h x.params) here u (subst (λ scope. IsBoundEffect Own names a.eff scope x.eff) same c.eff) j o

    domain_good : (here : Scope) (u : Use) → InDomain names d here u → Good here u
    domain_good here u (InDomain.constant o) = objects_good names d (constants names d) Own (arities h) own true d.constants cs here u b.constants (each_front (λ (x : Object). x.ty < length (hddl_types h)) cs others sound_objects) o
    domain_good here u (InDomain.of_predicate o) =
        let g = beside (IsBoundPredicate Own names) (λ (q : RawHead). IsDeclared q.params u) d.predicates h.predicates b.predicates o in
        let r = g.0 in
        let x = g.1 in
        params_good names d (constants names d) Own (arities h) own r.params x.params here u g.4.1 g.5
    domain_good here u (InDomain.of_task o) =
        let g = beside (IsBoundTask Own names) (λ (q : RawHead). IsDeclared q.params u) d.tasks h.tasks b.tasks o in
        let r = g.0 in
        let x = g.1 in
        params_good names d (constants names d) Own (arities h) own r.params x.params here u g.4.1 g.5
    domain_good here u (InDomain.method o) =
        let g = beside (IsBoundMethod Own names (task_words h) (action_words h)) (λ m. InMethod names m here u) d.methods h.methods b.methods o in
        method_good g.0 g.1 here u g.4 (each-has (IsSoundMethod h) h.methods g.1 s.value.methods g.3) (each-has (λ (x : MethodSchema). IsSoundHead h (Task x.task) (length x.task_args)) h.methods g.1 s.value.method_tasks g.3) g.5
    domain_good here u (InDomain.action o) =
        let g = beside (IsBoundAction Own names) (λ a. InAction names a here u) d.actions h.actions b.actions o in
        action_good g.0 g.1 here u g.4 (each-has (λ (x : ActionSchema). IsSound (hddl_words h) (arities h) x.pre (scope_of h x.params)) h.actions g.1 s.value.pre g.3)
        (each-has (λ (x : ActionSchema). IsSoundEffect (hddl_words h) (arities h) x.eff (scope_of h x.params)) h.actions g.1 s.value.eff g.3) g.5

    of_networks : (P : RawNet → Type 0) → ((n : RawNet) → IsFaultlessNetwork names n → P n → ⊥) → One (λ (m : RawMethod). P m.net) d.methods → ⊥
    of_networks P none o =
        let g = beside (IsBoundMethod Own names (task_words h) (action_words h)) (λ (m : RawMethod). P m.net) d.methods h.methods b.methods o in
        let m = g.0 in
        let x = g.1 in
        let c = g.4 in
        none m.net (network_faultless names d h s (task_words h) (action_words h) cs (map (variable Own) x.params) m.net x (inr g.3) (each-has (λ (m : RawMethod). HasNamedPairs names m.net) d.methods m pairs g.2) c.network) g.5

    no_duplicate : (at : ℕ) → DuplicateInDomain names d at → ⊥
    no_duplicate at (DuplicateInDomain.task_or_action i) = no_second [] (map (head_at names) (callables d)) at (callables_apart names d h cs b s) i
    no_duplicate at (DuplicateInDomain.method i) = no_second [] (map (λ (m : RawMethod). head_at names m.head) d.methods) at (methods_apart names d h cs b s) i
    no_duplicate at (DuplicateInDomain.predicate i) = no_second [] (map (head_at names) d.predicates) at (predicates_apart names d h cs b s) i
    no_duplicate at (DuplicateInDomain.constant i) = no_second [] (map (param_at names) d.constants) at (constants_apart names d h cs b s others all) i
    no_duplicate at (DuplicateInDomain.subtask_id o) = of_networks (λ n. IsSecond [] (ids names n.subs) at) (λ n f i. f.second at i) o

    abbrev Inside : List Word → Parent → Type 0
    Inside ts x = (x.child < length ts) × (x.parent < length ts) × (0 < x.child)

    parents_inside : (xs : List Parent) → EachIs (λ (x : Parent). (x.child < length h.types.names) × (x.parent < length h.types.names) × (0 < x.child)) xs → EachIs (Inside (hddl_types h)) xs
    parents_inside [] e = tt
    parents_inside (x ∷ xs) e = (let n = length-map (named h.names) h.types.names in let l = e.0.0 in let m = e.0.1 in (omega (arith, l, n), omega (arith, m, n), e.0.2), parents_inside xs e.1)

    pub domain_faultless : HasNoFault (HasDomainFault l names d)
    domain_faultless at code (HasDomainFault.duplicate_name f) = no_duplicate at f
    domain_faultless at code (HasDomainFault.unknown_type f) = no_type names d (constants names d) (InDomain names d) domain_good at f
    domain_faultless at code (HasDomainFault.type_cycle f) = types.no_cycle names Own (hddl_types h) h.types.parents d b.types one (parents_inside h.types.parents s.value.parents) s.value.no_cycle at f
    domain_faultless at code (HasDomainFault.unknown_predicate f) = no_name names d (constants names d) (InDomain names d) domain_good at predicate f
    domain_faultless at code (HasDomainFault.unknown_task (inl f)) = no_name names d (constants names d) (InDomain names d) domain_good at subtask f
    domain_faultless at code (HasDomainFault.unknown_task (inr f)) = no_name names d (constants names d) (InDomain names d) domain_good at task f
    domain_faultless at code (HasDomainFault.unknown_object f) = no_object names d (constants names d) (InDomain names d) domain_good at f
    domain_faultless at code (HasDomainFault.unknown_variable f) = no_variable names d (constants names d) (InDomain names d) domain_good at f
    domain_faultless at code (HasDomainFault.wrong_arity f) = no_arity names d (constants names d) (InDomain names d) domain_good at f
    domain_faultless at code (HasDomainFault.unknown_subtask_id o) = of_networks (λ n. UnknownSubtaskId names n at) (λ n f. f.unknown at) o
    domain_faultless at code (HasDomainFault.cyclic_order o) = of_networks (λ n. CyclicOrder names n at) (λ n f. f.cycle at) o
    domain_faultless at code (HasDomainFault.too_many_subtasks o) = of_networks (λ n. TooManySubtasks n at) (λ n f. f.many at) o
    domain_faultless at code (HasDomainFault.too_many_types f) = types.not_too_many names Own (hddl_types h) h.types.parents d b.types one (most_types l) at (let n = length-map (named h.names) h.types.names in omega (arith, few, n)) f

    -- the problem beside it
    module _ (p : RawProblem) (c : AreBoundParts names (hddl_words h) (task_words h) (action_words h) p (hddl_problem h others) h.top) (top_pairs : HasNamedPairs names p.net) where
      other_words : map (param_word names) p.objects ≡ map (λ (x : Object). named h.names x.name) others
      other_words = together-maps (param_word names) (λ (x : Object). named h.names x.name) (IsBoundObject (hddl_words h) names false) (λ r x i. sym i.0) p.objects others c.objects

      abbrev All : List Word
      All = objects names d p

      both : HasWordsOf names d All (hddl_words h) (arities h)
      both = words_are names d h cs b s All h.objects (object_words names d h cs b s others all ∙ ap (λ ws. constants names d ++ ws) (sym other_words))

      abbrev GoodIn : Scope → Use → Type 0
      GoodIn = IsGood names d All

      top_scope : map (variable (hddl_words h)) h.top.params ≡ variables names p.params
      top_scope = same_variables names d All (hddl_words h) (arities h) both p.params h.top.params c.params

      problem_good : (here : Scope) (u : Use) → InProblem names p here u → GoodIn here u
      problem_good here u (InProblem.object o) = objects_good names d All (hddl_words h) (arities h) both false p.objects others here u c.objects (each_back (λ (x : Object). x.ty < length (hddl_types h)) cs others sound_objects) o
      problem_good here u (InProblem.parameter o) = params_good names d All (hddl_words h) (arities h) both p.params h.top.params here u c.params o
      problem_good here u (InProblem.network e o) =
          subst (λ here. GoodIn here u) (sym e) (network_good names d All (hddl_words h) (arities h) both h (task_words h) (action_words h) calls (variables names p.params) (scope_of h h.top.params) p.net h.top.children h.top.pairs h.top.constraints u
          (subst (λ scope. IsBoundNetwork (hddl_words h) names (task_words h) (action_words h) scope p.net h.top.children h.top.pairs h.top.constraints) top_scope c.network) s.value.top.children o)
      problem_good here u (InProblem.fact e o) =
          let g = beside (IsBoundFact (hddl_words h) names) (λ a. IsOfAtom predicate a u) p.init h.init c.init o in
          let x = g.1 in
          let i = each-has (λ (g : GroundAtom). IsSoundAtom (hddl_words h) (arities h) [] g.predicate (map Obj g.args)) h.init x s.value.init g.3 in
          subst (λ here. GoodIn here u) (sym e) (atom_good names d All (hddl_words h) (arities h) both [] g.0 x.predicate (map Obj x.args) u g.4 i.1 g.5)
      problem_good here u (InProblem.goal o) = formula_good names d All (hddl_words h) (arities h) both (hddl_words h) p.goal h.goal [] [] here u c.goal s.value.goal o

      top_faultless : IsFaultlessNetwork names p.net
      top_faultless = network_faultless names d h s (task_words h) (action_words h) h.objects (map (variable (hddl_words h)) h.top.params) p.net h.top (inl refl) top_pairs c.network

      others_apart : AreDifferent (constants names d ++ map word (map (param_at names) p.objects))
      others_apart = subst (λ ws. AreDifferent (constants names d ++ ws)) (sym other_words ∙ map-map (param_at names) word p.objects) (objects_differ names d h cs b s others all)

      pub problem_faultless : HasNoFault (HasProblemFault names d p)
      problem_faultless at code (HasProblemFault.duplicate_name (DuplicateInProblem.object i)) = no_second (constants names d) (map (param_at names) p.objects) at others_apart i
      problem_faultless at code (HasProblemFault.duplicate_name (DuplicateInProblem.subtask_id i)) = top_faultless.second at i
      problem_faultless at code (HasProblemFault.unknown_type f) = no_type names d All (InProblem names p) problem_good at f
      problem_faultless at code (HasProblemFault.unknown_predicate f) = no_name names d All (InProblem names p) problem_good at predicate f
      problem_faultless at code (HasProblemFault.unknown_task (inl f)) = no_name names d All (InProblem names p) problem_good at subtask f
      problem_faultless at code (HasProblemFault.unknown_task (inr f)) = no_name names d All (InProblem names p) problem_good at task f
      problem_faultless at code (HasProblemFault.unknown_object f) = no_object names d All (InProblem names p) problem_good at f
      problem_faultless at code (HasProblemFault.unknown_variable f) = no_variable names d All (InProblem names p) problem_good at f
      problem_faultless at code (HasProblemFault.wrong_arity f) = no_arity names d All (InProblem names p) problem_good at f
      problem_faultless at code (HasProblemFault.unknown_subtask_id f) = top_faultless.unknown at f
      problem_faultless at code (HasProblemFault.cyclic_order f) = top_faultless.cycle at f
      problem_faultless at code (HasProblemFault.too_many_subtasks f) = top_faultless.many at f
