-- The value of a domain and a problem without faults is sound.
use Rattle.std.proofs.Common.{ℕ, ◌≡◌, ◌<◌, ◌≤◌, Bool, true, false, List, [], ◌∷◌, ◌++◌, map, length, refl, sym, ap, subst, ◌∙◌, length-append, arith}
use Rattle.std.specs.Prelude.{codes, flat_map}
use Rattle.std.proofs.lemmas.List.{map-append, length-map}
use Rattle.htn_base.specs.Different.{AreDifferent}
use Rattle.text_forms.specs.Words.{Word, word_at}
use Rattle.gd_reader.specs.Terms.{Names}
use Rattle.gd_reader.specs.declared.term.RawTerm.{RawTerm}
use Rattle.gd_reader.specs.declared.typed_lists.RawParam.{RawParam}
use Rattle.hddl_reader.specs.declared.sections.Language.{Language}
use Rattle.hddl_reader.specs.declared.sections.RawDomain.{RawDomain}
use Rattle.hddl_reader.specs.declared.sections.RawHead.{RawHead}
use Rattle.hddl_reader.specs.declared.sections.RawMethod.{RawMethod}
use Rattle.hddl_reader.specs.declared.sections.RawProblem.{RawProblem}
use Rattle.plan_model.specs.declared.networks.Child.{Child}
use Rattle.plan_model.specs.declared.schemas.MethodSchema.{MethodSchema}
use Rattle.plan_model.specs.declared.schemas.Predicate.{Predicate}
use Rattle.plan_model.specs.declared.types.Object.{Object}
use Rattle.plan_model.specs.declared.values.Hddl.{Hddl}
use Rattle.plan_texts.specs.Declared as words
use Rattle.plan_texts.specs.Declared.{named}
use Rattle.plan_texts.specs.Printable.{IsPlain, IsUnion, HasWords, IsInForce}
use Rattle.plan_texts.specs.SoundValue.{arities, IsSoundHead, IsSoundMethod, IsSoundHddl}
use Rattle.plan_texts.specs.SoundProblem.{all_methods, IsSoundNetwork, IsSoundProblem, IsWithinLimits}
use Rattle.plan_texts.specs.SpellsHddl.{hddl_types, hddl_words, task_words, action_words}
use Rattle.plan_texts.specs.Types as plan
use Rattle.plan_texts.specs.Types.{EachIs}
use Rattle.plan_texts.proofs.Members.{has-at}
use Rattle.htn_base.specs.Lists.{Has}
use Rattle.hddl_reader.specs.names.Types.{TypeCycle}
use Rattle.hddl_reader.specs.names.Faults.{HasDomainFault, HasProblemFault, HasNoFault, constants, objects}
use Rattle.hddl_reader.specs.names.Words.{term_word, param_word}
use Rattle.name_binding.specs.declared.heads.Head.{Head}
use Rattle.name_binding.specs.Kinds.{Kinds, kind_bound}
use Rattle.name_binding.specs.Listed.{name_of}
use Rattle.name_binding.specs.Typed.{object_bound, objects_bound, param_bound}
use Rattle.name_binding.specs.declared.known.Known.{Known}
use Rattle.hddl_bind.specs.Callables.{Declared, heads}
use Rattle.hddl_bind.specs.Cycle.{order_faults}
use Rattle.hddl_bind.specs.Networks.{child_faults, constraint_faults}
use Rattle.hddl_bind.specs.DeclaredNames.{heads_declared}
use Rattle.hddl_bind.specs.DomainSchemas.{schemas_bound}
use Rattle.hddl_bind.specs.Methods.{methods_bound}
use Rattle.hddl_bind.specs.ProblemParts.{top_scope, parts_bound}
use Rattle.hddl_bind.specs.Schemas.{predicates_bound, task_bound, tasks_bound}
use Rattle.hddl_bind.specs.WholeDomains.{DomainBinding, IsObject, bound_by, faults_by}
use Rattle.hddl_bind.specs.WholeProblems.{ProblemBinding, with_start, IsStart, hddl_bound}
use Rattle.hddl_bind.specs.WholeProblems as problem
use Rattle.hddl_bind.specs.WholeUnions.{domain_unions, problem_unions}
use Rattle.text_values.specs.form_spellings.binding_laws.InOrder.{IsTypedName, IsHeadInOrder}
use Rattle.text_values.specs.form_spellings.binding_laws.Kinds.{AreTypesOf}
use Rattle.text_values.specs.form_spellings.binding_laws.Numbers.{words_of}
use Rattle.text_values.specs.form_spellings.binding_laws.SoundSchemas.{IsSoundBody, AreSchemasSound, ArePartsSound}
use Rattle.text_values.specs.form_spellings.binding_laws.WholeFaults.{AreInOrder}
use Rattle.text_values.proofs.form_spellings.binding_laws.BoundTypes.{own_at, parent_at}
use Rattle.text_values.proofs.form_spellings.binding_laws.Ones.{each_wider, each_has, has_each, each_both, each_mapped, differ_mapped}
use Rattle.text_values.proofs.form_spellings.binding_laws.PartSound.{has_sound_schemas, has_sound_parts}
use Rattle.text_values.proofs.form_spellings.binding_laws.Places.{same_number}
use Rattle.text_values.proofs.form_spellings.binding_laws.TypeWords.{has_types}
use Rattle.text_values.proofs.form_spellings.binding_laws.WholeValues as whole
use Rattle.text_values.proofs.form_spellings.binding_laws.WordsInUse.{type_words_are}
use Rattle.text_values.proofs.form_spellings.binding_laws.Written.{none_left, none_right}
use Rattle.text_values.proofs.form_spellings.binding_laws.sound.CalledHeads.{CallsSound, children_sound, methods_calls}
use Rattle.text_values.proofs.form_spellings.binding_laws.sound.GoodUnions.{IsGood, or_first, table_good, domain_good, problem_good}
use Rattle.text_values.proofs.form_spellings.binding_laws.TypePairs.{own_place}
use Rattle.name_binding.specs.Parents.{place_of}
use Rattle.plan_model.specs.declared.types.Parent.{Parent}
use Rattle.plan_model.specs.declared.networks.Head.TheVariants.{Task}
use Rattle.text_values.proofs.form_spellings.binding_laws.sound.Ordered.{parts_none, top_none, methods_none, all_good}
use Rattle.text_values.proofs.form_spellings.binding_laws.sound.GoodNetworks.{IsGoodNetwork}
use Rattle.text_values.proofs.form_spellings.binding_laws.sound.PlainWords.{predicates_differ, methods_differ, objects_differ, typed_plain, predicates_plain, heads_plain, action_heads, methods_plain, type_plain}
use Rattle.text_values.proofs.form_spellings.binding_laws.sound.TypePairs.{parents_within, has_parent, no_cycle}

-- what holds of each of two lists that go together
pub both_each : {X : Type 0} (P Q : X → Type 0) (xs : List X) → EachIs P xs → EachIs Q xs → EachIs (λ x. P x × Q x) xs
both_each P Q [] e f = tt
both_each P Q (x ∷ xs) e f = ((e.0, f.0), both_each P Q xs e.1 f.1)

-- the words of what is bound are those of what was read
predicate_words : (names : Names) (kinds : Kinds) (hs : List RawHead) → map (λ (x : Predicate). named names x.name) (predicates_bound kinds hs) ≡ map (λ (h : RawHead). term_word names h.name) hs
predicate_words names kinds [] = refl
predicate_words names kinds (h ∷ hs) = ap (λ ws. term_word names h.name ∷ ws) (predicate_words names kinds hs)

method_words_are : (names : Names) (known : Known) (callables : Declared) (ms : List RawMethod) → map (λ (s : MethodSchema). named names s.name) (methods_bound known callables ms) ≡ map (λ (m : RawMethod). term_word names m.head.name) ms
method_words_are names known callables [] = refl
method_words_are names known callables (m ∷ ms) = ap (λ ws. term_word names m.head.name ∷ ws) (method_words_are names known callables ms)

object_words_are : (names : Names) (kinds : Kinds) (constant : Bool) (xs : List RawParam) → map (λ (x : Object). named names x.name) (objects_bound kinds constant xs) ≡ map (param_word names) xs
object_words_are names kinds constant [] = refl
object_words_are names kinds constant (x ∷ xs) = ap (λ ws. param_word names x ∷ ws) (object_words_are names kinds constant xs)

arities_are : (kinds : Kinds) (hs : List RawHead) → map (λ (x : Predicate). length x.params) (predicates_bound kinds hs) ≡ map (λ (h : Head). h.arity) (heads_declared hs)
arities_are kinds [] = refl
arities_are kinds (h ∷ hs) = λ i. length-map h.params (param_bound kinds) i ∷ arities_are kinds hs i

-- an object is of a type that there is
object_type : (kinds : Kinds) (constant : Bool) → 0 < length kinds.types → (x : RawParam) → length x.ty ≤ 1 → (object_bound kinds constant x).ty < length kinds.types
object_type kinds constant some x l = go x.ty l
  where
    go : (ts : List RawTerm) → length ts ≤ 1 → kind_bound kinds ts < length kinds.types
    go [] l = some
    go (t ∷ []) l = or_first t.name.number kinds.types some
    go (t ∷ u ∷ ts) l = absurd (omega arith)

objects_within : (names : Names) (kinds : Kinds) (constant : Bool) → 0 < length kinds.types → (xs : List RawParam) → EachIs (IsTypedName names) xs → EachIs (λ (x : Object). x.ty < length kinds.types) (objects_bound kinds constant xs)
objects_within names kinds constant some [] e = tt
objects_within names kinds constant some (x ∷ xs) e = (object_type kinds constant some x e.0.one_type, objects_within names kinds constant some xs e.1)

-- the words of a union
union_is : (v : words.Declared) (counts : List ℕ) (ms : List ℕ) → AreDifferent v.types → IsGood (length v.types) ms → IsUnion v counts (map (word_at v.types) ms)
union_is v counts ms differ (two, within, apart) = (
  subst (λ n. 1 < n) (sym (length-map ms (word_at v.types))) two,
  each_mapped (word_at v.types) (plan.Has v.types) ms (each_wider (λ t. t < length v.types) (λ t. plan.Has v.types (word_at v.types t)) ms (has-at v.types) within),
  differ_mapped (word_at v.types) ms (λ i j h k e. same_number v.types i j differ (each_has (λ t. t < length v.types) ms i within h) (each_has (λ t. t < length v.types) ms j within k) e) apart,
)

-- a method whose calls are sound too
whole_method : (h : Hddl) (m : MethodSchema) → IsSoundBody (hddl_words h) (arities h) m → EachIs (λ (c : Child). IsSoundHead h c.head (length c.args)) m.children → IsSoundMethod h m
whole_method h m body calls = record {
  params = body.params;
  task_args = body.task_args;
  pre = body.pre;
  children = both_each (λ (c : Child). IsSoundHead h c.head (length c.args)) (λ (c : Child). EachIs (IsInForce (hddl_words h) (arities h) (map (words.variable (hddl_words h)) m.params)) c.args) m.children calls body.child_args;
  constraints = body.constraints;
}

whole_methods : (h : Hddl) (ms : List MethodSchema) → EachIs (IsSoundBody (hddl_words h) (arities h)) ms → EachIs (λ (m : MethodSchema). EachIs (λ (c : Child). IsSoundHead h c.head (length c.args)) m.children) ms → EachIs (IsSoundMethod h) ms
whole_methods h [] e f = tt
whole_methods h (m ∷ ms) e f = (whole_method h m e.0 f.0, whole_methods h ms e.1 f.1)

module _ (before left : Names) (d : RawDomain) (p : RawProblem) (is : AreInOrder before (with_start left) d p) (object : ℕ) (of_object : IsObject before object) (l : Language) (x : DomainBinding l object d) (ex : faults_by l object d x ≡ [])
    (start : ℕ) (of_start : IsStart (with_start left) start) (y : ProblemBinding (bound_by l object d x) p) (ey : problem.faults_by (bound_by l object d x) p y ≡ []) where
  abbrev names : Names
  names = with_start left

  abbrev value : Hddl
  value = hddl_bound (bound_by l object d x) y.unions p left start

  abbrev kinds : Kinds
  kinds = x.kinds

  abbrev all_kinds : Kinds
  all_kinds = record { types = kinds.types; unions = y.unions }

  abbrev known : Known
  known = whole.known before left d p is object of_object l x ex start of_start y ey

  abbrev more_known : Known
  more_known = whole.more_known before left d p is object of_object l x ex start of_start y ey

  abbrev callables : Declared
  callables = whole.callables before left d p is object of_object l x ex start of_start y ey

  abbrev W : List Word
  W = words_of names kinds.types

  abbrev v : words.Declared
  v = hddl_words value

  first : W ≡ codes "object" ∷ whole.rest before left d p is object of_object l x ex start of_start y ey
  first = whole.first before left d p is object of_object l x ex start of_start y ey

  some : 0 < length kinds.types
  some = let e = ap length first in let f = length-map kinds.types (word_at names) in omega arith

  type_words : hddl_types value ≡ W
  type_words = type_words_are names kinds.types

  same_types : length value.types.names ≡ length kinds.types
  same_types = length-map kinds.types name_of

  types_differ : AreDifferent W
  types_differ = (has_types names object d kinds (whole.in_types before left d p is object of_object l x ex start of_start y ey) x.are_kinds.types).1

  none_domain : HasNoFault (HasDomainFault l names d)
  none_domain = whole.no_domain before left d p is object of_object l x ex start of_start y ey

  none_problem : HasNoFault (HasProblemFault names d p)
  none_problem = whole.no_problem before left d p is object of_object l x ex start of_start y ey

  no_type_cycle : (at : ℕ) → TypeCycle names d at → ⊥
  no_type_cycle at c = none_domain at 12 (HasDomainFault.type_cycle c)

  of : AreTypesOf names d kinds
  of = whole.of before left d p is object of_object l x ex start of_start y ey

  types_plain : EachIs IsPlain W
  types_plain = has_each IsPlain W (λ w h. type_plain names d is.domain.types w ((of.words w).0 h))

  old_good : EachIs (IsGood (length kinds.types)) kinds.unions
  old_good = table_good (IsGood (length kinds.types)) (domain_unions (record { types = kinds.types; unions = [] }) d) [] kinds.unions x.are_kinds.unions (domain_good (record { types = kinds.types; unions = [] }) some d) tt

  unions_good : EachIs (IsGood (length kinds.types)) y.unions
  unions_good = table_good (IsGood (length kinds.types)) (problem_unions kinds p) kinds.unions y.unions y.are_unions (problem_good kinds some p) old_good

  v_types : AreDifferent v.types
  v_types = subst AreDifferent (sym type_words) types_differ

  as_many : length v.types ≡ length kinds.types
  as_many = ap length type_words ∙ length-map kinds.types (word_at names)

  objects_are : v.objects ≡ map (param_word names) d.constants ++ map (param_word names) p.objects
  objects_are =
      map-append (λ (x : Object). named names x.name) (objects_bound kinds true d.constants) (objects_bound all_kinds false p.objects)
      ∙ ap (λ ws. ws ++ map (λ (x : Object). named names x.name) (objects_bound all_kinds false p.objects)) (object_words_are names kinds true d.constants)
      ∙ ap (λ ws. map (param_word names) d.constants ++ ws) (object_words_are names all_kinds false p.objects)

  words_sound : HasWords v (arities value)
  words_sound = record {
    types = subst (EachIs IsPlain) (sym type_words) types_plain;
    types_differ = v_types;
    unions = each_mapped (map (word_at v.types)) (IsUnion v (arities value)) y.unions
        (each_wider (IsGood (length kinds.types)) (λ ms. IsUnion v (arities value) (map (word_at v.types) ms)) y.unions (λ ms g. union_is v (arities value) ms v_types (subst (λ n. IsGood n ms) (sym as_many) g)) unions_good);
    objects = subst (EachIs IsPlain) (sym objects_are) (each_both IsPlain (map (param_word names) d.constants) (map (param_word names) p.objects) (typed_plain names d.constants is.domain.constants) (typed_plain names p.objects is.problem.objects));
    predicates = subst (EachIs IsPlain) (sym (predicate_words names kinds d.predicates)) (predicates_plain names d.predicates is.domain.predicates);
    objects_differ = subst AreDifferent (sym objects_are) (objects_differ l names d is.domain none_domain p is.problem none_problem);
    predicates_differ = subst AreDifferent (sym (predicate_words names kinds d.predicates)) (predicates_differ l names d is.domain none_domain);
  }

  calls_are : task_words value ++ action_words value ≡ map (λ (h : RawHead). term_word names h.name) (d.tasks ++ heads d.actions)
  calls_are =
      ap (λ ws. ws ++ action_words value) (whole.task_words_are names kinds d.tasks)
      ∙ ap (λ ws. map (λ (h : RawHead). term_word names h.name) d.tasks ++ ws) (whole.action_words_are names known d.actions)
      ∙ sym (map-append (λ (h : RawHead). term_word names h.name) d.tasks (heads d.actions))

  fewer : length (map (λ (x : Object). named names x.name) (objects_bound kinds true d.constants)) ≤ length v.objects
  fewer =
      let e = ap length (map-append (λ (x : Object). named names x.name) (objects_bound kinds true d.constants) (objects_bound all_kinds false p.objects)) in
      let f = length-append (map (λ (x : Object). named names x.name) (objects_bound kinds true d.constants)) (map (λ (x : Object). named names x.name) (objects_bound all_kinds false p.objects)) in
      omega arith

  schemas : AreSchemasSound v (arities value) (schemas_bound known callables d)
  schemas =
      has_sound_schemas names d (constants names d) known callables (whole.dw before left d p is object of_object l x ex start of_start y ey) (arities value) v.objects x.cycles
      (whole.up before left d p is object of_object l x ex start of_start y ey) (arities_are kinds d.predicates) fewer is.domain
      (whole.numbered before left d p is object of_object l x ex start of_start y ey) x.are_cycles (whole.schemas_none before left d p is object of_object l x ex start of_start y ey)

  parts : ArePartsSound v (arities value) (parts_bound more_known callables (name_of start) (length (tasks_bound kinds d.tasks)) p)
  parts =
      has_sound_parts names d (objects names d p) more_known callables v (arities value) (name_of start) (length (tasks_bound kinds d.tasks)) p y.cycle
      (whole.up_all before left d p is object of_object l x ex start of_start y ey) (arities_are kinds d.predicates) is.problem
      (whole.all_numbered before left d p is object of_object l x ex start of_start y ey) (whole.named_start before left d p is object of_object l x ex start of_start y ey) (length-map d.tasks (task_bound kinds))
      (parts_none before left d p is object of_object l x ex start of_start y ey)

  calls : EachIs (CallsSound value d known refl refl) value.methods
  calls = methods_calls value d known refl refl d.methods x.cycles (methods_none before left d p is object of_object l x ex start of_start y ey) x.are_cycles

  top_calls : EachIs (λ (c : Child). IsSoundHead value c.head (length c.args)) value.top.children
  top_calls =
      let uses = none_right (order_faults p.net y.cycle) (flat_map (child_faults callables more_known.objects (top_scope p)) p.net.subs ++ flat_map (constraint_faults more_known.objects (top_scope p)) p.net.constraints) (top_none before left d p is object of_object l x ex start of_start y ey) in
      children_sound value d known refl refl more_known.objects (top_scope p) p.net.subs (none_left (flat_map (child_faults callables more_known.objects (top_scope p)) p.net.subs) (flat_map (constraint_faults more_known.objects (top_scope p)) p.net.constraints) uses)

  abbrev place_own : (x : RawParam) → Has d.types x → word_at W (own_place kinds.types d.types x) ≡ param_word names x
  place_own z h = (own_at names object d v kinds (whole.in_types before left d p is object of_object l x ex start of_start y ey) of types_differ (whole.rest before left d p is object of_object l x ex start of_start y ey) first is.domain.types no_type_cycle z h).1

  abbrev place_parent : (x : RawParam) (t : RawTerm) → Has d.types x → Has x.ty t → word_at W (place_of kinds.types t) ≡ term_word names t
  place_parent z t h i = (parent_at names object d v kinds (whole.in_types before left d p is object of_object l x ex start of_start y ey) of types_differ (whole.rest before left d p is object of_object l x ex start of_start y ey) first is.domain.types no_type_cycle z t h i).1

  types_object : word_at (hddl_types value) 0 ≡ codes "object"
  types_object = ap (λ ws. word_at ws 0) (type_words ∙ first)

  abbrev IsWithin : ℕ → Parent → Type 0
  IsWithin n q = (q.child < n) × (q.parent < n) × (0 < q.child)

  pub value_sound : IsSoundHddl value
  value_sound = record {
    domain = is.domain.name;
    problem = is.problem.name;
    words = words_sound;
    first = types_object;
    parents = subst (λ n. EachIs (IsWithin n) value.types.parents) (sym same_types) (parents_within names d kinds.types some W place_own place_parent is.domain.types no_type_cycle);
    has_parent = λ k l m. has_parent names d kinds.types some W place_own place_parent is.domain.types no_type_cycle k l (subst (λ n. k < n) same_types m);
    no_cycle = no_cycle names d kinds.types some W place_own place_parent is.domain.types no_type_cycle;
    unions = each_wider (IsGood (length kinds.types)) (EachIs (λ t. t < length value.types.names)) y.unions (λ ms g. subst (λ n. EachIs (λ t. t < n) ms) (sym same_types) g.1) unions_good;
    objects = subst (λ n. EachIs (λ (x : Object). x.ty < n) value.objects) (sym same_types)
        (each_both (λ (x : Object). x.ty < length kinds.types) (objects_bound kinds true d.constants) (objects_bound all_kinds false p.objects)
        (objects_within names kinds true some d.constants is.domain.constants) (objects_within names all_kinds false some p.objects is.problem.objects));
    predicates = schemas.predicates;
    calls_named = subst (EachIs IsPlain) (sym calls_are) (heads_plain names (d.tasks ++ heads d.actions) (each_both (IsHeadInOrder names) d.tasks (heads d.actions) is.domain.tasks (action_heads names d.actions is.domain.actions)));
    calls_differ = subst AreDifferent (sym calls_are) (whole.apart before left d p is object of_object l x ex start of_start y ey);
    methods_named = subst (EachIs IsPlain) (sym (method_words_are names known callables d.methods)) (methods_plain names d.methods is.domain.methods);
    methods_differ = subst AreDifferent (sym (method_words_are names known callables d.methods)) (methods_differ l names d is.domain none_domain);
    task_params = schemas.task_params;
    action_params = schemas.action_params;
    pre = schemas.pre;
    eff = schemas.eff;
    top_task = refl;
    top_args = refl;
    top = whole_method value value.top parts.top top_calls;
    method_tasks = each_wider (CallsSound value d known refl refl) (λ (s : MethodSchema). IsSoundHead value (Task s.task) (length s.task_args)) value.methods (λ s c. c.0) calls;
    methods = whole_methods value value.methods schemas.methods (each_wider (CallsSound value d known refl refl) (λ (s : MethodSchema). EachIs (λ (c : Child). IsSoundHead value c.head (length c.args)) s.children) value.methods (λ s c. c.1) calls);
    init = parts.init;
    goal = parts.goal;
  }

  -- its networks too; within limits it is a sound problem
  pub problem_sound : IsWithinLimits value → IsSoundProblem value
  problem_sound within = record {
    value = value_sound;
    no_condition = refl;
    networks = each_wider (IsGoodNetwork names) (IsSoundNetwork names) (all_methods value) (λ m g. g.sound) (all_good before left d p is object of_object l x ex start of_start y ey);
    limits = within;
  }
