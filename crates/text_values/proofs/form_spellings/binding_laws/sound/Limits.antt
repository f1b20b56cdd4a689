-- The value of two short texts is within its limits.
use Rattle.std.proofs.Common.{ℕ, ◌≡◌, ◌<◌, ◌≤◌, ◌+◌, ◌^◌, Bool, true, false, cond, List, [], ◌∷◌, ◌++◌, map, length, sym, ap, subst, length-append, arith}
use Rattle.std.specs.Prelude.{codes}
use Rattle.std.specs.List.{list_any}
use Rattle.std.specs.Str.{bytes_eq}
use Rattle.std.proofs.lemmas.List.{length-map}
use Rattle.text_forms.specs.Words.{Word}
use Rattle.htn_base.specs.Limits.{most_pddl_types}
use Rattle.htn_base.specs.Table.{with_word}
use Rattle.gd_reader.specs.Terms.{Names}
use Rattle.gd_reader.specs.declared.term.RawAtom.{RawAtom}
use Rattle.gd_reader.specs.declared.typed_lists.RawParam.{RawParam}
use Rattle.hddl_reader.specs.declared.sections.Language.{Language}
use Rattle.hddl_reader.specs.declared.sections.Language.TheVariants as language
use Rattle.hddl_reader.specs.declared.sections.RawAction.{RawAction}
use Rattle.hddl_reader.specs.declared.sections.RawDomain.{RawDomain}
use Rattle.hddl_reader.specs.declared.sections.RawHead.{RawHead}
use Rattle.hddl_reader.specs.declared.sections.RawMethod.{RawMethod}
use Rattle.hddl_reader.specs.declared.sections.RawProblem.{RawProblem}
use Rattle.plan_model.specs.declared.schemas.ActionSchema.{ActionSchema}
use Rattle.plan_model.specs.declared.schemas.MethodSchema.{MethodSchema}
use Rattle.plan_model.specs.declared.schemas.Predicate.{Predicate}
use Rattle.plan_model.specs.declared.schemas.TaskSchema.{TaskSchema}
use Rattle.plan_model.specs.declared.values.Hddl.{Hddl}
use Rattle.plan_texts.specs.Declared.{named}
use Rattle.plan_texts.specs.SoundProblem.{IsShort, IsSoundProblem, IsWithinLimits, IsSmallMethod, all_methods}
use Rattle.plan_texts.specs.Types.{EachIs}
use Rattle.text_values.specs.form_spellings.EachName.{OfParam, OfParams, OfAtom}
use Rattle.text_values.specs.form_spellings.EachPart.{OfHead, OfMethod, OfAction}
use Rattle.text_values.specs.form_spellings.Places.{IsNameAt, OpensWith, as_written}
use Rattle.text_values.specs.form_spellings.Rising.{Rise, param_offsets, head_offsets}
use Rattle.hddl_reader.specs.names.Faults.{HasDomainFault}
use Rattle.hddl_reader.specs.names.Types.{most_types}
use Rattle.name_binding.specs.Kinds.{Kinds}
use Rattle.name_binding.specs.Listed.{name_of}
use Rattle.name_binding.specs.TooMany.{HaveOneWordAPlace}
use Rattle.name_binding.specs.Typed.{params_bound, param_bound, object_bound, objects_bound}
use Rattle.name_binding.specs.declared.known.Known.{Known}
use Rattle.name_binding.specs.Facts.{fact_bound}
use Rattle.hddl_bind.specs.Callables.{Declared}
use Rattle.hddl_bind.specs.Actions.{action_bound, actions_bound}
use Rattle.hddl_bind.specs.Methods.{method_bound, methods_bound}
use Rattle.hddl_bind.specs.Schemas.{predicate_bound, predicates_bound, task_bound, tasks_bound}
use Rattle.hddl_bind.specs.WholeDomains.{DomainBinding, IsObject, bound_by, faults_by}
use Rattle.hddl_bind.specs.WholeProblems.{ProblemBinding, with_start, IsStart, hddl_bound}
use Rattle.hddl_bind.specs.WholeProblems as problem
use Rattle.text_values.specs.form_spellings.binding_laws.InOrder.{IsPredicateInOrder, IsHeadInOrder, IsMethodInOrder, IsActionInOrder}
use Rattle.text_values.specs.form_spellings.binding_laws.SoundValues.{AreOfTexts, IsSoundBoth}
use Rattle.text_values.specs.form_spellings.binding_laws.WholeFaults.{AreInOrder}
use Rattle.text_values.specs.form_spellings.binding_laws.WholeValues.{OfAllBound}
use Rattle.text_values.proofs.form_spellings.binding_laws.Ones.{each_wider}
use Rattle.text_values.proofs.form_spellings.binding_laws.TooManyWords.{has_too_many_types}
use Rattle.text_values.proofs.form_spellings.binding_laws.WholeValues as whole
use Rattle.text_values.proofs.form_spellings.binding_laws.sound.FewTypes.{same_mentioned, few_types}
use Rattle.text_values.proofs.form_spellings.binding_laws.sound.GoodNetworks.{IsGoodNetwork}
use Rattle.text_values.proofs.form_spellings.binding_laws.sound.Ordered.{all_good}
use Rattle.text_values.proofs.form_spellings.binding_laws.sound.ShortLists.{word_within, few_items}
use Rattle.text_values.proofs.form_spellings.binding_laws.sound.Whole.{both_each, problem_sound}

-- one word more at most
pub one_longer : (ws : Names) (w : Word) → length (with_word ws w) ≤ length ws + 1
one_longer ws w = go (list_any (bytes_eq w) ws)
  where
    go : (b : Bool) → length (cond b ws (ws ++ w ∷ [])) ≤ length ws + 1
    go true = omega arith
    go false = let e = length-append ws (w ∷ []) in omega arith

module _ (text : List ℕ) (names : Names) (few : length text ≤ 2 ^ 24) where
  params_few : (variable : Bool) (xs : List RawParam) → OfParams (IsNameAt text names) variable xs → Rise (param_offsets xs) → length xs ≤ 2 ^ 24
  params_few variable xs at up =
      let l = few_items (λ (x : RawParam). x.at) xs (length text) (each_wider (OfParam (IsNameAt text names) variable) (λ (x : RawParam). x.at < length text) xs (λ x i. word_within text x.at (as_written variable (named names x.name)) i.0.1) at) up in
      omega arith

  heads_few : (hs : List RawHead) → EachIs (OfHead (IsNameAt text names) (OpensWith text)) hs → Rise (head_offsets hs) → length hs ≤ 2 ^ 24
  heads_few hs at up =
      let l = few_items (λ (h : RawHead). h.name.at) hs (length text) (each_wider (OfHead (IsNameAt text names) (OpensWith text)) (λ (h : RawHead). h.name.at < length text) hs (λ h i. word_within text h.name.at (as_written h.name.variable (named names h.name.name)) i.0.1) at) up in
      omega arith

  actions_few : (actions : List RawAction) → EachIs (OfAction (IsNameAt text names) (OpensWith text)) actions → Rise (map (λ (a : RawAction). a.head.name.at) actions) → length actions ≤ 2 ^ 24
  actions_few actions at up =
      let l = few_items (λ (a : RawAction). a.head.name.at) actions (length text) (each_wider (OfAction (IsNameAt text names) (OpensWith text)) (λ (a : RawAction). a.head.name.at < length text) actions (λ a i. word_within text a.head.name.at (as_written a.head.name.variable (named names a.head.name.name)) i.0.0.1) at) up in
      omega arith

  methods_few : (ms : List RawMethod) → EachIs (OfMethod (IsNameAt text names) (OpensWith text)) ms → Rise (map (λ (m : RawMethod). m.head.name.at) ms) → length ms ≤ 2 ^ 24
  methods_few ms at up =
      let l = few_items (λ (m : RawMethod). m.head.name.at) ms (length text) (each_wider (OfMethod (IsNameAt text names) (OpensWith text)) (λ (m : RawMethod). m.head.name.at < length text) ms (λ m i. word_within text m.head.name.at (as_written m.head.name.variable (named names m.head.name.name)) i.0.0.1) at) up in
      omega arith

  atoms_few : (atoms : List RawAtom) → EachIs (OfAtom (IsNameAt text names)) atoms → Rise (map (λ (a : RawAtom). a.head.at) atoms) → length atoms ≤ 2 ^ 24
  atoms_few atoms at up =
      let l = few_items (λ (a : RawAtom). a.head.at) atoms (length text) (each_wider (OfAtom (IsNameAt text names)) (λ (a : RawAtom). a.head.at < length text) atoms (λ a i. word_within text a.head.at (as_written a.head.variable (named names a.head.name)) i.0.1) at) up in
      omega arith

  -- the variables of a list
  bound_short : (kinds : Kinds) (xs : List RawParam) → OfParams (IsNameAt text names) true xs → Rise (param_offsets xs) → IsShort (params_bound kinds xs)
  bound_short kinds xs at up = let l = params_few true xs at up in let e = length-map xs (param_bound kinds) in omega arith

  predicate_params : (kinds : Kinds) (hs : List RawHead) → EachIs (OfHead (IsNameAt text names) (OpensWith text)) hs → EachIs (IsPredicateInOrder names) hs → EachIs (λ (d : Predicate). IsShort d.params) (predicates_bound kinds hs)
  predicate_params kinds [] at o = tt
  predicate_params kinds (h ∷ hs) at o = (bound_short kinds h.params at.0.1 o.0.params.in_order, predicate_params kinds hs at.1 o.1)

  task_params : (kinds : Kinds) (hs : List RawHead) → EachIs (OfHead (IsNameAt text names) (OpensWith text)) hs → EachIs (IsHeadInOrder names) hs → EachIs (λ (t : TaskSchema). IsShort t.params) (tasks_bound kinds hs)
  task_params kinds [] at o = tt
  task_params kinds (h ∷ hs) at o = (bound_short kinds h.params at.0.1 o.0.params.variables.in_order, task_params kinds hs at.1 o.1)

  action_params : (known : Known) (actions : List RawAction) → EachIs (OfAction (IsNameAt text names) (OpensWith text)) actions → EachIs (IsActionInOrder names) actions → EachIs (λ (a : ActionSchema). IsShort a.params) (actions_bound known actions)
  action_params known [] at o = tt
  action_params known (a ∷ actions) at o = (bound_short known.types a.head.params at.0.0.1 o.0.head.params.variables.in_order, action_params known actions at.1 o.1)

  method_params : (known : Known) (callables : Declared) (ms : List RawMethod) → EachIs (OfMethod (IsNameAt text names) (OpensWith text)) ms → EachIs (IsMethodInOrder names) ms → EachIs (λ (s : MethodSchema). IsShort s.params) (methods_bound known callables ms)
  method_params known callables [] at o = tt
  method_params known callables (m ∷ ms) at o = (bound_short known.types m.head.params at.0.0.1 o.0.head.params.variables.in_order, method_params known callables ms at.1 o.1)

-- in either language
most_few : (l : Language) → most_types l ≤ most_pddl_types
most_few language.Hddl = omega arith
most_few language.Pddl = omega arith

small : (names : Names) (m : MethodSchema) → IsGoodNetwork names m × IsShort m.params → IsSmallMethod m
small names m (good, short) = record { subtasks = good.few; params = omega (arith, short) }

module _ (before left : Names) (d : RawDomain) (p : RawProblem) (is : AreInOrder before (with_start left) d p) (object : ℕ) (of_object : IsObject before object) (l : Language) (x : DomainBinding l object d) (ex : faults_by l object d x ≡ [])
    (start : ℕ) (of_start : IsStart (with_start left) start) (y : ProblemBinding (bound_by l object d x) p) (ey : problem.faults_by (bound_by l object d x) p y ≡ []) (of : AreOfTexts (with_start left) d p) (room : length left < 2 ^ 26) where
  abbrev names : Names
  names = with_start left

  abbrev value : Hddl
  value = hddl_bound (bound_by l object d x) y.unions p left start

  abbrev all_kinds : Kinds
  all_kinds = record { types = x.kinds.types; unions = y.unions }

  abbrev known : Known
  known = whole.known before left d p is object of_object l x ex start of_start y ey

  abbrev more_known : Known
  more_known = whole.more_known before left d p is object of_object l x ex start of_start y ey

  abbrev callables : Declared
  callables = whole.callables before left d p is object of_object l x ex start of_start y ey

  types_few : length value.types.names ≤ most_pddl_types + 1
  types_few =
      let few = few_types (most_types l) object d.types x.are_kinds.types.0 x.are_kinds.types.1 (subst HaveOneWordAPlace (same_mentioned d.types) is.domain.types_at_places)
      (λ at f. whole.no_domain before left d p is object of_object l x ex start of_start y ey at 22 (HasDomainFault.too_many_types ((has_too_many_types names object d l at (whole.in_types before left d p is object of_object l x ex start of_start y ey)).0 f))) in
      let most = most_few l in
      let e = length-map x.kinds.types name_of in
      let f = ap length x.are_kinds.types.2 in
      omega arith

  objects_few : length value.objects ≤ 2 ^ 25
  objects_few =
      let a = params_few of.domain names of.domain_short false d.constants of.domain_at.constants is.domain.constants_in_order in
      let b = params_few of.problem names of.problem_short false p.objects of.problem_at.objects is.problem.objects_in_order in
      let e = length-append (objects_bound x.kinds true d.constants) (objects_bound all_kinds false p.objects) in
      let f = length-map d.constants (object_bound x.kinds true) in
      let g = length-map p.objects (object_bound all_kinds false) in
      omega arith

  params_short : EachIs (λ (s : MethodSchema). IsShort s.params) (all_methods value)
  params_short = (
    bound_short of.problem names of.problem_short all_kinds p.params of.problem_at.params is.problem.params.variables.in_order,
    method_params of.domain names of.domain_short known callables d.methods of.domain_at.methods is.domain.methods,
  )

  pub within_limits : IsShort y.unions → IsWithinLimits value
  within_limits short = record {
    names = let l = one_longer left (codes "htn_start") in omega arith;
    types = types_few;
    unions = short;
    objects = objects_few;
    predicates = let l = heads_few of.domain names of.domain_short d.predicates of.domain_at.predicates is.domain.predicates_in_order in let e = length-map d.predicates (predicate_bound x.kinds) in omega arith;
    tasks = let l = heads_few of.domain names of.domain_short d.tasks of.domain_at.tasks is.domain.tasks_in_order in let e = length-map d.tasks (task_bound x.kinds) in omega arith;
    actions = let l = actions_few of.domain names of.domain_short d.actions of.domain_at.actions is.domain.actions_in_order in let e = length-map d.actions (action_bound known) in omega arith;
    methods = let l = methods_few of.domain names of.domain_short d.methods of.domain_at.methods is.domain.methods_in_order in let e = length-map d.methods (method_bound known callables) in omega arith;
    init = let l = atoms_few of.problem names of.problem_short p.init of.problem_at.init is.problem.facts_in_order in let e = length-map p.init (fact_bound more_known) in omega arith;
    predicate_params = predicate_params of.domain names of.domain_short x.kinds d.predicates of.domain_at.predicates is.domain.predicates;
    task_params = task_params of.domain names of.domain_short x.kinds d.tasks of.domain_at.tasks is.domain.tasks;
    action_params = action_params of.domain names of.domain_short known d.actions of.domain_at.actions is.domain.actions;
    method_params = params_short;
    networks = each_wider (λ (m : MethodSchema). IsGoodNetwork names m × IsShort m.params) IsSmallMethod (all_methods value) (small names)
        (both_each (IsGoodNetwork names) (λ (m : MethodSchema). IsShort m.params) (all_methods value) (all_good before left d p is object of_object l x ex start of_start y ey) params_short);
  }

pub is_sound_both : OfAllBound IsSoundBoth
is_sound_both before left d p l b h is (object, of_object, (x, ex, same)) (start, of_start, (y, ey, is_value)) of room short =
    let r = subst (λ b. (y : ProblemBinding b p) × (problem.faults_by b p y ≡ []) × (h ≡ hddl_bound b y.unions p left start)) same (y, ey, is_value) in
    go r.0 r.1 r.2
  where
    go : (y : ProblemBinding (bound_by l object d x) p) → problem.faults_by (bound_by l object d x) p y ≡ [] → h ≡ hddl_bound (bound_by l object d x) y.unions p left start → IsSoundProblem h
    go y ey e =
        subst IsSoundProblem (sym e) (problem_sound before left d p is object of_object l x ex start of_start y ey
        (within_limits before left d p is object of_object l x ex start of_start y ey of room (subst (λ (h : Hddl). IsShort h.types.unions) e short)))
