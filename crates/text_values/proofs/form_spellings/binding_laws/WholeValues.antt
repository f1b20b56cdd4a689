-- The value of a domain and a problem without faults is what they say.
use Rattle.std.proofs.Common.{ℕ, ◌≡◌, true, false, inl, inr, List, [], ◌∷◌, ◌++◌, map, length, refl, sym, ap, subst, ◌∙◌, append-nil}
use Rattle.std.specs.Prelude.{◌⊎◌, ◌≤◌, codes}
use Rattle.std.proofs.lemmas.List.{length-map}
use Rattle.htn_base.specs.Different.{AreDifferent}
use Rattle.text_forms.specs.Words.{Word}
use Rattle.gd_reader.specs.Terms.{Names}
use Rattle.gd_reader.specs.declared.typed_lists.RawParam.{RawParam}
use Rattle.hddl_reader.specs.declared.sections.Language.{Language}
use Rattle.hddl_reader.specs.declared.sections.RawAction.{RawAction}
use Rattle.hddl_reader.specs.declared.sections.RawDomain.{RawDomain}
use Rattle.hddl_reader.specs.declared.sections.RawHead.{RawHead}
use Rattle.hddl_reader.specs.declared.sections.RawProblem.{RawProblem}
use Rattle.plan_model.specs.declared.types.Object.{Object}
use Rattle.plan_model.specs.declared.types.Parent.{Parent}
use Rattle.plan_model.specs.declared.values.Hddl.{Hddl}
use Rattle.plan_texts.specs.Declared as words
use Rattle.plan_texts.specs.Declared.{named}
use Rattle.plan_texts.specs.Domains.{domain_words}
use Rattle.plan_texts.specs.SpellsHddl.{words_of_tasks, words_of_actions, hddl_words, hddl_domain}
use Rattle.plan_texts.specs.Together.{Together}
use Rattle.plan_texts.specs.TypedLists.{first_seen}
use Rattle.text_values.specs.form_spellings.BoundSchemas.{IsBoundMethod, IsBoundTop}
use Rattle.text_values.specs.form_spellings.BoundTexts.{AreBoundTypes, IsBoundDomain, IsBoundProblem, IsBoundHddl}
use Rattle.hddl_reader.specs.names.Faults.{DuplicateInDomain, constants, objects, HasDomainFault, HasProblemFault, HasNoFault}
use Rattle.hddl_reader.specs.names.Standing.{InDomain, InProblem}
use Rattle.hddl_reader.specs.names.Words.{callables as tasks_and_actions, head_at, term_word}
use Rattle.name_binding.specs.Kinds.{Kinds}
use Rattle.name_binding.specs.Listed.{name_of}
use Rattle.name_binding.specs.Parents.{pairs_in_order}
use Rattle.name_binding.specs.Typed.{objects_bound}
use Rattle.name_binding.specs.declared.unions.Either.{Either}
use Rattle.name_binding.specs.declared.known.Known.{Known}
use Rattle.hddl_bind.specs.Callables.{Declared, declared, heads}
use Rattle.hddl_bind.specs.Actions.{actions_bound}
use Rattle.hddl_bind.specs.DeclaredNames.{known_in, second_names, second_objects, objects_declared}
use Rattle.hddl_bind.specs.DomainSchemas.{schemas_bound, schemas_faults}
use Rattle.hddl_bind.specs.ProblemParts.{parts_bound, parts_faults}
use Rattle.hddl_bind.specs.Schemas.{predicates_bound, task_bound, tasks_bound}
use Rattle.hddl_bind.specs.WholeDomains.{DomainBinding, IsObject, bound_by, faults_by}
use Rattle.hddl_bind.specs.WholeProblems.{ProblemBinding, with_start, IsStart, known_with, hddl_bound}
use Rattle.hddl_bind.specs.WholeProblems as problem
use Rattle.hddl_bind.specs.WholeUnions.{domain_unions, problem_unions}
use Rattle.text_values.specs.form_spellings.binding_laws.Calls.{called_words, offsets}
use Rattle.text_values.specs.form_spellings.binding_laws.Formulas.{AreNumberedIn}
use Rattle.text_values.specs.form_spellings.binding_laws.Kinds.{AreTypesOf, AreTermsIn}
use Rattle.text_values.specs.form_spellings.binding_laws.Numbers.{words_of}
use Rattle.text_values.specs.form_spellings.binding_laws.SchemaValues.{AreLookedUp, AreSchemasBound, ArePartsBound, task_words, action_words}
use Rattle.text_values.specs.form_spellings.binding_laws.TypeWords.{AreTypesIn}
use Rattle.text_values.specs.form_spellings.binding_laws.WholeFaults.{AreInOrder}
use Rattle.text_values.specs.form_spellings.binding_laws.WholeValues.{IsBoundBoth, OfAllBound}
use Rattle.text_values.proofs.form_spellings.binding_laws.BoundTypes.{has_bound_types}
use Rattle.text_values.proofs.form_spellings.binding_laws.FromOrder.{callables_of, known_of}
use Rattle.text_values.proofs.form_spellings.binding_laws.NoSeconds.{words_differ, at_of, word_of}
use Rattle.text_values.proofs.form_spellings.binding_laws.NumberedTypes.{in_domain, in_problem, numbered_in_domain, numbered_in_problem}
use Rattle.text_values.proofs.form_spellings.binding_laws.PartValues.{has_bound_schemas, has_bound_parts}
use Rattle.text_values.proofs.form_spellings.binding_laws.ProblemFaults.{known_is}
use Rattle.text_values.proofs.form_spellings.binding_laws.TableKeeps.{number_is}
use Rattle.text_values.proofs.form_spellings.binding_laws.TypeWords.{has_types_in_order}
use Rattle.text_values.proofs.form_spellings.binding_laws.UnionTables.{found_stands, old_in_front}
use Rattle.text_values.proofs.form_spellings.binding_laws.WholeFaults.{types_in, types_are, domain_none, problem_none}
use Rattle.text_values.proofs.form_spellings.binding_laws.WordsInUse.{type_words_are, has_known, predicates_are, constants_are, all_objects_are}
use Rattle.text_values.proofs.form_spellings.binding_laws.Written.{none_right}
use Rattle.text_values.proofs.form_spellings.binding_laws.WrittenFormulas.{IsWritten}

pub task_words_are : (names : Names) (kinds : Kinds) (hs : List RawHead) → words_of_tasks names (tasks_bound kinds hs) ≡ map (λ (h : RawHead). term_word names h.name) hs
task_words_are names kinds [] = refl
task_words_are names kinds (h ∷ hs) = ap (λ ws. term_word names h.name ∷ ws) (task_words_are names kinds hs)

pub action_words_are : (names : Names) (known : Known) (actions : List RawAction) → words_of_actions names (actions_bound known actions) ≡ map (λ (h : RawHead). term_word names h.name) (heads actions)
action_words_are names known [] = refl
action_words_are names known (a ∷ actions) = ap (λ ws. term_word names a.head.name ∷ ws) (action_words_are names known actions)

offsets_are : (names : Names) (hs : List RawHead) → map at_of (map (head_at names) hs) ≡ offsets hs
offsets_are names [] = refl
offsets_are names (h ∷ hs) = ap (λ ns. h.name.at ∷ ns) (offsets_are names hs)

words_are : (names : Names) (hs : List RawHead) → map word_of (map (head_at names) hs) ≡ map (λ (h : RawHead). term_word names h.name) hs
words_are names [] = refl
words_are names (h ∷ hs) = ap (λ ws. term_word names h.name ∷ ws) (words_are names hs)

module _ (before left : Names) (d : RawDomain) (p : RawProblem) (is : AreInOrder before (with_start left) d p) (object : ℕ) (of_object : IsObject before object) (l : Language) (x : DomainBinding l object d) (ex : faults_by l object d x ≡ [])
    (start : ℕ) (of_start : IsStart (with_start left) start) (y : ProblemBinding (bound_by l object d x) p) (ey : problem.faults_by (bound_by l object d x) p y ≡ []) where
  abbrev pub names : Names
  names = with_start left

  abbrev pub kinds : Kinds
  kinds = x.kinds

  -- with the unions of the problem too
  abbrev pub all_kinds : Kinds
  all_kinds = record { types = kinds.types; unions = y.unions }

  abbrev pub callables : Declared
  callables = declared d.tasks d.actions

  abbrev pub known : Known
  known = known_in kinds d

  abbrev pub more_known : Known
  more_known = known_with known y.unions p

  abbrev pub parents : List Parent
  parents = pairs_in_order kinds.types d.types

  abbrev pub value : Hddl
  value = hddl_bound (bound_by l object d x) y.unions p left start

  abbrev pub own : List Object
  own = objects_bound all_kinds false p.objects

  abbrev pub constant_objects : List Object
  constant_objects = objects_bound kinds true d.constants

  abbrev pub dw : words.Declared
  dw = domain_words (hddl_domain value constant_objects)

  abbrev pub pw : words.Declared
  pw = hddl_words value

  pub in_types : AreTypesIn names object d.types
  in_types = types_in before names d p is object of_object

  pub of : AreTypesOf names d kinds
  of = types_are before names d p is object of_object l x

  pub no_domain : HasNoFault (HasDomainFault l names d)
  no_domain = domain_none before names d p is object of_object l x ex

  pub no_problem : HasNoFault (HasProblemFault names d p)
  no_problem = problem_none before names d p is object of_object l x y ey

  abbrev pub rest : List Word
  rest = first_seen (codes "object" ∷ []) (map (term_word names) x.are_kinds.types.0)

  pub first : words_of names kinds.types ≡ codes "object" ∷ rest
  first = ap (words_of names) x.are_kinds.types.2 ∙ has_types_in_order names object d x.are_kinds.types.0 in_types x.are_kinds.types.1

  pub more : (more : List (List ℕ)) × (y.unions ≡ kinds.unions ++ more)
  more = old_in_front (problem_unions kinds p) kinds.unions y.unions y.are_unions

  pub numbered : AreNumberedIn names kinds (InDomain names d)
  numbered =
      numbered_in_domain names d kinds of [] (domain_unions (record { types = kinds.types; unions = [] }) d)
      (found_stands (domain_unions (record { types = kinds.types; unions = [] }) d) [] kinds.unions x.are_kinds.unions) l no_domain (in_domain names (record { types = kinds.types; unions = [] }) d is.domain)

  pub of_all : AreTypesOf names d all_kinds
  of_all = record { differ = of.differ; known = of.known; words = of.words }

  pub same_written : (found : List Either) (z : RawParam) → IsWritten names kinds found z ⊎ (AreTermsIn names z.ty × (length z.ty ≤ 1)) → IsWritten names (record { types = kinds.types; unions = kinds.unions }) found z ⊎ (AreTermsIn names z.ty × (length z.ty ≤ 1))
  same_written found z (inl w) = inl (record { types_in = w.types_in; once = w.once; unions = w.unions })
  same_written found z (inr s) = inr s

  pub all_numbered : AreNumberedIn names all_kinds (InProblem names p)
  all_numbered =
      numbered_in_problem names d all_kinds of_all kinds.unions (problem_unions kinds p)
      (found_stands (problem_unions kinds p) kinds.unions y.unions y.are_unions) p no_problem (λ here z s. same_written (problem_unions kinds p) z (in_problem names kinds p is.problem here z s))

  pub apart : AreDifferent (called_words names d callables (tasks_and_actions d))
  apart =
      subst AreDifferent (words_are names (tasks_and_actions d))
      (words_differ [] (map (head_at names) (tasks_and_actions d)) (λ at s. no_domain at 10 (HasDomainFault.duplicate_name (DuplicateInDomain.task_or_action s)))
      (subst AreDifferent (sym (offsets_are names (tasks_and_actions d))) is.domain.callables_apart))

  pub up : AreLookedUp names d (constants names d) known callables dw
  up = record {
    known_is = known_of names is.differ d is.domain kinds of;
    callables_are = callables_of names is.differ d is.domain;
    words = has_known names kinds all_kinds parents more.0 refl more.1 rest first known refl (predicates_bound kinds d.predicates) (predicates_are names kinds d.predicates) constant_objects (constants_are names kinds d.constants);
    apart = apart;
  }

  pub up_all : AreLookedUp names d (objects names d p) more_known callables pw
  up_all = record {
    known_is = known_is names d is.domain kinds of y.unions p is.problem;
    callables_are = callables_of names is.differ d is.domain;
    words = has_known names all_kinds all_kinds parents [] refl (sym (append-nil y.unions)) rest first more_known refl (predicates_bound kinds d.predicates) (predicates_are names kinds d.predicates) (constant_objects ++ own) (all_objects_are names kinds all_kinds d.constants p.objects);
    apart = apart;
  }

  pub schemas_none : schemas_faults known callables d x.cycles ≡ []
  schemas_none = none_right (second_names d) (schemas_faults known callables d x.cycles) (none_right x.types (second_names d ++ schemas_faults known callables d x.cycles) ex)

  pub schemas : AreSchemasBound names d (constants names d) known callables dw (schemas_bound known callables d)
  schemas = has_bound_schemas names d (constants names d) known callables dw x.cycles up is.domain numbered x.are_cycles schemas_none

  pub named_start : named names (name_of start) ≡ codes "htn_start"
  named_start = (number_is names (codes "htn_start") start of_start).1

  pub parts : ArePartsBound names d (objects names d p) more_known callables pw p (parts_bound more_known callables (name_of start) (length (tasks_bound kinds d.tasks)) p)
  parts =
      has_bound_parts names d (objects names d p) more_known callables pw (name_of start) (length (tasks_bound kinds d.tasks)) p y.cycle up_all is.problem all_numbered named_start (length-map d.tasks (task_bound kinds))
      (none_right (second_objects (objects_declared d.constants) p.objects) (parts_faults more_known callables p y.cycle) ey)

  pub tasks_said : task_words names d (constants names d) known callables dw ≡ words_of_tasks names (tasks_bound kinds d.tasks)
  tasks_said = sym (task_words_are names kinds d.tasks)

  pub actions_said : action_words names d (constants names d) known callables dw ≡ words_of_actions names (actions_bound known d.actions)
  actions_said = sym (action_words_are names known d.actions)

  pub domain_types : AreBoundTypes dw names (map (named names) (map name_of kinds.types)) parents d.types
  domain_types =
      subst (λ ws. AreBoundTypes dw names ws parents d.types) (sym (type_words_are names kinds.types))
      (has_bound_types names object d dw kinds in_types x.are_kinds.types is.domain.types (λ at c. no_domain at 12 (HasDomainFault.type_cycle c)))

  pub domain_bound : IsBoundDomain names d (hddl_domain value constant_objects)
  domain_bound = record {
    types = domain_types;
    constants = schemas.constants;
    predicates = schemas.predicates;
    tasks = schemas.tasks;
    actions = schemas.actions;
    methods = subst (λ ts. Together (IsBoundMethod dw names ts (words_of_actions names (actions_bound known d.actions))) d.methods value.methods) tasks_said
        (subst (λ hs. Together (IsBoundMethod dw names (task_words names d (constants names d) known callables dw) hs) d.methods value.methods) actions_said schemas.methods);
  }

  pub problem_bound : IsBoundProblem names pw (words_of_tasks names (tasks_bound kinds d.tasks)) (words_of_actions names (actions_bound known d.actions)) p (record { objects = own; init = value.init; goal = value.goal }) value.top
  problem_bound = record {
    objects = parts.own_objects;
    init = parts.init;
    goal = parts.goal;
    top = subst (λ ts. IsBoundTop pw names ts (words_of_actions names (actions_bound known d.actions)) p.params p.net value.top) tasks_said
        (subst (λ hs. IsBoundTop pw names (task_words names d (constants names d) known callables dw) hs p.params p.net value.top) actions_said parts.top);
  }

  pub both_bound : IsBoundHddl names d p value
  both_bound = record {
    domain_name = refl;
    problem_name = refl;
    constants = constant_objects;
    others = own;
    objects = refl;
    in_domain = domain_bound;
    in_problem = problem_bound;
  }

pub is_bound_both : OfAllBound IsBoundBoth
is_bound_both before left d p l b h is (object, of_object, (x, ex, same)) (start, of_start, (y, ey, is_value)) =
    let r = subst (λ b. (y : ProblemBinding b p) × (problem.faults_by b p y ≡ []) × (h ≡ hddl_bound b y.unions p left start)) same (y, ey, is_value) in
    subst (IsBoundHddl (with_start left) d p) (sym r.2) (both_bound before left d p is object of_object l x ex start of_start r.0 r.1)
