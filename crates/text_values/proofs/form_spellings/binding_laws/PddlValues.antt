-- What is read of two PDDL texts and bound is the value that they spell, and sound.
use Rattle.std.proofs.Common.{◌≡◌, ℕ, List, [], sym, subst}
use Rattle.htn_base.proofs.DifferentLemmas.{different-right}
use Rattle.text_forms.specs.Faults.{IsFaultless}
use Rattle.plan_model.specs.declared.values.Hddl.{Hddl}
use Rattle.plan_texts.specs.Declared.{named}
use Rattle.plan_texts.specs.Printable.{IsPlain}
use Rattle.plan_texts.specs.SoundProblem as hddl
use Rattle.plan_texts.specs.SoundValue.{IsSoundHddl}
use Rattle.plan_texts.specs.SpellsHddl.{task_words, action_words}
use Rattle.plan_texts.specs.Together.{Together}
use Rattle.gd_reader.specs.Terms.{Names}
use Rattle.hddl_reader.specs.declared.sections.Language.TheVariants.{Pddl as language}
use Rattle.hddl_reader.specs.declared.sections.RawDomain.{RawDomain}
use Rattle.hddl_reader.specs.declared.sections.RawProblem.{RawProblem}
use Rattle.hddl_reader.specs.Definitions.{IsDomainRead, IsProblemRead}
use Rattle.text_values.specs.form_spellings.BoundTexts.{IsBoundHddl, IsBoundPddl}
use Rattle.text_values.specs.form_spellings.InOrder.{DomainIsInOrder, IsProblemInOrder}
use Rattle.text_values.specs.form_spellings.PddlTexts.{IsPddlOf}
use Rattle.plan_model.specs.Values.{without_tasks}
use Rattle.text_values.specs.form_spellings.Places.{IsDomainAt, IsProblemAt}
use Rattle.text_values.specs.form_spellings.ReadOf.{OfEachWhole}
use Rattle.text_values.specs.form_spellings.ReadTexts.{HasNoTasks, HasNoNetwork}
use Rattle.text_values.specs.form_spellings.SoundPddl.{IsSoundPddl, IsWithinLimits}
use Rattle.text_values.proofs.form_spellings.seen.Bound.{bound_pddl_is_of_texts}
use Rattle.hddl_bind.specs.WholeProblems.{with_start}
use Rattle.text_values.specs.form_spellings.binding_laws.PddlValues.{ReadPddlIsItsValue}
use Rattle.text_values.specs.form_spellings.binding_laws.SoundValues.{IsBoundOf}
use Rattle.text_values.proofs.form_spellings.binding_laws.Ones.{each_back}
use Rattle.text_values.proofs.form_spellings.binding_laws.WholeValues.{is_bound_both}
use Rattle.text_values.proofs.form_spellings.binding_laws.seen.Bound.{is_in_seen_order}
use Rattle.text_values.proofs.form_spellings.binding_laws.sound.FewUnions.{few_unions}
use Rattle.text_values.proofs.form_spellings.binding_laws.sound.ReadValues.{read_in_order, read_sound}

-- where nothing was read, nothing is bound
no_more : {R X : Type 0} (Is : R → X → Type 0) (rs : List R) → rs ≡ [] → Together Is rs []
no_more Is rs e = subst (λ rs. Together Is rs []) (sym e) tt

-- what is bound without tasks, methods and a network
pddl_bound : (table : Names) (d : RawDomain) (p : RawProblem) (h : Hddl) → HasNoTasks d → HasNoNetwork p → IsBoundHddl table d p h → IsBoundPddl table d p (without_tasks h)
pddl_bound table d p h none free b = record {
  domain_name = b.domain_name;
  problem_name = b.problem_name;
  constants = b.constants;
  others = b.others;
  objects = b.objects;
  in_domain = record {
    types = b.in_domain.types;
    constants = b.in_domain.constants;
    predicates = b.in_domain.predicates;
    tasks = no_more _ d.tasks none.0;
    actions = b.in_domain.actions;
    methods = no_more _ d.methods none.1;
  };
  in_problem = record { objects = b.in_problem.objects; init = b.in_problem.init; goal = b.in_problem.goal; params = free.0; net = free.1 };
}

-- a sound value is sound without its tasks and methods
pddl_sound : (h : Hddl) → IsSoundHddl h → IsSoundPddl (without_tasks h)
pddl_sound h s = record {
  domain = s.domain;
  problem = s.problem;
  words = s.words;
  first = s.first;
  parents = s.parents;
  has_parent = s.has_parent;
  no_cycle = s.no_cycle;
  objects = s.objects;
  predicates = s.predicates;
  actions_named = each_back IsPlain (task_words h) (action_words h) s.calls_named;
  actions_differ = different-right (task_words h) (action_words h) s.calls_differ;
  params = s.action_params;
  pre = s.pre;
  eff = s.eff;
  init = s.init;
  goal = s.goal;
}

pddl_limits : (h : Hddl) → hddl.IsWithinLimits h → IsWithinLimits (without_tasks h)
pddl_limits h l = record {
  names = l.names;
  types = l.types;
  unions = l.unions;
  objects = l.objects;
  predicates = l.predicates;
  actions = l.actions;
  init = l.init;
  predicate_params = l.predicate_params;
  action_params = l.action_params;
}

module _ (domains_at : OfEachWhole (IsDomainRead language) IsDomainAt) (problems_at : OfEachWhole (IsProblemRead language) IsProblemAt)
    (domains_in_order : OfEachWhole (IsDomainRead language) (λ text. DomainIsInOrder)) (problems_in_order : OfEachWhole (IsProblemRead language) (λ text. IsProblemInOrder))
    (no_tasks : OfEachWhole (IsDomainRead language) (λ text table. HasNoTasks)) (no_networks : OfEachWhole (IsProblemRead language) (λ text table. HasNoNetwork)) where
  value_of : (domain problem : List ℕ) (h : Hddl) → IsBoundOf language domain problem h → IsFaultless domain → IsFaultless problem → IsPddlOf domain problem (without_tasks h)
  value_of domain problem h is df pf =
      let table = with_start is.left in
      let r = is.read in
      let none = no_tasks domain r.before_domain table (is.d, r.behind_domain) r.domain_read r.keeps_domain in
      let free = no_networks problem r.before_problem table (is.p, r.behind_problem) r.problem_read r.keeps_problem in
      let in_order = read_in_order language domains_in_order problems_in_order domain problem h is in
      let bound = pddl_bound table is.d is.p h none free (is_bound_both is.before is.left is.d is.p language is.b h in_order is.domain_bound is.problem_bound) in
      let seen = is_in_seen_order is.before is.left is.d is.p language is.b h in_order is.domain_bound is.problem_bound in
      bound_pddl_is_of_texts domain problem table is.d is.p r df pf (without_tasks h) bound seen

  pub read_pddl : ReadPddlIsItsValue
  read_pddl domain problem h is df pf =
      let of = value_of domain problem h is df pf in
      let few = few_unions domain problem (named h.names h.domain) (named h.names h.problem) of.spelled.texts h.names h.types of.ordered.unions in
      let s = read_sound language domains_in_order problems_in_order domain problem h is domains_at problems_at few in
      (of, record { value = pddl_sound h s.value; limits = pddl_limits h s.limits })
