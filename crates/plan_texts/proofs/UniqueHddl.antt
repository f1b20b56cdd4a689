-- What two HDDL values are spelled by one pair of texts is alike.
use Rattle.std.proofs.Common.{ℕ, ◌≡◌, List, map, ap, sym, subst, ◌∙◌}
use Rattle.std.proofs.lemmas.Option.{same_Some}
use Rattle.text_forms.specs.Lists.{Parts}
use Rattle.plan_texts.specs.Declared.{Declared, named}
use Rattle.plan_texts.specs.Alike.{object_said, action_said, task_said, method_said, AreAlikeHddl}
use Rattle.plan_texts.specs.Networks.{IsTask, IsMethod, IsTop}
use Rattle.plan_texts.specs.Domains.{Domain, domain_words}
use Rattle.plan_texts.specs.SpellsHddl.{hddl_many, hddl_problem_once, hddl_types, hddl_words, hddl_domain, hddl_problem, task_words, action_words, AreHddlSections, SpellsHddl}
use Rattle.plan_model.specs.declared.values.Hddl.{Hddl}
use Rattle.plan_texts.proofs.Unique.{same-each, map-map, same-words, same-pairs, constants-said, same_constants, predicates-said, same_predicates, actions-said, objects-said, init-said, goal-said, same_definitions}
use Rattle.plan_texts.proofs.UniqueNetworks.{same-task, same-method, same-top}

module _ (c d : Hddl) (domain problem : Parts) (e : AreHddlSections c domain problem) (f : AreHddlSections d domain problem) where
  abbrev v : Declared
  v = hddl_words c

  abbrev w : Declared
  w = hddl_words d

  abbrev a : Domain
  a = hddl_domain c e.constants

  abbrev b : Domain
  b = hddl_domain d f.constants

  abbrev v' : Declared
  v' = domain_words a

  abbrev w' : Declared
  w' = domain_words b

  same_constants' : v'.objects ≡ w'.objects
  same_constants' = same_constants hddl_many a b domain e.in_domain.common f.in_domain.common

  same_predicates' : v.predicates ≡ w.predicates
  same_predicates' = same_predicates hddl_many a b domain e.in_domain.common f.in_domain.common

  objects-alike : map (object_said v) c.objects ≡ map (object_said w) d.objects
  objects-alike = objects-said hddl_problem_once v w (hddl_problem c e.others) (hddl_problem d f.others) problem e.in_problem.common f.in_problem.common c.objects d.objects e.constants f.constants e.objects f.objects (constants-said hddl_many a b domain e.in_domain.common f.in_domain.common)

  same_objects : v.objects ≡ w.objects
  same_objects = map-map (object_said v) (λ t. t.0) c.objects ∙ ap (map (λ t. t.0)) objects-alike ∙ sym (map-map (object_said w) (λ t. t.0) d.objects)

  actions-alike : map (action_said v) c.actions ≡ map (action_said w) d.actions
  actions-alike = actions-said hddl_many a b domain e.in_domain.common f.in_domain.common

  same_actions : action_words c ≡ action_words d
  same_actions = map-map (action_said v) (λ t. t.0) c.actions ∙ ap (map (λ t. t.0)) actions-alike ∙ sym (map-map (action_said w) (λ t. t.0) d.actions)

  tasks-said : map (task_said v) c.tasks ≡ map (task_said w) d.tasks
  tasks-said = same-each (IsTask v') (IsTask w') (task_said v) (task_said w) (same-task v' w') c.tasks d.tasks _ e.tasks f.tasks

  same_tasks : task_words c ≡ task_words d
  same_tasks = map-map (task_said v) (λ t. t.0) c.tasks ∙ ap (map (λ t. t.0)) tasks-said ∙ sym (map-map (task_said w) (λ t. t.0) d.tasks)

  same_htn : e.htn ≡ f.htn
  same_htn = same_Some e.htn f.htn (sym e.htn_there ∙ f.htn_there)

  pub same-sections : named c.names c.domain ≡ named d.names d.domain → named c.names c.problem ≡ named d.names d.problem → AreAlikeHddl c d
  same-sections g h = record {
    domains = g;
    problems = h;
    declared = record {
      types = same-words (hddl_types c) (hddl_types d) c.types.parents d.types.parents _ e.types f.types;
      pairs = same-pairs (hddl_types c) (hddl_types d) c.types.parents d.types.parents _ e.types f.types;
      objects = objects-alike;
      predicates = predicates-said hddl_many a b domain e.in_domain.common f.in_domain.common;
      actions = actions-alike;
    };
    tasks = tasks-said;
    methods = same-each (IsMethod v' (task_words c) (action_words c)) (IsMethod w' (task_words d) (action_words d)) (method_said v) (method_said w) (same-method v' w' (task_words c) (task_words d) (action_words c) (action_words d) same_constants' same_predicates' same_tasks same_actions) c.methods d.methods _ e.methods f.methods;
    top = same-top v w (task_words c) (task_words d) (action_words c) (action_words d) same_objects same_predicates' same_tasks same_actions c.top d.top f.htn (subst (IsTop v (task_words c) (action_words c) c.top) same_htn e.top) f.top;
    init = init-said hddl_problem_once v w (hddl_problem c e.others) (hddl_problem d f.others) problem e.in_problem.common f.in_problem.common same_objects same_predicates';
    goal = goal-said hddl_problem_once v w (hddl_problem c e.others) (hddl_problem d f.others) problem e.in_problem.common f.in_problem.common same_objects same_predicates';
  }

-- all HDDL values that two texts spell are alike
pub hddl_alike : (c d : Hddl) (domain problem : List ℕ) → SpellsHddl domain problem c → SpellsHddl domain problem d → AreAlikeHddl c d
hddl_alike c d domain problem e f =
    let same = same_definitions domain problem _ _ _ _ e.texts f.texts in
    let own = subst (λ s. AreHddlSections c s f.problem_sections) same.2 (subst (λ s. AreHddlSections c e.domain_sections s) same.3 e.sections) in
    same-sections c d f.domain_sections f.problem_sections own f.sections same.0 same.1
