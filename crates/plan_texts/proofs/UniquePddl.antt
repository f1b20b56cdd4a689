-- What two PDDL values are spelled by one pair of texts is alike.
use Rattle.std.proofs.Common.{ℕ, ◌≡◌, List, map, ap, sym, subst, ◌∙◌}
use Rattle.text_forms.specs.Lists.{Parts}
use Rattle.plan_texts.specs.Declared.{Declared, named}
use Rattle.plan_texts.specs.Sections.{domain_many, problem_once}
use Rattle.plan_texts.specs.Alike.{object_said, AreAlikePddl}
use Rattle.plan_texts.specs.Domains.{Domain}
use Rattle.plan_texts.specs.SpellsPddl.{pddl_types, pddl_words, pddl_domain, pddl_problem, ArePddlSections, SpellsPddl}
use Rattle.plan_model.specs.declared.values.Pddl.{Pddl}
use Rattle.plan_texts.proofs.Unique.{map-map, same-words, same-pairs, constants-said, predicates-said, same_predicates, actions-said, objects-said, init-said, goal-said, same_definitions}

-- the sections decide the value
module _ (c d : Pddl) (domain problem : Parts) (e : ArePddlSections c domain problem) (f : ArePddlSections d domain problem) where
  abbrev v : Declared
  v = pddl_words c

  abbrev w : Declared
  w = pddl_words d

  abbrev a : Domain
  a = pddl_domain c e.constants

  abbrev b : Domain
  b = pddl_domain d f.constants

  objects-alike : map (object_said v) c.objects ≡ map (object_said w) d.objects
  objects-alike = objects-said problem_once v w (pddl_problem c e.others) (pddl_problem d f.others) problem e.in_problem f.in_problem c.objects d.objects e.constants f.constants e.objects f.objects (constants-said domain_many a b domain e.in_domain f.in_domain)

  same_objects : v.objects ≡ w.objects
  same_objects = map-map (object_said v) (λ t. t.0) c.objects ∙ ap (map (λ t. t.0)) objects-alike ∙ sym (map-map (object_said w) (λ t. t.0) d.objects)

  pub same-sections : named c.names c.domain ≡ named d.names d.domain → named c.names c.problem ≡ named d.names d.problem → AreAlikePddl c d
  same-sections g h = record {
    domains = g;
    problems = h;
    declared = record {
      types = same-words (pddl_types c) (pddl_types d) c.types.parents d.types.parents _ e.types f.types;
      pairs = same-pairs (pddl_types c) (pddl_types d) c.types.parents d.types.parents _ e.types f.types;
      objects = objects-alike;
      predicates = predicates-said domain_many a b domain e.in_domain f.in_domain;
      actions = actions-said domain_many a b domain e.in_domain f.in_domain;
    };
    init = init-said problem_once v w (pddl_problem c e.others) (pddl_problem d f.others) problem e.in_problem f.in_problem same_objects (same_predicates domain_many a b domain e.in_domain f.in_domain);
    goal = goal-said problem_once v w (pddl_problem c e.others) (pddl_problem d f.others) problem e.in_problem f.in_problem same_objects (same_predicates domain_many a b domain e.in_domain f.in_domain);
  }

-- all values that two texts spell are alike
pub spelled_alike : (c d : Pddl) (domain problem : List ℕ) → SpellsPddl domain problem c → SpellsPddl domain problem d → AreAlikePddl c d
spelled_alike c d domain problem e f =
    let same = same_definitions domain problem _ _ _ _ e.texts f.texts in
    let own = subst (λ s. ArePddlSections c s f.problem_sections) same.2 (subst (λ s. ArePddlSections c e.domain_sections s) same.3 e.sections) in
    same-sections c d f.domain_sections f.problem_sections own f.sections same.0 same.1
