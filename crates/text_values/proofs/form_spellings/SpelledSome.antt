-- What spells a domain or a problem as it is declared spells some of each part.
use Rattle.std.proofs.Common.{◌≡◌, Bool, true, false, cond, ◌||◌, List, [], ◌∷◌, map, codes, refl, sym, ap, subst, ◌∙◌}
use Rattle.text_forms.specs.Lists.{Part, Parts, name, group, nothing, part}
use Rattle.text_forms.specs.Words.{Word, is_among}
use Rattle.text_forms.specs.form_grammar.Sections.{hddl, pddl, domain, problem}
use Rattle.plan_texts.specs.Declared.{Declared, named, variable}
use Rattle.plan_texts.specs.Domains.{Domain, Problem, domain_words, AreDomainSections, AreProblemSections}
use Rattle.plan_texts.specs.Networks.{IsTask, IsMethod, IsTop, IsNetwork}
use Rattle.plan_texts.specs.Schemas.{IsPredicate, IsAction, IsFact, AreParams}
use Rattle.plan_texts.specs.Sections.{content, only, without, are_sections, domain_once, domain_many, problem_once}
use Rattle.plan_texts.specs.SpellsHddl.{AreHddlDomainSections, AreHddlProblemSections, hddl_many, hddl_problem_once}
use Rattle.plan_texts.specs.TypedLists.{Each}
use Rattle.plan_texts.specs.Types.{EachIs}
use Rattle.plan_model.specs.declared.networks.Child.{Child}
use Rattle.plan_model.specs.declared.networks.Constraint.{Constraint}
use Rattle.plan_model.specs.declared.networks.Pair.{Pair}
use Rattle.plan_model.specs.declared.schemas.ActionSchema.{ActionSchema}
use Rattle.plan_model.specs.declared.schemas.MethodSchema.{MethodSchema}
use Rattle.plan_model.specs.declared.schemas.Predicate.{Predicate}
use Rattle.plan_model.specs.declared.schemas.TaskSchema.{TaskSchema}
use Rattle.plan_model.specs.declared.terms.GroundAtom.{GroundAtom}
use Rattle.plan_model.specs.declared.terms.Param.{Param}
use Rattle.text_values.specs.form_spellings.DeclaresOnce.{DeclaresOnce, DifferByWord, TaskDeclaresOnce, MethodDeclaresOnce, ActionDeclaresOnce}
use Rattle.text_values.specs.form_spellings.Fresh.{AreFresh}
use Rattle.text_values.specs.form_spellings.SpelledWhole.{HddlDomainsAreWhole, PddlDomainsAreWhole, HddlProblemsAreWhole, PddlProblemsAreWhole}
use Rattle.text_values.specs.form_spellings.SpellsSome.{HaveLetters}
use Rattle.text_values.specs.form_spellings.SpellsSomeParts.{AreNamed, AreTaskParts, AreMethodParts, AreActionParts, AreNetworkParts, IsSomeNetwork, IsSomePredicate}
use Rattle.text_values.specs.form_spellings.SpellsSomeSections.{EveryPart, IsSomeFact, IsThere, AreSomeDomainSections, AreSomeProblemSections, AreSomeHddlProblemSections}
use Rattle.text_values.proofs.form_spellings.FormulaWhole.{bound_letters}
use Rattle.text_values.proofs.form_spellings.SectionTables.{without_other}
use Rattle.text_values.proofs.form_spellings.WholeDefinitions.{whole_definitions}
use Rattle.text_values.proofs.form_spellings.WordTests.{false_true}
use Rattle.plan_texts.proofs.Basics.{bytes_eq-true}
use Rattle.std.proofs.lemmas.Bool.{and_parts}
use Rattle.std.specs.Str.{bytes_eq}

-- each in its place
each_some : {X : Type 0} (Q : X → Type 0) (Is : X → Part → Type 0) (S : Part → Type 0) → ((x : X) (p : Part) → Q x → Is x p → S p) → (xs : List X) (ps : Parts) → EachIs Q xs → Each Is xs ps → EveryPart S ps
each_some Q Is S f [] nothing q e = tt
each_some Q Is S f [] (part p ps) q e = absurd e
each_some Q Is S f (x ∷ xs) nothing q e = absurd e
each_some Q Is S f (x ∷ xs) (part p ps) q e = (f x p q.0 e.0, each_some Q Is S f xs ps q.1 e.1)

each_unit : {X : Type 0} (xs : List X) → EachIs (λ x. Unit {0}) xs
each_unit [] = tt
each_unit (x ∷ xs) = (tt, each_unit xs)

module _ (v : Declared) where
  letters : (xs : List Param) (p : Part) → AreParams v xs p → HaveLetters (map (variable v) xs)
  letters xs p a = bound_letters v xs a.0 a.2

  predicate_some : (x : Predicate) (p : Part) → Unit {0} → IsPredicate v x p → IsSomePredicate p
  predicate_some x p u i = (named v.names x.name, i.0, i.1, i.2, (v, x.params, i.3))

  fact_some : (g : GroundAtom) (p : Part) → Unit {0} → IsFact v g p → IsSomeFact p
  fact_some g p u i = (v, g, i)

  action_some : (a : ActionSchema) (p : Part) → ActionDeclaresOnce v a → IsAction v a p → AreNamed AreActionParts (content p)
  action_some a p o i =
      let h = letters a.params _ i.params in (
        named v.names a.name,
        i.entries,
        ap content i.is,
        i.named,
        record {
          form = i.form;
          params = (v, a.params, o.0, i.params);
          pre = (v, map (variable v) a.params, a.pre, h, o.1, i.pre);
          eff = (v, map (variable v) a.params, a.eff, h, o.2, i.eff);
        },
      )

  task_some : (t : TaskSchema) (p : Part) → TaskDeclaresOnce v t → IsTask v t p → AreNamed AreTaskParts (content p)
  task_some t p o i = (named v.names t.name, i.entries, ap content i.is, i.named, record { form = i.form; params = (v, t.params, o, i.params); no_pre = i.no_pre; no_eff = i.no_eff })

  module _ (tasks actions : List Word) where
    network_some : (scope ids : List Word) (cs : List Child) (pairs : List Pair) (xs : List Constraint) (ps : Parts) → HaveLetters scope → IsNetwork v tasks actions scope ids cs pairs xs ps → IsSomeNetwork ps
    network_some scope ids cs pairs xs ps h i = record {
      children = (v, tasks, actions, scope, cs, h, i.children_spelled);
      pairs = (ids, i.ordered.written, i.ordered.pairs_spelled);
      limits = (v, scope, xs, h, i.constraints_spelled);
    }

    method_some : (m : MethodSchema) (p : Part) → MethodDeclaresOnce v m → IsMethod v tasks actions m p → AreNamed AreMethodParts (content p)
    method_some m p o i =
        let h = letters m.params _ i.params in (
          named v.names m.name,
          i.entries,
          ap content i.is,
          i.named,
          record {
            form = i.form;
            params = (v, m.params, o.0, i.params);
            head = (v, tasks, map (variable v) m.params, m.task, m.task_args, h, i.head);
            pre = (v, map (variable v) m.params, m.pre, h, o.1, i.pre);
            network = network_some _ _ _ _ _ i.entries h i.network;
          },
        )

    top_some : (m : MethodSchema) (ps : Parts) → DifferByWord v m.params → IsTop v tasks actions m ps → AreNetworkParts ps
    top_some m ps o i = record { form = i.form; params = (v, m.params, o, i.params); network = network_some _ _ _ _ _ ps (letters m.params _ i.params) i.network }

hddl_domain_some : (d : Domain) (ps : Parts) → DeclaresOnce d → AreHddlDomainSections d ps → AreSomeDomainSections hddl_many ps
hddl_domain_some d ps o s = let v = domain_words d in let c = s.common in record {
  form = c.domain_form;
  requires = c.domain_requires;
  types = (c.types.items, c.types.spelled);
  constants = (v, true, d.constants, c.constants_spelled);
  predicates = each_some _ (IsPredicate v) _ (predicate_some v) d.predicates _ (each_unit d.predicates) c.predicates;
  actions = each_some _ (IsAction v) _ (action_some v) d.actions _ o.actions c.actions;
  tasks = each_some _ (IsTask v) _ (task_some v) d.tasks _ o.tasks s.tasks;
  methods = each_some _ _ _ (method_some v _ _) d.methods _ o.methods s.methods;
}

problem_some : (v : Declared) (once : List Word) (x : Problem) (ps : Parts) → AreFresh v x.goal → AreProblemSections once v x ps → AreSomeProblemSections once ps
problem_some v once x ps o s = record {
  form = s.problem_form;
  requires = s.problem_requires;
  of_domain = s.of_domain;
  objects = (v, false, x.objects, s.others_spelled);
  init_form = s.init_form;
  init = each_some _ (IsFact v) _ (fact_some v) x.init _ (each_unit x.init) s.init;
  goal = (v, [], x.goal, tt, o, s.goal);
}

hddl_problem_some : (v : Declared) (tasks actions : List Word) (x : Problem) (network : MethodSchema) (ps : Parts) → AreFresh v x.goal → DifferByWord v network.params → AreHddlProblemSections v tasks actions x network ps → AreSomeHddlProblemSections hddl_problem_once ps
hddl_problem_some v tasks actions x network ps o n s = record {
  common = problem_some v hddl_problem_once x ps o s.common;
  top = subst (IsThere AreNetworkParts) (sym s.htn_there) (top_some v tasks actions network s.htn n s.top);
}

pub hddl_domains_whole : HddlDomainsAreWhole
hddl_domains_whole d p o s = (whole_definitions hddl domain p).1 (s.0, s.1, s.2, s.3, hddl_domain_some d s.1 o s.4)

pub hddl_problems_whole : HddlProblemsAreWhole
hddl_problems_whole v tasks actions x network p o n s = (whole_definitions hddl problem p).1 (s.0, s.1, s.2, s.3, hddl_problem_some v tasks actions x network s.1 o n s.4)

pub pddl_problems_whole : PddlProblemsAreWhole
pddl_problems_whole v x p o s = (whole_definitions pddl problem p).1 (s.0, s.1, s.2, s.3, problem_some v problem_once x s.1 o s.4)

-- sections that may not stand
none_of : (k : Word) (ps : Parts) (once many : List Word) → are_sections once many ps ≡ true → is_among k once ≡ false → is_among k many ≡ false → only k ps ≡ nothing
none_of k nothing once many e a b = refl
none_of k (part (name w) ps) once many e a b = false_true e
none_of k (part (group nothing) ps) once many e a b = false_true e
none_of k (part (group (part (group rs) qs)) ps) once many e a b = false_true e
none_of k (part (group (part (name u) qs)) ps) once many e a b =
    let c = and_parts (is_among u once || is_among u many) (are_sections (without u once) many ps) e in
    by (bytes_eq k u) refl c.0 (λ f. none_of k ps (without u once) many c.1 (without_other u k once f ∙ a) b)
  where
    by : (t : Bool) → bytes_eq k u ≡ t → is_among u once || is_among u many ≡ true → (bytes_eq k u ≡ false → only k ps ≡ nothing) → cond t (part (group (part (name u) qs)) (only k ps)) (only k ps) ≡ nothing
    by true f m more = false_true (sym (ap (λ b. b || is_among k many) a ∙ b) ∙ subst (λ u. is_among u once || is_among u many ≡ true) (sym (bytes_eq-true k u f)) m)
    by false f m more = more f

pddl_domain_some : (d : Domain) (ps : Parts) → DeclaresOnce d → AreDomainSections domain_many d ps → AreSomeDomainSections domain_many ps
pddl_domain_some d ps o c = let v = domain_words d in record {
  form = c.domain_form;
  requires = c.domain_requires;
  types = (c.types.items, c.types.spelled);
  constants = (v, true, d.constants, c.constants_spelled);
  predicates = each_some _ (IsPredicate v) _ (predicate_some v) d.predicates _ (each_unit d.predicates) c.predicates;
  actions = each_some _ (IsAction v) _ (action_some v) d.actions _ o.actions c.actions;
  tasks = subst (EveryPart (λ p. AreNamed AreTaskParts (content p))) (sym (none_of (codes ":task") ps domain_once domain_many c.domain_form refl refl)) tt;
  methods = subst (EveryPart (λ p. AreNamed AreMethodParts (content p))) (sym (none_of (codes ":method") ps domain_once domain_many c.domain_form refl refl)) tt;
}

pub pddl_domains_whole : PddlDomainsAreWhole
pddl_domains_whole d p o s = (whole_definitions pddl domain p).1 (s.0, s.1, s.2, s.3, pddl_domain_some d s.1 o s.4)
