-- Being alike is an equivalence.
use Rattle.std.proofs.Common.{refl, sym, ◌∙◌}
use Rattle.plan_texts.specs.Domains.{Domain}
use Rattle.plan_texts.specs.SpellsPddl.{pddl_domain}
use Rattle.plan_texts.specs.SpellsHddl.{hddl_domain}
use Rattle.plan_texts.specs.Alike.{AreAlikeDomains, AreAlikePddl, AreAlikeHddl}
use Rattle.plan_model.specs.declared.values.Pddl.{Pddl}
use Rattle.plan_model.specs.declared.values.Hddl.{Hddl}

domain_reflexive : (c : Domain) → AreAlikeDomains c c
domain_reflexive c = record { types = λ w. (λ h. h, λ h. h); pairs = λ w u. (λ h. h, λ h. h); objects = refl; predicates = refl; actions = refl }

domain_symmetric : (c d : Domain) → AreAlikeDomains c d → AreAlikeDomains d c
domain_symmetric c d a = record {
  types = λ w. ((a.types w).1, (a.types w).0);
  pairs = λ w u. ((a.pairs w u).1, (a.pairs w u).0);
  objects = sym a.objects;
  predicates = sym a.predicates;
  actions = sym a.actions;
}

domain_transitive : (c d e : Domain) → AreAlikeDomains c d → AreAlikeDomains d e → AreAlikeDomains c e
domain_transitive c d e a b = record {
  types = λ w. (λ h. (b.types w).0 ((a.types w).0 h), λ h. (a.types w).1 ((b.types w).1 h));
  pairs = λ w u. (λ h. (b.pairs w u).0 ((a.pairs w u).0 h), λ h. (a.pairs w u).1 ((b.pairs w u).1 h));
  objects = a.objects ∙ b.objects;
  predicates = a.predicates ∙ b.predicates;
  actions = a.actions ∙ b.actions;
}

pub pddl_reflexive : (c : Pddl) → AreAlikePddl c c
pddl_reflexive c = record { domains = refl; problems = refl; declared = domain_reflexive (pddl_domain c c.objects); init = refl; goal = refl }

pub pddl_symmetric : (c d : Pddl) → AreAlikePddl c d → AreAlikePddl d c
pddl_symmetric c d a = record {
  domains = sym a.domains;
  problems = sym a.problems;
  declared = domain_symmetric (pddl_domain c c.objects) (pddl_domain d d.objects) a.declared;
  init = sym a.init;
  goal = sym a.goal;
}

pub pddl_transitive : (c d e : Pddl) → AreAlikePddl c d → AreAlikePddl d e → AreAlikePddl c e
pddl_transitive c d e a b = record {
  domains = a.domains ∙ b.domains;
  problems = a.problems ∙ b.problems;
  declared = domain_transitive (pddl_domain c c.objects) (pddl_domain d d.objects) (pddl_domain e e.objects) a.declared b.declared;
  init = a.init ∙ b.init;
  goal = a.goal ∙ b.goal;
}

pub hddl_reflexive : (c : Hddl) → AreAlikeHddl c c
hddl_reflexive c = record {
  domains = refl;
  problems = refl;
  declared = domain_reflexive (hddl_domain c c.objects);
  tasks = refl;
  methods = refl;
  top = refl;
  init = refl;
  goal = refl;
}

pub hddl_symmetric : (c d : Hddl) → AreAlikeHddl c d → AreAlikeHddl d c
hddl_symmetric c d a = record {
  domains = sym a.domains;
  problems = sym a.problems;
  declared = domain_symmetric (hddl_domain c c.objects) (hddl_domain d d.objects) a.declared;
  tasks = sym a.tasks;
  methods = sym a.methods;
  top = sym a.top;
  init = sym a.init;
  goal = sym a.goal;
}

pub hddl_transitive : (c d e : Hddl) → AreAlikeHddl c d → AreAlikeHddl d e → AreAlikeHddl c e
hddl_transitive c d e a b = record {
  domains = a.domains ∙ b.domains;
  problems = a.problems ∙ b.problems;
  declared = domain_transitive (hddl_domain c c.objects) (hddl_domain d d.objects) (hddl_domain e e.objects) a.declared b.declared;
  tasks = a.tasks ∙ b.tasks;
  methods = a.methods ∙ b.methods;
  top = a.top ∙ b.top;
  init = a.init ∙ b.init;
  goal = a.goal ∙ b.goal;
}
