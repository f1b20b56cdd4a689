-- Texts that spell a PDDL value have no fault; nor have those that are printed for one.
use Rattle.std.proofs.Common.{◌≡◌, ◌<◌, true, length}
use Rattle.hddl_reader.specs.declared.sections.Language.TheVariants.{Pddl}
use Rattle.plan_model.specs.declared.types.Object.{Object}
use Rattle.plan_model.specs.declared.values.Pddl.{Pddl as Value}
use Rattle.plan_texts.specs.PrintableValue.{IsPrintable}
use Rattle.plan_texts.specs.PrintedTexts.{domain_text, problem_text}
use Rattle.plan_texts.proofs.PrintedSpells.{printed_spells}
use Rattle.plan_texts.proofs.SoundProblems.{each-more}
use Rattle.plan_texts.proofs.UniquePddl.{spelled_alike}
use Rattle.text_values.specs.form_spellings.SoundPddl.{IsSoundPddl}
use Rattle.text_values.specs.form_spellings.Faultless.{SpelledPddlIsFaultless}
use Rattle.text_values.proofs.Spelled.{accepted}
use Rattle.text_values.specs.PddlExactly.{SpelledPddlHasNoFault, PrintedTextsAreReadAgain}

-- a printable value is sound
sound : (c : Value) → IsPrintable c → IsSoundPddl c
sound c p = record {
  domain = p.domain;
  problem = p.problem;
  words = p.words;
  first = p.first;
  parents = p.parents;
  has_parent = p.has_parent;
  no_cycle = p.no_cycle;
  objects = each-more (λ (x : Object). (x.ty < length c.types.names) × (x.constant ≡ true)) (λ (x : Object). x.ty < length c.types.names) c.objects (λ x h. h.0) p.objects;
  predicates = p.predicates;
  actions_named = p.actions_named;
  actions_differ = p.actions_differ;
  params = p.params;
  pre = p.pre;
  eff = p.eff;
  init = p.init;
  goal = p.goal;
}

pub spelled_have_none : SpelledPddlIsFaultless → SpelledPddlHasNoFault
spelled_have_none law domain problem c i shallow_domain shallow_problem s few = accepted Pddl domain problem (law domain problem c i shallow_domain shallow_problem s few)

pub read_again : SpelledPddlIsFaultless → PrintedTextsAreReadAgain
read_again law c p few shallow_domain shallow_problem = record {
  accepted = spelled_have_none law (domain_text c) (problem_text c) c (printed_spells c p) shallow_domain shallow_problem (sound c p) few;
  alike = λ read i. spelled_alike c read (domain_text c) (problem_text c) (printed_spells c p) i;
}
