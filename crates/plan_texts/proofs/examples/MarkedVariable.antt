-- A variable whose name is no NAME, as ??x: the value is sound, and its texts, which have no fault, spell it.
use Rattle.std.proofs.Common.{ℕ, inl, inr, List, [], ◌∷◌, codes, refl, sym, subst, ◌∙◌, arith}
use Rattle.text_forms.specs.Lists.{Parts, nothing}
use Rattle.text_forms.specs.Words.{Word}
use Rattle.text_forms.proofs.LeastFault.{no_fault}
use Rattle.text_forms.proofs.ReadOn.{symbols-read}
use Rattle.plan_texts.specs.Declared.{Declared}
use Rattle.plan_texts.specs.Formulas.{IsFormula, IsEffect}
use Rattle.plan_texts.specs.Printable.{IsSound, IsSoundEffect, AreSoundParams}
use Rattle.plan_texts.specs.SoundValue.{arities, IsSoundMethod, IsSoundHddl}
use Rattle.plan_texts.specs.SpellsHddl.{hddl_words, AreHddlSections, SpellsHddl}
use Rattle.plan_texts.specs.FirstSeen.{IsHddlOf}
use Rattle.plan_model.specs.declared.terms.Param.{Param}
use Rattle.plan_model.specs.declared.formulas.Formula.TheOpen.{Formula-F}
use Rattle.plan_model.specs.declared.formulas.Formula.TheVariants.{And, rolls-And}
use Rattle.plan_model.specs.declared.effects.Effect.TheOpen.{Effect-F}
use Rattle.plan_model.specs.declared.effects.Effect.TheVariants.{And as Both, rolls-And as rolls-Both}
use Rattle.plan_model.specs.declared.values.Hddl.{Hddl}
use Rattle.htn_base.proofs.DifferentLemmas.{different-one}
use Rattle.plan_texts.proofs.InOrder.{types-in-order}
use Rattle.plan_texts.proofs.Layers.{formula-And, effect-Both}
use Rattle.plan_texts.proofs.examples.RowWords.{parts, said, n}
use Rattle.plan_texts.proofs.Spelled.{sound_roll}
use Rattle.plan_texts.proofs.SpelledEffects.{sound_roll as effect-sound_roll}

abbrev pub domain : List ℕ
domain = codes "(define (domain d) (:action a :parameters (??x)))\n"

abbrev pub problem : List ℕ
problem = codes "(define (problem p) (:htn))\n"

abbrev x : Param
x = record { name = n 4; ty = 0 }

abbrev pub marked : Hddl
marked = record {
  names = codes "d" ∷ codes "p" ∷ codes "object" ∷ codes "a" ∷ codes "?x" ∷ codes "htn_start" ∷ [];
  domain = n 0;
  problem = n 1;
  types = record { names = n 2 ∷ []; parents = []; unions = [] };
  objects = [];
  predicates = [];
  tasks = [];
  actions = record { name = n 3; params = x ∷ []; pre = And []; eff = Both [] } ∷ [];
  methods = [];
  top = record { name = n 5; params = []; task = 0; task_args = []; pre = And []; children = []; pairs = []; constraints = [] };
  init = [];
  goal = And [];
}

abbrev v : Declared
v = hddl_words marked

sound-nothing : (scope : List Word) → IsSound v (arities marked) (And []) scope
sound-nothing scope = subst (λ f. IsSound v (arities marked) f scope) (rolls-And []) (subst (λ (z : List Word → Type 0). z scope) (sym (sound_roll v (arities marked) (Formula-F.And []))) tt)

sound-no_effect : (scope : List Word) → IsSoundEffect v (arities marked) (Both []) scope
sound-no_effect scope = subst (λ e. IsSoundEffect v (arities marked) e scope) (rolls-Both []) (subst (λ (z : List Word → Type 0). z scope) (sym (effect-sound_roll v (arities marked) (Effect-F.And []))) tt)

sound-x : AreSoundParams v (arities marked) (x ∷ [])
sound-x = ((((refl, refl), omega arith), tt), different-one _)

sound-top : IsSoundMethod marked marked.top
sound-top = record { params = (tt, tt); task_args = tt; pre = sound-nothing []; children = tt; constraints = tt }

pub marked_sound : IsSoundHddl marked
marked_sound = record {
  domain = (refl, refl);
  problem = (refl, refl);
  words = record { types = ((refl, refl), tt); types_differ = different-one _; unions = tt; objects = tt; predicates = tt; objects_differ = tt; predicates_differ = tt };
  first = refl;
  parents = tt;
  has_parent = λ k z l. absurd (omega arith);
  no_cycle = λ p m l. absurd m;
  unions = tt;
  objects = tt;
  predicates = tt;
  calls_named = ((refl, refl), tt);
  calls_differ = different-one _;
  methods_named = tt;
  methods_differ = tt;
  task_params = tt;
  action_params = (sound-x, tt);
  pre = (sound-nothing (codes "?x" ∷ []), tt);
  eff = (sound-no_effect (codes "?x" ∷ []), tt);
  top_task = refl;
  top_args = refl;
  top = sound-top;
  method_tasks = tt;
  methods = tt;
  init = tt;
  goal = sound-nothing [];
}

no_condition : (scope : List Word) → IsFormula v (And []) scope (said (codes "()"))
no_condition scope = subst (λ (T : Type 0). T) (sym (formula-And v scope _ [])) (inr (tt, refl))

no_effect : (scope : List Word) → IsEffect v (Both []) scope (said (codes "()"))
no_effect scope = subst (λ (T : Type 0). T) (sym (effect-Both v scope _ [])) (inr (tt, inl refl))

abbrev domain_sections : Parts
domain_sections = parts (codes "(:action a :parameters (??x))")

abbrev problem_sections : Parts
problem_sections = parts (codes "(:htn)")

sections : AreHddlSections marked domain_sections problem_sections
sections = record {
  constants = [];
  others = [];
  objects = refl;
  in_domain = record {
    common = record {
      domain_form = refl;
      domain_requires = refl;
      types = types-in-order nothing tt (λ r e. e);
      constants_spelled = tt;
      predicates = tt;
      actions = (record { entries = _; is = refl; named = refl; form = refl; params = (_, refl, ((refl, refl, (refl, refl)), tt)); pre = no_condition (codes "?x" ∷ []); eff = no_effect (codes "?x" ∷ []) }, tt);
    };
    tasks = tt;
    methods = tt;
  };
  in_problem = record {
    common = record {
      problem_form = refl;
      problem_requires = refl;
      of_domain = tt;
      others_spelled = tt;
      init_form = refl;
      init = tt;
      goal = no_condition [];
    };
    htn = nothing;
    htn_there = refl;
    top = record {
      named = refl;
      task = refl;
      task_args = refl;
      pre = refl;
      form = refl;
      params = (_, refl, tt);
      network = record { children_spelled = tt; ordered = record { written = []; pairs_are = refl; pairs_spelled = tt }; constraints_spelled = tt };
    };
  };
}

pub marked_spelled : SpellsHddl domain problem marked
marked_spelled = record {
  texts = record {
    domain_sections = domain_sections;
    problem_sections = problem_sections;
    domain_text = record {
      clean = refl;
      is = symbols-read domain ∙ refl;
      named = refl;
    };
    problem_text = record {
      clean = refl;
      is = symbols-read problem ∙ refl;
      named = refl;
    };
  };
  sections = sections;
}

pub marked_in_order : IsHddlOf domain problem marked
unfolding marked_spelled
marked_in_order = record {
  domain_faultless = no_fault domain refl;
  problem_faultless = no_fault problem refl;
  spelled = marked_spelled;
  ordered = record { types = refl; pairs = refl; unions = refl };
}
