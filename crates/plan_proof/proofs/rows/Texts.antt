-- Two source texts of each problem: what the laws ask of the source texts is true of these.
use Rattle.std.proofs.Common.{ℕ, inr, inl, List, [], ◌∷◌, codes, refl, sym, subst, ◌∙◌}
use Rattle.text_forms.specs.Lists.{Part, Parts, name, group, nothing}
use Rattle.text_forms.specs.Words.{Word}
use Rattle.text_forms.proofs.LeastFault.{no_fault}
use Rattle.text_forms.proofs.ReadOn.{symbols-read}
use Rattle.plan_texts.specs.Declared.{Declared}
use Rattle.plan_texts.specs.TypedLists.{Each}
use Rattle.plan_texts.specs.Formulas.{IsFormula, IsEffect}
use Rattle.plan_texts.specs.Networks.{IsSubtask, subtasks}
use Rattle.plan_texts.specs.Sections.{bundle, found}
use Rattle.plan_texts.specs.SpellsHddl.{hddl_words, hddl_domain_words, task_words, action_words, AreHddlSections, SpellsHddl}
use Rattle.plan_texts.specs.Printed.{all_parts}
use Rattle.plan_texts.specs.FirstSeen.{IsHddlOf}
use Rattle.plan_texts.proofs.InOrder.{types-in-order}
use Rattle.plan_texts.proofs.Layers.{formula-And, effect-Both}
use Rattle.plan_model.specs.declared.formulas.Formula.TheVariants.{And}
use Rattle.plan_model.specs.declared.effects.Effect.TheVariants.{And as Both}
use Rattle.plan_model.specs.declared.networks.Head.{Head}
use Rattle.plan_model.specs.declared.networks.Head.TheVariants.{Task, Action}
use Rattle.plan_model.specs.declared.values.Hddl.{Hddl}
use Rattle.plan_proof.specs.Problems.{with_subtask, method, smallest, calls_itself}

-- a file of examples/first
abbrev pub smallest_domain : List ℕ
smallest_domain = codes "(define (domain d)\n (:task t :parameters ())\n (:method m :parameters () :task (t) :subtasks (a))\n (:action a :parameters ()))\n"

abbrev pub calls_itself_domain : List ℕ
calls_itself_domain = codes "(define (domain d)\n (:task t :parameters ())\n (:method m :parameters () :task (t) :subtasks (t))\n (:action a :parameters ()))\n"

-- of both, with t on top; it is a file of examples/first too
abbrev pub problem : List ℕ
problem = codes "(define (problem p) (:domain d) (:htn :subtasks (t)))\n"

abbrev word : Word → Part
word w = name w

abbrev list : List Part → Part
list ps = group (all_parts ps)

-- of m, whose subtask has this word
abbrev entries_of : Word → Parts
entries_of w = all_parts (word (codes ":parameters") ∷ list [] ∷ word (codes ":task") ∷ list (word (codes "t") ∷ []) ∷ word (codes ":subtasks") ∷ list (word w ∷ []) ∷ [])

abbrev domain_sections : Word → Parts
domain_sections w =
    all_parts (
    list (word (codes ":task") ∷ word (codes "t") ∷ word (codes ":parameters") ∷ list [] ∷ []) ∷
    list (word (codes ":method") ∷ word (codes "m") ∷ word (codes ":parameters") ∷ list [] ∷ word (codes ":task") ∷ list (word (codes "t") ∷ []) ∷ word (codes ":subtasks") ∷ list (word w ∷ []) ∷ []) ∷
    list (word (codes ":action") ∷ word (codes "a") ∷ word (codes ":parameters") ∷ list [] ∷ []) ∷
    [])

abbrev problem_sections : Parts
problem_sections =
    all_parts (
    list (word (codes ":domain") ∷ word (codes "d") ∷ []) ∷
    list (word (codes ":htn") ∷ word (codes ":subtasks") ∷ list (word (codes "t") ∷ []) ∷ []) ∷
    [])

no_condition : (u : Declared) (s : List Word) → IsFormula u (And []) s (group nothing)
no_condition u s = subst (λ (T : Type 0). T) (sym (formula-And u s _ [])) (inr (tt, refl))

no_change : (u : Declared) (s : List Word) → IsEffect u (Both []) s (group nothing)
no_change u s = subst (λ (T : Type 0). T) (sym (effect-Both u s _ [])) (inr (tt, inl refl))

-- where the word is that of the subtask
module _ (w : Word) (head : Head) where
  abbrev c : Hddl
  c = with_subtask head

  abbrev IsCalled : Type 0
  IsCalled = Each (IsSubtask (hddl_domain_words c []) (task_words c) (action_words c) []) (method 6 0 head).children (bundle (found subtasks (entries_of w)))

  sections : IsCalled → AreHddlSections c (domain_sections w) problem_sections
  sections called = record {
    constants = [];
    others = [];
    objects = refl;
    in_domain = record {
      common = record {
        domain_form = refl;
        domain_requires = refl;
        types = types-in-order nothing tt (λ r h. h);
        constants_spelled = tt;
        predicates = tt;
        actions = (record { entries = _; is = refl; named = refl; form = refl; params = (_, refl, tt); pre = no_condition (hddl_domain_words c []) []; eff = no_change (hddl_domain_words c []) [] }, tt);
      };
      tasks = (record { entries = _; is = refl; named = refl; form = refl; params = (_, refl, tt); no_pre = refl; no_eff = refl }, tt);
      methods = (
        record {
          entries = entries_of w;
          is = refl;
          named = refl;
          form = refl;
          params = (_, refl, tt);
          head = (codes "t", _, refl, refl, refl, tt);
          pre = no_condition (hddl_domain_words c []) [];
          network = record { children_spelled = called; ordered = record { written = []; pairs_are = refl; pairs_spelled = tt }; constraints_spelled = tt };
        },
        tt,
      );
    };
    in_problem = record {
      common = record {
        problem_form = refl;
        problem_requires = refl;
        of_domain = (codes "d", refl, refl);
        others_spelled = tt;
        init_form = refl;
        init = tt;
        goal = no_condition (hddl_words c) [];
      };
      htn = _;
      htn_there = refl;
      top = record {
        named = refl;
        task = refl;
        task_args = refl;
        pre = refl;
        form = refl;
        params = (_, refl, tt);
        network = record { children_spelled = ((codes "t", _, refl, refl, refl, tt), tt); ordered = record { written = []; pairs_are = refl; pairs_spelled = tt }; constraints_spelled = tt };
      };
    };
  }

smallest_spelled : SpellsHddl smallest_domain problem smallest
smallest_spelled = record {
  texts = record {
    domain_sections = domain_sections (codes "a");
    problem_sections = problem_sections;
    domain_text = record {
      clean = refl;
      is = symbols-read smallest_domain ∙ refl;
      named = refl;
    };
    problem_text = record {
      clean = refl;
      is = symbols-read problem ∙ refl;
      named = refl;
    };
  };
  sections = sections (codes "a") (Action 0) ((codes "a", _, refl, refl, refl, tt), tt);
}

pub smallest_texts : IsHddlOf smallest_domain problem smallest
unfolding smallest_spelled
smallest_texts = record { domain_faultless = no_fault smallest_domain refl; problem_faultless = no_fault problem refl; spelled = smallest_spelled; ordered = record { types = refl; pairs = refl; unions = refl } }

calls_itself_spelled : SpellsHddl calls_itself_domain problem calls_itself
calls_itself_spelled = record {
  texts = record {
    domain_sections = domain_sections (codes "t");
    problem_sections = problem_sections;
    domain_text = record {
      clean = refl;
      is = symbols-read calls_itself_domain ∙ refl;
      named = refl;
    };
    problem_text = record {
      clean = refl;
      is = symbols-read problem ∙ refl;
      named = refl;
    };
  };
  sections = sections (codes "t") (Task 0) ((codes "t", _, refl, refl, refl, tt), tt);
}

pub calls_itself_texts : IsHddlOf calls_itself_domain problem calls_itself
unfolding calls_itself_spelled
calls_itself_texts = record { domain_faultless = no_fault calls_itself_domain refl; problem_faultless = no_fault problem refl; spelled = calls_itself_spelled; ordered = record { types = refl; pairs = refl; unions = refl } }
