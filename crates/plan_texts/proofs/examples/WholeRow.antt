-- Two whole HDDL texts, with each kind of section and each reading that drops something, and the one value in order.
use Rattle.std.proofs.Common.{ℕ, inl, inr, true, false, List, [], ◌∷◌, codes, Some, None, refl, ap, sym, subst, ◌∙◌}
use Rattle.text_forms.specs.Lists.{Part, Parts, name, group, nothing}
use Rattle.text_forms.specs.Words.{Word}
use Rattle.text_forms.proofs.LeastFault.{no_fault}
use Rattle.text_forms.proofs.ReadOn.{symbols-read}
use Rattle.plan_texts.specs.Declared.{Declared}
use Rattle.plan_texts.specs.Types.{Has, TypeItem}
use Rattle.plan_texts.specs.Sections.{section, parts_in}
use Rattle.plan_texts.specs.Formulas.{IsFormula, IsEffect}
use Rattle.plan_texts.specs.SpellsHddl.{hddl_words, hddl_domain_words, AreHddlSections, SpellsHddl}
use Rattle.plan_texts.specs.Printed.{all_parts}
use Rattle.plan_texts.specs.FirstSeen.{type_items, IsHddlOf}
use Rattle.plan_model.specs.declared.terms.Atom.{Atom}
use Rattle.plan_model.specs.declared.terms.Param.{Param}
use Rattle.plan_model.specs.declared.terms.Term.TheVariants.{Var, Obj}
use Rattle.plan_model.specs.declared.types.Object.{Object}
use Rattle.plan_model.specs.declared.networks.Head.TheVariants.{Task, Action}
use Rattle.plan_model.specs.declared.formulas.Formula.TheVariants.{Holds, And}
use Rattle.plan_model.specs.declared.effects.Effect.TheVariants.{Add, And as Both}
use Rattle.plan_model.specs.declared.values.Hddl.{Hddl}
use Rattle.plan_texts.proofs.Basics.{apart}
use Rattle.plan_texts.proofs.InOrder.{types-in-order}
use Rattle.plan_texts.proofs.Layers.{formula-Holds, formula-And, effect-Add, effect-Both}
use Rattle.plan_texts.proofs.examples.RowWords.{said, n}

abbrev pub domain : List ℕ
domain = codes "(define (domain D) (:requirements :typing :hierarchy) ; a comment (\n (:types a b - object c - a) (:constants k - c) (:predicates (p ?x - a) (q))\n (:functions (cost ?x - (either c b)) - number)\n (:task t :parameters (?x - (either a b)))\n (:method m :parameters (?x - a) :task (t ?x) :precondition (p ?x)\n  :subtasks (and (i (act ?x)) (j (t k))) :ordering (< i j) :constraints (not (= ?x k)))\n (:action ACT :parameters (?x - a) :effect (and (p ?x) (increase (total) 1))))\n"

abbrev pub problem : List ℕ
problem = codes "(define (problem e) (:domain d) (:objects o - b)\n (:htn :parameters (?y - b) :ordered-tasks (and (t ?y) (t k)))\n (:init (q) (= (cost k) 3) (p k)) (:metric minimize (total)))"

abbrev x : ℕ → Param
x ty = record { name = n 9; ty = ty }

abbrev y : Param
y = record { name = n 16; ty = 2 }

abbrev k : Object
k = record { name = n 6; ty = 3; constant = true }

abbrev o : Object
o = record { name = n 15; ty = 2; constant = false }

abbrev p_x : Atom
p_x = record { predicate = 0; args = Var 0 ∷ [] }

abbrev pub whole : Hddl
whole = record {
  names = codes "d" ∷ codes "e" ∷ codes "object" ∷ codes "a" ∷ codes "b" ∷ codes "c" ∷ codes "k" ∷ codes "p" ∷ codes "q" ∷ codes "x" ∷ codes "t" ∷ codes "m" ∷ codes "i" ∷ codes "j" ∷ codes "act" ∷ codes "o" ∷ codes "y" ∷ codes "htn_start" ∷ [];
  domain = n 0;
  problem = n 1;
  types = record { names = n 2 ∷ n 3 ∷ n 4 ∷ n 5 ∷ []; parents = record { child = 1; parent = 0 } ∷ record { child = 2; parent = 0 } ∷ record { child = 3; parent = 1 } ∷ []; unions = (1 ∷ 2 ∷ []) ∷ [] };
  objects = k ∷ o ∷ [];
  predicates = record { name = n 7; params = x 1 ∷ [] } ∷ record { name = n 8; params = [] } ∷ [];
  tasks = record { name = n 10; params = x 4 ∷ [] } ∷ [];
  actions = record { name = n 14; params = x 1 ∷ []; pre = And []; eff = Both (Add p_x ∷ Both [] ∷ []) } ∷ [];
  methods = record {
    name = n 11;
    params = x 1 ∷ [];
    task = 0;
    task_args = Var 0 ∷ [];
    pre = Holds p_x;
    children = record { id = Some (n 12); head = Action 0; args = Var 0 ∷ [] } ∷ record { id = Some (n 13); head = Task 0; args = Obj 0 ∷ [] } ∷ [];
    pairs = record { first = 0; then = 1 } ∷ [];
    constraints = record { equal = false; left = Var 0; right = Obj 0 } ∷ [];
  } ∷ [];
  top = record {
    name = n 17;
    params = y ∷ [];
    task = 1;
    task_args = [];
    pre = And [];
    children = record { id = None; head = Task 0; args = Var 0 ∷ [] } ∷ record { id = None; head = Task 0; args = Obj 0 ∷ [] } ∷ [];
    pairs = record { first = 0; then = 1 } ∷ [];
    constraints = [];
  };
  init = record { predicate = 1; args = [] } ∷ record { predicate = 0; args = 0 ∷ [] } ∷ [];
  goal = And [];
}

abbrev word : List ℕ → Part
word w = name w

abbrev list : List Part → Part
list ps = group (all_parts ps)

-- the sections of the domain, in lower case and without the comment
abbrev domain_sections : Parts
domain_sections =
    all_parts (
    list (word (codes ":requirements") ∷ word (codes ":typing") ∷ word (codes ":hierarchy") ∷ []) ∷
    list (word (codes ":types") ∷ word (codes "a") ∷ word (codes "b") ∷ word (codes "-") ∷ word (codes "object") ∷ word (codes "c") ∷ word (codes "-") ∷ word (codes "a") ∷ []) ∷
    list (word (codes ":constants") ∷ word (codes "k") ∷ word (codes "-") ∷ word (codes "c") ∷ []) ∷
    list (word (codes ":predicates") ∷ list (word (codes "p") ∷ word (codes "?x") ∷ word (codes "-") ∷ word (codes "a") ∷ []) ∷ list (word (codes "q") ∷ []) ∷ []) ∷
    list (word (codes ":functions") ∷ list (word (codes "cost") ∷ word (codes "?x") ∷ word (codes "-") ∷ list (word (codes "either") ∷ word (codes "c") ∷ word (codes "b") ∷ []) ∷ []) ∷ word (codes "-") ∷ word (codes "number") ∷ []) ∷
    list (word (codes ":task") ∷ word (codes "t") ∷ word (codes ":parameters") ∷ list (word (codes "?x") ∷ word (codes "-") ∷ list (word (codes "either") ∷ word (codes "a") ∷ word (codes "b") ∷ []) ∷ []) ∷ []) ∷
    list (word (codes ":method") ∷ word (codes "m") ∷ word (codes ":parameters") ∷ list (word (codes "?x") ∷ word (codes "-") ∷ word (codes "a") ∷ []) ∷ word (codes ":task") ∷ list (word (codes "t") ∷ word (codes "?x") ∷ []) ∷ word (codes ":precondition") ∷ list (word (codes "p") ∷ word (codes "?x") ∷ []) ∷ word (codes ":subtasks") ∷ list (word (codes "and") ∷ list (word (codes "i") ∷ list (word (codes "act") ∷ word (codes "?x") ∷ []) ∷ []) ∷ list (word (codes "j") ∷ list (word (codes "t") ∷ word (codes "k") ∷ []) ∷ []) ∷ []) ∷ word (codes ":ordering") ∷ list (word (codes "<") ∷ word (codes "i") ∷ word (codes "j") ∷ []) ∷ word (codes ":constraints") ∷ list (word (codes "not") ∷ list (word (codes "=") ∷ word (codes "?x") ∷ word (codes "k") ∷ []) ∷ []) ∷ []) ∷
    list (word (codes ":action") ∷ word (codes "act") ∷ word (codes ":parameters") ∷ list (word (codes "?x") ∷ word (codes "-") ∷ word (codes "a") ∷ []) ∷ word (codes ":effect") ∷ list (word (codes "and") ∷ list (word (codes "p") ∷ word (codes "?x") ∷ []) ∷ list (word (codes "increase") ∷ list (word (codes "total") ∷ []) ∷ word (codes "1") ∷ []) ∷ []) ∷ []) ∷
    [])

abbrev problem_sections : Parts
problem_sections =
    all_parts (
    list (word (codes ":domain") ∷ word (codes "d") ∷ []) ∷
    list (word (codes ":objects") ∷ word (codes "o") ∷ word (codes "-") ∷ word (codes "b") ∷ []) ∷
    list (word (codes ":htn") ∷ word (codes ":parameters") ∷ list (word (codes "?y") ∷ word (codes "-") ∷ word (codes "b") ∷ []) ∷ word (codes ":ordered-tasks") ∷ list (word (codes "and") ∷ list (word (codes "t") ∷ word (codes "?y") ∷ []) ∷ list (word (codes "t") ∷ word (codes "k") ∷ []) ∷ []) ∷ []) ∷
    list (word (codes ":init") ∷ list (word (codes "q") ∷ []) ∷ list (word (codes "=") ∷ list (word (codes "cost") ∷ word (codes "k") ∷ []) ∷ word (codes "3") ∷ []) ∷ list (word (codes "p") ∷ word (codes "k") ∷ []) ∷ []) ∷
    list (word (codes ":metric") ∷ word (codes "minimize") ∷ list (word (codes "total") ∷ []) ∷ []) ∷
    [])

abbrev v : Declared
v = hddl_words whole

-- the domain's own words: its constant alone
abbrev w : Declared
w = hddl_domain_words whole (k ∷ [])

abbrev scope : List Word
scope = codes "x" ∷ []

precondition : IsFormula w (Holds p_x) scope (said (codes "(p ?x)"))
precondition = subst (λ (T : Type 0). T) (sym (formula-Holds w scope _ p_x)) (codes "p", _, refl, refl, refl, ((codes "x", refl, refl), tt))

no_condition : (u : Declared) (s : List Word) → IsFormula u (And []) s (said (codes "()"))
no_condition u s = subst (λ (T : Type 0). T) (sym (formula-And u s _ [])) (inr (tt, refl))

effect : IsEffect w (Both (Add p_x ∷ Both [] ∷ [])) scope (said (codes "(and (p ?x) (increase (total) 1))"))
effect =
    subst (λ (T : Type 0). T) (sym (effect-Both w scope _ (Add p_x ∷ Both [] ∷ []))) (inl (
      _,
      refl,
      (
        subst (λ (T : Type 0). T) (sym (effect-Add w scope _ p_x)) (codes "p", _, refl, refl, refl, ((codes "x", refl, refl), tt)),
        (subst (λ (T : Type 0). T) (sym (effect-Both w scope _ [])) (inr (tt, inr (_, refl))), tt),
      ),
    ))

abbrev type_list : Parts
type_list = parts_in (section (codes ":types") domain_sections)

free : (r : Word) → Has (type_items type_list) (codes "object", Some r) → ⊥
free r (inl e) = apart (codes "a") (codes "object") refl (ap (λ (t : TypeItem). t.0) e)
free r (inr (inl e)) = apart (codes "b") (codes "object") refl (ap (λ (t : TypeItem). t.0) e)
free r (inr (inr (inl e))) = apart (codes "c") (codes "object") refl (ap (λ (t : TypeItem). t.0) e)
free r (inr (inr (inr e))) = e

sections : AreHddlSections whole domain_sections problem_sections
sections = record {
  constants = k ∷ [];
  others = o ∷ [];
  objects = refl;
  in_domain = record {
    common = record {
      domain_form = refl;
      domain_requires = refl;
      types = types-in-order type_list ((refl, refl, refl, refl), ((refl, refl, refl, refl), ((refl, refl, refl, refl), tt))) free;
      constants_spelled = ((refl, refl, (refl, refl), refl), tt);
      predicates = ((_, refl, refl, ((refl, refl, (refl, refl)), tt)), ((_, refl, refl, tt), tt));
      actions = (record { entries = _; is = refl; named = refl; form = refl; params = (_, refl, ((refl, refl, (refl, refl)), tt)); pre = no_condition w scope; eff = effect }, tt);
    };
    tasks = (record { entries = _; is = refl; named = refl; form = refl; params = (_, refl, ((refl, refl, (refl, refl)), tt)); no_pre = refl; no_eff = refl }, tt);
    methods = (
      record {
        entries = _;
        is = refl;
        named = refl;
        form = refl;
        params = (_, refl, ((refl, refl, (refl, refl)), tt));
        head = (codes "t", _, refl, refl, refl, ((codes "x", refl, refl), tt));
        pre = precondition;
        network = record {
          children_spelled = (
            (_, refl, refl, (codes "act", _, refl, refl, refl, ((codes "x", refl, refl), tt))),
            ((_, refl, refl, (codes "t", _, refl, refl, refl, ((codes "k", refl, refl, refl), tt))), tt),
          );
          ordered = record {
            written = record { first = 0; then = 1 } ∷ [];
            pairs_are = refl;
            pairs_spelled = ((codes "i", codes "j", inl refl, refl, refl, refl, refl), tt);
          };
          constraints_spelled = ((_, refl, (_, _, refl, (codes "x", refl, refl), (codes "k", refl, refl, refl))), tt);
        };
      },
      tt,
    );
  };
  in_problem = record {
    common = record {
      problem_form = refl;
      problem_requires = refl;
      of_domain = (codes "d", refl, refl);
      others_spelled = ((refl, refl, (refl, refl), refl), tt);
      init_form = refl;
      init = ((codes "q", nothing, refl, refl, refl, tt), ((codes "p", _, refl, refl, refl, ((codes "k", refl, refl, refl), tt)), tt));
      goal = no_condition v [];
    };
    htn = _;
    htn_there = refl;
    top = record {
      named = refl;
      task = refl;
      task_args = refl;
      pre = refl;
      form = refl;
      params = (_, refl, ((refl, refl, (refl, refl)), tt));
      network = record {
        children_spelled = (
          (codes "t", _, refl, refl, refl, ((codes "y", refl, refl), tt)),
          ((codes "t", _, refl, refl, refl, ((codes "k", refl, refl, refl), tt)), tt),
        );
        ordered = record { written = []; pairs_are = refl; pairs_spelled = tt };
        constraints_spelled = tt;
      };
    };
  };
}

pub whole_spelled : SpellsHddl domain problem whole
whole_spelled = record {
  texts = record {
    domain_sections = domain_sections;
    problem_sections = problem_sections;
    domain_text = record {
      clean = refl;
      is = symbols-read domain ∙ refl;
      named = refl;
    };
    problem_text = record {
      clean = refl;
      is = symbols-read problem ∙ refl;
      named = refl;
    };
  };
  sections = sections;
}

pub whole_in_order : IsHddlOf domain problem whole
unfolding whole_spelled
whole_in_order = record {
  domain_faultless = no_fault domain refl;
  problem_faultless = no_fault problem refl;
  spelled = whole_spelled;
  ordered = record { types = refl; pairs = refl; unions = refl };
}
