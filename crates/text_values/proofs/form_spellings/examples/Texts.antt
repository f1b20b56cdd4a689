-- A small domain and a small problem, what is read of them, a value to which it is bound, and that the texts spell this value.
use Rattle.std.proofs.Common.{◌≡◌, ◌⊎◌, ℕ, inl, inr, false, Contains, List, [], ◌∷◌, codes, None, refl, sym, arith}
use Rattle.text_forms.specs.Words.{Word}
use Rattle.text_forms.proofs.LeastFault.{no_fault}
use Rattle.plan_texts.specs.Declared.{Declared}
use Rattle.plan_texts.specs.SpellsHddl.{hddl_domain, hddl_words, SpellsHddl}
use Rattle.plan_texts.specs.Domains.{domain_words}
use Rattle.plan_texts.specs.Types.{Has, Mentions, IsPairSaid}
use Rattle.plan_model.specs.declared.effects.Effect.TheVariants as effect
use Rattle.plan_model.specs.declared.formulas.Formula.TheVariants as formula
use Rattle.plan_model.specs.declared.networks.Head.TheVariants.{Action}
use Rattle.plan_model.specs.declared.values.Hddl.{Hddl}
use Rattle.gd_reader.specs.declared.effects.RawEffect.TheOpen.{RawEffect-F}
use Rattle.gd_reader.specs.declared.effects.RawEffect.TheVariants as raw_effect
use Rattle.gd_reader.specs.declared.effects.RawEffect.TheVariants.{rolls-And as rolls-Both}
use Rattle.gd_reader.specs.declared.formulas.RawFormula.TheOpen.{RawFormula-F}
use Rattle.gd_reader.specs.declared.formulas.RawFormula.TheVariants as raw_formula
use Rattle.gd_reader.specs.declared.formulas.RawFormula.TheVariants.{rolls-And}
use Rattle.gd_reader.specs.declared.term.RawTerm.{RawTerm}
use Rattle.gd_reader.specs.Answers.{word_due, list_due, end_due}
use Rattle.gd_reader.specs.Terms.{Names}
use Rattle.gd_reader.specs.Words.{sort_of}
use Rattle.hddl_reader.specs.declared.sections.Language.TheVariants as language
use Rattle.hddl_reader.specs.declared.sections.RawDomain.{RawDomain}
use Rattle.hddl_reader.specs.declared.sections.RawProblem.{RawProblem}
use Rattle.hddl_reader.specs.Definitions.{title, definition_inside, definition_read, IsDomainRead, IsProblemRead}
use Rattle.hddl_reader.specs.Networks.{declared, behind_name, sub_headed, some_of}
use Rattle.hddl_reader.specs.Parts.{part_of, stands, part_read, may_end as parts_end, parts, parts_from}
use Rattle.hddl_reader.specs.Sections.{section_of, has_section, named_parts, section_read, may_end, section_inside, sections}
use Rattle.text_values.specs.form_spellings.Bound.{IsBoundFormula, IsBoundEffect}
use Rattle.text_values.specs.form_spellings.BoundTexts.{AreBoundTypes, IsBoundHddl}
use Rattle.text_values.specs.form_spellings.ReadTexts.{AreRead}
use Rattle.text_values.proofs.form_spellings.EffectsBound.{bound_roll as effect_bound}
use Rattle.text_values.proofs.form_spellings.FormulasBound.{bound_roll}
use Rattle.text_values.proofs.form_spellings.TextsRead.{hddl_spelled}

-- an action without parts, and a problem whose network is this action
abbrev pub domain : List ℕ
domain = codes "(define (domain d) (:action a))"

abbrev problem : List ℕ
problem = codes "(define (problem p) (:htn :tasks (a)))"

abbrev table : Names
table = codes "d" ∷ codes "a" ∷ codes "p" ∷ []

abbrev name_at : ℕ → ℕ → RawTerm
name_at n at = record { name = record { number = n }; variable = false; at = at }

abbrev pub raw_domain : RawDomain
raw_domain = record {
  name = record { number = 0 };
  types = [];
  constants = [];
  predicates = [];
  tasks = [];
  methods = [];
  actions = record { head = record { name = name_at 1 28; params = [] }; pre = raw_formula.And []; eff = raw_effect.And [] } ∷ [];
}

abbrev raw_problem : RawProblem
raw_problem = record {
  name = record { number = 2 };
  objects = [];
  params = [];
  net = record { subs = record { id = None; atom = record { head = name_at 1 34; args = [] }; at = 33 } ∷ []; ordered = false; pairs = []; constraints = [] };
  init = [];
  goal = raw_formula.And [];
}

row_domain : IsDomainRead language.Hddl [] domain (raw_domain, codes "d" ∷ codes "a" ∷ [])
unfolding definition_read definition_inside title sections section_inside section_of has_section section_read may_end named_parts parts parts_end declared word_due list_due end_due sort_of
row_domain = (_, refl, record { whole = tt; gives = refl })

row_problem : IsProblemRead language.Hddl (codes "d" ∷ codes "a" ∷ []) problem (raw_problem, table)
unfolding definition_read definition_inside title sections section_inside section_of has_section section_read may_end parts parts_from part_of stands part_read parts_end some_of sub_headed behind_name declared word_due list_due end_due sort_of
row_problem = (_, refl, record { whole = tt; gives = refl })

row_read : AreRead language.Hddl domain problem table raw_domain raw_problem
row_read = record {
  before_domain = [];
  behind_domain = codes "d" ∷ codes "a" ∷ [];
  domain_read = row_domain;
  keeps_domain = refl;
  before_problem = codes "d" ∷ codes "a" ∷ [];
  behind_problem = table;
  problem_read = row_problem;
  keeps_problem = refl;
}

-- the value has a table of its own
abbrev value : Hddl
value = record {
  names = codes "a" ∷ codes "d" ∷ codes "p" ∷ codes "object" ∷ codes "htn_start" ∷ [];
  domain = record { number = 1 };
  problem = record { number = 2 };
  types = record { names = record { number = 3 } ∷ []; parents = []; unions = [] };
  objects = [];
  predicates = [];
  tasks = [];
  actions = record { name = record { number = 0 }; params = []; pre = formula.And []; eff = effect.And [] } ∷ [];
  methods = [];
  top = record {
    name = record { number = 4 };
    params = [];
    task = 0;
    task_args = [];
    pre = formula.And [];
    children = record { id = None; head = Action 0; args = [] } ∷ [];
    pairs = [];
    constraints = [];
  };
  init = [];
  goal = formula.And [];
}

pub true_bound : (v : Declared) (table : Names) (scope : List Word) → IsBoundFormula v table (raw_formula.And []) scope (formula.And [])
true_bound v table scope = bound_roll v table (RawFormula-F.And []) (raw_formula.And []) (rolls-And []) scope (formula.And []) ([], refl, tt)

pub nothing_bound : (v : Declared) (table : Names) (scope : List Word) → IsBoundEffect v table (raw_effect.And []) scope (effect.And [])
nothing_bound v table scope = effect_bound v table (RawEffect-F.And []) (raw_effect.And []) (rolls-Both []) scope (effect.And []) ([], refl, tt)

no_type : (w : Word) → Mentions [] w → ⊥
no_type w (inl m) = m.1
no_type w (inr m) = m.1

no_pair : (c q : Word) → IsPairSaid [] c q → ⊥
no_pair c q (inl p) = p
no_pair c q (inr p) = no_type c p.2

pub no_types : (v : Declared) (table : Names) → AreBoundTypes v table (codes "object" ∷ []) [] []
no_types v table = record {
  items = [];
  bound = tt;
  first = refl;
  different = (few, tt);
  same_words = λ w. (to w, from w);
  same_pairs = λ c q. ((λ p. absurd p.1), (λ p. absurd (no_pair c q p)));
}
  where
    few : Contains [] (codes "object") → ⊥
    few c = let l = c.1 in absurd (omega arith)

    to : (w : Word) → Has (codes "object" ∷ []) w → (w ≡ codes "object") ⊎ Mentions [] w
    to w (inl e) = inl (sym e)
    to w (inr m) = absurd m

    from : (w : Word) → (w ≡ codes "object") ⊎ Mentions [] w → Has (codes "object" ∷ []) w
    from w (inl e) = inl (sym e)
    from w (inr m) = absurd (no_type w m)

row_bound : IsBoundHddl table raw_domain raw_problem value
row_bound = record {
  domain_name = refl;
  problem_name = refl;
  constants = [];
  others = [];
  objects = refl;
  in_domain = record {
    types = no_types (domain_words (hddl_domain value [])) table;
    constants = tt;
    predicates = tt;
    tasks = tt;
    actions = (record { name = refl; params = tt; pre = true_bound (domain_words (hddl_domain value [])) table []; eff = nothing_bound (domain_words (hddl_domain value [])) table [] }, tt);
    methods = tt;
  };
  in_problem = record {
    objects = tt;
    init = tt;
    goal = true_bound (hddl_words value) table [];
    top = record { name = refl; task = refl; task_args = refl; pre = refl; params_bound = tt; network = record { subtasks = ((tt, (refl, tt)), tt); written = []; pairs_are = refl; ordering = tt; limits = tt } };
  };
}

row_spelled : SpellsHddl domain problem value
row_spelled = hddl_spelled domain problem table raw_domain raw_problem row_read (no_fault domain refl) (no_fault problem refl) value row_bound
