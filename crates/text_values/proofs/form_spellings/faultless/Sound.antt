-- What of a sound value its texts need to be without a fault, be it of HDDL or of PDDL.
use Rattle.std.proofs.Common.{ℕ, zero, suc, ◌≡◌, ◌<◌, ◌≤◌, inl, inr, List, [], ◌∷◌, map, length, arith, refl, sym, subst}
use Rattle.std.proofs.lemmas.Bool.{cases_lt}
use Rattle.text_forms.specs.Words.{Word, word_at}
use Rattle.plan_model.specs.task_networks.Order.{Precedes, direct, through}
use Rattle.plan_model.specs.Pairs.{pair, Pairs}
use Rattle.plan_model.specs.declared.formulas.Formula.TheOpen.{Formula-F}
use Rattle.plan_model.specs.declared.formulas.Formula.TheVariants.{And, rolls-And}
use Rattle.plan_model.specs.declared.schemas.MethodSchema.{MethodSchema}
use Rattle.plan_model.specs.declared.values.Hddl.{Hddl}
use Rattle.plan_model.specs.declared.values.Pddl.{Pddl}
use Rattle.plan_model.specs.plan_meaning.Laws.{AreOrdered}
use Rattle.plan_texts.specs.Declared.{Declared, named}
use Rattle.plan_texts.specs.Printable.{IsPlain, IsUnion, IsSound}
use Rattle.plan_texts.specs.PrintableValue.{arities_of}
use Rattle.plan_texts.specs.SoundProblem.{all_methods, HasSmallMethods, IsSoundNetwork, IsSoundProblem}
use Rattle.plan_texts.specs.SoundValue.{IsSoundHddl}
use Rattle.plan_texts.specs.SpellsPddl.{pddl_types, pddl_words}
use Rattle.plan_texts.specs.Types.{EachIs, Has}
use Rattle.plan_texts.proofs.Members.{each-has, contains-has, length-map}
use Rattle.plan_texts.proofs.Spelled.{sound_roll}
use Rattle.text_values.specs.form_spellings.SoundPddl.{IsSoundPddl}

-- a sound value whose networks have no cycle and few subtasks; its other lists may be of any length
pub record IsSoundAtAnyLength (h : Hddl) : Type 0 where
  pub value : IsSoundHddl h
  pub networks : EachIs (IsSoundNetwork h.names) (all_methods h)
  pub small : HasSmallMethods h
  pub ordered : AreOrdered h

pub sound_hddl : (h : Hddl) → IsSoundProblem h → AreOrdered h → IsSoundAtAnyLength h
sound_hddl h s ordered = record { value = s.value; networks = s.networks; small = s.limits.networks; ordered = ordered }

-- a network without subtasks
abbrev nothing_to_do : Pddl → MethodSchema
nothing_to_do c = record { name = c.problem; params = []; task = 0; task_args = []; pre = And []; children = []; pairs = []; constraints = [] }

-- a value of PDDL as one of HDDL: without tasks, without methods, with nothing to do
abbrev pub as_hddl : Pddl → Hddl
as_hddl c = record {
  names = c.names;
  domain = c.domain;
  problem = c.problem;
  types = c.types;
  objects = c.objects;
  predicates = c.predicates;
  tasks = [];
  actions = c.actions;
  methods = [];
  top = nothing_to_do c;
  init = c.init;
  goal = c.goal;
}

-- an empty conjunction is sound
empty_sound : (v : Declared) (arities : List ℕ) (scope : List Word) → IsSound v arities (And []) scope
empty_sound v arities scope = subst (λ f. IsSound v arities f scope) (rolls-And []) (subst (λ (z : List Word → Type 0). z scope) (sym (sound_roll v arities (Formula-F.And []))) tt)

-- past the end of a list stands the empty word, which names nothing
past : (ws : List Word) (k : ℕ) → length ws ≤ k → word_at ws k ≡ []
past [] zero l = refl
past [] (suc k) l = refl
past (w ∷ ws) zero l = absurd (omega (arith, l))
past (w ∷ ws) (suc k) l = past ws k (omega (arith, l))

within : (ws : List Word) (k : ℕ) → EachIs IsPlain ws → Has ws (word_at ws k) → k < length ws
within ws k plain h = elim (cases_lt k (length ws)) [
  | inl l ↦ l
  | inr l ↦ absurd (let p = each-has IsPlain ws (word_at ws k) plain h in let n = subst IsPlain (past ws k l) p in let e = n.1 in cc)
]

module _ (c : Pddl) (s : IsSoundPddl c) where
  union_within : (ts : List ℕ) → EachIs (Has (pddl_types c)) (map (word_at (pddl_types c)) ts) → EachIs (λ t. t < length c.types.names) ts
  union_within [] e = tt
  union_within (t ∷ ts) e = (let l = within (pddl_types c) t s.words.types e.0 in let n = length-map (named c.names) c.types.names in omega (arith, l, n), union_within ts e.1)

  unions_within : (us : List (List ℕ)) → EachIs (IsUnion (pddl_words c) (arities_of c)) (map (map (word_at (pddl_types c))) us) → EachIs (EachIs (λ t. t < length c.types.names)) us
  unions_within [] e = tt
  unions_within (ts ∷ us) e = (union_within ts e.0.1, unions_within us e.1)

  value : IsSoundHddl (as_hddl c)
  value = record {
    domain = s.domain;
    problem = s.problem;
    words = s.words;
    first = s.first;
    parents = s.parents;
    has_parent = s.has_parent;
    no_cycle = s.no_cycle;
    unions = unions_within c.types.unions s.words.unions;
    objects = s.objects;
    predicates = s.predicates;
    calls_named = s.actions_named;
    calls_differ = s.actions_differ;
    methods_named = tt;
    methods_differ = tt;
    task_params = tt;
    action_params = s.params;
    pre = s.pre;
    eff = s.eff;
    top_task = refl;
    top_args = refl;
    top = record { params = (tt, tt); task_args = tt; pre = empty_sound (pddl_words c) (arities_of c) []; children = tt; constraints = tt };
    method_tasks = tt;
    methods = tt;
    init = s.init;
    goal = s.goal;
  }

  -- no pairs, so no cycle
  none_before : (i j : ℕ) → Precedes (Pairs []) i j → ⊥
  none_before i j (direct p) = contains-has [] (pair i j) p
  none_before i j (through {j = m} q p) = none_before i m q

  ordered : AreOrdered (as_hddl c)
  ordered m k = elim (contains-has (nothing_to_do c ∷ []) m k) [
    | inl e ↦ ((λ i j p. absurd (contains-has [] (pair i j) (subst (λ (m : MethodSchema). Pairs m.pairs i j) (sym e) p))), λ i p. none_before i i (subst (λ (m : MethodSchema). Precedes (Pairs m.pairs) i i) (sym e) p))
    | inr h ↦ absurd h
  ]

  pub sound_pddl : IsSoundAtAnyLength (as_hddl c)
  sound_pddl = record {
    value = value;
    networks = (record { pairs = tt; ids_named = tt; ids_differ = tt }, tt);
    small = (record { subtasks = omega arith; params = omega arith }, tt);
    ordered = ordered;
  }
