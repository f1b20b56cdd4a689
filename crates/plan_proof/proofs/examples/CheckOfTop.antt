-- A sound problem whose encoded value is not printable: the top method has a precondition and the name of another method,
-- so that in mode leaf two checks have one name. The value of a text has no such top method.
use Rattle.std.proofs.Common.{ℕ, ◌≡◌, ◌<◌, ◌≤◌, ◌^◌, inl, inr, Bool, true, false, List, [], ◌∷◌, ◌++◌, length, Some, refl, ap, sym, subst, ◌∙◌, Contains, arith, true≢false, codes}
use Rattle.text_forms.specs.Words.{Word}
use Rattle.plan_model.specs.declared.options.Checks.{Checks}
use Rattle.plan_model.specs.declared.options.Checks.TheVariants.{Leaf}
use Rattle.plan_model.specs.declared.options.Style.{Style}
use Rattle.plan_model.specs.declared.options.Style.TheVariants.{Adl}
use Rattle.plan_model.specs.declared.formulas.Formula.{Formula}
use Rattle.plan_model.specs.declared.formulas.Formula.TheFolds.{fold-roll-Formula}
use Rattle.plan_model.specs.declared.formulas.Formula.TheOpen.{Formula-F}
use Rattle.plan_model.specs.declared.formulas.Formula.TheVariants.{And, Or, rolls-And, rolls-Or}
use Rattle.plan_model.specs.declared.effects.Effect.TheFolds.{fold-roll-Effect}
use Rattle.plan_model.specs.declared.effects.Effect.TheOpen.{Effect-F}
use Rattle.plan_model.specs.declared.effects.Effect.TheVariants as E
use Rattle.htn_base.specs.Escapes.{slot_word}
use Rattle.plan_model.specs.declared.networks.Head.TheVariants.{Task, Action, Check}
use Rattle.plan_model.specs.declared.schemas.MethodSchema.{MethodSchema}
use Rattle.plan_model.specs.declared.schemas.MethodPlan.{MethodPlan}
use Rattle.plan_model.specs.declared.values.Hddl.{Hddl}
use Rattle.plan_model.specs.declared.values.Compiled.{Compiled}
use Rattle.plan_model.specs.declared.values.Pddl.{Pddl}
use Rattle.plan_texts.specs.SpellsHddl.{hddl_words}
use Rattle.plan_texts.specs.Printable.{IsSound}
use Rattle.plan_texts.specs.SoundValue.{IsSoundHddl, IsSoundMethod, arities}
use Rattle.plan_texts.specs.PrintableValue.{IsPrintable}
use Rattle.plan_texts.proofs.Spelled.{sound_roll}
use Rattle.plan_model.specs.task_networks.Order.{Precedes, direct, through, ArePairsOf, IsAcyclic}
use Rattle.plan_model.proofs.task_networks.Lists.{head_or_tail, not-in_empty}
use Rattle.plan_model.specs.plan_meaning.Laws.{AreOrdered}
use Rattle.plan_model.specs.plan_meaning.Compilation.{AsksSomething, IsCompiled}
use Rattle.plan_model.specs.Pairs.{Pairs}
use Rattle.slot_encoding.specs.SourceParts.{renamed}
use Rattle.order_encoder.specs.OrderFormulas.{free_parts}
use Rattle.slot_encoding.specs.EncodedNames.{free_predicate, encoded_types, encoded_objects, encoded_predicates, order_numbers}
use Rattle.slot_encoding.specs.EncodedActions.{no_part, is_empty, source_condition}
use Rattle.slot_encoding.specs.EncodedValue.{first_atoms, encoded_actions, IsEncoded}
use Rattle.plan_model.proofs.plan_meaning.examples.PlanKinds.{with_check, none_rise}
use Rattle.plan_model.proofs.plan_meaning.examples.RowValues.{child, always, nothing, problem, method_schema, method_plan, task_schema, action_schema}
use Rattle.plan_model.proofs.plan_meaning.examples.SmallestRow.{smallest_names}
use Rattle.plan_proof.proofs.examples.SmallestFaithful.{smallest_is_printed}
use Rattle.slot_encoding.specs.EncodedWords.{numbered, formula_words_step, formula_words, effect_words_step, effect_words, encoded_words, HasEncodedWords}

-- (or), which is no empty conjunction
abbrev never : Formula
never = Or []

counts : AsksSomething never
counts e =
    let f : is_empty never ≡ false = ap is_empty (sym (rolls-Or [])) ∙ fold-roll-Formula Bool no_part (Formula-F.Or []) in
    let g : is_empty (And []) ≡ true = ap is_empty (sym (rolls-And [])) ∙ fold-roll-Formula Bool no_part (Formula-F.And []) in
    true≢false (sym g ∙ ap is_empty (sym e) ∙ f)

abbrev top : MethodSchema
top = method_schema 6 1 never (child (Task 0) ∷ []) []

abbrev method : MethodSchema
method = method_schema 6 0 never (child (Action 0) ∷ []) []

abbrev twins_hddl : Hddl
twins_hddl = problem smallest_names [] (task_schema 4 ∷ []) (action_schema 5 always nothing ∷ []) (method ∷ []) top

abbrev checked : MethodSchema → MethodPlan
checked s = method_plan (record s { children = child Check ∷ s.children; pairs = record { first = 0; then = 1 } ∷ [] }) true (0 ∷ 1 ∷ []) (Some 1) []

abbrev twins : Compiled
twins = record { hddl = twins_hddl; methods = checked top ∷ checked method ∷ [] }

compiled : IsCompiled twins_hddl Leaf twins
compiled = record {
  hddl = refl;
  methods = (
    with_check twins_hddl top (checked top) counts refl refl (record { schema = refl; up = (omega arith, tt); line = refl; heir = refl; copiers = refl; rising = none_rise; guards = ([], refl, refl) }),
    (with_check twins_hddl method (checked method) counts refl refl (record { schema = refl; up = (omega arith, tt); line = refl; heir = refl; copiers = refl; rising = none_rise; guards = ([], refl, refl) }), tt),
  );
}

sound_never : (scope : List Word) → IsSound (hddl_words twins_hddl) (arities twins_hddl) never scope
sound_never scope = subst (λ f. IsSound (hddl_words twins_hddl) (arities twins_hddl) f scope) (rolls-Or [])
    (subst (λ (z : List Word → Type 0). z scope) (sym (sound_roll (hddl_words twins_hddl) (arities twins_hddl) (Formula-F.Or []))) tt)

sound_top : IsSoundMethod twins_hddl top
sound_top = record { params = (tt, tt); task_args = tt; pre = sound_never []; children = (((_, refl, refl), tt), tt); constraints = tt }

sound_method : IsSoundMethod twins_hddl method
sound_method = record { params = (tt, tt); task_args = tt; pre = sound_never []; children = (((_, refl, refl), tt), tt); constraints = tt }

-- all but the two preconditions is as in the smallest problem
sound : IsSoundHddl twins_hddl
sound =
    let same = (smallest_is_printed Leaf).sound in
    record {
      domain = same.domain;
      problem = same.problem;
      words = record { types = same.words.types; types_differ = same.words.types_differ; unions = same.words.unions; objects = same.words.objects; predicates = same.words.predicates; objects_differ = same.words.objects_differ; predicates_differ = same.words.predicates_differ };
      first = same.first;
      parents = same.parents;
      has_parent = same.has_parent;
      no_cycle = same.no_cycle;
      unions = same.unions;
      objects = same.objects;
      predicates = same.predicates;
      calls_named = same.calls_named;
      calls_differ = same.calls_differ;
      methods_named = same.methods_named;
      methods_differ = same.methods_differ;
      task_params = same.task_params;
      action_params = same.action_params;
      pre = same.pre;
      eff = same.eff;
      top_task = refl;
      top_args = refl;
      top = sound_top;
      method_tasks = ((_, refl, refl), tt);
      methods = (sound_method, tt);
      init = same.init;
      goal = same.goal;
    }

no_pairs : (s : MethodSchema) → s.pairs ≡ [] → ArePairsOf (Pairs s.pairs) (length s.children) × IsAcyclic (Pairs s.pairs)
no_pairs s e = (λ i j k. absurd (none i j k), λ i k. last i k)
  where
    none : (i j : ℕ) → Pairs s.pairs i j → ⊥
    none i j k = not-in_empty (record { first = i; then = j }) (subst (λ l. Contains l (record { first = i; then = j })) e k)

    last : (i : ℕ) → Precedes (Pairs s.pairs) i i → ⊥
    last i (direct k) = none i i k
    last i (through {j = j} k l) = none j i l

ordered : AreOrdered twins_hddl
ordered s k = elim (head_or_tail top (method ∷ []) s k) [
  | inl e ↦ no_pairs s (ap (λ (z : MethodSchema). z.pairs) (sym e))
  | inr d ↦ elim (head_or_tail method [] s d) [ inl e ↦ no_pairs s (ap (λ (z : MethodSchema). z.pairs) (sym e)) | inr c ↦ absurd (not-in_empty s c) ]
]

abbrev table : List Word
table = encoded_words twins 1

abbrev printed : Pddl
printed = record {
  names = table;
  domain = renamed table twins_hddl.names twins_hddl.domain;
  problem = renamed table twins_hddl.names twins_hddl.problem;
  types = encoded_types twins table 1;
  objects = encoded_objects twins table 1;
  predicates = encoded_predicates twins table 1;
  actions = encoded_actions twins table 1 Adl;
  init = first_atoms twins table 1 Adl;
  goal = And (source_condition twins table 1 Adl 0 twins_hddl.goal ++ free_parts (order_numbers twins table 1) 1 0 Adl (free_predicate twins));
}

encoded : IsEncoded twins 1 Adl printed
encoded = record { domain = refl; problem = refl; types = refl; objects = refl; predicates = refl; actions = refl; init = ([], refl, refl); goal = refl }

-- no variable is quantified, so the words are known
no_words : formula_words smallest_names (And []) ≡ []
no_words = ap (formula_words smallest_names) (sym (rolls-And [])) ∙ fold-roll-Formula (List Word) (formula_words_step smallest_names) (Formula-F.And [])

never_words : formula_words smallest_names never ≡ []
never_words = ap (formula_words smallest_names) (sym (rolls-Or [])) ∙ fold-roll-Formula (List Word) (formula_words_step smallest_names) (Formula-F.Or [])

no_effect_words : effect_words smallest_names nothing ≡ []
no_effect_words = ap (effect_words smallest_names) (sym (E.rolls-And [])) ∙ fold-roll-Effect (List Word) (effect_words_step smallest_names) (Effect-F.And [])

words_by : List Word → List Word → List Word → List Word
words_by f n e =
    codes "d" ∷ codes "p" ∷ codes "object" ∷ codes "htn_slot" ∷ codes "htn_object" ∷ slot_word 1 ∷ codes "htn_h" ∷ codes "htn_x" ∷ codes "htn_a1" ∷ codes "htn_top" ∷ codes "htn_free" ∷ codes "htn_before"
    ∷ codes "htn_t_t" ∷ codes "htn_a_a" ∷ codes "htn_c_m" ∷ codes "htn_c_m"
    ∷ (((codes "htn_start" ∷ (numbered (codes "htn_h") 1 ++ n ++ (codes "htn_m_m" ∷ (numbered (codes "htn_h") 1 ++ n ++ [])))) ++ (codes "htn_c_m" ∷ codes "htn_c_m" ∷ [])) ++ ((codes "a" ∷ (f ++ e)) ++ []) ++ f)

short : length table < 2 ^ 32
unfolding words_by
short =
    let e : table ≡ words_by [] [] [] = λ i. words_by (no_words i) (never_words i) (no_effect_words i) in
    let f : length table ≡ 23 = ap length e in
    omega arith

-- that every encoded value is printable, where all else that is asked holds
abbrev pub EncodedIsPrintable : Type 0
EncodedIsPrintable = (h : Hddl) (mode : Checks) (c : Compiled) (b : ℕ) (style : Style) (p : Pddl) → IsSoundHddl h → AreOrdered h → IsCompiled h mode c → 1 ≤ b → b < 2 ^ 32 → length h.types.unions < 2 ^ 64
    → IsEncoded c b style p → length p.names < 2 ^ 32 → HasEncodedWords c b p.names → IsPrintable p

pub refuted : EncodedIsPrintable → ⊥
refuted all = (all twins_hddl Leaf twins 1 Adl printed sound ordered compiled (omega arith) (omega arith) (omega arith) encoded short (λ w m. m)).actions_differ.1.1.0 (0, omega arith, refl)
