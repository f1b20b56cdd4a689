-- The printed problem, taken part by part: all but its actions as one value, and the actions one at a time.
-- Source: this project's encoding, after Alford et al., "Bound to Plan", ICAPS 2016.
use Rattle.std.specs.Prelude.{ℕ, ◌≡◌, ◌<◌, ◌≤◌, ◌^◌, Option, List, [], ◌++◌, length}
use Rattle.plan_model.specs.task_networks.Spelling.{numbers}
use Rattle.plan_texts.specs.SoundValue.{IsSoundHddl}
use Rattle.plan_texts.specs.PrintableValue.{IsPrintable}
use Rattle.plan_model.specs.declared.options.Checks.{Checks}
use Rattle.plan_model.specs.declared.options.Slots.{Slots}
use Rattle.plan_model.specs.declared.options.Slots.TheVariants.{Any, First}
use Rattle.plan_model.specs.declared.options.Style.{Style}
use Rattle.plan_model.specs.declared.terms.GroundAtom.{GroundAtom}
use Rattle.plan_model.specs.declared.values.Hddl.{Hddl}
use Rattle.plan_model.specs.plan_meaning.Compilation.{IsCompiled}
use Rattle.htn_base.specs.declared.name.Name.{Name}
use Rattle.plan_model.specs.declared.effects.Effect.TheVariants as E
use Rattle.plan_model.specs.declared.formulas.Formula.TheVariants.{And}
use Rattle.plan_model.specs.declared.schemas.ActionSchema.{ActionSchema}
use Rattle.plan_model.specs.declared.values.Compiled.{Compiled}
use Rattle.plan_model.specs.declared.values.Pddl.{Pddl}
use Rattle.slot_encoding.specs.EncodedActions.{differ}
use Rattle.slot_encoding.specs.FirstFree.{lowest_slots, less_facts, IsEncodedBy, HasWordsBy}
use Rattle.slot_encoding.specs.slot_declarations.Frames.{IsBasis}
use Rattle.slot_encoder.specs.Rules as rules
use Rattle.slot_encoder.specs.declared.encoding.Encoding.{Encoding}
use Rattle.slot_encoder.specs.declared.lower_slots.LowerSlots.{LowerSlots}
use Rattle.slot_encoder.specs.declared.split_action.Parts.{Parts}
use Rattle.slot_encoder.specs.declared.split_action.SplitAction.{SplitAction}

-- the action with all its parts
abbrev pub whole : SplitAction → ActionSchema
whole a = record { name = a.name; params = a.params; pre = And (a.before ++ (differ (numbers 1 a.spare) ++ a.behind)); eff = a.eff }

-- the same by which free slots a method takes: the new ones may be the lowest
abbrev pub whole_by : Slots → Compiled → List (List ℕ) → ℕ → Style → SplitAction → ActionSchema
whole_by Any c names b style a = whole a
whole_by First c names b style a =
    record { name = a.name; params = a.params; pre = And (a.before ++ (differ (numbers 1 a.spare) ++ (a.behind ++ lowest_slots c names b style (length a.params) a.spare))); eff = a.eff }

-- the action of this name of these parts, with so many new slots
abbrev pub split : Name → ℕ → Parts → SplitAction
split n spare p = record { name = n; params = p.params; before = p.before; spare = spare; behind = p.behind; eff = E.And p.effects }

-- the value with these actions
abbrev pub with_actions : Pddl → List ActionSchema → Pddl
with_actions p actions = record {
  names = p.names;
  domain = p.domain;
  problem = p.problem;
  types = p.types;
  objects = p.objects;
  predicates = p.predicates;
  actions = actions;
  init = p.init;
  goal = p.goal;
}

-- the value with these actions where more is true at the start
abbrev pub with_more : Pddl → List ActionSchema → List GroundAtom → Pddl
with_more p actions facts = record {
  names = p.names;
  domain = p.domain;
  problem = p.problem;
  types = p.types;
  objects = p.objects;
  predicates = p.predicates;
  actions = actions;
  init = p.init ++ facts;
  goal = p.goal;
}

-- over the words of the encoding: the actions of the printed problem, one of them, and how lower slots are said
abbrev pub all_actions : Compiled → Encoding → List ActionSchema
all_actions c e = rules.actions e.rule c e.names e.slots e.style

abbrev pub whole_in : Compiled → Encoding → SplitAction → ActionSchema
whole_in c e = whole_by e.rule c e.names e.slots e.style

abbrev pub lower_in : Compiled → Encoding → Option LowerSlots
lower_in c e = rules.lower_slots e.rule c e.names e.slots e.style

-- the whole value by a rule
abbrev pub value_by : Slots → Compiled → Encoding → Pddl
value_by Any c e = with_actions e.head (rules.actions Any c e.names e.slots e.style)
value_by First c e = with_more e.head (rules.actions First c e.names e.slots e.style) (less_facts c e.names e.slots e.style)

-- the encoding of a compiled problem: with its actions, and what is true of lower slots, the head is the encoded value, and its table has
-- the head's words, which are all
pub record IsEncoding (c : Compiled) (e : Encoding) : Type 0 where
  pub encoded : IsEncodedBy e.rule c e.slots e.style (value_by e.rule c e)
  pub no_actions : e.head.actions ≡ []
  pub words : HasWordsBy e.rule c e.slots e.head.names
  pub short : length e.head.names < 2 ^ 32
  pub table : e.names ≡ e.head.names
  pub basis : IsBasis c e.names e.slots e.basis

-- the printed problem can be printed and read again, wherever the compiled problem with b slots is that of a sound problem
abbrev pub IsPrintableWhereSound : Compiled → ℕ → Pddl → Type 0
IsPrintableWhereSound c b p =
    (h : Hddl) (mode : Checks) → IsSoundHddl h → IsCompiled h mode c
    → c.hddl.top.pre ≡ And [] → 1 ≤ b → length c.hddl.types.unions < 2 ^ 64 → IsPrintable p
