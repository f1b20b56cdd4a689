-- The value of a stack of a sound problem, over a table that has all its words, is printable.
use Rattle.std.proofs.Common.{ℕ, suc, ◌<◌, ◌^◌, List, map, sym, subst, arith}
use Rattle.text_forms.specs.Words.{Word}
use Rattle.plan_model.specs.declared.options.Checks.{Checks}
use Rattle.plan_model.specs.declared.terms.GroundAtom.{GroundAtom}
use Rattle.plan_model.specs.declared.schemas.ActionSchema.{ActionSchema}
use Rattle.plan_model.specs.declared.values.Hddl.{Hddl}
use Rattle.plan_model.specs.declared.values.Compiled.{Compiled}
use Rattle.plan_model.specs.declared.values.Pddl.{Pddl}
use Rattle.plan_model.specs.plan_meaning.Compilation.{IsCompiled}
use Rattle.plan_texts.specs.Declared.{named, variable}
use Rattle.plan_texts.specs.Types.{EachIs}
use Rattle.plan_texts.specs.Printable.{IsPlain, AreSoundParams, IsSound, IsSoundEffect}
use Rattle.plan_texts.specs.SoundValue.{IsSoundHddl}
use Rattle.plan_texts.specs.PrintableValue.{IsPrintable}
use Rattle.slot_encoding.specs.EncodedWords.{own_word}
use Rattle.slot_encoding.specs.Countable.{IsCountable}
use Rattle.slot_encoding.specs.Numberable.{IsNumberable}
use Rattle.slot_encoding.proofs.words.Lists.{each-weaker}
use Rattle.slot_encoding.proofs.words.PlainWords.{plain-escaped}
use Rattle.slot_encoding.proofs.words.TableWords.{named-name}
use Rattle.slot_encoding.proofs.words.TypeWords.{types_plain, types_differ, first_type, unions_printed, parents_printed, has_parent_printed, no_cycle_printed}
use Rattle.slot_encoding.proofs.words.Works.{IsSoundAction}
use Rattle.stack_encoding.specs.StackValue.{stack_actions, IsInitial, IsStackEncoded}
use Rattle.stack_encoding.specs.StackWords.{HasStackWords}
use Rattle.stack_encoding.proofs.StackOver.{stack_over, is_stack_over}
use Rattle.stack_encoding.proofs.words.CellNames.{objects_plain, objects_differ, objects_typed}
use Rattle.stack_encoding.proofs.words.FewCells.{few_cells, few_children}
use Rattle.stack_encoding.proofs.words.KnownParts.{AreKnown, known_parts}
use Rattle.stack_encoding.proofs.words.PredicateWords.{predicates_plain, predicates_differ, predicate_params}
use Rattle.stack_encoding.proofs.words.StackActionNames.{actions_plain, actions_differ}
use Rattle.stack_encoding.proofs.words.StackActionsSound.{stack_actions_sound}
use Rattle.stack_encoding.proofs.words.StackBeginning.{stack_init_sound, stack_goal_sound}
use Rattle.stack_encoding.proofs.words.StackDeclared.{stack_declared, stack_arities}

module _ (mode : Checks) (c : Compiled) (b : ℕ) (names : List Word) (init : List GroundAtom)
    (sound : IsSoundHddl c.hddl) (compiled : IsCompiled c.hddl mode c) (initial : IsInitial c names b init) (known : AreKnown c b names) (few : IsCountable c b) (cells : suc b < 2 ^ 64) where
  abbrev Sound : ActionSchema → Type 0
  Sound = IsSoundAction (stack_declared c names b) (stack_arities c names b)

  each : (P : ActionSchema → Type 0) → ((a : ActionSchema) → Sound a → P a) → EachIs P (stack_actions c names b)
  each P h = each-weaker Sound P (stack_actions c names b) h (stack_actions_sound c names b sound known mode compiled few.few_children)

  pub over_printable : IsPrintable (stack_over c b names init)
  over_printable = record {
    domain = subst IsPlain (sym (named-name (own_word c c.hddl.domain) names known.domain)) (plain-escaped (named c.hddl.names c.hddl.domain) sound.domain);
    problem = subst IsPlain (sym (named-name (own_word c c.hddl.problem) names known.problem)) (plain-escaped (named c.hddl.names c.hddl.problem) sound.problem);
    words = record {
      types = types_plain c names b sound known.types;
      types_differ = types_differ c names b sound known.types;
      unions = unions_printed c names b sound known.types;
      objects = objects_plain c names b sound known;
      objects_differ = objects_differ c names b sound known cells;
      predicates = predicates_plain c names b sound known mode compiled few.top;
      predicates_differ = predicates_differ c names b sound known mode compiled few.top few.unions;
    };
    first = first_type c names b sound known.types;
    parents = parents_printed c names b sound known.types;
    has_parent = has_parent_printed c names b sound known.types;
    no_cycle = no_cycle_printed c names b sound known.types;
    objects = objects_typed c names b sound known.types;
    predicates = predicate_params c names b sound known;
    actions_named = actions_plain c names b sound known mode compiled few.top;
    actions_differ = actions_differ c names b sound known mode compiled few.top;
    params = each (λ (a : ActionSchema). AreSoundParams (stack_declared c names b) (stack_arities c names b) a.params) (λ a s. s.params);
    pre = each (λ (a : ActionSchema). IsSound (stack_declared c names b) (stack_arities c names b) a.pre (map (variable (stack_declared c names b)) a.params)) (λ a s. s.pre);
    eff = each (λ (a : ActionSchema). IsSoundEffect (stack_declared c names b) (stack_arities c names b) a.eff (map (variable (stack_declared c names b)) a.params)) (λ a s. s.eff);
    init = stack_init_sound c names b sound known few.some_slot init initial;
    goal = stack_goal_sound c names b sound known;
  }

-- however many words its table has
pub countable_stack_printable : (h : Hddl) (mode : Checks) (c : Compiled) (b : ℕ) (p : Pddl)
    → IsSoundHddl h → IsCompiled h mode c → IsStackEncoded c b p → HasStackWords c b p.names → IsCountable c b → suc b < 2 ^ 64 → IsPrintable p
countable_stack_printable h mode c b p sound compiled encoded has few cells =
    let s = subst IsSoundHddl (sym compiled.hddl) sound in
    let k = subst (λ z. IsCompiled z mode c) (sym compiled.hddl) compiled in
    subst IsPrintable (sym (is_stack_over c b p encoded)) (over_printable mode c b p.names p.init s k encoded.init (known_parts c b p.names has) few cells)

pub stack_printable : (h : Hddl) (mode : Checks) (c : Compiled) (b : ℕ) (p : Pddl)
    → IsSoundHddl h → IsCompiled h mode c → IsStackEncoded c b p → HasStackWords c b p.names → IsNumberable c b p.names → IsPrintable p
stack_printable h mode c b p sound compiled encoded has few =
    let known = known_parts c b p.names has in
    let cells = few_cells c b p.names known few.short in
    countable_stack_printable h mode c b p sound compiled encoded has
    (record { top = few.top; some_slot = few.some_slot; few_slots = omega (arith, cells); few_children = few_children c b p.names known few.short; unions = few.unions }) cells
