-- What holds of a domain and a problem that were read: names are in the table and may be declared, and offsets are those of a text.
-- Source: this project's.
use Rattle.std.specs.Prelude.{◌≤◌, List, map, length}
use Rattle.htn_base.specs.Different.{AreDifferent}
use Rattle.text_forms.specs.Words.{Word}
use Rattle.gd_reader.specs.Terms.{Names}
use Rattle.gd_reader.specs.declared.effects.RawEffect.{RawEffect}
use Rattle.gd_reader.specs.declared.formulas.RawFormula.{RawFormula}
use Rattle.gd_reader.specs.declared.term.RawTerm.{RawTerm}
use Rattle.gd_reader.specs.declared.typed_lists.RawParam.{RawParam}
use Rattle.hddl_reader.specs.declared.networks.RawNet.{RawNet}
use Rattle.hddl_reader.specs.declared.networks.RawSub.{RawSub}
use Rattle.hddl_reader.specs.declared.sections.RawAction.{RawAction}
use Rattle.hddl_reader.specs.declared.sections.RawDomain.{RawDomain}
use Rattle.hddl_reader.specs.declared.sections.RawHead.{RawHead}
use Rattle.hddl_reader.specs.declared.sections.RawMethod.{RawMethod}
use Rattle.hddl_reader.specs.declared.sections.RawProblem.{RawProblem}
use Rattle.plan_texts.specs.Declared.{named}
use Rattle.plan_texts.specs.Printable.{IsPlain, IsPlainVariable}
use Rattle.plan_texts.specs.Types.{EachIs}
use Rattle.text_values.specs.form_spellings.Arguments.{IsFormulaInOrder, IsEffectInOrder}
use Rattle.text_values.specs.form_spellings.EachList.{OfEachList, OfEachListOfEffect}
use Rattle.text_values.specs.form_spellings.InTable.{IsDomainIn, IsProblemIn}
use Rattle.text_values.specs.form_spellings.Rising.{Rise, term_offsets, param_offsets, head_offsets, action_offsets, method_offsets, atom_offsets}
use Rattle.text_values.specs.form_spellings.Rising.{sub_offsets, pair_offsets, con_offsets, ids, callables, mentioned}
use Rattle.text_values.specs.form_spellings.Rising.{IsAtomInOrder, IsPairInOrder, IsConInOrder, HasTypesBehind, HaveOneWordAPlace}

module _ (names : Names) where
  abbrev pub term_word : RawTerm → Word
  term_word t = named names t.name

  abbrev pub param_word : RawParam → Word
  param_word x = named names x.name

  -- the word of a declared name is a folded NAME
  abbrev pub IsPlainName : RawTerm → Type 0
  IsPlainName t = IsPlain (term_word t)

  -- a type with its parent, or an object with its type: one is written at most, since an `either` stands only behind variables
  pub record IsTypedName (x : RawParam) : Type 0 where
    pub plain : IsPlain (param_word x)
    pub types_plain : EachIs IsPlainName x.ty
    pub one_type : length x.ty ≤ 1
    pub type_behind : HasTypesBehind x

  -- no type is written twice in one `either`
  abbrev pub IsWrittenOnce : RawParam → Type 0
  IsWrittenOnce x = AreDifferent (map term_word x.ty)

  -- the variables that a predicate declares: their words can be declared; two may have one word
  pub record AreVariables (xs : List RawParam) : Type 0 where
    pub plain : EachIs (λ (x : RawParam). IsPlainVariable (param_word x)) xs
    pub types_once : EachIs IsWrittenOnce xs
    pub in_order : Rise (param_offsets xs)
    pub types_behind : EachIs HasTypesBehind xs

  -- those of a task, a method, an action, the problem's network or a quantifier differ
  pub record AreParameters (xs : List RawParam) : Type 0 where
    pub variables : AreVariables xs
    pub differ : AreDifferent (map param_word xs)

  pub record IsPredicateInOrder (h : RawHead) : Type 0 where
    pub name : IsPlainName h.name
    pub params : AreVariables h.params

  pub record IsHeadInOrder (h : RawHead) : Type 0 where
    pub name : IsPlainName h.name
    pub params : AreParameters h.params

  -- the ids of subtasks, as far as they are written, follow one another in the text; so do subtasks, orderings and constraints
  pub record IsNetworkInOrder (n : RawNet) : Type 0 where
    pub ids_plain : EachIs IsPlainName (ids n.subs)
    pub ids_in_order : Rise (term_offsets (ids n.subs))
    pub subs_in_order : Rise (sub_offsets n.subs)
    pub each_sub : EachIs (λ (s : RawSub). IsAtomInOrder s.atom) n.subs
    pub pairs_in_order : Rise (pair_offsets n.pairs)
    pub each_pair : EachIs IsPairInOrder n.pairs
    pub constraints_in_order : Rise (con_offsets n.constraints)
    pub each_constraint : EachIs IsConInOrder n.constraints

  pub record IsMethodInOrder (m : RawMethod) : Type 0 where
    pub head : IsHeadInOrder m.head
    pub task : IsAtomInOrder m.task
    pub pre : OfEachList AreParameters m.pre
    pub pre_in_order : IsFormulaInOrder m.pre
    pub net : IsNetworkInOrder m.net

  pub record IsActionInOrder (a : RawAction) : Type 0 where
    pub head : IsHeadInOrder a.head
    pub pre : OfEachList AreParameters a.pre
    pub eff : OfEachListOfEffect AreParameters a.eff
    pub pre_in_order : IsFormulaInOrder a.pre
    pub eff_in_order : IsEffectInOrder a.eff

  pub record IsDomainInOrder (d : RawDomain) : Type 0 where
    -- each name that is declared or used is in the table: of types, predicates, tasks, methods, actions, ids, objects, variables
    pub words : IsDomainIn names d
    pub name : IsPlain (named names d.name)
    -- each part by itself: words that can be declared, lists of variables, ids
    pub types : EachIs IsTypedName d.types
    pub constants : EachIs IsTypedName d.constants
    pub predicates : EachIs IsPredicateInOrder d.predicates
    pub tasks : EachIs IsHeadInOrder d.tasks
    pub methods : EachIs IsMethodInOrder d.methods
    pub actions : EachIs IsActionInOrder d.actions
    -- a parent is read behind each type in front of it, so one offset may come twice, with the one word that stands there
    pub types_at_places : HaveOneWordAPlace (mentioned d.types)
    -- the names of declarations of one kind, in the order in which they were read
    pub types_in_order : Rise (param_offsets d.types)
    pub constants_in_order : Rise (param_offsets d.constants)
    pub predicates_in_order : Rise (head_offsets d.predicates)
    pub tasks_in_order : Rise (head_offsets d.tasks)
    pub actions_in_order : Rise (action_offsets d.actions)
    pub methods_in_order : Rise (method_offsets d.methods)
    -- no task and no action are declared at one place
    pub callables_apart : AreDifferent (head_offsets (callables d.tasks d.actions))

  pub record IsProblemInOrder (p : RawProblem) : Type 0 where
    -- each name that is declared or used is in the table
    pub words : IsProblemIn names p
    pub name : IsPlain (named names p.name)
    -- each part by itself
    pub objects : EachIs IsTypedName p.objects
    pub params : AreParameters p.params
    pub net : IsNetworkInOrder p.net
    pub facts : EachIs IsAtomInOrder p.init
    pub goal : OfEachList AreParameters p.goal
    pub goal_in_order : IsFormulaInOrder p.goal
    -- the names of objects and the facts, in the order in which they were read
    pub objects_in_order : Rise (param_offsets p.objects)
    pub facts_in_order : Rise (atom_offsets p.init)

-- in each table in which no word stands twice
abbrev pub DomainIsInOrder : Names → RawDomain → Type 0
DomainIsInOrder names d = AreDifferent names → IsDomainInOrder names d

-- its lists of variables, and the terms of its atoms
abbrev pub FormulaIsInOrder : Names → RawFormula → Type 0
FormulaIsInOrder names f = OfEachList (AreParameters names) f × IsFormulaInOrder f

abbrev pub EffectIsInOrder : Names → RawEffect → Type 0
EffectIsInOrder names e = OfEachListOfEffect (AreParameters names) e × IsEffectInOrder e
