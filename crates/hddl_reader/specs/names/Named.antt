-- Faults of names that are used: no declaration has the word (11, 13 to 16), or it has another number of parameters (17).
-- Source: this project's; tasks and actions share one space of names, and a name stands for its first declaration.
use Rattle.std.specs.Prelude.{ℕ, ◌≡◌, ◌≢◌, ◌≤◌, ◌⊎◌, true, false, List, length}
use Rattle.text_forms.specs.Words.{Word}
use Rattle.gd_reader.specs.declared.term.RawAtom.{RawAtom}
use Rattle.gd_reader.specs.declared.term.RawTerm.{RawTerm}
use Rattle.gd_reader.specs.declared.typed_lists.RawParam.{RawParam}
use Rattle.gd_reader.specs.Terms.{Names}
use Rattle.hddl_reader.specs.declared.sections.RawDomain.{RawDomain}
use Rattle.hddl_reader.specs.declared.sections.RawHead.{RawHead}
use Rattle.htn_base.specs.Lists.{One, Each, Has}
use Rattle.hddl_reader.specs.names.Words.{callables, term_word}
use Rattle.hddl_reader.specs.names.Types.{IsType}
use Rattle.hddl_reader.specs.names.Uses.{Scope, Use, declares, applies, refers, Kind, predicate, subtask, task}

-- the declarations among which a name is looked up
abbrev pub declared : RawDomain → Kind → List RawHead
declared d predicate = d.predicates
declared d subtask = callables d
declared d task = callables d

-- those that it may mean: a method's task is no action
abbrev pub meant : RawDomain → Kind → List RawHead
meant d predicate = d.predicates
meant d subtask = callables d
meant d task = d.tasks

module _ (names : Names) (d : RawDomain) where
  -- the declaration has the word, and none with the word stands earlier
  abbrev pub StandsFor : Kind → RawAtom → RawHead → Type 0
  StandsFor kind a h = (term_word names h.name ≡ term_word names a.head)
      × Each (λ (g : RawHead). term_word names g.name ≡ term_word names a.head → h.name.at ≤ g.name.at) (declared d kind)

  abbrev pub IsUnknown : Kind → RawAtom → Type 0
  IsUnknown kind a = One (StandsFor kind a) (meant d kind) → ⊥

  abbrev pub HasWrongArity : Kind → RawAtom → Type 0
  HasWrongArity kind a = One (λ h. StandsFor kind a h × (length h.params ≢ length a.args)) (meant d kind)

  -- of a text in which these declarations and uses stand, and which may name these objects
  module _ (Stands : Scope → Use → Type 0) (objects : List Word) where
    -- 11: a type's word that no type has
    abbrev pub UnknownType : ℕ → Type 0
    UnknownType at = (here : Scope) × (x : RawParam) × Stands here (declares x) × One (λ (t : RawTerm). (t.at ≡ at) × (IsType names d (term_word names t) → ⊥)) x.ty

    abbrev pub UnknownName : Kind → ℕ → Type 0
    UnknownName kind at = (here : Scope) × (a : RawAtom) × (a.head.at ≡ at) × Stands here (applies kind a) × IsUnknown kind a

    -- 13: a predicate's word that no predicate has
    abbrev pub UnknownPredicate : ℕ → Type 0
    UnknownPredicate at = UnknownName predicate at

    -- 14: the word of a subtask that is neither a task's nor an action's, or that of a method's task that is no task's
    abbrev pub UnknownTask : ℕ → Type 0
    UnknownTask at = UnknownName subtask at ⊎ UnknownName task at

    -- 15: an object's word that no object has which the text may name
    abbrev pub UnknownObject : ℕ → Type 0
    UnknownObject at = (here : Scope) × (t : RawTerm) × (t.at ≡ at) × (t.variable ≡ false) × Stands here (refers t) × (Has objects (term_word names t) → ⊥)

    -- 16: a variable's word that no variable in force has
    abbrev pub UnknownVariable : ℕ → Type 0
    UnknownVariable at = (here : Scope) × (t : RawTerm) × (t.at ≡ at) × (t.variable ≡ true) × Stands here (refers t) × (Has here (term_word names t) → ⊥)

    -- 17: the word of a head with more or fewer terms than its declaration has parameters
    abbrev pub WrongArity : ℕ → Type 0
    WrongArity at = (kind : Kind) × (here : Scope) × (a : RawAtom) × (a.head.at ≡ at) × Stands here (applies kind a) × HasWrongArity kind a
