-- What is encoded of a compiled value over a table that has all its words, and when two PDDL values say the same.
-- Source: this project's.
use Rattle.std.specs.Prelude.{ℕ, ◌≡◌, map}
use Rattle.plan_texts.specs.Declared.{named}
use Rattle.plan_texts.specs.SpellsPddl.{pddl_types, pddl_words}
use Rattle.plan_texts.specs.Said.{said}
use Rattle.plan_texts.specs.Alike.{object_said, predicate_said, action_said}
use Rattle.slot_encoding.specs.EncodedValue.{IsEncoded}
use Rattle.slot_encoding.specs.EncodedWords.{HasEncodedWords}
use Rattle.slot_encoding.specs.FirstFree.{IsEncodedBy, HasWordsBy}
use Rattle.plan_model.specs.declared.options.Slots.{Slots}
use Rattle.plan_model.specs.declared.options.Style.{Style}
use Rattle.plan_model.specs.declared.values.Compiled.{Compiled}
use Rattle.plan_model.specs.declared.values.Pddl.{Pddl}

-- Two PDDL values that say the same in one order: all is equal once each number of a name or a type is replaced by its words.
pub record SayTheSame (p q : Pddl) : Type 0 where
  pub domains : named p.names p.domain ≡ named q.names q.domain
  pub problems : named p.names p.problem ≡ named q.names q.problem
  pub types : pddl_types p ≡ pddl_types q
  pub parents : p.types.parents ≡ q.types.parents
  pub objects : map (object_said (pddl_words p)) p.objects ≡ map (object_said (pddl_words q)) q.objects
  pub predicates : map (predicate_said (pddl_words p)) p.predicates ≡ map (predicate_said (pddl_words q)) q.predicates
  pub actions : map (action_said (pddl_words p)) p.actions ≡ map (action_said (pddl_words q)) q.actions
  pub init : p.init ≡ q.init
  pub goal : said (pddl_words p) p.goal ≡ said (pddl_words q) q.goal

-- what is encoded of the compiled value over a table with all its words
pub record IsFullyEncoded (c : Compiled) (b : ℕ) (style : Style) (p : Pddl) : Type 0 where
  pub encoded : IsEncoded c b style p
  pub words : HasEncodedWords c b p.names

-- the same by which free slots a method takes
pub record IsFullyEncodedBy (rule : Slots) (c : Compiled) (b : ℕ) (style : Style) (p : Pddl) : Type 0 where
  pub encoded : IsEncodedBy rule c b style p
  pub words : HasWordsBy rule c b p.names
