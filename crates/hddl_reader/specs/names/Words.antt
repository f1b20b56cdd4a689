-- Words at places: the declarations of a text.
-- Source: this project's; offsets are in bytes from 0.
use Rattle.std.specs.Prelude.{ℕ, ◌≡◌, ◌<◌, ◌⊎◌, List, ◌++◌, map}
use Rattle.htn_base.specs.declared.name.Name.{Name}
use Rattle.text_forms.specs.Words.{Word, word_at}
use Rattle.gd_reader.specs.declared.term.RawTerm.{RawTerm}
use Rattle.gd_reader.specs.declared.typed_lists.RawParam.{RawParam}
use Rattle.gd_reader.specs.Terms.{Names}
use Rattle.hddl_reader.specs.declared.sections.RawHead.{RawHead}
use Rattle.hddl_reader.specs.declared.sections.RawDomain.{RawDomain}
use Rattle.hddl_reader.specs.declared.sections.RawAction.{RawAction}
use Rattle.htn_base.specs.Lists.{One, Has}

-- a word, and the offset at which it stands
pub record WordAt : Type 0 where
  pub word : Word
  pub at : ℕ

module _ (names : Names) where
  abbrev pub named : Name → Word
  named n = word_at names n.number

  abbrev pub term_word : RawTerm → Word
  term_word t = named t.name

  abbrev pub param_word : RawParam → Word
  param_word x = named x.name

  abbrev pub term_at : RawTerm → WordAt
  term_at t = record { word = term_word t; at = t.at }

  abbrev pub param_at : RawParam → WordAt
  param_at x = record { word = param_word x; at = x.at }

  abbrev pub head_at : RawHead → WordAt
  head_at h = term_at h.name

-- tasks and actions share one space of names
abbrev pub callables : RawDomain → List RawHead
callables d = d.tasks ++ map (λ (a : RawAction). a.head) d.actions

abbrev pub IsSameEarlier : WordAt → WordAt → Type 0
IsSameEarlier x y = (y.word ≡ x.word) × (y.at < x.at)

-- At this place a name is declared for the second time: earlier in the text, or among the names of an earlier text.
abbrev pub IsSecond : List Word → List WordAt → ℕ → Type 0
IsSecond earlier xs at = One (λ x. (x.at ≡ at) × (Has earlier x.word ⊎ One (IsSameEarlier x) xs)) xs
