-- What is kept of a text that was read: how many tokens it has, and a mark of every eighth. It has no fault.
use Rattle.std.specs.Prelude.{◌≡◌, ℕ, ◌≤◌, List, length}
use Rattle.htn_base.specs.Limits.{longest_input}
use Rattle.text_forms.specs.Faults.{IsFaultless}
use Rattle.text_forms.specs.Tokens.{token_count}
use Rattle.text_forms.specs.declared.sexpr_text.marks.Marks.{Marks}
use Rattle.text_forms.specs.sexpr_text.Places.{AreMarks}

-- so many tokens are kept as the text has
abbrev pub CountsTokens : List ℕ → Marks → Type 0
CountsTokens text m = m.count ≡ token_count text

pub record IsReadFrom (text : List ℕ) (m : Marks) : Type 0 where
  pub short : length text ≤ longest_input
  pub count : m.count ≡ token_count text
  pub marks : AreMarks text m
  pub faultless : IsFaultless text
