-- How long the two printed texts of a compiled problem are, and what is printed of them within a limit.
-- Source: this project's.
use Rattle.std.specs.Prelude.{ℕ, ◌≡◌, ◌<◌, ◌≤◌, ◌⊎◌, List, length}
use Rattle.text_forms.specs.sheets.Sheets.{capped}
use Rattle.plan_model.specs.declared.options.Slots.{Slots}
use Rattle.plan_model.specs.declared.options.Style.{Style}
use Rattle.plan_model.specs.declared.values.Compiled.{Compiled}
use Rattle.plan_model.specs.declared.values.Pddl.{Pddl}
use Rattle.plan_texts.specs.PrintedTexts.{domain_text, problem_text}
use Rattle.slot_encoding.specs.FirstFree.{IsEncodedBy, HasWordsBy}
use Rattle.problem_texts.specs.ArePrinted.{ArePrinted}
use Rattle.problem_texts.specs.declared.printing.Printed.{Printed}
use Rattle.problem_texts.specs.declared.printing.Printed.TheVariants.{Whole, TooLong}
use Rattle.problem_texts.specs.declared.printing.Sizes.{Sizes}

-- the first of two texts that is longer than the limit; n is its length, as far as 64 bits go
abbrev pub IsFirstPast : (limit : ℕ) (domain problem : List ℕ) (n : ℕ) → Type 0
IsFirstPast limit domain problem n =
    ((limit < capped (length domain)) × (n ≡ capped (length domain)))
    ⊎ ((capped (length domain) ≤ limit) × (limit < capped (length problem)) × (n ≡ capped (length problem)))

-- rule: which free slots a method takes
module _ (rule : Slots) (c : Compiled) (b : ℕ) (style : Style) where
  -- for each encoded value, over a table that has all its words
  abbrev pub AreSizesOf : Sizes → Type 0
  AreSizesOf s = (p : Pddl) → IsEncodedBy rule c b style p → HasWordsBy rule c b p.names → (s.domain ≡ capped (length (domain_text p))) × (s.problem ≡ capped (length (problem_text p)))

  -- the two texts, neither longer than the limit; or the length of the first that is
  abbrev pub ArePrintedWithin : (limit : ℕ) → Printed → Type 0
  ArePrintedWithin limit (Whole texts) = ArePrinted rule c b style texts.domain texts.problem × (capped (length texts.domain) ≤ limit) × (capped (length texts.problem) ≤ limit)
  ArePrintedWithin limit (TooLong n) = (p : Pddl) → IsEncodedBy rule c b style p → HasWordsBy rule c b p.names → IsFirstPast limit (domain_text p) (problem_text p) n
