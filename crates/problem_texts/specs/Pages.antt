-- The two pages of an encoding, what is written out in them in each style, and what is printed of them within a limit.
-- Source: this project's.
use Rattle.std.specs.Prelude.{ℕ, ◌≡◌, ◌<◌, ◌≤◌, Option, None, Some, IfSome, List, ◌++◌, length}
use Rattle.text_forms.specs.sheets.Sheets.{capped}
use Rattle.text_forms.specs.declared.sheets.sheet.Ended.{Ended}
use Rattle.text_forms.specs.declared.sheets.sheet.Ended.TheVariants.{Whole, TooLong}
use Rattle.plan_model.specs.declared.options.Style.{Style}
use Rattle.plan_model.specs.declared.options.Style.TheVariants.{Adl, Flat}
use Rattle.plan_model.specs.declared.schemas.ActionSchema.{ActionSchema}
use Rattle.plan_model.specs.declared.values.Compiled.{Compiled}
use Rattle.plan_model.specs.declared.values.Pddl.{Pddl}
use Rattle.pddl_printer.specs.declared.object_range.Range.{Range}
use Rattle.pddl_printer.specs.InForm.{value_in}
use Rattle.pddl_printer.specs.Measured.{IsMeasured, range_of}
use Rattle.pddl_printer.specs.Texts.{actions_text}
use Rattle.slot_encoder.specs.declared.encoding.Encoding.{Encoding}
use Rattle.slot_encoder.specs.Encodings.{IsEncoding, all_actions, lower_in, value_by}
use Rattle.plan_texts.specs.PrintedTexts.{domain_text, problem_text}
use Rattle.problem_texts.specs.Slots.{slots_of}
use Rattle.problem_texts.specs.Lengths.{IsFirstPast}
use Rattle.problem_texts.specs.declared.printing.Sizes.{Sizes}
use Rattle.problem_texts.specs.declared.printing.Printed.{Printed}
use Rattle.problem_texts.specs.declared.printing.Printed.TheVariants as P
use Rattle.problem_texts.specs.declared.pages.Pages.{Pages}

-- the objects for which instances are written out in this style, if there are any
abbrev pub range_in : Compiled → ℕ → Style → Option Range
range_in c slots Adl = None
range_in c slots Flat = Some (slots_of c slots)

-- the encoded value, with all its actions and all that is true at the start
abbrev pub encoded : Compiled → Encoding → Pddl
encoded c e = value_by e.rule c e

-- the same in this style
abbrev pub encoded_in : Compiled → Encoding → Style → Pddl
encoded_in c e style = value_in (range_in c e.slots style) (encoded c e)

-- the value whose texts the pages are
abbrev pub value_of : Pages → Pddl
value_of pages = value_in (range_of pages.written) (encoded pages.compiled.now pages.encoding.now)

-- the actions, and the lines of some of them
abbrev pub actions : Pages → List ActionSchema
actions pages = all_actions pages.compiled.now pages.encoding.now

abbrev pub actions_in : Pages → List ActionSchema → List ℕ
actions_in pages actions = actions_text pages.encoding.now.head (range_of pages.written) actions

pub record ArePages (pages : Pages) : Type 0 where
  pub encoding : IsEncoding pages.compiled.now pages.encoding.now
  pub measured : IfSome pages.written (IsMeasured pages.encoding.now.head)
  pub lower : pages.lower ≡ lower_in pages.compiled.now pages.encoding.now

-- all bytes stand behind the old text, and are no more than the limit; or they are more, and n is their number, as far as 64 bits go
abbrev pub IsAppended : (bytes : List ℕ) (limit : ℕ) (old new : List ℕ) → Ended → Type 0
IsAppended bytes limit old new Whole = (new ≡ old ++ bytes) × (capped (length bytes) ≤ limit)
IsAppended bytes limit old new (TooLong n) = (limit < capped (length bytes)) × (n ≡ capped (length bytes))

-- both texts, neither longer than the limit; or the length of the first that is
abbrev pub AreTextsWithin : Pddl → (limit : ℕ) → Printed → Type 0
AreTextsWithin p limit (P.Whole texts) =
    (texts.domain ≡ domain_text p) × (texts.problem ≡ problem_text p) × (capped (length (domain_text p)) ≤ limit) × (capped (length (problem_text p)) ≤ limit)
AreTextsWithin p limit (P.TooLong n) = IsFirstPast limit (domain_text p) (problem_text p) n

abbrev pub AreLengthsOf : Pddl → Sizes → Type 0
AreLengthsOf p s = (s.domain ≡ capped (length (domain_text p))) × (s.problem ≡ capped (length (problem_text p)))
