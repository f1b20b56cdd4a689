-- That the printed texts are fixed: one compiled value of a problem, one pair of printed texts of a pair of source texts.
-- Source: this project's.
use Rattle.std.specs.Prelude.{ℕ, ◌≡◌, List}
use Rattle.plan_texts.specs.FirstSeen.{IsHddlOf}
use Rattle.plan_texts.specs.SoundValue.{IsSoundHddl}
use Rattle.plan_texts.specs.PrintedTexts.{domain_text, problem_text}
use Rattle.plan_model.specs.plan_meaning.Compilation.{IsCompiled}
use Rattle.slot_encoding.specs.encoded_texts.FullyEncoded.{IsFullyEncodedBy}
use Rattle.plan_model.specs.declared.options.Checks.{Checks}
use Rattle.plan_model.specs.declared.options.Slots.{Slots}
use Rattle.plan_model.specs.declared.options.Slots.TheVariants.{Any}
use Rattle.plan_model.specs.declared.options.Style.{Style}
use Rattle.plan_model.specs.declared.values.Hddl.{Hddl}
use Rattle.plan_model.specs.declared.values.Compiled.{Compiled}
use Rattle.plan_model.specs.declared.values.Pddl.{Pddl}

-- one compiled value in this mode, and no other
abbrev pub HasOneCompiled : Hddl → Checks → Type 0
HasOneCompiled h mode = (c : Compiled) × IsCompiled h mode c × ((d : Compiled) → IsCompiled h mode d → d ≡ c)

-- The two printed texts of two source texts: of some sound value that they spell, with preconditions checked in this mode, b slots,
-- of which a method takes those by this rule, and this style.
pub record AreTextsBy (rule : Slots) (domain problem : List ℕ) (mode : Checks) (b : ℕ) (style : Style) (printed_domain printed_problem : List ℕ) : Type 0 where
  pub read : Hddl
  pub spelled : IsHddlOf domain problem read
  pub sound : IsSoundHddl read
  pub compiled : Compiled
  pub is_compiled : IsCompiled read mode compiled
  pub value : Pddl
  pub is_encoded : IsFullyEncodedBy rule compiled b style value
  pub domain_is : printed_domain ≡ domain_text value
  pub problem_is : printed_problem ≡ problem_text value

module _ (rule : Slots) (domain problem : List ℕ) (mode : Checks) (b : ℕ) (style : Style) where
  -- some pair of texts is theirs
  abbrev pub HaveTextsBy : Type 0
  HaveTextsBy = (od op : List ℕ) × AreTextsBy rule domain problem mode b style od op

  -- one pair at most is theirs
  abbrev pub HaveOnePairOfTextsBy : Type 0
  HaveOnePairOfTextsBy = (od op od' op' : List ℕ) → AreTextsBy rule domain problem mode b style od op → AreTextsBy rule domain problem mode b style od' op' → (od ≡ od') × (op ≡ op')

  -- those that are printed for a value
  abbrev pub PrintedAreTextsBy : Pddl → Type 0
  PrintedAreTextsBy p = AreTextsBy rule domain problem mode b style (domain_text p) (problem_text p)

-- with any free slots
abbrev pub AreTextsFor : (domain problem : List ℕ) → Checks → ℕ → Style → (printed_domain printed_problem : List ℕ) → Type 0
AreTextsFor = AreTextsBy Any

abbrev pub HaveTexts : (domain problem : List ℕ) → Checks → ℕ → Style → Type 0
HaveTexts = HaveTextsBy Any

abbrev pub HaveOnePairOfTexts : (domain problem : List ℕ) → Checks → ℕ → Style → Type 0
HaveOnePairOfTexts = HaveOnePairOfTextsBy Any

abbrev pub PrintedAreTextsFor : (domain problem : List ℕ) → Checks → ℕ → Style → Pddl → Type 0
PrintedAreTextsFor = PrintedAreTextsBy Any
