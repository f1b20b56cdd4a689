-- What holds by each rule for new slots.
use Rattle.std.proofs.Common.{ℕ, ◌≡◌, ◌≤◌, List, arith}
use Rattle.htn_base.specs.Limits.{most_slots}
use Rattle.plan_model.specs.declared.options.Checks.{Checks}
use Rattle.plan_model.specs.declared.options.Slots.{Slots}
use Rattle.plan_model.specs.declared.options.Slots.TheVariants.{Any, First}
use Rattle.plan_model.specs.declared.options.Style.{Style}
use Rattle.plan_model.specs.declared.values.Compiled.{Compiled}
use Rattle.plan_model.specs.declared.values.Hddl.{Hddl}
use Rattle.plan_model.specs.declared.values.Pddl.{Pddl}
use Rattle.plan_model.specs.plan_meaning.Compilation.{IsCompiled}
use Rattle.plan_model.specs.plan_meaning.Laws.{AreOrdered}
use Rattle.plan_texts.specs.FirstSeen.{IsHddlOf}
use Rattle.plan_texts.specs.PrintableValue.{IsPrintable}
use Rattle.plan_texts.specs.PrintedTexts.{domain_text, problem_text}
use Rattle.plan_texts.specs.SoundValue.{IsSoundHddl}
use Rattle.slot_encoding.specs.FirstFree.{IsEncodedBy, HasWordsBy}
use Rattle.slot_encoding.specs.Printed.{IsPrintedBy}
use Rattle.slot_encoding.specs.encoded_texts.FullyEncoded.{IsFullyEncodedBy}
use Rattle.plan_proof.specs.Headline.{OnePlanForEach}
use Rattle.first_slots.specs.LowestSpelling.{SpellingBy}
use Rattle.first_slots.proofs.Headlines.{one_plan_for_each}
use Rattle.htn_cli.specs.Requests.{most_by}

pub few_by : (rule : Slots) → most_by rule ≤ most_slots
few_by Any = omega arith
few_by First = omega arith

-- what is printed is encoded over all its words, and what is encoded and can be printed is printed
module _ (rule : Slots) (h : Hddl) (mode : Checks) (c : Compiled) (b : ℕ) (style : Style) (p : Pddl) where
  encoded_of : (z : Slots) → IsPrintedBy z h mode c b style p → IsEncodedBy z c b style p
  encoded_of Any printed = printed.encoded
  encoded_of First printed = printed.encoded

  pub fully_of : IsPrintedBy rule h mode c b style p → HasWordsBy rule c b p.names → IsFullyEncodedBy rule c b style p
  fully_of printed words = record { encoded = encoded_of rule printed; words = words }

  of : (z : Slots) → IsSoundHddl h → IsCompiled h mode c → IsPrintable p → IsEncodedBy z c b style p → IsPrintedBy z h mode c b style p
  of Any sound compiled printable encoded = record { sound = sound; compiled = compiled; printable = printable; encoded = encoded }
  of First sound compiled printable encoded = record { sound = sound; compiled = compiled; printable = printable; encoded = encoded }

  pub printed_of : IsSoundHddl h → IsCompiled h mode c → IsPrintable p → IsEncodedBy rule c b style p → IsPrintedBy rule h mode c b style p
  printed_of = of rule

-- with the lowest free slots each schedule has one plan
module _ (domain problem : List ℕ) (h : Hddl) (mode : Checks) (c : Compiled) (b : ℕ) (style : Style) (p : Pddl) (spelled : IsHddlOf domain problem h) (ordered : AreOrdered h) where
  pub one_plan_by : (rule : Slots) → rule ≡ First → IsPrintedBy rule h mode c b style p → OnePlanForEach (SpellingBy rule) domain problem mode b (domain_text p) (problem_text p)
  one_plan_by Any e printed = absurd (cc)
  one_plan_by First e printed = one_plan_for_each domain problem h mode c b style p spelled ordered printed
