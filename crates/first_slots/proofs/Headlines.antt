-- The headline by the rule for slots, for every value of two source texts.
use Rattle.std.proofs.Common.{ℕ, List}
use Rattle.plan_model.specs.declared.options.Checks.{Checks}
use Rattle.plan_model.specs.declared.options.Slots.{Slots}
use Rattle.plan_model.specs.declared.options.Slots.TheVariants.{Any, First}
use Rattle.plan_model.specs.declared.options.Style.{Style}
use Rattle.plan_model.specs.declared.values.Compiled.{Compiled}
use Rattle.plan_model.specs.declared.values.Hddl.{Hddl}
use Rattle.plan_model.specs.declared.values.Pddl.{Pddl}
use Rattle.plan_model.specs.plan_meaning.Compilation.{IsCompiled}
use Rattle.plan_model.specs.plan_meaning.Laws.{AreOrdered}
use Rattle.plan_texts.specs.FirstSeen.{IsHddlOf}
use Rattle.plan_texts.specs.PrintedTexts.{domain_text, problem_text}
use Rattle.plan_texts.specs.SoundValue.{IsSoundHddl}
use Rattle.plan_texts.specs.SpellsHddl.{hddl_words}
use Rattle.slot_encoding.specs.FirstFree.{IsFirstEncoded, IsEncodedBy}
use Rattle.slot_encoding.specs.Printed.{IsPrintedFirst, IsPrintedBy}
use Rattle.plan_proof.specs.Headline.{HeadlineBy, HeadlineAtBoundBy, OnePlanForEach}
use Rattle.plan_proof.specs.Same.{AreSameButNames}
use Rattle.plan_proof.proofs.machine.Bounds.{loses_nothing}
use Rattle.plan_proof.proofs.values.Headlines.{same_but_names, unions_apart, ordered_too, same_here, apart_here, sound_here, sound_there, plans_here, encoded_by, printed_too, headline_of}
use Rattle.plan_proof.proofs.values.SameSound.{sound_too}
use Rattle.plan_proof.proofs.values.TypeNumbers.{AreApart}
use Rattle.first_slots.specs.LowestSpelling.{IsLowestSpelling, SpellingBy}
use Rattle.first_slots.proofs.Plans.{one_spelling, one_plan, first_texts}
use Rattle.first_slots.proofs.Same.{first_encoded_too}

-- what is encoded for the one is encoded for the other
module _ (h h' : Hddl) (mode : Checks) (c c' : Compiled) (same : AreSameButNames h' h) (apart : AreApart (hddl_words h).unions) (sound : IsSoundHddl h) (compiled : IsCompiled h mode c) (compiled' : IsCompiled h' mode c') (b : ℕ) (style : Style) (p : Pddl) where
  first_by : IsFirstEncoded c b style p → IsFirstEncoded c' b style p
  first_by = first_encoded_too c' c (same_here h h' mode c c' same apart sound compiled compiled') (sound_there h h' mode c c' same apart sound compiled compiled') (sound_here h h' mode c c' same apart sound compiled compiled') (apart_here h h' mode c c' same apart sound compiled compiled')
      (plans_here h h' mode c c' same apart sound compiled compiled') b style p

  pub encoded_by-rule : (rule : Slots) → IsEncodedBy rule c b style p → IsEncodedBy rule c' b style p
  encoded_by-rule Any e = encoded_by h h' mode c c' same apart sound compiled compiled' b style p e
  encoded_by-rule First e = first_by e

-- for two values of the same texts
module _ (domain problem : List ℕ) (h h' : Hddl) (mode : Checks) (c c' : Compiled) (b : ℕ) (style : Style) (p : Pddl) (spelled : IsHddlOf domain problem h) (spelled' : IsHddlOf domain problem h') (compiled' : IsCompiled h' mode c') where
  first_too : IsPrintedFirst h mode c b style p → IsPrintedFirst h' mode c' b style p
  first_too printed =
      let same = same_but_names domain problem h' h spelled' spelled printed.sound in
      let apart = unions_apart domain problem h' h spelled' spelled printed.sound in record {
        sound = sound_too h' h same printed.sound;
        compiled = compiled';
        printable = printed.printable;
        encoded = first_by h h' mode c c' same apart printed.sound printed.compiled compiled' b style p printed.encoded;
      }

  pub printed_by-rule : (rule : Slots) → IsPrintedBy rule h mode c b style p → IsPrintedBy rule h' mode c' b style p
  printed_by-rule Any printed = printed_too domain problem h h' mode c c' b style p spelled spelled' printed compiled'
  printed_by-rule First printed = first_too printed

  pub ordered_by : IsSoundHddl h → AreOrdered h → AreOrdered h'
  ordered_by sound = ordered_too h' h (same_but_names domain problem h' h spelled' spelled sound)

pub sound_of : (rule : Slots) (h : Hddl) (mode : Checks) (c : Compiled) (b : ℕ) (style : Style) (p : Pddl) → IsPrintedBy rule h mode c b style p → IsSoundHddl h
sound_of Any h mode c b style p printed = printed.sound
sound_of First h mode c b style p printed = printed.sound

module _ (domain problem : List ℕ) (h : Hddl) (mode : Checks) (c : Compiled) (b : ℕ) (style : Style) (p : Pddl) (spelled : IsHddlOf domain problem h) (ordered : AreOrdered h) where
  first_headline : IsPrintedFirst h mode c b style p → HeadlineBy IsLowestSpelling domain problem mode b (domain_text p) (problem_text p)
  first_headline printed h' c' spelled' compiled' =
      first_texts h' mode c' b style p (ordered_by domain problem h h' mode c c' b style p spelled spelled' compiled' printed.sound ordered) (first_too domain problem h h' mode c c' b style p spelled spelled' compiled' printed)

  pub headline_by-rule : (rule : Slots) → IsPrintedBy rule h mode c b style p → HeadlineBy (SpellingBy rule) domain problem mode b (domain_text p) (problem_text p)
  headline_by-rule Any printed = headline_of domain problem h mode c b style p spelled printed ordered
  headline_by-rule First printed = first_headline printed

  pub at_bound_by-rule : (rule : Slots) → IsPrintedBy rule h mode c b style p → HeadlineAtBoundBy (SpellingBy rule) domain problem mode b (domain_text p) (problem_text p)
  at_bound_by-rule rule printed h' c' n spelled' compiled' tail bound enough =
      loses_nothing h' mode c' compiled' n bound (SpellingBy rule) b (domain_text p) (problem_text p) enough (headline_by-rule rule printed h' c' spelled' compiled')

  pub one_plan_for_each : IsPrintedFirst h mode c b style p → OnePlanForEach IsLowestSpelling domain problem mode b (domain_text p) (problem_text p)
  one_plan_for_each printed h' c' spelled' compiled' =
      let ordered' = ordered_by domain problem h h' mode c c' b style p spelled spelled' compiled' printed.sound ordered in
      one_plan IsLowestSpelling c' b (domain_text p) (problem_text p) (first_headline printed h' c' spelled' compiled') (one_spelling h' mode c' ordered' compiled' b)
