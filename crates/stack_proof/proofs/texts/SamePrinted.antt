-- What is printed with a stack for one value of two source texts is printed for each.
use Rattle.std.proofs.Common.{ℕ, List}
use Rattle.plan_model.specs.declared.options.Checks.{Checks}
use Rattle.plan_model.specs.declared.values.Compiled.{Compiled}
use Rattle.plan_model.specs.declared.values.Hddl.{Hddl}
use Rattle.plan_model.specs.declared.values.Pddl.{Pddl}
use Rattle.plan_model.specs.plan_meaning.Compilation.{IsCompiled}
use Rattle.plan_model.specs.plan_meaning.Laws.{AreOrdered}
use Rattle.plan_texts.specs.FirstSeen.{IsHddlOf}
use Rattle.plan_texts.specs.SoundValue.{IsSoundHddl}
use Rattle.plan_texts.specs.SpellsHddl.{hddl_words}
use Rattle.plan_proof.specs.Same.{AreSameButNames}
use Rattle.plan_proof.proofs.values.Headlines.{same_but_names, unions_apart, ordered_too, same_here, apart_here, sound_here, sound_there, plans_here}
use Rattle.plan_proof.proofs.values.SameSound.{sound_too}
use Rattle.plan_proof.proofs.values.TypeNumbers.{AreApart}
use Rattle.stack_encoding.specs.StackPrinted.{IsPrintedStack}
use Rattle.stack_encoding.specs.StackValue.{IsStackEncoded}
use Rattle.stack_proof.proofs.texts.SameStack.{stack_encoded_too}
use Rattle.stack_proof.proofs.texts.Lined.{total_there}

-- what is encoded for the one is encoded for the other
module _ (h h' : Hddl) (mode : Checks) (c c' : Compiled) (same : AreSameButNames h' h) (apart : AreApart (hddl_words h).unions) (sound : IsSoundHddl h) (compiled : IsCompiled h mode c) (compiled' : IsCompiled h' mode c') where
  pub stack_encoded_by : (b : ℕ) (p : Pddl) → IsStackEncoded c b p → IsStackEncoded c' b p
  stack_encoded_by = stack_encoded_too c' c (same_here h h' mode c c' same apart sound compiled compiled') (sound_there h h' mode c c' same apart sound compiled compiled') (sound_here h h' mode c c' same apart sound compiled compiled') (apart_here h h' mode c c' same apart sound compiled compiled')
      (plans_here h h' mode c c' same apart sound compiled compiled')

-- for two values of the same texts
module _ (domain problem : List ℕ) (h h' : Hddl) (mode : Checks) (c c' : Compiled) (b : ℕ) (p : Pddl) (spelled : IsHddlOf domain problem h) (printed : IsPrintedStack h mode c b p) (spelled' : IsHddlOf domain problem h') (compiled' : IsCompiled h' mode c') where
  abbrev same : AreSameButNames h' h
  same = same_but_names domain problem h' h spelled' spelled printed.sound

  abbrev apart : AreApart (hddl_words h).unions
  apart = unions_apart domain problem h' h spelled' spelled printed.sound

  pub stack_printed_too : IsPrintedStack h' mode c' b p
  stack_printed_too = record {
    sound = sound_too h' h same printed.sound;
    compiled = compiled';
    ordered = total_there h h' mode c c' same apart printed.sound printed.compiled compiled' printed.ordered;
    printable = printed.printable;
    encoded = stack_encoded_by h h' mode c c' same apart printed.sound printed.compiled compiled' b p printed.encoded;
  }

  pub ordered_here : AreOrdered h → AreOrdered h'
  ordered_here = ordered_too h' h same
