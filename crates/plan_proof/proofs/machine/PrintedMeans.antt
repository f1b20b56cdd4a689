-- The pieces of a printed problem mean what they should, and its texts are faithful where its value is.
use Rattle.std.proofs.Common.{ℕ, ◌≤◌}
use Rattle.plan_model.specs.declared.options.Style.{Style}
use Rattle.plan_model.specs.declared.options.Checks.{Checks}
use Rattle.plan_model.specs.declared.values.Hddl.{Hddl}
use Rattle.plan_model.specs.declared.values.Compiled.{Compiled}
use Rattle.plan_model.specs.declared.values.Pddl.{Pddl}
use Rattle.plan_model.proofs.task_networks.ScheduleLaws.{prepared_is_lawful}
use Rattle.plan_texts.specs.PrintableValue.{IsPrintable}
use Rattle.plan_texts.specs.PrintedTexts.{domain_text, problem_text}
use Rattle.plan_model.specs.plan_meaning.ClassicalPlan as Printed
use Rattle.plan_model.specs.plan_meaning.Network.{network}
use Rattle.plan_model.specs.plan_meaning.Laws.{AreOrdered}
use Rattle.slot_encoding.specs.EncodedNames.{order_numbers}
use Rattle.plan_model.proofs.plan_meaning.CompiledNetworks.{prepared}
use Rattle.plan_proof.specs.Headline.{SpellingForm, IsFaithfulBy}
use Rattle.plan_proof.proofs.texts.PrintedPlans.{printed-executables, printed-plans}
use Rattle.slot_encoding.specs.Printed.{IsPrinted}
use Rattle.plan_proof.specs.Faithful.{IsFaithfulValue, IsFaithfulValueBy}
use Rattle.plan_proof.proofs.machine.Facts.{PiecesMean}
use Rattle.plan_proof.proofs.machine.Fits.{fits}
use Rattle.slot_encoding.proofs.places.WellWorded.{IsWellWorded, printed_well}
use Rattle.slot_encoding.proofs.places.ObjectTypes.{types_agree}
use Rattle.order_encoder.proofs.OrderParts.{order_meaning}
use Rattle.plan_proof.proofs.machine.SourceMeanings.{source_agrees}
use Rattle.slot_encoding.proofs.places.Predicates.{predicates_differ}
use Rattle.slot_encoding.proofs.places.Guards.{guards_agree}
use Rattle.plan_proof.proofs.machine.GuardAtoms.{guard_atoms_agree}
use Rattle.plan_proof.proofs.machine.FirstSlot.{some_slot}
use Rattle.plan_proof.proofs.machine.StepWords.{steps_are_acts}
use Rattle.plan_proof.proofs.machine.Words.{faithful_value}

-- of an encoded value whose objects and actions are told by their words
module _ (h : Hddl) (mode : Checks) (c : Compiled) (b : ℕ) (style : Style) (p : Pddl) (ordered : AreOrdered h) (is : IsWellWorded h mode c b style p) where
  pub worded_means : PiecesMean c b style p
  worded_means = record {
    lawful = prepared_is_lawful (network c) (prepared h mode c ordered is.compiled);
    encoded = is.encoded;
    fits = fits h mode c is.sound is.compiled;
    differ = predicates_differ c;
    order = λ S values. order_meaning (order_numbers c p.names b) b (Printed.InTypeOf p) S values (types_agree h mode c b style p is).slots style;
    source = source_agrees h mode c b style p is;
    guards_declare = guards_agree h mode c b style p is;
    guard_atoms = guard_atoms_agree h mode c b style p is;
  }

  pub worded_faithful : 1 ≤ b → IsFaithfulValue c b p
  worded_faithful = faithful_value c b style p worded_means (steps_are_acts h mode c b style p is)

-- and of a printed one
module _ (h : Hddl) (mode : Checks) (c : Compiled) (b : ℕ) (style : Style) (p : Pddl) (ordered : AreOrdered h) (is : IsPrinted h mode c b style p) where
  pub pieces_mean : PiecesMean c b style p
  pieces_mean = worded_means h mode c b style p ordered (printed_well h mode c b style p is)

  pub printed_faithful : IsFaithfulValue c b p
  printed_faithful = worded_faithful h mode c b style p ordered (printed_well h mode c b style p is) (some_slot h mode c b style p is)

-- by any form of spelling
pub faithful_texts : (Spelling : SpellingForm) (c : Compiled) (b : ℕ) (p : Pddl) → IsPrintable p → IsFaithfulValueBy Spelling c b p → IsFaithfulBy Spelling c b (domain_text p) (problem_text p)
faithful_texts Spelling c b p printable f = record {
  executable = λ steps. (let t = printed-executables p printable steps in let v = f.executable steps in (λ k. v.0 (t.0 k), λ k. t.1 (v.1 k)));
  plans = λ steps. (let t = printed-plans p printable steps in let v = f.plans steps in (λ k. v.0 (t.0 k), λ k. t.1 (v.1 k)));
  only_one = f.only_one;
  within = f.within;
  spelled = f.spelled;
}
