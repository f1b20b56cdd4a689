-- The head of an encoding with its actions is a value of a stack.
use Rattle.std.proofs.Common.{ℕ, ◌≡◌, Result, IfOk, subst}
use Rattle.std.proofs.lemmas.Result.{IfOk-weaker}
use Rattle.plan_model.specs.declared.values.Compiled.{Compiled}
use Rattle.stack_encoding.specs.StackValue.{IsStackEncoded}
use Rattle.stack_encoding.specs.StackWords.{HasStackWords}
use Rattle.stack_encoding.proofs.words.StackIsPrintable.{stack_printable}
use Rattle.problem_texts.specs.Pages.{AreTextsWithin, AreLengthsOf}
use Rattle.problem_texts.specs.declared.printing.Printed.{Printed}
use Rattle.problem_texts.specs.declared.printing.Sizes.{Sizes}
use Rattle.stack_encoder.specs.Heads.{IsStackEncoding, value_of}
use Rattle.stack_encoder.specs.StackTexts.{IsStackOf, AreStackTextsWithin, AreStackSizes}
use Rattle.stack_encoder.specs.declared.encoding.StackEncoding.{StackEncoding}

module _ (c : Compiled) (e : StackEncoding) (b : ℕ) (made : IsStackEncoding c e) (cells : e.cells ≡ b) where
  encoded : IsStackEncoded c b (value_of c e)
  encoded = subst (λ n. IsStackEncoded c n (value_of c e)) cells made.encoded

  words : HasStackWords c b e.head.names
  words = subst (λ n. HasStackWords c n e.head.names) cells made.words

  is-stack : IsStackOf c b (value_of c e)
  is-stack = record {
    encoded = encoded;
    words = words;
    short = made.short;
    printable = λ h mode sound compiled top some unions. stack_printable h mode c b (value_of c e) sound compiled encoded words (record { top = top; some_slot = some; short = made.short; unions = unions });
  }

  pub if-printed : {E : Type 0} (limit : ℕ) (r : Result Printed E) → IfOk r (AreTextsWithin (value_of c e) limit) → IfOk r (AreStackTextsWithin c b limit)
  if-printed limit r are = IfOk-weaker r (AreTextsWithin (value_of c e) limit) (AreStackTextsWithin c b limit) (λ printed t. record { value = value_of c e; is = is-stack; texts = t }) are

  pub are-sizes : (s : Sizes) → AreLengthsOf (value_of c e) s → AreStackSizes c b s
  are-sizes s are = record { value = value_of c e; is = is-stack; lengths = are }
