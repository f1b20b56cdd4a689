-- What is printed of a compiled problem, where neither text is too long, or one is.
use Rattle.std.proofs.Common.{ℕ, subst, sym, ◌<◌, ◌≤◌, ◌^◌, List, length, inl, inr, ap, ◌∙◌, arith}
use Rattle.htn_base.specs.Limits.{longest_output}
use Rattle.plan_model.specs.declared.values.Hddl.{Hddl}
use Rattle.plan_model.specs.declared.values.Compiled.{Compiled}
use Rattle.plan_model.specs.declared.values.Pddl.{Pddl}
use Rattle.plan_texts.specs.PrintedTexts.{domain_text, problem_text}
use Rattle.plan_texts.specs.SoundProblem.{IsSoundProblem}
use Rattle.plan_texts.proofs.SoundProblems.{few_unions}
use Rattle.plan_model.specs.plan_meaning.Compilation.{IsCompiled}
use Rattle.text_forms.specs.sheets.Sheets.{capped}
use Rattle.problem_texts.specs.declared.printing.Printed.TheVariants.{Whole, TooLong}
use Rattle.problem_texts.specs.declared.printing.Texts.{Texts as Made}
use Rattle.problem_texts.specs.Lengths.{IsFirstPast}
use Rattle.command_words.specs.declared.form.PrintedForm.{PrintedForm}
use Rattle.command_words.specs.declared.form.PrintedForm.TheVariants.{Slots, Stack}
use Rattle.htn_cli.specs.PrintedForms.{IsOrderedFor, IsEncodedAs, HasWordsAs}
use Rattle.htn_cli.specs.Texts.{Texts, texts_of, IsFirstTooLong, AreTranslated, AreTooLong}
use Rattle.htn_cli.specs.Printing.{ArePrintedAs, AreWhole, IsPrintedBy, IsPrintedWithin}
use Rattle.htn_cli.specs.declared.manner.Manner.{Manner}
use Rattle.htn_cli.proofs.ByForm.{has_value, same_texts, printed_as}

-- a length that is told as far as 64 bits go is past the limit exactly where the whole length is
pub short : (n : ℕ) → capped n ≤ longest_output → n ≤ longest_output
short n few = omega (arith, few)

long : (n : ℕ) → longest_output < capped n → longest_output < n
long n past = omega (arith, past)

-- the first text past the limit is the first that is too long
pub first_too_long : (domain problem : List ℕ) (n : ℕ) → IsFirstPast longest_output domain problem n → IsFirstTooLong domain problem n
first_too_long domain problem n (inl (past, is)) = inl (long (length domain) past, is)
first_too_long domain problem n (inr (few, past, is)) = inr (short (length domain) few, long (length problem) past, is)

module _ (compiled : Compiled) (manner : Manner) where
  -- the first text of each encoded value that is past the limit
  past_by : (n : ℕ) (form : PrintedForm) → IsPrintedBy form compiled manner (TooLong n) → (value : Pddl) → IsEncodedAs form manner.rule compiled manner.slots manner.style value
      → HasWordsAs form manner.rule compiled manner.slots value.names → IsFirstPast longest_output (domain_text value) (problem_text value) n
  past_by n Slots past value encoded words = past value encoded words
  past_by n Stack past value encoded words =
      let same = same_texts manner.rule compiled manner.slots manner.style Stack past.value value (record { encoded = past.is.encoded; words = past.is.words }) (record { encoded = encoded; words = words }) in
      subst (λ (z : Type 0). z) (λ i. IsFirstPast longest_output (same.0 i) (same.1 i) n) past.texts

  pub past_is_long : (n : ℕ) → IsPrintedWithin compiled manner (TooLong n) → AreTooLong compiled manner n
  past_is_long n past = record {
    encoded = has_value manner.rule compiled manner.slots manner.style manner.form;
    too_long = λ value encoded words. first_too_long (domain_text value) (problem_text value) n (past_by n manner.form past value encoded words);
  }

  whole_by : (texts : Made) (form : PrintedForm) → IsPrintedBy form compiled manner (Whole texts)
      → ArePrintedAs form manner.rule compiled manner.slots manner.style texts.domain texts.problem × (capped (length texts.domain) ≤ longest_output) × (capped (length texts.problem) ≤ longest_output)
  whole_by texts Slots (p, domain_fits, problem_fits) = (
    record { value = p.value; encoded = p.encoded; words = p.words; printable = p.printable; domain_is = p.domain_is; problem_is = p.problem_is },
    domain_fits,
    problem_fits,
  )
  whole_by texts Stack p = (
    record { value = p.value; encoded = p.is.encoded; words = p.is.words; printable = p.is.printable; domain_is = p.texts.0; problem_is = p.texts.1 },
    subst (λ z. capped (length z) ≤ longest_output) (sym p.texts.0) p.texts.2,
    subst (λ z. capped (length z) ≤ longest_output) (sym p.texts.1) p.texts.3,
  )

  pub whole_is_printed : (texts : Made) → IsPrintedWithin compiled manner (Whole texts) → AreWhole compiled manner (texts_of texts)
  whole_is_printed texts whole =
      let w = whole_by texts manner.form whole in record { printed = w.0; domain_fits = short (length texts.domain) w.1; problem_fits = short (length texts.problem) w.2 }

-- the texts of a sound problem
pub translated : (read : Hddl) (compiled : Compiled) (manner : Manner) (texts : Texts) → IsSoundProblem read → IsCompiled read manner.checks compiled → IsOrderedFor manner.form compiled → 1 ≤ manner.slots → AreWhole compiled manner texts
    → AreTranslated read compiled manner texts
translated read compiled manner texts sound is ordered some p =
    let plain = ap (λ (h : Hddl). h.top.pre) is.hddl ∙ sound.no_condition in
    let same = ap (λ (h : Hddl). length h.types.unions) is.hddl in
    let few : length compiled.hddl.types.unions < 2 ^ 64 = let l = few_unions read sound in omega (arith, same, l) in
    record {
      value = p.printed.value;
      printed =
          printed_as manner.rule compiled manner.slots manner.style read manner.checks p.printed.value sound.value is manner.form ordered
          (p.printed.printable read manner.checks sound.value is plain some few) p.printed.encoded;
      words = p.printed.words;
      domain_is = p.printed.domain_is;
      problem_is = p.printed.problem_is;
      domain_fits = p.domain_fits;
      problem_fits = p.problem_fits;
    }
