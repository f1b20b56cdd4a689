-- What an encoding gives, or is declined for, is one thing: three texts spell one hierarchical plan, which comes to one text or sentence,
-- and to the same over each value that two of them spell.
use Rattle.std.proofs.Common.{ℕ, ◌≡◌, ◌<◌, ◌≤◌, inl, inr, List, length, Option, option_map, refl, sym, ap, ◌∙◌, subst, arith}
use Rattle.htn_base.specs.Limits.{longest_output, most_lines}
use Rattle.plan_model.specs.declared.options.Slots.TheVariants.{Any}
use Rattle.plan_model.specs.declared.options.Style.TheVariants.{Adl}
use Rattle.plan_model.specs.declared.values.Compiled.{Compiled}
use Rattle.hplan_text.specs.declared.values.HPlan.{HPlan}
use Rattle.hplan_text.proofs.OneHPlan.{one-hplan}
use Rattle.hplan_text.proofs.SpelledSound.{read-sound}
use Rattle.plan_encoder.specs.Laws.{IsOf}
use Rattle.step_texts.specs.declared.text.StepText.{StepText}
use Rattle.step_texts.specs.declared.text.StepText.TheVariants.{Whole, TooLong, NoMatch, NotExecutable, GoalFalse, NoPlacement, NeedsBound, TooWide}
use Rattle.step_texts.specs.StepTexts.{slots_for, IsStepText}
use Rattle.encode_answers.specs.EncodeLaws.{AreEncodedAlike}
use Rattle.command_words.specs.declared.form.PrintedForm.{PrintedForm}
use Rattle.command_words.specs.declared.form.PrintedForm.TheVariants.{Slots, Stack}
use Rattle.command_words.specs.Words.{EncodeRequest, number_of}
use Rattle.htn_cli.specs.Answer.{Output, Answer, refuses, gives, told_alone}
use Rattle.htn_cli.specs.Encoding.{count_of, slots_of, IsFound, SpellHPlan, SpellFormLines, FindsUnordered, RefusesEncode, GivesSteps}
use Rattle.htn_cli.specs.Ending.{status_by, line_by}
use Rattle.htn_cli.specs.OneAnswer.{output_by, TellTheSame}
use Rattle.htn_cli.specs.PrintedForms.{IsOrderedFor, NamesUnordered}
use Rattle.htn_cli.specs.SpelledForms.{IsTextAs, IsStepTextAs}
use Rattle.htn_cli.specs.declared.refusal.Finding.{Finding}
use Rattle.htn_cli.specs.declared.refusal.Finding.TheVariants as finding
use Rattle.htn_cli.specs.declared.refusal.Limit.TheVariants as limit
use Rattle.htn_cli.specs.declared.refusal.Refusal.{Refusal}
use Rattle.htn_cli.specs.declared.refusal.Refusal.TheVariants as refused
use Rattle.htn_cli.proofs.ByForm.{ordered_too, unordered_not, one_unordered}
use Rattle.htn_cli.proofs.EncodedByForm.{step_text_is, slots_back, AreEncodedTheSame, EachIsEncodedOnceAs, ValuesAreEncodedAlikeAs}

-- what follows from three texts without a fault: what is given is not too long
abbrev pub EncodeComes : EncodeRequest → (domain problem hplan : List ℕ) → Answer → Type 0
EncodeComes request d p l (refuses refusal) = RefusesEncode request d p l refusal
EncodeComes request d p l (gives output) = GivesSteps request d p l output × (length output.told ≤ longest_output)

-- what is answered where a plan comes to this
abbrev pub answer_by : StepText → Answer
answer_by (Whole text) = gives (told_alone text)
answer_by (TooLong n) = refuses (refused.Limit (limit.Output n))
answer_by (NoMatch id) = refuses (refused.Finding (finding.NoMatch id))
answer_by (NotExecutable id) = refuses (refused.Finding (finding.NotExecutable id))
answer_by GoalFalse = refuses (refused.Finding finding.GoalFalse)
answer_by NoPlacement = refuses (refused.Finding finding.NoPlacement)
answer_by (NeedsBound width) = refuses (refused.Finding (finding.NeedsBound width))
answer_by (TooWide width) = refuses (refused.Limit (limit.Slots width))

pub same_answer : (one other : Answer) → one ≡ other → TellTheSame one other
same_answer one other e = record { status = ap status_by e; line = ap line_by e; output = ap output_by e }

-- what a plan comes to over one problem, over another that is encoded alike
module _ (form : PrintedForm) (c k : Compiled) (plan : HPlan) (given : Option ℕ) (same : AreEncodedTheSame form c k plan) where
  text_there : (text : List ℕ) → IsTextAs form c plan given text → IsTextAs form k plan given text
  text_there text (width, steps, is, e) = (width, steps, same.spelled (slots_for given width) width steps is, e)

  pub step_text_there : (most : ℕ) (t : StepText) → IsStepTextAs form c plan given most t → IsStepTextAs form k plan given most t
  step_text_there most (Whole text) (is, fits) = (text_there text is, fits)
  step_text_there most (TooLong n) (text, is, e, past) = (text, text_there text is, e, past)
  step_text_there most (NoMatch id) is = same.sentences.unmatched id is
  step_text_there most (NotExecutable id) is = same.sentences.not_executable id is
  step_text_there most GoalFalse is = same.sentences.misses is
  step_text_there most NoPlacement is = same.sentences.no_place is
  step_text_there most (NeedsBound width) (wide, needs) = (same.sentences.width width wide, needs)
  step_text_there most (TooWide width) (wide, none, many) = (same.sentences.width width wide, none, many)

-- with slots
pub slots_text_there : (c k : Compiled) (plan : HPlan) (given : Option ℕ) → AreEncodedAlike c k plan → (most : ℕ) (t : StepText) → IsStepText c plan given most t → IsStepText k plan given most t
slots_text_there c k plan given same most t is =
    slots_back k plan given most t (step_text_there Slots c k plan given (record { sentences = same; spelled = same.spelled }) most t (step_text_is c plan given most t is))

module _ (once : EachIsEncodedOnceAs) (alike : ValuesAreEncodedAlikeAs) (request : EncodeRequest) (d p l : List ℕ) where
  abbrev Meant : Type 0
  Meant = (c : Compiled) × (plan : HPlan) × SpellHPlan request d p l c plan

  abbrev given : Option ℕ
  given = slots_of request

  -- the form takes its problem
  abbrev IsFor : Meant → Type 0
  IsFor x = IsOrderedFor request.form x.0

  -- what a plan comes to over a value of the two texts
  abbrev Is : Compiled → HPlan → StepText → Type 0
  Is c plan = IsStepTextAs request.form c plan given longest_output

  is_of : (x : Meant) → IsOf x.2.problem_is.value request.checks x.0
  is_of x = let is = x.2.problem_is in record { sound = is.read.sound; ordered = is.read.ordered; compiled = is.compiled_is }

  module _ (x y : Meant) where
    plan_same : x.1 ≡ y.1
    plan_same = one-hplan l x.1 y.1 x.2.read.spelled y.2.read.spelled

    count_same : count_of x.1 ≡ count_of y.1
    count_same = ap (λ z. count_of z) plan_same

    encoded_alike : AreEncodedTheSame request.form x.0 y.0 x.1
    encoded_alike =
        let is = x.2.problem_is in let are = y.2.problem_is in
        alike request.form d p is.value are.value request.checks x.0 y.0 x.1 is.read.spelled are.read.spelled (is_of x) are.compiled_is

    one_step_text : IsFor y → (t u : StepText) → Is x.0 x.1 t → Is y.0 y.1 u → t ≡ u
    one_step_text ordered t u is are =
        once request.form y.2.problem_is.value request.checks y.0 (is_of y) ordered y.1 (read-sound l y.1 y.2.read) given longest_output t u
        (subst (λ z. Is y.0 z t) plan_same (step_text_there request.form x.0 y.0 x.1 given encoded_alike longest_output t is)) are

  -- what is made of any number of lines
  data Encodes (x : Meant) : Answer → Type 0 where
    many : (n : ℕ) → n ≡ count_of x.1 → most_lines < n → Encodes x (refuses (refused.Limit (limit.Lines n)))
    unordered : (word : List ℕ) → count_of x.1 ≤ most_lines → request.form ≡ Stack → NamesUnordered x.0 word
        → Encodes x (refuses (refused.Finding (finding.NotTotallyOrdered word)))
    few : (t : StepText) (a : Answer) → count_of x.1 ≤ most_lines → IsFor x → Is x.0 x.1 t → a ≡ answer_by t → Encodes x a

  few_or_many : (x y : Meant) (n : ℕ) → n ≡ count_of x.1 → most_lines < n → count_of y.1 ≤ most_lines → ⊥
  few_or_many x y n e past less = let same = count_same x y in omega (arith, e, past, less, same)

  -- no problem is both
  not_ordered : (x y : Meant) → IsFor x → (word : List ℕ) → request.form ≡ Stack → NamesUnordered y.0 word → ⊥
  not_ordered x y o word stack named =
      unordered_not y.0 word named
      (subst (λ z. IsOrderedFor z y.0) stack (ordered_too d p request.checks x.0 y.0 x.2.problem_is y.2.problem_is Any 1 Adl request.form o))

  one_encodes : (x y : Meant) (a b : Answer) → Encodes x a → Encodes y b → TellTheSame a b
  one_encodes x y a b (many n e past) (many m f over) =
      same_answer a b (ap (λ z. refuses (refused.Limit (limit.Lines z))) (e ∙ count_same x y ∙ sym f))
  one_encodes x y a b (many n e past) (unordered word less stack named) = absurd (few_or_many x y n e past less)
  one_encodes x y a b (many n e past) (few u c less o are g) = absurd (few_or_many x y n e past less)
  one_encodes x y a b (unordered word less stack named) (many n e past) = absurd (few_or_many y x n e past less)
  one_encodes x y a b (unordered word less stack named) (unordered more fewer stacked also) =
      same_answer a b (ap (λ z. refuses (refused.Finding (finding.NotTotallyOrdered z))) (one_unordered d p request.checks x.0 y.0 x.2.problem_is y.2.problem_is word more named also))
  one_encodes x y a b (unordered word less stack named) (few u q fewer o are g) = absurd (not_ordered y x o word stack named)
  one_encodes x y a b (few t c less o is f) (many n e past) = absurd (few_or_many y x n e past less)
  one_encodes x y a b (few t c less o is f) (unordered word fewer stack named) = absurd (not_ordered x y o word stack named)
  one_encodes x y a b (few t c less o is f) (few u q fewer k are g) = same_answer a b (f ∙ ap answer_by (one_step_text x y k t u is are) ∙ sym g)

  module _ (c : Compiled) (plan : HPlan) (s : SpellFormLines request d p l c plan) where
    comes_to : (t : StepText) → Is c plan t → (x : Meant) × Encodes x (answer_by t)
    comes_to t is = ((c, plan, s.spelled.spelled), few t (answer_by t) s.spelled.few s.ordered is refl)

    found : (f : Finding) → IsFound c plan given f → (x : Meant) × Encodes x (refuses (refused.Finding f))
    found (finding.NoMatch id) is = comes_to (NoMatch id) is
    found (finding.NotExecutable id) is = comes_to (NotExecutable id) is
    found finding.GoalFalse is = comes_to GoalFalse is
    found finding.NoPlacement is = comes_to NoPlacement is
    found (finding.NeedsBound width) is = comes_to (NeedsBound width) is
    found _ is = absurd is

    shown : (text : List ℕ) (output : Output) → IsTextAs request.form c plan given text → output ≡ told_alone text → length output.told ≤ longest_output
        → (x : Meant) × Encodes x (gives output)
    shown text output is e fits =
        let short = subst (λ (o : Output). length o.told ≤ longest_output) e fits in
        ((c, plan, s.spelled.spelled), few (Whole text) (gives output) s.spelled.few s.ordered (is, short) (ap gives e))

  finds_unordered : (f : Finding) → FindsUnordered request d p l f → (x : Meant) × Encodes x (refuses (refused.Finding f))
  finds_unordered (finding.NotTotallyOrdered word) (stack, (c, plan, s, named)) = ((c, plan, s.spelled), unordered word s.few stack named)
  finds_unordered _ x = absurd x

  declines : (refusal : Refusal) → RefusesEncode request d p l refusal → (x : Meant) × Encodes x (refuses refusal)
  declines (refused.Limit (limit.Lines n)) (c, plan, s, e, past) = ((c, plan, s), many n e past)
  declines (refused.Finding f) (inl x) = finds_unordered f x
  declines (refused.Finding f) (inr (c, plan, s, is)) = found c plan s f is
  declines (refused.Limit (limit.Slots n)) (none, (c, plan, s, wide, past)) =
      comes_to c plan s (TooWide n) (wide, ap (option_map number_of) none, past)
  declines (refused.Limit (limit.Output n)) (c, plan, text, s, is, e, past) = comes_to c plan s (TooLong n) (text, is, e, past)
  declines _ x = absurd x

  comes : (a : Answer) → EncodeComes request d p l a → (x : Meant) × Encodes x a
  comes (refuses refusal) is = declines refusal is
  comes (gives output) ((c, plan, text, s, is, e), fits) = shown c plan s text output is e fits

  pub one_encoded : (a b : Answer) → EncodeComes request d p l a → EncodeComes request d p l b → TellTheSame a b
  one_encoded a b is also = let x = comes a is in let y = comes b also in one_encodes x.0 y.0 a b x.1 y.1
