-- What a decoding gives, or is declined for, is one thing: three texts spell one list of steps, which shows the same plan over each value
-- that two of them spell, or fails at the same step.
use Rattle.std.proofs.Common.{ℕ, ◌≡◌, ◌<◌, ◌≤◌, ◌++◌, List, length, Some, codes, decimal, refl, sym, ap, ◌∙◌, subst, arith}
use Rattle.htn_base.specs.Limits.{longest_output, most_slots, most_steps}
use Rattle.text_forms.specs.sheets.Sheets.{capped}
use Rattle.plan_model.specs.declared.options.Slots.TheVariants.{Any}
use Rattle.plan_model.specs.declared.options.Style.TheVariants.{Adl}
use Rattle.plan_model.specs.declared.steps.GroundAction.{GroundAction}
use Rattle.plan_model.specs.declared.values.Compiled.{Compiled}
use Rattle.plan_texts.proofs.PlanSteps.{one-plan}
use Rattle.decoding.specs.declared.causes.Why.{Why}
use Rattle.hplan_text.specs.HPlanText.{hplan_text}
use Rattle.decode_answers.specs.DecodeLaws.{IsDecodable}
use Rattle.ground_answers.specs.GroundLaws.{ValuesHaveOneGroundBound}
use Rattle.command_words.specs.declared.form.PrintedForm.TheVariants.{Stack}
use Rattle.command_words.specs.Words.{DecodeRequest}
use Rattle.htn_cli.specs.Answer.{Output, Answer, refuses, gives, told_alone}
use Rattle.htn_cli.specs.Decoding.{SpellSteps, SpellFormSteps, IsForSlots, RefusesDecode, GivesTree}
use Rattle.htn_cli.specs.OneAnswer.{TellTheSame}
use Rattle.htn_cli.specs.PrintedForms.{IsOrderedFor, NamesUnordered}
use Rattle.htn_cli.specs.ShownForms.{FailsAs, HaveTextAs}
use Rattle.htn_cli.specs.Refusal.{why_word, line_of}
use Rattle.htn_cli.specs.declared.refusal.Finding.TheVariants as finding
use Rattle.htn_cli.specs.declared.refusal.Limit.TheVariants as limit
use Rattle.htn_cli.specs.declared.refusal.Refusal.{Refusal}
use Rattle.htn_cli.specs.declared.refusal.Refusal.TheVariants as refused
use Rattle.htn_cli.proofs.ByForm.{ordered_too, unordered_not, one_unordered}
use Rattle.htn_cli.proofs.DecodedByForm.{AreDecodedOnce, AreDecodedTheSame, EachIsDecodedOnceAs, ValuesAreDecodedAlikeAs}
use Rattle.htn_cli.proofs.OneEncoding.{same_answer}
use Rattle.htn_cli.proofs.OneSlots.{by_count, by_cycle, Follows, much, cycle, out, within, one_follows}

-- what follows from three texts without a fault: what is given is not too long
abbrev pub DecodeComes : DecodeRequest → (domain problem plan : List ℕ) → Answer → Type 0
DecodeComes request d p l (refuses refusal) = RefusesDecode request d p l refusal
DecodeComes request d p l (gives output) = GivesTree request d p l output × (length output.told ≤ longest_output)

abbrev by_failure : ℕ → Why → Answer
by_failure step why = refuses (refused.Finding (finding.SpellsNoSolution step why))

module _ (once : EachIsDecodedOnceAs) (alike : ValuesAreDecodedAlikeAs) (ground : ValuesHaveOneGroundBound) (request : DecodeRequest) (d p l : List ℕ) where
  abbrev Meant : Type 0
  Meant = (c : Compiled) × (steps : List GroundAction) × SpellSteps request d p l c steps

  -- the form takes its problem
  abbrev IsFor : Meant → Type 0
  IsFor x = IsOrderedFor request.form x.0

  module _ (x y : Meant) where
    steps_same : x.1 ≡ y.1
    steps_same = one-plan l x.1 y.1 x.2.list.spelled y.2.list.spelled

    few_or_many : (n : ℕ) → n ≡ length x.1 → most_steps < n → length y.1 ≤ most_steps → ⊥
    few_or_many n e many few = let same = ap length steps_same in omega (arith, e, many, few, same)

  -- what is made of the steps with so many slots
  data Decodes (x : Meant) (slots : ℕ) : Answer → Type 0 where
    fails : (step : ℕ) (why : Why) → FailsAs request.form x.0 slots x.1 step why → Decodes x slots (by_failure step why)
    long : (n : ℕ) (text : List ℕ) → HaveTextAs request.form x.0 slots x.1 text → n ≡ capped (length text) → longest_output < n
        → Decodes x slots (refuses (refused.Limit (limit.Output n)))
    shown : (text : List ℕ) (output : Output) → HaveTextAs request.form x.0 slots x.1 text → output ≡ told_alone text → length output.told ≤ longest_output
        → Decodes x slots (gives output)

  module _ (slots : ℕ) (some : 1 ≤ slots) (few : slots ≤ most_slots) where
    decodable : (x : Meant) → IsDecodable x.2.problem_is.value request.checks x.0 slots
    decodable x = let is = x.2.problem_is in record { sound = is.read.sound; ordered = is.read.ordered; compiled = is.compiled_is; some_slot = some; few_slots = few }

    decoded_once : (x : Meant) → IsFor x → AreDecodedOnce request.form x.0 slots x.1
    decoded_once x o = once request.form x.2.problem_is.value request.checks x.0 slots x.1 (decodable x) o

    module _ (x y : Meant) (o : IsFor x) (q : IsFor y) where
      decoded_alike : AreDecodedTheSame request.form x.0 y.0 slots x.1
      decoded_alike =
          let is = x.2.problem_is in let are = y.2.problem_is in
          alike request.form d p is.value are.value request.checks x.0 y.0 slots x.1 is.read.spelled are.read.spelled (decodable x) o are.compiled_is

      fails_there : (step : ℕ) (why : Why) → FailsAs request.form x.0 slots x.1 step why → FailsAs request.form y.0 slots y.1 step why
      fails_there step why f = subst (λ s. FailsAs request.form y.0 slots s step why) (steps_same x y) (decoded_alike.fails step why f)

      text_there : (text : List ℕ) → HaveTextAs request.form x.0 slots x.1 text → HaveTextAs request.form y.0 slots y.1 text
      text_there text (plan, s, is) = subst (λ s. HaveTextAs request.form y.0 slots s text) (steps_same x y) (plan, decoded_alike.shown plan s, is)

      one_text : (text more : List ℕ) → HaveTextAs request.form x.0 slots x.1 text → HaveTextAs request.form y.0 slots y.1 more → text ≡ more
      one_text text more t (other, s, are) =
          let h = text_there text t in h.2 ∙ ap hplan_text ((decoded_once y q).one_plan h.0 other h.1 s) ∙ sym are

      fail_or_text : (step : ℕ) (why : Why) (text : List ℕ) → FailsAs request.form x.0 slots x.1 step why → HaveTextAs request.form y.0 slots y.1 text → ⊥
      fail_or_text step why text f (plan, s, is) = (decoded_once y q).not_both plan step why s (fails_there step why f)

      long_not_shown : (n : ℕ) (text more : List ℕ) (output : Output) → HaveTextAs request.form x.0 slots x.1 text → HaveTextAs request.form y.0 slots y.1 more
          → n ≡ capped (length text) → longest_output < n → output ≡ told_alone more → length output.told ≤ longest_output → ⊥
      long_not_shown n text more output t u e past is fits =
          let same = ap length (one_text text more t u) in let told = ap (λ (o : Output). length o.told) is in omega (arith, same, told, e, past, fits)

    one_failure : (x y : Meant) → IsFor x → IsFor y → (step more : ℕ) (why because : Why) → FailsAs request.form x.0 slots x.1 step why → FailsAs request.form y.0 slots y.1 more because
        → TellTheSame (by_failure step why) (by_failure more because)
    one_failure x y o q step more why because f g =
        let law = decoded_once y q in
        let there = fails_there x y o q step why f in
        let at = law.one_step step more why because there g in
        let word = ap why_word (law.one_cause step more why because there g) in
        record { status = refl; line = λ i. codes "not a plan: step " ++ decimal (at i) ++ codes " " ++ word i ++ codes "\n"; output = refl }

    one_decodes : (x y : Meant) → IsFor x → IsFor y → (a b : Answer) → Decodes x slots a → Decodes y slots b → TellTheSame a b
    one_decodes x y o q a b (fails step why f) (fails more because g) = one_failure x y o q step more why because f g
    one_decodes x y o q a b (fails step why f) (long n text t e past) = absurd (fail_or_text x y o q step why text f t)
    one_decodes x y o q a b (fails step why f) (shown text made t e fits) = absurd (fail_or_text x y o q step why text f t)
    one_decodes x y o q a b (long n text t e past) (fails step why f) = absurd (fail_or_text y x q o step why text f t)
    one_decodes x y o q a b (long n text t e past) (long m more u f over) =
        let same = e ∙ ap (λ z. capped (length z)) (one_text x y o q text more t u) ∙ sym f in
        record { status = refl; line = ap (λ z. line_of (refused.Limit (limit.Output z))) same; output = refl }
    one_decodes x y o q a b (long n text t e past) (shown more made u f fits) = absurd (long_not_shown x y o q n text more made t u e past f fits)
    one_decodes x y o q a b (shown text made t e fits) (fails step why f) = absurd (fail_or_text y x q o step why text f t)
    one_decodes x y o q a b (shown text made t e fits) (long n more u f past) = absurd (long_not_shown y x q o n more text made u t f past e fits)
    one_decodes x y o q a b (shown text made t e fits) (shown more other u f fit) =
        let same : made ≡ other = e ∙ ap told_alone (one_text x y o q text more t u) ∙ sym f in record { status = refl; line = refl; output = ap Some same }

  -- and of any number of steps
  data Decided (x : Meant) : Answer → Type 0 where
    many : (n : ℕ) → n ≡ length x.1 → most_steps < n → Decided x (refuses (refused.Limit (limit.Steps n)))
    unordered : (word : List ℕ) → length x.1 ≤ most_steps → request.form ≡ Stack → NamesUnordered x.0 word
        → Decided x (refuses (refused.Finding (finding.NotTotallyOrdered word)))
    few : (a : Answer) → length x.1 ≤ most_steps → IsFor x → Follows most_slots request.level request.numeral x.0 (Decodes x) a → Decided x a

  -- no problem is both
  not_ordered : (x y : Meant) → IsFor x → (word : List ℕ) → request.form ≡ Stack → NamesUnordered y.0 word → ⊥
  not_ordered x y o word stack named =
      unordered_not y.0 word named
      (subst (λ z. IsOrderedFor z y.0) stack (ordered_too d p request.checks x.0 y.0 x.2.problem_is y.2.problem_is Any 1 Adl request.form o))

  decided : (x y : Meant) (a b : Answer) → Decided x a → Decided y b → TellTheSame a b
  decided x y a b (many n e past) (many m f over) =
      record { status = refl; line = ap (λ z. line_of (refused.Limit (limit.Steps z))) (e ∙ ap length (steps_same x y) ∙ sym f); output = refl }
  decided x y a b (many n e past) (unordered word less stack named) = absurd (few_or_many x y n e past less)
  decided x y a b (many n e past) (few c less o k) = absurd (few_or_many x y n e past less)
  decided x y a b (unordered word less stack named) (many n e past) = absurd (few_or_many y x n e past less)
  decided x y a b (unordered word less stack named) (unordered more fewer stacked also) =
      same_answer a b (ap (λ z. refuses (refused.Finding (finding.NotTotallyOrdered z))) (one_unordered d p request.checks x.0 y.0 x.2.problem_is y.2.problem_is word more named also))
  decided x y a b (unordered word less stack named) (few c fewer o k) = absurd (not_ordered y x o word stack named)
  decided x y a b (few c less o k) (many n e past) = absurd (few_or_many y x n e past less)
  decided x y a b (few c less o k) (unordered word fewer stack named) = absurd (not_ordered x y o word stack named)
  decided x y a b (few c less o k) (few e fewer q j) =
      one_follows most_slots (omega arith) ground request.level d p request.checks request.numeral (x.0, x.2.problem_is) (y.0, y.2.problem_is) (Decodes x) (Decodes y)
      (λ slots one most. one_decodes slots one most x y o q) a b k j

  made : (c : Compiled) (steps : List GroundAction) (slots : ℕ) (a : Answer) (source : IsForSlots request d p l c steps slots)
      → Decodes (c, steps, source.spelled.spelled) slots a → (x : Meant) × Decided x a
  made c steps slots a source is =
      ((c, steps, source.spelled.spelled), few a source.spelled.few source.ordered (within slots a source.slots_are source.some_slot source.few_slots is))

  -- of a problem that the form takes
  module _ (c : Compiled) (steps : List GroundAction) (s : SpellFormSteps request d p l c steps) where
    abbrev meant : Meant
    meant = (c, steps, s.spelled.spelled)

    follows : (a : Answer) → Follows most_slots request.level request.numeral c (Decodes meant) a → (x : Meant) × Decided x a
    follows a k = (meant, few a s.spelled.few s.ordered k)

  declines : (refusal : Refusal) → RefusesDecode request d p l refusal → (x : Meant) × Decided x (refuses refusal)
  declines (refused.Limit (limit.Steps n)) (c, steps, s, e, past) = ((c, steps, s), many n e past)
  declines (refused.Finding (finding.NotTotallyOrdered word)) (stack, (c, steps, s, named)) = ((c, steps, s.spelled), unordered word s.few stack named)
  declines (refused.Finding (finding.NotTailRecursive words)) (e, (c, steps, s, named)) = follows c steps s (by_cycle words) (cycle words e named)
  declines (refused.Limit limit.Ground) (e, (c, steps, s, past)) = follows c steps s by_count (much e past)
  declines (refused.Limit limit.Bound) (e, (c, steps, n, s, bound, past)) =
      follows c steps s (refuses (refused.Limit limit.Bound)) (out n (refused.Limit limit.Bound) e bound past)
  declines (refused.Limit (limit.Slots m)) (e, (c, steps, n, s, bound, past)) =
      follows c steps s (refuses (refused.Limit (limit.Slots m))) (out n (refused.Limit (limit.Slots m)) e bound past)
  declines (refused.Finding (finding.SpellsNoSolution step why)) (c, steps, slots, source, f) =
      made c steps slots (by_failure step why) source (fails step why f)
  declines (refused.Limit (limit.Output n)) (c, steps, slots, text, source, t, e, past) =
      made c steps slots (refuses (refused.Limit (limit.Output n))) source (long n text t e past)
  declines _ x = absurd x

  comes : (a : Answer) → DecodeComes request d p l a → (x : Meant) × Decided x a
  comes (refuses refusal) is = declines refusal is
  comes (gives output) ((c, steps, slots, text, source, t, e), fits) = made c steps slots (gives output) source (shown text output t e fits)

  pub one_decoded : (a b : Answer) → DecodeComes request d p l a → DecodeComes request d p l b → TellTheSame a b
  one_decoded a b is also = let x = comes a is in let y = comes b also in decided x.0 y.0 a b x.1 y.1
