-- What a request that makes a problem gives, or leaves that is refused, from what its steps do.
use Rattle.std.proofs.Common.{ℕ, ◌≡◌, ◌*◌, ◌<◌, ◌≤◌, ◌^◌, ◌⊎◌, ◌++◌, List, [], length, codes, decimal, Option, Some, None, refl, sym, ap, ◌∙◌, subst, inl, inr, lit≤, arith}
use Rattle.std.proofs.lemmas.List.{length-append}
use Rattle.htn_base.specs.Limits.{longest_output, most_slots}
use Rattle.outside_io.specs.Calls.{Passed}
use Rattle.outside_io.specs.Files.{FilesState}
use Rattle.plan_model.specs.declared.options.Style.TheVariants.{Adl}
use Rattle.plan_model.specs.declared.options.Checks.TheVariants.{Leaf}
use Rattle.plan_model.specs.declared.values.Compiled.{Compiled}
use Rattle.made_transport.specs.Made.{made_domain}
use Rattle.command_words.specs.Words.{TranslationRequest, MakeRequest, to_make, number_of}
use Rattle.htn_cli.specs.Answer.{refuses, gives}
use Rattle.htn_cli.specs.Answers.{Refuses, RefusesFault, past_slots, faulty, declined, given, IsAnswerFor}
use Rattle.htn_cli.specs.Calling.{PassesInputs, StopsInputs}
use Rattle.htn_cli.specs.Lines.{count_line, summary}
use Rattle.htn_cli.specs.Made.{output_of, AreMadeWith, GivesOutput, NamesDiffer, manner_of}
use Rattle.htn_cli.specs.Making.{IsCounted, problem_of, plan_of, translation_for, IsAtBound, GivesMake}
use Rattle.htn_cli.specs.MakeStops.{StopsAlone, StopsCounting, IsMadeAtBound, StopsAtBound}
use Rattle.htn_cli.specs.Problem.{SpellProblem}
use Rattle.htn_cli.specs.Requests.{IsWithin}
use Rattle.htn_cli.specs.Slots.{RefusesSlots}
use Rattle.htn_cli.specs.Stops.{StopsTexts, StopsOutput, StopsBound, StopsPrinted, IsComputed}
use Rattle.htn_cli.specs.Texts.{texts_of}
use Rattle.htn_cli.specs.declared.output.Output.{Output as Made}
use Rattle.htn_cli.specs.declared.output.Written.{Written}
use Rattle.htn_cli.specs.declared.refusal.Failure.TheVariants as failure
use Rattle.htn_cli.specs.declared.refusal.Finding.TheVariants as finding
use Rattle.htn_cli.specs.declared.refusal.Limit.TheVariants as limit
use Rattle.htn_cli.specs.declared.refusal.Refusal.{Refusal}
use Rattle.htn_cli.specs.declared.refusal.Refusal.TheVariants as refused
use Rattle.htn_cli.proofs.CallsMade.{no_calls}
use Rattle.htn_cli.proofs.Leavings.{few_digits, written_texts, for_slots, are_written}
use Rattle.htn_cli.specs.Levels.{IsBoundAt}
use Rattle.command_words.specs.declared.level.Level.TheVariants.{Lifted}

-- The lines are short.
line_fits : (word : List ℕ) (n : ℕ) → length word ≤ 20 → n < 2 ^ 128 → length (count_line word n) ≤ 60
line_fits word n few small =
    let d = few_digits n small in
    let a = length-append (word ++ decimal n) (codes "\n") in
    let b = length-append word (decimal n) in
    omega (arith, d, a, b, few)

five_fit : (a b c d e : List ℕ) → length a ≤ 60 → length b ≤ 60 → length c ≤ 60 → length d ≤ 60 → length e ≤ 60 → length (a ++ b ++ c ++ d ++ e) ≤ longest_output
five_fit a b c d e l m n o p =
    let w = length-append (a ++ b ++ c ++ d) e in
    let x = length-append (a ++ b ++ c) d in
    let y = length-append (a ++ b) c in
    let z = length-append a b in
    omega (arith, l, m, n, o, p, w, x, y, z)

pub summary_fits : (count actions bound width steps : ℕ) → count < 2 ^ 128 → actions < 2 ^ 128 → bound < 2 ^ 128 → width < 2 ^ 128 → steps < 2 ^ 128
    → length (summary count actions bound width steps) ≤ longest_output
summary_fits count actions bound width steps p a b w s =
    five_fit (count_line (codes "packages ") count) (count_line (codes "actions ") actions) (count_line (codes "bound ") bound) (count_line (codes "width ") width) (count_line (codes "steps ") steps)
    (line_fits (codes "packages ") count (lit≤ tt) p) (line_fits (codes "actions ") actions (lit≤ tt) a) (line_fits (codes "bound ") bound (lit≤ tt) b)
    (line_fits (codes "width ") width (lit≤ tt) w) (line_fits (codes "steps ") steps (lit≤ tt) s)

module _ (r : MakeRequest) where
  -- too many packages are refused
  pub packages_past : (slots : ℕ) → slots ≡ 5 * number_of r.numeral → 4096 < slots → slots < 2 ^ 128 → StopsAlone (to_make r) (refused.Limit (limit.Slots slots))
  packages_past slots e many small =
      past_slots (5 * number_of r.numeral) (refused.Limit (limit.Slots slots)) refl refl (e, subst (λ z. 4096 < z) e many, subst (λ z. z < 2 ^ 128) e small)

  -- What is given or refused without inputs.
  module _ (within : IsWithin (to_make r)) where
    pub alone_gives : (made : Made) → GivesMake r (output_of made) → length made.told ≤ longest_output → IsAnswerFor (to_make r) [] (gives (output_of made))
    alone_gives made g fits = given (output_of made) within tt g fits

    answer_of : (refusal : Refusal) → RefusesFault (to_make r) [] refusal ⊎ Refuses (to_make r) [] refusal → IsAnswerFor (to_make r) [] (refuses refusal)
    answer_of refusal (inl f) = faulty refusal within tt f
    answer_of refusal (inr x) = declined refusal within tt x

    pub alone_stops : (refusal : Refusal) → StopsTexts (to_make r) [] refusal → StopsAlone (to_make r) refusal
    alone_stops refused.Words stops = answer_of refused.Words stops
    alone_stops (refused.Fault place code) stops = answer_of (refused.Fault place code) stops
    alone_stops (refused.Limit l) stops = answer_of (refused.Limit l) stops
    alone_stops (refused.Finding f) stops = answer_of (refused.Finding f) stops
    alone_stops (refused.Failure failure.Memory) stops = within
    alone_stops (refused.Failure _) stops = absurd stops

  -- Files are left as they were.
  pub leaves_files : (old : FilesState) (made : Made) → IsAnswerFor (to_make r) [] (gives (output_of made)) → NamesDiffer made → GivesOutput (to_make r) old old made
  leaves_files old made answers differ = record { same = refl; answer = record { texts = []; got = tt; answers = answers }; differ = differ }

  pub refused_alone : (old : FilesState) (refusal : Refusal) → StopsAlone (to_make r) refusal → StopsOutput (to_make r) old old refusal
  refused_alone old refused.Words stops = (record { texts = []; got = tt; answers = stops }, refl)
  refused_alone old (refused.Fault place code) stops = (record { texts = []; got = tt; answers = stops }, refl)
  refused_alone old (refused.Limit l) stops = (record { texts = []; got = tt; answers = stops }, refl)
  refused_alone old (refused.Finding f) stops = (record { texts = []; got = tt; answers = stops }, refl)
  refused_alone old (refused.Failure failure.Memory) stops = (stops, refl)
  refused_alone old (refused.Failure _) stops = absurd stops

  pub passes_alone : (old : Option (List Passed)) (made : Made) → IsAnswerFor (to_make r) [] (gives (output_of made)) → PassesInputs (to_make r) old old (gives (output_of made))
  passes_alone old made answers = ([], answers, no_calls old)

  pub stopped_alone : (old : Option (List Passed)) (refusal : Refusal) → StopsAlone (to_make r) refusal → StopsInputs (to_make r) old old refusal
  stopped_alone old refused.Words stops = ([], stops, no_calls old)
  stopped_alone old (refused.Fault place code) stops = ([], stops, no_calls old)
  stopped_alone old (refused.Limit l) stops = ([], stops, no_calls old)
  stopped_alone old (refused.Finding f) stops = ([], stops, no_calls old)
  stopped_alone old (refused.Failure failure.Memory) stops = tt
  stopped_alone old (refused.Failure _) stops = absurd stops

  -- What is made of the problem that the made texts spell.
  module _ (c : Compiled) (spelled : SpellProblem made_domain (problem_of r) Leaf c) where
    abbrev t : TranslationRequest
    t = translation_for r

    abbrev p : List ℕ
    p = problem_of r

    abbrev Stopped : Refusal → Type 0
    Stopped = StopsTexts (to_make r) []

    source : (bound : ℕ) → IsComputed most_slots Lifted c bound → IsAtBound r c bound
    source bound computed = for_slots t made_domain p c spelled tt None tt bound computed

    pub gives_make : (made : Made) → IsMadeAtBound r c (plan_of r) made → GivesMake r (output_of made)
    gives_make made (bound, computed, (actions, width, steps, has, counted, are, line)) = go made.written are refl
      where
        go : (o : Option Written) → AreMadeWith t c bound o → made.written ≡ o → GivesMake r (output_of made)
        go None are e = absurd are
        go (Some w) (od, op, whole) e =
            let written = are_written t made_domain p c spelled tt None tt bound computed w whole in
            let value = written.translated.value in (
              texts_of w.texts,
              actions,
              bound,
              width,
              steps,
              record {
                written = written;
                actions_are = has value.names bound Adl ∙ ap length (sym written.translated.printed.encoded.actions);
                counted = counted;
              },
              (let a = written_texts t.names made.written w od op e in λ i. record { texts = a i; told = line i }),
            )

    bound_stops : (refusal : Refusal) → StopsBound Lifted c refusal → Stopped refusal
    bound_stops (refused.Finding (finding.NotTailRecursive words)) stops = inr (inl ((refl, (c, spelled, tt)), (c, spelled, stops)))
    bound_stops (refused.Limit limit.Bound) (n, bound, past) = inr ((refl, (c, spelled, tt)), (n, (c, spelled, bound), past))
    bound_stops (refused.Failure failure.Memory) stops = tt
    bound_stops _ stops = absurd stops

    computed_past : (n : ℕ) → IsBoundAt Lifted c n → (refusal : Refusal) → RefusesSlots most_slots n refusal → Stopped refusal
    computed_past n bound (refused.Limit limit.Bound) stops = inr ((refl, (c, spelled, tt)), (n, (c, spelled, bound), stops))
    computed_past n bound (refused.Limit (limit.Slots m)) stops = inr (inl ((refl, (c, spelled, tt)), (n, (c, spelled, bound), stops)))
    computed_past n bound _ stops = absurd stops

    counting_stops : (bound : ℕ) → IsComputed most_slots Lifted c bound → (refusal : Refusal) → StopsCounting r c (plan_of r) refusal → Stopped refusal
    counting_stops bound computed (refused.Finding f) is = inr (inr (c, bound, source bound computed, is))
    counting_stops bound computed (refused.Limit (limit.Slots n)) (has, past) = inr (inr (c, bound, source bound computed, has, past))
    counting_stops bound computed (refused.Failure failure.Memory) stops = tt
    counting_stops bound computed _ stops = absurd stops

    printing_stops : (bound : ℕ) → IsComputed most_slots Lifted c bound → (width steps : ℕ) → IsCounted c (plan_of r) width steps → (refusal : Refusal) → StopsPrinted c (manner_of t bound) refusal → Stopped refusal
    printing_stops bound computed width steps is (refused.Limit (limit.Output n)) long = inr (inl (c, bound, width, steps, source bound computed, is, long))
    printing_stops bound computed width steps is (refused.Failure failure.Memory) stops = tt
    printing_stops bound computed width steps is _ stops = absurd stops

    pub make_stops : (refusal : Refusal) → StopsAtBound r c (plan_of r) refusal → Stopped refusal
    make_stops refusal (inl (inl stops)) = bound_stops refusal stops
    make_stops refusal (inl (inr (n, bound, stops))) = computed_past n bound refusal stops
    make_stops refusal (inr (bound, computed, inl stops)) = counting_stops bound computed refusal stops
    make_stops refusal (inr (bound, computed, inr (width, steps, is, stops))) = printing_stops bound computed width steps is refusal stops
