-- What a command gives, or leaves that is refused, from what its steps do.
use Rattle.std.proofs.Common.{ℕ, ◌≡◌, ◌<◌, ◌≤◌, ◌^◌, ◌⊎◌, List, [], ◌∷◌, ◌++◌, length, codes, decimal, Option, Some, None, IfSome, option_map, refl, sym, ap, ◌∙◌, subst, inl, inr, arith}
use Rattle.std.proofs.lemmas.List.{length-append}
use Rattle.std.proofs.lemmas.Fmt.{length-decimal-le_wide}
use Rattle.htn_base.specs.Limits.{longest_output, most_slots}
use Rattle.outside_io.specs.Files.{FilesState}
use Rattle.outside_io.specs.Sink.{SinkState}
use Rattle.plan_model.specs.declared.options.Checks.{Checks}
use Rattle.plan_model.specs.declared.values.Compiled.{Compiled}
use Rattle.plan_model.specs.task_networks.Bound.{itself}
use Rattle.plan_model.specs.plan_meaning.Network.{top_task}
use Rattle.plan_model.specs.plan_meaning.Schemas.{task}
use Rattle.plan_model.specs.plan_meaning.Solution.{top_work}
use Rattle.plan_texts.specs.SoundlyCompiled.{IsSoundlyCompiled}
use Rattle.command_words.specs.declared.level.Level.{Level}
use Rattle.command_words.specs.declared.level.Level.TheVariants.{Lifted, Ground}
use Rattle.command_words.specs.Names.{Word, Names}
use Rattle.command_words.specs.Words.{TranslationRequest, BoundRequest, ValidationRequest, Request, to_translate, to_bound, to_validate, number_of}
use Rattle.htn_cli.specs.Answer.{Output, Answer, refuses, gives, told_alone}
use Rattle.htn_cli.specs.Answers.{IsLeastOf, Refuses, Gives, RefusesFault, IsAnswerFor, past_slots, too_large, faulty, declined, given, IsAnswer}
use Rattle.htn_cli.specs.Bounding.{GivesBound}
use Rattle.htn_cli.specs.Ending.{Achieves}
use Rattle.htn_cli.specs.Inputs.{AreGot, AreWhole}
use Rattle.htn_cli.specs.Printing.{AreWhole as ArePrintedWhole}
use Rattle.htn_cli.specs.Left.{Leaves, StandsUpTo}
use Rattle.htn_cli.specs.Levels.{IsBoundAt}
use Rattle.htn_cli.specs.Lines.{slots_line, bound_line, valid_line}
use Rattle.htn_cli.specs.Made.{output_of, texts_by, AreMadeWith, IsMadeWith, IsMadeFor, StopsMadeFor, manner_of, GivesOutput, NamesDiffer}
use Rattle.htn_cli.specs.Problem.{SpellProblem}
use Rattle.htn_cli.specs.Requests.{inputs_of, names_told, slots_given, most_by, most_slots_of, IsWithin}
use Rattle.htn_cli.specs.Sent.{TakesWhole}
use Rattle.htn_cli.specs.Slots.{RefusesSlots}
use Rattle.stack_encoding.specs.TotalOrder.{IsFirstUnordered}
use Rattle.command_words.specs.declared.form.PrintedForm.TheVariants.{Stack}
use Rattle.htn_cli.specs.PrintedForms.{IsOrderedFor}
use Rattle.htn_cli.specs.Stops.{GivesTexts, StopsReading, StopsFault, StopsTexts, StopsPlan, StopsBound, StopsOrder, TellsUnorderedAt, IsGiven, StopsGiven, IsChosen, StopsChosen, StopsPrinted, IsWant, StopsDelivery, StopsOutput}
use Rattle.htn_cli.specs.Texts.{texts_of}
use Rattle.htn_cli.specs.Translation.{AreSlotsOf, IsForSlots, AreWritten, GivesTranslation, texts_for}
use Rattle.htn_cli.specs.declared.output.Output.{Output as Made}
use Rattle.htn_cli.specs.declared.output.Written.{Written}
use Rattle.htn_cli.specs.declared.refusal.Failure.TheVariants as failure
use Rattle.htn_cli.specs.declared.refusal.Finding.TheVariants as finding
use Rattle.htn_cli.specs.declared.refusal.Limit.TheVariants as limit
use Rattle.htn_cli.specs.declared.refusal.Refusal.{Refusal}
use Rattle.htn_cli.specs.declared.refusal.Refusal.TheVariants as refused
use Rattle.htn_cli.proofs.Rules.{few_by}
use Rattle.htn_cli.proofs.Printed.{translated}

-- a bound is at least 1
pub positive : (level : Level) (c : Compiled) (n : ℕ) → IsBoundAt level c n → 1 ≤ n
positive Lifted c n b = subst (λ z. 1 ≤ z) b.is (b.numbers.positive (task (top_task c)) itself)
positive Ground c n (few, b) = let B = b.bound in subst (λ z. 1 ≤ z) B.is (B.numbers.positive (top_work c) itself)

-- what was read is ready for its bound
pub soundly : (d p : List ℕ) (checks : Checks) (c : Compiled) → SpellProblem d p checks c → IsSoundlyCompiled c
soundly d p checks c s = record { problem = s.value; checks = checks; sound = s.read.sound; ordered = s.read.ordered; compiled = s.compiled_is }

-- Lines are short.
pub few_digits : (n : ℕ) → n < 2 ^ 128 → length (decimal n) ≤ 39
few_digits n l = length-decimal-le_wide 39 n (omega arith) (omega (arith, l)) (omega (arith, l))

pub slots_line_fits : (n : ℕ) → n ≤ most_slots → length (slots_line n) ≤ longest_output
slots_line_fits n few =
    let d = few_digits n (omega (arith, few)) in
    let a = length-append (codes "slots " ++ decimal n) (codes "\n") in
    let b = length-append (codes "slots ") (decimal n) in
    omega (arith, d, a, b)

pub bound_line_fits : (n : ℕ) → n < 2 ^ 128 → length (bound_line n) ≤ longest_output
bound_line_fits n few =
    let d = few_digits n few in
    let a = length-append (decimal n) (codes "\n") in
    omega (arith, d, a)

-- The answer to a request whose texts were all got.
module _ (request : Request) (old : FilesState) (texts : List (List ℕ)) (got : AreGot old (inputs_of request) texts) (within : IsWithin request) (whole : AreWhole (inputs_of request) texts) where
  pub answer_given : (output : Output) → Gives request texts output → length output.told ≤ longest_output → IsAnswer request old (gives output)
  answer_given output g fits = record { texts = texts; got = got; answers = given output within whole g fits }

  answer_refused : (refusal : Refusal) → RefusesFault request texts refusal ⊎ Refuses request texts refusal → IsAnswer request old (refuses refusal)
  answer_refused refusal (inl f) = record { texts = texts; got = got; answers = faulty refusal within whole f }
  answer_refused refusal (inr r) = record { texts = texts; got = got; answers = declined refusal within whole r }

  pub stopped : (new : FilesState) → new ≡ old → (refusal : Refusal) → StopsTexts request texts refusal → StopsOutput request old new refusal
  stopped new same refused.Words stops = (answer_refused refused.Words stops, same)
  stopped new same (refused.Fault place code) stops = (answer_refused (refused.Fault place code) stops, same)
  stopped new same (refused.Limit l) stops = (answer_refused (refused.Limit l) stops, same)
  stopped new same (refused.Finding f) stops = (answer_refused (refused.Finding f) stops, same)
  stopped new same (refused.Failure failure.Memory) stops = (within, same)
  stopped new same (refused.Failure _) stops = absurd stops

-- The same of what the program made.
module _ (request : Request) (old new : FilesState) (texts : List (List ℕ)) (read : GivesTexts (inputs_of request) old new texts) (within : IsWithin request) (whole : AreWhole (inputs_of request) texts) where
  pub gives_made : (made : Made) → Gives request texts (output_of made) → length made.told ≤ longest_output → NamesDiffer made → GivesOutput request old new made
  gives_made made g fits differ = record { same = read.same; answer = answer_given request old texts read.got within whole (output_of made) g fits; differ = differ }

  pub stops_made : (refusal : Refusal) → StopsTexts request texts refusal → StopsOutput request old new refusal
  stops_made refusal stops = stopped request old texts read.got within whole new read.same refusal stops

-- its inputs were not all read
pub unread : (request : Request) (old new : FilesState) → IsWithin request → (refusal : Refusal) → StopsReading (inputs_of request) old new refusal → StopsOutput request old new refusal
unread request old new within (refused.Failure (failure.Reading word)) stops = (within, stops)
unread request old new within (refused.Failure failure.Memory) stops = (within, stops)
unread request old new within (refused.Limit (limit.Bytes word)) ((texts, got, large), same) =
    (record { texts = texts; got = got; answers = too_large (refused.Limit (limit.Bytes word)) within large }, same)
unread request old new within _ stops = absurd stops

-- its texts have a fault
pub fault_stops : (request : Request) (texts : List (List ℕ)) (refusal : Refusal) → StopsFault (names_told request) (IsLeastOf request texts) refusal → StopsTexts request texts refusal
fault_stops request texts (refused.Fault place code) stops = inl stops
fault_stops request texts (refused.Limit (limit.Text counted place)) stops = inl stops
fault_stops request texts (refused.Failure failure.Memory) stops = tt
fault_stops request texts _ stops = absurd stops

-- memory ran out
pub want_stops : (request : Request) (texts : List (List ℕ)) (refusal : Refusal) → IsWant refusal → StopsTexts request texts refusal
want_stops request texts (refused.Failure failure.Memory) want = tt
want_stops request texts _ want = absurd want

-- What a run leaves that was refused before the first put, or in the delivery of its output.
module _ (request : Request) (old : FilesState) (out : SinkState) where
  pub leaves_unwritten : (new : FilesState) (refusal : Refusal) → StopsOutput request old new refusal → Leaves request old new out out refusal
  leaves_unwritten new refused.Words stops = (stops.0, stops.1, refl)
  leaves_unwritten new (refused.Fault place code) stops = (stops.0, stops.1, refl)
  leaves_unwritten new (refused.Limit l) stops = (stops.0, stops.1, refl)
  leaves_unwritten new (refused.Finding f) stops = (stops.0, stops.1, refl)
  leaves_unwritten new (refused.Failure (failure.Reading word)) stops = (stops.0, stops.1, refl)
  leaves_unwritten new (refused.Failure failure.Memory) stops = (stops.0, inl (stops.1, refl))
  leaves_unwritten new (refused.Failure _) stops = absurd stops

  module _ (mid : FilesState) (made : Made) (g : GivesOutput request old mid made) (within : IsWithin request) (new : FilesState) (out' : SinkState) where
    pub achieves : StandsUpTo TakesWhole (output_of made) mid new out out' → Achieves old new out out' request
    achieves stands = record { output = output_of made; is = g.answer; stands = subst (λ z. StandsUpTo TakesWhole (output_of made) z new out out') g.same stands }

    delivered : (refusal : Refusal) → StopsDelivery (output_of made) old new out out' refusal → Leaves request old new out out' refusal
    delivered (refused.Failure (failure.Writing word)) stops = (output_of made, g.answer, stops.0, stops.1)
    delivered (refused.Failure failure.Telling) stops = (output_of made, g.answer, stops)
    delivered (refused.Failure failure.Memory) (inl stops) = (within, inr (inl (output_of made, g.answer, stops.0, stops.1)))
    delivered (refused.Failure failure.Memory) (inr stops) = (within, inr (inr (output_of made, g.answer, stops)))
    delivered _ stops = absurd stops

    pub leaves_delivery : (refusal : Refusal) → StopsDelivery (output_of made) mid new out out' refusal → Leaves request old new out out' refusal
    leaves_delivery refusal stops = delivered refusal (subst (λ z. StopsDelivery (output_of made) z new out out' refusal) g.same stops)

abbrev WithinOf : Request → Answer → Type 0
WithinOf request (refuses refusal) = Unit {0}
WithinOf request (gives output) = IsWithin request

-- an answer that is an output is to a number of slots that is printed
pub output_within : (request : Request) (old : FilesState) (output : Output) → IsAnswer request old (gives output) → IsWithin request
output_within request old output is = go (gives output) is.answers
  where
    go : (answer : Answer) → IsAnswerFor request is.texts answer → WithinOf request answer
    go answer (past_slots n refusal none e slots) = tt
    go answer (too_large refusal within large) = tt
    go answer (faulty refusal within whole x) = tt
    go answer (declined refusal within whole x) = tt
    go answer (given o within whole g fits) = within

-- A number of slots that is given.
pub given_within : (most : ℕ) (numeral : Option Word) (g : Option ℕ) → IsGiven most numeral g → IfSome (option_map number_of numeral) (λ n. n ≤ most)
given_within most None g is = tt
given_within most (Some word) None is = absurd is
given_within most (Some word) (Some slots) is = let e = is.same in let l = is.few in omega (arith, e, l)

module _ (request : Request) (old : FilesState) where
  -- it is too great
  slots_past : (n : ℕ) → slots_given request ≡ Some n → (refusal : Refusal) → RefusesSlots (most_slots_of request) n refusal → IsAnswer request old (refuses refusal)
  slots_past n e refusal stops = record { texts = []; got = tt; answers = past_slots n refusal refl e stops }

  slots_stop : (n : ℕ) → slots_given request ≡ Some n → (refusal : Refusal) → RefusesSlots (most_slots_of request) n refusal → StopsOutput request old old refusal
  slots_stop n e (refused.Limit l) stops = (slots_past n e (refused.Limit l) stops, refl)
  slots_stop n e refused.Words stops = absurd stops
  slots_stop n e (refused.Fault place code) stops = absurd stops
  slots_stop n e (refused.Finding f) stops = absurd stops
  slots_stop n e (refused.Failure f) stops = absurd stops

  pub given_refused : (numeral : Option Word) → slots_given request ≡ option_map number_of numeral → (refusal : Refusal) → StopsGiven (most_slots_of request) numeral refusal
      → StopsOutput request old old refusal
  given_refused None e refusal stops = absurd stops
  given_refused (Some word) e refusal stops = slots_stop (number_of word) e refusal stops

-- the texts of what is written, for the files of these names
pub written_texts : (names : Names) (written : Option Written) (w : Written) → w.od.now ≡ names.printed_domain → w.op.now ≡ names.printed_problem → written ≡ Some w
    → texts_by written ≡ texts_for names (texts_of w.texts)
written_texts names written w od op e =
    ap texts_by e ∙ (λ i. record { name = od i; bytes = w.texts.domain } ∷ record { name = op i; bytes = w.texts.problem } ∷ [])

-- A method that is not totally ordered.
pub stops_order : (c : Compiled) (m : ℕ) (refusal : Refusal) → IsFirstUnordered c m → TellsUnorderedAt c m refusal → StopsOrder Stack c refusal
stops_order c m (refused.Finding (finding.NotTotallyOrdered word)) first is = (refl, (m, first, is))
stops_order c m (refused.Failure failure.Memory) first is = tt
stops_order c m _ first is = absurd is

-- A translation.
module _ (r : TranslationRequest) where
  pub is_within : (g : Option ℕ) → IsGiven (most_by r.rule) r.numeral g → IsWithin (to_translate r)
  is_within g is = given_within (most_by r.rule) r.numeral g is

  pub given_stops : (old : FilesState) (refusal : Refusal) → StopsGiven (most_by r.rule) r.numeral refusal → StopsOutput (to_translate r) old old refusal
  given_stops old refusal stops = given_refused (to_translate r) old r.numeral refl refusal stops

  module _ (d p : List ℕ) (c : Compiled) (spelled : SpellProblem d p r.checks c) (ordered : IsOrderedFor r.form c) (g : Option ℕ) (is : IsGiven (most_by r.rule) r.numeral g) where
    abbrev Stopped : Refusal → Type 0
    Stopped = StopsTexts (to_translate r) (d ∷ p ∷ [])

    bound_stops : r.numeral ≡ None → (refusal : Refusal) → StopsBound r.level c refusal → Stopped refusal
    bound_stops none (refused.Finding (finding.NotTailRecursive words)) stops = inr ((none, (c, spelled, ordered)), (c, spelled, stops))
    bound_stops none (refused.Limit limit.Ground) stops = inr ((none, (c, spelled, ordered)), (c, spelled, stops))
    bound_stops none (refused.Limit limit.Bound) (n, bound, past) = inr ((none, (c, spelled, ordered)), (n, (c, spelled, bound), past))
    bound_stops none (refused.Failure failure.Memory) stops = tt
    bound_stops none _ stops = absurd stops

    computed_past : r.numeral ≡ None → (n : ℕ) → IsBoundAt r.level c n → (refusal : Refusal) → RefusesSlots (most_by r.rule) n refusal → Stopped refusal
    computed_past none n bound (refused.Limit limit.Bound) stops = inr ((none, (c, spelled, ordered)), (n, (c, spelled, bound), stops))
    computed_past none n bound (refused.Limit (limit.Slots m)) stops = inr ((none, (c, spelled, ordered)), (n, (c, spelled, bound), stops))
    computed_past none n bound _ stops = absurd stops

    pub chosen_stops : (refusal : Refusal) → StopsChosen (most_by r.rule) r.level c g refusal → Stopped refusal
    chosen_stops refusal stops = go r.numeral g is stops refl
      where
        go : (o : Option Word) (g : Option ℕ) → IsGiven (most_by r.rule) o g → StopsChosen (most_by r.rule) r.level c g refusal → r.numeral ≡ o → Stopped refusal
        go o (Some g) is stops e = absurd stops
        go (Some word) None is stops e = absurd is
        go None None is (inl stops) e = bound_stops e refusal stops
        go None None is (inr (n, bound, stops)) e = computed_past e n bound refusal stops

    module _ (slots : ℕ) (chosen : IsChosen (most_by r.rule) r.level c g slots) where
      pub for_slots : IsForSlots r d p c slots
      for_slots = go r.numeral g is chosen refl
        where
          go : (o : Option Word) (g : Option ℕ) → IsGiven (most_by r.rule) o g → IsChosen (most_by r.rule) r.level c g slots → r.numeral ≡ o → IsForSlots r d p c slots
          go None None is (n, bound, are) e =
              record { problem_is = spelled; ordered = ordered; slots_are = subst (λ z. AreSlotsOf r.level c z slots) (sym e) (subst (IsBoundAt r.level c) (sym are.same) bound); some = are.some; few = are.few }
          go None (Some g) is chosen e = absurd is
          go (Some word) None is chosen e = absurd is
          go (Some word) (Some g) is chosen e =
              record { problem_is = spelled; ordered = ordered; slots_are = subst (λ z. AreSlotsOf r.level c z slots) (sym e) (chosen ∙ is.same); some = subst (λ z. 1 ≤ z) (sym chosen) is.some; few = subst (λ z. z ≤ most_by r.rule) (sym chosen) is.few }

      pub print_stops : (refusal : Refusal) → StopsPrinted c (manner_of r slots) refusal → Stopped refusal
      print_stops (refused.Limit (limit.Output n)) stops = inr (c, slots, for_slots, stops)
      print_stops (refused.Failure failure.Memory) stops = tt
      print_stops _ stops = absurd stops

      -- what is written for these files
      abbrev pub are_written : (w : Written) → ArePrintedWhole c (manner_of r slots) (texts_of w.texts) → AreWritten r d p (texts_of w.texts) slots
      are_written w whole = record {
        compiled = c;
        source = for_slots;
        translated = translated for_slots.problem_is.value c (manner_of r slots) (texts_of w.texts) for_slots.problem_is.read.sound for_slots.problem_is.compiled_is for_slots.ordered for_slots.some whole;
      }

      pub gives_translation : (made : Made) → IsMadeWith r c slots made → GivesTranslation r d p (output_of made)
      gives_translation made (are, line) = go made.written are refl
        where
          go : (o : Option Written) → AreMadeWith r c slots o → made.written ≡ o → GivesTranslation r d p (output_of made)
          go None are e = absurd are
          go (Some w) (od, op, whole) e = (
            texts_of w.texts,
            slots,
            are_written w whole,
            (let a = written_texts r.names made.written w od op e in λ i. record { texts = a i; told = line i }),
          )

  -- what was made of a compiled problem
  pub gives_made_for : (d p : List ℕ) (c : Compiled) → SpellProblem d p r.checks c → (g : Option ℕ) → IsGiven (most_by r.rule) r.numeral g → (made : Made) → IsMadeFor r c g made → GivesTranslation r d p (output_of made)
  gives_made_for d p c spelled g is made (ordered, (slots, chosen, made_is)) = gives_translation d p c spelled ordered g is slots chosen made made_is

  order_stops : (d p : List ℕ) (c : Compiled) → SpellProblem d p r.checks c → (refusal : Refusal) → StopsOrder r.form c refusal → StopsTexts (to_translate r) (d ∷ p ∷ []) refusal
  order_stops d p c spelled (refused.Finding (finding.NotTotallyOrdered word)) (stack, named) = inr (stack, (c, spelled, named))
  order_stops d p c spelled (refused.Failure failure.Memory) stops = tt
  order_stops d p c spelled _ stops = absurd stops

  pub stops_made_for : (d p : List ℕ) (c : Compiled) → SpellProblem d p r.checks c → (g : Option ℕ) → IsGiven (most_by r.rule) r.numeral g → (refusal : Refusal) → StopsMadeFor r c g refusal → StopsTexts (to_translate r) (d ∷ p ∷ []) refusal
  stops_made_for d p c spelled g is refusal (inl stops) = order_stops d p c spelled refusal stops
  stops_made_for d p c spelled g is refusal (inr (ordered, inl stops)) = chosen_stops d p c spelled ordered g is refusal stops
  stops_made_for d p c spelled g is refusal (inr (ordered, inr (slots, chosen, stops))) = print_stops d p c spelled ordered g is slots chosen refusal stops

  pub translation_fits : (d p : List ℕ) (output : Output) → GivesTranslation r d p output → length output.told ≤ longest_output
  translation_fits d p output (texts, slots, written, e) =
      let few = few_by r.rule in
      let less = written.source.few in
      subst (λ (z : Output). length z.told ≤ longest_output) (sym e) (slots_line_fits slots (omega (arith, few, less)))

-- A bound.
module _ (r : BoundRequest) (d p : List ℕ) where
  pub bound_fits : (output : Output) → GivesBound r d p output → length output.told ≤ longest_output
  bound_fits output (n, has, small, e) = subst (λ (z : Output). length z.told ≤ longest_output) (sym e) (bound_line_fits n small)

  module _ (c : Compiled) (spelled : SpellProblem d p r.checks c) where
    pub bound_not_computed : (refusal : Refusal) → StopsBound r.level c refusal → StopsTexts (to_bound r) (d ∷ p ∷ []) refusal
    bound_not_computed (refused.Finding (finding.NotTailRecursive words)) stops = inr (c, spelled, stops)
    bound_not_computed (refused.Limit limit.Ground) stops = inr (c, spelled, stops)
    bound_not_computed (refused.Limit limit.Bound) (n, bound, past) = inr (n, (c, spelled, bound), past)
    bound_not_computed (refused.Failure failure.Memory) stops = tt
    bound_not_computed _ stops = absurd stops

    pub gives_bound : (n : ℕ) → IsBoundAt r.level c n → n < 2 ^ 128 → (made : Made) → output_of made ≡ told_alone (bound_line n) → GivesBound r d p (output_of made)
    gives_bound n bound small made e = (n, (c, spelled, bound), small, e)

-- A validation.
module _ (r : ValidationRequest) (d p l : List ℕ) where
  pub plan_stops : (refusal : Refusal) → StopsPlan (inputs_of (to_validate r)) d p l refusal → StopsTexts (to_validate r) (d ∷ p ∷ l ∷ []) refusal
  plan_stops (refused.Limit (limit.Steps n)) stops = inr stops
  plan_stops (refused.Finding f) stops = inr stops
  plan_stops (refused.Fault place code) stops = inl stops
  plan_stops (refused.Limit (limit.Text counted place)) stops = inl stops
  plan_stops (refused.Failure failure.Memory) stops = tt
  plan_stops _ stops = absurd stops

  pub plan_fits : (output : Output) → output ≡ told_alone valid_line → length output.told ≤ longest_output
  plan_fits output e = subst (λ (z : Output). length z.told ≤ longest_output) (sym e) (omega arith)
