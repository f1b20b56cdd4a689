-- The calls that a run makes, from those of its steps.
use Rattle.std.proofs.Common.{ℕ, ◌≡◌, ◌≤◌, ◌⊎◌, List, [], ◌∷◌, ◌++◌, length, slice_get, Option, Some, None, option_map, refl, sym, ap, ◌∙◌, subst, inl, inr, append_assoc}
use Rattle.std.proofs.lemmas.List.{append-nil}
use Rattle.htn_base.specs.Limits.{longest_output}
use Rattle.outside_io.specs.Calls.{Passed, got, got_none}
use Rattle.outside_io.specs.Passed.{with_call}
use Rattle.outside_io.specs.Files.{FilesState}
use Rattle.outside_io.specs.Sink.{SinkState}
use Rattle.made_transport.specs.Made.{made_domain}
use Rattle.hddl_texts.specs.PrintedHddl.{hddl_domain_text, hddl_problem_text}
use Rattle.command_words.specs.Names.{Word}
use Rattle.command_words.specs.Words.{TranslationRequest, Request, to_translate, to_bound, to_decode, to_encode, to_validate, to_make, to_prune, number_of, Asks}
use Rattle.htn_cli.specs.Answer.{Output, refuses, gives}
use Rattle.htn_cli.specs.Answers.{Refuses, Gives, RefusesFault, past_slots, too_large, faulty, declined, given}
use Rattle.htn_cli.specs.Calling.{StopsGet, StopsGets, PassesInputs, StopsInputs, PassesRequest, StopsRequest}
use Rattle.htn_cli.specs.Inputs.{AreShort, AreWhole, EndTooLarge}
use Rattle.htn_cli.specs.Passing.{asked_bytes, gets, puts, with_calls, CallsAre, Keeps, PassesDone, CallsBefore, PassesRefused, PassesFinding}
use Rattle.htn_cli.specs.Refusal.{status_of, line_of}
use Rattle.htn_cli.specs.Requests.{inputs_of, slots_given, most_by, most_slots_of, IsWithin}
use Rattle.htn_cli.specs.Sent.{TakesWhole, Told}
use Rattle.htn_cli.specs.Slots.{RefusesSlots}
use Rattle.htn_cli.specs.Stops.{StopsTexts, StopsGiven, StopsDelivery}
use Rattle.htn_cli.specs.declared.status.Status.{Status}
use Rattle.htn_cli.specs.declared.status.Status.TheVariants as status
use Rattle.htn_cli.specs.declared.refusal.Failure.TheVariants as failure
use Rattle.htn_cli.specs.declared.refusal.Limit.TheVariants as limit
use Rattle.htn_cli.specs.declared.refusal.Refusal.{Refusal}
use Rattle.htn_cli.specs.declared.refusal.Refusal.TheVariants as refused
use Rattle.htn_cli.proofs.Endings.{no_words}
use Rattle.htn_cli.specs.Making.{problem_of, translation_for}
use Rattle.htn_cli.proofs.Headlines.{come, keep_here, keeps, bound_here, plan_here, finding_here}
use Rattle.htn_cli.proofs.LawsUsed.{LawsUsed, decoded_as, encoded_as}
use Rattle.htn_cli.proofs.MadeTold.{keeps_made}
use Rattle.htn_cli.proofs.PruneTold.{keeps_pruned}
use Rattle.htn_cli.proofs.TreeTold.{tree_here}
use Rattle.htn_cli.proofs.StepsTold.{steps_here}
use Rattle.htn_cli.proofs.InputsRead.{end_large, next_longer, large_longer}

-- no calls, and calls behind calls
pub no_calls : (old : Option (List Passed)) → CallsAre old old []
no_calls None = refl
no_calls (Some told) = ap Some (sym (append-nil told))

two_calls : (old : Option (List Passed)) (a b : List Passed) → with_calls (with_calls old a) b ≡ with_calls old (a ++ b)
two_calls None a b = refl
two_calls (Some told) a b = ap Some (append_assoc told a b)

pub calls_then : (old mid new : Option (List Passed)) (a b : List Passed) → CallsAre old mid a → CallsAre mid new b → CallsAre old new (a ++ b)
calls_then old mid new a b e f = f ∙ ap (λ z. with_calls z b) e ∙ two_calls old a b

-- One more get.
gets_more : (names : List Word) (texts : List (List ℕ)) (name : Word) (bytes : List ℕ) → slice_get names (length texts) ≡ Some name → gets names (texts ++ bytes ∷ []) ≡ gets names texts ++ got name asked_bytes bytes ∷ []
gets_more [] texts name bytes e = absurd (cc)
gets_more (first ∷ names) [] name bytes e = let f : first ≡ name = cc in ap (λ z. got z asked_bytes bytes ∷ []) f
gets_more (first ∷ names) (text ∷ texts) name bytes e = ap (λ z. got first asked_bytes text ∷ z) (gets_more names texts name bytes e)

pub stops_next_get : (names : List Word) (texts : List (List ℕ)) (name : Word) (old mid new : Option (List Passed)) → CallsAre old mid (gets names texts) → AreShort texts → slice_get names (length texts) ≡ Some name
    → (refusal : Refusal) → StopsGet name mid new refusal → StopsGets names old new refusal
stops_next_get names texts name old mid new calls short next (refused.Limit (limit.Bytes word)) (bytes, w, past, call) = (
  texts ++ bytes ∷ [],
  end_large names texts name word.now bytes short next w past,
  calls_then old mid new (gets names texts) (got name asked_bytes bytes ∷ []) calls call ∙ ap (with_calls old) (sym (gets_more names texts name bytes next)),
)
stops_next_get names texts name old mid new calls short next (refused.Failure (failure.Reading word)) (w, call) = (
  texts,
  short,
  next ∙ ap Some (sym w),
  calls_then old mid new (gets names texts) (got_none word.now ∷ []) calls (subst (λ z. new ≡ with_call mid (got_none z)) (sym w) call),
)
stops_next_get names texts name old mid new calls short next (refused.Failure failure.Memory) stops = tt
stops_next_get names texts name old mid new calls short next _ stops = absurd stops

-- The gets of some inputs are those of more.
large_gets : (names more : List Word) (texts : List (List ℕ)) (word : Word) → EndTooLarge names texts word → gets names texts ≡ gets (names ++ more) texts
large_gets [] more texts word large = absurd large
large_gets (name ∷ names) more [] word large = refl
large_gets (name ∷ names) more (text ∷ []) word large = refl
large_gets (name ∷ names) more (text ∷ other ∷ texts) word large = ap (λ z. got name asked_bytes text ∷ z) (large_gets names more (other ∷ texts) word large.1)

next_gets : (names more : List Word) (texts : List (List ℕ)) (word : Word) → slice_get names (length texts) ≡ Some word → gets names texts ≡ gets (names ++ more) texts
next_gets [] more texts word e = absurd (cc)
next_gets (name ∷ names) more [] word e = refl
next_gets (name ∷ names) more (text ∷ texts) word e = ap (λ z. got name asked_bytes text ∷ z) (next_gets names more texts word e)

pub stops_more_gets : (names more : List Word) (old new : Option (List Passed)) (refusal : Refusal) → StopsGets names old new refusal → StopsGets (names ++ more) old new refusal
stops_more_gets names more old new (refused.Limit (limit.Bytes word)) (texts, large, calls) = (texts, large_longer names more texts word.now large, calls ∙ ap (with_calls old) (large_gets names more texts word.now large))
stops_more_gets names more old new (refused.Failure (failure.Reading word)) (texts, short, next, calls) =
    (texts, short, next_longer names more _ word.now next, calls ∙ ap (λ z. with_calls old (z ++ got_none word.now ∷ [])) (next_gets names more texts word.now next))
stops_more_gets names more old new (refused.Failure failure.Memory) stops = tt
stops_more_gets names more old new _ stops = absurd stops

-- What a request comes to, by its inputs.
pub stops_inputs : (request : Request) (old new : Option (List Passed)) → IsWithin request → (refusal : Refusal) → StopsGets (inputs_of request) old new refusal → StopsInputs request old new refusal
stops_inputs request old new within (refused.Limit (limit.Bytes word)) (texts, large, calls) = (texts, too_large (refused.Limit (limit.Bytes word)) within large, calls)
stops_inputs request old new within (refused.Failure (failure.Reading word)) stops = stops
stops_inputs request old new within (refused.Failure failure.Memory) stops = tt
stops_inputs request old new within _ stops = absurd stops

pub stops_slots : (request : Request) (n : ℕ) → slots_given request ≡ Some n → (old : Option (List Passed)) (refusal : Refusal) → RefusesSlots (most_slots_of request) n refusal → StopsInputs request old old refusal
stops_slots request n e old (refused.Limit l) stops = ([], past_slots n (refused.Limit l) refl e stops, no_calls old)
stops_slots request n e old refused.Words stops = absurd stops
stops_slots request n e old (refused.Fault place code) stops = absurd stops
stops_slots request n e old (refused.Finding f) stops = absurd stops
stops_slots request n e old (refused.Failure f) stops = absurd stops

pub given_calls : (r : TranslationRequest) (old : Option (List Passed)) (refusal : Refusal) → StopsGiven (most_by r.rule) r.numeral refusal → StopsInputs (to_translate r) old old refusal
given_calls r old refusal stops = go r.numeral refl stops
  where
    go : (o : Option Word) → r.numeral ≡ o → StopsGiven (most_by r.rule) o refusal → StopsInputs (to_translate r) old old refusal
    go None e stops = absurd stops
    go (Some word) e stops = stops_slots (to_translate r) (number_of word) (ap (option_map number_of) e) old refusal stops

module _ (request : Request) (texts : List (List ℕ)) (old new : Option (List Passed)) (calls : CallsAre old new (gets (inputs_of request) texts)) (within : IsWithin request) (whole : AreWhole (inputs_of request) texts) where
  pub passes_output : (output : Output) → Gives request texts output → length output.told ≤ longest_output → PassesInputs request old new (gives output)
  passes_output output g fits = (texts, given output within whole g fits, calls)

  refused_for : (refusal : Refusal) → RefusesFault request texts refusal ⊎ Refuses request texts refusal → PassesInputs request old new (refuses refusal)
  refused_for refusal (inl f) = (texts, faulty refusal within whole f, calls)
  refused_for refusal (inr r) = (texts, declined refusal within whole r, calls)

  pub passes_stop : (refusal : Refusal) → StopsTexts request texts refusal → StopsInputs request old new refusal
  passes_stop refused.Words stops = refused_for refused.Words stops
  passes_stop (refused.Fault place code) stops = refused_for (refused.Fault place code) stops
  passes_stop (refused.Limit l) stops = refused_for (refused.Limit l) stops
  passes_stop (refused.Finding f) stops = refused_for (refused.Finding f) stops
  passes_stop (refused.Failure failure.Memory) stops = tt
  passes_stop (refused.Failure _) stops = absurd stops

-- Then its output is delivered, or not.
pub passes_request : (request : Request) (output : Output) (old mid new : Option (List Passed)) (out out' : SinkState) → PassesInputs request old mid (gives output) → CallsAre mid new (puts output.texts)
    → TakesWhole output.told out out' → PassesRequest request old new out out'
passes_request request output old mid new out out' (texts, answer, calls) puts_calls told = record {
  texts = texts;
  output = output;
  answer = answer;
  called = calls_then old mid new (gets (inputs_of request) texts) (puts output.texts) calls puts_calls;
  told = told;
}

pub stops_before : (request : Request) (old new : Option (List Passed)) (refusal : Refusal) → StopsInputs request old new refusal → StopsRequest request old new refusal
stops_before request old new refused.Words stops = stops
stops_before request old new (refused.Fault place code) stops = stops
stops_before request old new (refused.Limit l) stops = stops
stops_before request old new (refused.Finding f) stops = stops
stops_before request old new (refused.Failure (failure.Reading word)) stops = stops
stops_before request old new (refused.Failure (failure.Writing word)) stops = tt
stops_before request old new (refused.Failure failure.Telling) stops = tt
stops_before request old new (refused.Failure failure.Memory) stops = tt

pub stops_within : (request : Request) (output : Output) (old new : FilesState) (out out' : SinkState) (calls also : Option (List Passed)) (refusal : Refusal) → StopsDelivery output old new out out' refusal → StopsRequest request calls also refusal
stops_within request output old new out out' calls also (refused.Failure (failure.Writing word)) stops = tt
stops_within request output old new out out' calls also (refused.Failure failure.Telling) stops = tt
stops_within request output old new out out' calls also (refused.Failure failure.Memory) stops = tt
stops_within request output old new out out' calls also _ stops = absurd stops

-- What is promised is true of the bytes.
keeps_by : (laws : LawsUsed) (request : Request) (texts : List (List ℕ)) (output : Output) → Gives request texts output → (out out' : SinkState) → TakesWhole output.told out out' → Keeps request texts output.texts out out'
keeps_by laws (to_translate r) (d ∷ p ∷ []) output (texts, slots, written, e) out out' told =
    subst (λ (z : Output). Keeps (to_translate r) (d ∷ p ∷ []) z.texts out out') (sym e)
    (keeps laws.ground r d p out out' texts slots written texts.domain texts.problem refl refl (subst (λ (z : Output). TakesWhole z.told out out') e told))
keeps_by laws (to_bound r) (d ∷ p ∷ []) output (n, (c, source, bound), small, e) out out' told =
    subst (λ (z : Output). Keeps (to_bound r) (d ∷ p ∷ []) z.texts out out') (sym e)
    (bound_here laws.ground r d p out out' n c source bound (subst (λ (z : Output). TakesWhole z.told out out') e told))
keeps_by laws (to_decode r) (d ∷ p ∷ plan ∷ []) output (c, steps, slots, text, is, has, e) out out' told =
    subst (λ (z : Output). Keeps (to_decode r) (d ∷ p ∷ plan ∷ []) z.texts out out') (sym e)
    (tree_here (decoded_as laws) laws.ground r d p plan c steps slots is text has out out' (subst (λ (z : Output). TakesWhole z.told out out') e told))
keeps_by laws (to_encode r) (d ∷ p ∷ hplan ∷ []) output (c, plan, text, s, (width, steps, is, t), e) out out' told =
    subst (λ (z : Output). Keeps (to_encode r) (d ∷ p ∷ hplan ∷ []) z.texts out out') (sym e)
    (steps_here laws.encoded r d p hplan c plan s.spelled.spelled (encoded_as laws) (decoded_as laws) s.ordered width steps is out out' (subst (λ z. TakesWhole z out out') t (subst (λ (z : Output). TakesWhole z.told out out') e told)))
keeps_by laws (to_validate r) (pd ∷ pp ∷ plan ∷ []) output (are, e) out out' told =
    subst (λ (z : Output). Keeps (to_validate r) (pd ∷ pp ∷ plan ∷ []) z.texts out out') (sym e)
    (plan_here pd pp plan out out' are (subst (λ (z : Output). TakesWhole z.told out out') e told))
keeps_by laws (to_make r) [] output (texts, actions, bound, width, steps, are, e) out out' told =
    subst (λ (z : Output). Keeps (to_make r) [] z.texts out out') (sym e)
    (keeps_made laws r out out' texts actions bound width steps are texts.domain texts.problem refl refl
    (keep_here laws.ground (translation_for r) made_domain (problem_of r) out out' texts bound are.written texts.domain texts.problem refl refl)
    (subst (λ (z : Output). TakesWhole z.told out out') e told))
keeps_by laws (to_prune r) (d ∷ p ∷ []) output (value, spell, short, e) out out' told =
    subst (λ (z : Output). Keeps (to_prune r) (d ∷ p ∷ []) z.texts out out') (sym e)
    (keeps_pruned d p value spell (hddl_domain_text value) (hddl_problem_text value) refl refl out out' (subst (λ (z : Output). TakesWhole z.told out out') e told))
keeps_by laws _ _ output x out out' told = absurd x

module _ (words : List Word) (old new : Option (List Passed)) where
  pub passes_done : LawsUsed → (request : Request) → Asks words request → (out out' : SinkState) → PassesRequest request old new out out' → PassesDone words (CallsAre old new) out out'
  passes_done laws request asked out out' done = record {
    request = request;
    asked = asked;
    texts = done.texts;
    output = done.output;
    answer = done.answer;
    called = done.called;
    told = done.told;
    keeps = keeps_by laws request done.texts done.output (come request done.texts (gives done.output) done.answer).1 out out' done.told;
  }

  pub calls_before : (request : Request) → Asks words request → (refusal : Refusal) → StopsRequest request old new refusal → CallsBefore words (CallsAre old new) refusal
  calls_before request asked refused.Words (texts, answer, calls) = absurd (no_words request texts answer)
  calls_before request asked (refused.Fault place code) (texts, answer, calls) = (request, asked, texts, answer, calls)
  calls_before request asked (refused.Limit l) (texts, answer, calls) = (request, asked, texts, answer, calls)
  calls_before request asked (refused.Finding f) (texts, answer, calls) = (request, asked, texts, answer, calls)
  calls_before request asked (refused.Failure (failure.Reading word)) (texts, short, next, calls) = (request, asked, texts, short, next, calls)
  calls_before request asked (refused.Failure (failure.Writing word)) stops = tt
  calls_before request asked (refused.Failure failure.Telling) stops = tt
  calls_before request asked (refused.Failure failure.Memory) stops = tt

  -- a finding is true of them
  pub passes_finding : LawsUsed → (refusal : Refusal) → CallsBefore words (CallsAre old new) refusal → status_of refusal ≡ status.Finding → (err err' : SinkState) → Told (line_of refusal) err err' → PassesFinding words (CallsAre old new) err err'
  passes_finding laws (refused.Finding f) (request, asked, texts, answer, calls) e err err' line = record {
    request = request;
    asked = asked;
    texts = texts;
    called = calls;
    finding = finding_here laws request texts f (come request texts (refuses (refused.Finding f)) answer).1 err err' line;
  }
  passes_finding laws refused.Words calls e err err' line = absurd (cc)
  passes_finding laws (refused.Fault place code) calls e err err' line = absurd (cc)
  passes_finding laws (refused.Limit l) calls e err err' line = absurd (cc)
  passes_finding laws (refused.Failure (failure.Reading name)) calls e err err' line = absurd (cc)
  passes_finding laws (refused.Failure (failure.Writing name)) calls e err err' line = absurd (cc)
  passes_finding laws (refused.Failure failure.Telling) calls e err err' line = absurd (cc)
  passes_finding laws (refused.Failure failure.Memory) calls e err err' line = absurd (cc)

-- The same of files that tell all that passed.
module _ (words : List Word) (old new : List Passed) where
  abbrev Called : List Passed → Type 0
  Called calls = new ≡ old ++ calls

  made : (calls : List Passed) → CallsAre (Some old) (Some new) calls → Called calls
  made calls e = cc

  pub outside_done : (out out' : SinkState) → PassesDone words (CallsAre (Some old) (Some new)) out out' → PassesDone words Called out out'
  outside_done out out' d = record { request = d.request; asked = d.asked; texts = d.texts; output = d.output; answer = d.answer; called = made _ d.called; told = d.told; keeps = d.keeps }

  before : (refusal : Refusal) → CallsBefore words (CallsAre (Some old) (Some new)) refusal → CallsBefore words Called refusal
  before refused.Words (formless, calls) = (formless, made _ calls)
  before (refused.Fault place code) (request, asked, texts, answer, calls) = (request, asked, texts, answer, made _ calls)
  before (refused.Limit l) (request, asked, texts, answer, calls) = (request, asked, texts, answer, made _ calls)
  before (refused.Finding f) (request, asked, texts, answer, calls) = (request, asked, texts, answer, made _ calls)
  before (refused.Failure (failure.Reading word)) (request, asked, texts, short, next, calls) = (request, asked, texts, short, next, made _ calls)
  before (refused.Failure (failure.Writing word)) stops = tt
  before (refused.Failure failure.Telling) stops = tt
  before (refused.Failure failure.Memory) stops = tt

  pub outside_refused : (ended : Status) (err err' : SinkState) → PassesRefused words (CallsAre (Some old) (Some new)) ended err err' → PassesRefused words Called ended err err'
  outside_refused ended err err' r = record { refusal = r.refusal; status_is = r.status_is; told = r.told; calls = before r.refusal r.calls }

  pub outside_finding : (err err' : SinkState) → PassesFinding words (CallsAre (Some old) (Some new)) err err' → PassesFinding words Called err err'
  outside_finding err err' f = record { request = f.request; asked = f.asked; texts = f.texts; called = made _ f.called; finding = f.finding }
