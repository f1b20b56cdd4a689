-- How runs end, by their refusals.
use Rattle.std.proofs.Common.{ℕ, ◌≡◌, ◌<◌, ◌≤◌, ◌^◌, ◌⊎◌, ◌↔◌, ◌++◌, List, [], ◌∷◌, Some, IfSome, refl, sym, ap, ◌∙◌, subst, inl, inr, arith}
use Rattle.htn_base.specs.Limits.{most_slots}
use Rattle.outside_io.specs.Count.{HasRisen}
use Rattle.outside_io.specs.Files.{FilesState}
use Rattle.outside_io.specs.Sink.{SinkState}
use Rattle.command_words.specs.Names.{Word}
use Rattle.command_words.specs.Words.{Request, to_translate, to_bound, to_decode, to_encode, to_validate, to_make, to_prune, Asks, AreOfAForm}
use Rattle.command_words.proofs.Requests.{one_request}
use Rattle.htn_cli.specs.Answer.{Text, Output, Answer, refuses, gives}
use Rattle.htn_cli.specs.Answers.{Refuses, Gives, RefusesFault, RefusesSize, IsAnswerFor, past_slots, too_large, faulty, declined, given, IsAnswer}
use Rattle.htn_cli.specs.Refusal.{status_of, line_of}
use Rattle.htn_cli.specs.Requests.{outputs_of, slots_given, most_slots_of, IsWithin}
use Rattle.htn_cli.specs.Sent.{Told}
use Rattle.htn_cli.specs.Slots.{RefusesSlots}
use Rattle.htn_cli.specs.Left.{Stand, Leaves, LeavesFailed, LeavesStarved}
use Rattle.htn_cli.specs.Ending.{Achieves, IsOfAnAnswer, IsRefused, IsRefusedFor, IsDone, AskForSlots, AskForTooMany, AskForNoFile, IsAnswered, IsBeforePuts, IsUntouched}
use Rattle.htn_cli.specs.declared.status.Status.{Status}
use Rattle.htn_cli.specs.declared.status.Status.TheVariants as status
use Rattle.htn_cli.specs.declared.refusal.Failure.{Failure}
use Rattle.htn_cli.specs.declared.refusal.Failure.TheVariants as failure
use Rattle.htn_cli.specs.declared.refusal.Limit.TheVariants as limit
use Rattle.htn_cli.specs.declared.refusal.Refusal.{Refusal}
use Rattle.htn_cli.specs.declared.refusal.Refusal.TheVariants as refused
use Rattle.htn_cli.proofs.Rules.{few_by}

-- no refusal ends as a run that was done
pub never_done : (refusal : Refusal) → status_of refusal ≡ status.Done → ⊥
never_done refused.Words e = cc
never_done (refused.Fault place code) e = cc
never_done (refused.Limit l) e = cc
never_done (refused.Finding f) e = cc
never_done (refused.Failure (failure.Reading name)) e = cc
never_done (refused.Failure (failure.Writing name)) e = cc
never_done (refused.Failure failure.Telling) e = cc
never_done (refused.Failure failure.Memory) e = cc

-- What a refusal leaves that is part of an answer.
abbrev IsOfRefusal : Refusal → Type 0
IsOfRefusal refusal = IsOfAnAnswer (status_of refusal)

module _ (words : List Word) (old new : FilesState) (out out' : SinkState) where
  abbrev Stays : Type 0
  Stays = (new ≡ old) × (out' ≡ out)

  -- a refusal before anything was written is the answer to the request
  answer_left : (request : Request) (refusal : Refusal) → IsOfRefusal refusal → Leaves request old new out out' refusal → IsAnswer request old (refuses refusal) × Stays
  answer_left request refused.Words of left = (left.0, (left.1, left.2))
  answer_left request (refused.Fault place code) of left = (left.0, (left.1, left.2))
  answer_left request (refused.Limit l) of left = (left.0, (left.1, left.2))
  answer_left request (refused.Finding f) of left = (left.0, (left.1, left.2))
  answer_left request (refused.Failure (failure.Reading name)) of left = absurd of
  answer_left request (refused.Failure (failure.Writing name)) of left = absurd of
  answer_left request (refused.Failure failure.Telling) of left = absurd of
  answer_left request (refused.Failure failure.Memory) of left = absurd of

  pub answered_refused : (ended : Status) (refusal : Refusal) (err err' : SinkState) → ended ≡ status_of refusal → IsRefused words old new out out' refusal → Told (line_of refusal) err err' → IsOfAnAnswer ended
      → IsAnswered words old new out out' ended err err'
  answered_refused ended refusal err err' is (inl w) told of = record {
    answer = refuses refusal;
    is = inl (w.formless, ap refuses w.refusal_is);
    status_is = is;
    left = (w.files_stay, w.out_stays);
    told = told;
  }
  answered_refused ended refusal err err' is (inr t) told of =
      let a = answer_left t.request refusal (subst IsOfAnAnswer is of) t.left in
      record { answer = refuses refusal; is = inr (t.request, t.asked, a.0); status_is = is; left = a.1; told = told }

  pub answered_done : (err err' : SinkState) → IsDone words old new out out' → Told [] err err' → IsAnswered words old new out out' status.Done err err'
  answered_done err err' done quiet =
      record { answer = gives done.achieved.output; is = inr (done.request, done.asked, done.achieved.is); status_is = refl; left = done.achieved.stands; told = quiet }

  pub asked_left : (request : Request) (refusal : Refusal) → Asks words request → IsRefused words old new out out' refusal → Leaves request old new out out' refusal
  asked_left request refusal asked (inl w) = absurd (w.formless (request, asked))
  asked_left request refusal asked (inr t) = subst (λ r. Leaves r old new out out' refusal) (one_request words t.request request t.asked asked) t.left

  pub asked_done : (request : Request) → Asks words request → IsDone words old new out out' → Achieves old new out out' request
  asked_done request asked done = subst (Achieves old new out out') (one_request words done.request request done.asked asked) done.achieved

-- what is printed of a request has few slots
pub few_most : (request : Request) → most_slots_of request ≤ most_slots
few_most (to_translate r) = few_by r.rule
few_most (to_bound r) = omega arith
few_most (to_decode r) = omega arith
few_most (to_encode r) = omega arith
few_most (to_validate r) = omega arith
few_most (to_make r) = omega arith
few_most (to_prune r) = omega arith

-- A number of slots that is given and past a limit.
module _ (n : ℕ) (request : Request) (e : slots_given request ≡ Some n) (many : most_slots_of request < n) where
  not_within : IsWithin request → ⊥
  not_within inside =
      let few : n ≤ most_slots_of request = subst (λ z. IfSome z (λ m. m ≤ most_slots_of request)) e inside in omega (arith, few, many)

  same_given : (m : ℕ) → slots_given request ≡ Some m → m ≡ n
  same_given m f = let g : Some m ≡ Some n = sym f ∙ e in cc

  abbrev Past : Answer → Type 0
  Past (refuses refusal) = RefusesSlots (most_slots_of request) n refusal
  Past (gives output) = ⊥

  past_for : (texts : List (List ℕ)) (a : Answer) → IsAnswerFor request texts a → Past a
  past_for texts a (past_slots m refusal none f past) = subst (λ z. RefusesSlots (most_slots_of request) z refusal) (same_given m f) past
  past_for texts a (too_large refusal inside size) = absurd (not_within inside)
  past_for texts a (faulty refusal inside whole fault) = absurd (not_within inside)
  past_for texts a (declined refusal inside whole x) = absurd (not_within inside)
  past_for texts a (given output inside whole x fits) = absurd (not_within inside)

  module _ (old new : FilesState) (out out' : SinkState) where
    abbrev Unchanged : Type 0
    Unchanged = (new ≡ old) × (out' ≡ out)

    past_failed : (f : Failure) → LeavesFailed request old new out out' f → ⊥
    past_failed (failure.Reading name) left = not_within left.0
    past_failed (failure.Writing name) (output, is, fails, stays) = past_for is.texts (gives output) is.answers
    past_failed failure.Telling (output, is, stands) = past_for is.texts (gives output) is.answers
    past_failed failure.Memory left = not_within left.0

    past_left : (refusal : Refusal) → Leaves request old new out out' refusal → RefusesSlots (most_slots_of request) n refusal × Unchanged
    past_left refused.Words left = (past_for left.0.texts (refuses refused.Words) left.0.answers, (left.1, left.2))
    past_left (refused.Fault place code) left = (past_for left.0.texts (refuses (refused.Fault place code)) left.0.answers, (left.1, left.2))
    past_left (refused.Limit l) left = (past_for left.0.texts (refuses (refused.Limit l)) left.0.answers, (left.1, left.2))
    past_left (refused.Finding f) left = (past_for left.0.texts (refuses (refused.Finding f)) left.0.answers, (left.1, left.2))
    past_left (refused.Failure f) left = absurd (past_failed f left)

is_past_all : (most n : ℕ) (refusal : Refusal) → RefusesSlots most n refusal → 2 ^ 128 ≤ n → refusal ≡ refused.Limit limit.Bound
is_past_all most n (refused.Limit limit.Bound) past l = refl
is_past_all most n (refused.Limit (limit.Slots m)) (e, many, few) l = absurd (omega (arith, few, l))
is_past_all most n _ past l = absurd past

is_past_slots : (most n : ℕ) (refusal : Refusal) → RefusesSlots most n refusal → n < 2 ^ 128 → refusal ≡ refused.Limit (limit.Slots n)
is_past_slots most n (refused.Limit limit.Bound) past l = absurd (omega (arith, past, l))
is_past_slots most n (refused.Limit (limit.Slots m)) (e, many, few) l = ap (λ z. refused.Limit (limit.Slots z)) e
is_past_slots most n _ past l = absurd past

module _ (words : List Word) (old new : FilesState) (out out' : SinkState) where
  abbrev IsPast : ℕ → Refusal → Type 0
  IsPast n refusal = (most : ℕ) × RefusesSlots most n refusal × ((new ≡ old) × (out' ≡ out))

  past_asked : (n : ℕ) (refusal : Refusal) → IsRefused words old new out out' refusal → AskForTooMany words n → IsPast n refusal
  past_asked n refusal left (request, asked, e, many) =
      let x = past_left n request e many old new out out' refusal (asked_left words old new out out' request refusal asked left) in
      (most_slots_of request, x.0, x.1)

  -- a number past all is past any limit
  pub too_many : (n : ℕ) → AskForSlots words n → 2 ^ 128 ≤ n → AskForTooMany words n
  too_many n (request, asked, e) past = (request, asked, e, (let few = few_most request in omega (arith, few, past)))

  pub past_all : (n : ℕ) (refusal : Refusal) → IsRefused words old new out out' refusal → AskForSlots words n → 2 ^ 128 ≤ n → (refusal ≡ refused.Limit limit.Bound) × ((new ≡ old) × (out' ≡ out))
  past_all n refusal left asks past = let x = past_asked n refusal left (too_many n asks past) in (is_past_all x.0 n refusal x.1 past, x.2)

  pub past_slots_too : (n : ℕ) (refusal : Refusal) → IsRefused words old new out out' refusal → AskForTooMany words n → n < 2 ^ 128 → (refusal ≡ refused.Limit (limit.Slots n)) × ((new ≡ old) × (out' ≡ out))
  past_slots_too n refusal left asks few = let x = past_asked n refusal left asks in (is_past_slots x.0 n refusal x.1 few, x.2)

  -- a request past a limit is not done
  pub past_not_done : (n : ℕ) → IsDone words old new out out' → AskForTooMany words n → ⊥
  past_not_done n done (request, asked, e, many) =
      let achieved = asked_done words old new out out' request asked done in
      past_for n request e many achieved.is.texts (gives achieved.output) achieved.is.answers

-- what is told of a refusal that is this one
pub refused_for : (old new : FilesState) (out out' err err' : SinkState) (ended : Status) (refusal other : Refusal) → ended ≡ status_of refusal → refusal ≡ other → (new ≡ old) × (out' ≡ out) → Told (line_of refusal) err err'
    → IsRefusedFor old new out out' other ended err err'
refused_for old new out out' err err' ended refusal other is e stays told =
    record { status_is = is ∙ ap status_of e; told = subst (λ r. Told (line_of r) err err') e told; files_stay = stays.0; out_stays = stays.1 }

-- Faults of reading and writing come where a count rose.
module _ (old new : FilesState) (out out' : SinkState) where
  abbrev WriteHasFailed : Type 0
  WriteHasFailed = HasRisen old.put_faults new.put_faults ⊎ HasRisen out.faults out'.faults

  write_fault_left : (request : Request) (refusal : Refusal) → Leaves request old new out out' refusal → status_of refusal ≡ status.WriteFault → WriteHasFailed
  write_fault_left request refused.Words left e = absurd (cc)
  write_fault_left request (refused.Fault place code) left e = absurd (cc)
  write_fault_left request (refused.Limit l) left e = absurd (cc)
  write_fault_left request (refused.Finding f) left e = absurd (cc)
  write_fault_left request (refused.Failure (failure.Reading name)) left e = absurd (cc)
  write_fault_left request (refused.Failure (failure.Writing name)) (output, is, fails, stays) e = inl fails.put_faults.has_risen
  write_fault_left request (refused.Failure failure.Telling) (output, is, stands) e = inr stands.1.faults.has_risen
  write_fault_left request (refused.Failure failure.Memory) left e = absurd (cc)

  pub write_fault : (words : List Word) (refusal : Refusal) → IsRefused words old new out out' refusal → status_of refusal ≡ status.WriteFault → WriteHasFailed
  write_fault words refusal (inl w) e = absurd (let f = sym (ap status_of w.refusal_is) ∙ e in cc)
  write_fault words refusal (inr t) e = write_fault_left t.request refusal t.left e

  read_fault_left : (request : Request) (refusal : Refusal) → Leaves request old new out out' refusal → status_of refusal ≡ status.ReadFault → HasRisen old.get_faults new.get_faults
  read_fault_left request refused.Words left e = absurd (cc)
  read_fault_left request (refused.Fault place code) left e = absurd (cc)
  read_fault_left request (refused.Limit l) left e = absurd (cc)
  read_fault_left request (refused.Finding f) left e = absurd (cc)
  read_fault_left request (refused.Failure (failure.Reading name)) left e = left.1.fails.get_faults.has_risen
  read_fault_left request (refused.Failure (failure.Writing name)) left e = absurd (cc)
  read_fault_left request (refused.Failure failure.Telling) left e = absurd (cc)
  read_fault_left request (refused.Failure failure.Memory) left e = absurd (cc)

  pub read_fault : (words : List Word) (refusal : Refusal) → IsRefused words old new out out' refusal → status_of refusal ≡ status.ReadFault → HasRisen old.get_faults new.get_faults
  read_fault words refusal (inl w) e = absurd (let f = sym (ap status_of w.refusal_is) ∙ e in cc)
  read_fault words refusal (inr t) e = read_fault_left t.request refusal t.left e

-- A count that rose shows in the status, and what is refused before the first put leaves all as it was.
module _ (old new : FilesState) (out out' : SinkState) where
  pub record Shows (ended : Status) : Type 0 where
    pub get : old.get_faults < new.get_faults → ended ≡ status.ReadFault
    pub put : old.put_faults < new.put_faults → ended ≡ status.WriteFault
    pub write : out.faults < out'.faults → ended ≡ status.WriteFault
    pub untouched : IsBeforePuts ended → IsUntouched old new out out'

  same_gets : new ≡ old → new.get_faults ≡ old.get_faults
  same_gets e = ap (λ (files : FilesState). files.get_faults) e

  same_puts : new ≡ old → new.put_faults ≡ old.put_faults
  same_puts e = ap (λ (files : FilesState). files.put_faults) e

  same_writes : out' ≡ out → out'.faults ≡ out.faults
  same_writes e = ap (λ (sink : SinkState). sink.faults) e

  none_rose : (ended : Status) → new.get_faults ≡ old.get_faults → new.put_faults ≡ old.put_faults → out'.faults ≡ out.faults → (IsBeforePuts ended → IsUntouched old new out out') → Shows ended
  none_rose ended get_same put_same write_same untouched = record { get = λ l. absurd (omega (arith, l, get_same)); put = λ l. absurd (omega (arith, l, put_same)); write = λ l. absurd (omega (arith, l, write_same)); untouched = untouched }

  still : (ended : Status) → new ≡ old → out' ≡ out → Shows ended
  still ended e f = none_rose ended (same_gets e) (same_puts e) (same_writes f) (λ before. record { held = ap (λ (files : FilesState). files.held) e; written = f })

  failing : new.get_faults ≡ old.get_faults → Shows status.WriteFault
  failing gets = record { get = λ l. absurd (omega (arith, l, gets)); put = λ l. refl; write = λ l. refl; untouched = λ before. absurd before }

  starved : (request : Request) → LeavesStarved request old new out out' → Shows status.NoMemory
  starved request (inl (e, f)) = still status.NoMemory e f
  starved request (inr (inl (output, is, part, f))) = none_rose status.NoMemory part.stand.faults.get_faults part.stand.faults.put_faults (same_writes f) (λ before. absurd before)
  starved request (inr (inr (output, is, stands))) = none_rose status.NoMemory stands.0.faults.get_faults stands.0.faults.put_faults stands.1.faults (λ before. absurd before)

  left_shows : (request : Request) (refusal : Refusal) → Leaves request old new out out' refusal → Shows (status_of refusal)
  left_shows request refused.Words left = still _ left.1 left.2
  left_shows request (refused.Fault place code) left = still _ left.1 left.2
  left_shows request (refused.Limit l) left = still _ left.1 left.2
  left_shows request (refused.Finding f) left = still _ left.1 left.2
  left_shows request (refused.Failure (failure.Reading name)) left = record {
    get = λ l. refl;
    put = λ l. absurd (let e = left.1.fails.put_faults in omega (arith, l, e));
    write = λ l. absurd (let e = same_writes left.2 in omega (arith, l, e));
    untouched = λ before. record { held = left.1.fails.held; written = left.2 };
  }
  left_shows request (refused.Failure (failure.Writing name)) (output, is, fails, stays) = failing fails.get_faults
  left_shows request (refused.Failure failure.Telling) (output, is, stands) = failing stands.0.faults.get_faults
  left_shows request (refused.Failure failure.Memory) left = starved request left.1

  refused_shows : (words : List Word) (refusal : Refusal) → IsRefused words old new out out' refusal → Shows (status_of refusal)
  refused_shows words refusal (inl w) = subst (λ r. Shows (status_of r)) (sym w.refusal_is) (still status.Words w.files_stay w.out_stays)
  refused_shows words refusal (inr t) = left_shows t.request refusal t.left

  pub shows : (words : List Word) (refusal : Refusal) (ended : Status) → ended ≡ status_of refusal → IsRefused words old new out out' refusal → Shows ended
  shows words refusal ended is left = subst Shows (sym is) (refused_shows words refusal left)

-- A command without outputs leaves what the files hold.
gives_no_text : (request : Request) → outputs_of request ≡ [] → (texts : List (List ℕ)) (output : Output) → Gives request texts output → output.texts ≡ []
gives_no_text (to_translate r) none texts output x = absurd (cc)
gives_no_text (to_make r) none texts output x = absurd (cc)
gives_no_text (to_prune r) none texts output x = absurd (cc)
gives_no_text (to_bound r) none (d ∷ p ∷ []) output (n, has, small, e) = ap (λ (z : Output). z.texts) e
gives_no_text (to_decode r) none (d ∷ p ∷ l ∷ []) output (c, steps, slots, text, source, have, e) = ap (λ (z : Output). z.texts) e
gives_no_text (to_encode r) none (d ∷ p ∷ l ∷ []) output (c, plan, text, source, is, e) = ap (λ (z : Output). z.texts) e
gives_no_text (to_validate r) none (d ∷ p ∷ l ∷ []) output (are, e) = ap (λ (z : Output). z.texts) e
gives_no_text _ none texts output x = absurd x

module _ (request : Request) (none : outputs_of request ≡ []) (old new : FilesState) (out out' : SinkState) where
  abbrev Textless : Answer → Type 0
  Textless (refuses refusal) = Unit {0}
  Textless (gives output) = output.texts ≡ []

  textless : (texts : List (List ℕ)) (a : Answer) → IsAnswerFor request texts a → Textless a
  textless texts a (past_slots m refusal nothing f past) = tt
  textless texts a (too_large refusal inside size) = tt
  textless texts a (faulty refusal inside whole fault) = tt
  textless texts a (declined refusal inside whole x) = tt
  textless texts a (given output inside whole x fits) = gives_no_text request none texts output x

  abbrev Held : Type 0
  Held = new.held ≡ old.held

  same_held : new ≡ old → Held
  same_held e = ap (λ (files : FilesState). files.held) e

  not_part : (xs done left : List Text) (x : Text) → xs ≡ [] → xs ≡ done ++ x ∷ left → ⊥
  not_part xs [] left x e f = let g : [] ≡ x ∷ left = sym e ∙ f in cc
  not_part xs (y ∷ done) left x e f = let g : [] ≡ y ∷ (done ++ x ∷ left) = sym e ∙ f in cc

  stood : (output : Output) → IsAnswer request old (gives output) → Stand output.texts old new → Held
  stood output is stand = same_held (stand.nothing (textless is.texts (gives output) is.answers))

  pub done_stays : Achieves old new out out' request → Held
  done_stays achieved = stood achieved.output achieved.is achieved.stands.0

  left_stays : (refusal : Refusal) → Leaves request old new out out' refusal → Held
  left_stays refused.Words left = same_held left.1
  left_stays (refused.Fault place code) left = same_held left.1
  left_stays (refused.Limit l) left = same_held left.1
  left_stays (refused.Finding f) left = same_held left.1
  left_stays (refused.Failure (failure.Reading name)) left = left.1.fails.held
  left_stays (refused.Failure (failure.Writing name)) (output, is, fails, stays) = absurd (not_part output.texts fails.done fails.left fails.text (textless is.texts (gives output) is.answers) fails.parts)
  left_stays (refused.Failure failure.Telling) (output, is, stands) = stood output is stands.0
  left_stays (refused.Failure failure.Memory) (inside, inl (e, f)) = same_held e
  left_stays (refused.Failure failure.Memory) (inside, inr (inl (output, is, part, f))) = absurd (not_part output.texts part.done part.left part.text (textless is.texts (gives output) is.answers) part.parts)
  left_stays (refused.Failure failure.Memory) (inside, inr (inr (output, is, stands))) = stood output is stands.0

module _ (words : List Word) (old new : FilesState) (out out' : SinkState) where
  pub stays_done : IsDone words old new out out' → AskForNoFile words → new.held ≡ old.held
  stays_done done (request, asked, none) = done_stays request none old new out out' (asked_done words old new out out' request asked done)

  pub stays_refused : (refusal : Refusal) → IsRefused words old new out out' refusal → AskForNoFile words → new.held ≡ old.held
  stays_refused refusal left (request, asked, none) = left_stays request none old new out out' refusal (asked_left words old new out out' request refusal asked left)

-- where nothing failed, a status is that of an answer, or of want of memory
pub calm : (ended : Status) → (ended ≡ status.ReadFault → ⊥) → (ended ≡ status.WriteFault → ⊥) → (ended ≡ status.NoMemory) ⊎ IsOfAnAnswer ended
calm status.Done read write = inr tt
calm status.TextFault read write = inr tt
calm status.Words read write = inr tt
calm status.ReadFault read write = absurd (read refl)
calm status.WriteFault read write = absurd (write refl)
calm status.NoMemory read write = inl refl
calm status.Finding read write = inr tt
calm status.Limit read write = inr tt

-- Words are refused as words where they are of no form.
abbrev NotWords : Answer → Type 0
NotWords (refuses refused.Words) = ⊥
NotWords _ = Unit {0}

module _ (request : Request) (texts : List (List ℕ)) where
  past_words : (most n : ℕ) (refusal : Refusal) → RefusesSlots most n refusal → NotWords (refuses refusal)
  past_words most n refused.Words x = x
  past_words most n _ x = tt

  size_words : (refusal : Refusal) → RefusesSize request texts refusal → NotWords (refuses refusal)
  size_words refused.Words x = x
  size_words _ x = tt

  fault_words : (refusal : Refusal) → RefusesFault request texts refusal → NotWords (refuses refusal)
  fault_words refused.Words x = x
  fault_words _ x = tt

  declined_words : (refusal : Refusal) → (Refuses request texts refused.Words → ⊥) → Refuses request texts refusal → NotWords (refuses refusal)
  declined_words refused.Words none x = none x
  declined_words _ none x = tt

  not_words : (Refuses request texts refused.Words → ⊥) → (a : Answer) → IsAnswerFor request texts a → NotWords a
  not_words none a (past_slots n refusal nothing f past) = past_words (most_slots_of request) n refusal past
  not_words none a (too_large refusal inside size) = size_words refusal size
  not_words none a (faulty refusal inside whole x) = fault_words refusal x
  not_words none a (declined refusal inside whole x) = declined_words refusal none x
  not_words none a (given output inside whole x fits) = tt

never_words : (request : Request) (texts : List (List ℕ)) → Refuses request texts refused.Words → ⊥
never_words (to_translate r) (d ∷ p ∷ []) x = x
never_words (to_bound r) (d ∷ p ∷ []) x = x
never_words (to_decode r) (d ∷ p ∷ l ∷ []) x = x
never_words (to_encode r) (d ∷ p ∷ l ∷ []) x = x
never_words (to_validate r) (d ∷ p ∷ l ∷ []) x = x
never_words (to_make r) [] x = x
never_words (to_prune r) (d ∷ p ∷ []) x = x
never_words _ _ x = x

pub no_words : (request : Request) (texts : List (List ℕ)) → IsAnswerFor request texts (refuses refused.Words) → ⊥
no_words request texts is = not_words request texts (never_words request texts) (refuses refused.Words) is

module _ (words : List Word) (old new : FilesState) (out out' : SinkState) where
  words_left : (request : Request) (refusal : Refusal) → Leaves request old new out out' refusal → status_of refusal ≡ status.Words → ⊥
  words_left request refused.Words left e = not_words request left.0.texts (never_words request left.0.texts) (refuses refused.Words) left.0.answers
  words_left request (refused.Fault place code) left e = cc
  words_left request (refused.Limit l) left e = cc
  words_left request (refused.Finding f) left e = cc
  words_left request (refused.Failure (failure.Reading name)) left e = cc
  words_left request (refused.Failure (failure.Writing name)) left e = cc
  words_left request (refused.Failure failure.Telling) left e = cc
  words_left request (refused.Failure failure.Memory) left e = cc

  formless_by : (refusal : Refusal) → IsRefused words old new out out' refusal → status_of refusal ≡ status.Words → AreOfAForm words → ⊥
  formless_by refusal (inl w) e formed = w.formless formed
  formless_by refusal (inr t) e formed = words_left t.request refusal t.left e

  words_by : (refusal : Refusal) → IsRefused words old new out out' refusal → (AreOfAForm words → ⊥) → status_of refusal ≡ status.Words
  words_by refusal (inl w) formless = ap status_of w.refusal_is
  words_by refusal (inr t) formless = absurd (formless (t.request, t.asked))

  pub words_refused : (ended : Status) (refusal : Refusal) → ended ≡ status_of refusal → IsRefused words old new out out' refusal → (ended ≡ status.Words) ↔ (AreOfAForm words → ⊥)
  words_refused ended refusal is left = (λ e. formless_by refusal left (sym is ∙ e), λ formless. is ∙ words_by refusal left formless)
