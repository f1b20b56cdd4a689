-- Words have one answer at most.
use Rattle.std.proofs.Common.{ℕ, ◌≡◌, ◌≤◌, ◌++◌, List, [], ◌∷◌, length, Option, Some, IfSome, codes, refl, sym, ◌∙◌, subst, inl, inr, arith}
use Rattle.htn_base.specs.Limits.{longest_output}
use Rattle.outside_io.specs.Files.{FilesState}
use Rattle.command_words.specs.Names.{Word}
use Rattle.command_words.specs.Words.{TranslationRequest, BoundRequest, DecodeRequest, EncodeRequest, ValidationRequest, MakeRequest, PruneRequest, Request, to_translate, to_bound, to_decode, to_encode, to_validate, to_make, to_prune}
use Rattle.command_words.proofs.Requests.{one_request}
use Rattle.encode_answers.specs.EncodeLaws.{EachIsEncodedOnce, EachIsSpelledOnce, ValuesAreEncodedAlike}
use Rattle.ground_answers.specs.GroundLaws.{ValuesHaveOneGroundBound}
use Rattle.htn_cli.specs.Answer.{Output, Answer, refuses, gives}
use Rattle.htn_cli.specs.Answers.{Refuses, Gives, RefusesFault, RefusesSize, IsAnswerFor, past_slots, too_large, faulty, declined, given, IsAnswer, IsAnswerTo}
use Rattle.htn_cli.specs.Inputs.{AreWhole}
use Rattle.htn_cli.specs.OneAnswer.{AreTold, TellTheSame, EachHasOneAnswer}
use Rattle.htn_cli.specs.Requests.{inputs_of, slots_given, most_slots_of, IsWithin}
use Rattle.htn_cli.specs.Slots.{RefusesSlots}
use Rattle.htn_cli.specs.declared.refusal.Limit.TheVariants as limit
use Rattle.htn_cli.specs.declared.refusal.Refusal.{Refusal}
use Rattle.htn_cli.specs.declared.refusal.Refusal.TheVariants as refused
use Rattle.htn_cli.proofs.DecodedByForm.{EachIsDecodedOnceAs, ValuesAreDecodedAlikeAs}
use Rattle.htn_cli.proofs.EncodedByForm.{EachIsEncodedOnceAs, ValuesAreEncodedAlikeAs}
use Rattle.htn_cli.proofs.OneBound.{BoundComes, one_bounded}
use Rattle.htn_cli.proofs.OneDecoding.{DecodeComes, one_decoded}
use Rattle.htn_cli.proofs.OneEncoding.{EncodeComes, same_answer, one_encoded}
use Rattle.htn_cli.proofs.Endings.{few_most}
use Rattle.htn_cli.proofs.OneFault.{one_fault, fault_not_declined, fault_not_given}
use Rattle.htn_cli.proofs.OneInput.{Agree, agree, whole_same, large_not_whole, one_large}
use Rattle.htn_cli.proofs.OneMaking.{MakeComes, one_made}
use Rattle.htn_cli.proofs.OnePruning.{PruneComes, one_pruned}
use Rattle.htn_cli.proofs.OneSlots.{past_few, one_past}
use Rattle.htn_cli.proofs.OneTranslation.{TranslationComes, one_translated}
use Rattle.htn_cli.proofs.OneValidation.{PlanComes, one_validated}

-- what follows from texts without a fault: what is told has a limit
abbrev Comes : Request → List (List ℕ) → Answer → Type 0
Comes request texts (refuses refusal) = Refuses request texts refusal
Comes request texts (gives output) = Gives request texts output × (length output.told ≤ longest_output)

translation_comes : (r : TranslationRequest) (d p : List ℕ) (a : Answer) → Comes (to_translate r) (d ∷ p ∷ []) a → TranslationComes r d p a
translation_comes r d p (refuses refusal) is = is
translation_comes r d p (gives output) is = is.0

bound_comes : (r : BoundRequest) (d p : List ℕ) (a : Answer) → Comes (to_bound r) (d ∷ p ∷ []) a → BoundComes r d p a
bound_comes r d p (refuses refusal) is = is
bound_comes r d p (gives output) is = is.0

decode_comes : (r : DecodeRequest) (d p l : List ℕ) (a : Answer) → Comes (to_decode r) (d ∷ p ∷ l ∷ []) a → DecodeComes r d p l a
decode_comes r d p l (refuses refusal) is = is
decode_comes r d p l (gives output) is = is

encode_comes : (r : EncodeRequest) (d p l : List ℕ) (a : Answer) → Comes (to_encode r) (d ∷ p ∷ l ∷ []) a → EncodeComes r d p l a
encode_comes r d p l (refuses refusal) is = is
encode_comes r d p l (gives output) is = is

plan_comes : (r : ValidationRequest) (d p l : List ℕ) (a : Answer) → Comes (to_validate r) (d ∷ p ∷ l ∷ []) a → PlanComes d p l a
plan_comes r d p l (refuses refusal) is = is
plan_comes r d p l (gives output) is = is.0

make_comes : (r : MakeRequest) (a : Answer) → Comes (to_make r) [] a → MakeComes r a
make_comes r (refuses refusal) is = is
make_comes r (gives output) is = is

prune_comes : (r : PruneRequest) (d p : List ℕ) (a : Answer) → Comes (to_prune r) (d ∷ p ∷ []) a → PruneComes r d p a
prune_comes r d p (refuses refusal) is = is
prune_comes r d p (gives output) is = is.0

nothing_comes : (request : Request) (texts : List (List ℕ)) → ((refusal : Refusal) → Refuses request texts refusal → ⊥) → ((output : Output) → Gives request texts output → ⊥) → (a : Answer) → Comes request texts a → ⊥
nothing_comes request texts r g (refuses refusal) is = r refusal is
nothing_comes request texts r g (gives output) is = g output is.0

-- how far a run comes: a number of slots, a text that is too large, a fault, or what follows from the texts
data Stage (request : Request) (texts : List (List ℕ)) : Answer → Type 0 where
  before : (n : ℕ) (refusal : Refusal) → slots_given request ≡ Some n → RefusesSlots (most_slots_of request) n refusal → Stage request texts (refuses refusal)
  large : (refusal : Refusal) → IsWithin request → RefusesSize request texts refusal → Stage request texts (refuses refusal)
  fault : (refusal : Refusal) → IsWithin request → AreWhole (inputs_of request) texts → RefusesFault request texts refusal → Stage request texts (refuses refusal)
  come : (a : Answer) → IsWithin request → AreWhole (inputs_of request) texts → Comes request texts a → Stage request texts a

stage : (request : Request) (texts : List (List ℕ)) (a : Answer) → IsAnswerFor request texts a → Stage request texts a
stage request texts a (past_slots n refusal none e past) = before n refusal e past
stage request texts a (too_large refusal inside size) = large refusal inside size
stage request texts a (faulty refusal inside whole f) = fault refusal inside whole f
stage request texts a (declined refusal inside whole x) = come (refuses refusal) inside whole x
stage request texts a (given output inside whole x fits) = come (gives output) inside whole (x, fits)

inside_few : (most : ℕ) (o : Option ℕ) (n : ℕ) → o ≡ Some n → IfSome o (λ m. m ≤ most) → n ≤ most
inside_few most o n e few = subst (λ z. IfSome z (λ m. m ≤ most)) e few

not_inside : (request : Request) (n : ℕ) (refusal : Refusal) → slots_given request ≡ Some n → RefusesSlots (most_slots_of request) n refusal → IsWithin request → ⊥
not_inside request n refusal e past inside =
    let few = inside_few (most_slots_of request) (slots_given request) n e inside in
    let many = past_few (most_slots_of request) n (few_most request) refusal past in
    omega (arith, few, many)

same_number : (o : Option ℕ) (n m : ℕ) → o ≡ Some n → o ≡ Some m → n ≡ m
same_number o n m e f = let g : Some n ≡ Some m = sym e ∙ f in cc

large_word : (request : Request) (texts : List (List ℕ)) (refusal : Refusal) → RefusesSize request texts refusal → (others : List (List ℕ)) → AreWhole (inputs_of request) others → Agree texts others → ⊥
large_word request texts (refused.Limit (limit.Bytes name)) size others whole e = large_not_whole (inputs_of request) texts others name.now size whole e
large_word request texts _ size others whole e = absurd size

same_size : (request : Request) (texts others : List (List ℕ)) (a b : Refusal) → RefusesSize request texts a → RefusesSize request others b → Agree texts others → TellTheSame (refuses a) (refuses b)
same_size request texts others (refused.Limit (limit.Bytes name)) (refused.Limit (limit.Bytes word)) size also e =
    let same = one_large (inputs_of request) texts others name.now word.now size also e in
    record { status = refl; line = λ i. codes "limit " ++ codes "bytes" ++ (codes " " ++ same i) ++ codes "\n"; output = refl }
same_size request texts others (refused.Limit (limit.Bytes name)) _ size also e = absurd also
same_size request texts others _ b size also e = absurd size

not_both : (request : Request) (texts : List (List ℕ)) (f : Refusal) (a : Answer) → RefusesFault request texts f → Comes request texts a → ⊥
not_both request texts f (refuses refusal) x y = fault_not_declined request texts f refusal x y
not_both request texts f (gives output) x y = fault_not_given request texts f output x y.0

module _ (once : EachIsDecodedOnceAs) (alike : ValuesAreDecodedAlikeAs) (once_encoded : EachIsEncodedOnceAs) (alike_encoded : ValuesAreEncodedAlikeAs) (encoded_once : EachIsEncodedOnce) (encoded_alike : ValuesAreEncodedAlike) (spelled_once : EachIsSpelledOnce) (ground : ValuesHaveOneGroundBound) where
  one_comes : (request : Request) (texts : List (List ℕ)) (a b : Answer) → Comes request texts a → Comes request texts b → TellTheSame a b
  one_comes (to_translate r) (d ∷ p ∷ []) a b is also = one_translated r d p ground a b (translation_comes r d p a is) (translation_comes r d p b also)
  one_comes (to_bound r) (d ∷ p ∷ []) a b is also = one_bounded ground r d p a b (bound_comes r d p a is) (bound_comes r d p b also)
  one_comes (to_decode r) (d ∷ p ∷ l ∷ []) a b is also = one_decoded once alike ground r d p l a b (decode_comes r d p l a is) (decode_comes r d p l b also)
  one_comes (to_encode r) (d ∷ p ∷ l ∷ []) a b is also = one_encoded once_encoded alike_encoded r d p l a b (encode_comes r d p l a is) (encode_comes r d p l b also)
  one_comes (to_validate r) (d ∷ p ∷ l ∷ []) a b is also = one_validated d p l a b (plan_comes r d p l a is) (plan_comes r d p l b also)
  one_comes (to_make r) [] a b is also = one_made encoded_once encoded_alike spelled_once ground r a b (make_comes r a is) (make_comes r b also)
  one_comes (to_prune r) (d ∷ p ∷ []) a b is also = one_pruned r d p a b (prune_comes r d p a is) (prune_comes r d p b also)
  one_comes request texts a b is also = absurd (nothing_comes request texts (λ refusal x. x) (λ output x. x) a is)

  module _ (request : Request) (texts others : List (List ℕ)) (e : Agree texts others) (f : Agree others texts) where
    moved : (P : List (List ℕ) → Type 0) → AreWhole (inputs_of request) texts → AreWhole (inputs_of request) others → P others → P texts
    moved P whole also x = subst P (sym (whole_same (inputs_of request) texts others whole also e)) x

    same_stage : (a b : Answer) → Stage request texts a → Stage request others b → TellTheSame a b
    same_stage a b (before n r g past) (before m q h also) = one_past (most_slots_of request) n m (same_number (slots_given request) n m g h) r q past also
    same_stage a b (before n r g past) (large q inside x) = absurd (not_inside request n r g past inside)
    same_stage a b (before n r g past) (fault q inside whole x) = absurd (not_inside request n r g past inside)
    same_stage a b (before n r g past) (come q inside whole x) = absurd (not_inside request n r g past inside)
    same_stage a b (large r inside x) (before n q g past) = absurd (not_inside request n q g past inside)
    same_stage a b (large r inside x) (large q within y) = same_size request texts others r q x y e
    same_stage a b (large r inside x) (fault q within whole y) = absurd (large_word request texts r x others whole e)
    same_stage a b (large r inside x) (come q within whole y) = absurd (large_word request texts r x others whole e)
    same_stage a b (fault r inside whole x) (before n q g past) = absurd (not_inside request n q g past inside)
    same_stage a b (fault r inside whole x) (large q within y) = absurd (large_word request others q y texts whole f)
    same_stage a b (fault r inside whole x) (fault q within also y) = one_fault request texts r q x (moved (λ z. RefusesFault request z q) whole also y)
    same_stage a b (fault r inside whole x) (come q within also y) = absurd (not_both request texts r q x (moved (λ z. Comes request z q) whole also y))
    same_stage a b (come r inside whole x) (before n q g past) = absurd (not_inside request n q g past inside)
    same_stage a b (come r inside whole x) (large q within y) = absurd (large_word request others q y texts whole f)
    same_stage a b (come r inside whole x) (fault q within also y) = absurd (not_both request texts q r (moved (λ z. RefusesFault request z q) whole also y) x)
    same_stage a b (come r inside whole x) (come q within also y) = one_comes request texts r q x (moved (λ z. Comes request z q) whole also y)

  one_by : (request : Request) (files : FilesState) → AreTold files → (one other : Answer) → IsAnswer request files one → IsAnswer request files other → TellTheSame one other
  one_by request files told one other is also =
      same_stage request is.texts also.texts
      (agree files told (inputs_of request) is.texts also.texts is.got also.got)
      (agree files told (inputs_of request) also.texts is.texts also.got is.got)
      one other (stage request is.texts one is.answers) (stage request also.texts other also.answers)

  one_to : (words : List Word) (files : FilesState) → AreTold files → (one other : Answer) → IsAnswerTo words files one → IsAnswerTo words files other → TellTheSame one other
  one_to words files told one other (inl (formless, is)) (inl (also, are)) = same_answer one other (is ∙ sym are)
  one_to words files told one other (inl (formless, is)) (inr (request, asked, are)) = absurd (formless (request, asked))
  one_to words files told one other (inr (request, asked, is)) (inl (formless, are)) = absurd (formless (request, asked))
  one_to words files told one other (inr (request, asked, is)) (inr (again, also, are)) =
      one_by request files told one other is (subst (λ r. IsAnswer r files other) (one_request words again request also asked) are)

  pub each_has_one_answer : EachHasOneAnswer
  each_has_one_answer = one_to
