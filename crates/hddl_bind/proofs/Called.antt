-- Look-ups of declarations and of ids by the places of their numbers, and lists of these as they grow.
use Rattle.std.proofs.Common.{ℕ, suc, ◌≡◌, ◌+◌, ◌<◌, Bool, true, false, cond, eqb, List, [], ◌∷◌, ◌++◌, Option, Some, None, map, length, take, get_or, slice_get, refl, ap, sym, ◌∙◌, append_assoc, append-nil, arith}
use Rattle.std.specs.Prelude.{option_map}
use Rattle.std.specs.Option.{option_and_then}
use Rattle.std.proofs.lemmas.List.{take_more, map_more, length-map, length-take-le}
use Rattle.plan_model.specs.declared.networks.Head.{Head}
use Rattle.gd_reader.specs.declared.term.RawTerm.{RawTerm}
use Rattle.hddl_reader.specs.declared.sections.RawAction.{RawAction}
use Rattle.hddl_reader.specs.declared.sections.RawHead.{RawHead}
use Rattle.hddl_reader.specs.declared.networks.RawSub.{RawSub}
use Rattle.name_binding.specs.declared.faults.Spot.{Spot}
use Rattle.name_binding.specs.Places.{first_place}
use Rattle.name_binding.specs.Spots.{noted}
use Rattle.name_binding.proofs.Noted.{noted-append}
use Rattle.hddl_bind.specs.declared.callables.Callable.{Callable}
use Rattle.hddl_bind.specs.Callables.{number, callable, callables_from, heads, first_called}
use Rattle.hddl_bind.specs.Seconds.{if_known, seconds}
use Rattle.hddl_bind.specs.Ids.{term_number, id_at, ids, has_id, subtask_of, subtask_at, AreIds}

-- one place further in a longer list
get_later : {A : Type 0} (x : A) (xs : List A) (o : Option ℕ) → option_and_then (slice_get (x ∷ xs)) (option_map suc o) ≡ option_and_then (slice_get xs) o
get_later x xs None = refl
get_later x xs (Some k) = refl

pub get_first : (n : ℕ) (xs : List Callable) → option_and_then (slice_get xs) (first_place n (map number xs)) ≡ first_called n xs
get_first n [] = refl
get_first n (x ∷ xs) = go (eqb n (number x)) (get_first n xs)
  where
    go : (b : Bool) → option_and_then (slice_get xs) (first_place n (map number xs)) ≡ first_called n xs
        → option_and_then (slice_get (x ∷ xs)) (cond b (Some 0) (option_map suc (first_place n (map number xs)))) ≡ cond b (Some x) (first_called n xs)
    go true e = refl
    go false e = get_later x xs (first_place n (map number xs)) ∙ e

pub callables_from-push : (head : ℕ → Head) (k : ℕ) (hs : List RawHead) (h : RawHead) → callables_from head k (hs ++ h ∷ []) ≡ callables_from head k hs ++ callable (head (k + length hs)) h ∷ []
callables_from-push head k [] h = let e : k ≡ k + 0 = omega arith in ap (λ m. callable (head m) h ∷ []) e
callables_from-push head k (g ∷ hs) h =
    let e : suc k + length hs ≡ k + suc (length hs) = omega arith in
    ap (λ cs. callable (head k) g ∷ cs) (callables_from-push head (suc k) hs h ∙ ap (λ m. callables_from head (suc k) hs ++ callable (head m) h ∷ []) e)

-- one declaration more
pub callables_from_more : (head : ℕ → Head) (hs : List RawHead) (k : ℕ) (d : RawHead) → k < length hs → callables_from head 0 (take (k + 1) hs) ≡ callables_from head 0 (take k hs) ++ callable (head k) (get_or hs k d) ∷ []
callables_from_more head hs k d l =
    let e : 0 + length (take k hs) ≡ k = omega (arith, length-take-le k hs (omega arith)) in
    ap (callables_from head 0) (take_more hs k d l) ∙ callables_from-push head 0 (take k hs) (get_or hs k d)
    ∙ ap (λ m. callables_from head 0 (take k hs) ++ callable (head m) (get_or hs k d) ∷ []) e

pub callables_from-heads_more : (head : ℕ → Head) (xs : List RawAction) (k : ℕ) (d : RawAction) → k < length xs → callables_from head 0 (heads (take (k + 1) xs)) ≡ callables_from head 0 (heads (take k xs)) ++ callable (head k) (get_or xs k d).head ∷ []
callables_from-heads_more head xs k d l =
    let e : 0 + length (heads (take k xs)) ≡ k = omega (arith, length-map (take k xs) (λ (a : RawAction). a.head), length-take-le k xs (omega arith)) in
    ap (callables_from head 0) (map_more (λ (a : RawAction). a.head) xs k d l) ∙ callables_from-push head 0 (heads (take k xs)) (get_or xs k d).head
    ∙ ap (λ m. callables_from head 0 (heads (take k xs)) ++ callable (head m) (get_or xs k d).head ∷ []) e

module _ {X : Type 0} (number at : X → ℕ) where
  pub seconds-append : (before : List ℕ) (xs ys : List X) → seconds number at before (xs ++ ys) ≡ seconds number at before xs ++ seconds number at (before ++ map number xs) ys
  seconds-append before [] ys = ap (λ ns. seconds number at ns ys) (sym (append-nil before))
  seconds-append before (x ∷ xs) ys =
      let here = if_known (first_place (number x) before) (at x) in
      ap (λ ss. here ++ ss) (seconds-append (before ++ number x ∷ []) xs ys ∙ ap (λ ns. seconds number at (before ++ number x ∷ []) xs ++ seconds number at ns ys) (append_assoc before (number x ∷ []) (map number xs)))
      ∙ sym (append_assoc here (seconds number at (before ++ number x ∷ []) xs) (seconds number at (before ++ (number x ∷ map number xs)) ys))

  -- what is noted where more names are declared behind others
  pub noted-seconds : (least : Option Spot) (before : List ℕ) (xs ys : List X) → noted least (seconds number at before (xs ++ ys)) ≡ noted (noted least (seconds number at before xs)) (seconds number at (before ++ map number xs) ys)
  noted-seconds least before xs ys =
      ap (noted least) (seconds-append before xs ys) ∙ noted-append least (seconds number at before xs) (seconds number at (before ++ map number xs) ys)

  pub noted-seconds_more : (least : Option Spot) (before : List ℕ) (xs : List X) (k : ℕ) (d : X) → k < length xs
      → noted least (seconds number at before (take (k + 1) xs)) ≡ noted (noted least (seconds number at before (take k xs))) (if_known (first_place (number (get_or xs k d)) (before ++ map number (take k xs))) (at (get_or xs k d)))
  noted-seconds_more least before xs k d l =
      ap (λ zs. noted least (seconds number at before zs)) (take_more xs k d l) ∙ noted-seconds least before (take k xs) (get_or xs k d ∷ [])
      ∙ ap (noted (noted least (seconds number at before (take k xs)))) (append-nil (if_known (first_place (number (get_or xs k d)) (before ++ map number (take k xs))) (at (get_or xs k d))))

  pub seconds_step : (before known : List ℕ) (xs : List X) (i : ℕ) (x d : X) (n a : ℕ) → i < length xs → x ≡ get_or xs i d → known ≡ before ++ map number (take i xs) → n ≡ number x → a ≡ at x
      → (old now new : Option Spot) → now ≡ noted old (seconds number at before (take i xs)) → new ≡ noted now (if_known (first_place n known) a) → new ≡ noted old (seconds number at before (take (i + 1) xs))
  seconds_step before known xs i x d n a l is k e f old now new g h =
      h ∙ ap (λ o. noted o (if_known (first_place n known) a)) g
      ∙ ap (λ m. noted (noted old (seconds number at before (take i xs))) (if_known (first_place m known) a)) (e ∙ ap number is)
      ∙ ap (λ m. noted (noted old (seconds number at before (take i xs))) (if_known (first_place (number (get_or xs i d)) m) a)) k
      ∙ ap (λ m. noted (noted old (seconds number at before (take i xs))) (if_known (first_place (number (get_or xs i d)) (before ++ map number (take i xs))) m)) (f ∙ ap at is)
      ∙ sym (noted-seconds_more old before xs i d l)

-- the number of the subtask of each id
abbrev pub id_places : ℕ → List RawSub → List ℕ
id_places k [] = []
id_places k (s ∷ ss) = map (λ _. k) (id_at s.id) ++ id_places (suc k) ss

pub ids-push : (ss : List RawSub) (s : RawSub) → ids (ss ++ s ∷ []) ≡ ids ss ++ id_at s.id
ids-push [] s = append-nil (id_at s.id)
ids-push (r ∷ ss) s = ap (λ ts. id_at r.id ++ ts) (ids-push ss s) ∙ sym (append_assoc (id_at r.id) (ids ss) (id_at s.id))

pub id_places-push : (k : ℕ) (ss : List RawSub) (s : RawSub) → id_places k (ss ++ s ∷ []) ≡ id_places k ss ++ map (λ _. k + length ss) (id_at s.id)
id_places-push k [] s = let e : k ≡ k + 0 = omega arith in append-nil (map (λ _. k) (id_at s.id)) ∙ ap (λ m. map (λ (_ : RawTerm). m) (id_at s.id)) e
id_places-push k (r ∷ ss) s =
    let e : suc k + length ss ≡ k + suc (length ss) = omega arith in
    ap (λ ns. map (λ (_ : RawTerm). k) (id_at r.id) ++ ns) (id_places-push (suc k) ss s ∙ ap (λ m. id_places (suc k) ss ++ map (λ (_ : RawTerm). m) (id_at s.id)) e)
    ∙ sym (append_assoc (map (λ _. k) (id_at r.id)) (id_places (suc k) ss) (map (λ _. k + suc (length ss)) (id_at s.id)))

pub ids_more : (ss : List RawSub) (k : ℕ) (d : RawSub) → k < length ss → ids (take (k + 1) ss) ≡ ids (take k ss) ++ id_at (get_or ss k d).id
ids_more ss k d l = ap ids (take_more ss k d l) ∙ ids-push (take k ss) (get_or ss k d)

pub id_places_more : (ss : List RawSub) (k : ℕ) (d : RawSub) → k < length ss → id_places 0 (take (k + 1) ss) ≡ id_places 0 (take k ss) ++ map (λ _. k) (id_at (get_or ss k d).id)
id_places_more ss k d l =
    let e : 0 + length (take k ss) ≡ k = omega (arith, length-take-le k ss (omega arith)) in
    ap (id_places 0) (take_more ss k d l) ∙ id_places-push 0 (take k ss) (get_or ss k d)
    ∙ ap (λ m. id_places 0 (take k ss) ++ map (λ (_ : RawTerm). m) (id_at (get_or ss k d).id)) e

-- the first id of a number is that of the first subtask with the id
abbrev shifted : ℕ → Option ℕ → Option ℕ
shifted k o = option_map (λ i. k + i) o

shifted_suc : (k : ℕ) (o : Option ℕ) → shifted (suc k) o ≡ shifted k (option_map suc o)
shifted_suc k None = refl
shifted_suc k (Some i) = let e : suc k + i ≡ k + suc i = omega arith in ap Some e

shifted_zero : (o : Option ℕ) → shifted 0 o ≡ o
shifted_zero None = refl
shifted_zero (Some i) = let e : 0 + i ≡ i = omega arith in ap Some e

ids_at : (k n : ℕ) (ss : List RawSub) → subtask_at (map term_number (ids ss)) (id_places k ss) n ≡ shifted k (subtask_of n ss)
ids_at k n [] = refl
ids_at k n (s ∷ ss) = go s.id (ids_at (suc k) n ss)
  where
    go : (o : Option RawTerm) → subtask_at (map term_number (ids ss)) (id_places (suc k) ss) n ≡ shifted (suc k) (subtask_of n ss)
        → subtask_at (map term_number (id_at o ++ ids ss)) (map (λ _. k) (id_at o) ++ id_places (suc k) ss) n ≡ shifted k (cond (has_id n o) (Some 0) (option_map suc (subtask_of n ss)))
    go None e = e ∙ shifted_suc k (subtask_of n ss)
    go (Some t) e = at (eqb n t.name.number)
      where
        at : (b : Bool) → option_and_then (slice_get (k ∷ id_places (suc k) ss)) (cond b (Some 0) (option_map suc (first_place n (map term_number (ids ss))))) ≡ shifted k (cond b (Some 0) (option_map suc (subtask_of n ss)))
        at true = let z : k ≡ k + 0 = omega arith in ap Some z
        at false = get_later k (id_places (suc k) ss) (first_place n (map term_number (ids ss))) ∙ e ∙ shifted_suc k (subtask_of n ss)

pub are_ids : (ss : List RawSub) → AreIds ss (map term_number (ids ss)) (id_places 0 ss)
are_ids ss n = ids_at 0 n ss ∙ shifted_zero (subtask_of n ss)

pub subtask_within : (n i : ℕ) (ss : List RawSub) → subtask_of n ss ≡ Some i → i < length ss
subtask_within n i [] e = absurd cc
subtask_within n i (s ∷ ss) e = go (has_id n s.id) (subtask_of n ss) (λ j f. subtask_within n j ss f) refl e
  where
    go : (b : Bool) (o : Option ℕ) → ((j : ℕ) → subtask_of n ss ≡ Some j → j < length ss) → subtask_of n ss ≡ o → cond b (Some 0) (option_map suc o) ≡ Some i → i < suc (length ss)
    go true o h f g = let z : 0 ≡ i = cc in omega arith
    go false None h f g = absurd cc
    go false (Some j) h f g = let z : suc j ≡ i = cc in let l = h j f in omega arith
