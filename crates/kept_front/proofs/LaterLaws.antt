-- The followers of a child grow pair by pair.
use Rattle.std.proofs.Common.{ℕ, ◌≡◌, ◌≢◌, ◌+◌, ◌<◌, ◌≤◌, ◌==◌, Bool, true, false, cond, List, [], ◌∷◌, ◌++◌, map, filter, take, length, get_or, set, refl, ap, sym, subst, ◌∙◌, append-nil, eq-eqb, eqb-true, get_or-set_same, get_or-set_other, arith}
use Rattle.std.proofs.Math.Decide.{ℕ_discrete}
use Rattle.std.proofs.lemmas.List.{map-append, length-take-le, get_or_default}
use Rattle.std.proofs.lemmas.List.Elements.{filter_more, All-get_or}
use Rattle.std.proofs.lemmas.List.Filters.{length-filter_more}
use Rattle.plan_model.specs.declared.networks.Pair.{Pair}
use Rattle.plan_model.specs.net_order.Meaning.{AreBelow}
use Rattle.kept_front.specs.Later.{followers, predecessors}

map_cond : (b : Bool) (p : Pair) → map (λ (p : Pair). p.then) (cond b (p ∷ []) []) ≡ cond b (p.then ∷ []) []
map_cond true p = refl
map_cond false p = refl

pub followers_more : (pairs : List Pair) (n i : ℕ) (d : Pair) → n < length pairs → followers (take (n + 1) pairs) i ≡ followers (take n pairs) i ++ cond ((get_or pairs n d).first == i) ((get_or pairs n d).then ∷ []) []
followers_more pairs n i d l =
    let test = λ (p : Pair). p.first == i in
    ap (map (λ (p : Pair). p.then)) (filter_more test pairs n d l)
    ∙ map-append (λ (p : Pair). p.then) (filter test (take n pairs)) (cond (test (get_or pairs n d)) (get_or pairs n d ∷ []) [])
    ∙ ap (λ z. followers (take n pairs) i ++ z) (map_cond (test (get_or pairs n d)) (get_or pairs n d))

-- a list for each child, to which the next pair adds
pub pushed : (lists : List (List ℕ)) (pairs : List Pair) (n : ℕ) (d : Pair) → n < length pairs → (get_or pairs n d).first < length lists → ((i : ℕ) → get_or lists i [] ≡ followers (take n pairs) i) → (i : ℕ)
    → get_or (set lists (get_or pairs n d).first (get_or lists (get_or pairs n d).first [] ++ (get_or pairs n d).then ∷ [])) i [] ≡ followers (take (n + 1) pairs) i
pushed lists pairs n d l m each i = elim (ℕ_discrete i p.first) [ yes e ↦ here e | no x ↦ other x ]
  where
    p : Pair
    p = get_or pairs n d

    here : i ≡ p.first → get_or (set lists p.first (get_or lists p.first [] ++ p.then ∷ [])) i [] ≡ followers (take (n + 1) pairs) i
    here e =
        subst (λ z. get_or (set lists p.first (get_or lists p.first [] ++ p.then ∷ [])) z [] ≡ followers (take (n + 1) pairs) z) (sym e)
        (get_or-set_same lists p.first (get_or lists p.first [] ++ p.then ∷ []) [] m
        ∙ ap (λ z. z ++ p.then ∷ []) (each p.first)
        ∙ sym (followers_more pairs n p.first d l ∙ ap (λ b. followers (take n pairs) p.first ++ cond b (p.then ∷ []) []) (eq-eqb p.first p.first refl)))

    no_more : (b : Bool) → (p.first == i) ≡ b → i ≢ p.first → followers (take n pairs) i ≡ followers (take n pairs) i ++ cond b (p.then ∷ []) []
    no_more true e x = absurd (x (sym (eqb-true p.first i e)))
    no_more false e x = sym (append-nil (followers (take n pairs) i))

    other : i ≢ p.first → get_or (set lists p.first (get_or lists p.first [] ++ p.then ∷ [])) i [] ≡ followers (take (n + 1) pairs) i
    other x =
        get_or-set_other lists p.first i (get_or lists p.first [] ++ p.then ∷ []) [] x ∙ each i
        ∙ no_more (p.first == i) refl x
        ∙ sym (followers_more pairs n i d l)

predecessors_more : (pairs : List Pair) (n j : ℕ) (d : Pair) → n < length pairs → predecessors (take (n + 1) pairs) j ≡ predecessors (take n pairs) j + cond ((get_or pairs n d).then == j) 1 0
predecessors_more pairs n j d l = length-filter_more (λ (p : Pair). p.then == j) pairs n d l

-- as many as have been gone over at most
filter_short : {A : Type 0} (test : A → Bool) (xs : List A) → length (filter test xs) ≤ length xs
filter_short test [] = omega arith
filter_short test (x ∷ xs) = go (test x) (filter_short test xs)
  where
    go : (b : Bool) → length (filter test xs) ≤ length xs → length (cond b (x ∷ filter test xs) (filter test xs)) ≤ length (x ∷ xs)
    go true l = omega arith
    go false l = omega arith

pub predecessors_short : (pairs : List Pair) (n j : ℕ) → n ≤ length pairs → predecessors (take n pairs) j ≤ n
predecessors_short pairs n j m = let l = filter_short (λ (p : Pair). p.then == j) (take n pairs) in let k = length-take-le n pairs m in omega arith

-- the number at the end of the next pair is one more
pub counted : (counts : List ℕ) (pairs : List Pair) (n : ℕ) (d : Pair) → n < length pairs → (get_or pairs n d).then < length counts → ((j : ℕ) → get_or counts j 0 ≡ predecessors (take n pairs) j) → (j : ℕ)
    → get_or (set counts (get_or pairs n d).then (get_or counts (get_or pairs n d).then 0 + 1)) j 0 ≡ predecessors (take (n + 1) pairs) j
counted counts pairs n d l m each j = elim (ℕ_discrete j p.then) [ yes e ↦ here e | no x ↦ other x ]
  where
    p : Pair
    p = get_or pairs n d

    here : j ≡ p.then → get_or (set counts p.then (get_or counts p.then 0 + 1)) j 0 ≡ predecessors (take (n + 1) pairs) j
    here e =
        subst (λ z. get_or (set counts p.then (get_or counts p.then 0 + 1)) z 0 ≡ predecessors (take (n + 1) pairs) z) (sym e)
        (get_or-set_same counts p.then (get_or counts p.then 0 + 1) 0 m
        ∙ ap (λ z. z + 1) (each p.then)
        ∙ sym (predecessors_more pairs n p.then d l ∙ ap (λ b. predecessors (take n pairs) p.then + cond b 1 0) (eq-eqb p.then p.then refl)))

    no_more : (b : Bool) → (p.then == j) ≡ b → j ≢ p.then → predecessors (take n pairs) j ≡ predecessors (take n pairs) j + cond b 1 0
    no_more true e x = absurd (x (sym (eqb-true p.then j e)))
    no_more false e x = omega arith

    other : j ≢ p.then → get_or (set counts p.then (get_or counts p.then 0 + 1)) j 0 ≡ predecessors (take (n + 1) pairs) j
    other x =
        get_or-set_other counts p.then j (get_or counts p.then 0 + 1) 0 x ∙ each j
        ∙ no_more (p.then == j) refl x
        ∙ sym (predecessors_more pairs n j d l)

-- the number that is read at the end of the next pair
pub few_read : (children : ℕ) (counts : List ℕ) (pairs list : List Pair) (n x : ℕ) (d : Pair) → AreBelow children pairs → length counts ≡ children → list ≡ pairs → n < length list
    → ((j : ℕ) → get_or counts j 0 ≡ predecessors (take n pairs) j) → x ≡ get_or counts (get_or list n d).then x → x ≤ n
few_read children counts pairs list n x d below room same l each e =
    let m : n < length pairs = subst (λ z. n < length z) same l in
    let b = (All-get_or (λ (p : Pair). (p.first < children) × (p.then < children)) pairs n d m below).1 in
    let f : x ≡ get_or counts (get_or pairs n d).then x = subst (λ z. x ≡ get_or counts (get_or z n d).then x) same e in
    let g = get_or_default counts (get_or pairs n d).then x 0 (omega arith) in
    let h = each (get_or pairs n d).then in
    let s = predecessors_short pairs n (get_or pairs n d).then (omega arith) in
    let v : x ≡ predecessors (take n pairs) (get_or pairs n d).then = f ∙ g ∙ h in
    omega arith
