-- Types that are written: the numbers and the words that stand for them.
use Rattle.std.proofs.Common.{ℕ, zero, suc, ◌≡◌, ◌<◌, ◌+◌, Bool, true, false, cond, inl, inr, List, [], ◌∷◌, ◌++◌, map, length, get_or, Option, Some, None, refl, sym, ap, subst, ◌∙◌, nat_eq, not, ◌||◌, arith}
use Rattle.std.specs.Prelude.{Contains, option_map, position}
use Rattle.std.specs.List.{position_or_len}
use Rattle.std.specs.Str.{bytes_eq}
use Rattle.std.proofs.lemmas.Bool.{cond-true, cond-false, eqb-true, lt-ltb}
use Rattle.std.proofs.lemmas.List.{get_or-append-add, length-map}
use Rattle.std.proofs.lemmas.List.Quantifiers.{position-Some}
use Rattle.htn_base.specs.Different.{AreDifferent}
use Rattle.text_forms.specs.Words.{Word, word_at, first_place}
use Rattle.plan_texts.specs.Declared.{one_word}
use Rattle.plan_texts.proofs.Basics.{bytes_eq-true, bytes_eq-refl}
use Rattle.htn_base.specs.Lists.{One, Has}
use Rattle.name_binding.specs.Seen.{is_among, first_seen}

pub contains_has : {X : Type 0} (xs : List X) (x : X) → Contains xs x → Has xs x
contains_has [] x c = absurd (let l = c.1 in omega arith)
contains_has (y ∷ xs) x (zero, l, e) = inl e
contains_has (y ∷ xs) x (suc k, l, e) = inr (contains_has xs x (k, omega arith, e))

pub has_contains : {X : Type 0} (xs : List X) (x : X) → Has xs x → Contains xs x
has_contains [] x h = absurd h
has_contains (y ∷ xs) x (inl e) = (0, omega arith, e)
has_contains (y ∷ xs) x (inr h) = let c = has_contains xs x h in let l = c.1 in (suc c.0, omega arith, c.2)

pub has_of_map : {X Y : Type 0} (f : X → Y) (xs : List X) (y : Y) → Has (map f xs) y → One (λ x. f x ≡ y) xs
has_of_map f [] y h = absurd h
has_of_map f (x ∷ xs) y (inl h) = inl h
has_of_map f (x ∷ xs) y (inr h) = inr (has_of_map f xs y h)

pub has_to_map : {X Y : Type 0} (f : X → Y) (xs : List X) (y : Y) → One (λ x. f x ≡ y) xs → Has (map f xs) y
has_to_map f [] y h = absurd h
has_to_map f (x ∷ xs) y (inl h) = inl h
has_to_map f (x ∷ xs) y (inr h) = inr (has_to_map f xs y h)

-- the word that has a place stands there
pub first_is : (w : Word) (ws : List Word) (k : ℕ) → first_place w ws ≡ Some k → (k < length ws) × (word_at ws k ≡ w)
first_is w [] k e = absurd (cc)
first_is w (u ∷ ws) k e = go (bytes_eq w u) refl e (first_is w ws)
  where
    behind : (o : Option ℕ) → first_place w ws ≡ o → option_map suc o ≡ Some k → ((j : ℕ) → first_place w ws ≡ Some j → (j < length ws) × (word_at ws j ≡ w)) → (k < suc (length ws)) × (word_at (u ∷ ws) k ≡ w)
    behind None g f more = absurd (cc)
    behind (Some j) g f more =
        let is : suc j ≡ k = cc in
        let r = more j g in
        let l = r.0 in
        subst (λ k. (k < suc (length ws)) × (word_at (u ∷ ws) k ≡ w)) is (omega arith, r.1)

    go : (x : Bool) → bytes_eq w u ≡ x → cond x (Some 0) (option_map suc (first_place w ws)) ≡ Some k → ((j : ℕ) → first_place w ws ≡ Some j → (j < length ws) × (word_at ws j ≡ w)) → (k < suc (length ws)) × (word_at (u ∷ ws) k ≡ w)
    go true g f more = let is : 0 ≡ k = cc in subst (λ k. (k < suc (length ws)) × (word_at (u ∷ ws) k ≡ w)) is (omega arith, sym (bytes_eq-true w u g))
    go false g f more = behind (first_place w ws) refl f more

-- a type alone, and a union behind all types
pub kind_alone : (ts : List Word) (us : List (List Word)) (k : ℕ) → k < length ts → get_or (map one_word ts ++ us) k [] ≡ one_word (word_at ts k)
kind_alone [] us k l = absurd (omega arith)
kind_alone (t ∷ ts) us zero l = refl
kind_alone (t ∷ ts) us (suc k) l = kind_alone ts us k (omega arith)

pub kind_union : (ts : List Word) (us : List (List Word)) (k : ℕ) → get_or (map one_word ts ++ us) (length ts + k) [] ≡ get_or us k []
kind_union ts us k = ap (λ n. get_or (map one_word ts ++ us) (n + k) []) (sym (length-map ts one_word)) ∙ get_or-append-add (map one_word ts) us k []

-- what stands in a list has a first place there
pub place_of_member : (us : List (List ℕ)) (ns : List ℕ) → Has us ns → (k : ℕ) × (position (bytes_eq ns) us ≡ Some k) × (k < length us) × (get_or us k [] ≡ ns)
place_of_member us ns h =
    let below = within us h in
    let is : position (bytes_eq ns) us ≡ Some (position_or_len (bytes_eq ns) us) = cond-true _ _ _ (lt-ltb _ _ below) in
    let p = position-Some (bytes_eq ns) us (position_or_len (bytes_eq ns) us) [] is in
    (position_or_len (bytes_eq ns) us, is, p.0, sym (bytes_eq-true ns _ p.1))
  where
    within : (us : List (List ℕ)) → Has us ns → position_or_len (bytes_eq ns) us < length us
    within [] h = absurd h
    within (u ∷ us) (inl e) = subst (λ b. cond (not b) (1 + position_or_len (bytes_eq ns) us) 0 < suc (length us)) (sym (ap (bytes_eq ns) e ∙ bytes_eq-refl ns)) (omega arith)
    within (u ∷ us) (inr h) = by (bytes_eq ns u) (within us h)
      where
        by : (b : Bool) → position_or_len (bytes_eq ns) us < length us → cond (not b) (1 + position_or_len (bytes_eq ns) us) 0 < suc (length us)
        by true l = omega arith
        by false l = omega arith

not_among : (n : ℕ) (seen : List ℕ) → (Has seen n → ⊥) → is_among n seen ≡ false
not_among n [] a = refl
not_among n (m ∷ seen) a = go (nat_eq n m) refl (not_among n seen (λ h. a (inr h)))
  where
    go : (b : Bool) → nat_eq n m ≡ b → is_among n seen ≡ false → (b || is_among n seen) ≡ false
    go true e f = absurd (a (inl (sym (eqb-true n m e))))
    go false e f = f

-- numbers that differ are seen as they are
pub seen_once : (seen ns : List ℕ) → AreDifferent ns → ((n : ℕ) → Has ns n → Has seen n → ⊥) → first_seen seen ns ≡ ns
seen_once seen [] d a = refl
seen_once seen (n ∷ ns) d a =
    cond-false _ _ _ (not_among n seen (a n (inl refl)))
    ∙ ap (λ ms. n ∷ ms) (seen_once (n ∷ seen) ns d.1 apart)
  where
    apart : (m : ℕ) → Has ns m → Has (n ∷ seen) m → ⊥
    apart m h (inl e) = d.0 (has_contains ns n (subst (Has ns) (sym e) h))
    apart m h (inr g) = a m (inr h) g
