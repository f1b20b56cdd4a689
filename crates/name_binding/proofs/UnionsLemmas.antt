-- The unions of one more part.
use Rattle.std.proofs.Common.{◌≡◌, ℕ, ◌+◌, ◌<◌, Bool, true, false, ◌||◌, List, [], ◌∷◌, ◌++◌, map, take, length, get_or, Result, Ok, Err, refl, sym, ap, subst, ◌∙◌, append-nil}
use Rattle.std.specs.Prelude.{OnErr}
use Rattle.std.specs.List.{list_any, fold}
use Rattle.std.specs.Str.{bytes_eq}
use Rattle.std.proofs.lemmas.Bool.{cond-true, cond-false}
use Rattle.std.proofs.lemmas.List.Folds.{list_any-append}
use Rattle.std.proofs.lemmas.Slice.Eq.{bytes_eq-Decides}
use Rattle.std.proofs.lemmas.List.Sums.{fold-append}
use Rattle.htn_base.specs.Table.{with_word}
use Rattle.std.proofs.lemmas.List.{append_assoc}
use Rattle.name_binding.specs.declared.unions.Either.{Either}
use Rattle.name_binding.specs.Unions.{joined, StartsWith}
use Rattle.name_binding.proofs.StepLemmas.{map-read}

joined-push : (uss : List (List Either)) (us : List Either) → joined (uss ++ us ∷ []) ≡ joined uss ++ us
joined-push [] us = append-nil us
joined-push (vs ∷ uss) us = ap (λ ws. vs ++ ws) (joined-push uss us) ∙ sym (append_assoc vs (joined uss) us)

-- what was put behind the others, before memory was wanting
pub starts-there : (old now : List Either) → now ≡ old → StartsWith old now
starts-there old now same = ([], same ∙ sym (append-nil old))

pub starts-more : (old now new xs : List Either) → now ≡ old ++ xs → StartsWith now new → StartsWith old new
starts-more old now new xs put (rest, more) = (xs ++ rest, more ∙ ap (λ us. us ++ rest) put ∙ append_assoc old xs rest)

pub starts-at : {T E : Type 0} (answer : Result T E) (old now new xs : List Either) → now ≡ old ++ xs → StartsWith now new → OnErr answer (StartsWith old new)
starts-at (Ok value) old now new xs put starts = tt
starts-at (Err error) old now new xs put starts = starts-more old now new xs put starts

pub joined-read : {A : Type 0} (f : A → List Either) (xs : List A) (i : ℕ) (x : A) (old now then : List Either)
    → i < length xs → x ≡ get_or xs i x → now ≡ old ++ joined (map f (take i xs)) → then ≡ now ++ f x → then ≡ old ++ joined (map f (take (i + 1) xs))
joined-read f xs i x old now then below read before more =
    more ∙ ap (λ us. us ++ f x) before ∙ append_assoc old (joined (map f (take i xs))) (f x)
    ∙ ap (λ us. old ++ us) (sym (joined-push (map f (take i xs)) (f x)) ∙ ap joined (sym (map-read xs i x x below read f)))

-- a word that was put among the others is there
pub with_word_twice : (words : List (List ℕ)) (word : List ℕ) → with_word (with_word words word) word ≡ with_word words word
with_word_twice words word = go (list_any (bytes_eq word) words) refl
  where
    go : (b : Bool) → list_any (bytes_eq word) words ≡ b → with_word (with_word words word) word ≡ with_word words word
    go true e =
        let same : with_word words word ≡ words = cond-true (list_any (bytes_eq word) words) words (words ++ word ∷ []) e in
        ap (λ ws. with_word ws word) same
    go false e =
        let more : with_word words word ≡ words ++ word ∷ [] = cond-false (list_any (bytes_eq word) words) words (words ++ word ∷ []) e in
        let there : list_any (bytes_eq word) (words ++ word ∷ []) ≡ true
        = list_any-append (bytes_eq word) words (word ∷ []) ∙ ap (λ b. b || list_any (bytes_eq word) (word ∷ [])) e ∙ ap (λ b. b || false) ((bytes_eq-Decides word word).1 refl) in
        ap (λ ws. with_word ws word) more
        ∙ cond-true (list_any (bytes_eq word) (words ++ word ∷ [])) (words ++ word ∷ []) ((words ++ word ∷ []) ++ word ∷ []) there
        ∙ sym more

pub put_is_there : (old : List (List ℕ)) (word : List ℕ) (new : List (List ℕ)) → new ≡ with_word old word → with_word new word ≡ new
put_is_there old word new e = subst (λ ws. with_word ws word ≡ ws) (sym e) (with_word_twice old word)

-- one more of what is put one after another
pub fold_read : {A B C : Type 0} (f : C → B → C) (g : A → B) (old : C) (xs : List A) (i : ℕ) (x : A) (now then : C)
    → i < length xs → x ≡ get_or xs i x → now ≡ fold f old (map g (take i xs)) → then ≡ f now (g x) → then ≡ fold f old (map g (take (i + 1) xs))
fold_read f g old xs i x now then below read before more =
    more ∙ ap (λ c. f c (g x)) before
    ∙ sym (fold-append f old (map g (take i xs)) (g x ∷ []))
    ∙ ap (fold f old) (sym (map-read xs i x x below read g))
