-- Words and their numbers: what has a number, one more word, and the first words.
use Rattle.std.proofs.Common.{◌≡◌, ℕ, ◌-◌, ◌<◌, ◌^◌, List, [], ◌∷◌, ◌++◌, length, Bool, true, false, cond, Some, None, refl, sym, ap, subst, Contains, ◌∙◌, arith, take, get_or, slice_get}
use Rattle.std.specs.List.{list_any, position_or_len}
use Rattle.std.specs.Str.{bytes_eq}
use Rattle.std.proofs.lemmas.Bool.{lt-ltb}
use Rattle.std.proofs.lemmas.List.{length-append, length-take, get_or-take, get_or_default}
use Rattle.std.proofs.Math.Nat.{min-le_left, min-le_right}
use Rattle.std.proofs.lemmas.List.Elements.{All-push, All-take, All-get_or}
use Rattle.std.proofs.lemmas.List.Quantifiers.{position-Some}
use Rattle.std.proofs.lemmas.List.Folds.{list_any_at, list_any_none}
use Rattle.std.proofs.lemmas.List.Sums.{position_or_len_is}
use Rattle.std.proofs.lemmas.Map.Views.{Contains-from_any}
use Rattle.std.proofs.lemmas.Option.{slice_get_within, slice_get-get_or, get_or_from_slice_get}
use Rattle.std.proofs.lemmas.Slice.Eq.{bytes_eq-Decides}
use Rattle.std.proofs.lemmas.Str.Ascii.{lowercase-lowercase}
use Rattle.htn_base.specs.Words.{folded, IsFolded}
use Rattle.htn_base.specs.Different.{AreDifferent}
use Rattle.htn_base.specs.Table.{number_of, with_word, IsNewWord, IsTable}
use Rattle.htn_base.proofs.DifferentLemmas.{different-push, different-take, different-places}

-- a word that has a number in a table is in lower case, and putting it there changes nothing
module _ (words : List (List ℕ)) (word : List ℕ) (table : IsTable words) (n : ℕ) (known : number_of words word ≡ Some n) where
  stands : (n < length words) × (word ≡ get_or words n word)
  stands = let found = position-Some (bytes_eq word) words n word known in (found.0, (bytes_eq-Decides word _).0 found.1)

  pub known-folded : folded word ≡ word
  known-folded = subst IsFolded (sym stands.1) (All-get_or IsFolded words n word stands.0 table.folded)

  pub known-number : number_of words (folded word) ≡ Some n
  known-number = ap (number_of words) known-folded ∙ known

  pub known-same : with_word words (folded word) ≡ words
  known-same = ap (with_word words) known-folded ∙ ap (λ there. cond there words (words ++ word ∷ []))
      (list_any_at (bytes_eq word) words n word stands.0 ((bytes_eq-Decides word _).1 stands.1))

-- a word of a table does not stand in front of its own place
module _ (words : List (List ℕ)) (word : List ℕ) (n : ℕ) (differ : AreDifferent words) (e : slice_get words n ≡ Some word) where
  earlier : (k : ℕ) → k < n → bytes_eq word (get_or words k []) ≡ false
  earlier k less = by (bytes_eq word (get_or words k [])) refl
    where
      by : (same : Bool) → bytes_eq word (get_or words k []) ≡ same → bytes_eq word (get_or words k []) ≡ false
      by false f = f
      by true f = absurd (different-places words differ k n [] less (slice_get_within words n word e)
          (sym ((bytes_eq-Decides word (get_or words k [])).0 f) ∙ sym (get_or_from_slice_get words n word [] e)))

  -- so its place is its number
  pub number_there : number_of words word ≡ Some n
  number_there =
      let below = slice_get_within words n word e in
      let is : get_or words n [] ≡ word = get_or_from_slice_get words n word [] e in
      let first = position_or_len_is (bytes_eq word) words n [] (omega arith) earlier (λ _. (bytes_eq-Decides word (get_or words n [])).1 (sym is)) in
      let found = lt-ltb _ _ (subst (λ k. k < length words) (sym first) below) in
      ap (λ t. cond t (Some (position_or_len (bytes_eq word) words)) None) found ∙ ap Some first

  -- and it does not stand among those in front of it
  pub new_there : list_any (bytes_eq word) (take n words) ≡ false
  new_there = list_any_none (bytes_eq word) (take n words) λ k d l.
      let less : k < n = omega (arith, l, length-take n words, min-le_left n (length words)) in
      let within : k < length words = omega (arith, less, slice_get_within words n word e) in
      ap (bytes_eq word) (get_or-take n words k d less ∙ get_or_default words k d [] within) ∙ earlier k less

-- the first words of a table are a table
pub IsTable-take : (n : ℕ) (words : List (List ℕ)) → IsTable words → IsTable (take n words)
IsTable-take n words table = record {
  differ = different-take n words table.differ;
  folded = All-take IsFolded n words table.folded;
  short = let short = table.short in omega (arith, length-take n words, min-le_right n (length words));
}

pub IsFolded-folded : (word : List ℕ) → IsFolded (folded word)
IsFolded-folded [] = refl
IsFolded-folded (byte ∷ word) = λ i. lowercase-lowercase byte i ∷ IsFolded-folded word i

-- the item behind all others
read_last : {X : Type 0} (xs : List X) (x : X) → slice_get (xs ++ x ∷ []) (length xs) ≡ Some x
read_last [] x = refl
read_last (y ∷ xs) x = read_last xs x

-- a word without a number does not stand among the words
module _ (words : List (List ℕ)) (word : List ℕ) (differ : AreDifferent words) (new : number_of words word ≡ None) where
  absent : Contains words word → ⊥
  absent (k, below, same) =
      let number = number_there words word k differ (slice_get-get_or words k word below ∙ ap (λ w. Some w) same) in
      cc (sym number ∙ new)

  -- so it comes behind them
  pub with-new : with_word words word ≡ words ++ word ∷ []
  with-new = by (list_any (bytes_eq word) words) refl
    where
      by : (there : Bool) → list_any (bytes_eq word) words ≡ there → cond there words (words ++ word ∷ []) ≡ words ++ word ∷ []
      by true e = absurd (absent (Contains-from_any (λ one other. (bytes_eq-Decides one other).0) word words e))
      by false e = refl

  -- and its number is how many they are
  pub number-last : number_of (words ++ word ∷ []) word ≡ Some (length words)
  number-last = number_there (words ++ word ∷ []) word (length words) (different-push words word differ absent) (read_last words word)

-- a table with one more word is a table
pub IsTable-push : (words : List (List ℕ)) (word : List ℕ) → IsTable words → length words < 2 ^ 32 - 1 → IsNewWord words word → IsTable (words ++ word ∷ [])
IsTable-push words word table room new = record {
  differ = different-push words word table.differ (absent words word table.differ new.new);
  folded = All-push IsFolded words word table.folded new.folded;
  short = omega (arith, length-append words (word ∷ []), table.short, room);
}

-- the next word of a table, put among those in front of it, comes behind them
pub words-next : (words : List (List ℕ)) (word : List ℕ) (n : ℕ) → IsTable words → slice_get words n ≡ Some word
    → with_word (take n words) (folded word) ≡ take n words ++ word ∷ []
words-next words word n table e =
    let low = known-folded words word table n (number_there words word n table.differ e) in
    ap (with_word (take n words)) low ∙ ap (λ there. cond there (take n words) (take n words ++ word ∷ [])) (new_there words word n table.differ e)
