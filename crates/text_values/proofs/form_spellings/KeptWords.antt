-- What reading keeps: the words of the name table, and the names that stand in it.
use Rattle.std.proofs.Common.{◌≡◌, ℕ, ◌≤◌, ◌<◌, Bool, true, false, if◌then◌else◌, Ok, Err, Result, List, [], ◌∷◌, ◌++◌, Option, Some, None, length, position, refl, ap, arith, length-take}
use Rattle.std.proofs.lemmas.List.{length-append}
use Rattle.std.proofs.lemmas.List.Quantifiers.{position-Some}
use Rattle.std.specs.List.{list_any}
use Rattle.std.specs.Str.{bytes_eq}
use Rattle.htn_base.specs.Table.{with_word}
use Rattle.text_forms.specs.Lists.{nothing}
use Rattle.text_forms.specs.Placed.{Placed, cut, close, word, list, parts_of}
use Rattle.text_forms.specs.Words.{Word}
use Rattle.gd_reader.specs.declared.stop.Stop.{Stop}
use Rattle.gd_reader.specs.Answers.{◌>>=◌, end_due}
use Rattle.gd_reader.specs.Terms.{Names, Keeps, found, name_in}
use Rattle.gd_reader.proofs.Keeping.{keeps_same, keeps_then}
use Rattle.text_values.specs.form_spellings.InTable.{IsIn}
use Rattle.text_values.proofs.form_spellings.WordTests.{false_true}

-- where something is read, old words keep their places, and P holds of it and of each table with the words read so far
abbrev pub ReadsBy : {X S : Type 0} → (S → Names) → Names → Result (X × S) Stop → (X → Names → Type 0) → Type 0
ReadsBy of names (Ok x) P = Keeps names (of x.1) × ((table : Names) → Keeps (of x.1) table → P x.0 table)
ReadsBy of names (Err e) P = Unit {0}

abbrev pub Reads : {X : Type 0} → Names → Result (X × Names) Stop → (X → Names → Type 0) → Type 0
Reads names r P = ReadsBy (λ (n : Names). n) names r P

pub reads_then : {X Y S : Type 0} (of : S → Names) (P : X → Names → Type 0) (Q : Y → Names → Type 0) (names : Names) (r : Result (X × S) Stop) (f : X × S → Result (Y × Names) Stop)
    → ReadsBy of names r P → ((x : X × S) → Reads (of x.1) (f x) (λ y table. P x.0 table → Q y table)) → Reads names (r >>= f) Q
reads_then {X = X} {Y = Y} {S = S} of P Q names (Ok x) f a b = second (f x) (b x)
  where
    second : (s : Result (Y × Names) Stop) → Reads (of x.1) s (λ y table. P x.0 table → Q y table) → Reads names s Q
    second (Ok y) c = (keeps_then names (of x.1) y.1 a.0 c.0, λ table k. c.1 table k (a.1 table (keeps_then (of x.1) y.1 table c.0 k)))
    second (Err e) c = tt
reads_then of P Q names (Err e) f a b = tt

pub reads_map : {X Y : Type 0} (P : X → Names → Type 0) (Q : Y → Names → Type 0) (names : Names) (r : Result (X × Names) Stop) (h : X → Y)
    → Reads names r P → ((x : X) (table : Names) → P x table → Q (h x) table) → Reads names (r >>= (λ x. Ok (h x.0, x.1))) Q
reads_map P Q names (Ok x) h a b = (a.0, λ table k. b x.0 table (a.1 table k))
reads_map P Q names (Err e) h a b = tt

pub reads_weaken : {X : Type 0} (P Q : X → Names → Type 0) (names : Names) (r : Result (X × Names) Stop)
    → Reads names r P → ((x : X) (table : Names) → P x table → Q x table) → Reads names r Q
reads_weaken P Q names (Ok x) a b = (a.0, λ table k. b x.0 table (a.1 table k))
reads_weaken P Q names (Err e) a b = tt

-- behind what adds no word
pub reads_by : {X Y : Type 0} (P : Y → Names → Type 0) (names : Names) (r : Result X Stop) (f : X → Result (Y × Names) Stop) → ((x : X) → Reads names (f x) P) → Reads names (r >>= f) P
reads_by P names (Ok x) f a = a x
reads_by P names (Err e) f a = tt

-- a name that is due, and what is read behind it
pub due_then : {X Y Z : Type 0} (P : X → Names → Type 0) (Q : Y → Names → Type 0) (names : Names) (q : Z) (r : Result (X × Names) Stop) (g : (X × Z) × Names → Result (Y × Names) Stop)
    → Reads names r P → ((a : X × Names) → Reads a.1 (g ((a.0, q), a.1)) (λ y table. P a.0 table → Q y table)) → Reads names ((r >>= (λ a. Ok ((a.0, q), a.1))) >>= g) Q
due_then P Q names q (Ok x) g a b = reads_then (λ (n : Names). n) P Q names (Ok x) (λ a. g ((a.0, q), a.1)) a b
due_then P Q names q (Err e) g a b = tt

-- the end of the list behind it
pub reads_end : {X : Type 0} (Q : X → Names → Type 0) (q : Placed) (x : X × Names) → (parts_of q ≡ nothing → (table : Names) → Q x.0 table) → Reads x.1 (end_due q >>= (λ _. Ok x)) Q
unfolding end_due
reads_end Q cut x b = tt
reads_end Q (close at) x b = (keeps_same x.1, λ table k. b refl table)
reads_end Q (word at w p) x b = tt
reads_end Q (list at p q) x b = tt

found_in : (p : Word → Bool) (xs : List Word) → 0 < length xs → found (position p xs) < length xs
found_in p xs some = go (position p xs) refl
  where
    go : (o : Option ℕ) → position p xs ≡ o → found o < length xs
    go None e = some
    go (Some i) e = (position-Some p xs i [] e).0

has_words : (names : Names) (w : Word) → 0 < length (with_word names w)
has_words names w = go names (list_any (bytes_eq w) names) refl
  where
    go : (names : Names) (b : Bool) → list_any (bytes_eq w) names ≡ b → 0 < length (if b then names else names ++ w ∷ [])
    go [] true e = false_true e
    go (u ∷ names) true e = omega arith
    go names false e = let l = length-append names (w ∷ []) in omega arith

longer : (a b : Names) → Keeps a b → length a ≤ length b
longer a b e = omega (arith, length-take (length a) b, ap length e)

-- the name of a word stands in the table that has the word, and in each later one
pub name_stands : (names : Names) (w : Word) (table : Names) → Keeps (with_word names w) table → IsIn table (name_in names w)
name_stands names w table k =
    let f = found_in (bytes_eq w) (with_word names w) (has_words names w) in
    let l = longer (with_word names w) table k in
    omega arith
