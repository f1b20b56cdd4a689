-- Readings of the same tokens into two tables of words: what is the same of what they give.
use Rattle.std.proofs.Common.{◌≡◌, ◌<◌, ◌+◌, ℕ, Bool, true, false, ◌||◌, if◌then◌else◌, cond, not, Ok, Err, Result, List, [], ◌∷◌, ◌++◌, length, get_or, position, Some, None, refl, sym, ap, ◌∙◌, arith}
use Rattle.std.proofs.lemmas.Bool.{lt-ltb, or_left, or_right}
use Rattle.std.proofs.lemmas.List.Folds.{list_any-append}
use Rattle.std.proofs.lemmas.List.{get_or-take}
use Rattle.std.proofs.lemmas.List.Quantifiers.{position-Some}
use Rattle.std.specs.List.{list_any, position_or_len}
use Rattle.std.specs.Str.{bytes_eq}
use Rattle.htn_base.specs.Table.{with_word}
use Rattle.text_forms.specs.Words.{Word, word_at}
use Rattle.plan_texts.proofs.Basics.{bytes_eq-true, bytes_eq-refl}
use Rattle.gd_reader.specs.declared.stop.Stop.{Stop}
use Rattle.gd_reader.specs.Answers.{◌>>=◌}
use Rattle.gd_reader.specs.Terms.{Names, Keeps, found, name_in}
use Rattle.gd_reader.proofs.Keeping.{keeps_same, keeps_then, keeps_word}

-- a reader, and what is said of two things in two tables
abbrev pub Reader : Type 0 → Type 0
Reader X = Names → Result (X × Names) Stop

abbrev pub Tie : Type 0 → Type 1
Tie X = X → X → Names → Names → Type 0

-- where both are read, old words keep their places, and P holds of them in all tables with the words read so far
abbrev pub Tied : {X : Type 0} → Names → Names → Result (X × Names) Stop → Result (X × Names) Stop → Tie X → Type 0
Tied n m (Ok x) (Ok y) P = Keeps n x.1 × Keeps m y.1 × ((t u : Names) → Keeps x.1 t → Keeps y.1 u → P x.0 y.0 t u)
Tied n m (Ok x) (Err e) P = Unit {0}
Tied n m (Err e) r P = Unit {0}

abbrev pub Ties : {X : Type 0} → Reader X → Reader X → Tie X → Type 0
Ties r s P = (n m : Names) → Tied n m (r n) (s m) P

abbrev pub Agrees : {X : Type 0} → Reader X → Tie X → Type 0
Agrees r P = Ties r r P

nothing_tied : {X : Type 0} (n m : Names) (r : Result (X × Names) Stop) (e : Stop) (P : Tie X) → Tied n m r (Err e) P
nothing_tied n m (Ok x) e P = tt
nothing_tied n m (Err f) e P = tt

-- one reader after another
pub after : {X Y : Type 0} (P : Tie X) (Q : Tie Y) (n m : Names) (r s : Result (X × Names) Stop) (f g : X × Names → Result (Y × Names) Stop) → Tied n m r s P
    → ((x y : X × Names) → Tied x.1 y.1 (f x) (g y) (λ v w t u. P x.0 y.0 t u → Q v w t u)) → Tied n m (r >>= f) (s >>= g) Q
after {X = X} {Y = Y} P Q n m (Ok x) (Ok y) f g a b = second (f x) (g y) (b x y)
  where
    second : (r s : Result (Y × Names) Stop) → Tied x.1 y.1 r s (λ v w t u. P x.0 y.0 t u → Q v w t u) → Tied n m r s Q
    second (Ok v) (Ok w) c = (keeps_then n x.1 v.1 a.0 c.0, keeps_then m y.1 w.1 a.1 c.1, λ t u k l. c.2 t u k l (a.2 t u (keeps_then x.1 v.1 t c.0 k) (keeps_then y.1 w.1 u c.1 l)))
    second (Ok v) (Err e) c = tt
    second (Err e) s c = tt
after P Q n m (Ok x) (Err e) f g a b = nothing_tied n m (f x) e Q
after P Q n m (Err e) s f g a b = tt

-- what is built of what is read
pub built : {X Y : Type 0} (P : Tie X) (Q : Tie Y) (n m : Names) (r s : Result (X × Names) Stop) (f g : X → Y) → Tied n m r s P
    → ((x y : X) (t u : Names) → P x y t u → Q (f x) (g y) t u) → Tied n m (r >>= (λ x. Ok (f x.0, x.1))) (s >>= (λ x. Ok (g x.0, x.1))) Q
built P Q n m (Ok x) (Ok y) f g a b = (a.0, a.1, λ t u k l. b x.0 y.0 t u (a.2 t u k l))
built P Q n m (Ok x) (Err e) f g a b = tt
built P Q n m (Err e) s f g a b = tt

pub weaker : {X : Type 0} (P Q : Tie X) (n m : Names) (r s : Result (X × Names) Stop) → Tied n m r s P → ((x y : X) (t u : Names) → P x y t u → Q x y t u) → Tied n m r s Q
weaker P Q n m (Ok x) (Ok y) a b = (a.0, a.1, λ t u k l. b x.0 y.0 t u (a.2 t u k l))
weaker P Q n m (Ok x) (Err e) a b = tt
weaker P Q n m (Err e) s a b = tt

-- behind what adds no word
pub behind_same : {X Y : Type 0} (Q : Tie Y) (n m : Names) (r : Result X Stop) (f g : X → Result (Y × Names) Stop) → ((x : X) → Tied n m (f x) (g x) Q) → Tied n m (r >>= f) (r >>= g) Q
behind_same Q n m (Ok x) f g a = a x
behind_same Q n m (Err e) f g a = tt

-- what is read with no word
pub here : {X : Type 0} (Q : Tie X) (n m : Names) (x y : X) → ((t u : Names) → Q x y t u) → Tied n m (Ok (x, n)) (Ok (y, m)) Q
here Q n m x y h = (keeps_same n, keeps_same m, λ t u k l. h t u)

-- the number of a word is its number in each later table
there : (test : Word → Bool) (words : List Word) → list_any test words ≡ true → position_or_len test words < length words
there test [] e = absurd (let f : false ≡ true = e in cc)
there test (x ∷ words) e = go (test x) e (there test words)
  where
    go : (b : Bool) → (b || list_any test words) ≡ true → (list_any test words ≡ true → position_or_len test words < length words) → cond (not b) (1 + position_or_len test words) 0 < length (x ∷ words)
    go true e later = omega arith
    go false e later = let l = later e in omega arith

has_word : (names : Names) (w : Word) → list_any (bytes_eq w) (with_word names w) ≡ true
has_word names w = go (list_any (bytes_eq w) names) refl
  where
    go : (b : Bool) → list_any (bytes_eq w) names ≡ b → list_any (bytes_eq w) (if b then names else names ++ w ∷ []) ≡ true
    go true e = e
    go false e = list_any-append (bytes_eq w) names (w ∷ []) ∙ or_right _ _ (or_left (bytes_eq w w) false (bytes_eq-refl w))

-- a word has its number in the table to which it was put
pub number_with : (names : Names) (w : Word) → (n : ℕ) × (position (bytes_eq w) (with_word names w) ≡ Some n)
number_with names w =
    let all = with_word names w in
    let i = position_or_len (bytes_eq w) all in
    (i, ap (λ here. cond here (Some i) None) (lt-ltb _ _ (there (bytes_eq w) all (has_word names w))))

pub word_kept : (names : Names) (w : Word) (table : Names) → Keeps (with_word names w) table → word_at table (name_in names w).number ≡ w
word_kept names w table k =
    let all = with_word names w in
    let i = (number_with names w).0 in
    let e : position (bytes_eq w) all ≡ Some i = (number_with names w).1 in
    let q = position-Some (bytes_eq w) all i [] e in
    ap (λ o. word_at table (found o)) e ∙ sym (get_or-take (length all) table i [] q.0) ∙ ap (λ t. get_or t i []) k ∙ sym (bytes_eq-true w (get_or all i []) q.1)

-- a word that is put to both tables
pub with_both : {X : Type 0} (Q : Tie X) (n m : Names) (w : Word) (r s : Result (X × Names) Stop)
    → Tied (with_word n w) (with_word m w) r s (λ x y t u. word_at t (name_in n w).number ≡ w → word_at u (name_in m w).number ≡ w → Q x y t u) → Tied n m r s Q
with_both Q n m w (Ok x) (Ok y) a = (
  keeps_then n (with_word n w) x.1 (keeps_word n w) a.0,
  keeps_then m (with_word m w) y.1 (keeps_word m w) a.1,
  λ t u k l. a.2 t u k l (word_kept n w t (keeps_then (with_word n w) x.1 t a.0 k)) (word_kept m w u (keeps_then (with_word m w) y.1 u a.1 l)),
)
with_both Q n m w (Ok x) (Err e) a = tt
with_both Q n m w (Err e) s a = tt
