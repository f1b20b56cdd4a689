-- One more word of a typed list with its mark, and the types of a word in its place.
use Rattle.std.proofs.Common.{ℕ, zero, suc, ◌≡◌, ◌+◌, ◌<◌, Bool, true, false, List, [], ◌∷◌, ◌++◌, length, get_or, refl, ap, ◌∙◌, sym, length-append, arith, take, map, append_assoc}
use Rattle.std.proofs.lemmas.List.{take_more, map-append}
use Rattle.gd_reader.specs.declared.term.RawTerm.{RawTerm}
use Rattle.gd_reader.specs.declared.typed_lists.RawParam.{RawParam}
use Rattle.gd_reader.specs.TypedAsBefore.{types_of, types_before, AreMarked}

-- the types of the last word are before the place behind it
last : (front : List RawTerm) (words : List RawParam) (x : RawParam) → get_or (front ∷ types_of (words ++ x ∷ [])) (length (words ++ x ∷ [])) [] ≡ x.ty
last front [] x = refl
last front (w ∷ words) x = last w.ty words x

pub types_before-push : (words : List RawParam) (x : RawParam) → types_before (words ++ x ∷ []) (length (words ++ x ∷ [])) ≡ x.ty
types_before-push words x = last [] words x

true-push : (front : List RawTerm) (words : List RawParam) (marks : List Bool) (x : RawParam) (m : Bool) → length marks ≡ length words
    → ((i : ℕ) → get_or marks i false ≡ true → get_or (types_of words) i [] ≡ get_or (front ∷ types_of words) i [])
    → (m ≡ true → x.ty ≡ get_or (front ∷ types_of words) (length words) [])
    → (i : ℕ) → get_or (marks ++ m ∷ []) i false ≡ true → get_or (types_of (words ++ x ∷ [])) i [] ≡ get_or (front ∷ types_of (words ++ x ∷ [])) i []
true-push front [] [] x m l h e zero s = e s
true-push front [] [] x m l h e (suc i) s = cc
true-push front [] (n ∷ marks) x m l h e i s = absurd (omega (arith, l))
true-push front (w ∷ words) [] x m l h e i s = absurd (omega (arith, l))
true-push front (w ∷ words) (n ∷ marks) x m l h e zero s = h zero s
true-push front (w ∷ words) (n ∷ marks) x m l h e (suc i) s = true-push w.ty words marks x m (omega (arith, l)) (λ j t. h (suc j) t) e i s

pub marked-push : (words : List RawParam) (marks : List Bool) (x : RawParam) (m : Bool) → AreMarked words marks → (m ≡ true → x.ty ≡ types_before words (length words))
    → AreMarked (words ++ x ∷ []) (marks ++ m ∷ [])
marked-push words marks x m are is =
    let each = are.for_each in
    let a = length-append words (x ∷ []) in
    let b = length-append marks (m ∷ []) in
    record { for_each = omega (arith, each, a, b); true_of = true-push [] words marks x m are.for_each are.true_of is }

-- the types of a word that was read are before the next place
types-at : (words : List RawParam) (i : ℕ) (d x : RawParam) → i < length words → x ≡ get_or words i d → get_or (types_of words) i [] ≡ x.ty
types-at [] i d x below read = absurd (omega (arith, below))
types-at (w ∷ words) zero d x below read = ap (λ (y : RawParam). y.ty) (sym read)
types-at (w ∷ words) (suc i) d x below read = types-at words i d x (omega (arith, below)) read

pub types_before-read : (words : List RawParam) (i : ℕ) (x : RawParam) → i < length words → x ≡ get_or words i x → types_before words (i + 1) ≡ x.ty
types_before-read words i x below read = let next : i + 1 ≡ suc i = omega arith in ap (types_before words) next ∙ types-at words i x x below read

-- one more word that is put behind the others
pub words-push : {A B : Type 0} (f : A → B) (old all : List B) (words : List A) (i : ℕ) (x : A) → i < length words → x ≡ get_or words i x
    → all ≡ old ++ map f (take i words) → all ++ f x ∷ [] ≡ old ++ map f (take (i + 1) words)
words-push f old all words i x below read before =
    ap (λ ys. ys ++ f x ∷ []) before ∙ append_assoc old (map f (take i words)) (f x ∷ [])
    ∙ ap (λ ys. old ++ ys) (sym (map-append f (take i words) (x ∷ [])) ∙ ap (map f) (sym (take_more words i x below ∙ ap (λ y. take i words ++ y ∷ []) (sym read))))
