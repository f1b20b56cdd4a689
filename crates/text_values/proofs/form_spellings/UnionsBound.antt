-- The parts from which types are read say them.
use Rattle.std.proofs.Common.{◌≡◌, ℕ, Bool, true, false, ◌||◌, if◌then◌else◌, Ok, Err, Result, List, [], ◌∷◌, ◌++◌, map, codes, Option, Some, None, refl, ap, sym, ◌∙◌}
use Rattle.std.proofs.lemmas.Bool.{cond-true, cond-false}
use Rattle.std.proofs.lemmas.List.Folds.{list_any-append}
use Rattle.std.specs.Str.{bytes_eq}
use Rattle.htn_base.specs.Table.{with_word}
use Rattle.text_forms.specs.Lists.{Part, name, group}
use Rattle.text_forms.specs.Placed.{Placed, cut, close, word, list, parts_of}
use Rattle.text_forms.specs.Words.{Word, is_name, is_among}
use Rattle.plan_texts.specs.Declared.{named}
use Rattle.plan_texts.specs.TypedLists.{first_seen, words_in, types_in, are_names, kind_said}
use Rattle.plan_texts.specs.Types.{EachIs}
use Rattle.gd_reader.specs.declared.stop.Stop.{Stop}
use Rattle.gd_reader.specs.declared.stop.Stop.TheVariants.{Departs}
use Rattle.gd_reader.specs.declared.term.RawTerm.{RawTerm}
use Rattle.gd_reader.specs.declared.typed_lists.ListKind.{ListKind}
use Rattle.gd_reader.specs.declared.words.Sort.{Sort}
use Rattle.gd_reader.specs.declared.words.Sort.TheVariants.{Variable, Name, Other}
use Rattle.gd_reader.specs.Answers.{◌>>=◌}
use Rattle.gd_reader.specs.Terms.{Names, used}
use Rattle.gd_reader.specs.TypedLists.{State, are_variables, are_types, undeclared, type_by, type_due, unless, more_names, some_names, union, union_due}
use Rattle.gd_reader.specs.Words.{sort_of, is_either}
use Rattle.gd_reader.proofs.Keeping.{keeps_same, keeps_word}
use Rattle.text_values.proofs.form_spellings.KeptWords.{Reads, reads_then, reads_map}
use Rattle.text_values.proofs.form_spellings.ListsWhole.{OkSaid}
use Rattle.text_values.proofs.form_spellings.TermsBound.{NameBound, used_bound, word_stands}
use Rattle.text_values.proofs.form_spellings.TermsIn.{same}
use Rattle.text_values.proofs.form_spellings.Unions.{Named, flip, seen_named, each_names}
use Rattle.text_values.proofs.form_spellings.WordTests.{name_of_sort}

abbrev pub said_words : Names → List RawTerm → List Word
said_words table ts = map (λ (t : RawTerm). named table t.name) ts

-- the same words are among the one and among the other
abbrev SameWords : List Word → List Word → Type 0
SameWords us ws = (u : Word) → is_among u us ≡ is_among u ws

abbrev MoreBound : List Word → Placed → List RawTerm → Names → Type 0
MoreBound seen p ts table = (said_words table ts ≡ first_seen seen (words_in (parts_of p))) × EachIs Named (words_in (parts_of p))

same_kept : (w : Word) (us ws : List Word) → SameWords us ws → is_among w us ≡ true → SameWords (with_word us w) ws
same_kept w us ws s e u = ap (λ b. is_among u (if b then us else us ++ w ∷ [])) e ∙ s u

same_more : (w : Word) (us ws : List Word) → SameWords us ws → is_among w us ≡ false → SameWords (with_word us w) (w ∷ ws)
same_more w us ws s e u = ap (λ b. is_among u (if b then us else us ++ w ∷ [])) e ∙ list_any-append (bytes_eq u) us (w ∷ []) ∙ ap (λ b. b || (bytes_eq u w || false)) (s u) ∙ turned (is_among u ws) (bytes_eq u w)
  where
    turned : (x y : Bool) → (x || (y || false)) ≡ (y || x)
    turned true true = refl
    turned true false = refl
    turned false true = refl
    turned false false = refl

-- one more name, that was there or not
by_seen : (at : ℕ) (w : Word) (p : Placed) (st : State) (seen : List Word) → SameWords st.1 seen → (t : RawTerm × Names) → ((seen : List Word) → SameWords (with_word st.1 w) seen → Reads t.1 (more_names (t.1, with_word st.1 w) p) (MoreBound seen p))
    → (b : Bool) → is_among w st.1 ≡ b → Reads t.1 (more_names (t.1, with_word st.1 w) p >>= (λ ts. Ok (unless b t.0 ts.0, ts.1))) (λ ts table. NameBound w t.0 table → MoreBound seen (word at w p) ts table)
by_seen at w p st seen s t rest true e =
    let here = sym (s w) ∙ e in
    reads_map (MoreBound seen p) (λ ts table. NameBound w t.0 table → MoreBound seen (word at w p) ts table) t.1 (more_names (t.1, with_word st.1 w) p) (unless true t.0) (rest seen (same_kept w st.1 seen s e))
    (λ ts table is one. (is.0 ∙ sym (cond-true _ _ _ here), (one.1, is.1)))
by_seen at w p st seen s t rest false e =
    let here = sym (s w) ∙ e in
    reads_map (MoreBound (w ∷ seen) p) (λ ts table. NameBound w t.0 table → MoreBound seen (word at w p) ts table) t.1 (more_names (t.1, with_word st.1 w) p) (unless false t.0) (rest (w ∷ seen) (same_more w st.1 seen s e))
    (λ ts table is one. ((λ i. one.0 i ∷ is.0 i) ∙ sym (cond-false _ _ _ here), (one.1, is.1)))

more_bound : (p : Placed) (st : State) (seen : List Word) → SameWords st.1 seen → Reads st.0 (more_names st p) (MoreBound seen p)
unfolding more_names
more_bound cut st seen s = tt
more_bound (close at) st seen s = (keeps_same st.0, λ table k. (refl, tt))
more_bound (list at p q) st seen s = tt
more_bound (word at w p) st seen s =
    reads_then same (NameBound w) (MoreBound seen (word at w p)) st.0 (used st.0 at w) (λ t. more_names (t.1, with_word st.1 w) p >>= (λ ts. Ok (unless (is_among w st.1) t.0 ts.0, ts.1))) (used_bound st.0 at w)
    (λ t. by_seen at w p st seen s t (λ seen s. more_bound p (t.1, with_word st.1 w) seen s) (is_among w st.1) refl)

-- the types are those that are said
abbrev pub TypesSay : Option Part → List RawTerm → Names → Type 0
TypesSay None [] table = Unit {0}
TypesSay None (t ∷ ts) table = ⊥
TypesSay (Some p) [] table = ⊥
TypesSay (Some p) (t ∷ ts) table = said_words table (t ∷ ts) ≡ kind_said (Some p)

-- they can be written there, and are those that are said
abbrev pub TypesBound : Bool → Option Part → List RawTerm → Names → Type 0
TypesBound b said ts table = OkSaid b said × TypesSay said ts table

abbrev SomeBound : Placed → List RawTerm → Names → Type 0
SomeBound p ts table = (ts ≡ [] → ⊥) × (said_words table ts ≡ first_seen [] (words_in (parts_of p))) × (are_names (first_seen [] (words_in (parts_of p))) ≡ true)

some_bound : (p : Placed) (names : Names) → Reads names (some_names names p) (SomeBound p)
unfolding some_names
some_bound cut names = tt
some_bound (close at) names = tt
some_bound (list at p q) names = tt
some_bound (word at w p) names =
    reads_then same (NameBound w) (SomeBound (word at w p)) names (used names at w) (λ t. more_names (t.1, with_word [] w) p >>= (λ ts. Ok (t.0 ∷ ts.0, ts.1))) (used_bound names at w)
    (λ t. reads_map (MoreBound (w ∷ []) p) (λ ts table. NameBound w t.0 table → SomeBound (word at w p) ts table) t.1 (more_names (t.1, with_word [] w) p) (λ ts. t.0 ∷ ts) (more_bound p (t.1, with_word [] w) (w ∷ []) (λ u. refl))
    (λ ts table is one. ((λ e. cc), (λ i. one.0 i ∷ is.0 i), each_names w (first_seen (w ∷ []) (words_in (parts_of p))) (one.1, seen_named (w ∷ []) (words_in (parts_of p)) is.1))))

union_said : (at : ℕ) (u : Word) (p : Placed) (ts : List RawTerm) (table : Names) → is_either u ≡ true → SomeBound p ts table → TypesBound true (Some (group (parts_of (word at u p)))) ts table
union_said at u p [] table e is = absurd (is.0 refl)
union_said at u p (t ∷ ts) table e is =
    let here : types_in (parts_of (word at u p)) ≡ first_seen [] (words_in (parts_of p)) = cond-true _ _ _ (flip (codes "either") u ∙ e) in
    (ap are_names here ∙ is.2, is.1 ∙ sym here)

union_bound : (p : Placed) (names : Names) → Reads names (union names p) (TypesBound true (Some (group (parts_of p))))
unfolding union
union_bound cut names = tt
union_bound (close at) names = tt
union_bound (list at p q) names = tt
union_bound (word at u p) names = go (is_either u) refl
  where
    weaker : (r : Result (List RawTerm × Names) Stop) → ((ts : List RawTerm) (table : Names) → SomeBound p ts table → TypesBound true (Some (group (parts_of (word at u p)))) ts table) → Reads names r (SomeBound p) → Reads names r (TypesBound true (Some (group (parts_of (word at u p)))))
    weaker (Ok x) f h = (h.0, λ table k. f x.0 table (h.1 table k))
    weaker (Err e) f h = tt

    go : (b : Bool) → is_either u ≡ b → Reads names (if b then some_names names p else Err (Departs 8 at)) (TypesBound true (Some (group (parts_of (word at u p)))))
    go true e = weaker (some_names names p) (λ ts table is. union_said at u p ts table e is) (some_bound p names)
    go false e = tt

pub union_due_bound : (kind : ListKind) (p : Placed) (names : Names) (at : ℕ) → Reads names (union_due kind names at p) (TypesBound (are_variables kind) (Some (group (parts_of p))))
union_due_bound kind p names at = go (are_variables kind)
  where
    go : (b : Bool) → Reads names (if b then union names p else Err (Departs 8 at)) (TypesBound b (Some (group (parts_of p))))
    go true = union_bound p names
    go false = tt

pub type_bound : (kind : ListKind) (names : Names) (at : ℕ) (w : Word) → Reads names (type_due kind names at w) (TypesBound (are_variables kind) (Some (name w)))
unfolding type_by
type_bound kind names at w = go (sort_of w) refl
  where
    other : (b : Bool) → Reads {X = List RawTerm} names (if b then Err (Departs (undeclared w) at) else Err (Departs 8 at)) (TypesBound (are_variables kind) (Some (name w)))
    other true = tt
    other false = tt

    ok : (b : Bool) → is_name w ≡ true → OkSaid b (Some (name w))
    ok true e = e
    ok false e = e

    go : (s : Sort) → sort_of w ≡ s → Reads names (type_by s kind names at w) (TypesBound (are_variables kind) (Some (name w)))
    go Variable e = tt
    go Name e = (keeps_word names w, λ table k. (ok (are_variables kind) (name_of_sort w e), ap (λ u. u ∷ []) (word_stands names w table k)))
    go Other e = other (are_types kind)
