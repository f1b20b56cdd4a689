-- The parts from which terms and atoms are read spell them, once bound.
use Rattle.std.proofs.Common.{◌≡◌, ℕ, ◌<◌, ◌+◌, cond, not, Bool, true, false, ◌||◌, Ok, Result, List, [], ◌∷◌, drop, length, get_or, position, Some, None, refl, ap, sym, ◌∙◌, arith}
use Rattle.std.proofs.lemmas.Bool.{lt-ltb}
use Rattle.std.proofs.lemmas.List.{get_or-take}
use Rattle.std.proofs.lemmas.List.Quantifiers.{position-Some}
use Rattle.std.specs.List.{list_any, position_or_len}
use Rattle.std.specs.Str.{bytes_eq}
use Rattle.htn_base.specs.Table.{with_word}
use Rattle.text_forms.specs.Lists.{Part, name, group, nothing, part}
use Rattle.text_forms.specs.Placed.{Placed, cut, close, word, list, parts_of}
use Rattle.text_forms.specs.Words.{Word, is_name, word_at, first_place, last_place}
use Rattle.plan_texts.specs.Declared.{Declared, named}
use Rattle.plan_texts.specs.Formulas.{IsTerm, IsApplied}
use Rattle.plan_texts.specs.TypedLists.{Each}
use Rattle.plan_texts.proofs.Basics.{bytes_eq-true}
use Rattle.plan_model.specs.declared.terms.Term.{Term}
use Rattle.plan_model.specs.declared.terms.Term.TheVariants.{Var, Obj}
use Rattle.gd_reader.specs.declared.stop.Stop.{Stop}
use Rattle.gd_reader.specs.declared.term.RawTerm.{RawTerm}
use Rattle.gd_reader.specs.declared.term.RawAtom.{RawAtom}
use Rattle.gd_reader.specs.declared.words.Sort.{Sort}
use Rattle.gd_reader.specs.declared.words.Sort.TheVariants.{Variable, Name, Other}
use Rattle.gd_reader.specs.Answers.{◌>>=◌, word_due, end_due}
use Rattle.gd_reader.specs.Terms.{Names, Keeps, found, name_in, raw_term, term_by, term, name_by, used, terms, two_terms, applied, atom}
use Rattle.gd_reader.specs.Words.{sort_of}
use Rattle.gd_reader.proofs.Keeping.{keeps_same, keeps_word}
use Rattle.plan_texts.specs.Together.{Together}
use Rattle.text_values.specs.form_spellings.Bound.{IsBoundTerm, IsBoundAtom}
use Rattle.text_values.proofs.form_spellings.Freshness.{is_in}
use Rattle.text_values.proofs.form_spellings.KeptWords.{Reads, reads_then, reads_map, reads_end}
use Rattle.text_values.proofs.form_spellings.TermsIn.{same}
use Rattle.text_values.proofs.form_spellings.WordTests.{IsMarked, false_true, name_of_sort, variable_of_sort}

within : (p : Word → Bool) (xs : List Word) → list_any p xs ≡ true → position_or_len p xs < length xs
within p [] e = false_true e
within p (x ∷ xs) e = go (p x) e (within p xs)
  where
    go : (b : Bool) → (b || list_any p xs) ≡ true → (list_any p xs ≡ true → position_or_len p xs < length xs) → cond (not b) (1 + position_or_len p xs) 0 < length (x ∷ xs)
    go true e later = omega arith
    go false e later = let l = later e in omega arith

-- the number that a word is read as is its number in each later table
pub word_stands : (names : Names) (w : Word) (table : Names) → Keeps (with_word names w) table → named table (name_in names w) ≡ w
word_stands names w table k =
    let xs = with_word names w in
    let i = position_or_len (bytes_eq w) xs in
    let e : position (bytes_eq w) xs ≡ Some i = ap (λ here. cond here (Some i) None) (lt-ltb _ _ (within (bytes_eq w) xs (is_in w names))) in
    let q = position-Some (bytes_eq w) xs i [] e in
    ap (λ o. word_at table (found o)) e ∙ sym (get_or-take (length xs) table i [] q.0) ∙ ap (λ t. get_or t i []) k ∙ sym (bytes_eq-true w (get_or xs i []) q.1)

-- a term, once bound, is spelled by its word
abbrev pub TermBound : Word → RawTerm → Names → Type 0
TermBound w t table = (v : Declared) (scope : List Word) (x : Term) → IsBoundTerm v table scope t x → IsTerm v scope x (name w)

abbrev pub TermsBound : Placed → List RawTerm → Names → Type 0
TermsBound p ts table = (v : Declared) (scope : List Word) (xs : List Term) → Together (IsBoundTerm v table scope) ts xs → Each (IsTerm v scope) xs (parts_of p)

-- a name that is read as its word
abbrev pub NameBound : Word → RawTerm → Names → Type 0
NameBound w t table = (named table t.name ≡ w) × (is_name w ≡ true)

-- an atom, once bound, is spelled by its word and what stands behind it
abbrev pub AtomBound : Word → Placed → RawAtom → Names → Type 0
AtomBound w p a table = (v : Declared) (scope : List Word) (n : ℕ) (xs : List Term) → IsBoundAtom v table scope a n xs → IsApplied v scope n xs (group (part (name w) (parts_of p)))

term_bound : (names : Names) (at : ℕ) (w : Word) → Reads names (term names at w) (TermBound w)
unfolding term
term_bound names at w = go (sort_of w) refl
  where
    marked : (table : Names) → IsMarked w → Keeps (with_word names (drop 1 w)) table → TermBound w (raw_term names true at (drop 1 w)).0 table
    marked table m k v scope (Var n) b =
        let is = ap (drop 1) m.2 in
        (drop 1 w, ap name (m.2 ∙ ap (λ u. 63 ∷ u) (sym is)), ap (λ u. last_place u scope) (sym (word_stands names (drop 1 w) table k)) ∙ b.1)
    marked table m k v scope (Obj o) b = false_true (sym b.0)

    plain : (table : Names) → is_name w ≡ true → Keeps (with_word names w) table → TermBound w (raw_term names false at w).0 table
    plain table e k v scope (Var n) b = false_true b.0
    plain table e k v scope (Obj o) b = (w, refl, e, ap (λ u. first_place u v.objects) (sym (word_stands names w table k)) ∙ b.1)

    go : (s : Sort) → sort_of w ≡ s → Reads names (term_by s names at w) (TermBound w)
    go Variable e = (keeps_word names (drop 1 w), λ table k. marked table (variable_of_sort w e) k)
    go Name e = (keeps_word names w, λ table k. plain table (name_of_sort w e) k)
    go Other e = tt

pub used_bound : (names : Names) (at : ℕ) (w : Word) → Reads names (used names at w) (NameBound w)
unfolding used
used_bound names at w = go (sort_of w) refl
  where
    go : (s : Sort) → sort_of w ≡ s → Reads names (name_by s names at w) (NameBound w)
    go Variable e = tt
    go Name e = (keeps_word names w, λ table k. (word_stands names w table k, name_of_sort w e))
    go Other e = tt

one_more : (w : Word) (p : Placed) (at : ℕ) (t : RawTerm) (ts : List RawTerm) (table : Names) → TermsBound p ts table → TermBound w t table → TermsBound (word at w p) (t ∷ ts) table
one_more w p at t ts table is one v scope [] b = absurd b
one_more w p at t ts table is one v scope (x ∷ xs) b = (one v scope x b.0, is v scope xs b.1)

none : (at : ℕ) (table : Names) → TermsBound (close at) [] table
none at table v scope [] b = tt
none at table v scope (x ∷ xs) b = absurd b

pub terms_bound : (p : Placed) (names : Names) → Reads names (terms names p) (TermsBound p)
unfolding terms
terms_bound cut names = tt
terms_bound (close at) names = (keeps_same names, λ table k. none at table)
terms_bound (list at p q) names = tt
terms_bound (word at w p) names =
    reads_then same (TermBound w) (TermsBound (word at w p)) names (term names at w) (λ x. terms x.1 p >>= (λ xs. Ok (x.0 ∷ xs.0, xs.1))) (term_bound names at w)
    (λ x. reads_map (TermsBound p) (λ ts table. TermBound w x.0 table → TermsBound (word at w p) ts table) x.1 (terms x.1 p) (λ ts. x.0 ∷ ts) (terms_bound p x.1) (λ ts table is one. one_more w p at x.0 ts table is one))

spelled_atom : (w : Word) (p : Placed) (t : RawTerm) (ts : List RawTerm) (table : Names) → TermsBound p ts table → NameBound w t table → AtomBound w p (record { head = t; args = ts }) table
spelled_atom w p t ts table is one v scope n xs b = (w, parts_of p, refl, one.1, ap (λ u. first_place u v.predicates) (sym one.0) ∙ b.0, is v scope xs b.1)

pub atom_bound : (p : Placed) (names : Names) (at : ℕ) (w : Word) → is_name w ≡ true → Reads names (atom names at w p) (AtomBound w p)
unfolding atom
atom_bound p names at w e =
    reads_then same (NameBound w) (AtomBound w p) names (Ok (raw_term names false at w)) (λ x. terms x.1 p >>= (λ xs. Ok (record { head = x.0; args = xs.0 }, xs.1))) (keeps_word names w, λ table k. (word_stands names w table k, e))
    (λ x. reads_map (TermsBound p) (λ a table. NameBound w x.0 table → AtomBound w p a table) x.1 (terms x.1 p) (λ ts. record { head = x.0; args = ts }) (terms_bound p x.1) (λ ts table is one. spelled_atom w p x.0 ts table is one))

-- an atom in its parentheses
abbrev pub AppliedBound : Placed → RawAtom → Names → Type 0
AppliedBound p a table = (v : Declared) (scope : List Word) (n : ℕ) (xs : List Term) → IsBoundAtom v table scope a n xs → IsApplied v scope n xs (group (parts_of p))

pub applied_bound : (p : Placed) (names : Names) → Reads names (applied names p) (AppliedBound p)
unfolding applied word_due
applied_bound cut names = tt
applied_bound (close at) names = tt
applied_bound (list at p q) names = tt
applied_bound (word at w p) names =
    reads_then same (NameBound w) (AtomBound w p) names (used names at w) (λ x. terms x.1 p >>= (λ xs. Ok (record { head = x.0; args = xs.0 }, xs.1))) (used_bound names at w)
    (λ x. reads_map (TermsBound p) (λ a table. NameBound w x.0 table → AtomBound w p a table) x.1 (terms x.1 p) (λ ts. record { head = x.0; args = ts }) (terms_bound p x.1) (λ ts table is one. spelled_atom w p x.0 ts table is one))

abbrev pub PairBound : Placed → RawTerm × RawTerm → Names → Type 0
PairBound p x table = (v : Declared) (scope : List Word) (s t : Term) → IsBoundTerm v table scope x.0 s → IsBoundTerm v table scope x.1 t → (q : Part) × (r : Part) × (parts_of p ≡ part q (part r nothing)) × IsTerm v scope s q × IsTerm v scope t r

last : RawTerm → Names → Placed → Result ((RawTerm × RawTerm) × Names) Stop
last x names p = word_due p >>= (λ w. term names w.0 w.1 >>= (λ y. end_due w.2 >>= (λ _. Ok ((x, y.0), y.1))))

last_bound : (p : Placed) (names : Names) (x : RawTerm) (at : ℕ) (u : Word) → Reads names (last x names p) (λ xy table. TermBound u x table → PairBound (word at u p) xy table)
unfolding last word_due
last_bound cut names x at u = tt
last_bound (close at') names x at u = tt
last_bound (list at' p q) names x at u = tt
last_bound (word at' w p) names x at u =
    reads_then same (TermBound w) (λ xy table. TermBound u x table → PairBound (word at u (word at' w p)) xy table) names (term names at' w) (λ y. end_due p >>= (λ _. Ok ((x, y.0), y.1))) (term_bound names at' w)
    (λ y. reads_end (λ xy table. TermBound w y.0 table → TermBound u x table → PairBound (word at u (word at' w p)) xy table) p ((x, y.0), y.1)
    (λ e table is one v scope s t b c. (name u, name w, ap (λ ps. part (name u) (part (name w) ps)) e, one v scope s b, is v scope t c)))

pub two_bound : (p : Placed) (names : Names) → Reads names (two_terms names p) (PairBound p)
unfolding two_terms word_due last
two_bound cut names = tt
two_bound (close at) names = tt
two_bound (list at p q) names = tt
two_bound (word at w p) names = reads_then same (TermBound w) (PairBound (word at w p)) names (term names at w) (λ x. last x.0 x.1 p) (term_bound names at w) (λ x. last_bound p x.1 x.0 at w)
