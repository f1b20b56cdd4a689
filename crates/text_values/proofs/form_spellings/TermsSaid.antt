-- Terms and atoms that parts spell are those to which what is read of them is bound.
use Rattle.std.proofs.Common.{◌≡◌, ℕ, true, false, Ok, Result, List, [], ◌∷◌, drop, refl, ap, sym, subst, ◌∙◌}
use Rattle.text_forms.specs.Lists.{Part, Parts, name, group, nothing, part}
use Rattle.text_forms.specs.Placed.{Placed, cut, close, word, list, parts_of}
use Rattle.text_forms.specs.Words.{Word, is_name, first_place, last_place}
use Rattle.plan_texts.specs.Declared.{Declared}
use Rattle.plan_texts.specs.Formulas.{IsTerm, IsApplied}
use Rattle.plan_texts.specs.TypedLists.{Each}
use Rattle.plan_model.specs.declared.terms.Term.{Term}
use Rattle.plan_model.specs.declared.terms.Term.TheVariants.{Var, Obj}
use Rattle.gd_reader.specs.declared.stop.Stop.{Stop}
use Rattle.gd_reader.specs.declared.term.RawTerm.{RawTerm}
use Rattle.gd_reader.specs.declared.term.RawAtom.{RawAtom}
use Rattle.gd_reader.specs.declared.words.Sort.{Sort}
use Rattle.gd_reader.specs.declared.words.Sort.TheVariants.{Variable, Name, Other}
use Rattle.gd_reader.specs.Answers.{◌>>=◌, word_due, end_due}
use Rattle.gd_reader.specs.Terms.{Names, Keeps, raw_term, term_by, term, used, terms, two_terms, applied, atom}
use Rattle.gd_reader.specs.Words.{sort_of}
use Rattle.gd_reader.proofs.Keeping.{keeps_same, keeps_word}
use Rattle.plan_texts.specs.Together.{Together}
use Rattle.text_values.specs.form_spellings.Bound.{IsBoundTerm, IsBoundAtom}
use Rattle.text_values.proofs.form_spellings.KeptWords.{Reads, reads_then, reads_map, reads_end}
use Rattle.text_values.proofs.form_spellings.ListsWhole.{name_is}
use Rattle.text_values.proofs.form_spellings.PartsWhole.{front_is, back_is, within_is}
use Rattle.text_values.proofs.form_spellings.TermsBound.{NameBound, used_bound, word_stands}
use Rattle.text_values.proofs.form_spellings.TermsIn.{same}
use Rattle.text_values.proofs.form_spellings.WordTests.{false_true, name_of_sort, sort_name}

other_sort : {P : Type 0} → ◌≡◌ {A = Sort} Variable Name → P
other_sort e = cc

abbrev pub TermSaid : Word → RawTerm → Names → Type 0
TermSaid w t table = (v : Declared) (scope : List Word) (x : Term) → IsTerm v scope x (name w) → IsBoundTerm v table scope t x

abbrev pub TermsSaid : Placed → List RawTerm → Names → Type 0
TermsSaid p ts table = (v : Declared) (scope : List Word) (xs : List Term) → Each (IsTerm v scope) xs (parts_of p) → Together (IsBoundTerm v table scope) ts xs

abbrev pub AtomSaid : Parts → RawAtom → Names → Type 0
AtomSaid ps a table = (v : Declared) (scope : List Word) (n : ℕ) (xs : List Term) → IsApplied v scope n xs (group ps) → IsBoundAtom v table scope a n xs

term_said : (names : Names) (at : ℕ) (w : Word) → Reads names (term names at w) (TermSaid w)
unfolding term
term_said names at w = go (sort_of w) refl
  where
    marked : sort_of w ≡ Variable → (table : Names) → Keeps (raw_term names true at (drop 1 w)).1 table → TermSaid w (raw_term names true at (drop 1 w)).0 table
    marked e table k v scope (Var n) i = (refl, ap (λ u. last_place u scope) (word_stands names (drop 1 w) table k ∙ ap (drop 1) (name_is i.1)) ∙ i.2)
    marked e table k v scope (Obj o) i = other_sort (sym e ∙ sort_name w (ap is_name (name_is i.1) ∙ i.2))

    plain : sort_of w ≡ Name → (table : Names) → Keeps (raw_term names false at w).1 table → TermSaid w (raw_term names false at w).0 table
    plain e table k v scope (Var n) i = false_true (ap is_name (sym (name_is i.1)) ∙ name_of_sort w e)
    plain e table k v scope (Obj o) i = (refl, ap (λ u. first_place u v.objects) (word_stands names w table k ∙ name_is i.1) ∙ i.3)

    go : (s : Sort) → sort_of w ≡ s → Reads names (term_by s names at w) (TermSaid w)
    go Variable e = (keeps_word names (drop 1 w), marked e)
    go Name e = (keeps_word names w, plain e)
    go Other e = tt

one_more : (w : Word) (p : Placed) (at : ℕ) (t : RawTerm) (ts : List RawTerm) (table : Names) → TermsSaid p ts table → TermSaid w t table → TermsSaid (word at w p) (t ∷ ts) table
one_more w p at t ts table is one v scope [] b = absurd b
one_more w p at t ts table is one v scope (x ∷ xs) b = (one v scope x b.0, is v scope xs b.1)

none : (at : ℕ) (table : Names) → TermsSaid (close at) [] table
none at table v scope [] b = tt
none at table v scope (x ∷ xs) b = absurd b

pub terms_said : (p : Placed) (names : Names) → Reads names (terms names p) (TermsSaid p)
unfolding terms
terms_said cut names = tt
terms_said (close at) names = (keeps_same names, λ table k. none at table)
terms_said (list at p q) names = tt
terms_said (word at w p) names =
    reads_then same (TermSaid w) (TermsSaid (word at w p)) names (term names at w) (λ x. terms x.1 p >>= (λ xs. Ok (x.0 ∷ xs.0, xs.1))) (term_said names at w)
    (λ x. reads_map (TermsSaid p) (λ ts table. TermSaid w x.0 table → TermsSaid (word at w p) ts table) x.1 (terms x.1 p) (λ ts. x.0 ∷ ts) (terms_said p x.1) (λ ts table is one. one_more w p at x.0 ts table is one))

bound_atom : (w : Word) (p : Placed) (t : RawTerm) (ts : List RawTerm) (table : Names) → TermsSaid p ts table → NameBound w t table → AtomSaid (part (name w) (parts_of p)) (record { head = t; args = ts }) table
bound_atom w p t ts table is one v scope n xs b =
    let e = within_is b.2 in
    (ap (λ u. first_place u v.predicates) (one.0 ∙ name_is (front_is e)) ∙ b.4, is v scope xs (subst (Each (IsTerm v scope) xs) (sym (back_is e)) b.5))

pub atom_said : (p : Placed) (names : Names) (at : ℕ) (w : Word) → is_name w ≡ true → Reads names (atom names at w p) (AtomSaid (part (name w) (parts_of p)))
unfolding atom
atom_said p names at w e =
    reads_then same (NameBound w) (AtomSaid (part (name w) (parts_of p))) names (Ok (raw_term names false at w)) (λ x. terms x.1 p >>= (λ xs. Ok (record { head = x.0; args = xs.0 }, xs.1))) (keeps_word names w, λ table k. (word_stands names w table k, e))
    (λ x. reads_map (TermsSaid p) (λ a table. NameBound w x.0 table → AtomSaid (part (name w) (parts_of p)) a table) x.1 (terms x.1 p) (λ ts. record { head = x.0; args = ts }) (terms_said p x.1) (λ ts table is one. bound_atom w p x.0 ts table is one))

pub applied_said : (p : Placed) (names : Names) → Reads names (applied names p) (AtomSaid (parts_of p))
unfolding applied word_due
applied_said cut names = tt
applied_said (close at) names = tt
applied_said (list at p q) names = tt
applied_said (word at w p) names =
    reads_then same (NameBound w) (AtomSaid (part (name w) (parts_of p))) names (used names at w) (λ x. terms x.1 p >>= (λ xs. Ok (record { head = x.0; args = xs.0 }, xs.1))) (used_bound names at w)
    (λ x. reads_map (TermsSaid p) (λ a table. NameBound w x.0 table → AtomSaid (part (name w) (parts_of p)) a table) x.1 (terms x.1 p) (λ ts. record { head = x.0; args = ts }) (terms_said p x.1) (λ ts table is one. bound_atom w p x.0 ts table is one))

abbrev pub PairSaid : Placed → RawTerm × RawTerm → Names → Type 0
PairSaid p x table = (v : Declared) (scope : List Word) (s t : Term) (q r : Part) → parts_of p ≡ part q (part r nothing) → IsTerm v scope s q → IsTerm v scope t r → IsBoundTerm v table scope x.0 s × IsBoundTerm v table scope x.1 t

last : RawTerm → Names → Placed → Result ((RawTerm × RawTerm) × Names) Stop
last x names p = word_due p >>= (λ w. term names w.0 w.1 >>= (λ y. end_due w.2 >>= (λ _. Ok ((x, y.0), y.1))))

last_said : (p : Placed) (names : Names) (x : RawTerm) (at : ℕ) (u : Word) → Reads names (last x names p) (λ xy table. TermSaid u x table → PairSaid (word at u p) xy table)
unfolding last word_due
last_said cut names x at u = tt
last_said (close at') names x at u = tt
last_said (list at' p q) names x at u = tt
last_said (word at' w p) names x at u =
    reads_then same (TermSaid w) (λ xy table. TermSaid u x table → PairSaid (word at u (word at' w p)) xy table) names (term names at' w) (λ y. end_due p >>= (λ _. Ok ((x, y.0), y.1))) (term_said names at' w)
    (λ y. reads_end (λ xy table. TermSaid w y.0 table → TermSaid u x table → PairSaid (word at u (word at' w p)) xy table) p ((x, y.0), y.1)
    (λ _ table is one v scope s t q r e b c. (one v scope s (subst (IsTerm v scope s) (sym (front_is e)) b), is v scope t (subst (IsTerm v scope t) (sym (front_is (back_is e))) c))))

pub two_said : (p : Placed) (names : Names) → Reads names (two_terms names p) (PairSaid p)
unfolding two_terms word_due last
two_said cut names = tt
two_said (close at) names = tt
two_said (list at p q) names = tt
two_said (word at w p) names = reads_then same (TermSaid w) (PairSaid (word at w p)) names (term names at w) (λ x. last x.0 x.1 p) (term_said names at w) (λ x. last_said p x.1 x.0 at w)
