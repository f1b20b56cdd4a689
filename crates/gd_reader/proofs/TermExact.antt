-- Terms and atoms are read exactly.
use Rattle.std.proofs.Common.{ℕ, false, Ok, Err, Result, [], ◌∷◌, refl}
use Rattle.text_forms.specs.Placed.{Placed, cut, close, word, list}
use Rattle.text_forms.specs.Words.{Word}
use Rattle.gd_reader.specs.declared.stop.Stop.{Stop}
use Rattle.gd_reader.specs.declared.stop.Stop.TheVariants.{Departs}
use Rattle.gd_reader.specs.declared.term.RawTerm.{RawTerm}
use Rattle.gd_reader.specs.declared.words.Sort.{Sort}
use Rattle.gd_reader.specs.declared.words.Sort.TheVariants.{Variable, Name, Other}
use Rattle.gd_reader.specs.Answers.{◌>>=◌, word_due, end_due, passed}
use Rattle.gd_reader.specs.TermGrammar.{allowed, is_term_sort, is_name_sort, term_form, name_form, end_form, terms_form, last_term_form, two_terms_form, applied_form, passed_form}
use Rattle.gd_reader.specs.Terms.{Names, raw_term, term_by, term, name_by, used, terms, two_terms, applied, atom}
use Rattle.gd_reader.specs.Words.{sort_of}
use Rattle.gd_reader.proofs.Exact.{Tells, Own, IsExact, exact_cut, exact_close, exact_no_word, exact_no_list, exact_behind, exact_word, exact_list, exact_map}

term_tells : (names : Names) (at : ℕ) (w : Word) → Tells (term_form w) (term names at w)
unfolding term
term_tells names at w = by_sort (sort_of w)
  where
    by_sort : (sort : Sort) → Tells (allowed (is_term_sort sort)) (term_by sort names at w)
    by_sort Variable = (tt, tt)
    by_sort Name = (tt, tt)
    by_sort Other = (λ w. w, λ b. b)

term_own : (names : Names) (at : ℕ) (w : Word) → Own at (term names at w)
unfolding term
term_own names at w = by_sort (sort_of w)
  where
    by_sort : (sort : Sort) → Own at (term_by sort names at w)
    by_sort Variable = tt
    by_sort Name = tt
    by_sort Other = refl

pub used_tells : (names : Names) (at : ℕ) (w : Word) → Tells (name_form w) (used names at w)
unfolding used
used_tells names at w = by_sort (sort_of w)
  where
    by_sort : (sort : Sort) → Tells (allowed (is_name_sort sort)) (name_by sort names at w)
    by_sort Variable = (λ w. w, λ b. b)
    by_sort Name = (tt, tt)
    by_sort Other = (λ w. w, λ b. b)

pub used_own : (names : Names) (at : ℕ) (w : Word) → Own at (used names at w)
unfolding used
used_own names at w = by_sort (sort_of w)
  where
    by_sort : (sort : Sort) → Own at (name_by sort names at w)
    by_sort Variable = refl
    by_sort Name = tt
    by_sort Other = refl

pub end_exact : (p : Placed) → IsExact end_form end_due p
unfolding end_due
end_exact cut = exact_cut end_form end_due refl (λ w. w, tt)
end_exact (close at) = exact_close end_form end_due refl at (Ok tt) refl tt (tt, tt)
end_exact (word at w p) = exact_no_word end_form end_due refl at w p 8 (λ p. refl) (λ w. w, λ b. b)
end_exact (list at p q) = exact_no_list end_form end_due refl at p q 8 (λ p q. refl) (λ w. w, λ b. b)

pub passed_exact : (p : Placed) → IsExact passed_form passed p
unfolding passed
passed_exact cut = exact_cut passed_form passed refl (λ w. w, tt)
passed_exact (close at) = exact_close passed_form passed refl at (Ok tt) refl tt (tt, tt)
passed_exact (word at w p) = exact_behind passed_form passed refl at w p passed_form passed (λ p. refl) (passed_exact p) (λ t. t)
passed_exact (list at p q) = exact_list passed_form passed refl at p q passed (λ _ q. passed q) passed_form passed_form (λ p q. refl) (passed_exact p) (λ _ e. passed_exact q) (λ t. t)

pub terms_exact : (p : Placed) (names : Names) → IsExact terms_form (terms names) p
unfolding terms
terms_exact cut names = exact_cut terms_form (terms names) refl (λ w. w, tt)
terms_exact (close at) names = exact_close terms_form (terms names) refl at (Ok ([], names)) refl tt (tt, tt)
terms_exact (list at p q) names = exact_no_list terms_form (terms names) refl at p q 8 (λ p q. refl) (λ w. w, λ b. b)
terms_exact (word at w p) names =
    exact_word terms_form (terms names) refl at w p (term names at w) (λ x p. terms x.1 p >>= (λ xs. Ok (x.0 ∷ xs.0, xs.1))) (term_form w) terms_form (λ p. refl) (term_own names at w) (term_tells names at w)
    (λ x e. exact_map terms_form (terms x.1) (λ xs. (x.0 ∷ xs.0, xs.1)) p (terms_exact p x.1)) (λ t. t)

pub atom_exact : (p : Placed) (names : Names) (at : ℕ) (w : Word) → IsExact terms_form (atom names at w) p
unfolding atom
atom_exact p names at w = exact_map terms_form (terms (raw_term names false at w).1) _ p (terms_exact p (raw_term names false at w).1)

last : Names → RawTerm → Placed → Result ((RawTerm × RawTerm) × Names) Stop
last names x p = word_due p >>= (λ w. term names w.0 w.1 >>= (λ y. end_due w.2 >>= (λ _. Ok ((x, y.0), y.1))))

last_exact : (p : Placed) (names : Names) (x : RawTerm) → IsExact last_term_form (last names x) p
unfolding last word_due
last_exact cut names x = exact_cut last_term_form (last names x) refl (λ w. w, tt)
last_exact (close at) names x = exact_close last_term_form (last names x) refl at (Err (Departs 8 at)) refl refl (λ w. w, λ b. b)
last_exact (list at p q) names x = exact_no_list last_term_form (last names x) refl at p q 8 (λ p q. refl) (λ w. w, λ b. b)
last_exact (word at w p) names x =
    exact_word last_term_form (last names x) refl at w p (term names at w) (λ y p. end_due p >>= (λ _. Ok ((x, y.0), y.1))) (term_form w) end_form (λ p. refl) (term_own names at w) (term_tells names at w)
    (λ y e. exact_map end_form end_due (λ _. ((x, y.0), y.1)) p (end_exact p)) (λ t. t)

pub two_terms_exact : (p : Placed) (names : Names) → IsExact two_terms_form (two_terms names) p
unfolding two_terms word_due
two_terms_exact cut names = exact_cut two_terms_form (two_terms names) refl (λ w. w, tt)
two_terms_exact (close at) names = exact_close two_terms_form (two_terms names) refl at (Err (Departs 8 at)) refl refl (λ w. w, λ b. b)
two_terms_exact (list at p q) names = exact_no_list two_terms_form (two_terms names) refl at p q 8 (λ p q. refl) (λ w. w, λ b. b)
two_terms_exact (word at w p) names =
    exact_word two_terms_form (two_terms names) refl at w p (term names at w) (λ x p. last x.1 x.0 p) (term_form w) last_term_form (λ p. unfold last in refl) (term_own names at w) (term_tells names at w)
    (λ x e. last_exact p x.1 x.0) (λ t. t)

pub applied_exact : (p : Placed) (names : Names) → IsExact applied_form (applied names) p
unfolding applied word_due
applied_exact cut names = exact_cut applied_form (applied names) refl (λ w. w, tt)
applied_exact (close at) names = exact_close applied_form (applied names) refl at (Err (Departs 8 at)) refl refl (λ w. w, λ b. b)
applied_exact (list at p q) names = exact_no_list applied_form (applied names) refl at p q 8 (λ p q. refl) (λ w. w, λ b. b)
applied_exact (word at w p) names =
    exact_word applied_form (applied names) refl at w p (used names at w) (λ x p. terms x.1 p >>= (λ xs. Ok (record { head = x.0; args = xs.0 }, xs.1))) (name_form w) terms_form (λ p. refl) (used_own names at w) (used_tells names at w)
    (λ x e. exact_map terms_form (terms x.1) _ p (terms_exact p x.1)) (λ t. t)
