-- Terms and atoms are answered as the grammar says.
use Rattle.std.proofs.Common.{◌≡◌, ℕ, Ok, Err, Result, ◌∷◌, drop, true, false, refl, ◌∙◌, ap}
use Rattle.text_forms.specs.Placed.{Placed, cut, close, word, list}
use Rattle.text_forms.specs.Words.{Word, is_name}
use Rattle.text_forms.specs.form_grammar.Codes.{Form, wrong, ◌followed_by◌}
use Rattle.text_forms.specs.form_grammar.Lists.{term_rows}
use Rattle.text_forms.specs.form_grammar.Lists as due
use Rattle.text_forms.specs.form_grammar.Rows.{Next, go, stop, if_allowed, Rows, form}
use Rattle.text_forms.specs.form_grammar.Words as words
use Rattle.gd_reader.specs.declared.stop.Stop.{Stop}
use Rattle.gd_reader.specs.declared.stop.Stop.TheVariants.{Ends, Departs}
use Rattle.gd_reader.specs.declared.term.RawTerm.{RawTerm}
use Rattle.gd_reader.specs.declared.words.Sort.{Sort}
use Rattle.gd_reader.specs.declared.words.Sort.TheVariants.{Variable, Name, Other}
use Rattle.gd_reader.specs.Answers.{◌>>=◌, word_due, end_due, passed}
use Rattle.gd_reader.specs.TermGrammar.{is_term_sort, is_name_sort}
use Rattle.gd_reader.specs.Terms.{Names, term, term_by, raw_term, terms, two_terms, atom, applied, used, name_by}
use Rattle.gd_reader.specs.Words.{sort_of}
use Rattle.hddl_reader.specs.Said.{said}
use Rattle.gd_reader.proofs.Sorts.{name_test}
use Rattle.hddl_reader.proofs.WordTests.{term_test}

-- one answer after another
pub said_then : {A B : Type 0} (a : Result A Stop) (k : A → Result B Stop) (f h : Form) → said a ≡ f → ((x : A) → said (k x) ≡ h) → said (a >>= k) ≡ f followed_by h
said_then (Ok x) k f h s t = t x ∙ ap (λ f. f followed_by h) s
said_then (Err Ends) k f h s t = ap (λ f. f followed_by h) s
said_then (Err (Departs code at)) k f h s t = ap (λ f. f followed_by h) s

-- a value that is built of another
pub said_map : {A B : Type 0} (a : Result A Stop) (k : A → B) → said (a >>= (λ x. Ok (k x))) ≡ said a
said_map (Ok x) k = refl
said_map (Err Ends) k = refl
said_map (Err (Departs code at)) k = refl

-- what a word's place is, where the grammar says what the word may be
abbrev pub at_next : {X : Type 0} → Rows X → Next X → ℕ → Placed → Form
at_next rows n at q = elim n [ go x ↦ form rows x q | stop code ↦ wrong code at ]

pub ends_said : (q : Placed) → said (end_due q) ≡ form term_rows due.ended q
unfolding end_due
ends_said cut = refl
ends_said (close at) = refl
ends_said (word at w q) = refl
ends_said (list at p q) = refl

pub end_said : {B : Type 0} (q : Placed) (y : B) → said (end_due q >>= (λ x. Ok y)) ≡ form term_rows due.ended q
end_said q y = said_map (end_due q) (λ x. y) ∙ ends_said q

-- a term, and what is due behind it
term_by_said : {B X : Type 0} (rows : Rows X) (s : Sort) (names : Names) (at : ℕ) (w : Word) (k : RawTerm × Names → Result B Stop) (next : X) (q : Placed) → ((x : RawTerm × Names) → said (k x) ≡ form rows next q)
    → said (term_by s names at w >>= k) ≡ at_next rows (if_allowed (is_term_sort s) 8 next) at q
term_by_said rows Variable names at w k next q h = h (raw_term names true at (drop 1 w))
term_by_said rows Name names at w k next q h = h (raw_term names false at w)
term_by_said rows Other names at w k next q h = refl

pub term_then : {B X : Type 0} (rows : Rows X) (names : Names) (at : ℕ) (w : Word) (k : RawTerm × Names → Result B Stop) (next : X) (q : Placed) → ((x : RawTerm × Names) → said (k x) ≡ form rows next q)
    → said (term names at w >>= k) ≡ at_next rows (words.used words.is_term next w) at q
unfolding term
term_then rows names at w k next q h = term_by_said rows (sort_of w) names at w k next q h ∙ ap (λ b. at_next rows (if_allowed b 8 next) at q) (term_test w)

-- a name, and what is due behind it
used_by_said : {B X : Type 0} (rows : Rows X) (s : Sort) (names : Names) (at : ℕ) (w : Word) (k : RawTerm × Names → Result B Stop) (next : X) (q : Placed) → ((x : RawTerm × Names) → said (k x) ≡ form rows next q)
    → said (name_by s names at w >>= k) ≡ at_next rows (if_allowed (is_name_sort s) 8 next) at q
used_by_said rows Variable names at w k next q h = refl
used_by_said rows Name names at w k next q h = h (raw_term names false at w)
used_by_said rows Other names at w k next q h = refl

pub used_then : {B X : Type 0} (rows : Rows X) (names : Names) (at : ℕ) (w : Word) (k : RawTerm × Names → Result B Stop) (next : X) (q : Placed) → ((x : RawTerm × Names) → said (k x) ≡ form rows next q)
    → said (used names at w >>= k) ≡ at_next rows (words.used is_name next w) at q
unfolding used
used_then rows names at w k next q h = used_by_said rows (sort_of w) names at w k next q h ∙ ap (λ b. at_next rows (if_allowed b 8 next) at q) (name_test w)

pub terms_said : (p : Placed) (names : Names) → said (terms names p) ≡ form term_rows due.terms p
unfolding terms
terms_said cut names = refl
terms_said (close at) names = refl
terms_said (list at p q) names = refl
terms_said (word at w p) names = term_then term_rows names at w _ due.terms p (λ x. said_map (terms x.1 p) (λ xs. (x.0 ∷ xs.0, xs.1)) ∙ terms_said p x.1)

pub atom_said : (p : Placed) (names : Names) (at : ℕ) (w : Word) → said (atom names at w p) ≡ form term_rows due.terms p
unfolding atom
atom_said p names at w = said_map (terms (raw_term names false at w).1 p) _ ∙ terms_said p (raw_term names false at w).1

pub applied_said : (p : Placed) (names : Names) → said (applied names p) ≡ form term_rows due.applied p
unfolding applied word_due
applied_said cut names = refl
applied_said (close at) names = refl
applied_said (list at p q) names = refl
applied_said (word at w p) names = used_then term_rows names at w (λ x. terms x.1 p >>= (λ xs. Ok (record { head = x.0; args = xs.0 }, xs.1))) due.terms p (λ x. said_map (terms x.1 p) _ ∙ terms_said p x.1)

last_said : (p : Placed) (x : RawTerm × Names) → said {A = (RawTerm × RawTerm) × Names} (word_due p >>= (λ w. term x.1 w.0 w.1 >>= (λ y. end_due w.2 >>= (λ z. Ok ((x.0, y.0), y.1))))) ≡ form term_rows (due.term due.ended) p
unfolding word_due
last_said cut x = refl
last_said (close at) x = refl
last_said (list at p q) x = refl
last_said (word at w q) x = term_then term_rows x.1 at w (λ y. end_due q >>= (λ z. Ok ((x.0, y.0), y.1))) due.ended q (λ y. end_said q ((x.0, y.0), y.1))

pub two_terms_said : (p : Placed) (names : Names) → said (two_terms names p) ≡ form term_rows (due.term (due.term due.ended)) p
unfolding two_terms word_due
two_terms_said cut names = refl
two_terms_said (close at) names = refl
two_terms_said (list at p q) names = refl
two_terms_said (word at w q) names =
    term_then term_rows names at w (λ x. word_due q >>= (λ w. term x.1 w.0 w.1 >>= (λ y. end_due w.2 >>= (λ z. Ok ((x.0, y.0), y.1))))) (due.term due.ended) q (λ x. last_said q x)

-- words and lists that are passed over
pub passed_said : (p : Placed) → said (passed p) ≡ form term_rows due.anything p
unfolding passed
passed_said cut = refl
passed_said (close at) = refl
passed_said (word at w p) = passed_said p
passed_said (list at p q) = said_then (passed p) (λ x. passed q) (form term_rows due.anything p) (form term_rows due.anything q) (passed_said p) (λ x. passed_said q)
