-- Terms and atoms write no unions.
use Rattle.std.proofs.Common.{◌≡◌, ◌∙◌, ℕ, Ok, Result, [], ◌∷◌, drop, false, refl}
use Rattle.text_forms.specs.Lists.{nothing}
use Rattle.text_forms.specs.Placed.{Placed, cut, close, word, list, parts_of}
use Rattle.text_forms.specs.Words.{Word}
use Rattle.gd_reader.specs.declared.stop.Stop.{Stop}
use Rattle.gd_reader.specs.declared.term.RawTerm.{RawTerm}
use Rattle.gd_reader.specs.declared.words.Sort.{Sort}
use Rattle.gd_reader.specs.declared.words.Sort.TheVariants.{Variable, Name, Other}
use Rattle.gd_reader.specs.Answers.{◌>>=◌, word_due, end_due}
use Rattle.gd_reader.specs.Terms.{Names, raw_term, term_by, term, used, terms, two_terms, applied, atom}
use Rattle.gd_reader.specs.Words.{sort_of}
use Rattle.gd_reader.proofs.Keeping.{keeps_same, keeps_word}
use Rattle.text_values.proofs.form_spellings.KeptWords.{Reads, reads_then, reads_map, reads_end}
use Rattle.text_values.proofs.form_spellings.TermsBound.{NameBound, used_bound}
use Rattle.text_values.proofs.form_spellings.TermsIn.{same}
use Rattle.text_values.proofs.form_spellings.seen.Erased.{unions_at, inside_at, named_inside}

-- of whatever is read
abbrev pub Any : {X : Type 0} → X → Names → Type 0
Any x table = Unit {0}

abbrev pub NoUnions : {X : Type 0} → Placed → X → Names → Type 0
NoUnions p x table = unions_at p ≡ []

abbrev pub NoneInside : {X : Type 0} → Placed → X → Names → Type 0
NoneInside p x table = inside_at p ≡ []

pub none_at_end : (q : Placed) → parts_of q ≡ nothing → unions_at q ≡ []
none_at_end cut e = refl
none_at_end (close at) e = refl
none_at_end (word at w p) e = absurd (cc)
none_at_end (list at p q) e = absurd (cc)

pub none_inside_end : (q : Placed) → parts_of q ≡ nothing → inside_at q ≡ []
none_inside_end cut e = refl
none_inside_end (close at) e = refl
none_inside_end (word at w p) e = absurd (cc)
none_inside_end (list at p q) e = absurd (cc)

pub term_any : (names : Names) (at : ℕ) (w : Word) → Reads names (term names at w) Any
unfolding term
term_any names at w = go (sort_of w)
  where
    go : (s : Sort) → Reads names (term_by s names at w) Any
    go Variable = (keeps_word names (drop 1 w), λ table k. tt)
    go Name = (keeps_word names w, λ table k. tt)
    go Other = tt

pub terms_none : (p : Placed) (names : Names) → Reads names (terms names p) (NoUnions p)
unfolding terms
terms_none cut names = tt
terms_none (close at) names = (keeps_same names, λ table k. refl)
terms_none (list at p q) names = tt
terms_none (word at w p) names =
    reads_then same Any (NoUnions p) names (term names at w) (λ x. terms x.1 p >>= (λ xs. Ok (x.0 ∷ xs.0, xs.1))) (term_any names at w)
    (λ x. reads_map (NoUnions p) (λ ts table. Any x.0 table → NoUnions p ts table) x.1 (terms x.1 p) (λ ts. x.0 ∷ ts) (terms_none p x.1) (λ ts table is one. is))

pub atom_none : (p : Placed) (names : Names) (at : ℕ) (w : Word) → Reads names (atom names at w p) (NoUnions p)
unfolding atom
atom_none p names at w =
    reads_then same Any (NoUnions p) names (Ok (raw_term names false at w)) (λ x. terms x.1 p >>= (λ xs. Ok (record { head = x.0; args = xs.0 }, xs.1))) (keeps_word names w, λ table k. tt)
    (λ x. reads_map (NoUnions p) (λ a table. Any x.0 table → NoUnions p a table) x.1 (terms x.1 p) (λ ts. record { head = x.0; args = ts }) (terms_none p x.1) (λ ts table is one. is))

pub applied_none : (p : Placed) (names : Names) → Reads names (applied names p) (NoneInside p)
unfolding applied word_due
applied_none cut names = tt
applied_none (close at) names = tt
applied_none (list at p q) names = tt
applied_none (word at w p) names =
    reads_then same (NameBound w) (NoneInside (word at w p)) names (used names at w) (λ x. terms x.1 p >>= (λ xs. Ok (record { head = x.0; args = xs.0 }, xs.1))) (used_bound names at w)
    (λ x. reads_map (NoUnions p) (λ a table. NameBound w x.0 table → NoneInside (word at w p) a table) x.1 (terms x.1 p) (λ ts. record { head = x.0; args = ts }) (terms_none p x.1) (λ ts table is one. named_inside at w p one.1 ∙ is))

last : RawTerm → Names → Placed → Result ((RawTerm × RawTerm) × Names) Stop
last x names p = word_due p >>= (λ w. term names w.0 w.1 >>= (λ y. end_due w.2 >>= (λ _. Ok ((x, y.0), y.1))))

last_none : (p : Placed) (names : Names) (x : RawTerm) → Reads names (last x names p) (λ xy table. Any x table → NoUnions p xy table)
unfolding last word_due
last_none cut names x = tt
last_none (close at) names x = tt
last_none (list at p q) names x = tt
last_none (word at w p) names x =
    reads_then same Any (λ xy table. Any x table → NoUnions p xy table) names (term names at w) (λ y. end_due p >>= (λ _. Ok ((x, y.0), y.1))) (term_any names at w)
    (λ y. reads_end (λ xy table. Any y.0 table → Any x table → NoUnions p xy table) p ((x, y.0), y.1) (λ e table is one. none_at_end p e))

pub two_none : (p : Placed) (names : Names) → Reads names (two_terms names p) (NoUnions p)
unfolding two_terms word_due last
two_none cut names = tt
two_none (close at) names = tt
two_none (list at p q) names = tt
two_none (word at w p) names = reads_then same Any (NoUnions (word at w p)) names (term names at w) (λ x. last x.0 x.1 p) (term_any names at w) (λ x. last_none p x.1 x.0)
