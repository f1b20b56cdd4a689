-- What holds of the names of terms and atoms.
use Rattle.std.proofs.Common.{◌≡◌, ℕ, Bool, true, false, Ok, Result, List, ◌∷◌, drop, refl, subst}
use Rattle.text_forms.specs.Placed.{Placed, cut, close, word, list}
use Rattle.text_forms.specs.Words.{Word}
use Rattle.plan_texts.specs.Types.{EachIs}
use Rattle.gd_reader.specs.declared.stop.Stop.{Stop}
use Rattle.gd_reader.specs.declared.term.RawTerm.{RawTerm}
use Rattle.gd_reader.specs.declared.term.RawAtom.{RawAtom}
use Rattle.gd_reader.specs.declared.words.Sort.{Sort}
use Rattle.gd_reader.specs.declared.words.Sort.TheVariants.{Variable, Name, Other}
use Rattle.gd_reader.specs.Answers.{◌>>=◌, word_due, end_due}
use Rattle.gd_reader.specs.Terms.{Names, raw_term, term_by, term, name_by, used, terms, two_terms, applied, atom}
use Rattle.gd_reader.specs.Words.{sort_of}
use Rattle.gd_reader.proofs.Keeping.{keeps_same, keeps_word}
use Rattle.text_values.specs.form_spellings.EachName.{OfTerm, OfAtom}
use Rattle.text_values.specs.form_spellings.Places.{as_written}
use Rattle.text_values.proofs.form_spellings.Facts.{Facts, AllSeen, written_variable}
use Rattle.text_values.proofs.form_spellings.KeptWords.{Reads, reads_then, reads_map, reads_end}

abbrev pub same : Names → Names
same names = names

module _ (F : Facts) where
  abbrev pub TermIn : RawTerm → Names → Type 0
  TermIn t table = OfTerm (F.Is table) t

  abbrev pub TermsIn : List RawTerm → Names → Type 0
  TermsIn ts table = EachIs (OfTerm (F.Is table)) ts

  abbrev pub AtomIn : RawAtom → Names → Type 0
  AtomIn a table = OfAtom (F.Is table) a

  pub raw_in : (names : Names) (variable : Bool) (at : ℕ) (w : Word) → F.Seen at (as_written variable w) → Reads names (Ok (raw_term names variable at w)) TermIn
  raw_in names variable at w s = (keeps_word names w, λ table k. F.holds names table variable at w k s)

  pub term_in : (names : Names) (at : ℕ) (w : Word) → F.Seen at w → Reads names (term names at w) TermIn
  unfolding term
  term_in names at w seen = go (sort_of w) refl
    where
      go : (s : Sort) → sort_of w ≡ s → Reads names (term_by s names at w) TermIn
      go Variable e = raw_in names true at (drop 1 w) (subst (F.Seen at) (written_variable w e) seen)
      go Name e = raw_in names false at w seen
      go Other e = tt

  pub used_in : (names : Names) (at : ℕ) (w : Word) → F.Seen at w → Reads names (used names at w) TermIn
  unfolding used
  used_in names at w seen = go (sort_of w)
    where
      go : (s : Sort) → Reads names (name_by s names at w) TermIn
      go Variable = tt
      go Name = raw_in names false at w seen
      go Other = tt

  pub terms_in : (p : Placed) (names : Names) → AllSeen F p → Reads names (terms names p) TermsIn
  unfolding terms
  terms_in cut names s = tt
  terms_in (close at) names s = (keeps_same names, λ table k. tt)
  terms_in (list at p q) names s = tt
  terms_in (word at w p) names s =
      reads_then same TermIn TermsIn names (term names at w) (λ x. terms x.1 p >>= (λ xs. Ok (x.0 ∷ xs.0, xs.1))) (term_in names at w s.0)
      (λ x. reads_map TermsIn (λ ts table. TermIn x.0 table → TermsIn ts table) x.1 (terms x.1 p) (λ ts. x.0 ∷ ts) (terms_in p x.1 s.1) (λ ts table is one. (one, is)))

  pub atom_in : (p : Placed) (names : Names) (at : ℕ) (w : Word) → F.Seen at w → AllSeen F p → Reads names (atom names at w p) AtomIn
  unfolding atom
  atom_in p names at w seen s =
      reads_then same TermIn AtomIn names (Ok (raw_term names false at w)) (λ x. terms x.1 p >>= (λ xs. Ok (record { head = x.0; args = xs.0 }, xs.1))) (raw_in names false at w seen)
      (λ x. reads_map TermsIn (λ a table. TermIn x.0 table → AtomIn a table) x.1 (terms x.1 p) (λ ts. record { head = x.0; args = ts }) (terms_in p x.1 s) (λ ts table is one. (one, is)))

  pub applied_in : (p : Placed) (names : Names) → AllSeen F p → Reads names (applied names p) AtomIn
  unfolding applied word_due
  applied_in cut names s = tt
  applied_in (close at) names s = tt
  applied_in (list at p q) names s = tt
  applied_in (word at w p) names s =
      reads_then same TermIn AtomIn names (used names at w) (λ x. terms x.1 p >>= (λ xs. Ok (record { head = x.0; args = xs.0 }, xs.1))) (used_in names at w s.0)
      (λ x. reads_map TermsIn (λ a table. TermIn x.0 table → AtomIn a table) x.1 (terms x.1 p) (λ ts. record { head = x.0; args = ts }) (terms_in p x.1 s.1) (λ ts table is one. (one, is)))

  abbrev pub PairIn : RawTerm × RawTerm → Names → Type 0
  PairIn x table = TermIn x.0 table × TermIn x.1 table

  last : RawTerm → Names → Placed → Result ((RawTerm × RawTerm) × Names) Stop
  last x names p = word_due p >>= (λ w. term names w.0 w.1 >>= (λ y. end_due w.2 >>= (λ _. Ok ((x, y.0), y.1))))

  last_in : (p : Placed) (names : Names) (x : RawTerm) → AllSeen F p → Reads names (last x names p) (λ xy table. TermIn x table → PairIn xy table)
  unfolding last word_due
  last_in cut names x s = tt
  last_in (close at) names x s = tt
  last_in (list at p q) names x s = tt
  last_in (word at w p) names x s =
      reads_then same TermIn (λ xy table. TermIn x table → PairIn xy table) names (term names at w) (λ y. end_due p >>= (λ _. Ok ((x, y.0), y.1))) (term_in names at w s.0)
      (λ y. reads_end (λ xy table. TermIn y.0 table → TermIn x table → PairIn xy table) p ((x, y.0), y.1) (λ _ table is one. (one, is)))

  pub two_in : (p : Placed) (names : Names) → AllSeen F p → Reads names (two_terms names p) PairIn
  unfolding two_terms word_due last
  two_in cut names s = tt
  two_in (close at) names s = tt
  two_in (list at p q) names s = tt
  two_in (word at w p) names s = reads_then same TermIn PairIn names (term names at w) (λ x. last x.0 x.1 p) (term_in names at w s.0) (λ x. last_in p x.1 x.0 s.1)
