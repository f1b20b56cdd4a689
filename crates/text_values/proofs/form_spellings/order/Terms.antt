-- Terms and atoms are read at rising offsets.
use Rattle.std.proofs.Common.{◌≡◌, ℕ, suc, ◌≤◌, true, false, Ok, Result, List, [], ◌∷◌, drop, refl, ap, sym, subst, ◌∙◌, arith}
use Rattle.text_forms.specs.Placed.{Placed, cut, close, word, list}
use Rattle.text_forms.specs.Printing.{are_folded}
use Rattle.text_forms.specs.Words.{Word}
use Rattle.plan_texts.specs.Declared.{named}
use Rattle.plan_texts.specs.Printable.{IsPlain}
use Rattle.gd_reader.specs.declared.stop.Stop.{Stop}
use Rattle.gd_reader.specs.declared.term.RawAtom.{RawAtom}
use Rattle.gd_reader.specs.declared.term.RawTerm.{RawTerm}
use Rattle.gd_reader.specs.declared.words.Sort.{Sort}
use Rattle.gd_reader.specs.declared.words.Sort.TheVariants.{Variable, Name, Other}
use Rattle.gd_reader.specs.Answers.{◌>>=◌, word_due, end_due}
use Rattle.gd_reader.specs.Terms.{Names, raw_term, term_by, term, name_by, used, terms, two_terms, applied, atom}
use Rattle.gd_reader.specs.Words.{sort_of}
use Rattle.gd_reader.proofs.Keeping.{keeps_same, keeps_word}
use Rattle.hddl_reader.specs.Networks.{declared_by, declared}
use Rattle.text_values.proofs.form_spellings.KeptWords.{Reads, reads_then, reads_map, reads_weaken}
use Rattle.text_values.proofs.form_spellings.TermsBound.{word_stands}
use Rattle.text_values.proofs.form_spellings.TermsIn.{same}
use Rattle.text_values.proofs.form_spellings.WordTests.{name_of_sort}
use Rattle.text_values.proofs.form_spellings.order.Climbs.{Climbs, climbs_put}
use Rattle.text_values.proofs.form_spellings.order.Spans.{Span}

-- a name that was read of the word at a place
abbrev pub IsReadAs : ℕ → Word → RawTerm → Names → Type 0
IsReadAs at w t table = (t.at ≡ at) × (t.variable ≡ false) × (named table t.name ≡ w) × IsPlain w

pub plain_word : (at : ℕ) (w : Word) (t : RawTerm) (table : Names) → IsReadAs at w t table → IsPlain (named table t.name)
plain_word at w t table one = subst IsPlain (sym one.2) one.3

pub used_as : (names : Names) (at : ℕ) (w : Word) → are_folded w ≡ true → Reads names (used names at w) (IsReadAs at w)
unfolding used
used_as names at w low = go (sort_of w) refl
  where
    go : (s : Sort) → sort_of w ≡ s → Reads names (name_by s names at w) (IsReadAs at w)
    go Variable e = tt
    go Name e = (keeps_word names w, λ table k. (refl, refl, word_stands names w table k, (low, name_of_sort w e)))
    go Other e = tt

pub declared_as : (code : ℕ) (names : Names) (at : ℕ) (w : Word) → are_folded w ≡ true → Reads names (declared code names at w) (IsReadAs at w)
unfolding declared
declared_as code names at w low = go (sort_of w) refl
  where
    go : (s : Sort) → sort_of w ≡ s → Reads names (declared_by s code names at w) (IsReadAs at w)
    go Variable e = tt
    go Name e = (keeps_word names w, λ table k. (refl, refl, word_stands names w table k, (low, name_of_sort w e)))
    go Other e = tt

-- a term that was read at a place
abbrev pub IsReadAt : ℕ → RawTerm → Names → Type 0
IsReadAt at t table = t.at ≡ at

pub term_at : (names : Names) (at : ℕ) (w : Word) → Reads names (term names at w) (IsReadAt at)
unfolding term
term_at names at w = go (sort_of w)
  where
    go : (s : Sort) → Reads names (term_by s names at w) (IsReadAt at)
    go Variable = (keeps_word names (drop 1 w), λ table k. refl)
    go Name = (keeps_word names w, λ table k. refl)
    go Other = tt

abbrev pub term_place : RawTerm → ℕ
term_place t = t.at

abbrev pub TermsClimb : ℕ → ℕ → List RawTerm → Names → Type 0
TermsClimb from to ts table = Climbs term_place from ts to

pub terms_climb : (p : Placed) (names : Names) (from to : ℕ) → Span from p to → Reads names (terms names p) (TermsClimb from to)
unfolding terms
terms_climb cut names from to s = tt
terms_climb (close at) names from to s = let a = s.0 in let b = s.1 in (keeps_same names, λ table k. omega arith)
terms_climb (list at p q) names from to s = tt
terms_climb (word at w p) names from to s =
    reads_then same (IsReadAt at) (TermsClimb from to) names (term names at w) (λ x. terms x.1 p >>= (λ xs. Ok (x.0 ∷ xs.0, xs.1))) (term_at names at w)
    (λ x. reads_map (TermsClimb (suc at) to) (λ ts table. IsReadAt at x.0 table → TermsClimb from to ts table) x.1 (terms x.1 p) (λ ts. x.0 ∷ ts) (terms_climb p x.1 (suc at) to s.1)
    (λ ts table is one. climbs_put term_place x.0 ts at from to one s.0 is))

abbrev pub AtomClimbs : ℕ → ℕ → RawAtom → Names → Type 0
AtomClimbs from to a table = Climbs term_place from (a.head ∷ a.args) to

pub atom_climbs : (p : Placed) (names : Names) (at : ℕ) (w : Word) (from to : ℕ) → from ≤ at → Span (suc at) p to → Reads names (atom names at w p) (AtomClimbs from to)
unfolding atom
atom_climbs p names at w from to l s =
    reads_then same (IsReadAt at) (AtomClimbs from to) names (Ok (raw_term names false at w)) (λ x. terms x.1 p >>= (λ xs. Ok (record { head = x.0; args = xs.0 }, xs.1))) (keeps_word names w, λ table k. refl)
    (λ x. reads_map (TermsClimb (suc at) to) (λ a table. IsReadAt at x.0 table → AtomClimbs from to a table) x.1 (terms x.1 p) (λ ts. record { head = x.0; args = ts }) (terms_climb p x.1 (suc at) to s)
    (λ ts table is one. climbs_put term_place x.0 ts at from to one l is))

pub applied_climbs : (p : Placed) (names : Names) (from to : ℕ) → Span from p to → Reads names (applied names p) (AtomClimbs from to)
unfolding applied word_due
applied_climbs cut names from to s = tt
applied_climbs (close at) names from to s = tt
applied_climbs (list at p q) names from to s = tt
applied_climbs (word at w p) names from to s =
    reads_then same (IsReadAs at w) (AtomClimbs from to) names (used names at w) (λ x. terms x.1 p >>= (λ xs. Ok (record { head = x.0; args = xs.0 }, xs.1))) (used_as names at w s.2)
    (λ x. reads_map (TermsClimb (suc at) to) (λ a table. IsReadAs at w x.0 table → AtomClimbs from to a table) x.1 (terms x.1 p) (λ ts. record { head = x.0; args = ts }) (terms_climb p x.1 (suc at) to s.1)
    (λ ts table is one. climbs_put term_place x.0 ts at from to one.0 s.0 is))

-- two terms, the first in front
abbrev pub PairClimbs : ℕ → ℕ → RawTerm × RawTerm → Names → Type 0
PairClimbs from to x table = Climbs term_place from (x.0 ∷ x.1 ∷ []) to

last : RawTerm → Names → Placed → Result ((RawTerm × RawTerm) × Names) Stop
last x names p = word_due p >>= (λ w. term names w.0 w.1 >>= (λ y. end_due w.2 >>= (λ _. Ok ((x, y.0), y.1))))

-- the second is the one in this list
abbrev LastClimbs : ℕ → ℕ → RawTerm → RawTerm × RawTerm → Names → Type 0
LastClimbs from to x xy table = (xy.0 ≡ x) × Climbs term_place from (xy.1 ∷ []) to

last_climbs : (p : Placed) (names : Names) (x : RawTerm) (from to : ℕ) → Span from p to → Reads names (last x names p) (LastClimbs from to x)
unfolding last word_due end_due
last_climbs cut names x from to s = tt
last_climbs (close at) names x from to s = tt
last_climbs (list at p q) names x from to s = tt
last_climbs (word at w p) names x from to s =
    reads_then same (IsReadAt at) (LastClimbs from to x) names (term names at w) (λ y. end_due p >>= (λ _. Ok ((x, y.0), y.1))) (term_at names at w) (λ y. ended p y s.1)
  where
    ended : (p : Placed) (y : RawTerm × Names) → Span (suc at) p to → Reads y.1 (end_due p >>= (λ _. Ok ((x, y.0), y.1))) (λ xy table. IsReadAt at y.0 table → LastClimbs from to x xy table)
    ended cut y s = tt
    ended (close b) y c = let a = c.0 in let b = c.1 in (keeps_same y.1, λ table k one. (refl, climbs_put term_place y.0 [] at from to one s.0 (omega arith)))
    ended (word b u q) y s = tt
    ended (list b q r) y s = tt

pub two_climb : (p : Placed) (names : Names) (from to : ℕ) → Span from p to → Reads names (two_terms names p) (PairClimbs from to)
unfolding two_terms word_due last
two_climb cut names from to s = tt
two_climb (close at) names from to s = tt
two_climb (list at p q) names from to s = tt
two_climb (word at w p) names from to s =
    reads_then same (IsReadAt at) (PairClimbs from to) names (term names at w) (λ x. last x.0 x.1 p) (term_at names at w)
    (λ x. reads_weaken (LastClimbs (suc at) to x.0) (λ xy table. IsReadAt at x.0 table → PairClimbs from to xy table) x.1 (last x.0 x.1 p) (last_climbs p x.1 x.0 (suc at) to s.1)
    (λ xy table is one. climbs_put term_place xy.0 (xy.1 ∷ []) at from to (ap term_place is.0 ∙ one) s.0 is.1))
