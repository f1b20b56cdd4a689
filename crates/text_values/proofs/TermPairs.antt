-- Terms and atoms are read alike.
use Rattle.std.proofs.Common.{◌≡◌, ℕ, Bool, true, false, Ok, Result, List, [], ◌∷◌, drop, refl, sym, ◌∙◌}
use Rattle.htn_base.specs.Table.{with_word}
use Rattle.text_forms.specs.Placed.{Placed, cut, close, word, list}
use Rattle.text_forms.specs.Words.{Word, word_at}
use Rattle.gd_reader.specs.declared.stop.Stop.{Stop}
use Rattle.gd_reader.specs.declared.term.RawTerm.{RawTerm}
use Rattle.gd_reader.specs.declared.term.RawAtom.{RawAtom}
use Rattle.gd_reader.specs.declared.words.Sort.{Sort}
use Rattle.gd_reader.specs.declared.words.Sort.TheVariants.{Variable, Name, Other}
use Rattle.gd_reader.specs.Answers.{◌>>=◌, word_due, end_due}
use Rattle.gd_reader.specs.Terms.{Names, name_in, raw_term, term_by, term, name_by, used, terms, two_terms, applied, atom}
use Rattle.gd_reader.specs.Words.{sort_of}
use Rattle.text_values.proofs.Alike.{AlikeTerm, AlikeTerms, AlikeAtom}
use Rattle.text_values.proofs.Pairs.{Tie, Tied, after, built, behind_same, here, with_both}

abbrev pub TermTie : Tie RawTerm
TermTie x y t u = AlikeTerm t u x y

abbrev pub TermsTie : Tie (List RawTerm)
TermsTie xs ys t u = AlikeTerms t u xs ys

abbrev pub AtomTie : Tie RawAtom
AtomTie a b t u = AlikeAtom t u a b

abbrev pub TwoTie : Tie (RawTerm × RawTerm)
TwoTie x y t u = AlikeTerm t u x.0 y.0 × AlikeTerm t u x.1 y.1

-- the end of the list behind what was read
pub ended : {X : Type 0} (Q : Tie X) (q : Placed) (x y : X × Names) → ((t u : Names) → Q x.0 y.0 t u) → Tied x.1 y.1 (end_due q >>= (λ _. Ok x)) (end_due q >>= (λ _. Ok y)) Q
ended Q q x y h = behind_same Q x.1 y.1 (end_due q) (λ _. Ok x) (λ _. Ok y) (λ _. here Q x.1 y.1 x.0 y.0 h)

pub raw_tied : (n m : Names) (variable : Bool) (at : ℕ) (w : Word) → Tied n m (Ok (raw_term n variable at w)) (Ok (raw_term m variable at w)) TermTie
raw_tied n m variable at w =
    with_both TermTie n m w (Ok (raw_term n variable at w)) (Ok (raw_term m variable at w))
    (here (λ x y t u. word_at t (name_in n w).number ≡ w → word_at u (name_in m w).number ≡ w → TermTie x y t u) (with_word n w) (with_word m w) (raw_term n variable at w).0 (raw_term m variable at w).0
    (λ t u e f. record { word = e ∙ sym f; variable = refl; at = refl }))

pub term_tied : (n m : Names) (at : ℕ) (w : Word) → Tied n m (term n at w) (term m at w) TermTie
unfolding term
term_tied n m at w = go (sort_of w)
  where
    go : (s : Sort) → Tied n m (term_by s n at w) (term_by s m at w) TermTie
    go Variable = raw_tied n m true at (drop 1 w)
    go Name = raw_tied n m false at w
    go Other = tt

pub used_tied : (n m : Names) (at : ℕ) (w : Word) → Tied n m (used n at w) (used m at w) TermTie
unfolding used
used_tied n m at w = go (sort_of w)
  where
    go : (s : Sort) → Tied n m (name_by s n at w) (name_by s m at w) TermTie
    go Variable = tt
    go Name = raw_tied n m false at w
    go Other = tt

pub terms_tied : (p : Placed) (n m : Names) → Tied n m (terms n p) (terms m p) TermsTie
unfolding terms
terms_tied cut n m = tt
terms_tied (close at) n m = here TermsTie n m [] [] (λ t u. tt)
terms_tied (list at p q) n m = tt
terms_tied (word at w p) n m =
    after TermTie TermsTie n m (term n at w) (term m at w) (λ x. terms x.1 p >>= (λ xs. Ok (x.0 ∷ xs.0, xs.1))) (λ x. terms x.1 p >>= (λ xs. Ok (x.0 ∷ xs.0, xs.1))) (term_tied n m at w)
    (λ x y. built TermsTie (λ xs ys t u. TermTie x.0 y.0 t u → TermsTie xs ys t u) x.1 y.1 (terms x.1 p) (terms y.1 p) (λ xs. x.0 ∷ xs) (λ ys. y.0 ∷ ys) (terms_tied p x.1 y.1) (λ xs ys t u is one. (one, is)))

-- terms behind a name
behind_head : (p : Placed) (x y : RawTerm × Names)
    → Tied x.1 y.1 (terms x.1 p >>= (λ xs. Ok (record { head = x.0; args = xs.0 }, xs.1))) (terms y.1 p >>= (λ xs. Ok (record { head = y.0; args = xs.0 }, xs.1))) (λ a b t u. TermTie x.0 y.0 t u → AtomTie a b t u)
behind_head p x y =
    built TermsTie (λ a b t u. TermTie x.0 y.0 t u → AtomTie a b t u) x.1 y.1 (terms x.1 p) (terms y.1 p) (λ xs. record { head = x.0; args = xs }) (λ ys. record { head = y.0; args = ys }) (terms_tied p x.1 y.1)
    (λ xs ys t u is one. record { head = one; args = is })

pub atom_tied : (p : Placed) (n m : Names) (at : ℕ) (w : Word) → Tied n m (atom n at w p) (atom m at w p) AtomTie
unfolding atom
atom_tied p n m at w =
    after TermTie AtomTie n m (Ok (raw_term n false at w)) (Ok (raw_term m false at w)) (λ x. terms x.1 p >>= (λ xs. Ok (record { head = x.0; args = xs.0 }, xs.1)))
    (λ x. terms x.1 p >>= (λ xs. Ok (record { head = x.0; args = xs.0 }, xs.1))) (raw_tied n m false at w) (λ x y. behind_head p x y)

pub applied_tied : (p : Placed) (n m : Names) → Tied n m (applied n p) (applied m p) AtomTie
unfolding applied word_due
applied_tied cut n m = tt
applied_tied (close at) n m = tt
applied_tied (list at p q) n m = tt
applied_tied (word at w p) n m =
    after TermTie AtomTie n m (used n at w) (used m at w) (λ x. terms x.1 p >>= (λ xs. Ok (record { head = x.0; args = xs.0 }, xs.1)))
    (λ x. terms x.1 p >>= (λ xs. Ok (record { head = x.0; args = xs.0 }, xs.1))) (used_tied n m at w) (λ x y. behind_head p x y)

last : RawTerm → Names → Placed → Result ((RawTerm × RawTerm) × Names) Stop
last x names p = word_due p >>= (λ w. term names w.0 w.1 >>= (λ y. end_due w.2 >>= (λ _. Ok ((x, y.0), y.1))))

last_tied : (p : Placed) (n m : Names) (x y : RawTerm) → Tied n m (last x n p) (last y m p) (λ a b t u. TermTie x y t u → TwoTie a b t u)
unfolding last word_due
last_tied cut n m x y = tt
last_tied (close at) n m x y = tt
last_tied (list at p q) n m x y = tt
last_tied (word at w p) n m x y =
    after TermTie (λ a b t u. TermTie x y t u → TwoTie a b t u) n m (term n at w) (term m at w) (λ z. end_due p >>= (λ _. Ok ((x, z.0), z.1))) (λ z. end_due p >>= (λ _. Ok ((y, z.0), z.1))) (term_tied n m at w)
    (λ v z. ended (λ a b t u. TermTie v.0 z.0 t u → TermTie x y t u → TwoTie a b t u) p ((x, v.0), v.1) ((y, z.0), z.1) (λ t u is one. (one, is)))

pub two_tied : (p : Placed) (n m : Names) → Tied n m (two_terms n p) (two_terms m p) TwoTie
unfolding two_terms word_due last
two_tied cut n m = tt
two_tied (close at) n m = tt
two_tied (list at p q) n m = tt
two_tied (word at w p) n m = after TermTie TwoTie n m (term n at w) (term m at w) (λ x. last x.0 x.1 p) (λ x. last x.0 x.1 p) (term_tied n m at w) (λ x y. last_tied p x.1 y.1 x.0 y.0)
