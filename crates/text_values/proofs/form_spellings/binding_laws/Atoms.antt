-- Atoms by numbers and in words.
use Rattle.std.proofs.Common.{ℕ, ◌≡◌, inl, inr, List, [], ◌∷◌, map, length, refl, sym, ap, subst, ◌∙◌}
use Rattle.std.specs.Prelude.{◌⊎◌}
use Rattle.text_forms.specs.Words.{Word, word_at, first_place}
use Rattle.gd_reader.specs.declared.term.RawAtom.{RawAtom}
use Rattle.gd_reader.specs.declared.term.RawTerm.{RawTerm}
use Rattle.gd_reader.specs.Terms.{Names}
use Rattle.hddl_reader.specs.declared.sections.RawDomain.{RawDomain}
use Rattle.hddl_reader.specs.declared.sections.RawHead.{RawHead}
use Rattle.plan_texts.specs.Declared.{Declared}
use Rattle.plan_texts.specs.Together.{Together}
use Rattle.plan_texts.specs.Types.{EachIs}
use Rattle.text_values.specs.form_spellings.Bound.{IsBoundTerm, IsBoundAtom}
use Rattle.text_values.specs.form_spellings.EachName.{OfAtom}
use Rattle.text_values.specs.form_spellings.InTable.{IsIn, IsNameIn}
use Rattle.htn_base.specs.Lists.{One, Has}
use Rattle.hddl_reader.specs.names.Uses.{Scope, Use, predicate, applies, refers, IsOfAtom}
use Rattle.name_binding.specs.Heads.{head_numbers, declared}
use Rattle.name_binding.specs.Spots.{spot}
use Rattle.name_binding.specs.Terms.{term_bound, term_faults, terms_bound, terms_faults}
use Rattle.name_binding.specs.declared.known.Known.{Known}
use Rattle.name_binding.specs.Atoms.{head_faults, atom_bound, atom_faults}
use Rattle.text_values.specs.form_spellings.binding_laws.Known.{head_of, IsKnownOf, HasKnown}
use Rattle.text_values.specs.form_spellings.binding_laws.Kinds.{AreTermsIn}
use Rattle.text_values.specs.form_spellings.binding_laws.Numbers.{words_of, AreKnown}
use Rattle.text_values.specs.form_spellings.binding_laws.Terms.{AreOfTable}
use Rattle.text_values.specs.form_spellings.binding_laws.Uses.{HasUseFault}
use Rattle.text_values.specs.form_spellings.binding_laws.Formulas.{HasAtomFaults, IsAtomBound, OfAllKnown}
use Rattle.text_values.proofs.form_spellings.binding_laws.Heads.{rising, wrong_there, wrong_back, found_is}
use Rattle.text_values.proofs.form_spellings.binding_laws.Lists.{append_there, append_left, append_right, flat_there, flat_back}
use Rattle.text_values.proofs.form_spellings.binding_laws.Places.{have_one_place}
use Rattle.text_values.proofs.form_spellings.binding_laws.Somewhere.{Somewhere, at_use}
use Rattle.text_values.proofs.form_spellings.binding_laws.Terms.{has_term_faults, is_term_bound}
use Rattle.text_values.proofs.form_spellings.binding_laws.Written.{none_left, none_right}

heads_known : (names : Names) (hs : List RawHead) → EachIs (λ (h : RawHead). IsIn names h.name.name) hs → AreKnown names (head_numbers (map head_of hs))
heads_known names [] is = tt
heads_known names (h ∷ hs) is = (is.0, heads_known names hs is.1)

module _ (names : Names) (d : RawDomain) (objects : List Word) (known : Known) (of : IsKnownOf names d objects known) where
  pub of_table : (scope : List ℕ) → AreKnown names scope → AreOfTable names known.objects scope
  of_table scope k = record { differ = of.types.differ; objects_known = of.objects_in; scope_known = k }

  abbrev pub Here : (code at : ℕ) → Scope → Use → Type 0
  Here code at here u = HasUseFault names d objects here u code at

  -- of a term
  pub term_there : (scope : List ℕ) (t : RawTerm) (code at : ℕ) → AreKnown names scope → IsIn names t.name → Has (term_faults known.objects scope t) (spot at code) → Here code at (words_of names scope) (refers t)
  term_there scope t code at k is h =
      subst (λ ws. HasUseFault names d ws (words_of names scope) (refers t) code at) of.object_words ((has_term_faults names known.objects scope t code at (of_table scope k) is).0 h)

  pub term_back : (scope : List ℕ) (t : RawTerm) (code at : ℕ) → AreKnown names scope → IsIn names t.name → Here code at (words_of names scope) (refers t) → Has (term_faults known.objects scope t) (spot at code)
  term_back scope t code at k is h =
      (has_term_faults names known.objects scope t code at (of_table scope k) is).1 (subst (λ ws. HasUseFault names d ws (words_of names scope) (refers t) code at) (sym of.object_words) h)

  -- of the head
  head_there : (scope : Scope) (a : RawAtom) (code at : ℕ) → IsIn names a.head.name → Has (head_faults a.head.at (length a.args) (declared a.head.name.number known.predicates)) (spot at code) → Here code at scope (applies predicate a)
  head_there scope a code at is h =
      wrong_there names of.types.differ a.head.name.number is d.predicates of.predicates.words_in (rising d.predicates of.predicates.in_order) a.head.at (length a.args) code at
      (declared a.head.name.number (map head_of d.predicates)) refl (subst (λ hs. Has (head_faults a.head.at (length a.args) (declared a.head.name.number hs)) (spot at code)) of.predicates.are h)

  head_back : (scope : Scope) (a : RawAtom) (code at : ℕ) → IsIn names a.head.name → Here code at scope (applies predicate a) → Has (head_faults a.head.at (length a.args) (declared a.head.name.number known.predicates)) (spot at code)
  head_back scope a code at is h =
      subst (λ hs. Has (head_faults a.head.at (length a.args) (declared a.head.name.number hs)) (spot at code)) (sym of.predicates.are)
      (wrong_back names of.types.differ a.head.name.number is d.predicates of.predicates.words_in (rising d.predicates of.predicates.in_order) a.head.at (length a.args) code at
      (declared a.head.name.number (map head_of d.predicates)) refl h)

  abbrev pub TermsAt : Scope → List RawTerm → Scope → Use → Type 0
  TermsAt outer ts here u = (here ≡ outer) × One (λ t. u ≡ refers t) ts

  pub args_there : (scope : List ℕ) (ts : List RawTerm) (code at : ℕ) → AreKnown names scope → AreTermsIn names ts → One (λ t. Has (term_faults known.objects scope t) (spot at code)) ts → Somewhere (Here code at) (TermsAt (words_of names scope) ts)
  args_there scope [] code at k is h = absurd h
  args_there scope (t ∷ ts) code at k is (inl h) = (words_of names scope, refers t, (refl, inl refl), term_there scope t code at k is.0 h)
  args_there scope (t ∷ ts) code at k is (inr h) = let g = args_there scope ts code at k is.1 h in (g.0, g.1, (g.2.0, inr g.2.1), g.3)

  pub args_back : (scope : List ℕ) (ts : List RawTerm) (code at : ℕ) → AreKnown names scope → AreTermsIn names ts → Somewhere (Here code at) (TermsAt (words_of names scope) ts) → One (λ t. Has (term_faults known.objects scope t) (spot at code)) ts
  args_back scope [] code at k is (here, u, (e, p), q) = absurd p
  args_back scope (t ∷ ts) code at k is (here, u, (e, inl p), q) = inl (term_back scope t code at k is.0 (at_use (Here code at) (words_of names scope) here u (refers t) e p q))
  args_back scope (t ∷ ts) code at k is (here, u, (e, inr p), q) = inr (args_back scope ts code at k is.1 (here, u, (e, p), q))

  abbrev pub AtomAt : Scope → RawAtom → Scope → Use → Type 0
  AtomAt outer a here u = (here ≡ outer) × IsOfAtom predicate a u

  pub atom_there : (scope : List ℕ) (a : RawAtom) (code at : ℕ) → AreKnown names scope → OfAtom (IsNameIn names) a → Has (atom_faults known scope a) (spot at code) → Somewhere (Here code at) (AtomAt (words_of names scope) a)
  atom_there scope a code at k is h = go (append_there (head_faults a.head.at (length a.args) (declared a.head.name.number known.predicates)) (terms_faults known.objects scope a.args) (spot at code) h)
    where
      go : Has (head_faults a.head.at (length a.args) (declared a.head.name.number known.predicates)) (spot at code) ⊎ Has (terms_faults known.objects scope a.args) (spot at code) → Somewhere (Here code at) (AtomAt (words_of names scope) a)
      go (inl i) = (words_of names scope, applies predicate a, (refl, inl refl), head_there (words_of names scope) a code at is.0 i)
      go (inr i) = let g = args_there scope a.args code at k is.1 (flat_there (term_faults known.objects scope) a.args (spot at code) i) in (g.0, g.1, (g.2.0, inr g.2.1), g.3)

  pub atom_back : (scope : List ℕ) (a : RawAtom) (code at : ℕ) → AreKnown names scope → OfAtom (IsNameIn names) a → Somewhere (Here code at) (AtomAt (words_of names scope) a) → Has (atom_faults known scope a) (spot at code)
  atom_back scope a code at k is (here, u, (e, inl p), q) =
      append_left (head_faults a.head.at (length a.args) (declared a.head.name.number known.predicates)) (terms_faults known.objects scope a.args) (spot at code)
      (head_back (words_of names scope) a code at is.0 (at_use (Here code at) (words_of names scope) here u (applies predicate a) e p q))
  atom_back scope a code at k is (here, u, (e, inr p), q) =
      append_right (head_faults a.head.at (length a.args) (declared a.head.name.number known.predicates)) (terms_faults known.objects scope a.args) (spot at code)
      (flat_back (term_faults known.objects scope) a.args (spot at code) (args_back scope a.args code at k is.1 (here, u, (e, p), q)))

  module _ (v : Declared) (has : HasKnown v names known) where
    pub term_is : (scope : List ℕ) (t : RawTerm) → AreKnown names scope → IsIn names t.name → term_faults known.objects scope t ≡ [] → IsBoundTerm v names (words_of names scope) t (term_bound known.objects scope t)
    term_is scope t k is e = is_term_bound names known.objects scope v t (of_table scope k) is has.objects e

    pub args_are : (scope : List ℕ) (ts : List RawTerm) → AreKnown names scope → AreTermsIn names ts → terms_faults known.objects scope ts ≡ [] → Together (IsBoundTerm v names (words_of names scope)) ts (terms_bound known.objects scope ts)
    args_are scope [] k is e = tt
    args_are scope (t ∷ ts) k is e = (
      term_is scope t k is.0 (none_left (term_faults known.objects scope t) (terms_faults known.objects scope ts) e),
      args_are scope ts k is.1 (none_right (term_faults known.objects scope t) (terms_faults known.objects scope ts) e),
    )

    pub atom_is : (scope : List ℕ) (a : RawAtom) → AreKnown names scope → OfAtom (IsNameIn names) a → atom_faults known scope a ≡ [] → IsBoundAtom v names (words_of names scope) a (atom_bound known scope a).predicate (atom_bound known scope a).args
    atom_is scope a k is e =
        let f = none_left (head_faults a.head.at (length a.args) (declared a.head.name.number known.predicates)) (terms_faults known.objects scope a.args) e in
        let g = none_right (head_faults a.head.at (length a.args) (declared a.head.name.number known.predicates)) (terms_faults known.objects scope a.args) e in
        let heads = subst (λ hs. AreKnown names (head_numbers hs)) (sym of.predicates.are) (heads_known names d.predicates of.predicates.words_in) in (
          ap (first_place (word_at names a.head.name.number)) has.predicates
              ∙ (have_one_place names a.head.name.number (head_numbers known.predicates) of.types.differ is.0 heads).0
              ∙ found_is names of.types.differ a.head.name.number is.0 a.head.at (length a.args) known.predicates f,
          args_are scope a.args k is.1 g,
        )

pub has_atom_faults : OfAllKnown HasAtomFaults
has_atom_faults names d objects known scope a code at of k is = (atom_there names d objects known of scope a code at k is, atom_back names d objects known of scope a code at k is)

pub is_atom_bound : OfAllKnown IsAtomBound
is_atom_bound names d objects known v scope a of k is has e = atom_is names d objects known of v has scope a k is e
