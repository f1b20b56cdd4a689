-- Each production as steps from token to token, as the code takes them.
use Rattle.std.proofs.Common.{◌≡◌, ℕ, if◌then◌else◌, Ok, Err, Result, List, [], ◌∷◌, ◌++◌, Option, Some, None, refl, sym, ◌∙◌, ap, subst, append_assoc}
use Rattle.std.proofs.lemmas.List.{append-nil}
use Rattle.htn_base.specs.Table.{with_word}
use Rattle.text_forms.specs.Placed.{Placed, cut, close, word, list}
use Rattle.text_forms.specs.Words.{Word}
use Rattle.gd_reader.specs.declared.stop.Stop.{Stop}
use Rattle.gd_reader.specs.declared.stop.Stop.TheVariants.{Departs}
use Rattle.gd_reader.specs.declared.stop.Failure.{Failure}
use Rattle.gd_reader.specs.declared.stop.Failure.TheVariants as failures
use Rattle.gd_reader.specs.declared.term.RawTerm.{RawTerm}
use Rattle.gd_reader.specs.declared.formulas.RawFormula.{RawFormula}
use Rattle.gd_reader.specs.declared.formulas.RawFormula.TheVariants as raw
use Rattle.gd_reader.specs.declared.typed_lists.ListKind.TheVariants.{Parameters}
use Rattle.gd_reader.specs.declared.words.Head.{Head}
use Rattle.gd_reader.specs.declared.words.Head.TheVariants as head
use Rattle.gd_reader.specs.Answers.{◌>>=◌, Fails, with_front, word_or_end, word_due, list_or_end, list_due, end_due}
use Rattle.gd_reader.specs.Formulas.{inside, formulas, one, two, bound, inside_by, headed}
use Rattle.gd_reader.specs.Terms.{Names, term, terms, two_terms, atom, used}
use Rattle.gd_reader.specs.TypedLists.{listed, some_names, more_names, union}
use Rattle.gd_reader.specs.Words.{head_of, is_either}

-- what fails first fails
pub fails_bind : {A B : Type 0} (e : Failure) (a : Result A Stop) (f : A → Result B Stop) → Fails e a → Fails e (a >>= f)
fails_bind failures.Memory a f h = tt
fails_bind (failures.At s) a f h = ap (λ a. a >>= f) h

pub is_none : {X : Type 0} (o : Option X) → ((x : X) → o ≡ Some x → ⊥) → o ≡ None
is_none None never = refl
is_none (Some x) never = absurd (never x refl)

pub front_more : {X N : Type 0} (front : List X) (x : X) (a : Result (List X × N) Stop) → with_front front (a >>= (λ r. Ok (x ∷ r.0, r.1))) ≡ with_front (front ++ x ∷ []) a
front_more front x (Ok r) = ap (λ (l : List _). Ok (l, r.1)) (sym (append_assoc front (x ∷ []) r.0))
front_more front x (Err s) = refl

pub front_none : {X N : Type 0} (a : Result (List X × N) Stop) → with_front [] a ≡ a
front_none (Ok r) = refl
front_none (Err s) = refl

-- A repetition: one step is taken while a token of it is there, and behind the step the same is read again.
-- Here next says what is there, one reads it, and all reads the repetition.
module _ {V X N : Type 0} (next : Placed → Result (Option V) Stop) (behind : V → Placed) (one : N → V → Result (X × N) Stop) (all : N → Placed → Result (List X × N) Stop) where
  abbrev pub by_step : N → Option V → Result (List X × N) Stop
  by_step names None = Ok ([], names)
  by_step names (Some v) = one names v >>= (λ x. all x.1 (behind v) >>= (λ xs. Ok (x.0 ∷ xs.0, xs.1)))

  module _ (is : (names : N) (p : Placed) → all names p ≡ next p >>= by_step names) (front : List X) (names : N) (p : Placed) (whole : Result (List X × N) Stop) (so_far : with_front front (all names p) ≡ whole) where
    pub all_end : next p ≡ Ok None → whole ≡ Ok (front, names)
    all_end e = sym so_far ∙ ap (with_front front) (is names p ∙ ap (λ r. r >>= by_step names) e) ∙ ap (λ (l : List X). Ok (l, names)) (append-nil front)

    pub all_stuck : (e : Failure) → Fails e (next p) → Fails e whole
    all_stuck e h = subst (Fails e) (sym (ap (with_front front) (is names p)) ∙ so_far) (fails_bind e _ (λ r. Ok (front ++ r.0, r.1)) (fails_bind e (next p) (by_step names) h))

    pub all_stop : (e : Failure) (v : V) → next p ≡ Ok (Some v) → Fails e (one names v) → Fails e whole
    all_stop e v h f =
        subst (Fails e) (sym (ap (with_front front) (is names p ∙ ap (λ r. r >>= by_step names) h)) ∙ so_far)
        (fails_bind e _ (λ r. Ok (front ++ r.0, r.1)) (fails_bind e (one names v) (λ x. all x.1 (behind v) >>= (λ xs. Ok (x.0 ∷ xs.0, xs.1))) f))

    pub all_next : (v : V) (x : X) (names' : N) → next p ≡ Ok (Some v) → one names v ≡ Ok (x, names') → with_front (front ++ x ∷ []) (all names' (behind v)) ≡ whole
    all_next v x names' h t =
        sym (front_more front x (all names' (behind v)))
        ∙ sym (ap (λ a. with_front front (a >>= (λ x. all x.1 (behind v) >>= (λ xs. Ok (x.0 ∷ xs.0, xs.1))))) t)
        ∙ sym (ap (with_front front) (is names p ∙ ap (λ r. r >>= by_step names) h))
        ∙ so_far

-- a token that is a word
abbrev pub Met : Type 0
Met = ℕ × Word × Placed

abbrev pub met_behind : Met → Placed
met_behind v = v.2

abbrev pub term_met : Names → Met → Result (RawTerm × Names) Stop
term_met names v = term names v.0 v.1

pub terms_is : (names : Names) (p : Placed) → terms names p ≡ word_or_end p >>= by_step word_or_end met_behind term_met terms names
unfolding terms word_or_end
terms_is names cut = refl
terms_is names (close at) = refl
terms_is names (word at w p) = refl
terms_is names (list at p q) = refl

-- a list in a list
abbrev pub Pair : Type 0
Pair = Placed × Placed

abbrev pub pair_behind : Pair → Placed
pair_behind v = v.1

abbrev pub inside_met : Names → Pair → Result (RawFormula × Names) Stop
inside_met names v = inside names v.0

pub formulas_is : (names : Names) (p : Placed) → formulas names p ≡ list_or_end p >>= by_step list_or_end pair_behind inside_met formulas names
unfolding formulas list_or_end
formulas_is names cut = refl
formulas_is names (close at) = refl
formulas_is names (word at w p) = refl
formulas_is names (list at p q) = refl

pub one_is : (names : Names) (p : Placed) → one names p ≡ list_due p >>= (λ g. inside names g.0 >>= (λ f. end_due g.1 >>= (λ _. Ok f)))
unfolding one list_due
one_is names cut = refl
one_is names (close at) = refl
one_is names (word at w p) = refl
one_is names (list at p q) = refl

pub two_is : (names : Names) (p : Placed) → two names p ≡ list_due p >>= (λ g. inside names g.0 >>= (λ f. one f.1 g.1 >>= (λ h. Ok ((f.0, h.0), h.1))))
unfolding two list_due
two_is names cut = refl
two_is names (close at) = refl
two_is names (word at w p) = refl
two_is names (list at p q) = refl

pub bound_is : (names : Names) (p : Placed) → bound names p ≡ list_due p >>= (λ g. listed Parameters names g.0 >>= (λ vs. one vs.1 g.1 >>= (λ f. Ok ((vs.0, f.0), f.1))))
unfolding bound list_due
bound_is names cut = refl
bound_is names (close at) = refl
bound_is names (word at w p) = refl
bound_is names (list at p q) = refl

module _ (names : Names) (at : ℕ) (w : Word) (p : Placed) where
  by_head : (h : Head) → ◌≡◌ {A = Result (RawFormula × Names) Stop} (elim h [
    | head.And ↦ formulas names p >>= (λ fs. Ok (raw.And fs.0, fs.1))
    | head.Or ↦ formulas names p >>= (λ fs. Ok (raw.Or fs.0, fs.1))
    | head.Not ↦ one names p >>= (λ f. Ok (raw.Not f.0, f.1))
    | head.Imply ↦ two names p >>= (λ fs. Ok (raw.Imply fs.0.0 fs.0.1, fs.1))
    | head.Forall ↦ bound names p >>= (λ b. Ok (raw.Forall b.0.0 b.0.1, b.1))
    | head.Exists ↦ bound names p >>= (λ b. Ok (raw.Exists b.0.0 b.0.1, b.1))
    | head.Equal ↦ two_terms names p >>= (λ xs. Ok (raw.Equal xs.0.0 xs.0.1, xs.1))
    | head.Plain ↦ atom names at w p >>= (λ a. Ok (raw.Holds a.0, a.1))
    | head.Wrong ↦ Err (Departs 8 at)
  ]) (headed h names at w p)
  unfolding headed
  by_head head.And = refl
  by_head head.Or = refl
  by_head head.Not = refl
  by_head head.Imply = refl
  by_head head.Forall = refl
  by_head head.Exists = refl
  by_head head.Equal = refl
  by_head head.Plain = refl
  by_head head.Wrong = refl

pub inside_is : (names : Names) (p : Placed) → inside names p ≡ word_or_end p >>= (λ o. inside_by names o)
unfolding inside word_or_end
inside_is names cut = refl
inside_is names (close at) = refl
inside_is names (word at w p) = by_head names at w p (head_of w)
inside_is names (list at p q) = refl

pub some_names_is : (names : Names) (p : Placed) → some_names names p ≡ word_due p >>= (λ v. used names v.0 v.1 >>= (λ t. with_front (t.0 ∷ []) (more_names (t.1, with_word [] v.1) v.2)))
unfolding some_names word_due
some_names_is names cut = refl
some_names_is names (close at) = refl
some_names_is names (word at w p) = refl
some_names_is names (list at p q) = refl

pub union_is : (names : Names) (p : Placed) → union names p ≡ word_due p >>= (λ v. if is_either v.1 then some_names names v.2 else Err (Departs 8 v.0))
unfolding union word_due
union_is names cut = refl
union_is names (close at) = refl
union_is names (word at w p) = refl
union_is names (list at p q) = refl
