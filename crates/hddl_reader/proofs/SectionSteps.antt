-- Repetitions in sections as steps from token to token, as the code takes them.
use Rattle.std.proofs.Common.{◌≡◌, ℕ, Ok, Err, Result, Option, Some, None, List, [], ◌∷◌, ◌++◌, refl, sym, ◌∙◌, ap, subst, append_assoc}
use Rattle.std.proofs.lemmas.List.{append-nil}
use Rattle.text_forms.specs.Placed.{Placed, cut, close, word, list}
use Rattle.gd_reader.specs.declared.stop.Stop.{Stop}
use Rattle.gd_reader.specs.declared.stop.Failure.{Failure}
use Rattle.gd_reader.specs.declared.term.RawAtom.{RawAtom}
use Rattle.gd_reader.specs.declared.term.RawTerm.{RawTerm}
use Rattle.gd_reader.specs.Answers.{◌>>=◌, Fails, with_front, word_or_end, list_or_end}
use Rattle.gd_reader.specs.Terms.{Names, used}
use Rattle.gd_reader.proofs.Steps.{Met, Pair, met_behind, by_step, fails_bind}
use Rattle.text_forms.specs.Words.{Word}
use Rattle.text_forms.specs.form_grammar.Words.{Table, entry}
use Rattle.std.specs.Str.{bytes_eq}
use Rattle.std.specs.Prelude.{Bool, true, false, if◌then◌else◌}
use Rattle.hddl_reader.specs.declared.sections.Definition.{Definition}
use Rattle.hddl_reader.specs.declared.sections.Language.{Language}
use Rattle.hddl_reader.specs.declared.raw_sections.RawSections.{RawSections}
use Rattle.hddl_reader.specs.Sections.{words, used_names, fact, facts, with_kept, section_of, plain_table, hierarchy_table, section_inside, sections}

abbrev pub words_by : Option Met → Result (Unit {0}) Stop
words_by None = Ok tt
words_by (Some v) = words v.2

pub words_is : (p : Placed) → words p ≡ word_or_end p >>= words_by
unfolding words word_or_end
words_is cut = refl
words_is (close at) = refl
words_is (word at w p) = refl
words_is (list at p q) = refl

abbrev pub used_met : Names → Met → Result (RawTerm × Names) Stop
used_met names v = used names v.0 v.1

pub used_names_is : (names : Names) (p : Placed) → used_names names p ≡ word_or_end p >>= by_step word_or_end met_behind used_met used_names names
unfolding used_names word_or_end
used_names_is names cut = refl
used_names_is names (close at) = refl
used_names_is names (word at w p) = refl
used_names_is names (list at p q) = refl

abbrev pub facts_by : Names → Option Pair → Result (List RawAtom × Names) Stop
facts_by names None = Ok ([], names)
facts_by names (Some v) = fact names v.0 >>= (λ x. facts x.1 v.1 >>= (λ xs. Ok (with_kept x.0 xs.0, xs.1)))

facts_is : (names : Names) (p : Placed) → facts names p ≡ list_or_end p >>= facts_by names
unfolding facts list_or_end
facts_is names cut = refl
facts_is names (close at) = refl
facts_is names (word at w p) = refl
facts_is names (list at p q) = refl

kept_more : {X N : Type 0} (front : List X) (o : Option X) (a : Result (List X × N) Stop) → with_front front (a >>= (λ r. Ok (with_kept o r.0, r.1))) ≡ with_front (front ++ with_kept o []) a
kept_more front None (Ok r) = ap (λ (l : List _). Ok (l ++ r.0, r.1)) (sym (append-nil front))
kept_more front (Some x) (Ok r) = ap (λ (l : List _). Ok (l, r.1)) (sym (append_assoc front (x ∷ []) r.0))
kept_more front o (Err s) = refl

-- the atoms so far, and what is still read
module _ (front : List RawAtom) (names : Names) (p : Placed) (whole : Result (List RawAtom × Names) Stop) (so_far : with_front front (facts names p) ≡ whole) where
  pub facts_end : list_or_end p ≡ Ok None → whole ≡ Ok (front, names)
  facts_end e = sym so_far ∙ ap (with_front front) (facts_is names p ∙ ap (λ r. r >>= facts_by names) e) ∙ ap (λ (l : List RawAtom). Ok (l, names)) (append-nil front)

  pub facts_stuck : (e : Failure) → Fails e (list_or_end p) → Fails e whole
  facts_stuck e h = subst (Fails e) (sym (ap (with_front front) (facts_is names p)) ∙ so_far) (fails_bind e _ (λ r. Ok (front ++ r.0, r.1)) (fails_bind e (list_or_end p) (facts_by names) h))

  pub facts_stop : (e : Failure) (v : Pair) → list_or_end p ≡ Ok (Some v) → Fails e (fact names v.0) → Fails e whole
  facts_stop e v h f =
      subst (Fails e) (sym (ap (with_front front) (facts_is names p ∙ ap (λ r. r >>= facts_by names) h)) ∙ so_far)
      (fails_bind e _ (λ r. Ok (front ++ r.0, r.1)) (fails_bind e (fact names v.0) (λ x. facts x.1 v.1 >>= (λ xs. Ok (with_kept x.0 xs.0, xs.1))) f))

  pub facts_next : (v : Pair) (x : Option RawAtom) (left : Names) → list_or_end p ≡ Ok (Some v) → fact names v.0 ≡ Ok (x, left) → with_front (front ++ with_kept x []) (facts left v.1) ≡ whole
  facts_next v x left h t =
      sym (kept_more front x (facts left v.1))
      ∙ sym (ap (λ a. with_front front (a >>= (λ x. facts x.1 v.1 >>= (λ xs. Ok (with_kept x.0 xs.0, xs.1))))) t)
      ∙ sym (ap (with_front front) (facts_is names p ∙ ap (λ r. r >>= facts_by names) h))
      ∙ so_far

-- the first that is there
abbrev pub or_else : {X : Type 0} → Option X → Option X → Option X
or_else None o = o
or_else (Some x) o = Some x

entry_more : {X : Type 0} (one other : Table X) (w : Word) → entry (one ++ other) w ≡ or_else (entry one w) (entry other w)
entry_more [] other w = refl
entry_more {X} (e ∷ one) other w = by_test (entry_more one other w) (bytes_eq w e.0)
  where
    by_test : entry (one ++ other) w ≡ or_else (entry one w) (entry other w) → (b : Bool)
        → ◌≡◌ {A = Option X} (if b then Some e.1 else entry (one ++ other) w) (or_else (if b then Some e.1 else entry one w) (entry other w))
    by_test h true = refl
    by_test h false = h

pub section_is : (l : Language) (d : Definition) (w : Word) → section_of l d w ≡ or_else (entry (plain_table d) w) (entry (hierarchy_table l d) w)
unfolding section_of
section_is l d w = entry_more (plain_table d) (hierarchy_table l d) w

-- the sections that are still read
module _ (l : Language) (d : Definition) (st : RawSections) (names : Names) (p : Placed) (whole : Result (RawSections × Names) Stop) (rest : sections l d st names p ≡ whole) where
  pub sections_stop : (e : Failure) (at : ℕ) (inside behind : Placed) → p ≡ list at inside behind → Fails e (section_inside l d st names inside) → Fails e whole
  unfolding sections
  sections_stop e at inside behind is f =
      subst (Fails e) (sym (ap (sections l d st names) is) ∙ rest) (fails_bind e (section_inside l d st names inside) (λ r. sections l d r.0 r.1 behind) f)

  pub sections_next : (at : ℕ) (inside behind : Placed) (x : RawSections × Names) → p ≡ list at inside behind → section_inside l d st names inside ≡ Ok x → sections l d x.0 x.1 behind ≡ whole
  unfolding sections
  sections_next at inside behind x is f = sym (ap (λ a. a >>= (λ r. sections l d r.0 r.1 behind)) f) ∙ sym (ap (sections l d st names) is) ∙ rest
