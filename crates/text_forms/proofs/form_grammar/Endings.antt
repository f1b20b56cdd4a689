-- How what is due is made whole: terms, typed lists, formulas, effects, networks and steps always can be.
use Rattle.std.proofs.Common.{ℕ, List, [], ◌∷◌, codes, refl, sym, subst}
use Rattle.text_forms.specs.Placed.{Placed, close, word, list, level}
use Rattle.text_forms.specs.Tokens.{Lexeme, opens}
use Rattle.text_forms.specs.form_grammar.Codes.{Whole}
use Rattle.text_forms.specs.form_grammar.Rows.{Rows, form}
use Rattle.text_forms.specs.form_grammar.Texts.{TextRows, text_form, OneDue, the_list, the_end, one_list, ListsDue, mark_or_list, behind_mark, marked_lists}
use Rattle.text_forms.specs.form_grammar.Lists.{TermDue, ended, term, terms, applied, words, anything, term_rows, ListDue, parameters, of_predicate, objects, types, names, behind_name, type, union, some_types, more_types, list_rows}
use Rattle.text_forms.specs.form_grammar.Formulas.{FormulaDue, of_terms, of_list, group, gd, gds, formula_rows}
use Rattle.text_forms.specs.form_grammar.Effects.{EffectDue, of_formula, group as effect_group, eff, effs, effect_rows}
use Rattle.text_forms.specs.form_grammar.Networks.{NetworkDue, of_terms as network_terms, group as network_group, subs, more_subs, sub, behind_id, pairs, more_pairs, pair, id, sign, cons, more_cons, con, equality, network_rows}
use Rattle.text_forms.specs.StepWords.{is_mark}
use Rattle.text_forms.specs.form_grammar.Plans.{StepDue, step, args, step_rows}
use Rattle.text_forms.proofs.form_grammar.Meaning.{then_whole, form_same}
use Rattle.text_forms.proofs.form_grammar.Fronts.{CanBeWhole, with_list}

-- lists that make whole what is due
abbrev pub Ending : {X : Type 0} → Rows X → X → Type 0
Ending rows d = (q : Placed) × Whole (form rows d q)

pub term_ends : (d : TermDue) → Ending term_rows d
term_ends ended = (close 0, tt)
term_ends (term d) = let e = term_ends d in (word 0 (codes "a") e.0, e.1)
term_ends terms = (close 0, tt)
term_ends applied = (word 0 (codes "a") (close 0), tt)
term_ends words = (close 0, tt)
term_ends anything = (close 0, tt)

pub list_ends : (d : ListDue) → Ending list_rows d
list_ends (names kind seen) = (close 0, tt)
list_ends (behind_name kind seen) = (close 0, tt)
list_ends (type parameters seen) = (word 0 (codes "a") (close 0), tt)
list_ends (type of_predicate seen) = (word 0 (codes "a") (close 0), tt)
list_ends (type objects seen) = (word 0 (codes "a") (close 0), tt)
list_ends (type types seen) = (word 0 (codes "a") (close 0), tt)
list_ends union = (word 0 (codes "either") (word 0 (codes "a") (close 0)), tt)
list_ends some_types = (word 0 (codes "a") (close 0), tt)
list_ends more_types = (close 0, tt)

pub formula_ends : (d : FormulaDue) → Ending formula_rows d
formula_ends (of_terms d) = let e = term_ends d in (e.0, subst Whole (sym (form_same term_rows formula_rows of_terms (λ x. refl) e.0 d)) e.1)
formula_ends (of_list d) = let e = list_ends d in (e.0, subst Whole (sym (form_same list_rows formula_rows of_list (λ x. refl) e.0 d)) e.1)
formula_ends (group a b) = let e = formula_ends a in let g = formula_ends b in (list 0 e.0 g.0, then_whole (form formula_rows a e.0) (form formula_rows b g.0) e.1 g.1)
formula_ends gd = (close 0, tt)
formula_ends gds = (close 0, tt)

pub effect_ends : (d : EffectDue) → Ending effect_rows d
effect_ends (of_formula d) = let e = formula_ends d in (e.0, subst Whole (sym (form_same formula_rows effect_rows of_formula (λ x. refl) e.0 d)) e.1)
effect_ends (effect_group a b) = let e = effect_ends a in let g = effect_ends b in (list 0 e.0 g.0, then_whole (form effect_rows a e.0) (form effect_rows b g.0) e.1 g.1)
effect_ends eff = (close 0, tt)
effect_ends effs = (close 0, tt)

pub network_ends : (d : NetworkDue) → Ending network_rows d
network_ends (network_terms d) = let e = term_ends d in (e.0, subst Whole (sym (form_same term_rows network_rows network_terms (λ x. refl) e.0 d)) e.1)
network_ends (network_group a b) = let e = network_ends a in let g = network_ends b in (list 0 e.0 g.0, then_whole (form network_rows a e.0) (form network_rows b g.0) e.1 g.1)
network_ends subs = (close 0, tt)
network_ends more_subs = (close 0, tt)
network_ends sub = (word 0 (codes "a") (close 0), tt)
network_ends behind_id = (close 0, tt)
network_ends pairs = (close 0, tt)
network_ends more_pairs = (close 0, tt)
network_ends pair = (word 0 (codes "<") (word 0 (codes "a") (word 0 (codes "b") (close 0))), tt)
network_ends (id d) = let e = network_ends d in (word 0 (codes "a") e.0, e.1)
network_ends (sign d) = let e = network_ends d in (word 0 (codes "<") e.0, e.1)
network_ends cons = (close 0, tt)
network_ends more_cons = (close 0, tt)
network_ends con = (word 0 (codes "=") (word 0 (codes "a") (word 0 (codes "b") (close 0))), tt)
network_ends equality = (word 0 (codes "=") (word 0 (codes "a") (word 0 (codes "b") (close 0))), tt)

pub step_ends : (d : StepDue) → Ending step_rows d
step_ends step = (word 0 (codes "a") (close 0), tt)
step_ends args = (close 0, tt)

-- a text of one list can be made whole
pub one_ends : {X : Type 0} (rows : Rows X) (code : ℕ) (inside : X) → Ending rows inside → (t : OneDue) → (us : List Lexeme) × Whole (text_form rows (one_list code inside) t (level 0 us))
one_ends rows code inside e the_list = let r = with_list rows (one_list code inside) e.0 inside [] the_end e.1 ([], tt) in (opens 0 ∷ r.0, r.2)
one_ends rows code inside e the_end = ([], tt)

pub plan_ends : (t : ListsDue) → (us : List Lexeme) × Whole (text_form step_rows (marked_lists is_mark step) t (level 0 us))
plan_ends mark_or_list = ([], tt)
plan_ends behind_mark = (let r = with_list step_rows (marked_lists is_mark step) (word 0 (codes "a") (close 0)) step [] mark_or_list tt ([], tt) in (opens 0 ∷ r.0, r.2))

-- where all that may be due can be made whole
pub each_can : {X T : Type 0} (rows : Rows X) (texts : TextRows X T) → ((d : X) → Ending rows d) → ((t : T) → (us : List Lexeme) × Whole (text_form rows texts t (level 0 us))) → CanBeWhole rows texts (λ d. Unit {0})
each_can rows texts e o = record { ends = λ d c. e d; by_word = λ d w x c f. tt; by_list = λ d i c f. (tt, λ v. tt); outside_ends = o; outside_list = λ t i f. tt }
