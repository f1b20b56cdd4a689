-- Effects are answered as the grammar says.
use Rattle.std.proofs.Common.{◌≡◌, ℕ, if◌then◌else◌, Ok, [], ◌∷◌, drop, codes, refl, sym, ◌∙◌, ap}
use Rattle.text_forms.specs.Placed.{Placed, cut, close, word, list}
use Rattle.text_forms.specs.Words.{Word, is_name}
use Rattle.text_forms.specs.form_grammar.Effects.{EffectDue, of_formula, group, eff, effs, eff_table, effect_rows, effect_form}
use Rattle.text_forms.specs.form_grammar.Formulas.{FormulaDue, of_terms, of_list, gd, formula_rows}
use Rattle.text_forms.specs.form_grammar.Lists.{TermDue, term_rows, ListDue, list_rows}
use Rattle.text_forms.specs.form_grammar.Lists as due
use Rattle.text_forms.specs.form_grammar.Rows.{Next, go, stop, if_allowed, form}
use Rattle.text_forms.specs.form_grammar.Words as words
use Rattle.text_forms.proofs.form_grammar.Meaning.{form_same}
use Rattle.gd_reader.specs.declared.effects.RawEffect.TheVariants as raw
use Rattle.gd_reader.specs.declared.typed_lists.ListKind.TheVariants.{Parameters}
use Rattle.gd_reader.specs.declared.words.EffectHead.{EffectHead}
use Rattle.gd_reader.specs.declared.words.EffectHead.TheVariants as head
use Rattle.gd_reader.specs.declared.words.Sort.{Sort}
use Rattle.gd_reader.specs.declared.words.Sort.TheVariants.{Variable, Name, Other}
use Rattle.gd_reader.specs.Answers.{◌>>=◌, list_due, word_or_end, end_due, passed}
use Rattle.gd_reader.specs.Effects.{deleted, effect_inside, effects, one_effect, guarded, bound_effect, effect_headed, effect_read}
use Rattle.gd_reader.specs.Formulas.{inside}
use Rattle.gd_reader.specs.TermGrammar.{is_name_sort}
use Rattle.gd_reader.specs.Terms.{Names, applied, atom}
use Rattle.gd_reader.specs.TypedLists.{listed}
use Rattle.gd_reader.specs.Words.{effect_head_of, plain_effect_by, sort_of}
use Rattle.gd_reader.proofs.EffectSteps.{effect_inside_is}
use Rattle.hddl_reader.specs.Said.{said}
use Rattle.hddl_reader.proofs.FormulasSaid.{terms_in, lists_in, inside_said}
use Rattle.hddl_reader.proofs.ListsSaid.{listed_said}
use Rattle.hddl_reader.proofs.TermsSaid.{said_then, said_map, at_next, end_said, atom_said, applied_said, passed_said}
use Rattle.gd_reader.proofs.Sorts.{name_test}
use Rattle.hddl_reader.proofs.WordTests.{at_key}

-- formulas, terms and lists are the same as parts of effects
pub formulas_in : (d : FormulaDue) (p : Placed) → form effect_rows (of_formula d) p ≡ form formula_rows d p
formulas_in d p = form_same formula_rows effect_rows of_formula (λ e. refl) p d

pub terms_within : (d : TermDue) (p : Placed) → form effect_rows (of_formula (of_terms d)) p ≡ form term_rows d p
terms_within d p = formulas_in (of_terms d) p ∙ terms_in d p

pub lists_within : (d : ListDue) (p : Placed) → form effect_rows (of_formula (of_list d)) p ≡ form list_rows d p
lists_within d p = formulas_in (of_list d) p ∙ lists_in d p

abbrev one_due : EffectDue
one_due = group eff (of_formula (of_terms due.ended))

abbrev guarded_due : EffectDue
guarded_due = group (of_formula gd) one_due

abbrev bound_due : EffectDue
bound_due = group (of_formula (of_list (due.names due.parameters []))) one_due

abbrev deleted_due : EffectDue
deleted_due = group (of_formula (of_terms due.applied)) (of_formula (of_terms due.ended))

-- what the word at the front of an effect leaves due
abbrev left_by : EffectHead → Next EffectDue
left_by head.And = go effs
left_by head.Forall = go bound_due
left_by head.When = go guarded_due
left_by head.Not = go deleted_due
left_by head.Increase = go (of_formula (of_terms due.anything))
left_by head.Plain = go (of_formula (of_terms due.terms))
left_by head.Wrong = stop 8

left_plain : (s : Sort) → left_by (plain_effect_by s) ≡ if_allowed (is_name_sort s) 8 (of_formula (of_terms due.terms))
left_plain Variable = refl
left_plain Name = refl
left_plain Other = refl

head_due : (w : Word) → left_by (effect_head_of w) ≡ words.by_word eff_table (words.used is_name (of_formula (of_terms due.terms))) w
unfolding effect_head_of
head_due w =
    key w (codes "and") head.And _ effs (drop 1 eff_table) refl (key w (codes "forall") head.Forall _ bound_due (drop 2 eff_table) refl (key w (codes "when") head.When _ guarded_due (drop 3 eff_table) refl
    (key w (codes "not") head.Not _ deleted_due (drop 4 eff_table) refl (key w (codes "increase") head.Increase _ (of_formula (of_terms due.anything)) (drop 5 eff_table) refl
    (left_plain (sort_of w) ∙ ap (λ b. if_allowed b 8 (of_formula (of_terms due.terms))) (name_test w))))))
  where
    key : (w k : Word) (h rest : EffectHead) (x : EffectDue) (table : words.Table EffectDue) → left_by h ≡ go x → left_by rest ≡ words.by_word table (words.used is_name (of_formula (of_terms due.terms))) w
        → left_by (if words.is_word k w then h else rest) ≡ words.by_word ((k, x) ∷ table) (words.used is_name (of_formula (of_terms due.terms))) w
    key = at_key left_by (words.used is_name (of_formula (of_terms due.terms)))

deleted_said : (p : Placed) (names : Names) → said (deleted names p) ≡ form effect_rows deleted_due p
unfolding deleted
deleted_said cut names = refl
deleted_said (close at) names = refl
deleted_said (word at w p) names = refl
deleted_said (list at p q) names =
    said_then (applied names p) (λ a. end_due q >>= (λ x. Ok a)) (form effect_rows (of_formula (of_terms due.applied)) p) (form effect_rows (of_formula (of_terms due.ended)) q)
    (applied_said p names ∙ sym (terms_within due.applied p)) (λ a. end_said q a ∙ sym (terms_within due.ended q))

by_head : (h : EffectHead) (names : Names) (at : ℕ) (w : Word) (p : Placed) → said (effects names p) ≡ form effect_rows effs p
    → said (guarded names p) ≡ form effect_rows guarded_due p → said (bound_effect names p) ≡ form effect_rows bound_due p → said (effect_headed h names at w p) ≡ at_next effect_rows (left_by h) at p
unfolding effect_headed
by_head head.And names at w p a b c = said_map (effects names p) _ ∙ a
by_head head.Forall names at w p a b c = said_map (bound_effect names p) _ ∙ c
by_head head.When names at w p a b c = said_map (guarded names p) _ ∙ b
by_head head.Not names at w p a b c = said_map (deleted names p) _ ∙ deleted_said p names
by_head head.Increase names at w p a b c = said_map (passed p) (λ x. (raw.And [], names)) ∙ passed_said p ∙ sym (terms_within due.anything p)
by_head head.Plain names at w p a b c = said_map (atom names at w p) _ ∙ atom_said p names at w ∙ sym (terms_within due.terms p)
by_head head.Wrong names at w p a b c = refl

inside_word : (names : Names) (at : ℕ) (w : Word) (p : Placed) → effect_inside names (word at w p) ≡ effect_headed (effect_head_of w) names at w p
inside_word names at w p = effect_inside_is names (word at w p) ∙ (unfold word_or_end in refl)

mutual
  unfolding effect_inside effects one_effect guarded bound_effect

  pub effect_inside_said : (p : Placed) (names : Names) → said (effect_inside names p) ≡ form effect_rows eff p
  effect_inside_said cut names = refl
  effect_inside_said (close at) names = refl
  effect_inside_said (list at p q) names = refl
  effect_inside_said (word at w p) names =
      ap said (inside_word names at w p) ∙ by_head (effect_head_of w) names at w p (effects_said p names) (guarded_said p names) (bound_effect_said p names)
      ∙ ap (λ n. at_next effect_rows n at p) (head_due w)

  effects_said : (p : Placed) (names : Names) → said (effects names p) ≡ form effect_rows effs p
  effects_said cut names = refl
  effects_said (close at) names = refl
  effects_said (word at w p) names = refl
  effects_said (list at p q) names =
      said_then (effect_inside names p) (λ e. effects e.1 q >>= (λ es. Ok (e.0 ∷ es.0, es.1))) (form effect_rows eff p) (form effect_rows effs q)
      (effect_inside_said p names) (λ e. said_map (effects e.1 q) (λ es. (e.0 ∷ es.0, es.1)) ∙ effects_said q e.1)

  one_effect_said : (p : Placed) (names : Names) → said (one_effect names p) ≡ form effect_rows one_due p
  one_effect_said cut names = refl
  one_effect_said (close at) names = refl
  one_effect_said (word at w p) names = refl
  one_effect_said (list at p q) names =
      said_then (effect_inside names p) (λ e. end_due q >>= (λ x. Ok e)) (form effect_rows eff p) (form effect_rows (of_formula (of_terms due.ended)) q)
      (effect_inside_said p names) (λ e. end_said q e ∙ sym (terms_within due.ended q))

  guarded_said : (p : Placed) (names : Names) → said (guarded names p) ≡ form effect_rows guarded_due p
  guarded_said cut names = refl
  guarded_said (close at) names = refl
  guarded_said (word at w p) names = refl
  guarded_said (list at p q) names =
      said_then (inside names p) (λ f. one_effect f.1 q >>= (λ e. Ok ((f.0, e.0), e.1))) (form effect_rows (of_formula gd) p) (form effect_rows one_due q)
      (inside_said p names ∙ sym (formulas_in gd p)) (λ f. said_map (one_effect f.1 q) (λ e. ((f.0, e.0), e.1)) ∙ one_effect_said q f.1)

  bound_effect_said : (p : Placed) (names : Names) → said (bound_effect names p) ≡ form effect_rows bound_due p
  bound_effect_said cut names = refl
  bound_effect_said (close at) names = refl
  bound_effect_said (word at w p) names = refl
  bound_effect_said (list at p q) names =
      said_then (listed Parameters names p) (λ vs. one_effect vs.1 q >>= (λ e. Ok ((vs.0, e.0), e.1))) (form effect_rows (of_formula (of_list (due.names due.parameters []))) p) (form effect_rows one_due q)
      (listed_said p Parameters names ∙ sym (lists_within (due.names due.parameters []) p)) (λ vs. said_map (one_effect vs.1 q) (λ e. ((vs.0, e.0), e.1)) ∙ one_effect_said q vs.1)

pub effect_said : (p : Placed) (names : Names) → said (effect_read names p) ≡ effect_form p
unfolding effect_read list_due
effect_said cut names = refl
effect_said (close at) names = refl
effect_said (word at w p) names = refl
effect_said (list at p q) names = effect_inside_said p names
