-- Formulas are answered as the grammar says.
use Rattle.std.proofs.Common.{◌≡◌, ℕ, if◌then◌else◌, Ok, [], ◌∷◌, drop, codes, refl, sym, ◌∙◌, ap}
use Rattle.text_forms.specs.Placed.{Placed, cut, close, word, list}
use Rattle.text_forms.specs.Words.{Word, is_name}
use Rattle.text_forms.specs.form_grammar.Formulas.{FormulaDue, of_terms, of_list, group, gd, gds, gd_table, formula_rows, formula_form}
use Rattle.text_forms.specs.form_grammar.Lists.{TermDue, term_rows, ListDue, list_rows}
use Rattle.text_forms.specs.form_grammar.Lists as due
use Rattle.text_forms.specs.form_grammar.Rows.{Next, go, stop, if_allowed, form}
use Rattle.text_forms.specs.form_grammar.Words as words
use Rattle.text_forms.proofs.form_grammar.Meaning.{form_same}
use Rattle.gd_reader.specs.declared.typed_lists.ListKind.TheVariants.{Parameters}
use Rattle.gd_reader.specs.declared.words.Head.{Head}
use Rattle.gd_reader.specs.declared.words.Head.TheVariants as head
use Rattle.gd_reader.specs.declared.words.Sort.{Sort}
use Rattle.gd_reader.specs.declared.words.Sort.TheVariants.{Variable, Name, Other}
use Rattle.gd_reader.specs.Answers.{◌>>=◌, list_due, word_or_end, end_due}
use Rattle.gd_reader.specs.Formulas.{inside, formulas, one, two, bound, headed, formula_read}
use Rattle.gd_reader.specs.TermGrammar.{is_name_sort}
use Rattle.gd_reader.specs.Terms.{Names, two_terms, atom}
use Rattle.gd_reader.specs.TypedLists.{listed}
use Rattle.gd_reader.specs.Words.{head_of, plain_by, sort_of}
use Rattle.gd_reader.proofs.Steps.{inside_is}
use Rattle.hddl_reader.specs.Said.{said}
use Rattle.hddl_reader.proofs.ListsSaid.{listed_said}
use Rattle.hddl_reader.proofs.TermsSaid.{said_then, said_map, at_next, end_said, atom_said, two_terms_said}
use Rattle.gd_reader.proofs.Sorts.{name_test}
use Rattle.hddl_reader.proofs.WordTests.{at_key}

-- terms and lists are the same as parts of formulas
pub terms_in : (d : TermDue) (p : Placed) → form formula_rows (of_terms d) p ≡ form term_rows d p
terms_in d p = form_same term_rows formula_rows of_terms (λ e. refl) p d

pub lists_in : (d : ListDue) (p : Placed) → form formula_rows (of_list d) p ≡ form list_rows d p
lists_in d p = form_same list_rows formula_rows of_list (λ e. refl) p d

abbrev one_due : FormulaDue
one_due = group gd (of_terms due.ended)

abbrev two_due : FormulaDue
two_due = group gd one_due

abbrev bound_due : FormulaDue
bound_due = group (of_list (due.names due.parameters [])) one_due

-- what the word at the front of a formula leaves due
abbrev left_by : Head → Next FormulaDue
left_by head.And = go gds
left_by head.Or = go gds
left_by head.Not = go one_due
left_by head.Imply = go two_due
left_by head.Forall = go bound_due
left_by head.Exists = go bound_due
left_by head.Equal = go (of_terms (due.term (due.term due.ended)))
left_by head.Plain = go (of_terms due.terms)
left_by head.Wrong = stop 8

left_plain : (s : Sort) → left_by (plain_by s) ≡ if_allowed (is_name_sort s) 8 (of_terms due.terms)
left_plain Variable = refl
left_plain Name = refl
left_plain Other = refl

head_due : (w : Word) → left_by (head_of w) ≡ words.by_word gd_table (words.used is_name (of_terms due.terms)) w
unfolding head_of
head_due w =
    key w (codes "and") head.And _ gds (drop 1 gd_table) refl (key w (codes "or") head.Or _ gds (drop 2 gd_table) refl (key w (codes "not") head.Not _ one_due (drop 3 gd_table) refl
    (key w (codes "imply") head.Imply _ two_due (drop 4 gd_table) refl (key w (codes "forall") head.Forall _ bound_due (drop 5 gd_table) refl (key w (codes "exists") head.Exists _ bound_due (drop 6 gd_table) refl
    (key w (codes "=") head.Equal _ (of_terms (due.term (due.term due.ended))) (drop 7 gd_table) refl (left_plain (sort_of w) ∙ ap (λ b. if_allowed b 8 (of_terms due.terms)) (name_test w))))))))
  where
    key : (w k : Word) (h rest : Head) (x : FormulaDue) (table : words.Table FormulaDue) → left_by h ≡ go x → left_by rest ≡ words.by_word table (words.used is_name (of_terms due.terms)) w
        → left_by (if words.is_word k w then h else rest) ≡ words.by_word ((k, x) ∷ table) (words.used is_name (of_terms due.terms)) w
    key = at_key left_by (words.used is_name (of_terms due.terms))

by_head : (h : Head) (names : Names) (at : ℕ) (w : Word) (p : Placed) → said (formulas names p) ≡ form formula_rows gds p → said (one names p) ≡ form formula_rows one_due p
    → said (two names p) ≡ form formula_rows two_due p → said (bound names p) ≡ form formula_rows bound_due p → said (headed h names at w p) ≡ at_next formula_rows (left_by h) at p
unfolding headed
by_head head.And names at w p a b c d = said_map (formulas names p) _ ∙ a
by_head head.Or names at w p a b c d = said_map (formulas names p) _ ∙ a
by_head head.Not names at w p a b c d = said_map (one names p) _ ∙ b
by_head head.Imply names at w p a b c d = said_map (two names p) _ ∙ c
by_head head.Forall names at w p a b c d = said_map (bound names p) _ ∙ d
by_head head.Exists names at w p a b c d = said_map (bound names p) _ ∙ d
by_head head.Equal names at w p a b c d = said_map (two_terms names p) _ ∙ two_terms_said p names ∙ sym (terms_in (due.term (due.term due.ended)) p)
by_head head.Plain names at w p a b c d = said_map (atom names at w p) _ ∙ atom_said p names at w ∙ sym (terms_in due.terms p)
by_head head.Wrong names at w p a b c d = refl

inside_word : (names : Names) (at : ℕ) (w : Word) (p : Placed) → inside names (word at w p) ≡ headed (head_of w) names at w p
inside_word names at w p = inside_is names (word at w p) ∙ (unfold word_or_end in refl)

mutual
  unfolding inside formulas one two bound

  pub inside_said : (p : Placed) (names : Names) → said (inside names p) ≡ form formula_rows gd p
  inside_said cut names = refl
  inside_said (close at) names = refl
  inside_said (list at p q) names = refl
  inside_said (word at w p) names =
      ap said (inside_word names at w p) ∙ by_head (head_of w) names at w p (formulas_said p names) (one_said p names) (two_said p names) (bound_said p names)
      ∙ ap (λ n. at_next formula_rows n at p) (head_due w)

  formulas_said : (p : Placed) (names : Names) → said (formulas names p) ≡ form formula_rows gds p
  formulas_said cut names = refl
  formulas_said (close at) names = refl
  formulas_said (word at w p) names = refl
  formulas_said (list at p q) names =
      said_then (inside names p) (λ f. formulas f.1 q >>= (λ fs. Ok (f.0 ∷ fs.0, fs.1))) (form formula_rows gd p) (form formula_rows gds q)
      (inside_said p names) (λ f. said_map (formulas f.1 q) (λ fs. (f.0 ∷ fs.0, fs.1)) ∙ formulas_said q f.1)

  one_said : (p : Placed) (names : Names) → said (one names p) ≡ form formula_rows one_due p
  one_said cut names = refl
  one_said (close at) names = refl
  one_said (word at w p) names = refl
  one_said (list at p q) names =
      said_then (inside names p) (λ f. end_due q >>= (λ x. Ok f)) (form formula_rows gd p) (form formula_rows (of_terms due.ended) q)
      (inside_said p names) (λ f. end_said q f ∙ sym (terms_in due.ended q))

  two_said : (p : Placed) (names : Names) → said (two names p) ≡ form formula_rows two_due p
  two_said cut names = refl
  two_said (close at) names = refl
  two_said (word at w p) names = refl
  two_said (list at p q) names =
      said_then (inside names p) (λ f. one f.1 q >>= (λ h. Ok ((f.0, h.0), h.1))) (form formula_rows gd p) (form formula_rows one_due q)
      (inside_said p names) (λ f. said_map (one f.1 q) (λ h. ((f.0, h.0), h.1)) ∙ one_said q f.1)

  bound_said : (p : Placed) (names : Names) → said (bound names p) ≡ form formula_rows bound_due p
  bound_said cut names = refl
  bound_said (close at) names = refl
  bound_said (word at w p) names = refl
  bound_said (list at p q) names =
      said_then (listed Parameters names p) (λ vs. one vs.1 q >>= (λ f. Ok ((vs.0, f.0), f.1))) (form formula_rows (of_list (due.names due.parameters [])) p) (form formula_rows one_due q)
      (listed_said p Parameters names ∙ sym (lists_in (due.names due.parameters []) p)) (λ vs. said_map (one vs.1 q) (λ f. ((vs.0, f.0), f.1)) ∙ one_said q vs.1)

pub formula_said : (p : Placed) (names : Names) → said (formula_read names p) ≡ formula_form p
unfolding formula_read list_due
formula_said cut names = refl
formula_said (close at) names = refl
formula_said (word at w p) names = refl
formula_said (list at p q) names = inside_said p names
