-- What stands behind the keywords of tasks, methods, actions and networks, in the one grammar and in the other.
use Rattle.std.proofs.Common.{◌≡◌, [], ◌∷◌, refl, sym, ap, subst, ◌∙◌}
use Rattle.text_forms.specs.Lists.{Part, name, group, nothing}
use Rattle.text_forms.specs.Placed.{Placed, cut, list, parts_of, IsWhole}
use Rattle.text_forms.specs.Words.{Word}
use Rattle.text_forms.specs.form_grammar.Codes.{Whole}
use Rattle.text_forms.specs.form_grammar.Effects.{EffectDue, eff, effect_rows, of_formula, effect_form}
use Rattle.text_forms.specs.form_grammar.Formulas.{FormulaDue, gd, formula_rows, of_terms, of_list, formula_form}
use Rattle.text_forms.specs.form_grammar.Lists as due
use Rattle.text_forms.specs.form_grammar.Networks.{network_rows, subs, pairs as pairs_due, cons}
use Rattle.text_forms.specs.form_grammar.Rows.{form}
use Rattle.text_forms.specs.form_grammar.Sections.{SectionDue, section_rows, of_effect, of_network, of_terms_due, typed}
use Rattle.text_forms.proofs.form_grammar.Meaning.{form_same}
use Rattle.hddl_reader.proofs.Calls.{same_form}
use Rattle.hddl_reader.proofs.EffectsSaid.{effect_said}
use Rattle.hddl_reader.proofs.FormulasSaid.{formula_said}
use Rattle.hddl_reader.proofs.ListsSaid.{listed_said}
use Rattle.hddl_reader.specs.Said.{typed_form}
use Rattle.hddl_reader.specs.SameForms.{IsSameForm}
use Rattle.gd_reader.specs.declared.typed_lists.ListKind.{ListKind}
use Rattle.gd_reader.specs.declared.typed_lists.ListKind.TheVariants.{Parameters}
use Rattle.gd_reader.specs.Effects.{effect_read}
use Rattle.gd_reader.specs.Formulas.{formula_read}
use Rattle.gd_reader.specs.Grammar as plain
use Rattle.gd_reader.specs.ListGrammar.{params_form}
use Rattle.gd_reader.specs.TermGrammar.{applied_form}
use Rattle.gd_reader.specs.TypedLists.{listed}
use Rattle.gd_reader.proofs.EffectExact.{effect_exact}
use Rattle.gd_reader.proofs.FormulaExact.{formula_exact}
use Rattle.gd_reader.proofs.ListExact.{listed_exact}
use Rattle.plan_texts.specs.Formulas.{IsTerm, IsParam}
use Rattle.plan_texts.specs.TypedLists.{Each, EachTyped}
use Rattle.text_values.specs.form_spellings.SpellsSomeParts.{AreSomeParams, IsSomeFormula, IsSomeEffect, IsSomeHead, AreSomeSubtasks, AreSomePairs, AreSomeConstraints}
use Rattle.text_values.proofs.form_spellings.EffectSpelled.{applied_written}
use Rattle.text_values.proofs.form_spellings.EffectWhole.{effect_good}
use Rattle.text_values.proofs.form_spellings.FormulaSpelled.{end_closed}
use Rattle.text_values.proofs.form_spellings.FormulaWhole.{formula_good}
use Rattle.text_values.proofs.form_spellings.Known.{declared_by, all_variables, all_words, have_letters, knows_all}
use Rattle.text_values.proofs.form_spellings.ListsWhole.{no_group}
use Rattle.text_values.proofs.form_spellings.NetworksWhole.{sub_no_word, pair_no_word, con_no_word}
use Rattle.text_values.proofs.form_spellings.PartsWhole.{within_is, end_whole, headed_whole, terms_whole}
use Rattle.text_values.proofs.form_spellings.RowTests.{ended_in, ended_out, applied_in, applied_out}
use Rattle.text_values.proofs.form_spellings.WholeForms.{whole_formulas, whole_effects, whole_lists}
use Rattle.text_values.proofs.form_spellings.WholeNetworks.{whole_subtasks, whole_pairs, whole_constraints}
use Rattle.text_values.proofs.form_spellings.WordTests.{whole_name}

-- Forms keep what they are as parts of sections.
pub effect_kept : (d : EffectDue) (p : Placed) → form section_rows (of_effect d) p ≡ form effect_rows d p
effect_kept d p = form_same effect_rows section_rows of_effect (λ x. refl) p d

pub formula_kept : (d : FormulaDue) (p : Placed) → form section_rows (of_effect (of_formula d)) p ≡ form formula_rows d p
formula_kept d p = effect_kept (of_formula d) p ∙ form_same formula_rows effect_rows of_formula (λ x. refl) p d

pub list_kept : (d : due.ListDue) (p : Placed) → form section_rows (of_effect (of_formula (of_list d))) p ≡ form due.list_rows d p
list_kept d p = formula_kept (of_list d) p ∙ form_same due.list_rows formula_rows of_list (λ x. refl) p d

pub list_same : (kind : ListKind) (p : Placed) → IsSameForm (params_form kind [] p) (typed_form kind p)
list_same kind p = same_form (params_form kind [] p) (typed_form kind p) (listed kind [] p) (listed_exact p kind []).tells (listed_said p kind [])

formula_is : (p : Placed) → IsSameForm (plain.formula_form p) (formula_form p)
formula_is p = same_form (plain.formula_form p) (formula_form p) (formula_read [] p) (formula_exact p []).tells (formula_said p [])

effect_is : (p : Placed) → IsSameForm (plain.effect_form p) (effect_form p)
effect_is p = same_form (plain.effect_form p) (effect_form p) (effect_read [] p) (effect_exact p []).tells (effect_said p [])

pub data Piece : Type 0 where
  params : Piece
  formula : Piece
  effect : Piece
  empty : Piece
  head : Piece
  children : Piece
  pairs : Piece
  limits : Piece

abbrev pub due_of : Piece → SectionDue
due_of params = typed due.parameters
due_of formula = of_effect (of_formula gd)
due_of effect = of_effect eff
due_of empty = of_terms_due due.ended
due_of head = of_terms_due due.applied
due_of children = of_network subs
due_of pairs = of_network pairs_due
due_of limits = of_network cons

abbrev pub Spells : Piece → Part → Type 0
Spells params p = AreSomeParams p
Spells formula p = IsSomeFormula p
Spells effect p = IsSomeEffect p
Spells empty p = p ≡ group nothing
Spells head p = IsSomeHead p
Spells children p = AreSomeSubtasks p
Spells pairs p = AreSomePairs p
Spells limits p = AreSomeConstraints p

pub piece_to : (x : Piece) (p : Placed) → Whole (form section_rows (due_of x) p) → Spells x (group (parts_of p))
piece_to params p h =
    let s = (whole_lists Parameters p).0 ((list_same Parameters p).whole.1 (subst Whole (list_kept (due.names due.parameters []) p) h)) in
    (s.0, s.1, s.2, (parts_of p, refl, s.3.1))
piece_to formula p h =
    let s = (whole_formulas (list 0 p cut)).0 ((formula_is (list 0 p cut)).whole.1 (subst Whole (formula_kept gd p) h)) in
    (s.0, s.1, s.2, s.3, s.4, s.5.1)
piece_to effect p h =
    let s = (whole_effects (list 0 p cut)).0 ((effect_is (list 0 p cut)).whole.1 (subst Whole (effect_kept eff p) h)) in
    (s.0, s.1, s.2, s.3, s.4, s.5.1)
piece_to empty p h = ap group (end_closed p (ended_out formula_rows of_terms (λ x. refl) p (subst Whole (formula_kept (of_terms due.ended) p) h))).1
piece_to head p h =
    let a = applied_written (declared_by p) p (all_variables p) (knows_all p) (applied_out formula_rows of_terms (λ x. refl) p (subst Whole (formula_kept (of_terms due.applied) p) h)) in
    (declared_by p, all_words p, all_variables p, a.1.0, a.1.1, have_letters p, a.1.2)
piece_to children p h =
    let s = (whole_subtasks p).0 (subst Whole (form_same network_rows section_rows of_network (λ x. refl) p subs) h) in
    (s.0, s.1, s.2, s.3, s.4, s.5, s.6.1)
piece_to pairs p h = let s = (whole_pairs p).0 (subst Whole (form_same network_rows section_rows of_network (λ x. refl) p pairs_due) h) in (s.0, s.1, s.2.1)
piece_to limits p h = let s = (whole_constraints p).0 (subst Whole (form_same network_rows section_rows of_network (λ x. refl) p cons) h) in (s.0, s.1, s.2, s.3, s.4.1)

pub piece_from : (x : Piece) (p : Placed) → IsWhole p → Spells x (group (parts_of p)) → Whole (form section_rows (due_of x) p)
piece_from params p w (v, xs, d, (ps, e, i)) =
    subst Whole (sym (list_kept (due.names due.parameters []) p)) ((list_same Parameters p).whole.0 ((whole_lists Parameters p).1 (v, xs, d, (w, subst (EachTyped (IsParam v) xs) (sym (within_is e)) i))))
piece_from formula p w (v, scope, f, a, b, i) = subst Whole (sym (formula_kept gd p)) ((formula_is (list 0 p cut)).whole.0 ((whole_formulas (list 0 p cut)).1 (v, scope, f, a, b, (w, i))))
piece_from effect p w (v, scope, f, a, b, i) = subst Whole (sym (effect_kept eff p)) ((effect_is (list 0 p cut)).whole.0 ((whole_effects (list 0 p cut)).1 (v, scope, f, a, b, (w, i))))
piece_from empty p w e = subst Whole (sym (formula_kept (of_terms due.ended) p)) (ended_in formula_rows of_terms (λ x. refl) p (end_whole p w (within_is e)))
piece_from head p w (v, tasks, scope, n, ts, a, i) =
    subst Whole (sym (formula_kept (of_terms due.applied) p)) (applied_in formula_rows of_terms (λ x. refl) p
    (headed_whole applied_form i.0 (group (parts_of p)) i.1 i.2 (λ at R w e. (whole_name i.0 i.3, terms_whole v scope a R ts w (subst (Each (IsTerm v scope) ts) (sym e) i.5))) p w refl))
piece_from children p w (v, tasks, actions, scope, cs, a, i) = subst Whole (sym (form_same network_rows section_rows of_network (λ x. refl) p subs)) ((whole_subtasks p).1 (v, tasks, actions, scope, cs, a, (w, i)))
piece_from pairs p w (ids, xs, i) = subst Whole (sym (form_same network_rows section_rows of_network (λ x. refl) p pairs_due)) ((whole_pairs p).1 (ids, xs, (w, i)))
piece_from limits p w (v, scope, xs, a, i) = subst Whole (sym (form_same network_rows section_rows of_network (λ x. refl) p cons)) ((whole_constraints p).1 (v, scope, xs, a, (w, i)))

pub piece_no_word : (x : Piece) (w : Word) → Spells x (name w) → ⊥
piece_no_word params w (v, xs, d, (ps, e, i)) = no_group (sym e)
piece_no_word formula w (v, scope, f, a, b, i) = formula_good v f scope (name w) a i b
piece_no_word effect w (v, scope, f, a, b, i) = effect_good v f scope (name w) a i b
piece_no_word empty w e = no_group (sym e)
piece_no_word head w (v, tasks, scope, n, ts, a, i) = no_group (sym i.2)
piece_no_word children w (v, tasks, actions, scope, [], a, i) = i
piece_no_word children w (v, tasks, actions, scope, c ∷ cs, a, i) = sub_no_word v scope a tasks actions c w i.0
piece_no_word pairs w (ids, [], i) = i
piece_no_word pairs w (ids, x ∷ xs, i) = pair_no_word ids x w i.0
piece_no_word limits w (v, scope, [], a, i) = i
piece_no_word limits w (v, scope, x ∷ xs, a, i) = con_no_word v scope a x w i.0
