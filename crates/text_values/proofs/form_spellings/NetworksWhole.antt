-- What spells subtasks, pairs or constraints is whole behind its keyword.
use Rattle.std.proofs.Common.{◌≡◌, ℕ, inl, inr, true, false, List, [], ◌∷◌, codes, Option, Some, None, refl, sym, ap, subst, ◌∙◌}
use Rattle.std.specs.Str.{bytes_eq}
use Rattle.htn_base.specs.declared.name.Name.{Name}
use Rattle.text_forms.specs.Lists.{Part, Parts, name, group, nothing, part}
use Rattle.text_forms.specs.Placed.{Placed, cut, close, word, list, parts_of, IsWhole}
use Rattle.text_forms.specs.Words.{Word, is_name}
use Rattle.text_forms.specs.form_grammar.Codes.{wrong, Whole}
use Rattle.text_forms.specs.form_grammar.Lists.{term, terms, ended, applied}
use Rattle.text_forms.specs.form_grammar.Networks.{NetworkDue, network_rows, subs, more_subs, sub, sub_word, behind_id, pairs, more_pairs, pair, pair_word, id, sign, cons, more_cons, con, con_word, equality, of_terms, group as group_due}
use Rattle.text_forms.specs.form_grammar.Rows.{go, stop, if_allowed, next_as, form}
use Rattle.text_forms.specs.form_grammar.Words.{is_term, is_word, used}
use Rattle.text_forms.proofs.form_grammar.Meaning.{then_whole}
use Rattle.gd_reader.specs.TermGrammar.{applied_form}
use Rattle.plan_texts.specs.Declared.{Declared, named}
use Rattle.plan_texts.specs.Formulas.{IsTerm}
use Rattle.plan_texts.specs.Networks.{IsCall, IsSubtaskBy, IsSubtask, IsOrdered, IsEquation, IsConstraintBy, IsConstraint}
use Rattle.plan_texts.specs.Sections.{bundle}
use Rattle.plan_texts.specs.TypedLists.{Each}
use Rattle.plan_texts.proofs.Basics.{bytes_eq-refl}
use Rattle.plan_model.specs.declared.networks.Child.{Child}
use Rattle.plan_model.specs.declared.networks.Constraint.{Constraint}
use Rattle.plan_model.specs.declared.networks.Head.{Head}
use Rattle.plan_model.specs.declared.networks.Pair.{Pair}
use Rattle.plan_model.specs.declared.terms.Term.{Term}
use Rattle.text_values.specs.form_spellings.SpellsSome.{HaveLetters}
use Rattle.text_values.proofs.form_spellings.Bundled.{bundle_from}
use Rattle.text_values.proofs.form_spellings.ListsWhole.{name_is, no_group}
use Rattle.text_values.proofs.form_spellings.PartsWhole.{front_is, back_is, within_is, no_part, end_whole, Good, headed_whole, terms_whole, two_whole}
use Rattle.text_values.proofs.form_spellings.RowTests.{allowed_then, declared_then, by_here, by_later, ended_in, terms_in, two_terms_in, applied_in}
use Rattle.text_values.proofs.form_spellings.WordTests.{whole_name, no_key}

-- a word in front, and what stands behind it
pub in_front : (P : Placed → Type 0) (p : Placed) (w : Word) (ps : Parts) → IsWhole p → parts_of p ≡ part (name w) ps → ((at : ℕ) (r : Placed) → IsWhole r → parts_of r ≡ ps → P (word at w r)) → P p
in_front P cut w ps h e more = absurd h
in_front P (close at) w ps h e more = no_part e
in_front P (list at p q) w ps h e more = no_group (front_is e)
in_front P (word at u r) w ps h e more = subst (λ u. P (word at u r)) (sym (name_is (front_is e))) (more at r h (back_is e))

-- a list in front
pub list_in_front : (P : Placed → Type 0) (p : Placed) (qs ps : Parts) → IsWhole p → parts_of p ≡ part (group qs) ps → ((at : ℕ) (S T : Placed) → IsWhole S → parts_of S ≡ qs → IsWhole T → parts_of T ≡ ps → P (list at S T)) → P p
list_in_front P cut qs ps h e more = absurd h
list_in_front P (close at) qs ps h e more = no_part e
list_in_front P (word at u r) qs ps h e more = no_group (sym (front_is e))
list_in_front P (list at S T) qs ps h e more = more at S T h.0 (within_is (front_is e)) h.1 (back_is e)

module _ (v : Declared) (scope : List Word) (have : HaveLetters scope) where
  module _ (tasks actions : List Word) where
    call_good : (h : Head) (ts : List Term) (q : Part) → IsCall v tasks actions scope h ts q → Good applied_form q
    call_good h ts q i = headed_whole applied_form i.0 q i.1 i.2 (λ at R w e. (whole_name i.0 i.3, terms_whole v scope have R ts w (subst (Each (IsTerm v scope) ts) (sym e) i.5)))

    -- behind the word of a call
    behind_call : (r : Placed) (ts : List Term) → IsWhole r → Each (IsTerm v scope) ts (parts_of r) → Whole (form network_rows behind_id r)
    behind_call r ts w e = behind r (terms_in network_rows of_terms (λ x. refl) r (terms_whole v scope have r ts w e)) ts e
      where
        behind : (r : Placed) → Whole (form network_rows (of_terms terms) r) → (ts : List Term) → Each (IsTerm v scope) ts (parts_of r) → Whole (form network_rows behind_id r)
        behind cut h ts e = h
        behind (close at) h ts e = tt
        behind (list at p q) h ts e = absurd h
        behind (word at u s) h ts e = as_used (is_term u) h
          where
            as_used : (b : _) → Whole (elim (next_as of_terms (if_allowed b 8 terms)) [ go next ↦ form network_rows next s | stop code ↦ wrong code at ]) → Whole (elim (if_allowed b 8 (of_terms terms)) [ go next ↦ form network_rows next s | stop code ↦ wrong code at ])
            as_used true h = h
            as_used false h = h

    sub_by : (o : Option Name) (h : Head) (ts : List Term) (p : Placed) → IsWhole p → IsSubtaskBy v tasks actions scope o h ts (group (parts_of p)) → Whole (form network_rows sub p)
    sub_by None h ts p w i =
        in_front (λ p. Whole (form network_rows sub p)) p i.0 i.1 w (within_is i.2)
        (λ at r w e. declared_then network_rows i.0 8 behind_id at r i.3 (behind_call r ts w (subst (Each (IsTerm v scope) ts) (sym e) i.5)))
    sub_by (Some n) h ts p w i =
        in_front (λ p. Whole (form network_rows sub p)) p (named v.names n) (part (group i.0) nothing) w (within_is i.1)
        (λ at r w e. declared_then network_rows (named v.names n) 8 behind_id at r i.2
        (list_in_front (λ r. Whole (form network_rows behind_id r)) r i.0 nothing w e
        (λ at S T s d t f. then_whole (form network_rows (of_terms applied) S) (form network_rows (of_terms ended) T) (applied_in network_rows of_terms (λ x. refl) S (call_good h ts (group i.0) i.3 S s d))
        (ended_in network_rows of_terms (λ x. refl) T (end_whole T t f)))))

    sub_from : (p : Placed) (c : Child) → IsWhole p → IsSubtask v tasks actions scope c (group (parts_of p)) → Whole (form network_rows sub p)
    sub_from p c w i = sub_by c.id c.head c.args p w i

    pub sub_no_word : (c : Child) (w : Word) → IsSubtask v tasks actions scope c (name w) → ⊥
    sub_no_word c w i = by c.id i
      where
        by : (o : Option Name) → IsSubtaskBy v tasks actions scope o c.head c.args (name w) → ⊥
        by None i = no_group (sym i.2)
        by (Some n) i = no_group (sym i.1)

    pub subtasks_from : (p : Placed) (cs : List Child) → IsWhole p → Each (IsSubtask v tasks actions scope) cs (bundle (group (parts_of p))) → Whole (form network_rows subs p)
    subtasks_from = bundle_from subs more_subs sub sub_word refl refl refl (IsSubtask v tasks actions scope) sub_from sub_no_word

  -- behind its sign
  equation_end : (w : Word) (r : Placed) (s t : Term) → IsEquation v scope s t (group (part (name w) (parts_of r))) → IsWhole r → (w ≡ codes "=") × Whole (form network_rows (of_terms (term (term ended))) r)
  equation_end w r s t i h = (name_is (front_is (within_is i.2)), two_terms_in network_rows of_terms (λ x. refl) r (two_whole v scope have r s t i.0 i.1 h (back_is (within_is i.2)) i.3 i.4))

  equation_from : (p : Placed) (s t : Term) → IsWhole p → IsEquation v scope s t (group (parts_of p)) → Whole (form network_rows equality p)
  equation_from cut s t h i = h
  equation_from (close at) s t h i = no_part (within_is i.2)
  equation_from (list at p q) s t h i = no_group (front_is (within_is i.2))
  equation_from (word at w r) s t h i =
      let g = equation_end w r s t i h in
      allowed_then network_rows (is_word (codes "=") w) 8 (of_terms (term (term ended))) at r (ap (bytes_eq w) (sym g.0) ∙ bytes_eq-refl w) g.1

  con_by : (b : _) (p : Placed) (s t : Term) → IsWhole p → IsConstraintBy v scope b s t (group (parts_of p)) → Whole (form network_rows con p)
  con_by true cut s t h i = h
  con_by true (close at) s t h i = no_part (within_is i.2)
  con_by true (list at p q) s t h i = no_group (front_is (within_is i.2))
  con_by true (word at w r) s t h i = let g = equation_end w r s t i h in by_here network_rows (codes "=") w (of_terms (term (term ended))) ((codes "not", group_due equality (of_terms ended)) ∷ []) (λ v. stop 8) at r g.0 g.1
  con_by false p s t h i =
      in_front (λ p. Whole (form network_rows con p)) p (codes "not") (part i.0 nothing) h (within_is i.1)
      (λ at r w e. by_later network_rows (codes "=") (codes "not") (of_terms (term (term ended))) ((codes "not", group_due equality (of_terms ended)) ∷ []) (λ v. stop 8) at r refl
      (by_here network_rows (codes "not") (codes "not") (group_due equality (of_terms ended)) [] (λ v. stop 8) at r refl (negated i.0 r w e i.2)))
    where
      negated : (q : Part) (r : Placed) → IsWhole r → parts_of r ≡ part q nothing → IsEquation v scope s t q → Whole (form network_rows (group_due equality (of_terms ended)) r)
      negated (name u) r w e i = no_group (sym i.2)
      negated (group qs) r w e i =
          list_in_front (λ r. Whole (form network_rows (group_due equality (of_terms ended)) r)) r qs nothing w e
          (λ at S T a d b f. then_whole (form network_rows equality S) (form network_rows (of_terms ended) T) (equation_from S s t a (subst (λ ps. IsEquation v scope s t (group ps)) (sym d) i)) (ended_in network_rows of_terms (λ x. refl) T (end_whole T b f)))

  con_from : (p : Placed) (x : Constraint) → IsWhole p → IsConstraint v scope x (group (parts_of p)) → Whole (form network_rows con p)
  con_from p x w i = con_by x.equal p x.left x.right w i

  pub con_no_word : (x : Constraint) (w : Word) → IsConstraint v scope x (name w) → ⊥
  con_no_word x w i = by x.equal i
    where
      by : (b : _) → IsConstraintBy v scope b x.left x.right (name w) → ⊥
      by true i = no_group (sym i.2)
      by false i = no_group (sym i.1)

  pub constraints_from : (p : Placed) (xs : List Constraint) → IsWhole p → Each (IsConstraint v scope) xs (bundle (group (parts_of p))) → Whole (form network_rows cons p)
  constraints_from = bundle_from cons more_cons con con_word refl refl refl (IsConstraint v scope) con_from con_no_word

module _ (ids : List Word) where
  id_then : (b : Word) (behind : NetworkDue) (at : ℕ) (r : Placed) → is_name b ≡ true → Whole (form network_rows behind r) → Whole (form network_rows (id behind) (word at b r))
  id_then b behind at r e h = allowed_then network_rows (is_name b) 8 behind at r e h

  last_id : (r : Placed) (b : Word) → IsWhole r → parts_of r ≡ part (name b) nothing → is_name b ≡ true → Whole (form network_rows (id (of_terms ended)) r)
  last_id r b w e n = in_front (λ r. Whole (form network_rows (id (of_terms ended)) r)) r b nothing w e (λ at s w f. id_then b (of_terms ended) at s n (ended_in network_rows of_terms (λ x. refl) s (end_whole s w f)))

  pair_from : (p : Placed) (x : Pair) → IsWhole p → IsOrdered ids x (group (parts_of p)) → Whole (form network_rows pair p)
  pair_from p x w (a, b, inl e, n, m, i, j) =
      in_front (λ p. Whole (form network_rows pair p)) p (codes "<") (part (name a) (part (name b) nothing)) w (within_is e)
      (λ at r w f. by_here network_rows (codes "<") (codes "<") (id (id (of_terms ended))) [] (used is_name (sign (id (of_terms ended)))) at r refl
      (in_front (λ r. Whole (form network_rows (id (id (of_terms ended))) r)) r a (part (name b) nothing) w f (λ at s w g. id_then a (id (of_terms ended)) at s n (last_id s b w g m))))
  pair_from p x w (a, b, inr e, n, m, i, j) =
      in_front (λ p. Whole (form network_rows pair p)) p a (part (name (codes "<")) (part (name b) nothing)) w (within_is e)
      (λ at r w f. by_later network_rows (codes "<") a (id (id (of_terms ended))) [] (used is_name (sign (id (of_terms ended)))) at r (no_key a (codes "<") n refl)
      (allowed_then network_rows (is_name a) 8 (sign (id (of_terms ended))) at r n
      (in_front (λ r. Whole (form network_rows (sign (id (of_terms ended))) r)) r (codes "<") (part (name b) nothing) w f
      (λ at s w g. allowed_then network_rows true 8 (id (of_terms ended)) at s refl (last_id s b w g m)))))

  pub pair_no_word : (x : Pair) (w : Word) → IsOrdered ids x (name w) → ⊥
  pair_no_word x w (a, b, inl e, n, m, i, j) = no_group (sym e)
  pair_no_word x w (a, b, inr e, n, m, i, j) = no_group (sym e)

  pub pairs_from : (p : Placed) (xs : List Pair) → IsWhole p → Each (IsOrdered ids) xs (bundle (group (parts_of p))) → Whole (form network_rows pairs p)
  pairs_from = bundle_from pairs more_pairs pair pair_word refl refl refl (IsOrdered ids) pair_from pair_no_word
