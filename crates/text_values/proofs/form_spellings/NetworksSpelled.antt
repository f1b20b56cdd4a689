-- What is whole behind a keyword of a network spells subtasks, pairs or constraints, where all its words are declared.
use Rattle.std.proofs.Common.{◌≡◌, ℕ, inl, inr, true, false, List, [], ◌∷◌, codes, Some, None, refl, sym, ap, ◌∙◌}
use Rattle.htn_base.specs.declared.name.Name.{Name}
use Rattle.text_forms.specs.Lists.{Part, name, group, nothing, part}
use Rattle.text_forms.specs.Placed.{Placed, cut, close, word, list, parts_of, IsWhole}
use Rattle.text_forms.specs.Words.{Word, is_name, first_place}
use Rattle.text_forms.specs.form_grammar.Codes.{wrong, Whole}
use Rattle.text_forms.specs.form_grammar.Lists.{term, terms, ended, applied}
use Rattle.text_forms.specs.form_grammar.Networks.{network_rows, subs, more_subs, sub, sub_word, behind_id, pairs, more_pairs, pair, pair_word, id, sign, cons, more_cons, con, con_word, equality, of_terms, group as group_due}
use Rattle.text_forms.specs.form_grammar.Rows.{go, stop, if_allowed, next_as, form}
use Rattle.text_forms.specs.form_grammar.Words.{is_term, is_word, used}
use Rattle.text_forms.proofs.form_grammar.Meaning.{whole_then}
use Rattle.plan_texts.specs.Declared.{Declared}
use Rattle.plan_texts.specs.Formulas.{IsTerm}
use Rattle.plan_texts.specs.Networks.{head_of, IsCall, IsSubtask, IsOrdered, IsEquation, IsConstraint}
use Rattle.plan_texts.specs.Sections.{bundle}
use Rattle.plan_texts.specs.TypedLists.{Each}
use Rattle.plan_texts.proofs.Basics.{bytes_eq-true}
use Rattle.plan_texts.proofs.Members.{at-has}
use Rattle.plan_model.specs.declared.networks.Child.{Child}
use Rattle.plan_model.specs.declared.networks.Constraint.{Constraint}
use Rattle.plan_model.specs.declared.networks.Head.TheVariants.{Task}
use Rattle.plan_model.specs.declared.networks.Pair.{Pair}
use Rattle.plan_model.specs.declared.terms.Term.{Term}
use Rattle.text_values.proofs.form_spellings.Bundled.{bundle_to}
use Rattle.text_values.proofs.form_spellings.EffectSpelled.{applied_written}
use Rattle.text_values.proofs.form_spellings.FormulaSpelled.{end_closed, terms_written, two_written}
use Rattle.text_values.proofs.form_spellings.Known.{KnowsWord, Knows, first_of}
use Rattle.text_values.proofs.form_spellings.RowTests.{then_allowed, then_declared, by_cons, ended_out, terms_out, two_terms_out, applied_out}

module _ (v : Declared) (scope : List Word) where
  -- tasks have the words of the predicates
  abbrev Call : Part → Type 0
  Call p = (ts : List Term) × (n : ℕ) × IsCall v v.predicates [] scope (Task n) ts p

  called : (w : Word) (r : Placed) (ts : List Term) → KnowsWord v scope w → is_name w ≡ true → Each (IsTerm v scope) ts (parts_of r) → Call (group (part (name w) (parts_of r)))
  called w r ts k e i = let n = first_of v.predicates w k.0.3 in (ts, n.0, (w, parts_of r, refl, e, ap (λ t. head_of t None) n.1, i))

  -- inside the list of a call
  call_to : (p : Placed) → Knows v scope p → Whole (form network_rows (of_terms applied) p) → IsWhole p × Call (group (parts_of p))
  call_to p k h =
      let a = applied_written v p scope k (applied_out network_rows of_terms (λ x. refl) p h) in
      (a.0, (a.1.1, a.1.0, (a.1.2.0, a.1.2.1, a.1.2.2, a.1.2.3, ap (λ t. head_of t None) a.1.2.4, a.1.2.5)))

  abbrev Sub : Part → Type 0
  Sub q = (c : Child) × IsSubtask v v.predicates [] scope c q

  plain_sub : (w : Word) (r : Placed) → KnowsWord v scope w → Knows v scope r → is_name w ≡ true → Whole (form network_rows (of_terms terms) r) → IsWhole (word 0 w r) × Sub (group (part (name w) (parts_of r)))
  plain_sub w r k ks e h =
      let t = terms_written v r scope ks (terms_out network_rows of_terms (λ x. refl) r h) in
      let c = called w r t.1.0 k e t.1.1 in
      (t.0, (record { id = None; head = Task c.1; args = c.0 }, c.2))

  pub sub_to : (p : Placed) → Knows v scope p → Whole (form network_rows sub p) → IsWhole p × Sub (group (parts_of p))
  sub_to cut k h = absurd h
  sub_to (close at) k h = absurd h
  sub_to (list at p q) k h = absurd h
  sub_to (word at w r) k h = let d = then_declared network_rows w 8 behind_id at r h in behind r k.1 d.1 d.0
    where
      behind : (r : Placed) → Knows v scope r → Whole (form network_rows behind_id r) → is_name w ≡ true → IsWhole (word at w r) × Sub (group (part (name w) (parts_of r)))
      behind cut k2 h e = absurd h
      behind (close at2) k2 h e = plain_sub w (close at2) k.0 k2 e tt
      behind (word at2 u s) k2 h e = plain_sub w (word at2 u s) k.0 k2 e (as_terms (is_term u) h)
        where
          as_terms : (b : _) → Whole (elim (if_allowed b 8 (of_terms terms)) [ go next ↦ form network_rows next s | stop code ↦ wrong code at2 ]) → Whole (elim (next_as of_terms (if_allowed b 8 terms)) [ go next ↦ form network_rows next s | stop code ↦ wrong code at2 ])
          as_terms true h = h
          as_terms false h = h
      behind (list at2 S T) k2 h e =
          let b = whole_then (form network_rows (of_terms applied) S) (form network_rows (of_terms ended) T) h in
          let c = call_to S k2.1 b.0 in
          let t = end_closed T (ended_out network_rows of_terms (λ x. refl) T b.1) in
          let n = at-has v.names w k.0.0.0 in
          let i : Name = record { number = n.0 } in (
            (c.0, t.0),
            (
              record { id = Some i; head = Task c.1.1; args = c.1.0 },
              (parts_of S, (λ j. group (part (name (sym n.2 j)) (part (group (parts_of S)) (t.1 j)))), ap is_name n.2 ∙ e, c.1.2),
            ),
          )

  pub subtasks_to : (p : Placed) → Knows v scope p → Whole (form network_rows subs p) → IsWhole p × ((cs : List Child) × Each (IsSubtask v v.predicates [] scope) cs (bundle (group (parts_of p))))
  subtasks_to = bundle_to subs more_subs sub sub_word refl refl refl (IsSubtask v v.predicates [] scope) (Knows v scope) (λ at p q k. (k.1, k.2)) (λ at w p k. k.1) sub_to

  -- an id of the names
  abbrev IdWord : Word → Type 0
  IdWord a = (is_name a ≡ true) × ((n : ℕ) × (first_place a v.names ≡ Some n))

  id_word : (a : Word) → KnowsWord v scope a → is_name a ≡ true → IdWord a
  id_word a k e = (e, first_of v.names a k.0.0)

  last_id : (p : Placed) → Knows v scope p → Whole (form network_rows (id (of_terms ended)) p) → IsWhole p × ((b : Word) × (parts_of p ≡ part (name b) nothing) × IdWord b)
  last_id cut k h = absurd h
  last_id (close at) k h = absurd h
  last_id (list at p q) k h = absurd h
  last_id (word at b r) k h =
      let d = then_allowed network_rows (is_name b) 8 (of_terms ended) at r h in
      let t = end_closed r (ended_out network_rows of_terms (λ x. refl) r d.1) in
      (t.0, (b, ap (part (name b)) t.1, id_word b k.0 d.0))

  two_ids : (p : Placed) → Knows v scope p → Whole (form network_rows (id (id (of_terms ended))) p) → IsWhole p × ((a : Word) × (b : Word) × (parts_of p ≡ part (name a) (part (name b) nothing)) × IdWord a × IdWord b)
  two_ids cut k h = absurd h
  two_ids (close at) k h = absurd h
  two_ids (list at p q) k h = absurd h
  two_ids (word at a r) k h =
      let d = then_allowed network_rows (is_name a) 8 (id (of_terms ended)) at r h in
      let t = last_id r k.1 d.1 in
      (t.0, (a, t.1.0, ap (part (name a)) t.1.1, id_word a k.0 d.0, t.1.2))

  sign_id : (p : Placed) → Knows v scope p → Whole (form network_rows (sign (id (of_terms ended))) p) → IsWhole p × ((b : Word) × (parts_of p ≡ part (name (codes "<")) (part (name b) nothing)) × IdWord b)
  sign_id cut k h = absurd h
  sign_id (close at) k h = absurd h
  sign_id (list at p q) k h = absurd h
  sign_id (word at u r) k h =
      let d = then_allowed network_rows (is_word (codes "<") u) 8 (id (of_terms ended)) at r h in
      let t = last_id r k.1 d.1 in
      (t.0, (t.1.0, (λ j. part (name (bytes_eq-true u (codes "<") d.0 j)) (t.1.1 j)), t.1.2))

  pub pair_to : (p : Placed) → Knows v scope p → Whole (form network_rows pair p) → IsWhole p × ((x : Pair) × IsOrdered v.names x (group (parts_of p)))
  pair_to cut k h = absurd h
  pair_to (close at) k h = absurd h
  pair_to (list at p q) k h = absurd h
  pair_to (word at w r) k h = elim (by_cons network_rows (codes "<") w (id (id (of_terms ended))) [] (used is_name (sign (id (of_terms ended)))) at r h) [
    | inl e ↦
        (let t = two_ids r k.1 e.1 in
        (t.0, (record { first = t.1.3.1.0; then = t.1.4.1.0 }, (t.1.0, t.1.1, inl (λ j. group (part (name (e.0 j)) (t.1.2 j))), t.1.3.0, t.1.4.0, t.1.3.1.1, t.1.4.1.1))))
    | inr e ↦
        (let d = then_allowed network_rows (is_name w) 8 (sign (id (of_terms ended))) at r e.1 in
        let t = sign_id r k.1 d.1 in
        let a = id_word w k.0 d.0 in
        (t.0, (record { first = a.1.0; then = t.1.2.1.0 }, (w, t.1.0, inr (ap (λ ps. group (part (name w) ps)) t.1.1), d.0, t.1.2.0, a.1.1, t.1.2.1.1))))
  ]

  pub pairs_to : (p : Placed) → Knows v scope p → Whole (form network_rows pairs p) → IsWhole p × ((xs : List Pair) × Each (IsOrdered v.names) xs (bundle (group (parts_of p))))
  pairs_to = bundle_to pairs more_pairs pair pair_word refl refl refl (IsOrdered v.names) (Knows v scope) (λ at p q k. (k.1, k.2)) (λ at w p k. k.1) pair_to

  equation_by : (w : Word) (r : Placed) → Knows v scope r → w ≡ codes "=" → Whole (form network_rows (of_terms (term (term ended))) r) → IsWhole r × ((s : Term) × (t : Term) × IsEquation v scope s t (group (part (name w) (parts_of r))))
  equation_by w r k e h =
      let g = two_written v r scope k (two_terms_out network_rows of_terms (λ x. refl) r h) in
      (g.0, (g.1.0, g.1.1, (g.1.2, g.1.3, (λ j. group (part (name (e j)) (g.1.4 j))), g.1.5, g.1.6)))

  equation_to : (p : Placed) → Knows v scope p → Whole (form network_rows equality p) → IsWhole p × ((s : Term) × (t : Term) × IsEquation v scope s t (group (parts_of p)))
  equation_to cut k h = absurd h
  equation_to (close at) k h = absurd h
  equation_to (list at p q) k h = absurd h
  equation_to (word at w r) k h = let d = then_allowed network_rows (is_word (codes "=") w) 8 (of_terms (term (term ended))) at r h in equation_by w r k.1 (bytes_eq-true w (codes "=") d.0) d.1

  negated : (p : Placed) → Knows v scope p → Whole (form network_rows (group_due equality (of_terms ended)) p) → IsWhole p × ((s : Term) × (t : Term) × (q : Part) × (parts_of p ≡ part q nothing) × IsEquation v scope s t q)
  negated cut k h = absurd h
  negated (close at) k h = absurd h
  negated (word at w r) k h = absurd h
  negated (list at S T) k h =
      let b = whole_then (form network_rows equality S) (form network_rows (of_terms ended) T) h in
      let g = equation_to S k.1 b.0 in
      let t = end_closed T (ended_out network_rows of_terms (λ x. refl) T b.1) in
      ((g.0, t.0), (g.1.0, g.1.1, group (parts_of S), ap (part (group (parts_of S))) t.1, g.1.2))

  pub con_to : (p : Placed) → Knows v scope p → Whole (form network_rows con p) → IsWhole p × ((x : Constraint) × IsConstraint v scope x (group (parts_of p)))
  con_to cut k h = absurd h
  con_to (close at) k h = absurd h
  con_to (list at p q) k h = absurd h
  con_to (word at w r) k h = elim (by_cons network_rows (codes "=") w (of_terms (term (term ended))) ((codes "not", group_due equality (of_terms ended)) ∷ []) (λ v. stop 8) at r h) [
    | inl e ↦ (let g = equation_by w r k.1 e.0 e.1 in (g.0, (record { equal = true; left = g.1.0; right = g.1.1 }, g.1.2)))
    | inr e ↦ elim (by_cons network_rows (codes "not") w (group_due equality (of_terms ended)) [] (λ v. stop 8) at r e.1) [
      | inl f ↦
          (let g = negated r k.1 f.1 in
          (g.0, (record { equal = false; left = g.1.0; right = g.1.1 }, (g.1.2, (λ j. group (part (name (f.0 j)) (g.1.3 j))), g.1.4))))
      | inr f ↦ absurd f.1
    ]
  ]

  pub constraints_to : (p : Placed) → Knows v scope p → Whole (form network_rows cons p) → IsWhole p × ((xs : List Constraint) × Each (IsConstraint v scope) xs (bundle (group (parts_of p))))
  constraints_to = bundle_to cons more_cons con con_word refl refl refl (IsConstraint v scope) (Knows v scope) (λ at p q k. (k.1, k.2)) (λ at w p k. k.1) con_to
