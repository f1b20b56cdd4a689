-- What stands in the sections of a domain and of a problem, in the one grammar and in the other.
use Rattle.std.proofs.Common.{◌≡◌, ℕ, ◌⊎◌, inl, inr, Bool, true, false, cond, not, ◌||◌, ◌&&◌, List, [], ◌∷◌, map, codes, Some, refl, sym, ap, subst, ◌∙◌}
use Rattle.std.proofs.lemmas.Bool.{and_from, and_parts}
use Rattle.text_forms.specs.Lists.{Parts, name, group, nothing, part}
use Rattle.text_forms.specs.Placed.{Placed, cut, close, word, list, parts_of, IsWhole}
use Rattle.text_forms.specs.Words.{Word, is_name}
use Rattle.text_forms.specs.form_grammar.Codes.{Whole}
use Rattle.text_forms.specs.form_grammar.Effects.{of_formula}
use Rattle.text_forms.specs.form_grammar.Formulas.{gd, of_terms, formula_rows}
use Rattle.text_forms.specs.form_grammar.Lists as due
use Rattle.text_forms.specs.form_grammar.Rows.{form}
use Rattle.text_forms.specs.form_grammar.Words.{used}
use Rattle.text_forms.specs.form_grammar.Sections as grammar
use Rattle.text_forms.specs.form_grammar.Sections.{SectionDue, section_rows, of_effect, of_terms_due, typed, predicates, predicate, named, parts, domain_name, facts, fact, objects_of_fact, value}
use Rattle.text_forms.proofs.form_grammar.Meaning.{form_same, whole_then, then_whole}
use Rattle.gd_reader.specs.declared.typed_lists.ListKind.TheVariants.{Objects, Types}
use Rattle.plan_texts.specs.Declared.{Declared}
use Rattle.plan_texts.specs.Formulas.{IsTerm}
use Rattle.plan_texts.specs.Sections.{is_headed, content, is_value, are_values, are_words, all_but, one_in}
use Rattle.plan_texts.specs.TypedLists.{Each}
use Rattle.plan_texts.proofs.Basics.{bytes_eq-true}
use Rattle.plan_model.specs.declared.terms.Term.TheVariants.{Obj}
use Rattle.text_values.specs.form_spellings.SpellsSomeParts.{AreNamed, AreTaskParts, AreMethodParts, AreActionParts, AreNetworkParts, IsSomePredicate, IsSomeFormula}
use Rattle.text_values.specs.form_spellings.SpellsSomeSections.{EveryPart, AreSomeTypes, AreSomeObjects, IsSomeFact}
use Rattle.text_values.proofs.form_spellings.Known.{Knows, declared_by, all_variables, knows_all, first_of}
use Rattle.text_values.proofs.form_spellings.ListsWhole.{name_is, no_group}
use Rattle.text_values.proofs.form_spellings.NetworksWhole.{in_front}
use Rattle.text_values.proofs.form_spellings.PartsWhole.{within_is}
use Rattle.text_values.proofs.form_spellings.Pieces.{list_kept, list_same, formula_kept, formula, empty, piece_to, piece_from, piece_no_word}
use Rattle.text_values.proofs.form_spellings.RowTests.{by_cons, by_here, by_later, allowed_then, then_allowed}
use Rattle.text_values.proofs.form_spellings.Unions.{flip}
use Rattle.text_values.proofs.form_spellings.WholeForms.{whole_lists}
use Rattle.text_values.proofs.form_spellings.WholeParts.{whole_tasks, whole_methods, whole_actions, whole_tops, whole_predicates}
use Rattle.text_values.proofs.form_spellings.WordTests.{false_true, no_key}

-- :requirements
words_to : (q : Placed) → Whole (form due.term_rows due.words q) → are_words (parts_of q) ≡ true
words_to cut h = absurd h
words_to (close at) h = refl
words_to (word at w r) h = words_to r h
words_to (list at S T) h = absurd h

words_from : (q : Placed) → IsWhole q → are_words (parts_of q) ≡ true → Whole (form due.term_rows due.words q)
words_from cut w e = w
words_from (close at) w e = tt
words_from (word at u r) w e = words_from r w e
words_from (list at S T) w e = false_true e

-- any words and lists
passed_from : (q : Placed) → IsWhole q → Whole (form due.term_rows due.anything q)
passed_from cut w = w
passed_from (close at) w = tt
passed_from (word at u r) w = passed_from r w
passed_from (list at S T) w = then_whole (form due.term_rows due.anything S) (form due.term_rows due.anything T) (passed_from S w.0) (passed_from T w.1)

pub term_kept : (d : due.TermDue) (p : Placed) → form section_rows (of_terms_due d) p ≡ form due.term_rows d p
term_kept d p = formula_kept (of_terms d) p ∙ form_same due.term_rows formula_rows of_terms (λ x. refl) p d

-- :predicates
predicates_to : (q : Placed) → Whole (form section_rows predicates q) → EveryPart IsSomePredicate (parts_of q)
predicates_to cut h = absurd h
predicates_to (close at) h = tt
predicates_to (word at w r) h = absurd h
predicates_to (list at S T) h = let b = whole_then (form section_rows predicate S) (form section_rows predicates T) h in (((whole_predicates S).0 b.0).1, predicates_to T b.1)

predicates_from : (q : Placed) → IsWhole q → EveryPart IsSomePredicate (parts_of q) → Whole (form section_rows predicates q)
predicates_from cut w e = w
predicates_from (close at) w e = tt
predicates_from (word at u r) w e = no_group (sym e.0.2)
predicates_from (list at S T) w e = then_whole (form section_rows predicate S) (form section_rows predicates T) ((whole_predicates S).1 (w.0, e.0)) (predicates_from T w.1 e.1)

-- :domain
abbrev IsOneName : Parts → Type 0
IsOneName ps = (w : Word) × (ps ≡ part (name w) nothing) × (is_name w ≡ true)

one_name_to : (q : Placed) → Whole (form section_rows domain_name q) → IsOneName (parts_of q)
one_name_to cut h = absurd h
one_name_to (close at) h = absurd h
one_name_to (list at S T) h = absurd h
one_name_to (word at w r) h = let d = then_allowed section_rows (is_name w) 8 (of_terms_due due.ended) at r h in (w, ap (part (name w)) (within_is (piece_to empty r d.1)), d.0)

one_name_from : (q : Placed) → IsWhole q → IsOneName (parts_of q) → Whole (form section_rows domain_name q)
one_name_from q w a =
    in_front (λ q. Whole (form section_rows domain_name q)) q a.0 nothing w a.1
    (λ at r w e. allowed_then section_rows (is_name a.0) 8 (of_terms_due due.ended) at r a.2 (piece_from empty r w (ap group e)))

-- :goal
abbrev goal_due : SectionDue
goal_due = grammar.group (of_effect (of_formula gd)) (of_terms_due due.ended)

goal_to : (q : Placed) → Whole (form section_rows goal_due q) → IsSomeFormula (one_in (Some (parts_of q)))
goal_to cut h = absurd h
goal_to (close at) h = absurd h
goal_to (word at w r) h = absurd h
goal_to (list at S T) h =
    let b = whole_then (form section_rows (of_effect (of_formula gd)) S) (form section_rows (of_terms_due due.ended) T) h in
    subst (λ ps. IsSomeFormula (one_in (Some (part (group (parts_of S)) ps)))) (sym (within_is (piece_to empty T b.1))) (piece_to formula S b.0)

goal_from : (q : Placed) → IsWhole q → IsSomeFormula (one_in (Some (parts_of q))) → Whole (form section_rows goal_due q)
goal_from cut w s = w
goal_from (close at) w s = absurd (piece_no_word formula [] s)
goal_from (word at u cut) w s = absurd w
goal_from (word at u (close b)) w s = absurd (piece_no_word formula u s)
goal_from (word at u (word b x r)) w s = absurd (piece_no_word formula [] s)
goal_from (word at u (list b S T)) w s = absurd (piece_no_word formula [] s)
goal_from (list at S cut) w s = absurd w.1
goal_from (list at S (close b)) w s = then_whole (form section_rows (of_effect (of_formula gd)) S) (form section_rows (of_terms_due due.ended) (close b)) (piece_from formula S w.0 s) (piece_from empty (close b) tt refl)
goal_from (list at S (word b x r)) w s = absurd (piece_no_word formula [] s)
goal_from (list at S (list b T U)) w s = absurd (piece_no_word formula [] s)

-- :init
objects_to : (v : Declared) (q : Placed) (scope : List Word) → Knows v scope q → Whole (form section_rows objects_of_fact q) → (os : List ℕ) × Each (IsTerm v []) (map Obj os) (parts_of q)
objects_to v cut scope k h = absurd h
objects_to v (close at) scope k h = ([], tt)
objects_to v (list at S T) scope k h = absurd h
objects_to v (word at w r) scope k h =
    let d = then_allowed section_rows (is_name w) 8 objects_of_fact at r h in
    let o = first_of v.objects w k.0.0.2 in
    let os = objects_to v r scope k.1 d.1 in
    (o.0 ∷ os.0, ((w, refl, d.0, o.1), os.1))

objects_from : (v : Declared) (q : Placed) (os : List ℕ) → IsWhole q → Each (IsTerm v []) (map Obj os) (parts_of q) → Whole (form section_rows objects_of_fact q)
objects_from v cut os w e = w
objects_from v (close at) os w e = tt
objects_from v (list at S T) [] w e = absurd e
objects_from v (list at S T) (o ∷ os) w e = no_group e.0.1
objects_from v (word at u r) [] w e = absurd e
objects_from v (word at u r) (o ∷ os) w e = allowed_then section_rows (is_name u) 8 objects_of_fact at r (ap is_name (name_is e.0.1) ∙ e.0.2) (objects_from v r os w e.1)

abbrev value_due : SectionDue
value_due = grammar.group (of_terms_due due.anything) value

-- ( any* ) word
value_to : (q : Placed) → Whole (form section_rows value_due q) → is_value (parts_of q) ≡ true
value_to cut h = absurd h
value_to (close at) h = absurd h
value_to (word at w r) h = absurd h
value_to (list at S cut) h = absurd (whole_then (form section_rows (of_terms_due due.anything) S) (form section_rows value cut) h).1
value_to (list at S (close b)) h = absurd (whole_then (form section_rows (of_terms_due due.anything) S) (form section_rows value (close b)) h).1
value_to (list at S (list b T U)) h = absurd (whole_then (form section_rows (of_terms_due due.anything) S) (form section_rows value (list b T U)) h).1
value_to (list at S (word b u r)) h =
    let g = whole_then (form section_rows (of_terms_due due.anything) S) (form section_rows value (word b u r)) h in
    ap (λ ps. is_value (part (group (parts_of S)) (part (name u) ps))) (within_is (piece_to empty r g.1))

value_from : (q : Placed) → IsWhole q → is_value (parts_of q) ≡ true → Whole (form section_rows value_due q)
value_from cut w e = w
value_from (close at) w e = false_true e
value_from (word at u r) w e = false_true e
value_from (list at S cut) w e = absurd w.1
value_from (list at S (close b)) w e = false_true e
value_from (list at S (list b T U)) w e = false_true e
value_from (list at S (word b u cut)) w e = absurd w.1
value_from (list at S (word b u (word c x r))) w e = false_true e
value_from (list at S (word b u (list c T U))) w e = false_true e
value_from (list at S (word b u (close c))) w e =
    then_whole (form section_rows (of_terms_due due.anything) S) (form section_rows value (word b u (close c))) (subst Whole (sym (term_kept due.anything S)) (passed_from S w.0)) (piece_from empty (close c) tt refl)

abbrev AreFacts : Parts → Type 0
AreFacts ps = (are_values ps ≡ true) × EveryPart IsSomeFact (all_but (codes "=") ps)

-- one element: a value that is passed over, or a fact
abbrev IsElement : Parts → Type 0
IsElement ps = ((w : Word) × (qs : Parts) × (ps ≡ part (name w) qs) × (w ≡ codes "=") × (is_value qs ≡ true)) ⊎ IsSomeFact (group ps)

element_to : (q : Placed) → Whole (form section_rows fact q) → IsElement (parts_of q)
element_to cut h = absurd h
element_to (close at) h = absurd h
element_to (list at S T) h = absurd h
element_to (word at w r) h = elim (by_cons section_rows (codes "=") w value_due [] (used is_name objects_of_fact) at r h) [
  | inl e ↦ inl (w, parts_of r, refl, e.0, value_to r e.1)
  | inr e ↦
      (let d = then_allowed section_rows (is_name w) 8 objects_of_fact at r e.1 in
      let p = word at w r in
      let v = declared_by p in
      let k = knows_all p in
      let os = objects_to v r (all_variables p) k.1 d.1 in
      let n = first_of v.predicates w k.0.0.3 in
      inr (v, record { predicate = n.0; args = os.0 }, (w, parts_of r, refl, d.0, n.1, os.1)))
]

fact_from : (q : Placed) → IsWhole q → IsSomeFact (group (parts_of q)) → Whole (form section_rows fact q)
fact_from q w (v, g, (k, ps, e, n, i, t)) =
    in_front (λ q. Whole (form section_rows fact q)) q k ps w (within_is e)
    (λ at r w f. by_later section_rows (codes "=") k value_due [] (used is_name objects_of_fact) at r (no_key k (codes "=") n refl)
    (allowed_then section_rows (is_name k) 8 objects_of_fact at r n (objects_from v r g.args w (subst (Each (IsTerm v []) (map Obj g.args)) (sym f) t))))

-- a fact does not begin with the sign
fact_plain : (ps : Parts) → IsSomeFact (group ps) → is_headed (codes "=") (group ps) ≡ false
fact_plain ps (v, g, (k, qs, e, n, i, t)) = ap (λ p. is_headed (codes "=") p) e ∙ (flip (codes "=") k ∙ no_key k (codes "=") n refl)

facts_to : (q : Placed) → Whole (form section_rows facts q) → AreFacts (parts_of q)
facts_to cut h = absurd h
facts_to (close at) h = (refl, tt)
facts_to (word at w r) h = absurd h
facts_to (list at S T) h =
    let b = whole_then (form section_rows fact S) (form section_rows facts T) h in
    by (parts_of S) (parts_of T) (element_to S b.0) (facts_to T b.1)
  where
    by : (ps rest : Parts) → IsElement ps → AreFacts rest → AreFacts (part (group ps) rest)
    by ps rest (inl (w, qs, e, k, i)) m =
        subst (λ ps. AreFacts (part (group ps) rest)) (sym (e ∙ ap (λ w. part (name w) qs) k)) (and_from (is_value qs) (are_values rest) i m.0, m.1)
    by ps rest (inr f) m =
        let p = fact_plain ps f in (
          and_from (not (is_headed (codes "=") (group ps)) || is_value (content (group ps))) (are_values rest) (ap (λ b. not b || is_value (content (group ps))) p) m.0,
          kept (is_headed (codes "=") (group ps)) p,
        )
      where
        kept : (b : Bool) → b ≡ false → EveryPart IsSomeFact (cond b (all_but (codes "=") rest) (part (group ps) (all_but (codes "=") rest)))
        kept true e = false_true (sym e)
        kept false e = (f, m.1)

passed_value : (S : Placed) → IsWhole S → is_headed (codes "=") (group (parts_of S)) ≡ true → is_value (content (group (parts_of S))) ≡ true → Whole (form section_rows fact S)
passed_value cut w e i = w
passed_value (close at) w e i = false_true e
passed_value (list at S T) w e i = false_true e
passed_value (word at u r) w e i = by_here section_rows (codes "=") u value_due [] (used is_name objects_of_fact) at r (sym (bytes_eq-true (codes "=") u e)) (value_from r w i)

facts_from : (q : Placed) → IsWhole q → AreFacts (parts_of q) → Whole (form section_rows facts q)
facts_from cut w a = w
facts_from (close at) w a = tt
facts_from (word at u r) w a = no_group (sym a.1.0.2.2)
facts_from (list at S T) w a = by (is_headed (codes "=") (group (parts_of S))) refl a.0 a.1 (λ a. facts_from T w.1 a)
  where
    by : (b : Bool) → is_headed (codes "=") (group (parts_of S)) ≡ b → (not b || is_value (content (group (parts_of S)))) && are_values (parts_of T) ≡ true
        → EveryPart IsSomeFact (cond b (all_but (codes "=") (parts_of T)) (part (group (parts_of S)) (all_but (codes "=") (parts_of T))))
        → (AreFacts (parts_of T) → Whole (form section_rows facts T)) → Whole (form section_rows facts (list at S T))
    by true e i f more =
        let a = and_parts (is_value (content (group (parts_of S)))) (are_values (parts_of T)) i in
        then_whole (form section_rows fact S) (form section_rows facts T) (passed_value S w.0 e a.0) (more (a.1, f))
    by false e i f more = then_whole (form section_rows fact S) (form section_rows facts T) (fact_from S w.0 f.0) (more (i, f.1))

pub data Topic : Type 0 where
  requires : Topic
  type_list : Topic
  object_list : Topic
  predicate_list : Topic
  any : Topic
  a_task : Topic
  a_method : Topic
  an_action : Topic
  of_domain : Topic
  init : Topic
  goal : Topic
  top : Topic

abbrev pub due_of : Topic → SectionDue
due_of requires = of_terms_due due.words
due_of type_list = typed due.types
due_of object_list = typed due.objects
due_of predicate_list = predicates
due_of any = of_terms_due due.anything
due_of a_task = named grammar.task
due_of a_method = named grammar.method
due_of an_action = named grammar.action
due_of of_domain = domain_name
due_of init = facts
due_of goal = goal_due
due_of top = parts grammar.network []

abbrev pub Says : Topic → Parts → Type 0
Says requires ps = are_words ps ≡ true
Says type_list ps = AreSomeTypes ps
Says object_list ps = AreSomeObjects ps
Says predicate_list ps = EveryPart IsSomePredicate ps
Says any ps = Unit {0}
Says a_task ps = AreNamed AreTaskParts ps
Says a_method ps = AreNamed AreMethodParts ps
Says an_action ps = AreNamed AreActionParts ps
Says of_domain ps = IsOneName ps
Says init ps = AreFacts ps
Says goal ps = IsSomeFormula (one_in (Some ps))
Says top ps = AreNetworkParts ps

pub topic_to : (x : Topic) (q : Placed) → Whole (form section_rows (due_of x) q) → Says x (parts_of q)
topic_to requires q h = words_to q (subst Whole (term_kept due.words q) h)
topic_to type_list q h = let s = (whole_lists Types q).0 ((list_same Types q).whole.1 (subst Whole (list_kept (due.names due.types []) q) h)) in (s.0, s.1.1)
topic_to object_list q h = let s = (whole_lists Objects q).0 ((list_same Objects q).whole.1 (subst Whole (list_kept (due.names due.objects []) q) h)) in (s.0, s.1, s.2, s.3.1)
topic_to predicate_list q h = predicates_to q h
topic_to any q h = tt
topic_to a_task q h = ((whole_tasks q).0 h).1
topic_to a_method q h = ((whole_methods q).0 h).1
topic_to an_action q h = ((whole_actions q).0 h).1
topic_to of_domain q h = one_name_to q h
topic_to init q h = facts_to q h
topic_to goal q h = goal_to q h
topic_to top q h = ((whole_tops q).0 h).1

pub topic_from : (x : Topic) (q : Placed) → IsWhole q → Says x (parts_of q) → Whole (form section_rows (due_of x) q)
topic_from requires q w s = subst Whole (sym (term_kept due.words q)) (words_from q w s)
topic_from type_list q w s = subst Whole (sym (list_kept (due.names due.types []) q)) ((list_same Types q).whole.0 ((whole_lists Types q).1 (s.0, (w, s.1))))
topic_from object_list q w s = subst Whole (sym (list_kept (due.names due.objects []) q)) ((list_same Objects q).whole.0 ((whole_lists Objects q).1 (s.0, s.1, s.2, (w, s.3))))
topic_from predicate_list q w s = predicates_from q w s
topic_from any q w s = subst Whole (sym (term_kept due.anything q)) (passed_from q w)
topic_from a_task q w s = (whole_tasks q).1 (w, s)
topic_from a_method q w s = (whole_methods q).1 (w, s)
topic_from an_action q w s = (whole_actions q).1 (w, s)
topic_from of_domain q w s = one_name_from q w s
topic_from init q w s = facts_from q w s
topic_from goal q w s = goal_from q w s
topic_from top q w s = (whole_tops q).1 (w, s)
