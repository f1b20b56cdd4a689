-- Predicates and facts to which what was read is bound are those that its parts spell.
use Rattle.std.proofs.Common.{◌≡◌, ◌∙◌, ◌↔◌, ℕ, Bool, true, false, if◌then◌else◌, cond, codes, Ok, Option, Some, None, List, [], ◌∷◌, map, refl, sym, ap, subst}
use Rattle.text_forms.specs.Lists.{Parts, name, group, nothing, part}
use Rattle.text_forms.specs.Placed.{Placed, cut, close, word, list, parts_of, IsWhole}
use Rattle.text_forms.specs.Printing.{headed}
use Rattle.text_forms.specs.Words.{Word, is_name, first_place}
use Rattle.text_forms.specs.form_grammar.Lists.{of_predicate}
use Rattle.text_forms.specs.form_grammar.Rows.{form}
use Rattle.text_forms.specs.form_grammar.Sections.{section_rows, typed}
use Rattle.text_forms.proofs.form_grammar.Meaning.{form_whole}
use Rattle.plan_texts.specs.Declared.{Declared}
use Rattle.plan_texts.specs.Formulas.{IsTerm, IsParam}
use Rattle.plan_texts.specs.Schemas.{IsPredicate, IsFact}
use Rattle.plan_texts.specs.Sections.{is_headed, all_but}
use Rattle.plan_texts.specs.Together.{Together}
use Rattle.plan_texts.specs.TypedLists.{Each, EachTyped}
use Rattle.plan_model.specs.declared.schemas.Predicate.{Predicate}
use Rattle.plan_model.specs.declared.terms.GroundAtom.{GroundAtom}
use Rattle.plan_model.specs.declared.terms.Term.TheVariants.{Obj}
use Rattle.gd_reader.specs.declared.term.RawAtom.{RawAtom}
use Rattle.gd_reader.specs.declared.term.RawTerm.{RawTerm}
use Rattle.gd_reader.specs.declared.typed_lists.ListKind.TheVariants as list_kind
use Rattle.gd_reader.specs.declared.words.Sort.{Sort}
use Rattle.gd_reader.specs.declared.words.Sort.TheVariants.{Variable, Name, Other}
use Rattle.gd_reader.specs.Answers.{◌>>=◌, word_due}
use Rattle.gd_reader.specs.Terms.{Names, used, name_by}
use Rattle.gd_reader.specs.TypedLists.{listed}
use Rattle.gd_reader.specs.Words.{sort_of}
use Rattle.gd_reader.proofs.Keeping.{keeps_same, keeps_word}
use Rattle.hddl_reader.specs.declared.sections.RawHead.{RawHead}
use Rattle.hddl_reader.specs.Networks.{declared, is_word, all_of, one_of}
use Rattle.hddl_reader.specs.Sections.{predicate_headed, used_names, assignment, fact, facts, with_kept}
use Rattle.hddl_reader.proofs.PartsSaid.{typed_said}
use Rattle.text_values.specs.form_spellings.Bound.{IsBoundTerm}
use Rattle.text_values.specs.form_spellings.BoundSchemas.{IsBoundPredicate, IsBoundFact}
use Rattle.text_values.proofs.form_spellings.ItemsExact.{ItemExact, ListExact, none_exact, one_more_exact, one_of_exact, all_of_exact}
use Rattle.text_values.proofs.form_spellings.KeptWords.{Reads, reads_then, reads_map, reads_by}
use Rattle.text_values.proofs.form_spellings.ListsWhole.{name_is}
use Rattle.text_values.proofs.form_spellings.PartsWhole.{front_is, back_is, within_is}
use Rattle.text_values.proofs.form_spellings.TermsBound.{NameBound, word_stands}
use Rattle.text_values.proofs.form_spellings.TermsExact.{ok_whole, reads_also, ParamsExact, variables_exact, declared_bound}
use Rattle.text_values.proofs.form_spellings.TermsIn.{same}
use Rattle.text_values.proofs.form_spellings.Unions.{flip}
use Rattle.text_values.proofs.form_spellings.WordTests.{name_of_sort}

abbrev pub IsReadPredicate : Names → Declared → RawHead → Predicate → Type 0
IsReadPredicate table v = IsBoundPredicate v table

abbrev PredicateOf : Parts → RawHead → Names → Type 0
PredicateOf = ItemExact IsPredicate IsReadPredicate

predicate_of : (w : Word) (ps : Parts) (h : RawHead) (table : Names) → NameBound w h.name table → ParamsExact ps h.params table → PredicateOf (part (name w) ps) h table
predicate_of w ps h table one is v d = (
  λ b. let e = b.0 ∙ one.0 in (ps, ap (λ u. headed u ps) (sym e), ap is_name e ∙ one.1, (is v d.params).0 b.1),
  λ i. let e = within_is i.1 in (sym (one.0 ∙ name_is (front_is e)), (is v d.params).1 (subst (EachTyped (IsParam v) d.params) (sym (back_is e)) i.3)),
)

predicate_exact : (names : Names) (place at : ℕ) (w : Word) (p : Placed) → Reads names (predicate_headed names place at w p) (PredicateOf (part (name w) (parts_of p)))
unfolding predicate_headed
predicate_exact names place at w p =
    reads_then same (NameBound w) (PredicateOf (part (name w) (parts_of p))) names (declared 8 names at w) (λ h. listed list_kind.Predicate h.1 p >>= (λ xs. Ok (record { name = h.0; params = xs.0 }, xs.1))) (declared_bound 8 names at w)
    (λ h. reads_map (ParamsExact (parts_of p)) (λ x table. NameBound w h.0 table → PredicateOf (part (name w) (parts_of p)) x table) h.1 (listed list_kind.Predicate h.1 p) (λ xs. record { name = h.0; params = xs }) (variables_exact p h.1)
    (λ xs table is one. predicate_of w (parts_of p) (record { name = h.0; params = xs }) table one is))

pub one_predicate_exact : (p : Placed) (names : Names) (place : ℕ) → Reads names (one_of predicate_headed names place p) (PredicateOf (parts_of p))
one_predicate_exact = one_of_exact IsPredicate IsReadPredicate predicate_headed predicate_exact

pub predicates_exact : (p : Placed) (names : Names) → Reads names (all_of predicate_headed names p) (ListExact IsPredicate IsReadPredicate (parts_of p))
predicates_exact = all_of_exact IsPredicate IsReadPredicate predicate_headed predicate_exact

-- up to the end of its list
pub predicate_whole : (p : Placed) (names : Names) (place : ℕ) → Reads names (one_of predicate_headed names place p) (λ r table. IsWhole p)
unfolding word_due predicate_headed
predicate_whole cut names place = tt
predicate_whole (close at) names place = tt
predicate_whole (list at p q) names place = tt
predicate_whole (word at w p) names place =
    reads_then same (NameBound w) (λ r table. IsWhole p) names (declared 8 names at w) (λ h. listed list_kind.Predicate h.1 p >>= (λ xs. Ok (record { name = h.0; params = xs.0 }, xs.1))) (declared_bound 8 names at w)
    (λ h. reads_map (λ xs table. ParamsExact (parts_of p) xs table × IsWhole p) (λ r table. NameBound w h.0 table → IsWhole p) h.1 (listed list_kind.Predicate h.1 p) (λ xs. record { name = h.0; params = xs }) (ends h.1) (λ xs table is one. is.1))
  where
    ends : (names : Names) → Reads names (listed list_kind.Predicate names p) (λ xs table. ParamsExact (parts_of p) xs table × IsWhole p)
    ends names =
        reads_also (ParamsExact (parts_of p)) (IsWhole p) names (listed list_kind.Predicate names p) (variables_exact p names)
        (λ x e. form_whole section_rows p (typed of_predicate) (ok_whole (listed list_kind.Predicate names p) x (form section_rows (typed of_predicate) p) e (typed_said list_kind.Predicate p names)))

-- objects of a fact
abbrev ObjectsOf : Parts → List RawTerm → Names → Type 0
ObjectsOf ps ts table = (v : Declared) (os : List ℕ) → Together (IsBoundTerm v table []) ts (map Obj os) ↔ Each (IsTerm v []) (map Obj os) ps

-- a name, which is no variable
abbrev PlainName : Word → RawTerm → Names → Type 0
PlainName w t table = NameBound w t table × (t.variable ≡ false)

plain_name : (names : Names) (at : ℕ) (w : Word) → Reads names (used names at w) (PlainName w)
unfolding used
plain_name names at w = go (sort_of w) refl
  where
    go : (s : Sort) → sort_of w ≡ s → Reads names (name_by s names at w) (PlainName w)
    go Variable e = tt
    go Name e = (keeps_word names w, λ table k. ((word_stands names w table k, name_of_sort w e), refl))
    go Other e = tt

no_objects : (table : Names) → ObjectsOf nothing [] table
no_objects table v [] = (λ b. tt, λ b. tt)
no_objects table v (o ∷ os) = (λ b. absurd b, λ b. absurd b)

one_object : (w : Word) (ps : Parts) (t : RawTerm) (ts : List RawTerm) (table : Names) → PlainName w t table → ObjectsOf ps ts table → ObjectsOf (part (name w) ps) (t ∷ ts) table
one_object w ps t ts table one is v [] = (λ b. absurd b, λ b. absurd b)
one_object w ps t ts table one is v (o ∷ os) = (
  λ b. ((w, refl, one.0.1, ap (λ u. first_place u v.objects) (sym one.0.0) ∙ b.0.1), (is v os).0 b.1),
  λ i. ((one.1, ap (λ u. first_place u v.objects) (one.0.0 ∙ name_is i.0.1) ∙ i.0.3), (is v os).1 i.1),
)

objects_of_exact : (p : Placed) (names : Names) → Reads names (used_names names p) (ObjectsOf (parts_of p))
unfolding used_names
objects_of_exact cut names = tt
objects_of_exact (close at) names = (keeps_same names, λ table k. no_objects table)
objects_of_exact (list at p q) names = tt
objects_of_exact (word at w p) names =
    reads_then same (PlainName w) (ObjectsOf (part (name w) (parts_of p))) names (used names at w) (λ x. used_names x.1 p >>= (λ xs. Ok (x.0 ∷ xs.0, xs.1))) (plain_name names at w)
    (λ x. reads_map (ObjectsOf (parts_of p)) (λ ts table. PlainName w x.0 table → ObjectsOf (part (name w) (parts_of p)) ts table) x.1 (used_names x.1 p) (λ ts. x.0 ∷ ts) (objects_of_exact p x.1) (λ ts table is one. one_object w (parts_of p) x.0 ts table one is))

abbrev IsReadFact : Names → Declared → RawAtom → GroundAtom → Type 0
IsReadFact table v = IsBoundFact v table

-- a fact, or an assignment of which nothing is kept
abbrev FactOf : Parts → Option RawAtom → Names → Type 0
FactOf ps None table = is_headed (codes "=") (group ps) ≡ true
FactOf ps (Some a) table = (is_headed (codes "=") (group ps) ≡ false) × ItemExact IsFact IsReadFact ps a table

fact_of : (w : Word) (ps : Parts) (t : RawTerm) (ts : List RawTerm) (table : Names) → PlainName w t table → ObjectsOf ps ts table → ItemExact IsFact IsReadFact (part (name w) ps) (record { head = t; args = ts }) table
fact_of w ps t ts table one is v g = (
  λ b. (w, ps, refl, one.0.1, ap (λ u. first_place u v.predicates) (sym one.0.0) ∙ b.0, (is v g.args).0 b.1),
  λ i. let e = within_is i.2 in (ap (λ u. first_place u v.predicates) (one.0.0 ∙ name_is (front_is e)) ∙ i.4, (is v g.args).1 (subst (Each (IsTerm v []) (map Obj g.args)) (sym (back_is e)) i.5)),
)

fact_exact : (p : Placed) (names : Names) → Reads names (fact names p) (FactOf (parts_of p))
unfolding fact word_due
fact_exact cut names = tt
fact_exact (close at) names = tt
fact_exact (list at p q) names = tt
fact_exact (word at w p) names = go (is_word (codes "=") w) refl
  where
    go : (b : Bool) → is_word (codes "=") w ≡ b
        → Reads names (if b then assignment p >>= (λ _. Ok (None, names)) else used names at w >>= (λ h. used_names h.1 p >>= (λ xs. Ok (Some (record { head = h.0; args = xs.0 }), xs.1)))) (FactOf (part (name w) (parts_of p)))
    go true e = reads_by (FactOf (part (name w) (parts_of p))) names (assignment p) (λ _. Ok (None, names)) (λ _. (keeps_same names, λ table k. flip (codes "=") w ∙ e))
    go false e =
        reads_then same (PlainName w) (FactOf (part (name w) (parts_of p))) names (used names at w) (λ h. used_names h.1 p >>= (λ xs. Ok (Some (record { head = h.0; args = xs.0 }), xs.1))) (plain_name names at w)
        (λ h. reads_map (ObjectsOf (parts_of p)) (λ o table. PlainName w h.0 table → FactOf (part (name w) (parts_of p)) o table) h.1 (used_names h.1 p) (λ xs. Some (record { head = h.0; args = xs })) (objects_of_exact p h.1)
        (λ ts table is one. (flip (codes "=") w ∙ e, fact_of w (parts_of p) h.0 ts table one is)))

abbrev pub FactsExact : Parts → List RawAtom → Names → Type 0
FactsExact ps = ListExact IsFact IsReadFact (all_but (codes "=") ps)

one_more_fact : (ps rest : Parts) (o : Option RawAtom) (xs : List RawAtom) (table : Names) → FactOf ps o table → FactsExact rest xs table → FactsExact (part (group ps) rest) (with_kept o xs) table
one_more_fact ps rest None xs table one is = subst (λ b. ListExact IsFact IsReadFact (cond b (all_but (codes "=") rest) (part (group ps) (all_but (codes "=") rest))) xs table) (sym one) is
one_more_fact ps rest (Some a) xs table one is =
    subst (λ b. ListExact IsFact IsReadFact (cond b (all_but (codes "=") rest) (part (group ps) (all_but (codes "=") rest))) (a ∷ xs) table) (sym one.0) (one_more_exact IsFact IsReadFact ps (all_but (codes "=") rest) a xs table one.1 is)

pub no_facts : (table : Names) → FactsExact nothing [] table
no_facts table = none_exact IsFact IsReadFact table

pub facts_exact : (p : Placed) (names : Names) → Reads names (facts names p) (FactsExact (parts_of p))
unfolding facts
facts_exact cut names = tt
facts_exact (close at) names = (keeps_same names, λ table k. no_facts table)
facts_exact (word at w p) names = tt
facts_exact (list at p q) names =
    reads_then same (FactOf (parts_of p)) (FactsExact (part (group (parts_of p)) (parts_of q))) names (fact names p) (λ x. facts x.1 q >>= (λ xs. Ok (with_kept x.0 xs.0, xs.1))) (fact_exact p names)
    (λ x. reads_map (FactsExact (parts_of q)) (λ xs table. FactOf (parts_of p) x.0 table → FactsExact (part (group (parts_of p)) (parts_of q)) xs table) x.1 (facts x.1 q) (with_kept x.0) (facts_exact q x.1)
    (λ xs table is one. one_more_fact (parts_of p) (parts_of q) x.0 xs table one is))
