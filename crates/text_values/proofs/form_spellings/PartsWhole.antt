-- Parts that are whole forms wherever they stand, and what terms spell.
use Rattle.std.proofs.Common.{ℕ, ◌≡◌, List, [], ◌∷◌, refl, sym, ap, subst}
use Rattle.text_forms.specs.Lists.{Part, Parts, name, group, nothing, part}
use Rattle.text_forms.specs.Placed.{Placed, cut, close, word, list, parts_of, IsWhole}
use Rattle.text_forms.specs.Printing.{headed}
use Rattle.text_forms.specs.Words.{Word}
use Rattle.gd_reader.specs.Forms.{Form}
use Rattle.plan_texts.specs.Declared.{Declared}
use Rattle.plan_texts.specs.Formulas.{IsTerm, IsApplied}
use Rattle.plan_texts.specs.TypedLists.{Each}
use Rattle.plan_texts.proofs.Places.{last-is}
use Rattle.plan_model.specs.declared.terms.Term.{Term}
use Rattle.plan_model.specs.declared.terms.Term.TheVariants.{Var, Obj}
use Rattle.gd_reader.specs.TermGrammar.{end_form, term_form, terms_form, last_term_form, two_terms_form, applied_form, passed_form}
use Rattle.text_values.specs.form_spellings.SpellsSome.{HaveLetters}
use Rattle.text_values.proofs.form_spellings.ListsWhole.{name_is, no_group}
use Rattle.text_values.proofs.form_spellings.WordTests.{whole_name, whole_variable, whole_name_term}

front : Parts → Part
front nothing = name []
front (part p ps) = p

back : Parts → Parts
back nothing = nothing
back (part p ps) = ps

within : Part → Parts
within (name w) = nothing
within (group ps) = ps

pub front_is : {p q : Part} {ps qs : Parts} → part p ps ≡ part q qs → p ≡ q
unfolding front
front_is e = ap front e

pub back_is : {p q : Part} {ps qs : Parts} → part p ps ≡ part q qs → ps ≡ qs
unfolding back
back_is e = ap back e

pub within_is : {ps qs : Parts} → group ps ≡ group qs → ps ≡ qs
unfolding within
within_is e = ap within e

pub no_part : {P : Type 0} {p : Part} {ps : Parts} → nothing ≡ part p ps → P
no_part e = cc

pub no_nothing : {P : Type 0} {p : Part} {ps : Parts} → part p ps ≡ nothing → P
no_nothing e = cc

-- the end of the list
pub end_whole : (T : Placed) → IsWhole T → parts_of T ≡ nothing → (end_form T).Whole
end_whole cut w e = w
end_whole (close at) w e = tt
end_whole (word at u T) w e = no_nothing e
end_whole (list at S T) w e = no_nothing e

pub passed_whole : (T : Placed) → IsWhole T → (passed_form T).Whole
passed_whole cut w = w
passed_whole (close at) w = tt
passed_whole (word at u T) w = passed_whole T w
passed_whole (list at S T) w = (passed_whole S w.0, passed_whole T w.1)

-- in each text that shows the part it is a whole form
module _ (inside : Placed → Form) where
  abbrev pub Good : Part → Type 0
  Good (name u) = ⊥
  Good (group ps) = (S : Placed) → IsWhole S → parts_of S ≡ ps → (inside S).Whole

  pub part_whole : (form rest : Placed → Form) → ((at : ℕ) (S T : Placed) → (inside S).Whole → (rest T).Whole → (form (list at S T)).Whole) → (R : Placed) (q : Part) (qs : Parts) → IsWhole R → parts_of R ≡ part q qs → Good q
      → ((T : Placed) → IsWhole T → parts_of T ≡ qs → (rest T).Whole) → (form R).Whole
  part_whole form rest build cut q qs w e g more = absurd w
  part_whole form rest build (close at) q qs w e g more = no_part e
  part_whole form rest build (word at u T) q qs w e g more = absurd (subst Good (sym (front_is e)) g)
  part_whole form rest build (list at S T) q qs w e g more =
      let h = subst Good (sym (front_is e)) g in
      build at S T (h S w.0 refl) (more T w.1 (back_is e))

  -- a list with such a word in front, where what stands behind the word is whole
  pub headed_whole : (k : Word) (q : Part) (ps : Parts) → q ≡ headed k ps → ((at : ℕ) (R : Placed) → IsWhole R → parts_of R ≡ ps → (inside (word at k R)).Whole) → Good q
  headed_whole k q ps e more = subst Good (sym e) go
    where
      go : (S : Placed) → IsWhole S → parts_of S ≡ part (name k) ps → (inside S).Whole
      go cut w e = absurd w
      go (close at) w e = no_part e
      go (list at S T) w e = no_group (front_is e)
      go (word at u R) w e = subst (λ u. (inside (word at u R)).Whole) (sym (name_is (front_is e))) (more at R w (back_is e))

module _ (v : Declared) (scope : List Word) (have : HaveLetters scope) where
  term_is_whole : (t : Term) (u : Word) → IsTerm v scope t (name u) → (term_form u).Whole
  term_is_whole (Var k) u i = subst (λ u. (term_form u).Whole) (sym (name_is i.1)) (go i.0 (last-is (λ w. w ≡ [] → ⊥) i.0 scope k have i.2))
    where
      go : (w : Word) → (w ≡ [] → ⊥) → (term_form (63 ∷ w)).Whole
      go [] n = absurd (n refl)
      go (b ∷ w) n = whole_variable b w
  term_is_whole (Obj o) u i = subst (λ u. (term_form u).Whole) (sym (name_is i.1)) (whole_name_term i.0 i.2)

  no_term : {P : Type 0} (t : Term) (ps : Parts) → IsTerm v scope t (group ps) → P
  no_term (Var k) ps i = no_group i.1
  no_term (Obj o) ps i = no_group i.1

  pub terms_whole : (R : Placed) (ts : List Term) → IsWhole R → Each (IsTerm v scope) ts (parts_of R) → (terms_form R).Whole
  terms_whole cut ts w e = w
  terms_whole (close at) ts w e = tt
  terms_whole (word at u R) [] w e = absurd e
  terms_whole (word at u R) (t ∷ ts) w e = (term_is_whole t u e.0, terms_whole R ts w e.1)
  terms_whole (list at S R) [] w e = absurd e
  terms_whole (list at S R) (t ∷ ts) w e = no_term t (parts_of S) e.0

  last_whole : (R : Placed) (t : Term) (q : Part) → IsWhole R → parts_of R ≡ part q nothing → IsTerm v scope t q → (last_term_form R).Whole
  last_whole cut t q w e i = w
  last_whole (close at) t q w e i = no_part e
  last_whole (word at u R) t q w e i = (term_is_whole t u (subst (IsTerm v scope t) (sym (front_is e)) i), end_whole R w (back_is e))
  last_whole (list at S R) t q w e i = no_term t (parts_of S) (subst (IsTerm v scope t) (sym (front_is e)) i)

  pub two_whole : (R : Placed) (s t : Term) (q r : Part) → IsWhole R → parts_of R ≡ part q (part r nothing) → IsTerm v scope s q → IsTerm v scope t r → (two_terms_form R).Whole
  two_whole cut s t q r w e i j = w
  two_whole (close at) s t q r w e i j = no_part e
  two_whole (word at u R) s t q r w e i j = (term_is_whole s u (subst (IsTerm v scope s) (sym (front_is e)) i), last_whole R t r w (back_is e) j)
  two_whole (list at S R) s t q r w e i j = no_term s (parts_of S) (subst (IsTerm v scope s) (sym (front_is e)) i)

  -- an atom in its parentheses
  pub applied_whole : (n : ℕ) (ts : List Term) (q : Part) → IsApplied v scope n ts q → Good applied_form q
  applied_whole n ts q i = headed_whole applied_form i.0 q i.1 i.2 (λ at R w e. (whole_name i.0 i.3, terms_whole R ts w (subst (Each (IsTerm v scope) ts) (sym e) i.5)))
