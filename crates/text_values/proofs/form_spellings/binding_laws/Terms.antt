-- Terms by numbers and in words.
use Rattle.std.proofs.Common.{ℕ, ◌≡◌, Bool, true, false, inl, inr, [], Option, Some, None, refl, sym, ap, ◌∙◌, cond}
use Rattle.std.specs.Prelude.{unwrap_or}
use Rattle.text_forms.specs.Words.{Word, word_at}
use Rattle.text_forms.specs.Words as words
use Rattle.plan_model.specs.declared.terms.Term.TheVariants.{Var, Obj}
use Rattle.text_values.specs.form_spellings.Bound.{IsBoundTerm}
use Rattle.htn_base.specs.Lists.{Has}
use Rattle.name_binding.specs.Places as numbers
use Rattle.name_binding.specs.Spots.{spot}
use Rattle.name_binding.specs.Terms.{unless_found}
use Rattle.text_values.specs.form_spellings.binding_laws.Numbers.{words_of}
use Rattle.text_values.specs.form_spellings.binding_laws.Terms.{IsTermFault, HasTermFaults, IsTermBound, OfAllTables}
use Rattle.text_values.proofs.form_spellings.binding_laws.Places.{have_one_place}
use Rattle.text_values.proofs.form_spellings.binding_laws.Lists.{no_first, lacks_first, no_last, lacks_last, unless_has}

pub has_term_faults : OfAllTables HasTermFaults
has_term_faults names objects scope t code at of is = (there t.variable refl, back t.variable refl)
  where
    n : ℕ
    n = t.name.number

    w : Word
    w = word_at names n

    first : words.first_place w (words_of names objects) ≡ numbers.first_place n objects
    first = (have_one_place names n objects of.differ is of.objects_known).0

    last : words.last_place w (words_of names scope) ≡ numbers.last_place n scope
    last = (have_one_place names n scope of.differ is of.scope_known).1

    there : (b : Bool) → t.variable ≡ b → Has (cond b (unless_found 16 t.at (numbers.last_place n scope)) (unless_found 15 t.at (numbers.first_place n objects))) (spot at code)
        → IsTermFault names (words_of names objects) (words_of names scope) t code at
    there true v h = let r = (unless_has 16 t.at (numbers.last_place n scope) code at).0 h in (r.1, inl (sym r.2, v, no_last w (words_of names scope) (last ∙ r.0)))
    there false v h = let r = (unless_has 15 t.at (numbers.first_place n objects) code at).0 h in (r.1, inr (sym r.2, v, no_first w (words_of names objects) (first ∙ r.0)))

    back : (b : Bool) → t.variable ≡ b → IsTermFault names (words_of names objects) (words_of names scope) t code at
        → Has (cond b (unless_found 16 t.at (numbers.last_place n scope)) (unless_found 15 t.at (numbers.first_place n objects))) (spot at code)
    back true v (a, inl (c, d, m)) = (unless_has 16 t.at (numbers.last_place n scope) code at).1 (sym last ∙ lacks_last w (words_of names scope) m, a, sym c)
    back true v (a, inr (c, d, m)) = absurd (cc)
    back false v (a, inr (c, d, m)) = (unless_has 15 t.at (numbers.first_place n objects) code at).1 (sym first ∙ lacks_first w (words_of names objects) m, a, sym c)
    back false v (a, inl (c, d, m)) = absurd (cc)

-- what was found where there is no fault
pub found_at : (code at : ℕ) (o : Option ℕ) → unless_found code at o ≡ [] → o ≡ Some (unwrap_or o 0)
found_at code at None e = absurd (cc)
found_at code at (Some k) e = refl

pub is_term_bound : OfAllTables IsTermBound
is_term_bound names objects scope v t of is are none = go t.variable refl none
  where
    n : ℕ
    n = t.name.number

    first : words.first_place (word_at names n) (words_of names objects) ≡ numbers.first_place n objects
    first = (have_one_place names n objects of.differ is of.objects_known).0

    last : words.last_place (word_at names n) (words_of names scope) ≡ numbers.last_place n scope
    last = (have_one_place names n scope of.differ is of.scope_known).1

    go : (b : Bool) → t.variable ≡ b → cond b (unless_found 16 t.at (numbers.last_place n scope)) (unless_found 15 t.at (numbers.first_place n objects)) ≡ []
        → IsBoundTerm v names (words_of names scope) t (cond b (Var (unwrap_or (numbers.last_place n scope) 0)) (Obj (unwrap_or (numbers.first_place n objects) 0)))
    go true e f = (e, last ∙ found_at 16 t.at (numbers.last_place n scope) f)
    go false e f = (e, ap (words.first_place (word_at names n)) are ∙ first ∙ found_at 15 t.at (numbers.first_place n objects) f)
