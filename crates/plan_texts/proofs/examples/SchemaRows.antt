-- Schemas, facts and sections of a problem: what spells, and what is refused.
use Rattle.std.proofs.Common.{ℕ, ◌≡◌, true, false, List, [], ◌∷◌, codes, Some, None, refl, ap, ◌∙◌}
use Rattle.text_forms.specs.Lists.{name, group, nothing, part}
use Rattle.text_forms.specs.Words.{Word, is_name, first_place}
use Rattle.plan_texts.specs.Declared.{Declared}
use Rattle.plan_texts.specs.Formulas.{IsTerm}
use Rattle.plan_texts.specs.Sections.{found, section, parameters}
use Rattle.plan_texts.specs.Schemas.{IsPredicate, IsAction, IsFact}
use Rattle.plan_texts.specs.Domains.{IsNameIfThere}
use Rattle.plan_texts.specs.Networks.{task, IsMethod}
use Rattle.plan_model.specs.declared.terms.Term.TheVariants.{Obj}
use Rattle.plan_model.specs.declared.schemas.ActionSchema.{ActionSchema}
use Rattle.plan_model.specs.declared.schemas.MethodSchema.{MethodSchema}
use Rattle.plan_texts.proofs.examples.RowWords.{parts, first_of, said, next_part, behind_two, word_of, n, v, x_a}

-- in a predicate a variable may come twice
pub predicate : IsPredicate v (record { name = n 2; params = x_a ∷ x_a ∷ [] }) (said (codes "(p ?x ?x - a)"))
predicate = (_, refl, refl, ((refl, refl, (refl, refl)), ((refl, refl, (refl, refl)), tt)))

pub predicate_of_name : IsPredicate v (record { name = n 2; params = x_a ∷ [] }) (said (codes "(p x)")) → ⊥
predicate_of_name (nothing, e, i, f) = f
predicate_of_name (part p ps, e, i, f) = let g : codes "x" ≡ codes "?x" = ap word_of (ap next_part e ∙ f.0.0) in cc

pub fact : IsFact v (record { predicate = 0; args = 1 ∷ 0 ∷ [] }) (said (codes "(p o k)"))
fact = (codes "p", _, refl, refl, refl, ((codes "o", refl, refl, refl), ((codes "k", refl, refl, refl), tt)))

-- an action's parameters are a list
pub action_without_list : (a : ActionSchema) → IsAction v a (said (codes "(:action act :parameters ?x)")) → ⊥
action_without_list a e =
    let f : name (codes "?x") ≡ group e.params.0 = ap (found parameters) (ap behind_two e.is) ∙ e.params.1 in cc

-- a method needs a task
pub method_without_task : (tasks actions : List Word) (m : MethodSchema) → IsMethod v tasks actions m (said (codes "(:method m :parameters ())")) → ⊥
method_without_task tasks actions m e =
    let f = ap (found task) (ap behind_two e.is) ∙ e.head.2 in cc

-- a problem's object is unknown to its domain
abbrev domain_words : Declared
domain_words = record v { objects = codes "k" ∷ [] }

pub other_object : (k : ℕ) → IsTerm domain_words [] (Obj k) (said (codes "o")) → ⊥
other_object k e = let w : codes "o" ≡ e.0 = ap word_of e.1 in let g : None ≡ Some k = ap (λ u. first_place u domain_words.objects) w ∙ e.3 in cc

pub no_htn : section (codes ":htn") (parts (codes "(:domain d) (:goal ())")) ≡ None
no_htn = refl

pub domain_name : IsNameIfThere (section (codes ":domain") (parts (codes "(:goal ()) (:domain D)")))
domain_name = (codes "d", refl, refl)

pub reserved_domain : IsNameIfThere (section (codes ":domain") (parts (codes "(:domain or)"))) → ⊥
reserved_domain e = let f : codes "or" ≡ e.0 = ap (λ ps. word_of (first_of ps)) e.1 in let g : false ≡ true = ap is_name f ∙ e.2 in cc
