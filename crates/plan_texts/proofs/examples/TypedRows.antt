-- Typed lists of variables, objects and types: what spells, and what is refused.
use Rattle.std.proofs.Common.{ℕ, ◌≡◌, true, false, [], ◌∷◌, codes, Some, None, refl, ap, subst}
use Rattle.text_forms.specs.Lists.{group}
use Rattle.text_forms.specs.Words.{word_at}
use Rattle.plan_texts.specs.TypedLists.{EachTyped}
use Rattle.plan_texts.specs.Types.{TypeItem, IsSomeName, IsTypeItem}
use Rattle.plan_texts.specs.Formulas.{IsParam, IsKind}
use Rattle.plan_texts.specs.Schemas.{IsObject}
use Rattle.text_forms.specs.Printing.{bytes}
use Rattle.plan_texts.specs.Printed.{params_parts}
use Rattle.plan_texts.specs.FirstSeen.{types_in_order, pairs_in_order, unions_in_order}
use Rattle.plan_model.specs.declared.types.Object.{Object}
use Rattle.plan_texts.proofs.Basics.{apart}
use Rattle.plan_texts.proofs.examples.RowWords.{word_of, parts, said, n, v, x_a, y_union, y_object}

-- words share the type behind them; the last have none
pub grouped : EachTyped (IsParam v) (x_a ∷ record { name = n 1; ty = 1 } ∷ y_object ∷ []) (parts (codes "?x ?y - a ?y"))
grouped = ((refl, refl, (refl, refl)), ((refl, refl, (refl, refl)), ((refl, refl, (refl, refl)), tt)))

pub dash_at_end : EachTyped (IsParam v) (y_object ∷ []) (parts (codes "?y -")) → ⊥
dash_at_end e = e.1

pub dash_in_front : EachTyped (IsParam v) (x_a ∷ []) (parts (codes "- a")) → ⊥
dash_in_front e = let f : codes "-" ≡ codes "?x" = ap word_of e.0.0 in cc

-- a union, where a repeat is dropped
pub union_kind : IsKind v 4 (Some (said (codes "(either a b a)")))
union_kind = (refl, refl)

-- the order of its types counts
pub other_union : IsKind v 4 (Some (said (codes "(either b a)"))) → ⊥
other_union e = apart (codes "a") (codes "b") refl (ap (λ ws. word_at ws 0) e.0)

-- of one type it is this type
pub one_type : IsKind v 1 (Some (said (codes "(either a a)")))
one_type = (refl, refl)

pub no_types : (t : ℕ) → IsKind v t (Some (said (codes "(either)"))) → ⊥
no_types t e = let f : false ≡ true = e.1 in cc

pub list_in_union : (t : ℕ) → IsKind v t (Some (said (codes "(either a (b))"))) → ⊥
list_in_union t e = let f : false ≡ true = e.1 in cc

pub objects : EachTyped (IsObject v true) (record { name = n 4; ty = 3; constant = true } ∷ record { name = n 5; ty = 0; constant = true } ∷ []) (parts (codes "k - c o"))
objects = ((refl, refl, (refl, refl), refl), ((refl, refl, (refl, refl), refl), tt))

-- an object has no union
pub object_of_union : (x : Object) → IsObject v true x (said (codes "k")) (Some (said (codes "(either a b)"))) → ⊥
object_of_union x e = let f : false ≡ true = e.2.1 in cc

pub reserved_object : (x : Object) → IsObject v true x (said (codes "k")) (Some (said (codes "or"))) → ⊥
reserved_object x e = let f : false ≡ true = e.2.1 in cc

pub types : EachTyped IsTypeItem ((codes "a", Some (codes "object")) ∷ (codes "b", Some (codes "object")) ∷ (codes "c", None) ∷ []) (parts (codes "a b - object c"))
types = ((refl, refl, refl, refl), ((refl, refl, refl, refl), ((refl, refl, refl, tt), tt)))

pub type_of_union : (x : TypeItem) → EachTyped IsTypeItem (x ∷ []) (parts (codes "c - (either a b)")) → ⊥
type_of_union x e = let f : false ≡ true = subst IsSomeName e.0.2 e.0.3 in cc

-- types and pairs as the text first names them
pub transport_types : types_in_order (parts (codes "location locatable - object vehicle package - locatable")) ≡ codes "object" ∷ codes "location" ∷ codes "locatable" ∷ codes "vehicle" ∷ codes "package" ∷ []
transport_types = refl

pub transport_pairs : pairs_in_order (parts (codes "location locatable - object vehicle package - locatable")) ≡ record { child = 1; parent = 0 } ∷ record { child = 2; parent = 0 } ∷ record { child = 3; parent = 2 } ∷ record { child = 4; parent = 2 } ∷ []
transport_pairs = refl

-- a type that stands as a parent alone is below object; a second parent comes in text order, a repeat once
pub more_parents : pairs_in_order (parts (codes "a - b a - c a - b")) ≡ record { child = 1; parent = 2 } ∷ record { child = 1; parent = 3 } ∷ record { child = 2; parent = 0 } ∷ record { child = 3; parent = 0 } ∷ []
more_parents = refl

-- unions of both texts, the domain's first; not those in what is dropped
pub unions : unions_in_order (parts (codes "(:functions (f ?x - (either c a))) (:task t :parameters (?x - (either b a) ?y - (either a a) ?z - (either b a)))")) (parts (codes "(:htn :parameters (?x - (either a b)) :subtasks (t))"))
    ≡ (codes "b" ∷ codes "a" ∷ []) ∷ (codes "a" ∷ codes "b" ∷ []) ∷ []
unions = refl

-- a union is printed with either
pub printed_union : bytes (group (params_parts v (x_a ∷ y_union ∷ []))) ≡ codes "(?x - a ?y - (either a b))"
printed_union = refl
