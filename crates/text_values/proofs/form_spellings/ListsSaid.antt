-- Typed lists that parts spell are those to which what is read of them is bound.
use Rattle.std.proofs.Common.{◌≡◌, Bool, List, [], ◌∷◌, drop, Option, ap, sym, ◌∙◌}
use Rattle.text_forms.specs.Lists.{Part, Parts, name, nothing, part}
use Rattle.text_forms.specs.Placed.{Placed, parts_of}
use Rattle.text_forms.specs.Words.{Word}
use Rattle.plan_texts.specs.Declared.{Declared, named}
use Rattle.plan_texts.specs.Formulas.{IsParam}
use Rattle.plan_texts.specs.Schemas.{IsObject}
use Rattle.plan_texts.specs.TypedLists.{EachTyped, ahead, skipped}
use Rattle.plan_texts.specs.Types.{IsTypeItem}
use Rattle.gd_reader.specs.declared.term.RawTerm.{RawTerm}
use Rattle.gd_reader.specs.declared.typed_lists.ListKind.{ListKind}
use Rattle.gd_reader.specs.declared.typed_lists.ListKind.TheVariants.{Parameters, Predicate, Objects, Types}
use Rattle.gd_reader.specs.declared.typed_lists.RawParam.{RawParam}
use Rattle.gd_reader.specs.ListGrammar.{declared_name}
use Rattle.gd_reader.specs.Terms.{Names}
use Rattle.gd_reader.specs.TypedLists.{are_variables, with_type, listed}
use Rattle.plan_texts.specs.Together.{Together}
use Rattle.text_values.specs.form_spellings.Bound.{IsBoundParam, IsBoundObject, IsBoundType}
use Rattle.text_values.proofs.form_spellings.KeptWords.{Reads}
use Rattle.text_values.proofs.form_spellings.ListsBound.{WordBound, Rests, listed_with, said_types, one_type, said_parent}
use Rattle.text_values.proofs.form_spellings.ListsWhole.{name_is}
use Rattle.text_values.proofs.form_spellings.UnionsBound.{TypesBound}

module _ {X : Type 0} (Is : Declared → X → Part → Option Part → Type 0) (IsBound : Declared → Names → RawParam → X → Type 0) (kind : ListKind) where
  -- what a word and its type spell is bound to them
  abbrev pub Binds : Type 0
  Binds = (v : Declared) (table : Names) (r : RawParam) (x : X) (w : Word) (said : Option Part) → named table r.name ≡ declared_name kind w → TypesBound (are_variables kind) said r.ty table → Is v x (name w) said → IsBound v table r x

  module _ (binds : Binds) where
    -- a typed list that the parts spell is bound to what is read of them
    abbrev Front : Parts → List RawParam → Names → Type 0
    Front ps rs table = (v : Declared) (xs : List X) → EachTyped (Is v) xs ps → Together (IsBound v table) rs xs

    one_binds : (p : Placed) (w : Word) (x : RawParam) (r : List RawTerm × List RawParam) (table : Names) → Rests kind Front (ahead (parts_of p)) (skipped (parts_of p)) r table → WordBound kind w x table → Front (part (name w) (parts_of p)) (with_type r.0 x ∷ r.1) table
    one_binds p w x r table is one v [] b = absurd b
    one_binds p w x r table is one v (y ∷ ys) b = (binds v table (with_type r.0 x) y w (ahead (parts_of p)) one.0 is.0 b.0, is.1 v ys b.1)

    none_binds : (table : Names) → Front nothing [] table
    none_binds table v [] b = tt
    none_binds table v (x ∷ xs) b = absurd b

    abbrev pub ListSaid : Placed → List RawParam → Names → Type 0
    ListSaid p = Front (parts_of p)

    pub listed_said : (p : Placed) (names : Names) → Reads names (listed kind names p) (ListSaid p)
    listed_said p names = listed_with kind Front none_binds one_binds p names

pub parameter_binds : Binds IsParam IsBoundParam Parameters
parameter_binds v table r x w said n t i = (sym (n ∙ ap (drop 1) (name_is i.0)), i.2.0 ∙ sym (said_types v table said r.ty t.1))

pub variable_binds : Binds IsParam IsBoundParam Predicate
variable_binds v table r x w said n t i = (sym (n ∙ ap (drop 1) (name_is i.0)), i.2.0 ∙ sym (said_types v table said r.ty t.1))

pub object_binds : (constant : Bool) → Binds (λ v. IsObject v constant) (λ v table. IsBoundObject v table constant) Objects
object_binds constant v table r x w said n t i =
    (sym (n ∙ name_is i.0), ap (λ u. u ∷ []) i.2.0 ∙ sym (said_types v table said r.ty t.1 ∙ one_type said t.0), i.3)

pub type_binds : Binds (λ v. IsTypeItem) IsBoundType Types
type_binds v table r x w said n t i = (sym (n ∙ name_is i.0), i.2 ∙ sym (said_parent v table said r.ty t.0 t.1))
