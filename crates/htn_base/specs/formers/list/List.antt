-- How a `List` stores its items, so that a type may hold itself through it. Its value is the list of its items.
use mathlib.Core.Path.{◌≡◌, refl, sym}
use mathlib.Core.List.{List as Items, []}
use mathlib.Core.Former.{Former, this, list, via, children}
use base.Stored.{code_map}
use denote.RattleType.{RattleType}
use denote.HoleLaws.{Alike}
use denote.HolePlaces.{Recodes, struct_places, laid}
use denote.Hole.Carrier.{listed, list-listed}
use denote.Hole.Fix.{over}
use denote.Param.Weighed.{Weighed, w_list}
use denote.Model.Placed.{view_places}
use Rattle.std.specs.formers.vec.Vec as vec
use Rattle.std.specs.declared.alloc.Global.{Global}
use Rattle.std.specs.contracts.alloc.Global as global
use Rattle.std.specs.contracts.impls.GlobalAllocator.TheImpl.{ghosts}
use Rattle.htn_base.specs.declared.list.List.TheInside.{Inside}
use Rattle.htn_base.specs.declared.list.List.TheView.{view, invariant}
use Rattle.htn_base.specs.contracts.list.List as OfList
use Rattle.htn_base.specs.contracts.list.List.TheInside as Fields

abbrev pub the_former : Former {0} → Former {0}
the_former item = list item

abbrev pub the_weighed : {item : Former {0}} → Weighed item → Weighed (the_former item)
the_weighed weighed = w_list weighed

pub the_empty : Items ⊥
the_empty = []

abbrev pub the_items : (X : Type 0) → Items X → Items X
the_items X items = items

pub the_items_listed : (X : Type 0) (d : Items X) → listed _ (children (the_former this) X d) ≡ the_items X d
the_items_listed X d = list-listed X d

-- the one field, a `Vec`
abbrev field : Former {0}
field = via (vec.the_former this Global) Inside (λ X fields. fields.items) (λ X items. record { items = items }) (λ X fields. refl) (λ X items. refl)

module _ (R S : RattleType) (h : R.Denot → S.Denot) where
  pub the_places : Alike R S h → Alike (OfList.the_row R) (OfList.the_row S) ((the_former this).map R.Denot S.Denot h)
  the_places same = view_places field (list this) view (λ X Y k u. refl) (λ X u. refl) R.Denot S.Denot h
      (OfList.the_row R).coded (OfList.the_row S).coded
      (invariant R.Denot) (invariant S.Denot) (λ u p q. refl) (λ u p q. refl) (λ u e. tt) (λ u e. tt)
      (over (Fields.the_row R)) (over (Fields.the_row S))
      (struct_places (Fields.the_type R) (Fields.the_type S) (vec.mapped h, tt) _ (λ d. refl) refl (laid _ _ _ (vec.the_places global.the_row ghosts R S h same), tt))

  pub the_codes_placed : Recodes R S h → Recodes (OfList.the_row R) (OfList.the_row S) ((the_former this).map R.Denot S.Denot h)
  the_codes_placed recodes d = sym (code_map R.coded.code S.coded.code h (λ x. sym (recodes x)) d)
