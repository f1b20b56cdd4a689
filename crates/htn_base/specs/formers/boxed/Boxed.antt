-- How a `Boxed` stores its value, so that a type may hold itself through it. The value is all that it has.
use mathlib.Core.Path.{refl}
use mathlib.Core.Former.{Former, this, const, pair, via}
use base.Stored.{gnil}
use base.Fml.{ftrue}
use denote.RattleType.{RattleType}
use denote.Memory.{part_of}
use denote.RawPtr.{Ptr}
use denote.Sharing.{nothing}
use denote.HoleLaws.{Alike}
use denote.HolePlaces.{Recodes, struct_places, laid, one_value}
use denote.Hole.Fix.{over}
use denote.Param.Weighed.{Weighed}
use denote.Model.Placed.{view_places}
use Rattle.std.specs.declared.alloc.Global.{Global}
use Rattle.std.specs.declared.boxed.Box.{Box}
use Rattle.std.specs.contracts.alloc.Global as global
use Rattle.std.specs.contracts.boxed.Box as std_box
use Rattle.std.specs.contracts.impls.GlobalAllocator.TheImpl.{ghosts}
use Rattle.htn_base.specs.declared.boxed.Boxed.TheInside.{Inside}
use Rattle.htn_base.specs.declared.boxed.Boxed.TheView.{view, invariant}
use Rattle.htn_base.specs.contracts.boxed.Boxed as Boxed
use Rattle.htn_base.specs.contracts.boxed.Boxed.TheInside as Fields

abbrev pub the_former : Former {0} → Former {0}
the_former held = held

abbrev pub the_weighed : {held : Former {0}} → Weighed held → Weighed (the_former held)
the_weighed weighed = weighed

-- the one field, a `Box`: where it lies, and what it owns
abbrev field : Former {0}
field = via (pair (const (Ptr × Global)) this) Inside
    (λ X fields. ((fields.owned.ptr, fields.owned.alloc), fields.owned.value))
    (λ X parts. record { owned = record { ptr = parts.0.0; alloc = parts.0.1; value = parts.1 } })
    (λ X fields. refl) (λ X parts. refl)

-- the box with another value
abbrev owning : {X Y : Type 0} → Box X Global → Y → Box Y Global
owning box y = record { ptr = box.ptr; alloc = box.alloc; value = y }

abbrev boxed_row : RattleType → RattleType
boxed_row R = std_box.the_row R global.the_row ghosts

module _ (R S : RattleType) (h : R.Denot → S.Denot) where
  box_places : Alike R S h → Alike (boxed_row R) (boxed_row S) (λ box. owning box (h box.value))
  unfolding part_of
  box_places same = record {
    mir_same = λ i. (boxed_row (one_value R (same.mir_same i) (λ _. ftrue) (λ _ _. nothing) gnil)).mir;
    own_same = λ box i. (boxed_row (one_value R (same.mir_same i) (same.own_same box.value i) (same.shr_same box.value i) gnil)).own_val (owning box tt);
    shr_same = λ box i. (boxed_row (one_value R (same.mir_same i) (same.own_same box.value i) (same.shr_same box.value i) gnil)).shr_at (owning box tt);
  }

  pub the_places : Alike R S h → Alike (Boxed.the_row R) (Boxed.the_row S) ((the_former this).map R.Denot S.Denot h)
  the_places same = view_places field this view (λ X Y k u. refl) (λ X u. refl) R.Denot S.Denot h
      (Boxed.the_row R).coded (Boxed.the_row S).coded
      (invariant R.Denot) (invariant S.Denot) (λ u p q. refl) (λ u p q. refl) (λ u e. tt) (λ u e. tt)
      (over (Fields.the_row R)) (over (Fields.the_row S))
      (struct_places (Fields.the_type R) (Fields.the_type S) ((λ box. owning box (h box.value)), tt) _ (λ d. refl) refl (laid _ _ _ (box_places same), tt))

  pub the_codes_placed : Recodes R S h → Recodes (Boxed.the_row R) (Boxed.the_row S) ((the_former this).map R.Denot S.Denot h)
  the_codes_placed recodes d = recodes d
