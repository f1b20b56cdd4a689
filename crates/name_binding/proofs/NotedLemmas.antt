-- Faults that were noted once are noted, and types that were bound once are bound.
use Rattle.std.proofs.Common.{◌≡◌, List, [], ◌∷◌, Option, Some, None, false, refl, ap, sym, subst, ◌∙◌}
use Rattle.std.specs.Prelude.{All}
use Rattle.std.proofs.lemmas.Bool.{cond-false}
use Rattle.std.proofs.lemmas.List.Elements.{All-head, All-tail}
use Rattle.name_binding.specs.Spots.{is_in_front, noted}
use Rattle.name_binding.specs.declared.faults.Spot.{Spot}
use Rattle.name_binding.proofs.Least.{noted_is_least, none_is_noted}

-- none of these is in front of the one that is kept
stays : (r : Spot) (ss : List Spot) → All (λ s. is_in_front s r ≡ false) ss → noted (Some r) ss ≡ Some r
stays r [] h = refl
stays r (s ∷ ss) h =
    let P : Spot → Type 0 = λ u. is_in_front u r ≡ false in
    ap (λ o. noted o ss) (cond-false (is_in_front s r) (Some s) (Some r) (All-head P s ss h)) ∙ stays r ss (All-tail P s ss h)

from_none : (ss : List Spot) (o : Option Spot) → noted None ss ≡ o → noted o ss ≡ o
from_none ss None e = e
from_none ss (Some r) e = stays r ss (noted_is_least ss r e).least

from_some : (t : Spot) (ss : List Spot) (o : Option Spot) → noted (Some t) ss ≡ o → noted o ss ≡ o
from_some t ss None e = absurd (let f = none_is_noted (t ∷ ss) e in cc)
from_some t ss (Some r) e =
    let P : Spot → Type 0 = λ u. is_in_front u r ≡ false in
    stays r ss (All-tail P t ss (noted_is_least (t ∷ ss) r e).least)

pub noted_twice : (least : Option Spot) (ss : List Spot) → noted (noted least ss) ss ≡ noted least ss
noted_twice None ss = from_none ss (noted None ss) refl
noted_twice (Some t) ss = from_some t ss (noted (Some t) ss) refl

pub noted_again : (old : Option Spot) (ss : List Spot) (now : Option Spot) → now ≡ noted old ss → noted now ss ≡ now
noted_again old ss now e = subst (λ o. noted o ss ≡ o) (sym e) (noted_twice old ss)
