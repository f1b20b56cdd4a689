-- Lists of edges in which each edge is earlier than all that stand behind it.
use Rattle.std.proofs.Common.{◌≡◌, inl, inr, List, [], ◌∷◌, ◌++◌, subst, sym, Contains}
use Rattle.std.proofs.lemmas.List.Elements.{Contains-append_cases}
use Rattle.plan_model.proofs.task_networks.Lists.{Contains-here, Contains-later}
use Rattle.plan_model.specs.plan_meaning.Strata.{Edge, IsEarlier}

abbrev pub AreInOrder : List Edge → Type 0
AreInOrder [] = Unit {0}
AreInOrder (e ∷ es) = ((f : Edge) → Contains es f → IsEarlier e f) × AreInOrder es

pub one_after_another : (before rest : List Edge) (e f : Edge) (es : List Edge) → AreInOrder es → es ≡ before ++ e ∷ f ∷ rest → IsEarlier e f
one_after_another [] rest e f [] o s = absurd cc
one_after_another [] rest e f (d ∷ es) o s =
    let x : d ≡ e = cc in
    let y : es ≡ f ∷ rest = cc in
    subst (λ z. IsEarlier z f) x (o.0 f (subst (λ z. Contains z f) (sym y) (Contains-here f rest)))
one_after_another (b ∷ before) rest e f [] o s = absurd cc
one_after_another (b ∷ before) rest e f (d ∷ es) o s = one_after_another before rest e f es o.1 (let y : es ≡ before ++ e ∷ f ∷ rest = cc in y)

pub both_in_order : (es fs : List Edge) → AreInOrder es → AreInOrder fs → ((e f : Edge) → Contains es e → Contains fs f → IsEarlier e f) → AreInOrder (es ++ fs)
both_in_order [] fs o p q = p
both_in_order (e ∷ es) fs o p q = (
  λ f c. elim (Contains-append_cases es fs f c) [ inl a ↦ o.0 f a | inr b ↦ q e f (Contains-here e es) b ],
  both_in_order es fs o.1 p (λ d f a b. q d f (Contains-later e es d a) b),
)
