-- What is so of the objects of a domain, place by place.
use Rattle.std.proofs.Common.{ℕ, ◌≡◌, ◌<◌, ◌↔◌, List, length, Some, None, sym, subst, ◌∙◌, arith}
use Rattle.plan_model.specs.declared.types.Types.{Types}
use Rattle.plan_model.specs.declared.types.Object.{Object}
use Rattle.plan_model.proofs.PartsOf.{in_type_within}
use Rattle.problem_index.specs.declared.domain.Domain.{Domain}
use Rattle.problem_index.specs.Domains.{places, at, IsIn, IsDomainOf, IsBelow}

-- at the place stands an object of which P is true
abbrev pub AtPlace : Domain → (ℕ → Type 0) → ℕ → Type 0
AtPlace d P i = (o : ℕ) × (at d i ≡ Some o) × P o

pub same_object : (d : Domain) (i o x : ℕ) → at d i ≡ Some o → at d i ≡ Some x → x ≡ o
same_object d i o x e f = let g : Some x ≡ Some o = sym f ∙ e in cc g

-- the one object that stands there
pub at_one : (d : Domain) (P : ℕ → Type 0) (i o : ℕ) → at d i ≡ Some o → AtPlace d P i ↔ P o
at_one d P i o e = (λ t. subst P (same_object d i o t.0 e t.1) t.2, λ p. (o, e, p))

pub at_none : (d : Domain) (P : ℕ → Type 0) (i : ℕ) → at d i ≡ None → AtPlace d P i → ⊥
at_none d P i e t = let g : None ≡ Some t.0 = sym e ∙ t.1 in cc g

-- at one of the places is of some object of the domain
pub at_some_place : (d : Domain) (P : ℕ → Type 0) (n : ℕ) → n ≡ places d → ((i : ℕ) × (i < n) × AtPlace d P i) ↔ ((o : ℕ) × IsIn d o × P o)
at_some_place d P n e = (
  λ t. (t.2.0, (t.0, (let l = t.1 in omega (arith, l, e)), t.2.1), t.2.2),
  λ t. (t.1.0, (let l = t.1.1 in omega (arith, l, e)), (t.0, t.1.2, t.2)),
)

-- the objects in a type are below the number of all
pub type_below : (types : Types) (objects : List Object) (ty : ℕ) (d : Domain) (n : ℕ) → n ≡ length objects → IsDomainOf types objects ty d → IsBelow n d
type_below types objects ty d n e h x i = let l = in_type_within types objects ty x ((h x).0 i) in omega (arith, l, e)
