-- What a sound problem gives to the crates that compile, encode and print it.
use Rattle.std.proofs.Common.{ℕ, zero, suc, inl, inr, ◌<◌, ◌^◌, List, [], ◌∷◌, length, All, Contains, refl, arith}
use Rattle.plan_texts.specs.Types.{EachIs}
use Rattle.plan_texts.specs.SoundProblem.{all_methods, NamesSubtasks, IsSmallMethod, IsSoundNetwork, IsSoundProblem, HasSmallMethods}
use Rattle.plan_texts.proofs.Members.{each-has, contains-has, has-contains}
use Rattle.plan_model.specs.Parts.{AreListed}
use Rattle.plan_model.specs.declared.types.Parent.{Parent}
use Rattle.plan_model.specs.declared.schemas.MethodSchema.{MethodSchema}
use Rattle.plan_model.specs.declared.values.Hddl.{Hddl}

-- the two ways of saying that each item is one of these
pub each-all : {X : Type 0} (P : X → Type 0) (xs : List X) → EachIs P xs → All P xs
each-all P [] e k d l = absurd (omega arith)
each-all P (x ∷ xs) e zero d l = e.0
each-all P (x ∷ xs) e (suc k) d l = each-all P xs e.1 k d (omega arith)

pub each-more : {X : Type 0} (P Q : X → Type 0) (xs : List X) → ((x : X) → P x → Q x) → EachIs P xs → EachIs Q xs
each-more P Q [] f e = tt
each-more P Q (x ∷ xs) f e = (f x e.0, each-more P Q xs f e.1)

-- what each item is, one of them is
pub each-contains : {X : Type 0} (P : X → Type 0) (xs : List X) → EachIs P xs → (x : X) → Contains xs x → P x
each-contains P xs e x c = each-has P xs x e (contains-has xs x c)

pub each-of : {X : Type 0} (P : X → Type 0) (xs : List X) → ((x : X) → Contains xs x → P x) → EachIs P xs
each-of P [] f = tt
each-of P (x ∷ xs) f = (f x (has-contains (x ∷ xs) x (inl refl)), each-of P xs (λ y c. f y (has-contains (x ∷ xs) y (inr (contains-has xs y c)))))

pub small_method : (h : Hddl) → HasSmallMethods h → (s : MethodSchema) → Contains (all_methods h) s → IsSmallMethod s
small_method h small = each-contains IsSmallMethod (all_methods h) small

module _ (h : Hddl) (sound : IsSoundProblem h) where
  pub listed : AreListed h.types
  listed = record {
    few = sound.limits.types;
    parents = each-all (λ (p : Parent). (p.child < length h.types.names) × (p.parent < length h.types.names)) h.types.parents (
        each-more
        (λ (p : Parent). (p.child < length h.types.names) × (p.parent < length h.types.names) × (0 < p.child))
        (λ (p : Parent). (p.child < length h.types.names) × (p.parent < length h.types.names))
        h.types.parents
        (λ p q. (q.0, q.1))
        sound.value.parents
        );
    unions = each-all (All (λ t. t < length h.types.names)) h.types.unions (
        each-more (EachIs (λ t. t < length h.types.names)) (All (λ t. t < length h.types.names)) h.types.unions (each-all (λ t. t < length h.types.names)) sound.value.unions
        );
  }

  -- so the words of printed types and actions differ
  pub few_unions : length h.types.unions < 2 ^ 64
  few_unions = let l = sound.limits.unions in omega (arith, l)

  -- the pairs of each network are of its subtasks
  pub pairs_within : (s : MethodSchema) → Contains (all_methods h) s → (i j : ℕ) → Contains s.pairs (record { first = i; then = j }) → (i < length s.children) × (j < length s.children)
  pairs_within s c i j p = each-contains (NamesSubtasks (length s.children)) s.pairs (each-contains (IsSoundNetwork h.names) (all_methods h) sound.networks s c).pairs (record { first = i; then = j }) p
