-- What holds of one of a list, of each of it, and of lists made of others.
use Rattle.std.proofs.Common.{◌≡◌, inl, inr, List, [], ◌∷◌, ◌++◌, map, refl, sym, subst}
use Rattle.std.specs.Prelude.{◌⊎◌}
use Rattle.htn_base.specs.Different.{AreDifferent}
use Rattle.plan_texts.specs.Types.{EachIs}
use Rattle.htn_base.specs.Lists.{One, Has}
use Rattle.text_values.proofs.form_spellings.binding_laws.Numbered.{contains_has, has_contains, has_of_map}

pub one_has : {X : Type 0} (P : X → Type 0) (xs : List X) → One P xs → (x : X) × Has xs x × P x
one_has P [] o = absurd o
one_has P (x ∷ xs) (inl p) = (x, inl refl, p)
one_has P (x ∷ xs) (inr o) = let g = one_has P xs o in (g.0, inr g.1, g.2)

pub has_one : {X : Type 0} (P : X → Type 0) (xs : List X) (x : X) → Has xs x → P x → One P xs
has_one P [] x h p = absurd h
has_one P (y ∷ xs) x (inl e) p = inl (subst P (sym e) p)
has_one P (y ∷ xs) x (inr h) p = inr (has_one P xs x h p)

pub one_mapped : {X Y : Type 0} (f : X → Y) (P : Y → Type 0) (xs : List X) → One (λ x. P (f x)) xs → One P (map f xs)
one_mapped f P [] o = absurd o
one_mapped f P (x ∷ xs) (inl p) = inl p
one_mapped f P (x ∷ xs) (inr o) = inr (one_mapped f P xs o)

pub mapped_one : {X Y : Type 0} (f : X → Y) (P : Y → Type 0) (xs : List X) → One P (map f xs) → One (λ x. P (f x)) xs
mapped_one f P [] o = absurd o
mapped_one f P (x ∷ xs) (inl p) = inl p
mapped_one f P (x ∷ xs) (inr o) = inr (mapped_one f P xs o)

pub one_left : {X : Type 0} (P : X → Type 0) (xs ys : List X) → One P xs → One P (xs ++ ys)
one_left P [] ys o = absurd o
one_left P (x ∷ xs) ys (inl p) = inl p
one_left P (x ∷ xs) ys (inr o) = inr (one_left P xs ys o)

pub one_right : {X : Type 0} (P : X → Type 0) (xs ys : List X) → One P ys → One P (xs ++ ys)
one_right P [] ys o = o
one_right P (x ∷ xs) ys o = inr (one_right P xs ys o)

pub one_either : {X : Type 0} (P : X → Type 0) (xs ys : List X) → One P (xs ++ ys) → One P xs ⊎ One P ys
one_either P [] ys o = inr o
one_either P (x ∷ xs) ys (inl o) = inl (inl o)
one_either P (x ∷ xs) ys (inr o) = elim (one_either P xs ys o) [ inl i ↦ inl (inr i) | inr i ↦ inr i ]

-- what holds of each holds of one that stands there, and conversely
pub each_has : {X : Type 0} (P : X → Type 0) (xs : List X) (x : X) → EachIs P xs → Has xs x → P x
each_has P [] x e h = absurd h
each_has P (y ∷ xs) x e (inl g) = subst P g e.0
each_has P (y ∷ xs) x e (inr h) = each_has P xs x e.1 h

pub has_each : {X : Type 0} (P : X → Type 0) (xs : List X) → ((x : X) → Has xs x → P x) → EachIs P xs
has_each P [] f = tt
has_each P (x ∷ xs) f = (f x (inl refl), has_each P xs (λ y h. f y (inr h)))

pub each_wider : {X : Type 0} (P Q : X → Type 0) (xs : List X) → ((x : X) → P x → Q x) → EachIs P xs → EachIs Q xs
each_wider P Q [] f e = tt
each_wider P Q (x ∷ xs) f e = (f x e.0, each_wider P Q xs f e.1)

pub each_mapped : {X Y : Type 0} (f : X → Y) (P : Y → Type 0) (xs : List X) → EachIs (λ x. P (f x)) xs → EachIs P (map f xs)
each_mapped f P [] e = tt
each_mapped f P (x ∷ xs) e = (e.0, each_mapped f P xs e.1)

pub mapped_each : {X Y : Type 0} (f : X → Y) (P : Y → Type 0) (xs : List X) → EachIs P (map f xs) → EachIs (λ x. P (f x)) xs
mapped_each f P [] e = tt
mapped_each f P (x ∷ xs) e = (e.0, mapped_each f P xs e.1)

pub each_front : {X : Type 0} (P : X → Type 0) (xs ys : List X) → EachIs P (xs ++ ys) → EachIs P xs
each_front P [] ys e = tt
each_front P (x ∷ xs) ys e = (e.0, each_front P xs ys e.1)

pub each_back : {X : Type 0} (P : X → Type 0) (xs ys : List X) → EachIs P (xs ++ ys) → EachIs P ys
each_back P [] ys e = e
each_back P (x ∷ xs) ys e = each_back P xs ys e.1

pub each_both : {X : Type 0} (P : X → Type 0) (xs ys : List X) → EachIs P xs → EachIs P ys → EachIs P (xs ++ ys)
each_both P [] ys e f = f
each_both P (x ∷ xs) ys e f = (e.0, each_both P xs ys e.1 f)

-- what differs goes on differing where no two go to one
pub differ_mapped : {X Y : Type 0} (f : X → Y) (xs : List X) → ((x y : X) → Has xs x → Has xs y → f x ≡ f y → x ≡ y) → AreDifferent xs → AreDifferent (map f xs)
differ_mapped f [] apart d = tt
differ_mapped f (x ∷ xs) apart d = (
  λ c. let g = one_has (λ y. f y ≡ f x) xs (has_of_map f xs (f x) (contains_has (map f xs) (f x) c)) in
      d.0 (has_contains xs x (subst (Has xs) (apart g.0 x (inr g.1) (inl refl) g.2) g.1)),
  differ_mapped f xs (λ y z h i. apart y z (inr h) (inr i)) d.1,
)
