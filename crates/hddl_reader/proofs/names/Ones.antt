-- One and each of a list, beside the elements that it contains.
use Rattle.std.proofs.Common.{zero, suc, inl, inr, List, [], ◌∷◌, refl, sym, subst, Contains, arith}
use Rattle.htn_base.specs.Lists.{One, Each}

pub contains-one : {X : Type 0} (P : X → Type 0) (xs : List X) (x : X) → Contains xs x → P x → One P xs
contains-one P [] x c h = absurd (let l = c.1 in omega arith)
contains-one P (y ∷ xs) x (zero, l, e) h = inl (subst P (sym e) h)
contains-one P (y ∷ xs) x (suc k, l, e) h = inr (contains-one P xs x (k, omega arith, e) h)

pub one-contains : {X : Type 0} (P : X → Type 0) (xs : List X) → One P xs → (x : X) × Contains xs x × P x
one-contains P [] h = absurd h
one-contains P (y ∷ xs) (inl h) = (y, (0, omega arith, refl), h)
one-contains P (y ∷ xs) (inr h) = let r = one-contains P xs h in (r.0, (suc r.1.0, (let l = r.1.1 in omega arith), r.1.2), r.2)

pub each-contains : {X : Type 0} (P : X → Type 0) (xs : List X) → Each P xs → (x : X) → Contains xs x → P x
each-contains P [] h x c = absurd (let l = c.1 in omega arith)
each-contains P (y ∷ xs) h x (zero, l, e) = subst P e h.0
each-contains P (y ∷ xs) h x (suc k, l, e) = each-contains P xs h.1 x (k, omega arith, e)

pub contains-each : {X : Type 0} (P : X → Type 0) (xs : List X) → ((x : X) → Contains xs x → P x) → Each P xs
contains-each P [] f = tt
contains-each P (y ∷ xs) f = (f y (0, omega arith, refl), contains-each P xs (λ x c. let l = c.1 in f x (suc c.0, omega arith, c.2)))
