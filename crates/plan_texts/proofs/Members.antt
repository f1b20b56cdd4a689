-- Members of lists.
use Rattle.std.proofs.Common.{ℕ, zero, suc, ◌≡◌, inl, inr, ◌<◌, List, [], ◌∷◌, map, length, refl, ap, sym, subst, arith}
use Rattle.std.specs.Prelude.{Contains}
use Rattle.text_forms.specs.Words.{Word, word_at}
use Rattle.plan_texts.specs.Types.{EachIs, Has}

pub each-has : {X : Type 0} (P : X → Type 0) (xs : List X) (x : X) → EachIs P xs → Has xs x → P x
each-has P [] x e h = absurd h
each-has P (y ∷ ys) x e (inl h) = subst P h e.0
each-has P (y ∷ ys) x e (inr h) = each-has P ys x e.1 h

-- the two ways of saying that a list has something
pub contains-has : {X : Type 0} (xs : List X) (x : X) → Contains xs x → Has xs x
contains-has [] x c = absurd (let l = c.1 in omega arith)
contains-has (y ∷ xs) x (zero, l, e) = inl e
contains-has (y ∷ xs) x (suc k, l, e) = inr (contains-has xs x (k, omega arith, e))

pub has-contains : {X : Type 0} (xs : List X) (x : X) → Has xs x → Contains xs x
has-contains [] x h = absurd h
has-contains (y ∷ xs) x (inl e) = (0, omega arith, e)
has-contains (y ∷ xs) x (inr h) = let c = has-contains xs x h in let l = c.1 in (suc c.0, omega arith, c.2)

-- the two ways of saying that a list hasn't something
pub each-lacks : {X : Type 0} (xs : List X) (x : X) → EachIs (λ y. x ≡ y → ⊥) xs → Contains xs x → ⊥
each-lacks xs x e c = each-has (λ y. x ≡ y → ⊥) xs x e (contains-has xs x c) refl

pub lacks-each : {X : Type 0} (xs : List X) (x : X) → (Contains xs x → ⊥) → EachIs (λ y. x ≡ y → ⊥) xs
lacks-each [] x n = tt
lacks-each (y ∷ ys) x n = ((λ e. n (has-contains (y ∷ ys) x (inl (sym e)))), lacks-each ys x (λ c. n (has-contains (y ∷ ys) x (inr (contains-has ys x c)))))

pub has-to_map : {X Y : Type 0} (f : X → Y) (xs : List X) (x : X) → Has xs x → Has (map f xs) (f x)
has-to_map f [] x h = absurd h
has-to_map f (y ∷ ys) x (inl h) = inl (ap f h)
has-to_map f (y ∷ ys) x (inr h) = inr (has-to_map f ys x h)

pub has-of_map : {X Y : Type 0} (f : X → Y) (xs : List X) (y : Y) → Has (map f xs) y → (x : X) × Has xs x × (f x ≡ y)
has-of_map f [] y h = absurd h
has-of_map f (x ∷ xs) y (inl h) = (x, inl refl, h)
has-of_map f (x ∷ xs) y (inr h) = let g = has-of_map f xs y h in (g.0, inr g.1, g.2)

pub has-at : (ws : List Word) (k : ℕ) → k < length ws → Has ws (word_at ws k)
has-at [] k l = absurd (omega arith)
has-at (w ∷ ws) zero l = inl refl
has-at (w ∷ ws) (suc k) l = inr (has-at ws k (omega arith))

pub at-has : (ws : List Word) (w : Word) → Has ws w → (k : ℕ) × (k < length ws) × (word_at ws k ≡ w)
at-has [] w h = absurd h
at-has (u ∷ ws) w (inl h) = (0, omega arith, h)
at-has (u ∷ ws) w (inr h) = let g = at-has ws w h in let l = g.1 in (suc g.0, omega arith, g.2)

pub length-map : {X Y : Type 0} (f : X → Y) (xs : List X) → length (map f xs) ≡ length xs
length-map f [] = refl
length-map f (x ∷ xs) = ap suc (length-map f xs)
