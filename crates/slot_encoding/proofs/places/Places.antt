-- Members and places of lists, in both ways of saying them.
use Rattle.std.proofs.Common.{ℕ, zero, suc, ◌≡◌, inl, inr, ◌<◌, true, List, [], ◌∷◌, map, length, slice_get, get_or, Option, Some, None, refl, ap, subst, arith}
use Rattle.std.specs.Prelude.{Any}
use Rattle.text_forms.specs.Lists.{Part, Parts, nothing, part}
use Rattle.text_forms.specs.Words.{Word, is_name, word_at}
use Rattle.plan_texts.specs.TypedLists.{Each, EachTyped, ahead, skipped}
use Rattle.htn_base.specs.Different.{AreDifferent}
use Rattle.plan_texts.specs.Types.{Has, EachIs}
use Rattle.plan_texts.proofs.Members.{contains-has, has-contains}
use Rattle.plan_texts.proofs.Places.{first-different}

pub in_range : (ws : List Word) (k : ℕ) → is_name (word_at ws k) ≡ true → k < length ws
in_range [] k e = cc
in_range (w ∷ ws) zero e = omega arith
in_range (w ∷ ws) (suc k) e = let h = in_range ws k e in omega arith

pub same_place : (ws : List Word) (k j : ℕ) → AreDifferent ws → k < length ws → j < length ws → word_at ws k ≡ word_at ws j → k ≡ j
same_place ws k j d l m e = let f = first-different ws k d l in let g = first-different ws j d m in cc

-- a word at a place, as an option and as a word
pub get-word : (ws : List Word) (k : ℕ) (w : Word) → slice_get ws k ≡ Some w → word_at ws k ≡ w
get-word [] k w e = cc
get-word (u ∷ ws) zero w e = cc
get-word (u ∷ ws) (suc k) w e = get-word ws k w e

pub word-get : (ws : List Word) (k : ℕ) → k < length ws → slice_get ws k ≡ Some (word_at ws k)
word-get [] k l = absurd (omega arith)
word-get (u ∷ ws) zero l = refl
word-get (u ∷ ws) (suc k) l = word-get ws k (omega arith)

pub get-map : {X Y : Type 0} (f : X → Y) (xs : List X) (k : ℕ) (d : Y) (x : X) → slice_get xs k ≡ Some x → get_or (map f xs) k d ≡ f x
get-map f [] k d x e = absurd (cc)
get-map f (y ∷ xs) zero d x e = let g : y ≡ x = cc in ap f g
get-map f (y ∷ xs) (suc k) d x e = get-map f xs k d x e

pub get-map-none : {X Y : Type 0} (f : X → Y) (xs : List X) (k : ℕ) (d : Y) → slice_get xs k ≡ None → get_or (map f xs) k d ≡ d
get-map-none f [] zero d e = refl
get-map-none f [] (suc k) d e = refl
get-map-none f (y ∷ xs) zero d e = absurd (cc)
get-map-none f (y ∷ xs) (suc k) d e = get-map-none f xs k d e

pub each-from_has : {X : Type 0} (P : X → Type 0) (xs : List X) → ((x : X) → Has xs x → P x) → EachIs P xs
each-from_has P [] h = tt
each-from_has P (x ∷ xs) h = (h x (inl refl), each-from_has P xs (λ y e. h y (inr e)))

pub each-at-some : {X : Type 0} (P : X → Type 0) (xs : List X) (k : ℕ) (x : X) → EachIs P xs → slice_get xs k ≡ Some x → P x
each-at-some P [] k x e f = absurd (cc)
each-at-some P (y ∷ ys) zero x e f = let g : y ≡ x = cc in subst P g e.0
each-at-some P (y ∷ ys) (suc k) x e f = each-at-some P ys k x e.1 f

pub same-at : {X X' Y : Type 0} (f : X → Y) (g : X' → Y) (xs : List X) (ys : List X') (k : ℕ) (x : X) → map f xs ≡ map g ys → slice_get xs k ≡ Some x → (y : X') × (slice_get ys k ≡ Some y) × (f x ≡ g y)
same-at f g [] ys k x e h = absurd (cc)
same-at f g (a ∷ xs) [] k x e h = absurd (cc)
same-at f g (a ∷ xs) (b ∷ ys) zero x e h = let i : a ≡ x = cc in let j : f a ≡ g b = cc in (b, refl, cc)
same-at f g (a ∷ xs) (b ∷ ys) (suc k) x e h = let i : map f xs ≡ map g ys = cc in same-at f g xs ys k x i h

-- what each item of a list that is spelled is known to be
pub each-typed : {X : Type 0} (Is : X → Part → Option Part → Type 0) (P : X → Type 0) → ((x : X) (p : Part) (o : Option Part) → Is x p o → P x) → (xs : List X) (ps : Parts) → EachTyped Is xs ps → EachIs P xs
each-typed Is P h [] ps e = tt
each-typed Is P h (x ∷ xs) nothing e = absurd e
each-typed Is P h (x ∷ xs) (part p ps) e = (h x p (ahead ps) e.0, each-typed Is P h xs (skipped ps) e.1)

pub each-spelled : {X : Type 0} (Is : X → Part → Type 0) (P : X → Type 0) → ((x : X) (p : Part) → Is x p → P x) → (xs : List X) (ps : Parts) → Each Is xs ps → EachIs P xs
each-spelled Is P h [] ps e = tt
each-spelled Is P h (x ∷ xs) nothing e = absurd e
each-spelled Is P h (x ∷ xs) (part p ps) e = (h x p e.0, each-spelled Is P h xs ps e.1)

pub any-has : {X : Type 0} (P : X → Type 0) (xs : List X) → Any P xs → (x : X) × Has xs x × P x
any-has P xs a = (a.1, contains-has xs a.1 (a.0, a.2, a.3), a.4)

pub has-any : {X : Type 0} (P : X → Type 0) (xs : List X) (x : X) → Has xs x → P x → Any P xs
has-any P xs x h p = let c = has-contains xs x h in (c.0, x, c.1, c.2, p)
