-- One of a list, one of a list beside another, and items whose words differ.
use Rattle.std.proofs.Common.{ℕ, zero, suc, ◌≡◌, inl, inr, Bool, true, false, List, [], ◌∷◌, ◌++◌, map, Option, Some, None, refl, sym, ap, subst, ◌∙◌}
use Rattle.std.specs.Prelude.{slice_get, Contains}
use Rattle.std.specs.Str.{bytes_eq}
use Rattle.htn_base.specs.Different.{AreDifferent}
use Rattle.text_forms.specs.Words.{Word, first_place, last_place}
use Rattle.plan_texts.specs.Together.{Together}
use Rattle.plan_texts.specs.Types.{EachIs}
use Rattle.plan_texts.specs.Types as value
use Rattle.plan_texts.proofs.Basics.{bytes_eq-true}
use Rattle.plan_texts.proofs.Members.{has-contains, has-to_map}
use Rattle.htn_base.specs.Lists.{One, Each, Has}

pub one_has : {X : Type 0} (P : X → Type 0) (xs : List X) → One P xs → (x : X) × value.Has xs x × P x
one_has P [] o = absurd o
one_has P (x ∷ xs) (inl p) = (x, inl refl, p)
one_has P (x ∷ xs) (inr o) = let g = one_has P xs o in (g.0, inr g.1, g.2)

pub has_one : {X : Type 0} (P : X → Type 0) (xs : List X) (x : X) → value.Has xs x → P x → One P xs
has_one P [] x h p = absurd h
has_one P (y ∷ xs) x (inl e) p = inl (subst P (sym e) p)
has_one P (y ∷ xs) x (inr h) p = inr (has_one P xs x h p)

pub has_each : {X : Type 0} (P : X → Type 0) (xs : List X) → ((x : X) → value.Has xs x → P x) → Each P xs
has_each P [] f = tt
has_each P (x ∷ xs) f = (f x (inl refl), has_each P xs (λ y h. f y (inr h)))

pub has_front : {X : Type 0} (xs ys : List X) (x : X) → value.Has xs x → value.Has (xs ++ ys) x
has_front [] ys x h = absurd h
has_front (y ∷ xs) ys x (inl e) = inl e
has_front (y ∷ xs) ys x (inr h) = inr (has_front xs ys x h)

pub has_back : {X : Type 0} (xs ys : List X) (x : X) → value.Has ys x → value.Has (xs ++ ys) x
has_back [] ys x h = h
has_back (y ∷ xs) ys x h = inr (has_back xs ys x h)

pub each_front : {X : Type 0} (P : X → Type 0) (xs ys : List X) → EachIs P (xs ++ ys) → EachIs P xs
each_front P [] ys e = tt
each_front P (x ∷ xs) ys e = (e.0, each_front P xs ys e.1)

pub each_back : {X : Type 0} (P : X → Type 0) (xs ys : List X) → EachIs P (xs ++ ys) → EachIs P ys
each_back P [] ys e = e
each_back P (x ∷ xs) ys e = each_back P xs ys e.1

-- what two lists that go together have in one place, where something holds of an item of the first
pub beside : {X Y : Type 0} (R : X → Y → Type 0) (P : X → Type 0) (xs : List X) (ys : List Y) → Together R xs ys → One P xs → (x : X) × (y : Y) × value.Has xs x × value.Has ys y × R x y × P x
beside R P [] ys t o = absurd o
beside R P (x ∷ xs) [] t o = absurd t
beside R P (x ∷ xs) (y ∷ ys) t (inl p) = (x, y, inl refl, inl refl, t.0, p)
beside R P (x ∷ xs) (y ∷ ys) t (inr o) = let g = beside R P xs ys t.1 o in (g.0, g.1, inr g.2, inr g.3, g.4, g.5)

-- or an item of the second
pub beside_back : {X Y : Type 0} (R : X → Y → Type 0) (xs : List X) (ys : List Y) (y : Y) → Together R xs ys → value.Has ys y → (x : X) × value.Has xs x × R x y
beside_back R xs [] y t h = absurd h
beside_back R [] (z ∷ ys) y t h = absurd t
beside_back R (x ∷ xs) (z ∷ ys) y t (inl e) = (x, inl refl, subst (R x) e t.0)
beside_back R (x ∷ xs) (z ∷ ys) y t (inr h) = let g = beside_back R xs ys y t.1 h in (g.0, inr g.1, g.2)

-- an item of the second by its number
pub beside_at : {X Y : Type 0} (R : X → Y → Type 0) (xs : List X) (ys : List Y) (n : ℕ) (y : Y) → Together R xs ys → slice_get ys n ≡ Some y → (x : X) × value.Has xs x × R x y × (slice_get xs n ≡ Some x)
beside_at R [] [] n y t e = cc
beside_at R [] (z ∷ ys) n y t e = absurd t
beside_at R (x ∷ xs) [] n y t e = absurd t
beside_at R (x ∷ xs) (z ∷ ys) zero y t e = (x, inl refl, subst (R x) (cc) t.0, refl)
beside_at R (x ∷ xs) (z ∷ ys) (suc n) y t e = let g = beside_at R xs ys n y t.1 e in (g.0, inr g.1, g.2, g.3)

-- the item of the first word that is this one
pub first_found : {X : Type 0} (word : X → Word) (w : Word) (xs : List X) (n : ℕ) → first_place w (map word xs) ≡ Some n → (x : X) × (slice_get xs n ≡ Some x) × (word x ≡ w)
first_found word w [] n e = cc
first_found {X = X} word w (x ∷ xs) n e = go (bytes_eq w (word x)) refl (first_place w (map word xs)) refl (first_found word w xs)
  where
    go : (b : Bool) → bytes_eq w (word x) ≡ b → (o : Option ℕ) → first_place w (map word xs) ≡ o → ((k : ℕ) → first_place w (map word xs) ≡ Some k → (y : X) × (slice_get xs k ≡ Some y) × (word y ≡ w)) → (y : X) × (slice_get (x ∷ xs) n ≡ Some y) × (word y ≡ w)
    go true f o g more =
        let z : 0 ≡ n = cc in
        subst (λ n. (y : X) × (slice_get (x ∷ xs) n ≡ Some y) × (word y ≡ w)) z (x, refl, sym (bytes_eq-true w (word x) f))
    go false f None g more = cc
    go false f (Some k) g more =
        let z : suc k ≡ n = cc in
        let h = more k g in
        subst (λ n. (y : X) × (slice_get (x ∷ xs) n ≡ Some y) × (word y ≡ w)) z (h.0, h.1, h.2)

pub first_has : (w : Word) (ws : List Word) (n : ℕ) → first_place w ws ≡ Some n → Has ws w
first_has w [] n e = cc
first_has w (u ∷ ws) n e = go (bytes_eq w u) refl (first_place w ws) refl (first_has w ws)
  where
    go : (b : Bool) → bytes_eq w u ≡ b → (o : Option ℕ) → first_place w ws ≡ o → ((k : ℕ) → first_place w ws ≡ Some k → Has ws w) → Has (u ∷ ws) w
    go true f o g more = inl (sym (bytes_eq-true w u f))
    go false f None g more = cc
    go false f (Some k) g more = inr (more k g)

pub last_has : (w : Word) (ws : List Word) (n : ℕ) → last_place w ws ≡ Some n → Has ws w
last_has w [] n e = cc
last_has w (u ∷ ws) n e = go (last_place w ws) refl (bytes_eq w u) refl (last_has w ws)
  where
    go : (o : Option ℕ) → last_place w ws ≡ o → (b : Bool) → bytes_eq w u ≡ b → ((k : ℕ) → last_place w ws ≡ Some k → Has ws w) → Has (u ∷ ws) w
    go (Some k) g b f more = inr (more k g)
    go None g true f more = inl (sym (bytes_eq-true w u f))
    go None g false f more = cc

-- where the words of items differ, one word is that of one item
pub same_item : {X : Type 0} (word : X → Word) (xs : List X) (x y : X) → AreDifferent (map word xs) → value.Has xs x → value.Has xs y → word x ≡ word y → x ≡ y
same_item word [] x y d h k e = absurd h
same_item word (z ∷ xs) x y d (inl f) (inl g) e = sym f ∙ g
same_item word (z ∷ xs) x y d (inl f) (inr k) e = absurd (d.0 (subst (Contains (map word xs)) (sym e ∙ sym (ap word f)) (has-contains (map word xs) (word y) (has-to_map word xs y k))))
same_item word (z ∷ xs) x y d (inr h) (inl g) e = absurd (d.0 (subst (Contains (map word xs)) (e ∙ sym (ap word g)) (has-contains (map word xs) (word x) (has-to_map word xs x h))))
same_item word (z ∷ xs) x y d (inr h) (inr k) e = same_item word xs x y d.1 h k e

-- going together is the same of mapped items
pub together_mapped : {X Y Z : Type 0} (u : X → Y) (R : Y → Z → Type 0) (xs : List X) (zs : List Z) → Together (λ x z. R (u x) z) xs zs ≡ Together R (map u xs) zs
together_mapped u R [] [] = refl
together_mapped u R [] (z ∷ zs) = refl
together_mapped u R (x ∷ xs) [] = refl
together_mapped u R (x ∷ xs) (z ∷ zs) = ap (λ t. R (u x) z × t) (together_mapped u R xs zs)
