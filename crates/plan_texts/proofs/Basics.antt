-- Words that are the same, and typed lists read as items.
use Rattle.std.proofs.Common.{◌≡◌, Bool, true, false, cond, List, [], ◌∷◌, map, Option, None, refl, ap, sym}
use Rattle.std.proofs.lemmas.Bool.{cond-true, cond-false}
use Rattle.std.proofs.lemmas.Slice.Eq.{bytes_eq-Decides}
use Rattle.text_forms.specs.Lists.{Part, Parts, nothing, part}
use Rattle.text_forms.specs.Words.{Word, is_name}
use Rattle.std.specs.Str.{bytes_eq}
use Rattle.plan_texts.specs.TypedLists.{EachTyped, is_dash, ahead, skipped, skipped_by}

pub bytes_eq-true : (u w : Word) → bytes_eq u w ≡ true → u ≡ w
bytes_eq-true u w e = (bytes_eq-Decides u w).0 e

pub bytes_eq-refl : (w : Word) → bytes_eq w w ≡ true
bytes_eq-refl w = (bytes_eq-Decides w w).1 refl

pub bytes_eq-other : (u w : Word) → (u ≡ w → ⊥) → bytes_eq u w ≡ false
bytes_eq-other u w n = go (bytes_eq u w) refl
  where
    go : (x : Bool) → bytes_eq u w ≡ x → x ≡ false
    go false e = refl
    go true e = absurd (n (bytes_eq-true u w e))

-- a name is no other word that isn't one
pub no_keyword : (w k : Word) → is_name w ≡ true → is_name k ≡ false → bytes_eq w k ≡ false
no_keyword w k e f = go (bytes_eq w k) refl
  where
    go : (x : Bool) → bytes_eq w k ≡ x → x ≡ false
    go false g = refl
    go true g = let h = ap is_name (bytes_eq-true w k g) in cc

-- the words of a typed list, each with the type ahead of it
abbrev pub items : Parts → List (Part × Option Part)
items nothing = []
items (part p nothing) = (p, None) ∷ []
items (part p (part q ps)) = cond (is_dash p) (items ps) ((p, ahead (part q ps)) ∷ items (part q ps))

items-skipped : (ps : Parts) → items (skipped ps) ≡ items ps
items-skipped nothing = refl
items-skipped (part p nothing) = refl
items-skipped (part p (part q ps)) = go (is_dash p) refl
  where
    go : (x : Bool) → is_dash p ≡ x → items (skipped_by x ps (part p (part q ps))) ≡ items (part p (part q ps))
    go true e = sym (cond-true _ _ _ e)
    go false e = refl

items-part : (p : Part) (ps : Parts) → is_dash p ≡ false → items (part p ps) ≡ (p, ahead ps) ∷ items ps
items-part p nothing e = refl
items-part p (part q ps) e = cond-false _ _ _ e

pub typed-items : {X Y : Type 0} (Is : X → Part → Option Part → Type 0) (view : X → Y) (read : Part × Option Part → Y) → ((x : X) (p : Part) (o : Option Part) → Is x p o → (is_dash p ≡ false) × (view x ≡ read (p, o))) → (xs : List X) (ps : Parts) → EachTyped Is xs ps → map view xs ≡ map read (items ps)
typed-items Is view read h [] nothing e = refl
typed-items Is view read h [] (part p ps) e = absurd e
typed-items Is view read h (x ∷ xs) nothing e = absurd e
typed-items Is view read h (x ∷ xs) (part p ps) e =
    let g = h x p (ahead ps) e.0 in
    let i = typed-items Is view read h xs (skipped ps) e.1 in
    let j = ap (map read) (items-skipped ps) in
    let k = ap (map read) (items-part p ps g.0) in
    let l = g.1 in
    cc

-- a name is no other word that isn't one, asked the other way round
pub no_keyword' : (w k : Word) → is_name w ≡ true → is_name k ≡ false → bytes_eq k w ≡ false
no_keyword' w k e f = bytes_eq-other k w (λ g. let h = ap is_name g in cc)

-- two words differ where their comparison says so
pub apart : (u w : Word) → bytes_eq u w ≡ false → u ≡ w → ⊥
apart u w e f = let g = bytes_eq-refl w in let h = ap (λ t. bytes_eq t w) f in cc
