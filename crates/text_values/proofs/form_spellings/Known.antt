-- Words that are declared as everything, for the parts in which they stand.
use Rattle.std.proofs.Common.{ℕ, suc, ◌≡◌, inl, inr, Bool, true, false, cond, List, [], ◌∷◌, ◌++◌, map, drop, codes, get_or, Option, Some, None, refl, ap}
use Rattle.std.specs.Option.{option_map}
use Rattle.std.specs.Str.{bytes_eq}
use Rattle.text_forms.specs.Lists.{Part, name, group}
use Rattle.text_forms.specs.Placed.{Placed, cut, close, word, list, parts_of}
use Rattle.text_forms.specs.Words.{Word, first_place, last_place, later}
use Rattle.plan_texts.specs.Declared.{Declared, kinds, one_word}
use Rattle.plan_texts.specs.TypedLists.{types_in}
use Rattle.plan_texts.specs.Types.{Has}
use Rattle.plan_texts.proofs.Basics.{bytes_eq-refl}
use Rattle.plan_texts.proofs.Members.{has-to_map}
use Rattle.plan_texts.proofs.Places.{each-append}
use Rattle.text_values.specs.form_spellings.SpellsSome.{HaveLetters}

module _ (v : Declared) where
  -- a word as a type, an object and a predicate
  abbrev pub IsDeclared : Word → Type 0
  IsDeclared w = Has v.names w × Has v.types w × Has v.objects w × Has v.predicates w

  abbrev pub KnowsObject : Type 0
  KnowsObject = Has (kinds v) (codes "object" ∷ []) × Has v.types (codes "object")

  module _ (scope : List Word) where
    abbrev pub KnowsWord : Word → Type 0
    KnowsWord w = IsDeclared w × Has v.names (drop 1 w) × Has (kinds v) (w ∷ []) × ((drop 1 w ≡ [] → ⊥) → Has scope (drop 1 w))

    abbrev pub Knows : Placed → Type 0
    Knows cut = Unit {0}
    Knows (close at) = Unit {0}
    Knows (word at w q) = KnowsWord w × Knows q
    Knows (list at p q) = Has (kinds v) (types_in (parts_of p)) × Knows p × Knows q

    abbrev pub KnowsSaid : Option Part → Type 0
    KnowsSaid None = KnowsObject
    KnowsSaid (Some (name w)) = KnowsWord w
    KnowsSaid (Some (group ps)) = Has (kinds v) (types_in ps)

pub has_left : {X : Type 0} (xs ys : List X) (x : X) → Has xs x → Has (xs ++ ys) x
has_left [] ys x h = absurd h
has_left (z ∷ xs) ys x (inl e) = inl e
has_left (z ∷ xs) ys x (inr h) = inr (has_left xs ys x h)

pub has_right : {X : Type 0} (xs ys : List X) (x : X) → Has ys x → Has (xs ++ ys) x
has_right [] ys x h = h
has_right (z ∷ xs) ys x h = inr (has_right xs ys x h)

-- the place of what a list has
pub place_of : {X : Type 0} (xs : List X) (x d : X) → Has xs x → (k : ℕ) × (get_or xs k d ≡ x)
place_of [] x d h = absurd h
place_of (y ∷ xs) x d (inl e) = (0, e)
place_of (y ∷ xs) x d (inr h) = let g = place_of xs x d h in (suc g.0, g.1)

pub first_of : (ws : List Word) (w : Word) → Has ws w → (k : ℕ) × (first_place w ws ≡ Some k)
first_of [] w h = absurd h
first_of (u ∷ ws) w h = go (bytes_eq w u) refl h (first_of ws w)
  where
    go : (b : Bool) → bytes_eq w u ≡ b → Has (u ∷ ws) w → (Has ws w → (k : ℕ) × (first_place w ws ≡ Some k)) → (k : ℕ) × (cond b (Some 0) (option_map suc (first_place w ws)) ≡ Some k)
    go true e h more = (0, refl)
    go false e (inl g) more = absurd (let s = bytes_eq-refl w in let t = ap (bytes_eq w) g in cc)
    go false e (inr g) more = let m = more g in (suc m.0, ap (option_map suc) m.1)

pub last_of : (ws : List Word) (w : Word) → Has ws w → (k : ℕ) × (last_place w ws ≡ Some k)
last_of [] w h = absurd h
last_of (u ∷ ws) w h = go (last_place w ws) refl (bytes_eq w u) refl h (last_of ws w)
  where
    go : (o : Option ℕ) → last_place w ws ≡ o → (b : Bool) → bytes_eq w u ≡ b → Has (u ∷ ws) w → (Has ws w → (k : ℕ) × (last_place w ws ≡ Some k)) → (k : ℕ) × (later o b ≡ Some k)
    go (Some k) l b e h more = (suc k, refl)
    go None l true e h more = (0, refl)
    go None l false e (inl g) more = absurd (let s = bytes_eq-refl w in let t = ap (bytes_eq w) g in cc)
    go None l false e (inr g) more = absurd (let m = more g in let n = m.1 in cc)

-- more variables in force
pub knows_more : (v : Declared) (scope more : List Word) (p : Placed) → Knows v scope p → Knows v (scope ++ more) p
knows_more v scope more cut k = tt
knows_more v scope more (close at) k = tt
knows_more v scope more (word at w q) k = ((k.0.0, k.0.1, k.0.2, λ n. has_left scope more (drop 1 w) (k.0.3 n)), knows_more v scope more q k.1)
knows_more v scope more (list at p q) k = (k.0, knows_more v scope more p k.1, knows_more v scope more q k.2)

-- the words of the parts, as they are and without their first letter
abbrev pub all_words : Placed → List Word
all_words cut = []
all_words (close at) = []
all_words (word at w q) = w ∷ drop 1 w ∷ all_words q
all_words (list at p q) = all_words p ++ all_words q

abbrev pub all_unions : Placed → List (List Word)
all_unions cut = []
all_unions (close at) = []
all_unions (word at w q) = all_unions q
all_unions (list at p q) = types_in (parts_of p) ∷ (all_unions p ++ all_unions q)

abbrev unless_empty : Word → List Word → List Word
unless_empty [] ws = ws
unless_empty (b ∷ w) ws = (b ∷ w) ∷ ws

-- the words behind a first letter
abbrev pub all_variables : Placed → List Word
all_variables cut = []
all_variables (close at) = []
all_variables (word at w q) = unless_empty (drop 1 w) (all_variables q)
all_variables (list at p q) = all_variables p ++ all_variables q

pub have_letters : (p : Placed) → HaveLetters (all_variables p)
have_letters cut = tt
have_letters (close at) = tt
have_letters (word at w q) = go (drop 1 w) (have_letters q)
  where
    go : (u : Word) → HaveLetters (all_variables q) → HaveLetters (unless_empty u (all_variables q))
    go [] h = h
    go (b ∷ u) h = (λ e. (let f = e in cc), h)
have_letters (list at p q) = each-append (λ w. w ≡ [] → ⊥) (all_variables p) (all_variables q) (have_letters p) (have_letters q)

abbrev pub declared_by : Placed → Declared
declared_by p = record { names = all_words p; types = codes "object" ∷ all_words p; unions = all_unions p; objects = all_words p; predicates = all_words p }

pub knows_from : (v : Declared) (scope : List Word) (p : Placed) → ((w : Word) → Has (all_words p) w → IsDeclared v w) → ((us : List Word) → Has (all_unions p) us → Has v.unions us) → ((w : Word) → Has (all_variables p) w → Has scope w) → Knows v scope p
knows_from v scope cut a b c = tt
knows_from v scope (close at) a b c = tt
knows_from v scope (word at w q) a b c =
    let h = a w (inl refl) in
    ((h, (a (drop 1 w) (inr (inl refl))).0, has_left (map one_word v.types) v.unions (w ∷ []) (has-to_map one_word v.types w h.1), inside (drop 1 w) (c (drop 1 w))), knows_from v scope q (λ w h. a w (inr (inr h))) b (later_ones (drop 1 w) c))
  where
    inside : (u : Word) → (Has (unless_empty u (all_variables q)) u → Has scope u) → (u ≡ [] → ⊥) → Has scope u
    inside [] f n = absurd (n refl)
    inside (b ∷ u) f n = f (inl refl)

    later_ones : (u : Word) → ((w : Word) → Has (unless_empty u (all_variables q)) w → Has scope w) → (w : Word) → Has (all_variables q) w → Has scope w
    later_ones [] f w h = f w h
    later_ones (b ∷ u) f w h = f w (inr h)
knows_from v scope (list at p q) a b c = (
  has_right (map one_word v.types) v.unions (types_in (parts_of p)) (b (types_in (parts_of p)) (inl refl)),
  knows_from v scope p (λ w h. a w (has_left (all_words p) (all_words q) w h)) (λ us h. b us (inr (has_left (all_unions p) (all_unions q) us h))) (λ w h. c w (has_left (all_variables p) (all_variables q) w h)),
  knows_from v scope q (λ w h. a w (has_right (all_words p) (all_words q) w h)) (λ us h. b us (inr (has_right (all_unions p) (all_unions q) us h))) (λ w h. c w (has_right (all_variables p) (all_variables q) w h)),
)

pub knows_all : (p : Placed) → Knows (declared_by p) (all_variables p) p
knows_all p = knows_from (declared_by p) (all_variables p) p (λ w h. (h, inr h, h, h)) (λ us h. h) (λ w h. h)

pub knows_object : (p : Placed) → KnowsObject (declared_by p)
knows_object p = (inl refl, inl refl)
