-- Types, unions and lists of variables.
use Rattle.std.proofs.Common.{Bool, true, false, if◌then◌else◌, inl, inr, ℕ, zero, suc, ◌≡◌, ◌<◌, ◌≤◌, ◌-◌, nat_lt, List, [], ◌∷◌, ◌++◌, Option, Some, None, map, length, codes, get_or, slice_get, refl, ap, sym, ◌∙◌, arith}
use Rattle.std.proofs.lemmas.Bool.{cases_lt, ltb-false, le-ltb}
use Rattle.std.proofs.lemmas.List.{length-map}
use Rattle.text_forms.specs.Lists.{name}
use Rattle.text_forms.specs.Words.{Word, word_at}
use Rattle.text_forms.specs.Printing.{bytes, bytes_behind}
use Rattle.plan_texts.specs.Declared.{named, one_word, kind_at}
use Rattle.plan_texts.specs.SpellsPddl.{pddl_types, pddl_words}
use Rattle.plan_texts.specs.Printed.{all_parts, kind_part}
use Rattle.plan_model.specs.Typing.{union_at}
use Rattle.plan_model.specs.declared.values.Pddl.{Pddl}

-- a union of two types or more
pub either-bytes : (ws : List Word) → 2 ≤ length ws → (40 ∷ codes "either") ++ (bytes_behind (all_parts (map name ws)) ++ 41 ∷ []) ≡ bytes (kind_part ws)
either-bytes [] l = absurd (omega arith)
either-bytes (w ∷ []) l = absurd (omega arith)
either-bytes (w ∷ u ∷ ws) l = refl

-- types stand first, and unions behind them
union-word : (us : List (List Word)) (ws : List Word) (t : ℕ) → length ws ≤ t → get_or (map one_word ws ++ us) t [] ≡ get_or us (t - length ws) []
union-word us [] t l = ap (λ k. get_or us k []) (omega arith)
union-word us (w ∷ ws) zero l = absurd (omega arith)
union-word us (w ∷ ws) (suc t) l = union-word us ws t (omega arith) ∙ ap (λ k. get_or us k []) (omega arith)

type-word : (us : List (List Word)) (ws : List Word) (t : ℕ) → t < length ws → bytes (kind_part (get_or (map one_word ws ++ us) t [])) ≡ word_at ws t
type-word us [] t l = absurd (omega arith)
type-word us (w ∷ ws) zero l = refl
type-word us (w ∷ ws) (suc t) l = type-word us ws t (omega arith)

past : (ws : List Word) (t : ℕ) → length ws ≤ t → word_at ws t ≡ []
past [] t l = refl
past (w ∷ ws) zero l = absurd (omega arith)
past (w ∷ ws) (suc t) l = past ws t (omega arith)

none-of : {X : Type 0} (us : List X) (k : ℕ) → slice_get us k ≡ None → (f : X → List Word) → get_or (map f us) k [] ≡ []
none-of [] k e f = refl
none-of (u ∷ us) zero e f = absurd (cc)
none-of (u ∷ us) (suc k) e f = none-of us k e f

some-of : {X : Type 0} (us : List X) (k : ℕ) (x : X) → slice_get us k ≡ Some x → (f : X → List Word) → get_or (map f us) k [] ≡ f x
some-of [] k x e f = absurd (cc)
some-of (u ∷ us) zero x e f = let g : u ≡ x = cc in ap f g
some-of (u ∷ us) (suc k) x e f = some-of us k x e f

union-there : {X : Type 0} (b : Bool) (o : Option X) (x : X) → Some x ≡ (if b then None else o) → (b ≡ false) × (o ≡ Some x)
union-there true o x e = absurd (cc)
union-there false o x e = (refl, sym e)

union-missing : {X : Type 0} (b : Bool) (o : Option X) → b ≡ false → None ≡ (if b then None else o) → o ≡ None
union-missing true o f e = absurd (cc)
union-missing false o f e = sym e

module _ (p : Pddl) (t : ℕ) where
  words-long : length (pddl_types p) ≡ length p.types.names
  words-long = length-map p.types.names (named p.names)

  abbrev unions : List (List Word)
  unions = map (map (word_at (pddl_types p))) p.types.unions

  pub kind-union : (ms : List ℕ) → Some ms ≡ union_at p.types t → kind_at (pddl_words p) t ≡ map (word_at (pddl_types p)) ms
  kind-union ms e =
      let s = union-there (nat_lt t (length p.types.names)) (slice_get p.types.unions (t - length p.types.names)) ms e in
      let l : length (pddl_types p) ≤ t = let g = ltb-false t (length p.types.names) s.0 in let h = words-long in omega arith in
      union-word unions (pddl_types p) t l ∙ ap (λ k. get_or unions (t - k) []) words-long ∙ some-of p.types.unions (t - length p.types.names) ms s.1 (map (word_at (pddl_types p)))

  pub kind-none : None ≡ union_at p.types t → bytes (kind_part (kind_at (pddl_words p) t)) ≡ word_at (pddl_types p) t
  kind-none e = elim (cases_lt t (length (pddl_types p))) [
    | inl l ↦ type-word unions (pddl_types p) t l
    | inr l ↦
        let b : nat_lt t (length p.types.names) ≡ false = le-ltb t (length p.types.names) (let h = words-long in omega arith) in
        let n = union-missing (nat_lt t (length p.types.names)) (slice_get p.types.unions (t - length p.types.names)) b e in
        ap (λ ws. bytes (kind_part ws)) (union-word unions (pddl_types p) t l ∙ ap (λ k. get_or unions (t - k) []) words-long ∙ none-of p.types.unions (t - length p.types.names) n (map (word_at (pddl_types p)))) ∙ sym (past (pddl_types p) t l)
  ]

  -- the types of a union are printed as those of its number
  pub union-bytes : (types ms : List ℕ) → types ≡ ms → Some ms ≡ union_at p.types t → bytes (kind_part (map (word_at (pddl_types p)) types)) ≡ bytes (kind_part (kind_at (pddl_words p) t))
  union-bytes types ms e u = ap (λ ts. bytes (kind_part (map (word_at (pddl_types p)) ts))) e ∙ sym (ap (λ ws. bytes (kind_part ws)) (kind-union ms u))

-- a union of one type and of none
pub one-type : (p : Pddl) (types : List ℕ) (d : ℕ) → length types ≡ 1 → word_at (pddl_types p) (get_or types 0 d) ≡ bytes (kind_part (map (word_at (pddl_types p)) types))
one-type p [] d l = absurd (omega arith)
one-type p (t ∷ []) d l = refl
one-type p (t ∷ u ∷ types) d l = absurd (omega arith)

pub no-type : (p : Pddl) (types : List ℕ) → length types ≡ 0 → [] ≡ bytes (kind_part (map (word_at (pddl_types p)) types))
no-type p [] l = refl
no-type p (t ∷ types) l = absurd (omega arith)
