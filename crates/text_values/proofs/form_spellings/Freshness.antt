-- Words that a list has not declared yet.
use Rattle.std.proofs.Common.{◌≡◌, Bool, true, false, not, if◌then◌else◌, List, [], ◌∷◌, ◌++◌, drop, refl, sym, subst, ◌∙◌}
use Rattle.std.proofs.lemmas.Bool.{and_from, and_parts, or_from, or_parts, or_left, or_right, not_from_false}
use Rattle.std.proofs.lemmas.List.Folds.{list_any-append}
use Rattle.std.specs.List.{list_any}
use Rattle.std.specs.Str.{bytes_eq}
use Rattle.htn_base.specs.Table.{with_word}
use Rattle.htn_base.specs.Words.{is_reserved}
use Rattle.text_forms.specs.Words.{Word, is_among}
use Rattle.htn_base.specs.Different.{AreDifferent}
use Rattle.plan_texts.specs.Types.{EachIs}
use Rattle.plan_texts.proofs.Basics.{bytes_eq-refl, bytes_eq-other}
use Rattle.plan_texts.proofs.Members.{each-lacks, lacks-each}
use Rattle.gd_reader.specs.declared.typed_lists.ListKind.{ListKind}
use Rattle.gd_reader.specs.declared.typed_lists.ListKind.TheVariants.{Parameters, Predicate, Objects, Types}
use Rattle.gd_reader.specs.declared.words.Sort.{Sort}
use Rattle.gd_reader.specs.declared.words.Sort.TheVariants.{Variable, Name, Other}
use Rattle.gd_reader.specs.ListGrammar.{may_declare, declared_name}
use Rattle.gd_reader.specs.TypedLists.{is_parameters}
use Rattle.gd_reader.specs.Words.{sort_of}
use Rattle.text_values.proofs.form_spellings.WordTests.{false_true}

-- the word may declare in a list of this kind, repeats aside
abbrev pub declares : ListKind → Word → Bool
declares kind w = may_declare (sort_of w) kind [] w

-- the word is new where repeats count
abbrev pub Fresh : Bool → List Word → Word → Type 0
Fresh true seen u = is_among u seen ≡ false
Fresh false seen u = Unit {0}

abbrev pub AllFresh : Bool → List Word → List Word → Type 0
AllFresh true seen ws = EachIs (λ u. is_among u seen ≡ false) ws × AreDifferent ws
AllFresh false seen ws = Unit {0}

stays_out : (u w : Word) (seen : List Word) → is_among u seen ≡ false → (w ≡ u → ⊥) → is_among u (with_word seen w) ≡ false
stays_out u w seen h n = go (list_any (bytes_eq w) seen)
  where
    go : (b : Bool) → is_among u (if b then seen else seen ++ w ∷ []) ≡ false
    go true = h
    go false = list_any-append (bytes_eq u) seen (w ∷ []) ∙ or_from _ _ h (or_from (bytes_eq u w) false (bytes_eq-other u w (λ e. n (sym e))) refl)

was_out : (u w : Word) (seen : List Word) → is_among u (with_word seen w) ≡ false → is_among u seen ≡ false
was_out u w seen h = go (list_any (bytes_eq w) seen) h
  where
    go : (b : Bool) → is_among u (if b then seen else seen ++ w ∷ []) ≡ false → is_among u seen ≡ false
    go true h = h
    go false h = (or_parts (is_among u seen) (is_among u (w ∷ [])) (sym (list_any-append (bytes_eq u) seen (w ∷ [])) ∙ h)).0

pub is_in : (w : Word) (seen : List Word) → is_among w (with_word seen w) ≡ true
is_in w seen = go (list_any (bytes_eq w) seen) refl
  where
    go : (b : Bool) → list_any (bytes_eq w) seen ≡ b → is_among w (if b then seen else seen ++ w ∷ []) ≡ true
    go true e = e
    go false e = list_any-append (bytes_eq w) seen (w ∷ []) ∙ or_right _ _ (or_left (bytes_eq w w) false (bytes_eq-refl w))

differs : (u w : Word) (seen : List Word) → is_among u (with_word seen w) ≡ false → w ≡ u → ⊥
differs u w seen h e = let g = is_in w seen in let i = subst (λ u. is_among u (with_word seen w) ≡ false) (sym e) h in false_true (sym i ∙ g)

pub split_fresh : (once : Bool) (seen : List Word) (u : Word) (ws : List Word) → AllFresh once seen (u ∷ ws) → Fresh once seen u × AllFresh once (with_word seen u) ws
split_fresh false seen u ws f = (tt, tt)
split_fresh true seen u ws f = (f.0.0, (go ws f.0.1 (lacks-each ws u f.1.0), f.1.1))
  where
    go : (ws : List Word) → EachIs (λ w. is_among w seen ≡ false) ws → EachIs (λ w. u ≡ w → ⊥) ws → EachIs (λ w. is_among w (with_word seen u) ≡ false) ws
    go [] a d = tt
    go (w ∷ ws) a d = (stays_out w u seen a.0 d.0, go ws a.1 d.1)

pub join_fresh : (once : Bool) (seen : List Word) (u : Word) (ws : List Word) → Fresh once seen u → AllFresh once (with_word seen u) ws → AllFresh once seen (u ∷ ws)
join_fresh false seen u ws g f = tt
join_fresh true seen u ws g f = ((g, out ws f.0), (each-lacks ws u (apart ws f.0), f.1))
  where
    out : (ws : List Word) → EachIs (λ w. is_among w (with_word seen u) ≡ false) ws → EachIs (λ w. is_among w seen ≡ false) ws
    out [] a = tt
    out (w ∷ ws) a = (was_out w u seen a.0, out ws a.1)

    apart : (ws : List Word) → EachIs (λ w. is_among w (with_word seen u) ≡ false) ws → EachIs (λ w. u ≡ w → ⊥) ws
    apart [] a = tt
    apart (w ∷ ws) a = (differs w u seen a.0, apart ws a.1)

pub no_fresh : (once : Bool) (seen : List Word) → AllFresh once seen []
no_fresh true seen = (tt, tt)
no_fresh false seen = tt

pub all_new : (ws : List Word) → AreDifferent ws → AllFresh true [] ws
all_new ws d = (go ws, d)
  where
    go : (ws : List Word) → EachIs (λ w. is_among w [] ≡ false) ws
    go [] = tt
    go (w ∷ ws) = (refl, go ws)

not_is : (b : Bool) → not b ≡ true → b ≡ false
not_is true e = false_true e
not_is false e = refl

pub may_new : (kind : ListKind) (seen : List Word) (w : Word) → declares kind w ≡ true → Fresh (is_parameters kind) seen (declared_name kind w) → may_declare (sort_of w) kind seen w ≡ true
may_new kind seen w = go (sort_of w) kind
  where
    go : (s : Sort) (kind : ListKind) → may_declare s kind [] w ≡ true → Fresh (is_parameters kind) seen (declared_name kind w) → may_declare s kind seen w ≡ true
    go Variable Parameters h f = and_from (not (is_reserved (drop 1 w))) (not (is_among (drop 1 w) seen)) (and_parts _ _ h).0 (not_from_false _ f)
    go Variable Predicate h f = h
    go Variable Objects h f = h
    go Variable Types h f = h
    go Name kind h f = h
    go Other kind h f = h

pub new_may : (kind : ListKind) (seen : List Word) (w : Word) → may_declare (sort_of w) kind seen w ≡ true → (declares kind w ≡ true) × Fresh (is_parameters kind) seen (declared_name kind w)
new_may kind seen w = go (sort_of w) kind
  where
    go : (s : Sort) (kind : ListKind) → may_declare s kind seen w ≡ true → (may_declare s kind [] w ≡ true) × Fresh (is_parameters kind) seen (declared_name kind w)
    go Variable Parameters h = let p = and_parts (not (is_reserved (drop 1 w))) (not (is_among (drop 1 w) seen)) h in (and_from (not (is_reserved (drop 1 w))) true p.0 refl, not_is (is_among (drop 1 w) seen) p.1)
    go Variable Predicate h = (h, tt)
    go Variable Objects h = (h, tt)
    go Variable Types h = (h, tt)
    go Name Parameters h = false_true h
    go Name Predicate h = (h, tt)
    go Name Objects h = (h, tt)
    go Name Types h = (h, tt)
    go Other kind h = false_true h
