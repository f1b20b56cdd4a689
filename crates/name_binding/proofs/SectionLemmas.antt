-- One more word of a section of types.
use Rattle.std.proofs.Common.{◌≡◌, ℕ, ◌+◌, ◌<◌, List, [], ◌∷◌, ◌++◌, Bool, true, false, cond, not, ◌||◌, nat_eq, take, length, get_or, refl, ap, ◌∙◌, sym, append-nil}
use Rattle.std.specs.Prelude.{is_some}
use Rattle.std.specs.Option.{is_none}
use Rattle.std.proofs.lemmas.List.{append_assoc}
use Rattle.name_binding.specs.Places.{first_place}
use Rattle.gd_reader.specs.declared.term.RawTerm.{RawTerm}
use Rattle.gd_reader.specs.declared.typed_lists.RawParam.{RawParam}
use Rattle.name_binding.specs.Seen.{is_among, first_seen}
use Rattle.name_binding.specs.Mentions.{own_word, mentioned, numbers_of, types_in_order}
use Rattle.name_binding.proofs.SeenLemmas.{first_seen-push, is_some-first_place}
use Rattle.name_binding.proofs.StepLemmas.{map-push, take-read}

pub mentioned-push : (xs : List RawParam) (x : RawParam) → mentioned (xs ++ x ∷ []) ≡ mentioned xs ++ own_word x ∷ [] ++ x.ty
mentioned-push [] x = ap (λ ws. own_word x ∷ ws) (append-nil x.ty)
mentioned-push (y ∷ xs) x =
    ap (λ ws. own_word y ∷ (y.ty ++ ws)) (mentioned-push xs x)
    ∙ ap (λ ws. own_word y ∷ ws) (sym (append_assoc y.ty (mentioned xs ++ own_word x ∷ []) x.ty) ∙ ap (λ ws. ws ++ x.ty) (sym (append_assoc y.ty (mentioned xs) (own_word x ∷ []))))

types_in_order-push-cases : (object n : ℕ) (same known : Bool) (ns : List ℕ)
    → object ∷ cond ((same || false) || known) ns (ns ++ n ∷ []) ≡ cond (same || known) (object ∷ ns) (object ∷ (ns ++ n ∷ []))
types_in_order-push-cases object n true known ns = refl
types_in_order-push-cases object n false true ns = refl
types_in_order-push-cases object n false false ns = refl

pub types_in_order-push : (object : ℕ) (words : List RawTerm) (w : RawTerm)
    → types_in_order object (words ++ w ∷ [])
    ≡ cond (is_among w.name.number (types_in_order object words)) (types_in_order object words) (types_in_order object words ++ w.name.number ∷ [])
types_in_order-push object words w =
    ap (λ ns. object ∷ first_seen (object ∷ []) ns) (map-push (λ (v : RawTerm). v.name.number) words w)
    ∙ ap (λ ns. object ∷ ns) (first_seen-push (object ∷ []) (numbers_of words) w.name.number)
    ∙ types_in_order-push-cases object w.name.number (nat_eq w.name.number object) (is_among w.name.number (first_seen (object ∷ []) (numbers_of words))) (first_seen (object ∷ []) (numbers_of words))

turned : {X : Type 0} (b : Bool) (x y : X) → cond (not b) x y ≡ cond b y x
turned true x y = refl
turned false x y = refl

-- a word goes last among the types where it has no place there
pub types_in_order-next : (object : ℕ) (words : List RawTerm) (i : ℕ) (d : RawTerm) (types next : List ℕ) (none : Bool)
    → i < length words → types ≡ types_in_order object (take i words)
    → is_none (first_place (get_or words i d).name.number types) ≡ none → next ≡ cond none (types ++ (get_or words i d).name.number ∷ []) types
    → next ≡ types_in_order object (take (i + 1) words)
types_in_order-next object words i d types next none below before place is =
    let n = (get_or words i d).name.number in
    let there : is_some (first_place n types) ≡ is_among n types = is_some-first_place n types in
    is
    ∙ ap (λ b. cond b (types ++ n ∷ []) types) (sym place)
    ∙ turned (is_some (first_place n types)) (types ++ n ∷ []) types
    ∙ ap (λ known. cond known types (types ++ n ∷ [])) there
    ∙ ap (λ ts. cond (is_among n ts) ts (ts ++ n ∷ [])) before
    ∙ sym (types_in_order-push object (take i words) (get_or words i d))
    ∙ ap (types_in_order object) (sym (take-read words i d (get_or words i d) below refl))
