-- Words keep their places.
use Rattle.std.proofs.Common.{◌≡◌, ℕ, ◌≤◌, ◌+◌, nat_eq, Bool, true, false, if◌then◌else◌, Some, List, [], ◌∷◌, ◌++◌, take, length, refl, sym, ◌∙◌, ap, arith, length-take, take_at}
use Rattle.std.proofs.lemmas.List.{take_all, take-take, length-append}
use Rattle.std.specs.List.{list_any}
use Rattle.std.specs.Str.{bytes_eq}
use Rattle.htn_base.specs.declared.name.Name.{Name as Numbered}
use Rattle.htn_base.specs.Table.{number_of, with_word}
use Rattle.text_forms.specs.Words.{is_among}
use Rattle.gd_reader.specs.Terms.{Names, Keeps, found, name_in}

pub keeps_same : (a : Names) → Keeps a a
keeps_same a = take_all (length a) a (omega arith)

pub keeps_then : (a b c : Names) → Keeps a b → Keeps b c → Keeps a c
keeps_then a b c e d =
    let few : length a ≤ length b = omega (arith, length-take (length a) b, ap length e) in
    sym (take-take (length a) (length b) c few) ∙ ap (take (length a)) d ∙ e

pub keeps_word : (a : Names) (w : List ℕ) → Keeps a (with_word a w)
keeps_word a w = by_test (list_any (bytes_eq w) a)
  where
    by_test : (b : Bool) → Keeps a (if b then a else a ++ w ∷ [])
    by_test true = keeps_same a
    by_test false = take_at a (w ∷ []) (length a) refl

-- the name that a table gives to a word
pub name_found : (a now : Names) (w : List ℕ) (n : Numbered) → now ≡ with_word a w → number_of now w ≡ Some n.number → n ≡ name_in a w
name_found a now w n t e = λ i. record { number = ap found (sym e ∙ ap (λ t. number_of t w) t) i }

-- a table grows where the word is new
pub among_test : (a : Names) (w : List ℕ) → nat_eq (length (with_word a w)) (length a) ≡ is_among w a
among_test a w = by_test (list_any (bytes_eq w) a)
  where
    same : (n : ℕ) → nat_eq n n ≡ true
    same n = search arith

    more : (n m : ℕ) → m ≡ n + 1 → nat_eq m n ≡ false
    more n m e = search arith

    by_test : (b : Bool) → nat_eq (length (if b then a else a ++ w ∷ [])) (length a) ≡ b
    by_test true = same (length a)
    by_test false = more (length a) (length (a ++ w ∷ [])) (length-append a (w ∷ []))
