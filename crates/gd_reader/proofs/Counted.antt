-- How many words are added to a name table.
use Rattle.std.proofs.Common.{◌≡◌, ◌≤◌, List, [], ◌∷◌, ◌++◌, length, All, Contains, arith}
use Rattle.std.proofs.lemmas.List.{length-append, length-map}
use Rattle.std.proofs.lemmas.List.Elements.{All-weaker, All-contains, All-contains_itself, Contains-append_left, Contains-append_right}
use Rattle.std.proofs.lemmas.Map.Made.{length-le_from_is_member, IsDistinct-from_AllPairs}
use Rattle.std.proofs.lemmas.Map.Views.{list_any-from_Contains, Contains-from_any}
use Rattle.std.proofs.lemmas.Slice.Eq.{bytes_eq-Decides}
use Rattle.std.specs.Cmp.Lexicographic.{nat_list_eq_equiv}
use Rattle.htn_base.proofs.DifferentLemmas.{different-places}
use Rattle.text_forms.specs.Tokens.{Lexeme, opens, closes, spells, tokens, token_count, lexeme, lexemes}
use Rattle.gd_reader.specs.Added.{HasAll, AtMostOneForEachToken, bare_words, words_in}

few_words : (ts : List Lexeme) → length (bare_words ts) ≤ length ts
few_words [] = omega arith
few_words (opens at ∷ ts) = let few = few_words ts in omega arith
few_words (closes at ∷ ts) = let few = few_words ts in omega arith
few_words (spells at letters ∷ ts) = let few = few_words ts in omega arith

pub at_most_one : AtMostOneForEachToken
unfolding HasAll words_in
at_most_one text old new differ adds =
    let all = old ++ words_in text in
    let within : All (Contains all) new = adds all
    (All-weaker (Contains (words_in text)) (Contains all) (λ x i. Contains-append_right old (words_in text) x i) (words_in text) (All-contains_itself (words_in text)))
    (All-weaker (Contains old) (Contains all) (λ x i. Contains-append_left old (words_in text) x i) old (All-contains_itself old)) in
    let fits : length new ≤ length all = length-le_from_is_member nat_list_eq_equiv new all (IsDistinct-from_AllPairs bytes_eq-Decides new (different-places new differ))
    (λ q there. list_any-from_Contains nat_list_eq_equiv q all (All-contains (Contains all) new q within (Contains-from_any (λ x y e. (bytes_eq-Decides x y).0 e) q new there))) in
    let both = length-append old (words_in text) in
    let few = few_words (lexemes text) in
    let count : length (lexemes text) ≡ token_count text = length-map (tokens text) (lexeme text) in
    omega (arith, fits, both, few, count)
