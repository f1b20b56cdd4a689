-- The value of two texts has at most as many unions as the texts have bytes.
use Rattle.std.proofs.Common.{ℕ, suc, ◌≡◌, ◌≤◌, ◌+◌, Bool, true, false, cond, List, [], ◌∷◌, ◌++◌, map, length, ap, length-append, arith}
use Rattle.std.specs.Prelude.{codes}
use Rattle.std.specs.List.{list_any}
use Rattle.std.specs.Str.{bytes_eq}
use Rattle.std.specs.Cmp.Lexicographic.{pointwise}
use Rattle.std.proofs.lemmas.List.{length-map}
use Rattle.text_forms.specs.Lists.{Part, Parts, name, group, nothing, part, written, written_all}
use Rattle.text_forms.specs.Printing.{headed, definition}
use Rattle.text_forms.specs.Tokens.{right, symbol, symbols, lexeme, lexemes, tokens}
use Rattle.text_forms.specs.Words.{Word, is_among}
use Rattle.text_forms.proofs.Lists.{few_tokens}
use Rattle.plan_texts.specs.Declared.{named, type_words, union_words}
use Rattle.plan_texts.specs.Domains.{AreDefinitions}
use Rattle.plan_texts.specs.FirstSeen.{union_of, without_types, unions_in, unions_in_all, first_unions, unions_in_order}
use Rattle.plan_model.specs.declared.types.Types.{Types}
use Rattle.plan_texts.specs.TypedLists.{first_seen, words_in}
use Rattle.text_forms.specs.Words.{word_at}
use Rattle.text_values.specs.form_spellings.binding_laws.SoundValues.{HasFewUnions}

one_union : (ws : List Word) → length (union_of ws) ≤ 1
one_union [] = omega arith
one_union (w ∷ []) = omega arith
one_union (w ∷ u ∷ ws) = omega arith

-- behind `either`, behind a word that has no types behind it, and behind any other
either_few : (w : Word) (ps : Parts) (is other : Bool) → length (unions_in_all ps) ≤ length (written_all ps)
    → length (cond is (union_of (first_seen [] (words_in ps))) (cond other [] (unions_in_all ps))) ≤ length (written_all ps) + 1
either_few w ps true other l = let c = one_union (first_seen [] (words_in ps)) in omega arith
either_few w ps false true l = omega arith
either_few w ps false false l = omega arith

mutual
  part_few : (p : Part) → length (unions_in p) ≤ length (written p)
  part_few (name w) = omega arith
  part_few (group nothing) = omega arith
  part_few (group (part (group qs) ps)) =
      let a = part_few (group qs) in
      let b = parts_few ps in
      let e = length-append (unions_in (group qs)) (unions_in_all ps) in
      let f = length-append (written (group qs) ++ written_all ps) (right ∷ []) in
      let g = length-append (written (group qs)) (written_all ps) in
      omega arith
  part_few (group (part (name w) ps)) =
      let b = parts_few ps in
      let f = length-append (written (name w) ++ written_all ps) (right ∷ []) in
      let g = length-append (written (name w)) (written_all ps) in
      let l = either_few w ps (bytes_eq (codes "either") w) (is_among w without_types) b in
      omega arith

  parts_few : (ps : Parts) → length (unions_in_all ps) ≤ length (written_all ps)
  parts_few nothing = omega arith
  parts_few (part p ps) =
      let a = part_few p in
      let b = parts_few ps in
      let e = length-append (unions_in p) (unions_in_all ps) in
      let f = length-append (written p) (written_all ps) in
      omega arith

first_few : (seen us : List (List Word)) → length (first_unions seen us) ≤ length us
first_few seen [] = omega arith
first_few seen (u ∷ us) = go (list_any (pointwise bytes_eq u) seen) (first_few seen us) (first_few (u ∷ seen) us)
  where
    go : (b : Bool) → length (first_unions seen us) ≤ length us → length (first_unions (u ∷ seen) us) ≤ length us → length (cond b (first_unions seen us) (u ∷ first_unions (u ∷ seen) us)) ≤ suc (length us)
    go true old new = omega arith
    go false old new = omega arith

symbols_few : (text : List ℕ) → length (symbols text) ≤ length text
symbols_few text =
    let a = length-map (lexemes text) symbol in
    let b = length-map (tokens text) (lexeme text) in
    let c = few_tokens text in
    omega arith

sections_few : (kind w : Word) (text : List ℕ) (sections : Parts) → symbols text ≡ written (definition kind w sections) → length (unions_in_all sections) ≤ length text
sections_few kind w text sections is =
    let a = parts_few sections in
    let b = symbols_few text in
    let e = ap length is in
    let f = length-append (written (name (codes "define")) ++ (written (headed kind (part (name w) nothing)) ++ written_all sections)) (right ∷ []) in
    let g = length-append (written (headed kind (part (name w) nothing))) (written_all sections) in
    omega arith

-- the unions of both texts, each once
pub few_unions : (domain problem : List ℕ) (w u : Word) (texts : AreDefinitions domain problem w u) (names : List Word) (t : Types) → union_words names t ≡ unions_in_order texts.domain_sections texts.problem_sections
    → length t.unions ≤ length domain + length problem
few_unions domain problem w u texts names t same =
    let a = sections_few (codes "domain") w domain texts.domain_sections texts.domain_is in
    let b = sections_few (codes "problem") u problem texts.problem_sections texts.problem_is in
    let c = first_few [] (unions_in_all texts.domain_sections ++ unions_in_all texts.problem_sections) in
    let d = length-append (unions_in_all texts.domain_sections) (unions_in_all texts.problem_sections) in
    let e = ap length same in
    let f = length-map t.unions (map (word_at (type_words names t))) in
    omega arith

pub has_few_unions : HasFewUnions
has_few_unions domain problem h is = few_unions domain problem (named h.names h.domain) (named h.names h.problem) is.spelled.texts h.names h.types is.ordered.unions
