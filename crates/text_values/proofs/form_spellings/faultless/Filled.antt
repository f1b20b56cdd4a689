-- No token is the empty word, so the words of an ordering are not.
use Rattle.std.proofs.Common.{ℕ, suc, Bool, ◌≡◌, ◌<◌, ◌-◌, false, List, [], ◌∷◌, map, length, drop, Some, refl, ap, subst, ◌∙◌, arith, length-take, length-drop, inl, inr, None}
use Rattle.std.specs.Prelude.{slice_get, slice_range}
use Rattle.std.proofs.lemmas.List.Elements.{All-contains}
use Rattle.std.proofs.lemmas.Bool.{cases_lt}
use Rattle.std.proofs.lemmas.Option.{slice_get_past}
use Rattle.htn_base.specs.Words.{folded}
use Rattle.std.specs.Char.{to_ascii_lowercase}
use Rattle.text_forms.specs.Bytes.{letter, classes, classes_from, comment_after}
use Rattle.text_forms.specs.LongestRuns.{IsMade, IsMadeBy, IsAt}
use Rattle.text_forms.specs.Tokens.{Kind, start, stop, word, tokens, spells, lexeme_by, lexeme, lexemes}
use Rattle.text_forms.proofs.EachToken.{each_made}
use Rattle.gd_reader.specs.Terms.{Names}
use Rattle.hddl_reader.specs.declared.networks.RawNet.{RawNet}
use Rattle.hddl_reader.specs.declared.networks.RawPair.{RawPair}
use Rattle.plan_texts.specs.Types.{EachIs}
use Rattle.plan_texts.proofs.Members.{contains-has, has-contains, has-of_map}
use Rattle.text_values.specs.form_spellings.EachPart.{OfPair, OfNet}
use Rattle.text_values.specs.form_spellings.Places.{as_written, IsWordAt, OpensWith, IsNameAt}
use Rattle.hddl_reader.specs.names.Words.{term_word}
use Rattle.text_values.proofs.form_spellings.faultless.Networks.{IsPairNamed}
use Rattle.text_values.proofs.form_spellings.faultless.Parts.{each_more}

same_count : (comment : Bool) (text : List ℕ) → length (classes_from comment text) ≡ length text
same_count comment [] = refl
same_count comment (b ∷ text) = ap suc (same_count (comment_after comment b) text)

within : (text : List ℕ) (k : ℕ) → IsAt text k letter → k < length text
within text k at = let n = same_count false text in elim (cases_lt k (length text)) [
  | inl l ↦ l
  | inr l ↦ absurd (let e : slice_get (classes text) k ≡ None = slice_get_past (classes text) k (omega arith) in let f : slice_get (classes text) k ≡ Some letter = at in cc)
]

none_mapped : {X Y : Type 0} (f : X → Y) (xs : List X) → map f xs ≡ [] → length xs ≡ 0
none_mapped f [] e = refl
none_mapped f (x ∷ xs) e = cc

filled : (text : List ℕ) (first behind : ℕ) → first < behind → first < length text → folded (slice_range text first behind) ≡ [] → ⊥
filled text first behind l m e =
    let none : length (slice_range text first behind) ≡ 0 = none_mapped to_ascii_lowercase (slice_range text first behind) e in
    let c = length-take (behind - first) (drop first text) in
    let d = length-drop first text in
    omega (arith, l, m, none, c, d)

by_kind : (text : List ℕ) (kind : Kind) (first behind at : ℕ) → IsMadeBy text first behind kind → lexeme_by kind first (folded (slice_range text first behind)) ≡ spells at [] → ⊥
by_kind text start first behind at m e = cc
by_kind text stop first behind at m e = cc
by_kind text word first behind at m e = filled text first behind m.some (within text first (m.letters first (omega arith) m.some)) (cc)

pub no_empty_word : (text : List ℕ) (at : ℕ) → IsWordAt text at [] → ⊥
no_empty_word text at c =
    let g = has-of_map (lexeme text) (tokens text) (spells at []) (contains-has (lexemes text) (spells at []) c) in
    let t = g.0 in
    by_kind text t.kind t.first t.behind at (All-contains (IsMade text) (tokens text) t (each_made text) (has-contains (tokens text) t g.1)) g.2

module _ (text : List ℕ) (table : Names) where
  pair_named : (x : RawPair) → OfPair (IsNameAt text table) (OpensWith text) x → IsPairNamed table x
  pair_named x o = (
    λ e. no_empty_word text x.first.at (subst (IsWordAt text x.first.at) ((λ i. as_written (o.ids.0 i) (term_word table x.first)) ∙ e) o.first.1),
    λ e. no_empty_word text x.then.at (subst (IsWordAt text x.then.at) ((λ i. as_written (o.ids.1 i) (term_word table x.then)) ∙ e) o.then.1),
  )

  pub pairs_named : (n : RawNet) → OfNet (IsNameAt text table) (OpensWith text) n → EachIs (IsPairNamed table) n.pairs
  pairs_named n o = each_more (OfPair (IsNameAt text table) (OpensWith text)) (IsPairNamed table) n.pairs pair_named o.1
