-- What a line says, by its words.
use Rattle.std.proofs.Common.{ℕ, suc, ◌≡◌, ◌∙◌, ◌≤◌, ◌&&◌, Bool, true, false, cond, List, [], ◌∷◌, map, take, drop, length, refl, sym, ap, ap₂, get_or, ◌-◌, ◌<◌, arith}
use Rattle.std.specs.List.{list_all}
use Rattle.std.proofs.lemmas.List.{take_all}
use Rattle.hplan_text.specs.declared.lines.Word.{Word}
use Rattle.hplan_text.specs.declared.mention.Mention.{Mention}
use Rattle.hplan_text.specs.Lines.{Said}
use Rattle.hplan_text.specs.Rows.{bad, top, primitive, decomposed, is_name, is_arrow, are_ids, mention, Named, with_name, named, top_row, node_row, task_row, row_by, is_root, is_id, row}
use Rattle.hplan_text.specs.Scanning.{as_said, as_line, are_node_words, is_id_word, lower, names_of, mentions_of, lead}

pub ids-said : (ws : List Word) → are_ids (map as_said ws) ≡ list_all is_id_word ws
ids-said [] = refl
ids-said (w ∷ ws) = ap (λ z. is_id_word w && z) (ids-said ws)

abbrev cut : ℕ → List Word → Named
cut n ws = record { names = names_of (take n ws); behind = map as_said (drop n ws) }

pub named-said : (ws : List Word) → named (map as_said ws) ≡ cut (lead ws) ws
named-said [] = refl
named-said (w ∷ ws) = by (is_name w.bytes.now) (named-said ws)
  where
    by : (t : Bool) → named (map as_said ws) ≡ cut (lead ws) ws → with_name t (as_said w) (map as_said ws) (named (map as_said ws)) ≡ cut (cond t (suc (lead ws)) 0) (w ∷ ws)
    by true e = ap (with_name true (as_said w) (map as_said ws)) e
    by false e = refl

-- a root line
pub root-row : (w : Word) (ws : List Word) → is_root w.bytes.now ≡ true → list_all is_id_word ws ≡ true → row (as_line w ws) ≡ top (mentions_of ws)
root-row w ws e f = ap (λ t. row_by t (is_id w.bytes.now) (as_line w ws)) e ∙ ap (λ t. top_row t (map as_said ws)) (ids-said ws ∙ f)

pub bad-root : (w : Word) (ws : List Word) → is_root w.bytes.now ≡ true → list_all is_id_word ws ≡ false → row (as_line w ws) ≡ bad
bad-root w ws e f = ap (λ t. row_by t (is_id w.bytes.now) (as_line w ws)) e ∙ ap (λ t. top_row t (map as_said ws)) (ids-said ws ∙ f)

-- neither a root line nor a task
pub no-id-row : (w : Word) (ws : List Word) → is_root w.bytes.now ≡ false → is_id w.bytes.now ≡ false → row (as_line w ws) ≡ bad
no-id-row w ws e f = ap₂ (λ t u. row_by t u (as_line w ws)) e f

-- a task
pub task-is : (w : Word) (ws : List Word) (n : ℕ) → is_root w.bytes.now ≡ false → is_id w.bytes.now ≡ true → n ≡ lead ws
    → row (as_line w ws) ≡ task_row (mention (as_said w)) (names_of (take n ws)) (map as_said (drop n ws))
task-is w ws n e f l =
    ap₂ (λ t u. row_by t u (as_line w ws)) e f ∙ ap (λ (x : Named). task_row (mention (as_said w)) x.names x.behind) (named-said ws)
    ∙ ap (λ k. task_row (mention (as_said w)) (names_of (take k ws)) (map as_said (drop k ws))) (sym l)

module _ (m : Mention) where
  pub no-names : (names : List Word) (behind : List Said) → length names ≡ 0 → task_row m (names_of names) behind ≡ bad
  no-names [] behind e = refl
  no-names (w ∷ ws) behind e = absurd (omega arith)

  -- some names
  pub some-names : (names : List Word) → (length names ≡ 0 → ⊥) → (name : List ℕ) × (args : List (List ℕ)) × (names_of names ≡ name ∷ args)
  some-names [] e = absurd (e refl)
  some-names (w ∷ ws) e = (lower w, names_of ws, refl)

  pub primitive-is : (names behind : List Word) (name : List ℕ) (args : List (List ℕ)) → length behind < 1 → names_of names ≡ name ∷ args → task_row m (names_of names) (map as_said behind) ≡ primitive m name args
  primitive-is names [] name args l e = ap (λ ns. task_row m ns []) e
  primitive-is names (w ∷ ws) name args l e = absurd (omega arith)

  node-is : (names : List Word) (name : List ℕ) (args : List (List ℕ)) (arrow method : Word) (ids : List Word) (t : Bool) → names_of names ≡ name ∷ args → are_node_words arrow method ids ≡ t
      → task_row m (names_of names) (map as_said (arrow ∷ method ∷ ids)) ≡ node_row t m name args (as_said method) (map as_said ids)
  node-is names name args arrow method ids t e f =
      ap (λ ns. task_row m ns (map as_said (arrow ∷ method ∷ ids))) e
      ∙ ap (λ t. node_row t m name args (as_said method) (map as_said ids)) (ap (λ z. is_arrow arrow.bytes.now && (is_name method.bytes.now && z)) (ids-said ids) ∙ f)

  -- the words behind the first two
  abbrev pub third : List Word → List Word
  third behind = take (length behind - 2) (drop 2 behind)

  all-third : (a b : Word) (ids : List Word) → third (a ∷ b ∷ ids) ≡ ids
  all-third a b ids = let l : length ids ≤ length (a ∷ b ∷ ids) - 2 = omega arith in take_all (length (a ∷ b ∷ ids) - 2) ids l

  ids-true : (a b : Bool) (c : Bool) → (a && (b && c)) ≡ true → c ≡ true
  ids-true true true c e = e
  ids-true true false c e = absurd cc
  ids-true false b c e = absurd cc

  pub node-ids : (arrow method : Word) (ids : List Word) → are_node_words arrow method ids ≡ true → list_all is_id_word ids ≡ true
  node-ids arrow method ids e = ids-true (is_arrow arrow.bytes.now) (is_name method.bytes.now) (list_all is_id_word ids) e

  pub node-found : (names behind : List Word) (name : List ℕ) (args : List (List ℕ)) (d e : Word) → 2 ≤ length behind → names_of names ≡ name ∷ args → are_node_words (get_or behind 0 d) (get_or behind 1 e) (third behind) ≡ true
      → task_row m (names_of names) (map as_said behind) ≡ decomposed m name args (lower (get_or behind 1 e)) (mentions_of (third behind))
  node-found names [] name args d e l n f = absurd (omega arith)
  node-found names (a ∷ []) name args d e l n f = absurd (omega arith)
  node-found names (a ∷ b ∷ ids) name args d e l n f =
      let s = all-third a b ids in
      node-is names name args a b ids true n (ap (are_node_words a b) (sym s) ∙ f) ∙ ap (λ z. decomposed m name args (lower b) (mentions_of z)) (sym s)

  pub no-node : (names behind : List Word) (name : List ℕ) (args : List (List ℕ)) (d e : Word) → 2 ≤ length behind → names_of names ≡ name ∷ args → are_node_words (get_or behind 0 d) (get_or behind 1 e) (third behind) ≡ false
      → task_row m (names_of names) (map as_said behind) ≡ bad
  no-node names [] name args d e l n f = absurd (omega arith)
  no-node names (a ∷ []) name args d e l n f = absurd (omega arith)
  no-node names (a ∷ b ∷ ids) name args d e l n f = node-is names name args a b ids false n (ap (are_node_words a b) (sym (all-third a b ids)) ∙ f)
