-- The lines of a text, read one after another.
use Rattle.std.proofs.Common.{ℕ, suc, zero, ◌≡◌, ◌∙◌, ◌≤◌, true, false, Option, Some, None, List, [], ◌∷◌, ◌++◌, drop, length, option_map, refl, sym, ap, subst, append_assoc, arith}
use Rattle.std.specs.List.{cons_option}
use Rattle.std.proofs.lemmas.List.{append-nil}
use Rattle.hplan_text.specs.declared.draft.Draft.{Draft}
use Rattle.hplan_text.specs.Lines.{Said, Line, Marked, lines_from, some_line, begin_or, end_or, with_line, up_to_end, behind_begin}
use Rattle.hplan_text.specs.Scanning.{words_begin, words_end}
use Rattle.hplan_text.specs.Drafts.{IsDraft, Drafts, FirstAt, between}

drop-all : (n : ℕ) (xs : List ℕ) → length xs ≤ n → drop n xs ≡ []
drop-all zero [] l = refl
drop-all (suc n) [] l = refl
drop-all zero (x ∷ xs) l = absurd (omega arith)
drop-all (suc n) (x ∷ xs) l = drop-all n xs (omega arith)

pub no-lines : (at : ℕ) (text : List ℕ) → length text ≤ at → lines_from at (drop at text) ≡ []
no-lines at text l = ap (lines_from at) (drop-all at text l)

-- a line that begins a plan, or another
pub begins-here : (ws : List Said) (all rest : List Line) → all ≡ cons_option (some_line ws) rest → words_begin ws ≡ true → behind_begin all ≡ up_to_end rest
begins-here [] all rest e t = absurd cc
begins-here (s ∷ ss) all rest e t = ap behind_begin e ∙ ap (λ b. begin_or b (up_to_end rest) (behind_begin rest)) t

pub begins-later : (ws : List Said) (all rest : List Line) → all ≡ cons_option (some_line ws) rest → words_begin ws ≡ false → behind_begin all ≡ behind_begin rest
begins-later [] all rest e t = ap behind_begin e
begins-later (s ∷ ss) all rest e t = ap behind_begin e ∙ ap (λ b. begin_or b (up_to_end rest) (behind_begin rest)) t

abbrev pub with_lines : List Line → Marked → Marked
with_lines ls m = record { lines = ls ++ m.lines; end = m.end }

-- some lines in front of the rest are in the draft
pub record IsDraftedTo (all rest : List Line) (d : Draft) : Type 0 where
  pub lines : List Line
  pub drafted : IsDraft lines d
  pub split : up_to_end all ≡ option_map (with_lines lines) (up_to_end rest)

pub drafted-first : (all : List Line) (d : Draft) → IsDraft [] d → IsDraftedTo all all d
drafted-first all d h = record { lines = []; drafted = h; split = same (up_to_end all) }
  where
    same : (o : Option Marked) → o ≡ option_map (with_lines []) o
    same None = refl
    same (Some m) = refl

joined : (ls : List Line) (l : Line) (o : Option Marked) → option_map (with_lines ls) (option_map (with_line l) o) ≡ option_map (with_lines (ls ++ l ∷ [])) o
joined ls l None = refl
joined ls l (Some m) = ap (λ z. Some (between z m.end)) (sym (append_assoc ls (l ∷ []) m.lines))

pub drafted-next : (ws : List Said) (all rest more : List Line) (d e : Draft) → rest ≡ cons_option (some_line ws) more → words_end ws ≡ false
    → ((ls : List Line) → IsDraft ls d → IsDraft (ls ++ cons_option (some_line ws) []) e) → IsDraftedTo all rest d → IsDraftedTo all more e
drafted-next [] all rest more d e q t f h = record {
  lines = h.lines ++ [];
  drafted = f h.lines h.drafted;
  split = h.split ∙ ap (λ z. option_map (with_lines h.lines) (up_to_end z)) q ∙ ap (λ z. option_map (with_lines z) (up_to_end more)) (sym (append-nil h.lines));
}
drafted-next (s ∷ ss) all rest more d e q t f h =
    let l : Line = record { first = s; more = ss } in
    record {
      lines = h.lines ++ l ∷ [];
      drafted = f h.lines h.drafted;
      split = h.split ∙ ap (λ z. option_map (with_lines h.lines) (up_to_end z)) q ∙ ap (λ b. option_map (with_lines h.lines) (end_or b l (up_to_end more))) t ∙ joined h.lines l (up_to_end more);
    }

pub drafted-end : (ws : List Said) (all rest more : List Line) (d : Draft) (o : Option ℕ) → rest ≡ cons_option (some_line ws) more → words_end ws ≡ true → FirstAt ws o → IsDraftedTo all rest d → Drafts (up_to_end all) d o
drafted-end [] all rest more d o q t f h = absurd cc
drafted-end (s ∷ ss) all rest more d o q t f h =
    let l : Line = record { first = s; more = ss } in
    subst (Drafts (up_to_end all) d) (sym f)
    (h.lines, h.drafted, h.split ∙ ap (λ z. option_map (with_lines h.lines) (up_to_end z)) q ∙ ap (λ b. option_map (with_lines h.lines) (end_or b l (up_to_end more))) t ∙ ap (λ z. Some (between z s.at)) (append-nil h.lines))

pub drafted-never : (all rest : List Line) (d : Draft) → rest ≡ [] → IsDraftedTo all rest d → up_to_end all ≡ None
drafted-never all rest d e h = h.split ∙ ap (λ z. option_map (with_lines h.lines) (up_to_end z)) e
