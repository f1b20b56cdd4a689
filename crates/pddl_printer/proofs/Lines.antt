-- Lines of a page, and the page.
use Rattle.std.proofs.Common.{ℕ, ◌≡◌, List, [], ◌∷◌, ◌++◌, codes, ap, sym, ◌∙◌, append_assoc}
use Rattle.std.proofs.lemmas.List.{append-nil}
use Rattle.text_forms.specs.Lists.{Parts, name, nothing, part}
use Rattle.text_forms.specs.Words.{Word}
use Rattle.text_forms.specs.Printing.{bytes_behind, lines, headed, page}
use Rattle.text_forms.specs.sheets.Sheets.{Wrote}
use Rattle.text_forms.specs.declared.sheets.sheet.Sheet.{Sheet}
use Rattle.text_forms.proofs.sheets.Written.{wrote-as, wrote-then}

lines-headed : (k b l : List ℕ) → (32 ∷ 40 ∷ k) ++ (b ++ (41 ∷ 10 ∷ l)) ≡ 32 ∷ ((40 ∷ (k ++ (b ++ 41 ∷ []))) ++ (10 ∷ l))
lines-headed k b l = simp append_assoc

pub wrote-line : (k : Word) (ps qs : Parts) {s t u v w : Sheet} → Wrote (32 ∷ 40 ∷ k) s t → Wrote (bytes_behind ps) t u → Wrote (41 ∷ 10 ∷ []) u v → Wrote (lines qs) v w → Wrote (lines (part (headed k ps) qs)) s w
wrote-line k ps qs a b c d = wrote-as (lines-headed k (bytes_behind ps) (lines qs)) (wrote-then a (wrote-then b (wrote-then c d)))

named-headed : (k w l : List ℕ) → (32 ∷ 40 ∷ (k ++ 32 ∷ [])) ++ (w ++ (41 ∷ 10 ∷ l)) ≡ 32 ∷ ((40 ∷ (k ++ ((32 ∷ (w ++ [])) ++ 41 ∷ []))) ++ (10 ∷ l))
named-headed k w l =
    let e : (32 ∷ 40 ∷ (k ++ 32 ∷ [])) ++ (w ++ (41 ∷ 10 ∷ l)) ≡ 32 ∷ ((40 ∷ (k ++ ((32 ∷ w) ++ 41 ∷ []))) ++ (10 ∷ l)) = simp append_assoc in
    e ∙ ap (λ z. 32 ∷ ((40 ∷ (k ++ ((32 ∷ z) ++ 41 ∷ []))) ++ (10 ∷ l))) (sym (append-nil w))

pub wrote-named-line : (k w : Word) (qs : Parts) {s t u v x : Sheet} → Wrote (32 ∷ 40 ∷ (k ++ 32 ∷ [])) s t → Wrote w t u → Wrote (41 ∷ 10 ∷ []) u v → Wrote (lines qs) v x → Wrote (lines (part (headed k (part (name w) nothing)) qs)) s x
wrote-named-line k w qs a b c d = wrote-as (named-headed k w (lines qs)) (wrote-then a (wrote-then b (wrote-then c d)))

-- the line of a list that begins with two words
pub named-line : (k n b : List ℕ) → (32 ∷ 40 ∷ (k ++ 32 ∷ [])) ++ (n ++ (b ++ (41 ∷ 10 ∷ []))) ≡ (32 ∷ (40 ∷ (k ++ ((32 ∷ (n ++ b)) ++ 41 ∷ [])))) ++ 10 ∷ []
named-line k n b =
    let e : (32 ∷ 40 ∷ (k ++ 32 ∷ [])) ++ (n ++ (b ++ (41 ∷ 10 ∷ []))) ≡ (32 ∷ (40 ∷ (k ++ (32 ∷ (n ++ (b ++ 41 ∷ [])))))) ++ 10 ∷ [] = simp append_assoc in
    e ∙ ap (λ z. (32 ∷ (40 ∷ (k ++ (32 ∷ z)))) ++ 10 ∷ []) (sym (append_assoc n b (41 ∷ [])))

pub page-is : (d k w l z : List ℕ) → (d ++ (40 ∷ (k ++ 32 ∷ []))) ++ (w ++ ((41 ∷ 10 ∷ []) ++ (l ++ z))) ≡ d ++ ((40 ∷ (k ++ ((32 ∷ (w ++ [])) ++ 41 ∷ []))) ++ (10 ∷ (l ++ z)))
page-is d k w l z =
    let e : (d ++ (40 ∷ (k ++ 32 ∷ []))) ++ (w ++ ((41 ∷ 10 ∷ []) ++ (l ++ z))) ≡ d ++ ((40 ∷ (k ++ ((32 ∷ w) ++ 41 ∷ []))) ++ (10 ∷ (l ++ z))) = simp append_assoc in
    e ∙ ap (λ u. d ++ ((40 ∷ (k ++ ((32 ∷ u) ++ 41 ∷ []))) ++ (10 ∷ (l ++ z)))) (sym (append-nil w))

pub wrote-page : (k w : Word) (ps : Parts) {s t u v x y : Sheet} → Wrote (codes "(define " ++ (40 ∷ (k ++ 32 ∷ []))) s t → Wrote w t u → Wrote (41 ∷ 10 ∷ []) u v → Wrote (lines ps) v x → Wrote (41 ∷ 10 ∷ []) x y → Wrote (page k w ps) s y
wrote-page k w ps a b c d e = wrote-as (page-is (codes "(define ") k w (lines ps) (codes ")\n")) (wrote-then a (wrote-then b (wrote-then c (wrote-then d e))))
