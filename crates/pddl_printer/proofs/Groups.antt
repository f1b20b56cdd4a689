-- A list that is put on a sheet behind a space: what opens it, its parts, and what closes it.
use Rattle.std.proofs.Common.{ℕ, ◌≡◌, List, [], ◌∷◌, ◌++◌, refl, ap, sym, ◌∙◌, append_assoc}
use Rattle.std.proofs.lemmas.List.{append-nil}
use Rattle.text_forms.specs.Lists.{Part, Parts, group, nothing, part}
use Rattle.text_forms.specs.Words.{Word}
use Rattle.text_forms.specs.Printing.{bytes, bytes_behind, headed}
use Rattle.pddl_printer.specs.Behind.{behind, between}
use Rattle.text_forms.specs.sheets.Sheets.{Wrote}
use Rattle.text_forms.specs.declared.sheets.sheet.Sheet.{Sheet}
use Rattle.text_forms.proofs.sheets.Written.{wrote-as, wrote-then}

-- the bytes of equal values
pub wrote-at : {X : Type 0} (f : X → List ℕ) {x y : X} {s t : Sheet} → x ≡ y → Wrote (f x) s t → Wrote (f y) s t
wrote-at f e w = wrote-as (ap f e) w

pub wrote-one : (p : Part) {s t : Sheet} → Wrote (behind p) s t → Wrote (bytes_behind (part p nothing)) s t
wrote-one p v = wrote-as (ap (λ z. 32 ∷ z) (sym (append-nil (bytes p)))) v

pub wrote-headed : (k : Word) (ps : Parts) {s t u v : Sheet} → Wrote (32 ∷ 40 ∷ k) s t → Wrote (bytes_behind ps) t u → Wrote (41 ∷ []) u v → Wrote (behind (headed k ps)) s v
wrote-headed k ps a b c = wrote-as (append_assoc (32 ∷ 40 ∷ k) (bytes_behind ps) (41 ∷ [])) (wrote-then (wrote-then a b) c)

pub closed : (ps : Parts) → (32 ∷ 40 ∷ []) ++ (between ps ++ 41 ∷ []) ≡ behind (group ps)
closed nothing = refl
closed (part p ps) = ap (λ z. 32 ∷ 40 ∷ z) (append_assoc (bytes p) (bytes_behind ps) (41 ∷ []))

-- what is said of a quantifier is a list that begins with its word
pub quantified-is : (k : Word) (g q : Part) → (32 ∷ 40 ∷ k) ++ (behind g ++ (behind q ++ 41 ∷ [])) ≡ behind (headed k (part g (part q nothing)))
quantified-is k g q = ap (λ z. (32 ∷ 40 ∷ k) ++ z) (sym (append_assoc (behind g) (behind q) (41 ∷ [])) ∙ ap (λ z. (behind g ++ z) ++ 41 ∷ []) (sym (append-nil (behind q))))
