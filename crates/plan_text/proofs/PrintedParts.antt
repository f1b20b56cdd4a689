-- The text of a plan, step by step, and of a step, argument by argument.
use Rattle.std.proofs.Common.{ℕ, ◌≡◌, ◌<◌, ◌≤◌, ◌+◌, List, [], ◌∷◌, ◌++◌, length, take, get_or, refl, ap, sym, ◌∙◌, append_assoc}
use Rattle.std.proofs.lemmas.List.{append-nil, take_more, take_all}
use Rattle.text_forms.specs.Printing.{bytes}
use Rattle.text_forms.specs.Words.{Word}
use Rattle.plan_model.specs.declared.steps.GroundAction.{GroundAction}
use Rattle.plan_texts.specs.PlanText.{step_part, plan_text}
use Rattle.plan_text.specs.Printing.{args_text, line_text}
use Rattle.text_forms.specs.sheets.Sheets.{Wrote}
use Rattle.text_forms.specs.declared.sheets.sheet.Sheet.{Sheet}
use Rattle.text_forms.proofs.sheets.Written.{wrote-as, wrote-then}

args-push : (ws : List Word) (w : Word) → args_text (ws ++ w ∷ []) ≡ args_text ws ++ 32 ∷ w
args-push [] w = ap (λ z. 32 ∷ z) (append-nil w)
args-push (v ∷ ws) w = ap (λ z. (32 ∷ v) ++ z) (args-push ws w) ∙ sym (append_assoc (32 ∷ v) (args_text ws) (32 ∷ w))

steps-push : (ss : List GroundAction) (s : GroundAction) → plan_text (ss ++ s ∷ []) ≡ plan_text ss ++ line_text s
steps-push [] s = refl
steps-push (u ∷ ss) s = ap (λ z. bytes (step_part u) ++ 10 ∷ z) (steps-push ss s) ∙ sym (append_assoc (bytes (step_part u)) (10 ∷ plan_text ss) (line_text s))

pub args-next : (ws : List Word) (n : ℕ) (d : Word) {s t u v : Sheet} → n < length ws → Wrote (args_text (take n ws)) s t → Wrote (32 ∷ []) t u → Wrote (get_or ws n d) u v → Wrote (args_text (take (n + 1) ws)) s v
args-next ws n d l w x y =
    wrote-as (sym (ap args_text (take_more ws n d l) ∙ args-push (take n ws) (get_or ws n d))) (wrote-then w (wrote-then x y))

pub args-done : (ws : List Word) (n : ℕ) {s t : Sheet} → length ws ≤ n → Wrote (args_text (take n ws)) s t → Wrote (args_text ws) s t
args-done ws n l w = wrote-as (ap args_text (take_all n ws l)) w

pub steps-next : (ss : List GroundAction) (n : ℕ) (d : GroundAction) {s t u : Sheet} → n < length ss → Wrote (plan_text (take n ss)) s t → Wrote (line_text (get_or ss n d)) t u → Wrote (plan_text (take (n + 1) ss)) s u
steps-next ss n d l w x =
    wrote-as (sym (ap plan_text (take_more ss n d l) ∙ steps-push (take n ss) (get_or ss n d))) (wrote-then w x)

-- a parenthesis, the name, the arguments, and the end of the line
pub line-wrote : (x : GroundAction) {s t u v w : Sheet} → Wrote (40 ∷ []) s t → Wrote x.name t u → Wrote (args_text x.args) u v → Wrote (41 ∷ 10 ∷ []) v w → Wrote (line_text x) s w
line-wrote x a b c d =
    wrote-as (ap (λ z. 40 ∷ z) (ap (λ z. x.name ++ z) (sym (append_assoc (args_text x.args) (41 ∷ []) (10 ∷ []))) ∙ sym (append_assoc x.name (args_text x.args ++ 41 ∷ []) (10 ∷ []))))
    (wrote-then a (wrote-then b (wrote-then c d)))
