-- Whether a text has a fault depends on how many lists are open, and not on where they begin.
use Rattle.std.proofs.Common.{◌≡◌, ℕ, ◌+◌, length, List, [], ◌∷◌, Option, Some, None, refl, sym, ap, ◌∙◌, subst, arith, ap₂, ◌<◌, ◌≤◌, Bool, drop, get_or}
use Rattle.std.proofs.lemmas.List.{at_drop_more, at_drop_all}
use Rattle.std.specs.Prelude.{IsSome}
use Rattle.text_forms.specs.Bytes.{Class, classes_from, class_in, comment_after}
use Rattle.text_forms.specs.Faults.{Fault, IsFaultless, open_after, code_at}
use Rattle.text_forms.specs.Least.{least, least_by, least_fault, left_open}
use Rattle.text_forms.specs.Laws.{IsLeastOrNone}
use Rattle.text_forms.proofs.LeastFault.{least_or_none}
use Rattle.text_forms.specs.sexpr_text.Places.{IsAsDeep}

-- a text with a fault, and one with none
faulty : (text : List ℕ) (o : Option Fault) → IsLeastOrNone text o → IsSome o → IsFaultless text → ⊥
faulty text None h e clean = cc
faulty text (Some f) h e clean = clean f h.is

is_some_by : (o : Option ℕ) (at : ℕ) (p : Option ℕ) (next : Option Fault) → IsSome o → IsSome (least_by o at p next)
is_some_by None at p next e = cc
is_some_by (Some code) at p next e = refl

pub has_fault : (text : List ℕ) (depth at : ℕ) (c : Class) (cs ds : List Class) → IsAsDeep text depth at ds → ds ≡ c ∷ cs → ((ps : List ℕ) → length ps ≡ depth → IsSome (code_at ps c)) → IsFaultless text → ⊥
has_fault text depth at c cs ds d e faults = faulty text (least_fault text) (least_or_none text)
    (subst IsSome (ap (least d.open_lists at) (sym e) ∙ d.same) (is_some_by (code_at d.open_lists c) at (left_open 0 (open_after d.open_lists at c) cs) (least (open_after d.open_lists at c) (at + 1) cs) (faults d.open_lists d.deep)))

pub has_open_list : (text : List ℕ) (depth at : ℕ) (cs : List Class) → IsAsDeep text depth at cs → cs ≡ [] → 0 < depth → IsFaultless text → ⊥
has_open_list text depth at cs d e l = faulty text (least_fault text) (least_or_none text) (subst IsSome (ap (least d.open_lists at) (sym e) ∙ d.same) (some d.open_lists d.deep))
  where
    some : (ps : List ℕ) → length ps ≡ depth → IsSome (least ps at [])
    some [] e = absurd (omega arith)
    some (p ∷ ps) e = refl

pub has_none : (text : List ℕ) (depth at : ℕ) (cs : List Class) → IsAsDeep text depth at cs → cs ≡ [] → depth ≡ 0 → IsFaultless text
has_none text depth at cs d e l = subst (IsLeastOrNone text) (sym (none d.open_lists d.deep ∙ ap (least d.open_lists at) (sym e) ∙ d.same)) (least_or_none text)
  where
    none : (ps : List ℕ) → length ps ≡ depth → None ≡ least ps at []
    none [] e = refl
    none (p ∷ ps) e = absurd (omega arith)

-- the class of the next byte, and those behind it
pub classes_next : (text : List ℕ) (comment next : Bool) (i : ℕ) (k : Class) → i < length text → k ≡ class_in comment (get_or text i 0) → next ≡ comment_after comment (get_or text i 0) → classes_from comment (drop i text) ≡ k ∷ classes_from next (drop (i + 1) text)
classes_next text comment next i k lt a b = at_drop_more (classes_from comment) text i 0 lt ∙ ap₂ (λ x y. x ∷ classes_from y (drop (i + 1) text)) (sym a) (sym b)

pub classes_end : (text : List ℕ) (comment : Bool) (i : ℕ) → length text ≤ i → classes_from comment (drop i text) ≡ []
classes_end text comment i le = at_drop_all (classes_from comment) text i le
