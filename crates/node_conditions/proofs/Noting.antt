-- What is known of values after terms.
use Rattle.std.proofs.Common.{ℕ, zero, suc, ◌≡◌, ◌+◌, ◌<◌, ◌≤◌, List, [], ◌∷◌, ◌++◌, take, drop, length, get_or, replicate, append_assoc}
use Rattle.std.proofs.Common.{append-nil, Option, None, refl, ap, sym, subst, ◌∙◌}
use Rattle.std.proofs.Math.Seq.{take-append_seam}
use Rattle.std.proofs.lemmas.List.{take_more, take_all}
use Rattle.plan_model.specs.declared.terms.Term.{Term}
use Rattle.plan_model.specs.declared.terms.Term.TheVariants.{Var}
use Rattle.plan_model.specs.declared.networks.Child.{Child}
use Rattle.plan_model.proofs.task_networks.Lists.{not-in_empty}
use Rattle.node_conditions.specs.Taken.{said_of, said_by, IsKnownAt, IsKnown}

-- nothing is known before all terms
pub known_first : (old : List ℕ) (n : ℕ) → IsKnown old [] (replicate n None)
known_first old n k l = subst (IsKnownAt old [] k) (sym (none n k)) (not-in_empty (Var k))
  where
    none : (n k : ℕ) → ◌≡◌ {A = Option ℕ} (get_or (replicate n None) k None) None
    none zero k = refl
    none (suc n) zero = refl
    none (suc n) (suc k) = none n k

-- what is written back to a list
pub written : {A : Type 0} (new items : List A) (n : ℕ) → n ≡ length new → take n (new ++ drop (length new) items) ≡ new
written new items n e = ap (λ z. take z (new ++ drop (length new) items)) e ∙ take-append_seam new (drop (length new) items)

module _ (old : List ℕ) (done : List Term) where
  pub known_term : (terms : List Term) (known : List (Option ℕ)) (i : ℕ) (d : Term) → i < length terms
      → IsKnown old ((done ++ take i terms) ++ get_or terms i d ∷ []) known → IsKnown old (done ++ take (i + 1) terms) known
  known_term terms known i d l h =
      subst (λ z. IsKnown old z known) (append_assoc done (take i terms) (get_or terms i d ∷ [])
      ∙ ap (λ z. done ++ z) (sym (take_more terms i d l))) h

  said_push : (children : List Child) (child : Child) → said_by (children ++ child ∷ []) ≡ said_by children ++ said_of child.head child.args
  said_push [] child = append-nil _
  said_push (c ∷ children) child =
      ap (λ z. said_of c.head c.args ++ z) (said_push children child)
      ∙ sym (append_assoc (said_of c.head c.args) (said_by children) (said_of child.head child.args))

  pub known_child : (children : List Child) (known : List (Option ℕ)) (i : ℕ) (child : Child) → i < length children
      → child ≡ get_or children i child
      → IsKnown old ((done ++ said_by (take i children)) ++ said_of child.head child.args) known
      → IsKnown old (done ++ said_by (take (i + 1) children)) known
  known_child children known i child l e h =
      let more : take (i + 1) children ≡ take i children ++ child ∷ [] = take_more children i child l
      ∙ ap (λ z. take i children ++ z ∷ []) (sym e) in
      subst (λ z. IsKnown old z known)
      (append_assoc done (said_by (take i children)) (said_of child.head child.args) ∙ ap (λ z. done ++ z) (sym (ap said_by more
      ∙ said_push (take i children) child))) h

  pub all_terms : (terms : List Term) (known : List (Option ℕ)) (i : ℕ) → length terms ≤ i → IsKnown old (done ++ take i terms) known
      → IsKnown old (done ++ terms) known
  all_terms terms known i l h = subst (λ z. IsKnown old (done ++ z) known) (take_all i terms l) h

  pub all_children : (children : List Child) (known : List (Option ℕ)) (i : ℕ) → length children ≤ i
      → IsKnown old (done ++ said_by (take i children)) known
      → IsKnown old (done ++ said_by children) known
  all_children children known i l h = subst (λ z. IsKnown old (done ++ said_by z) known) (take_all i children l) h
