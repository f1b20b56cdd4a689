-- Symbols are the writing of one nested list.
use Rattle.std.proofs.Common.{◌≡◌, List, [], ◌∷◌, ◌++◌, refl, ap, sym, ◌∙◌, append_assoc}
use Rattle.text_forms.specs.Tokens.{Symbol, right}
use Rattle.text_forms.specs.Lists.{Part, Parts, name, group, nothing, part, written, written_all}

mutual
  pub same_front : (p q : Part) (r s : List Symbol) → written p ++ r ≡ written q ++ s → (p ≡ q) × (r ≡ s)
  same_front (name u) (name w) r s e = (cc, cc)
  same_front (name u) (group qs) r s e = (cc, cc)
  same_front (group ps) (name w) r s e = (cc, cc)
  same_front (group ps) (group qs) r s e =
      let a = append_assoc (written_all ps) (right ∷ []) r in
      let b = append_assoc (written_all qs) (right ∷ []) s in
      let f : written_all ps ++ right ∷ r ≡ written_all qs ++ right ∷ s = cc in
      let g = same_inside ps qs r s f in
      (ap group g.0, g.1)

  same_inside : (ps qs : Parts) (r s : List Symbol) → written_all ps ++ right ∷ r ≡ written_all qs ++ right ∷ s → (ps ≡ qs) × (r ≡ s)
  same_inside nothing nothing r s e = (refl, cc)
  same_inside nothing (part (name w) qs) r s e = (cc, cc)
  same_inside nothing (part (group ws) qs) r s e = (cc, cc)
  same_inside (part (name w) ps) nothing r s e = (cc, cc)
  same_inside (part (group ws) ps) nothing r s e = (cc, cc)
  same_inside (part p ps) (part q qs) r s e =
      let a = append_assoc (written p) (written_all ps) (right ∷ r) in
      let b = append_assoc (written q) (written_all qs) (right ∷ s) in
      let g = same_front p q (written_all ps ++ right ∷ r) (written_all qs ++ right ∷ s) (sym a ∙ e ∙ b) in
      let h = same_inside ps qs r s g.1 in
      (let x = g.0 in let y = h.0 in cc, h.1)

pub one_part : (p q : Part) → written p ≡ written q → p ≡ q
one_part p q e = (same_front p q [] [] (ap (λ t. t ++ []) e)).0

pub one_nesting : (ps qs : Parts) → written_all ps ≡ written_all qs → ps ≡ qs
one_nesting ps qs e = (same_inside ps qs [] [] (ap (λ t. t ++ right ∷ []) e)).0
