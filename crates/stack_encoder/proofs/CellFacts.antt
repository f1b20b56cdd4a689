-- What is put of the cells is what is true of them at the start.
use Rattle.std.proofs.Common.{ℕ, suc, ◌≡◌, ◌+◌, List, [], ◌∷◌, ◌++◌, map, ap, ◌∙◌, append_assoc, arith}
use Rattle.plan_model.specs.declared.terms.GroundAtom.{GroundAtom}
use Rattle.plan_model.specs.Facts.{atom_of}
use Rattle.plan_model.specs.task_networks.Spelling.{numbers}
use Rattle.slot_encoding.specs.EncodedNames as encoded
use Rattle.slot_encoding.specs.declared.slot_declarations.frame.Frame.{Frame}
use Rattle.stack_encoding.specs.StackNames.{tip_predicate, up_predicate}
use Rattle.stack_encoding.specs.StackValue as value
use Rattle.stack_encoder.specs.Made as made

module _ (f : Frame) where
  abbrev pub up_fact : ℕ → GroundAtom
  up_fact = value.up_fact f.compiled.now f.printed.now f.slots

  pub up-at : (p o k : ℕ) → p ≡ up_predicate f.compiled.now → o ≡ encoded.first_slot f.compiled.now → atom_of p ((o + k) ∷ (o + k + 1) ∷ []) ≡ up_fact (0 + k)
  up-at p o k e g =
      let below : o + k ≡ encoded.first_slot f.compiled.now + (0 + k) = omega (arith, g) in
      let above : o + k + 1 ≡ encoded.first_slot f.compiled.now + suc (0 + k) = omega (arith, g) in
      λ i. record { predicate = e i; args = below i ∷ above i ∷ [] }

  abbrev top : GroundAtom
  top = atom_of (encoded.top_predicate f.compiled.now) ((encoded.first_slot f.compiled.now + 1) ∷ [])

  abbrev tip : GroundAtom
  tip = atom_of (tip_predicate f.compiled.now) ((encoded.first_slot f.compiled.now + 1) ∷ [])

  pub cells-put : (t p o first k : ℕ) (old one two new : List GroundAtom) → t ≡ encoded.top_predicate f.compiled.now → p ≡ tip_predicate f.compiled.now → o ≡ encoded.first_slot f.compiled.now → first ≡ o + 1
      → one ≡ old ++ atom_of t (first ∷ []) ∷ [] → two ≡ one ++ atom_of p (first ∷ []) ∷ [] → new ≡ two ++ map up_fact (numbers 0 k) → k ≡ f.slots → new ≡ old ++ made.cell_atoms f
  cells-put t p o first k old one two new tops tips g h a b e n =
      let cell : first ≡ encoded.first_slot f.compiled.now + 1 = omega (arith, g, h) in
      let ups = map up_fact (numbers 0 f.slots) in
      e ∙ ap (λ z. z ++ map up_fact (numbers 0 k)) (b ∙ ap (λ z. z ++ atom_of p (first ∷ []) ∷ []) a)
      ∙ (λ i. ((old ++ atom_of (tops i) (cell i ∷ []) ∷ []) ++ atom_of (tips i) (cell i ∷ []) ∷ []) ++ map up_fact (numbers 0 (n i)))
      ∙ append_assoc (old ++ top ∷ []) (tip ∷ []) ups
      ∙ append_assoc old (top ∷ []) (tip ∷ ups)
