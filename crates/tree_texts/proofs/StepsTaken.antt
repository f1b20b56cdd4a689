-- A plan that is decoded step by step.
use Rattle.std.proofs.Common.{ℕ, ◌≡◌, ◌∙◌, ◌+◌, List, [], ◌∷◌, ◌++◌, length, sym, ap, subst, append_assoc, arith}
use Rattle.std.proofs.lemmas.List.{append-nil, length-append}
use Rattle.plan_model.specs.declared.steps.GroundAction.{GroundAction}
use Rattle.tree_decoder.specs.declared.decoder.Decoder.{Decoder}

module _ (Has : List GroundAction → Decoder → Type 0) (plan : List GroundAction) where
  -- The steps in front of these are taken, and the next has the number.
  pub record IsDecodedTo (steps : List GroundAction) (number : ℕ) (decoder : Decoder) : Type 0 where
    pub taken : List GroundAction
    pub whole : plan ≡ taken ++ steps
    pub next : number ≡ length taken + 1
    pub decoder_is : Has taken decoder

  -- how many steps there are, with the number of the next
  pub numbered : (steps : List GroundAction) (number : ℕ) (decoder : Decoder) → IsDecodedTo steps number decoder
      → number + length steps ≡ length plan + 1
  numbered steps number decoder t =
      let l = ap length t.whole in
      let k = length-append t.taken steps in
      let n = t.next in
      omega (arith, l, k, n)

  module _ (steps more : List GroundAction) (step : GroundAction) (number : ℕ) (old : Decoder) (t : IsDecodedTo steps number old) (e : steps ≡ step ∷ more) where
    pub one-taken : (new : Decoder) → ((taken : List GroundAction) → Has taken old → Has (taken ++ step ∷ []) new) → IsDecodedTo more (number + 1) new
    one-taken new takes =
        let n = t.next in
        let k = length-append t.taken (step ∷ []) in
        record {
          taken = t.taken ++ step ∷ [];
          whole = t.whole ∙ ap (λ s. t.taken ++ s) e ∙ sym (append_assoc t.taken (step ∷ []) more);
          next = omega (arith, n, k);
          decoder_is = takes t.taken t.decoder_is;
        }

    pub one-fails : (Fails : List GroundAction → ℕ → Type 0)
        → ((taken : List GroundAction) → Has taken old → (rest : List GroundAction) → Fails (taken ++ step ∷ rest) (length taken + 1)) → Fails plan number
    one-fails Fails fails =
        subst (Fails plan) (sym t.next)
        (subst (λ s. Fails s (length t.taken + 1)) (sym (t.whole ∙ ap (λ s. t.taken ++ s) e)) (fails t.taken t.decoder_is more))

  -- what is said of the steps at the end
  module _ (steps : List GroundAction) (number : ℕ) (decoder : Decoder) (t : IsDecodedTo steps number decoder) (e : steps ≡ []) where
    pub all-taken : (Says : List GroundAction → Type 0) → ((taken : List GroundAction) → Has taken decoder → Says taken) → Says plan
    all-taken Says says = subst Says (sym (t.whole ∙ ap (λ s. t.taken ++ s) e ∙ append-nil t.taken)) (says t.taken t.decoder_is)
