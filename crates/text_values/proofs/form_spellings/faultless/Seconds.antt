-- Where the words of declarations differ, none is declared a second time.
use Rattle.std.proofs.Common.{ℕ, ◌≡◌, inl, inr, List, [], ◌∷◌, ◌++◌, map, sym, ap, subst, arith}
use Rattle.std.specs.Prelude.{◌⊎◌}
use Rattle.htn_base.specs.Different.{AreDifferent}
use Rattle.text_forms.specs.Words.{Word}
use Rattle.plan_texts.specs.Types as value
use Rattle.plan_texts.proofs.Members.{has-contains, has-to_map}
use Rattle.htn_base.specs.Lists.{One, Has}
use Rattle.hddl_reader.specs.names.Words.{WordAt, IsSameEarlier, IsSecond}
use Rattle.text_values.proofs.form_spellings.faultless.Lists.{one_has, same_item, has_back}

abbrev pub word : WordAt → Word
word x = x.word

apart : (us ws : List Word) (w : Word) → AreDifferent (us ++ ws) → value.Has us w → value.Has ws w → ⊥
apart [] ws w d h k = h
apart (u ∷ us) ws w d (inl e) k = d.0 (has-contains (us ++ ws) u (subst (value.Has (us ++ ws)) (sym e) (has_back us ws w k)))
apart (u ∷ us) ws w d (inr h) k = apart us ws w d.1 h k

behind : (us ws : List Word) → AreDifferent (us ++ ws) → AreDifferent ws
behind [] ws d = d
behind (u ∷ us) ws d = behind us ws d.1

had : (ws : List Word) (w : Word) → Has ws w → value.Has ws w
had ws w h = let g = one_has (λ y. y ≡ w) ws h in subst (value.Has ws) g.2 g.1

pub no_second : (earlier : List Word) (xs : List WordAt) (at : ℕ) → AreDifferent (earlier ++ map word xs) → IsSecond earlier xs at → ⊥
no_second earlier xs at d s =
    let g = one_has (λ (x : WordAt). (x.at ≡ at) × (Has earlier x.word ⊎ One (IsSameEarlier x) xs)) xs s in
    elim g.2.1 [
      | inl h ↦ apart earlier (map word xs) (word g.0) d (had earlier (word g.0) h) (has-to_map word xs g.0 g.1)
      | inr o ↦ (
          let k = one_has (IsSameEarlier g.0) xs o in
          let e = ap (λ (x : WordAt). x.at) (same_item word xs k.0 g.0 (behind earlier (map word xs) d) k.1 g.1 k.2.0) in
          let l = k.2.1 in
          omega arith)
    ]
