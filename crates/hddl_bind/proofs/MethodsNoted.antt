-- One more method among those whose faults are noted.
use Rattle.std.proofs.Common.{append-nil, ℕ, ◌≡◌, ◌+◌, ◌<◌, List, [], ◌∷◌, ◌++◌, Option, length, get_or, take, refl, ap, ◌∙◌, sym, subst}
use Rattle.std.proofs.lemmas.List.{take_more, append_assoc}
use Rattle.plan_texts.specs.Together.{Together}
use Rattle.plan_texts.proofs.Together.{together-push}
use Rattle.name_binding.specs.declared.faults.Spot.{Spot}
use Rattle.name_binding.specs.Spots.{noted}
use Rattle.name_binding.proofs.Noted.{noted-append}
use Rattle.name_binding.specs.declared.known.Known.{Known}
use Rattle.hddl_bind.specs.Callables.{Declared}
use Rattle.hddl_reader.specs.declared.sections.RawMethod.{RawMethod}
use Rattle.hddl_bind.specs.Methods.{IsCycleOf, method_faults, methods_faults, IsMethodNoted, AreMethodsNoted}

module _ (known : Known) (callables : Declared) where
  methods_faults-push : (ms : List RawMethod) (ats : List (Option ℕ)) (m : RawMethod) (at : Option ℕ) → Together IsCycleOf ms ats
      → methods_faults known callables (ms ++ m ∷ []) (ats ++ at ∷ []) ≡ methods_faults known callables ms ats ++ (method_faults known callables m at ++ [])
  methods_faults-push [] [] m at cycles = refl
  methods_faults-push (x ∷ ms) (y ∷ ats) m at cycles =
      ap (λ zs. method_faults known callables x y ++ zs) (methods_faults-push ms ats m at cycles.1)
      ∙ sym (append_assoc (method_faults known callables x y) (methods_faults known callables ms ats) (method_faults known callables m at ++ []))
  methods_faults-push [] (y ∷ ats) m at cycles = elim cycles [ ]
  methods_faults-push (x ∷ ms) [] m at cycles = elim cycles [ ]

  pub noted-push : (ms : List RawMethod) (m : RawMethod) (old now new : Option Spot)
      → AreMethodsNoted known callables ms old now → IsMethodNoted known callables m now new → AreMethodsNoted known callables (ms ++ m ∷ []) old new
  noted-push ms m old now new (ats, cycles, before) (at, cycle, more) =
      let one = method_faults known callables m at in
      let all = methods_faults known callables ms ats in
      let faults = ap (λ zs. all ++ zs) (sym (append-nil one)) ∙ sym (methods_faults-push ms ats m at cycles) in (
        ats ++ at ∷ [],
        together-push IsCycleOf ms ats m at cycles cycle,
        more ∙ ap (λ s. noted s one) before ∙ sym (noted-append old all one) ∙ ap (noted old) faults,
      )

  pub noted-more : (ms : List RawMethod) (i : ℕ) (d m : RawMethod) (old now new : Option Spot) → i < length ms → m ≡ get_or ms i d
      → AreMethodsNoted known callables (take i ms) old now → IsMethodNoted known callables m now new → AreMethodsNoted known callables (take (i + 1) ms) old new
  noted-more ms i d m old now new below read before more =
      subst (λ xs. AreMethodsNoted known callables xs old new) (sym (take_more ms i d below ∙ ap (λ x. take i ms ++ x ∷ []) (sym read))) (noted-push (take i ms) m old now new before more)
