-- The variables of a printed action: slots, and behind them those of the source, with a slot that is quantified behind all.
use Rattle.std.proofs.Common.{ℕ, suc, ◌≡◌, ◌+◌, ◌<◌, ◌^◌, ◌==◌, cond, List, [], ◌∷◌, ◌++◌, map, length, get_or, drop, codes, decimal, refl, ap, sym, subst, ◌∙◌, arith}
use Rattle.std.proofs.lemmas.Fmt.{decimal_injective}
use Rattle.std.proofs.lemmas.List.{map-append}
use Rattle.htn_base.specs.Escapes.{escaped}
use Rattle.text_forms.specs.Words.{Word}
use Rattle.plan_model.specs.declared.terms.Param.{Param}
use Rattle.plan_model.specs.declared.values.Compiled.{Compiled}
use Rattle.plan_texts.specs.Declared.{Declared, variable}
use Rattle.htn_base.specs.Different.{AreDifferent}
use Rattle.plan_texts.specs.Types.{Has, EachIs}
use Rattle.plan_texts.specs.SpellsHddl.{hddl_words}
use Rattle.plan_texts.specs.Printable.{IsSoundParam, AreSoundParams}
use Rattle.plan_texts.specs.SoundValue.{IsSoundHddl, arities, scope_of}
use Rattle.plan_texts.proofs.Members.{each-lacks, length-map}
use Rattle.plan_texts.proofs.Places.{each-join}
use Rattle.plan_model.specs.task_networks.Spelling.{numbers}
use Rattle.plan_model.proofs.task_networks.Numbers.{length-numbers}
use Rattle.slot_encoding.specs.SourceParts.{name, source_param}
use Rattle.slot_encoding.proofs.places.ListPlaces.{length-joined}
use Rattle.slot_encoding.specs.EncodedWords.{param_words, numbered, HasEncodedWords}
use Rattle.htn_base.proofs.DifferentLemmas.{different-one, different-left}
use Rattle.slot_encoding.proofs.words.Lists.{each-map, different-numbers, IsBetween, different-ranks, below-join}
use Rattle.slot_encoding.proofs.words.PlainWords.{is_generated, escape_is_none, plain-behind, folded-decimal, some-decimal}
use Rattle.slot_encoding.proofs.words.TableWords.{named-name}
use Rattle.slot_encoding.proofs.words.PrintedWords.{printed_words, printed_arities}
use Rattle.slot_encoding.proofs.words.SourceFormulas.{scope_behind, each_param, variables-printed, escapes_differ}
use Rattle.slot_encoding.proofs.words.PredicateNames.{extended, generated_param, known_h, sound_h}

-- slots before source variables before the quantified slot
abbrev pub part_rank : Word → ℕ
part_rank w = cond (is_generated w) (cond (get_or w 4 0 == 120) 2 0) 1

abbrev pub slot_names : ℕ → List Word
slot_names n = codes "htn_h" ∷ map (λ k. codes "htn_h" ++ decimal k) (numbers 1 n)

slots_apart : (n : ℕ) → n < 2 ^ 64 → AreDifferent (slot_names n)
slots_apart n l = (
  each-lacks (map (λ k. codes "htn_h" ++ decimal k) (numbers 1 n)) (codes "htn_h")
      (each-map (λ u. codes "htn_h" ≡ u → ⊥) (λ k. codes "htn_h" ++ decimal k) (numbers 1 n) (λ k m e. some-decimal k (sym (ap (drop 5) e)))),
  different-numbers (λ k. codes "htn_h" ++ decimal k) (1 + n) (λ j k i m e. decimal_injective j k (omega arith) (omega arith) (ap (drop 5) e)) 1 n (omega arith),
)

slots_first : (n : ℕ) → EachIs (λ w. part_rank w < 1) (slot_names n)
slots_first n = (omega arith, each-map (λ w. part_rank w < 1) (λ k. codes "htn_h" ++ decimal k) (numbers 1 n) (λ k m. omega arith))

module _ (c : Compiled) (names : List Word) (b : ℕ) (sound : IsSoundHddl c.hddl) (has : HasEncodedWords c b names) where
  abbrev v : Declared
  v = hddl_words c.hddl

  abbrev v' : Declared
  v' = printed_words c names b

  abbrev ar : List ℕ
  ar = arities c.hddl

  abbrev ar' : List ℕ
  ar' = printed_arities c names b

  -- n further slots, and these parameters
  module _ (n : ℕ) (params : List Param) (short : n < 2 ^ 64) (known : EachIs (Has names) (numbered (codes "htn_h") n)) (params_known : EachIs (Has names) (param_words c.hddl.names params)) (are : AreSoundParams v ar params) where
    abbrev pub slot_params : List Param
    slot_params = record { name = name names (codes "htn_h"); ty = 1 } ∷ map (λ k. record { name = name names (codes "htn_h" ++ decimal k); ty = 1 }) (numbers 1 n)

    abbrev pub action_params : List Param
    action_params = slot_params ++ map (source_param names c.hddl.names) params

    abbrev pub action_scope : List Word
    action_scope = scope_behind v v' ar ar' (extended c names b sound has) (slot_names n) (scope_of c.hddl params)

    slots-named : map (variable v') slot_params ≡ slot_names n
    slots-named = let e = named-name (codes "htn_h") names (known_h c names b sound has) in let r = go (numbers 1 n) known in λ i. e i ∷ r i
      where
        go : (ks : List ℕ) → EachIs (Has names) (map (λ k. codes "htn_h" ++ decimal k) ks) → map (variable v') (map (λ k. record { name = name names (codes "htn_h" ++ decimal k); ty = 1 }) ks) ≡ map (λ k. codes "htn_h" ++ decimal k) ks
        go [] h = refl
        go (k ∷ ks) h = let e = named-name (codes "htn_h" ++ decimal k) names h.0 in let r = go ks h.1 in λ i. e i ∷ r i

    pub scope-named : map (variable v') action_params ≡ action_scope
    scope-named =
        let e = variables-printed v v' ar ar' (extended c names b sound has) params params_known in
        let f = slots-named in
        map-append (variable v') slot_params (map (source_param names c.hddl.names) params) ∙ (λ i. f i ++ e i)

    pub scope_x_apart : AreDifferent (action_scope ++ codes "htn_x" ∷ [])
    scope_x_apart = different-ranks part_rank 2 3 action_scope (codes "htn_x" ∷ [])
        (below-join part_rank 1 2 (slot_names n) (map escaped (scope_of c.hddl params)) (omega arith)
        (record { different = slots_apart n short; below = slots_first n })
        (escapes_differ v v' ar ar' (extended c names b sound has) (scope_of c.hddl params) are.1)
        (each-map (IsBetween part_rank 1 2) escaped (scope_of c.hddl params) (λ w m. (let e : part_rank (escaped w) ≡ 1 = ap (λ t. cond t (cond (get_or (escaped w) 4 0 == 120) 2 0) 1) (escape_is_none w) in (omega arith, omega arith)))))
        (different-one (codes "htn_x")) ((omega arith, omega arith), tt)

    pub scope_apart : AreDifferent action_scope
    scope_apart = different-left action_scope (codes "htn_x" ∷ []) scope_x_apart

    pub length-slots : length (slot_names n) ≡ suc n
    length-slots = let e = length-map (λ k. codes "htn_h" ++ decimal k) (numbers 1 n) in let f = length-numbers 1 n in omega arith

    pub length-scope : length action_scope ≡ suc n + length params
    length-scope =
        let a = length-joined (slot_names n) (map escaped (scope_of c.hddl params)) in let d = length-slots in
        let e = length-map escaped (scope_of c.hddl params) in let f = length-map (variable v) params in
        omega arith

    pub params_sound : AreSoundParams v' ar' action_params
    params_sound = (
      each-join (IsSoundParam v' ar') slot_params (map (source_param names c.hddl.names) params) (sound_h c names b sound has, go (numbers 1 n) known)
          (each_param v v' ar ar' (extended c names b sound has) params params_known are.0),
      subst AreDifferent (sym scope-named) scope_apart,
    )
      where
        go : (ks : List ℕ) → EachIs (Has names) (map (λ k. codes "htn_h" ++ decimal k) ks) → EachIs (IsSoundParam v' ar') (map (λ k. record { name = name names (codes "htn_h" ++ decimal k); ty = 1 }) ks)
        go [] h = tt
        go (k ∷ ks) h = (generated_param c names b sound has (codes "htn_h" ++ decimal k) 1 h.0 (plain-behind (codes "htn_h") (decimal k) refl refl (folded-decimal k)) (omega arith), go ks h.1)
