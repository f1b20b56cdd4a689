-- The two kinds of fronts: the cell below and its own, where nothing comes; and the cells of the children.
use Rattle.std.proofs.Common.{ℕ, suc, ◌≡◌, ◌<◌, ◌^◌, List, [], ◌∷◌, ◌++◌, map, codes, decimal, refl, ap, ◌∙◌, arith, true≢false}
use Rattle.htn_base.specs.Escapes.{escaped}
use Rattle.text_forms.specs.Words.{Word}
use Rattle.plan_model.specs.declared.terms.Param.{Param}
use Rattle.plan_model.specs.declared.values.Compiled.{Compiled}
use Rattle.plan_model.specs.task_networks.Spelling.{numbers}
use Rattle.plan_texts.specs.Declared.{variable}
use Rattle.plan_texts.specs.Types.{Has, EachIs}
use Rattle.plan_texts.specs.SpellsHddl.{hddl_words}
use Rattle.plan_texts.specs.Printable.{AreSoundParams}
use Rattle.plan_texts.specs.SoundValue.{IsSoundHddl, arities, scope_of}
use Rattle.plan_texts.proofs.Basics.{apart}
use Rattle.plan_texts.proofs.Members.{each-has, each-lacks, has-to_map}
use Rattle.slot_encoding.specs.EncodedNames.{slot_param}
use Rattle.slot_encoding.specs.EncodedWords.{param_words, numbered}
use Rattle.slot_encoding.proofs.words.Lists.{each-map}
use Rattle.slot_encoding.proofs.words.PlainWords.{is_generated, escape_is_none, plain-behind, folded-decimal}
use Rattle.slot_encoding.proofs.words.SlotScopes.{slot_names, scope_apart, length-slots}
use Rattle.slot_encoding.proofs.words.TableWords.{named-name, words-made}
use Rattle.stack_encoding.proofs.words.FewCells.{wide, wide_has, widen-each}
use Rattle.stack_encoding.proofs.words.KnownParts.{AreKnown}
use Rattle.stack_encoding.proofs.words.PredicateWords.{sound_h, sound_d, sound_numbered}
use Rattle.stack_encoding.proofs.words.StackDeclared.{stack_declared}
use Rattle.stack_encoding.proofs.words.StackScopes.{IsFront}

module _ (c : Compiled) (names : List Word) (b : ℕ) (sound : IsSoundHddl c.hddl) (known : AreKnown c b names)
    (params : List Param) (params_known : EachIs (Has names) (param_words c.hddl.names params)) (are : AreSoundParams (hddl_words c.hddl) (arities c.hddl) params) where
  abbrev source : List Word
  source = map escaped (scope_of c.hddl params)

  abbrev read : Param → Word
  read = variable (stack_declared c names b)

  h_named : read (slot_param c names b (codes "htn_h")) ≡ codes "htn_h"
  h_named = named-name (codes "htn_h") names known.variables.0

  d_named : read (slot_param c names b (codes "htn_d")) ≡ codes "htn_d"
  d_named = named-name (codes "htn_d") names known.variables.1.0

  -- the cells of n + 1 children
  abbrev pub climbing_cells : ℕ → List Param
  climbing_cells n = slot_param c names b (codes "htn_h") ∷ map (λ k. slot_param c names b (codes "htn_h" ++ decimal k)) (numbers 1 n)

  module _ (n : ℕ) (short : n < 2 ^ 64) (cells_known : EachIs (Has names) (numbered (codes "htn_h") n)) where
    pub climbing_front : IsFront c names b sound known (suc n) (climbing_cells n) (slot_names n) params
    climbing_front =
        let over = wide c b names in let has = wide_has c b names in
        let cells = widen-each c b names (numbered (codes "htn_h") n) cells_known in
        let own = widen-each c b names (param_words c.hddl.names params) params_known in
        let r = words-made (λ k. slot_param c names b (codes "htn_h" ++ decimal k)) read (λ k. codes "htn_h" ++ decimal k) (numbers 1 n)
        (λ k m. named-name (codes "htn_h" ++ decimal k) names (each-has (Has names) (numbered (codes "htn_h") n) (codes "htn_h" ++ decimal k) cells_known (has-to_map (λ k. codes "htn_h" ++ decimal k) (numbers 1 n) k m))) in
        let e = h_named in
        record {
          count = length-slots c over b sound has n params short cells own are;
          named = λ i. e i ∷ r i;
          cells_sound = (sound_h c names b sound known, sound_numbered c names b sound known (codes "htn_h") 1 (omega arith) (λ k. plain-behind (codes "htn_h") (decimal k) refl refl (folded-decimal k)) (numbers 1 n) cells_known);
          apart = scope_apart c over b sound has n params short cells own are;
          params_known = params_known;
          are = are;
        }

  abbrev pub falling_cells : List Param
  falling_cells = slot_param c names b (codes "htn_d") ∷ slot_param c names b (codes "htn_h") ∷ []

  pub falling_front : IsFront c names b sound known 2 falling_cells (codes "htn_d" ∷ codes "htn_h" ∷ []) params
  falling_front =
      let own = widen-each c b names (param_words c.hddl.names params) params_known in
      let rest = scope_apart c (wide c b names) b sound (wide_has c b names) 0 params (omega arith) tt own are in
      let e = d_named in let g = h_named in
      record {
        count = refl;
        named = λ i. e i ∷ g i ∷ [];
        cells_sound = (sound_d c names b sound known, (sound_h c names b sound known, tt));
        apart = (each-lacks (codes "htn_h" ∷ source) (codes "htn_d") (apart _ _ refl, each-map (λ u. codes "htn_d" ≡ u → ⊥) escaped (scope_of c.hddl params) (λ w m e. true≢false (ap is_generated e ∙ escape_is_none w))), rest);
        params_known = params_known;
        are = are;
      }
