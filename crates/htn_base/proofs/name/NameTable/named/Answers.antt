use Rattle.std.proofs.Common.{◌≡◌, [], ◌∷◌, ◌++◌, length, Some, None, refl, sym, ap, ◌∙◌}
use Rattle.htn_base.specs.Table.{number_of, with_word}
use Rattle.htn_base.proofs.KeptLemmas.{table-still, table-next}
use Rattle.htn_base.proofs.TableLemmas.{known-same, with-new, number-last}
use Rattle.htn_base.proofs.name.NameTable.named.Goals as goal
use Rattle.htn_base.proofs.name.NameTable.named.Goals.{In_ok-push}

pub returns-in-Some-clause-words : goal.returns-in-Some-clause-words
returns-in-Some-clause-words c =
    let words = c.args.self.now in
    let word = c.args.word.now in
    sym (ap (with_word words) (sym c.requires) ∙ known-same words word c.find.ensures.sound _ (sym c.in-Some.ensures.number))

pub invariant_of-self : goal.invariant_of-self
invariant_of-self c =
    let table = c.self.inside in
    let none = ap (λ words. number_of words c.args.word.now) c.self.view_is ∙ sym c.in_default.ensures.number in
    table-still table.index c.keep.new.index table.words c.args.word.now c.self.invariant c.keep.ensures.before none table.words refl

pub invariant_of-self-in_err-push : goal.invariant_of-self-in_err-push
invariant_of-self-in_err-push c =
    let table = c.self.inside in
    let none = ap (λ words. number_of words c.args.word.now) c.self.view_is ∙ sym c.in_default.ensures.number in
    table-still table.index c.keep.new.index table.words c.args.word.now c.self.invariant c.keep.ensures.before none
    c.push.new.self c.in_err-push.ensures.unchanged

pub invariant_of-self-2 : goal.invariant_of-self-2
invariant_of-self-2 c =
    let table = c.self.inside in
    let none = ap (λ words. number_of words c.args.word.now) c.self.view_is ∙ sym c.in_default.ensures.number in
    table-next table.index c.keep.new.index table.words c.args.word.now c.self.invariant c.keep.ensures.before none
    c.push.new.self c.push.result c.in_ok-keep.ensures.kept c.push.ensures.pushed c.push.ensures.unchanged c.push.ensures.sound

module _ (c : In_ok-push) where
  new : number_of c.args.self.now c.args.word.now ≡ None
  new = sym c.in_default.ensures.number

  put : c.push.new.self ≡ c.args.self.now ++ c.args.word.now ∷ []
  put = c.in_ok-push.ensures.pushed ∙ ap (λ words. words ++ c.args.word.now ∷ []) c.self.view_is

pub returns-clause-words : goal.returns-clause-words
returns-clause-words c = put c ∙ sym (with-new c.args.self.now c.args.word.now c.find.ensures.sound.differ (new c))

pub returns-clause-number : goal.returns-clause-number
returns-clause-number c =
    let last = number-last c.args.self.now c.args.word.now c.find.ensures.sound.differ (new c) in
    ap (λ words. number_of words c.args.word.now) (put c) ∙ last ∙ sym (ap (λ n. Some n) (c.len-number.ensures.length ∙ ap (λ words. length words) c.self.view_is))
