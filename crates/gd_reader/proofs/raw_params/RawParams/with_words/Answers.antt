use Rattle.std.proofs.Common.{rules, ◌≡◌, ◌++◌, [], ◌∷◌, ◌<◌, length, get_or, sym, ◌∙◌}
use Rattle.gd_reader.specs.TypedLists.{with_type}
use Rattle.gd_reader.proofs.Marking.{marked-push, types_before-push, words-push}
use Rattle.gd_reader.proofs.raw_params.RawParams.with_words.Goals as goal

pub loop-word-preserved : goal.loop-word-preserved
loop-word-preserved c =
    let all = c.loop-word.all in
    let i = c.loop-word.word-index in
    let x = c.word-item.result in
    let word = with_type c.args.types x in
    let below : i < length c.args.words.now = search rules in
    let read : x ≡ get_or c.args.words.now i x = search rules in
    let pushed : c.push.new.self ≡ all ++ word ∷ [] = cc (c.in_ok-push.ensures.pushed, c.in_ok-share.ensures.same) in
    let marked = c.in_ok-push-2.ensures.pushed in
    record {
      words = pushed ∙ words-push (with_type c.args.types) c.self.inside.words all c.args.words.now i x below read c.loop-word.invariant.words;
      marked = rw (pushed, marked) (marked-push all c.loop-word.as_before word c.loop-word.is_behind c.loop-word.invariant.marked c.loop-word.invariant.behind);
      behind = λ _. rw pushed (sym (types_before-push all word));
    }
