use Rattle.std.proofs.Common.{arith}
use Rattle.gd_reader.proofs.Items.{shows_end, shows_close, shows_word, shows_list, never}
use Rattle.gd_reader.proofs.cursor.item_at.Goals as goal

pub returns-in-None : goal.returns-in-None
returns-in-None c = let h = c.in-None.ensures.token in record { shows = shows_end c.args.s.now c.args.i (cc) }

pub returns-in-Stop : goal.returns-in-Stop
returns-in-Stop c = let h = c.in-Some.ensures.token in record { shows = shows_close c.args.s.now c.args.i c.in-Some.read (cc) c.in-Stop.is }

pub returns-in-Word : goal.returns-in-Word
returns-in-Word c =
    let h = c.in-Some.ensures.token in
    let n = c.len.ensures.count in
    record { shows = shows_word c.args.s.now c.args.i c.in-Some.read (cc) c.in-Word.is c.in-Some.ensures.word (omega arith) }

pub overflow_add-result-in-Some-close_of : goal.overflow_add-result-in-Some-close_of
overflow_add-result-in-Some-close_of c =
    let h = c.in-Some.ensures.token in
    let e = c.in-Some-close_of.ensures.close in
    let n = c.len.ensures.count in
    let l = shows_list c.args.s.now c.args.i c.in-Some.read (cc) c.in-Start.is c.in-Some-close_of.closing (cc) in
    let within = l.within in
    omega arith

pub returns-in-Some-close_of : goal.returns-in-Some-close_of
returns-in-Some-close_of c =
    let h = c.in-Some.ensures.token in
    let e = c.in-Some-close_of.ensures.close in
    record { shows = shows_list c.args.s.now c.args.i c.in-Some.read (cc) c.in-Start.is c.in-Some-close_of.closing (cc) }

pub returns-in-None-close_of : goal.returns-in-None-close_of
returns-in-None-close_of c =
    let h = c.in-Some.ensures.token in
    record { shows = never c.args.s.now c.args.i c.in-Some.read (cc) c.close_of.result c.in-Start.is c.in-None-close_of.is c.close_of.ensures.opens }
