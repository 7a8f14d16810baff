use Rattle.std.proofs.Common.{decimal}
use Rattle.intent_file.specs.Cursor.{IsBetween}
use Rattle.intent_file.proofs.CursorLemmas.{no_word, word_read, between-lacks}
use Rattle.intent_file.proofs.cursor.Cursor.number.Goals as goal

pub returns-in_err-digits : goal.returns-in_err-digits
returns-in_err-digits c =
    let lacks = between-lacks c.args.end c.args.least c.args.greatest c.requires in
    rw c.from_residual.ensures
    (no_word c.args.end
    (IsBetween c.args.least c.args.greatest) decimal lacks c.args.self.now
    c.in_err-digits.ensures)

pub returns : goal.returns
returns c =
    let lacks = between-lacks c.args.end c.args.least c.args.greatest c.requires in
    word_read c.args.end (IsBetween c.args.least c.args.greatest) decimal lacks c.args.self.now
    c.in_ok-digits.digits.now c.word.new.self c.number_written.result
    c.in_ok-digits.ensures c.number_written.ensures
