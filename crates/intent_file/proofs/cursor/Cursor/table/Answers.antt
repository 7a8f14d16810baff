use Rattle.acct_text.specs.Bytes.{blank}
use Rattle.acct_text.specs.Tables.{table_name}
use Rattle.intent_file.proofs.PartsLemmas.{name_lacks}
use Rattle.intent_file.proofs.CursorLemmas.{word_read, name-read}
use Rattle.intent_file.proofs.cursor.Cursor.table.Goals as goal

pub returns : goal.returns
returns c =
    word_read blank _ table_name
    (λ table _. name_lacks table) c.args.self.now c.in_ok-name.name.now c.word.new.self
    c.table_named.result
    c.in_ok-name.ensures (rw c.table_named.ensures (name-read c.in_ok-name.name.now))
