use Rattle.std.proofs.Common.{◌∙◌, ◌++◌, [], ◌∷◌, sym}
use Rattle.acct_text.specs.Bytes.{colon}
use Rattle.acct_tables.specs.Marks.{BeginsOtherwise}
use Rattle.acct_tables.proofs.BehindLines.{behind-weaker, other-named}
use Rattle.acct_tables.proofs.MarkedRecords.{IsOther, marked-behind}
use Rattle.acct_tables.proofs.name_search.from_name.Goals as goal

pub returns-then-is_record : goal.returns-then-is_record
returns-then-is_record g c =
    marked-behind g.R.TableRecord.format g.met.R.TableRecord.names_first c.args.name.now
    c.args.text.now c.from_mark.result.now c.from_mark.ensures

pub returns : goal.returns
returns g c =
    let format = g.R.TableRecord.format in
    let name = c.args.name.now in
    behind-weaker (BeginsOtherwise (name ++ colon ∷ [])) (IsOther format name)
    (other-named format g.met.R.TableRecord.names_first name
    (sym c.is_record.ensures ∙ c.if-is_record.false))
    c.args.text.now c.from_first_field.result.now c.from_first_field.ensures
