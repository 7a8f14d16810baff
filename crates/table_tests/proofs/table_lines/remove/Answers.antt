use Rattle.std.proofs.Common.{Bool, true, false, List, [], ◌∷◌}
use Rattle.std.specs.Prelude.{if◌then◌else◌}
use Rattle.std.specs.List.{AllByRecursion}
use Rattle.account_model.specs.declared.records.PasswdRecord.{PasswdRecord}
use Rattle.account_model.specs.Format.{is_named}
use Rattle.account_model.specs.Records.{passwd_format}
use Rattle.account_model.specs.Written.{IsWritten}
use Rattle.account_model.proofs.FormatLaws.{passwd-is_format}
use Rattle.table_tests.proofs.table_lines.remove.Goals as goal

-- a record that goes or stays can be written
left-written :
    (r : PasswdRecord) (goes : Bool)
    → IsWritten passwd_format r
    → AllByRecursion (IsWritten passwd_format) (if goes then [] else r ∷ [])
left-written r true written = tt
left-written r false written = (written, tt)

pub edit-requires : goal.edit-requires
edit-requires c = λ text r one_line reads.
    left-written r (is_named passwd_format c.in_ok-name.name r)
    (passwd-is_format.written text r one_line reads)
