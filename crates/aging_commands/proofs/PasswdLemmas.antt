-- Claim: the state of the record that counts is that of the hash and the aging that count
-- (`counting-status`). Way: by whether shadow has the user.
use Rattle.std.proofs.Common.{◌≡◌, ℕ, List, [], refl}
use Rattle.std.specs.Prelude.{Option, Some, None, option_map, unwrap_or}
use Rattle.acct_text.specs.declared.files.Files.{Files}
use Rattle.account_model.specs.declared.records.ShadowRecord.{ShadowRecord}
use Rattle.account_model.specs.Records.{hash_alone}
use Rattle.account_model.specs.Users.{find_shadow, passwd_field}
use Rattle.account_model.specs.Passwd.{password_status, status_line}
use Rattle.aging_commands.specs.AgingFields.{counting_record}

-- the line of a record that may be there
line-by :
    (user field : List ℕ) (found : Option ShadowRecord)
    → status_line user (unwrap_or found (hash_alone user field)).hash
    (unwrap_or found (hash_alone user field))
    ≡ status_line user (unwrap_or (option_map (λ r. r.hash) found) field)
    (unwrap_or found (hash_alone user []))
line-by user field None = refl
line-by user field (Some r) = refl

-- the state that counts
pub counting-status :
    (user : List ℕ) (files : Files)
    → status_line user (counting_record user files).hash (counting_record user files)
    ≡ password_status user files
counting-status user files = line-by user (passwd_field user files) (find_shadow user files)
