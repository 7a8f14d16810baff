-- passwd is lawful (`passwd-lawful`), and so prints only records that read back (`passwd-written`). Way: a hash that is locked,
-- unlocked or emptied can stand in a field, and a value that isn't a number of days leaves its field.
use Rattle.std.proofs.Common.{◌≡◌, ℕ, Bool, true, false, List, [], ◌∷◌, ◌∙◌, arith, inl, refl, sym, true≢false}
use Rattle.std.specs.Prelude.{Option, Some, None, codes, if◌then◌else◌}
use Rattle.acct_text.specs.declared.files.Files.{Files}
use Rattle.account_model.specs.declared.records.ShadowRecord.{ShadowRecord}
use Rattle.account_model.specs.Written.{IsField, IsDaysNumber, IsShadow}
use Rattle.account_model.specs.declared.tool.Tool.TheVariants.{Passwd}
use Rattle.account_model.specs.Text.{first_some}
use Rattle.account_model.specs.Action.{changes, reports}
use Rattle.account_model.specs.NamedLines.{Named, named_by, names_nothing}
use Rattle.account_model.specs.WrittenScript.{IsWrittenScript}
use Rattle.account_model.specs.Tables.{no_edits}
use Rattle.account_model.specs.Values.{days_value}
use Rattle.account_model.specs.Hashes.{demand_shadow, each_user_hash}
use Rattle.account_model.specs.Request.{Request, has_option, operand}
use Rattle.account_model.specs.Passwd.{sets_password_aging, password_after, passwd_refusals, password_status, with_password_aging, set_password_aging, passwd_script}
use Rattle.account_model.proofs.AgingToolScripts.{days-held}
use Rattle.account_model.proofs.RefusalFacts.{field-kept}
use Rattle.account_model.proofs.UsermodScripts.{either-field, locked-hash-field, unlocked-hash-field}
use Rattle.account_model.proofs.ComposedScripts.{all-hold, either-holds}
use Rattle.account_model.proofs.LawfulParts.{demand-lawful, hash-lawful, shadow-lawful}
use Rattle.account_model.proofs.LawfulScripts.{IsLawful, lawful-composed, written-small}
use Rattle.account_model.proofs.LawfulTools.{IsPlain, LawfulTool, by-choice}
use Rattle.account_model.proofs.NamedParts.{first-has}

-- the new hash
password-after-field :
    (request : Request) (hash : List ℕ)
    → IsField hash
    → IsField (password_after request hash)
password-after-field request hash is =
    either-field (has_option (codes "d") request) _ _ (record { no_colon = tt; no_newline = tt })
    (either-field (has_option (codes "l") request) _ _ (locked-hash-field hash is)
    (either-field (has_option (codes "u") request) _ _ (unlocked-hash-field hash is) is))

-- day 0, or the old last change
last-change-by :
    (old : Option ℕ) (expires : Bool)
    → IsDaysNumber old
    → IsDaysNumber (if expires then Some 0 else old)
last-change-by old true is = omega arith
last-change-by old false is = is

-- the fields that the options set
aging-held :
    (request : Request) (r : ShadowRecord) → IsShadow r → IsShadow (with_password_aging request r)
aging-held request r is = record {
  name = is.name;
  hash = is.hash;
  last_change = last-change-by r.last_change (has_option (codes "e") request) is.last_change;
  minimum =
      field-kept IsDaysNumber days_value (codes "n") request r.minimum days-held is.minimum;
  maximum =
      field-kept IsDaysNumber days_value (codes "x") request r.maximum days-held is.maximum;
  warning =
      field-kept IsDaysNumber days_value (codes "w") request r.warning days-held is.warning;
  inactive =
      field-kept IsDaysNumber days_value (codes "i") request r.inactive days-held is.inactive;
  expiration = is.expiration;
  rest = is.rest;
}

-- the edits of passwd
pub passwd-script-lawful :
    {day : ℕ} (request : Request) (files : Files)
    → IsLawful day false false (record names_nothing { users = operand request ∷ [] })
    (passwd_script request files)
passwd-script-lawful request files =
    let named : Named = record names_nothing { users = operand request ∷ [] }
    in let has = first-has (operand request) []
    in all-hold (lawful-composed named)
    (demand_shadow (operand request) files
    ∷ each_user_hash (operand request) (password_after request) files
    ∷ (if sets_password_aging request then set_password_aging request else no_edits) ∷ []) (
      demand-lawful named (operand request) has files,
      (
        hash-lawful named (operand request) has (password_after request) files
            (password-after-field request),
        (
          either-holds (lawful-composed named) (sets_password_aging request)
              (set_password_aging request) no_edits
              (shadow-lawful named (operand request) has (with_password_aging request)
              (λ small. aging-held request)) (lawful-composed named).none,
          tt,
        ),
      ),
    )

-- so it prints only records that read back
pub passwd-written :
    (request : Request) (files : Files) → IsWrittenScript (passwd_script request files)
passwd-written request files =
    written-small {day = 0} (passwd-script-lawful request files).written (omega arith)

-- passwd shows the state of a password, or changes it
pub passwd-lawful : LawfulTool Passwd
passwd-lawful request input day files settings =
    let shows = has_option (codes "S") request
    in let one = reports (passwd_refusals request files) 0
    (password_status (operand request) files)
    in let other = changes (passwd_refusals request files) (passwd_script request files)
    in record {
      script = by-choice (λ action. first_some action.refusals ≡ None
          → IsLawful day false false (named_by Passwd request [] files) action.script) shows one
          other (λ is none. (lawful-composed _).none)
          (λ is none. passwd-script-lawful request files);
      plain = by-choice IsPlain shows one other (λ is. inl refl) (λ is. inl refl);
      report = λ rules asked. by-choice (λ action. action.script ≡ no_edits) shows one other
          (λ is. refl) (λ is. absurd (true≢false (sym asked ∙ is)));
      line = λ may. refl;
    }
