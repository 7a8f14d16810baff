-- Without edits the files stay, byte for byte, and no record is touched.
use Rattle.std.proofs.Common.{◌≡◌, ℕ, List, [], ◌∷◌, refl, ap}
use Rattle.std.specs.Prelude.{Option, Some, None, ◌&&◌, find, option_map}
use Rattle.acct_text.specs.declared.files.Files.{Files}
use Rattle.account_model.specs.Edits.{touches, is_multiple, first_multiple}
use Rattle.account_model.specs.Format.{Format}
use Rattle.account_model.specs.Records.{passwd_format, shadow_format, group_format, gshadow_format, subid_format}
use Rattle.account_model.specs.Tables.{no_edits, table_after, files_after}
use Rattle.acct_text.proofs.LinesLaws.{lines_of-are}

-- a table without edits stays
pub table-stays :
    {R : Type 0} (format : Format R) (bytes : Option (List ℕ))
    → table_after format [] bytes ≡ bytes
table-stays format None = refl
table-stays format (Some bytes) = ap Some (lines_of-are bytes).joined

-- and so do all six
pub files-stay : (files : Files) → files_after no_edits files ≡ files
files-stay files = λ i. record {
  passwd = table-stays passwd_format files.passwd i;
  shadow = table-stays shadow_format files.shadow i;
  group = table-stays group_format files.group i;
  gshadow = table-stays gshadow_format files.gshadow i;
  subuid = table-stays subid_format files.subuid i;
  subgid = table-stays subid_format files.subgid i;
}

-- without edits no name is touched
pub none-touched :
    {R : Type 0} (format : Format R) (records : List R)
    → first_multiple format [] records ≡ None
none-touched {R = R} format records = ap (option_map format.name) (none records)
  where
    none :
        (others : List R)
        → find (λ r. touches format [] r && is_multiple format records r) others ≡ None
    none [] = refl
    none (r ∷ others) = none others
