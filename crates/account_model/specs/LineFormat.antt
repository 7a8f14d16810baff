-- What the format of each table keeps (passwd(5), shadow(5), group(5), gshadow(5), subuid(5)).
use Rattle.std.specs.Prelude.{◌≡◌, ℕ, List, Option, Some, is_some, is_none}
use Rattle.account_model.specs.declared.fault.LineFault.{LineFault}
use Rattle.acct_text.specs.Bytes.{newline}
use Rattle.acct_text.specs.Pieces.{Lacks}
use Rattle.account_model.specs.Format.{Format}
use Rattle.account_model.specs.RecordEdits.{TellsSame}
use Rattle.account_model.specs.Written.{IsWritten}

-- a format, with the function that names the fault of a line that isn't a record of it
pub record IsLineFormat {R : Type 0} (format : Format R) (fault : List ℕ → Option LineFault)
    : Type 0 where
  -- two records are the same exactly where they are equal
  pub same : TellsSame format
  -- what was read from a line can be printed as a line
  pub written : (text : List ℕ) (r : R) → Lacks newline text → format.read text ≡ Some r
      → IsWritten format r
  -- a text is a record exactly where it has no fault
  pub faulted : (text : List ℕ) → is_some (format.read text) ≡ is_none (fault text)
