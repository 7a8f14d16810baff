-- The lines of the input of chpasswd(8) and chgpasswd(8), each NAME:HASH.
use Rattle.std.specs.Prelude.{◌≡◌, ℕ, true, false, List, Option, Some, None, option_map}
use Rattle.acct_text.specs.declared.files.Files.{Files}
use Rattle.acct_text.specs.Bytes.{colon}
use Rattle.account_model.specs.declared.hashes_of.HashesOf.{HashesOf}
use Rattle.account_model.specs.declared.refusal.Refusal.{Refusal}
use Rattle.account_model.specs.declared.refusal.Refusal.TheVariants.{BadLine}
use Rattle.account_model.specs.Chpasswd.{line_hash, line_account, line_problem, set_hash}
use Rattle.account_model.specs.Tables.{Script}
use Rattle.account_model.specs.Text.{has_byte}
use Rattle.aging_commands.specs.declared.hash_lines.NewHash.{NewHash}

-- a user or a group, and the new hash
pub record HashLine : Type 0 where
  pub name : List ℕ
  pub hash : List ℕ

-- those of the text of a line
abbrev pub hash_line : List ℕ → HashLine
hash_line text = record { name = line_account text; hash = line_hash text }

-- those that were read
abbrev pub seen_new : NewHash → HashLine
seen_new new = record { name = new.name.now; hash = new.hash.now }

-- a line is cut into the name and the hash where it has a `:`, and else not
abbrev pub IsCut : List ℕ → Option NewHash → Type 0
IsCut text None = has_byte colon text ≡ false
IsCut text (Some new) = (has_byte colon text ≡ true) × (seen_new new ≡ hash_line text)

-- the refusal of the line of this number, where something is wrong with it
abbrev pub line_refusal : HashesOf → Files → ℕ → List ℕ → Option Refusal
line_refusal whose files number text = option_map (BadLine number) (line_problem whose files text)

-- what a line does
abbrev pub script_for : HashesOf → Files → ℕ → HashLine → Script
script_for whose files day line = set_hash whose line.name line.hash files day
