-- A command that is no report sees all files as they stand (`sees-all`).
use Rattle.std.proofs.Common.{◌≡◌, refl, false}
use Rattle.std.specs.Prelude.{is_some}
use Rattle.account_model.proofs.SpelledIsRead.{both_false}
use Rattle.acct_text.specs.declared.files.Files.{Files}
use Rattle.account_model.specs.Request.{Request, is_report}
use Rattle.account_model.specs.SeenFiles.{seen_files}

pub sees-all : (request : Request) → is_report request ≡ false → (files : Files) →
    seen_files request files ≡ files
sees-all request is files =
    let silent = (both_false (is_some request.plan) _ is).1 in rw silent refl
