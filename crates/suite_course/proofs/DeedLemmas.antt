-- Claim: the tools have deeds (`tools-have-deeds`). Way: a deed of a tool is a change of its files,
-- and these are the contents that the deed was asked on.
use Rattle.std.proofs.Common.{◌≡◌, refl, subst, Option, Some, None, option_map, Result, Ok, Err}
use Rattle.acct_text.specs.Bytes.{Bytes}
use Rattle.acct_text.specs.declared.files.Files.{Files}
use Rattle.acct_text.specs.Contents.{Contents, IsChange}
use Rattle.acct_text.specs.Files.{table_of}
use Rattle.acct_outside.specs.Calls.{Command}
use Rattle.account_model.specs.declared.word_fault.WordFault.{WordFault}
use Rattle.account_model.specs.Request.{Request}
use Rattle.account_model.specs.Answer.{deed}
use Rattle.account_model.specs.Laws.{DeedsAreChanges}
use Rattle.account_model.specs.Words.{request_of}
use Rattle.suite_rules.specs.Deeds.{SuiteDeeds}
use Rattle.suite_session.specs.Deeds.{files_of, tools_deed, tools_answer_same, tools_shows_same, AreOfTools}
use Rattle.suite_session.proofs.ReportProblems.{files-have}

-- what stands is one thing
some-inner : {T : Type 0} {one other : T} → Some one ≡ Some other → one ≡ other
some-inner same = cc

-- a deed by what the words ask for
abbrev deed_by : Result Request WordFault → Command → Contents → Option Bytes → Option Contents
deed_by read command contents defs = elim read [
  | Err fault ↦ None
  | Ok request ↦ option_map table_of
      (deed request command.input command.day (files_of contents) defs)
]

module _ (changes : DeedsAreChanges) (command : Command) (contents : Contents) (defs : Option Bytes)
    (new : Contents) where
  -- a deed's files are a change of the contents
  made : (request : Request) (files : Option Files) →
      deed request command.input command.day (files_of contents) defs ≡ files →
      option_map table_of files ≡ Some new → IsChange contents new
  made request (Some files) is makes =
      subst (λ (old : Contents). IsChange old new) (λ i table. files-have contents table i)
      (subst (IsChange (table_of (files_of contents))) (some-inner makes)
      (changes request command.input command.day (files_of contents) defs files is))
  made request None is makes = absurd (cc)

  -- so it is whatever the words ask for
  made-by : (read : Result Request WordFault) → deed_by read command contents defs ≡ Some new →
      IsChange contents new
  made-by (Ok request) makes = made request _ refl makes
  made-by (Err fault) makes = absurd (cc)

-- the law
pub tools-have-deeds : DeedsAreChanges → (deeds : SuiteDeeds) × AreOfTools deeds
tools-have-deeds changes = (
  record {
    deed = tools_deed;
    answers_same = tools_answer_same;
    shows_same = tools_shows_same;
    makes_changes = λ command contents defs new makes.
        made-by changes command contents defs new (request_of command.words) makes;
  },
  record { is_deed = refl; is_same = refl; is_shown = refl },
)
