-- Claim: lines that no committed command touches, or names, stay (`untouched-lines-stay`). Way: the edits of a deed make it,
-- so those of commands one after another make their fold (`fold-made`), and spare what these don't name (`fold-spares`); the
-- settled files of a lawful history are that fold.
use Rattle.std.specs.List.{AllByRecursion}
use Rattle.std.proofs.Common.{◌≡◌, ◌≤◌, Bool, true, false, true≢false, List, [], ◌∷◌, refl, sym, subst, Option, Some, None, option_map, unwrap_or, Result, Ok, Err}
use Rattle.acct_text.specs.Bytes.{Bytes}
use Rattle.acct_text.specs.Contents.{Contents}
use Rattle.acct_text.specs.Files.{table_of}
use Rattle.acct_text.specs.declared.files.Files.{Files}
use Rattle.acct_outside.specs.Calls.{Command}
use Rattle.acct_outside.specs.Folder.{settings_file}
use Rattle.acct_outside.specs.History.{after}
use Rattle.account_model.specs.declared.word_fault.WordFault.{WordFault}
use Rattle.account_model.specs.Answer.{deed}
use Rattle.account_model.specs.DeedLines.{DeedsLeaveUntouched, edits_of_deed, is_sort}
use Rattle.account_model.specs.NamedLines.{Named, named_by_deed, names_nothing}
use Rattle.account_model.specs.Settings.{settings_of}
use Rattle.account_model.specs.Records.{greatest_days}
use Rattle.account_model.specs.Request.{Request}
use Rattle.account_model.specs.Tables.{Script, files_after, no_edits}
use Rattle.account_model.specs.Words.{is_batch, request_of}
use Rattle.account_model.proofs.NamedDeeds.{both-spare, deed-spares}
use Rattle.account_model.proofs.NamedLaws.{SparesUnnamed, spares-composed, spares-order, spares-untouched}
use Rattle.account_model.proofs.AsksLaws.{asks_iff_read}
use Rattle.account_model.proofs.UnnamedLines.{files-leave}
use Rattle.account_model.proofs.UntouchedDeeds.{IsMadeBy, both-made, made-leaves, none-made}
use Rattle.suite_rules.specs.Deeds.{SuiteDeeds}
use Rattle.suite_rules.specs.Laws.{LawfulSettles}
use Rattle.suite_rules.specs.Settled.{settled}
use Rattle.suite_rules.specs.Committed.{Commitment, committed, fold_deeds, folded}
use Rattle.suite_session.specs.Deeds.{AreOfTools, files_of, tools_deed}
use Rattle.suite_core.specs.Untouched.{AreByCommands, AreInTime, SortsNothing, UntouchedLinesStay, edits_of_command, edits_of_commands, edits_of_request, edits_where_made, named_by_command, named_by_commands, named_by_request, names_where_made}
use Rattle.suite_core.proofs.ApartLemmas.{deed_by}

-- the edits by what the words ask for
abbrev edits_by : Result Request WordFault → Command → Files → Option Bytes → Script
edits_by read command files defs = elim read [
  | Err fault ↦ no_edits
  | Ok request ↦ edits_of_request request command files defs
]

module _ (leave : DeedsLeaveUntouched) where
  -- the files after a deed, if there is one
  deed-made :
      (request : Request) (command : Command) (contents : Contents) (defs : Option Bytes)
      (made : Option Files)
      → command.day ≤ greatest_days
      → deed request command.input command.day (files_of contents) defs ≡ made
      → IsMadeBy (edits_where_made made
      (edits_of_deed request command.input command.day (files_of contents) defs))
      (files_of contents) (files_of (unwrap_or (option_map table_of made) contents))
  deed-made request command contents defs None in_time is = none-made (files_of contents)
  deed-made request command contents defs (Some new) in_time is =
      let by = leave request command.input command.day (files_of contents) defs new in_time is
      in record { written = by.written; makes = by.makes }

  -- the files after a command, by what its words ask for
  read-made :
      (command : Command) (contents : Contents) (defs : Option Bytes)
      (read : Result Request WordFault)
      → command.day ≤ greatest_days
      → IsMadeBy (edits_by read command (files_of contents) defs) (files_of contents)
      (files_of (unwrap_or (deed_by read command contents defs) contents))
  read-made command contents defs (Err fault) in_time = none-made (files_of contents)
  read-made command contents defs (Ok request) in_time =
      deed-made request command contents defs
      (deed request command.input command.day (files_of contents) defs) in_time refl

  -- the files after a command
  command-made :
      (command : Command) (contents : Contents) (defs : Option Bytes)
      → command.day ≤ greatest_days
      → IsMadeBy (edits_of_command command (files_of contents) defs) (files_of contents)
      (files_of (unwrap_or (tools_deed command contents defs) contents))
  command-made command contents defs in_time =
      read-made command contents defs (request_of command.words) in_time

  -- the files after commands, one after another
  fold-made :
      (deeds : SuiteDeeds)
      → AreOfTools deeds
      → (defs : Option Bytes) (list : List Commitment) (contents : Contents)
      → AreInTime list
      → IsMadeBy (edits_of_commands defs list (files_of contents)) (files_of contents)
      (files_of (fold_deeds deeds defs contents list))
  fold-made deeds ours defs [] contents in_time = none-made (files_of contents)
  fold-made deeds ours defs (one ∷ list) contents in_time =
      let next = unwrap_or (deeds.deed one.command contents defs) contents
      in both-made (edits_of_command one.command (files_of contents) defs)
      (edits_of_commands defs list) (files_of contents) (files_of next)
      (files_of (fold_deeds deeds defs next list))
      (subst (λ (by : Command → Contents → Option Bytes → Option Contents).
      IsMadeBy (edits_of_command one.command (files_of contents) defs) (files_of contents)
      (files_of (unwrap_or (by one.command contents defs) contents))) (sym ours.is_deed)
      (command-made one.command contents defs in_time.0))
      (fold-made deeds ours defs list next in_time.1)

-- ---- What is named

-- the edits of a deed, if there is one
made-spares :
    (request : Request) (command : Command) (files : Files) (defs : Option Bytes)
    (made : Option Files)
    → SparesUnnamed (is_sort request) (names_where_made made
    (named_by_deed request command.input command.day files defs))
    (edits_where_made made (edits_of_deed request command.input command.day files defs))
made-spares request command files defs None = (spares-composed names_nothing).none
made-spares request command files defs (Some new) =
    deed-spares request command.input command.day files (settings_of (unwrap_or defs []))
    (is_batch request.tool)

-- the names by what the words ask for
abbrev named_by_read : Result Request WordFault → Command → Files → Option Bytes → Named
named_by_read read command files defs = elim read [
  | Err fault ↦ names_nothing
  | Ok request ↦ named_by_request request command files defs
]

-- whether what they ask for sorts
abbrev sorts_by_read : Result Request WordFault → Bool
sorts_by_read read = elim read [ Err fault ↦ false | Ok request ↦ is_sort request ]

-- a command that sorts nothing
read-sorts :
    (one : Commitment) (read : Result Request WordFault)
    → request_of one.command.words ≡ read
    → SortsNothing one
    → sorts_by_read read ≡ false
read-sorts one (Err fault) is none = refl
read-sorts one (Ok request) is none =
    none request ((asks_iff_read one.command.words request).1 is)

-- the edits of a command spare what it doesn't name
read-spares :
    (command : Command) (files : Files) (defs : Option Bytes) (read : Result Request WordFault)
    → SparesUnnamed (sorts_by_read read) (named_by_read read command files defs)
    (edits_by read command files defs)
read-spares command files defs (Err fault) = (spares-composed names_nothing).none
read-spares command files defs (Ok request) = made-spares request command files defs
    (deed request command.input command.day files defs)

-- and so do those of commands one after another, which sort nothing where none of these does
fold-spares :
    {sorts : Bool} (defs : Option Bytes) (list : List Commitment) (files : Files)
    → (sorts ≡ false → AllByRecursion SortsNothing list)
    → SparesUnnamed sorts (named_by_commands defs list files) (edits_of_commands defs list files)
fold-spares defs [] files none = (spares-composed names_nothing).none
fold-spares defs (one ∷ list) files none =
    let first = edits_of_command one.command files defs
    in let next = files_after first files
    in both-spare (named_by_command one.command files defs) (named_by_commands defs list next)
    first (edits_of_commands defs list next)
    (λ asked. read-sorts one (request_of one.command.words) refl (none asked).0) (λ asked. asked)
    (read-spares one.command files defs (request_of one.command.words))
    (fold-spares defs list next (λ asked. (none asked).1))

-- ---- The law

-- what commands make leaves what they don't touch, and what they don't name
by-commands :
    (defs : Option Bytes) (list : List Commitment) (old new : Files)
    → IsMadeBy (edits_of_commands defs list old) old new
    → AreByCommands defs list old new
by-commands defs list old new made =
    let edits = edits_of_commands defs list old
    in let named = named_by_commands defs list old
    in let by = made-leaves edits old new made
    in record {
      untouched = by;
      unnamed = files-leave named edits old new
          (spares-untouched named edits
          (fold-spares {sorts = true} defs list old (λ wrong. absurd (true≢false wrong)))) by.leave;
      order = λ none. spares-order named edits refl (fold-spares defs list old (λ asked. none));
    }

-- the law
pub untouched-lines-stay : DeedsLeaveUntouched → LawfulSettles → UntouchedLinesStay
untouched-lines-stay leave settles = record {
  after_front = λ deeds ours first history front later is in_time.
      by-commands (settings_file first) front (files_of (settled first))
      (files_of (folded deeds first front))
      (fold-made leave deeds ours (settings_file first) front (settled first) in_time);
  at_present = λ deeds ours first history lawful in_time.
      let same : settled (after first history) ≡ folded deeds first (committed history) =
      λ i table. settles.is_fold deeds first history lawful table i
      in subst (λ (contents : Contents).
      AreByCommands (settings_file first) (committed history) (files_of (settled first))
      (files_of contents)) (sym same)
      (by-commands (settings_file first) (committed history) (files_of (settled first))
      (files_of (folded deeds first (committed history)))
      (fold-made leave deeds ours (settings_file first) (committed history) (settled first)
      in_time));
}
