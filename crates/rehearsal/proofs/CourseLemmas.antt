-- Claims: at each place of a rehearsal all six tables stand (`reached-stands`), and at most as many
-- commands have changed them as stand before it (`reached-changed`).
-- Way: an answer keeps the tables standing, as deeds do, and counts for one change at most.
use Rattle.std.proofs.Common.{◌≡◌, ◌∙◌, refl, sym, ap, List, ℕ, zero, suc, ◌+◌, ◌≤◌, Bool, true, false, Option, Some, None, Result, Ok, Err, [], arith, add-one}
use Rattle.std.specs.Prelude.{if◌then◌else◌, unwrap_or}
use Rattle.acct_text.specs.declared.Tab.TheVariants.{Passwd}
use Rattle.acct_text.specs.declared.files.Files.{Files}
use Rattle.account_model.specs.declared.word_fault.WordFault.{WordFault}
use Rattle.account_model.specs.Answer.{answer, new_files}
use Rattle.account_model.specs.Options.{Word}
use Rattle.account_model.specs.Request.{Request}
use Rattle.account_model.specs.Words.{request_of}
use Rattle.account_model.proofs.DeedLaws.{changes-is}
use Rattle.acct_outside.specs.Moment.{Past}
use Rattle.suite_session.specs.Deeds.{is_change}
use Rattle.rehearsal.specs.Alone.{HasFiles, files_at}
use Rattle.rehearsal.specs.declared.course.Reached.{Reached}
use Rattle.rehearsal.specs.Commands.{command_at, words_of}
use Rattle.rehearsal.specs.Course.{after_read, after_words, empty_files, reached, rehearsal_day}
use Rattle.rehearsal.specs.Images.{AllStand, IsAnswered}

-- ---- The tables stand

-- so they do at first
first-stands : AllStand empty_files
first-stands Passwd = refl
first-stands other = refl

-- and after each command, where they did before
read-stands : (read : Result Request WordFault) (was : Reached) → AllStand was.files →
    AllStand (after_read read was).files
read-stands (Err fault) was stand = stand
read-stands (Ok request) was stand =
    by-change (new_files (answer request [] rehearsal_day was.files None).cause) refl
  where
    by-change : (made : Option Files) →
        new_files (answer request [] rehearsal_day was.files None).cause ≡ made →
        AllStand (unwrap_or made was.files)
    by-change None is = stand
    by-change (Some files) is = λ table.
        (changes-is request [] rehearsal_day was.files None files is).standing table ∙ stand table

-- the claim
pub reached-stands : (seed place : ℕ) → AllStand (reached seed place).files
reached-stands seed zero = first-stands
reached-stands seed (suc place) =
    read-stands (request_of (words_of (command_at seed place))) (reached seed place)
    (reached-stands seed place)

-- ---- The changes

-- a command counts for one at most
read-changed : (read : Result Request WordFault) (was : Reached) →
    (after_read read was).changed ≤ suc was.changed
read-changed (Err fault) was = omega arith
read-changed (Ok request) was =
    by-change (is_change (answer request [] rehearsal_day was.files None).cause)
  where
    by-change : (changes : Bool) →
        (if changes then was.changed + 1 else was.changed) ≤ suc was.changed
    by-change true = omega arith
    by-change false = omega arith

-- one more keeps the bound one more
one-more : (next was place : ℕ) → next ≤ suc was → was ≤ place → next ≤ suc place
one-more next was place one before = omega arith

-- the claim
pub reached-changed : (seed place : ℕ) → (reached seed place).changed ≤ place
reached-changed seed zero = omega arith
reached-changed seed (suc place) =
    one-more (reached seed (suc place)).changed (reached seed place).changed place
    (read-changed (request_of (words_of (command_at seed place))) (reached seed place))
    (reached-changed seed place)

-- ---- One command more

-- what is reached at the next place
pub reached-next : (seed place : ℕ) (was next : Reached) → was ≡ reached seed place →
    next ≡ after_words (words_of (command_at seed place)) was → next ≡ reached seed (place + 1)
reached-next seed place was next is makes =
    rw add-one (makes ∙ ap (after_words (words_of (command_at seed place))) is)

-- what a command leaves that found these tables in a folder of its own
pub left-by : (words : List Word) (was : Reached) (old new : Past) (changes : Bool) (files : Files)
    (changed : ℕ) → HasFiles was.files old → IsAnswered words old new changes →
    files ≡ files_at new → changed ≡ (if changes then was.changed + 1 else was.changed) →
    record { files = files; changed = changed } ≡ after_words words was
left-by words was old new changes files changed found answered laid counts =
    (λ i. record { files = laid i; changed = counts i })
    ∙ (sym (answered.leaves was.changed)
    ∙ ap (λ (one : Files). after_words words (record { files = one; changed = was.changed }))
    found.files)
