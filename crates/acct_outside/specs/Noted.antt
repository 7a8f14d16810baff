-- What a folder notes in its journal, as contracts see it.
use Rattle.std.specs.Prelude.{List, ◌∷◌}
use Rattle.acct_outside.specs.declared.journal.Ask.{Ask}
use Rattle.acct_outside.specs.declared.journal.Ask.TheVariants.{Enter, Begin, Locks, Read, Verdict, Create, Write, Append, Rename, Remove, Answered}
use Rattle.acct_outside.specs.declared.journal.Note.{Note}
use Rattle.acct_outside.specs.declared.journal.Note.TheVariants.{Asked, Showed, Done}
use Rattle.acct_outside.specs.Calls.{begins, lists, reads, asks, creates, writes, appends, renames, removes, answers}
use Rattle.acct_outside.specs.Journal.{Entry, Reply, enters, makes, replied, showed, was_done, was_refused}

-- what was asked, with what it came to
abbrev pub asked_with : Ask → Reply → Entry
asked_with (Enter prefix) reply = enters prefix.now reply
asked_with (Begin words input day) reply =
    makes (begins (record { words = words.now; input = input.now; day = day })) reply
asked_with Locks reply = makes lists reply
asked_with (Read name) reply = makes (reads name) reply
asked_with (Verdict token) reply = makes (asks token.now) reply
asked_with (Create number) reply = makes (creates number) reply
asked_with (Write name piece) reply = makes (writes name piece.now) reply
asked_with (Append name piece) reply = makes (appends name piece.now) reply
asked_with (Rename from to) reply = makes (renames from to) reply
asked_with (Remove name) reply = makes (removes name) reply
asked_with (Answered status) reply = makes (answers status) reply

-- The journal with what is noted: what the folder is asked is refused, unless it is told to have come
-- to something else.
abbrev pub noted : Note → List Entry → List Entry
noted (Asked ask) entries = asked_with ask was_refused ∷ entries
noted (Showed numbers) entries = replied (showed numbers.now) entries
noted Done entries = replied was_done entries
