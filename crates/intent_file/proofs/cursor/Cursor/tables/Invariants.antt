use Rattle.intent_file.specs.Cursor.{TakesTables}
use Rattle.intent_file.proofs.cursor.Cursor.tables.Given as goal

-- so many tables are taken as parts are gone over
abbrev pub invariant-parts : goal.invariant-parts
invariant-parts l = TakesTables l.initial.self l.place l.tables.items l.self
