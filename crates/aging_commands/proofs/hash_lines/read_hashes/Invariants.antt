use Rattle.std.proofs.Common.{◌≡◌, ◌+◌, map, take, drop}
use Rattle.acct_text.specs.Bytes.{part_of}
use Rattle.acct_text.specs.Lines.{lines_of, texts_of}
use Rattle.aging_commands.specs.HashLines.{hash_line, seen_new}
use Rattle.aging_commands.proofs.HashLineLemmas.{bad_text_from}
use Rattle.aging_commands.proofs.hash_lines.read_hashes.Given as goal

-- the lines so far are read and none is bad
abbrev pub invariant-lines : goal.invariant-lines
invariant-lines l = record {
  read : map seen_new l.hashes.items
      ≡ map hash_line (map (part_of l.input) (take l.start-index l.start-items));
  good : bad_text_from l.whose 1 l.tables (texts_of (lines_of l.input))
      ≡ bad_text_from l.whose (l.start-index + 1) l.tables
      (map (part_of l.input) (drop l.start-index l.start-items));
  counted : l.number ≡ l.start-index;
}
