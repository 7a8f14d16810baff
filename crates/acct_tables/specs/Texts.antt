-- The bytes of a file, lent or owned (passwd(5), and likewise the other five tables).
use Rattle.std.specs.Prelude.{ℕ, List}
use Rattle.acct_tables.specs.declared.file_text.KeptText.{KeptText}
use Rattle.acct_tables.specs.declared.file_text.KeptText.TheVariants.{Lent, Own}

-- those that are kept elsewhere or here
abbrev pub bytes_kept : KeptText → List ℕ
bytes_kept (Lent bytes) = bytes.now
bytes_kept (Own bytes) = bytes
