-- What a line of the settings file adds, and when it is refused (login.defs(5)).
use Rattle.std.specs.Prelude.{ℕ, true, List, [], ◌++◌, Option, None, Some, if◌then◌else◌}
use Rattle.std.specs.List.{cons_option}
use Rattle.account_model.specs.Settings.{Setting, words_of, setting_of_words, is_bad_line}
use Rattle.login_defs.specs.declared.defs.Defs.{Defs}
use Rattle.login_defs.specs.declared.defs.DefsFault.{DefsFault}
use Rattle.login_defs.specs.declared.defs.DefsFault.TheVariants.{BadNumber}
use Rattle.login_defs.specs.Held.{HasSettings}

-- the setting that a text is; blank lines, comments and keys alone have none
abbrev pub text_setting : List ℕ → Option Setting
text_setting text = setting_of_words (words_of text)

-- the new hold the setting of the line, if it has one, behind those that the old hold
abbrev pub AddsLine : Defs → Defs → List ℕ → Type 0
AddsLine old new line = (settings : List Setting) → HasSettings old settings
    → HasSettings new (settings ++ cons_option (text_setting line) [])

-- the fault of a line with this number
abbrev pub line_fault : ℕ → List ℕ → Option DefsFault
line_fault number line = if is_bad_line (record { text = line; ended = true })
    then Some (BadNumber number) else None
