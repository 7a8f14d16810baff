use Rattle.std.proofs.Common.{◌≡◌, ◌++◌, List, drop}
use Rattle.std.specs.Prelude.{map}
use Rattle.account_model.specs.Settings.{Setting, bad_word, word_setting}
use Rattle.login_defs.specs.Held.{HasSettings}
use Rattle.command_values.proofs.OptionLemmas.{values_in}
use Rattle.command_values.proofs.asked.Asked.settings.Given as goal

-- the first bad word of the options left is that of all; and the words so far are settings behind
-- those of login.defs
abbrev pub invariant-loop-option : goal.invariant-loop-option
invariant-loop-option l = record {
  refused :
      bad_word (values_in 75 (drop l.option-index l.option-items))
      ≡ bad_word (values_in 75 l.option-items);
  held : (settings : List Setting) → HasSettings l.defs settings → (before : List Setting)
      × HasSettings l.settings before
      × (before ++ map word_setting (values_in 75 (drop l.option-index l.option-items))
      ≡ settings ++ map word_setting (values_in 75 l.option-items));
}
