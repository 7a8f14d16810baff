-- Rows of login.defs(5), beside those of account_model: what stands where a key isn't set, and the
-- words of `-K`.
use Rattle.std.specs.Prelude.{◌≡◌, [], ◌∷◌, codes, refl, Some, None, false}
use Rattle.account_model.specs.declared.settings.Key.TheVariants.{SysUidMax}
use Rattle.account_model.specs.declared.settings.Kind.TheVariants.{System}
use Rattle.account_model.specs.declared.settings.IdSort.TheVariants.{Uid, Gid}
use Rattle.account_model.specs.Settings.{number, range, user_groups, with_words, is_setting_word}
use Rattle.account_model.specs.Ids.{chosen_id}
use Rattle.table_tests.proofs.ValueRows.{Divides}

-- ---- without a setting

system_range : range Uid System [] ≡ Some (101, 999)
system_range = refl

no_flag : user_groups [] ≡ false
no_flag = refl

free_gid : chosen_id System (range Gid System []) [] ≡ Some 999
free_gid = refl

-- no UID lies below the least regular one, which is 0
no_system_range : range Uid System (with_words (codes "UID_MIN=0" ∷ []) []) ≡ None
no_system_range = refl

no_greatest : number SysUidMax (with_words (codes "UID_MIN=0" ∷ []) []) ≡ None
no_greatest = refl

-- ---- which words of `-K` are settings (useradd(8), groupadd(8))

-- a number may be hexadecimal, a flag any word, and days -1
setting_words : Divides is_setting_word
    ("GID_MIN=0x10" ∷ "USERGROUPS_ENAB=maybe" ∷ "PASS_MAX_DAYS=-1" ∷ [])
    ("GID_MIN=-1" ∷ "GID_MIN=5=" ∷ "GID_MIN" ∷ "UMASK=022" ∷ "=5" ∷ [])
setting_words = (refl, refl)
