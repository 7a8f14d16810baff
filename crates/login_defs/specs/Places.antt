-- The places of the numeric keys, as `Defs` keeps their values (login.defs(5)).
use Rattle.std.specs.Prelude.{ℕ}
use Rattle.account_model.specs.declared.settings.Key.{Key}
use Rattle.account_model.specs.declared.settings.Key.TheVariants.{UidMin, GidMin, UidMax, GidMax, SysUidMin, SysGidMin, SysUidMax, SysGidMax, SubUidMin, SubGidMin, SubUidMax, SubGidMax, SubUidCount, SubGidCount, PassMinDays, PassMaxDays, PassWarnAge}

-- the place of a key in the list of all keys, from 0
abbrev pub key_place : Key → ℕ
key_place UidMin = 0
key_place GidMin = 1
key_place UidMax = 2
key_place GidMax = 3
key_place SysUidMin = 4
key_place SysGidMin = 5
key_place SysUidMax = 6
key_place SysGidMax = 7
key_place SubUidMin = 8
key_place SubGidMin = 9
key_place SubUidMax = 10
key_place SubGidMax = 11
key_place SubUidCount = 12
key_place SubGidCount = 13
key_place PassMinDays = 14
key_place PassMaxDays = 15
key_place PassWarnAge = 16
