-- What useradd(8) and groupadd(8) share: the kind and the settings of a new account, its hash, and a new group.
use Rattle.std.specs.Prelude.{ℕ, List, [], ◌∷◌, codes, is_some, Option, if◌then◌else◌}
use Rattle.acct_text.specs.declared.files.Files.{Files}
use Rattle.account_model.specs.declared.records.GroupRecord.{GroupRecord}
use Rattle.account_model.specs.declared.records.GshadowRecord.{GshadowRecord}
use Rattle.account_model.specs.declared.settings.Kind.{Kind}
use Rattle.account_model.specs.declared.settings.Kind.TheVariants.{Regular, System}
use Rattle.account_model.specs.declared.settings.IdSort.TheVariants.{Uid, Gid}
use Rattle.account_model.specs.Edits.Edit.{Add, Put}
use Rattle.account_model.specs.Tables.{Script, no_edits}
use Rattle.account_model.specs.Values.{text_value}
use Rattle.account_model.specs.Settings.{Setting, range, with_words}
use Rattle.account_model.specs.Ids.{used_uids, used_gids, chosen_id}
use Rattle.account_model.specs.Hashes.{elsewhere, locked}
use Rattle.account_model.specs.Request.{Request, has_option, values_of}

-- `-r` makes a system account
abbrev pub kind_of : Request → Kind
kind_of request = if has_option (codes "r") request then System else Regular

-- the settings of login.defs(5), and behind them those of `-K`
abbrev pub settings_for : Request → List Setting → List Setting
settings_for request settings = with_words (values_of (codes "K") request) settings

-- a UID that no user has, chosen from the range of the kind
abbrev pub free_uid : Kind → Files → List Setting → Option ℕ
free_uid kind files settings = chosen_id kind (range Uid kind settings) (used_uids files)

-- a GID that no group has, chosen from the range of the kind
abbrev pub free_gid : Kind → Files → List Setting → Option ℕ
free_gid kind files settings = chosen_id kind (range Gid kind settings) (used_gids files)

-- the hash of `-p`, and else `!`
abbrev pub new_hash : Request → List ℕ
new_hash request = text_value (codes "p") request locked

-- a line of group without members
abbrev pub new_group : List ℕ → List ℕ → ℕ → GroupRecord
new_group name password gid = record { name = name; password = password; gid = gid; members = [] }

-- a line of gshadow without administrators and members
abbrev pub new_gshadow : List ℕ → List ℕ → GshadowRecord
new_gshadow name hash = record { name = name; password = hash; administrators = []; members = [] }

-- `NAME:x:GID:` in group and `NAME:HASH::` in gshadow; without gshadow the hash stands in group
abbrev pub add_group : List ℕ → List ℕ → ℕ → Files → Script
add_group name hash gid files = record no_edits {
  group = Add (new_group name (if is_some files.gshadow then elsewhere else hash) gid) ∷ [];
  gshadow = Put (new_gshadow name hash) ∷ [];
}
