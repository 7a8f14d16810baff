-- pwconv, pwunconv, grpconv and grpunconv are lawful: `pwconv-lawful` and its like. Way: what a record takes over is a
-- field of one that a line holds, and so is what a new record is made of (`pwconv-written`); and each record is named.
use Rattle.std.proofs.Common.{◌≡◌, ℕ, ◌≤◌, Bool, true, false, List, [], ◌∷◌, refl, true≢false}
use Rattle.std.specs.Prelude.{Option, Some, None, bytes_eq, map, if◌then◌else◌}
use Rattle.std.specs.List.{AllByRecursion}
use Rattle.acct_text.specs.declared.files.Files.{Files}
use Rattle.account_model.specs.declared.records.PasswdRecord.{PasswdRecord}
use Rattle.account_model.specs.declared.records.ShadowRecord.{ShadowRecord}
use Rattle.account_model.specs.declared.records.GroupRecord.{GroupRecord}
use Rattle.account_model.specs.declared.records.GshadowRecord.{GshadowRecord}
use Rattle.account_model.specs.declared.tool.Tool.TheVariants.{Pwconv, Pwunconv, Grpconv, Grpunconv}
use Rattle.account_model.specs.Format.{Format, is_named, find_named}
use Rattle.account_model.specs.Edits.{AddMissing, Become}
use Rattle.account_model.specs.Records.{passwd_format, shadow_format, group_format, gshadow_format, greatest_days}
use Rattle.account_model.specs.RecordEdits.{IsWrittenEdit}
use Rattle.account_model.specs.Settings.{Setting}
use Rattle.account_model.specs.Written.{IsField, IsPasswd, IsShadow, IsGroup, IsGshadow, Holds}
use Rattle.account_model.specs.WrittenScript.{IsWrittenScript}
use Rattle.account_model.specs.Tables.{passwd_records, shadow_records, group_records, gshadow_records}
use Rattle.account_model.specs.Hashes.{elsewhere, gshadow_of}
use Rattle.account_model.specs.Conversion.{Accounts, users, groups, taken_over, gathered, hidden, with_shown, shown, emptied, take_password, shadow_of, take_group_password, pwconv_script, pwunconv_script, grpconv_script, grpunconv_script}
use Rattle.account_model.specs.NamedLines.{Named, names_group, names_gshadow, names_nothing, names_passwd, names_shadow}
use Rattle.account_model.proofs.KeptIds.{groups-keep, users-keep}
use Rattle.account_model.proofs.LawfulScripts.{lawful}
use Rattle.account_model.proofs.LawfulTools.{LawfulTool, quiet-act}
use Rattle.account_model.proofs.NamedLaws.{Spares, group-parts, groups-spare, gshadow-parts, passwd-parts, shadow-parts, users-spare}
use Rattle.account_model.proofs.HeldLaws.{passwd-holds, shadow-holds, group-holds, gshadow-holds, each-written, drop_where-written}
use Rattle.account_model.proofs.RefusalFacts.{table-held, find-held}
use Rattle.account_model.proofs.SettingBounds.{minimum-days, maximum-days, warning-days}
use Rattle.account_model.proofs.WrittenScripts.{users-written, groups-written, elsewhere-field}

-- ---- Any accounts

module _ {M H : Type 0} (accounts : Accounts M H) (IsMain : M → Type 0) (IsHash : H → Type 0)
    (main_holds : Holds accounts.main IsMain) (hashes_hold : Holds accounts.hashes IsHash)
    (field_held : (m : M) → IsMain m → IsField (accounts.field m))
    (hash_held : (h : H) → IsHash h → IsField (accounts.hash h))
    (with_held : (text : List ℕ) (m : M) → IsField text → IsMain m
    → IsMain (accounts.with_field text m)) where
  -- a record that takes a field over, by whether that is `x`
  taken-by :
      (take : M → H → H) (m : M) (h : H) (b : Bool)
      → IsHash h
      → IsHash (take m h)
      → IsHash (if b then h else take m h)
  taken-by take m h true is taken = is
  taken-by take m h false is taken = taken

  -- a record that takes a field over, where there is one
  taken-held :
      (take : M → H → H) (mains : List M) (h : H) (o : Option M)
      → ((m : M) → IsMain m → IsHash (take m h))
      → AllByRecursion IsMain mains
      → find_named accounts.main (accounts.hashes.name h) mains ≡ o
      → IsHash h
      → IsHash (elim o [
        | None ↦ h
        | Some m ↦ if bytes_eq (accounts.field m) elsewhere then h else take m h
      ])
  taken-held take mains h None keeps all found is = is
  taken-held take mains h (Some m) keeps all found is =
      taken-by take m h (bytes_eq (accounts.field m) elsewhere) is (keeps m
      (find-held IsMain (is_named accounts.main (accounts.hashes.name h)) mains m all found).0)

  -- new records
  made-written :
      (made : M → H) (mains : List M)
      → ((m : M) → IsMain m → IsHash (made m))
      → AllByRecursion IsMain mains
      → AllByRecursion (IsWrittenEdit accounts.hashes) (map (λ m. AddMissing (made m)) mains)
  made-written made [] keeps all = tt
  made-written made (m ∷ mains) keeps all =
      (hashes_hold.written (made m) (keeps m all.0), made-written made mains keeps all.1)

  -- all edits of the table of hashes
  gathered-written :
      (take : M → H → H) (made : M → H) (mains : List M)
      → ((m : M) (h : H) → IsMain m → IsHash h → IsHash (take m h))
      → ((m : M) → IsMain m → IsHash (made m))
      → AllByRecursion IsMain mains
      → AllByRecursion (IsWrittenEdit accounts.hashes) (gathered accounts take made mains)
  gathered-written take made mains takes makes all = (
    drop_where-written accounts.hashes IsHash hashes_hold _,
    (
      each-written accounts.hashes IsHash hashes_hold (taken_over accounts take mains)
          (λ h is. taken-held take mains h
          (find_named accounts.main (accounts.hashes.name h) mains)
          (λ m is_main. takes m h is_main is) all refl is),
      made-written made mains makes all,
    ),
  )

  -- each field becomes `x`
  hidden-written : AllByRecursion (IsWrittenEdit accounts.main) (hidden accounts)
  hidden-written = (
    each-written accounts.main IsMain main_holds (accounts.with_field elsewhere)
        (λ m is. with_held elsewhere m elsewhere-field is),
    tt,
  )

  -- a record that gets its hash as field, where there is one
  shown-held :
      (hashes : List H) (m : M) (o : Option H)
      → AllByRecursion IsHash hashes
      → find_named accounts.hashes (accounts.main.name m) hashes ≡ o
      → IsMain m
      → IsMain (elim o [ None ↦ m | Some h ↦ accounts.with_field (accounts.hash h) m ])
  shown-held hashes m None all found is = is
  shown-held hashes m (Some h) all found is = with_held (accounts.hash h) m (hash_held h
      (find-held IsHash (is_named accounts.hashes (accounts.main.name m)) hashes h all found).0) is

  -- each record gets its hash as field
  shown-written :
      (hashes : List H)
      → AllByRecursion IsHash hashes
      → AllByRecursion (IsWrittenEdit accounts.main) (shown accounts hashes)
  shown-written hashes all = (
    each-written accounts.main IsMain main_holds (with_shown accounts hashes)
        (λ m is. shown-held hashes m (find_named accounts.hashes (accounts.main.name m) hashes)
        all refl is),
    tt,
  )

  -- all records go
  emptied-written : AllByRecursion (IsWrittenEdit accounts.hashes) emptied
  emptied-written = (drop_where-written accounts.hashes IsHash hashes_hold (λ h. true), tt)

-- ---- Users

-- a user with another password field
user-with :
    (text : List ℕ) (user : PasswdRecord) → IsField text → IsPasswd user
    → IsPasswd (record user { password = text })
user-with text user field is = record {
  name = is.name;
  password = field;
  uid = is.uid;
  gid = is.gid;
  comment = is.comment;
  home = is.home;
  shell = is.shell;
}

-- the edits of pwconv
pub pwconv-written :
    (files : Files) (settings : List Setting) (day : ℕ)
    → day ≤ greatest_days
    → IsWrittenScript (pwconv_script files settings day)
pwconv-written files settings day small = users-written _ _
    (hidden-written users IsPasswd IsShadow passwd-holds shadow-holds
    (λ user is. is.password) (λ r is. is.hash) user-with)
    (gathered-written users IsPasswd IsShadow passwd-holds shadow-holds
    (λ user is. is.password) (λ r is. is.hash) user-with
    (take_password day) (shadow_of settings day) (passwd_records files)
    (λ user r is_user is. record {
      name = is.name;
      hash = is_user.password;
      last_change = small;
      minimum = is.minimum;
      maximum = is.maximum;
      warning = is.warning;
      inactive = is.inactive;
      expiration = is.expiration;
      rest = is.rest;
    })
    (λ user is. record {
      name = is.name;
      hash = is.password;
      last_change = small;
      minimum = minimum-days settings;
      maximum = maximum-days settings;
      warning = warning-days settings;
      inactive = tt;
      expiration = tt;
      rest = record { no_colon = tt; no_newline = tt };
    })
    (table-held passwd_format IsPasswd passwd-holds files.passwd))

-- those of pwunconv
pub pwunconv-written : (files : Files) → IsWrittenScript (pwunconv_script files)
pwunconv-written files = users-written _ _
    (shown-written users IsPasswd IsShadow passwd-holds shadow-holds
    (λ user is. is.password) (λ r is. is.hash) user-with (shadow_records files)
    (table-held shadow_format IsShadow shadow-holds files.shadow))
    (emptied-written users IsPasswd IsShadow passwd-holds shadow-holds
    (λ user is. is.password) (λ r is. is.hash) user-with)

-- ---- Groups

-- a group with another password field
group-with :
    (text : List ℕ) (group : GroupRecord) → IsField text → IsGroup group
    → IsGroup (record group { password = text })
group-with text group field is =
    record { name = is.name; password = field; gid = is.gid; members = is.members }

-- the edits of grpconv
pub grpconv-written : (files : Files) → IsWrittenScript (grpconv_script files)
grpconv-written files = groups-written _ _
    (hidden-written groups IsGroup IsGshadow group-holds gshadow-holds
    (λ group is. is.password) (λ r is. is.password) group-with)
    (gathered-written groups IsGroup IsGshadow group-holds gshadow-holds
    (λ group is. is.password) (λ r is. is.password) group-with
    take_group_password gshadow_of (group_records files)
    (λ group r is_group is. record {
      name = is.name;
      password = is_group.password;
      administrators = is.administrators;
      members = is.members;
    })
    (λ group is. record {
      name = is.name;
      password = is.password;
      administrators = tt;
      members = is.members;
    })
    (table-held group_format IsGroup group-holds files.group))

-- those of grpunconv
pub grpunconv-written : (files : Files) → IsWrittenScript (grpunconv_script files)
grpunconv-written files = groups-written _ _
    (shown-written groups IsGroup IsGshadow group-holds gshadow-holds
    (λ group is. is.password) (λ r is. is.password) group-with (gshadow_records files)
    (table-held gshadow_format IsGshadow gshadow-holds files.gshadow))
    (emptied-written groups IsGroup IsGshadow group-holds gshadow-holds
    (λ group is. is.password) (λ r is. is.password) group-with)

-- ---- The tools

-- where each record is named, an edit that sorts nothing spares what isn't
module _ {R : Type 0} (format : Format R) (names : R → Bool)
    (all : (r : R) → names r ≡ false → ⊥) where
  become-spares : (f : R → List R) → Spares format false names (Become f)
  become-spares f r none = absurd (all r none)

  -- and so do new records
  made-spares :
      {M : Type 0} (made : M → R) (mains : List M)
      → AllByRecursion (Spares format false names) (map (λ m. AddMissing (made m)) mains)
  made-spares made [] = tt
  made-spares made (m ∷ mains) = (tt, made-spares made mains)

-- a record with its hash as field has the ID that it had
shown-keeps :
    {M H I : Type 0} (accounts : Accounts M H) (id : M → I) (m : M) (found : Option H)
    → ((field : List ℕ) → id (accounts.with_field field m) ≡ id m)
    → id (elim found [ None ↦ m | Some h ↦ accounts.with_field (accounts.hash h) m ]) ≡ id m
shown-keeps accounts id m None same = refl
shown-keeps accounts id m (Some h) same = same (accounts.hash h)

-- each user is named, or each group
abbrev every_user : Named
every_user = record names_nothing { all_users = true }

abbrev every_group : Named
every_group = record names_nothing { all_groups = true }

all-passwd : (r : PasswdRecord) → names_passwd every_user r ≡ false → ⊥
all-passwd r none = true≢false (passwd-parts every_user r none).2

all-shadow : (r : ShadowRecord) → names_shadow every_user r ≡ false → ⊥
all-shadow r none = true≢false (shadow-parts every_user r none).1

all-group : (r : GroupRecord) → names_group every_group r ≡ false → ⊥
all-group r none = true≢false (group-parts every_group r none).2

all-gshadow : (r : GshadowRecord) → names_gshadow every_group r ≡ false → ⊥
all-gshadow r none = true≢false (gshadow-parts every_group r none).3

-- pwconv is lawful
pub pwconv-lawful : LawfulTool Pwconv
pwconv-lawful request input day files settings = quiet-act refl refl refl (λ none. record {
  written = record {
    passwd = hidden-written users IsPasswd IsShadow passwd-holds shadow-holds
        (λ user is. is.password) (λ r is. is.hash) user-with;
    shadow = λ small. (pwconv-written files settings day small).shadow;
    group = tt;
    gshadow = tt;
    subuid = tt;
    subgid = tt;
  };
  spares = users-spare _ _ (become-spares passwd_format _ all-passwd _, tt) (
    become-spares shadow_format _ all-shadow _,
    (
      become-spares shadow_format _ all-shadow _,
      made-spares shadow_format _ all-shadow (shadow_of settings day) (passwd_records files),
    ),
  );
  keep = λ none. users-keep _ _ ((λ user. refl), tt);
})

-- and so is pwunconv
pub pwunconv-lawful : LawfulTool Pwunconv
pwunconv-lawful request input day files settings =
    quiet-act refl refl refl (λ none. lawful (pwunconv-written files)
    (users-spare _ _ (become-spares passwd_format _ all-passwd _, tt)
    (become-spares shadow_format _ all-shadow _, tt))
    (λ none. users-keep _ _ (
      (λ user. shown-keeps users (λ one. one.uid) user
          (find_named shadow_format user.name (shadow_records files)) (λ field. refl)),
      tt,
    )))

-- grpconv
pub grpconv-lawful : LawfulTool Grpconv
grpconv-lawful request input day files settings =
    quiet-act refl refl refl (λ none. lawful (grpconv-written files)
    (groups-spare _ _ (become-spares group_format _ all-group _, tt) (
      become-spares gshadow_format _ all-gshadow _,
      (
        become-spares gshadow_format _ all-gshadow _,
        made-spares gshadow_format _ all-gshadow gshadow_of (group_records files),
      ),
    ))
    (λ none. groups-keep _ _ ((λ group. refl), tt)))

-- grpunconv
pub grpunconv-lawful : LawfulTool Grpunconv
grpunconv-lawful request input day files settings =
    quiet-act refl refl refl (λ none. lawful (grpunconv-written files)
    (groups-spare _ _ (become-spares group_format _ all-group _, tt)
    (become-spares gshadow_format _ all-gshadow _, tt))
    (λ none. groups-keep _ _ (
      (λ group. shown-keeps groups (λ one. one.gid) group
          (find_named gshadow_format group.name (gshadow_records files)) (λ field. refl)),
      tt,
    )))
