-- A small suite for the rows: its one deed adds the group staff to an empty passwd and an empty group,
-- as `groupadd -P R -g 1500 staff` does.
use Rattle.std.proofs.Common.{◌≡◌, ◌≢◌, refl, sym, ap, ◌∙◌, ℕ, zero, suc, ◌<◌, ◌≤◌, lit≤, not-suc-le-zero, le_of_suc-le-suc, Bool, true, false, [], ◌∷◌, length, get_or, Option, Some, None, is_some, IsSome, codes, true≢false}
use Rattle.std.specs.Fmt.{digits}
use Rattle.acct_text.specs.declared.Tab.{Tab}
use Rattle.acct_text.specs.declared.Tab.TheVariants.{Passwd, Shadow, Group, Gshadow, Subuid, Subgid}
use Rattle.acct_text.specs.Bytes.{Bytes}
use Rattle.acct_text.specs.Limits.{table_limit}
use Rattle.acct_text.specs.Contents.{Contents, IsChange}
use Rattle.acct_outside.specs.declared.Name.{Name}
use Rattle.acct_outside.specs.declared.Name.TheVariants.{Table, Staged, Intent}
use Rattle.acct_outside.specs.Tokens.{Token, IsToken}
use Rattle.acct_outside.specs.Folder.{Folder, IsFolder}
use Rattle.acct_outside.specs.Calls.{Command, writes, renames, removes}
use Rattle.acct_outside.specs.History.{History, after}
use Rattle.acct_outside.specs.Life.{running, life}
use Rattle.intent_file.specs.Intent.{Intended, ReadsIntent, intent_listing, listed_in}
use Rattle.suite_rules.specs.Deeds.{SuiteDeeds}
use Rattle.suite_rules.specs.Standing.{standing}
use Rattle.suite_rules.specs.Rules.{KeeperRule, KnowsIntent, install_rule, clear_rule}
use Rattle.suite_rules.specs.Lawful.{Lawful, goes_on}
use Rattle.suite_rules.specs.Knowledge.{Seen, Knowledge, knows_none, knows_bytes, knows_new, nothing_seen, table_with}
use Rattle.suite_rules.proofs.Sessions.{token-same}
use Rattle.suite_rules.proofs.RowSteps.{by, write-lawful, runs-on}

-- the line of the new group
abbrev pub staff_line : Bytes
staff_line = codes "staff:!:1500:\n"

-- passwd and group are empty, and nothing else stands
abbrev pub file_at_first : Name → Option Bytes
file_at_first (Table Passwd) = Some []
file_at_first (Table Group) = Some []
file_at_first _ = None

-- the first folder, without locks
abbrev pub first : Folder
first = record { file = file_at_first; locks = [] }

-- it is a folder
pub is-folder : IsFolder first
is-folder = record {
  standing = λ number. refl;
  ascending = λ place later default before below. absurd (not-suc-le-zero below);
  in_bounds = λ place default below. absurd (not-suc-le-zero below);
}

-- the six files with the new group
abbrev pub staff_files : Contents
staff_files Passwd = Some []
staff_files Group = Some staff_line
staff_files _ = None

-- the deed on these six files, in the fixed order, and none on others
abbrev pub deed_on : (passwd shadow group gshadow subuid subgid : Option Bytes) → Option Contents
deed_on (Some []) None (Some []) None None None = Some staff_files
deed_on _ _ _ _ _ _ = None

-- the command's deed
abbrev pub staff_deed : Command → Contents → Option Bytes → Option Contents
staff_deed command files defs =
    deed_on (files Passwd) (files Shadow) (files Group) (files Gshadow) (files Subuid)
    (files Subgid)

-- the six files on which the deed is one
pub record AreFirst (files new : Contents) : Type 0 where
  pub passwd : files Passwd ≡ Some []
  pub shadow : files Shadow ≡ None
  pub group : files Group ≡ Some []
  pub gshadow : files Gshadow ≡ None
  pub subuid : files Subuid ≡ None
  pub subgid : files Subgid ≡ None
  pub is_new : new ≡ staff_files

-- where there is a deed, the files are these
pub are-first : (files new : Contents) (passwd shadow group gshadow subuid subgid : Option Bytes) →
    files Passwd ≡ passwd → files Shadow ≡ shadow → files Group ≡ group →
    files Gshadow ≡ gshadow → files Subuid ≡ subuid → files Subgid ≡ subgid →
    deed_on passwd shadow group gshadow subuid subgid ≡ Some new → AreFirst files new
are-first files new (Some []) None (Some []) None None None one two three four five six is =
    record {
      passwd = one;
      shadow = two;
      group = three;
      gshadow = four;
      subuid = five;
      subgid = six;
      is_new = (cc);
    }
are-first files new _ _ _ _ _ _ one two three four five six is = absurd (cc)

-- the bytes are absent or empty
abbrev is_empty : Option Bytes → Bool
is_empty (Some (byte ∷ bytes)) = false
is_empty _ = true

-- the bytes' length, 0 for none
abbrev content_length : Option Bytes → ℕ
content_length None = 0
content_length (Some bytes) = length bytes

-- each new file is within the limit
staff-length : (table : Tab) → content_length (staff_files table) ≤ table_limit
staff-length Passwd = lit≤ tt
staff-length table = lit≤ tt

module _ (files new : Contents) (are : AreFirst files new) where
  -- group differs
  changes-group : new Group ≢ files Group
  changes-group same = true≢false (sym (ap is_empty
      (sym (ap (λ (some : Contents). some Group) are.is_new) ∙ (same ∙ are.group))))

  -- no table is made, and none goes
  keeps-standing : (table : Tab) → is_some (new table) ≡ is_some (files table)
  keeps-standing Passwd =
      ap (λ (some : Contents). is_some (some Passwd)) are.is_new ∙ sym (ap is_some are.passwd)
  keeps-standing Shadow =
      ap (λ (some : Contents). is_some (some Shadow)) are.is_new ∙ sym (ap is_some are.shadow)
  keeps-standing Group =
      ap (λ (some : Contents). is_some (some Group)) are.is_new ∙ sym (ap is_some are.group)
  keeps-standing Gshadow =
      ap (λ (some : Contents). is_some (some Gshadow)) are.is_new ∙ sym (ap is_some are.gshadow)
  keeps-standing Subuid =
      ap (λ (some : Contents). is_some (some Subuid)) are.is_new ∙ sym (ap is_some are.subuid)
  keeps-standing Subgid =
      ap (λ (some : Contents). is_some (some Subgid)) are.is_new ∙ sym (ap is_some are.subgid)

  -- each table keeps its limit
  keeps-limit : (table : Tab) (bytes : Bytes) → new table ≡ Some bytes →
      length bytes ≤ table_limit
  keeps-limit table bytes is =
      rw⁻¹ (ap content_length is) rw (are.is_new) (staff-length table)

  -- so the deed is a change
  pub staff-change : IsChange files new
  staff-change = record {
    changed = (Group, changes-group);
    standing = keeps-standing;
    small = keeps-limit;
  }

-- the suite
abbrev pub staff_deeds : SuiteDeeds
staff_deeds = record {
  deed = staff_deed;
  answers_same = λ command files defs. false;
  shows_same = λ command files defs. false;
  makes_changes = λ command files defs new is. staff-change files new
      (are-first files new (files Passwd) (files Shadow) (files Group) (files Gshadow)
      (files Subuid) (files Subgid) refl refl refl refl refl refl is);
}

-- what the sessions are asked
abbrev pub groupadd_staff : Command
groupadd_staff = record {
  words = codes "groupadd" ∷ codes "-P" ∷ codes "R" ∷ codes "-g" ∷ codes "1500" ∷ codes "staff"
      ∷ [];
  input = [];
  day = 20000;
}

-- two visible bytes are a token
pub two-bytes : (one two : ℕ) → (0x21 ≤ one) × (one ≤ 0x7e) → (0x21 ≤ two) × (two ≤ 0x7e) →
    IsToken (one ∷ two ∷ [])
two-bytes one two first second = record { not_empty = lit≤ tt; short = lit≤ tt; visible = visible }
  where
    visible : (place default : ℕ) → place < 2 →
        (0x21 ≤ get_or (one ∷ two ∷ []) place default)
        × (get_or (one ∷ two ∷ []) place default ≤ 0x7e)
    visible zero default below = first
    visible (suc zero) default below = second
    visible (suc (suc place)) default below =
        absurd (not-suc-le-zero (le_of_suc-le-suc (le_of_suc-le-suc below)))

-- the first session
abbrev pub m1 : Token
m1 = codes "m1"

-- its token is one
pub is-token-m1 : IsToken m1
is-token-m1 = two-bytes _ _ (lit≤ tt, lit≤ tt) (lit≤ tt, lit≤ tt)

-- the second session
abbrev pub m2 : Token
m2 = codes "m2"

-- its token is one
pub is-token-m2 : IsToken m2
is-token-m2 = two-bytes _ _ (lit≤ tt, lit≤ tt) (lit≤ tt, lit≤ tt)

-- the intent of the deed, as it is committed under lock 1
abbrev pub staff_intent : Bytes
staff_intent = codes "accounts-intent 2 1 1 28\ngroup 14\nstaff:!:1500:\n\nend\n"

-- what it says
abbrev pub staff_intended : Intended
staff_intended = intent_listing 1 (record { table = Group; bytes = staff_line } ∷ [])

-- it reads so
pub staff-reads : ReadsIntent staff_intent staff_intended
unfolding digits
staff-reads = record { allowed = refl; text = refl }

-- each table that it lists is group
pub staff-in-place : (table : Tab) (bytes : Bytes) →
    listed_in staff_intended.tables table ≡ Some bytes →
    table_with Group (λ other. false) table ≡ true
staff-in-place Group bytes listed = refl
staff-in-place table bytes listed = absurd (cc)

-- what a keeper has seen that knows of no intent
abbrev pub seen_of : Knowledge → Seen
seen_of (knows_none seen) = seen
seen_of _ = nothing_seen

module _ (token : Token) (history : History) (lawful : Lawful staff_deeds first history)
    (runs : life token history ≡ running) where
  -- a keeper that knows the intent knows what it says
  abbrev staff-known : (placed : Tab → Bool) →
      (standing token history).knows ≡ knows_bytes staff_intent placed →
      KnowsIntent (standing token history)
  staff-known placed knows = record {
    bytes = staff_intent;
    placed = placed;
    knows = knows;
    intent = staff_intended;
    reads_it = staff-reads;
  }

  -- a move of the new group to its table is lawful
  install-lawful : KeeperRule (standing token history) → (placed : Tab → Bool) →
      (standing token history).knows ≡ knows_bytes staff_intent placed →
      (standing token history).staged (Staged Group) ≡ Some staff_line →
      IsSome ((after first history).file (Staged Group)) →
      Lawful staff_deeds first (by token (renames (Staged Group) (Table Group)) tt ∷ history)
  install-lawful keeper placed knows staged stands = goes_on _ _ lawful (record {
    keeps = record {
      life_rule = rw runs tt;
      permitted = install_rule Group keeper (record {
        knows = staff-known placed knows;
        bytes = staff_line;
        listed = refl;
        staged = staged;
      });
    };
    gives = stands;
  })

  -- a removal of the intent, once group is in place, is lawful
  clear-lawful : KeeperRule (standing token history) →
      (standing token history).knows
      ≡ knows_bytes staff_intent (table_with Group (λ table. false)) →
      Lawful staff_deeds first (by token (removes Intent) tt ∷ history)
  clear-lawful keeper knows = goes_on _ _ lawful (record {
    keeps = record {
      life_rule = rw runs tt;
      permitted = clear_rule keeper (record {
        knows = staff-known (table_with Group (λ table. false)) knows;
        in_place = staff-in-place;
      });
    };
    gives = tt;
  })

module _ (token : Token) (history : History) (lawful : Lawful staff_deeds first history)
    (runs : life token history ≡ running) where
  -- the new group is written
  abbrev wrote : History
  wrote = by token (writes (Staged Group) staff_line) tt ∷ history

  -- and moved to its table
  abbrev moved : History
  moved = by token (renames (Staged Group) (Table Group)) tt ∷ wrote

  -- a keeper that knows the intent carries it out: both, and then removes the intent
  pub carry-lawful : (keeper : KeeperRule (standing token history)) →
      (standing token history).knows ≡ knows_new staff_intent →
      Lawful staff_deeds first (by token (removes Intent) tt ∷ moved)
  carry-lawful keeper knows =
      let wrote-runs =
      runs-on token history runs (writes (Staged Group) staff_line) tt refl in
      clear-lawful token moved
      (install-lawful token wrote
      (write-lawful staff_deeds first token history lawful runs (Staged Group) staff_line keeper
      (record { staging = refl; small = lit≤ tt }))
      wrote-runs
      (record { number = keeper.number; keeps = rw (token-same token) keeper.keeps })
      (λ table. false) (rw (token-same token, keeper.keeps, knows) refl)
      (rw (token-same token, keeper.keeps) refl) refl)
      (runs-on token wrote wrote-runs (renames (Staged Group) (Table Group)) tt refl)
      (record { number = keeper.number; keeps = rw (token-same token) keeper.keeps })
      (rw (token-same token, keeper.keeps, knows) refl)
