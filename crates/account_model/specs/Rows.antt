-- The row of each tool: what its manual page says in lists and numbers. The choice of options and the
-- rules are this profile's own after the manual pages.
use Rattle.std.specs.Prelude.{ℕ, Bool, true, false, List, [], ◌∷◌, codes}
use Rattle.std.specs.Str.{byte}
use Rattle.acct_text.specs.declared.Tab.{Tab}
use Rattle.acct_text.specs.declared.Tab.TheVariants.{Passwd, Shadow, Group, Gshadow, Subuid, Subgid}
use Rattle.account_model.specs.declared.tool.Tool.{Tool}
use Rattle.account_model.specs.declared.tool.Tool.TheVariants.{Useradd, Usermod, Userdel, Chfn, Chsh, Groupadd, Groupmod, Groupdel, Gpasswd, Groupmems, Chage, Chpasswd, Chgpasswd, Passwd as ChangePasswd, Pwconv, Pwunconv, Grpconv, Grpunconv, Pwck, Grpck, Getsubids, Batch}
use Rattle.account_model.specs.declared.row.Done.{Done}
use Rattle.account_model.specs.declared.row.Done.TheVariants.{Never, UserStands, GroupStands, UserGone, GroupGone, MemberGone}
use Rattle.account_model.specs.declared.row.InputKind.{InputKind}
use Rattle.account_model.specs.declared.row.InputKind.TheVariants.{Nothing, Hashes, Commands}
use Rattle.account_model.specs.Options.{Word, OptionForm, Rule, alone, exactly_one, flag, not_both, one_of, only_with, rule, short_flag, some_of, some_option, with_value}
use Rattle.account_model.specs.ValueForms.{date_form, days_form, field_form, id_form, key_form, name_form, part_form, path_form, range_form}
use Rattle.account_model.specs.declared.tool_statuses.ToolStatuses.{ToolStatuses}
use Rattle.account_model.specs.ToolStatuses.{chage_statuses, check_statuses, chfn_statuses, common_statuses, conversion_statuses, getsubids_statuses, gpasswd_statuses, group_statuses, passwd_statuses, user_statuses}

-- when a command of the tool only shows what stands, and the tables that it then reads
pub data Reporting : Type 0 where
  -- it never does
  never : Reporting
  -- where the option of this letter is given
  where_given : Word → List Tab → Reporting
  -- always: of these tables where the option of this letter is given, and else of those
  always : Word → List Tab → List Tab → Reporting

-- whether there is anything to read in an input of this kind
abbrev pub is_read : InputKind → Bool
is_read Nothing = false
is_read kind = true

-- whether its lines are commands
abbrev pub has_commands : InputKind → Bool
has_commands Commands = true
has_commands kind = false

-- what is said of a tool in lists and numbers
pub record ToolRow : Type 0 where
  -- the word that names it
  pub name : Word
  -- the letter of `--root`, which is `--prefix` here: no tool changes its root
  pub root : ℕ
  -- its options but those of the folder, in the order of its page ("OPTIONS")
  pub options : List OptionForm
  -- how many operands it needs, and how many it takes at most ("SYNOPSIS")
  pub least : ℕ
  pub most : ℕ
  -- the rules between its options, in the order in which they are tested
  pub rules : List Rule
  -- what it reads from the input
  pub input : InputKind
  -- whether a line of a batch may name it; each that it may changes tables, and reads no input
  pub is_for_lines : Bool
  -- which of its refusals says that such a line is done already
  pub done : Done
  pub reporting : Reporting
  pub statuses : ToolStatuses
  -- the letters of the options that the wrapper by the old names takes beside these, and their names
  pub wrapper_letters : List ℕ
  pub wrapper_names : List Word

-- what most rows have: a tool that changes the tables, and has one operand, the user or the group
abbrev common_row : ToolRow
common_row = record {
  name = [];
  root = byte "R";
  options = [];
  least = 1;
  most = 1;
  rules = [];
  input = Nothing;
  is_for_lines = true;
  done = Never;
  reporting = never;
  statuses = common_statuses;
  wrapper_letters = [];
  wrapper_names = [];
}

-- an option is asked for
abbrev wants_option : Rule
wants_option = rule "at least one option besides -P is needed" some_option

-- a check, which has no operand: a report or an edit, and not both (pwck(8), grpck(8))
abbrev check_row : ToolRow
check_row = record common_row {
  least = 0;
  most = 0;
  rules = rule "-r or -s is needed" (some_of (codes "rs"))
      ∷ rule "-r and -s exclude each other" (not_both (byte "r") (byte "s"))
      ∷ [];
  is_for_lines = false;
  statuses = check_statuses;
}

-- sets hashes from lines of the input, and has no operand (chpasswd(8), chgpasswd(8))
abbrev hashes_row : ToolRow
hashes_row = record common_row {
  options = flag "e" "encrypted" ∷ [];
  least = 0;
  most = 0;
  rules = rule "-e is needed" (some_of (codes "e")) ∷ [];
  input = Hashes;
  is_for_lines = false;
  wrapper_letters = codes "c";
  wrapper_names = codes "crypt-method" ∷ [];
}

-- a conversion, which has no option and no operand (pwconv(8))
abbrev conversion_row : ToolRow
conversion_row = record common_row {
  least = 0;
  most = 0;
  is_for_lines = false;
  statuses = conversion_statuses;
}

-- the row of each tool (its manual page)
abbrev pub row_of : Tool → ToolRow
row_of Useradd = record common_row {
  name = codes "useradd";
  options = with_value "b" "base-dir" path_form
      ∷ with_value "c" "comment" field_form
      ∷ with_value "d" "home-dir" path_form
      ∷ with_value "e" "expiredate" date_form
      ∷ with_value "f" "inactive" days_form
      ∷ flag "F" "add-subids-for-system"
      ∷ with_value "g" "gid" id_form
      ∷ with_value "G" "groups" name_form
      ∷ with_value "K" "key" key_form
      ∷ flag "l" "no-log-init"
      ∷ flag "M" "no-create-home"
      ∷ flag "N" "no-user-group"
      ∷ flag "o" "non-unique"
      ∷ with_value "p" "password" field_form
      ∷ flag "r" "system"
      ∷ with_value "s" "shell" path_form
      ∷ with_value "u" "uid" id_form
      ∷ flag "U" "user-group"
      ∷ [];
  rules = rule "-g and -U exclude each other" (not_both (byte "g") (byte "U"))
      ∷ rule "-N and -U exclude each other" (not_both (byte "N") (byte "U"))
      ∷ rule "-o needs -u" (only_with (byte "o") (byte "u"))
      ∷ [];
  done = UserStands;
  statuses = user_statuses;
  wrapper_letters = codes "km";
  wrapper_names = codes "badname" ∷ codes "create-home" ∷ codes "skel" ∷ [];
}
row_of Usermod = record common_row {
  name = codes "usermod";
  options = flag "a" "append"
      ∷ with_value "c" "comment" field_form
      ∷ with_value "d" "home" path_form
      ∷ with_value "e" "expiredate" date_form
      ∷ with_value "f" "inactive" days_form
      ∷ with_value "g" "gid" id_form
      ∷ with_value "G" "groups" name_form
      ∷ with_value "l" "login" name_form
      ∷ flag "L" "lock"
      ∷ flag "o" "non-unique"
      ∷ with_value "p" "password" field_form
      ∷ with_value "s" "shell" path_form
      ∷ with_value "u" "uid" id_form
      ∷ flag "U" "unlock"
      ∷ with_value "v" "add-subuids" range_form
      ∷ with_value "V" "del-subuids" range_form
      ∷ with_value "w" "add-subgids" range_form
      ∷ with_value "W" "del-subgids" range_form
      ∷ [];
  rules = rule "-a needs -G" (only_with (byte "a") (byte "G"))
      ∷ rule "-o needs -u" (only_with (byte "o") (byte "u"))
      ∷ rule "-L, -U and -p exclude each other" (one_of (codes "LUp"))
      ∷ wants_option
      ∷ [];
  statuses = user_statuses;
  wrapper_letters = codes "bmr";
  wrapper_names = codes "badname" ∷ codes "move-home" ∷ codes "remove" ∷ [];
}
row_of Userdel = record common_row {
  name = codes "userdel";
  options = flag "f" "force" ∷ [];
  done = UserGone;
  statuses = user_statuses;
  wrapper_letters = codes "r";
  wrapper_names = codes "remove" ∷ [];
}
row_of Chfn = record common_row {
  name = codes "chfn";
  options = with_value "f" "full-name" part_form
      ∷ with_value "r" "room" part_form
      ∷ with_value "w" "work-phone" part_form
      ∷ with_value "h" "home-phone" part_form
      ∷ with_value "o" "other" field_form
      ∷ [];
  rules = wants_option ∷ [];
  is_for_lines = false;
  statuses = chfn_statuses;
}
row_of Chsh = record common_row {
  name = codes "chsh";
  options = with_value "s" "shell" path_form ∷ [];
  rules = rule "-s is needed" (some_of (codes "s")) ∷ [];
  is_for_lines = false;
  statuses = chfn_statuses;
}
row_of Groupadd = record common_row {
  name = codes "groupadd";
  options = flag "f" "force"
      ∷ with_value "g" "gid" id_form
      ∷ with_value "K" "key" key_form
      ∷ flag "o" "non-unique"
      ∷ with_value "p" "password" field_form
      ∷ flag "r" "system"
      ∷ [];
  rules = rule "-o needs -g" (only_with (byte "o") (byte "g")) ∷ [];
  done = GroupStands;
  statuses = group_statuses;
  wrapper_letters = codes "U";
  wrapper_names = codes "users" ∷ [];
}
row_of Groupmod = record common_row {
  name = codes "groupmod";
  options = with_value "g" "gid" id_form
      ∷ with_value "n" "new-name" name_form
      ∷ flag "o" "non-unique"
      ∷ with_value "p" "password" field_form
      ∷ [];
  rules = rule "-o needs -g" (only_with (byte "o") (byte "g"))
      ∷ rule "-g, -n or -p is needed" (some_of (codes "gnp"))
      ∷ [];
  statuses = group_statuses;
  wrapper_letters = codes "aU";
  wrapper_names = codes "append" ∷ codes "users" ∷ [];
}
row_of Groupdel = record common_row {
  name = codes "groupdel";
  options = flag "f" "force" ∷ [];
  done = GroupGone;
  statuses = group_statuses;
}
row_of Gpasswd = record common_row {
  name = codes "gpasswd";
  root = byte "Q";
  options = with_value "a" "add" name_form
      ∷ with_value "d" "delete" name_form
      ∷ with_value "A" "administrators" name_form
      ∷ with_value "M" "members" name_form
      ∷ flag "r" "remove-password"
      ∷ flag "R" "restrict"
      ∷ [];
  rules = wants_option ∷ rule "only -A and -M go together" (alone (codes "adrR")) ∷ [];
  done = MemberGone;
  statuses = gpasswd_statuses;
  wrapper_names = codes "delete-password" ∷ [];
}
row_of Groupmems = record common_row {
  name = codes "groupmems";
  options = with_value "a" "add" name_form
      ∷ with_value "d" "delete" name_form
      ∷ with_value "g" "group" name_form
      ∷ flag "l" "list"
      ∷ flag "p" "purge"
      ∷ [];
  least = 0;
  most = 0;
  rules = rule "-g is needed" (some_of (codes "g"))
      ∷ rule "exactly one of -a, -d, -l and -p is needed" (exactly_one (codes "adlp"))
      ∷ [];
  is_for_lines = false;
  reporting = where_given (codes "l") (Group ∷ []);
  statuses = gpasswd_statuses;
}
row_of Chage = record common_row {
  name = codes "chage";
  options = with_value "d" "lastday" date_form
      ∷ with_value "E" "expiredate" date_form
      ∷ with_value "I" "inactive" days_form
      ∷ flag "l" "list"
      ∷ with_value "m" "mindays" days_form
      ∷ with_value "M" "maxdays" days_form
      ∷ with_value "W" "warndays" days_form
      ∷ [];
  rules = wants_option ∷ rule "-l goes with no other option" (alone (codes "l")) ∷ [];
  reporting = where_given (codes "l") (Passwd ∷ Shadow ∷ []);
  statuses = chage_statuses;
  wrapper_letters = codes "i";
  wrapper_names = codes "iso8601" ∷ [];
}
row_of Chpasswd = record hashes_row { name = codes "chpasswd" }
row_of Chgpasswd = record hashes_row { name = codes "chgpasswd" }
row_of ChangePasswd = record common_row {
  name = codes "passwd";
  options = flag "d" "delete"
      ∷ flag "e" "expire"
      ∷ with_value "i" "inactive" days_form
      ∷ flag "l" "lock"
      ∷ with_value "n" "mindays" days_form
      ∷ flag "S" "status"
      ∷ flag "u" "unlock"
      ∷ with_value "w" "warndays" days_form
      ∷ with_value "x" "maxdays" days_form
      ∷ [];
  rules = wants_option
      ∷ rule "-S goes with no other option" (alone (codes "S"))
      ∷ rule "-d, -l and -u exclude each other" (one_of (codes "dlu"))
      ∷ [];
  is_for_lines = false;
  reporting = where_given (codes "S") (Passwd ∷ Shadow ∷ []);
  statuses = passwd_statuses;
  wrapper_letters = codes "q";
  wrapper_names = codes "quiet" ∷ [];
}
row_of Pwconv = record conversion_row { name = codes "pwconv" }
row_of Pwunconv = record conversion_row { name = codes "pwunconv" }
row_of Grpconv = record conversion_row { name = codes "grpconv" }
row_of Grpunconv = record conversion_row { name = codes "grpunconv" }
row_of Pwck = record check_row {
  name = codes "pwck";
  options = flag "q" "quiet" ∷ flag "r" "read-only" ∷ flag "s" "sort" ∷ [];
  reporting = where_given (codes "r") (Passwd ∷ Shadow ∷ Group ∷ []);
}
row_of Grpck = record check_row {
  name = codes "grpck";
  options = flag "r" "read-only" ∷ flag "s" "sort" ∷ [];
  reporting = where_given (codes "r") (Passwd ∷ Group ∷ Gshadow ∷ []);
}
row_of Getsubids = record common_row {
  name = codes "getsubids";
  options = short_flag "g" ∷ [];
  is_for_lines = false;
  reporting = always (codes "g") (Passwd ∷ Subgid ∷ []) (Passwd ∷ Subuid ∷ []);
  statuses = getsubids_statuses;
}
row_of Batch = record common_row {
  name = codes "batch";
  options = flag "e" "ensure" ∷ [];
  least = 0;
  input = Commands;
  is_for_lines = false;
}
