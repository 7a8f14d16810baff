-- What commands name of tables, and so what they leave byte for byte, each row decided by computing.
use Prim.Native.String.{String}
use Rattle.std.specs.Prelude.{◌≡◌, ℕ, ◌==◌, List, [], codes, refl, None, Ok, Err}
use Rattle.std.specs.Fmt.{digits}
use Rattle.std.specs.List.{slice_split}
use Rattle.acct_text.specs.declared.files.Files.{Files}
use Rattle.account_model.specs.Records.{passwd_format, group_format}
use Rattle.account_model.specs.Words.{request_of}
use Rattle.account_model.specs.Tables.{table_lines}
use Rattle.account_model.specs.NamedLines.{Named, named_by_deed, names_group, names_nothing, names_passwd, unnamed_texts}
use Rattle.account_model.proofs.Commands.{words, small, today}

-- texts that are cut at `|` here
abbrev texts : String → List (List ℕ)
texts text = slice_split (λ c. c == 124) (codes text)

-- what the words name on files without settings, with this input
abbrev names_of : List ℕ → List (List ℕ) → Files → Named
names_of input words files = elim (request_of words) [
  | Err fault ↦ names_nothing
  | Ok request ↦ named_by_deed request input today files None
]

-- the texts of passwd that they leave, and of group
abbrev left_in_passwd : List ℕ → List (List ℕ) → Files → List (List ℕ)
left_in_passwd input words files = unnamed_texts passwd_format
    (names_passwd (names_of input words files)) (table_lines files.passwd)

abbrev left_in_group : List ℕ → List (List ℕ) → Files → List (List ℕ)
left_in_group input words files = unnamed_texts group_format
    (names_group (names_of input words files)) (table_lines files.group)

-- two users, of whom one stands in a list, and other text
abbrev both : Files
both = small "ann:!:5:7::/:|+nis|bea:!:6:8::/:" "p:!:7:|q:!:8:ann,bea|# note|r:!:9:bea"

-- `usermod -P R -s /bin/sh ann` leaves the others, and all groups without ann
shell_leaves_users : left_in_passwd [] (words "usermod -P R -s /bin/sh ann") both
    ≡ texts "+nis|bea:!:6:8::/:"
unfolding digits
shell_leaves_users = refl

shell_leaves_groups : left_in_group [] (words "usermod -P R -s /bin/sh ann") both
    ≡ texts "p:!:7:|# note|r:!:9:bea"
unfolding digits
shell_leaves_groups = refl

-- `groupmod -P R -g 11 p` takes the user of GID 7 along
gid_leaves_users : left_in_passwd [] (words "groupmod -P R -g 11 p") both
    ≡ texts "+nis|bea:!:6:8::/:"
unfolding digits
gid_leaves_users = refl

-- `groupmod -P R -n z p` doesn't
name_leaves_users : left_in_passwd [] (words "groupmod -P R -n z p") both
    ≡ texts "ann:!:5:7::/:|+nis|bea:!:6:8::/:"
unfolding digits
name_leaves_users = refl

-- a batch names what its lines name
batch_leaves_groups :
    left_in_group (codes "groupmod -g 11 p") (words "batch -P R") both
    ≡ texts "q:!:8:ann,bea|# note|r:!:9:bea"
unfolding digits
batch_leaves_groups = refl

-- `pwck -P R -s` names nobody, and sorts: all lines stay, in another order
sort_leaves_users : left_in_passwd [] (words "pwck -P R -s") both
    ≡ texts "ann:!:5:7::/:|+nis|bea:!:6:8::/:"
unfolding digits
sort_leaves_users = refl
