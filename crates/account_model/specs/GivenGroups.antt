-- The groups that `-g` and `-G` name (useradd(8), usermod(8)): by GID where the word is all digits, else by name.
use Rattle.std.specs.Prelude.{ℕ, Bool, ◌==◌, List, [], find, filter_map, Option, option_map, option_and_then, is_none, codes, if◌then◌else◌}
use Rattle.acct_text.specs.declared.files.Files.{Files}
use Rattle.account_model.specs.declared.records.GroupRecord.{GroupRecord}
use Rattle.account_model.specs.declared.refusal.Refusal.{Refusal}
use Rattle.account_model.specs.declared.refusal.Refusal.TheVariants.{NoGroup}
use Rattle.acct_text.specs.Numbers.{is_digits}
use Rattle.account_model.specs.Format.{find_named}
use Rattle.account_model.specs.Records.{read_id, group_format}
use Rattle.account_model.specs.Tables.{group_records}
use Rattle.account_model.specs.Values.{list_value, text_value}
use Rattle.account_model.specs.Request.{Request, value_of}
use Rattle.account_model.specs.Refusals.{refuse_if, refuse_value}

-- the first group with the GID
abbrev pub find_gid : ℕ → List GroupRecord → Option GroupRecord
find_gid gid groups = find (λ group. group.gid == gid) groups

-- the first group that a word names
abbrev pub find_group : List ℕ → List GroupRecord → Option GroupRecord
find_group word groups = if is_digits word
    then option_and_then (λ gid. find_gid gid groups) (read_id word)
    else find_named group_format word groups

-- the word names no group
abbrev pub is_unknown_group : Files → List ℕ → Bool
is_unknown_group files word = is_none (find_group word (group_records files))

-- the group of `-g`
abbrev pub given_group : Request → Files → Option GroupRecord
given_group request files =
    option_and_then (λ word. find_group word (group_records files)) (value_of (codes "g") request)

-- the group of `-g` doesn't exist
abbrev pub unknown_group : Request → Files → Option Refusal
unknown_group request files =
    refuse_value (codes "g") request
    (λ word. refuse_if (is_unknown_group files word) (NoGroup word))

-- the words of the list of `-G`
abbrev pub given_group_words : Request → List (List ℕ)
given_group_words request = list_value (text_value (codes "G") request [])

-- the groups of `-G`
abbrev pub given_groups : Request → Files → List GroupRecord
given_groups request files =
    filter_map (λ word. find_group word (group_records files)) (given_group_words request)

-- the first word of `-G` whose group doesn't exist
abbrev pub unknown_groups : Request → Files → Option Refusal
unknown_groups request files =
    option_map NoGroup (find (is_unknown_group files) (given_group_words request))
