-- Rows of words and what they ask for, beside those of account_model (getopt_long(3)).
use Rattle.std.specs.Prelude.{◌≡◌, [], ◌∷◌, replicate, Some, None, Ok, codes, refl, true, false}
use Rattle.account_model.specs.declared.tool.Tool.TheVariants.{Useradd, Usermod, Groupadd, Chage, Chpasswd, Grpck}
use Rattle.account_model.specs.declared.word_fault.WordFault.TheVariants.{WordLimit, UnknownTool, UnknownOption, MissingValue, TooMany, TooFew, Clash}
use Rattle.account_model.specs.declared.settings.Kind.TheVariants.{System}
use Rattle.account_model.specs.NewAccount.{kind_of}
use Rattle.account_model.specs.Request.{Request, has_option, operand, value_of, values_of}
use Rattle.account_model.specs.Values.{given_id, text_value}
use Rattle.account_model.specs.Words.{request_of, fault}
use Rattle.account_model.proofs.WordRows.{AskedAre, FaultsAre, asking, flagged, one, valued, words_of}

-- ---- requests

requests : AskedAre (
    -- bundle and value
    asking "groupadd --prefix R -fo -g5 -- staff"
    Groupadd (flagged "f" ∷ flagged "o" ∷ valued "g" "5" ∷ []) (one "staff")
    -- empty value
    ∷ asking "usermod -P R -l bea -e  ann"
    Usermod (valued "l" "bea" ∷ valued "e" "" ∷ []) (one "ann")
    -- each range
    ∷ asking "usermod -P R -v 5-9 -v 7-8 ann"
    Usermod (valued "v" "5-9" ∷ valued "v" "7-8" ∷ []) (one "ann")
    -- option as value
    ∷ asking "useradd -P R -s -r ann" Useradd (valued "s" "-r" ∷ []) (one "ann")
    -- negative value
    ∷ asking "chage -P R -M -1 bob" Chage (valued "M" "-1" ∷ []) (one "bob")
    -- prefix in a bundle
    ∷ asking "chpasswd -eP R" Chpasswd (flagged "e" ∷ []) []
    -- long prefix
    ∷ asking "grpck --prefix=R -s" Grpck (flagged "s" ∷ []) []
    ∷ [])
requests = refl

-- ---- the first fault

first_faults : FaultsAre (
    -- within a bundle, before the prefix, and behind a flag
    ("useradd -P R -aG sudo bob", UnknownOption 3)
    ∷ ("userdel -r ann", UnknownOption 1)
    ∷ ("groupdel -P R -fx staff", UnknownOption 3)
    -- no owner
    ∷ ("getsubids -P R", TooFew)
    -- no value, by its letter, by its long name, and of the prefix
    ∷ ("usermod -P R -l", MissingValue 3)
    ∷ ("groupmod -P R --gid", MissingValue 3)
    ∷ ("userdel -P", MissingValue 1)
    -- two operands
    ∷ ("useradd -P R -- -x y", TooMany 5)
    ∷ [])
first_faults = refl

broken_rules : FaultsAre (
    ("useradd -P R -oNU ann", Clash 2)
    ∷ ("useradd -P R -oN -g 5 ann", Clash 3)
    ∷ ("usermod -P R -aoLU ann", Clash 1)
    ∷ ("usermod -P R -oLU ann", Clash 2)
    ∷ ("groupmod -P R -o staff", Clash 1)
    ∷ ("gpasswd -P R -rR sudo", Clash 2)
    ∷ ("chage -P R -l -m 5 ann", Clash 2)
    ∷ ("pwck -P R -sr", Clash 2)
    ∷ [])
broken_rules = refl

-- ---- the limits: of words, and of the bytes of one, which come first

first_word : fault (replicate 4097 120 ∷ []) ≡ Some (WordLimit 0)
first_word = refl

longest_first_word : fault (replicate 4096 120 ∷ []) ≡ Some UnknownTool
longest_first_word = refl

both_limits : fault (replicate 4097 120 ∷ replicate 512 (120 ∷ [])) ≡ Some (WordLimit 0)
both_limits = refl

-- ---- what a request tells of an option: of a repeated one the last value (getopt_long(3))

abbrev asked : Request
asked = record {
  tool = Groupadd;
  prefix = codes "R";
  options = valued "g" "5" ∷ flagged "r" ∷ valued "K" "A=1" ∷ valued "g" "007" ∷ valued "K" "B=" ∷ [];
  operands = one "ann";
  plan = None;
}

asks : request_of (words_of "groupadd -P R -g 5 -r -K A=1 -g 007 -K B= ann") ≡ Ok asked
asks = refl

named : operand asked ≡ codes "ann"
named = refl

last_value : value_of (codes "g") asked ≡ Some (codes "007")
last_value = refl

its_id : given_id (codes "g") asked ≡ Some 7
its_id = refl

each_value : values_of (codes "K") asked ≡ codes "A=1" ∷ codes "B=" ∷ []
each_value = refl

value_not_given : text_value (codes "p") asked (codes "!") ≡ codes "!"
value_not_given = refl

given_flag : has_option (codes "r") asked ≡ true
given_flag = refl

flag_not_given : has_option (codes "f") asked ≡ false
flag_not_given = refl

system : kind_of asked ≡ System
system = refl
