-- Lines of a batch: their words, and what these ask for, each decided by computing.
use Prim.Native.String.{String}
use Rattle.std.specs.Prelude.{◌≡◌, List, [], ◌∷◌, ◌++◌, map, Option, Some, None, Result, Ok, Err, codes, refl}
use Rattle.std.specs.Str.{byte}
use Rattle.account_model.specs.declared.tool.Tool.{Tool}
use Rattle.account_model.specs.declared.tool.Tool.TheVariants.{Useradd, Usermod, Chage}
use Rattle.account_model.specs.declared.words_of.WordsOf.TheVariants.{Line}
use Rattle.account_model.specs.declared.word_fault.WordFault.{WordFault}
use Rattle.account_model.specs.declared.word_fault.WordFault.TheVariants.{UnknownTool, UnknownOption, MissingValue, TooMany, TooFew, Clash, LineEnd, Unclosed}
use Rattle.account_model.specs.Text.{tab}
use Rattle.account_model.specs.Options.{Word, as_flag, as_value}
use Rattle.account_model.specs.declared.given.Given.{Given}
use Rattle.account_model.specs.Request.{Request}
use Rattle.account_model.specs.LineWords.{carriage_return, split_line}
use Rattle.account_model.specs.Words.{request_as}

-- ---- Words

-- what is split from a line
abbrev read : String → Result (List Word) WordFault
read text = split_line (codes text)

-- words that are split from a line
abbrev as_words : List String → Result (List Word) WordFault
as_words texts = Ok (map codes texts)

-- blanks part words, and separate nothing at the ends
cut_at_blanks : read "  groupadd   -g 1500 staff " ≡
    as_words ("groupadd" ∷ "-g" ∷ "1500" ∷ "staff" ∷ [])
cut_at_blanks = refl

-- and so do tabs
a_tab : split_line (codes "a" ++ tab ∷ codes "b") ≡ as_words ("a" ∷ "b" ∷ [])
a_tab = refl

-- a `\` before a blank: `Ann\ Lee` is one word
blank_in_a_word : read "-c Ann\\ Lee" ≡ as_words ("-c" ∷ "Ann Lee" ∷ [])
blank_in_a_word = refl

-- two of them are one, `\a` is `a`, and a word may be a blank alone
escaped_bytes : read "\\\\x\\a \\ " ≡ as_words ("\\xa" ∷ " " ∷ [])
escaped_bytes = refl

-- before quotes and a `#`
escaped_marks : read "\\' \\\"b \\#c" ≡ as_words ("'" ∷ "\"b" ∷ "#c" ∷ [])
escaped_marks = refl

-- a `\` that ends the line stands for itself, within a word and where one would begin
ends_by_itself : read "a b\\" ≡ as_words ("a" ∷ "b\\" ∷ [])
ends_by_itself = refl

ends_by_itself_alone : read "a \\" ≡ as_words ("a" ∷ "\\" ∷ [])
ends_by_itself_alone = refl

-- `'` keeps all that stands between: the hash of a password
hash_in_single : read "useradd -p '$6$salt$hash' bea" ≡
    as_words ("useradd" ∷ "-p" ∷ "$6$salt$hash" ∷ "bea" ∷ [])
hash_in_single = refl

-- also blanks, `\`, `"` and `#`
single_keeps : read "' a\\ \" #'" ≡ as_words (" a\\ \" #" ∷ [])
single_keeps = refl

-- `"` keeps all but that `\"` is `"` and `\\` is `\`
double_keeps : read "\"Ann 'Lee' # \\\" \\\\ \\n\"" ≡ as_words ("Ann 'Lee' # \" \\ \\n" ∷ [])
double_keeps = refl

-- quotes join with what stands beside them
joined_pieces : read "a'b c'\"d e\"f\\ g h" ≡ as_words ("ab cd ef g" ∷ "h" ∷ [])
joined_pieces = refl

-- `''` and `""` alone are empty words, and nothing within others
empty_words : read "-s '' -c \"\" a''b" ≡ as_words ("-s" ∷ "" ∷ "-c" ∷ "" ∷ "ab" ∷ [])
empty_words = refl

-- a `#` where a word would begin ends the line
a_comment : read "# staff" ≡ as_words []
a_comment = refl

behind_blanks : read "  # a 'b" ≡ as_words []
behind_blanks = refl

behind_a_word : read "groupadd staff # not 'closed" ≡ as_words ("groupadd" ∷ "staff" ∷ [])
behind_a_word = refl

-- within a word and behind an empty one it is a byte
no_comment : read "a#b ''#c" ≡ as_words ("a#b" ∷ "#c" ∷ [])
no_comment = refl

-- what expands in sh stands for itself
no_expansions : read "$a `b` *;|&<>~" ≡ as_words ("$a" ∷ "`b`" ∷ "*;|&<>~" ∷ [])
no_expansions = refl

-- a line without words
no_words_empty : read "" ≡ as_words []
no_words_empty = refl

no_words_blank : read "   " ≡ as_words []
no_words_blank = refl

-- a quote that isn't closed is told by the column that opens it
unclosed_single : read "useradd -p '$6$salt" ≡ Err (Unclosed 12)
unclosed_single = refl

unclosed_double : read "\"" ≡ Err (Unclosed 1)
unclosed_double = refl

-- the second of two, behind a `\"` that closes nothing
unclosed_behind : read "a'b' \"c\\\"" ≡ Err (Unclosed 6)
unclosed_behind = refl

-- a carriage return at the end is the first fault of any line
return_at_end : split_line (codes "groupadd 'a" ++ carriage_return ∷ []) ≡ Err LineEnd
return_at_end = refl

return_of_comment : split_line (codes "# a" ++ carriage_return ∷ []) ≡ Err LineEnd
return_of_comment = refl

-- within a line it is a byte
return_within : split_line (codes "a" ++ carriage_return ∷ codes "b") ≡
    Ok ((codes "a" ++ carriage_return ∷ codes "b") ∷ [])
return_within = refl

-- ---- Requests

-- what a line asks for
abbrev asked : String → Result Request WordFault
asked text = elim (read text) [ Err fault ↦ Err fault | Ok words ↦ request_as Line words ]

-- the fault of a line
abbrev faulty : String → Option WordFault
faulty text = elim (asked text) [ Err fault ↦ Some fault | Ok request ↦ None ]

-- a request with one operand, and no prefix
abbrev request : Tool → List Given → String → Result Request WordFault
request tool options operand =
    Ok (record {
      tool = tool;
      prefix = [];
      options = options;
      operands = codes operand ∷ [];
      plan = None;
    })

-- no prefix is needed
asks_useradd :
    asked "useradd -u 1500 --no-user-group ann"
    ≡ request Useradd (as_value (byte "u") (codes "1500") ∷ as_flag (byte "N") ∷ []) "ann"
asks_useradd = refl

-- a bundle whose last letter takes the rest as its value
asks_usermod :
    asked "usermod -aGsudo ann"
    ≡ request Usermod (as_flag (byte "a") ∷ as_value (byte "G") (codes "sudo") ∷ []) "ann"
asks_usermod = refl

-- `-P` may be a value
asks_chage : asked "chage -d -P ann" ≡ request Chage (as_value (byte "d") (codes "-P") ∷ []) "ann"
asks_chage = refl

-- `-P` and `--prefix` are unknown options, in a bundle too
faulty_prefix : faulty "groupadd -P X z" ≡ Some (UnknownOption 1)
faulty_prefix = refl

-- the long name, with a value
faulty_long_prefix : faulty "groupadd z --prefix=X" ≡ Some (UnknownOption 2)
faulty_long_prefix = refl

-- a letter of a bundle
faulty_bundle : faulty "userdel -fP X z" ≡ Some (UnknownOption 1)
faulty_bundle = refl

-- an option's value may be empty
asks_empty_value :
    asked "usermod -s '' ann" ≡ request Usermod (as_value (byte "s") [] ∷ []) "ann"
asks_empty_value = refl

-- some tools have no place in a batch
faulty_chpasswd : faulty "chpasswd -e" ≡ Some UnknownTool
faulty_chpasswd = refl

-- nor has chgpasswd
faulty_chgpasswd : faulty "chgpasswd -e" ≡ Some UnknownTool
faulty_chgpasswd = refl

-- nor groupmems
faulty_groupmems : faulty "groupmems -g q -p" ≡ Some UnknownTool
faulty_groupmems = refl

-- nor has pwck
faulty_pwck : faulty "pwck -r" ≡ Some UnknownTool
faulty_pwck = refl

-- nor grpck
faulty_grpck : faulty "grpck -s" ≡ Some UnknownTool
faulty_grpck = refl

-- nor getsubids
faulty_getsubids : faulty "getsubids ann" ≡ Some UnknownTool
faulty_getsubids = refl

-- nor chfn
faulty_chfn : faulty "chfn -f Ann ann" ≡ Some UnknownTool
faulty_chfn = refl

-- nor chsh
faulty_chsh : faulty "chsh -s /bin/sh ann" ≡ Some UnknownTool
faulty_chsh = refl

-- nor passwd
faulty_passwd : faulty "passwd -l ann" ≡ Some UnknownTool
faulty_passwd = refl

-- the faults come in the same order
faulty_value : faulty "gpasswd sudo -a" ≡ Some (MissingValue 2)
faulty_value = refl

-- an operand too many
faulty_operand : faulty "groupdel a b" ≡ Some (TooMany 2)
faulty_operand = refl

-- one too few, before the rules
faulty_few : faulty "groupmod -o" ≡ Some TooFew
faulty_few = refl

-- a broken rule
faulty_rule : faulty "groupmod -o staff" ≡ Some (Clash 1)
faulty_rule = refl
