-- Lists of words and what they ask for, each decided by computing.
use Prim.Native.String.{String}
use Rattle.std.specs.Prelude.{◌≡◌, ◌==◌, List, [], ◌∷◌, map, replicate, Some, None, Result, Ok, codes, refl}
use Rattle.std.specs.List.{slice_split}
use Rattle.std.specs.Str.{byte}
use Rattle.account_model.specs.declared.tool.Tool.{Tool}
use Rattle.account_model.specs.declared.tool.Tool.TheVariants.{Useradd, Usermod, Userdel, Chfn, Groupadd, Groupmod, Groupdel, Gpasswd, Groupmems, Chage, Chpasswd, Chgpasswd, Pwck, Grpck, Getsubids, Batch}
use Rattle.account_model.specs.declared.word_fault.WordFault.{WordFault}
use Rattle.account_model.specs.declared.word_fault.WordFault.TheVariants.{WordLimit, NoTool, UnknownTool, UnknownOption, MissingValue, UnexpectedValue, TooMany, NoPrefix, EmptyPrefix, TooFew, Clash}
use Rattle.account_model.specs.Options.{Word}
use Rattle.account_model.specs.declared.given.Given.{Given}
use Rattle.account_model.specs.Request.{Request}
use Rattle.account_model.specs.Words.{request_of, fault}

-- the words of a text without quotes, cut at blanks as a shell does
abbrev pub words_of : String → List Word
words_of text = slice_split (λ c. c == 32) (codes text)

-- an option that is a flag
abbrev pub flagged : String → Given
flagged letter = record { letter = byte letter; value = None }

-- an option with its value
abbrev pub valued : String → String → Given
valued letter value = record { letter = byte letter; value = Some (codes value) }

-- a request with the prefix R
abbrev pub request : Tool → List Given → List Word → Result Request WordFault
request tool options operands = Ok (record {
  tool = tool;
  prefix = codes "R";
  options = options;
  operands = operands;
  plan = None;
})

-- one operand
abbrev pub one : String → List Word
one operand = codes operand ∷ []

-- what each of these texts asks for
abbrev pub AskedAre : List (Result Request WordFault × Result Request WordFault) → Type 0
AskedAre rows = map (λ row. row.0) rows ≡ map (λ row. row.1) rows

-- a text, with the tool, the options and the operands that it asks for
abbrev pub asking : String → Tool → List Given → List Word
    → Result Request WordFault × Result Request WordFault
asking text tool options operands = (request_of (words_of text), request tool options operands)

requests : AskedAre (
    -- a value apart and a value in the word
    asking "useradd -P R -c Ann -Gsudo ann"
    Useradd (valued "c" "Ann" ∷ valued "G" "sudo" ∷ []) (one "ann")
    -- long names, with a value apart and behind `=`
    ∷ asking "useradd --prefix=R --comment Ann --gid= --system ann"
    Useradd (valued "c" "Ann" ∷ valued "g" "" ∷ flagged "r" ∷ []) (one "ann")
    -- a bundle whose last letter takes the rest as its value
    ∷ asking "usermod -P R -aGsudo www-data"
    Usermod (flagged "a" ∷ valued "G" "sudo" ∷ []) (one "www-data")
    -- a bundle whose last letter takes the next word, which begins with `-`
    ∷ asking "useradd -rMP R -u -1 ann"
    Useradd (flagged "r" ∷ flagged "M" ∷ valued "u" "-1" ∷ []) (one "ann")
    -- options behind the operand, and the last of a repeated prefix
    ∷ asking "userdel ann -P Q -f -P R" Userdel (flagged "f" ∷ []) (one "ann")
    -- `-R` is `-P`, and so is `--root`; the last of them counts
    ∷ asking "userdel ann -P Q -R S --root R" Userdel [] (one "ann")
    -- of gpasswd `-Q` is, as `-R` restricts the group
    ∷ asking "gpasswd -Q R -R sudo" Gpasswd (flagged "R" ∷ []) (one "sudo")
    -- `--` ends the options, and `-` alone is an operand
    ∷ asking "groupdel -P R -- -f" Groupdel [] (one "-f")
    -- `-` alone, without `--`
    ∷ asking "groupdel -P R -" Groupdel [] (one "-")
    -- an empty value in the next word, and an option that stands twice
    ∷ asking "gpasswd -P R -A  -A bob sudo"
    Gpasswd (valued "A" "" ∷ valued "A" "bob" ∷ []) (one "sudo")
    -- a letter means what the tool says: `-l` of usermod takes a value, and `-l` of chage is a flag
    ∷ asking "usermod -P R -l bea ann" Usermod (valued "l" "bea" ∷ []) (one "ann")
    -- and `-l` of chage is the flag
    ∷ asking "chage -P R -l bob" Chage (flagged "l" ∷ []) (one "bob")
    -- `-h` of chfn takes a value
    ∷ asking "chfn -P R -h5 --other a,b=c bob"
    Chfn (valued "h" "5" ∷ valued "o" "a,b=c" ∷ []) (one "bob")
    -- no operands
    ∷ asking "chpasswd -P R -e" Chpasswd (flagged "e" ∷ []) []
    ∷ asking "chgpasswd -P R --encrypted" Chgpasswd (flagged "e" ∷ []) []
    -- the group of groupmems is no operand
    ∷ asking "groupmems -P R --group sudo -abob"
    Groupmems (valued "g" "sudo" ∷ valued "a" "bob" ∷ []) []
    -- batch may have one operand, and may have none
    ∷ asking "batch -P R" Batch [] []
    -- which is its file
    ∷ asking "batch users -P R" Batch [] (one "users")
    -- a bundle before the prefix, and no operand
    ∷ asking "pwck -qr -P R" Pwck (flagged "q" ∷ flagged "r" ∷ []) []
    -- a long name that is a flag
    ∷ asking "grpck -P R --sort" Grpck (flagged "s" ∷ []) []
    -- a bundle whose last letter is the prefix, with the next word
    ∷ asking "getsubids -gP R root" Getsubids (flagged "g" ∷ []) (one "root")
    -- a flag in front of a value, and one behind it
    ∷ asking "groupadd -P R -f -g 27 -o dev"
    Groupadd (flagged "f" ∷ valued "g" "27" ∷ flagged "o" ∷ []) (one "dev")
    -- two values
    ∷ asking "groupmod -P R -g 2000 -n staff bob"
    Groupmod (valued "g" "2000" ∷ valued "n" "staff" ∷ []) (one "bob")
    -- the value of an option may be `--`
    ∷ asking "usermod -P R -c -- ann" Usermod (valued "c" "--" ∷ []) (one "ann")
    -- a long name with `=` twice: the value holds the second
    ∷ asking "useradd -P R --key=UID_MIN=5 ann" Useradd (valued "K" "UID_MIN=5" ∷ []) (one "ann")
    -- `-A` with `-M` is no clash
    ∷ asking "gpasswd -P R -A bob -M bob sudo"
    Gpasswd (valued "A" "bob" ∷ valued "M" "bob" ∷ []) (one "sudo")
    ∷ [])
requests = refl

-- the first fault of each of these texts
abbrev pub FaultsAre : List (String × WordFault) → Type 0
FaultsAre rows = map (λ row. fault (words_of row.0)) rows ≡ map (λ row. Some row.1) rows

-- options, values, operands and the folder
first_faults : FaultsAre (
    -- `-a` isn't an option of useradd; within a bundle the first letter counts
    ("useradd -aG sudo bob", UnknownOption 1)
    -- no prefix
    ∷ ("groupadd staff", NoPrefix)
    -- an empty prefix
    ∷ ("groupadd --prefix= staff", EmptyPrefix)
    -- the last prefix counts
    ∷ ("groupadd -P R --prefix= staff", EmptyPrefix)
    -- an unknown tool
    ∷ ("adduser -P R ann", UnknownTool)
    -- an empty word is no tool
    ∷ (" -P R ann", UnknownTool)
    -- an unknown letter behind a good one
    ∷ ("userdel -P R -fr ann", UnknownOption 3)
    -- an unknown long name, one that isn't written out
    ∷ ("usermod -P R --comm x ann", UnknownOption 3)
    -- getsubids has no long name for `-g`
    ∷ ("getsubids -P R --group root", UnknownOption 3)
    -- a value is missing at the end
    ∷ ("useradd ann -P", MissingValue 2)
    -- also behind a flag of its bundle
    ∷ ("useradd ann -rP", MissingValue 2)
    -- and behind a long name
    ∷ ("useradd ann --prefix", MissingValue 2)
    -- a flag with a value
    ∷ ("useradd -P R --system=yes ann", UnexpectedValue 3)
    -- too many operands
    ∷ ("useradd -P R ann bob", TooMany 4)
    -- too many operands behind `--`
    ∷ ("pwck -P R -r -- x", TooMany 5)
    -- an operand too many comes before a later unknown option
    ∷ ("pwck x -z", TooMany 1)
    -- an unknown option comes before the missing prefix
    ∷ ("pwck -z", UnknownOption 1)
    -- a `-` in a bundle is an unknown letter
    ∷ ("userdel -P R -f- ann", UnknownOption 3)
    -- `--=V` is an unknown name
    ∷ ("userdel -P R --=V ann", UnknownOption 3)
    -- an operand is missing
    ∷ ("useradd -P R", TooFew)
    -- the missing operand comes before the rules
    ∷ ("useradd -P R -o", TooFew)
    -- groupmems has no operand
    ∷ ("groupmems -P R -l sudo", TooMany 4)
    -- a conversion has no operand
    ∷ ("pwconv -P R bob", TooMany 3)
    ∷ [])
first_faults = refl

-- the rules of the tools
broken_rules : FaultsAre (
    -- the rules of useradd
    ("useradd -P R -g 5 -U ann", Clash 1)
    -- `-N` with `-U`
    ∷ ("useradd -P R -NU ann", Clash 2)
    -- `-o` without `-u`
    ∷ ("useradd -P R -o ann", Clash 3)
    -- the lowest broken rule
    ∷ ("useradd -P R -oNU -g 5 ann", Clash 1)
    -- the rules of usermod
    ∷ ("usermod -P R -a ann", Clash 1)
    -- `-o` without `-u`
    ∷ ("usermod -P R -o ann", Clash 2)
    -- `-L` with `-U`
    ∷ ("usermod -P R -LU ann", Clash 3)
    -- and with `-p`
    ∷ ("usermod -P R -L -p h ann", Clash 3)
    -- no option at all
    ∷ ("usermod -P R ann", Clash 4)
    -- the rule of groupadd
    ∷ ("groupadd -P R -o staff", Clash 1)
    -- the rules of groupmod
    ∷ ("groupmod -P R -o -p h staff", Clash 1)
    -- no option at all
    ∷ ("groupmod -P R staff", Clash 2)
    -- the rules of gpasswd
    ∷ ("gpasswd -P R sudo", Clash 1)
    -- `-a` with `-M`
    ∷ ("gpasswd -P R -a bob -M bob sudo", Clash 2)
    -- `-r` with `-R`
    ∷ ("gpasswd -P R -r -R sudo", Clash 2)
    -- the rules of groupmems
    ∷ ("groupmems -P R -l", Clash 1)
    -- what is to be done isn't said
    ∷ ("groupmems -P R -g sudo", Clash 2)
    -- or twice
    ∷ ("groupmems -P R -g sudo -a bob -p", Clash 2)
    -- the rules of chage
    ∷ ("chage -P R bob", Clash 1)
    -- `-l` with another option
    ∷ ("chage -P R -l -d 0 bob", Clash 2)
    -- the rules of passwd
    ∷ ("passwd -P R bob", Clash 1)
    -- `-S` with another option
    ∷ ("passwd -P R -S -x 9 bob", Clash 2)
    -- `-l` with `-u`
    ∷ ("passwd -P R -lu bob", Clash 3)
    -- the rule of chfn
    ∷ ("chfn -P R bob", Clash 1)
    -- the rule of chsh
    ∷ ("chsh -P R bob", Clash 1)
    -- the rule of chpasswd
    ∷ ("chpasswd -P R", Clash 1)
    -- and that of chgpasswd
    ∷ ("chgpasswd -P R", Clash 1)
    -- the rules of pwck and grpck
    ∷ ("pwck -P R -q", Clash 1)
    -- `-r` with `-s`
    ∷ ("pwck -P R -r -s", Clash 2)
    -- neither of them
    ∷ ("grpck -P R", Clash 1)
    -- both of them
    ∷ ("grpck -P R -sr", Clash 2)
    ∷ [])
broken_rules = refl

-- no words
no_words : fault [] ≡ Some NoTool
no_words = refl

-- the 513th word, which has place 512, and a word of 4,097 bytes; a limit comes before all other faults
word_513 : fault (replicate 513 []) ≡ Some (WordLimit 512)
word_513 = refl

-- 512 words are few enough
words_512 : fault (replicate 512 []) ≡ Some UnknownTool
words_512 = refl

-- 4,097 bytes are too many
long_word : fault (codes "adduser" ∷ replicate 4097 0 ∷ []) ≡ Some (WordLimit 1)
long_word = refl

-- and 4,096 are not
longest_word : fault (codes "adduser" ∷ replicate 4096 0 ∷ []) ≡ Some UnknownTool
longest_word = refl
