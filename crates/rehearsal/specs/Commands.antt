-- The commands of a rehearsal on the image R: with k = 5b + j, j from 1 to 5 and b from 0, command k has
-- the number N = SEED + b in its names.
use Rattle.std.specs.Prelude.{ℕ, ◌+◌, ◌-◌, ◌/◌, ◌%◌, ◌==◌, Bool, if◌then◌else◌, List, [], ◌∷◌, ◌++◌, codes, decimal}
use Rattle.acct_text.specs.Bytes.{Bytes}
use Rattle.account_model.specs.declared.tool.Tool.{Tool}
use Rattle.account_model.specs.declared.tool.Tool.TheVariants.{Useradd, Usermod, Userdel, Groupadd, Groupmod, Chage}
use Rattle.account_model.specs.Words.{tool_name}
use Rattle.account_model.specs.Options.{Word}
use Rattle.rehearsal.specs.declared.commands.Command.{Command}
use Rattle.rehearsal.specs.declared.commands.Command.TheVariants.{AddUser, AddGroup, JoinGroup, LimitAge, RenameGroup, RemoveUser}

-- ---- Which command stands where

-- the command of a round at j - 1: the last one renames the group in an even round, and in an odd one
-- removes the user of the round before
abbrev pub command_in : (is_even : Bool) → ℕ → ℕ → Command
command_in is_even number turn =
    if turn == 0 then AddUser number else
    (if turn == 1 then AddGroup number else
    (if turn == 2 then JoinGroup number else
    (if turn == 3 then LimitAge number else
    (if is_even then RenameGroup number else RemoveUser (number - 1)))))

-- the command at a place, which is k - 1
abbrev pub command_at : ℕ → ℕ → Command
command_at seed place = command_in (place / 5 % 2 == 0) (seed + place / 5) (place % 5)

-- ---- Its words

-- a name: a letter with a number behind it
abbrev pub numbered : Bytes → ℕ → Word
numbered letter number = letter ++ decimal number

-- the tool of a command
abbrev pub tool_of : Command → Tool
tool_of (AddUser number) = Useradd
tool_of (AddGroup number) = Groupadd
tool_of (JoinGroup number) = Usermod
tool_of (LimitAge number) = Chage
tool_of (RenameGroup number) = Groupmod
tool_of (RemoveUser number) = Userdel

-- its options and its operand
abbrev pub own_words : Command → List Word
own_words (AddUser number) = codes "-U" ∷ numbered (codes "u") number ∷ []
own_words (AddGroup number) = numbered (codes "g") number ∷ []
own_words (JoinGroup number) =
    codes "-a" ∷ codes "-G" ∷ numbered (codes "g") number ∷ numbered (codes "u") number ∷ []
own_words (LimitAge number) = codes "-M" ∷ codes "90" ∷ numbered (codes "u") number ∷ []
own_words (RenameGroup number) =
    codes "-n" ∷ numbered (codes "h") number ∷ numbered (codes "g") number ∷ []
own_words (RemoveUser number) = numbered (codes "u") number ∷ []

-- all its words
abbrev pub words_of : Command → List Word
words_of command = tool_name (tool_of command) ∷ codes "-P" ∷ codes "R" ∷ own_words command
