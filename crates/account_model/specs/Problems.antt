-- The problems that pwck(8) and grpck(8) report, and their lines.
use Rattle.std.specs.Prelude.{◌≡◌, ◌≤◌, ⊤, ℕ, Bool, true, false, not, ◌+◌, ◌||◌, ◌==◌, if◌then◌else◌, List, [], ◌∷◌, ◌++◌, length, map, filter, flat_map, decimal, codes, Option, Some, None}
use Rattle.std.specs.List.{AllByRecursion}
use Rattle.acct_text.specs.declared.Tab.{Tab}
use Rattle.acct_text.specs.Bytes.{newline, is_empty}
use Rattle.acct_text.specs.Lines.{Line, lines_of}
use Rattle.acct_text.specs.Tables.{table_name}
use Rattle.account_model.specs.Text.{hyphen, begins_with}
use Rattle.account_model.specs.Format.{Format, records_of, has_named}

-- what is wrong with a line
pub data Problem : Type 0 where
  -- the line is other text
  InvalidEntry : Problem
  -- an earlier record line has the name
  DuplicateName : List ℕ → Problem
  -- passwd: the name isn't valid; no group has the primary GID; shadow lacks the user; the
  -- password field isn't `x`
  InvalidUserName : List ℕ → Problem
  NoPrimaryGroup : List ℕ → ℕ → Problem
  NoShadowEntry : List ℕ → Problem
  PasswordNotInShadow : List ℕ → Problem
  -- shadow: passwd lacks the user; the last change lies after today
  NoPasswdEntry : List ℕ → Problem
  ChangeInFuture : List ℕ → Problem
  -- group: the name isn't valid; gshadow lacks the group
  InvalidGroupName : List ℕ → Problem
  NoGshadowEntry : List ℕ → Problem
  -- gshadow: group lacks the group; an administrator, by group and user, isn't in passwd
  NoGroupEntry : List ℕ → Problem
  UnknownAdministrator : List ℕ → List ℕ → Problem
  -- group and gshadow: a member, by group and user, isn't in passwd
  UnknownMember : List ℕ → List ℕ → Problem

-- what is printed of a problem; the texts are this profile's own
abbrev pub problem_text : Problem → List ℕ
problem_text InvalidEntry = codes "invalid entry"
problem_text (DuplicateName name) = codes "duplicate name " ++ name
problem_text (InvalidUserName name) = codes "invalid user name " ++ name
problem_text (NoPrimaryGroup name gid) =
    codes "user " ++ name ++ codes " has no primary group " ++ decimal gid
problem_text (NoShadowEntry name) = codes "user " ++ name ++ codes " has no shadow entry"
problem_text (PasswordNotInShadow name) =
    codes "password of user " ++ name ++ codes " is not in shadow"
problem_text (NoPasswdEntry name) = codes "user " ++ name ++ codes " has no passwd entry"
problem_text (ChangeInFuture name) =
    codes "last change of user " ++ name ++ codes " is in the future"
problem_text (InvalidGroupName name) = codes "invalid group name " ++ name
problem_text (NoGshadowEntry name) = codes "group " ++ name ++ codes " has no gshadow entry"
problem_text (NoGroupEntry name) = codes "group " ++ name ++ codes " has no group entry"
problem_text (UnknownAdministrator name user) =
    codes "group " ++ name ++ codes " has unknown administrator " ++ user
problem_text (UnknownMember name user) =
    codes "group " ++ name ++ codes " has unknown member " ++ user

-- a notice, which `-q` of pwck leaves out
abbrev pub is_notice : Problem → Bool
is_notice (ChangeInFuture name) = true
is_notice problem = false

-- ---- The problems of a line

-- the problem where the test holds
abbrev pub problem_if : Bool → Problem → List Problem
problem_if test problem = if test then problem ∷ [] else []

-- an earlier record has the name
abbrev pub duplicate_name : {R : Type 0} → Format R → List R → R → List Problem
duplicate_name format earlier r =
    problem_if (has_named format (format.name r) earlier) (DuplicateName (format.name r))

-- `+`
abbrev pub plus_sign : ℕ
plus_sign = 43

-- the line belongs to NIS: it begins with `+` or `-`
abbrev pub is_nis : List ℕ → Bool
is_nis text = begins_with plus_sign text || begins_with hyphen text

-- the problems of a table's record behind the earlier ones, in their order
abbrev pub RecordProblems : Type 0 → Type 0
RecordProblems R = List R → R → List Problem

-- A line of NIS has no problem. Other text is an invalid entry, and has no other problem.
abbrev pub problems_of_line :
    {R : Type 0} → Format R → RecordProblems R → List R → List ℕ → List Problem
problems_of_line format problems earlier text = if is_nis text then [] else
    elim (format.read text) [ None ↦ InvalidEntry ∷ [] | Some r ↦ problems earlier r ]

-- ---- The problems of a table

-- a problem at its line, counted from 1
pub record Located : Type 0 where
  pub line : ℕ
  pub problem : Problem

-- each of these problems at this line
abbrev pub at_line : ℕ → List Problem → List Located
at_line number problems = map (λ problem. record { line = number; problem = problem }) problems

-- whether the problem is of the line with this number
abbrev pub is_at : ℕ → Located → Bool
is_at number located = located.line == number

-- no line number is less than the one before it, and the first is at least this one
abbrev pub AreAscending : ℕ → List Located → Type 0
AreAscending least [] = ⊤
AreAscending least (located ∷ rest) = (least ≤ located.line) × AreAscending located.line rest

-- The report of a table: line after line, from 1 to the last, and of each line its problems, in their order.
pub record IsReport {R : Type 0} (format : Format R) (problems : RecordProblems R)
    (lines : List Line) (report : List Located) : Type 0 where
  pub ascending : AreAscending 1 report
  pub within : AllByRecursion (λ located. located.line ≤ length lines) report
  pub of_line : (before : List Line) (line : Line) (after : List Line)
      → lines ≡ before ++ line ∷ after
      → filter (is_at (length before + 1)) report
      ≡ at_line (length before + 1)
      (problems_of_line format problems (records_of format before) line.text)

-- ---- computed

-- the problems of lines behind earlier ones, whose number is that of the lines before
abbrev pub problems_behind :
    {R : Type 0} → Format R → RecordProblems R → List Line → List Line → List Located
problems_behind format problems before [] = []
problems_behind format problems before (line ∷ after) =
    at_line (length before + 1)
    (problems_of_line format problems (records_of format before) line.text)
    ++ problems_behind format problems (before ++ line ∷ []) after

-- the problems of a table, line after line; an absent one has none
abbrev pub table_problems :
    {R : Type 0} → Format R → RecordProblems R → Option (List ℕ) → List Located
table_problems format problems None = []
table_problems format problems (Some bytes) = problems_behind format problems [] (lines_of bytes)

-- ---- What is printed

-- TABLE:LINE: TEXT
abbrev pub problem_line : Tab → Located → List ℕ
problem_line table located = table_name table ++ codes ":" ++ decimal located.line ++ codes ": "
    ++ problem_text located.problem ++ newline ∷ []

-- a line for each problem
abbrev pub problem_lines : Tab → List Located → List ℕ
problem_lines table problems = flat_map (problem_line table) problems

-- the problems that aren't notices
abbrev pub without_notices : List Located → List Located
without_notices problems = filter (λ located. not (is_notice located.problem)) problems

-- the status of a report with a problem (pwck(8), grpck(8))
abbrev pub bad_entries : ℕ
bad_entries = 2

-- the status of a report, to which a notice counts as well
abbrev pub report_status : List Located → ℕ
report_status problems = if is_empty problems then 0 else bad_entries
