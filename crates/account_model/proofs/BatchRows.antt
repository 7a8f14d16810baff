-- batch: rows of commands that are made as one, each decided by computing.
use Prim.Native.String.{String}
use Rattle.std.specs.Prelude.{◌≡◌, ℕ, List, [], ◌∷◌, ◌++◌, codes, Option, Some, None, Result, Ok, Err, refl}
use Rattle.std.specs.Fmt.{digits}
use Rattle.acct_text.specs.Bytes.{newline}
use Rattle.acct_text.specs.declared.files.Files.{Files}
use Rattle.acct_text.specs.declared.Tab.TheVariants.{Group}
use Rattle.account_model.specs.LineWords.{backslash}
use Rattle.account_model.specs.declared.word_fault.WordFault.{WordFault}
use Rattle.account_model.specs.declared.refusal.Refusal.{Refusal}
use Rattle.account_model.specs.declared.refusal.Refusal.TheVariants.{GidInUse, GroupExists, Multiple, NoShadow}
use Rattle.account_model.specs.Words.{request_of}
use Rattle.account_model.specs.Answer.{Answer, RefusedLine, deed}
use Rattle.account_model.proofs.Commands.{words, lines, today, answer_with, changed, same, small, nothing}

-- what a batch answers on files without settings, by its lines
abbrev batch_on : Files → List ℕ → Result Answer WordFault
batch_on files input = answer_with input (words "batch -P R") files None

-- this line refuses, with the status of its tool
abbrev refused_line : ℕ → ℕ → Refusal → String → Result Answer WordFault
refused_line number status refusal text =
    Ok (record {
      cause = RefusedLine number refusal;
      status = status;
      output = [];
      error = codes text ++ newline ∷ [];
    })

-- a group with a GID, and one whose GID is the next above it
two_groups : batch_on nothing (lines "groupadd -g 1500 staff|groupadd q")
    ≡ changed (record nothing { group = Some (lines "staff:!:1500:|q:!:1501:") })
unfolding digits
two_groups = refl

-- a third line that refuses refuses all three
third_refuses : batch_on nothing (lines "groupadd -g 1500 staff|groupadd q|groupadd staff")
    ≡ refused_line 3 9 (GroupExists (codes "staff")) "batch: line 3: groupadd: group staff exists"
unfolding digits
third_refuses = refl

-- skipped lines count, and the status is that of the line's tool
second_refuses : batch_on nothing (lines "# no shadow|chage -E 0 ann")
    ≡ refused_line 2 15 NoShadow "batch: line 2: chage: shadow does not exist"
unfolding digits
second_refuses = refl

-- a comment of two words
user_with_comment :
    batch_on nothing (codes "useradd -c Ann" ++ backslash ∷ codes " Lee -N ann")
    ≡ changed (record nothing { passwd = Some (lines "ann:!:1000:100:Ann Lee:/home/ann:") })
unfolding digits
user_with_comment = refl

-- no lines, and none but skipped ones
no_lines : batch_on nothing [] ≡ same
unfolding digits
no_lines = refl

skipped_lines : batch_on nothing (lines "# nothing||  ") ≡ same
unfolding digits
skipped_lines = refl

-- what one line makes and another takes away is no change
there_and_back : batch_on nothing (lines "groupadd q|groupdel q") ≡ same
unfolding digits
there_and_back = refl

-- each line sees what those before it leave: a user gets the group that was made for him
made_for_him : batch_on nothing (lines "groupadd -g 7 ann|useradd -g ann ann|gpasswd -a ann ann")
    ≡ changed (small "ann:!:1000:7::/home/ann:" "ann:!:7:ann")
unfolding digits
made_for_him = refl

-- multiple entries of a name that a line touches refuse the batch by the line's number
twice_in_group : batch_on (small "" "q:!:7:|q:!:8:") (lines "groupadd z|groupmod -n y q")
    ≡ refused_line 2 10 (Multiple Group (codes "q"))
    "batch: line 2: groupmod: group has multiple entries for q"
unfolding digits
twice_in_group = refl

-- ---- Lines that are done already

-- what a batch with `--ensure` answers
abbrev ensuring_on : Files → List ℕ → Result Answer WordFault
ensuring_on files input = answer_with input (words "batch -P R --ensure") files None

-- who is there stays, and who is gone needs no removal; the others are carried out
ensured : ensuring_on (small "ann:!:5:7::/:" "q:!:7:")
    (lines "groupadd -g 9 q|useradd -u 6 ann|userdel bea|groupdel z|gpasswd -d ann q|groupadd -g 8 p")
    ≡ changed (small "ann:!:5:7::/:" "q:!:7:|p:!:8:")
unfolding digits
ensured = refl

-- what it has made it finds made
ensured_again : ensuring_on (small "ann:!:5:7::/:" "q:!:7:|p:!:8:")
    (lines "groupadd -g 9 q|useradd -u 6 ann|userdel bea|groupdel z|gpasswd -d ann q|groupadd -g 8 p")
    ≡ same
unfolding digits
ensured_again = refl

-- any other refusal refuses it: a GID that another group has
other_refusal : ensuring_on (small "" "q:!:7:") (lines "groupadd q|groupadd -g 7 p")
    ≡ refused_line 2 4 (GidInUse 7) "batch: line 2: groupadd: GID 7 is in use"
unfolding digits
other_refusal = refl

-- ---- Lines that ask for nothing

-- the deed of a batch on these files
abbrev batch_deed : Files → List ℕ → Option Files
batch_deed files input = elim (request_of (words "batch -P R")) [
  | Err fault ↦ None
  | Ok request ↦ deed request input today files None
]

-- a line that asks for something is a deed
one_deed : batch_deed nothing (lines "groupadd -g 1500 staff")
    ≡ Some (record nothing { group = Some (lines "staff:!:1500:") })
unfolding digits
one_deed = refl

-- beside one that asks for nothing it is none
faulty_deed : batch_deed nothing (lines "groupadd -g 1500 staff|groupadd -z q") ≡ None
unfolding digits
faulty_deed = refl
