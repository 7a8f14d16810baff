-- What is said of what a session met, and with which status: rows of `status_of`, `reason_text` and
-- `told_line`.
use Prim.Native.String.{String}
use Rattle.std.specs.Prelude.{◌≡◌, ℕ, List, [], ◌∷◌, ◌++◌, codes, refl}
use Rattle.std.specs.Fmt.{digits}
use Rattle.acct_text.specs.Bytes.{newline}
use Rattle.acct_outside.specs.declared.Name.TheVariants.{Intent}
use Rattle.acct_outside.specs.declared.CommitStage.TheVariants.{Before, Unsure, Committed}
use Rattle.account_model.specs.declared.word_fault.WordFault.TheVariants.{UnknownOption}
use Rattle.account_model.specs.declared.tool.Tool.TheVariants.{Useradd, Groupadd, Groupdel, Pwck, Getsubids}
use Rattle.suite_answers.specs.declared.cause.Which.TheVariants.{File}
use Rattle.suite_answers.specs.declared.cause.Cause.TheVariants.{BatchSyntax, Held, Gone, Raced, Outrun, LockDamaged, Exhausted, IntentDamaged, TooLarge, DiskFault, Memory}
use Rattle.suite_answers.specs.Answers.{message_of, told_line}
use Rattle.suite_answers.specs.Reasons.{status_of}

-- the text as a line
abbrev line : String → List ℕ
line text = codes text ++ newline ∷ []

-- ---- The lock

-- its holder may still run
held : message_of Groupdel (Held (codes "z")) ≡ line "groupdel: accounts are locked by z"
held = refl

held_status : status_of Groupdel (Held (codes "z")) ≡ 10
held_status = refl

gone : message_of Useradd (Gone 7) ≡ line "useradd: lock 7 vanished"
unfolding digits
gone = refl

raced : message_of Useradd (Raced 7) ≡ line "useradd: lock 7 was taken first"
unfolding digits
raced = refl

outrun : message_of Groupadd (Outrun 5 6) ≡ line "groupadd: lock 5 was outrun by 6"
unfolding digits
outrun = refl

lock_damaged : message_of Groupdel (LockDamaged 3) ≡ line "groupdel: lock 3 is damaged"
unfolding digits
lock_damaged = refl

exhausted : message_of Groupdel Exhausted ≡ line "groupdel: lock numbers are used up"
exhausted = refl

exhausted_for_report : status_of Pwck Exhausted ≡ 4
exhausted_for_report = refl

-- ---- The intent, the disk and the memory

intent_damaged : message_of Groupadd (IntentDamaged 2)
    ≡ line "groupadd: intent is damaged in part 2"
unfolding digits
intent_damaged = refl

intent_large : message_of Pwck (TooLarge (File Intent)) ≡ line "pwck: intent is too large"
intent_large = refl

intent_large_status : status_of Pwck (TooLarge (File Intent)) ≡ 3
intent_large_status = refl

disk_fault : message_of Groupadd (DiskFault Unsure)
    ≡ line "groupadd: it isn't known whether the change was made: folder fault"
disk_fault = refl

disk_fault_status : status_of Pwck (DiskFault Before) ≡ 5
disk_fault_status = refl

memory : message_of Getsubids (Memory Committed)
    ≡ line "getsubids: the change was made, and the next command finishes it: want of memory"
memory = refl

-- ---- A line of a batch

-- batch with the one line `groupadd -P X z`, as no line has a folder of its own
line_fault : told_line (record {
  number = 1;
  words = codes "groupadd" ∷ codes "-P" ∷ codes "X" ∷ codes "z" ∷ [];
  fault = UnknownOption 1;
})
    ≡ record {
      outcome = record { status = 2; cause = BatchSyntax 1 (UnknownOption 1) };
      out = [];
      err = line "batch: line 1: unknown option in word 1: -P";
    }
unfolding digits
line_fault = refl
