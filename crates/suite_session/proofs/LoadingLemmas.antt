-- Claim: what a read of the inputs answered shows where it leads: to the next read (`more-shown`),
-- to the inputs (`done-keeper`), or no further (`missing-shown`, `large-shown`, `fault-before`).
-- Way: each outcome comes of one kind of answer alone.
use Rattle.std.proofs.Common.{◌≡◌, refl, sym, ap, subst, true, Option, Some, None, Result, Ok, Err}
use Rattle.acct_text.specs.declared.Tab.{Tab}
use Rattle.acct_text.specs.Bytes.{Bytes}
use Rattle.acct_outside.specs.declared.FolderFault.{FolderFault}
use Rattle.acct_outside.specs.declared.StageFault.{StageFault}
use Rattle.acct_outside.specs.declared.CommitStage.TheVariants.{Before}
use Rattle.acct_outside.specs.declared.Name.{Name}
use Rattle.acct_outside.specs.Calls.{Found, found_absent, found_bytes, found_too_large}
use Rattle.lock_steps.specs.States.{Kept}
use Rattle.commit_steps.specs.declared.Loading.TheVariants.{More, Done}
use Rattle.commit_steps.specs.declared.LoadEnd.TheVariants.{Fault, TooLarge, NoTable}
use Rattle.commit_steps.specs.States.{Reader, Inputs, inputs_of, next_name, read_on}
use Rattle.commit_steps.specs.Outcomes.{Loads, LoadsContent, is_missing}
use Rattle.commit_steps.proofs.ReadsLemmas.{never-missing}

-- of one that leads to the next
content-more : (reader more : Reader) (next : Option Tab) (content : Option Bytes) →
    LoadsContent reader next content (Ok (More more)) →
    (table : Tab) × (next ≡ Some table) × (more ≡ read_on reader table content)
content-more reader more (Some table) content shown = (table, refl, shown.1)
content-more reader more None content shown = absurd shown

-- a reader that goes on has read the table that was next, and keeps what it holds
pub more-shown : (reader more : Reader) (answer : Result Found FolderFault) →
    Loads reader answer (Ok (More more)) →
    (content : Option Bytes) × ((table : Tab) × (reader.next ≡ Some table)
    × (more ≡ read_on reader table content))
more-shown reader more (Ok found_absent) shown =
    (None, content-more reader more reader.next None shown)
more-shown reader more (Ok (found_bytes bytes)) shown =
    (Some bytes, content-more reader more reader.next (Some bytes) shown)
more-shown reader more (Ok found_too_large) shown = absurd shown
more-shown reader more (Err fault) shown = absurd shown

-- of the last
content-done : (reader : Reader) (inputs : Inputs) (next : Option Tab) (content : Option Bytes) →
    LoadsContent reader next content (Ok (Done inputs)) → inputs ≡ inputs_of reader content
content-done reader inputs None content shown = shown
content-done reader inputs (Some table) content shown = absurd shown

-- a reader that is done keeps the lock that it began with
pub done-keeper : (reader : Reader) (inputs : Inputs) (answer : Result Found FolderFault) →
    Loads reader answer (Ok (Done inputs)) → inputs.keeper ≡ reader.keeper
done-keeper reader inputs (Ok found_absent) shown = ap (λ (one : Inputs). one.keeper)
    (content-done reader inputs reader.next None shown)
done-keeper reader inputs (Ok (found_bytes bytes)) shown = ap (λ (one : Inputs). one.keeper)
    (content-done reader inputs reader.next (Some bytes) shown)
done-keeper reader inputs (Ok found_too_large) shown = absurd shown
done-keeper reader inputs (Err fault) shown = absurd shown

-- and its tables are those that it had read before
pub done-files : (reader : Reader) (inputs : Inputs) (answer : Result Found FolderFault) →
    Loads reader answer (Ok (Done inputs)) → inputs.files ≡ reader.files
done-files reader inputs (Ok found_absent) shown = ap (λ (one : Inputs). one.files)
    (content-done reader inputs reader.next None shown)
done-files reader inputs (Ok (found_bytes bytes)) shown = ap (λ (one : Inputs). one.files)
    (content-done reader inputs reader.next (Some bytes) shown)
done-files reader inputs (Ok found_too_large) shown = absurd shown
done-files reader inputs (Err fault) shown = absurd shown

-- of one that finds no table
content-missing : (reader : Reader) (missing : Tab) (kept : Kept) (next : Option Tab) →
    LoadsContent reader next None (Err (NoTable missing kept)) →
    (is_missing missing None ≡ true) × (kept ≡ reader.keeper)
content-missing reader missing kept (Some table) shown = (
  subst (λ (one : Tab). is_missing one None ≡ true) (sym shown.1) shown.0,
  shown.2,
)
content-missing reader missing kept None shown = absurd shown

-- no table that is there is told as missing
content-there : (reader : Reader) (missing : Tab) (kept : Kept) (next : Option Tab)
    (bytes : Bytes) → LoadsContent reader next (Some bytes) (Err (NoTable missing kept)) → ⊥
content-there reader missing kept (Some table) bytes shown = never-missing table bytes shown.0
content-there reader missing kept None bytes shown = absurd shown

-- a table that is told as missing is one without which no command goes on, and the lock is kept
pub missing-shown : (reader : Reader) (missing : Tab) (kept : Kept)
    (answer : Result Found FolderFault) → Loads reader answer (Err (NoTable missing kept)) →
    (is_missing missing None ≡ true) × (kept ≡ reader.keeper)
missing-shown reader missing kept (Ok found_absent) shown =
    content-missing reader missing kept reader.next shown
missing-shown reader missing kept (Ok (found_bytes bytes)) shown =
    absurd (content-there reader missing kept reader.next bytes shown)
missing-shown reader missing kept (Ok found_too_large) shown = absurd shown
missing-shown reader missing kept (Err fault) shown = absurd shown

-- of one that finds too much
content-small : (reader : Reader) (name : Name) (kept : Kept) (next : Option Tab)
    (content : Option Bytes) → LoadsContent reader next content (Err (TooLarge name kept)) → ⊥
content-small reader name kept (Some table) content shown = shown
content-small reader name kept None content shown = shown

-- a file that is told as too large was found too large, was the next, and the lock is kept
pub large-shown : (reader : Reader) (name : Name) (kept : Kept)
    (answer : Result Found FolderFault) →
    Loads reader answer (Err (TooLarge name kept)) →
    (answer ≡ Ok found_too_large) × (name ≡ next_name reader.next) × (kept ≡ reader.keeper)
large-shown reader name kept (Ok found_too_large) shown = (refl, shown.0, shown.1)
large-shown reader name kept (Ok found_absent) shown =
    absurd (content-small reader name kept reader.next None shown)
large-shown reader name kept (Ok (found_bytes bytes)) shown =
    absurd (content-small reader name kept reader.next (Some bytes) shown)
large-shown reader name kept (Err fault) shown = absurd shown

-- of a fault
content-faultless : (reader : Reader) (fault : StageFault) (next : Option Tab)
    (content : Option Bytes) → LoadsContent reader next content (Err (Fault fault)) → ⊥
content-faultless reader fault (Some table) content shown = shown
content-faultless reader fault None content shown = shown

-- a fault of a read comes before the commit
pub fault-before : (reader : Reader) (fault : StageFault) (answer : Result Found FolderFault) →
    Loads reader answer (Err (Fault fault)) → fault.stage ≡ Before
fault-before reader fault (Err came) shown = ap (λ (one : StageFault). one.stage) shown
fault-before reader fault (Ok found_absent) shown =
    absurd (content-faultless reader fault reader.next None shown)
fault-before reader fault (Ok (found_bytes bytes)) shown =
    absurd (content-faultless reader fault reader.next (Some bytes) shown)
fault-before reader fault (Ok found_too_large) shown = absurd shown
