-- IDs stay apart, whichever commands are committed and in whatever order: the deeds of the tools, one after another on the
-- first settled files.
use Rattle.std.specs.Prelude.{◌≡◌, ℕ, Bool, List, ◌++◌, ⊤}
use Rattle.std.specs.List.{AllByRecursion}
use Rattle.acct_text.specs.declared.files.Files.{Files}
use Rattle.acct_outside.specs.Folder.{Folder}
use Rattle.acct_outside.specs.History.{History, after}
use Rattle.account_model.specs.Request.{Request}
use Rattle.account_model.specs.Words.{Asks}
use Rattle.suite_rules.specs.Deeds.{SuiteDeeds}
use Rattle.suite_rules.specs.Lawful.{Lawful}
use Rattle.suite_rules.specs.Settled.{settled}
use Rattle.suite_rules.specs.Committed.{Commitment, committed, folded}
use Rattle.suite_session.specs.Deeds.{AreOfTools, files_of}
use Rattle.ids_apart.specs.Apart.{UidsAreDistinct, GidsAreDistinct, SubuidsAreApart, SubgidsAreApart}
use Rattle.ids_apart.specs.Holders.{gid_holders, shares_gid, shares_uid, subgid_holders, subuid_holders, uid_holders}
use Rattle.ids_apart.specs.Laws.{MeetNoMore, NoneDoes, ShareNoIds}

-- what the command's words ask for has no `-o`, and neither has a line of a batch
abbrev pub AsksForOwnIds : Commitment → Type 0
AsksForOwnIds one =
    (request : Request) → Asks one.command.words request → ShareNoIds request one.command.input

-- any committed commands
abbrev pub AreAny : List Commitment → Type 0
AreAny commands = ⊤

-- committed commands without `-o`
abbrev pub AreWithoutSharing : List Commitment → Type 0
AreWithoutSharing commands = AllByRecursion AsksForOwnIds commands

-- what the command's words ask for doesn't do this, and neither does a line of a batch
abbrev pub AsksForNoSuch : (Request → Bool) → Commitment → Type 0
AsksForNoSuch does one =
    (request : Request) → Asks one.command.words request → NoneDoes does request one.command.input

-- no committed command does it
abbrev pub AreNone : (Request → Bool) → List Commitment → Type 0
AreNone does commands = AllByRecursion (AsksForNoSuch does) commands

-- ---- No new meeting

-- An ID with so many holders in the first settled files has no more after each front of the committed list, where its
-- commands are such, but the one that an ID without any may get. So it is with the settled files of a lawful history.
pub record AddsNoHolders (AreSuch : List Commitment → Type 0) (holders : Files → ℕ) : Type 0 where
  pub after_front : (deeds : SuiteDeeds) → AreOfTools deeds → (first : Folder) (history : History)
      (front later : List Commitment) → committed history ≡ front ++ later → AreSuch front
      → MeetNoMore (holders (files_of (settled first)))
      (holders (files_of (folded deeds first front)))
  pub at_present : (deeds : SuiteDeeds) → AreOfTools deeds → (first : Folder) (history : History)
      → Lawful deeds first history → AreSuch (committed history)
      → MeetNoMore (holders (files_of (settled first)))
      (holders (files_of (settled (after first history))))

-- whatever stood at first: a UID that no committed `useradd -o` and no `usermod -o` names, a GID that no `groupadd -o` and
-- no `groupmod -o` names, and each number of the subordinate ranges
pub record NoNewHolders : Type 0 where
  pub uids : (uid : ℕ) → AddsNoHolders (AreNone (shares_uid uid)) (uid_holders uid)
  pub gids : (gid : ℕ) → AddsNoHolders (AreNone (shares_gid gid)) (gid_holders gid)
  pub subuids : (number : ℕ) → AddsNoHolders AreAny (subuid_holders number)
  pub subgids : (number : ℕ) → AddsNoHolders AreAny (subgid_holders number)

-- ---- Where all was apart

-- What holds of the first settled files holds after each front of the committed list, where its commands are such. So in a
-- lawful history it holds of the settled files, at each moment and after each death.
pub record StaysSo (AreSuch : List Commitment → Type 0) (Holds : Files → Type 0) : Type 0 where
  pub after_front : (deeds : SuiteDeeds) → AreOfTools deeds → (first : Folder) (history : History)
      (front later : List Commitment) → committed history ≡ front ++ later → AreSuch front
      → Holds (files_of (settled first)) → Holds (files_of (folded deeds first front))
  pub at_present : (deeds : SuiteDeeds) → AreOfTools deeds → (first : Folder) (history : History)
      → Lawful deeds first history → AreSuch (committed history)
      → Holds (files_of (settled first)) → Holds (files_of (settled (after first history)))

-- ranges of subordinate IDs that are apart stay so whatever is committed, and distinct UIDs and GIDs where no committed
-- command has `-o`
pub record IdsStayApart : Type 0 where
  pub subuids : StaysSo AreAny SubuidsAreApart
  pub subgids : StaysSo AreAny SubgidsAreApart
  pub uids : StaysSo AreWithoutSharing UidsAreDistinct
  pub gids : StaysSo AreWithoutSharing GidsAreDistinct
