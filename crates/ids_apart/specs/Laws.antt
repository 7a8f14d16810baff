-- What each deed keeps apart: no ID comes to one more that had it already (`DeedsAddNoHolders`), so IDs that are apart stay
-- so (`DeedsKeepIdsApart`).
use Rattle.std.specs.Prelude.{◌≡◌, ℕ, ◌≤◌, max, Bool, List, true, false, Option, Some, codes, ⊤}
use Rattle.std.specs.List.{AllByRecursion}
use Rattle.acct_text.specs.declared.files.Files.{Files}
use Rattle.account_model.specs.BatchLines.{line_requests}
use Rattle.account_model.specs.Request.{Request, has_option}
use Rattle.account_model.specs.Words.{is_batch}
use Rattle.account_model.specs.Answer.{deed}
use Rattle.ids_apart.specs.Apart.{UidsAreDistinct, GidsAreDistinct, SubuidsAreApart, SubgidsAreApart}
use Rattle.ids_apart.specs.Holders.{uid_holders, gid_holders, subuid_holders, subgid_holders, shares_uid, shares_gid}

-- ---- No new meeting

-- neither the request nor, where it is a batch, a line of its input does this
pub record NoneDoes (does : Request → Bool) (request : Request) (input : List ℕ) : Type 0 where
  pub itself : does request ≡ false
  pub lines : is_batch request.tool ≡ true →
      AllByRecursion (λ line. does line.request ≡ false) (line_requests input)

-- An ID with so many holders before has no more after, but the one that an ID without any may get: two that have it after
-- are two that had it before.
abbrev pub MeetNoMore : ℕ → ℕ → Type 0
MeetNoMore before after = after ≤ max 1 before

-- so it is with each deed of such a request with such an input
abbrev pub AddsNoHolder : (Request → List ℕ → Type 0) → (Files → ℕ) → Type 0
AddsNoHolder IsAsked holders = (request : Request) (input : List ℕ) (day : ℕ) (old : Files)
    (defs : Option (List ℕ)) (new : Files) → IsAsked request input
    → deed request input day old defs ≡ Some new → MeetNoMore (holders old) (holders new)

-- whatever stood before: a UID that no `useradd -o` and no `usermod -o` names, a GID that no `groupadd -o` and no
-- `groupmod -o` names, and each number of the subordinate ranges
pub record DeedsAddNoHolders : Type 0 where
  pub uids : (uid : ℕ) → AddsNoHolder (NoneDoes (shares_uid uid)) (uid_holders uid)
  pub gids : (gid : ℕ) → AddsNoHolder (NoneDoes (shares_gid gid)) (gid_holders gid)
  pub subuids : (number : ℕ) → AddsNoHolder (λ request input. ⊤) (subuid_holders number)
  pub subgids : (number : ℕ) → AddsNoHolder (λ request input. ⊤) (subgid_holders number)

-- ---- Where all was apart

-- the request has no `-o`, by which a user or a group may get an ID that is in use (useradd(8), usermod(8), groupadd(8),
-- groupmod(8))
abbrev pub SharesNoId : Request → Type 0
SharesNoId request = has_option (codes "o") request ≡ false

-- neither the request nor, where it is a batch, a line of its input has `-o`
pub record ShareNoIds (request : Request) (input : List ℕ) : Type 0 where
  pub itself : SharesNoId request
  pub lines : is_batch request.tool ≡ true →
      AllByRecursion (λ line. SharesNoId line.request) (line_requests input)

-- what holds of the old files holds of the new ones, after each deed of such a request with such an input
abbrev pub IsKept : (Request → List ℕ → Type 0) → (Files → Type 0) → Type 0
IsKept IsAsked Holds = (request : Request) (input : List ℕ) (day : ℕ) (old : Files)
    (defs : Option (List ℕ)) (new : Files) → IsAsked request input
    → deed request input day old defs ≡ Some new → Holds old → Holds new

-- ranges that are apart stay so whatever is asked for, and distinct IDs where no `-o` is given
pub record DeedsKeepIdsApart : Type 0 where
  pub subuids : IsKept (λ request input. ⊤) SubuidsAreApart
  pub subgids : IsKept (λ request input. ⊤) SubgidsAreApart
  pub uids : IsKept ShareNoIds UidsAreDistinct
  pub gids : IsKept ShareNoIds GidsAreDistinct
