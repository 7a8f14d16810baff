-- What a session knows of the standing locks: its last listing, whether it has judged the greatest
-- lock of it, so that it may take over, what it has watched since it did, and which locks it removed
-- (docs/ARCHITECTURE.md, "Taking over" and "Reports").
use Rattle.std.specs.Prelude.{ℕ, Bool, false, ◌||◌, ◌&&◌, ◌==◌, if◌then◌else◌, List, [], ◌∷◌, ◌++◌, Option, Some, None, option_map, bytes_eq}
use Rattle.acct_text.specs.Bytes.{Bytes}
use Rattle.acct_outside.specs.declared.Name.{Name}
use Rattle.acct_outside.specs.declared.Name.TheVariants.{Lock}
use Rattle.acct_outside.specs.Names.{same_name}
use Rattle.acct_outside.specs.declared.Verdict.{Verdict}
use Rattle.acct_outside.specs.declared.Verdict.TheVariants.{Alive, Dead}
use Rattle.acct_outside.specs.Tokens.{Token, held_text, free_text}
use Rattle.acct_outside.specs.Folder.{greatest}
use Rattle.acct_outside.specs.Calls.{Call, Answer, CallResult, Found, lists, reads, asks, creates, removes, done, found_bytes}
use Rattle.suite_rules.specs.OwnLock.{OwnLock, has_called_create}
use Rattle.suite_rules.specs.Knowledge.{is_watched}

-- a listing of the locks, and what was learned of the greatest since
pub record Listing : Type 0 where
  -- the numbers, ascending
  pub numbers : List ℕ
  -- the texts of the greatest lock that were read since
  pub texts : List Bytes
  -- there is no lock; or the greatest was read as free, or as held by a session that was then
  -- told dead
  pub is_judged : Bool
  -- what was found at the intent, at each table and at login.defs since the greatest was judged
  pub watched : Name → Option Found
  -- it came after the session's create
  pub follows_create : Bool
  -- the locks that the session removed since, in order
  pub removed : List ℕ

-- nothing was watched
abbrev pub nothing_watched : Name → Option Found
nothing_watched name = None

-- what was just listed, by a session that has called create or not
abbrev pub new_listing : Bool → List ℕ → Listing
new_listing follows numbers = record {
  numbers = numbers;
  texts = [];
  is_judged = greatest numbers == 0;
  watched = nothing_watched;
  follows_create = follows;
  removed = [];
}

-- one of the texts is that of a lock which the session holds
abbrev pub is_held_in : List Bytes → Token → Bool
is_held_in [] token = false
is_held_in (text ∷ texts) token = bytes_eq text (held_text token) || is_held_in texts token

-- the greatest lock was read with this text
abbrev pub with_text : Bytes → Listing → Listing
with_text text listing = record listing {
  texts = text ∷ listing.texts;
  is_judged = listing.is_judged || bytes_eq text free_text;
}

-- the lock of this number was read with this text
abbrev pub text_step : ℕ → Bytes → Listing → Listing
text_step number text listing =
    if number == greatest listing.numbers then with_text text listing else listing

-- the session of this token was told dead or alive
abbrev pub verdict_step : Token → Verdict → Listing → Listing
verdict_step token Alive listing = listing
verdict_step token Dead listing =
    record listing { is_judged = listing.is_judged || is_held_in listing.texts token }

-- create was called since
abbrev pub before_create : Listing → Listing
before_create listing = record listing { follows_create = false }

-- the lock of this number was removed since
abbrev pub with_removed : ℕ → Listing → Listing
with_removed number listing = record listing { removed = listing.removed ++ (number ∷ []) }

-- what was watched, with what was found now at one name
abbrev pub watched_with : Name → Found → (Name → Option Found) → Name → Option Found
watched_with name found watched other =
    if same_name other name then Some found else watched other

-- this was found at a file that is watched, once the greatest lock is judged
abbrev pub watch_step : Name → Found → Listing → Listing
watch_step name found listing =
    if is_watched name && listing.is_judged
    then record listing { watched = watched_with name found listing.watched }
    else listing

-- a file was read
abbrev pub read_step : Name → Found → Option Listing → Option Listing
read_step (Lock number) (found_bytes text) listing = option_map (text_step number text) listing
read_step name found listing = option_map (watch_step name found) listing

-- the session's last listing after one of its calls, with its own lock as it was before the call
abbrev pub listing_step : OwnLock → (call : Call) → CallResult (Answer call) →
    Option Listing → Option Listing
listing_step own lists (done numbers) listing = Some (new_listing (has_called_create own) numbers)
listing_step own (reads name) (done found) listing = read_step name found listing
listing_step own (asks token) (done verdict) listing =
    option_map (verdict_step token verdict) listing
listing_step own (creates number) result listing = option_map before_create listing
listing_step own (removes (Lock number)) (done answer) listing =
    option_map (with_removed number) listing
listing_step own _ _ listing = listing
