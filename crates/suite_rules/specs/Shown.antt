-- What a session without a lock of its own can show: what it watched between two listings with the same
-- greatest lock, which it had judged. No other session was keeper in between, so all of it stood at one
-- moment (docs/ARCHITECTURE.md, "Reports").
use Rattle.std.specs.Prelude.{◌≡◌, ℕ, ◌&&◌, ◌==◌, if◌then◌else◌, List, Option, Some, None}
use Rattle.std.specs.Option.{option_and_then}
use Rattle.acct_text.specs.declared.Tab.{Tab}
use Rattle.acct_text.specs.Bytes.{Bytes}
use Rattle.acct_text.specs.Contents.{Contents}
use Rattle.acct_outside.specs.Folder.{greatest}
use Rattle.acct_outside.specs.declared.Name.{Name}
use Rattle.acct_outside.specs.declared.Name.TheVariants.{Table, Defs, Intent}
use Rattle.acct_outside.specs.Names.{name_limit}
use Rattle.acct_outside.specs.Calls.{Call, Answer, CallResult, Found, found_within, lists, done}
use Rattle.intent_file.specs.Intent.{Intended, ReadsIntent, listed_in}
use Rattle.suite_rules.specs.OwnLock.{OwnLock, lock_uncalled}
use Rattle.suite_rules.specs.Knowledge.{whole_content}
use Rattle.suite_rules.specs.Listing.{Listing}
use Rattle.suite_rules.specs.Settled.{listed_by}

-- what was watched under the greatest lock of two listings in a row
pub record Shown : Type 0 where
  -- the number of that lock, 0 for none
  pub number : ℕ
  -- what was found at the intent, at each table and at login.defs
  pub file : Name → Option Found

-- what was found whole at a name: bytes, or that it is absent
abbrev pub whole_at : Shown → Name → Option (Option Bytes)
whole_at shown name = option_and_then whole_content (shown.file name)

-- the intent that was found is absent, or reads
pub record ShowsIntent (shown : Shown) (intent : Option Bytes) : Type 0 where
  pub is_found : whole_at shown Intent ≡ Some intent
  pub reads : (bytes : Bytes) → intent ≡ Some bytes →
      (intended : Intended) × ReadsIntent bytes intended

-- These files are as was shown: a listed table has the intent's bytes, and just what was found of another
-- is there, and of login.defs. Of a name that wasn't read nothing is said.
pub record AreShown (shown : Shown) (intent : Option Bytes) (files : Contents) (defs : Option Bytes)
    : Type 0 where
  pub listed : (table : Tab) (new : Bytes) → listed_in (listed_by intent) table ≡ Some new →
      files table ≡ Some new
  pub unlisted : (table : Tab) (found : Found) → listed_in (listed_by intent) table ≡ None →
      shown.file (Table table) ≡ Some found →
      found ≡ found_within (name_limit (Table table)) (files table)
  pub settings : (found : Found) → shown.file Defs ≡ Some found →
      found ≡ found_within (name_limit Defs) defs

-- a listing confirms what was watched since the last one, where that has the same greatest lock, which
-- was judged
abbrev pub confirmed : List ℕ → Listing → Option Shown
confirmed numbers listing =
    if listing.is_judged && (greatest numbers == greatest listing.numbers)
    then Some (record { number = greatest numbers; file = listing.watched })
    else None

-- what a session can show after one of its calls, with its own lock and its last listing as they were
-- before the call; one that has called create shows nothing
abbrev pub shown_step : OwnLock → Option Listing → (call : Call) → CallResult (Answer call) →
    Option Shown → Option Shown
shown_step lock_uncalled listing lists (done numbers) shown =
    option_and_then (confirmed numbers) listing
shown_step own listing lists (done numbers) shown = None
shown_step own listing _ _ shown = shown
