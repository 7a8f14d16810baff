-- Steps of a session that the rows share, each lawful. One step: listings, reads, verdicts, creates,
-- writes, appends, removed locks, and refusals, each of a session that runs. Several in a row: it
-- begins and looks (`look-lawful`) or judges a holder dead (`judge-lawful`), reads files
-- (`reads-lawful`), makes a lock that it lists as the greatest (`take-lawful`), and frees its lock
-- (`free-lawful`).
use Rattle.std.proofs.Common.{◌≡◌, ◌≢◌, refl, ℕ, ◌+◌, ◌<◌, lit≤, true, false, List, [], ◌∷◌, Some, IsSome, IsNone}
use Rattle.acct_text.specs.Bytes.{Bytes}
use Rattle.acct_outside.specs.declared.Name.{Name}
use Rattle.acct_outside.specs.declared.Name.TheVariants.{FreeStage, Lock}
use Rattle.acct_outside.specs.declared.Created.TheVariants.{Done}
use Rattle.acct_outside.specs.declared.Verdict.{Verdict}
use Rattle.acct_outside.specs.declared.Verdict.TheVariants.{Dead}
use Rattle.acct_outside.specs.Names.{name_limit, greatest_lock}
use Rattle.acct_outside.specs.Tokens.{Token, IsToken, free_text}
use Rattle.acct_outside.specs.Folder.{Folder, greatest}
use Rattle.acct_outside.specs.Calls.{Command, Call, Answer, Found, found_within, begins, lists, reads, asks, creates, writes, appends, renames, removes, answers, done}
use Rattle.acct_outside.specs.History.{Event, History, after}
use Rattle.acct_outside.specs.Life.{unbegun, running, life, life_step, is_running}
use Rattle.acct_outside.specs.Gives.{GivesVerdict}
use Rattle.suite_rules.specs.Deeds.{SuiteDeeds}
use Rattle.suite_rules.specs.OwnLock.{lock_uncalled}
use Rattle.suite_rules.specs.Listing.{Listing, nothing_watched}
use Rattle.suite_rules.specs.Standing.{standing}
use Rattle.suite_rules.specs.Rules.{KeeperRule, StagingRule, AppendRule, moves_free, unlocks_below, answers_refusal, free_begin, free_listing, free_read, free_verdict, create_rule, staging_rule, append_rule, move_rule, unlock_rule, answer_rule}
use Rattle.suite_rules.specs.Lawful.{Lawful, goes_on}
use Rattle.suite_rules.proofs.Sessions.{token-same}

-- a call of the session that was done
abbrev pub by : Token → (call : Call) → Answer call → Event
by token call answer = record { token = token; call = call; result = done answer }

-- a listing before the create, of which the greatest lock was judged by the texts that were read of it
abbrev pub judged_listing : List ℕ → List Bytes → Listing
judged_listing numbers texts = record {
  numbers = numbers;
  texts = texts;
  is_judged = true;
  watched = nothing_watched;
  follows_create = false;
  removed = [];
}

-- ---- One step

-- a begin of a token that no begin has given
begin-lawful : (deeds : SuiteDeeds) (first : Folder) (token : Token) (history : History) →
    Lawful deeds first history → life token history ≡ unbegun → (command : Command) →
    IsToken token → Lawful deeds first (by token (begins command) tt ∷ history)
begin-lawful deeds first token history lawful fresh command is_token =
    goes_on _ _ lawful (record {
      keeps = record { life_rule = rw fresh tt; permitted = free_begin command };
      gives = (is_token, fresh);
    })

module _ (deeds : SuiteDeeds) (first : Folder) (token : Token) (history : History)
    (lawful : Lawful deeds first history) (runs : life token history ≡ running) where
  -- a listing
  list-lawful : (numbers : List ℕ) → numbers ≡ (after first history).locks →
      Lawful deeds first (by token lists numbers ∷ history)
  list-lawful numbers is = goes_on _ _ lawful (record {
    keeps = record { life_rule = rw runs tt; permitted = free_listing };
    gives = is;
  })

  -- a read
  read-lawful : (name : Name) (found : Found) →
      found ≡ found_within (name_limit name) ((after first history).file name) →
      Lawful deeds first (by token (reads name) found ∷ history)
  read-lawful name found is = goes_on _ _ lawful (record {
    keeps = record { life_rule = rw runs tt; permitted = free_read name };
    gives = is;
  })

  -- a verdict
  verdict-lawful : (asked : Token) (verdict : Verdict) → GivesVerdict history asked verdict →
      Lawful deeds first (by token (asks asked) verdict ∷ history)
  verdict-lawful asked verdict given = goes_on _ _ lawful (record {
    keeps = record { life_rule = rw runs tt; permitted = free_verdict asked };
    gives = given;
  })

  -- a keeper's removal of a lower lock
  pub unlock-lawful : (keeper : KeeperRule (standing token history)) (number : ℕ) →
      number < keeper.number → Lawful deeds first (by token (removes (Lock number)) tt ∷ history)
  unlock-lawful keeper number below = goes_on _ _ lawful (record {
    keeps = record {
      life_rule = rw runs tt;
      permitted = unlock_rule number (unlocks_below keeper below);
    };
    gives = tt;
  })

  -- a keeper's write at a staging name
  pub write-lawful : (name : Name) (bytes : Bytes) → KeeperRule (standing token history) →
      StagingRule name bytes → Lawful deeds first (by token (writes name bytes) tt ∷ history)
  write-lawful name bytes keeper rule = goes_on _ _ lawful (record {
    keeps = record { life_rule = rw runs tt; permitted = staging_rule name bytes keeper rule };
    gives = tt;
  })

  -- a keeper's append behind what it has staged
  pub append-lawful : (name : Name) (piece : Bytes) → KeeperRule (standing token history) →
      AppendRule (standing token history) name piece → IsSome ((after first history).file name) →
      Lawful deeds first (by token (appends name piece) tt ∷ history)
  append-lawful name piece keeper rule stands = goes_on _ _ lawful (record {
    keeps = record { life_rule = rw runs tt; permitted = append_rule name piece keeper rule };
    gives = stands;
  })

  -- an answer with another status than 0
  pub refusal-lawful : (status : ℕ) → status ≢ 0 →
      Lawful deeds first (by token (answers status) tt ∷ history)
  refusal-lawful status other = goes_on _ _ lawful (record {
    keeps = record {
      life_rule = rw runs tt;
      permitted = answer_rule status (answers_refusal other);
    };
    gives = tt;
  })

-- ---- Several steps in a row

-- the session runs after a call that was done, if such a call leaves it running
pub runs-on : (token : Token) (history : History) → life token history ≡ running →
    (call : Call) (answer : Answer call) → life_step call (done answer) running ≡ running →
    life token (by token call answer ∷ history) ≡ running
runs-on token history runs call answer stays = rw (token-same token, runs) stays

module _ (deeds : SuiteDeeds) (first : Folder) (token : Token) (history : History)
    (lawful : Lawful deeds first history) (fresh : life token history ≡ unbegun)
    (command : Command) (is_token : IsToken token) where
  -- the session has begun
  abbrev begun : History
  begun = by token (begins command) tt ∷ history

  -- it runs
  begun-runs : life token begun ≡ running
  begun-runs = rw (token-same token, fresh) refl

  -- it begins and lists the locks
  pub start-lawful : (numbers : List ℕ) → numbers ≡ (after first history).locks →
      Lawful deeds first (by token lists numbers ∷ begun)
  start-lawful numbers is = list-lawful deeds first token begun
      (begin-lawful deeds first token history lawful fresh command is_token) begun-runs numbers is

  -- and reads one of them
  pub look-lawful : (numbers : List ℕ) → numbers ≡ (after first history).locks →
      (number : ℕ) (found : Found) →
      found ≡ found_within (name_limit (Lock number)) ((after first history).file (Lock number)) →
      Lawful deeds first
      (by token (reads (Lock number)) found ∷ by token lists numbers ∷ begun)
  look-lawful numbers is number found is_found =
      read-lawful deeds first token (by token lists numbers ∷ begun)
      (start-lawful numbers is) (runs-on token begun begun-runs lists numbers refl)
      (Lock number) found is_found

  -- and is told that its holder is dead
  pub judge-lawful : (numbers : List ℕ) → numbers ≡ (after first history).locks →
      (number : ℕ) (found : Found) →
      found ≡ found_within (name_limit (Lock number)) ((after first history).file (Lock number)) →
      (asked : Token) →
      is_running asked (by token (reads (Lock number)) found ∷ by token lists numbers ∷ begun)
      ≡ false →
      Lawful deeds first (by token (asks asked) Dead
      ∷ by token (reads (Lock number)) found ∷ by token lists numbers ∷ begun)
  judge-lawful numbers is number found is_found asked dead =
      verdict-lawful deeds first token
      (by token (reads (Lock number)) found ∷ by token lists numbers ∷ begun)
      (look-lawful numbers is number found is_found)
      (runs-on token (by token lists numbers ∷ begun)
      (runs-on token begun begun-runs lists numbers refl) (reads (Lock number)) found refl)
      asked Dead dead

-- the session has read what stands at these names in the folder
abbrev pub with_reads : Folder → Token → List Name → History → History
with_reads folder token [] history = history
with_reads folder token (name ∷ names) history =
    with_reads folder token names
    (by token (reads name) (found_within (name_limit name) (folder.file name)) ∷ history)

-- it reads them
pub reads-lawful : (deeds : SuiteDeeds) (first : Folder) (token : Token) (names : List Name)
    (history : History) → Lawful deeds first history → life token history ≡ running →
    Lawful deeds first (with_reads (after first history) token names history)
reads-lawful deeds first token [] history lawful runs = lawful
reads-lawful deeds first token (name ∷ names) history lawful runs =
    reads-lawful deeds first token names _
    (read-lawful deeds first token history lawful runs name
    (found_within (name_limit name) ((after first history).file name)) refl)
    (runs-on token history runs (reads name)
    (found_within (name_limit name) ((after first history).file name)) refl)

module _ (deeds : SuiteDeeds) (first : Folder) (token : Token) (history : History)
    (lawful : Lawful deeds first history) (runs : life token history ≡ running) where
  -- a session that has judged its last listing creates the lock above it, and lists
  pub take-lawful : (listing : Listing) → (standing token history).listing ≡ Some listing →
      (standing token history).own ≡ lock_uncalled → listing.is_judged ≡ true →
      greatest listing.numbers < greatest_lock →
      IsNone ((after first history).file (Lock (greatest listing.numbers + 1))) →
      (numbers : List ℕ) → numbers
      ≡ (after first (by token (creates (greatest listing.numbers + 1)) Done ∷ history)).locks →
      Lawful deeds first (by token lists numbers
      ∷ by token (creates (greatest listing.numbers + 1)) Done ∷ history)
  take-lawful listing listed uncalled judged below none numbers is =
      list-lawful deeds first token _ (goes_on _ _ lawful (record {
        keeps = record {
          life_rule = rw runs tt;
          permitted = create_rule (greatest listing.numbers + 1) (record {
            listing = listing;
            listed = listed;
            first = uncalled;
            one_above = refl;
            judged = judged;
            not_exhausted = below;
          });
        };
        gives = none;
      })) (runs-on token history runs (creates (greatest listing.numbers + 1)) Done refl) numbers is

  -- a keeper writes the free text, and moves it to its lock
  pub free-lawful : (keeper : KeeperRule (standing token history)) → Lawful deeds first
      (by token (renames FreeStage (Lock keeper.number)) tt
      ∷ by token (writes FreeStage free_text) tt ∷ history)
  free-lawful keeper =
      goes_on _ _ (write-lawful deeds first token history lawful runs FreeStage free_text keeper
      (record { staging = refl; small = lit≤ tt })) (record {
        keeps = record {
          life_rule = rw (runs-on token history runs (writes FreeStage free_text) tt refl) tt;
          permitted = move_rule _ _
              (record { number = keeper.number; keeps = rw (token-same token) keeper.keeps })
              (moves_free (rw (token-same token, keeper.keeps) refl));
        };
        gives = refl;
      })
