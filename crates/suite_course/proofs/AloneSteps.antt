-- Claim: each call of a session that was alone since a moment keeps what it knows of the locks of the
-- folder (`locks-step`): up to its create the folder is as it stood then, and what it has listed and
-- read is what stood; once it has made a lock this is the greatest, and it hasn't listed the locks
-- since.
-- Way: only a create leads on from where a session began, with a number above all; and the next
-- listing makes its session keeper.
use Rattle.std.proofs.Common.{◌≡◌, refl, sym, ap, subst, ◌∙◌, ℕ, ◌<◌, Bool, true, false, ◌==◌, ◌&&◌, if◌then◌else◌, List, Option, Some, None, IfSome, option_map, true≢false, arith}
use Rattle.std.specs.List.{AllByRecursion}
use Rattle.std.proofs.lemmas.Bool.Decides.{Decides-eqb}
use Rattle.acct_text.specs.Bytes.{Bytes}
use Rattle.acct_outside.specs.declared.Name.{Name}
use Rattle.acct_outside.specs.declared.Name.TheVariants.{FreeStage, Lock}
use Rattle.acct_outside.specs.declared.Verdict.{Verdict}
use Rattle.acct_outside.specs.declared.Verdict.TheVariants.{Alive, Dead}
use Rattle.acct_outside.specs.declared.Created.TheVariants.{Done}
use Rattle.acct_outside.specs.Names.{name_limit}
use Rattle.acct_outside.specs.Tokens.{Token}
use Rattle.acct_outside.specs.Folder.{Folder, greatest, top}
use Rattle.acct_outside.specs.Calls.{Call, Answer, CallResult, Effect, Found, lists, reads, asks, creates, renames, done, failed, died, happened, nothing, left, found_absent, found_bytes, found_too_large, effect_of, changed_by}
use Rattle.acct_outside.specs.History.{History}
use Rattle.acct_outside.specs.Gives.{GivesResult}
use Rattle.suite_rules.specs.Deeds.{SuiteDeeds}
use Rattle.suite_rules.specs.OwnLock.{OwnLock, lock_uncalled, lock_made, lock_kept, lock_freed, made_number, has_called_create, confirm_step, create_step, free_step}
use Rattle.suite_rules.specs.Knowledge.{is_watched}
use Rattle.suite_rules.specs.Listing.{Listing, new_listing, with_text, text_step, verdict_step, watch_step, watched_with, before_create}
use Rattle.suite_rules.specs.Standing.{Standing, standing_step}
use Rattle.suite_rules.specs.Rules.{CreateRule, KeeperRule, moves_backup, moves_free, unlocks_below, unlocks_own, Permits, free_begin, free_listing, free_read, free_verdict, create_rule, staging_rule, append_rule, commit_rule, install_rule, clear_rule, move_rule, unlock_rule, answer_rule}
use Rattle.suite_rules.proofs.Effects.{bytes-stand}
use Rattle.suite_rules.proofs.Numbers.{greatest-with}

-- ---- The locks

-- what was listed are the locks of the folder, and what was read is the text of the greatest
pub record IsListingOf (folder : Folder) (listing : Listing) : Type 0 where
  pub numbers : listing.numbers ≡ folder.locks
  pub texts : AllByRecursion (λ text. folder.file (Lock (top folder)) ≡ Some text) listing.texts

-- how it stands with the locks of a session that is alone, by its own lock
abbrev pub LocksAlone : Folder → Folder → Option Listing → OwnLock → Type 0
LocksAlone entry now listing lock_uncalled = (now ≡ entry) × IfSome listing (IsListingOf entry)
LocksAlone entry now listing (lock_made number) =
    (top now ≡ number) × IfSome listing (λ one. one.follows_create ≡ false)
LocksAlone entry now listing own = Unit {0}

-- where a note leads from one fact of a listing to another, it does so where there is a listing
pub noted : (P Q : Listing → Type 0) (note : Listing → Listing) →
    ((one : Listing) → P one → Q (note one)) → (listing : Option Listing) →
    IfSome listing P → IfSome (option_map note listing) Q
noted P Q note leads None holds = tt
noted P Q note leads (Some listing) holds = leads listing holds

-- what holds of a listing that there is
pub there : (P : Listing → Type 0) (listing : Option Listing) (one : Listing) → listing ≡ Some one →
    IfSome listing P → P one
there P None one is holds = absurd (cc is)
there P (Some listing) one is holds = subst P (cc is) holds

-- nothing is asked of a keeper
kept-alone : (entry now : Folder) (listing : Option Listing) (own : OwnLock) (number : ℕ) →
    own ≡ lock_kept number → LocksAlone entry now listing own
kept-alone entry now listing own number keeps =
    subst (LocksAlone entry now listing) (sym keeps) tt

module _ (entry now : Folder) (listing : Option Listing) where
  -- a listing
  list-alone : (own : OwnLock) → LocksAlone entry now listing own →
      LocksAlone entry now (Some (new_listing (has_called_create own) now.locks))
      (confirm_step (top now) own)
  list-alone lock_uncalled held =
      (held.0, record { numbers = ap (λ (one : Folder). one.locks) held.0; texts = tt })
  list-alone (lock_made number) held =
      rw ((Decides-eqb (top now) number).1 held.0) tt
  list-alone own held = tt

  -- a note that leaves what is asked of a listing
  note-alone : (note : Listing → Listing) →
      ((one : Listing) → now ≡ entry → IsListingOf entry one → IsListingOf entry (note one)) →
      ((one : Listing) → one.follows_create ≡ false → (note one).follows_create ≡ false) →
      (own : OwnLock) → LocksAlone entry now listing own →
      LocksAlone entry now (option_map note listing) own
  note-alone note first second lock_uncalled held = (
    held.0,
    noted (IsListingOf entry) (IsListingOf entry) note (λ one. first one held.0) listing held.1,
  )
  note-alone note first second (lock_made number) held = (
    held.0,
    noted (λ one. one.follows_create ≡ false) (λ one. one.follows_create ≡ false) note
        second listing held.1,
  )
  note-alone note first second own held = tt

  -- a removal of the own lock, once it was outrun: that doesn't happen
  outrun-alone : (later : Folder) (listed_then : Option Listing) (own : OwnLock) (number : ℕ) →
      made_number own ≡ Some number → (one : Listing) → listing ≡ Some one →
      one.follows_create ≡ true → LocksAlone entry now listing own →
      LocksAlone entry later listed_then own
  outrun-alone later listed_then lock_uncalled number made one listed follows held =
      absurd (cc made)
  outrun-alone later listed_then (lock_made own) number made one listed follows held =
      absurd (true≢false (sym follows
      ∙ there (λ other. other.follows_create ≡ false) listing one listed held.1))
  outrun-alone later listed_then own number made one listed follows held = tt

-- the text of the greatest lock is noted, and of no other
text-noted : (entry : Folder) (number : ℕ) (text : Bytes) → entry.file (Lock number) ≡ Some text →
    (one : Listing) → IsListingOf entry one → IsListingOf entry (text_step number text one)
text-noted entry number text stands one is = cases (number == greatest one.numbers) refl
  where
    cases : (same : Bool) → (number == greatest one.numbers) ≡ same →
        IsListingOf entry (if same then with_text text one else one)
    cases false differs = is
    cases true same = record {
      numbers = is.numbers;
      texts = (
        subst (λ (other : ℕ). entry.file (Lock other) ≡ Some text)
            ((Decides-eqb number (greatest one.numbers)).0 same ∙ ap greatest is.numbers) stands,
        is.texts,
      );
    }

-- a text leaves whether a listing follows the create
text-follows : (number : ℕ) (text : Bytes) (one : Listing) → one.follows_create ≡ false →
    (text_step number text one).follows_create ≡ false
text-follows number text one is = cases (number == greatest one.numbers)
  where
    cases : (same : Bool) → (if same then with_text text one else one).follows_create ≡ false
    cases true = is
    cases false = is

-- what was watched leaves the listing
watch-noted : (entry : Folder) (name : Name) (found : Found) (one : Listing) →
    IsListingOf entry one → IsListingOf entry (watch_step name found one)
watch-noted entry name found one is = cases (is_watched name && one.is_judged)
  where
    cases : (watches : Bool) → IsListingOf entry
        (if watches then record one { watched = watched_with name found one.watched } else one)
    cases true = record { numbers = is.numbers; texts = is.texts }
    cases false = is

-- a listing that followed no creation follows none after a file was watched
watch-follows : (name : Name) (found : Found) (one : Listing) → one.follows_create ≡ false →
    (watch_step name found one).follows_create ≡ false
watch-follows name found one is = cases (is_watched name && one.is_judged)
  where
    noted_by : Bool → Listing
    noted_by watches =
        if watches then record one { watched = watched_with name found one.watched } else one

    cases : (watches : Bool) → (noted_by watches).follows_create ≡ false
    cases true = is
    cases false = is

-- so does a verdict, which leaves all that is asked
verdict-noted : (entry : Folder) (token : Token) (verdict : Verdict) (one : Listing) →
    IsListingOf entry one → IsListingOf entry (verdict_step token verdict one)
verdict-noted entry token Alive one is = is
verdict-noted entry token Dead one is = record { numbers = is.numbers; texts = is.texts }

-- nor after a verdict on a holder
verdict-follows : (token : Token) (verdict : Verdict) (one : Listing) →
    one.follows_create ≡ false → (verdict_step token verdict one).follows_create ≡ false
verdict-follows token Alive one is = is
verdict-follows token Dead one is = is

-- nothing is listed after the create yet
none-follows : (listing : Option Listing) →
    IfSome (option_map before_create listing) (λ one. one.follows_create ≡ false)
none-follows None = tt
none-follows (Some listing) = refl

module _ (deeds : SuiteDeeds) (history : History) (token : Token) (entry folder : Folder)
    (stood : Standing) where
  -- how it stands with the locks after a call
  abbrev LocksAfter : (call : Call) → CallResult (Answer call) → Type 0
  LocksAfter call result = LocksAlone entry (changed_by token call (effect_of call result) folder)
      (standing_step call result stood).listing (standing_step call result stood).own

  module _ (held : LocksAlone entry folder stood.listing stood.own) where
    -- a read that isn't of the text of a lock
    watch-locks : (name : Name) (found : Found) →
        LocksAlone entry folder (option_map (watch_step name found) stood.listing) stood.own
    watch-locks name found = note-alone entry folder stood.listing (watch_step name found)
        (λ one same is. watch-noted entry name found one is) (watch-follows name found) stood.own
        held

    -- a read
    read-locks : (name : Name) (result : CallResult Found) →
        GivesResult folder history token (reads name) result → LocksAfter (reads name) result
    read-locks (Lock number) (done (found_bytes text)) gives =
        note-alone entry folder stood.listing (text_step number text)
        (λ one same is. text-noted entry number text
        (subst (λ (one : Folder). one.file (Lock number) ≡ Some text) same
        (bytes-stand (name_limit (Lock number)) (folder.file (Lock number)) text gives)) one is)
        (text-follows number text) stood.own held
    read-locks (Lock number) (done found_absent) gives = watch-locks (Lock number) found_absent
    read-locks (Lock number) (done found_too_large) gives =
        watch-locks (Lock number) found_too_large
    read-locks name (done found) gives = watch-locks name found
    read-locks name result gives = held

    -- a listing
    list-locks : (result : CallResult (Answer lists)) →
        GivesResult folder history token lists result → LocksAfter lists result
    list-locks (done numbers) gives = subst (λ (found : List ℕ).
        LocksAlone entry folder (Some (new_listing (has_called_create stood.own) found))
        (confirm_step (greatest found) stood.own)) (sym gives)
        (list-alone entry folder stood.listing stood.own held)
    list-locks (failed effect) gives = held
    list-locks (died effect) gives = held

    -- a verdict
    verdict-locks : (asked : Token) (result : CallResult Verdict) → LocksAfter (asks asked) result
    verdict-locks asked (done verdict) =
        note-alone entry folder stood.listing (verdict_step asked verdict)
        (λ one same is. verdict-noted entry asked verdict one is) (verdict-follows asked verdict)
        stood.own held
    verdict-locks asked (failed effect) = held
    verdict-locks asked (died effect) = held

    -- a create, of a number above those that stand
    create-locks : (number : ℕ) (result : CallResult (Answer (creates number))) →
        CreateRule stood number → LocksAfter (creates number) result
    create-locks number result rule =
        subst (λ (own : OwnLock). LocksAlone entry
        (changed_by token (creates number) (effect_of (creates number) result) folder)
        (option_map before_create stood.listing) (create_step number result own)) (sym rule.first)
        (created result)
      where
        first : (folder ≡ entry) × IfSome stood.listing (IsListingOf entry)
        first = subst (LocksAlone entry folder stood.listing) rule.first held

        above : greatest folder.locks < number
        above =
            let listed : greatest rule.listing.numbers ≡ greatest folder.locks =
            ap greatest ((there (IsListingOf entry) stood.listing rule.listing rule.listed
            first.1).numbers ∙ ap (λ (one : Folder). one.locks) (sym first.0)) in
            let next = rule.one_above in omega (arith, listed, next)

        created : (one : CallResult (Answer (creates number))) → LocksAlone entry
            (changed_by token (creates number) (effect_of (creates number) one) folder)
            (option_map before_create stood.listing) (create_step number one lock_uncalled)
        created (done Done) = (
          let with_is = greatest-with number folder.locks in omega (arith, with_is, above),
          none-follows stood.listing,
        )
        created (failed happened) = tt
        created (died happened) = tt
        created one = tt

    -- a keeper's move to its lock
    free-locks : (number : ℕ) (result : CallResult (Unit {0})) (keeper : KeeperRule stood) →
        LocksAfter (renames FreeStage (Lock number)) result
    free-locks number result keeper =
        subst (λ (own : OwnLock). LocksAlone entry (changed_by token
        (renames FreeStage (Lock number))
        (effect_of (renames FreeStage (Lock number)) result) folder)
        stood.listing (free_step FreeStage (Lock number)
        (effect_of (renames FreeStage (Lock number)) result) own)) (sym keeper.keeps)
        (freed (effect_of (renames FreeStage (Lock number)) result))
      where
        freed : (effect : Effect) → LocksAlone entry
            (changed_by token (renames FreeStage (Lock number))
            (effect_of (renames FreeStage (Lock number)) result) folder)
            stood.listing (free_step FreeStage (Lock number) effect (lock_kept keeper.number))
        freed happened = cases (number == keeper.number)
          where
            cases : (same : Bool) → LocksAlone entry
                (changed_by token (renames FreeStage (Lock number))
                (effect_of (renames FreeStage (Lock number)) result) folder) stood.listing
                (if same then lock_freed keeper.number else lock_kept keeper.number)
            cases true = tt
            cases false = tt
        freed nothing = tt
        freed (left content) = tt

    -- each permitted call
    pub locks-step : (call : Call) (result : CallResult (Answer call)) →
        Permits deeds stood call → GivesResult folder history token call result →
        LocksAfter call result
    locks-step _ result (free_begin command) gives = held
    locks-step _ result free_listing gives = list-locks result gives
    locks-step _ result (free_read name) gives = read-locks name result gives
    locks-step _ result (free_verdict asked) gives = verdict-locks asked result
    locks-step _ result (create_rule number rule) gives = create-locks number result rule
    locks-step _ result (staging_rule name piece keeper rule) gives =
        kept-alone entry _ stood.listing stood.own keeper.number keeper.keeps
    locks-step _ result (append_rule name piece keeper rule) gives =
        kept-alone entry _ stood.listing stood.own keeper.number keeper.keeps
    locks-step _ result (commit_rule keeper rule) gives =
        kept-alone entry _ stood.listing stood.own keeper.number keeper.keeps
    locks-step _ result (install_rule table keeper rule) gives =
        kept-alone entry _ stood.listing stood.own keeper.number keeper.keeps
    locks-step _ result (clear_rule keeper rule) gives =
        kept-alone entry _ stood.listing stood.own keeper.number keeper.keeps
    locks-step _ result (move_rule _ _ keeper (moves_backup table may)) gives =
        kept-alone entry _ stood.listing stood.own keeper.number keeper.keeps
    locks-step _ result (move_rule _ _ keeper (moves_free staged)) gives =
        free-locks keeper.number result keeper
    locks-step _ result (unlock_rule number (unlocks_below keeper below)) gives =
        kept-alone entry _ _ stood.own keeper.number keeper.keeps
    locks-step _ result (unlock_rule number (unlocks_own outrun)) gives =
        outrun-alone entry folder stood.listing _ _ stood.own number outrun.made outrun.listing
        outrun.listed outrun.follows held
    locks-step _ result (answer_rule status rule) gives = held
