-- Claims: a session that was alone since a moment, has freed its lock and removed all lower ones
-- that it had listed leaves its lock alone, and free (`alone-lock`); and where it knows that no
-- intent stands, none does (`alone-intent-none`).
-- Way: call by call (`alone-along`). A lock that stands is its own, or one that it has listed and
-- not removed since (`known-step`); so in the end no other stands, and one does, as the greatest
-- number never falls. It is free, as a freed lock is free or gone (`freed-step`).
use Rattle.std.proofs.Common.{◌≡◌, ◌⊎◌, refl, sym, ap, subst, ◌∙◌, ◌∷◌, ◌++◌, [], ℕ, ◌<◌, ◌≤◌, Bool, true, false, ◌==◌, ◌||◌, ◌&&◌, nat_lt, cond, if◌then◌else◌, List, AllPairs, filter, inl, inr, Option, Some, None, is_some, IsSome, IfSome, option_map, true≢false, arith}
use Rattle.std.proofs.lemmas.Bool.Decides.{nat_tests, Decides-eqb}
use Rattle.std.proofs.lemmas.List.{append-nil}
use Rattle.acct_text.specs.Bytes.{Bytes}
use Rattle.acct_outside.specs.declared.Name.{Name}
use Rattle.acct_outside.specs.declared.Name.TheVariants.{Table, Backup, Staged, Intent, IntentStage, BackupStage, FreeStage, Lock}
use Rattle.acct_outside.specs.declared.Verdict.{Verdict}
use Rattle.acct_outside.specs.declared.Verdict.TheVariants.{Alive, Dead}
use Rattle.acct_outside.specs.declared.Created.TheVariants.{Done}
use Rattle.acct_outside.specs.Names.{is_staging}
use Rattle.acct_outside.specs.Tokens.{Token, held_text, free_text}
use Rattle.acct_outside.specs.Folder.{Folder, IsFolder, greatest, has_number, moved_content}
use Rattle.acct_outside.specs.Calls.{Call, Answer, CallResult, Effect, Found, lists, reads, asks, creates, writes, appends, renames, removes, done, failed, died, happened, nothing, left, found_absent, found_bytes, found_too_large, effect_of, changed_by}
use Rattle.acct_outside.specs.History.{History, after}
use Rattle.acct_outside.specs.Gives.{GivesResult}
use Rattle.suite_rules.specs.Deeds.{SuiteDeeds}
use Rattle.suite_rules.specs.OwnLock.{OwnLock, lock_uncalled, lock_kept, lock_freed, made_number, create_step, free_step}
use Rattle.suite_rules.specs.Knowledge.{is_watched}
use Rattle.suite_rules.specs.Listing.{Listing, with_text, text_step, verdict_step, watch_step, watched_with, before_create, with_removed}
use Rattle.suite_rules.specs.Standing.{Standing, standing, standing_step}
use Rattle.suite_rules.specs.Rules.{moves_backup, moves_free, Permits, free_begin, free_listing, free_read, free_verdict, create_rule, staging_rule, append_rule, commit_rule, install_rule, clear_rule, move_rule, unlock_rule, answer_rule}
use Rattle.suite_rules.specs.Lawful.{Lawful}
use Rattle.suite_rules.proofs.Keepers.{lock-facts}
use Rattle.suite_rules.proofs.Names.{fails-apart}
use Rattle.suite_rules.proofs.Numbers.{greatest-stands, has-most}
use Rattle.suite_rules.proofs.Whole.{invariant}
use Rattle.lock_steps.specs.Stands.{KnowsNone, HasFreed}
use Rattle.suite_course.specs.Alone.{IsAlone, IsOnlyLock}
use Rattle.suite_course.proofs.AloneFreed.{StaysFreed, freed-step}
use Rattle.suite_course.proofs.AloneSteps.{noted, there}
use Rattle.suite_course.proofs.AloneStays.{alone-along, event-permitted, appended-same, moved-same, removed-same, written-same}

-- ---- Lists of numbers

-- what isn't in a list isn't in it with another number behind
lacks-last : (number last : ℕ) (numbers : List ℕ) → has_number number numbers ≡ false →
    (number == last) ≡ false → has_number number (numbers ++ last ∷ []) ≡ false
lacks-last number last [] lacks differs = rw differs refl
lacks-last number last (head ∷ numbers) lacks differs =
    cases (number == head) lacks (λ rest. lacks-last number last numbers rest differs)
  where
    cases : (same : Bool) → (same || has_number number numbers) ≡ false →
        (has_number number numbers ≡ false → has_number number (numbers ++ last ∷ []) ≡ false) →
        (same || has_number number (numbers ++ last ∷ [])) ≡ false
    cases true is behind = is
    cases false is behind = behind is

-- a number of a list that passes a test is in what the test leaves of it
has-filtered : (test : ℕ → Bool) (number : ℕ) (numbers : List ℕ) → test number ≡ true →
    has_number number numbers ≡ true → has_number number (filter test numbers) ≡ true
has-filtered test number [] holds has = has
has-filtered test number (head ∷ numbers) holds has =
    cases (number == head) (test head) refl refl has (has-filtered test number numbers holds)
  where
    cases : (same passes : Bool) → (number == head) ≡ same → test head ≡ passes →
        (same || has_number number numbers) ≡ true →
        (has_number number numbers ≡ true → has_number number (filter test numbers) ≡ true) →
        has_number number (cond passes (head ∷ filter test numbers) (filter test numbers)) ≡ true
    cases true true is passed here behind = rw is refl
    cases true false is fails here behind = absurd (true≢false
        (sym holds ∙ (ap test ((Decides-eqb number head).0 is) ∙ fails)))
    cases false true is passed here behind = rw is (behind here)
    cases false false is fails here behind = behind here

-- the first of a list is in it
has-first : (number : ℕ) (numbers : List ℕ) → has_number number (number ∷ numbers) ≡ true
has-first number numbers = rw ((Decides-eqb number number).1 refl) refl

-- ascending numbers that are all one number are that one
only-number : (number : ℕ) (numbers : List ℕ) → AllPairs (λ low high. low < high) numbers →
    ((other : ℕ) → has_number other numbers ≡ true → other ≡ number) →
    has_number number numbers ≡ true → numbers ≡ number ∷ []
only-number number [] ascends all has = absurd (true≢false (sym has))
only-number number (head ∷ []) ascends all has =
    ap (λ (one : ℕ). one ∷ []) (all head (has-first head []))
only-number number (head ∷ second ∷ numbers) ascends all has =
    let less : head < second = ascends 0 1 0 (omega arith) (omega arith) in
    let here : head ≡ number = all head (has-first head (second ∷ numbers)) in
    let next : second ≡ number = all second (behind (second == head)
    (has_number second (second ∷ numbers)) (has-first second numbers)) in
    absurd (omega (arith, less, here, next))
  where
    behind : (one two : Bool) → two ≡ true → (one || two) ≡ true
    behind true two is = refl
    behind false two is = is

-- ---- The locks that stand

-- the number is that of the lock which was made, or was listed and not removed since
abbrev IsKnown : Option ℕ → ℕ → Listing → Type 0
IsKnown made number listing = (made ≡ Some number)
    ⊎ ((has_number number listing.numbers ≡ true) × (has_number number listing.removed ≡ false))

-- so it is with each lock that stands, where the session has listed the locks
abbrev AreKnown : Folder → Standing → Type 0
AreKnown folder stood = (number : ℕ) → IsSome (folder.file (Lock number)) →
    IfSome stood.listing (IsKnown (made_number stood.own) number)

-- what holds of every listing holds where there is one
every : (P : Listing → Type 0) → ((one : Listing) → P one) → (listing : Option Listing) →
    IfSome listing P
every P holds None = tt
every P holds (Some listing) = holds listing

-- a text leaves what is known
text-known : (made : Option ℕ) (number lock : ℕ) (text : Bytes) (one : Listing) →
    IsKnown made number one → IsKnown made number (text_step lock text one)
text-known made number lock text one is = cases (lock == greatest one.numbers)
  where
    cases : (same : Bool) → IsKnown made number (if same then with_text text one else one)
    cases true = is
    cases false = is

-- so does what was watched
watch-known : (made : Option ℕ) (number : ℕ) (name : Name) (found : Found) (one : Listing) →
    IsKnown made number one → IsKnown made number (watch_step name found one)
watch-known made number name found one is = cases (is_watched name && one.is_judged)
  where
    cases : (watches : Bool) → IsKnown made number
        (if watches then record one { watched = watched_with name found one.watched } else one)
    cases true = is
    cases false = is

-- so does a verdict
verdict-known : (made : Option ℕ) (number : ℕ) (asked : Token) (verdict : Verdict)
    (one : Listing) → IsKnown made number one → IsKnown made number (verdict_step asked verdict one)
verdict-known made number asked Alive one is = is
verdict-known made number asked Dead one is = is

-- a removal leaves what is known of other locks
removal-known : (made : Option ℕ) (number lock : ℕ) → (number == lock) ≡ false →
    (one : Listing) → IsKnown made number one → IsKnown made number (with_removed lock one)
removal-known made number lock differs one (inl is) = inl is
removal-known made number lock differs one (inr is) =
    inr (is.0, lacks-last number lock one.removed is.1 differs)

-- a create leaves what who had made no lock knew
create-known : (made : Option ℕ) (number : ℕ) (one : Listing) → IsKnown None number one →
    IsKnown made number (before_create one)
create-known made number one (inl none) = absurd (cc none)
create-known made number one (inr is) = inr is

-- a lock that is kept or freed was made
freed-made : (number : ℕ) (freed : Bool) →
    made_number (if freed then lock_freed number else lock_kept number) ≡ Some number
freed-made number true = refl
freed-made number false = refl

module _ (deeds : SuiteDeeds) (past : History) (token : Token) (folder : Folder)
    (stood : Standing) (is_folder : IsFolder folder) (held : AreKnown folder stood)
    (number : ℕ) where
  -- what is known of the lock after a call, where it stands then
  abbrev KnownAfter : (call : Call) → CallResult (Answer call) → Type 0
  KnownAfter call result =
      IsSome ((changed_by token call (effect_of call result) folder).file (Lock number)) →
      IfSome (standing_step call result stood).listing
      (IsKnown (made_number (standing_step call result stood).own) number)

  -- a listing
  list-known : (result : CallResult (Answer lists)) →
      GivesResult folder past token lists result → KnownAfter lists result
  list-known (done numbers) gives stands =
      inr (ap (has_number number) gives ∙ (is_folder.standing number ∙ stands), refl)
  list-known (failed effect) gives stands = held number stands
  list-known (died effect) gives stands = held number stands

  -- a read that isn't of the text of a lock
  watched-known : (name : Name) (found : Found) → IsSome (folder.file (Lock number)) →
      IfSome (option_map (watch_step name found) stood.listing)
      (IsKnown (made_number stood.own) number)
  watched-known name found stands =
      noted (IsKnown (made_number stood.own) number) (IsKnown (made_number stood.own) number)
      (watch_step name found) (watch-known (made_number stood.own) number name found)
      stood.listing (held number stands)

  -- a read
  read-known : (name : Name) (result : CallResult Found) → KnownAfter (reads name) result
  read-known (Lock lock) (done (found_bytes text)) stands =
      noted (IsKnown (made_number stood.own) number) (IsKnown (made_number stood.own) number)
      (text_step lock text) (text-known (made_number stood.own) number lock text) stood.listing
      (held number stands)
  read-known (Lock lock) (done found_absent) stands =
      watched-known (Lock lock) found_absent stands
  read-known (Lock lock) (done found_too_large) stands =
      watched-known (Lock lock) found_too_large stands
  read-known name (done found) stands = watched-known name found stands
  read-known name result stands = held number stands

  -- a verdict
  told-known : (asked : Token) (result : CallResult Verdict) → KnownAfter (asks asked) result
  told-known asked (done verdict) stands =
      noted (IsKnown (made_number stood.own) number) (IsKnown (made_number stood.own) number)
      (verdict_step asked verdict) (verdict-known (made_number stood.own) number asked verdict)
      stood.listing (held number stands)
  told-known asked (failed effect) stands = held number stands
  told-known asked (died effect) stands = held number stands

  -- a create, by who has made no lock
  made-known : (lock : ℕ) (result : CallResult (Answer (creates lock))) →
      stood.own ≡ lock_uncalled → KnownAfter (creates lock) result
  made-known lock result uncalled stands =
      subst (λ (own : OwnLock). IfSome (option_map before_create stood.listing)
      (IsKnown (made_number (create_step lock result own)) number)) (sym uncalled)
      (created result stands)
    where
      old : (made : Option ℕ) → IsSome (folder.file (Lock number)) →
          IfSome (option_map before_create stood.listing) (IsKnown made number)
      old made stands = noted (IsKnown None number) (IsKnown made number) before_create
          (create-known made number) stood.listing
          (subst (λ (own : OwnLock). IfSome stood.listing (IsKnown (made_number own) number))
          uncalled (held number stands))

      new : (same : Bool) → (number == lock) ≡ same →
          IsSome (if same then Some (held_text token) else folder.file (Lock number)) →
          IfSome (option_map before_create stood.listing) (IsKnown (Some lock) number)
      new true is stands = every (IsKnown (Some lock) number)
          (λ one. inl (ap (λ (other : ℕ). Some other) (sym ((Decides-eqb number lock).0 is))))
          (option_map before_create stood.listing)
      new false is stands = old (Some lock) stands

      created : (one : CallResult (Answer (creates lock))) →
          IsSome ((changed_by token (creates lock) (effect_of (creates lock) one) folder).file
          (Lock number)) → IfSome (option_map before_create stood.listing)
          (IsKnown (made_number (create_step lock one lock_uncalled)) number)
      created (done Done) stands = new (number == lock) refl stands
      created (failed happened) stands = new (number == lock) refl stands
      created (died happened) stands = new (number == lock) refl stands
      created one stands = old None stands

  -- a move of the free text to the kept lock
  given-known : (lock : ℕ) (effect : Effect) → stood.own ≡ lock_kept lock →
      IsSome ((changed_by token (renames FreeStage (Lock lock)) effect folder).file (Lock number)) →
      IfSome stood.listing
      (IsKnown (made_number (free_step FreeStage (Lock lock) effect stood.own)) number)
  given-known lock happened keeps stands =
      subst (λ (made : Option ℕ). IfSome stood.listing (IsKnown made number))
      (sym (ap (λ (own : OwnLock). made_number (free_step FreeStage (Lock lock) happened own)) keeps
      ∙ freed-made lock (lock == lock)))
      (cases (folder.file FreeStage) stands)
    where
      old : IsSome (folder.file (Lock number)) → IfSome stood.listing (IsKnown (Some lock) number)
      old stands = subst (λ (own : OwnLock).
          IfSome stood.listing (IsKnown (made_number own) number)) keeps (held number stands)

      new : (text : Bytes) (same : Bool) → (number == lock) ≡ same →
          IsSome (if same then Some text else folder.file (Lock number)) →
          IfSome stood.listing (IsKnown (Some lock) number)
      new text true is stands = every (IsKnown (Some lock) number)
          (λ one. inl (ap (λ (other : ℕ). Some other) (sym ((Decides-eqb number lock).0 is))))
          stood.listing
      new text false is stands = old stands

      cases : (content : Option Bytes) →
          IsSome ((moved_content content FreeStage (Lock lock) folder).file (Lock number)) →
          IfSome stood.listing (IsKnown (Some lock) number)
      cases None stands = old stands
      cases (Some text) stands = new text (number == lock) refl stands
  given-known lock nothing keeps stands = held number stands
  given-known lock (left content) keeps stands = held number stands

  -- a removal of a lock
  removed-known : (lock : ℕ) (result : CallResult (Unit {0})) →
      KnownAfter (removes (Lock lock)) result
  removed-known lock result stands = cases result stands
    where
      other : (same : Bool) → IsSome (if same then None else folder.file (Lock number)) →
          (same ≡ false) × IsSome (folder.file (Lock number))
      other true some = absurd (true≢false (sym some))
      other false some = (refl, some)

      cases : (one : CallResult (Unit {0})) → KnownAfter (removes (Lock lock)) one
      cases (done answer) some =
          let is = other (number == lock) some in
          noted (IsKnown (made_number stood.own) number) (IsKnown (made_number stood.own) number)
          (with_removed lock) (removal-known (made_number stood.own) number lock is.0) stood.listing
          (held number is.1)
      cases (failed happened) some = held number (other (number == lock) some).1
      cases (died happened) some = held number (other (number == lock) some).1
      cases one some = held number some

  -- a call that leaves the lock, the listing and what was made
  same-known : (call : Call) (result : CallResult (Answer call)) →
      (changed_by token call (effect_of call result) folder).file (Lock number)
      ≡ folder.file (Lock number) →
      IsSome ((changed_by token call (effect_of call result) folder).file (Lock number)) →
      IfSome stood.listing (IsKnown (made_number stood.own) number)
  same-known call result same stands = held number (sym (ap is_some same) ∙ stands)

  -- each permitted call
  known-step : (call : Call) (result : CallResult (Answer call)) → Permits deeds stood call →
      GivesResult folder past token call result → KnownAfter call result
  known-step _ result (free_begin command) gives = held number
  known-step _ result free_listing gives = list-known result gives
  known-step _ result (free_read name) gives = read-known name result
  known-step _ result (free_verdict asked) gives = told-known asked result
  known-step _ result (create_rule lock rule) gives = made-known lock result rule.first
  known-step _ result (staging_rule name piece keeper rule) gives =
      same-known (writes name piece) result (written-same token folder (Lock number) name piece
      (effect_of (writes name piece) result)
      (fails-apart is_staging (Lock number) name refl rule.staging))
  known-step _ result (append_rule name piece keeper rule) gives =
      same-known (appends name piece) result (appended-same token folder (Lock number) name piece
      (effect_of (appends name piece) result)
      (fails-apart is_staging (Lock number) name refl rule.rule.staging))
  known-step _ result (commit_rule keeper rule) gives =
      same-known (renames IntentStage Intent) result
      (moved-same token folder (Lock number) IntentStage Intent
      (effect_of (renames IntentStage Intent) result) refl refl)
  known-step _ result (install_rule table keeper rule) gives =
      same-known (renames (Staged table) (Table table)) result
      (moved-same token folder (Lock number) (Staged table) (Table table)
      (effect_of (renames (Staged table) (Table table)) result) refl refl)
  known-step _ result (clear_rule keeper rule) gives = same-known (removes Intent) result
      (removed-same token folder (Lock number) Intent (effect_of (removes Intent) result) refl)
  known-step _ result (move_rule _ _ keeper (moves_backup table may)) gives =
      same-known (renames BackupStage (Backup table)) result
      (moved-same token folder (Lock number) BackupStage (Backup table)
      (effect_of (renames BackupStage (Backup table)) result) refl refl)
  known-step _ result (move_rule _ _ keeper (moves_free staged)) gives =
      given-known keeper.number (effect_of (renames FreeStage (Lock keeper.number)) result)
      keeper.keeps
  known-step _ result (unlock_rule lock rule) gives = removed-known lock result
  known-step _ result (answer_rule status rule) gives = held number

-- ---- Alone

module _ (deeds : SuiteDeeds) (first : Folder) (token : Token) (old history : History)
    (alone : IsAlone token old history) (lawful : Lawful deeds first history) where
  -- what it knows of the locks that stand
  are-known : AreKnown (after first history) (standing token history)
  are-known = alone-along deeds first token old history alone lawful AreKnown
      (λ past call result before keeps gives held number.
      known-step deeds past token (after first past) (standing token past)
      (invariant deeds first past before).is_folder held number call result
      (event-permitted deeds past token call result keeps) gives)
      (λ number stands. tt)

  -- what stays once it has freed its lock
  stays-free : StaysFreed (after first history) (standing token history)
  stays-free = alone-along deeds first token old history alone lawful StaysFreed
      (λ past call result before keeps gives held number.
      freed-step deeds past token (after first past) (standing token past) held
      (λ kept runs owns. ((invariant deeds first past before).keeper_view token kept
      (record { runs = runs; keeps = owns })).1) number call result keeps
      (event-permitted deeds past token call result keeps))
      (λ number freed. absurd (cc freed))

  module _ (number : ℕ) (freed : HasFreed number (standing token history)) where
    -- the locks that stand
    abbrev locks : List ℕ
    locks = (after first history).locks

    -- the numbers are those of the locks that stand
    is_folder : IsFolder (after first history)
    is_folder = (invariant deeds first history lawful).is_folder

    -- it made its lock
    made : made_number (standing token history).own ≡ Some number
    made = ap made_number freed.owns

    -- each lock that stands is its own
    each-own : (other : ℕ) → has_number other locks ≡ true → other ≡ number
    each-own other stands = cases (there (IsKnown (made_number (standing token history).own) other)
        (standing token history).listing freed.listing freed.listed
        (are-known other (sym (is_folder.standing other) ∙ stands)))
      where
        at : (less : Bool) → nat_lt other number ≡ less →
            has_number other freed.listing.numbers ≡ true →
            has_number other freed.listing.removed ≡ false → other ≡ number
        at true less listed stays = absurd (true≢false
            (sym (has-filtered (λ one. nat_lt one number) other freed.listing.numbers less listed)
            ∙ (ap (has_number other) (freed.is_such.1 ∙ append-nil freed.listing.removed) ∙ stays)))
        at false less listed stays =
            let most = has-most other freed.listing.numbers listed in
            let greatest_is = freed.is_greatest in
            grind (arith, nat_tests)

        cases : IsKnown (made_number (standing token history).own) other freed.listing →
            other ≡ number
        cases (inl is) = let both : Some number ≡ Some other = sym made ∙ is in cc both
        cases (inr known) = at (nat_lt other number) refl known.0 known.1

    -- one stands, so its own does
    own-stands : has_number number locks ≡ true
    own-stands =
        let most = (lock-facts deeds first history lawful).made_most token number made in
        let above : 0 < number = most.0 in
        let within : number ≤ greatest locks = most.1 in
        let some : 0 < greatest locks = omega (arith, above, within) in
        let top_stands = greatest-stands locks some in
        subst (λ (one : ℕ). has_number one locks ≡ true) (each-own (greatest locks) top_stands)
        top_stands

    -- it leaves its lock alone, and free
    pub alone-lock : IsOnlyLock (after first history) number
    alone-lock = record {
      only = only-number number locks is_folder.ascending each-own own-stands;
      free = free (stays-free number freed.owns).lock;
    }
      where
        free : ((after first history).file (Lock number) ≡ Some free_text)
            ⊎ ((after first history).file (Lock number) ≡ None) →
            (after first history).file (Lock number) ≡ Some free_text
        free (inl is) = is
        free (inr gone) = absurd (true≢false
            (sym own-stands ∙ (is_folder.standing number ∙ ap is_some gone)))

    -- and no intent, where it knows of none
    pub alone-intent-none : KnowsNone (standing token history).knows →
        (after first history).file Intent ≡ None
    alone-intent-none = (stays-free number freed.owns).intent
