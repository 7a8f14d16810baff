-- Claims: where a session was alone since a moment at which nothing stood in its way, it meets none of
-- what other sessions leave: no last number (`never-last`), no lock that is gone (`never-gone`), no
-- damaged one (`never-damaged`), no holder (`never-held`), no race (`never-raced`), no greater lock
-- (`never-outrun`), and no intent that doesn't read (`never-unread`, `never-large`).
-- Way: it met each of these at one call. By then it had only listed and read the locks, or made its
-- own and not listed them since, or read the intent before its commit (AloneStays); so what the call
-- answered is what stood at the moment. So it is with what a report watched (`report_view`).
use Rattle.std.proofs.Common.{◌≡◌, refl, sym, ap, subst, ◌∙◌, ◌∷◌, ◌++◌, [], ℕ, ◌+◌, ◌<◌, ◌≤◌, Bool, true, false, ◌||◌, nat_lt, if◌then◌else◌, length, bytes_eq, codes, List, inl, inr, Option, Some, None, is_some, true≢false, arith, lit≤}
use Rattle.std.specs.Prelude.{IsSome}
use Rattle.std.specs.List.{AllByRecursion}
use Rattle.std.proofs.lemmas.Bool.{ltb-true}
use Rattle.std.proofs.lemmas.List.{append_cancel_left, append_cancel_right, length-append}
use Rattle.std.proofs.lemmas.List.Elements.{filter-append}
use Rattle.std.proofs.lemmas.Slice.Eq.{bytes_eq-Decides}
use Rattle.acct_text.specs.Bytes.{Bytes}
use Rattle.acct_outside.specs.declared.Name.TheVariants.{Intent, Lock}
use Rattle.acct_outside.specs.declared.Verdict.TheVariants.{Alive}
use Rattle.acct_outside.specs.declared.Created.TheVariants.{Exists}
use Rattle.acct_outside.specs.Names.{intent_limit, lock_limit}
use Rattle.acct_outside.specs.Tokens.{Token, IsToken, held_text}
use Rattle.acct_outside.specs.Folder.{Folder, IsFolder, greatest, has_number, top}
use Rattle.acct_outside.specs.Calls.{Call, Answer, Found, lists, reads, asks, creates, removes, done, found_absent, found_bytes, found_too_large, found_within}
use Rattle.acct_outside.specs.History.{Event, History, after, is_of, own_events}
use Rattle.acct_outside.specs.declared.CommitStage.TheVariants.{Before}
use Rattle.account_model.specs.Request.{is_report}
use Rattle.intent_file.specs.Parts.{FirstFault}
use Rattle.intent_file.proofs.FirstFaultIsOne.{first_fault_is_one_holds}
use Rattle.suite_rules.specs.Deeds.{SuiteDeeds}
use Rattle.suite_rules.specs.OwnLock.{OwnLock, lock_uncalled, lock_made, made_number}
use Rattle.suite_rules.specs.Listing.{Listing, is_held_in}
use Rattle.suite_rules.specs.Standing.{Standing, standing, standing_step}
use Rattle.suite_rules.specs.Lawful.{IsNext, Lawful, goes_on}
use Rattle.suite_rules.proofs.Cut.{lawful-prefix}
use Rattle.suite_rules.proofs.Effects.{bytes-stand}
use Rattle.suite_rules.proofs.Numbers.{greatest-stands, has-most}
use Rattle.suite_rules.proofs.Settles.{uncalled-before}
use Rattle.suite_rules.proofs.Whole.{invariant}
use Rattle.lock_steps.specs.Stands.{HasListed, HasLooked, HasJudged, WasOvertaken}
use Rattle.suite_session.specs.Causes.{Met, HasKept, HasListedNone, IsNoLockText, MetLast, MetNoLock, MetDamage, MetHolder, MetNext, MetChange, MetGreater, MetShown, MetBadIntent, MetLargeIntent, HasWatched, lister}
use Rattle.suite_session.proofs.GrowsLemmas.{second-empty}
use Rattle.suite_session.specs.Runner.{Question}
use Rattle.suite_course.specs.Open.{LetsPass, NeverToldAlive, StandsOpen}
use Rattle.suite_course.specs.Alone.{IsAlone}
use Rattle.suite_course.specs.Shows.{WasOutrun}
use Rattle.suite_course.proofs.AloneLemmas.{all-rest, suffixes}
use Rattle.suite_course.proofs.AloneSteps.{IsListingOf, LocksAlone, there}
use Rattle.suite_course.proofs.AloneStays.{IsIntentOf, alone-intent, alone-locks}
use Rattle.suite_course.proofs.IntentLimits.{readable-within}

-- ---- What a read finds

-- what is within the limit is found whole
found-whole : (limit : ℕ) (bytes : Bytes) → length bytes ≤ limit →
    found_within limit (Some bytes) ≡ found_bytes bytes
found-whole limit bytes within = cases (nat_lt limit (length bytes)) refl
  where
    cases : (large : Bool) → nat_lt limit (length bytes) ≡ large →
        (if large then found_too_large else found_bytes bytes) ≡ found_bytes bytes
    cases false is = refl
    cases true is =
        let past : limit < length bytes = ltb-true limit (length bytes) is in
        absurd (omega (arith, past, within))

-- what stands isn't found absent
absent-none : (limit : ℕ) (content : Option Bytes) → is_some content ≡ true →
    found_absent ≡ found_within limit content → ⊥
absent-none limit None stands is = true≢false (sym stands)
absent-none limit (Some bytes) stands is = cases (nat_lt limit (length bytes)) is
  where
    cases : (large : Bool) →
        found_absent ≡ (if large then found_too_large else found_bytes bytes) → ⊥
    cases true same = cc same
    cases false same = cc same

-- only what stands is found too large
large-some : (limit : ℕ) (content : Option Bytes) → found_too_large ≡ found_within limit content →
    (bytes : Bytes) × (content ≡ Some bytes)
large-some limit None is = absurd (cc is)
large-some limit (Some bytes) is = (bytes, refl)

-- the text of a lock is short
held-short : (holder : Token) → IsToken holder → length (held_text holder) ≤ lock_limit
held-short holder is =
    let short = is.short in
    let words : length (codes "held ") ≡ 5 = refl in
    let whole : length (held_text holder) ≡ length (codes "held ") + (length holder + 1) =
    length-append (codes "held ") (holder ++ codes "\n")
    ∙ ap (λ (rest : ℕ). length (codes "held ") + rest) (length-append holder (codes "\n")) in
    omega (arith, words, whole, short)

-- a text is held by one session
held-one : (holder other : Token) → held_text holder ≡ held_text other → holder ≡ other
held-one holder other is = append_cancel_right holder other (codes "\n")
    (append_cancel_left (codes "held ") (holder ++ codes "\n") (other ++ codes "\n") is)

-- a lock that was read as held has that text
held-stands : (content : Option Bytes) (texts : List Bytes) (holder : Token) →
    AllByRecursion (λ text. content ≡ Some text) texts → is_held_in texts holder ≡ true →
    content ≡ Some (held_text holder)
held-stands content [] holder all held = absurd (true≢false (sym held))
held-stands content (text ∷ texts) holder all held =
    cases (bytes_eq text (held_text holder)) refl (held-stands content texts holder all.1) held
  where
    cases : (same : Bool) → bytes_eq text (held_text holder) ≡ same →
        (is_held_in texts holder ≡ true → content ≡ Some (held_text holder)) →
        (same || is_held_in texts holder) ≡ true → content ≡ Some (held_text holder)
    cases true is rest one = all.0 ∙ ap (λ (bytes : Bytes). Some bytes)
        ((bytes_eq-Decides text (held_text holder)).0 is)
    cases false is rest behind = rest behind

-- ---- Earlier moments of a session

-- its commit wasn't called before it was
uncalled-was : (token : Token) (later older : History) →
    (standing token (later ++ older)).commit ≡ Before →
    (standing token older).commit ≡ Before
uncalled-was token [] older is = is
uncalled-was token (event ∷ later) older is =
    uncalled-was token later older (cases (is_of token event) is)
  where
    stood : Standing
    stood = standing token (later ++ older)

    cases : (own : Bool) →
        (if own then standing_step event.call event.result stood else stood).commit
        ≡ Before → stood.commit ≡ Before
    cases true uncalled = uncalled-before event.call event.result stood.commit uncalled
    cases false uncalled = uncalled

-- a session with an event isn't one with none
pub some-event : (token : Token) (event : Event) (older : History) → event.token ≡ token →
    own_events token (event ∷ older) ≡ [] → ⊥
some-event token event older same none =
    let is : own_events token (event ∷ older) ≡ event ∷ own_events token older =
    rw ((bytes_eq-Decides event.token token).1 same) refl in
    let wrong : event ∷ own_events token older ≡ [] = sym is ∙ none in
    absurd (cc wrong)

-- a session that is alone since a moment was so before each event of its own
alone-then : (token : Token) (old new : History) → IsAlone token old new → (event : Event)
    (later older : History) → event.token ≡ token → new ≡ later ++ event ∷ older →
    IsAlone token old older
alone-then token old new alone event later older same parts =
    elim (suffixes alone.newer old later (event ∷ older) (sym alone.parts ∙ parts)) [
      | inl after_it ↦ since after_it.0 after_it.1 (all-rest (λ one. one.token ≡ token) later
          after_it.0 (subst (AllByRecursion (λ one. one.token ≡ token)) after_it.2 alone.own))
      | inr before_it ↦ absurd (some-event token event older same
          (second-empty (own_events token before_it.0) (own_events token (event ∷ older))
          (sym (filter-append (is_of token) before_it.0 (event ∷ older))
          ∙ (ap (λ (one : History). own_events token one) (sym before_it.1) ∙ alone.fresh))))
    ]
  where
    since : (between : History) → event ∷ older ≡ between ++ old →
        AllByRecursion (λ one. one.token ≡ token) between → IsAlone token old older
    since [] is own = absurd (some-event token event older same
        (ap (λ (one : History). own_events token one) is ∙ alone.fresh))
    since (head ∷ between) is own = record {
      newer = between;
      parts = (let tails : older ≡ between ++ old = cc is in tails);
      own = own.1;
      fresh = alone.fresh;
    }

-- ---- What it meets

module _ (deeds : SuiteDeeds) (first : Folder) (old new : History) (token : Token)
    (lawful : Lawful deeds first new) (alone : IsAlone token old new)
    (opened : StandsOpen (after first old) token new) where
  -- the folder at the moment
  abbrev entry : Folder
  entry = after first old

  -- its locks are those that stand
  is-folder : IsFolder entry
  is-folder = (invariant deeds first old (lawful-prefix deeds first alone.newer old
      (subst (Lawful deeds first) alone.parts lawful))).is_folder

  -- a call of the session got this answer, when it was alone and stood so
  record Faced (call : Call) (answer : Answer call) (Stood : Standing → Type 0) (older : History)
      : Type 0 where
    alone_then : IsAlone token old older
    lawful_then : Lawful deeds first older
    next : IsNext deeds first older
        (record { token = token; call = call; result = done answer })
    stood : Stood (standing token older)

  -- what it met, it met when it was alone
  faced : (call : Call) (answer : Answer call) (Stood : Standing → Type 0)
      (met : Met token call answer Stood new) → Faced call answer Stood met.older
  faced call answer Stood met = at_event (lawful-prefix deeds first met.newer (event ∷ met.older)
      (subst (Lawful deeds first) met.parts lawful))
    where
      event : Event
      event = record { token = token; call = call; result = done answer }

      at_event : Lawful deeds first (event ∷ met.older) → Faced call answer Stood met.older
      at_event (goes_on _ _ before next) = record {
        alone_then = alone-then token old new alone event met.newer met.older refl met.parts;
        lawful_then = before;
        next = next;
        stood = met.stood;
      }

  -- how it stood with the locks
  locks-then : (call : Call) (answer : Answer call) (Stood : Standing → Type 0) (older : History) →
      Faced call answer Stood older → (own : OwnLock) → (standing token older).own ≡ own →
      LocksAlone entry (after first older) (standing token older).listing own
  locks-then call answer Stood older met own is =
      subst (LocksAlone entry (after first older) (standing token older).listing) is
      (alone-locks deeds first token old older met.alone_then met.lawful_then)

  -- a session that has made no lock yet has listed those of the moment
  record HasSeenTop (older : History) (listing : Listing) (number : ℕ) : Type 0 where
    same : after first older ≡ entry
    of_entry : IsListingOf entry listing
    is_top : top entry ≡ number

  seen-top : (call : Call) (answer : Answer call) (number : ℕ) (IsSuch : Listing → Type 0)
      (older : History) (met : Faced call answer (HasListed lock_uncalled number IsSuch) older) →
      HasSeenTop older met.stood.listing number
  seen-top call answer number IsSuch older met =
      let locks = locks-then call answer (HasListed lock_uncalled number IsSuch) older met
      lock_uncalled met.stood.owns in
      let is = there (IsListingOf entry) (standing token older).listing met.stood.listing
      met.stood.listed locks.1 in
      record {
        same = locks.0;
        of_entry = is;
        is_top = sym (ap greatest is.numbers) ∙ met.stood.is_greatest;
      }

  -- the greatest lock doesn't have the last number
  pub never-last : MetLast token new → ⊥
  never-last met =
      let call = faced lists met.0 HasListedNone met.2 in
      let locks = locks-then lists met.0 HasListedNone met.2.older call lock_uncalled
      call.stood.owns in
      let is : greatest met.0 ≡ top entry = ap greatest call.next.gives ∙ ap top locks.0 in
      let last = met.1 in
      let below = opened.not_last in
      absurd (omega (arith, is, last, below))

  -- the greatest lock, which it listed, stands
  pub never-gone : (number : ℕ) → MetNoLock token number new → ⊥
  never-gone number met =
      let some = met.0 in
      let call = faced (reads (Lock number)) found_absent (HasLooked (lister token number)) met.1 in
      let seen = seen-top (reads (Lock number)) found_absent number _ met.1.older call in
      let is = seen.is_top in
      let stands : has_number number entry.locks ≡ true =
      subst (λ (one : ℕ). has_number one entry.locks ≡ true) is
      (greatest-stands entry.locks (omega (arith, some, is))) in
      absent-none lock_limit (entry.file (Lock number)) (sym (is-folder.standing number) ∙ stands)
      (subst (λ (one : Folder). found_absent ≡ found_within lock_limit (one.file (Lock number)))
      seen.same call.next.gives)

  -- it is free, or held by a session
  text-passes : (text : Bytes) → LetsPass token new text →
      IsNoLockText (found_within lock_limit (Some text)) → ⊥
  text-passes text (inl free) damage =
      let small : length text ≤ lock_limit =
      subst (λ (one : Bytes). length one ≤ lock_limit) (sym free) (lit≤ tt) in
      (subst IsNoLockText (found-whole lock_limit text small) damage).not_free free
  text-passes text (inr held) damage =
      let small : length text ≤ lock_limit =
      subst (λ (one : Bytes). length one ≤ lock_limit) (sym held.1.is_text)
      (held-short held.0 held.1.is_token) in
      (subst IsNoLockText (found-whole lock_limit text small) damage).not_held held.0 held.1

  pub never-damaged : (number : ℕ) → MetDamage token number new → ⊥
  never-damaged number met =
      let call = faced (reads (Lock number)) met.0 (HasLooked (lister token number)) met.2 in
      let seen = seen-top (reads (Lock number)) met.0 number _ met.2.older call in
      let found : met.0 ≡ found_within lock_limit (entry.file (Lock (top entry))) =
      subst (λ (one : ℕ). met.0 ≡ found_within lock_limit (entry.file (Lock one))) (sym seen.is_top)
      (subst (λ (one : Folder). met.0 ≡ found_within lock_limit (one.file (Lock number)))
      seen.same call.next.gives) in
      by-content (entry.file (Lock (top entry))) refl (subst IsNoLockText found met.1)
    where
      by-content : (content : Option Bytes) → entry.file (Lock (top entry)) ≡ content →
          IsNoLockText (found_within lock_limit content) → ⊥
      by-content None is damage = damage
      by-content (Some text) is damage = text-passes text (opened.lock text is) damage

  -- its holder was told dead
  pub never-held : (holder : Token) → MetHolder token holder new → ⊥
  never-held holder met =
      let call = faced (asks holder) Alive _ met.1 in
      let seen = seen-top (asks holder) Alive met.0 _ met.1.older call in
      let text = held-stands (entry.file (Lock (top entry))) call.stood.listing.texts holder
      seen.of_entry.texts call.stood.is_such in
      passes (opened.lock (held_text holder) text)
    where
      told : Met token (asks holder) Alive (λ stood. Unit {0}) new
      told = record {
        newer = met.1.newer;
        older = met.1.older;
        parts = met.1.parts;
        stood = tt;
      }

      passes : LetsPass token new (held_text holder) → ⊥
      passes (inl free) = absurd (cc free)
      passes (inr held) = subst (λ (one : Token). NeverToldAlive token one new)
          (sym (held-one holder held.0 held.1.is_text)) held.2 told

  -- the next number was free
  pub never-raced : (number : ℕ) → MetNext token number new → ⊥
  never-raced number met =
      let call = faced (creates number) Exists (HasJudged (lister token met.0)) met.2 in
      let seen = seen-top (creates number) Exists met.0 _ met.2.older call in
      let stands : IsSome (entry.file (Lock number)) =
      subst (λ (one : Folder). IsSome (one.file (Lock number))) seen.same call.next.gives in
      let most = has-most number entry.locks (is-folder.standing number ∙ stands) in
      let is = seen.is_top in
      let next = met.1 in
      absurd (omega (arith, most, is, next))

  -- no greater lock than its own came
  never-greater : (number other : ℕ) → MetGreater token number other new → ⊥
  never-greater number other met =
      let call = faced (removes (Lock number)) tt
      (WasOvertaken (record { token = token; number = number; greatest = other })) met.1 in
      let locks = locks-then (removes (Lock number)) tt _ met.1.older call (lock_made number)
      call.stood.owns in
      true≢false (sym call.stood.is_such ∙ there (λ one. one.follows_create ≡ false)
      (standing token met.1.older).listing call.stood.listing call.stood.listed locks.1)

  -- no greater lock than the one that it had judged came
  never-changed : (number other : ℕ) → MetChange token number other new → ⊥
  never-changed number other met =
      let call = faced lists met.0 (HasJudged (lister token number)) met.3 in
      let seen = seen-top lists met.0 number _ met.3.older call in
      let now : greatest met.0 ≡ top entry = ap greatest call.next.gives ∙ ap top seen.same in
      let is = seen.is_top in
      let listed = met.1 in
      absurd (met.2 (omega (arith, now, is, listed)))

  -- so it wasn't outrun
  pub never-outrun : (asked : Question) (number other : ℕ) →
      WasOutrun asked token number other new → ⊥
  never-outrun asked number other outrun = cases (is_report asked.request) refl
    where
      cases : (reports : Bool) → is_report asked.request ≡ reports → ⊥
      cases true is = never-changed number other (outrun.report is)
      cases false is = never-greater number other (outrun.keeper is)

  -- ---- The intent

  -- an intent that stood at the moment reads
  unread-stands : (part : ℕ) (bytes : Bytes) → FirstFault bytes part →
      entry.file Intent ≡ Some bytes → ⊥
  unread-stands part bytes fault is =
      let reading = opened.intent bytes is in
      first_fault_is_one_holds.none_if_read bytes part reading.0 fault reading.1

  -- so it isn't too large
  large-stands : (content : Option Bytes) →
      ((bytes : Bytes) → content ≡ Some bytes → entry.file Intent ≡ Some bytes) →
      found_too_large ≡ found_within intent_limit content → ⊥
  large-stands content stood is =
      let large = large-some intent_limit content is in
      let reading = opened.intent large.0 (stood large.0 large.1) in
      let whole : found_too_large ≡ found_bytes large.0 = is
      ∙ (ap (found_within intent_limit) large.1
      ∙ found-whole intent_limit large.0 (readable-within large.0 reading.0 reading.1)) in
      absurd (cc whole)

  -- what a report found of it stood at the moment
  shown-stood : (found : Found) → MetShown token Intent found new →
      found ≡ found_within intent_limit (entry.file Intent)
  shown-stood found met =
      let Stood = HasWatched (greatest met.0) Intent found in
      let call = faced lists met.0 Stood met.1 in
      let seen = seen-top lists met.0 (greatest met.0) _ met.1.older call in
      let listing = call.stood.listing in
      let top_is : top (after first met.1.older) ≡ greatest met.0 =
      ap top seen.same ∙ seen.is_top in
      let was = call.stood.is_greatest in
      let view = (invariant deeds first met.1.older call.lawful_then).report_view in
      elim (view token listing call.stood.listed call.stood.is_such.0
      (ap made_number call.stood.owns)) [
        | inl less ↦ absurd (omega (arith, less, top_is, was))
        | inr stands ↦ subst (λ (folder : Folder).
            found ≡ found_within intent_limit (folder.file Intent)) seen.same
            (stands Intent found call.stood.is_such.1)
      ]

  module _ (uncalled : (standing token new).commit ≡ Before) where
    -- before its commit it reads the intent of the moment, or none
    intent-then : (found : Found) (met : Met token (reads Intent) found HasKept new) →
        IsIntentOf entry (after first met.older)
    intent-then found met =
        let call = faced (reads Intent) found HasKept met in
        let event : Event =
        record { token = token; call = reads Intent; result = done found } in
        alone-intent deeds first token old met.older call.alone_then call.lawful_then
        (uncalled-was token (event ∷ []) met.older (uncalled-was token met.newer (event ∷ met.older)
        (subst (λ (one : History). (standing token one).commit ≡ Before) met.parts
        uncalled)))

    -- what it read of the intent stood at the moment
    read-stood : (found : Found) (met : Met token (reads Intent) found HasKept new)
        (bytes : Bytes) →
        (after first met.older).file Intent ≡ Some bytes → entry.file Intent ≡ Some bytes
    read-stood found met bytes is = elim (intent-then found met) [
      | inl stands ↦ sym stands ∙ is
      | inr none ↦ absurd (cc (sym none ∙ is))
    ]

    -- the intent reads
    pub never-unread : (part : ℕ) → MetBadIntent token part new → ⊥
    never-unread part (bytes, fault, inl met) =
        let call = faced (reads Intent) (found_bytes bytes) HasKept met in
        unread-stands part bytes fault (read-stood (found_bytes bytes) met bytes
        (bytes-stand intent_limit _ bytes call.next.gives))
    never-unread part (bytes, fault, inr shown) = unread-stands part bytes fault
        (bytes-stand intent_limit (entry.file Intent) bytes (shown-stood (found_bytes bytes) shown))

    -- so it isn't too large
    pub never-large : MetLargeIntent token new → ⊥
    never-large (inl met) =
        let call = faced (reads Intent) found_too_large HasKept met in
        large-stands ((after first met.older).file Intent)
        (read-stood found_too_large met) call.next.gives
    never-large (inr shown) = large-stands (entry.file Intent) (λ bytes is. is)
        (shown-stood found_too_large shown)
