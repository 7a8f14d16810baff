-- Each lawful event keeps the facts of the locks, but for the keeper's (LockTop). A lock that is held
-- after the event was held before or made by it; where its number was made before, it was taken
-- away since, and so a greater one stands (`made-again`). So what holds of the holders of a number
-- stays (`held-stays`), and a listing's text or verdict adds to it what it tells.
use Rattle.std.proofs.Common.{◌≡◌, ◌≢◌, refl, sym, ap, subst, ◌∙◌, ◌⊎◌, inl, inr, ℕ, ◌<◌, ◌≤◌, Bool, true, false, ◌||◌, ◌==◌, List, drop, get_or, Some, None, true≢false, bytes_eq, arith, codes}
use Rattle.std.proofs.lemmas.Slice.Eq.{bytes_eq-Decides}
use Rattle.std.proofs.lemmas.List.{append_cancel_right}
use Rattle.acct_text.specs.Bytes.{Bytes}
use Rattle.acct_outside.specs.declared.Name.TheVariants.{Lock}
use Rattle.acct_outside.specs.Tokens.{Token, held_text, free_text}
use Rattle.acct_outside.specs.Folder.{greatest, top}
use Rattle.acct_outside.specs.Life.{runs_in}
use Rattle.suite_rules.specs.OwnLock.{lock_freed, made_number, held_number}
use Rattle.suite_rules.specs.Listing.{Listing, is_held_in}
use Rattle.suite_rules.specs.Standing.{Standing}
use Rattle.suite_rules.proofs.Numbers.{number-is, number-same, number-differs, greatest-with}
use Rattle.suite_rules.proofs.Names.{else-is, then-is}
use Rattle.suite_rules.proofs.Sessions.{each}
use Rattle.suite_rules.proofs.Effects.{SameLocks}
use Rattle.suite_rules.proofs.LockSteps.{LockStep, lock_quiet, lock_listed, lock_read, lock_watched, lock_told, lock_tried, lock_created, lock_given_up, lock_removed}
use Rattle.suite_rules.proofs.LockOrigins.{CreatedNow, ListingOrigin, listed_now, known_before, text_now, told_now, NumberBefore, held-made, number-origin, unmade-before, listing-origin}
use Rattle.suite_rules.proofs.LockFacts.{World, Moves, HeldByOrPast, LockFacts, absent-below, removed-below, top-rises}

-- one of two tests holds
pub or-cases : (one two : Bool) → (one || two) ≡ true → (one ≡ true) ⊎ (two ≡ true)
or-cases true two is = inl refl
or-cases false two is = inr is

-- the texts of two sessions' locks differ
held-same : (token other : Token) → held_text token ≡ held_text other → token ≡ other
held-same token other is = append_cancel_right token other (codes "\n") (ap (drop 5) is)

-- a held lock doesn't read as free
held-not-free : (token : Token) → held_text token ≡ free_text → ⊥
held-not-free token is =
    true≢false (sym (ap (λ (text : List ℕ). get_or text 0 0 == 102) is))

-- What is known of the holders of a number goes on to what follows from it.
module _ (world : World) (number : ℕ) where
  -- what follows of each holder
  held-follows : (P Q : Token → Type 0) → ((holder : Token) → P holder → Q holder) →
      HeldByOrPast P world number → HeldByOrPast Q world number
  held-follows P Q follows (inl below) = inl below
  held-follows P Q follows (inr held) =
      inr (λ holder runs holds. follows holder (held holder runs holds))

  -- a lock that stands with a text is held by those whose text it is
  text-holders : (text : Bytes) → LockFacts world → number ≤ top world.folder →
      world.folder.file (Lock number) ≡ Some text →
      HeldByOrPast (λ holder. held_text holder ≡ text) world number
  text-holders text facts most stands = cases (number == top world.folder) refl
    where
      cases : (same : Bool) → (number == top world.folder) ≡ same →
          HeldByOrPast (λ holder. held_text holder ≡ text) world number
      cases false differs =
          let other = number-differs number (top world.folder) differs in inl (omega arith)
      cases true same =
          inr (λ holder runs holds. at holder (facts.own_text holder number runs holds))
        where
          at : (holder : Token) →
              (number < top world.folder)
              ⊎ (world.folder.file (Lock number) ≡ Some (held_text holder)) →
              held_text holder ≡ text
          at holder (inl below) =
              let equal = number-is number (top world.folder) same in absurd (omega arith)
          at holder (inr held) = cc

module _ (past now : World) (token : Token) (facts : LockFacts past)
    (moves : Moves past now token) where
  -- what the event did
  step : LockStep moves.history token past.folder now.folder (past.standing token)
      (now.standing token)
  step = moves.step

  -- where the lock of a number comes from
  origin : (number : ℕ) → CreatedNow token past.folder now.folder (past.standing token) number
      ⊎ NumberBefore (past.standing token) (now.standing token) number
  origin number = number-origin moves.history token past.folder now.folder
      (past.standing token) (now.standing token) step number

  -- the greatest number hasn't fallen
  rises : top past.folder ≤ top now.folder
  rises = top-rises past now token facts moves

  -- a number below the greatest stays so
  stays-below : (number : ℕ) → number < top past.folder → number < top now.folder
  stays-below number below = let least = rises in omega (arith, least)

  -- a number up to the greatest stays so
  stays-most : (number : ℕ) → number ≤ top past.folder → number ≤ top now.folder
  stays-most number most = let least = rises in omega (arith, least)

  -- the lock that another made
  other-made : (other : Token) → other ≢ token → (number : ℕ) →
      made_number (now.standing other).own ≡ Some number →
      made_number (past.standing other).own ≡ Some number
  other-made other differs number is =
      sym (ap (λ (one : Standing). made_number one.own) (moves.other_standing other differs)) ∙ is

  -- the listing of another
  other-listing : (other : Token) → other ≢ token → (listing : Listing) →
      (now.standing other).listing ≡ Some listing → (past.standing other).listing ≡ Some listing
  other-listing other differs listing is =
      sym (ap (λ (one : Standing). one.listing) (moves.other_standing other differs)) ∙ is

  -- another that runs ran
  pub other-runs : (other : Token) → other ≢ token → runs_in (now.life other) ≡ true →
      runs_in (past.life other) ≡ true
  other-runs other differs is = sym (ap runs_in (moves.other_life other differs)) ∙ is

  -- a session that held a lock before ran before
  pub holder-ran : (number : ℕ) → held_number (past.standing token).own ≡ Some number →
      runs_in (now.life token) ≡ true → runs_in (past.life token) ≡ true
  holder-ran number held runs =
      elim (moves.ran runs) [
        | inl ran ↦ ran
        | inr uncalled ↦
            (let none : None ≡ Some number = sym (ap held_number uncalled) ∙ held in absurd (cc))
      ]

  -- the number is positive
  created-above : (number : ℕ) →
      CreatedNow token past.folder now.folder (past.standing token) number → 0 < number
  created-above number created = let above = created.rule.one_above in omega arith

  -- the number stands
  created-most : (number : ℕ) →
      CreatedNow token past.folder now.folder (past.standing token) number →
      number ≤ top now.folder
  created-most number created =
      let is = ap greatest created.added.numbers ∙ greatest-with number past.folder.locks in
      omega arith

  -- where the number isn't above the greatest, it is below it
  made-again : (number : ℕ) →
      CreatedNow token past.folder now.folder (past.standing token) number →
      number ≤ top past.folder → number < top past.folder
  made-again number created most =
      absent-below past.folder facts.is_folder number (created-above number created) most
      created.absent

  -- what was listed lies up to the greatest
  pub listed-most : (asked : Token) (listing : Listing) →
      (now.standing asked).listing ≡ Some listing →
      greatest listing.numbers ≤ top now.folder
  listed-most = each (λ asked. (listing : Listing) → (now.standing asked).listing ≡ Some listing →
      greatest listing.numbers ≤ top now.folder) token
      (λ listing is. here listing (listing-origin moves.history token past.folder now.folder
      (past.standing token) (now.standing token) step listing is))
      (λ other differs listing is. stays-most (greatest listing.numbers)
      (facts.listed_most other listing (other-listing other differs listing is)))
    where
      here : (listing : Listing) →
          ListingOrigin moves.history past.folder (past.standing token) listing →
          greatest listing.numbers ≤ top now.folder
      here listing (listed_now new) =
          let is = ap (λ (one : Listing). greatest one.numbers) new in
          let least = rises in
          omega (arith, is, least)
      here listing (known_before old known numbers texts judged) =
          let is = ap greatest numbers in
          let most = stays-most (greatest old.numbers) (facts.listed_most token old known) in
          omega (arith, is, most)
      here listing (text_now old text known stands new) =
          let is = ap (λ (one : Listing). greatest one.numbers) new in
          let most = stays-most (greatest old.numbers) (facts.listed_most token old known) in
          omega (arith, is, most)
      here listing (told_now old asked known dead new) =
          let is = ap (λ (one : Listing). greatest one.numbers) new in
          let most = stays-most (greatest old.numbers) (facts.listed_most token old known) in
          omega (arith, is, most)

  -- what was made lies up to the greatest
  pub made-most : (asked : Token) (number : ℕ) →
      made_number (now.standing asked).own ≡ Some number →
      (0 < number) × (number ≤ top now.folder)
  made-most = each (λ asked. (number : ℕ) → made_number (now.standing asked).own ≡ Some number →
      (0 < number) × (number ≤ top now.folder)) token
      (λ number is. elim (origin number) [
        | inl created ↦ (created-above number created, created-most number created)
        | inr before ↦ later number (facts.made_most token number (before.made is))
      ])
      (λ other differs number is.
      later number (facts.made_most other number (other-made other differs number is)))
    where
      later : (number : ℕ) → (0 < number) × (number ≤ top past.folder) →
          (0 < number) × (number ≤ top now.folder)
      later number before = (before.0, stays-most number before.1)

  -- a number that the event's session and another made lies below the greatest
  made-twice : (other : Token) (number : ℕ) → token ≢ other →
      made_number (now.standing token).own ≡ Some number →
      made_number (now.standing other).own ≡ Some number → number < top now.folder
  made-twice other number differ mine another =
      elim (origin number) [
        | inl created ↦ stays-below number
            (made-again number created (facts.made_most other number before).1)
        | inr was ↦
            stays-below number (facts.made_once token other number differ (was.made mine) before)
      ]
    where
      before : made_number (past.standing other).own ≡ Some number
      before = other-made other (λ same. differ (sym same)) number another

  -- a number that two sessions made lies below the greatest
  pub made-once : (asked other : Token) (number : ℕ) → asked ≢ other →
      made_number (now.standing asked).own ≡ Some number →
      made_number (now.standing other).own ≡ Some number → number < top now.folder
  made-once = each (λ asked. (other : Token) (number : ℕ) → asked ≢ other →
      made_number (now.standing asked).own ≡ Some number →
      made_number (now.standing other).own ≡ Some number → number < top now.folder) token
      made-twice
      (λ asked differs. each (λ other. (number : ℕ) → asked ≢ other →
      made_number (now.standing asked).own ≡ Some number →
      made_number (now.standing other).own ≡ Some number → number < top now.folder) token
      (λ number differ mine another.
      made-twice asked number (λ same. differ (sym same)) another mine)
      (λ other others number differ one two. stays-below number
      (facts.made_once asked other number differ
      (other-made asked differs number one) (other-made other others number two))))

  -- a lock that stood stands with its text, or a greater one stands; so also where it was freed now
  lock-stays : (number : ℕ) (text : Bytes) → past.folder.file (Lock number) ≡ Some text →
      ((now.standing token).own ≡ lock_freed number → number < top now.folder) →
      (number < top now.folder) ⊎ (now.folder.file (Lock number) ≡ Some text)
  lock-stays number text stands freed = cases step
    where
      stay : SameLocks past.folder now.folder →
          (number < top now.folder) ⊎ (now.folder.file (Lock number) ≡ Some text)
      stay locks = inr (locks.texts number ∙ stands)

      cases : LockStep moves.history token past.folder now.folder (past.standing token)
          (now.standing token) →
          (number < top now.folder) ⊎ (now.folder.file (Lock number) ≡ Some text)
      cases (lock_quiet locks own listing) = stay locks
      cases (lock_listed locks own listing) = stay locks
      cases (lock_read lock read stood locks own listing) = stay locks
      cases (lock_watched name found finds locks own listing) = stay locks
      cases (lock_told asked verdict given locks own listing) = stay locks
      cases (lock_tried locks own listing) = stay locks
      cases (lock_created lock rule absent added own listing) = at (number == lock) refl
        where
          at : (same : Bool) → (number == lock) ≡ same →
              (number < top now.folder) ⊎ (now.folder.file (Lock number) ≡ Some text)
          at true same =
              let stood = ap (λ (one : ℕ). past.folder.file (Lock one))
              (sym (number-is number lock same)) ∙ stands in
              absurd (true≢false (sym (rw stood refl) ∙ absent))
          at false differs =
              inr (added.texts number ∙ (else-is (number == lock) _ _ differs ∙ stands))
      cases (lock_given_up lock given keeps added own listing) = at (number == lock) refl
        where
          at : (same : Bool) → (number == lock) ≡ same →
              (number < top now.folder) ⊎ (now.folder.file (Lock number) ≡ Some text)
          at true same = inl (freed
              (own ∙ ap (λ (one : ℕ). lock_freed one) (sym (number-is number lock same))))
          at false differs =
              inr (added.texts number ∙ (else-is (number == lock) _ _ differs ∙ stands))
      cases (lock_removed lock rule taken own listing) = at (number == lock) refl
        where
          at : (same : Bool) → (number == lock) ≡ same →
              (number < top now.folder) ⊎ (now.folder.file (Lock number) ≡ Some text)
          at true same = inl (stays-below number (subst (λ (one : ℕ). one < top past.folder)
              (sym (number-is number lock same)) (removed-below past now token facts lock rule)))
          at false differs =
              inr (taken.texts number ∙ (else-is (number == lock) _ _ differs ∙ stands))

  -- the lock that another holds
  other-held : (other : Token) → other ≢ token → (number : ℕ) →
      held_number (now.standing other).own ≡ Some number →
      held_number (past.standing other).own ≡ Some number
  other-held other differs number is =
      sym (ap (λ (one : Standing). held_number one.own) (moves.other_standing other differs)) ∙ is

  -- the lock that a running session holds has its text, or a greater one stands
  pub own-text : (holder : Token) (number : ℕ) → runs_in (now.life holder) ≡ true →
      held_number (now.standing holder).own ≡ Some number →
      (number < top now.folder) ⊎ (now.folder.file (Lock number) ≡ Some (held_text holder))
  own-text = each (λ holder. (number : ℕ) → runs_in (now.life holder) ≡ true →
      held_number (now.standing holder).own ≡ Some number →
      (number < top now.folder) ⊎ (now.folder.file (Lock number) ≡ Some (held_text holder))) token
      (λ number runs holds. elim (origin number) [
        | inl created ↦ inr (created.added.texts number
            ∙ then-is (number == number) _ _ (number-same number))
        | inr before ↦ later token number (λ freed. absurd (freed-holds number freed holds))
            (facts.own_text token number (holder-ran number (before.held holds) runs)
            (before.held holds))
      ])
      (λ other differs number runs holds. later other number
      (λ freed. made-twice other number (λ same. differs (sym same)) (ap made_number freed)
      (held-made (now.standing other).own number holds))
      (facts.own_text other number (other-runs other differs runs)
      (other-held other differs number holds)))
    where
      freed-holds : (number : ℕ) → (now.standing token).own ≡ lock_freed number →
          held_number (now.standing token).own ≡ Some number → ⊥
      freed-holds number freed holds =
          let none : None ≡ Some number = sym (ap held_number freed) ∙ holds in cc

      later : (holder : Token) (number : ℕ) →
          ((now.standing token).own ≡ lock_freed number → number < top now.folder) →
          (number < top past.folder)
          ⊎ (past.folder.file (Lock number) ≡ Some (held_text holder)) →
          (number < top now.folder) ⊎ (now.folder.file (Lock number) ≡ Some (held_text holder))
      later holder number freed (inl below) = inl (stays-below number below)
      later holder number freed (inr stands) =
          lock-stays number (held_text holder) stands freed

  -- what is known of the holders of a number up to the greatest stays so
  pub held-stays : (P : Token → Type 0) (number : ℕ) → number ≤ top past.folder →
      HeldByOrPast P past number → HeldByOrPast P now number
  held-stays P number most (inl below) = inl (stays-below number below)
  held-stays P number most (inr held) = cases (origin number)
    where
      cases : CreatedNow token past.folder now.folder (past.standing token) number
          ⊎ NumberBefore (past.standing token) (now.standing token) number →
          HeldByOrPast P now number
      cases (inl created) = inl (stays-below number (made-again number created most))
      cases (inr before) = inr (each (λ holder. runs_in (now.life holder) ≡ true →
          held_number (now.standing holder).own ≡ Some number → P holder) token
          (λ runs holds. held token (holder-ran number (before.held holds) runs)
          (before.held holds))
          (λ other differs runs holds. held other (other-runs other differs runs)
          (other-held other differs number holds)))

  -- the greatest listed lock is at most the greatest
  known-most : (old : Listing) → (past.standing token).listing ≡ Some old →
      greatest old.numbers ≤ top past.folder
  known-most old known = facts.listed_most token old known

  -- what was known of the holders of the greatest lock of an older listing holds of the newer one
  known-stays : (P : Token → Type 0) (old listing : Listing) →
      (past.standing token).listing ≡ Some old → listing.numbers ≡ old.numbers →
      HeldByOrPast P past (greatest old.numbers) → HeldByOrPast P now (greatest listing.numbers)
  known-stays P old listing known numbers held =
      subst (λ (one : List ℕ). HeldByOrPast P now (greatest one)) (sym numbers)
      (held-stays P (greatest old.numbers) (known-most old known) held)

  -- the greatest listed lock, where it was read as held, is held by that session alone
  pub read-lock : (asker asked : Token) (listing : Listing) →
      (now.standing asker).listing ≡ Some listing → is_held_in listing.texts asked ≡ true →
      HeldByOrPast (λ holder. holder ≡ asked) now (greatest listing.numbers)
  read-lock = each (λ asker. (asked : Token) (listing : Listing) →
      (now.standing asker).listing ≡ Some listing → is_held_in listing.texts asked ≡ true →
      HeldByOrPast (λ holder. holder ≡ asked) now (greatest listing.numbers)) token
      (λ asked listing is held. here asked listing held
      (listing-origin moves.history token past.folder now.folder (past.standing token)
      (now.standing token) step listing is))
      (λ other differs asked listing is held.
      let known = other-listing other differs listing is in
      held-stays (λ holder. holder ≡ asked) (greatest listing.numbers)
      (facts.listed_most other listing known)
      (facts.read_lock other asked listing known held))
    where
      same-texts : (asked : Token) (listing : Listing) (texts : List Bytes) →
          listing.texts ≡ texts →
          is_held_in listing.texts asked ≡ true → is_held_in texts asked ≡ true
      same-texts asked listing texts is held =
          subst (λ (one : List Bytes). is_held_in one asked ≡ true) is held

      here : (asked : Token) (listing : Listing) → is_held_in listing.texts asked ≡ true →
          ListingOrigin moves.history past.folder (past.standing token) listing →
          HeldByOrPast (λ holder. holder ≡ asked) now (greatest listing.numbers)
      here asked listing held (listed_now new) =
          absurd (true≢false (sym
          (same-texts asked listing _ (ap (λ (one : Listing). one.texts) new) held)))
      here asked listing held (known_before old known numbers texts judged) =
          known-stays (λ holder. holder ≡ asked) old listing known numbers
          (facts.read_lock token asked old known (same-texts asked listing _ texts held))
      here asked listing held (told_now old other known dead new) =
          known-stays (λ holder. holder ≡ asked) old listing known
          (ap (λ (one : Listing). one.numbers) new)
          (facts.read_lock token asked old known
          (same-texts asked listing _ (ap (λ (one : Listing). one.texts) new) held))
      here asked listing held (text_now old text known stands new) =
          known-stays (λ holder. holder ≡ asked) old listing known
          (ap (λ (one : Listing). one.numbers) new)
          (at (or-cases (bytes_eq text (held_text asked)) (is_held_in old.texts asked)
          (same-texts asked listing _ (ap (λ (one : Listing). one.texts) new) held)))
        where
          at : (bytes_eq text (held_text asked) ≡ true) ⊎ (is_held_in old.texts asked ≡ true) →
              HeldByOrPast (λ holder. holder ≡ asked) past (greatest old.numbers)
          at (inr before) = facts.read_lock token asked old known before
          at (inl read) =
              held-follows past (greatest old.numbers) (λ holder. held_text holder ≡ text)
              (λ holder. holder ≡ asked)
              (λ holder is. held-same holder asked
              (is ∙ (bytes_eq-Decides text (held_text asked)).0 read))
              (text-holders past (greatest old.numbers) text facts (known-most old known) stands)

  -- the greatest listed lock, where it is judged, is held by none
  pub judged-lock : (asker : Token) (listing : Listing) →
      (now.standing asker).listing ≡ Some listing → listing.is_judged ≡ true →
      made_number (now.standing asker).own ≡ None →
      HeldByOrPast (λ holder. ⊥) now (greatest listing.numbers)
  judged-lock = each (λ asker. (listing : Listing) →
      (now.standing asker).listing ≡ Some listing → listing.is_judged ≡ true →
      made_number (now.standing asker).own ≡ None →
      HeldByOrPast (λ holder. ⊥) now (greatest listing.numbers)) token
      (λ listing is judged unmade. here listing judged
      (unmade-before moves.history token past.folder now.folder (past.standing token)
      (now.standing token) step unmade)
      (listing-origin moves.history token past.folder now.folder (past.standing token)
      (now.standing token) step listing is))
      (λ other differs listing is judged unmade.
      let known = other-listing other differs listing is in
      held-stays (λ holder. ⊥) (greatest listing.numbers)
      (facts.listed_most other listing known)
      (facts.judged_lock other listing known judged
      (sym (ap (λ (one : Standing). made_number one.own)
      (moves.other_standing other differs)) ∙ unmade)))
    where
      judged-as : (listing : Listing) (judged : Bool) → listing.is_judged ≡ judged →
          listing.is_judged ≡ true → judged ≡ true
      judged-as listing judged is holds = sym is ∙ holds

      here : (listing : Listing) → listing.is_judged ≡ true →
          made_number (past.standing token).own ≡ None →
          ListingOrigin moves.history past.folder (past.standing token) listing →
          HeldByOrPast (λ holder. ⊥) now (greatest listing.numbers)
      here listing judged unmade (listed_now new) = inr (λ holder runs holds.
          let zero = number-is (top past.folder) 0
          (judged-as listing _ (ap (λ (one : Listing). one.is_judged) new) judged) in
          let same = ap (λ (one : Listing). greatest one.numbers) new in
          let least = (made-most holder (greatest listing.numbers)
          (held-made (now.standing holder).own (greatest listing.numbers) holds)).0 in
          omega (arith, zero, same, least))
      here listing judged unmade (known_before old known numbers texts is) =
          known-stays (λ holder. ⊥) old listing known numbers
          (facts.judged_lock token old known (judged-as listing _ is judged) unmade)
      here listing judged unmade (text_now old text known stands new) =
          known-stays (λ holder. ⊥) old listing known (ap (λ (one : Listing). one.numbers) new)
          (at (or-cases old.is_judged (bytes_eq text free_text)
          (judged-as listing _ (ap (λ (one : Listing). one.is_judged) new) judged)))
        where
          at : (old.is_judged ≡ true) ⊎ (bytes_eq text free_text ≡ true) →
              HeldByOrPast (λ holder. ⊥) past (greatest old.numbers)
          at (inl before) = facts.judged_lock token old known before unmade
          at (inr free) =
              held-follows past (greatest old.numbers) (λ holder. held_text holder ≡ text)
              (λ holder. ⊥)
              (λ holder is. held-not-free holder
              (is ∙ (bytes_eq-Decides text free_text).0 free))
              (text-holders past (greatest old.numbers) text facts (known-most old known) stands)
      here listing judged unmade (told_now old asked known dead new) =
          known-stays (λ holder. ⊥) old listing known (ap (λ (one : Listing). one.numbers) new)
          (at (or-cases old.is_judged (is_held_in old.texts asked)
          (judged-as listing _ (ap (λ (one : Listing). one.is_judged) new) judged)))
        where
          stopped : runs_in (past.life asked) ≡ false
          stopped = sym (ap runs_in (moves.lives asked)) ∙ dead

          at : (old.is_judged ≡ true) ⊎ (is_held_in old.texts asked ≡ true) →
              HeldByOrPast (λ holder. ⊥) past (greatest old.numbers)
          at (inl before) = facts.judged_lock token old known before unmade
          at (inr held) = elim (facts.read_lock token asked old known held) [
            | inl below ↦ inl below
            | inr alone ↦ inr (λ holder runs holds. true≢false
                (sym runs ∙ (ap (λ (one : Token). runs_in (past.life one))
                (alone holder runs holds) ∙ stopped)))
          ]
