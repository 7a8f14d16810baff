-- Where the lock, the keeper and the listing of a session come from: what it has after an event it
-- had before, or the event made it (`number-origin`, `kept-origin`, `listing-origin`).
use Rattle.std.proofs.Common.{◌≡◌, refl, sym, ap, subst, ◌∙◌, ◌⊎◌, inl, inr, ℕ, Bool, true, false, ◌&&◌, ◌==◌, if◌then◌else◌, Option, Some, None, option_map, IsNone}
use Rattle.acct_text.specs.Bytes.{Bytes}
use Rattle.acct_outside.specs.declared.Name.{Name}
use Rattle.acct_outside.specs.declared.Name.TheVariants.{Lock}
use Rattle.acct_outside.specs.declared.Verdict.{Verdict}
use Rattle.acct_outside.specs.declared.Verdict.TheVariants.{Alive, Dead}
use Rattle.acct_outside.specs.Tokens.{Token, held_text}
use Rattle.acct_outside.specs.Folder.{Folder, greatest, top}
use Rattle.acct_outside.specs.Calls.{Found}
use Rattle.acct_outside.specs.History.{History}
use Rattle.acct_outside.specs.Gives.{GivesVerdict}
use Rattle.acct_outside.specs.Life.{is_running}
use Rattle.suite_rules.specs.OwnLock.{OwnLock, lock_uncalled, lock_called, lock_unsure, lock_made, lock_kept, lock_freed, made_number, held_number, kept_number, has_called_create, makes, confirm_step}
use Rattle.suite_rules.specs.Knowledge.{is_watched}
use Rattle.suite_rules.specs.Listing.{Listing, new_listing, with_text, text_step, verdict_step, before_create, with_removed, watched_with, watch_step}
use Rattle.suite_rules.specs.Standing.{Standing}
use Rattle.suite_rules.specs.Rules.{CreateRule}
use Rattle.suite_rules.proofs.Numbers.{number-is, number-differs}
use Rattle.suite_rules.proofs.Effects.{SameLocks, WithLock}
use Rattle.suite_rules.proofs.LockSteps.{LockStep, lock_quiet, lock_listed, lock_read, lock_watched, lock_told, lock_tried, lock_created, lock_given_up, lock_removed}

-- a listing with what was watched now, where it was
abbrev pub watched_where : Bool → Name → Found → Listing → Listing
watched_where watches name found one =
    if watches then record one { watched = watched_with name found one.watched } else one

-- what was watched leaves the numbers of a listing, its texts and whether it is judged
watch-leaves : (name : Name) (found : Found) (one : Listing) →
    ((watch_step name found one).numbers ≡ one.numbers)
    × ((watch_step name found one).texts ≡ one.texts)
    × ((watch_step name found one).is_judged ≡ one.is_judged)
watch-leaves name found one = cases (is_watched name && one.is_judged)
  where
    cases : (watches : Bool) → ((watched_where watches name found one).numbers ≡ one.numbers)
        × ((watched_where watches name found one).texts ≡ one.texts)
        × ((watched_where watches name found one).is_judged ≡ one.is_judged)
    cases true = (refl, refl, refl)
    cases false = (refl, refl, refl)

-- a lock that is held was made
pub held-made : (own : OwnLock) (number : ℕ) → held_number own ≡ Some number →
    made_number own ≡ Some number
held-made (lock_freed other) number is = absurd (cc)
held-made _ number is = is

-- A listing and a create that makes no lock leave the lock that was made.
module _ (top : ℕ) where
  -- a listing leaves the number that was made
  confirm-made : (own : OwnLock) → made_number (confirm_step top own) ≡ made_number own
  confirm-made (lock_made number) = cases (top == number)
    where
      cases : (same : Bool) →
          made_number (if same then lock_kept number else lock_made number) ≡ Some number
      cases true = refl
      cases false = refl
  confirm-made _ = refl

  -- a listing leaves the number that is held
  confirm-held : (own : OwnLock) → held_number (confirm_step top own) ≡ held_number own
  confirm-held (lock_made number) = cases (top == number)
    where
      cases : (same : Bool) →
          held_number (if same then lock_kept number else lock_made number) ≡ Some number
      cases true = refl
      cases false = refl
  confirm-held _ = refl

  -- a session that is keeper after a listing was so before, or listed its own lock as the greatest
  confirm-kept : (own : OwnLock) (number : ℕ) → confirm_step top own ≡ lock_kept number →
      (own ≡ lock_kept number) ⊎ ((own ≡ lock_made number) × (top ≡ number))
  confirm-kept (lock_made made) number is = cases (top == made) refl is
    where
      cases : (same : Bool) → (top == made) ≡ same →
          (if same then lock_kept made else lock_made made) ≡ lock_kept number →
          (lock_made made ≡ lock_kept number)
          ⊎ ((lock_made made ≡ lock_made number) × (top ≡ number))
      cases true same is =
          let equal : made ≡ number = cc in
          inr (ap (λ (lock : ℕ). lock_made lock) equal, number-is top made same ∙ equal)
      cases false differs is = absurd (cc)
  confirm-kept (lock_kept made) number is = inl is
  confirm-kept own number is = absurd (cc)

  -- a session that keeps or kept a number after a listing did so before, or became keeper by it
  confirm-number : (own : OwnLock) (number : ℕ) →
      kept_number (confirm_step top own) ≡ Some number →
      (kept_number own ≡ Some number)
      ⊎ ((own ≡ lock_made number) × (top ≡ number) × (confirm_step top own ≡ lock_kept number))
  confirm-number (lock_made made) number is = cases (top == made) refl is
    where
      cases : (same : Bool) → (top == made) ≡ same →
          kept_number (if same then lock_kept made else lock_made made) ≡ Some number →
          (None ≡ Some number)
          ⊎ ((lock_made made ≡ lock_made number) × (top ≡ number)
          × ((if same then lock_kept made else lock_made made) ≡ lock_kept number))
      cases true same is =
          let equal : made ≡ number = cc in
          inr (
            ap (λ (lock : ℕ). lock_made lock) equal,
            number-is top made same ∙ equal,
            ap (λ (lock : ℕ). lock_kept lock) equal,
          )
      cases false differs is = inl is
  confirm-number _ number is = inl is

  -- a number that is or was kept stays so after a listing
  confirm-stays : (own : OwnLock) (number : ℕ) → kept_number own ≡ Some number →
      kept_number (confirm_step top own) ≡ Some number
  confirm-stays (lock_made made) number is = absurd (cc)
  confirm-stays _ number is = is

-- a create that made no lock leaves the number that is or was kept
tried-number : (own : OwnLock) → kept_number (makes lock_called own) ≡ kept_number own
tried-number lock_uncalled = refl
tried-number _ = refl

-- a create that made no lock leaves the number that was made
tried-made : (own : OwnLock) → made_number (makes lock_called own) ≡ made_number own
tried-made lock_uncalled = refl
tried-made _ = refl

-- a create that made no lock leaves the number that is held
tried-held : (own : OwnLock) → held_number (makes lock_called own) ≡ held_number own
tried-held lock_uncalled = refl
tried-held _ = refl

-- a create that made no lock makes no keeper
tried-kept : (own : OwnLock) (number : ℕ) → makes lock_called own ≡ lock_kept number →
    own ≡ lock_kept number
tried-kept lock_uncalled number is = absurd (cc)
tried-kept _ number is = is

-- the event made the lock
pub record CreatedNow (token : Token) (before after : Folder) (standing : Standing)
    (number : ℕ) : Type 0 where
  pub rule : CreateRule standing number
  pub absent : IsNone (before.file (Lock number))
  pub added : WithLock number (held_text token) before after

-- a lock of this number that is made or held was so before the event
pub record NumberBefore (standing later : Standing) (number : ℕ) : Type 0 where
  pub made : made_number later.own ≡ Some number → made_number standing.own ≡ Some number
  pub held : held_number later.own ≡ Some number → held_number standing.own ≡ Some number

-- the session became keeper by the event
pub record KeptNow (before after : Folder) (standing later : Standing) (number : ℕ) : Type 0 where
  pub made : standing.own ≡ lock_made number
  pub is_top : top before ≡ number
  pub locks : SameLocks before after
  pub keeps : later.own ≡ lock_kept number

-- Where a listing comes from: it was made now; it was known so before; the text of its greatest lock
-- was read now; or its greatest lock was judged now by a verdict.
pub data ListingOrigin (history : History) (before : Folder) (standing : Standing)
    (listing : Listing) : Type 0 where
  listed_now : listing ≡ new_listing (has_called_create standing.own) before.locks →
      ListingOrigin history before standing listing
  known_before : (old : Listing) → standing.listing ≡ Some old → listing.numbers ≡ old.numbers →
      listing.texts ≡ old.texts → listing.is_judged ≡ old.is_judged →
      ListingOrigin history before standing listing
  text_now : (old : Listing) (text : Bytes) → standing.listing ≡ Some old →
      before.file (Lock (greatest old.numbers)) ≡ Some text → listing ≡ with_text text old →
      ListingOrigin history before standing listing
  told_now : (old : Listing) (asked : Token) → standing.listing ≡ Some old →
      is_running asked history ≡ false → listing ≡ verdict_step asked Dead old →
      ListingOrigin history before standing listing

-- what a step of an optional value comes from
pub map-origin : {A : Type 0} (step : A → A) (old : Option A) (new : A) →
    option_map step old ≡ Some new → (before : A) × (old ≡ Some before) × (new ≡ step before)
map-origin step None new is = absurd (cc)
map-origin step (Some before) new is = (before, refl, cc)

module _ (history : History) (token : Token) (before after : Folder)
    (standing later : Standing) where
  -- a lock that stays the same was made and held before
  same-number : (number : ℕ) → made_number later.own ≡ made_number standing.own →
      held_number later.own ≡ held_number standing.own →
      CreatedNow token before after standing number ⊎ NumberBefore standing later number
  same-number number made held =
      inr (record { made = λ is. sym made ∙ is; held = λ is. sym held ∙ is })

  -- the event made the lock of this number, or one that is made or held was so before
  pub number-origin : LockStep history token before after standing later → (number : ℕ) →
      CreatedNow token before after standing number ⊎ NumberBefore standing later number
  number-origin (lock_quiet locks own listing) number =
      same-number number (ap made_number own) (ap held_number own)
  number-origin (lock_listed locks own listing) number =
      same-number number (ap made_number own ∙ confirm-made (top before) standing.own)
      (ap held_number own ∙ confirm-held (top before) standing.own)
  number-origin (lock_read lock text stands locks own listing) number =
      same-number number (ap made_number own) (ap held_number own)
  number-origin (lock_watched name found finds locks own listing) number =
      same-number number (ap made_number own) (ap held_number own)
  number-origin (lock_told asked verdict given locks own listing) number =
      same-number number (ap made_number own) (ap held_number own)
  number-origin (lock_tried locks own listing) number =
      same-number number (ap made_number own ∙ tried-made standing.own)
      (ap held_number own ∙ tried-held standing.own)
  number-origin (lock_created lock rule absent added own listing) number =
      cases (lock == number) refl
    where
      created : made_number later.own ≡ Some lock
      created = elim own [ inl made ↦ ap made_number made | inr unsure ↦ ap made_number unsure ]

      cases : (same : Bool) → (lock == number) ≡ same →
          CreatedNow token before after standing number ⊎ NumberBefore standing later number
      cases true same = inl (subst (CreatedNow token before after standing)
          (number-is lock number same) (record { rule = rule; absent = absent; added = added }))
      cases false differs = inr (record {
        made = λ is. absurd (number-differs lock number differs (cc created));
        held = λ is. absurd (number-differs lock number differs
            (cc (created, held-made later.own number is)));
      })
  number-origin (lock_given_up lock text keeps added own listing) number = inr (record {
    made = λ is. ap made_number keeps ∙ (sym (ap made_number own) ∙ is);
    held = λ is. (let freed : None ≡ Some number = sym (ap held_number own) ∙ is in absurd (cc));
  })
  number-origin (lock_removed lock rule taken own listing) number =
      same-number number (ap made_number own) (ap held_number own)

  -- a lock that was made stays the one
  pub made-stays : LockStep history token before after standing later → (number : ℕ) →
      made_number standing.own ≡ Some number → made_number later.own ≡ Some number
  made-stays (lock_quiet locks own listing) number is = ap made_number own ∙ is
  made-stays (lock_listed locks own listing) number is =
      ap made_number own ∙ (confirm-made (top before) standing.own ∙ is)
  made-stays (lock_read lock text stands locks own listing) number is = ap made_number own ∙ is
  made-stays (lock_watched name found finds locks own listing) number is =
      ap made_number own ∙ is
  made-stays (lock_told asked verdict given locks own listing) number is =
      ap made_number own ∙ is
  made-stays (lock_tried locks own listing) number is =
      ap made_number own ∙ (tried-made standing.own ∙ is)
  made-stays (lock_created lock rule absent added own listing) number is =
      let none : None ≡ Some number = sym (ap made_number rule.first) ∙ is in absurd (cc)
  made-stays (lock_given_up lock text keeps added own listing) number is =
      ap made_number own ∙ (sym (ap made_number keeps) ∙ is)
  made-stays (lock_removed lock rule taken own listing) number is = ap made_number own ∙ is

  -- a session that has made no lock had made none
  pub unmade-before : LockStep history token before after standing later →
      made_number later.own ≡ None → made_number standing.own ≡ None
  unmade-before step unmade = cases (made_number standing.own) refl
    where
      cases : (made : Option ℕ) → made_number standing.own ≡ made → made ≡ None
      cases None is = refl
      cases (Some number) is =
          let made : None ≡ Some number = sym unmade ∙ made-stays step number is in absurd (cc)

  -- a keeper after the event was so before, or became it now
  pub kept-origin : LockStep history token before after standing later → (number : ℕ) →
      later.own ≡ lock_kept number →
      (standing.own ≡ lock_kept number) ⊎ KeptNow before after standing later number
  kept-origin (lock_quiet locks own listing) number is = inl (sym own ∙ is)
  kept-origin (lock_listed locks own listing) number is =
      elim (confirm-kept (top before) standing.own number (sym own ∙ is)) [
        | inl kept ↦ inl kept
        | inr now ↦
            inr (record { made = now.0; is_top = now.1; locks = locks; keeps = is })
      ]
  kept-origin (lock_read lock text stands locks own listing) number is = inl (sym own ∙ is)
  kept-origin (lock_watched name found finds locks own listing) number is = inl (sym own ∙ is)
  kept-origin (lock_told asked verdict given locks own listing) number is = inl (sym own ∙ is)
  kept-origin (lock_tried locks own listing) number is =
      inl (tried-kept standing.own number (sym own ∙ is))
  kept-origin (lock_created lock rule absent added own listing) number is =
      elim own [
        | inl made ↦ (let differ : lock_made lock ≡ lock_kept number = sym made ∙ is in absurd (cc))
        | inr unsure ↦
            (let differ : lock_unsure lock ≡ lock_kept number = sym unsure ∙ is in absurd (cc))
      ]
  kept-origin (lock_given_up lock text keeps added own listing) number is =
      let differ : lock_freed lock ≡ lock_kept number = sym own ∙ is in absurd (cc)
  kept-origin (lock_removed lock rule taken own listing) number is = inl (sym own ∙ is)

  -- a number that a session keeps or kept was so before the event, or it became keeper now
  pub kept-number-origin : LockStep history token before after standing later → (number : ℕ) →
      kept_number later.own ≡ Some number →
      (kept_number standing.own ≡ Some number) ⊎ KeptNow before after standing later number
  kept-number-origin (lock_quiet locks own listing) number is = inl (sym (ap kept_number own) ∙ is)
  kept-number-origin (lock_listed locks own listing) number is =
      elim (confirm-number (top before) standing.own number (sym (ap kept_number own) ∙ is)) [
        | inl kept ↦ inl kept
        | inr now ↦
            inr (record { made = now.0; is_top = now.1; locks = locks; keeps = own ∙ now.2 })
      ]
  kept-number-origin (lock_read lock text stands locks own listing) number is =
      inl (sym (ap kept_number own) ∙ is)
  kept-number-origin (lock_watched name found finds locks own listing) number is =
      inl (sym (ap kept_number own) ∙ is)
  kept-number-origin (lock_told asked verdict given locks own listing) number is =
      inl (sym (ap kept_number own) ∙ is)
  kept-number-origin (lock_tried locks own listing) number is =
      inl (sym (ap kept_number own ∙ tried-number standing.own) ∙ is)
  kept-number-origin (lock_created lock rule absent added own listing) number is =
      elim own [
        | inl made ↦ (let none : None ≡ Some number = sym (ap kept_number made) ∙ is in absurd (cc))
        | inr unsure ↦
            (let none : None ≡ Some number = sym (ap kept_number unsure) ∙ is in absurd (cc))
      ]
  kept-number-origin (lock_given_up lock text keeps added own listing) number is =
      inl (ap kept_number keeps ∙ (sym (ap kept_number own) ∙ is))
  kept-number-origin (lock_removed lock rule taken own listing) number is =
      inl (sym (ap kept_number own) ∙ is)

  -- a number that a session keeps or kept stays so
  pub kept-number-stays : LockStep history token before after standing later → (number : ℕ) →
      kept_number standing.own ≡ Some number → kept_number later.own ≡ Some number
  kept-number-stays (lock_quiet locks own listing) number is = ap kept_number own ∙ is
  kept-number-stays (lock_listed locks own listing) number is =
      ap kept_number own ∙ confirm-stays (top before) standing.own number is
  kept-number-stays (lock_read lock text stands locks own listing) number is =
      ap kept_number own ∙ is
  kept-number-stays (lock_watched name found finds locks own listing) number is =
      ap kept_number own ∙ is
  kept-number-stays (lock_told asked verdict given locks own listing) number is =
      ap kept_number own ∙ is
  kept-number-stays (lock_tried locks own listing) number is =
      ap kept_number own ∙ (tried-number standing.own ∙ is)
  kept-number-stays (lock_created lock rule absent added own listing) number is =
      let none : None ≡ Some number = sym (ap kept_number rule.first) ∙ is in absurd (cc)
  kept-number-stays (lock_given_up lock text keeps added own listing) number is =
      ap kept_number own ∙ (sym (ap kept_number keeps) ∙ is)
  kept-number-stays (lock_removed lock rule taken own listing) number is =
      ap kept_number own ∙ is

  -- a listing that is known stays known
  same-listing : (listing : Listing) → later.listing ≡ standing.listing →
      later.listing ≡ Some listing → ListingOrigin history before standing listing
  same-listing listing same is = known_before listing (sym same ∙ is) refl refl refl

  -- so does one with a note that leaves its numbers, its texts and whether it is judged
  noted-listing : (note : Listing → Listing) →
      ((one : Listing) → ((note one).numbers ≡ one.numbers) × ((note one).texts ≡ one.texts)
      × ((note one).is_judged ≡ one.is_judged)) → (listing : Listing) →
      later.listing ≡ option_map note standing.listing →
      later.listing ≡ Some listing → ListingOrigin history before standing listing
  noted-listing note leaves listing same is =
      let old = map-origin note standing.listing listing (sym same ∙ is) in
      let left = leaves old.0 in
      known_before old.0 old.1 (ap (λ (one : Listing). one.numbers) old.2 ∙ left.0)
      (ap (λ (one : Listing). one.texts) old.2 ∙ left.1)
      (ap (λ (one : Listing). one.is_judged) old.2 ∙ left.2)

  -- so does one on which a create came
  created-listing : (listing : Listing) →
      later.listing ≡ option_map before_create standing.listing →
      later.listing ≡ Some listing → ListingOrigin history before standing listing
  created-listing = noted-listing before_create (λ one. (refl, refl, refl))

  -- and one of which a lock was removed
  removed-listing : (number : ℕ) (listing : Listing) →
      (later.listing ≡ standing.listing)
      ⊎ (later.listing ≡ option_map (with_removed number) standing.listing) →
      later.listing ≡ Some listing → ListingOrigin history before standing listing
  removed-listing number listing (inl same) is = same-listing listing same is
  removed-listing number listing (inr noted) is =
      noted-listing (with_removed number) (λ one. (refl, refl, refl)) listing noted is

  -- where the listing after the event comes from
  pub listing-origin : LockStep history token before after standing later → (listing : Listing) →
      later.listing ≡ Some listing → ListingOrigin history before standing listing
  listing-origin (lock_quiet locks own same) listing is = same-listing listing same is
  listing-origin (lock_listed locks own same) listing is = listed_now (cc)
  listing-origin (lock_read lock text stands locks own same) listing is =
      let old = map-origin (text_step lock text) standing.listing listing (sym same ∙ is) in
      cases old.0 old.1 (lock == greatest old.0.numbers) refl old.2
    where
      cases : (old : Listing) → standing.listing ≡ Some old → (greatest_read : Bool) →
          (lock == greatest old.numbers) ≡ greatest_read →
          listing ≡ (if greatest_read then with_text text old else old) →
          ListingOrigin history before standing listing
      cases old known true same new =
          text_now old text known
          (ap (λ (number : ℕ). before.file (Lock number))
          (sym (number-is lock (greatest old.numbers) same)) ∙ stands) new
      cases old known false differs new =
          known_before old known (ap (λ (one : Listing). one.numbers) new)
          (ap (λ (one : Listing). one.texts) new) (ap (λ (one : Listing). one.is_judged) new)
  listing-origin (lock_watched name found finds locks own same) listing is =
      noted-listing (watch_step name found) (watch-leaves name found) listing same is
  listing-origin (lock_told asked verdict given locks own same) listing is =
      let old = map-origin (verdict_step asked verdict) standing.listing listing (sym same ∙ is) in
      cases verdict given old.0 old.1 old.2
    where
      cases : (verdict : Verdict) → GivesVerdict history asked verdict → (old : Listing) →
          standing.listing ≡ Some old → listing ≡ verdict_step asked verdict old →
          ListingOrigin history before standing listing
      cases Alive given old known new =
          known_before old known (ap (λ (one : Listing). one.numbers) new)
          (ap (λ (one : Listing). one.texts) new) (ap (λ (one : Listing). one.is_judged) new)
      cases Dead dead old known new = told_now old asked known dead new
  listing-origin (lock_tried locks own same) listing is = created-listing listing same is
  listing-origin (lock_created lock rule absent added own same) listing is =
      created-listing listing same is
  listing-origin (lock_given_up lock text keeps added own same) listing is =
      same-listing listing same is
  listing-origin (lock_removed lock rule taken own same) listing is =
      removed-listing lock listing same is
