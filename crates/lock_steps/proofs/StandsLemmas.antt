-- Claim: each call leads from the standing of its state to that of the next, by one step of the
-- standing. Way: the own lock, the last listing and the knowledge are three parts with a step each,
-- and each lemma takes the parts that its call changes. The lemmas stand in the order of the calls.
use Rattle.std.proofs.Common.{◌≡◌, refl, sym, ap, ap₂, subst, ◌∙◌, ℕ, ◌<◌, Bool, true, false, ◌||◌, ◌==◌, nat_lt, cond, List, [], ◌∷◌, ◌++◌, length, drop, filter, get_or, Option, Some, append_assoc, true≢false, arith}
use Rattle.std.proofs.lemmas.Bool.{cond-true, cond-false}
use Rattle.std.proofs.lemmas.Bool.Decides.{Decides-eqb}
use Rattle.std.specs.Option.{option_map}
use Rattle.acct_text.specs.Bytes.{Bytes}
use Rattle.acct_outside.specs.declared.Name.{Name}
use Rattle.acct_outside.specs.declared.Name.TheVariants.{FreeStage, Lock}
use Rattle.acct_outside.specs.declared.Created.TheVariants.{Done}
use Rattle.acct_outside.specs.declared.Verdict.TheVariants.{Dead}
use Rattle.acct_outside.specs.Tokens.{held_text, free_text}
use Rattle.acct_outside.specs.Folder.{greatest}
use Rattle.acct_outside.specs.Calls.{Call, Answer, CallResult, lists, reads, asks, creates, writes, renames, removes, done, found_bytes}
use Rattle.suite_rules.specs.OwnLock.{OwnLock, lock_made, lock_kept, lock_freed, makes, confirm_step, held_number, freed_at, own_step, has_called_create}
use Rattle.suite_rules.specs.Listing.{Listing, new_listing, with_text, text_step, verdict_step, with_removed, is_held_in}
use Rattle.suite_rules.specs.Knowledge.{Knowledge, knows_step}
use Rattle.suite_rules.specs.Standing.{Standing, standing_step, keeper_part}
use Rattle.suite_rules.specs.Steps.{Work, work}
use Rattle.std.proofs.lemmas.Slice.Eq.{bytes_eq-Decides}
use Rattle.lock_steps.specs.States.{Lister, Asker, Maker, Overtaken, Kept}
use Rattle.lock_steps.specs.LockText.{IsHeldBy}
use Rattle.lock_steps.specs.Stands.{HasNoLock, HasLooked, HasReadHeld, HasJudged, HasMade, WasOvertaken, AreLeft, HasLocks, Keeps, KnowsAnything, HasStagedFree, HasFreed}

-- a number is equal to itself by the test
number-same : (number : ℕ) → (number == number) ≡ true
number-same number = (Decides-eqb number number).1 refl

-- equal numbers are so by the test
number-test : (number other : ℕ) → number ≡ other → (number == other) ≡ true
number-test number other is = (Decides-eqb number other).1 is

-- different numbers are so by the test
number-apart : (number other : ℕ) → (number ≡ other → ⊥) → (number == other) ≡ false
number-apart number other apart = cases (number == other) refl
  where
    cases : (same : Bool) → (number == other) ≡ same → same ≡ false
    cases true is = absurd (apart ((Decides-eqb number other).0 is))
    cases false is = refl

-- one of two tests is passed where the second is
second-passes : (first second : Bool) → second ≡ true → (first || second) ≡ true
second-passes true second is = refl
second-passes false second is = is

-- one of two tests is passed where the first is
first-passes : (first second : Bool) → first ≡ true → (first || second) ≡ true
first-passes true second is = refl
first-passes false second is = absurd (true≢false (sym is))

-- a listing leads from no lock to what was listed
pub looked : (numbers : List ℕ) (seen : Lister) → seen.greatest ≡ greatest numbers →
    (stood : Standing) → HasNoLock stood →
    HasLooked seen (standing_step lists (done numbers) stood)
looked numbers seen is stood held = record {
  owns = ap (λ (own : OwnLock). confirm_step (greatest numbers) own) held;
  listing = new_listing (has_called_create stood.own) numbers;
  listed = refl;
  is_greatest = sym is;
  is_such = λ none. number-test (greatest numbers) 0 (sym is ∙ none);
}

-- where there is no lock, the listing is judged
pub none-judged : (seen : Lister) → seen.greatest ≡ 0 → (stood : Standing) →
    HasLooked seen stood → HasJudged seen stood
none-judged seen none stood held = record {
  owns = held.owns;
  listing = held.listing;
  listed = held.listed;
  is_greatest = held.is_greatest;
  is_such = held.is_such none;
}

-- What a read of the greatest lock adds to the last listing.
module _ (seen : Lister) (text : Bytes) (stood : Standing) (held : HasLooked seen stood) where
  -- its text
  text-listed : option_map (text_step seen.greatest text) stood.listing
      ≡ Some (with_text text held.listing)
  text-listed = ap (λ (listing : Option Listing). option_map (text_step seen.greatest text) listing)
      held.listed
      ∙ ap (λ (listing : Listing). let some : Option Listing = Some listing in some)
      (cond-true (seen.greatest == greatest held.listing.numbers) (with_text text held.listing)
      held.listing
      (number-test seen.greatest (greatest held.listing.numbers) (sym held.is_greatest)))

  -- read as free, it is judged
  pub read-free : text ≡ free_text → (judged : Lister) → judged ≡ seen →
      HasJudged judged (standing_step (reads (Lock seen.greatest)) (done (found_bytes text)) stood)
  read-free is judged same = record {
    owns = held.owns;
    listing = with_text text held.listing;
    listed = text-listed;
    is_greatest = held.is_greatest ∙ ap (λ (lister : Lister). lister.greatest) (sym same);
    is_such = second-passes held.listing.is_judged _ ((bytes_eq-Decides text free_text).1 is);
  }

  -- read as held by a session, that is known
  pub read-held : (asking : Asker) → IsHeldBy text asking.asked → asking.greatest ≡ seen.greatest →
      HasReadHeld asking
      (standing_step (reads (Lock seen.greatest)) (done (found_bytes text)) stood)
  read-held asking is same = record {
    owns = held.owns;
    listing = with_text text held.listing;
    listed = text-listed;
    is_greatest = held.is_greatest ∙ sym same;
    is_such = first-passes _ (is_held_in held.listing.texts asking.asked)
        ((bytes_eq-Decides text (held_text asking.asked)).1 is.is_text);
  }

-- once the session that holds it is told dead, the greatest lock is judged
pub told-dead : (asking : Asker) (judged : Lister) → judged.greatest ≡ asking.greatest →
    (stood : Standing) → HasReadHeld asking stood →
    HasJudged judged (standing_step (asks asking.asked) (done Dead) stood)
told-dead asking judged same stood held = record {
  owns = held.owns;
  listing = verdict_step asking.asked Dead held.listing;
  listed = ap (λ (listing : Option Listing). option_map (verdict_step asking.asked Dead) listing)
      held.listed;
  is_greatest = held.is_greatest ∙ sym same;
  is_such = second-passes held.listing.is_judged (is_held_in held.listing.texts asking.asked)
      held.is_such;
}

-- a done create makes the lock of its number
pub made : (number : ℕ) (judged : Lister) (claimed : Maker) → claimed.number ≡ number →
    (stood : Standing) → HasJudged judged stood →
    HasMade claimed (standing_step (creates number) (done Done) stood)
made number judged claimed is stood held =
    ap (λ (own : OwnLock). makes (lock_made number) own) held.owns ∙ ap lock_made (sym is)

-- What the second listing makes of the own lock.
module _ (claimed : Maker) (numbers : List ℕ) (stood : Standing)
    (held : HasMade claimed stood) where
  -- it was made by a create that came before
  follows : has_called_create stood.own ≡ true
  follows = ap has_called_create held

  -- the own lock after the listing
  own-listed : confirm_step (greatest numbers) stood.own
      ≡ cond (greatest numbers == claimed.number) (lock_kept claimed.number)
      (lock_made claimed.number)
  own-listed = ap (λ (own : OwnLock). confirm_step (greatest numbers) own) held

  -- as the greatest, it is kept
  pub kept : (keeper : Kept) → greatest numbers ≡ claimed.number →
      keeper.number ≡ claimed.number →
      keeper.lower ≡ filter (λ other. nat_lt other claimed.number) numbers →
      Keeps keeper KnowsAnything (standing_step lists (done numbers) stood)
  kept keeper is_greatest number lower = record {
    locks = record {
      owns = own-listed
          ∙ (cond-true (greatest numbers == claimed.number) (lock_kept claimed.number)
          (lock_made claimed.number) (number-test (greatest numbers) claimed.number is_greatest)
          ∙ ap lock_kept (sym number));
      listing = new_listing (has_called_create stood.own) numbers;
      listed = refl;
      is_greatest = is_greatest ∙ sym number;
      is_such = (
        follows,
        subst (λ (bound : ℕ). filter (λ other. nat_lt other bound) numbers ≡ keeper.lower)
            (sym number) (sym lower),
      );
    };
    knows = tt;
  }

  -- below a greater one, it was overtaken
  pub overtaken : (loser : Overtaken) → claimed.number < greatest numbers →
      loser.number ≡ claimed.number → loser.greatest ≡ greatest numbers →
      WasOvertaken loser (standing_step lists (done numbers) stood)
  overtaken loser above number top = record {
    owns = own-listed
        ∙ (cond-false (greatest numbers == claimed.number) (lock_kept claimed.number)
        (lock_made claimed.number)
        (number-apart (greatest numbers) claimed.number (λ same. omega (arith, same)))
        ∙ ap lock_made (sym number));
    listing = new_listing (has_called_create stood.own) numbers;
    listed = refl;
    is_greatest = sym top;
    is_such = follows;
  }

-- what a keeper alone changes is changed, where the session was keeper
pub kept-part : {A : Type 0} (number : ℕ) (own later : OwnLock) (begun changed same : A) →
    own ≡ lock_kept number → keeper_part own later begun changed same ≡ changed
kept-part number own later begun changed same is = rw is refl

-- the first of those left goes behind those removed
first-removed : (removed lower : List ℕ) → 0 < length lower →
    removed ++ lower ≡ (removed ++ get_or lower 0 0 ∷ []) ++ drop 1 lower
first-removed removed [] some = absurd (omega arith)
first-removed removed (first ∷ lower) some = sym (append_assoc removed (first ∷ []) lower)

-- What a keeper's removal of a lock leaves.
module _ (keeper : Kept) (Knows : Knowledge → Type 0) (number : ℕ) (stood : Standing)
    (held : Keeps keeper Knows stood) where
  -- its work, whatever the removal answered
  pub removal-leaves : (result : CallResult (Answer (removes (Lock number)))) →
      work (standing_step (removes (Lock number)) result stood) ≡ work stood
  removal-leaves result = ap (λ (knows : Knowledge). let left : Work = record {
    command = stood.command;
    knows = knows;
    commit = stood.commit;
  } in left)
      (kept-part keeper.number stood.own stood.own _ _ stood.knows held.locks.owns)

  -- its lock and its knowledge, with one lower lock less where it was the first of them
  pub cleaned : 0 < length keeper.lower → number ≡ get_or keeper.lower 0 0 → (next : Kept) →
      next.number ≡ keeper.number → next.lower ≡ drop 1 keeper.lower →
      Keeps next Knows (standing_step (removes (Lock number)) (done tt) stood)
  cleaned some first next same lower =
      let listed = held.locks.listing in
      record {
        locks = record {
          owns = held.locks.owns ∙ ap lock_kept (sym same);
          listing = with_removed number listed;
          listed = ap (option_map (with_removed number)) held.locks.listed;
          is_greatest = held.locks.is_greatest ∙ sym same;
          is_such = (
            held.locks.is_such.0,
            subst (λ (bound : ℕ). AreLeft bound (with_removed number listed) next.lower) (sym same)
                (held.locks.is_such.1 ∙ (first-removed listed.removed keeper.lower some
                ∙ ap₂ (λ (one : ℕ) (rest : List ℕ). (listed.removed ++ one ∷ []) ++ rest)
                (sym first) (sym lower))),
          );
        };
        knows = subst Knows
            (sym (kept-part keeper.number stood.own stood.own _ _ stood.knows held.locks.owns))
            held.knows;
      }

-- a list without elements is empty
no-elements : (list : List ℕ) → length list ≡ 0 → list ≡ []
no-elements [] none = refl
no-elements (first ∷ list) none = absurd (cc none)

-- What a keeper's write of the free text does.
module _ (keeper : Kept) (Knows : Knowledge → Type 0) (stood : Standing)
    (held : Keeps keeper Knows stood) where
  -- it leaves its work, whatever the write answered
  pub write-leaves : (result : CallResult (Answer (writes FreeStage free_text))) →
      work (standing_step (writes FreeStage free_text) result stood) ≡ work stood
  write-leaves result = ap (λ (knows : Knowledge). let left : Work = record {
    command = stood.command;
    knows = knows;
    commit = stood.commit;
  } in left)
      (kept-part keeper.number stood.own stood.own _ _ stood.knows held.locks.owns)

  -- done, it stages the text, where no lower lock is left
  pub staged-free : length keeper.lower ≡ 0 → (freeing : Maker) →
      freeing.number ≡ keeper.number →
      HasStagedFree freeing (standing_step (writes FreeStage free_text) (done tt) stood)
  staged-free none freeing same = record {
    locks = subst (λ (number : ℕ). HasLocks (lock_kept number) number []
        (standing_step (writes FreeStage free_text) (done tt) stood)) (sym same) (record {
          owns = held.locks.owns;
          listing = held.locks.listing;
          listed = held.locks.listed;
          is_greatest = held.locks.is_greatest;
          is_such = (
            held.locks.is_such.0,
            subst (AreLeft keeper.number held.locks.listing) (no-elements keeper.lower none)
                held.locks.is_such.1,
          );
        });
    staged = ap (λ (staged : Name → Option Bytes). staged FreeStage)
        (kept-part keeper.number stood.own stood.own _ _ stood.staged held.locks.owns);
  }

-- What the move of the free text does.
module _ (freeing : Maker) (stood : Standing) (held : HasStagedFree freeing stood) where
  -- the call
  abbrev move : Call
  move = renames FreeStage (Lock freeing.number)

  -- it leaves what is known, whatever it answered
  knows-left : (result : CallResult (Answer move)) →
      knows_step stood.staged move result stood.knows ≡ stood.knows
  knows-left (done answer) = refl
  knows-left result = refl

  -- it leaves its work, whatever it answered
  pub move-leaves : (result : CallResult (Answer move)) →
      work (standing_step move result stood) ≡ work stood
  move-leaves result = ap (λ (knows : Knowledge). let left : Work = record {
    command = stood.command;
    knows = knows;
    commit = stood.commit;
  } in left)
      (kept-part freeing.number stood.own (own_step move result stood.own) _ _ stood.knows
      held.locks.owns
      ∙ knows-left result)

  -- done, it frees the lock
  pub freed : HasFreed freeing.number (standing_step move (done tt) stood)
  freed = record {
    owns = ap (λ (own : OwnLock). freed_at freeing.number (held_number own) own) held.locks.owns
        ∙ cond-true (freeing.number == freeing.number) (lock_freed freeing.number)
        (lock_kept freeing.number) (number-same freeing.number);
    listing = held.locks.listing;
    listed = held.locks.listed;
    is_greatest = held.locks.is_greatest;
    is_such = held.locks.is_such;
  }
