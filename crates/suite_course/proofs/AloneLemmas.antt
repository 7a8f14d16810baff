-- Claim: a session that was keeper and alone since a moment has as its place what was committed by then,
-- so its answer is that on the files as they stood, and it alone changed them (`answers-alone`).
-- Way: it was keeper after that moment (`suffixes`), and since then only its own events committed
-- (`committed-own`); so its place is the whole list of that moment, which settles to the files.
use Rattle.std.proofs.Common.{◌≡◌, ◌⊎◌, refl, sym, ap, ap₂, subst, ◌∙◌, ◌∷◌, ◌++◌, [], ℕ, ◌<◌, true, bytes_eq, List, inl, inr, Option, Some, None, arith}
use Rattle.std.specs.List.{AllByRecursion}
use Rattle.std.proofs.lemmas.List.{append_assoc, append-nil}
use Rattle.std.proofs.lemmas.List.Elements.{filter-append, recursion_from_All}
use Rattle.std.proofs.lemmas.Slice.Eq.{bytes_eq-Decides}
use Rattle.acct_text.specs.Bytes.{Bytes}
use Rattle.acct_text.specs.Contents.{Contents}
use Rattle.acct_outside.specs.declared.Name.TheVariants.{Intent}
use Rattle.acct_outside.specs.Tokens.{Token}
use Rattle.acct_outside.specs.Folder.{Folder, settings_file}
use Rattle.acct_outside.specs.Calls.{Call, Command, Effect, renames, happened, effect_of}
use Rattle.acct_outside.specs.History.{Event, History, after, is_of, own_events}
use Rattle.suite_rules.specs.Deeds.{SuiteDeeds}
use Rattle.suite_rules.specs.OwnLock.{lock_uncalled, lock_kept, kept_number, made_number}
use Rattle.suite_rules.specs.Standing.{Standing, no_standing, standing}
use Rattle.suite_rules.specs.Lawful.{Lawful}
use Rattle.suite_rules.specs.Settled.{settled}
use Rattle.suite_rules.specs.Committed.{Commitment, commitment_of, commits, committed, commitments_of, place, fold_deeds, folded}
use Rattle.suite_rules.proofs.Keepers.{active-runs}
use Rattle.suite_rules.proofs.Places.{places-stay}
use Rattle.suite_rules.proofs.Commitments.{fold-append, place-below}
use Rattle.suite_rules.proofs.Once.{committed-once, kept-stays}
use Rattle.suite_rules.proofs.Own.{own-standing}
use Rattle.suite_rules.proofs.Cut.{lawful-prefix}
use Rattle.suite_rules.proofs.Settles.{file-facts, lawful-settles}
use Rattle.suite_rules.proofs.Whole.{invariant}
use Rattle.suite_answers.specs.declared.answer.Answer.{Answer}
use Rattle.suite_session.specs.Runner.{Question}
use Rattle.suite_session.specs.Answers.{IsAnswerSeen}
use Rattle.suite_session.specs.Deeds.{files_of}
use Rattle.suite_session.specs.Due.{WasKeeper}
use Rattle.suite_session.proofs.GrowsLemmas.{second-empty}
use Rattle.suite_course.specs.Alone.{AnswersAlone, IsAlone}
use Rattle.suite_course.specs.Shows.{IsAnswerAt}

-- ---- Two moments of one history

-- what is added after a moment or another is compared by which is later
pub suffixes : (newer old other older : History) → newer ++ old ≡ other ++ older →
    ((between : History) × (older ≡ between ++ old) × (newer ≡ other ++ between))
    ⊎ ((between : History) × (old ≡ between ++ older))
suffixes newer old [] older is = inl (newer, sym is, refl)
suffixes [] old (event ∷ other) older is = inr (event ∷ other, is)
suffixes (event ∷ newer) old (head ∷ other) older is =
    let tails : newer ++ old ≡ other ++ older = cc is in
    let heads : event ≡ head = cc is in
    elim (suffixes newer old other older tails) [
      | inl later ↦ inl (
        later.0,
        later.1,
        ap₂ (λ (one : Event) (rest : History). one ∷ rest) heads later.2,
      )
      | inr earlier ↦ inr earlier
    ]

-- what holds of all events holds of the later ones
pub all-rest : (P : Event → Type 0) (newer between : History) →
    AllByRecursion P (newer ++ between) →
    AllByRecursion P between
all-rest P [] between all = all
all-rest P (event ∷ newer) between all = all-rest P newer between all.1

-- ---- What a session commits

-- a token is its own
pub same-token : (token : Token) → bytes_eq token token ≡ true
same-token token = (bytes_eq-Decides token token).1 refl

module _ (token : Token) where
  -- a commitment of the session is one of its
  commitment-own : (number : Option ℕ) (command : Option Command) →
      commitments_of token (commitment_of token number command)
      ≡ commitment_of token number command
  commitment-own (Some number) (Some command) = rw (same-token token) refl
  commitment-own None command = refl
  commitment-own (Some number) None = refl

  -- so is what a call of it commits
  commits-own : (call : Call) (effect : Effect) (stood : Standing) →
      commitments_of token (commits token call effect stood) ≡ commits token call effect stood
  commits-own (renames from Intent) happened stood =
      commitment-own (made_number stood.own) stood.command
  commits-own call effect stood = refl

  -- own events add what the session commits, where it had committed nothing
  committed-own : (between old : History) →
      AllByRecursion (λ event. event.token ≡ token) between →
      commitments_of token (committed old) ≡ [] →
      committed (between ++ old)
      ≡ committed old ++ commitments_of token (committed (between ++ old))
  committed-own [] old own none = sym (ap (λ (list : List Commitment). committed old ++ list) none
      ∙ append-nil (committed old))
  committed-own (event ∷ between) old own none =
      ap (λ (list : List Commitment). list ++ added) (committed-own between old own.1 none)
      ∙ (append_assoc (committed old) (commitments_of token earlier) added
      ∙ ap (λ (list : List Commitment). committed old ++ list)
      (sym (filter-append (λ (one : Commitment). bytes_eq one.token token) earlier added
      ∙ ap (λ (list : List Commitment). commitments_of token earlier ++ list) kept)))
    where
      earlier : List Commitment
      earlier = committed (between ++ old)

      added : List Commitment
      added = commits event.token event.call (effect_of event.call event.result)
          (standing event.token (between ++ old))

      kept : commitments_of token added ≡ added
      kept = subst (λ (one : Token). commitments_of token
          (commits one event.call (effect_of event.call event.result)
          (standing one (between ++ old)))
          ≡ commits one event.call (effect_of event.call event.result)
          (standing one (between ++ old))) (sym own.0)
          (commits-own event.call (effect_of event.call event.result)
          (standing token (between ++ old)))

-- ---- Alone

-- who has no events has no standing
pub no-events : (token : Token) (history : History) → own_events token history ≡ [] →
    standing token history ≡ no_standing
no-events token history none = own-standing.same_standing token history
    ∙ ap (λ (events : History). standing token events) none

-- so it is no keeper
no-keeper : (token : Token) (history : History) (number : ℕ) → own_events token history ≡ [] →
    (standing token history).own ≡ lock_kept number → ⊥
no-keeper token history number none keeps =
    let wrong : lock_uncalled ≡ lock_kept number =
    sym (ap (λ (one : Standing). one.own) (no-events token history none)) ∙ keeps in
    absurd (cc wrong)

module _ (deeds : SuiteDeeds) (first : Folder) (history : History)
    (lawful : Lawful deeds first history) (token : Token) (was : WasKeeper token history)
    (old : History) (alone : IsAlone token old history) where
  -- the earlier moment is of a lawful history
  old-lawful : Lawful deeds first old
  old-lawful = lawful-prefix deeds first alone.newer old
      (subst (Lawful deeds first) alone.parts lawful)

  -- it had committed nothing by then
  none-old : commitments_of token (committed old) ≡ []
  none-old = committed-once.none deeds first old old-lawful token
      (ap (λ (one : Standing). one.commit) (no-events token old alone.fresh))

  -- by now it added what it committed
  pub list-now : committed history ≡ committed old ++ commitments_of token (committed history)
  list-now = subst (λ (one : History).
      committed one ≡ committed old ++ commitments_of token (committed one)) (sym alone.parts)
      (committed-own token alone.newer old alone.own none-old)

  -- when it was keeper, that was committed which was at the earlier moment
  keeper-list : committed was.older ≡ committed old
  keeper-list = elim (suffixes alone.newer old was.newer was.older (sym alone.parts ∙ was.parts)) [
    | inl later ↦
        let own : AllByRecursion (λ event. event.token ≡ token) later.0 =
        all-rest (λ event. event.token ≡ token) was.newer later.0
        (subst (AllByRecursion (λ event. event.token ≡ token)) later.2 alone.own) in
        let none : commitments_of token (committed (later.0 ++ old)) ≡ [] =
        subst (λ (one : History). commitments_of token (committed one) ≡ []) later.1
        (committed-once.none deeds first was.older (lawful-prefix deeds first was.newer was.older
        (subst (Lawful deeds first) was.parts lawful)) token was.uncommitted) in
        ap committed later.1
        ∙ (committed-own token later.0 old own none-old
        ∙ (ap (λ (list : List Commitment). committed old ++ list) none
        ∙ append-nil (committed old)))
    | inr earlier ↦
        absurd (no-keeper token was.older was.number
        (second-empty (own_events token earlier.0) (own_events token was.older)
        (sym (filter-append (is_of token) earlier.0 was.older)
        ∙ (ap (λ (one : History). own_events token one) (sym earlier.1) ∙ alone.fresh)))
        was.active.keeps)
  ]

  -- its place is that list
  place-alone : place was.number (committed history) ≡ committed old
  place-alone =
      let whole = subst (Lawful deeds first) was.parts lawful in
      let before = lawful-prefix deeds first was.newer was.older whole in
      let facts = invariant deeds first was.older before in
      let top_is = (facts.keeper_view token was.number was.active).0 in
      ap (λ (one : History). place was.number (committed one)) was.parts
      ∙ (places-stay.stays deeds first was.newer was.older whole was.number (omega (arith, top_is))
      ∙ (place-below was.number (committed was.older)
      (recursion_from_All (λ one. one.number < was.number) (committed was.older)
      (facts.settled_is_fold.below_keeper token was.number (active-runs was.active)
      was.uncommitted))
      ∙ keeper-list))

-- the claim
pub answers-alone : (deeds : SuiteDeeds) (first : Folder) (history : History) →
    Lawful deeds first history → (asked : Question) (token : Token) (given : Answer) (number : ℕ) →
    kept_number (standing token history).own ≡ Some number → WasKeeper token history →
    IsAnswerAt deeds asked first history number given →
    AnswersAlone deeds asked first history token given
answers-alone deeds first history lawful asked token given number kept was at_place old alone =
    let whole = subst (Lawful deeds first) was.parts lawful in
    let kept_was : kept_number (standing token history).own ≡ Some was.number =
    subst (λ (one : History). kept_number (standing token one).own ≡ Some was.number)
    (sym was.parts) (kept-stays deeds first was.newer was.older whole token was.number
    (ap kept_number was.active.keeps)) in
    let numbers : Some number ≡ Some was.number = sym kept ∙ kept_was in
    let same : number ≡ was.number = cc numbers in
    let before = lawful-prefix deeds first alone.newer old
    (subst (Lawful deeds first) alone.parts lawful) in
    let list : place number (committed history) ≡ committed old =
    ap (λ (one : ℕ). place one (committed history)) same
    ∙ place-alone deeds first history lawful token was old alone in
    let then_files : folded deeds first (committed old) ≡ settled (after first old) =
    (λ i table. (sym (lawful-settles.is_fold deeds first old before table)) i) in
    let settings : settings_file first ≡ settings_file (after first old) =
    sym (file-facts deeds first old before).settings in
    let own = commitments_of token (committed history) in
    record {
      is_answer = subst (λ (one : Option Bytes).
          IsAnswerSeen asked (files_of (settled (after first old))) one given) settings
          (subst (λ (one : Contents). IsAnswerSeen asked (files_of one) (settings_file first) given)
          (ap (λ (one : List Commitment). folded deeds first one) list ∙ then_files) at_place);
      settles = λ table. lawful-settles.is_fold deeds first history lawful table
          ∙ (ap (λ (one : List Commitment). folded deeds first one table)
          (list-now deeds first history lawful token was old alone)
          ∙ (ap (λ (files : Contents). files table)
          (fold-append deeds (settings_file first) (settled first) (committed old) own)
          ∙ (ap (λ (files : Contents). fold_deeds deeds (settings_file first) files own table)
          then_files
          ∙ ap (λ (defs : Option Bytes).
          fold_deeds deeds defs (settled (after first old)) own table) settings)));
    }
