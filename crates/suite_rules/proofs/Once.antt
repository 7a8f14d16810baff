-- Claim: a session commits at most once (`committed-once`). Way: each committed session has called its
-- commit, so one that hasn't committed nothing (`uncommitted-none`); the rule of commits asks that it
-- wasn't called, so a done commit is the only one of its session (`Once`).
use Rattle.std.proofs.Common.{◌≡◌, ◌≢◌, refl, sym, ap, ap₂, ◌∙◌, ◌⊎◌, inl, inr, ℕ, Bool, true, false, cond, List, [], ◌∷◌, ◌++◌, Option, Some, None, append-nil, bytes_eq}
use Rattle.std.specs.List.{AllByRecursion}
use Rattle.acct_outside.specs.declared.Name.TheVariants.{Intent, IntentStage}
use Rattle.acct_outside.specs.Tokens.{Token}
use Rattle.acct_outside.specs.Folder.{Folder}
use Rattle.acct_outside.specs.Calls.{Command, Call, Answer, CallResult, begins, renames, done, failed, died, effect_of}
use Rattle.acct_outside.specs.History.{Event, History}
use Rattle.acct_outside.specs.Life.{Life, unbegun, life, MayCall}
use Rattle.acct_outside.specs.declared.CommitStage.TheVariants.{Before, Unsure, Committed}
use Rattle.suite_rules.specs.Deeds.{SuiteDeeds}
use Rattle.suite_rules.specs.OwnLock.{kept_number, made_number}
use Rattle.suite_rules.specs.Standing.{Standing, calls_commit, command_step, commit_step, standing}
use Rattle.suite_rules.specs.Rules.{KeeperRule, CommitRule, moves_free, Permits, commit_rule, move_rule}
use Rattle.suite_rules.specs.Lawful.{KeepsRulesOrNone, IsNext, Lawful, goes_on}
use Rattle.suite_rules.specs.Committed.{Commitment, commits, commitment_of, committed, commitments_of}
use Rattle.suite_rules.specs.Laws.{CommittedOnce}
use Rattle.suite_rules.proofs.Sessions.{token-same, token-other, each, own-standing, other-standing, fresh}
use Rattle.suite_rules.proofs.LockOrigins.{kept-number-stays}
use Rattle.suite_rules.proofs.Keepers.{own-step}
use Rattle.suite_rules.proofs.Commitments.{each-follows}
use Rattle.suite_rules.proofs.Settles.{Committer, file-facts, new-facts}

module _ (token : Token) where
  -- the commitments of two lists together
  of-append : (list more : List Commitment) →
      commitments_of token (list ++ more) ≡ commitments_of token list ++ commitments_of token more
  of-append [] more = refl
  of-append (one ∷ list) more = cases (bytes_eq one.token token) (of-append list more)
    where
      cases : (same : Bool) →
          commitments_of token (list ++ more)
          ≡ commitments_of token list ++ commitments_of token more →
          cond same (one ∷ commitments_of token (list ++ more))
          (commitments_of token (list ++ more))
          ≡ cond same (one ∷ commitments_of token list) (commitments_of token list)
          ++ commitments_of token more
      cases true rest = ap (λ (others : List Commitment). one ∷ others) rest
      cases false rest = rest

  -- none of a list of others' commitments
  of-others : (list : List Commitment) → AllByRecursion (λ one. one.token ≢ token) list →
      commitments_of token list ≡ []
  of-others [] all = refl
  of-others (one ∷ list) all = rw (token-other one.token token all.0) (of-others list all.1)

-- only a session without a begin may begin
begins-unbegun : (before : Life) (command : Command) → MayCall before (begins command) →
    before ≡ unbegun
begins-unbegun unbegun command may = refl
begins-unbegun before command may = absurd may

-- a session that has begun is asked nothing else
command-stays : (deeds : SuiteDeeds) (history : History) (token : Token) (call : Call)
    (result : CallResult (Answer call)) (given : Option Command) →
    KeepsRulesOrNone deeds history token call result → (life token history ≢ unbegun) →
    command_step call result given ≡ given
command-stays deeds history token (begins command) (done answer) given keeps begun =
    absurd (begun (begins-unbegun (life token history) command keeps.life_rule))
command-stays deeds history token _ result given keeps begun = refl

-- the call commits, for the first time
record CommitsNow (deeds : SuiteDeeds) (token : Token) (standing : Standing) (call : Call)
    (result : CallResult (Answer call)) : Type 0 where
  keeper : KeeperRule standing
  rule : CommitRule deeds standing keeper.number
  newly : commit_step call result standing.commit ≡ Committed →
      commits token call (effect_of call result) standing
      ≡ commitment_of token (made_number standing.own) standing.command

-- the call has nothing to do with the commit
record LeavesCommit (token : Token) (standing : Standing) (call : Call)
    (result : CallResult (Answer call)) : Type 0 where
  same : commit_step call result standing.commit ≡ standing.commit
  none : commits token call (effect_of call result) standing ≡ []

module _ (deeds : SuiteDeeds) (token : Token) (standing : Standing) where
  -- a commit that is done commits
  commits-now : (result : CallResult (Unit {0})) → standing.commit ≡ Before →
      commit_step (renames IntentStage Intent) result standing.commit ≡ Committed →
      commits token (renames IntentStage Intent)
      (effect_of (renames IntentStage Intent) result) standing
      ≡ commitment_of token (made_number standing.own) standing.command
  commits-now (done answer) first is = refl
  commits-now (failed effect) first is =
      let called : Unsure ≡ Committed = sym (ap calls_commit first) ∙ is in absurd (cc)
  commits-now (died effect) first is =
      let called : Unsure ≡ Committed = sym (ap calls_commit first) ∙ is in absurd (cc)

  -- a permitted call commits, or has nothing to do with the commit
  permitted-step : (call : Call) (result : CallResult (Answer call)) →
      Permits deeds standing call →
      LeavesCommit token standing call result ⊎ CommitsNow deeds token standing call result
  permitted-step _ result (commit_rule keeper rule) = inr (record {
    keeper = keeper;
    rule = rule;
    newly = commits-now result rule.first;
  })
  permitted-step _ result (move_rule _ _ keeper (moves_free staged)) =
      inl (record { same = refl; none = refl })
  permitted-step _ result rule = inl (record { same = refl; none = refl })

-- so does an event
event-step : (deeds : SuiteDeeds) (history : History) (token : Token) (call : Call)
    (result : CallResult (Answer call)) → KeepsRulesOrNone deeds history token call result →
    LeavesCommit token (standing token history) call result
    ⊎ CommitsNow deeds token (standing token history) call result
event-step deeds history token (begins command) result keeps =
    inl (record { same = refl; none = refl })
event-step deeds history token call result keeps =
    permitted-step deeds token (standing token history) call result keeps.permitted

-- the session has committed once, under its number, what it was asked
pub record Once (history : History) (token : Token) : Type 0 where
  pub number : ℕ
  pub command : Command
  pub kept : kept_number (standing token history).own ≡ Some number
  pub asked : (standing token history).command ≡ Some command
  pub one : commitments_of token (committed history)
      ≡ record { token = token; number = number; command = command } ∷ []

-- one that hasn't called its commit has committed nothing
uncommitted-none : (deeds : SuiteDeeds) (first : Folder) (history : History) →
    Lawful deeds first history → (token : Token) →
    (standing token history).commit ≡ Before →
    commitments_of token (committed history) ≡ []
uncommitted-none deeds first history lawful token uncalled =
    of-others token (committed history)
    (each-follows (Committer history) (λ one. one.token ≢ token) (committed history)
    (λ one committer same. committer.called
    (ap (λ (asked : Token). (standing asked history).commit) same ∙ uncalled))
    (file-facts deeds first history lawful).committers)

module _ (deeds : SuiteDeeds) (first : Folder) (event : Event) (history : History)
    (lawful : Lawful deeds first history) (next : IsNext deeds first history event) where
  -- the commands that the event commits
  abbrev newly : List Commitment
  newly = commits event.token event.call (effect_of event.call event.result)
      (standing event.token history)

  -- they are its session's
  newly-own : (other : Token) → other ≢ event.token → commitments_of other newly ≡ []
  newly-own other differs =
      new-facts deeds first event history lawful next (file-facts deeds first history lawful)
      (λ list. commitments_of other list ≡ []) refl
      (λ keeper command active uncalled is.
      rw (token-other event.token other (λ same. differs (sym same))) refl)

  -- another's commitment stays the one
  other-once : (other : Token) → other ≢ event.token → Once history other →
      Once (event ∷ history) other
  other-once other differs once = record {
    number = once.number;
    command = once.command;
    kept = ap (λ (one : Standing). kept_number one.own) same ∙ once.kept;
    asked = ap (λ (one : Standing). one.command) same ∙ once.asked;
    one = of-append other (committed history) newly
        ∙ (rw (newly-own other differs) (append-nil (commitments_of other (committed history))
        ∙ once.one));
  }
    where
      same : standing other (event ∷ history) ≡ standing other history
      same = other-standing event history other differs

  -- its own session keeps its number
  own-kept : (number : ℕ) → kept_number (standing event.token history).own ≡ Some number →
      kept_number (standing event.token (event ∷ history)).own ≡ Some number
  own-kept = kept-number-stays history event.token _ _ (standing event.token history)
      (standing event.token (event ∷ history)) (own-step deeds first event history next)

  -- its own session, which keeps a number, is asked nothing else
  own-asked : (number : ℕ) (command : Command) →
      kept_number (standing event.token history).own ≡ Some number →
      (standing event.token history).command ≡ Some command →
      (standing event.token (event ∷ history)).command ≡ Some command
  own-asked number command kept asked =
      ap (λ (one : Standing). one.command) (own-standing event history)
      ∙ (command-stays deeds history event.token event.call event.result
      (standing event.token history).command next.keeps begun ∙ asked)
    where
      begun : life event.token history ≢ unbegun
      begun none =
          let unkept : None ≡ Some number =
          sym (ap kept_number (fresh deeds first history lawful event.token none)) ∙ kept in
          cc

  -- what the event commits, where it is the commitment of its session
  own-newly : (number : ℕ) (command : Command) →
      newly ≡ commitment_of event.token (Some number) (Some command) →
      commitments_of event.token newly
      ≡ record { token = event.token; number = number; command = command } ∷ []
  own-newly number command is = rw (is, token-same event.token) refl

  -- its own session's commitment stays the one, or is made now
  own-once : ((standing event.token history).commit ≡ Committed → Once history event.token) →
      (standing event.token (event ∷ history)).commit ≡ Committed →
      Once (event ∷ history) event.token
  own-once before is =
      cases (event-step deeds history event.token event.call event.result next.keeps)
    where
      now : commit_step event.call event.result (standing event.token history).commit ≡ Committed
      now = sym (ap (λ (one : Standing). one.commit) (own-standing event history)) ∙ is

      stays : newly ≡ [] → Once history event.token → Once (event ∷ history) event.token
      stays none once = record {
        number = once.number;
        command = once.command;
        kept = own-kept once.number once.kept;
        asked = own-asked once.number once.command once.kept once.asked;
        one = of-append event.token (committed history) newly
            ∙ (rw none (append-nil (commitments_of event.token (committed history)) ∙ once.one));
      }

      cases : LeavesCommit event.token (standing event.token history) event.call event.result
          ⊎ CommitsNow deeds event.token (standing event.token history) event.call event.result →
          Once (event ∷ history) event.token
      cases (inl leaves) = stays leaves.none (before (sym leaves.same ∙ now))
      cases (inr commits_it) =
          let kept = ap kept_number commits_it.keeper.keeps in
          let asked = commits_it.rule.has_seen.is_asked in
          record {
            number = commits_it.keeper.number;
            command = commits_it.rule.has_seen.command;
            kept = own-kept commits_it.keeper.number kept;
            asked = own-asked commits_it.keeper.number commits_it.rule.has_seen.command kept asked;
            one = of-append event.token (committed history) newly
                ∙ (ap₂ (λ (list more : List Commitment). list ++ more)
                (uncommitted-none deeds first history lawful event.token commits_it.rule.first)
                (own-newly commits_it.keeper.number commits_it.rule.has_seen.command
                (commits_it.newly now
                ∙ ap₂ (λ (number : Option ℕ) (command : Option Command).
                commitment_of event.token number command)
                (ap made_number commits_it.keeper.keeps) asked)));
          }

-- a number that a session keeps or kept stays so after the next event
kept-later : (deeds : SuiteDeeds) (first : Folder) (event : Event) (history : History) →
    Lawful deeds first history → IsNext deeds first history event → (token : Token) (number : ℕ) →
    kept_number (standing token history).own ≡ Some number →
    kept_number (standing token (event ∷ history)).own ≡ Some number
kept-later deeds first event history lawful next token number kept =
    each (λ asked. kept_number (standing asked history).own ≡ Some number →
    kept_number (standing asked (event ∷ history)).own ≡ Some number)
    event.token (own-kept deeds first event history lawful next number)
    (λ other differs. λ is. ap (λ (one : Standing). kept_number one.own)
    (other-standing event history other differs) ∙ is)
    token kept

-- so it does whatever comes later
pub kept-stays : (deeds : SuiteDeeds) (first : Folder) (newer older : History) →
    Lawful deeds first (newer ++ older) → (token : Token) (number : ℕ) →
    kept_number (standing token older).own ≡ Some number →
    kept_number (standing token (newer ++ older)).own ≡ Some number
kept-stays deeds first [] older lawful token number kept = kept
kept-stays deeds first (event ∷ newer) older (goes_on _ _ lawful next) token number kept =
    kept-later deeds first event (newer ++ older) lawful next token number
    (kept-stays deeds first newer older lawful token number kept)

-- a session whose commit was done has committed once
pub once : (deeds : SuiteDeeds) (first : Folder) (history : History) → Lawful deeds first history →
    (token : Token) → (standing token history).commit ≡ Committed → Once history token
once deeds first [] lawful token is = absurd (cc)
once deeds first (event ∷ history) (goes_on _ _ lawful next) token is =
    each (λ asked. ((standing asked history).commit ≡ Committed → Once history asked) →
    (standing asked (event ∷ history)).commit ≡ Committed → Once (event ∷ history) asked)
    event.token (own-once deeds first event history lawful next)
    (λ other differs before now. other-once deeds first event history lawful next other differs
    (before (sym (ap (λ (one : Standing). one.commit)
    (other-standing event history other differs)) ∙ now)))
    token (once deeds first history lawful token) is

-- the law
pub committed-once : CommittedOnce
committed-once = record {
  none = uncommitted-none;
  one = λ deeds first history lawful token is.
      let made = once deeds first history lawful token is in
      made.one ∙ sym (ap₂ (λ (number : Option ℕ) (command : Option Command).
      commitment_of token number command) made.kept made.asked);
}
