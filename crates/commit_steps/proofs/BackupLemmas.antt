-- Claims: each call of a backup leads from its standing to the next (`backs-after-write`,
-- `backs-after-append`, `backs-after-move`, `intent-after-write`), and is one that the rules permit
-- (`may-stage-backup`, `may-append-backup`, `may-move-backup`, `may-stage-intent`). Way: the session is keeper, so its knowledge and what it
-- has staged take their own step; a move of the bytes that it saw backs their table up.
use Rattle.std.proofs.Common.{◌≡◌, inl, inr, refl, lit≤, sym, ap, subst, ◌∙◌, ℕ, ◌+◌, ◌-◌, ◌<◌, ◌≤◌, Bool, true, false, if◌then◌else◌, ◌||◌, List, [], ◌∷◌, ◌++◌, length, take, get_or, slice_get, Option, Some, None, All, true≢false, arith, append-nil}
use Rattle.std.specs.Prelude.{IsSome, IsSomeAnd, is_some, option_map, unwrap_or}
use Rattle.std.specs.List.{concat}
use Rattle.std.proofs.lemmas.Bool.{cases_lt}
use Rattle.std.proofs.lemmas.List.{take_all, take_more}
use Rattle.std.proofs.lemmas.List.Folds.{concat-append}
use Rattle.std.proofs.lemmas.Option.{slice_get_past, unwrap_or-slice_get}
use Rattle.std.proofs.lemmas.List.Elements.{All-nil, All-weaker}
use Rattle.acct_text.specs.declared.Tab.{Tab}
use Rattle.acct_text.specs.Bytes.{Bytes}
use Rattle.acct_text.specs.Tables.{same_table}
use Rattle.acct_outside.specs.declared.Name.TheVariants.{Table, Backup, BackupStage, IntentStage}
use Rattle.acct_outside.specs.Folder.{with_piece}
use Rattle.acct_outside.specs.Pieces.{first_pieces, piece_at, piece_count, piece_limit}
use Rattle.acct_outside.specs.Calls.{Call, appends, renames, writes, done}
use Rattle.acct_outside.proofs.PieceLemmas.{first_pieces-step, piece_at-small}
use Rattle.acct_outside.proofs.TokenLemmas.{bytes_eq-self}
use Rattle.intent_file.specs.Intent.{NewTable, Intended, intent_text, ReadsIntent}
use Rattle.intent_file.specs.Pieces.{intent_pieces}
use Rattle.intent_file.proofs.PieceLemmas.{intent-in-pieces}
use Rattle.suite_rules.specs.Deeds.{SuiteDeeds}
use Rattle.suite_rules.specs.Knowledge.{Knowledge, Seen, Stages, knows_none, backup_step, table_with}
use Rattle.suite_rules.specs.Standing.{Standing, standing_step}
use Rattle.suite_rules.specs.Rules.{Permits, staging_rule, append_rule, move_rule, moves_backup}
use Rattle.suite_rules.specs.Outcomes.{pieces_left}
use Rattle.acct_outside.proofs.NameLemmas.{table-same}
use Rattle.suite_rules.proofs.KeeperParts.{knows-next, staged-next}
use Rattle.recovery.proofs.CarryLemmas.{whole-staged}
use Rattle.lock_steps.specs.Stands.{Keeps}
use Rattle.lock_steps.proofs.KeeperLemmas.{keeps-on, is-keeper}
use Rattle.commit_steps.specs.States.{Change, Stager, Walker, append_intent, append_on, backup_pieces, changed, has_staged, intended, intent_left, intent_piece, next_table, old_bytes, old_files, begun_of, step_on, steps_left, walk_of}
use Rattle.commit_steps.specs.Stands.{BacksUp, HasLoaded, HasStagedIntent, KnowsBackups}
use Rattle.commit_steps.specs.Outcomes.{backs_up_more, backup_call}
use Rattle.commit_steps.proofs.TablesLemmas.{with-next, all-done}
use Rattle.commit_steps.proofs.InstallLemmas.{at-next, is-within, staged-some, step-unstaged, step-staged}

-- the call that writes the first piece of the old bytes of a table
abbrev pub stages_backup : Walker → NewTable → Call
stages_backup walker next = writes BackupStage (piece_at 0 (old_bytes walker.change next.table))

-- the call that moves them to its backup
abbrev pub moves_backup_of : NewTable → Call
moves_backup_of next = renames BackupStage (Backup next.table)

-- the call of a backup that stages
pub backup-unstaged : (walker : Walker) (next : NewTable) → has_staged walker ≡ false →
    backup_call walker next ≡ stages_backup walker next
backup-unstaged walker next is = rw is refl

-- the call of a backup that moves
pub backup-staged : (walker : Walker) (next : NewTable) → has_staged walker ≡ true →
    backup_call walker next ≡ moves_backup_of next
backup-staged walker next is = rw is refl

-- what a walker knows, with the tables before its place backed up
abbrev pub KnowsSoFar : Walker → Knowledge → Type 0
KnowsSoFar walker = KnowsBackups walker.change (take walker.place (changed walker.change))

-- a table that stood has its old bytes
old-is : (content : Option Bytes) → IsSome content → content ≡ Some (unwrap_or content [])
old-is (Some bytes) some = refl
old-is None some = absurd (true≢false (sym some))

-- a move of the bytes that were seen backs their table up
moves-seen : (table : Tab) (bytes : Bytes) (staged : Option Bytes) (knows : Knowledge)
    (seen : Seen) → staged ≡ Some bytes → knows ≡ knows_none seen →
    seen.file (Table table) ≡ Some (Some bytes) →
    backup_step table staged knows
    ≡ knows_none (record seen { backed = table_with table seen.backed })
moves-seen table bytes staged knows seen is clean file =
    rw (is, clean, file, bytes_eq-self bytes) refl

-- a session that has loaded backs up from the first table on
pub starts-backing : (change : Change) (stood : Standing) → HasLoaded change.inputs stood →
    BacksUp (walk_of change) stood
starts-backing change stood held = record {
  keeps = keeps-on change.inputs.keeper _ (KnowsSoFar (walk_of change)) stood stood refl refl
      held.keeps (record {
        inputs = held.keeps.knows;
        backed = All-nil (λ (new : NewTable). held.keeps.knows.seen.backed new.table ≡ true);
      });
  uncommitted = held.uncommitted;
  staged = λ is. absurd (true≢false (sym is));
}

-- The calls with the table at the place.
module _ (walker : Walker) (next : NewTable)
    (is_next : slice_get (changed walker.change) walker.place ≡ Some next) where
  -- what is said of its old bytes is said of those of the table at the place
  of-next : (now : Standing) (count : ℕ) →
      now.staged BackupStage ≡ Some (first_pieces count (old_bytes walker.change next.table)) →
      IsSomeAnd (next_table walker) (λ one. now.staged BackupStage
      ≡ Some (first_pieces count (old_bytes walker.change one.table)))
  of-next now count is = subst (λ (found : Option NewTable). IsSomeAnd found (λ one.
      now.staged BackupStage ≡ Some (first_pieces count (old_bytes walker.change one.table))))
      (sym is_next) is

  -- the pieces that are left are those of its old bytes
  pub old-pieces : backup_pieces walker
      ≡ pieces_left walker.staged (old_bytes walker.change next.table)
  old-pieces = ap (λ (found : Option NewTable). unwrap_or (option_map
      (λ one. pieces_left walker.staged (old_bytes walker.change one.table)) found) 0) is_next

  -- where a piece is left, one is staged
  pub begun-backup : 0 < backup_pieces walker → has_staged walker ≡ true
  begun-backup some = cases (has_staged walker) refl
      (subst (λ (count : ℕ). 0 < count) old-pieces some)
    where
      cases : (begun : Bool) → has_staged walker ≡ begun →
          0 < (if begun then piece_count (old_bytes walker.change next.table) - walker.staged
          else 0) →
          has_staged walker ≡ true
      cases true is left = is
      cases false is left = absurd (omega (arith, left))

  -- so many first pieces are staged
  pub staged-old : has_staged walker ≡ true → (stood : Standing) → BacksUp walker stood →
      stood.staged BackupStage
      ≡ Some (first_pieces walker.staged (old_bytes walker.change next.table))
  staged-old staged stood held = at-next (λ (one : NewTable). stood.staged BackupStage
      ≡ Some (first_pieces walker.staged (old_bytes walker.change one.table)))
      (changed walker.change) walker.place next is_next (held.staged staged)

  -- a write of the first piece of its old bytes stages that
  pub backs-after-write : has_staged walker ≡ false → (answer : Unit {0}) (stood : Standing) →
      BacksUp walker stood →
      BacksUp (step_on walker) (standing_step (stages_backup walker next) (done answer) stood)
  backs-after-write unstaged answer stood held =
      let now : Standing = standing_step (stages_backup walker next) (done answer) stood in
      let number = walker.change.inputs.keeper.number in
      subst (λ (other : Walker). BacksUp other now) (sym (step-unstaged walker unstaged)) (record {
        keeps = keeps-on walker.change.inputs.keeper (KnowsSoFar walker) (KnowsSoFar walker)
            stood now refl refl held.keeps
            (subst (KnowsSoFar walker) (sym (knows-next (stages_backup walker next) (done answer)
            stood number held.keeps.locks.owns)) held.keeps.knows);
        uncommitted = held.uncommitted;
        staged = λ is. of-next now 1 (ap (λ (staged : Stages). staged BackupStage)
            (staged-next (stages_backup walker next) (done answer) stood number
            held.keeps.locks.owns));
      })

  -- the rules permit it
  pub may-stage-backup : (deeds : SuiteDeeds) (stood : Standing) → BacksUp walker stood →
      Permits deeds stood (stages_backup walker next)
  may-stage-backup deeds stood held = staging_rule BackupStage
      (piece_at 0 (old_bytes walker.change next.table))
      (is-keeper walker.change.inputs.keeper (KnowsSoFar walker) stood held.keeps)
      (record { staging = refl; small = piece_at-small (old_bytes walker.change next.table) 0 })

  -- an append of the next piece stages that too
  pub backs-after-append : has_staged walker ≡ true → (answer : Unit {0}) (stood : Standing) →
      BacksUp walker stood →
      BacksUp (append_on walker) (standing_step (backs_up_more walker next) (done answer) stood)
  backs-after-append staged answer stood held =
      let call : Call = backs_up_more walker next in
      let now : Standing = standing_step call (done answer) stood in
      let number = walker.change.inputs.keeper.number in
      let old : Bytes = old_bytes walker.change next.table in
      record {
        keeps = keeps-on walker.change.inputs.keeper (KnowsSoFar walker) (KnowsSoFar walker)
            stood now refl refl held.keeps
            (subst (KnowsSoFar walker) (sym (knows-next call (done answer) stood number
            held.keeps.locks.owns)) held.keeps.knows);
        uncommitted = held.uncommitted;
        staged = λ is. of-next now (walker.staged + 1)
            (ap (λ (staged : Stages). staged BackupStage)
            (staged-next call (done answer) stood number held.keeps.locks.owns)
            ∙ (ap (with_piece (piece_at walker.staged old)) (staged-old staged stood held)
            ∙ ap (λ (bytes : Bytes). let some : Option Bytes = Some bytes in some)
            (sym (first_pieces-step walker.staged old))));
      }

  -- the rules permit it
  pub may-append-backup : has_staged walker ≡ true → (deeds : SuiteDeeds) (stood : Standing) →
      BacksUp walker stood → Permits deeds stood (backs_up_more walker next)
  may-append-backup staged deeds stood held = append_rule BackupStage
      (piece_at walker.staged (old_bytes walker.change next.table))
      (is-keeper walker.change.inputs.keeper (KnowsSoFar walker) stood held.keeps)
      (record {
        rule = record {
          staging = refl;
          small = piece_at-small (old_bytes walker.change next.table) walker.staged;
        };
        behind = ap is_some (staged-old staged stood held);
      })

  -- Where the table stood.
  module _ (stands : IsSome (old_files walker.change next.table)) (stood : Standing)
      (held : BacksUp walker stood) where
    -- the session saw these bytes of the table
    saw : held.keeps.knows.inputs.seen.file (Table next.table)
        ≡ Some (Some (old_bytes walker.change next.table))
    saw = held.keeps.knows.inputs.each_table next.table
        ∙ ap (λ (content : Option Bytes). let some : Option (Option Bytes) = Some content in some)
        (old-is (old_files walker.change next.table) stands)

    -- the rules permit a move of them, wherever all are staged
    pub may-back-up : (deeds : SuiteDeeds) (staged : Stages) →
        staged BackupStage ≡ Some (old_bytes walker.change next.table) →
        Permits deeds (record stood { staged = staged }) (moves_backup_of next)
    may-back-up deeds staged whole = move_rule BackupStage (Backup next.table)
        (record { number = walker.change.inputs.keeper.number; keeps = held.keeps.locks.owns })
        (moves_backup next.table (record {
          seen = held.keeps.knows.inputs.seen;
          knows = held.keeps.knows.inputs.clean;
          bytes = old_bytes walker.change next.table;
          is_seen = saw;
          staged = whole;
        }))

  -- What a move of the staged bytes leads to, where the table stood.
  module _ (stands : IsSome (old_files walker.change next.table))
      (staged : has_staged walker ≡ true) (whole : backup_pieces walker ≡ 0) (stood : Standing)
      (held : BacksUp walker stood) where
    -- they are staged
    is-staged : stood.staged BackupStage ≡ Some (old_bytes walker.change next.table)
    is-staged = staged-old staged stood held
        ∙ ap (λ (bytes : Bytes). let some : Option Bytes = Some bytes in some)
        (whole-staged walker.staged (old_bytes walker.change next.table)
        (staged-some walker staged) (sym old-pieces ∙ whole))

    -- one table more is backed up
    more-backed : (backed : Tab → Bool) → All (λ new. backed new.table ≡ true)
        (take walker.place (changed walker.change)) →
        All (λ new. table_with next.table backed new.table ≡ true)
        (take (walker.place + 1) (changed walker.change))
    more-backed backed all = with-next Now (changed walker.change) walker.place next is_next
        (All-weaker (λ (new : NewTable). backed new.table ≡ true) Now
        (λ new is. either (same_table new.table next.table) (backed new.table) is)
        (take walker.place (changed walker.change)) all)
        (rw (table-same next.table) refl)
      where
        Now : NewTable → Type 0
        Now new = table_with next.table backed new.table ≡ true

        either : (same holds : Bool) → holds ≡ true → (same || holds) ≡ true
        either true holds is = refl
        either false holds is = is

    -- the table is backed up
    pub backs-after-move : (answer : Unit {0}) →
        BacksUp (step_on walker) (standing_step (moves_backup_of next) (done answer) stood)
    backs-after-move answer =
        let now : Standing = standing_step (moves_backup_of next) (done answer) stood in
        let number = walker.change.inputs.keeper.number in
        let inputs = held.keeps.knows.inputs in
        let moved : Walker = record walker { place = walker.place + 1; staged = 0 } in
        subst (λ (other : Walker). BacksUp other now) (sym (step-staged walker staged)) (record {
          keeps = keeps-on walker.change.inputs.keeper (KnowsSoFar walker) (KnowsSoFar moved)
              stood now refl refl held.keeps
              (subst (KnowsSoFar moved) (sym (knows-next (moves_backup_of next) (done answer)
              stood number held.keeps.locks.owns)) (record {
                inputs = record {
                  seen = record inputs.seen { backed = table_with next.table inputs.seen.backed };
                  clean = moves-seen next.table (old_bytes walker.change next.table)
                      (stood.staged BackupStage) stood.knows inputs.seen is-staged inputs.clean
                      (saw stands stood held);
                  each_table = inputs.each_table;
                  settings = inputs.settings;
                };
                backed = more-backed inputs.seen.backed held.keeps.knows.backed;
              }));
          uncommitted = held.uncommitted;
          staged = λ is. absurd (true≢false (sym is));
        })

    -- the rules permit it
    pub may-move-backup : (deeds : SuiteDeeds) → Permits deeds stood (moves_backup_of next)
    may-move-backup deeds = may-back-up stands stood held deeds stood.staged is-staged

-- The pieces of the intent.

-- so many of the pieces are one behind the other, and then the next
pieces-step : (pieces : List Bytes) (place : ℕ) → place < length pieces →
    concat (take (place + 1) pieces)
    ≡ concat (take place pieces) ++ unwrap_or (slice_get pieces place) []
pieces-step pieces place within =
    let piece : Bytes = get_or pieces place [] in
    ap concat (take_more pieces place [] within)
    ∙ (concat-append (take place pieces) (piece ∷ [])
    ∙ ap (λ (bytes : Bytes). concat (take place pieces) ++ bytes)
    (append-nil piece ∙ sym (unwrap_or-slice_get pieces place [])))

-- no piece is too large, nor what is past the last
piece-small : (pieces : List Bytes) (place : ℕ) →
    All (λ piece. length piece ≤ piece_limit) pieces →
    length (unwrap_or (slice_get pieces place) []) ≤ piece_limit
piece-small pieces place small = elim (cases_lt place (length pieces)) [
  | inl within ↦ subst (λ (piece : Bytes). length piece ≤ piece_limit)
      (sym (unwrap_or-slice_get pieces place [])) (small place [] within)
  | inr past ↦ subst (λ (found : Option Bytes). length (unwrap_or found []) ≤ piece_limit)
      (sym (slice_get_past pieces place past)) (lit≤ tt)
]

-- a piece of the intent's text is small
pub intent-small : (change : Change) (place : ℕ) →
    length (intent_piece place change) ≤ piece_limit
intent-small change place = piece-small (intent_pieces (intended change)) place
    (intent-in-pieces.small (intended change))

-- the first piece alone
first-piece : (pieces : List Bytes) → 0 < length pieces →
    unwrap_or (slice_get pieces 0) [] ≡ concat (take 1 pieces)
first-piece (piece ∷ pieces) some = sym (append-nil piece)
first-piece [] some = absurd (omega (arith, some))

-- the text of an intent isn't empty, so it has a piece
pub some-piece : (intent : Intended) → 0 < length (intent_pieces intent)
some-piece intent = cases (intent_pieces intent) refl
  where
    cases : (pieces : List Bytes) → intent_pieces intent ≡ pieces → 0 < length pieces
    cases (piece ∷ pieces) is = omega arith
    cases [] is =
        let text = ap length (sym (intent-in-pieces.joined intent) ∙ ap concat is) in
        absurd (omega (arith, text))

-- What the write of the intent's first piece leads to, once no step is left.
module _ (walker : Walker) where
  -- the call
  abbrev pub stages_intent : Call
  stages_intent = writes IntentStage (intent_piece 0 walker.change)

  module _ (answer : Unit {0}) (stood : Standing) (held : BacksUp walker stood) where
    -- all tables are backed up
    pub all-backed-up : steps_left walker ≡ 0 → Keeps walker.change.inputs.keeper
        (KnowsBackups walker.change (changed walker.change))
        (standing_step stages_intent (done answer) stood)
    all-backed-up none =
        let all = all-done walker none (λ staged. is-within
        (λ (next : NewTable). stood.staged BackupStage
        ≡ Some (first_pieces walker.staged (old_bytes walker.change next.table)))
        (changed walker.change) walker.place (held.staged staged)) in
        keeps-on walker.change.inputs.keeper (KnowsSoFar walker)
        (KnowsBackups walker.change (changed walker.change))
        stood (standing_step stages_intent (done answer) stood) refl refl held.keeps
        (subst (KnowsBackups walker.change (changed walker.change))
        (sym (knows-next stages_intent (done answer) stood walker.change.inputs.keeper.number
        held.keeps.locks.owns))
        (subst (λ (tables : List NewTable). KnowsBackups walker.change tables stood.knows)
        all held.keeps.knows))

    -- the piece is staged
    pub first-intent : (standing_step stages_intent (done answer) stood).staged IntentStage
        ≡ Some (concat (take 1 (intent_pieces (intended walker.change))))
    first-intent = ap (λ (staged : Stages). staged IntentStage)
        (staged-next stages_intent (done answer) stood walker.change.inputs.keeper.number
        held.keeps.locks.owns)
        ∙ ap (λ (bytes : Bytes). let some : Option Bytes = Some bytes in some)
        (first-piece (intent_pieces (intended walker.change))
        (some-piece (intended walker.change)))

  -- so the session has staged it, where its intent reads
  pub intent-after-write :
      ReadsIntent (intent_text (intended walker.change)) (intended walker.change) →
      steps_left walker ≡ 0 → (answer : Unit {0}) (stood : Standing) → BacksUp walker stood →
      HasStagedIntent (begun_of walker.change) (standing_step stages_intent (done answer) stood)
  intent-after-write reads_it none answer stood held = record {
    keeps = all-backed-up answer stood held none;
    uncommitted = held.uncommitted;
    reads_it = reads_it;
    staged = first-intent answer stood held;
  }

  -- the rules permit it
  pub may-stage-intent : (deeds : SuiteDeeds) (stood : Standing) → BacksUp walker stood →
      Permits deeds stood stages_intent
  may-stage-intent deeds stood held = staging_rule IntentStage (intent_piece 0 walker.change)
      (is-keeper walker.change.inputs.keeper (KnowsSoFar walker) stood held.keeps)
      (record { staging = refl; small = intent-small walker.change 0 })

-- What the append of a further piece leads to.
module _ (stager : Stager) where
  -- the call
  abbrev pub stages_further : Call
  stages_further = appends IntentStage (intent_piece stager.staged stager.change)

  -- one piece more is staged
  pub intent-after-append : 0 < intent_left stager → (answer : Unit {0}) (stood : Standing) →
      HasStagedIntent stager stood →
      HasStagedIntent (append_intent stager) (standing_step stages_further (done answer) stood)
  intent-after-append some answer stood held =
      let number = stager.change.inputs.keeper.number in
      let pieces : List Bytes = intent_pieces (intended stager.change) in
      record {
        keeps = keeps-on stager.change.inputs.keeper
            (KnowsBackups stager.change (changed stager.change))
            (KnowsBackups stager.change (changed stager.change))
            stood (standing_step stages_further (done answer) stood) refl refl held.keeps
            (subst (KnowsBackups stager.change (changed stager.change))
            (sym (knows-next stages_further (done answer) stood number held.keeps.locks.owns))
            held.keeps.knows);
        uncommitted = held.uncommitted;
        reads_it = held.reads_it;
        staged = ap (λ (staged : Stages). staged IntentStage)
            (staged-next stages_further (done answer) stood number held.keeps.locks.owns)
            ∙ (ap (with_piece (intent_piece stager.staged stager.change)) held.staged
            ∙ ap (λ (bytes : Bytes). let some : Option Bytes = Some bytes in some)
            (sym (pieces-step pieces stager.staged (omega (arith, some)))));
      }

  -- the rules permit it
  pub may-append-intent : (deeds : SuiteDeeds) (stood : Standing) → HasStagedIntent stager stood →
      Permits deeds stood stages_further
  may-append-intent deeds stood held = append_rule IntentStage
      (intent_piece stager.staged stager.change)
      (is-keeper stager.change.inputs.keeper
      (KnowsBackups stager.change (changed stager.change)) stood held.keeps)
      (record {
        rule = record { staging = refl; small = intent-small stager.change stager.staged };
        behind = ap is_some held.staged;
      })

  -- once none is left, the whole text is staged
  pub intent-whole : intent_left stager ≡ 0 → (stood : Standing) → HasStagedIntent stager stood →
      stood.staged IntentStage ≡ Some (intent_text (intended stager.change))
  intent-whole none stood held =
      let pieces : List Bytes = intent_pieces (intended stager.change) in
      held.staged
      ∙ ap (λ (bytes : Bytes). let some : Option Bytes = Some bytes in some)
      (ap concat (take_all stager.staged pieces (omega (arith, none)))
      ∙ intent-in-pieces.joined (intended stager.change))
