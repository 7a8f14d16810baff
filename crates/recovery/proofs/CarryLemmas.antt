-- Claims: each call by which an intent is carried out leads on (`carries-after-write`, `first-staged`,
-- `carries-after-append`, `more-staged`, `carries-after-move`, `none-after-removal`), and is one that the
-- rules permit there (`may-stage`, `may-append`, `may-move`, `may-remove`). Way: none of the calls
-- concerns a lock, so the session keeps its number (`keeps-on`); as it is keeper, its knowledge and what
-- it has staged take their own step (`knows-next`, `staged-next`). A text is staged whole once no piece
-- of it is left (`whole-staged`).
use Rattle.std.proofs.Common.{◌≡◌, ℕ, ◌+◌, ◌-◌, ◌<◌, arith, refl, sym, ap, subst, ◌∙◌, Bool, true, false, ◌||◌, if◌then◌else◌, List, [], ◌∷◌, ◌++◌, length, slice_get, drop, Option, Some, All, append_assoc}
use Rattle.std.specs.Prelude.{IsSomeAnd, is_some, nat_lt}
use Rattle.std.proofs.lemmas.Bool.Decides.{nat_tests}
use Rattle.std.proofs.lemmas.List.{append-nil}
use Rattle.std.proofs.lemmas.List.Elements.{All-push, All-same, All-weaker}
use Rattle.acct_text.specs.declared.Tab.{Tab}
use Rattle.acct_text.specs.Bytes.{Bytes}
use Rattle.acct_text.specs.Tables.{same_table}
use Rattle.acct_outside.specs.declared.Name.TheVariants.{Intent, Staged}
use Rattle.acct_outside.specs.Folder.{with_piece}
use Rattle.acct_outside.specs.Calls.{removes, done}
use Rattle.acct_outside.specs.Pieces.{first_pieces, piece_at, piece_count}
use Rattle.acct_outside.proofs.PieceLemmas.{first_pieces-all, first_pieces-step, piece_at-small}
use Rattle.intent_file.specs.Intent.{Intended, NewTable, is_in_order, listed_in}
use Rattle.intent_file.proofs.Reading.{allowed_parts}
use Rattle.suite_rules.specs.Deeds.{SuiteDeeds}
use Rattle.suite_rules.specs.Knowledge.{Knowledge, Stages, install_step, table_with}
use Rattle.suite_rules.specs.Standing.{Standing, standing_step}
use Rattle.suite_rules.specs.Rules.{KeeperRule, KnowsIntent, Permits, append_rule, staging_rule, install_rule, clear_rule}
use Rattle.suite_rules.specs.Outcomes.{stages, stages_more, installs, pieces_left}
use Rattle.acct_outside.proofs.NameLemmas.{table-same}
use Rattle.suite_rules.proofs.Listed.{first-of, none-of, listed-there, all-in-place}
use Rattle.suite_rules.proofs.KeeperParts.{knows-next, staged-next}
use Rattle.lock_steps.specs.States.{Kept}
use Rattle.lock_steps.specs.Stands.{Keeps, KnowsAnything, KnowsNoneYet}
use Rattle.lock_steps.proofs.KeeperLemmas.{keeps-on, is-keeper}
use Rattle.recovery.specs.Carrying.{Carries, HasStagedFirst}

-- a number that isn't 0 is tested so
pub some-staged : (staged : ℕ) → 0 < staged → nat_lt 0 staged ≡ true
some-staged staged begun = grind (arith, nat_tests, begun)

-- of a text that is staged, as many pieces are left as it has more than are staged
pub left-of : (staged : ℕ) (text : Bytes) → 0 < staged →
    pieces_left staged text ≡ piece_count text - staged
left-of staged text begun =
    ap (λ (is_begun : Bool). if is_begun then piece_count text - staged else 0)
    (some-staged staged begun)

-- once none is left, the first pieces are all of it
pub whole-staged : (staged : ℕ) (text : Bytes) → 0 < staged → pieces_left staged text ≡ 0 →
    first_pieces staged text ≡ text
whole-staged staged text begun none =
    let more : piece_count text - staged ≡ 0 = sym (left-of staged text begun) ∙ none in
    first_pieces-all text staged (omega (arith, more))

module _ (intent : Intended) (keeper : Kept) (left : List NewTable) (stood : Standing)
    (held : Carries intent keeper left stood) where
  -- it keeps its number
  kept : KeeperRule stood
  kept = is-keeper keeper KnowsAnything stood held.keeps

  -- it knows the intent, as the rules ask, whatever it has staged
  abbrev known : (staged : Stages) → KnowsIntent (record stood { staged = staged })
  known staged = record {
    bytes = held.bytes;
    placed = held.placed;
    knows = held.knows;
    intent = intent;
    reads_it = held.reads_it;
  }

  -- ---- The calls with the next of the tables

  module _ (next : NewTable) (is_next : slice_get left 0 ≡ Some next) where
    -- the intent lists the tables that were moved, the next one, and those behind it
    split : intent.tables ≡ held.moved ++ next ∷ drop 1 left
    split = held.lists
        ∙ ap (λ (rest : List NewTable). held.moved ++ rest) (first-of left next is_next)

    -- a write of its bytes leaves the others in place
    pub carries-after-write : (answer : Unit {0}) →
        Carries intent keeper left (standing_step (stages next) (done answer) stood)
    carries-after-write answer = record {
      keeps = keeps-on keeper KnowsAnything KnowsAnything stood
          (standing_step (stages next) (done answer) stood) refl refl held.keeps tt;
      bytes = held.bytes;
      reads_it = held.reads_it;
      placed = held.placed;
      knows = knows-next (stages next) (done answer) stood keeper.number held.keeps.locks.owns
          ∙ held.knows;
      moved = held.moved;
      lists = held.lists;
      in_place = held.in_place;
    }

    -- at the name of that table this is staged
    staged-there : (content : Option Bytes) →
        (if same_table next.table next.table then content else stood.staged (Staged next.table))
        ≡ content
    staged-there content = rw (table-same next.table) refl

    -- what is staged of the first of the tables that are left is staged of this one
    of-next : (written : ℕ) (one : Standing) →
        one.staged (Staged next.table) ≡ Some (first_pieces written next.bytes) →
        HasStagedFirst left written one
    of-next written one staged =
        subst (λ (found : Option NewTable). IsSomeAnd found (λ next.
        one.staged (Staged next.table) ≡ Some (first_pieces written next.bytes))) (sym is_next)
        staged

    -- the other way round
    pub first-is-next : (written : ℕ) (one : Standing) → HasStagedFirst left written one →
        one.staged (Staged next.table) ≡ Some (first_pieces written next.bytes)
    first-is-next written one staged =
        subst (λ (found : Option NewTable). IsSomeAnd found (λ next.
        one.staged (Staged next.table) ≡ Some (first_pieces written next.bytes))) is_next staged

    -- it stages the first piece
    pub first-staged : (answer : Unit {0}) →
        HasStagedFirst left 1 (standing_step (stages next) (done answer) stood)
    first-staged answer =
        of-next 1 (standing_step (stages next) (done answer) stood)
        (ap (λ (staged : Stages). staged (Staged next.table))
        (staged-next (stages next) (done answer) stood keeper.number held.keeps.locks.owns)
        ∙ staged-there (Some (piece_at 0 next.bytes)))

    -- the rules permit that write
    pub may-stage : (deeds : SuiteDeeds) → Permits deeds stood (stages next)
    may-stage deeds =
        staging_rule (Staged next.table) (piece_at 0 next.bytes) kept
        (record { staging = refl; small = piece_at-small next.bytes 0 })

    -- an append of a further piece leaves the others in place
    pub carries-after-append : (place : ℕ) (answer : Unit {0}) →
        Carries intent keeper left (standing_step (stages_more place next) (done answer) stood)
    carries-after-append place answer = record {
      keeps = keeps-on keeper KnowsAnything KnowsAnything stood
          (standing_step (stages_more place next) (done answer) stood) refl refl held.keeps tt;
      bytes = held.bytes;
      reads_it = held.reads_it;
      placed = held.placed;
      knows = knows-next (stages_more place next) (done answer) stood keeper.number
          held.keeps.locks.owns ∙ held.knows;
      moved = held.moved;
      lists = held.lists;
      in_place = held.in_place;
    }

    module _ (written : ℕ) (staged : HasStagedFirst left written stood) where
      -- it stages one piece more
      pub more-staged : (answer : Unit {0}) →
          HasStagedFirst left (written + 1)
          (standing_step (stages_more written next) (done answer) stood)
      more-staged answer =
          of-next (written + 1) (standing_step (stages_more written next) (done answer) stood)
          (ap (λ (one : Stages). one (Staged next.table))
          (staged-next (stages_more written next) (done answer) stood keeper.number
          held.keeps.locks.owns)
          ∙ (staged-there (with_piece (piece_at written next.bytes)
          (stood.staged (Staged next.table)))
          ∙ (ap (with_piece (piece_at written next.bytes))
          (first-is-next written stood staged)
          ∙ ap (λ (text : Bytes). Some text) (sym (first_pieces-step written next.bytes)))))

      -- the rules permit that append
      pub may-append : (deeds : SuiteDeeds) → Permits deeds stood (stages_more written next)
      may-append deeds =
          append_rule (Staged next.table) (piece_at written next.bytes) kept (record {
            rule = record {
              staging = refl;
              small = piece_at-small next.bytes written;
            };
            behind = ap is_some (first-is-next written stood staged);
          })

    -- the tables that were moved are in place, and so is the one that is moved now
    moved-in-place : All (λ new. table_with next.table held.placed new.table ≡ true)
        (held.moved ++ next ∷ [])
    moved-in-place =
        All-push Now held.moved next
        (All-weaker (λ (new : NewTable). held.placed new.table ≡ true) Now
        (λ new is. either (same_table new.table next.table) (held.placed new.table) is)
        held.moved held.in_place)
        (rw (table-same next.table) refl)
      where
        Now : NewTable → Type 0
        Now new = table_with next.table held.placed new.table ≡ true

        either : (same holds : Bool) → holds ≡ true → (same || holds) ≡ true
        either true holds is = refl
        either false holds is = is

    -- a move of the staged bytes puts the table in place
    pub carries-after-move : (answer : Unit {0}) →
        Carries intent keeper (drop 1 left) (standing_step (installs next) (done answer) stood)
    carries-after-move answer = record {
      keeps = keeps-on keeper KnowsAnything KnowsAnything stood
          (standing_step (installs next) (done answer) stood) refl refl held.keeps tt;
      bytes = held.bytes;
      reads_it = held.reads_it;
      placed = table_with next.table held.placed;
      knows = knows-next (installs next) (done answer) stood keeper.number held.keeps.locks.owns
          ∙ (installed next.table stood.knows
          ∙ ap (λ (knew : Knowledge). install_step next.table knew) held.knows);
      moved = held.moved ++ next ∷ [];
      lists = split ∙ sym (append_assoc held.moved (next ∷ []) (drop 1 left));
      in_place = moved-in-place;
    }
      where
        installed : (table : Tab) (knew : Knowledge) →
            (if same_table table table then install_step table knew else knew)
            ≡ install_step table knew
        installed table knew = rw (table-same table) refl

    -- the rules permit that move, wherever all of its bytes are staged
    pub may-install : (deeds : SuiteDeeds) (staged : Stages) →
        staged (Staged next.table) ≡ Some next.bytes →
        Permits deeds (record stood { staged = staged }) (installs next)
    may-install deeds staged whole =
        let order = ap is_in_order (sym split)
        ∙ (allowed_parts intent held.reads_it.allowed).in_order in
        install_rule next.table
        (record { number = keeper.number; keeps = held.keeps.locks.owns }) (record {
          knows = known staged;
          bytes = next.bytes;
          listed = ap (λ (tables : List NewTable). listed_in tables next.table) split
              ∙ listed-there held.moved next (drop 1 left) order;
          staged = whole;
        })

    -- as they are once no piece is left
    pub may-move : (deeds : SuiteDeeds) (written : ℕ) → 0 < written →
        pieces_left written next.bytes ≡ 0 → HasStagedFirst left written stood →
        Permits deeds stood (installs next)
    may-move deeds written begun none staged = may-install deeds stood.staged
        (first-is-next written stood staged
        ∙ ap (λ (text : Bytes). Some text) (whole-staged written next.bytes begun none))

  -- ---- The removal of the intent

  -- the session knows that none stands
  pub none-after-removal : (answer : Unit {0}) →
      Keeps keeper KnowsNoneYet (standing_step (removes Intent) (done answer) stood)
  none-after-removal answer = keeps-on keeper KnowsAnything KnowsNoneYet stood
      (standing_step (removes Intent) (done answer) stood) refl refl held.keeps
      (knows-next (removes Intent) (done answer) stood keeper.number held.keeps.locks.owns)

  -- the rules permit it once no table is left, as all are in place
  pub may-remove : (deeds : SuiteDeeds) → length left ≡ 0 → Permits deeds stood (removes Intent)
  may-remove deeds none =
      let all_moved = held.lists
      ∙ (ap (λ (rest : List NewTable). held.moved ++ rest) (none-of left none)
      ∙ append-nil held.moved) in
      clear_rule kept (record {
        knows = known stood.staged;
        in_place = λ table bytes listed. all-in-place held.placed intent.tables
            (All-same (λ (new : NewTable). held.placed new.table ≡ true)
            intent.tables held.moved all_moved held.in_place)
            table bytes listed;
      })
