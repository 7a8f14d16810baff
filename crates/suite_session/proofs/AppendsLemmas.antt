-- Claims: what each step leaves of the appends of its texts: the write of a first piece as many
-- (`begun-same`), an append one fewer (`appended-fewer`), and the move of a whole text no more
-- (`moved-most`); so do the steps of a walk (`walked-appends`). Six tables at most have 1,530 together
-- (`tables-most`). Way: a table has at most 256 pieces.
use Rattle.std.proofs.Common.{◌≡◌, inl, inr, refl, sym, ap, subst, ◌∙◌, ℕ, ◌+◌, ◌-◌, ◌*◌, ◌<◌, ◌≤◌, Bool, true, false, nat_lt, nat_le, if◌then◌else◌, List, [], ◌∷◌, length, map, drop, slice_get, Some, All, arith, rules}
use Rattle.std.specs.Prelude.{option_map, unwrap_or}
use Rattle.std.proofs.lemmas.Bool.{and_parts, cases_Bool}
use Rattle.std.proofs.lemmas.Bool.Decides.{nat_tests}
use Rattle.std.proofs.lemmas.List.{drop-drop}
use Rattle.std.proofs.lemmas.List.Elements.{All-cons, All-head, All-nil, All-tail}
use Rattle.acct_text.specs.Bytes.{Bytes}
use Rattle.acct_text.specs.Limits.{table_limit}
use Rattle.acct_outside.specs.Pieces.{piece_count}
use Rattle.intent_file.specs.Intent.{NewTable, is_within_limit}
use Rattle.intent_file.proofs.SizeLemmas.{table-pieces}
use Rattle.suite_rules.specs.Outcomes.{pieces_left}
use Rattle.suite_rules.proofs.Listed.{first-of}
use Rattle.recovery.proofs.CarryLemmas.{left-of, some-staged}
use Rattle.commit_steps.specs.States.{Walker, append_on, changed, has_staged, next_table, step_on, steps_left, tables_left}
use Rattle.commit_steps.proofs.InstallLemmas.{first-left, step-staged, step-unstaged}
use Rattle.suite_session.specs.Left.{new_texts, text_appends, texts_appends}

-- ---- One text

-- once a piece is staged, as many appends are left as pieces
text-left : (staged : ℕ) (text : Bytes) → 0 < staged →
    text_appends staged text ≡ pieces_left staged text
text-left staged text begun =
    ap (λ (is_begun : Bool). piece_count text - (if is_begun then staged else 1))
    (some-staged staged begun)
    ∙ sym (left-of staged text begun)

-- where a piece is left, one is staged
pub begun-left : (staged : ℕ) (text : Bytes) → 0 < pieces_left staged text → 0 < staged
begun-left staged text some = cases (nat_lt 0 staged) refl some
  where
    cases : (begun : Bool) → nat_lt 0 staged ≡ begun →
        0 < (if begun then piece_count text - staged else 0) → 0 < staged
    cases true is left = grind (arith, nat_tests, is)
    cases false is left = absurd (omega (arith, left))

-- ---- Several texts

-- the write of a first piece leaves as many appends
pub begun-same : (texts : List Bytes) → texts_appends 1 texts ≡ texts_appends 0 texts
begun-same [] = refl
begun-same (text ∷ texts) = refl

-- an append leaves one fewer
pub appended-fewer : (staged : ℕ) (text : Bytes) (texts : List Bytes) → 0 < staged →
    0 < pieces_left staged text →
    texts_appends (staged + 1) (text ∷ texts) < texts_appends staged (text ∷ texts)
appended-fewer staged text texts begun some =
    let now = text-left staged text begun in
    let left = left-of staged text begun in
    let next = text-left (staged + 1) text (omega arith) in
    let less = left-of (staged + 1) text (omega arith) in
    omega (arith, now, left, next, less, some)

-- the move of a text leaves no more
pub moved-most : (staged : ℕ) (text : Bytes) (texts : List Bytes) →
    texts_appends 0 texts ≤ texts_appends staged (text ∷ texts)
moved-most staged text texts = omega arith

-- ---- The bounds

-- so many texts, each of a table, have 255 appends each
pub texts-most : (texts : List Bytes) → All (λ text. length text ≤ table_limit) texts →
    texts_appends 0 texts ≤ 255 * length texts
texts-most [] all = omega arith
texts-most (text ∷ texts) all =
    let Small : Bytes → Type 0 = λ text. length text ≤ table_limit in
    let here = table-pieces text (All-head Small text texts all) in
    let rest = texts-most texts (All-tail Small text texts all) in
    omega (arith, here, rest)

-- those of six tables at most
pub tables-most : (texts : List Bytes) → All (λ text. length text ≤ table_limit) texts →
    length texts ≤ 6 → texts_appends 0 texts ≤ 1530
tables-most texts all few = let most = texts-most texts all in omega (arith, most, few)

-- ---- The tables that an intent lists

-- each is within its limit
pub listed-small : (tables : List NewTable) → is_within_limit tables ≡ true →
    All (λ text. length text ≤ table_limit) (new_texts tables)
listed-small [] within = All-nil (λ (text : Bytes). length text ≤ table_limit)
listed-small (new ∷ tables) within =
    let both = and_parts (nat_le (length new.bytes) table_limit) (is_within_limit tables) within in
    All-cons (λ (text : Bytes). length text ≤ table_limit) new.bytes (new_texts tables)
    (least (length new.bytes) both.0) (listed-small tables both.1)
  where
    least : (size : ℕ) → nat_le size table_limit ≡ true → size ≤ table_limit
    least size is = grind (arith, nat_tests)

-- where a piece of the first is left, one of it is staged
pub listed-begun : (staged : ℕ) (tables : List NewTable) →
    0 < unwrap_or (option_map (λ one. pieces_left staged one.bytes) (slice_get tables 0)) 0 →
    0 < staged
listed-begun staged [] some = absurd (search (arith, rules, some))
listed-begun staged (new ∷ tables) some = begun-left staged new.bytes some

-- an append for the first leaves one fewer
pub listed-fewer : (staged : ℕ) (tables : List NewTable) → 0 < staged →
    0 < unwrap_or (option_map (λ one. pieces_left staged one.bytes) (slice_get tables 0)) 0 →
    texts_appends (staged + 1) (new_texts tables) < texts_appends staged (new_texts tables)
listed-fewer staged [] begun some = absurd (search (arith, rules, some))
listed-fewer staged (new ∷ tables) begun some =
    appended-fewer staged new.bytes (new_texts tables) begun some

-- its move leaves no more
pub listed-most : (staged : ℕ) (tables : List NewTable) → 0 < length tables →
    texts_appends 0 (new_texts (drop 1 tables)) ≤ texts_appends staged (new_texts tables)
listed-most staged [] some = absurd (omega (arith, some))
listed-most staged (new ∷ tables) some = moved-most staged new.bytes (new_texts tables)

-- ---- A walk over the tables that differ

module _ (bytes_of : NewTable → Bytes) (walker : Walker) (next : NewTable)
    (is_next : next_table walker ≡ Some next) where
  -- the texts of the tables that aren't done
  abbrev texts : List NewTable → List Bytes
  texts tables = map bytes_of tables

  -- the first is that of the table at the place
  texts-are : texts (tables_left walker) ≡ bytes_of next ∷ texts (drop 1 (tables_left walker))
  texts-are = ap texts (first-of (tables_left walker) next (first-left walker next is_next))

  -- an append leaves one fewer
  pub walk-appends : 0 < walker.staged → 0 < pieces_left walker.staged (bytes_of next) →
      texts_appends (walker.staged + 1) (texts (tables_left walker))
      < texts_appends walker.staged (texts (tables_left walker))
  walk-appends begun some =
      subst (λ (some_texts : List Bytes).
      texts_appends (walker.staged + 1) some_texts < texts_appends walker.staged some_texts)
      (sym texts-are)
      (appended-fewer walker.staged (bytes_of next)
      (texts (drop 1 (tables_left walker))) begun some)

  -- from a table to the next no more are left
  moved-on : texts_appends 0 (texts (drop (walker.place + 1) (changed walker.change)))
      ≤ texts_appends walker.staged (texts (tables_left walker))
  moved-on =
      subst (λ (tables : List NewTable).
      texts_appends 0 (texts tables) ≤ texts_appends walker.staged (texts (tables_left walker)))
      (drop-drop 1 walker.place (changed walker.change))
      (subst (λ (some_texts : List Bytes).
      texts_appends 0 (texts (drop 1 (tables_left walker)))
      ≤ texts_appends walker.staged some_texts) (sym texts-are)
      (moved-most walker.staged (bytes_of next) (texts (drop 1 (tables_left walker)))))

  -- so a step leaves no more
  pub walked-appends :
      texts_appends (step_on walker).staged (texts (tables_left (step_on walker)))
      ≤ texts_appends walker.staged (texts (tables_left walker))
  walked-appends = elim (cases_Bool (has_staged walker)) [
    | inl staged ↦
        subst (λ (one : Walker). texts_appends one.staged (texts (tables_left one))
        ≤ texts_appends walker.staged (texts (tables_left walker)))
        (sym (step-staged walker staged)) moved-on
    | inr unstaged ↦
        let none : walker.staged ≡ 0 = none-staged walker.staged unstaged in
        let same = begun-same (texts (tables_left walker)) in
        subst (λ (one : Walker). texts_appends one.staged (texts (tables_left one))
        ≤ texts_appends walker.staged (texts (tables_left walker)))
        (sym (step-unstaged walker unstaged))
        (subst (λ (staged : ℕ). texts_appends 1 (texts (tables_left walker))
        ≤ texts_appends staged (texts (tables_left walker))) (sym none)
        (omega (arith, same)))
  ]
    where
      none-staged : (staged : ℕ) → nat_lt 0 staged ≡ false → staged ≡ 0
      none-staged staged is = grind (arith, nat_tests, is)

-- an append leaves as many steps
pub added-steps : (walker : Walker) → 0 < walker.staged →
    steps_left (append_on walker) ≡ steps_left walker
added-steps walker begun =
    ap (λ (staged : Bool).
    2 * (length (changed walker.change) - walker.place) - (if staged then 1 else 0))
    (some-staged (walker.staged + 1) (omega arith) ∙ sym (some-staged walker.staged begun))
