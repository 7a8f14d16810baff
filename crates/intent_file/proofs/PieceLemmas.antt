-- Claim: the pieces of an intent join to its text, and none is too large (`intent-in-pieces`). Way: lines
-- and tables in turn join to the text (`turns-join`), and each text joins from its pieces. For the
-- search of a piece: where it stands among those of a text and of the texts behind it
-- (`piece-found`, `piece-passed`), as lines and tables are gone over in turn (`turn-at`, `turn-end`).
use Rattle.std.proofs.Common.{◌≡◌, refl, sym, ap, ap₂, ◌∙◌, ℕ, zero, suc, ◌+◌, ◌<◌, ◌≤◌, List, [], ◌∷◌, ◌++◌, length, get_or, drop, Option, Some, Result, Ok, Err, Bor, codes, decimal, true, arith, append-nil, append_assoc, length-append}
use Rattle.std.specs.List.{All, concat, flat_map, sum_by}
use Rattle.std.specs.Prelude.{slice_get, IfOk, IfErr}
use Rattle.std.specs.Option.{option_copied}
use Rattle.std.specs.Result.{result_ok}
use Rattle.std.proofs.lemmas.List.{drop_more, drop_all, nil_from_length}
use Rattle.std.proofs.lemmas.List.FromFn.{length-map-range_with_len, get_or-map-range_with_len}
use Rattle.std.proofs.lemmas.List.Folds.{concat-append}
use Rattle.std.proofs.lemmas.List.Elements.{All-nil, All-append}
use Rattle.std.proofs.lemmas.List.Sums.{sum_by-cons}
use Rattle.std.proofs.lemmas.Option.{slice_get-get_or}
use Rattle.acct_text.specs.Bytes.{Bytes}
use Rattle.acct_text.specs.Tables.{table_name}
use Rattle.acct_outside.specs.Pieces.{piece_limit, piece_at, piece_count, pieces_of}
use Rattle.acct_outside.proofs.PieceLemmas.{pieces-join}
use Rattle.intent_file.specs.Intent.{NewTable, Intended, header_of, table_parts, end_part, is_allowed}
use Rattle.intent_file.specs.Pieces.{table_line, lines_around, intent_lines, in_turn, IntentInPieces}
use Rattle.intent_file.proofs.Reading.{allowed_parts, at_most_six}

-- The pieces of one text.

-- their number
pub pieces-length : (text : Bytes) → length (pieces_of text) ≡ piece_count text
pieces-length text =
    length-map-range_with_len (λ place. piece_at place text) 0 (piece_count text)

-- the one at a place
pub pieces-get : (text : Bytes) (place : ℕ) → place < piece_count text
    → slice_get (pieces_of text) place ≡ Some (piece_at place text)
pieces-get text place within =
    let size = pieces-length text in
    slice_get-get_or (pieces_of text) place [] (omega (arith, within, size))
    ∙ ap Some (get_or-map-range_with_len (λ place. piece_at place text) 0 (piece_count text) place
    place [] within (omega arith))

-- The pieces of texts.

-- an element of the first of two lists
get-left : {X : Type 0} (xs ys : List X) (place : ℕ) (x : X) → slice_get xs place ≡ Some x
    → slice_get (xs ++ ys) place ≡ Some x
get-left [] ys place x is = absurd (cc)
get-left (first ∷ xs) ys zero x is = is
get-left (first ∷ xs) ys (suc place) x is = get-left xs ys place x is

-- an element of the second
get-right : {X : Type 0} (xs ys : List X) (place rest : ℕ) → place ≡ length xs + rest
    → slice_get (xs ++ ys) place ≡ slice_get ys rest
get-right [] ys place rest is = ap (slice_get ys) (is ∙ omega arith)
get-right (first ∷ xs) ys zero rest is = absurd (omega (arith, is))
get-right (first ∷ xs) ys (suc place) rest is = get-right xs ys place rest (omega (arith, is))

-- a piece of the first text
pub piece-found : (text : Bytes) (texts : List Bytes) (place : ℕ) (piece : Bytes)
    → slice_get (pieces_of text) place ≡ Some piece
    → slice_get (flat_map pieces_of (text ∷ texts)) place ≡ Some piece
piece-found text texts place piece is =
    get-left (pieces_of text) (flat_map pieces_of texts) place piece is

-- the pieces behind those of the first text
pub piece-passed : (text : Bytes) (texts : List Bytes) (place rest : ℕ)
    → place ≡ length (pieces_of text) + rest
    → slice_get (flat_map pieces_of (text ∷ texts)) place
    ≡ slice_get (flat_map pieces_of texts) rest
piece-passed text texts place rest is =
    get-right (pieces_of text) (flat_map pieces_of texts) place rest is

-- Lines and tables in turn.

-- the next line and its table
pub turn-at : (lines rest : List Bytes) (tables : List NewTable) (place : ℕ) (line : Bytes)
    (new : NewTable) → lines ≡ line ∷ rest → place < length tables
    → new ≡ get_or tables place new
    → in_turn lines (drop place tables)
    ≡ line ∷ new.bytes ∷ in_turn rest (drop (place + 1) tables)
turn-at lines rest tables place line new lines_are listed new_is =
    ap₂ in_turn lines_are (drop_more tables place new listed)
    ∙ ap (λ (one : NewTable). line ∷ one.bytes ∷ in_turn rest (drop (place + 1) tables))
    (sym new_is)

-- a place among the pieces of what is to come, once the next line and its table are named
pub turn-start : (lines rest : List Bytes) (tables listed : List NewTable) (place index : ℕ)
    (line : Bytes) (new : NewTable) (found : Option Bytes) → listed ≡ tables
    → lines ≡ line ∷ rest → index < length listed → new ≡ get_or listed index new
    → slice_get (flat_map pieces_of (in_turn lines (drop index tables))) place ≡ found
    → slice_get (flat_map pieces_of
    (line ∷ new.bytes ∷ in_turn rest (drop (index + 1) tables))) place
    ≡ found
turn-start lines rest tables listed place index line new found are lines_are within new_is is =
    let size = ap length are in
    ap (λ (texts : List Bytes). slice_get (flat_map pieces_of texts) place)
    (sym (turn-at lines rest tables index line new lines_are (omega (arith, within, size))
    (new_is ∙ ap (λ (some : List NewTable). get_or some index new) are)))
    ∙ is

-- the pieces of a last text
pub last-piece : (text : Bytes) (place : ℕ) (result : Result (Bor Bytes) ℕ)
    → IfOk result (λ piece. slice_get (pieces_of text) place ≡ Some piece.now)
    → IfErr result (λ rest. place ≡ length (pieces_of text) + rest)
    → option_copied (result_ok result) ≡ slice_get (flat_map pieces_of (text ∷ [])) place
last-piece text place (Ok piece) found passed = sym (piece-found text [] place piece.now found)
last-piece text place (Err rest) found passed = sym (piece-passed text [] place rest passed)

-- behind the tables the last line is left
pub turn-end : (lines : List Bytes) (tables : List NewTable) (place : ℕ) (line : Bytes)
    → length lines ≡ length (drop place tables) + 1 → length tables ≤ place → (rest : List Bytes)
    → lines ≡ line ∷ rest → in_turn lines (drop place tables) ≡ line ∷ []
turn-end lines tables place line size past rest lines_are =
    let none = drop_all place tables past in
    let one = ap length lines_are in
    let empty = ap length none in
    ap₂ in_turn lines_are none
    ∙ ap (λ (others : List Bytes). line ∷ others)
    (nil_from_length rest (omega (arith, size, one, empty)))

-- there is one line more than tables
pub lines-length : (before : Bytes) (tables : List NewTable)
    → length (lines_around before tables) ≡ length tables + 1
lines-length before [] = omega arith
lines-length before (new ∷ news) =
    let rest = lines-length (codes "\n") news in omega (arith, rest)

-- the lines of an intent are few
pub few-lines : (intent : Intended) → is_allowed intent ≡ true
    → (length (intent_lines intent) ≤ 7) × (length intent.tables ≤ 6)
few-lines intent allowed =
    let most = at_most_six intent.tables (allowed_parts intent allowed).in_order in
    let size = lines-length (header_of intent.version intent.number intent.tables)
    intent.tables in
    (omega (arith, most, size), most)

-- the pieces are those of the lines and those of the tables
pub pieces-counted : (before : Bytes) (tables : List NewTable)
    → length (flat_map pieces_of (in_turn (lines_around before tables) tables))
    ≡ sum_by piece_count (lines_around before tables)
    + sum_by (λ new. piece_count new.bytes) tables
pieces-counted before [] =
    let line = pieces-length (before ++ end_part) in
    let size = length-append (pieces_of (before ++ end_part)) [] in
    omega (arith, line, size)
pieces-counted before (new ∷ news) =
    let line = pieces-length (before ++ table_line new) in
    let table = pieces-length new.bytes in
    let texts : List Bytes = in_turn (lines_around (codes "\n") news) news in
    let both = length-append (pieces_of (before ++ table_line new))
    (pieces_of new.bytes ++ flat_map pieces_of texts) in
    let rest = length-append (pieces_of new.bytes) (flat_map pieces_of texts) in
    let lines = sum_by-cons piece_count (before ++ table_line new)
    (lines_around (codes "\n") news) in
    let tables = sum_by-cons (λ (one : NewTable). piece_count one.bytes) new news in
    let counted = pieces-counted (codes "\n") news in
    omega (arith, line, table, both, rest, lines, tables, counted)

-- The claim.

-- a line and its table, and what follows, without the lines
part-joins : (before name size bytes parts end : Bytes)
    → (before ++ (name ++ (codes " " ++ (size ++ codes "\n"))))
    ++ (bytes ++ (codes "\n" ++ (parts ++ end)))
    ≡ before ++ (((name ++ (codes " " ++ (size ++ (codes "\n" ++ (bytes ++ codes "\n")))))
    ++ parts) ++ end)
part-joins before name size bytes parts end = simp append_assoc refl

-- lines and tables in turn join to the text
turns-join : (before : Bytes) (tables : List NewTable)
    → concat (in_turn (lines_around before tables) tables)
    ≡ before ++ (table_parts tables ++ end_part)
turns-join before [] = append-nil (before ++ end_part)
turns-join before (new ∷ news) =
    ap (λ (rest : Bytes). (before ++ table_line new) ++ (new.bytes ++ rest))
    (turns-join (codes "\n") news)
    ∙ part-joins before (table_name new.table) (decimal (length new.bytes)) new.bytes
    (table_parts news) end_part

-- each text joins from its pieces
texts-join : (texts : List Bytes) → concat (flat_map pieces_of texts) ≡ concat texts
texts-join [] = refl
texts-join (text ∷ texts) =
    concat-append (pieces_of text) (flat_map pieces_of texts)
    ∙ ap₂ (λ (xs ys : Bytes). xs ++ ys) (pieces-join.whole text) (texts-join texts)

-- no piece of the texts is too large
texts-small : (texts : List Bytes)
    → All (λ piece. length piece ≤ piece_limit) (flat_map pieces_of texts)
texts-small [] = All-nil (λ piece. length piece ≤ piece_limit)
texts-small (text ∷ texts) =
    All-append (λ piece. length piece ≤ piece_limit) (pieces_of text) (flat_map pieces_of texts)
    (pieces-join.small text) (texts-small texts)

-- the claim
pub intent-in-pieces : IntentInPieces
intent-in-pieces = record {
  joined = λ intent. texts-join (in_turn (intent_lines intent) intent.tables)
      ∙ turns-join (header_of intent.version intent.number intent.tables) intent.tables;
  small = λ intent. texts-small (in_turn (intent_lines intent) intent.tables);
}
