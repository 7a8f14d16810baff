-- Claims: behind a change of the records in a place (`changed-kept`), a record put there (`with-kept`)
-- and one that is added (`new-kept`) the cells are kept by an index that was told of it. Way: each text
-- that is put is an old one, or prints a record whose keys the index tells.
use Rattle.std.proofs.Common.{◌≡◌, ◌∙◌, ℕ, ◌<◌, Bool, true, false, List, [], ◌∷◌, refl, sym, ap, subst, inl, inr, Result, Ok, Err, OnOk, OnErr}
use Rattle.std.specs.Prelude.{All, Contains, flat_map, Option, None, Some, if◌then◌else◌}
use Rattle.std.specs.List.{AllByRecursion}
use Rattle.std.proofs.ByRecursion.{All-append, All-weaker}
use Rattle.std.proofs.lemmas.Bool.{or_cases}
use Rattle.std.proofs.lemmas.List.Elements.{All-contains_itself, recursion_from_All}
use Rattle.acct_text.specs.Bytes.{newline}
use Rattle.acct_text.specs.Pieces.{Lacks}
use Rattle.account_model.specs.Edits.Edit.{Become}
use Rattle.account_model.specs.Format.{Format}
use Rattle.account_model.specs.RecordEdits.{IsWrittenEdit}
use Rattle.account_model.specs.Written.{IsWritten}
use Rattle.acct_tables.specs.TableLines.{text_is_named}
use Rattle.line_edits.specs.Naming.{LeavesIt}
use Rattle.acct_tables.specs.Cells.{cell_at, text_added, texts_put}
use Rattle.acct_tables.specs.declared.cell.Cell.{Cell}
use Rattle.acct_tables.specs.declared.key_places.Spot.TheVariants.{At}
use Rattle.acct_tables.specs.KeyPlaces.{NotesOf, Widens, has_key}
use Rattle.table.specs.Keys.{BringsOnly}
use Rattle.account_model.specs.RecordEdits.{TellsSame}
use Rattle.table.specs.Changed.{text_becomes, text_instead, text_put, texts_becoming, texts_with}
use Rattle.table.specs.TableCells.{AreKept, HoldsIn, HoldsOf, IsKeyed}
use Rattle.table.proofs.ChangedTexts.{becoming-all}
use Rattle.table.proofs.KeptCells.{found-sound, found-told, kept-added, kept-noted, kept-put, texts-noted}

-- what is so after a call that made something, and after one that left all, is so
pub either-way :
    {T E X : Type 0} (P : X → Type 0) (result : Result T E) (new made old : X)
    → OnOk result (new ≡ made)
    → OnErr result (new ≡ old)
    → P made
    → P old
    → P new
either-way P (Ok done) new made old is same after before = subst P (sym is) after
either-way P (Err fault) new made old is same after before = subst P (sym same) before

-- two facts of each element are a third
pub both-facts :
    {X : Type 0} (P Q S : X → Type 0)
    → ((x : X) → P x → Q x → S x)
    → (xs : List X)
    → AllByRecursion P xs
    → AllByRecursion Q xs
    → AllByRecursion S xs
both-facts P Q S both [] first second = tt
both-facts P Q S both (x ∷ xs) first second =
    (both x first.0 second.0, both-facts P Q S both xs first.1 second.1)

-- what holds of all that f gives of each element holds of all that it gives
pub flat-all :
    {X Y : Type 0} (P : X → Type 0) (Q : Y → Type 0) (f : X → List Y) (xs : List X)
    → ((x : X) → P x → AllByRecursion Q (f x))
    → AllByRecursion P xs
    → AllByRecursion Q (flat_map f xs)
flat-all P Q f [] gives holds = tt
flat-all P Q f (x ∷ xs) gives holds =
    All-append Q (f x) (flat_map f xs) (gives x holds.0) (flat-all P Q f xs gives holds.1)

module _ {R : Type 0} (format : Format R) where
  -- a text whose record is left stays
  left-text :
      (f : R → List R) (text : List ℕ)
      → TellsSame format
      → LeavesIt format f text
      → texts_becoming format f text ≡ text ∷ []
  left-text f text tells leaves = by (format.read text) leaves
    where
      same-by : (r : R) (same : Bool) → same ≡ true
          → (if same then text else format.print r) ∷ [] ≡ text ∷ []
      same-by r true is = refl
      same-by r false is = absurd cc

      by : (found : Option R)
          → ((r : R) → found ≡ Some r → f r ≡ r ∷ [])
          → (elim found [ None ↦ text ∷ [] | Some r ↦ text_becomes format text r (f r) ])
          ≡ text ∷ []
      by None left = refl
      by (Some r) left =
          ap (text_becomes format text r) (left r refl)
          ∙ same-by r (format.same r r) ((tells r r).1 refl)

  -- texts that a change leaves stay
  pub left-texts :
      (f : R → List R) (texts : List (List ℕ))
      → TellsSame format
      → AllByRecursion (LeavesIt format f) texts
      → AllByRecursion (λ text. texts_becoming format f text ≡ text ∷ []) texts
  left-texts f texts tells leaves =
      All-weaker (LeavesIt format f) (λ text. texts_becoming format f text ≡ text ∷ [])
      (λ text left. left-text f text tells left) texts leaves

  module _ (keys_of : R → List ℕ) (before after : ℕ → Option (List ℕ)) (place : ℕ) where
    -- the index tells of a record that is printed here, and of its keys
    pub printed-told :
        (item : R)
        → IsWritten format item
        → NotesOf (keys_of item) (At place) before after
        → HoldsOf format (IsKeyed keys_of after place) (format.print item)
    printed-told item written notes = λ r reads key has.
        let both : Some item ≡ Some r = sym written.reads ∙ reads in
        let same : r ≡ item = cc in
        notes.noted key place (ap (λ r. has_key key (keys_of r)) (sym same) ∙ has) refl

    -- an added record is told of
    pub new-kept :
        (item : R) (text : List ℕ) (cells : List Cell)
        → IsWritten format item
        → text ≡ format.print item
        → NotesOf (keys_of item) (At place) before after
        → All (λ cell. cell.place < place) cells
        → AreKept format keys_of before cells
        → AreKept format keys_of after (text_added place text cells)
    new-kept item text cells written printed notes behind kept =
        kept-added format keys_of after place text cells
        (subst (Lacks newline) (sym printed) written.one_line)
        (subst (HoldsOf format (IsKeyed keys_of after place)) (sym printed)
        (printed-told item written notes))
        behind
        (kept-noted format keys_of before after cells notes.kept kept)

    module _ (cells : List Cell) (cell : Cell) (kept : AreKept format keys_of before cells)
        (found : cell_at place cells ≡ Some cell) where
      -- the texts in the place are lines
      pub here-lines : AllByRecursion (Lacks newline) cell.texts
      here-lines = (found-sound format keys_of before place cells cell kept found).one_line

      -- and told of
      here-told : Widens before after → HoldsIn format (IsKeyed keys_of after place) cell
      here-told widens =
          texts-noted format keys_of before after place cell.texts widens
          (found-told format keys_of before place cells cell kept found)

      module _ (f : R → List R) (brought : List ℕ) (written : IsWrittenEdit format (Become f))
          (notes : NotesOf brought (At place) before after)
          (brings : BringsOnly keys_of f brought) where
        -- the records that one of the place becomes are told of
        made-told :
            (text : List ℕ) (r : R)
            → Lacks newline text
            → HoldsOf format (IsKeyed keys_of after place) text
            → format.read text ≡ Some r
            → AllByRecursion (λ s. HoldsOf format (IsKeyed keys_of after place) (format.print s))
            (f r)
        made-told text r one_line told reads =
            both-facts (IsWritten format) (Contains (f r))
            (λ s. HoldsOf format (IsKeyed keys_of after place) (format.print s))
            (λ s printed among q again key has.
            let both : Some s ≡ Some q = sym printed.reads ∙ again in
            let same : q ≡ s = cc in
            elim (or_cases (has_key key brought) (has_key key (keys_of r))
            (brings r s among key (ap (λ r. has_key key (keys_of r)) (sym same) ∙ has))) [
              | inl new ↦ notes.noted key place new refl
              | inr old ↦ told r reads key old
            ])
            (f r) (written text r one_line reads)
            (recursion_from_All (Contains (f r)) (f r) (All-contains_itself (f r)))

        -- so the cells are kept
        pub changed-kept :
            (texts : List (List ℕ))
            → texts ≡ flat_map (texts_becoming format f) cell.texts
            → AreKept format keys_of after (texts_put place texts cells)
        changed-kept texts are =
            let made = texts_becoming format f in
            subst (λ texts. AreKept format keys_of after (texts_put place texts cells)) (sym are)
            (kept-put format keys_of after place (flat_map made cell.texts)
            (flat-all (Lacks newline) (Lacks newline) made cell.texts
            (λ text one_line. becoming-all format f (Lacks newline) text one_line
            (λ r reads. All-weaker (IsWritten format) (λ s. Lacks newline (format.print s))
            (λ s printed. printed.one_line) (f r) (written text r one_line reads)))
            here-lines)
            (flat-all
            (λ text. Lacks newline text × HoldsOf format (IsKeyed keys_of after place) text)
            (HoldsOf format (IsKeyed keys_of after place)) made cell.texts
            (λ text both.
            becoming-all format f (HoldsOf format (IsKeyed keys_of after place)) text both.1
            (λ r reads. made-told text r both.0 both.1 reads))
            (both-facts (Lacks newline) (HoldsOf format (IsKeyed keys_of after place))
            (λ text. Lacks newline text × HoldsOf format (IsKeyed keys_of after place) text)
            (λ text one_line told. (one_line, told)) cell.texts here-lines (here-told notes.kept)))
            cells (kept-noted format keys_of before after cells notes.kept kept))

      module _ (item : R) where
        -- what holds of texts and of the record's holds of them with it
        with-all :
            (Q : List ℕ → Type 0)
            → Q (format.print item)
            → (texts : List (List ℕ))
            → AllByRecursion Q texts
            → AllByRecursion Q (texts_with format item texts)
        with-all Q new [] holds = tt
        with-all Q new (text ∷ texts) holds =
            by (with-all Q new texts holds.1) (text_is_named format (format.name item) text)
          where
            instead : (s : R) (same : Bool) → Q (if same then text else format.print item)
            instead s true = holds.0
            instead s false = new

            put : (found : Option R)
                → Q (elim found [ None ↦ text | Some s ↦ text_instead format text s item ])
            put None = holds.0
            put (Some s) = instead s (format.same s item)

            by : AllByRecursion Q (texts_with format item texts)
                → (named : Bool)
                → AllByRecursion Q (if named
                then text_put format item text ∷ texts else text ∷ texts_with format item texts)
            by later true = (put (format.read text), holds.1)
            by later false = (holds.0, later)

        -- so the cells are kept
        pub with-kept :
            (texts : List (List ℕ))
            → IsWritten format item
            → NotesOf (keys_of item) (At place) before after
            → texts ≡ texts_with format item cell.texts
            → AreKept format keys_of after (texts_put place texts cells)
        with-kept texts written notes are =
            subst (λ texts. AreKept format keys_of after (texts_put place texts cells)) (sym are)
            (kept-put format keys_of after place (texts_with format item cell.texts)
            (with-all (Lacks newline) written.one_line cell.texts here-lines)
            (with-all (HoldsOf format (IsKeyed keys_of after place))
            (printed-told item written notes) cell.texts (here-told notes.kept))
            cells (kept-noted format keys_of before after cells notes.kept kept))
