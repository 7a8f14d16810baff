-- Claims: what stands within texts stands no more often than in them (`within-times`); a sort of lines leaves each text as
-- often as it stood (`arranged-times`), and so those of the lines that edits leave (`arranged-untouched`).
-- Way: the texts of lines are those of other text and those of records (`split-times`), of which a sort changes the order.
use Rattle.std.proofs.Common.{◌≡◌, ℕ, suc, ◌+◌, ◌≤◌, Bool, true, false, List, [], ◌∷◌, length, map, refl, sym, ◌∙◌, ap, arith}
use Rattle.std.specs.Prelude.{Option, Some, None, cond, filter, nat_le, bytes_eq, is_some, option_map, if◌then◌else◌}
use Rattle.std.specs.List.{cons_option}
use Rattle.std.proofs.lemmas.List.Sums.{sum_by-cons}
use Rattle.std.proofs.lemmas.Slice.Eq.{bytes_eq-Decides}
use Rattle.acct_text.specs.Lines.{Line, texts_of}
use Rattle.account_model.specs.Format.{Format}
use Rattle.account_model.specs.Edits.{Edit, Keyed, keyed_texts, insert_by_key, sorted_by_key, in_places}
use Rattle.account_model.specs.RecordEdits.{other_texts, unless_read}
use Rattle.account_model.specs.TouchedLines.{is_untouched, untouched_texts, AreAmong, ends, skips, keeps}
use Rattle.account_model.specs.DeedLines.{times}

-- one text more, where it stands in front
abbrev pub once : List ℕ → List ℕ → ℕ
once text other = cond (bytes_eq text other) 1 0

-- the times of one more
pub times-more :
    (text other : List ℕ) (texts : List (List ℕ))
    → times text (other ∷ texts) ≡ once text other + times text texts
times-more text other texts = sum_by-cons (λ one. cond (bytes_eq text one) 1 0) other texts

-- what stands within texts stands no more often
pub within-times :
    (text : List ℕ) {few many : List (List ℕ)}
    → AreAmong few many
    → times text few ≤ times text many
within-times text ends = omega arith
within-times text (skips {many} {text = other} within) =
    let more = within-times text within
    in omega (arith, more, times-more text other many)
within-times text (keeps {few} {many} {text = other} within) =
    let more = within-times text within
    in omega (arith, more, times-more text other few, times-more text other many)

-- ---- Sorted texts

-- the texts that are sorted
abbrev texts_in : List Keyed → List (List ℕ)
texts_in keyed = map (λ one. one.text) keyed

module _ (text : List ℕ) where
  -- a text in its place or behind
  insert-by :
      (new old : Keyed) (rest : List Keyed) (first : Bool)
      → times text (texts_in (insert_by_key new rest))
      ≡ once text new.text + times text (texts_in rest)
      → times text (texts_in (if first then new ∷ old ∷ rest else old ∷ insert_by_key new rest))
      ≡ once text new.text + times text (texts_in (old ∷ rest))
  insert-by new old rest true later = times-more text new.text (texts_in (old ∷ rest))
  insert-by new old rest false later =
      omega (
        arith,
        later,
        times-more text old.text (texts_in (insert_by_key new rest)),
        times-more text old.text (texts_in rest),
      )

  -- a text in its place
  insert-times :
      (new : Keyed) (keyed : List Keyed)
      → times text (texts_in (insert_by_key new keyed))
      ≡ once text new.text + times text (texts_in keyed)
  insert-times new [] = times-more text new.text []
  insert-times new (old ∷ rest) =
      insert-by new old rest (nat_le new.key old.key) (insert-times new rest)

  -- all in their places
  sorted-times :
      (keyed : List Keyed)
      → times text (texts_in (sorted_by_key keyed)) ≡ times text (texts_in keyed)
  sorted-times [] = refl
  sorted-times (first ∷ rest) =
      insert-times first (sorted_by_key rest)
      ∙ ap (λ n. once text first.text + n) (sorted-times rest)
      ∙ sym (times-more text first.text (texts_in rest))

-- a sort has as many texts, in their places or behind
insert-long-by :
    (new old : Keyed) (rest : List Keyed) (first : Bool)
    → length (insert_by_key new rest) ≡ suc (length rest)
    → length (if first then new ∷ old ∷ rest else old ∷ insert_by_key new rest)
    ≡ suc (length (old ∷ rest))
insert-long-by new old rest true later = refl
insert-long-by new old rest false later = ap suc later

insert-long :
    (new : Keyed) (keyed : List Keyed) → length (insert_by_key new keyed) ≡ suc (length keyed)
insert-long new [] = refl
insert-long new (old ∷ rest) =
    insert-long-by new old rest (nat_le new.key old.key) (insert-long new rest)

sorted-long : (keyed : List Keyed) → length (sorted_by_key keyed) ≡ length keyed
sorted-long [] = refl
sorted-long (first ∷ rest) = insert-long first (sorted_by_key rest) ∙ ap suc (sorted-long rest)

-- ---- Texts in the places of records

module _ {R : Type 0} (format : Format R) (key : R → ℕ) (text : List ℕ) where
  -- the texts of a line that may be a record and of others
  split-by :
      (line : Line) (o : Option R) (others keyed lines : ℕ) (other : List (List ℕ))
      (more : List Keyed)
      → times text other ≡ others
      → times text (texts_in more) ≡ keyed
      → lines ≡ others + keyed
      → once text line.text + lines
      ≡ times text (cons_option (unless_read o line.text) other)
      + times text
      (texts_in (cons_option (option_map (λ r. record { key = key r; text = line.text }) o) more))
  split-by line None others keyed lines other more one two are =
      omega (arith, one, two, are, times-more text line.text other)
  split-by line (Some r) others keyed lines other more one two are =
      omega (arith, one, two, are, times-more text line.text (texts_in more))

  -- all texts are those of other text and those of records
  split-times :
      (lines : List Line)
      → times text (texts_of lines)
      ≡ times text (other_texts format lines) + times text (texts_in (keyed_texts format key lines))
  split-times [] = refl
  split-times (line ∷ lines) =
      times-more text line.text (texts_of lines)
      ∙ split-by line (format.read line.text) _ _ (times text (texts_of lines))
      (other_texts format lines) (keyed_texts format key lines) refl refl (split-times lines)

  -- no texts for no records
  none-left :
      (lines : List Line)
      → 0 ≡ length (keyed_texts format key lines)
      → times text (texts_of lines) ≡ times text (other_texts format lines) + 0
  none-left lines none =
      split-times lines
      ∙ ap (λ n. times text (other_texts format lines) + n)
      (no-times (keyed_texts format key lines) none)
    where
      no-times : (keyed : List Keyed) → 0 ≡ length keyed → times text (texts_in keyed) ≡ 0
      no-times [] none = refl
      no-times (one ∷ keyed) none = absurd (omega (arith, none))

  -- a place that may be a record's
  placed-by :
      (line : Line) (rest : List Line) (first : Keyed) (keyed : List Keyed) (o : Option R)
      → format.read line.text ≡ o
      → suc (length keyed) ≡ length (cons_option
      (option_map (λ r. record { key = key r; text = line.text }) o)
      (keyed_texts format key rest))
      → ((some : List Keyed) → length some ≡ length (keyed_texts format key rest)
      → times text (texts_of (in_places format some rest))
      ≡ times text (other_texts format rest) + times text (texts_in some))
      → times text (texts_of (if is_some o
      then record line { text = first.text } ∷ in_places format keyed rest
      else line ∷ in_places format (first ∷ keyed) rest))
      ≡ times text (cons_option (unless_read o line.text) (other_texts format rest))
      + times text (texts_in (first ∷ keyed))
  placed-by line rest first keyed None read long later =
      omega (
        arith,
        later (first ∷ keyed) long,
        times-more text line.text (texts_of (in_places format (first ∷ keyed) rest)),
        times-more text line.text (other_texts format rest),
      )
  placed-by line rest first keyed (Some r) read long later =
      let same : length keyed ≡ length (keyed_texts format key rest) = omega (arith, long)
      in omega (
        arith,
        later keyed same,
        times-more text first.text (texts_of (in_places format keyed rest)),
        times-more text first.text (texts_in keyed),
      )

  -- texts in the places of as many records
  placed-times :
      (lines : List Line) (keyed : List Keyed)
      → length keyed ≡ length (keyed_texts format key lines)
      → times text (texts_of (in_places format keyed lines))
      ≡ times text (other_texts format lines) + times text (texts_in keyed)
  placed-times [] [] long = refl
  placed-times [] (first ∷ keyed) long = absurd (omega (arith, long))
  placed-times (line ∷ rest) [] long = none-left (line ∷ rest) long
  placed-times (line ∷ rest) (first ∷ keyed) long =
      placed-by line rest first keyed (format.read line.text) refl long
      (λ some is. placed-times rest some is)

  -- a sort leaves each text as often as it stood
  pub arranged-times :
      (lines : List Line)
      → times text (texts_of
      (in_places format (sorted_by_key (keyed_texts format key lines)) lines))
      ≡ times text (texts_of lines)
  arranged-times lines =
      placed-times lines (sorted_by_key (keyed_texts format key lines))
      (sorted-long (keyed_texts format key lines))
      ∙ ap (λ n. times text (other_texts format lines) + n)
      (sorted-times text (keyed_texts format key lines))
      ∙ sym (split-times lines)

-- ---- Lines that edits leave

-- whether a line of this text is untouched
abbrev text_untouched : {R : Type 0} → Format R → List (Edit R) → List ℕ → Bool
text_untouched format edits text =
    is_untouched format edits (record { text = text; ended = true })

module _ {R : Type 0} (format : Format R) (edits : List (Edit R)) (text : List ℕ) where
  -- one line more, by whether it is untouched and whether it has the text
  untouched-by :
      (line : Line) (lines : List Line) (untouched has : Bool)
      → is_untouched format edits line ≡ untouched
      → bytes_eq text line.text ≡ has
      → times text (untouched_texts format edits lines)
      ≡ cond (text_untouched format edits text) (times text (texts_of lines)) 0
      → times text (texts_of (cond untouched (line ∷ filter (is_untouched format edits) lines)
      (filter (is_untouched format edits) lines)))
      ≡ cond (text_untouched format edits text) (cond has 1 0 + times text (texts_of lines)) 0
  untouched-by line lines untouched true is has later =
      let here : text_untouched format edits text ≡ untouched =
      ap (text_untouched format edits) ((bytes_eq-Decides text line.text).0 has) ∙ is
      in same-text untouched is here (later ∙ ap (λ b. cond b (times text (texts_of lines)) 0) here)
    where
      same-text :
          (untouched : Bool)
          → is_untouched format edits line ≡ untouched
          → text_untouched format edits text ≡ untouched
          → times text (untouched_texts format edits lines)
          ≡ cond untouched (times text (texts_of lines)) 0
          → times text (texts_of (cond untouched (line ∷ filter (is_untouched format edits) lines)
          (filter (is_untouched format edits) lines)))
          ≡ cond (text_untouched format edits text) (1 + times text (texts_of lines)) 0
      same-text true is here later =
          times-more text line.text (untouched_texts format edits lines)
          ∙ ap (λ b. cond b 1 0 + times text (untouched_texts format edits lines)) has
          ∙ ap (λ n. 1 + n) later
          ∙ ap (λ b. cond b (1 + times text (texts_of lines)) 0) (sym here)
      same-text false is here later =
          later ∙ ap (λ b. cond b (1 + times text (texts_of lines)) 0) (sym here)
  untouched-by line lines true false is has later =
      let front : 0 + times text (untouched_texts format edits lines)
      ≡ times text (untouched_texts format edits lines) = omega arith
      in let none : times text (texts_of lines) ≡ 0 + times text (texts_of lines) = omega arith
      in times-more text line.text (untouched_texts format edits lines)
      ∙ ap (λ b. cond b 1 0 + times text (untouched_texts format edits lines)) has
      ∙ front ∙ later ∙ ap (λ n. cond (text_untouched format edits text) n 0) none
  untouched-by line lines false false is has later =
      let none : times text (texts_of lines) ≡ 0 + times text (texts_of lines) = omega arith
      in later ∙ ap (λ n. cond (text_untouched format edits text) n 0) none

  -- a text stands among them as often as it stood, or not at all
  untouched-times :
      (lines : List Line)
      → times text (untouched_texts format edits lines)
      ≡ cond (text_untouched format edits text) (times text (texts_of lines)) 0
  untouched-times [] = nothing (text_untouched format edits text)
    where
      nothing : (untouched : Bool) → times text [] ≡ cond untouched (times text []) 0
      nothing true = refl
      nothing false = refl
  untouched-times (line ∷ lines) =
      untouched-by line lines (is_untouched format edits line) (bytes_eq text line.text) refl refl
      (untouched-times lines)
      ∙ ap (λ n. cond (text_untouched format edits text) n 0)
      (sym (times-more text line.text (texts_of lines)))

  -- and a sort leaves that so
  pub arranged-untouched :
      (key : R → ℕ) (lines : List Line)
      → times text (untouched_texts format edits
      (in_places format (sorted_by_key (keyed_texts format key lines)) lines))
      ≡ times text (untouched_texts format edits lines)
  arranged-untouched key lines =
      untouched-times (in_places format (sorted_by_key (keyed_texts format key lines)) lines)
      ∙ ap (λ n. cond (text_untouched format edits text) n 0) (arranged-times format key text lines)
      ∙ sym (untouched-times lines)
