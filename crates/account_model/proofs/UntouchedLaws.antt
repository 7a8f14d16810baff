-- Claim: lines that no edit touches stay byte for byte, in their order (`untouched-stay`). Way: what the edits leave
-- untouched, the first edit leaves as lines that the later edits leave untouched (`step-within`).
use Rattle.std.proofs.Common.{◌≡◌, ℕ, Bool, true, false, ◌||◌, not, List, [], ◌∷◌, ◌++◌, map, refl, sym, ◌∙◌, ap, subst}
use Rattle.std.specs.Prelude.{Option, Some, None, cond, filter, flat_map, if◌then◌else◌}
use Rattle.std.specs.List.{AllByRecursion}
use Rattle.acct_text.specs.Lines.{Line, texts_of}
use Rattle.account_model.specs.Format.{Format, records_of, is_named, has_named}
use Rattle.account_model.specs.Edits.{Edit, Become, Add, AddMissing, Put, Arrange, line_becomes, becomes, as_ended, with_line, put_first, edited, edited_by, becoming_touches, touches}
use Rattle.account_model.specs.RecordEdits.{TellsSame}
use Rattle.account_model.specs.TouchedLines.{KeepsOrder, is_untouched, untouched_texts, AreAmong, ends, skips, keeps}

-- ---- Texts within others

-- no text stands within any
within-none : (many : List (List ℕ)) → AreAmong [] many
within-none [] = ends
within-none (text ∷ many) = skips (within-none many)

-- texts stand within themselves
within-itself : (texts : List (List ℕ)) → AreAmong texts texts
within-itself [] = ends
within-itself (text ∷ texts) = keeps (within-itself texts)

-- what stands within texts that stand within others, stands within the others
pub within-within :
    {few some many : List (List ℕ)}
    → AreAmong few some
    → AreAmong some many
    → AreAmong few many
within-within few_some ends = few_some
within-within few_some (skips some_many) = skips (within-within few_some some_many)
within-within (skips few_some) (keeps some_many) = skips (within-within few_some some_many)
within-within (keeps few_some) (keeps some_many) = keeps (within-within few_some some_many)

-- with others in front
within-behind :
    (front : List (List ℕ)) {few many : List (List ℕ)}
    → AreAmong few many
    → AreAmong few (front ++ many)
within-behind [] within = within
within-behind (text ∷ front) within = skips (within-behind front within)

-- two within two
within-both :
    {few many : List (List ℕ)} (few_behind many_behind : List (List ℕ))
    → AreAmong few many
    → AreAmong few_behind many_behind
    → AreAmong (few ++ few_behind) (many ++ many_behind)
within-both few_behind many_behind ends behind = behind
within-both few_behind many_behind (skips within) behind =
    skips (within-both few_behind many_behind within behind)
within-both few_behind many_behind (keeps within) behind =
    keeps (within-both few_behind many_behind within behind)

-- ---- Texts that are kept

-- one more line, or none, in front of both
line-by :
    (few many : Bool) (line : Line) (xs ys : List Line)
    → (few ≡ true → many ≡ true)
    → AreAmong (texts_of xs) (texts_of ys)
    → AreAmong (texts_of (cond few (line ∷ xs) xs)) (texts_of (cond many (line ∷ ys) ys))
line-by true true line xs ys kept within = keeps within
line-by true false line xs ys kept within = let wrong = kept refl in cc
line-by false true line xs ys kept within = skips within
line-by false false line xs ys kept within = within

-- the lines that pass a test are within those that pass a weaker one
pub weaker-within :
    (strong weak : Line → Bool) (lines : List Line)
    → ((line : Line) → strong line ≡ true → weak line ≡ true)
    → AreAmong (texts_of (filter strong lines)) (texts_of (filter weak lines))
weaker-within strong weak [] weaker = ends
weaker-within strong weak (line ∷ lines) weaker =
    line-by (strong line) (weak line) line (filter strong lines) (filter weak lines) (weaker line)
    (weaker-within strong weak lines weaker)

-- the lines that pass a test are within all
pub filter-within :
    (test : Line → Bool) (lines : List Line)
    → AreAmong (texts_of (filter test lines)) (texts_of lines)
filter-within test [] = ends
filter-within test (line ∷ lines) = one (test line) (filter-within test lines)
  where
    one :
        (passes : Bool)
        → AreAmong (texts_of (filter test lines)) (texts_of lines)
        → AreAmong (texts_of (cond passes (line ∷ filter test lines) (filter test lines)))
        (line.text ∷ texts_of lines)
    one true within = keeps within
    one false within = skips within

-- the texts that are kept of two lists of lines
kept-append :
    (test : Line → Bool) (a b : List Line)
    → texts_of (filter test (a ++ b)) ≡ texts_of (filter test a) ++ texts_of (filter test b)
kept-append test [] b = refl
kept-append test (line ∷ a) b = one (test line) (kept-append test a b)
  where
    one :
        (passes : Bool)
        → texts_of (filter test (a ++ b)) ≡ texts_of (filter test a) ++ texts_of (filter test b)
        → texts_of (cond passes (line ∷ filter test (a ++ b)) (filter test (a ++ b)))
        ≡ texts_of (cond passes (line ∷ filter test a) (filter test a))
        ++ texts_of (filter test b)
    one true e = ap (λ rest. line.text ∷ rest) e
    one false e = e

-- ---- Each edit

-- one line that passes
line-alone :
    (passes : Bool) (line : Line)
    → passes ≡ true
    → AreAmong (line.text ∷ []) (texts_of (cond passes (line ∷ []) []))
line-alone true line is = keeps ends
line-alone false line is = cc

-- a line of a record that isn't touched is untouched
record-untouched :
    {R : Type 0} (format : Format R) (edits : List (Edit R)) (line : Line) (r : R)
    → format.read line.text ≡ Some r
    → touches format edits r ≡ false
    → is_untouched format edits line ≡ true
record-untouched format edits line r read untouched = rw (read, is_untouched) (ap not untouched)

-- and so is other text
other-untouched :
    {R : Type 0} (format : Format R) (edits : List (Edit R)) (line : Line)
    → format.read line.text ≡ None
    → is_untouched format edits line ≡ true
other-untouched format edits line read = rw (read, is_untouched) refl

-- a line of which the record becomes these, where the edits leave it
one-stays :
    {R : Type 0} (format : Format R) (edits : List (Edit R)) (line : Line)
    (r s : R) (same later : Bool)
    → format.read line.text ≡ Some r
    → format.same r s ≡ same
    → (same ≡ true → r ≡ s)
    → touches format edits s ≡ later
    → (not same || later) ≡ false
    → AreAmong (line.text ∷ [])
    (untouched_texts format edits (if same then line ∷ []
    else record line { text = format.print s } ∷ []))
one-stays format edits line r s false later read is tells touched e = cc
one-stays format edits line r s true true read is tells touched e = cc
one-stays format edits line r s true false read is tells touched e =
    let untouched : touches format edits r ≡ false =
    subst (λ x. touches format edits x ≡ false) (sym (tells refl)) touched
    in line-alone (is_untouched format edits line) line
    (record-untouched format edits line r read untouched)

-- a line with a record that isn't touched stays
record-stays :
    {R : Type 0} (format : Format R)
    → TellsSame format
    → (edits : List (Edit R)) (line : Line) (r : R) (news : List R)
    → format.read line.text ≡ Some r
    → becoming_touches format r news (touches format edits) ≡ false
    → AreAmong (line.text ∷ []) (untouched_texts format edits (line_becomes format line r news))
record-stays format tells edits line r [] read e = cc
record-stays format tells edits line r (s ∷ []) read e =
    one-stays format edits line r s (format.same r s) (touches format edits s) read refl
    (tells r s).0 refl e
record-stays format tells edits line r (s ∷ t ∷ rest) read e = cc

-- a line that may be touched
touched-by :
    {R : Type 0} (format : Format R)
    → TellsSame format
    → (edits : List (Edit R)) (line : Line) (r : R) (news : List R) (touched : Bool)
    → format.read line.text ≡ Some r
    → becoming_touches format r news (touches format edits) ≡ touched
    → AreAmong (texts_of (cond (not touched) (line ∷ []) []))
    (untouched_texts format edits (line_becomes format line r news))
touched-by format tells edits line r news true read is = within-none _
touched-by format tells edits line r news false read is =
    record-stays format tells edits line r news read is

-- what a line becomes keeps the line where it isn't touched
becomes-by :
    {R : Type 0} (format : Format R)
    → TellsSame format
    → (f : R → List R) (edits : List (Edit R)) (line : Line) (o : Option R)
    → format.read line.text ≡ o
    → AreAmong
    (texts_of (cond (elim o [
      | None ↦ true
      | Some r ↦ not
          (touches format (Become f ∷ edits) r)
    ]) (line ∷ []) []))
    (untouched_texts format edits (elim o [
      | None ↦ line
          ∷ []
      | Some r ↦ line_becomes format line r (f r)
    ]))
becomes-by format tells f edits line None read =
    line-alone (is_untouched format edits line) line (other-untouched format edits line read)
becomes-by format tells f edits line (Some r) read =
    touched-by format tells edits line r (f r)
    (becoming_touches format r (f r) (touches format edits)) read refl

-- the texts of a line in front
front-text :
    (test : Line → Bool) (line : Line) (lines : List Line)
    → texts_of (filter test (line ∷ lines)) ≡ texts_of (cond (test line) (line ∷ []) [])
    ++ texts_of (filter test lines)
front-text test line lines = one (test line)
  where
    one : (passes : Bool) → texts_of (cond passes (line ∷ filter test lines) (filter test lines))
        ≡ texts_of (cond passes (line ∷ []) []) ++ texts_of (filter test lines)
    one true = refl
    one false = refl

-- records that become others
become-within :
    {R : Type 0} (format : Format R)
    → TellsSame format
    → (f : R → List R) (edits : List (Edit R)) (lines : List Line)
    → AreAmong (untouched_texts format (Become f ∷ edits) lines)
    (untouched_texts format edits (flat_map (becomes format f) lines))
become-within format tells f edits [] = ends
become-within format tells f edits (line ∷ lines) =
    subst (λ few. AreAmong few (untouched_texts format edits
    (becomes format f line ++ flat_map (becomes format f) lines)))
    (sym (front-text (is_untouched format (Become f ∷ edits)) line lines))
    (subst (λ many. AreAmong (texts_of (cond (is_untouched format (Become f ∷ edits)
    line) (line ∷ []) [])
    ++ untouched_texts format (Become f ∷ edits) lines) many)
    (sym (kept-append (is_untouched format edits) (becomes format f line)
    (flat_map (becomes format f) lines)))
    (within-both _ _ (becomes-by format tells f edits line (format.read line.text) refl)
    (become-within format tells f edits lines)))

-- the texts that are kept don't go by the ends of lines
kept-ended :
    {R : Type 0} (format : Format R) (edits : List (Edit R)) (lines : List Line)
    → untouched_texts format edits (map as_ended lines) ≡ untouched_texts format edits lines
kept-ended format edits [] = refl
kept-ended format edits (line ∷ lines) =
    one (is_untouched format edits line) (kept-ended format edits lines)
  where
    one :
        (passes : Bool)
        → untouched_texts format edits (map as_ended lines) ≡ untouched_texts format edits lines
        → texts_of (cond passes (as_ended line ∷ filter (is_untouched format edits)
        (map as_ended lines)) (filter (is_untouched format edits) (map as_ended lines)))
        ≡ texts_of (cond passes (line ∷ filter (is_untouched format edits) lines)
        (filter (is_untouched format edits) lines))
    one true e = ap (λ rest. line.text ∷ rest) e
    one false e = e

-- texts with others behind
before-within : (texts behind : List (List ℕ)) → AreAmong texts (texts ++ behind)
before-within [] behind = within-none behind
before-within (text ∷ texts) behind = keeps (before-within texts behind)

-- a new line
add-within :
    {R : Type 0} (format : Format R) (text : List ℕ) (edits : List (Edit R)) (lines : List Line)
    → AreAmong (untouched_texts format edits lines)
    (untouched_texts format edits (with_line text lines))
add-within format text edits lines =
    let new : List Line = record { text = text; ended = true } ∷ []
    in subst (λ many. AreAmong (untouched_texts format edits lines) many)
    (sym (kept-append (is_untouched format edits) (map as_ended lines) new
    ∙ ap (λ front. front ++ untouched_texts format edits new) (kept-ended format edits lines)))
    (before-within (untouched_texts format edits lines) (untouched_texts format edits new))

-- a line that a `put` doesn't name is untouched by the later edits where it is untouched
put-weaker :
    {R : Type 0} (format : Format R) (s : R) (edits : List (Edit R)) (line : Line)
    → is_untouched format (Put s ∷ edits) line ≡ true
    → is_untouched format edits line ≡ true
put-weaker {R} format s edits line untouched = one (format.read line.text) untouched
  where
    two : (named later : Bool) → not (named || later) ≡ true → not later ≡ true
    two true later e = cc
    two false later e = e

    one :
        (o : Option R)
        → elim o as (λ p. Bool) [
          | None ↦ true
          | Some r ↦ not
              (touches format (Put s ∷ edits) r)
        ] ≡ true
        → elim o as (λ p. Bool) [ None ↦ true | Some r ↦ not (touches format edits r) ] ≡ true
    one None e = refl
    one (Some r) e = two (is_named format (format.name s) r) (touches format edits r) e

-- the lines behind the first of the name
rest-within :
    {R : Type 0} (format : Format R) (s : R) (edits : List (Edit R)) (lines : List Line)
    → AreAmong (untouched_texts format (Put s ∷ edits) lines) (untouched_texts format edits lines)
rest-within format s edits lines =
    weaker-within (is_untouched format (Put s ∷ edits)) (is_untouched format edits) lines
    (put-weaker format s edits)

-- a line that is touched goes from the front
touched-front :
    (passes : Bool) (line : Line) (xs : List Line) (many : List (List ℕ))
    → passes ≡ false
    → AreAmong (texts_of xs) many
    → AreAmong (texts_of (cond passes (line ∷ xs) xs)) many
touched-front true line xs many is within = cc
touched-front false line xs many is within = within

-- a line that a `put` names is touched
named-touched :
    {R : Type 0} (format : Format R) (s r : R) (edits : List (Edit R)) (line : Line)
    → format.read line.text ≡ Some r
    → is_named format (format.name s) r ≡ true
    → is_untouched format (Put s ∷ edits) line ≡ false
named-touched format s r edits line read named =
    rw (read, is_untouched) (ap (λ b. not (b || touches format edits r)) named)

-- a line in front of those in which a `put` acts
put-front :
    {R : Type 0} (format : Format R) (s : R) (edits : List (Edit R))
    (line : Line) (lines : List Line)
    → AreAmong (untouched_texts format (Put s ∷ edits) lines)
    (untouched_texts format edits (put_first format s lines))
    → AreAmong (untouched_texts format (Put s ∷ edits) (line ∷ lines))
    (untouched_texts format edits (line ∷ put_first format s lines))
put-front format s edits line lines later =
    line-by (is_untouched format (Put s ∷ edits) line) (is_untouched format edits line) line
    (filter (is_untouched format (Put s ∷ edits)) lines)
    (filter (is_untouched format edits) (put_first format s lines))
    (put-weaker format s edits line) later

-- a line with a record, by whether the `put` names it
put-named :
    {R : Type 0} (format : Format R) (s r : R) (edits : List (Edit R)) (line : Line)
    (lines : List Line) (named : Bool)
    → format.read line.text ≡ Some r
    → is_named format (format.name s) r ≡ named
    → AreAmong (untouched_texts format (Put s ∷ edits) lines)
    (untouched_texts format edits (put_first format s lines))
    → AreAmong (untouched_texts format (Put s ∷ edits) (line ∷ lines)) (untouched_texts format edits
    (if named then line_becomes format line r (s ∷ []) ++ lines else line
    ∷ put_first format s lines))
put-named format s r edits line lines true read named later =
    touched-front (is_untouched format (Put s ∷ edits) line) line
    (filter (is_untouched format (Put s ∷ edits)) lines) _
    (named-touched format s r edits line read named)
    (subst (λ many. AreAmong (untouched_texts format (Put s ∷ edits) lines) many)
    (sym (kept-append (is_untouched format edits) (line_becomes format line r (s ∷ [])) lines))
    (within-behind (untouched_texts format edits (line_becomes format line r (s ∷ [])))
    (rest-within format s edits lines)))
put-named format s r edits line lines false read named later =
    put-front format s edits line lines later

-- a line, by what it reads
put-read :
    {R : Type 0} (format : Format R) (s : R) (edits : List (Edit R)) (line : Line)
    (lines : List Line) (o : Option R)
    → format.read line.text ≡ o
    → AreAmong (untouched_texts format (Put s ∷ edits) lines)
    (untouched_texts format edits (put_first format s lines))
    → AreAmong (untouched_texts format (Put s ∷ edits) (line ∷ lines))
    (untouched_texts format edits (elim o [
      | None ↦ line ∷ put_first format s lines
      | Some r ↦ if is_named format (format.name s) r
          then line_becomes format line r (s ∷ []) ++ lines
          else line ∷ put_first format s lines
    ]))
put-read format s edits line lines None read later = put-front format s edits line lines later
put-read format s edits line lines (Some r) read later =
    put-named format s r edits line lines (is_named format (format.name s) r) read refl later

-- the first record of a name becomes another
put-within :
    {R : Type 0} (format : Format R) (s : R) (edits : List (Edit R)) (lines : List Line)
    → AreAmong (untouched_texts format (Put s ∷ edits) lines)
    (untouched_texts format edits (put_first format s lines))
put-within format s edits [] = ends
put-within format s edits (line ∷ lines) =
    put-read format s edits line lines (format.read line.text) refl
    (put-within format s edits lines)

-- one of two ways
either-within :
    {R : Type 0} (format : Format R) (edits : List (Edit R)) (few : List (List ℕ))
    (a b : List Line) (test : Bool)
    → AreAmong few (untouched_texts format edits a)
    → AreAmong few (untouched_texts format edits b)
    → AreAmong few (untouched_texts format edits (if test then a else b))
either-within format edits few a b true in_a in_b = in_a
either-within format edits few a b false in_a in_b = in_b

-- ---- All edits

-- what all edits leave untouched, the first edit leaves to the others
pub step-within :
    {R : Type 0} (format : Format R)
    → TellsSame format
    → (edit : Edit R) (edits : List (Edit R)) (lines : List Line)
    → KeepsOrder edit
    → AreAmong (untouched_texts format (edit ∷ edits) lines)
    (untouched_texts format edits (edited format lines edit))
step-within format tells (Become f) edits lines kept = become-within format tells f edits lines
step-within format tells (Add s) edits lines kept = add-within format (format.print s) edits lines
step-within format tells (AddMissing s) edits lines kept =
    either-within format edits _ lines (with_line (format.print s) lines)
    (has_named format (format.name s) (records_of format lines))
    (within-itself _) (add-within format (format.print s) edits lines)
step-within format tells (Put s) edits lines kept =
    either-within format edits _ (put_first format s lines) (with_line (format.print s) lines)
    (has_named format (format.name s) (records_of format lines))
    (put-within format s edits lines)
    (within-within (rest-within format s edits lines)
    (add-within format (format.print s) edits lines))
step-within format tells (Arrange key) edits lines kept = absurd kept

-- lines that no edit touches stay byte for byte, in their order
pub untouched-stay :
    {R : Type 0} (format : Format R)
    → TellsSame format
    → (edits : List (Edit R)) (lines : List Line)
    → AllByRecursion KeepsOrder edits
    → AreAmong (untouched_texts format edits lines) (texts_of (edited_by format edits lines))
untouched-stay format tells [] lines kept = filter-within (is_untouched format []) lines
untouched-stay format tells (edit ∷ edits) lines kept =
    within-within (step-within format tells edit edits lines kept.0)
    (untouched-stay format tells edits (edited format lines edit) kept.1)
