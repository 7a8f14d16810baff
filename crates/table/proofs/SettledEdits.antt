-- Claims: an edit that is one of the last, or needs the key, meets no record in front of the first place
-- (`settled-no_earlier`); what was asked about stays so as that place becomes lower (`asked-after`), and the
-- places that are reached by a key tell whether one with it stands in front (`reached-no_earlier`). One
-- that touches records of a name without several meets none (`single-none`). Way: a record that an edit
-- meets is touched, so it has the key and the name.
use Rattle.std.proofs.Common.{◌≡◌, ◌∙◌, ℕ, ◌<◌, ◌≤◌, Bool, true, false, eqb, List, [], ◌∷◌, refl, sym, ap, subst, inl, inr, arith}
use Rattle.std.specs.Prelude.{◌&&◌, ◌||◌, AllPairs, IfSome, MatchOption, nat_le, Option, None, Some}
use Rattle.std.specs.List.{AllByRecursion, list_any}
use Rattle.std.proofs.lemmas.Bool.{cases_Bool, eqb-true, or_cases}
use Rattle.std.proofs.lemmas.Slice.Eq.{bytes_eq-Decides}
use Rattle.account_model.specs.Edits.{is_multiple}
use Rattle.account_model.specs.Edits as model
use Rattle.account_model.specs.Edits.Edit.{Become, Add, AddMissing, Put, Arrange}
use Rattle.account_model.specs.Format.{Format, count_named, is_named, records_of}
use Rattle.account_model.specs.Ids.{is_used}
use Rattle.account_model.specs.RecordEdits.{TellsSame}
use Rattle.line_edits.specs.SeenEdits.{seen_edit}
use Rattle.line_edits.specs.Touching.{is_met, touches_alone}
use Rattle.line_edits.specs.declared.edit.Edit.{Edit}
use Rattle.line_edits.proofs.TouchedEdits.{left-untouched}
use Rattle.acct_tables.specs.Cells.{lines_now}
use Rattle.acct_tables.specs.declared.cell.Cell.{Cell}
use Rattle.acct_tables.specs.KeyPlaces.{has_key}
use Rattle.table.specs.Accepting.{is_accepted}
use Rattle.table.specs.FirstMet.{AreAsked, IsSettled, MeetsNoEarlier, NeedsKey, StandsNoEarlier}
use Rattle.table.specs.LastEdits.{HoldsOfLast, IsOneOf}
use Rattle.table.specs.Met.{IsEditedAt, MeetsAt, TouchesNamed, earlier, first_in, has_met}
use Rattle.table.specs.TableCells.{HoldsOf, HoldsThere, Reaches, TouchesAt, has_in}
use Rattle.table.specs.declared.last_edits.LastEdits.{LastEdits}
use Rattle.table.specs.declared.first_met.FirstMet.{FirstMet}
use Rattle.table.proofs.MetRecords.{earlier-joined}
use Rattle.table.proofs.PlaceLemmas.{pairs-first, used-behind}
use Rattle.table.proofs.ReachLemmas.{reached-touches, there-all, there-weaker}

-- ---- The last edits

-- what there is has both
both-there :
    {X : Type 0} (A B : X → Type 0) (P : Type 0) (there : Option X)
    → ((x : X) → A x → B x → P)
    → IfSome there A
    → MatchOption there ⊥ B
    → P
both-there A B P None both holds is = absurd is
both-there A B P (Some x) both holds is = both x holds is

-- without edits all holds of each
pub last-none :
    {R C : Type 0} (becomes : C → R → List R) (P : model.Edit R → Type 0)
    (edits : LastEdits (Edit R C))
    → edits.last ≡ None
    → edits.older ≡ None
    → HoldsOfLast becomes P edits
last-none becomes P edits last older = record {
  last = subst (λ last. IfSome last (λ last. P (seen_edit becomes last.now))) (sym last) tt;
  older = subst (λ older. IfSome older (λ older. P (seen_edit becomes older.now))) (sym older) tt;
}

-- what holds of each of them holds of an edit that is one
pub one-of :
    {R C : Type 0} (becomes : C → R → List R) (P : model.Edit R → Type 0) (edit : model.Edit R)
    (edits : LastEdits (Edit R C))
    → HoldsOfLast becomes P edits
    → IsOneOf becomes edit edits
    → P edit
one-of becomes P edit edits holds (inl is) =
    both-there (λ last. P (seen_edit becomes last.now))
    (λ last. seen_edit becomes last.now ≡ edit) (P edit) edits.last
    (λ last here same. subst P same here) holds.last is
one-of becomes P edit edits holds (inr is) =
    both-there (λ older. P (seen_edit becomes older.now))
    (λ older. seen_edit becomes older.now ≡ edit) (P edit) edits.older
    (λ older here same. subst P same here) holds.older is

-- what holds of each in other words
if-weaker :
    {X : Type 0} (A B : X → Type 0) (there : Option X)
    → ((x : X) → A x → B x)
    → IfSome there A
    → IfSome there B
if-weaker A B None weaker holds = tt
if-weaker A B (Some x) weaker holds = weaker x holds

-- of one more, and of the last one still
pub last-with :
    {R C : Type 0} (becomes : C → R → List R) (P Q : model.Edit R → Type 0)
    (edits more : LastEdits (Edit R C))
    → IfSome more.last (λ last. Q (seen_edit becomes last.now))
    → more.older ≡ edits.last
    → ((edit : model.Edit R) → P edit → Q edit)
    → HoldsOfLast becomes P edits
    → HoldsOfLast becomes Q more
last-with becomes P Q edits more new older weaker holds = record {
  last = new;
  older = subst (λ older. IfSome older (λ last. Q (seen_edit becomes last.now))) (sym older)
      (if-weaker (λ last. P (seen_edit becomes last.now)) (λ last. Q (seen_edit becomes last.now))
      edits.last (λ last. weaker (seen_edit becomes last.now)) holds.last);
}

-- ---- Places

-- the lower of two places, either way
earlier-swapped : (one other : Option ℕ) → earlier one other ≡ earlier other one
earlier-swapped None None = refl
earlier-swapped None (Some q) = refl
earlier-swapped (Some p) None = refl
earlier-swapped (Some p) (Some q) = ap Some (omega arith)

-- a place once more
earlier-again : (one : Option ℕ) → earlier one one ≡ one
earlier-again None = refl
earlier-again (Some p) = ap Some (omega arith)

-- what isn't in front of a place isn't in front of a lower one
no-earlier-lower :
    (place lower found : Option ℕ)
    → earlier place found ≡ place
    → earlier (earlier place lower) found ≡ earlier place lower
no-earlier-lower place lower found is =
    earlier-joined place lower found
    ∙ ap (earlier place) (earlier-swapped lower found)
    ∙ sym (earlier-joined place found lower)
    ∙ ap (λ place. earlier place lower) is

-- ---- Keys

module _ {R : Type 0} (format : Format R) where
  -- what holds of each record that a test accepts holds of the first place that has one
  first-place :
      (test : R → Bool) (P : ℕ → Type 0) (cells : List Cell)
      → HoldsThere format (λ place r. test r ≡ true → P place) cells
      → IfSome (first_in (has_in format test) cells) P
  first-place test P [] holds = tt
  first-place test P (cell ∷ cells) holds = elim (cases_Bool (has_in format test cell)) [
    | inl has ↦ rw has (here cell.texts holds.0 has)
    | inr hasn't ↦ rw hasn't (first-place test P cells holds.1)
  ]
    where
      read : (found : Option R)
          → ((r : R) → found ≡ Some r → test r ≡ true → P cell.place)
          → is_accepted test found ≡ true
          → P cell.place
      read None holds is = absurd cc
      read (Some r) holds is = holds r refl is

      here : (texts : List (List ℕ))
          → AllByRecursion (HoldsOf format (λ r. test r ≡ true → P cell.place)) texts
          → list_any (λ text. is_accepted test (format.read text)) texts ≡ true
          → P cell.place
      here [] holds is = absurd cc
      here (text ∷ texts) holds is =
          elim (cases_Bool (is_accepted test (format.read text))) [
            | inl accepts ↦ read (format.read text) holds.0 accepts
            | inr rejects ↦ here texts holds.1 (rw rejects at is)
          ]

  -- a change is made where its records stand
  pub touched-meets :
      (f : R → List R) (cells : List Cell) (places : List ℕ)
      → TellsSame format
      → TouchesAt format f cells places
      → MeetsAt format (Become f) cells places
  touched-meets f cells places tells touches =
      let whole = records_of format (lines_now cells) in
      record {
        all = there-weaker format (λ place r. is_used places place ≡ false → f r ≡ r ∷ [])
            (λ place r. is_met format (Become f ∷ []) whole r ≡ true → is_used places place ≡ true)
            (λ place r left met. elim (cases_Bool (is_used places place)) [
              | inl used ↦ used
              | inr unused ↦
                  let both : true ≡ false = sym met
                  ∙ ap (λ touched. touched && is_multiple format whole r)
                  (left-untouched format tells f r (left unused)) in
                  absurd cc
            ])
            cells touches.others;
        ascending = touches.ascending;
        sound = touches.sound;
        placed = touches.placed;
      }

  -- and so is one of a name
  pub named-edited :
      (edit : model.Edit R) (name : List ℕ) (cells : List Cell) (places : List ℕ)
      → TouchesNamed format edit name
      → Reaches format (is_named format name) cells places
      → IsEditedAt format edit cells places
  named-edited (Become f) name cells places named reached =
      reached-touches format f (is_named format name) cells places
      (λ r isn't. named r (ap (λ is. is || false) isn't)) reached
  named-edited (Add s) name cells places named reached = absurd named
  named-edited (AddMissing s) name cells places named reached = absurd named
  named-edited (Put s) name cells places named reached = absurd named
  named-edited (Arrange key) name cells places named reached = absurd named

  pub named-meets :
      (edit : model.Edit R) (name : List ℕ) (cells : List Cell) (places : List ℕ)
      → TellsSame format
      → TouchesNamed format edit name
      → Reaches format (is_named format name) cells places
      → MeetsAt format edit cells places
  named-meets (Become f) name cells places tells named reached =
      touched-meets f cells places tells (named-edited (Become f) name cells places named reached)
  named-meets (Add s) name cells places tells named reached = absurd named
  named-meets (AddMissing s) name cells places tells named reached = absurd named
  named-meets (Put s) name cells places tells named reached = absurd named
  named-meets (Arrange key) name cells places tells named reached = absurd named

  -- an edit that touches only records of a name without several meets none
  pub single-none :
      (edit : model.Edit R) (name : List ℕ) (cells : List Cell)
      → TellsSame format
      → TouchesNamed format edit name
      → nat_le 2 (count_named format name (records_of format (lines_now cells))) ≡ false
      → first_in (has_met format (edit ∷ []) cells) cells ≡ None
  single-none edit name cells tells named single =
      none (first_in (has_met format (edit ∷ []) cells) cells)
      (first-place (is_met format (edit ∷ []) (records_of format (lines_now cells))) (λ place. ⊥)
      cells
      (there-all format
      (λ place r. is_met format (edit ∷ []) (records_of format (lines_now cells)) r ≡ true → ⊥)
      cells (λ place r met. unmet r met)))
    where
      none : (found : Option ℕ) → IfSome found (λ place. ⊥) → found ≡ None
      none None holds = refl
      none (Some place) holds = absurd holds

      other : (edit : model.Edit R) (r : R)
          → TouchesNamed format edit name
          → is_named format name r ≡ false
          → touches_alone format edit r ≡ false
      other (Become f) r named isn't =
          left-untouched format tells f r (named r (ap (λ is. is || false) isn't))
      other (Add s) r named isn't = absurd named
      other (AddMissing s) r named isn't = absurd named
      other (Put s) r named isn't = absurd named
      other (Arrange key) r named isn't = absurd named

      never : (touched : Bool) → (touched && false) ≡ false
      never true = refl
      never false = refl

      unmet : (r : R)
          → is_met format (edit ∷ []) (records_of format (lines_now cells)) r ≡ true
          → ⊥
      unmet r met = elim (cases_Bool (is_named format name r)) [
        | inl is ↦
            let same = (bytes_eq-Decides (format.name r) name).0 is in
            let both : true ≡ false = sym met
            ∙ ap (λ name. touches_alone format edit r
            && nat_le 2 (count_named format name (records_of format (lines_now cells)))) same
            ∙ ap (λ several. touches_alone format edit r && several) single
            ∙ never (touches_alone format edit r) in
            absurd cc
        | inr isn't ↦
            let both : true ≡ false = sym met
            ∙ ap (λ touched. touched && is_multiple format (records_of format (lines_now cells)) r)
            (other edit r named isn't) in
            absurd cc
      ]

  module _ (keys_of : R → List ℕ) (cells : List Cell) where
    abbrev whole : List R
    whole = records_of format (lines_now cells)

    -- an edit that needs the key meets no record in front of those that have it
    key-no_earlier :
        TellsSame format
        → (edit : model.Edit R) (place : Option ℕ) (key : ℕ)
        → NeedsKey keys_of edit key
        → StandsNoEarlier format keys_of cells place key
        → MeetsNoEarlier format cells place edit
    key-no_earlier tells (Become f) place key needs stands =
        by (first_in (has_met format (Become f ∷ []) cells) cells)
        (first-place (is_met format (Become f ∷ []) whole)
        (λ found. earlier place (Some found) ≡ place) cells
        (there-weaker format (λ found r. has_key key (keys_of r) ≡ true
        → earlier place (Some found) ≡ place)
        (λ found r. is_met format (Become f ∷ []) whole r ≡ true
        → earlier place (Some found) ≡ place)
        (λ found r stands met. stands (with-key r met)) cells stands))
      where
        touched : (is several : Bool) → (is && several) ≡ true → is ≡ true
        touched true several both = refl
        touched false several both = both

        with-key : (r : R)
            → is_met format (Become f ∷ []) whole r ≡ true
            → has_key key (keys_of r) ≡ true
        with-key r met = elim (cases_Bool (has_key key (keys_of r))) [
          | inl has ↦ has
          | inr hasn't ↦
              let both : true ≡ false =
              sym (touched (touches_alone format (Become f) r) (is_multiple format whole r) met)
              ∙ left-untouched format tells f r (needs r hasn't) in
              absurd cc
        ]

        by : (found : Option ℕ)
            → IfSome found (λ found. earlier place (Some found) ≡ place)
            → earlier place found ≡ place
        by None holds = none place
          where
            none : (place : Option ℕ) → earlier place None ≡ place
            none None = refl
            none (Some p) = refl
        by (Some found) holds = holds
    key-no_earlier tells (Add r) place key needs stands = absurd needs
    key-no_earlier tells (AddMissing r) place key needs stands = absurd needs
    key-no_earlier tells (Put r) place key needs stands = absurd needs
    key-no_earlier tells (Arrange key_of) place key needs stands = absurd needs

    module _ {C : Type 0} (becomes : C → R → List R) where
      -- so does one that is settled
      pub settled-no_earlier :
          TellsSame format
          → (edit : model.Edit R) (met : FirstMet (Edit R C))
          → AreAsked format keys_of becomes cells met
          → IsSettled keys_of becomes edit met
          → MeetsNoEarlier format cells met.place edit
      settled-no_earlier tells edit met asked (inl is) =
          one-of becomes (MeetsNoEarlier format cells met.place) edit met.last asked.by_last is
      settled-no_earlier tells edit met asked (inr needs) =
          both-there (StandsNoEarlier format keys_of cells met.place) (NeedsKey keys_of edit)
          (MeetsNoEarlier format cells met.place edit) met.key
          (λ key stands needs. key-no_earlier tells edit met.place key needs stands) asked.by_key
          needs

      -- what was asked about stays so as one more edit is
      pub asked-after :
          (edit : Edit R C) (met : FirstMet (Edit R C)) (place : Option ℕ)
          (last : LastEdits (Edit R C))
          → AreAsked format keys_of becomes cells met
          → place ≡ earlier met.place
          (first_in (has_met format (seen_edit becomes edit ∷ []) cells) cells)
          → IfSome last.last (λ last. seen_edit becomes last.now ≡ seen_edit becomes edit)
          → last.older ≡ met.last.last
          → HoldsOfLast becomes (MeetsNoEarlier format cells place) last
      asked-after edit met place last asked is new older =
          let found = first_in (has_met format (seen_edit becomes edit ∷ []) cells) cells in
          let here : MeetsNoEarlier format cells place (seen_edit becomes edit) =
          ap (λ place. earlier place found) is
          ∙ earlier-joined met.place found found
          ∙ ap (earlier met.place) (earlier-again found)
          ∙ sym is in
          last-with becomes (MeetsNoEarlier format cells met.place)
          (MeetsNoEarlier format cells place) met.last last
          (if-weaker (λ last. seen_edit becomes last.now ≡ seen_edit becomes edit)
          (λ last. MeetsNoEarlier format cells place (seen_edit becomes last.now))
          last.last (λ last same. subst (MeetsNoEarlier format cells place) (sym same) here) new)
          older
          (λ other before.
          let met_there = first_in (has_met format (other ∷ []) cells) cells in
          ap (λ place. earlier place met_there) is
          ∙ no-earlier-lower met.place found met_there before
          ∙ sym is)
          asked.by_last

    -- no record of a key stands in front of the first place that is reached by it
    pub reached-no_earlier :
        (key place : ℕ) (places : List ℕ)
        → Reaches format (λ r. has_key key (keys_of r)) cells places
        → ((first : ℕ) (later : List ℕ) → places ≡ first ∷ later → place ≤ first)
        → StandsNoEarlier format keys_of cells (Some place) key
    reached-no_earlier key place places reached first =
        there-weaker format (λ found r. has_key key (keys_of r) ≡ true
        → is_used places found ≡ true)
        (λ found r. has_key key (keys_of r) ≡ true → earlier (Some place) (Some found) ≡ Some place)
        (λ found r used has.
        let behind = behind-first places found reached.ascending first (used has) in
        ap Some (omega (arith, behind)))
        cells reached.all
      where
        behind-first :
            (places : List ℕ) (found : ℕ)
            → AllPairs (λ earlier later. earlier < later) places
            → ((first : ℕ) (later : List ℕ) → places ≡ first ∷ later → place ≤ first)
            → is_used places found ≡ true
            → place ≤ found
        behind-first [] found ascending first used = absurd cc
        behind-first (one ∷ places) found ascending first used =
            let ahead = first one places refl in
            elim (or_cases (eqb one found) (is_used places found) used) [
              | inl same ↦ omega (arith, eqb-true one found same, ahead)
              | inr later ↦
                  let behind = used-behind one found places
                  (pairs-first (λ earlier later. earlier < later) one places ascending) later in
                  omega (arith, ahead, behind)
            ]
