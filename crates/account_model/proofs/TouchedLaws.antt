-- Claim: the first touched line of a multiple name is the one that a `put` meets (`first-is-met`). Way: where no earlier
-- record of the name is touched, both tests of a record agree (`agree`), since a `put` of the name would have touched
-- that one. A record of a multiple name that is touched ends both walks, so no earlier one is touched (`walk`).
use Rattle.std.proofs.Common.{◌≡◌, ℕ, Bool, true, false, ◌&&◌, ◌||◌, not, List, [], ◌∷◌, ◌++◌, refl, sym, ◌∙◌, ap, subst}
use Rattle.std.specs.Prelude.{Option, Some, find, nat_le, option_map, if◌then◌else◌}
use Rattle.std.specs.List.{AllByRecursion}
use Rattle.std.proofs.lemmas.Slice.Eq.{bytes_eq-Decides}
use Rattle.account_model.specs.Format.{Format, is_named, has_named, count_named}
use Rattle.account_model.specs.Edits.{Edit, Become, Add, AddMissing, Put, Arrange, becoming_touches, touches, is_multiple, first_multiple}
use Rattle.account_model.specs.RecordEdits.{TellsSame}
use Rattle.account_model.specs.TouchedLines.{touches_behind, first_met}
use Rattle.account_model.proofs.ListLaws.{all-append}

-- ---- Tests

-- the second of two that both fail
second-fails : (a b : Bool) → (a || b) ≡ false → b ≡ false
second-fails true b e = cc
second-fails false b e = e

-- a test that fails beside one that passes
first-fails : (a b : Bool) → b ≡ true → (a && b) ≡ false → a ≡ false
first-fails true true is e = cc
first-fails true false is e = cc
first-fails false b is e = refl

-- what holds of all holds of them in a weaker form
all-weaker :
    {X : Type 0} (P Q : X → Type 0) (xs : List X)
    → ((x : X) → P x → Q x)
    → AllByRecursion P xs
    → AllByRecursion Q xs
all-weaker P Q [] weaker all = tt
all-weaker P Q (x ∷ xs) weaker all = (weaker x all.0, all-weaker P Q xs weaker all.1)

-- ---- Records of the same name

-- no record of the name is touched by the edits
abbrev Untouched : {R : Type 0} → Format R → List (Edit R) → List ℕ → List R → Type 0
Untouched format edits name records =
    AllByRecursion (λ other. format.name other ≡ name → touches format edits other ≡ false) records

-- a record that stays as it is, is touched where the later edits touch it
stays-by :
    {R : Type 0} (format : Format R) (r s : R) (same : Bool) (later : R → Bool)
    → (same ≡ true → r ≡ s)
    → (not same || later s) ≡ false
    → later r ≡ false
stays-by format r s true later tells e = subst (λ x. later x ≡ false) (sym (tells refl)) e
stays-by format r s false later tells e = cc

-- a record that isn't touched is not touched by the later edits
becoming-fails :
    {R : Type 0} (format : Format R)
    → TellsSame format
    → (r : R) (news : List R) (later : R → Bool)
    → becoming_touches format r news later ≡ false
    → later r ≡ false
becoming-fails format tells r [] later e = cc
becoming-fails format tells r (s ∷ []) later e =
    stays-by format r s (format.same r s) later (tells r s).0 e
becoming-fails format tells r (s ∷ t ∷ rest) later e = cc

-- a `put` has no name of them
unnamed-by :
    {R : Type 0} (format : Format R) (put name : List ℕ) (other : R) (named later : Bool)
    → is_named format put other ≡ named
    → put ≡ name
    → (format.name other ≡ name → (named || later) ≡ false)
    → named ≡ false
unnamed-by format put name other true later is same fails =
    let e = fails ((bytes_eq-Decides (format.name other) put).0 is ∙ same) in cc
unnamed-by format put name other false later is same fails = refl

-- records of which none has a name
none-named :
    {R : Type 0} (format : Format R) (name : List ℕ) (records : List R)
    → AllByRecursion (λ other. is_named format name other ≡ false) records
    → has_named format name records ≡ false
none-named format name [] all = refl
none-named format name (r ∷ records) all = rw all.0 (none-named format name records all.1)

-- ---- Both tests of a record

-- a record that becomes others
becoming-agrees :
    {R : Type 0} (format : Format R)
    → TellsSame format
    → (r : R) (news : List R) (a b : R → Bool)
    → a r ≡ b r
    → becoming_touches format r news a ≡ becoming_touches format r news b
becoming-agrees format tells r [] a b e = refl
becoming-agrees {R} format tells r (s ∷ []) a b e = one (format.same r s) (tells r s).0
  where
    one : (same : Bool) → (same ≡ true → r ≡ s) → (not same || a s) ≡ (not same || b s)
    one true is = subst (λ x. a x ≡ b x) (is refl) e
    one false is = refl
becoming-agrees format tells r (s ∷ t ∷ rest) a b e = refl

-- a record that a `put` may have
put-agrees :
    (named earlier a b : Bool)
    → (named ≡ true → earlier ≡ false)
    → a ≡ b
    → (named || a) ≡ ((named && not earlier) || b)
put-agrees true true a b none e = let wrong = none refl in cc
put-agrees true false a b none e = refl
put-agrees false earlier a b none e = e

-- the tests agree where no earlier record of the name is touched
agree :
    {R : Type 0} (format : Format R)
    → TellsSame format
    → (earlier : List R) (edits : List (Edit R)) (r : R)
    → Untouched format edits (format.name r) earlier
    → touches format edits r ≡ touches_behind format earlier edits r
agree format tells earlier [] r untouched = refl
agree format tells earlier (Become f ∷ edits) r untouched =
    becoming-agrees format tells r (f r) (touches format edits)
    (touches_behind format earlier edits)
    (agree format tells earlier edits r
    (all-weaker _ _ earlier
    (λ other fails same. becoming-fails format tells other (f other) (touches format edits)
    (fails same)) untouched))
agree format tells earlier (Put s ∷ edits) r untouched =
    put-agrees (is_named format (format.name s) r) (has_named format (format.name s) earlier)
    (touches format edits r) (touches_behind format earlier edits r)
    (λ named. none-named format (format.name s) earlier
    (all-weaker _ _ earlier
    (λ other. unnamed-by format (format.name s) (format.name r) other
    (is_named format (format.name s) other)
    (touches format edits other) refl (sym ((bytes_eq-Decides (format.name r) (format.name s)).0
    named))) untouched))
    (agree format tells earlier edits r
    (all-weaker _ _ earlier
    (λ other fails same. second-fails (is_named format (format.name s) other)
    (touches format edits other) (fails same)) untouched))
agree format tells earlier (Add s ∷ edits) r untouched =
    agree format tells earlier edits r untouched
agree format tells earlier (AddMissing s ∷ edits) r untouched =
    agree format tells earlier edits r untouched
agree format tells earlier (Arrange key ∷ edits) r untouched =
    agree format tells earlier edits r untouched

-- ---- Both walks

-- whether a record ends the walk
abbrev ends_walk : {R : Type 0} → Format R → List R → List (Edit R) → R → Bool
ends_walk format whole edits r = touches format edits r && is_multiple format whole r

-- no earlier record has ended it
abbrev NoneEnds : {R : Type 0} → Format R → List R → List (Edit R) → List R → Type 0
NoneEnds format whole edits earlier =
    AllByRecursion (λ other. ends_walk format whole edits other ≡ false) earlier

-- no earlier record of a multiple name is touched
name-untouched :
    {R : Type 0} (format : Format R) (whole : List R) (edits : List (Edit R))
    (earlier : List R) (r : R)
    → is_multiple format whole r ≡ true
    → NoneEnds format whole edits earlier
    → Untouched format edits (format.name r) earlier
name-untouched format whole edits earlier r multiple none = all-weaker _ _ earlier
    (λ other fails same. first-fails (touches format edits other) (is_multiple format whole other)
    (ap (λ name. nat_le 2 (count_named format name whole)) same ∙ multiple) fails) none

-- the tests agree of a record behind those that haven't ended the walk
ends-agree :
    {R : Type 0} (format : Format R)
    → TellsSame format
    → (whole : List R) (edits : List (Edit R)) (earlier : List R) (r : R) (multiple : Bool)
    → is_multiple format whole r ≡ multiple
    → NoneEnds format whole edits earlier
    → (touches format edits r && multiple) ≡ (touches_behind format earlier edits r && multiple)
ends-agree format tells whole edits earlier r true is none =
    ap (λ b. b && true) (agree format tells earlier edits r
    (name-untouched format whole edits earlier r is none))
ends-agree format tells whole edits earlier r false is none =
    both-false (touches format edits r) (touches_behind format earlier edits r)
  where
    both-false : (a b : Bool) → (a && false) ≡ (b && false)
    both-false true true = refl
    both-false true false = refl
    both-false false true = refl
    both-false false false = refl

-- one step of both walks
step-by :
    {R : Type 0} (format : Format R) (r : R) (found : Option R) (met : Option (List ℕ)) (a b : Bool)
    → a ≡ b
    → (a ≡ false → option_map format.name found ≡ met)
    → option_map format.name (if a then Some r else found)
    ≡ (if b then Some (format.name r) else met)
step-by format r found met true true e later = refl
step-by format r found met true false e later = cc
step-by format r found met false true e later = cc
step-by format r found met false false e later = later refl

-- both walks find the same behind records that haven't ended them
walk :
    {R : Type 0} (format : Format R)
    → TellsSame format
    → (whole : List R) (edits : List (Edit R)) (earlier rest : List R)
    → NoneEnds format whole edits earlier
    → option_map format.name (find (ends_walk format whole edits) rest)
    ≡ first_met format whole edits earlier rest
walk format tells whole edits earlier [] none = refl
walk format tells whole edits earlier (r ∷ rest) none =
    step-by format r (find (ends_walk format whole edits) rest)
    (first_met format whole edits (earlier ++ r ∷ []) rest)
    (ends_walk format whole edits r) (touches_behind format earlier edits r
    && is_multiple format whole r)
    (ends-agree format tells whole edits earlier r (is_multiple format whole r) refl none)
    (λ stays. walk format tells whole edits (earlier ++ r ∷ []) rest
    (all-append (λ other. ends_walk format whole edits other ≡ false) earlier
    (r ∷ []) none (stays, tt)))

-- the first touched line of a multiple name is the one that a `put` meets
pub first-is-met :
    {R : Type 0} (format : Format R)
    → TellsSame format
    → (edits : List (Edit R)) (records : List R)
    → first_multiple format edits records ≡ first_met format records edits [] records
first-is-met format tells edits records = walk format tells records edits [] records tt
