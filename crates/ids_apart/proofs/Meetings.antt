-- Claim: what was apart stays so (`deeds-keep`), as no ID has one more holder after a deed. Way: IDs are distinct where each
-- has one holder at most (`distinct-few`, `few-distinct`), and ranges are apart where each number is in one at most
-- (`apart-few`, `few-apart`).
use Rattle.std.proofs.Common.{◌≡◌, ◌≢◌, ℕ, ◌+◌, ◌≤◌, ◌<◌, max, Bool, true, false, ◌&&◌, List, [], ◌∷◌, refl, sym, ◌∙◌, arith}
use Rattle.std.specs.Prelude.{⊤, AllPairs, Option, Some, None, cond, count_by, codes}
use Rattle.std.specs.List.{AllByRecursion, cons_option}
use Rattle.std.proofs.lemmas.Bool.{eq-eqb, eqb-true, true≢false}
use Rattle.acct_text.specs.Bytes.{newline}
use Rattle.acct_text.specs.Lines.{Line, lines_of}
use Rattle.acct_text.specs.Pieces.{Lacks}
use Rattle.acct_text.proofs.LinesLaws.{lines_of-are}
use Rattle.acct_text.specs.declared.files.Files.{Files}
use Rattle.account_model.specs.declared.records.SubidRecord.{SubidRecord}
use Rattle.account_model.specs.BatchLines.{LineRequest, line_requests}
use Rattle.account_model.specs.Format.{records_of}
use Rattle.account_model.specs.Records.{last_id, subid_format}
use Rattle.account_model.specs.Request.{Request, has_option}
use Rattle.account_model.specs.Tables.{group_records, passwd_records, subgid_records, subuid_records, table_records}
use Rattle.account_model.proofs.HeldLaws.{subid-holds}
use Rattle.ids_apart.specs.Apart.{ShareNoNumber, GidsAreDistinct, SubgidsAreApart, SubuidsAreApart, UidsAreDistinct}
use Rattle.ids_apart.specs.Holders.{gid_holders, range_has, shares_gid, shares_uid, subgid_holders, subuid_holders, uid_holders}
use Rattle.ids_apart.specs.Laws.{AddsNoHolder, DeedsAddNoHolders, DeedsKeepIdsApart, IsKept, NoneDoes, ShareNoIds, SharesNoId}
use Rattle.ids_apart.proofs.Counts.{AtMostOne, at-most-one, count-more, count-none}
use Rattle.ids_apart.proofs.Keys.{has_key}
use Rattle.ids_apart.proofs.Kept.{gid_key, uid_key}
use Rattle.ids_apart.proofs.Numbers.{has-number, number-in}
use Rattle.ids_apart.proofs.Pairs.{EachTwo, all-both, all-then, each-pairs, pairs-each}

-- ---- One holder at most

-- of two at most one passes
abbrev NotBoth : {X : Type 0} → (X → Bool) → X → X → Type 0
NotBoth test x y = test x ≡ true → test y ≡ true → ⊥

-- what doesn't pass with another that passes
fails-by : (one : Bool) → (one ≡ true → ⊥) → one ≡ false
fails-by true not_so = absurd (not_so refl)
fails-by false not_so = refl

module _ {X : Type 0} (test : X → Bool) where
  -- one beside those behind it
  few-by :
      (x : X) (xs : List X) (passes : Bool)
      → test x ≡ passes
      → AllByRecursion (NotBoth test x) xs
      → count_by test xs ≤ 1
      → cond passes 1 0 + count_by test xs ≤ 1
  few-by x xs true is apart few =
      let none = count-none test xs (all-then (NotBoth test x) (λ y. test y ≡ false) xs
      (λ y both. fails-by (test y) (both is)) apart)
      in omega (arith, none)
  few-by x xs false is apart few = omega (arith, few)

  -- where of each two at most one passes, one passes at most
  pub apart-few : (xs : List X) → EachTwo (NotBoth test) xs → count_by test xs ≤ 1
  apart-few [] each = omega arith
  apart-few (x ∷ xs) each =
      let few = few-by x xs (test x) refl each.0 (apart-few xs each.1)
      in omega (arith, few, count-more test x xs)

  -- and the other way
  one-apart : (xs : List X) → AtMostOne test xs → EachTwo (NotBoth test) xs
  one-apart [] one = tt
  one-apart (x ∷ xs) one = (beside x xs one.0, one-apart xs one.1)
    where
      beside :
          (x : X) (ys : List X)
          → (test x ≡ true → AllByRecursion (λ y. test y ≡ false) ys)
          → AllByRecursion (NotBoth test x) ys
      beside x [] alone = tt
      beside x (y ∷ ys) alone = (
        (λ passes also. true≢false (sym also ∙ (alone passes).0)),
        beside x ys (λ passes. (alone passes).1),
      )

  pub few-apart : (xs : List X) → count_by test xs ≤ 1 → EachTwo (NotBoth test) xs
  few-apart xs few = one-apart xs (at-most-one test xs few)

-- ---- All IDs

module _ {X : Type 0} (tests : ℕ → X → Bool) where
  -- what holds of all for each ID, holds of each for all IDs
  all-ids :
      (x : X) (xs : List X)
      → ((id : ℕ) → AllByRecursion (NotBoth (tests id) x) xs)
      → AllByRecursion (λ y. (id : ℕ) → NotBoth (tests id) x y) xs
  all-ids x [] all = tt
  all-ids x (y ∷ ys) all = ((λ id. (all id).0), all-ids x ys (λ id. (all id).1))

  each-ids :
      (xs : List X)
      → ((id : ℕ) → EachTwo (NotBoth (tests id)) xs)
      → EachTwo (λ x y. (id : ℕ) → NotBoth (tests id) x y) xs
  each-ids [] each = tt
  each-ids (x ∷ xs) each =
      (all-ids x xs (λ id. (each id).0), each-ids xs (λ id. (each id).1))

  -- where each ID has one holder at most, no two have one
  pub each-few :
      (xs : List X)
      → ((id : ℕ) → count_by (tests id) xs ≤ 1)
      → EachTwo (λ x y. (id : ℕ) → NotBoth (tests id) x y) xs
  each-few xs few = each-ids xs (λ id. few-apart (tests id) xs (few id))

-- what holds of each two follows, where something holds of each
each-then :
    {X : Type 0} (R S : X → X → Type 0) (P : X → Type 0) (xs : List X)
    → ((x y : X) → P x → P y → R x y → S x y)
    → AllByRecursion P xs
    → EachTwo R xs
    → EachTwo S xs
each-then R S P [] follows all each = tt
each-then R S P (x ∷ xs) follows all each = (
  all-both P (R x) (S x) xs (λ y also is. follows x y all.0 also is) all.1 each.0,
  each-then R S P xs follows all.1 each.1,
)

-- anything holds of nothing in particular
no-more : {X : Type 0} (xs : List X) → AllByRecursion (λ x. ⊤) xs
no-more [] = tt
no-more (x ∷ xs) = (tt, no-more xs)

-- ---- Keys

module _ {X : Type 0} (key : X → ℕ) where
  -- distinct keys have one holder at most
  pub distinct-few :
      (xs : List X)
      → AllPairs (λ x y. key x ≢ key y) xs
      → (id : ℕ)
      → count_by (has_key key id) xs ≤ 1
  distinct-few xs distinct id = apart-few (has_key key id) xs
      (each-then (λ x y. key x ≢ key y) (NotBoth (has_key key id)) (λ x. ⊤) xs
      (λ x y any other differ has also.
      differ (eqb-true (key x) id has ∙ sym (eqb-true (key y) id also)))
      (no-more xs) (pairs-each (λ x y. key x ≢ key y) xs distinct))

  -- and the other way
  pub few-distinct :
      (xs : List X)
      → ((id : ℕ) → count_by (has_key key id) xs ≤ 1)
      → AllPairs (λ x y. key x ≢ key y) xs
  few-distinct xs few = each-pairs (λ x y. key x ≢ key y) xs
      (each-then (λ x y. (id : ℕ) → NotBoth (has_key key id) x y) (λ x y. key x ≢ key y)
      (λ x. ⊤) xs
      (λ x y any other apart same.
      apart (key x) (eq-eqb (key x) (key x) refl) (eq-eqb (key y) (key x) (sym same)))
      (no-more xs) (each-few (has_key key) xs few))

-- ---- Ranges

-- the range has a number
abbrev HasSome : SubidRecord → Type 0
HasSome r = r.first ≤ last_id r

-- a range that is read, in front of others
read-by :
    (o : Option SubidRecord) (rs : List SubidRecord)
    → ((r : SubidRecord) → o ≡ Some r → HasSome r)
    → AllByRecursion HasSome rs
    → AllByRecursion HasSome (cons_option o rs)
read-by None rs some all = all
read-by (Some r) rs some all = (some r refl, all)

-- each range of lines has a number
lines-some :
    (lines : List Line)
    → AllByRecursion (λ line. Lacks newline line.text) lines
    → AllByRecursion HasSome (records_of subid_format lines)
lines-some [] apart = tt
lines-some (line ∷ lines) apart =
    read-by (subid_format.read line.text) (records_of subid_format lines)
    (λ r is. let held = subid-holds.read line.text r apart.0 is
    in let some : 0 < r.count = held.some
    in omega arith)
    (lines-some lines apart.1)

-- and so does each of a table
table-some : (bytes : Option (List ℕ)) → AllByRecursion HasSome (table_records subid_format bytes)
table-some None = tt
table-some (Some bytes) = lines-some (lines_of bytes) (lines_of-are bytes).apart

-- ranges that are apart have no number in common
pub ranges-few :
    (rs : List SubidRecord)
    → AllPairs ShareNoNumber rs
    → (number : ℕ)
    → count_by (range_has number) rs ≤ 1
ranges-few rs apart number = apart-few (range_has number) rs
    (each-then ShareNoNumber (NotBoth (range_has number)) (λ r. ⊤) rs
    (λ r s any other are has also.
    let one = number-in number r has
    in let two = number-in number s also
    in are (record {
      begins_before = omega (arith, one.1, two.0);
      ends_behind = omega (arith, one.0, two.1);
    }))
    (no-more rs) (pairs-each ShareNoNumber rs apart))

-- and ranges of which each number is in one at most are apart: the greater of two firsts is in both that meet
met-number :
    (r s : SubidRecord)
    → HasSome r
    → HasSome s
    → ((number : ℕ) → NotBoth (range_has number) r s)
    → ShareNoNumber r s
met-number r s some also apart meeting =
    let before : s.first ≤ last_id r = meeting.begins_before
    in let behind : r.first ≤ last_id s = meeting.ends_behind
    in apart (max r.first s.first)
    (has-number (max r.first s.first) r (omega arith) (omega (arith, some, before)))
    (has-number (max r.first s.first) s (omega arith) (omega (arith, also, behind)))

pub few-ranges :
    (bytes : Option (List ℕ))
    → ((number : ℕ) → count_by (range_has number) (table_records subid_format bytes) ≤ 1)
    → AllPairs ShareNoNumber (table_records subid_format bytes)
few-ranges bytes few = each-pairs ShareNoNumber (table_records subid_format bytes)
    (each-then (λ r s. (number : ℕ) → NotBoth (range_has number) r s) ShareNoNumber HasSome
    (table_records subid_format bytes) met-number (table-some bytes)
    (each-few range_has (table_records subid_format bytes) few))

-- ---- The claim

-- no more than one, where there was one at most
still-few : (old new : ℕ) → old ≤ 1 → new ≤ max 1 old → new ≤ 1
still-few old new few met = omega (arith, few, met)

-- where all have one holder at most, a deed leaves it so
kept-by :
    (IsAsked : Request → List ℕ → Type 0) (Holds : Files → Type 0) (holders : ℕ → Files → ℕ)
    → ((files : Files) → Holds files → (id : ℕ) → holders id files ≤ 1)
    → ((files : Files) → ((id : ℕ) → holders id files ≤ 1) → Holds files)
    → ((id : ℕ) → AddsNoHolder IsAsked (holders id))
    → IsKept IsAsked Holds
kept-by IsAsked Holds holders few apart adds request input day old defs new asked e holds =
    apart new (λ id. still-few (holders id old) (holders id new) (few old holds id)
    (adds id request input day old defs new asked e))

-- where no line has `-o`, none shares an ID
lines-unshared :
    (shares : Request → Bool) (lines : List LineRequest)
    → ((request : Request) → SharesNoId request → shares request ≡ false)
    → AllByRecursion (λ line. SharesNoId line.request) lines
    → AllByRecursion (λ line. shares line.request ≡ false) lines
lines-unshared shares lines none all = all-then (λ (line : LineRequest). SharesNoId line.request)
    (λ line. shares line.request ≡ false) lines (λ line. none line.request) all

-- nor does the command
none-shared :
    (shares : Request → Bool) (holders : Files → ℕ)
    → ((request : Request) → SharesNoId request → shares request ≡ false)
    → AddsNoHolder (NoneDoes shares) holders
    → AddsNoHolder ShareNoIds holders
none-shared shares holders none adds request input day old defs new asked =
    adds request input day old defs new (record {
      itself = none request asked.itself;
      lines = λ is. lines-unshared shares (line_requests input) none (asked.lines is);
    })

-- a tool that isn't given `-o`
without-o : (gives given with_o : Bool) → with_o ≡ false → (gives && (with_o && given)) ≡ false
without-o true given true none = absurd (true≢false none)
without-o false given with_o none = refl
without-o true given false none = refl

-- what was apart stays so
pub deeds-keep : DeedsAddNoHolders → DeedsKeepIdsApart
deeds-keep adds = record {
  subuids = kept-by (λ request input. ⊤) SubuidsAreApart subuid_holders
      (λ files. ranges-few (subuid_records files)) (λ files. few-ranges files.subuid) adds.subuids;
  subgids = kept-by (λ request input. ⊤) SubgidsAreApart subgid_holders
      (λ files. ranges-few (subgid_records files)) (λ files. few-ranges files.subgid) adds.subgids;
  uids = kept-by ShareNoIds UidsAreDistinct uid_holders
      (λ files. distinct-few uid_key (passwd_records files))
      (λ files. few-distinct uid_key (passwd_records files))
      (λ uid. none-shared (shares_uid uid) (uid_holders uid)
      (λ request none. without-o _ _ (has_option (codes "o") request) none) (adds.uids uid));
  gids = kept-by ShareNoIds GidsAreDistinct gid_holders
      (λ files. distinct-few gid_key (group_records files))
      (λ files. few-distinct gid_key (group_records files))
      (λ gid. none-shared (shares_gid gid) (gid_holders gid)
      (λ request none. without-o _ _ (has_option (codes "o") request) none) (adds.gids gid));
}
