-- Claim: what a change meets in a line is met among records (`met-by`, `found-here`), and nothing where names differ
-- (`differ-none`); names of which an order tells several are multiple (`several-order`). Way: by what the line reads as.
use Rattle.std.proofs.Common.{◌≡◌, ◌∙◌, ℕ, ◌+◌, ◌≤◌, Bool, true, false, List, [], ◌∷◌, ◌++◌, append_assoc, append-nil, map, refl, sym, ap, arith}
use Rattle.std.specs.Prelude.{Option, Some, None, IfSome, ◌&&◌, count_by, find, nat_le, slice_get, not, is_none, is_some, Result, Ok, Err, MatchResult, option_map, if◌then◌else◌}
use Rattle.std.specs.List.{cons_option, position_from, position_or_len}
use Rattle.std.proofs.lemmas.Bool.{lt-leb}
use Rattle.std.proofs.lemmas.Option.{slice_get-map}
use Rattle.std.proofs.lemmas.List.Folds.{find_at}
use Rattle.std.proofs.lemmas.List.Sums.{sum_by-cons}
use Rattle.std.specs.Result.{result_ok}
use Rattle.acct_text.specs.Bytes.{newline}
use Rattle.acct_text.specs.Lines.{Line, file_bytes}
use Rattle.account_model.specs.declared.fault.LineFault.{LineFault}
use Rattle.account_model.specs.Format.{Format, is_named, count_named, find_named, records_of}
use Rattle.account_model.specs.Conversion.{shown, with_shown}
use Rattle.account_model.specs.Edits.{Become, edited, is_multiple, line_becomes, touches}
use Rattle.account_model.specs.Tables.{table_after, table_lines}
use Rattle.acct_tables.specs.NameIndex.{TellsAtMost, are_several, has_name, records_at, told}
use Rattle.acct_tables.specs.declared.name_index.NamedLines.{NamedLines}
use Rattle.acct_tables.proofs.NameIndexLemmas.{none-counts}
use Rattle.check_reports.specs.declared.sorting.ByPlace.{ByPlace}
use Rattle.check_reports.specs.LineChanges.{is_met_by, met_in}
use Rattle.check_reports.specs.Secrets.{HasSecrets, found_text, shown_by}
use Rattle.check_reports.specs.declared.secrets.Secrets.{Secrets}
use Rattle.check_reports.specs.Converted.{accounts_of}
use Rattle.check_reports.proofs.PlaceLemmas.{place-or-count}
use Rattle.check_reports.specs.Sorted.{IsOrderOf, kept_place}

-- neither of two
pub if-false :
    {X : Type 0} (some : Option X) (b : Bool) → (if b && false then some else None) ≡ None
if-false some true = refl
if-false some false = refl

-- what isn't so
not-so : (b : Bool) → not b ≡ true → b ≡ false
not-so true is = absurd cc
not-so false is = refl

-- what a line shows is its record, where it is none by its fault
pub shown-read :
    {L R : Type 0} (shown : L → R) (found : Option R) (fault : Option LineFault)
    (read : Result L LineFault)
    → is_some found ≡ is_none fault
    → MatchResult read (λ line. found ≡ Some (shown line)) (λ first. fault ≡ Some first)
    → option_map shown (result_ok read) ≡ found
shown-read shown found fault (Ok line) same is = sym is
shown-read shown None fault (Err first) same is = refl
shown-read shown (Some r) fault (Err first) same is =
    let none : true ≡ false = same ∙ ap is_none is in absurd cc

module _ {R : Type 0} (format : Format R) where
  -- as many names as records pass
  count-names :
      (name : List ℕ) (records : List R)
      → count_by (has_name name) (map (λ r. Some (format.name r)) records)
      ≡ count_named format name records
  count-names name [] = refl
  count-names name (r ∷ records) =
      sum_by-cons (λ found. if has_name name found then 1 else 0) (Some (format.name r))
      (map (λ r. Some (format.name r)) records)
      ∙ ap (λ count. (if is_named format name r then 1 else 0) + count) (count-names name records)
      ∙ sym (sum_by-cons (λ r. if is_named format name r then 1 else 0) r records)

  -- several, by whether there is a first
  several-by :
      (first : Option ℕ) (count : ℕ)
      → (first ≡ None → count ≡ 0)
      → are_several (records_at first count) ≡ nat_le 2 count
  several-by None count none = ap (nat_le 2) (sym (none refl))
  several-by (Some first) count none = refl

  -- several records of a name
  pub several-order :
      (records : List R) (order : ByPlace) (name : List ℕ)
      → IsOrderOf format records order
      → are_several (told order.names name) ≡ nat_le 2 (count_named format name records)
  several-order records order name is =
      let names = map (λ r. Some (format.name r)) records in
      ap are_several (is.first name)
      ∙ several-by (position_from (has_name name) 0 names) (count_by (has_name name) names)
      (none-counts (has_name name) 0 names)
      ∙ ap (nat_le 2) (count-names name records)

  -- what is met in the line of a record
  pub met-by :
      (f : R → List R) (records : List R) (order : ByPlace) (text : List ℕ) (r : R)
      → format.read text ≡ Some r
      → IsOrderOf format records order
      → met_in format f records text
      ≡ (if touches format (Become f ∷ []) r && are_several (told order.names (format.name r))
      then Some (format.name r) else None)
  met-by f records order text r reads is =
      rw (met_in, reads, several-order records order (format.name r) is) refl

  -- where the names differ, none has several
  differ-single :
      (found : Option NamedLines)
      → IfSome found (λ found. found.count ≤ 1)
      → are_several found ≡ false
  differ-single None few = refl
  differ-single (Some found) few = lt-leb 2 found.count (omega (arith, few))

  -- so that none is met
  pub differ-none :
      (f : R → List R) (all records : List R) (order : ByPlace)
      → IsOrderOf format all order
      → TellsAtMost 1 (told order.names)
      → find (is_met_by format f all) records ≡ None
  differ-none f all [] order is few = refl
  differ-none f all (r ∷ records) order is few =
      let one : is_multiple format all r ≡ false =
      sym (several-order all order (format.name r) is)
      ∙ differ-single (told order.names (format.name r)) (few (format.name r)) in
      passes (touches format (Become f ∷ []) r) (is_multiple format all r) one
      (differ-none f all records order is few)
    where
      passes :
          (b c : Bool)
          → c ≡ false
          → find (is_met_by format f all) records ≡ None
          → (if b && c then Some r else find (is_met_by format f all) records) ≡ None
      passes true c single rest = rw single rest
      passes false c single rest = rest

  -- the first that is met behind a line that meets none
  pub found-behind :
      (f : R → List R) (records : List R) (line : Line) (rest : List Line)
      → met_in format f records line.text ≡ None
      → find (is_met_by format f records) (records_of format (line ∷ rest))
      ≡ find (is_met_by format f records) (records_of format rest)
  found-behind f records line rest none = by (format.read line.text) refl
    where
      by :
          (o : Option R)
          → format.read line.text ≡ o
          → find (is_met_by format f records) (cons_option o (records_of format rest))
          ≡ find (is_met_by format f records) (records_of format rest)
      by None reads = refl
      by (Some r) reads = passes (is_met_by format f records r) (rw (met_in, reads) at none)
        where
          passes :
              (b : Bool)
              → (if b then Some (format.name r) else None) ≡ None
              → (if b then Some r else find (is_met_by format f records) (records_of format rest))
              ≡ find (is_met_by format f records) (records_of format rest)
          passes true none = absurd cc
          passes false none = refl

  -- or at one that does
  pub found-here :
      (f : R → List R) (records : List R) (line : Line) (rest : List Line) (name : List ℕ)
      → Some name ≡ met_in format f records line.text
      → Some name ≡ option_map format.name
      (find (is_met_by format f records) (records_of format (line ∷ rest)))
  found-here f records line rest name met = by (format.read line.text) refl
    where
      by :
          (o : Option R)
          → format.read line.text ≡ o
          → Some name ≡ option_map format.name
          (find (is_met_by format f records) (cons_option o (records_of format rest)))
      by None reads = let none = rw (met_in, reads) at met in absurd cc
      by (Some r) reads = passes (is_met_by format f records r) (rw (met_in, reads) at met)
        where
          passes :
              (b : Bool)
              → Some name ≡ (if b then Some (format.name r) else None)
              → Some name ≡ option_map format.name
              (if b then Some r else find (is_met_by format f records) (records_of format rest))
          passes true met = met
          passes false met = absurd cc

  -- what is kept under a name is the text of its first record
  pub found-named :
      (secret : R → List ℕ) (records : List R) (secrets : Secrets) (name : List ℕ)
      → HasSecrets format secret records secrets
      → found_text secrets name ≡ option_map secret (find_named format name records)
  found-named secret records secrets name has =
      ap (λ texts. slice_get texts (kept_place secrets.order name)) has.texts
      ∙ ap (slice_get (map secret records))
      (place-or-count format records secrets.order name has.order)
      ∙ slice_get-map secret records (position_or_len (is_named format name) records)
      ∙ ap (option_map secret) (sym (find_at (is_named format name) records))

  -- the line of a record that becomes another one
  pub other-pushed :
      (line : Line) (r s : R) (old made new : List ℕ)
      → not (format.same r s) ≡ true
      → made ≡ old ++ format.print s
      → new ≡ made ++ (if line.ended then newline ∷ [] else [])
      → new ≡ old ++ file_bytes (line_becomes format line r (s ∷ []))
  other-pushed line r s old made new differs pushed ended =
      let other = not-so (format.same r s) differs in
      let end = if line.ended then newline ∷ [] else [] in
      ended
      ∙ ap (λ made. made ++ end) pushed
      ∙ append_assoc old (format.print s) end
      ∙ ap (λ bytes. old ++ bytes) (sym (append-nil (format.print s ++ end)))
      ∙ (rw other refl)

  -- what shows a record by what is kept
  pub shown-is :
      {H : Type 0} (hashes : Format H) (secret : R → List ℕ) (with_secret : List ℕ → R → R)
      (hash : H → List ℕ) (records : List H) (secrets : Secrets) (m : R)
      → found_text secrets (format.name m)
      ≡ option_map hash (find_named hashes (format.name m) records)
      → with_shown (accounts_of format hashes secret with_secret hash) records m
      ≡ shown_by format with_secret secrets m
  shown-is {H = H} hashes secret with_secret hash records secrets m found =
      by (find_named hashes (format.name m) records) ∙ (rw (shown_by, found) refl)
    where
      by :
          (o : Option H)
          → (elim o as (λ o. R) [ None ↦ m | Some h ↦ with_secret (hash h) m ])
          ≡ (elim (option_map hash o) as (λ o. R) [ None ↦ m | Some text ↦ with_secret text m ])
      by None = refl
      by (Some h) = refl

  -- and so the edit that does
  pub shown-edits :
      {H : Type 0} (hashes : Format H) (secret : R → List ℕ) (with_secret : List ℕ → R → R)
      (hash : H → List ℕ) (records : List H) (secrets : Secrets)
      → ((m : R) → found_text secrets (format.name m)
      ≡ option_map hash (find_named hashes (format.name m) records))
      → shown (accounts_of format hashes secret with_secret hash) records
      ≡ Become (λ m. shown_by format with_secret secrets m ∷ []) ∷ []
  shown-edits hashes secret with_secret hash records secrets found =
      λ i. Become (λ m.
      shown-is hashes secret with_secret hash records secrets m (found m) i ∷ []) ∷ []

  -- the bytes of what becomes of the lines of a table are those of the table after the edit
  pub table-walked :
      (f : R → List R) (file : Option (List ℕ)) (text : List ℕ)
      → text ≡ file_bytes (edited format (table_lines file) (Become f))
      → table_after format (Become f ∷ []) file ≡ option_map (λ _. text) file
  table-walked f None text is = refl
  table-walked f (Some bytes) text is = ap Some (sym is)
