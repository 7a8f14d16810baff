-- Claim: tables that are listed one after the other, in the fixed order, each where it differs, are the
-- tables that differ (`all-listed`). Way: what is listed, with what differs among the tables that are
-- to come, stays the same from one table to the next (`listed-on`).
use Rattle.std.proofs.Common.{◌≡◌, ◌∙◌, ◌++◌, append_assoc, append-nil, ap, refl, sym, List, [], ◌∷◌}
use Rattle.acct_text.specs.declared.Tab.{Tab}
use Rattle.acct_text.specs.declared.new_tables.NewTable.{NewTable}
use Rattle.acct_text.specs.ChangedTables.{changed_among, changed_bytes, changed_tables, with_new_table}
use Rattle.acct_text.specs.Contents.{Contents}
use Rattle.acct_text.specs.Tables.{all_tables}
use Rattle.acct_text.proofs.ChangedTablesLemmas.{changed_among-cons, with_new_table-append}

module _ (old new : Contents) where
  -- what a table adds to the list
  abbrev pub added : Tab → List NewTable
  added table = with_new_table table (changed_bytes (old table) (new table)) []

  -- these are listed, and those that differ among the rest are to come
  abbrev pub AreListedBefore : List Tab → List NewTable → Type 0
  AreListedBefore rest listed = listed ++ changed_among rest old new ≡ changed_tables old new

  -- at first none is
  pub none-listed : AreListedBefore all_tables []
  none-listed = refl

  -- then one more is, where it differs
  pub listed-on :
      (table : Tab) (rest : List Tab) (listed next : List NewTable)
      → next ≡ listed ++ added table
      → AreListedBefore (table ∷ rest) listed
      → AreListedBefore rest next
  listed-on table rest listed next is before =
      let among = changed_among rest old new in
      ap (λ (tables : List NewTable). tables ++ among) is
      ∙ (append_assoc listed (added table) among
      ∙ (ap (λ (tables : List NewTable). listed ++ tables)
      (with_new_table-append table (changed_bytes (old table) (new table)) among
      ∙ sym (changed_among-cons table rest old new))
      ∙ before))

  -- the claim
  pub all-listed :
      (listed : List NewTable) → AreListedBefore [] listed → listed ≡ changed_tables old new
  all-listed listed before = sym (append-nil listed) ∙ before
