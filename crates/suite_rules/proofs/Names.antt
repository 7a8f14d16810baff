-- Names and tables: which are the same, and which a test tells apart (`apart`).
use Rattle.std.proofs.Common.{◌≡◌, refl, sym, ap, ◌∙◌, Bool, true, false, if◌then◌else◌, true≢false}
use Rattle.acct_text.specs.declared.Tab.{Tab}
use Rattle.acct_text.specs.Tables.{same_table}
use Rattle.acct_outside.specs.declared.Name.{Name}
use Rattle.acct_outside.specs.declared.Name.TheVariants.{Table, Lock, Defs}
use Rattle.acct_outside.specs.Names.{is_staging, same_name}
use Rattle.acct_outside.proofs.NameLemmas.{name-is, table-is, table-same}
use Rattle.suite_rules.specs.Knowledge.{is_input}

-- the test takes either first
pub table-turned : (table other : Tab) → same_table other table ≡ false →
    same_table table other ≡ false
table-turned table other differs = cases (same_table table other) refl
  where
    cases : (same : Bool) → same_table table other ≡ same → same ≡ false
    cases true is =
        sym (ap (same_table other) (table-is table other is) ∙ table-same other) ∙ differs
    cases false is = refl

-- the name is a lock's
abbrev pub is_lock : Name → Bool
is_lock (Lock number) = true
is_lock _ = false

-- no staging name is a lock's
pub staging-no-lock : (name : Name) → is_staging name ≡ true → is_lock name ≡ false
staging-no-lock (Lock number) is = absurd (true≢false (sym is))
staging-no-lock _ is = refl

-- no table and no login.defs is a lock
pub input-no-lock : (name : Name) → is_input name ≡ true → is_lock name ≡ false
input-no-lock (Lock number) is = absurd (true≢false (sym is))
input-no-lock _ is = refl

-- no staging name is a table's, or login.defs
pub input-no-staging : (name : Name) → is_input name ≡ true → is_staging name ≡ false
input-no-staging (Table table) is = refl
input-no-staging Defs is = refl
input-no-staging _ is = absurd (true≢false (sym is))

-- names that a test tells apart are not the same
pub apart : (test : Name → Bool) (name other : Name) (one two : Bool) →
    test name ≡ one → test other ≡ two → (one ≡ two → ⊥) → same_name name other ≡ false
apart test name other one two here there differ = cases (same_name name other) refl
  where
    cases : (same : Bool) → same_name name other ≡ same → same ≡ false
    cases true is = absurd (differ (sym here ∙ (ap test (name-is name other is) ∙ there)))
    cases false is = refl

-- a name that passes a test isn't one that fails it
pub passes-apart : (test : Name → Bool) (name other : Name) →
    test name ≡ true → test other ≡ false → same_name name other ≡ false
passes-apart test name other holds fails = apart test name other true false holds fails true≢false

-- a name that fails a test isn't one that passes it
pub fails-apart : (test : Name → Bool) (name other : Name) →
    test name ≡ false → test other ≡ true → same_name name other ≡ false
fails-apart test name other fails holds =
    apart test name other false true fails holds (λ same. true≢false (sym same))

-- a choice whose test fails
pub else-is : {A : Type 0} (test : Bool) (one two : A) → test ≡ false →
    (if test then one else two) ≡ two
else-is test one two fails = rw fails refl

-- a choice whose test holds
pub then-is : {A : Type 0} (test : Bool) (one two : A) → test ≡ true →
    (if test then one else two) ≡ one
then-is test one two holds = rw holds refl
