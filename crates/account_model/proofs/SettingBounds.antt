-- What the settings choose is within its bounds: an ID from a range is at most the greatest ID (`free-uid-small`,
-- `free-gid-small`), a number of days is one that shadow holds (`minimum-days` and the like), and the
-- greatest subordinate ID is an ID (`subuid-maximum`, `subgid-maximum`).
use Rattle.std.proofs.Common.{◌≡◌, zero, suc, ℕ, ◌≤◌, Bool, true, false, List, refl, ap, subst, arith, lit≤}
use Rattle.std.specs.Prelude.{Option, Some, None, codes, nat_le, bytes_eq, option_map, option_and_then, unwrap_or, if◌then◌else◌}
use Rattle.std.proofs.lemmas.Bool.{leb-true}
use Rattle.std.proofs.Math.Nat.{le_trans}
use Rattle.acct_text.specs.declared.files.Files.{Files}
use Rattle.acct_text.proofs.NumberLaws.{some-inj}
use Rattle.account_model.specs.declared.settings.Key.{Key}
use Rattle.account_model.specs.declared.settings.Key.TheVariants.{UidMin, GidMin, UidMax, GidMax, SysUidMin, SysGidMin, SysUidMax, SysGidMax, SubUidMax, SubGidMax, PassMinDays, PassMaxDays, PassWarnAge}
use Rattle.account_model.specs.declared.settings.Kind.{Kind}
use Rattle.account_model.specs.declared.settings.Kind.TheVariants.{Regular, System}
use Rattle.account_model.specs.declared.settings.IdSort.TheVariants.{Uid, Gid}
use Rattle.account_model.specs.Records.{greatest_id, greatest_days}
use Rattle.account_model.specs.Written.{IsDaysNumber}
use Rattle.account_model.specs.Settings.{Setting, key_name, setting_number, within, is_days_key, allowed_value, last_setting_value, given_value, default_value, one_less, number, range_between, range}
use Rattle.account_model.specs.Ids.{chosen_id, used_uids, used_gids}
use Rattle.account_model.specs.NewAccount.{free_uid, free_gid}
use Rattle.account_model.specs.NewRanges.{id_number}
use Rattle.account_model.proofs.IdsLaws.{chosen-free}

-- ---- The value of a key

-- a number within a bound
within-by :
    (bound n m : ℕ) (small : Bool)
    → nat_le m bound ≡ small
    → (if small then Some m else None) ≡ Some n
    → n ≤ bound
within-by bound n m true small e = subst (λ k. k ≤ bound) (some-inj e) (leb-true m bound small)
within-by bound n m false small e = cc

-- what is within a bound is at most the bound
within-bound : (bound n : ℕ) (o : Option ℕ) → within bound o ≡ Some n → n ≤ bound
within-bound bound n None e = cc
within-bound bound n (Some m) e = within-by bound n m (nat_le m bound) refl e

-- the number under two `Some`s
some-map-inj : (n : ℕ) (o : Option ℕ) → option_map Some o ≡ Some (Some n) → o ≡ Some n
some-map-inj n None e = cc
some-map-inj n (Some m) e = some-inj e

-- the same of a value that isn't -1
allowed-by :
    (bound n : ℕ) (o : Option ℕ)
    → option_map Some (within bound o) ≡ Some (Some n)
    → n ≤ bound
allowed-by bound n o e = within-bound bound n o (some-map-inj n (within bound o) e)

-- the bound of a key: that of IDs, or that of days
abbrev bound_of : Bool → ℕ
bound_of days = if days then greatest_days else greatest_id

-- the value of a key that is either -1 or a number of days
days-by :
    (n : ℕ) (o : Option ℕ) (cleared : Bool)
    → (if cleared then Some None else option_map Some (within greatest_days o)) ≡ Some (Some n)
    → n ≤ greatest_days
days-by n o true e = cc
days-by n o false e = allowed-by greatest_days n o e

-- a value that a key allows is within the key's bound
key-by :
    (text : List ℕ) (n : ℕ) (days : Bool)
    → (if days
    then (if bytes_eq text (codes "-1") then Some None
    else option_map Some (within greatest_days (setting_number text)))
    else option_map Some (within greatest_id (setting_number text))) ≡ Some (Some n)
    → n ≤ bound_of days
key-by text n true e = days-by n (setting_number text) (bytes_eq text (codes "-1")) e
key-by text n false e = allowed-by greatest_id n (setting_number text) e

-- a value that is given is within the key's bound
given-bound :
    (key : Key) (o : Option (List ℕ)) (n : ℕ)
    → option_and_then (allowed_value key) o ≡ Some (Some n)
    → n ≤ bound_of (is_days_key key)
given-bound key None n e = cc
given-bound key (Some text) n e = key-by text n (is_days_key key) e

-- a value that is given, or the default
number-by :
    (bound : ℕ) (given : Option (Option ℕ)) (default : Option ℕ) (n : ℕ)
    → ((m : ℕ) → given ≡ Some (Some m) → m ≤ bound)
    → ((m : ℕ) → default ≡ Some m → m ≤ bound)
    → unwrap_or given default ≡ Some n
    → n ≤ bound
number-by bound None default n given small e = small n e
number-by bound (Some value) default n given small e = given n (ap Some e)

-- a number is within the key's bound, where the default is
number-bound :
    (key : Key) (default : Option ℕ) (settings : List Setting) (n : ℕ)
    → ((m : ℕ) → default ≡ Some m → m ≤ bound_of (is_days_key key))
    → unwrap_or (given_value key settings) default ≡ Some n
    → n ≤ bound_of (is_days_key key)
number-bound key default settings n small e =
    number-by (bound_of (is_days_key key)) (given_value key settings) default n
    (given-bound key (last_setting_value (key_name key) settings)) small e

-- a literal that is small enough
literal-small : (bound m n : ℕ) → m ≤ bound → Some m ≡ Some n → n ≤ bound
literal-small bound m n small e = subst (λ k. k ≤ bound) (some-inj e) small

-- one less than a small number
less-bound :
    (o : Option ℕ) (n : ℕ)
    → ((m : ℕ) → o ≡ Some m → m ≤ greatest_id)
    → one_less o ≡ Some n
    → n ≤ greatest_id
less-bound None n small e = cc
less-bound (Some zero) n small e = cc
less-bound (Some (suc m)) n small e =
    let bound : suc m ≤ greatest_id = small (suc m) refl
    in let same : m ≡ n = some-inj e
    in omega (arith, bound, same)

-- ---- Days

-- a number of days by the settings is one that shadow holds
days-by-number : (o : Option ℕ) → ((n : ℕ) → o ≡ Some n → n ≤ greatest_days) → IsDaysNumber o
days-by-number None small = tt
days-by-number (Some n) small = small n refl

-- without a default
pub no-default : (bound m : ℕ) → None ≡ Some m → m ≤ bound
no-default bound m e = cc

-- PASS_MIN_DAYS
pub minimum-days : (settings : List Setting) → IsDaysNumber (number PassMinDays settings)
minimum-days settings = days-by-number (number PassMinDays settings)
    (λ n e. number-bound PassMinDays None settings n (no-default greatest_days) e)

-- PASS_MAX_DAYS
pub maximum-days : (settings : List Setting) → IsDaysNumber (number PassMaxDays settings)
maximum-days settings = days-by-number (number PassMaxDays settings)
    (λ n e. number-bound PassMaxDays None settings n (no-default greatest_days) e)

-- PASS_WARN_AGE
pub warning-days : (settings : List Setting) → IsDaysNumber (number PassWarnAge settings)
warning-days settings = days-by-number (number PassWarnAge settings)
    (λ n e. number-bound PassWarnAge None settings n (no-default greatest_days) e)

-- ---- Ranges

-- the maximum of a range is the second number
between-by :
    (low high : ℕ) (r : ℕ × ℕ) (fits : Bool)
    → (if fits then Some (low, high) else None) ≡ Some r
    → ◌≡◌ {A = Option ℕ} (Some high) (Some r.1)
between-by low high r true e = ap (λ (p : ℕ × ℕ). Some p.1) (some-inj e)
between-by low high r false e = cc

-- the maximum of a range is the greater bound
between-high : (low high : Option ℕ) (r : ℕ × ℕ) → range_between low high ≡ Some r → high ≡ Some r.1
between-high None high r e = cc
between-high (Some low) None r e = cc
between-high (Some low) (Some high) r e = between-by low high r (nat_le low high) e

-- the maximum of a range is at most the greatest ID
small-range :
    (low high : Option ℕ) (r : ℕ × ℕ)
    → ((n : ℕ) → high ≡ Some n → n ≤ greatest_id)
    → range_between low high ≡ Some r
    → r.1 ≤ greatest_id
small-range low high r small e = small r.1 (between-high low high r e)

-- the least regular UID, and so the number before it
uid-minimum :
    (settings : List Setting) (n : ℕ)
    → unwrap_or (given_value UidMin settings) (Some 1000) ≡ Some n
    → n ≤ greatest_id
uid-minimum settings n e =
    number-bound UidMin (Some 1000) settings n (λ m. literal-small greatest_id 1000 m (lit≤ tt)) e

-- the least regular GID
gid-minimum :
    (settings : List Setting) (n : ℕ)
    → unwrap_or (given_value GidMin settings) (Some 1000) ≡ Some n
    → n ≤ greatest_id
gid-minimum settings n e =
    number-bound GidMin (Some 1000) settings n (λ m. literal-small greatest_id 1000 m (lit≤ tt)) e

-- UIDs are chosen from a range of IDs
uid-range :
    (kind : Kind) (settings : List Setting) (r : ℕ × ℕ)
    → range Uid kind settings ≡ Some r
    → r.1 ≤ greatest_id
uid-range Regular settings r e = small-range (number UidMin settings) (number UidMax settings) r
    (λ n. number-bound UidMax (Some 60000) settings n
    (λ m. literal-small greatest_id 60000 m (lit≤ tt))) e
uid-range System settings r e =
    small-range (number SysUidMin settings) (number SysUidMax settings) r
    (λ n. number-bound SysUidMax (default_value SysUidMax settings) settings n
    (λ m. less-bound (unwrap_or (given_value UidMin settings) (Some 1000)) m
    (uid-minimum settings))) e

-- and so are GIDs
gid-range :
    (kind : Kind) (settings : List Setting) (r : ℕ × ℕ)
    → range Gid kind settings ≡ Some r
    → r.1 ≤ greatest_id
gid-range Regular settings r e = small-range (number GidMin settings) (number GidMax settings) r
    (λ n. number-bound GidMax (Some 60000) settings n
    (λ m. literal-small greatest_id 60000 m (lit≤ tt))) e
gid-range System settings r e =
    small-range (number SysGidMin settings) (number SysGidMax settings) r
    (λ n. number-bound SysGidMax (default_value SysGidMax settings) settings n
    (λ m. less-bound (unwrap_or (given_value GidMin settings) (Some 1000)) m
    (gid-minimum settings))) e

-- what is chosen from a range is at most its maximum
chosen-small :
    (kind : Kind) (from : Option (ℕ × ℕ)) (used : List ℕ) (id : ℕ)
    → ((r : ℕ × ℕ) → from ≡ Some r → r.1 ≤ greatest_id)
    → chosen_id kind from used ≡ Some id
    → id ≤ greatest_id
chosen-small kind None used id small e = cc
chosen-small kind (Some r) used id small e =
    let bound : r.1 ≤ greatest_id = small r refl
    in let within : id ≤ r.1 = (chosen-free kind r.0 r.1 used id e).not_above
    in le_trans within bound

-- a chosen UID is an ID
pub free-uid-small :
    (kind : Kind) (files : Files) (settings : List Setting) (uid : ℕ)
    → free_uid kind files settings ≡ Some uid
    → uid ≤ greatest_id
free-uid-small kind files settings uid e =
    chosen-small kind (range Uid kind settings) (used_uids files) uid (uid-range kind settings) e

-- a chosen GID is an ID
pub free-gid-small :
    (kind : Kind) (files : Files) (settings : List Setting) (gid : ℕ)
    → free_gid kind files settings ≡ Some gid
    → gid ≤ greatest_id
free-gid-small kind files settings gid e =
    chosen-small kind (range Gid kind settings) (used_gids files) gid (gid-range kind settings) e

-- ---- Subordinate IDs

-- a number that may be absent, and else 0
unwrapped-small :
    (o : Option ℕ)
    → ((n : ℕ) → o ≡ Some n → n ≤ greatest_id)
    → unwrap_or o 0 ≤ greatest_id
unwrapped-small None small = lit≤ tt
unwrapped-small (Some n) small = small n refl

-- SUB_UID_MAX
pub subuid-maximum : (settings : List Setting) → id_number SubUidMax settings ≤ greatest_id
subuid-maximum settings = unwrapped-small (number SubUidMax settings)
    (λ n. number-bound SubUidMax (Some 600100000) settings n
    (λ m. literal-small greatest_id 600100000 m (lit≤ tt)))

-- SUB_GID_MAX
pub subgid-maximum : (settings : List Setting) → id_number SubGidMax settings ≤ greatest_id
subgid-maximum settings = unwrapped-small (number SubGidMax settings)
    (λ n. number-bound SubGidMax (Some 600100000) settings n
    (λ m. literal-small greatest_id 600100000 m (lit≤ tt)))
