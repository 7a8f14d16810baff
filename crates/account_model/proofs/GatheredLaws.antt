-- Claim: conversion to the table of hashes keeps the hash that opens each account (`gathers`). Way: the record that is
-- found under a name in the table of hashes after its edits is the old one, which took the field over, or a new one
-- (`found-gathered`). The first main record of a name is the only one, so the hash of each is its old one
-- (`login-gathered`).
use Rattle.std.proofs.Common.{◌≡◌, ℕ, Bool, true, false, not, List, [], ◌∷◌, ◌++◌, map, refl, sym, ◌∙◌, ap, subst, inl, inr}
use Rattle.std.specs.Prelude.{Option, Some, None, bytes_eq, flat_map, ⊤, fold, is_some, option_map, unwrap_or, if◌then◌else◌}
use Rattle.std.specs.Option.{option_or}
use Rattle.std.proofs.lemmas.Bool.{cases_Bool}
use Rattle.std.proofs.lemmas.List.Folds.{find-append}
use Rattle.std.proofs.lemmas.Slice.Eq.{bytes_eq-Decides}
use Rattle.account_model.specs.Format.{is_named, find_named, has_named}
use Rattle.account_model.specs.Edits.{AddMissing}
use Rattle.account_model.specs.RecordEdits.{records_edited}
use Rattle.account_model.specs.Hashes.{elsewhere}
use Rattle.account_model.specs.Conversion.{Accounts, login_hash, taken_over}
use Rattle.account_model.specs.ConversionLaws.{NamesAreDistinct, Both, KeepsHashes, IsGathered}
use Rattle.account_model.proofs.RefusalFacts.{find-held}
use Rattle.account_model.proofs.ConversionLaws.{or-none, all-found, any-records, each-with, all-by, all-of, all-with, has-with}

-- ---- Records of hashes after the edits

module _ {M H : Type 0} (accounts : Accounts M H) (take : M → H → H) (made : M → H)
    (field_of : (text : List ℕ) (m : M) → accounts.field (accounts.with_field text m) ≡ text)
    (name_of :
    (text : List ℕ) (m : M)
    → accounts.main.name (accounts.with_field text m) ≡ accounts.main.name m)
    (take_name : (m : M) (h : H) → accounts.hashes.name (take m h) ≡ accounts.hashes.name h)
    (take_hash : (m : M) (h : H) → accounts.hash (take m h) ≡ accounts.field m)
    (made_name : (m : M) → accounts.hashes.name (made m) ≡ accounts.main.name m)
    (made_hash : (m : M) → accounts.hash (made m) ≡ accounts.field m) where
  -- the records whose name the main table has
  abbrev pub named : List M → List H → List H
  named mains hashes = flat_map (λ h.
      if not (has_named accounts.main (accounts.hashes.name h) mains) then [] else h ∷ []) hashes

  -- a record that stays or goes, in front of the others
  kept-by :
      (mains : List M) (name : List ℕ) (h : H) (hashes : List H) (same there : Bool)
      → bytes_eq (accounts.hashes.name h) name ≡ same
      → has_named accounts.main (accounts.hashes.name h) mains ≡ there
      → find_named accounts.hashes name (named mains hashes)
      ≡ (if has_named accounts.main name mains
      then find_named accounts.hashes name hashes else None)
      → find_named accounts.hashes name
      ((if not there then [] else h ∷ []) ++ named mains hashes)
      ≡ (if has_named accounts.main name mains
      then (if same then Some h else find_named accounts.hashes name hashes) else None)
  kept-by mains name h hashes true there is has later =
      let same : accounts.hashes.name h ≡ name =
      (bytes_eq-Decides (accounts.hashes.name h) name).0 is
      in let known : has_named accounts.main name mains ≡ there =
      subst (λ other. has_named accounts.main other mains ≡ there) same has
      in first there known later
    where
      first :
          (there : Bool)
          → has_named accounts.main name mains ≡ there
          → find_named accounts.hashes name (named mains hashes)
          ≡ (if has_named accounts.main name mains
          then find_named accounts.hashes name hashes else None)
          → find_named accounts.hashes name
          ((if not there then [] else h ∷ []) ++ named mains hashes)
          ≡ (if has_named accounts.main name mains then Some h else None)
      first true known later = rw (known, is) refl
      first false known later = rw known (rw known at later)
  kept-by mains name h hashes false true is has later = rw is later
  kept-by mains name h hashes false false is has later = later

  -- a name that the main table has is found among the kept ones, and no other
  found-kept :
      (mains : List M) (name : List ℕ) (hashes : List H)
      → find_named accounts.hashes name (named mains hashes)
      ≡ (if has_named accounts.main name mains
      then find_named accounts.hashes name hashes else None)
  found-kept mains name [] = elim (cases_Bool (has_named accounts.main name mains)) [
    | inl there ↦ rw there refl
    | inr lacks ↦ rw lacks refl
  ]
  found-kept mains name (h ∷ hashes) =
      kept-by mains name h hashes (bytes_eq (accounts.hashes.name h) name)
      (has_named accounts.main (accounts.hashes.name h) mains) refl refl
      (found-kept mains name hashes)

  -- what takes a field over keeps its name, by whether it does
  taken-name-by :
      (m : M) (h : H) (b : Bool)
      → accounts.hashes.name (if b then h else take m h) ≡ accounts.hashes.name h
  taken-name-by m h true = refl
  taken-name-by m h false = take_name m h

  -- what takes a field over keeps its name, by the main record of its name
  taken-name :
      (h : H) (o : Option M)
      → accounts.hashes.name (elim o as (λ o. H) [
        | None ↦ h
        | Some m ↦ if bytes_eq (accounts.field m) elsewhere then h else take m h
      ])
      ≡ accounts.hashes.name h
  taken-name h None = refl
  taken-name h (Some m) = taken-name-by m h (bytes_eq (accounts.field m) elsewhere)

  -- what is found among those that took fields over
  found-taken :
      (mains : List M) (name : List ℕ) (hashes : List H)
      → find_named accounts.hashes name (map (taken_over accounts take mains) hashes)
      ≡ option_map (taken_over accounts take mains) (find_named accounts.hashes name hashes)
  found-taken mains name [] = refl
  found-taken mains name (h ∷ hashes) =
      rw (taken-name h (find_named accounts.main (accounts.hashes.name h) mains))
      (by (bytes_eq (accounts.hashes.name h) name) (found-taken mains name hashes))
    where
      by :
          (same : Bool)
          → find_named accounts.hashes name (map (taken_over accounts take mains) hashes)
          ≡ option_map (taken_over accounts take mains) (find_named accounts.hashes name hashes)
          → (if same then Some (taken_over accounts take mains h)
          else find_named accounts.hashes name (map (taken_over accounts take mains) hashes))
          ≡ option_map (taken_over accounts take mains)
          (if same then Some h else find_named accounts.hashes name hashes)
      by true later = refl
      by false later = later

  -- what is found of records, and of those that are made behind them
  abbrev found_or_made : List M → List H → List ℕ → Option H
  found_or_made mains hashes name = option_or (find_named accounts.hashes name hashes)
      (option_map made (find_named accounts.main name mains))

  -- all records with those that are made on demand
  abbrev pub with_made : List M → List H → List H
  with_made mains hashes =
      fold (records_edited accounts.hashes) hashes (map (λ m. AddMissing (made m)) mains)

  -- one record on demand, by what is found of its name
  found-one :
      (m : M) (hashes : List H) (name : List ℕ) (o : Option H)
      → find_named accounts.hashes (accounts.main.name m) hashes ≡ o
      → find_named accounts.hashes name (if is_some o then hashes else hashes ++ made m ∷ [])
      ≡ found_or_made (m ∷ []) hashes name
  found-one m hashes name o is = elim (cases_Bool (bytes_eq (accounts.main.name m) name)) [
    | inl same ↦
        let same_name = (bytes_eq-Decides (accounts.main.name m) name).0 same
        in named-so o same
        (subst (λ other. find_named accounts.hashes other hashes ≡ o) same_name is)
    | inr differ ↦ other-name o differ
  ]
    where
      named-so :
          (o : Option H)
          → bytes_eq (accounts.main.name m) name ≡ true
          → find_named accounts.hashes name hashes ≡ o
          → find_named accounts.hashes name (if is_some o then hashes else hashes ++ made m ∷ [])
          ≡ found_or_made (m ∷ []) hashes name
      named-so None same is =
          find-append (is_named accounts.hashes name) hashes (made m ∷ [])
          ∙ (rw (is, made_name m, same) refl)
      named-so (Some h) same is = rw is refl

      other-name :
          (o : Option H)
          → bytes_eq (accounts.main.name m) name ≡ false
          → find_named accounts.hashes name (if is_some o then hashes else hashes ++ made m ∷ [])
          ≡ found_or_made (m ∷ []) hashes name
      other-name None differ =
          find-append (is_named accounts.hashes name) hashes (made m ∷ [])
          ∙ (rw (made_name m, differ) refl)
      other-name (Some h) differ = rw differ (or-none (find_named accounts.hashes name hashes))

  -- two sources of records, one behind the other
  made-behind :
      (m : M) (mains : List M) (name : List ℕ) (o : Option H)
      → option_or (option_or o (option_map made (find_named accounts.main name (m ∷ []))))
      (option_map made (find_named accounts.main name mains))
      ≡ option_or o (option_map made (find_named accounts.main name (m ∷ mains)))
  made-behind m mains name (Some h) = refl
  made-behind m mains name None = by (bytes_eq (accounts.main.name m) name)
    where
      by :
          (same : Bool)
          → option_or (option_map made (if same then Some m else None))
          (option_map made (find_named accounts.main name mains))
          ≡ option_map made (if same then Some m else find_named accounts.main name mains)
      by true = refl
      by false = refl

  -- what is found among all of them
  found-made :
      (mains : List M) (hashes : List H) (name : List ℕ)
      → find_named accounts.hashes name (with_made mains hashes)
      ≡ found_or_made mains hashes name
  found-made [] hashes name = or-none (find_named accounts.hashes name hashes)
  found-made (m ∷ mains) hashes name =
      found-made mains (records_edited accounts.hashes hashes (AddMissing (made m))) name
      ∙ ap (λ o. option_or o (option_map made (find_named accounts.main name mains)))
      (rw (made_name m) (found-one m hashes name
      (find_named accounts.hashes (accounts.main.name m) hashes) refl))
      ∙ made-behind m mains name (find_named accounts.hashes name hashes)

  -- the records after all edits
  abbrev pub all_gathered : List M → List H → List H
  all_gathered mains hashes =
      with_made mains (map (taken_over accounts take mains) (named mains hashes))

  -- what is found among them: the old record of the name, which took the field over, or a new one
  found-gathered :
      (mains : List M) (hashes : List H) (name : List ℕ) (m : M)
      → find_named accounts.main name mains ≡ Some m
      → find_named accounts.hashes name (all_gathered mains hashes)
      ≡ option_or (option_map (taken_over accounts take mains)
      (find_named accounts.hashes name hashes)) (Some (made m))
  found-gathered mains hashes name m found =
      found-made mains (map (taken_over accounts take mains) (named mains hashes)) name
      ∙ ap (λ o. option_or o (option_map made (find_named accounts.main name mains)))
      (found-taken mains name (named mains hashes))
      ∙ rw (found-kept mains name hashes, found) refl

  -- a name is found where the main table has it
  has-gathered :
      (mains : List M) (hashes : List H) (name : List ℕ)
      → has_named accounts.hashes name (all_gathered mains hashes)
      ≡ has_named accounts.main name mains
  has-gathered mains hashes name =
      ap is_some (found-made mains (map (taken_over accounts take mains) (named mains hashes)) name
      ∙ ap (λ o. option_or o (option_map made (find_named accounts.main name mains)))
      (found-taken mains name (named mains hashes)
      ∙ ap (option_map (taken_over accounts take mains)) (found-kept mains name hashes)))
      ∙ by (find_named accounts.main name mains) (find_named accounts.hashes name hashes)
    where
      by :
          (o : Option M) (found : Option H)
          → is_some (option_or (option_map (taken_over accounts take mains)
          (if is_some o then found else None)) (option_map made o)) ≡ is_some o
      by None found = refl
      by (Some m) None = refl
      by (Some m) (Some h) = refl

  -- ---- The hash of a login

  -- the hash of a new record, or of one that took the field over, by whether the field is `x`
  hash-gathered :
      (mains : List M) (hashes : List H) (m : M) (o : Option H) (b : Bool)
      → find_named accounts.main (accounts.main.name m) mains ≡ Some m
      → find_named accounts.hashes (accounts.main.name m) hashes ≡ o
      → bytes_eq (accounts.field m) elsewhere ≡ b
      → unwrap_or (option_map accounts.hash
      (option_or (option_map (taken_over accounts take mains) o) (Some (made m)))) elsewhere
      ≡ (if b then unwrap_or (option_map accounts.hash o) (accounts.field m)
      else accounts.field m)
  hash-gathered mains hashes m None true found none is = made_hash m
  hash-gathered mains hashes m None false found none is = made_hash m
  hash-gathered mains hashes m (Some h) b found there is =
      let name : bytes_eq (accounts.hashes.name h) (accounts.main.name m) ≡ true =
      (find-held (λ h. ⊤) (is_named accounts.hashes (accounts.main.name m)) hashes h
      (any-records accounts.hashes hashes) there).1
      in let same : accounts.hashes.name h ≡ accounts.main.name m =
      (bytes_eq-Decides (accounts.hashes.name h) (accounts.main.name m)).0 name
      in let main : find_named accounts.main (accounts.hashes.name h) mains ≡ Some m =
      subst (λ name. find_named accounts.main name mains ≡ Some m) (sym same) found
      in ap accounts.hash (taken main) ∙ by b
    where
      taken :
          find_named accounts.main (accounts.hashes.name h) mains ≡ Some m
          → taken_over accounts take mains h ≡ (if b then h else take m h)
      taken main = rw (taken_over, main, is) refl

      by :
          (b : Bool)
          → accounts.hash (if b then h else take m h)
          ≡ (if b then accounts.hash h else accounts.field m)
      by true = refl
      by false = take_hash m h

  -- a login keeps its hash
  login-gathered :
      (mains : List M) (hashes : List H) (m : M)
      → find_named accounts.main (accounts.main.name m) mains ≡ Some m
      → login_hash accounts (all_gathered mains hashes) (accounts.with_field elsewhere m)
      ≡ login_hash accounts hashes m
  login-gathered mains hashes m found =
      rw (
        field_of elsewhere m,
        name_of elsewhere m,
        found-gathered mains hashes (accounts.main.name m) m found,
      )
      (hash-gathered mains hashes m (find_named accounts.hashes (accounts.main.name m) hashes)
      (bytes_eq (accounts.field m) elsewhere) found refl refl)

  -- to the table of hashes
  pub gathers :
      (both new : Both M H)
      → NamesAreDistinct accounts.main both.mains
      → new.mains ≡ map (accounts.with_field elsewhere) both.mains
      → new.hashes ≡ all_gathered both.mains both.hashes
      → KeepsHashes accounts both new × IsGathered accounts new
  gathers both new apart mains hashes = rw (mains, hashes) (
    record {
      names = each-with accounts.main.name accounts.main.name (accounts.with_field elsewhere)
          both.mains (all-of (λ m. accounts.main.name (accounts.with_field elsewhere m)
          ≡ accounts.main.name m) both.mains (name_of elsewhere));
      hashes = each-with (login_hash accounts (all_gathered both.mains both.hashes))
          (login_hash accounts both.hashes) (accounts.with_field elsewhere) both.mains
          (all-by (λ m. find_named accounts.main (accounts.main.name m) both.mains ≡ Some m)
          (λ m. login_hash accounts (all_gathered both.mains both.hashes)
          (accounts.with_field elsewhere m) ≡ login_hash accounts both.hashes m) both.mains
          (login-gathered both.mains both.hashes) (all-found accounts.main both.mains apart));
    },
    record {
      hidden = all-with (λ m. accounts.field m ≡ elsewhere) (accounts.with_field elsewhere)
          both.mains (field_of elsewhere);
      names = λ name. has-gathered both.mains both.hashes name
          ∙ sym (has-with accounts field_of name_of name both.mains);
    },
  )
