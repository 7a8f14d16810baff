-- What is found among files after one was dropped or put.
use Rattle.std.proofs.Common.{◌≡◌, ℕ, ◌+◌, ◌<◌, length, take, get_or, true, false, not, cond, List, [], ◌∷◌, ◌++◌, Option, None, Some, refl, sym, ◌∙◌, ap, subst, inl, inr}
use Rattle.std.specs.List.{filter}
use Rattle.std.proofs.lemmas.List.{take_more}
use Rattle.std.proofs.lemmas.Bool.{cases_Bool, cond-true, cond-false}
use Rattle.acct_text.specs.Bytes.{Bytes}
use Rattle.acct_outside.specs.declared.Name.{Name}
use Rattle.acct_outside.specs.Names.{same_name}
use Rattle.acct_outside.specs.Folder.{Folder, with_file}
use Rattle.memory_folder.specs.Store.{file_in, folder_of, with_files}
use Rattle.acct_outside.proofs.NameLemmas.{name-is, name-same}

-- a name that isn't another isn't it the other way round either
else_back : (name other : Name) → same_name other name ≡ false → same_name name other ≡ false
else_back name other isnt = elim (cases_Bool (same_name name other)) [
  | inl hit ↦ absurd (
      let same : name ≡ other = name-is name other hit in
      let at : same_name other name ≡ true =
      subst (λ n. same_name other n ≡ true) (sym same) (name-same other) in
      cc (at, isnt))
  | inr miss ↦ miss
]

module _ (name : Name) where
  -- the files but those of the name
  abbrev pub others_of : List (Name × Bytes) → List (Name × Bytes)
  others_of files = filter (λ file. not (same_name file.0 name)) files

  -- a test that holds of this name tells another one apart
  apart :
      (here other : Name)
      → same_name here name ≡ true
      → same_name other name ≡ false
      → same_name here other ≡ false
  apart here other is isnt = elim (cases_Bool (same_name here other)) [
    | inl hit ↦ absurd (
        let same : here ≡ other = name-is here other hit in
        let at : same_name other name ≡ true = subst (λ n. same_name n name ≡ true) same is in
        cc (at, isnt))
    | inr miss ↦ miss
  ]

  -- what is the same as another than this name isn't this name either
  else_apart :
      (here other : Name)
      → same_name here name ≡ false
      → same_name here other ≡ true
      → same_name other name ≡ false
  else_apart here other isnt hit =
      subst (λ n. same_name n name ≡ false) (name-is here other hit) isnt

  -- at the name nothing is left, and at others what stood
  pub file_in-others :
      (files : List (Name × Bytes)) (other : Name)
      → file_in (others_of files) other ≡ cond (same_name other name) None (file_in files other)
  file_in-others [] other = elim (cases_Bool (same_name other name)) [
    | inl hit ↦ sym (cond-true _ _ _ hit)
    | inr miss ↦ sym (cond-false _ _ _ miss)
  ]
  file_in-others (file ∷ files) other = elim (cases_Bool (same_name file.0 name)) [
    | inl hit ↦ rw hit (file_in-others files other ∙ elim (cases_Bool (same_name other name)) [
      | inl is ↦ rw is refl
      | inr isnt ↦ rw (isnt, apart file.0 other hit isnt) refl
    ])
    | inr miss ↦ rw miss (elim (cases_Bool (same_name file.0 other)) [
      | inl here ↦ rw (here, else_apart file.0 other miss here) refl
      | inr not_here ↦ rw not_here (file_in-others files other)
    ])
  ]

-- the first where there is one, else the second
abbrev or_else : Option Bytes → Option Bytes → Option Bytes
or_else None second = second
or_else (Some bytes) second = Some bytes

-- without a second it is the first
or_else-none : (first : Option Bytes) → or_else first None ≡ first
or_else-none None = refl
or_else-none (Some bytes) = refl

-- the files in front come first
file_in-append :
    (front back : List (Name × Bytes)) (other : Name)
    → file_in (front ++ back) other ≡ or_else (file_in front other) (file_in back other)
file_in-append [] back other = refl
file_in-append (file ∷ front) back other = elim (cases_Bool (same_name file.0 other)) [
  | inl here ↦ rw here refl
  | inr not_here ↦ rw not_here (file_in-append front back other)
]

-- a file put behind the others
pub file_in-put :
    (files : List (Name × Bytes)) (name : Name) (bytes : Bytes) (other : Name) (old : Option Bytes)
    → file_in files other ≡ cond (same_name other name) None old
    → file_in (files ++ (name, bytes) ∷ []) other ≡ cond (same_name other name) (Some bytes) old
file_in-put files name bytes other old before =
    let put : Option Bytes → Option Bytes =
    λ o. or_else o (cond (same_name name other) (Some bytes) None) in
    file_in-append files ((name, bytes) ∷ []) other ∙ elim (cases_Bool (same_name other name)) [
      | inl is ↦
          let same : other ≡ name = name-is other name is in
          let back : same_name name other ≡ true =
          subst (λ n. same_name name n ≡ true) (sym same) (name-same name) in
          ap put (before ∙ cond-true _ _ _ is)
          ∙ cond-true _ _ _ back ∙ sym (cond-true _ _ _ is)
      | inr isnt ↦
          let back : same_name name other ≡ false = else_back name other isnt in
          ap put (before ∙ cond-false _ _ _ isnt)
          ∙ ap (or_else old) (cond-false _ _ _ back)
          ∙ or_else-none old ∙ sym (cond-false _ _ _ isnt)
    ]

-- files and lock numbers that are those of a folder make it
pub folder_of-is : (files : List (Name × Bytes)) (locks : List ℕ) (folder : Folder)
    → ((name : Name) → file_in files name ≡ folder.file name)
    → locks ≡ folder.locks
    → folder_of files locks ≡ folder
folder_of-is files locks folder same_files same_locks =
    λ i. record { file = λ name. same_files name i; locks = same_locks i }

-- one more file put in a folder
pub with_files-push : (files : List (Name × Bytes)) (file : Name × Bytes) (folder : Folder)
    → with_files (files ++ file ∷ []) folder
    ≡ with_file file.0 (Some file.1) (with_files files folder)
with_files-push [] file folder = refl
with_files-push (other ∷ files) file folder =
    with_files-push files file (with_file other.0 (Some other.1) folder)

-- the files up to a place, and the one there
pub with_files-more : (files : List (Name × Bytes)) (place : ℕ) (file : Name × Bytes)
    (folder : Folder)
    → place < length files
    → file ≡ get_or files place file
    → with_files (take (place + 1) files) folder
    ≡ with_file file.0 (Some file.1) (with_files (take place files) folder)
with_files-more files place file folder low is =
    ap (λ (l : List (Name × Bytes)). with_files l folder)
    (take_more files place file low
    ∙ ap (λ (f : Name × Bytes). take place files ++ f ∷ []) (sym is))
    ∙ with_files-push (take place files) file folder
