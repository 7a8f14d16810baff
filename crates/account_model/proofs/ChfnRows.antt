-- chfn and chsh from their words to their answer, each row decided by computing.
use Prim.Native.String.{String}
use Rattle.std.specs.Prelude.{◌≡◌, ◌∷◌, ◌++◌, codes, refl, take, Some, Result, []}
use Rattle.std.specs.Fmt.{digits}
use Rattle.std.specs.Str.{byte}
use Rattle.acct_text.specs.declared.files.Files.{Files}
use Rattle.acct_text.specs.declared.Tab.TheVariants.{Passwd}
use Rattle.account_model.specs.declared.refusal.Refusal.TheVariants.{BadValue, NoUser, Multiple}
use Rattle.account_model.specs.declared.word_fault.WordFault.{WordFault}
use Rattle.account_model.specs.Answer.{Answer}
use Rattle.account_model.proofs.Image.{image, image_passwd}
use Rattle.account_model.proofs.SettingsImage.{file}
use Rattle.account_model.proofs.Commands.{words, lines, on, plainly_on, changed, same, refused, small, AreAnswered, refusing}

-- bob's line of passwd in the image becomes this one
abbrev bob_becomes : String → Result Answer WordFault
bob_becomes line =
    changed (record image { passwd = Some (file (take 7 image_passwd) ++ lines line) })

-- a user with this comment, and no other
abbrev with_comment : String → Files
with_comment comment = record (small "" "") {
  passwd = Some (codes "a:x:1:1:" ++ codes comment ++ lines ":/:");
}

-- chfn with these words makes the second comment of the first
abbrev comments : String → String → String → Type 0
comments old asked new = plainly_on (with_comment old) (words asked) ≡ changed (with_comment new)

-- ---- chfn

-- `chfn -P R -f "Bob B" -r 12 bob`
two_parts :
    on image (words "chfn -P R -f" ++ codes "Bob B" ∷ words "-r 12 bob")
    ≡ bob_becomes "bob:x:1000:1000:Bob B,12,,:/home/bob:/bin/bash"
unfolding digits
two_parts = refl

-- without a comment all other parts are empty
no_comment : comments "" "chfn -P R -h 5 a" ",,,5"
unfolding digits
no_comment = refl

-- one part is the full name, and the others are missing
one_part : comments "Ann Lee" "chfn -P R -w 7 a" "Ann Lee,,7,"
unfolding digits
one_part = refl

-- the other part keeps its commas
other_kept : comments "A,1,2,3,x,y=z,," "chfn -P R -r 9 a" "A,9,2,3,x,y=z,,"
unfolding digits
other_kept = refl

-- and gets those of `-o`, an empty one goes
other_given : comments "A" "chfn -P R -o x,y=z a" "A,,,,x,y=z"
unfolding digits
other_given = refl

other_empty : comments "A,1,2,3,x" "chfn -P R -o  -f B a" "B,1,2,3"
unfolding digits
other_empty = refl

-- a comment that stays keeps the bytes of its line, and one of fewer parts gets its commas
same_comment : plainly_on (small "a:x:01:1:A,1,,:/:" "") (words "chfn -P R -f A a") ≡ same
unfolding digits
same_comment = refl

fewer_commas : comments "A,1" "chfn -P R -f A a" "A,1,,"
unfolding digits
fewer_commas = refl

-- ---- The refusals

-- what is refused on the image
refusals : AreAnswered (
    -- values in their order, before the user
    refusing "chfn -P R -o a:b -h a=b -w a,b -r a:b -f A,B ann"
    1 (BadValue (byte "f") (codes "A,B"))
    "chfn: invalid value for -f: A,B (no : , = and no newline)"
    ∷ refusing "chfn -P R -o a:b -h a=b ann" 1 (BadValue (byte "h") (codes "a=b"))
    "chfn: invalid value for -h: a=b (no : , = and no newline)"
    ∷ refusing "chfn -P R -o a:b ann" 1 (BadValue (byte "o") (codes "a:b"))
    "chfn: invalid value for -o: a:b (no : and no newline)"
    ∷ refusing "chfn -P R -f A ann" 1 (NoUser (codes "ann")) "chfn: unknown user ann"
    -- the value before the user
    ∷ refusing "chsh -P R -s sh ann" 1 (BadValue (byte "s") (codes "sh"))
    "chsh: invalid value for -s: sh (a path that begins with /, no : and no newline)"
    ∷ refusing "chsh -P R -s /bin/sh ann" 1 (NoUser (codes "ann")) "chsh: unknown user ann"
    ∷ [])
unfolding digits
refusals = refl

-- `chfn -P R -f A a`: the name stands twice
twice : plainly_on (small "a:x:1:1::/:|a:x:1:1:A,,,:/:" "") (words "chfn -P R -f A a")
    ≡ refused 1 (Multiple Passwd (codes "a")) "chfn: passwd has multiple entries for a"
unfolding digits
twice = refl

-- ---- chsh

-- `chsh -P R -s /bin/sh bob`, and `chsh -P R -s  bob`: no shell
shell : on image (words "chsh -P R -s /bin/sh bob")
    ≡ bob_becomes "bob:x:1000:1000:Bob,,,:/home/bob:/bin/sh"
unfolding digits
shell = refl

empty_shell : on image (words "chsh -P R -s  bob")
    ≡ bob_becomes "bob:x:1000:1000:Bob,,,:/home/bob:"
unfolding digits
empty_shell = refl
