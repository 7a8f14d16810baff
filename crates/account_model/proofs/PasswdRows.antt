-- passwd on files that are written as texts, each row decided by computing.
use Prim.Native.String.{String}
use Rattle.std.specs.Prelude.{◌≡◌, ℕ, List, [], ◌∷◌, flat_map, codes, refl, Some, None, Result, Ok, Err}
use Rattle.std.specs.Fmt.{digits}
use Rattle.std.specs.Str.{byte}
use Rattle.acct_text.specs.declared.Tab.TheVariants.{Shadow}
use Rattle.acct_text.specs.declared.files.Files.{Files}
use Rattle.account_model.specs.declared.given.Given.{Given}
use Rattle.account_model.specs.declared.tool.Tool.TheVariants.{Chage}
use Rattle.account_model.specs.declared.refusal.Refusal.{Refusal}
use Rattle.account_model.specs.declared.refusal.Refusal.TheVariants.{BadValue, NoUser, NoShadow, EmptyHash, Multiple}
use Rattle.account_model.specs.Request.{Request}
use Rattle.account_model.specs.Action.{Made, outcome_of}
use Rattle.account_model.specs.Passwd.{passwd}
use Rattle.account_model.proofs.Image.{image}
use Rattle.account_model.proofs.Commands.{words, lines, image_shadow_with, small}

-- an option as `l`, or as `x90` where it has a value
abbrev option_in : List ℕ → List Given
option_in [] = []
option_in (letter ∷ []) = record { letter = letter; value = None } ∷ []
option_in (letter ∷ value) = record { letter = letter; value = Some value } ∷ []

-- passwd with these options, between blanks, of a user
abbrev asked : String → String → Request
asked options user = record {
  tool = Chage;
  prefix = codes "R";
  options = flat_map option_in (words options);
  operands = codes user ∷ [];
  plan = None;
}

-- what it makes of files
abbrev after : String → String → Files → Result Made Refusal
after options user files = outcome_of (passwd (asked options user) files) files

-- the files become these, and nothing is printed
abbrev made : Files → Result Made Refusal
made files = Ok (record { files = files; status = 0; output = []; notices = [] })

-- bob's line of shadow in the image becomes this one
abbrev bob_becomes : String → Result Made Refusal
bob_becomes line = made (record image { shadow = Some (image_shadow_with line) })

-- the files stay, and this line is printed
abbrev told : Files → String → Result Made Refusal
told files line = Ok (record { files = files; status = 0; output = lines line; notices = [] })

-- a user with a hash in shadow, without aging
abbrev with_hash : String → Files
with_hash line = record (small "a:x:1:1::/:" "") { shadow = Some (lines line) }

-- ---- The state

-- `passwd -P R -S bob`
state : after "S" "bob" image ≡ told image "bob P 2024-03-18 0 99999 7 -1"
unfolding digits
state = refl

-- `passwd -P R -S root` and `passwd -P R -S messagebus`: both are locked
state_of_star : after "S" "root" image ≡ told image "root L 2023-12-09 0 99999 7 -1"
unfolding digits
state_of_star = refl

state_of_mark : after "S" "messagebus" image ≡ told image "messagebus L 2023-12-09 -1 -1 -1 -1"
unfolding digits
state_of_mark = refl

-- `passwd -P R -S a`: day 0, and no password
state_of_day_zero : after "S" "a" (with_hash "a::0:1:2:3:4:5:")
    ≡ told (with_hash "a::0:1:2:3:4:5:") "a NP 1970-01-01 1 2 3 4"
unfolding digits
state_of_day_zero = refl

-- `passwd -P R -S a`: without a record of shadow the field of passwd is the hash, and there is no aging
state_without_record : after "S" "a" (with_hash "b:h:::::::")
    ≡ told (with_hash "b:h:::::::") "a P never -1 -1 -1 -1"
unfolding digits
state_without_record = refl

state_without_shadow : after "S" "a" (small "a:!:1:1::/:" "")
    ≡ told (small "a:!:1:1::/:" "") "a L never -1 -1 -1 -1"
unfolding digits
state_without_shadow = refl

-- ---- The hash

-- `passwd -P R -l bob`, `passwd -P R -d bob`, and `passwd -P R -u bob`, which isn't locked
lock : after "l" "bob" image ≡ bob_becomes "bob:!$y$hash:19800:0:99999:7:::"
unfolding digits
lock = refl

empty : after "d" "bob" image ≡ bob_becomes "bob::19800:0:99999:7:::"
unfolding digits
empty = refl

unlock_open : after "u" "bob" image ≡ made image
unfolding digits
unlock_open = refl

-- `passwd -P R -u a`: one `!` goes
unlock : after "u" "a" (with_hash "a:!!h:::::::") ≡ made (with_hash "a:!h:::::::")
unfolding digits
unlock = refl

-- `passwd -P R -l a`: a locked hash stays, and its line keeps its bytes
lock_again : after "l" "a" (with_hash "a:!h:-1::::::") ≡ made (with_hash "a:!h:-1::::::")
unfolding digits
lock_again = refl

-- `passwd -P R -l a`: without shadow the hash stands in passwd
lock_in_passwd : after "l" "a" (small "a:h:01:1::/:" "") ≡ made (small "a:!h:1:1::/:" "")
unfolding digits
lock_in_passwd = refl

-- `passwd -P R -u a` and `passwd -P R -x 90 a`: a user that shadow lacks gets a line with the field of passwd
unlock_on_demand : after "u" "a" (record (small "a:!h:1:1::/:" "") { shadow = Some [] })
    ≡ made (with_hash "a:h:::::::")
unfolding digits
unlock_on_demand = refl

age_on_demand : after "x90" "a" (record (small "a:h:1:1::/:" "") { shadow = Some [] })
    ≡ made (with_hash "a:h:::90::::")
unfolding digits
age_on_demand = refl

-- ---- The aging

-- `passwd -P R -x 90 -w 14 bob`, `passwd -P R -n 1 -i -1 bob` and `passwd -P R -e bob`
aging : after "x90 w14" "bob" image ≡ bob_becomes "bob:$y$hash:19800:0:90:14:::"
unfolding digits
aging = refl

more_aging : after "n1 i-1" "a" (with_hash "a:h:3:4:5:6:7:8:r")
    ≡ made (with_hash "a:h:3:1:5:6::8:r")
unfolding digits
more_aging = refl

expire : after "e" "bob" image ≡ bob_becomes "bob:$y$hash:0:0:99999:7:::"
unfolding digits
expire = refl

-- `passwd -P R -l -e -x 5 a`: all of them
lock_and_age : after "l e x5" "a" (with_hash "a:h:3:4:::::") ≡ made (with_hash "a:!h:0:4:5::::")
unfolding digits
lock_and_age = refl

-- ---- The refusals

-- `passwd -P R -u messagebus`
no_password_left : after "u" "messagebus" image ≡ Err (EmptyHash (codes "messagebus"))
no_password_left = refl

-- `passwd -P R -u a`: the field of passwd is the hash where shadow lacks the user
no_field_left : after "u" "a" (record (small "a:!:1:1::/:" "") { shadow = Some [] })
    ≡ Err (EmptyHash (codes "a"))
no_field_left = refl

-- `passwd -P R -i x -w -2 ann`: values are tested in the order of the page, before the user
bad_warning : after "ix w-2" "ann" image ≡ Err (BadValue (byte "w") (codes "-2"))
bad_warning = refl

-- `passwd -P R -e ann`: the user before shadow
no_user : after "e" "ann" (small "a:!:1:1::/:" "") ≡ Err (NoUser (codes "ann"))
no_user = refl

no_state : after "S" "ann" image ≡ Err (NoUser (codes "ann"))
no_state = refl

-- `passwd -P R -u -e a`: shadow before the hash; a hash alone needs none
no_shadow : after "u e" "a" (small "a:!:1:1::/:" "") ≡ Err NoShadow
no_shadow = refl

-- `passwd -P R -l a`: the name stands twice, and the state of the first can be shown
twice : after "l" "a" (with_hash "a:h:::::::|a:g:::::::") ≡ Err (Multiple Shadow (codes "a"))
unfolding digits
twice = refl

state_of_first : after "S" "a" (with_hash "a::::::::|a:g:::::::")
    ≡ told (with_hash "a::::::::|a:g:::::::") "a NP never -1 -1 -1 -1"
unfolding digits
state_of_first = refl
