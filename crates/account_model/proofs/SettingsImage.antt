-- The login.defs of a small system, on which rows are computed.
use Rattle.std.specs.Prelude.{ℕ, List, [], ◌∷◌, ◌++◌, flat_map, codes}
use Rattle.acct_text.specs.Bytes.{newline}

-- a file of these lines, each with its end
abbrev pub file : List (List ℕ) → List ℕ
file texts = flat_map (λ text. text ++ newline ∷ []) texts

-- the lines of login.defs
abbrev pub image_defs : List (List ℕ)
image_defs = codes "# settings of the image"
    ∷ codes "MAIL_DIR        /var/mail"
    ∷ codes "PASS_MAX_DAYS   99999"
    ∷ codes "PASS_MIN_DAYS   0"
    ∷ codes "PASS_WARN_AGE   7"
    ∷ codes "UID_MIN          1000"
    ∷ codes "UID_MAX         60000"
    ∷ codes "USERGROUPS_ENAB yes"
    ∷ codes "UMASK           022"
    ∷ []
