-- What a text passes when a test of specs/Names or specs/Values passes it: it can stand in a field of a line
-- (`is_field-is`, `valid-name`), or in a list (`valid-listed`, `list-no_comma`).
use Rattle.std.proofs.Common.{◌≡◌, ◌≢◌, ℕ, ◌<◌, Bool, true, false, ◌&&◌, ◌||◌, not, List, [], ◌∷◌, ◌++◌, length, refl, sym, ◌∙◌, ap, arith, inl, inr}
use Rattle.std.specs.Prelude.{nat_le, bytes_eq, ◌==◌}
use Rattle.std.specs.List.{list_all, AllByRecursion}
use Rattle.std.proofs.lemmas.Bool.{eq-eqb, and_parts, not-true, true≢false}
use Rattle.std.proofs.lemmas.Bool.Decides.{eqb_tells}
use Rattle.acct_text.specs.Bytes.{newline, colon, is_empty}
use Rattle.acct_text.specs.Pieces.{Lacks, cut_at}
use Rattle.acct_text.specs.Numbers.{is_digits}
use Rattle.acct_text.proofs.Cut.{cut_at-is}
use Rattle.account_model.specs.Text.{comma, slash, hyphen, dollar, has_byte, begins_with, without_last, nonempty, distinct}
use Rattle.account_model.specs.Names.{is_valid_name, is_name_byte, is_reserved_name}
use Rattle.account_model.specs.Values.{is_field, is_folder, is_shell, list_value}
use Rattle.account_model.specs.Written.{IsField, IsNameField, IsListed}
use Rattle.account_model.proofs.ListLaws.{all-filter}

-- ---- Bytes that a text lacks

-- the first byte is another, and the rest lacks it
lacks-by :
    (byte first : ℕ) (rest : List ℕ) (same : Bool)
    → (first == byte) ≡ same
    → (same || has_byte byte rest) ≡ false
    → (has_byte byte rest ≡ false → Lacks byte rest)
    → Lacks byte (first ∷ rest)
lacks-by byte first rest true is none later = cc
lacks-by byte first rest false is none later =
    ((λ at. true≢false (sym (eq-eqb first byte at) ∙ is)), later none)

-- a text that hasn't a byte lacks it
pub lacks-byte : (byte : ℕ) (text : List ℕ) → has_byte byte text ≡ false → Lacks byte text
lacks-byte byte [] none = tt
lacks-byte byte (first ∷ rest) none =
    lacks-by byte first rest (first == byte) refl none (lacks-byte byte rest)

-- two texts that lack it lack it together
pub lacks-append : (byte : ℕ) (a b : List ℕ) → Lacks byte a → Lacks byte b → Lacks byte (a ++ b)
lacks-append byte [] b no_a no_b = no_b
lacks-append byte (first ∷ a) b no_a no_b = (no_a.0, lacks-append byte a b no_a.1 no_b)

-- ---- Fields

-- the text of a comment or a hash can stand in a field
pub is_field-is : (text : List ℕ) → is_field text ≡ true → IsField text
is_field-is text is =
    let parts = and_parts (not (has_byte colon text)) (not (has_byte newline text)) is
    in record {
      no_colon = lacks-byte colon text (not-true (has_byte colon text) parts.0);
      no_newline = lacks-byte newline text (not-true (has_byte newline text) parts.1);
    }

-- and so can that of a folder
pub is_folder-is : (text : List ℕ) → is_folder text ≡ true → IsField text
is_folder-is text is = is_field-is text (and_parts (is_field text) (begins_with slash text) is).0

-- and that of a shell
pub is_shell-is : (text : List ℕ) → is_shell text ≡ true → IsField text
is_shell-is text is =
    is_field-is text (and_parts (is_field text) (is_empty text || begins_with slash text) is).0

-- two fields together are one
pub field-append : (a b : List ℕ) → IsField a → IsField b → IsField (a ++ b)
field-append a b is_a is_b = record {
  no_colon = lacks-append colon a b is_a.no_colon is_b.no_colon;
  no_newline = lacks-append newline a b is_a.no_newline is_b.no_newline;
}

-- the empty field
pub empty-field : IsField []
empty-field = record { no_colon = tt; no_newline = tt }

-- ---- Valid names

-- a text that isn't empty has a byte
empty-some : (text : List ℕ) → not (is_empty text) ≡ true → 0 < length text
empty-some [] e = cc
empty-some (b ∷ text) e = omega arith

-- the last byte of a name is a name's or `$`
last-lacks :
    (byte last : ℕ)
    → is_name_byte byte ≡ false
    → dollar ≢ byte
    → list_all is_name_byte (without_last dollar (last ∷ [])) ≡ true
    → last ≢ byte
last-lacks byte last other no_dollar all = elim (eqb_tells last dollar) [
  | inl here ↦ (λ e. no_dollar (sym here.1 ∙ e))
  | inr past ↦
      let kept : (is_name_byte last && true) ≡ true = rw past.0 at all
      in (λ e. true≢false (sym (and_parts (is_name_byte last) true kept).0
      ∙ ap is_name_byte e ∙ other))
]

-- a name lacks each byte that isn't a name's
name-lacks :
    (byte : ℕ) (name : List ℕ)
    → is_name_byte byte ≡ false
    → dollar ≢ byte
    → list_all is_name_byte (without_last dollar name) ≡ true
    → Lacks byte name
name-lacks byte [] other no_dollar all = tt
name-lacks byte (last ∷ []) other no_dollar all = (last-lacks byte last other no_dollar all, tt)
name-lacks byte (first ∷ next ∷ rest) other no_dollar all =
    let parts = and_parts (is_name_byte first)
    (list_all is_name_byte (without_last dollar (next ∷ rest))) all
    in (
      (λ e. true≢false (sym parts.0 ∙ ap is_name_byte e ∙ other)),
      name-lacks byte (next ∷ rest)
          other no_dollar parts.1,
    )

-- the two tests of a valid name that matter for a line
pub record NameParts (name : List ℕ) : Type 0 where
  pub some : not (is_empty name) ≡ true
  pub bytes : list_all is_name_byte (without_last dollar name) ≡ true

-- a valid name passes them
name-parts : (name : List ℕ) → is_valid_name name ≡ true → NameParts name
name-parts name is =
    let some = not (is_empty name)
    in let short = some && nat_le (length name) 32
    in let clean = short && list_all is_name_byte (without_last dollar name)
    in let plain = clean && not (begins_with hyphen name)
    in let lettered = plain && not (is_digits name)
    in let of_lettered = and_parts lettered (not (is_reserved_name name)) is
    in let of_plain = and_parts plain (not (is_digits name)) of_lettered.0
    in let of_clean = and_parts clean (not (begins_with hyphen name)) of_plain.0
    in let of_short = and_parts short (list_all is_name_byte (without_last dollar name)) of_clean.0
    in record { some = (and_parts some (nat_le (length name) 32) of_short.0).0; bytes = of_short.1 }

-- a valid name can stand in a first field
pub valid-name : (name : List ℕ) → is_valid_name name ≡ true → IsNameField name
valid-name name is =
    let parts = name-parts name is
    in record {
      field = record {
        no_colon = name-lacks colon name refl (λ e. cc) parts.bytes;
        no_newline = name-lacks newline name refl (λ e. cc) parts.bytes;
      };
      some = empty-some name parts.some;
    }

-- and in a list
pub valid-listed : (name : List ℕ) → is_valid_name name ≡ true → IsListed name
valid-listed name is = record {
  name_field = valid-name name is;
  no_comma = name-lacks comma name refl (λ e. cc) (name-parts name is).bytes;
}

-- ---- Lists of names

-- and of those of which each stands once
all-distinct :
    (P : List ℕ → Type 0) (names : List (List ℕ))
    → AllByRecursion P names
    → AllByRecursion P (distinct names)
all-distinct P [] all = tt
all-distinct P (name ∷ names) all = (
  all.0,
  all-filter P (λ other. not (bytes_eq name other)) (distinct names)
      (all-distinct P names all.1),
)

-- the names of a list option have no comma
pub list-no_comma : (text : List ℕ) → AllByRecursion (Lacks comma) (list_value text)
list-no_comma text =
    all-distinct (Lacks comma) (nonempty (cut_at comma text))
    (all-filter (Lacks comma) (λ piece. not (is_empty piece)) (cut_at comma text)
    (cut_at-is comma text).apart)

-- names of first fields without a comma can stand in a list
pub both-listed :
    (names : List (List ℕ))
    → AllByRecursion IsNameField names
    → AllByRecursion (Lacks comma) names
    → AllByRecursion IsListed names
both-listed [] named no_comma = tt
both-listed (name ∷ names) named no_comma =
    (record { name_field = named.0; no_comma = no_comma.0 }, both-listed names named.1 no_comma.1)
