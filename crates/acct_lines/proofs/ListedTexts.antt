-- Claim: names added one behind the other give the canonical text of those that aren't empty
-- (`listed-all`), and so does one more (`listed-more`). Way: behind a first name each further one
-- stands with a comma in front (`behind`), in the text as in the list (`printed`).
use Rattle.std.proofs.Common.{◌≡◌, ℕ, false, List, [], ◌∷◌, ◌++◌, refl, sym, ◌∙◌, ap, append_assoc, append-nil}
use Rattle.std.specs.Prelude.{flat_map, fold}
use Rattle.acct_text.specs.Bytes.{is_empty}
use Rattle.account_model.specs.Text.{comma, nonempty}
use Rattle.account_model.specs.Records.{print_names}
use Rattle.acct_lines.specs.Listed.{listed_behind}

-- names with a comma in front of each
behind : List (List ℕ) → List ℕ
behind names = flat_map (λ name. comma ∷ name) names

-- and one more
behind-more :
    (names : List (List ℕ)) (name : List ℕ)
    → behind (names ++ name ∷ []) ≡ behind names ++ comma ∷ name
unfolding behind
behind-more [] name = ap (λ text. comma ∷ text) (append-nil name)
behind-more (first ∷ names) name =
    ap (λ text. comma ∷ first ++ text) (behind-more names name)
    ∙ sym (append_assoc (comma ∷ first) (behind names) (comma ∷ name))

-- a list prints as its first name and the others behind it
printed :
    (first : List ℕ) (names : List (List ℕ))
    → print_names (first ∷ names) ≡ first ++ behind names
unfolding behind
printed first [] = sym (append-nil first)
printed first (name ∷ names) = ap (λ rest. first ++ comma ∷ rest) (printed name names)

-- further names behind a text that isn't empty
further :
    (byte : ℕ) (list : List ℕ) (pieces : List (List ℕ))
    → fold listed_behind (byte ∷ list) pieces ≡ byte ∷ (list ++ behind (nonempty pieces))
unfolding behind
further byte list [] = ap (λ text. byte ∷ text) (sym (append-nil list))
further byte list ([] ∷ pieces) = further byte list pieces
further byte list ((first ∷ name) ∷ pieces) =
    further byte (list ++ comma ∷ first ∷ name) pieces
    ∙ ap (λ text. byte ∷ text)
    (append_assoc list (comma ∷ first ∷ name) (behind (nonempty pieces)))

pub listed-all :
    (pieces : List (List ℕ)) → fold listed_behind [] pieces ≡ print_names (nonempty pieces)
listed-all [] = refl
listed-all ([] ∷ pieces) = listed-all pieces
listed-all ((first ∷ name) ∷ pieces) =
    further first name pieces ∙ sym (printed (first ∷ name) (nonempty pieces))

-- one more name
pub listed-more :
    (pieces : List (List ℕ)) (name : List ℕ)
    → is_empty name ≡ false
    → listed_behind (print_names (nonempty pieces)) name
    ≡ print_names (nonempty pieces ++ name ∷ [])
listed-more pieces [] some = absurd cc
listed-more [] (first ∷ name) some = refl
listed-more ([] ∷ pieces) (first ∷ name) some = listed-more pieces (first ∷ name) some
listed-more ((byte ∷ piece) ∷ pieces) (first ∷ name) some =
    ap (λ text. listed_behind text (first ∷ name)) (printed (byte ∷ piece) (nonempty pieces))
    ∙ ap (λ text. byte ∷ text)
    (append_assoc piece (behind (nonempty pieces)) (comma ∷ first ∷ name))
    ∙ ap (λ text. byte ∷ piece ++ text) (sym (behind-more (nonempty pieces) (first ∷ name)))
    ∙ sym (printed (byte ∷ piece) (nonempty pieces ++ (first ∷ name) ∷ []))
