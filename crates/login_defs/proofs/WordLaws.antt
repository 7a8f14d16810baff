-- Claim: the first word of a text that begins with one ends at its first blank (`words-first`), and
-- blanks before it are no words (`words-blank`). Way: a text is split at its first blank, and the
-- empty pieces between blanks are dropped.
use Rattle.std.proofs.Common.{◌≡◌, ℕ, ◌+◌, ◌<◌, ◌≤◌, Bool, true, false, ◌||◌, List, [], ◌∷◌, length, length-take-le, take, drop, get_or, refl, sym, ◌∙◌, ap, subst, arith, lt_irrefl, inl, inr}
use Rattle.std.specs.Prelude.{◌==◌, not, unwrap_or, position, nat_lt}
use Rattle.std.specs.List.{position_or_len, slice_split}
use Rattle.std.proofs.lemmas.Bool.{cases_Bool, ltb-true, ltb-false}
use Rattle.std.proofs.lemmas.List.{drop_more, drop_all, take_all}
use Rattle.std.proofs.lemmas.List.Sums.{prefix_len-le-length, fails_before_first, passes_at_first}
use Rattle.std.proofs.lemmas.List.Splits.{slice_split-cons_yes, slice_split_first, slice_split_none}
use Rattle.acct_text.specs.Bytes.{blank}
use Rattle.account_model.specs.Text.{tab, nonempty, begins_with}
use Rattle.account_model.specs.Settings.{words_of}

-- whether a byte parts words
abbrev pub is_space : ℕ → Bool
is_space byte = byte == blank || byte == tab

-- a blank before the words is no word
pub words-blank :
    (first : ℕ) (rest : List ℕ)
    → is_space first ≡ true
    → words_of (first ∷ rest) ≡ words_of rest
words-blank first rest space = ap nonempty (slice_split-cons_yes is_space first rest space)

-- the first blank stands in the text, or at its end
pub end-within :
    (test : ℕ → Bool) (text : List ℕ)
    → position_or_len test text ≤ length text
end-within test text = prefix_len-le-length (λ byte. not (test byte)) text

-- the first blank, or the end where there is none
pub first-or-end :
    (test : ℕ → Bool) (text : List ℕ)
    → unwrap_or (position test text) (length text) ≡ position_or_len test text
first-or-end test text = elim (cases_Bool (nat_lt (position_or_len test text) (length text))) [
  | inl inside ↦ rw inside refl
  | inr past ↦
      let ends : length text ≤ position_or_len test text = ltb-false _ _ past in
      let same : length text ≡ position_or_len test text = omega (arith, end-within test text) in
      rw past same
]

-- a piece before others is kept where it isn't empty
kept-first :
    (piece : List ℕ) (pieces : List (List ℕ))
    → 0 < length piece
    → nonempty (piece ∷ pieces) ≡ piece ∷ nonempty pieces
kept-first [] pieces some = absurd (lt_irrefl 0 some)
kept-first (byte ∷ piece) pieces some = refl

-- a text that begins with a word has its first blank behind it
word-some :
    (text : List ℕ)
    → 0 < length text
    → (begins_with blank text || begins_with tab text) ≡ false
    → 0 < position_or_len is_space text
word-some [] some stops = absurd (lt_irrefl 0 some)
word-some (byte ∷ text) some stops = rw stops (omega arith)

-- the words of a text that begins with one: it ends at the first blank
pub words-first :
    (text : List ℕ)
    → 0 < length text
    → (begins_with blank text || begins_with tab text) ≡ false
    → words_of text
    ≡ take (position_or_len is_space text) text
    ∷ words_of (drop (position_or_len is_space text) text)
words-first text some stops =
    let end = position_or_len is_space text in
    let begun : 0 < end = word-some text some stops in
    let within : end ≤ length text = end-within is_space text in
    let word : 0 < length (take end text) =
    subst (λ n. 0 < n) (sym (length-take-le end text within)) begun in
    elim (cases_Bool (nat_lt end (length text))) [
      | inl inside ↦
          let low : end < length text = ltb-true _ _ inside in
          ap nonempty (slice_split_first is_space text 0 low)
          ∙ kept-first (take end text) (slice_split is_space (drop (end + 1) text)) word
          ∙ ap (λ words. take end text ∷ words)
          (sym (words-blank (get_or text end 0) (drop (end + 1) text)
          (passes_at_first is_space text 0 low)))
          ∙ ap (λ rest. take end text ∷ words_of rest) (sym (drop_more text end 0 low))
      | inr past ↦
          let ends : length text ≤ end = ltb-false _ _ past in
          ap nonempty (slice_split_none is_space text
          (λ k d low. fails_before_first is_space text k d (omega arith)))
          ∙ kept-first text [] some
          ∙ ap (λ word. word ∷ []) (sym (take_all end text ends))
          ∙ ap (λ words. take end text ∷ words) (sym (ap words_of (drop_all end text ends)))
    ]

-- the next word of a text, cut where it ends
pub next-word :
    (text word rest : List ℕ) (end : ℕ)
    → 0 < length text
    → (begins_with blank text || begins_with tab text) ≡ false
    → end ≡ position_or_len is_space text
    → word ≡ take end text
    → rest ≡ drop end text
    → words_of text ≡ word ∷ words_of rest
next-word text word rest end some stops is_end is_word is_rest =
    rw (is_word, is_rest, is_end) (words-first text some stops)
