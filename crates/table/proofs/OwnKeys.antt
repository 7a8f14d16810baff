-- Claim: where a record has the key of its own name alone, the first field of its line tells that
-- (`notes-first`). Way: a record is named by the first field.
use Rattle.std.proofs.Common.{◌≡◌, ◌∙◌, ℕ, List, [], ◌∷◌, refl, sym, ap, subst}
use Rattle.std.specs.Prelude.{Option, None, Some}
use Rattle.account_model.specs.Format.{Format}
use Rattle.account_model.specs.Naming.{NamesFirst, first_field}
use Rattle.acct_tables.specs.KeyPlaces.{NotesOf}
use Rattle.table.specs.Keys.{keys_in, own_key}
use Rattle.acct_tables.specs.declared.key_places.Spot.{Spot}

module _ {R : Type 0} (format : Format R) (keys_of : R → List ℕ) (names_first : NamesFirst format)
    (alone : (r : R) → keys_of r ≡ own_key (format.name r) ∷ []) (line : List ℕ)
    (spot : Spot) (before after : ℕ → Option (List ℕ)) where
  -- by the record that the line is
  notes-by :
      (found : Option R)
      → format.read line ≡ found
      → NotesOf (own_key (first_field line) ∷ []) spot before after
      → NotesOf (keys_in keys_of found) spot before after
  notes-by None is notes = record {
    kept = notes.kept;
    noted = λ key place has in_spot. absurd cc;
  }
  notes-by (Some r) is notes =
      subst (λ keys. NotesOf keys spot before after)
      (ap (λ name. own_key name ∷ []) (names_first line r is) ∙ sym (alone r)) notes

  -- what notes the first field notes the record
  pub notes-first :
      NotesOf (own_key (first_field line) ∷ []) spot before after
      → NotesOf (keys_in keys_of (format.read line)) spot before after
  notes-first notes = notes-by (format.read line) refl notes
