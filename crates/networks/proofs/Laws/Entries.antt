-- What a sheet or a list says of a box, by its entry.
--     note_entry, note_none           the note with an entry and without
--     note_noted, same_notes          sheets with the same boxes and notes have the same note for every box
--     third                           three such sheets, as `Third` has them
use mathlib.Core.Path.{◌≡◌, refl, sym, ap, ◌∙◌}
use mathlib.Core.Bool.{true}
use mathlib.Core.Logic.{◌↔◌}
use mathlib.Core.Option.{Option, none, some, map}
use Prim.Native.Nat.{ℕ}
use Rattle.lists.proofs.Sorted.{find_map}
use Rattle.networks.specs.Sheets.{SheetEntry, ListEntry, Sheet, RouteList, sheet_entry, number, note, listed, noted}
use Rattle.lists.specs.Answer.{is_some}
use Rattle.networks.specs.Cut.{Third}

module _ {R : Type 0} where
  pub note_entry : (S : Sheet R) (i : ℕ) (e : SheetEntry R) → sheet_entry S i ≡ some e → note S i ≡ some e.note
  unfolding note
  note_entry S i e q = rw q refl

  pub note_none : (S : Sheet R) (i : ℕ) → sheet_entry S i ≡ none → note S i ≡ none
  unfolding note
  note_none S i q = rw q refl

  pub note_noted : (S : Sheet R) (i : ℕ) → listed (noted S) i ≡ note S i
  unfolding listed note
  note_noted S i = rw (find_map (λ (e : SheetEntry R). e.id) (λ (e : ListEntry R). e.id)
      (λ (e : SheetEntry R). record { id = e.id; route = e.note }) (λ e. refl) i S) (go (sheet_entry S i))
    where
      go : (o : Option (SheetEntry R)) → map (λ (e : ListEntry R). e.route)
          (map {B = ListEntry R} (λ (e : SheetEntry R). record { id = e.id; route = e.note }) o) ≡ map
          (λ (e : SheetEntry R). e.note) o
      go none = refl
      go (some e) = refl

  pub same_notes : (S T : Sheet R) → noted S ≡ noted T → (i : ℕ) → note S i ≡ note T i
  same_notes S T e i = sym (note_noted S i) ∙ ap (λ (L : RouteList R). listed L i) e ∙ note_noted T i

  pub third : (X Y Z : Sheet R) → noted X ≡ noted Z → noted Y ≡ noted Z
      → ((u v : ℕ) → is_some (note Z u) ≡ true → is_some (note Z v) ≡ true
      → (number Z u ≡ number Z v) ↔ ((number X u ≡ number X v) × (number Y u ≡ number Y v)))
      → Third X Y Z
  third X Y Z e f together = record { first_notes = same_notes X Z e; second_notes = same_notes Y Z f; together = together }
