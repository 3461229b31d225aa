-- Sheets and route lists: entries by rising id, and what they say of a box.
--     SheetEntry, Sheet         the annotated cut: a fragment number and a note for each box
--     ListEntry, RouteList      the proposal: a route for each box
--     number, note, listed      what stands for a box. The theorems ask nothing more of a sheet or a list.
--     noted                     a sheet's boxes and notes
use Rattle.std.proofs.Math.Option
use Rattle.std.proofs.Math.Option.{Option, get_or}
use Rattle.std.specs.Prelude.{List, map, ℕ}
use Rattle.lists.specs.Sorted.{find}

pub record SheetEntry (R : Type 0) : Type 0 where
  pub id : ℕ
  pub fragment : ℕ
  pub note : R

pub record ListEntry (R : Type 0) : Type 0 where
  pub id : ℕ
  pub route : R

abbrev pub Sheet : Type 0 → Type 0
Sheet R = List (SheetEntry R)

abbrev pub RouteList : Type 0 → Type 0
RouteList R = List (ListEntry R)

module _ {R : Type 0} where
  abbrev pub sheet_entry : Sheet R → ℕ → Option (SheetEntry R)
  sheet_entry S i = find (λ (e : SheetEntry R). e.id) i S

  abbrev pub list_entry : RouteList R → ℕ → Option (ListEntry R)
  list_entry L i = find (λ (e : ListEntry R). e.id) i L

  -- The number of the fragment that a box is in. A box without an entry has 64, which is no fragment's number: fragments end at 63.
  unfoldable pub number : Sheet R → ℕ → ℕ
  number S i = get_or (Option.map (λ (e : SheetEntry R). e.fragment) (sheet_entry S i)) 64

  -- The note of a box, if it has an entry.
  unfoldable pub note : Sheet R → ℕ → Option R
  note S i = Option.map (λ (e : SheetEntry R). e.note) (sheet_entry S i)

  -- The route that is listed for a box, if it has an entry: a box without an entry is not a box that holds no route.
  unfoldable pub listed : RouteList R → ℕ → Option R
  listed L i = Option.map (λ (e : ListEntry R). e.route) (list_entry L i)

  -- A sheet's boxes and notes, with the numbers left out.
  abbrev pub noted : Sheet R → RouteList R
  noted S = map (λ (e : SheetEntry R). record { id = e.id; route = e.note }) S
