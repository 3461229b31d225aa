-- What is refused of a sheet and of a route list: numbers 11 to 16, the first that applies (document 01, 'The numbers given back').
-- The two differ in what stands before an entry's route: lead is 2 bytes in a list and 3 in a sheet.
use Rattle.std.specs.Prelude.{ℕ, ◌+◌, ◌≤◌, ◌<◌, ◌≡◌, Bool, true, cond, not, ◌&&◌, List, [], ◌∷◌, eqb, leb, ltb, length, get_or, drop}
use Rattle.lists.specs.Answer.{Answer, given, refused}
use Rattle.lists.specs.First.{first_bad}
use Rattle.lists.specs.Rising.{least, place}
use Rattle.lists.specs.Stride.{at}
use Rattle.lists.specs.Test.{first_applying}
use Rattle.numbers.specs.BigEndian.{u16_at, u32_at}
use Rattle.routes.specs.Form.{route_formed}
use Rattle.layout.specs.Form.{form_of, versioned, list_lead, sheet_lead}
use Rattle.layout.specs.Layout.{entry_count, entry_offset}
use Rattle.layout.specs.declared.Form.{Form}

-- the id of the i-th of parts of a size behind a base
unfoldable pub id_at : List ℕ → ℕ → ℕ → ℕ → ℕ
id_at b base size i = u16_at b (at base size i)

module _ (f : Form) (lead : ℕ) (b : List ℕ) where
  unfoldable pub entry_id : ℕ → ℕ
  entry_id i = u16_at b (entry_offset f lead i)

  -- in a sheet the fragment number is at most 63
  unfoldable pub fragment_formed : ℕ → Bool
  fragment_formed o = cond (eqb lead sheet_lead) (leb (get_or b (o + 2) 0) 63) true

  unfoldable pub entry_formed : ℕ → Bool
  entry_formed o = fragment_formed o && route_formed f.route b (o + lead)

  -- the i-th entry is well formed, and its id is above the one before
  unfoldable pub entry_ok : ℕ → Bool
  entry_ok i = leb (least entry_id i) (entry_id i) && entry_formed (entry_offset f lead i)

  -- the row of the entry for an id, or the number of entries where there is none
  unfoldable pub entry_of : ℕ → ℕ
  entry_of id = place entry_id id (entry_count b)

  abbrev pub bad_entry : ℕ
  bad_entry = first_bad entry_ok (entry_count b)

  -- the table, in the document's order; 11 stands twice
  abbrev pub entries_table : {A : Type 0} → List (Bool × Answer A)
  entries_table =
      (ltb (length b) 7, refused 11 (length b)) ∷
      (not (versioned f b), refused 12 4) ∷
      (ltb f.most (entry_count b), refused 13 5) ∷
      (not (eqb (u32_at b 0 + 4) (entry_offset f lead (entry_count b))), refused 14 0) ∷
      (ltb (length b) (entry_offset f lead (entry_count b)), refused 11 (length b)) ∷
      (ltb (entry_offset f lead (entry_count b)) (length b), refused 15 (entry_offset f lead (entry_count b))) ∷
      (ltb bad_entry (entry_count b), refused 16 (entry_offset f lead bad_entry)) ∷
      []

  -- the first that applies of the rows from the k-th on, or the record's form
  unfoldable pub entries_from : ℕ → Answer Form
  entries_from k = first_applying (drop k entries_table) (given f)

-- the first that applies, or the record's form
unfoldable pub entries_refusal : ℕ → List ℕ → Answer Form
entries_refusal lead b = first_applying (entries_table (form_of b) lead b) (given (form_of b))

abbrev pub list_refusal : List ℕ → Answer Form
list_refusal = entries_refusal list_lead

abbrev pub sheet_refusal : List ℕ → Answer Form
sheet_refusal = entries_refusal sheet_lead

-- A sheet or a list is well formed where none of 11 to 16 applies.
abbrev pub WellFormed : ℕ → List ℕ → Type 0
WellFormed lead b = entries_refusal lead b ≡ given (form_of b)

-- the same, fact by fact
pub record EntriesFine (f : Form) (lead : ℕ) (b : List ℕ) : Type 0 where
  pub long : 7 ≤ length b
  pub version : versioned f b ≡ true
  pub few : entry_count b ≤ f.most
  pub said : u32_at b 0 + 4 ≡ entry_offset f lead (entry_count b)
  pub whole : entry_offset f lead (entry_count b) ≡ length b
  pub entries : (i : ℕ) → i < entry_count b → entry_ok f lead b i ≡ true
