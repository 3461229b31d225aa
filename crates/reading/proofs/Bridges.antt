-- The bridges between bytes and what they say.
--     read_network_lem, read_sheet_lem, read_list_lem        bytes that are not refused say a sound network, or well-formed entries, and are its bytes
--     write_network_lem, write_sheet_lem, write_list_lem     what can be held, written, is not refused and reads back as itself
--     network_bytes                              two different networks have different bytes
--     network_small                              a record is bytes
use mathlib.Core.Path.{◌≡◌, sym, ap, ◌∙◌}
use mathlib.Core.List.{List}
use Prim.Native.Nat.{ℕ}
use native.Mathlib.Omega.{arith}
use Rattle.lists.specs.All.{All}
use Rattle.lists.proofs.All.{all_of}
use Rattle.lists.specs.Bytes.{Bytes}
use Rattle.networks.specs.Sound.{Sound}
use Rattle.layout.specs.Form.{Usable, list_lead, sheet_lead, form_of, Known}
use Rattle.records.proofs.Fine.{network_fine, fine_network}
use Rattle.entries.proofs.Fine.{entries_fine, fine_entries}
use Rattle.reading.specs.Whole.{HouseNetwork, HouseSheet, HouseList, bounds, read_network, write_network, read_sheet, write_sheet, read_list, write_list, SheetFormed, ListFormed}
use Rattle.reading.proofs.EntryBytes as entries
use Rattle.reading.proofs.EntryKinds.{sheet_kind, list_kind}
use Rattle.reading.proofs.NetworkBytes.{NetworkFits, read_written, written_read}
use Rattle.reading.proofs.ReadSound.{read_sound}
use Rattle.reading.proofs.RowCodecs.{SheetEntryFits, ListEntryFits}
use Rattle.reading.proofs.WrittenFine.{small_written, written_fine}
use Rattle.records.specs.Network.{SoundRecord, NetworkFine}
use Rattle.entries.specs.Entries.{WellFormed, EntriesFine}
use Rattle.layout.specs.declared.Form.{Form}
use Rattle.layout.proofs.OneForm.{form_usable, known_usable, form_is}

-- Where none of 1 to 10 applies, the bytes say a sound network, and writing it gives the same bytes.
pub read_network_lem : (b : List ℕ) → Bytes b → SoundRecord b
    → Sound (bounds (form_of b)) (read_network (form_of b) b) × (write_network (form_of b) (read_network (form_of b) b) ≡ b)
read_network_lem b small h =
    let ok = network_fine b h in
    (read_sound (form_of b) b small ok, written_read (form_of b) (form_usable b).wide b small ok)

-- The same of sheets and of route lists.
pub read_sheet_lem : (b : List ℕ) → Bytes b → WellFormed sheet_lead b
    → SheetFormed (form_of b) (read_sheet (form_of b) b) × (write_sheet (form_of b) (read_sheet (form_of b) b) ≡ b)
unfolding read_sheet write_sheet sheet_kind
read_sheet_lem b small h =
    let ok = entries_fine sheet_lead b h in
    let u = form_usable b in
    let formed = entries.read_formed u (omega arith) (sheet_kind (form_of b) u) b small ok in
    (record { few = formed.few; rises = formed.rises; fragments = formed.within }, entries.written_read u (omega arith) (sheet_kind (form_of b) u) b small ok)

pub read_list_lem : (b : List ℕ) → Bytes b → WellFormed list_lead b
    → ListFormed (form_of b) (read_list (form_of b) b) × (write_list (form_of b) (read_list (form_of b) b) ≡ b)
unfolding read_list write_list list_kind
read_list_lem b small h =
    let ok = entries_fine list_lead b h in
    let u = form_usable b in
    let formed = entries.read_formed u (omega arith) (list_kind (form_of b) u) b small ok in
    (record { few = formed.few; rises = formed.rises }, entries.written_read u (omega arith) (list_kind (form_of b) u) b small ok)

module _ (f : Form) (k : Known f) where
  u : Usable f
  u = known_usable f k

  -- Two networks with the same bytes are the same.
  pub network_bytes : (N M : HouseNetwork) → NetworkFits N → NetworkFits M → write_network f N ≡ write_network f M → N ≡ M
  network_bytes N M n m e = sym (read_written f u.wide N n) ∙ ap (read_network f) e ∙ read_written f u.wide M m

  -- What is written is bytes.
  pub network_small : (N : HouseNetwork) → Sound (bounds f) N → NetworkFits N → Bytes (write_network f N)
  network_small = small_written f u

  -- A sound network whose numbers fit, written, has none of 1 to 10, has the form, and reads back as itself.
  module _ (N : HouseNetwork) (sound : Sound (bounds f) N) (fits : NetworkFits N) where
    written : NetworkFine f (write_network f N)
    written = written_fine f u N sound fits

    pub network_form : form_of (write_network f N) ≡ f
    network_form = form_is f (write_network f N) k written.version

    pub write_network_lem : SoundRecord (write_network f N) × (read_network f (write_network f N) ≡ N)
    write_network_lem = (fine_network (write_network f N) (rw network_form written), read_written f u.wide N fits)

  -- The same of sheets and of route lists.
  module _ (S : HouseSheet) (formed : SheetFormed f S) (fits : All SheetEntryFits S) where
    sheet_written : EntriesFine f sheet_lead (write_sheet f S)
    unfolding write_sheet sheet_kind
    sheet_written = entries.written_fine u (omega arith) (sheet_kind f u) S fits (record { few = formed.few; rises = formed.rises; within = formed.fragments })

    pub sheet_form : form_of (write_sheet f S) ≡ f
    sheet_form = form_is f (write_sheet f S) k sheet_written.version

    pub write_sheet_lem : WellFormed sheet_lead (write_sheet f S) × (read_sheet f (write_sheet f S) ≡ S)
    unfolding read_sheet write_sheet sheet_kind
    write_sheet_lem = (fine_entries sheet_lead (write_sheet f S) (rw sheet_form sheet_written), entries.read_written u (omega arith) (sheet_kind f u) S fits)

  module _ (L : HouseList) (formed : ListFormed f L) (fits : All ListEntryFits L) where
    list_written : EntriesFine f list_lead (write_list f L)
    unfolding write_list list_kind
    list_written = entries.written_fine u (omega arith) (list_kind f u) L fits (record { few = formed.few; rises = formed.rises; within = all_of L (λ e. tt) })

    pub list_form : form_of (write_list f L) ≡ f
    list_form = form_is f (write_list f L) k list_written.version

    pub write_list_lem : WellFormed list_lead (write_list f L) × (read_list f (write_list f L) ≡ L)
    unfolding read_list write_list list_kind
    write_list_lem = (fine_entries list_lead (write_list f L) (rw list_form list_written), entries.read_written u (omega arith) (list_kind f u) L fits)
